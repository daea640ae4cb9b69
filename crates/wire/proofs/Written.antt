-- What the code of `reply` writes, store by store, is the bytes that the definitions give: runs one behind the other are one run.
use Prim.Native.Nat.{ℕ, suc, ◌+◌, ◌*◌, ◌<◌}
use mathlib.Core.Path.{◌≡◌, sym, ◌∙◌, ap}
use mathlib.Core.List.{List, ◌++◌}
use native.Mathlib.Omega.{arith}
use native.Mathlib.Numerals.{add-one}
use lib.ListN.{length, get_or, drop, length-append}
use lib.Seq.{sets, drop-cons}
use Rattle.coding.specs.Number.{bytes_of}
use Rattle.coding.proofs.NumberLaws.{length-bytes_of}
use Rattle.coding.proofs.Sets.{sets-append}
use Rattle.ldc.specs.Request.{reply_bytes}
use Rattle.wire.specs.Reply.{reply_head, numbers}

-- Length, kind and result.
pub head-written : (a : List ℕ) (at kind result n : ℕ)
    → sets (sets (sets a at (bytes_of 2 (6 + n))) (at + 2) (bytes_of 2 kind)) (at + 4) (bytes_of 2 result) ≡ sets a at (reply_head kind result n)
unfolding reply_head
head-written a at kind result n =
    let x = bytes_of 2 (6 + n) in
    let y = bytes_of 2 kind in
    let two : at + length x ≡ at + 2 = ap (λ k. at + k) (length-bytes_of 2 (6 + n)) in
    let four : at + length (x ++ y) ≡ at + 4 = omega (arith, length-append x y, length-bytes_of 2 (6 + n), length-bytes_of 2 kind) in
    sym (sets-append a at (x ++ y) (bytes_of 2 result) ∙ rw (four, sets-append a at x y, two))

pub length-head : (kind result n : ℕ) → length (reply_head kind result n) ≡ 6
unfolding reply_head
length-head kind result n = simp (length-append, length-bytes_of)

-- A body behind them makes the reply.
pub reply-written : (a : List ℕ) (at kind result : ℕ) (body : List ℕ)
    → sets (sets a at (reply_head kind result (length body))) (at + 6) body ≡ sets a at (reply_bytes kind result body)
unfolding reply_bytes reply_head
reply-written a at kind result body =
    let six = length-head kind result (length body) in
    sym (sets-append a at (reply_head kind result (length body)) body ∙ rw six)

-- What is left to write is this number and those behind it.
pub numbers-turn : (a : List ℕ) (at : ℕ) (ns : List ℕ) (i : ℕ) → i < length ns
    → sets a (at + 2 * i) (numbers (drop i ns))
    ≡ sets (sets a (at + 2 * i) (bytes_of 2 (get_or ns i 0))) (at + 2 * (i + 1)) (numbers (drop (i + 1) ns))
unfolding numbers
numbers-turn a at ns i h =
    let e : at + 2 * i + length (bytes_of 2 (get_or ns i 0)) ≡ at + 2 * (i + 1) = omega (arith, length-bytes_of 2 (get_or ns i 0)) in
    rw (drop-cons ns i 0 h) (sets-append a (at + 2 * i) (bytes_of 2 (get_or ns i 0)) (numbers (drop (suc i) ns)) ∙ rw (e, add-one i))
