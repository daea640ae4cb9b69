-- The reply to a scan: what is written, entries first and the head last, is the reply that the definition gives.
use Prim.Native.Nat.{ℕ, suc, ◌+◌, ◌*◌, ◌-◌, ◌≤◌, ◌<◌, min}
use mathlib.Core.Path.{◌≡◌, sym, ◌∙◌, ap}
use mathlib.Core.Bool.{cond}
use mathlib.Core.List.{List, [], ◌∷◌, ◌++◌, append-nil, append_assoc}
use native.Mathlib.Omega.{arith}
use borrow.Author.Tests.{lt-ltb, le-ltb, ltb-true, ltb-false}
use lib.Dec.{ltb}
use lib.ListN.{length, take, length-append, length-take}
use lib.Seq.{sets, take_all, take-take}
use Rattle.coding.specs.Number.{bytes_of}
use Rattle.coding.proofs.NumberLaws.{length-bytes_of}
use Rattle.coding.proofs.Sets.{sets-append, sets-comm}
use Rattle.table.specs.Entry.{Entry}
use Rattle.table.specs.Table.{entries_bytes}
use Rattle.table.proofs.Decode.{entries-short}
use Rattle.table.specs.Limits.{entry_limit}
use Rattle.ldc.specs.Store.{Store, within}
use Rattle.ldc.specs.Request.{reply_bytes}
use Rattle.ldc.specs.Read.{contents, scan_limit, scan_body, serve_scan}
use Rattle.ldc.proofs.Basics.Cases.{cases}
use Rattle.ldc.proofs.Entries.Keys.{values-keep, values-take}
use Rattle.ldc.proofs.Stores.Sound.{Sound}
use Rattle.ldc.proofs.Serving.Replies.{length-reply, contents-values}
use Rattle.read_gather.specs.Gathered.{Gathers}
use Rattle.read_gather.proofs.Narrow.{gathered-long}
use Rattle.read_iterator.proofs.Sifting.{gathers-take}
use Rattle.wire.specs.Reply.{replied, reply_head, numbers, Written}
use Rattle.wire.proofs.Written.{reply-written, length-head}

-- ---- what was found

-- Room for one more than a scan gives: those that it gives, and whether there are more.
module _ (bytes keys spots : List ℕ) (found : ℕ) (W : List Entry) (g : Gathers bytes keys spots found (take (suc scan_limit) W)) where
  counted : found ≡ min (suc scan_limit) (length W)
  counted = sym (gathered-long bytes keys spots found (take (suc scan_limit) W) g) ∙ length-take (suc scan_limit) W

  pub more-told : ◌≡◌ {A = ℕ} (cond (ltb scan_limit found) 1 0) (cond (ltb scan_limit (length W)) 1 0)
  more-told =
      cases (ltb scan_limit (length W))
      (λ q. rw (q, lt-ltb scan_limit found (omega (arith, counted, ltb-true scan_limit (length W) q))))
      (λ q. rw (q, le-ltb scan_limit found (omega (arith, counted, ltb-false scan_limit (length W) q))))

  module _ (n : ℕ) (e : n ≡ min found scan_limit) where
    pub given-many : n ≡ length (take scan_limit W)
    given-many = omega (arith, counted, length-take scan_limit W)

    pub given-first : Gathers bytes keys spots n (take scan_limit W)
    given-first =
        let same : take n (take (suc scan_limit) W) ≡ take scan_limit W =
        take-take n (suc scan_limit) W (omega arith)
        ∙ cases (ltb scan_limit (length W))
        (λ q. ap (λ (m : ℕ). take m W) (let h : n ≡ scan_limit = omega (arith, counted, ltb-true scan_limit (length W) q) in h))
        (λ q. take_all n W (omega (arith, counted, ltb-false scan_limit (length W) q)) ∙ sym (take_all scan_limit W (ltb-false scan_limit (length W) q))) in
        rw (← same) (gathers-take bytes keys spots found (take (suc scan_limit) W) g n (omega arith))

-- ---- the reply

-- Entries, then count and more before them, then the head before these.
pub scan-written : (a : List ℕ) (at count more : ℕ) (es : List ℕ)
    → sets (sets (sets a (at + 10) es) (at + 6) (numbers (count ∷ more ∷ []))) at (reply_head 4 0 (4 + length es))
    ≡ sets a at (reply_bytes 4 0 (bytes_of 2 count ++ bytes_of 2 more ++ es))
unfolding numbers
scan-written a at count more es =
    let c = bytes_of 2 count in
    let m = bytes_of 2 more in
    let ns : List ℕ = c ++ (m ++ []) in
    let body : List ℕ = c ++ m ++ es in
    let four : length ns ≡ 4 = simp (length-append, length-bytes_of) in
    let six = length-head 4 0 (4 + length es) in
    let joined : ns ++ es ≡ body = simp (append_assoc, append-nil) in
    let long : length body ≡ 4 + length es = simp (length-append, length-bytes_of) (omega arith) in
    let ten : at + 6 + length ns ≡ at + 10 = omega arith in
    let one : sets (sets a (at + 10) es) (at + 6) ns ≡ sets a (at + 6) body =
    sym (sets-comm a (at + 6) ns (at + 10) es (omega arith))
    ∙ ap (λ (n : ℕ). sets (sets a (at + 6) ns) n es) (sym ten)
    ∙ sym (sets-append a (at + 6) ns es) ∙ ap (λ (b : List ℕ). sets a (at + 6) b) joined in
    rw one
    (sym (sets-comm a at (reply_head 4 0 (4 + length es)) (at + 6) body (omega arith))
    ∙ ap (λ (n : ℕ). sets (sets a at (reply_head 4 0 n)) (at + 6) body) (sym long) ∙ reply-written a at 4 0 body)

-- ---- what is served

pub taken-few : (W : List Entry) → length (take scan_limit W) ≤ 16
taken-few W = rw length-take (omega arith)

module _ (s : Store) (low high : ℕ) where
  -- As many entries as a scan gives, each as long as may be.
  pub entries_fit : Sound s → length (entries_bytes (take scan_limit (within low high (contents s)))) ≤ scan_limit * entry_limit
  unfolding within
  entries_fit S =
      omega (
        arith,
        taken-few (within low high (contents s)),
        entries-short (take scan_limit (within low high (contents s))) (values-take scan_limit (within low high (contents s)) (values-keep _ (contents s) (contents-values s S))),
      )

  -- Low above high.
  pub scan-refused : (a : List ℕ) (at : ℕ) (next : List ℕ) → high < low → next ≡ sets a at (reply_head 4 19 0)
      → Written a at (replied 4 (serve_scan s low high)) next 6
  unfolding serve_scan
  scan-refused a at next h w = rw (lt-ltb high low h) (record { bytes = w ∙ reply-written a at 4 19 []; count = sym (length-reply 4 19 []) })

  -- Entries, their count, whether more are left, and the head.
  pub scan-done : (a : List ℕ) (at : ℕ) (filled next : List ℕ) (count more end : ℕ) → low ≤ high
      → filled ≡ sets a (at + 10) (entries_bytes (take scan_limit (within low high (contents s))))
      → count ≡ length (take scan_limit (within low high (contents s)))
      → end ≡ at + 10 + length (entries_bytes (take scan_limit (within low high (contents s))))
      → more ≡ cond (ltb scan_limit (length (within low high (contents s)))) 1 0
      → next ≡ sets (sets filled (at + 6) (numbers (count ∷ more ∷ []))) at (reply_head 4 0 (end - (at + 6)))
      → Written a at (replied 4 (serve_scan s low high)) next (end - at)
  unfolding serve_scan scan_body
  scan-done a at filled next count more end h wf wc we wm w =
      let W = within low high (contents s) in
      let es = entries_bytes (take scan_limit W) in
      let n : end - (at + 6) ≡ 4 + length es = omega arith in
      let body : List ℕ = bytes_of 2 count ++ bytes_of 2 more ++ es in
      let long : length body ≡ 4 + length es = simp (length-append, length-bytes_of) (omega arith) in
      let written : next ≡ sets a at (reply_bytes 4 0 body) = w ∙ rw (n, wf) (scan-written a at count more es) in
      let total : end - at ≡ length (reply_bytes 4 0 body) = omega (arith, length-reply 4 0 body) in
      rw (le-ltb high low h, ← wc, ← wm) (record { bytes = written; count = total })
