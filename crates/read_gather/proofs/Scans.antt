-- What lets the tables of a level be taken in upward: sources whose keys lie apart may be taken in either order. What is taken in over
-- entries that are there is the first of all of them, and two rising lists in which every key finds the same are one.
use Prim.Native.Nat.{ℕ, ◌≤◌}
use mathlib.Core.Path.{◌≡◌, sym, ◌∙◌, ap}
use mathlib.Core.List.{List, [], ◌∷◌, ◌++◌, append_assoc}
use mathlib.Core.Logic.{inl, inr}
use native.Mathlib.Omega.{arith}
use borrow.Author.Tests.{ltb-true, ltb-false}
use lib.Dec.{ltb}
use lib.ListN.{length, take}
use lib.Seq.{take_all}
use Rattle.table.specs.Entry.{Entry}
use Rattle.table.specs.Search.{find}
use Rattle.table.specs.Valid.{Keys}
use Rattle.ldc.specs.Lists.{flat}
use Rattle.ldc.specs.Read.{gather}
use Rattle.ldc.proofs.Stores.Spans.{flat_append, or_else-swap}
use Rattle.ldc.proofs.Basics.Cases.{cases}
use Rattle.ldc.proofs.Entries.Finds.{or_else, find-append, find-newer, find-gather}
use Rattle.ldc.proofs.Entries.Keys.{AllKeys, keys-ext, keys-gather, keys-order, keys-lower, keys-higher, find-below, find-above, all-keys-append}
use Rattle.ldc.proofs.Stores.Order.{or_else-none}
use Rattle.read_gather.specs.Gathered.{intake}
use Rattle.read_gather.specs.Sources.{gather_on}
use Rattle.read_gather.proofs.Intake.{intake-newer}

pub widen : (low low' high high' : ℕ) (xss : List (List Entry)) → low' ≤ low → high ≤ high' → AllKeys low high xss → AllKeys low' high' xss
widen low low' high high' [] a b h = omega arith
widen low low' high high' (xs ∷ xss) a b h =
    (keys-lower low low' high' xs a (keys-higher low high high' xs b h.0), widen low low' high high' xss a b h.1)

pub order : (low high : ℕ) (xss : List (List Entry)) → AllKeys low high xss → low ≤ high
order low high [] h = h
order low high (xs ∷ xss) h = order low high xss h.1

-- Sources whose keys lie apart may be taken in either order.
pub gather-apart : (low mid high : ℕ) (xss yss zss : List (List Entry)) → AllKeys low mid xss → AllKeys mid high yss → AllKeys low high zss
    → gather (xss ++ (yss ++ zss)) ≡ gather (yss ++ (xss ++ zss))
gather-apart low mid high xss yss zss hx hy hz =
    let a = order low mid xss hx in
    let b = order mid high yss hy in
    let wx = widen low low mid high xss (omega arith) b hx in
    let wy = widen mid low high high yss a (omega arith) hy in
    let split : (k : ℕ) (us vs : List (List Entry))
    → find k (gather (us ++ (vs ++ zss))) ≡ or_else (find k (gather us)) (or_else (find k (gather vs)) (find k (gather zss))) = λ k us vs.
    find-gather k (us ++ (vs ++ zss)) ∙ ap (find k) (flat_append us (vs ++ zss)) ∙ find-append k (flat us) (flat (vs ++ zss))
    ∙ ap (or_else (find k (flat us))) (ap (find k) (flat_append vs zss) ∙ find-append k (flat vs) (flat zss))
    ∙ rw (sym (find-gather k us), sym (find-gather k vs), sym (find-gather k zss)) in
    keys-ext low high (gather (xss ++ (yss ++ zss))) (gather (yss ++ (xss ++ zss)))
    (keys-gather low high (xss ++ (yss ++ zss)) (all-keys-append low high xss (yss ++ zss) wx (all-keys-append low high yss zss wy hz)))
    (keys-gather low high (yss ++ (xss ++ zss)) (all-keys-append low high yss (xss ++ zss) wy (all-keys-append low high xss zss wx hz)))
    (λ k. split k xss yss
    ∙ cases (ltb k mid)
    (λ q. or_else-swap (find k (gather xss)) (find k (gather yss)) (find k (gather zss))
    (inr (find-below k mid high (gather yss) (keys-gather mid high yss hy) (ltb-true k mid q))))
    (λ q. or_else-swap (find k (gather xss)) (find k (gather yss)) (find k (gather zss))
    (inl (find-above k low mid (gather xss) (keys-gather low mid xss hx) (ltb-false k mid q))))
    ∙ sym (split k yss xss))

-- ---- over entries that are there

-- One list of one.
gather-one : (low high : ℕ) (es : List Entry) → Keys low high es → gather (es ∷ []) ≡ es
unfolding find
gather-one low high es h =
    keys-ext low high (gather (es ∷ [])) es (keys-gather low high (es ∷ []) (h, keys-order low high es h)) h
    (λ k. find-newer k es [] ∙ or_else-none (find k es))

pub on-gather : (n low high : ℕ) (xss : List (List Entry)) (es : List Entry) → AllKeys low high xss → Keys low high es
    → gather_on n xss (take n es) ≡ take n (gather (xss ++ (es ∷ [])))
on-gather n low high [] es hx he = ap (take n) (sym (gather-one low high es he))
on-gather n low high (xs ∷ xss) es hx he =
    ap (intake n xs) (on-gather n low high xss es hx.1 he)
    ∙ intake-newer n low high xs (gather (xss ++ (es ∷ []))) hx.0
    (keys-gather low high (xss ++ (es ∷ [])) (all-keys-append low high xss (es ∷ []) hx.1 (he, keys-order low high es he)))

pub on-apart : (n low mid high : ℕ) (xss yss : List (List Entry)) (es : List Entry) → AllKeys low mid xss → AllKeys mid high yss → Keys low high es
    → length es ≤ n
    → gather_on n (xss ++ yss) es ≡ gather_on n (yss ++ xss) es
on-apart n low mid high xss yss es hx hy he few =
    let a = order low mid xss hx in
    let b = order mid high yss hy in
    let wx = widen low low mid high xss (omega arith) b hx in
    let wy = widen mid low high high yss a (omega arith) hy in
    let whole : take n es ≡ es = take_all n es few in
    let one : (us vs : List (List Entry)) → AllKeys low high us → AllKeys low high vs
    → gather_on n (us ++ vs) es ≡ take n (gather (us ++ (vs ++ (es ∷ [])))) = λ us vs hu hv.
    ap (gather_on n (us ++ vs)) (sym whole) ∙ on-gather n low high (us ++ vs) es (all-keys-append low high us vs hu hv) he
    ∙ ap (λ (zss : List (List Entry)). take n (gather zss)) (append_assoc us vs (es ∷ [])) in
    one xss yss wx wy ∙ ap (take n) (gather-apart low mid high xss yss (es ∷ []) hx hy (he, keys-order low high es he)) ∙ sym (one yss xss wy wx)
