-- What a writer holds, where that is known: it grows by the answers of the requests served.
use Prim.Native.Nat.{ℕ, ◌≤◌}
use mathlib.Core.Path.{◌≡◌, sym, ◌∙◌, ap, subst}
use mathlib.Core.Bool.{cond}
use mathlib.Core.List.{List, [], ◌++◌}
use mathlib.Core.Option as Opt
use lib.ListN.{length, take}
use lib.Seq.{take_all}
use Rattle.std.specs.Io.KnownBytes.{Appends}
use Rattle.std.proofs.KnownBytes.{Appends-nil, Appends-trans}
use Rattle.std.specs.declared.option.Option.{Option}
use Rattle.coding.specs.Number.{Bytes}
use Rattle.ldc.specs.Lists.{is_some}
use Rattle.ldc.specs.Lent.{Lent}
use Rattle.ldc.specs.Request.{Request}
use Rattle.ldc.specs.Run.{accepted, broken_list, split}
use Rattle.ldc.proofs.Basics.Cases.{maybe}
use Rattle.serve_list.specs.Ran.{requests_of}
use Rattle.survey_deliver.specs.Whole.{new_one, serve_each, served_first, answers_of, Reached, Next}
use Rattle.survey_deliver.specs.declared.piece.Progress.{Progress}
use Rattle.survey_deliver.proofs.Along.{next-bytes}
use Rattle.survey_deliver.proofs.Pieces.{piece_is}

-- Nothing was handed on yet.
pub grown-start : (list : List ℕ) (o : Option (List ℕ)) → Appends o o (served_first list 0).bytes
unfolding served_first
grown-start list o = Appends-nil o

-- The next piece was handed on.
pub grown-next : {list : List ℕ} {m : Lent} {from : Progress} {answer : List ℕ} {m' : Lent} {answer' : List ℕ} {number long : ℕ} {to : Progress}
    → Reached list m from → Next list from answer m' answer' number long to → Bytes list → (o p q : Option (List ℕ))
    → Appends o p (served_first list from.served).bytes → Appends p q (take long answer') → Appends o q (served_first list to.served).bytes
grown-next {list} {m} {from} {answer} {m'} {answer'} {number} {long} {to} a x b o p q before piece =
    let sum : (served_first list from.served).bytes ++ take long answer' ≡ (served_first list to.served).bytes =
    ap (λ (y : List ℕ). (served_first list from.served).bytes ++ y) (piece_is a x b)
    ∙ sym (next-bytes list from.served (length answer))
    ∙ ap (λ (k : ℕ). (served_first list k).bytes) (sym x.served) in
    subst (λ (y : List ℕ). Appends o q y) sum (Appends-trans o p q (served_first list from.served).bytes (take long answer') before piece)

-- All were handed on.
pub grown-all : (list : List ℕ) (n : ℕ) (o p : Option (List ℕ)) → length (requests_of list) ≤ n → Appends o p (served_first list n).bytes → Appends o p (answers_of list)
unfolding served_first answers_of
grown-all list n o p h g =
    subst (λ (y : List ℕ). Appends o p y) (ap (λ (rs : List Request). (serve_each new_one rs).bytes) (take_all n (requests_of list) h)) g

-- A refused list has no requests, so there is nothing to hand on.
pub refused-none : (list : List ℕ) (number : ℕ) → number ≡ cond (is_some (split list)) accepted broken_list → (number ≡ 0 → ⊥) → length (requests_of list) ≡ 0
refused-none list number n other =
    maybe (split list) (λ q. ap (λ (x : Opt.Option (List Request)). length (Opt.get_or x [])) q)
    (λ xs q. absurd (other (n ∙ ap (λ (o : Opt.Option (List Request)). cond (is_some o) accepted broken_list) q)))
