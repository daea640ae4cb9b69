-- A list served up to a position, over one store: the stretch that comes next, and the laws of `Reached`. Requests served in two stretches are those
-- served in one (`each-store`, `each-bytes`); the rest of the list behind those served is a list with the others (`split-others`).
use Prim.Native.Nat.{ℕ, ◌+◌, ◌-◌, ◌*◌, ◌≤◌, ◌<◌}
use mathlib.Core.Path.{◌≡◌, refl, sym, ◌∙◌, ap}
use mathlib.Core.Bool.{true}
use mathlib.Core.List.Memᴰ
use mathlib.Core.List.{List, [], ◌++◌}
use mathlib.Core.Option.{Option, some, none, map, get_or}
use native.Mathlib.Omega.{arith}
use lib.ListN.{length, take, drop, length-drop, take-append-drop}
use lib.Seq.{take-add, length-take-le}
use Rattle.coding.specs.Number.{Bytes}
use Rattle.ldc.specs.Lists.{is_some}
use Rattle.ldc.specs.Store.{Store}
use Rattle.ldc.specs.Lent.{Lent, lent_of}
use Rattle.ldc.specs.Request.{Request}
use Rattle.ldc.specs.Run.{list_limit, split, room_limit, ServedAll}
use Rattle.ldc.proofs.Basics.Cases.{maybe}
use Rattle.ldc.proofs.Stores.Sound.{Sound, Whole}
use Rattle.ldc.proofs.Serving.Splits.{Sent, split-bytes}
use Rattle.ldc.proofs.Serving.Keeps.{keeps}
use Rattle.ldc.proofs.Serving.Events.{events-fit}
use Rattle.serve_list.specs.Ran.{requests_of}
use Rattle.survey_deliver.specs.Whole.{new_one, serve_each, served_first, answers_of, position_of, Reached, next_of}
use Rattle.survey_deliver.specs.declared.piece.Progress.{Progress}
use Rattle.survey_deliver.proofs.Each.{all-each, all-few, all-some, each-store, each-bytes, AllSent, each_keeps, each-short}
use Rattle.survey_deliver.proofs.Behind.{split-few, split-some, split-others}
use Rattle.survey_deliver.proofs.Fresh.{sound-one, whole-one}

-- ---- the requests of a list of bytes

all-sent : (list : List ℕ) → Bytes list → AllSent (requests_of list)
all-sent list b = maybe (split list) (λ n. rw n (λ r m. absurd (Memᴰ.not-nil m))) (λ rs y. rw y (split-bytes list rs b y))

sent-take : (n : ℕ) (rs : List Request) → AllSent rs → AllSent (take n rs)
sent-take n rs g = λ r m. g r (rw (take-append-drop n rs) at (Memᴰ.append_left (drop n rs) m))

sent-drop : (n : ℕ) (rs : List Request) → AllSent rs → AllSent (drop n rs)
sent-drop n rs g = λ r m. g r (rw (take-append-drop n rs) at (Memᴰ.append_right (take n rs) m))

pub kept : (list : List ℕ) (served : ℕ) → Bytes list → Sound (served_first list served).store × Whole (served_first list served).store
unfolding served_first
kept list served b = each_keeps new_one (take served (requests_of list)) sound-one whole-one (sent-take served (requests_of list) (all-sent list b))

-- ---- one stretch

module _ (list : List ℕ) (served room : ℕ) where
  abbrev rs : List Request
  rs = requests_of list

  abbrev s : Store
  s = (served_first list served).store

  abbrev done : ServedAll
  done = next_of list served room

  pub done-few : done.served ≤ length rs - served
  unfolding next_of
  done-few = omega (arith, all-few room s (drop served rs), length-drop served rs)

  pub done-some : room_limit ≤ room → served < length rs → 0 < done.served
  unfolding next_of
  done-some h l = all-some room s (drop served rs) h (omega (arith, length-drop served rs))

  pub done-fits : Bytes list → length done.bytes ≤ room
  unfolding next_of
  done-fits b = events-fit Sent keeps room s (drop served rs) (kept list served b).0 (sent-drop served rs (all-sent list b))

  -- What is served are the next requests, as many as it says.
  done-each : done ≡ serve_each s (take done.served (drop served rs))
  unfolding next_of
  done-each = all-each room s (drop served rs)

  pub next-store : (served_first list (served + done.served)).store ≡ done.store
  unfolding served_first
  next-store =
      ap (λ (xs : List Request). (serve_each new_one xs).store) (take-add served done.served rs)
      ∙ each-store new_one (take served rs) (take done.served (drop served rs))
      ∙ ap (λ (x : ServedAll). x.store) (sym done-each)

  pub next-bytes : (served_first list (served + done.served)).bytes ≡ (served_first list served).bytes ++ done.bytes
  unfolding served_first
  next-bytes =
      ap (λ (xs : List Request). (serve_each new_one xs).bytes) (take-add served done.served rs)
      ∙ each-bytes new_one (take served rs) (take done.served (drop served rs))
      ∙ ap (λ (x : ServedAll). (serve_each new_one (take served rs)).bytes ++ x.bytes) (sym done-each)

  -- The answers of the requests behind this stretch.
  abbrev pub later : List ℕ
  later = (serve_each (serve_each s (take done.served (drop served rs))).store (drop done.served (drop served rs))).bytes

  pub all-bytes : answers_of list ≡ (served_first list served).bytes ++ (done.bytes ++ later)
  unfolding answers_of served_first
  all-bytes =
      ap (λ (xs : List Request). (serve_each new_one xs).bytes) (sym (take-append-drop served rs))
      ∙ each-bytes new_one (take served rs) (drop served rs)
      ∙ ap (λ (x : List ℕ). (serve_each new_one (take served rs)).bytes ++ x)
      (ap (λ (xs : List Request). (serve_each s xs).bytes) (sym (take-append-drop done.served (drop served rs)))
      ∙ each-bytes s (take done.served (drop served rs)) (drop done.served (drop served rs))
      ∙ ap (λ (x : ServedAll). x.bytes ++ later) (sym done-each))

-- ---- how far a list is served

pub reached-start : (list : List ℕ) (m : Lent) → m ≡ lent_of new_one → Reached list m (record { served = 0; at = 0; written = 0 })
unfolding served_first position_of
reached-start list m e = record { counted = omega arith; passed = refl; handed = refl; left = e }

map-all : (o : Option (List Request)) → o ≡ map (λ rs. drop 0 rs) o
map-all none = refl
map-all (some rs) = refl

module _ {list : List ℕ} {m : Lent} {p : Progress} (a : Reached list m p) where
  -- A broken list is not served at all.
  unserved : split list ≡ none → (p.served ≡ 0) × (p.at ≡ 0)
  unfolding position_of
  unserved q =
      let n : length (requests_of list) ≡ 0 = ap (λ (x : Option (List Request)). length (get_or x [])) q in
      let z : p.served ≡ 0 = omega (arith, a.counted) in
      (z, a.passed ∙ ap (position_of list) z)

  -- The rest of the list is one, with the other requests, where the list is.
  pub reached-others : (p.at ≤ length list) × (split (drop p.at list) ≡ map (λ rs. drop p.served rs) (split list))
  reached-others =
      maybe (split list)
      (λ q. let z = unserved q in (omega (arith, z.1), rw (z.0, z.1) (map-all (split list))))
      (λ xs q.
      let o = split-others list p.served a.counted (ap is_some q) in
      let all : requests_of list ≡ xs = ap (λ (x : Option (List Request)). get_or x []) q in (
        omega (arith, o.0, a.passed),
        ap (λ (k : ℕ). split (drop k list)) a.passed ∙ o.1 ∙ ap (λ (ys : List Request). some (drop p.served ys)) all
            ∙ ap (map (λ (ys : List Request). drop p.served ys)) (sym q),
      ))

  pub reached-count : p.served ≤ list_limit
  reached-count = omega (arith, a.counted, split-few list)

  pub reached-bytes : Bytes list → p.written ≤ room_limit * list_limit
  unfolding served_first
  reached-bytes b =
      let l = length-take-le p.served (requests_of list) a.counted in
      omega (arith, a.handed, l, reached-count, each-short new_one (take p.served (requests_of list)) sound-one (sent-take p.served (requests_of list) (all-sent list b)))

  -- Bytes are left only where requests are.
  pub reached-more : is_some (split list) ≡ true → p.at < length list → p.served < length (requests_of list)
  reached-more q h =
      let o = split-others list p.served a.counted q in
      let some_left = split-some (drop (position_of list p.served) list) (drop p.served (requests_of list))
      (omega (arith, a.passed, length-drop (position_of list p.served) list)) o.1 in
      omega (arith, some_left, length-drop p.served (requests_of list))
