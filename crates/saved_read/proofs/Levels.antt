-- The loops over lists and their items: what is left to write is this one and those behind it. A list is taken off the front of those that stand in
-- turn by `list-turn`.
use Prim.Native.Nat.{ℕ, zero, suc, ◌+◌, ◌*◌, ◌-◌, ◌≤◌, ◌<◌}
use mathlib.Core.Path.{◌≡◌, refl, sym, ◌∙◌, ap}
use mathlib.Core.Bool.{true}
use mathlib.Core.List.{List, [], ◌∷◌, ◌++◌, map, append-nil}
use mathlib.Core.Option.{some}
use native.Mathlib.Omega.{arith}
use native.Mathlib.Nat.{zero-mul, sub-zero, add-zero}
use native.Mathlib.Numerals.{add-one}
use lib.ListN.{length, set, take, drop, replicate, length-append, length-drop}
use Rattle.std.proofs.lemmas.List.{length-take-le}
use lib.Seq.{sets, drop_at, drop-length, take_all, take-append_seam}
use Rattle.coding.specs.Number.{number_at}
use Rattle.coding.proofs.Sets.{sets-append, sets-all, sets-back, length_part}
use Rattle.table.specs.Table.{zeros}
use Rattle.table.proofs.Zeros.{length-zeros, zeros-replicate}
use Rattle.ldc.specs.Lists.{flat}
use Rattle.ldc.specs.Layout.{level_count}
use Rattle.book.proofs.Parts.{part-fits}
use Rattle.saved_book.specs.Form.{places_saved, threshold_saved, cursor_saved, flag_saved1, key_saved1, flag_saved2, key_saved2, cards_start}
use Rattle.saved_book.specs.Form.{list_end, list_to, in_turn, saved_form, lists_start, memory_start}
use Rattle.saved_book.specs.Opened.{items_saved, lists_saved, levels_saved, opened_lists, opened_head}
use Rattle.saved_book.proofs.Forms.{ListAt, list-turn, FormIn, form-parts}

-- ---- the items of one list

pub items-turn : (part s : List ℕ) (at n i : ℕ) → i < n
    → sets part i (items_saved (n - i) s (at + 2 * i))
    ≡ sets (set part i (number_at 2 s (at + 2 * i))) (i + 1) (items_saved (n - (i + 1)) s (at + 2 * (i + 1)))
items-turn part s at n i h =
    let e : n - i ≡ suc (n - (i + 1)) = omega arith in
    let next : at + 2 * (i + 1) ≡ at + 2 * i + 2 = omega arith in
    rw (e, next, add-one i)

pub items-long : (n : ℕ) (s : List ℕ) (at : ℕ) → length (items_saved n s at) ≡ n
items-long zero s at = refl
items-long (suc n) s at = ap suc (items-long n s (at + 2))

-- All are left to write before the first.
pub items-start : (part s : List ℕ) (at : ℕ) → items_saved (length part) s at ≡ sets part 0 (items_saved (length part - 0) s (at + 2 * 0))
items-start part s at = rw (sub-zero, add-zero) (sym (sets-all part (items_saved (length part) s at) (items-long (length part) s at)))

-- The first n of a part come back as its items, and those behind them as zeros: these are all of it.
pub part-whole : (part items filled s : List ℕ) (at n : ℕ) → n ≡ number_at 2 s at → number_at 2 s at ≤ length part
    → items ≡ items_saved (length (take n part)) s (at + 2)
    → let now : List ℕ = items ++ drop n part in
    filled ≡ replicate (length (take (length now - n) (drop n now))) 0
    → take n now ++ (filled ++ drop (length now - n) (drop n now))
    ≡ items_saved (number_at 2 s at) s (at + 2) ++ zeros (length part - number_at 2 s at)
part-whole part items filled s at n en h e f =
    let behind : List ℕ = drop n part in
    let many : length (take n part) ≡ n = length-take-le n part (omega arith) in
    let long : length items ≡ n = ap length e ∙ items-long (length (take n part)) s (at + 2) ∙ many in
    let left : length behind ≡ length part - n = length-drop n part in
    let all : length (items ++ behind) - n ≡ length behind = omega (arith, length-append items behind) in
    let back : drop n (items ++ behind) ≡ behind = drop_at items behind n long in
    let front : take n (items ++ behind) ≡ items = ap (λ j. take j (items ++ behind)) (sym long) ∙ take-append_seam items behind in
    let same : items ≡ items_saved (number_at 2 s at) s (at + 2) = e ∙ rw (many, en) in
    let rest : filled ≡ zeros (length part - number_at 2 s at) =
    f ∙ rw (back, all, take_all (length behind) behind (omega arith), left, en) (sym (zeros-replicate (length part - number_at 2 s at))) in
    rw (front, back, all, drop-length behind, append-nil filled, rest, same)

-- ---- the four lists

-- Lists in their parts, so many from a position on.
unfoldable pub parts_saved : (places n : ℕ) → List ℕ → (at : ℕ) → List ℕ
parts_saved places n s at = flat (map (λ ps. ps ++ zeros (places - length ps)) (lists_saved n s at))

-- All four stand in bytes of the form, each where the one before it ends.
pub four_lists : (s : List ℕ) (at : ℕ) → saved_form s ≡ true → at ≡ lists_start s
    → ListAt s at × (ListAt s (list_end s at) × (ListAt s (list_end s (list_end s at)) × ListAt s (list_end s (list_end s (list_end s at)))))
four_lists s at h e =
    let m = memory_start s in
    let a = list-turn s 3 at m (rw e (form-parts s h).lists) in
    let b = list-turn s 2 (list_end s at) m a.1 in
    let c = list-turn s 1 (list_end s (list_end s at)) m b.1 in
    let d = list-turn s 0 (list_end s (list_end s (list_end s at))) m c.1 in
    (a.0, (b.0, (c.0, d.0)))

-- The list at the front of those left, and those behind it.
pub list-next : (s : List ℕ) (at n i end : ℕ) → i < n → in_turn (n - i) (list_to s) at ≡ some end
    → ListAt s at × (in_turn (n - (i + 1)) (list_to s) (list_end s at) ≡ some end)
list-next s at n i end h t =
    let e : n - i ≡ suc (n - (i + 1)) = omega arith in
    list-turn s (n - (i + 1)) at end (rw e at t)

-- The first of the parts left.
pub part-first : (places : ℕ) (s : List ℕ) (at n i : ℕ) → i < n
    → parts_saved places (n - i) s at
    ≡ (items_saved (number_at 2 s at) s (at + 2) ++ zeros (places - number_at 2 s at)) ++ parts_saved places (n - (i + 1)) s (list_end s at)
unfolding parts_saved
part-first places s at n i h =
    let e : n - i ≡ suc (n - (i + 1)) = omega arith in
    rw (e, items-long (number_at 2 s at) s (at + 2))

part-long : (places : ℕ) (s : List ℕ) (at n : ℕ) → n ≤ places → length (items_saved n s at ++ zeros (places - n)) ≡ places
part-long places s at n h = omega (arith, length-append (items_saved n s at) (zeros (places - n)), items-long n s at, length-zeros (places - n))

-- One turn: the list at the front is read into its part, which was lent and comes back.
module _ (lists : List ℕ) (places : ℕ) (s : List ℕ) (at n i : ℕ) (h : i < n) (fits : length lists ≡ n * places) where
  part_room : i * places + places ≤ length lists
  part_room = omega (arith, part-fits i n places h)

  pub part-lent : length (take (i * places + places - i * places) (drop (i * places) lists)) ≡ places
  part-lent =
      let e : i * places + places - i * places ≡ places = omega arith in
      rw e (length_part lists (i * places) places part_room)

  module _ (few : number_at 2 s at ≤ places) (last : List ℕ)
      (read : last
      ≡ items_saved (number_at 2 s at) s (at + 2)
      ++ zeros (length (take (i * places + places - i * places) (drop (i * places) lists)) - number_at 2 s at)) where
    unfoldable pub part : List ℕ
    part = items_saved (number_at 2 s at) s (at + 2) ++ zeros (places - number_at 2 s at)

    pub part-back : take (i * places) lists ++ (last ++ drop (i * places + places - i * places) (drop (i * places) lists))
        ≡ sets lists (i * places) part
    unfolding part
    part-back =
        let e : i * places + places - i * places ≡ places = omega arith in
        let same : last ≡ part = read ∙ rw part-lent in
        rw (e, same) (sets-back lists (i * places) places part part_room (part-long places s (at + 2) (number_at 2 s at) few))

    pub parts-turn : {whole : List ℕ} (next : ℕ) → next ≡ list_end s at
        → whole ≡ sets lists (i * places) (parts_saved places (n - i) s at)
        → whole
        ≡ sets (take (i * places) lists ++ (last ++ drop (i * places + places - i * places) (drop (i * places) lists))) ((i + 1) * places)
        (parts_saved places (n - (i + 1)) s next)
    unfolding part
    parts-turn next e inv =
        let to : i * places + length part ≡ (i + 1) * places = omega (arith, part-long places s (at + 2) (number_at 2 s at) few) in
        inv
        ∙ rw (part-back, e, part-first places s at n i h)
        (sets-append lists (i * places) part (parts_saved places (n - (i + 1)) s (list_end s at)) ∙ rw to)

pub parts-done : (lists : List ℕ) (places : ℕ) (s : List ℕ) (at n i : ℕ) → n ≤ i → sets lists (i * places) (parts_saved places (n - i) s at) ≡ lists
unfolding parts_saved
parts-done lists places s at n i h = let e : n - i ≡ 0 = omega arith in rw e

-- As many items as the parts have together.
parts-long : (places : ℕ) (s : List ℕ) → places_saved s ≤ places → (n at end : ℕ) → in_turn n (list_to s) at ≡ some end
    → length (parts_saved places n s at) ≡ n * places
unfolding parts_saved
parts-long places s h zero at end t = omega arith
parts-long places s h (suc n) at end t =
    let l = list-turn s n at end t in
    let part : List ℕ = items_saved (number_at 2 s at) s (at + 2) ++ zeros (places - number_at 2 s at) in
    let long : length part ≡ places = part-long places s (at + 2) (number_at 2 s at) (omega (arith, l.0.few)) in
    let rest = parts-long places s h n (list_end s at) end l.1 in
    rw (items-long (number_at 2 s at) s (at + 2)) (omega (arith, length-append part (parts_saved places n s (list_end s at))))

-- All four are left to write before the first.
pub parts-start : (lists : List ℕ) (places : ℕ) (s : List ℕ) → FormIn s → places_saved s ≤ places → length lists ≡ level_count * places
    → opened_lists places s ≡ sets lists (0 * places) (parts_saved places level_count s (lists_start s))
unfolding opened_lists levels_saved parts_saved
parts-start lists places s f h long =
    rw (zero-mul places)
    (sym (sets-all lists (parts_saved places level_count s (lists_start s))
    (parts-long places s h level_count (lists_start s) (memory_start s) f.lists ∙ sym long)))

-- ---- the lengths of the four lists, which the head holds

-- The head stands whole in bytes of the form.
pub head_long : (s : List ℕ) → saved_form s ≡ true → cards_start ≤ length s
head_long s h = (form-parts s h).head.long

-- The words as they are saved, the lists standing at a, b, c and d.
pub head-words : (s : List ℕ) (a b c d : ℕ) → a ≡ lists_start s → b ≡ list_end s a → c ≡ list_end s b → d ≡ list_end s c
    → threshold_saved s ∷ cursor_saved s ∷ flag_saved1 s ∷ key_saved1 s ∷ flag_saved2 s ∷ key_saved2 s
    ∷ number_at 2 s a ∷ number_at 2 s b ∷ number_at 2 s c ∷ number_at 2 s d ∷ []
    ≡ opened_head s
unfolding opened_head levels_saved
head-words s a b c d ea eb ec ed = rw (ed, ec, eb, ea) (simp items-long)
