-- What a hit says: found in a table, and the first of two.
use Prim.Native.Nat.{ℕ}
use mathlib.Core.Path.{◌≡◌, sym, ◌∙◌, ap}
use mathlib.Core.Bool.{not}
use mathlib.Core.List.{List}
use mathlib.Core.Option.{Option, some, none}
use native.Mathlib.Omega.{arith}
use lib.Dec.{eqb}
use Rattle.table.specs.Entry.{Entry, entry_of, entry_at, kind_at}
use Rattle.table.specs.Table.{entries, place_of}
use Rattle.table.specs.Search.{find, find_in, shown}
use Rattle.std.specs.Prelude as code
use Rattle.table.proofs.Found.{shown-find, find-stands}
use Rattle.table.proofs.Taken.{seated-of}
use Rattle.ldc.specs.Lists.{is_some}
use Rattle.ldc.proofs.Basics.Cases.{cases}
use Rattle.ldc.proofs.Entries.Finds.{or_else}
use Rattle.read.specs.Shown.{Tabled}
use Rattle.read.specs.Found.{Hit, hit_entry, Hits}
use Rattle.read.proofs.Shows.{place-memory}

-- ---- in a table

pub hit-found : (area : List ℕ) (p k at : ℕ) → Tabled area p → find_in (place_of area p) k ≡ code.Some at
    → Hits area (find k (entries (place_of area p))) (some (record { place = p; at = at }))
unfolding shown
hit-found area p k at t h =
    let s = place_of area p in
    record {
      shown = sym (ap (shown s) h) ∙ shown-find s k;
      seated = (t.within, seated-of s at (find-stands s (place-memory area p t) k at h).0);
    }

pub hit-none : (area : List ℕ) (o : Option Entry) → o ≡ none → Hits area o none
hit-none area o e = record { shown = sym e; seated = tt }

pub missed : (area : List ℕ) (p k : ℕ) → find_in (place_of area p) k ≡ code.None → find k (entries (place_of area p)) ≡ none
unfolding shown
missed area p k h = let s = place_of area p in sym (shown-find s k) ∙ ap (shown s) h

-- What a hit says of what was sought.
pub hit-nothing : (area : List ℕ) (o : Option Entry) (h : Option Hit) → Hits area o h → h ≡ none → o ≡ none
hit-nothing area o h t e = sym t.shown ∙ ap (hit_entry area) e

pub hit-some : (area : List ℕ) (o : Option Entry) (h : Option Hit) (p at : ℕ) → Hits area o h → h ≡ some (record { place = p; at = at }) → o ≡ none → ⊥
hit-some area o h p at t e n =
    let clash : ◌≡◌ {A = Option Entry} none (some _) = sym n ∙ sym t.shown ∙ ap (hit_entry area) e in
    let z : ◌≡◌ {A = ℕ} 0 1 = cc in omega arith

-- ---- by its kind

-- An entry that is no delete mark holds a value.
pub value-test : (s : List ℕ) (at : ℕ) → not (eqb (kind_at s at) 2) ≡ is_some (entry_at s at).value
unfolding entry_at entry_of
value-test s at = cases (eqb (kind_at s at) 2) (λ q. rw q) (λ q. rw q)

-- ---- the first of two

-- What was met decides; what was missed leaves it to the rest.
pub met : (area : List ℕ) (a b : Option Entry) (h : Option Hit) (p at : ℕ) → h ≡ some (record { place = p; at = at }) → Hits area a h → Hits area (or_else a b) h
met area a b h p at e t =
    let there : a ≡ some _ = sym t.shown ∙ ap (hit_entry area) e in
    record { shown = t.shown ∙ rw there; seated = t.seated }

pub passed : (area : List ℕ) (a b : Option Entry) (h : Option Hit) → h ≡ none → Hits area a h → or_else a b ≡ b
passed area a b h e t = let none : a ≡ none = sym t.shown ∙ ap (hit_entry area) e in rw none
