-- What walks through tables find and open: none, one table by its card's summary, and one walk after another. A loop keeps what is left to
-- ask (`Left`).
use Prim.Native.Nat.{ℕ, ◌+◌, ◌*◌, ◌≤◌, ◌<◌, ◌^◌}
use mathlib.Core.Path.{◌≡◌, refl, sym, ◌∙◌, ap}
use mathlib.Core.List.{List, [], ◌∷◌, ◌++◌, append-nil}
use mathlib.Core.Bool.{true, false, ◌&&◌}
use mathlib.Core.Option.{Option, some, none}
use native.Mathlib.Omega.{arith}
use lib.ListN.{length, get_or, length-append}
use Rattle.table.specs.Entry.{Entry}
use Rattle.table.specs.Table.{entries, place_of}
use Rattle.table.specs.Search.{find}
use Rattle.summary.specs.Bits.{has_bit}
use Rattle.summary.specs.Summary.{keys_of, may_hold, bits_set, bytes_in}
use Rattle.summary.specs.declared.bits.KeyBits.{KeyBits}
use Rattle.summary.proofs.Places.{exclusive-below, sum_below, weighed-below}
use Rattle.summary.proofs.Form.{summary-back}
use Rattle.ldc.specs.Lists.{is_some}
use Rattle.ldc.specs.Store.{Store, table}
use Rattle.ldc.specs.Layout.{most_places, summary_in, table_summary}
use Rattle.ldc.specs.Probe.{summary_at, has_bits, opened_of, bits_in}
use Rattle.ldc.proofs.Basics.Cases.{cases}
use Rattle.ldc.proofs.Stores.Asked.{tables, find-tables}
use Rattle.ldc.proofs.Stores.Opened.{unopened, opened-skip, opened-cons, opened-found, opened-missed, few-opened_of, few_bits, bits-append}
use Rattle.book.specs.Rows.{shown_by}
use Rattle.read.specs.Shown.{Legible, Summed}
use Rattle.read.specs.Found.{hit_entry, Hits}
use Rattle.read.proofs.Hits.{hit-none, hit-nothing, met}
use Rattle.read.proofs.Shows.{table-shown}
use Rattle.read_get.specs.Opens.{BitsOf, the_hit, Opens, joined}
use Rattle.read_get.specs.declared.opened.Opened.{Opened}

-- ---- the summary on a card

pub bits_below : (k : ℕ) (bits : KeyBits) → BitsOf k bits → (bits.exclusive < 256) × ((bits.sum < 256) × (bits.weighed < 256))
bits_below k bits o = (rw o.exclusive (exclusive-below k), (rw o.sum (sum_below k), rw o.weighed (weighed-below k)))

module _ (area : List ℕ) (cards : List (List ℕ)) (g : Legible area cards) (p : ℕ) (t : Summed area cards p) where
  pub summary-shown : bytes_in (summary_in (get_or cards p [])) ≡ summary_at (shown_by area cards) p
  unfolding summary_at table_summary
  summary-shown =
      ap bytes_in t.summary ∙ summary-back (keys_of (entries (place_of area p))) ∙ rw (table-shown area cards g p)

  pub bits-shown : (k : ℕ) (bits : KeyBits) → BitsOf k bits
      → let s = bytes_in (summary_in (get_or cards p [])) in
      (has_bit s bits.exclusive && (has_bit s bits.sum && has_bit s bits.weighed)) ≡ has_bits (shown_by area cards) k p
  unfolding has_bits may_hold
  bits-shown k bits o = rw (summary-shown, o.exclusive, o.sum, o.weighed)

-- Nothing found, nothing opened.
pub record Idle (r : Opened) : Type 0 where
  pub missed : r.found ≡ false
  pub tables : r.tables ≡ 0
  pub bits : r.bits ≡ 0

module _ (area : List ℕ) (cards : List (List ℕ)) (k : ℕ) where
  abbrev S : Store
  S = shown_by area cards

  nothing-there : (o : Option Entry) (r : Opened) → r.found ≡ false → o ≡ none → Hits area o (the_hit r)
  nothing-there o r e n = rw e (hit-none area o n)

  -- ---- none, and one table

  opened-none : opened_of S k [] ≡ []
  unfolding opened_of
  opened-none = refl

  pub opens-none : (r : Opened) → Idle r → Opens area cards k [] r
  unfolding find
  opens-none r i = record {
    found = nothing-there _ r i.missed refl;
    tables = rw opened-none i.tables;
    bits = rw opened-none i.bits;
  }

  pub opens-clear : (p : ℕ) (r : Opened) → has_bits S k p ≡ false → Idle r → Opens area cards k (p ∷ []) r
  opens-clear p r h i =
      let e : opened_of S k (p ∷ []) ≡ [] = opened-skip S k p [] h ∙ opened-none in
      record {
        found = nothing-there _ r i.missed (ap (find k) (append-nil (table S p)) ∙ unopened S k p h);
        tables = rw e i.tables;
        bits = rw e i.bits;
      }

  pub opens-set : (p : ℕ) (r : Opened) → has_bits S k p ≡ true → Hits area (find k (table S p)) (the_hit r) → r.tables ≡ 1 → r.bits ≡ bits_set (summary_at S p)
      → Opens area cards k (p ∷ []) r
  opens-set p r h t n b =
      let e : opened_of S k (p ∷ []) ≡ p ∷ [] =
      opened-cons S k p [] h ∙ cases (is_some (find k (table S p))) (λ q. rw q) (λ q. rw (q, opened-none)) in
      record {
        found = rw (append-nil (table S p)) t;
        tables = rw e n;
        bits = rw e (omega (arith, b));
      }

  -- ---- one walk after another

  module _ (ps qs : List ℕ) (a : Opened) (o : Opens area cards k ps a) where
    -- What was met in the first decides.
    hits : a.found ≡ true → the_hit a ≡ some (record { place = a.place; at = a.at })
    hits h = rw h

    there : a.found ≡ true → is_some (find k (tables S ps)) ≡ true
    there h = ap is_some (sym o.found.shown ∙ ap (hit_entry area) (hits h))

    pub opens-met : a.found ≡ true → Opens area cards k (ps ++ qs) a
    opens-met h =
        let e = opened-found S k ps qs (there h) in
        record {
          found = rw (find-tables S k ps qs) (met area _ (find k (tables S qs)) (the_hit a) a.place a.at (hits h) o.found);
          tables = rw e o.tables;
          bits = rw e o.bits;
        }

    -- Where nothing was, both are opened.
    module _ (n : a.found ≡ false) where
      missed : find k (tables S ps) ≡ none
      missed = hit-nothing area _ (the_hit a) o.found (rw n)

      rest-found : find k (tables S (ps ++ qs)) ≡ find k (tables S qs)
      rest-found = find-tables S k ps qs ∙ rw missed

      rest-tables : length (opened_of S k (ps ++ qs)) ≡ a.tables + length (opened_of S k qs)
      rest-tables = ap length (opened-missed S k ps qs missed) ∙ length-append (opened_of S k ps) (opened_of S k qs) ∙ rw o.tables

      rest-bits : bits_in S (opened_of S k (ps ++ qs)) ≡ a.bits + bits_in S (opened_of S k qs)
      rest-bits = ap (bits_in S) (opened-missed S k ps qs missed) ∙ bits-append S (opened_of S k ps) (opened_of S k qs) ∙ rw o.bits

      pub opens-then : (b : Opened) → Opens area cards k qs b → Opens area cards k (ps ++ qs) (joined a b)
      opens-then b t = record {
        found = rw rest-found t.found;
        tables = omega (arith, rest-tables, t.tables);
        bits = omega (arith, rest-bits, t.bits);
      }

  -- ---- how many

  pub opens-few : (ps : List ℕ) (a : Opened) → Opens area cards k ps a → length ps ≤ most_places → (a.tables ≤ most_places) × (a.bits ≤ 256 * most_places)
  opens-few ps a o h =
      let few = few-opened_of S k ps in
      (omega (arith, o.tables), omega (arith, o.bits, few_bits S k (opened_of S k ps)))

  -- The counts of two walks fit a word.
  pub opens-fit : (ps qs : List ℕ) (a b : Opened) → Opens area cards k ps a → Opens area cards k qs b → length ps ≤ most_places → length qs ≤ most_places
      → (a.tables + b.tables < 2 ^ 64) × (a.bits + b.bits < 2 ^ 64)
  opens-fit ps qs a b o t f g =
      let x = opens-few ps a o f in
      let y = opens-few qs b t g in
      (omega (arith, x.0, y.0), omega (arith, x.1, y.1))

  -- ---- in a loop

  -- Of all that is to be asked the rest is left; nothing was found so far.
  pub record Left (all rest : List ℕ) (seen : Opened) : Type 0 where
    pub none : seen.found ≡ false
    pub found : find k (tables S all) ≡ find k (tables S rest)
    pub tables : length (opened_of S k all) ≡ seen.tables + length (opened_of S k rest)
    pub bits : bits_in S (opened_of S k all) ≡ seen.bits + bits_in S (opened_of S k rest)

  pub left-start : (all rest : List ℕ) (r : Opened) → rest ≡ all → Idle r → Left all rest r
  left-start all rest r e i =
      rw e record { none = i.missed; found = refl; tables = omega (arith, i.tables); bits = omega (arith, i.bits) }

  pub left_as : (all rest rest' : List ℕ) (seen : Opened) → rest ≡ rest' → Left all rest seen → Left all rest' seen
  left_as all rest rest' seen e l = rw (← e) l

  pub left_end : (all : List ℕ) (seen : Opened) → Left all [] seen → Opens area cards k all seen
  unfolding find
  left_end all seen l = record {
    found = nothing-there _ seen l.none l.found;
    tables = omega (arith, rw opened-none at l.tables);
    bits = omega (arith, rw opened-none at l.bits);
  }

  module _ (all ps qs : List ℕ) (seen r : Opened) (l : Left all (ps ++ qs) seen) (o : Opens area cards k ps r) where
    pub left-fit : length all ≤ most_places → length ps ≤ most_places → (seen.tables + r.tables < 2 ^ 64) × (seen.bits + r.bits < 2 ^ 64)
    left-fit f g =
        let few = few-opened_of S k all in
        let bits = few_bits S k (opened_of S k all) in
        let y = opens-few ps r o g in
        (omega (arith, l.tables, y.0), omega (arith, l.bits, y.1))

    -- After the next walk all is found, or the rest is left.
    module _ (new : Opened) (e : new ≡ joined seen r) where
      pub left-met : new.found ≡ true → Opens area cards k all new
      left-met h =
          let t = opens-met ps qs r o (sym (ap (λ (x : Opened). x.found) e) ∙ h) in
          rw e record {
            found = rw l.found t.found;
            tables = omega (arith, l.tables, t.tables);
            bits = omega (arith, l.bits, t.bits);
          }

      pub left-next : new.found ≡ false → Left all qs new
      left-next h =
          let n = sym (ap (λ (x : Opened). x.found) e) ∙ h in
          rw e record {
            none = n;
            found = l.found ∙ rest-found ps qs r o n;
            tables = omega (arith, l.tables, rest-tables ps qs r o n);
            bits = omega (arith, l.bits, rest-bits ps qs r o n);
          }
