-- The values of a range of a sound store, round by round: those that are there, and the range behind them.
use Prim.Native.Nat.{ℕ, suc, ◌≤◌, ◌<◌, ◌^◌}
use mathlib.Core.Path.{◌≡◌, refl, sym, ◌∙◌, ap}
use mathlib.Core.List.{List, [], ◌++◌, append-nil}
use native.Mathlib.Omega.{arith}
use lib.ListN.{length, take, drop, length-append, length-take}
use lib.Seq.{take_all, take_at}
use Rattle.table.specs.Entry.{Entry}
use Rattle.table.specs.Valid.{Keys}
use Rattle.ldc.specs.Lists.{keep}
use Rattle.ldc.specs.Store.{Store, within}
use Rattle.ldc.specs.Read.{read_order, gather, holds_value, contents}
use Rattle.ldc.proofs.Entries.Keys.{keys-gather}
use Rattle.ldc.proofs.Stores.ReadOrder.{read_order-keys}
use Rattle.ldc.proofs.Stores.Sound.{Sound}
use Rattle.read_gather.specs.Beside.{InUse}
use Rattle.read_gather.specs.Gathered.{Gathers}
use Rattle.read_gather.specs.Sources.{ranges, TakenAll}
use Rattle.read_gather.specs.Order.{up_to}
use Rattle.read_gather.proofs.Means.{keys-rise}
use Rattle.read_gather.proofs.Narrow.{gathered-long}
use Rattle.read_gather.proofs.Within.{no-range, within-keep}
use Rattle.read_iterator.specs.Values.{values_from, Sifted}
use Rattle.read_iterator.proofs.Rounds.{Ends, on-behind, values-parts, values-keys, round-ends}

-- So many values are there, and those of the range from a key on are left.
pub record Page (s : Store) (from high : ℕ) (bytes keys spots : List ℕ) (kept low : ℕ) : Type 0 where
  pub had : List Entry
  pub gathers : Gathers bytes keys spots kept had
  pub below : Keys 0 low had
  pub split : within from high (contents s) ≡ had ++ within low high (contents s)

module _ (s : Store) (from high : ℕ) (bytes : List ℕ) where
  pub page-none : (keys spots : List ℕ) → Page s from high bytes keys spots 0 from
  page-none keys spots = record {
    had = [];
    gathers = record { keyed = refl; shown = refl; seated = tt; inside = omega arith };
    below = omega arith;
    split = refl;
  }

  module _ (keys spots : List ℕ) (kept low : ℕ) (p : Page s from high bytes keys spots kept low) where
    size : length p.had ≡ kept
    size = gathered-long bytes keys spots kept p.had p.gathers

    pub page-in-use : length spots ≡ length keys → InUse keys spots kept
    page-in-use same = (p.gathers.inside, (rw p.gathers.keyed (keys-rise 0 low p.had p.below), same))

    -- No room for more, or no more.
    pub page-full : length keys ≤ kept → Gathers bytes keys spots kept (take (length keys) (within from high (contents s)))
    page-full h =
        rw (ap (take (length keys)) p.split ∙ take_at p.had (within low high (contents s)) (length keys) (omega (arith, size, p.gathers.inside))) p.gathers

    pub page-all : high < low → Gathers bytes keys spots kept (take (length keys) (within from high (contents s)))
    page-all h =
        let none : within low high (contents s) ≡ [] = no-range low high (contents s) h in
        rw (ap (take (length keys)) (p.split ∙ ap (λ (es : List Entry). p.had ++ es) none ∙ append-nil p.had) ∙ take_all (length keys) p.had (omega (arith, size, p.gathers.inside)))
        p.gathers

    -- One round.
    module _ (S : Sound s) (order : low ≤ high) (room : kept < length keys) (keys₁ spots₁ : List ℕ) (used : ℕ) (long : length keys₁ ≡ length keys)
        (t : TakenAll bytes (ranges low high (read_order s)) keys spots kept keys₁ spots₁ used) where
      rising : Keys 0 (2 ^ 64) (gather (read_order s))
      rising = keys-gather 0 (2 ^ 64) (read_order s) (read_order-keys s S)

      pub page-taken : Gathers bytes keys₁ spots₁ used (take (length keys₁) (p.had ++ within low high (gather (read_order s))))
      page-taken =
          let one = on-behind (length keys) low high 0 (2 ^ 64) (read_order s) p.had (omega arith) (read_order-keys s S) p.below (omega (arith, size)) in
          let same = append-nil bytes in
          rw (long, ← one, ← same) (t.gathers [] p.had (rw same p.gathers))

      pub page-grows : kept ≤ used
      page-grows =
          let es : List Entry = p.had ++ within low high (gather (read_order s)) in
          omega (arith, size, gathered-long bytes keys₁ spots₁ used (take (length keys₁) es) page-taken, length-take (length keys₁) es, length-append p.had (within low high (gather (read_order s))))

      ends : Ends low high (gather (read_order s)) p.had (length keys₁) (up_to keys₁ used high)
      ends = round-ends (gather (read_order s)) (2 ^ 64) rising low high order p.had p.below bytes keys₁ spots₁ used (omega (arith, size)) page-taken

      -- It ends in the range, and the range goes on behind it.
      pub page-within : (low ≤ up_to keys₁ used high) × (up_to keys₁ used high ≤ high)
      page-within = (ends.from, ends.to)

      pub page-turn : (keys₂ spots₂ : List ℕ) (r at : ℕ) → Sifted bytes keys₁ spots₁ kept used keys₂ spots₂ r → at ≡ up_to keys₁ used high
          → Page s from high bytes keys₂ spots₂ r (suc at)
      unfolding contents
      page-turn keys₂ spots₂ r at f e =
          let L : ℕ = length keys₁ in
          let more : List Entry = within low high (gather (read_order s)) in
          let es : List Entry = take L (p.had ++ more) in
          let rest : keep holds_value (drop L (p.had ++ more)) ≡ within (suc at) high (contents s) =
          ap (keep holds_value) ends.behind ∙ sym (within-keep holds_value (suc (up_to keys₁ used high)) high (gather (read_order s))) ∙ rw e in
          record {
            had = values_from kept es;
            gathers = f.gathers es page-taken;
            below = rw e (values-keys kept 0 (suc (up_to keys₁ used high)) es ends.keys);
            split = p.split ∙ ap (λ (xs : List Entry). p.had ++ xs) (within-keep holds_value low high (gather (read_order s)))
                ∙ values-parts kept L p.had more size (omega arith) ∙ ap (λ (xs : List Entry). values_from kept es ++ xs) rest;
          }
