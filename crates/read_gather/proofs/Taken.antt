-- One turn of taking a table in: what all entries of the range give is what those that are left give to what is gathered now.
use Prim.Native.Nat.{ℕ, ◌+◌, ◌-◌, ◌≤◌, ◌<◌}
use mathlib.Core.Path.{◌≡◌, refl, sym, ◌∙◌, ap}
use mathlib.Core.Bool.{true}
use mathlib.Core.List.{List, [], map}
use native.Mathlib.Omega.{arith}
use lib.ListN.{length, take}
use Rattle.table.specs.Limits.{place_size, entry_head}
use Rattle.table.specs.Entry.{Entry, length_at, key_at, entry_at}
use Rattle.table.specs.Table.{count_of, entries, entries_at, is_memory}
use Rattle.table.specs.Search.{count_below, position_in}
use Rattle.table.proofs.Position.{Stands}
use Rattle.table.proofs.Found.{entry_at-key}
use Rattle.ldc.specs.Store.{within}
use Rattle.ldc.specs.Memtable.{put}
use Rattle.read_gather.specs.Beside.{Rises, Inserted}
use Rattle.read_gather.specs.Gathered.{intake, key_of, Gathers, IsPlace, TakenIn}
use Rattle.read_gather.proofs.Means.{gathers-put, inserted-rises}
use Rattle.read_gather.proofs.Seats.{seat, seat-shown}
use Rattle.read_gather.proofs.Ranges.{first-rises, first-same, turn-rises, turn_one, turn-over, turn_end}

-- What is gathered now, with which the entries that are left give what all of them are to give.
pub record Now (bytes keys spots : List ℕ) (n size : ℕ) (left all : List Entry) : Type 0 where
  pub es : List Entry
  pub gathers : Gathers bytes keys spots n es
  pub same : all ≡ intake size left es

-- From `keys₀`, `spots₀` and n, with these entries left.
pub record Left (s : List ℕ) (base low high : ℕ) (keys₀ spots₀ : List ℕ) (n : ℕ) (keys spots : List ℕ) (used : ℕ) (left : List Entry) : Type 0 where
  pub long : length keys ≡ length keys₀
  pub wide : length spots ≡ length spots₀
  pub inside : used ≤ length keys
  pub up : Rises 0 (take used keys)
  pub rises : Rises low (map key_of left)
  pub gives : (bytes : List ℕ) (es : List Entry) → IsPlace bytes base s → Gathers bytes keys₀ spots₀ n es
      → Now bytes keys spots used (length keys₀) (within low high left) (intake (length keys₀) (within low high (entries s)) es)

module _ (s : List ℕ) (base low high : ℕ) (keys₀ spots₀ : List ℕ) (n : ℕ) where
  pub begins : (count i at : ℕ) → is_memory s ≡ true → n ≤ length keys₀ → Rises 0 (take n keys₀)
      → count ≡ count_of s → i ≡ count_below low (entries s) → at ≡ position_in i s
      → Left s base low high keys₀ spots₀ n keys₀ spots₀ n (entries_at (count - i) s at)
  begins count i at m l u c hi ha = record {
    long = refl;
    wide = refl;
    inside = l;
    up = u;
    rises = first-rises s m low high count i at c hi ha;
    gives = λ bytes es p g. record {
      es = es;
      gathers = g;
      same = ap (λ (left : List Entry). intake (length keys₀) left es) (first-same s m low high count i at c hi ha);
    };
  }

  module _ (keys spots : List ℕ) (used count i at : ℕ) (l : Left s base low high keys₀ spots₀ n keys spots used (entries_at (count - i) s at)) where
    done : within low high (entries_at (count - i) s at) ≡ [] → TakenIn s base low high keys₀ spots₀ n keys spots used
    done e = record {
      inside = rw (sym l.long) l.inside;
      rises = l.up;
      gathers = λ bytes es p g.
          let w = l.gives bytes es p g in
          let t : intake (length keys₀) (within low high (entries s)) es ≡ w.es =
          w.same ∙ ap (λ (left : List Entry). intake (length keys₀) left w.es) e in
          rw t w.gathers;
    }

    pub ends : count ≤ i → TakenIn s base low high keys₀ spots₀ n keys spots used
    ends h = done (turn_end s low high count i at l.rises h)

    pub stops : (key : ℕ) → i < count → key ≡ key_at s at → high < key → TakenIn s base low high keys₀ spots₀ n keys spots used
    stops key h k b = done (turn-over s low high count i at l.rises h (rw k at b))

    pub turns : (key : ℕ) (keys' spots' : List ℕ) (used' len : ℕ) → length s ≡ place_size → Stands s at → i < count → key ≡ key_at s at → key ≤ high
        → Inserted keys spots used key (base + at) keys' spots' used' → length keys' ≡ length keys → length spots' ≡ length spots
        → len ≡ length_at s at
        → Left s base low high keys₀ spots₀ n keys' spots' used' (entries_at (count - (i + 1)) s (at + len))
    turns key keys' spots' used' len z st h k b ins kl sl e =
        let one = turn_one s low high count i at l.rises h (rw k at b) in
        let head : at + entry_head ≤ place_size = omega (arith, st.low, st.room) in
        rw e (record {
          long = kl ∙ l.long;
          wide = sl ∙ l.wide;
          inside = rw kl ins.inside;
          up = inserted-rises keys spots used key (base + at) keys' spots' used' ins l.up;
          rises = turn-rises s low high count i at l.rises h;
          gives = λ bytes es p g.
              let w = l.gives bytes es p g in
              let x : entry_at bytes (base + at) ≡ entry_at s at = seat-shown bytes s base at p.0 head st.room in
              let q : (entry_at bytes (base + at)).key ≡ key = ap key_of x ∙ entry_at-key s at ∙ sym k in
              let more =
              gathers-put bytes keys spots used key (base + at) keys' spots' used' w.es w.gathers ins kl (seat bytes s base at p.0 head st z p.1) q in
              let L : ℕ = length keys₀ in
              record {
                es = take L (put (entry_at s at) w.es);
                gathers = rw (sym x, sym l.long) more;
                same = w.same ∙ ap (λ (left : List Entry). intake L left w.es) one;
              };
        })
