-- Sources taken in not in their order: what all of them give is what those that are left give to what is gathered now. A source may go
-- before those behind it where its keys lie below theirs.
use Prim.Native.Nat.{ℕ, ◌≤◌, max}
use mathlib.Core.Path.{◌≡◌, refl, sym, ◌∙◌}
use mathlib.Core.List.{List, ◌++◌}
use native.Mathlib.Omega.{arith}
use lib.ListN.{length, take}
use Rattle.table.specs.Entry.{Entry}
use Rattle.ldc.proofs.Entries.Keys.{AllKeys, keys-higher}
use Rattle.read_gather.specs.Beside.{Rises, InUse}
use Rattle.read_gather.specs.Gathered.{Gathers}
use Rattle.read_gather.specs.Sources.{gather_on, TakenAll}
use Rattle.read_gather.proofs.Narrow.{above, gathered-long, gathered-keys}
use Rattle.read_gather.proofs.Scans.{widen, on-apart}
use Rattle.read_gather.proofs.Steps.{on-append}

-- What is gathered now, with which the sources that are left give what all of them are to give.
pub record Now (bytes keys spots : List ℕ) (n size : ℕ) (left : List (List Entry)) (all : List Entry) : Type 0 where
  pub es : List Entry
  pub gathers : Gathers bytes keys spots n es
  pub same : all ≡ gather_on size left es

-- From `keys₀`, `spots₀` and n, with these sources left.
pub record Going (area : List ℕ) (all : List (List Entry)) (keys₀ spots₀ : List ℕ) (n : ℕ) (keys spots : List ℕ) (used : ℕ)
    (left : List (List Entry)) : Type 0 where
  pub long : length keys ≡ length keys₀
  pub wide : length spots ≡ length spots₀
  pub inside : used ≤ length keys
  pub up : Rises 0 (take used keys)
  pub gives : (behind : List ℕ) (es : List Entry) → Gathers (area ++ behind) keys₀ spots₀ n es
      → Now (area ++ behind) keys spots used (length keys₀) left (gather_on (length keys₀) all es)

module _ (area : List ℕ) (all : List (List Entry)) (keys₀ spots₀ : List ℕ) (n : ℕ) where
  pub going : (left : List (List Entry)) → InUse keys₀ spots₀ n
      → ((es : List Entry) → gather_on (length keys₀) all es ≡ gather_on (length keys₀) left es)
      → Going area all keys₀ spots₀ n keys₀ spots₀ n left
  going left u same = record {
    long = refl;
    wide = refl;
    inside = u.0;
    up = u.1.0;
    gives = λ behind es g. record { es = es; gathers = g; same = same es };
  }

  module _ (keys spots : List ℕ) (used : ℕ) where
    pub goes_on : (xss rest : List (List Entry)) (mid high : ℕ) (keys' spots' : List ℕ) (used' : ℕ)
        → Going area all keys₀ spots₀ n keys spots used (xss ++ rest)
        → AllKeys 0 mid xss → AllKeys mid high rest → TakenAll area xss keys spots used keys' spots' used' → length keys' ≡ length keys
        → length spots' ≡ length spots
        → Going area all keys₀ spots₀ n keys' spots' used' rest
    goes_on xss rest mid high keys' spots' used' g hx hr t kl sl = record {
      long = kl ∙ g.long;
      wide = sl ∙ g.wide;
      inside = rw kl t.inside;
      up = t.rises;
      gives = λ behind es₀ h.
          let w = g.gives behind es₀ h in
          let es : List Entry = w.es in
          let L : ℕ = length keys₀ in
          let top : ℕ = max high (above 0 es) in
          let few : length es ≤ L = omega (arith, gathered-long (area ++ behind) keys spots used es w.gathers, g.inside, g.long) in
          let rising = keys-higher 0 (above 0 es) top es (omega arith) (gathered-keys (area ++ behind) keys spots used es w.gathers g.up) in
          let swap : gather_on L (xss ++ rest) es ≡ gather_on L (rest ++ xss) es =
          on-apart L 0 mid top xss rest es hx (widen mid mid high top rest (omega arith) (omega arith) hr) rising few in
          record {
            es = gather_on L xss es;
            gathers = rw (sym g.long) (t.gathers behind es w.gathers);
            same = w.same ∙ swap ∙ on-append L rest xss es;
          };
    }

    -- Those that are left give nothing more.
    pub gone : (left : List (List Entry)) → Going area all keys₀ spots₀ n keys spots used left
        → ((bytes : List ℕ) (es : List Entry) → Gathers bytes keys spots used es → gather_on (length keys) left es ≡ es)
        → TakenAll area all keys₀ spots₀ n keys spots used
    gone left g none = record {
      inside = rw (sym g.long) g.inside;
      rises = g.up;
      gathers = λ behind es₀ h.
          let w = g.gives behind es₀ h in
          let e : gather_on (length keys₀) left w.es ≡ w.es = rw (sym g.long) (none (area ++ behind) w.es w.gathers) in
          rw (w.same ∙ e) w.gathers;
    }
