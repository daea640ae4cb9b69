-- Where as many entries are gathered as there is room for, a key above the last of them changes nothing, now and from then on; so a range
-- may end at that key. By induction on the entries that are taken in, with `Full` kept by each.
use Prim.Native.Nat.{ℕ, zero, suc, ◌-◌, ◌≤◌, ◌<◌, min}
use mathlib.Core.Path.{◌≡◌, refl, sym, ◌∙◌, ap}
use mathlib.Core.Bool.{false, ◌&&◌}
use mathlib.Core.List.{List, [], ◌∷◌, ◌++◌, map}
use native.Mathlib.Omega.{arith}
use borrow.Author.Tests.{le-ltb, ne_eqb, ltb-false, leb-true, leb-false, le-leb, lt-leb}
use lib.Dec.{leb, ltb, eqb}
use lib.ListN.{length, take, get_or, length-take, length-map}
use lib.Seq.{take-append-le, take-length, length-take-le, get_or-take}
use Rattle.table.specs.Entry.{Entry}
use Rattle.table.specs.Valid.{Keys}
use Rattle.ldc.specs.Store.{within}
use Rattle.ldc.specs.Memtable.{put}
use Rattle.ldc.proofs.Basics.Cases.{cases}
use Rattle.ldc.proofs.Entries.Keys.{keys-order, keys-put, head-below}
use Rattle.read_gather.specs.Beside.{Rises}
use Rattle.read_gather.specs.Gathered.{intake, key_of, Gathers}
use Rattle.read_gather.specs.Sources.{gather_on, ranges, TakenAll}
use Rattle.read_gather.specs.Order.{up_to}

put-above : (low bound : ℕ) (e : Entry) (es : List Entry) → Keys low bound es → bound ≤ e.key → put e es ≡ es ++ (e ∷ [])
put-above low bound e [] h b = refl
put-above low bound e (f ∷ es) h b =
    let l = head-below low bound f es h in
    rw (le-ltb e.key f.key (omega arith), ne_eqb e.key f.key (λ q. omega arith))
    (ap (λ (xs : List Entry). f ∷ xs) (put-above (suc f.key) bound e es h.1 b))

length-put : (e : Entry) (es : List Entry) → length es ≤ length (put e es)
length-put e [] = omega arith
length-put e (f ∷ es) =
    let r = length-put e es in
    cases (ltb e.key f.key)
    (λ lt. rw lt (omega arith))
    (λ ge. cases (eqb e.key f.key) (λ eq. rw (ge, eq) (omega arith)) (λ ne. rw (ge, ne) (omega arith)))

pub keys-take : (n low high : ℕ) (es : List Entry) → Keys low high es → Keys low high (take n es)
keys-take zero low high es h = keys-order low high es h
keys-take (suc n) low high [] h = h
keys-take (suc n) low high (e ∷ es) h = (h.0, keys-take n (suc e.key) high es h.1)

-- n entries, none with a key above `last`.
record Full (n last : ℕ) (es : List Entry) : Type 0 where
  long : length es ≡ n
  keys : Keys 0 (suc last) es

module _ (n last : ℕ) where
  over : (e : Entry) (es : List Entry) → Full n last es → last < e.key → take n (put e es) ≡ es
  over e es f h =
      ap (take n) (put-above 0 (suc last) e es f.keys h) ∙ take-append-le n es (e ∷ []) (omega (arith, f.long)) ∙ ap (λ m. take m es) (sym f.long)
      ∙ take-length es

  full_put : (e : Entry) (es : List Entry) → Full n last es → Full n last (take n (put e es))
  full_put e es f =
      cases (leb e.key last)
      (λ q. record {
        long = length-take n (put e es) ∙ omega (arith, length-put e es, f.long);
        keys = keys-take n 0 (suc last) (put e es) (keys-put 0 (suc last) e es (omega arith) (omega (arith, leb-true e.key last q)) f.keys);
      })
      (λ q. rw (over e es f (leb-false e.key last q)) f)

  full-intake : (xs es : List Entry) → Full n last es → Full n last (intake n xs es)
  full-intake [] es f = f
  full-intake (x ∷ xs) es f = full-intake xs (take n (put x es)) (full_put x es f)

  full-on : (xss : List (List Entry)) (es : List Entry) → Full n last es → Full n last (gather_on n xss es)
  full-on [] es f = f
  full-on (xs ∷ xss) es f = full-intake xs (gather_on n xss es) (full-on xss es f)

  module _ (low high : ℕ) where
    narrow : (xs es : List Entry) → Full n last es → intake n (within low high xs) es ≡ intake n (within low (min high last) xs) es
    unfolding within
    narrow [] es f = refl
    narrow (x ∷ xs) es f =
        let k : ℕ = x.key in
        cases (leb k last)
        (λ q. let same : leb k (min high last) ≡ leb k high =
        cases (leb k high)
        (λ r. rw r (le-leb k (min high last) (omega (arith, leb-true k last q, leb-true k high r))))
        (λ r. rw r (lt-leb k (min high last) (omega (arith, leb-false k high r)))) in
        cases (leb low k && leb k high)
        (λ r. rw (same, r) (narrow xs (take n (put x es)) (full_put x es f)))
        (λ r. rw (same, r) (narrow xs es f)))
        (λ q. let out : leb k (min high last) ≡ false = lt-leb k (min high last) (omega (arith, leb-false k last q)) in
        let none : (leb low k && leb k (min high last)) ≡ false = cases (leb low k) (λ r. rw (r, out)) (λ r. rw r) in
        cases (leb low k && leb k high)
        (λ r. rw (none, r) (ap (intake n (within low high xs)) (over x es f (leb-false k last q)) ∙ narrow xs es f))
        (λ r. rw (none, r) (narrow xs es f)))

    narrow-on : (xss : List (List Entry)) (es : List Entry) → Full n last es
        → gather_on n (ranges low high xss) es ≡ gather_on n (ranges low (min high last) xss) es
    narrow-on [] es f = refl
    narrow-on (xs ∷ xss) es f =
        let r = narrow-on xss es f in
        ap (intake n (within low high xs)) r
        ∙ narrow xs (gather_on n (ranges low (min high last) xss) es) (full-on (ranges low (min high last) xss) es f)

-- ---- in arrays

-- A bound above all keys of some entries, which rise.
abbrev pub above : (low : ℕ) → List Entry → ℕ
above low [] = low
above low (e ∷ es) = above (suc e.key) es

pub rise-keys : (low : ℕ) (es : List Entry) → Rises low (map key_of es) → Keys low (above low es) es
rise-keys low [] h = omega arith
rise-keys low (e ∷ es) h = (h.0, rise-keys (suc e.key) es h.1)

above-last : (low m : ℕ) (es : List Entry) → length es ≡ suc m → above low es ≡ suc (get_or (map key_of es) m 0)
above-last low m [] h = absurd (omega arith)
above-last low zero (e ∷ []) h = refl
above-last low zero (e ∷ f ∷ es) h = absurd (omega arith)
above-last low (suc m) (e ∷ es) h = above-last (suc e.key) m es (omega arith)

module _ (bytes keys spots : List ℕ) (n : ℕ) (es : List Entry) (g : Gathers bytes keys spots n es) where
  pub gathered-long : length es ≡ n
  gathered-long = sym (length-map es key_of) ∙ ap length (sym g.keyed) ∙ length-take-le n keys g.inside

  pub gathered-keys : Rises 0 (take n keys) → Keys 0 (above 0 es) es
  gathered-keys h = rise-keys 0 es (rw g.keyed at h)

  full : Rises 0 (take n keys) → n ≡ length keys → 0 < n → Full (length keys) (get_or keys (n - 1) 0) es
  full h e some =
      let last : get_or (map key_of es) (n - 1) 0 ≡ get_or keys (n - 1) 0 =
      ap (λ (ks : List ℕ). get_or ks (n - 1) 0) (sym g.keyed) ∙ get_or-take n keys (n - 1) 0 (omega arith) in
      record {
        long = gathered-long ∙ e;
        keys = rw (sym (above-last 0 (n - 1) es (omega (arith, gathered-long)) ∙ ap suc last)) (gathered-keys h);
      }

-- What is taken in up to where it is of interest is what is taken in of the whole range.
module _ (low high : ℕ) (sources : List (List Entry)) (keys : List ℕ) (n : ℕ) (up : Rises 0 (take n keys)) (some : 0 < length keys) where
  pub narrowed : (bytes spots : List ℕ) (es : List Entry) → Gathers bytes keys spots n es
      → gather_on (length keys) (ranges low high sources) es ≡ gather_on (length keys) (ranges low (up_to keys n high) sources) es
  unfolding up_to
  narrowed bytes spots es g =
      cases (ltb n (length keys))
      (λ q. rw q)
      (λ q. let e : n ≡ length keys = omega (arith, ltb-false n (length keys) q, g.inside) in
      rw q (narrow-on (length keys) (get_or keys (n - 1) 0) low high sources es (full bytes keys spots n es g up e (omega arith))))

  pub narrow-taken : (area spots keys' spots' : List ℕ) (r : ℕ) → TakenAll area (ranges low (up_to keys n high) sources) keys spots n keys' spots' r
      → TakenAll area (ranges low high sources) keys spots n keys' spots' r
  narrow-taken area spots keys' spots' r t = record {
    inside = t.inside;
    rises = t.rises;
    gathers = λ behind es g. rw (narrowed (area ++ behind) spots es g) (t.gathers behind es g);
  }
