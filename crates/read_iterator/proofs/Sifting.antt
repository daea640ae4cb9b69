-- Values moved to the front one by one: what all entries give is what is in front and what those that are left give.
use Prim.Native.Nat.{ℕ, suc, ◌+◌, ◌≤◌, ◌<◌}
use mathlib.Core.Path.{◌≡◌, refl, sym, ◌∙◌, ap}
use mathlib.Core.Bool.{Bool, true, false}
use mathlib.Core.List.{List, [], ◌∷◌, ◌++◌, map, append_assoc, map-append}
use native.Mathlib.Omega.{arith}
use native.Mathlib.Numerals.{add-one}
use lib.ListN
use lib.ListN.{length, take, drop, get_or, set, length-set, drop_of_length-le}
use lib.Seq.{drop-cons, get_or-take, length-take-le, take-take, take-suc-set, take-set-le}
use Rattle.table.specs.Entry.{Entry, entry_at}
use Rattle.ldc.specs.Lists.{keep}
use Rattle.ldc.specs.Read.{holds_value}
use Rattle.ldc.proofs.Basics.ListLaws.{get_d_map}
use Rattle.read_gather.specs.Gathered.{key_of, SeatedIn, AllSeated, Gathers}
use Rattle.read_gather.proofs.Means.{map-take, seated-take, seated-get, seated-more, same_at, same-behind}
use Rattle.read_gather.proofs.Narrow.{gathered-long}
use Rattle.read_iterator.specs.Values.{values_from}

-- ---- one more, and fewer

module _ (bytes keys spots : List ℕ) (n : ℕ) (es : List Entry) (g : Gathers bytes keys spots n es) where
  pub gathers-take : (m : ℕ) → m ≤ n → Gathers bytes keys spots m (take m es)
  gathers-take m h = record {
    keyed = sym (take-take m n keys h) ∙ ap (take m) g.keyed ∙ sym (map-take key_of m es);
    shown = ap (map (entry_at bytes)) (sym (take-take m n spots h)) ∙ map-take (entry_at bytes) m (take n spots) ∙ ap (take m) g.shown;
    seated = rw (sym (take-take m n spots h)) (seated-take bytes m (take n spots) g.seated);
    inside = omega (arith, g.inside);
  }

  module _ (key spot : ℕ) where
    gathers-set : Gathers bytes (set keys n key) (set spots n spot) n es
    gathers-set = record {
      keyed = take-set-le n keys n key (omega arith) ∙ g.keyed;
      shown = ap (map (entry_at bytes)) (take-set-le n spots n spot (omega arith)) ∙ g.shown;
      seated = rw (take-set-le n spots n spot (omega arith)) g.seated;
      inside = rw (length-set keys n key) g.inside;
    }

    gathers-more : (x : Entry) → n < length keys → n < length spots → key ≡ x.key → entry_at bytes spot ≡ x → SeatedIn bytes spot
        → Gathers bytes (set keys n key) (set spots n spot) (suc n) (es ++ (x ∷ []))
    gathers-more x hk hs k e s = record {
      keyed = take-suc-set keys n key hk ∙ ap (λ (ks : List ℕ). ks ++ (key ∷ [])) g.keyed ∙ ap (λ j. map key_of es ++ (j ∷ [])) k ∙ sym (map-append key_of es (x ∷ []));
      shown = ap (map (entry_at bytes)) (take-suc-set spots n spot hs) ∙ map-append (entry_at bytes) (take n spots) (spot ∷ [])
          ∙ ap (λ (xs : List Entry). xs ++ (entry_at bytes spot ∷ [])) g.shown ∙ ap (λ (y : Entry). es ++ (y ∷ [])) e;
      seated = rw (take-suc-set spots n spot hs) (seated-more bytes (take n spots) spot g.seated s);
      inside = rw (length-set keys n key) (omega arith);
    }

  -- The i-th.
  module _ (i : ℕ) (h : i < n) where
    inside : i < length es
    inside = omega (arith, gathered-long bytes keys spots n es g)

    at : get_or es i (entry_at bytes 0) ≡ entry_at bytes (get_or spots i 0)
    at =
        let f : ℕ → Entry = entry_at bytes in
        ap (λ (xs : List Entry). get_or xs i (f 0)) (sym g.shown) ∙ ListN.get_or-map f (take n spots) i 0 ∙ ap f (get_or-take n spots i 0 h)

    the-entry : drop i es ≡ entry_at bytes (get_or spots i 0) ∷ drop (i + 1) es
    the-entry = drop-cons es i (entry_at bytes 0) inside ∙ rw (at, sym (add-one i))

    the-key : get_or keys i 0 ≡ (entry_at bytes (get_or spots i 0)).key
    the-key =
        sym (get_or-take n keys i 0 h) ∙ ap (λ (ks : List ℕ). get_or ks i 0) g.keyed
        ∙ get_d_map key_of es i (entry_at bytes 0) 0 inside ∙ ap key_of at

-- ---- turn by turn

-- What is in front now, and with what is left gives all.
pub record Now (bytes keys spots : List ℕ) (kept : ℕ) (left all : List Entry) : Type 0 where
  pub front : List Entry
  pub gathers : Gathers bytes keys spots kept front
  pub same : all ≡ front ++ left

pub record Sifting (bytes keys₀ spots₀ : List ℕ) (from n : ℕ) (keys spots : List ℕ) (kept i : ℕ) : Type 0 where
  pub low : kept ≤ i
  pub high : i ≤ n
  pub long : length keys ≡ length keys₀
  pub wide : length spots ≡ length spots₀
  pub old-keys : drop i keys ≡ drop i keys₀
  pub old-spots : drop i spots ≡ drop i spots₀
  pub gives : (es : List Entry) → Gathers bytes keys₀ spots₀ n es → Now bytes keys spots kept (keep holds_value (drop i es)) (values_from from es)

module _ (bytes keys₀ spots₀ : List ℕ) (from n : ℕ) (few : n ≤ length keys₀) (same : length spots₀ ≡ length keys₀) (all : AllSeated bytes (take n spots₀)) where
  pub sift-begins : from ≤ n → Sifting bytes keys₀ spots₀ from n keys₀ spots₀ from from
  unfolding values_from
  sift-begins h = record {
    low = omega arith;
    high = h;
    long = refl;
    wide = refl;
    old-keys = refl;
    old-spots = refl;
    gives = λ es g. record { front = take from es; gathers = gathers-take bytes keys₀ spots₀ n es g from h; same = refl };
  }

  module _ (keys spots : List ℕ) (kept i : ℕ) (s : Sifting bytes keys₀ spots₀ from n keys spots kept i) where
    module _ (h : i < n) where
      pub sift-seated : SeatedIn bytes (get_or spots i 0)
      sift-seated =
          rw (same_at i spots spots₀ s.old-spots, sym (get_or-take n spots₀ i 0 h))
          (seated-get bytes (take n spots₀) i all (omega (arith, length-take-le n spots₀ (omega arith))))

      module _ (kept' : ℕ) (passes : Bool) (p : passes ≡ holds_value (entry_at bytes (get_or spots i 0))) where
        abbrev pub keys' : List ℕ
        keys' = set keys kept (get_or keys i 0)

        abbrev pub spots' : List ℕ
        spots' = set spots kept (get_or spots i 0)

        turn : kept' ≤ i + 1
            → ((es : List Entry) → Gathers bytes keys₀ spots₀ n es → Now bytes keys' spots' kept' (keep holds_value (drop (i + 1) es)) (values_from from es))
            → Sifting bytes keys₀ spots₀ from n keys' spots' kept' (i + 1)
        turn l f = record {
          low = l;
          high = omega arith;
          long = length-set keys kept (get_or keys i 0) ∙ s.long;
          wide = length-set spots kept (get_or spots i 0) ∙ s.wide;
          old-keys = same-behind i kept (get_or keys i 0) keys keys₀ s.low s.old-keys;
          old-spots = same-behind i kept (get_or spots i 0) spots spots₀ s.low s.old-spots;
          gives = f;
        }

        next : (es : List Entry) → Gathers bytes keys₀ spots₀ n es → drop i es ≡ entry_at bytes (get_or spots i 0) ∷ drop (i + 1) es
        next es g = the-entry bytes keys₀ spots₀ n es g i h ∙ rw (sym (same_at i spots spots₀ s.old-spots))

        -- A value comes to the front; a delete mark does not stay there.
        pub sift-keeps : passes ≡ true → kept' ≡ kept + 1 → Sifting bytes keys₀ spots₀ from n keys' spots' kept' (i + 1)
        sift-keeps q e =
            turn (omega (arith, s.low))
            (λ es g. let w = s.gives es g in
            let x : Entry = entry_at bytes (get_or spots i 0) in
            let room : kept < length keys₀ = omega (arith, s.low) in
            let key : get_or keys i 0 ≡ x.key = same_at i keys keys₀ s.old-keys ∙ the-key bytes keys₀ spots₀ n es g i h ∙ rw (sym (same_at i spots spots₀ s.old-spots)) in
            rw (e, add-one kept) (record {
              front = w.front ++ (x ∷ []);
              gathers = gathers-more bytes keys spots kept w.front w.gathers (get_or keys i 0) (get_or spots i 0) x (omega (arith, s.long)) (omega (arith, s.wide)) key refl sift-seated;
              same = w.same ∙ ap (λ (xs : List Entry). w.front ++ keep holds_value xs) (next es g) ∙ rw (sym p, q) (sym (append_assoc w.front (x ∷ []) (keep holds_value (drop (i + 1) es))));
            }))

        pub sift-drops : passes ≡ false → kept' ≡ kept → Sifting bytes keys₀ spots₀ from n keys' spots' kept' (i + 1)
        sift-drops q e =
            turn (omega (arith, s.low))
            (λ es g. let w = s.gives es g in
            rw e (record {
              front = w.front;
              gathers = gathers-set bytes keys spots kept w.front w.gathers (get_or keys i 0) (get_or spots i 0);
              same = w.same ∙ ap (λ (xs : List Entry). w.front ++ keep holds_value xs) (next es g) ∙ rw (sym p, q);
            }))
