-- What two arrays hold after a key and its word were put among others: the entry there, put among the entries. And that keys still rise.
use Prim.Native.Nat.{ℕ, zero, suc, ◌+◌, ◌≤◌, ◌<◌}
use mathlib.Core.Path.{◌≡◌, refl, sym, ◌∙◌, ap}
use mathlib.Core.List.{List, [], ◌∷◌, ◌++◌, map}
use native.Mathlib.Omega.{arith}
use native.Mathlib.Nat.{add-zero}
use borrow.Author.Tests.{ltb-true, ltb-false, eqb-true, eqb-false}
use lib.Dec.{ltb, eqb}
use lib.ListN.{length, take, drop, get_or, set}
use lib.Seq.{get_or-drop, drop-drop, drop-set-lt}
use Rattle.table.specs.Entry.{Entry, entry_at}
use Rattle.table.specs.Valid.{Keys}
use Rattle.ldc.specs.Memtable.{put}
use Rattle.ldc.proofs.Basics.Cases.{cases}
use Rattle.read_gather.specs.Beside.{Rises, beside, Inserted}
use Rattle.read_gather.specs.Gathered.{key_of, SeatedIn, AllSeated, Gathers}
use Rattle.read_gather.proofs.Ranks.{rises-take}

pub map-take : {A B : Type 0} (f : A → B) (n : ℕ) (xs : List A) → map f (take n xs) ≡ take n (map f xs)
map-take f zero xs = refl
map-take f (suc n) [] = refl
map-take f (suc n) (x ∷ xs) = ap (λ ys. f x ∷ ys) (map-take f n xs)

map-beside : {A B : Type 0} (f : A → B) (k : ℕ) (x : A) (ks : List ℕ) (xs : List A) → map f (beside k x ks xs) ≡ beside k (f x) ks (map f xs)
unfolding beside
map-beside f k x [] xs = refl
map-beside f k x (j ∷ ks) [] = refl
map-beside f k x (j ∷ ks) (y ∷ ys) =
    cases (ltb k j)
    (λ lt. rw lt)
    (λ ge. cases (eqb k j)
    (λ eq. rw (ge, eq))
    (λ ne. rw (ge, ne) (ap (λ zs. f y ∷ zs) (map-beside f k x ks ys))))

-- `put` is what stands beside the entries' own keys.
put-beside : (e : Entry) (es : List Entry) → put e es ≡ beside e.key e (map key_of es) es
unfolding beside
put-beside e [] = refl
put-beside e (f ∷ es) =
    cases (ltb e.key f.key)
    (λ lt. rw lt)
    (λ ge. cases (eqb e.key f.key)
    (λ eq. rw (ge, eq))
    (λ ne. rw (ge, ne) (ap (λ (zs : List Entry). f ∷ zs) (put-beside e es))))

-- ---- where entries stand

seated-beside : (bytes : List ℕ) (k x : ℕ) (ks xs : List ℕ) → SeatedIn bytes x → AllSeated bytes xs → AllSeated bytes (beside k x ks xs)
unfolding beside
seated-beside bytes k x [] xs h hs = (h, tt)
seated-beside bytes k x (j ∷ ks) [] h hs = (h, tt)
seated-beside bytes k x (j ∷ ks) (y ∷ ys) h hs =
    cases (ltb k j)
    (λ lt. rw lt (h, hs))
    (λ ge. cases (eqb k j)
    (λ eq. rw (ge, eq) (h, hs.1))
    (λ ne. rw (ge, ne) (hs.0, seated-beside bytes k x ks ys h hs.1)))

pub seated-take : (bytes : List ℕ) (n : ℕ) (xs : List ℕ) → AllSeated bytes xs → AllSeated bytes (take n xs)
seated-take bytes zero xs h = tt
seated-take bytes (suc n) [] h = tt
seated-take bytes (suc n) (x ∷ xs) h = (h.0, seated-take bytes n xs h.1)

pub seated-get : (bytes xs : List ℕ) (i : ℕ) → AllSeated bytes xs → i < length xs → SeatedIn bytes (get_or xs i 0)
seated-get bytes [] i h l = absurd (omega arith)
seated-get bytes (x ∷ xs) zero h l = h.0
seated-get bytes (x ∷ xs) (suc i) h l = seated-get bytes xs i h.1 (omega arith)

pub seated-more : (bytes xs : List ℕ) (x : ℕ) → AllSeated bytes xs → SeatedIn bytes x → AllSeated bytes (xs ++ (x ∷ []))
seated-more bytes [] x h s = (s, tt)
seated-more bytes (y ∷ ys) x h s = (h.0, seated-more bytes ys x h.1 s)

-- ---- rising

pub rises-lower : (low low' : ℕ) (ks : List ℕ) → low' ≤ low → Rises low ks → Rises low' ks
rises-lower low low' [] l h = tt
rises-lower low low' (k ∷ ks) l h = (let f = h.0 in omega arith, h.1)

rises-beside : (low k : ℕ) (ks : List ℕ) → low ≤ k → Rises low ks → Rises low (beside k k ks ks)
unfolding beside
rises-beside low k [] l h = (l, tt)
rises-beside low k (j ∷ ks) l h =
    cases (ltb k j)
    (λ lt. rw lt (l, (ltb-true k j lt, h.1)))
    (λ ge. cases (eqb k j)
    (λ eq. rw (ge, eq) (l, rises-lower (suc j) (suc k) ks (omega (arith, eqb-true k j eq)) h.1))
    (λ ne. rw (ge, ne) (
      h.0,
      rises-beside (suc j) k ks
          (let d : k ≡ j → ⊥ = eqb-false k j ne in let g : j ≤ k = ltb-false k j ge in omega arith)
          h.1,
    )))

pub inserted-rises : (keys words : List ℕ) (n key word : ℕ) (keys' words' : List ℕ) (r : ℕ) → Inserted keys words n key word keys' words' r
    → Rises 0 (take n keys) → Rises 0 (take r keys')
inserted-rises keys words n key word keys' words' r i h =
    rw i.keyed (rises-take 0 (length keys) (beside key key (take n keys) (take n keys)) (rises-beside 0 key (take n keys) (omega arith) h))

-- What a caller has: entries that rise have keys that do.
pub keys-rise : (low high : ℕ) (es : List Entry) → Keys low high es → Rises low (map key_of es)
keys-rise low high [] h = tt
keys-rise low high (e ∷ es) h = (h.0, keys-rise (suc e.key) high es h.1)

-- ---- both

pub gathers-put : (bytes keys words : List ℕ) (n key word : ℕ) (keys' words' : List ℕ) (r : ℕ) (es : List Entry)
    → Gathers bytes keys words n es → Inserted keys words n key word keys' words' r → length keys' ≡ length keys
    → SeatedIn bytes word → (entry_at bytes word).key ≡ key
    → Gathers bytes keys' words' r (take (length keys) (put (entry_at bytes word) es))
gathers-put bytes keys words n key word keys' words' r es g i l s e =
    let f : ℕ → Entry = entry_at bytes in
    let x : Entry = f word in
    let L : ℕ = length keys in
    let own : put x es ≡ beside key x (take n keys) es =
    put-beside x es ∙ ap (λ k. beside k x (map key_of es) es) e ∙ ap (λ ks. beside key x ks es) (sym g.keyed) in
    record {
      keyed =
          i.keyed
          ∙ ap (take L) (ap (λ ks. beside key key (take n keys) ks) g.keyed ∙ ap (λ k. beside key k (take n keys) (map key_of es)) (sym e)
          ∙ sym (map-beside key_of key x (take n keys) es) ∙ ap (map key_of) (sym own))
          ∙ sym (map-take key_of L (put x es));
      shown =
          ap (map f) i.worded ∙ map-take f L (beside key word (take n keys) (take n words))
          ∙ ap (take L) (map-beside f key word (take n keys) (take n words) ∙ ap (beside key x (take n keys)) g.shown ∙ sym own);
      seated = rw i.worded (seated-take bytes L _ (seated-beside bytes key word (take n keys) (take n words) s g.seated));
      inside = rw l i.inside;
    }

-- ---- arrays that are as they were from one word on

pub same_at : (i : ℕ) (xs ys : List ℕ) → drop i xs ≡ drop i ys → get_or xs i 0 ≡ get_or ys i 0
same_at i xs ys h =
    sym (get_or-drop i xs 0 0 ∙ ap (λ k. get_or xs k 0) (add-zero i)) ∙ ap (λ (l : List ℕ). get_or l 0 0) h
    ∙ get_or-drop i ys 0 0 ∙ ap (λ k. get_or ys k 0) (add-zero i)

pub same-behind : (i k w : ℕ) (xs ys : List ℕ) → k ≤ i → drop i xs ≡ drop i ys → drop (i + 1) (set xs k w) ≡ drop (i + 1) ys
same-behind i k w xs ys l h =
    drop-set-lt (i + 1) xs k w (omega arith) ∙ sym (drop-drop 1 i xs) ∙ ap (drop 1) h ∙ drop-drop 1 i ys
