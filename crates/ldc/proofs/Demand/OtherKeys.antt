-- No request changes what a later look-up of a key answers, unless it is a put or delete of that key. And a run leaves a sound store sound.
use Prim.Native.Nat.{ℕ}
use mathlib.Core.Path.{◌≡◌, refl, sym, ◌∙◌, ap}
use mathlib.Core.List.{List, [], ◌∷◌, Memᴰ}
use mathlib.Core.Bool.{true, ◌||◌}
use mathlib.Core.Option.{some, none}
use mathlib.Core.Logic.{◌⊎◌, inl, inr}
use borrow.Author.Tests.{ne_eqb}
use lib.Dec.{ltb}
use lib.ListN.{length}
use Rattle.coding.specs.Number.{Bytes}
use Rattle.table.specs.Entry.{Entry}
use Rattle.table.specs.Limits.{table_limit}
use Rattle.table.specs.Search.{find}
use Rattle.ldc.specs.Lists.{is_some}
use Rattle.ldc.specs.Store.{Store}
use Rattle.ldc.specs.Lent.{Lent, sizes_good, store_of, lent_of, broken}
use Rattle.ldc.specs.Request.{Request, key_in, high_in, value_in}
use Rattle.ldc.specs.Memtable.{serve_put}
use Rattle.ldc.specs.Read.{value_of, look_up, serve_look_up, serve_scan, serve_report}
use Rattle.ldc.specs.Probe.{serve_probe}
use Rattle.ldc.specs.Serve.{serve}
use Rattle.ldc.specs.Run.{run}
use Rattle.ldc.specs.History.{serve_list}
use Rattle.ldc.proofs.Basics.Cases.{cases}
use Rattle.ldc.proofs.Serving.Keeps.{look-store, keeps}
use Rattle.ldc.proofs.Serving.KeepsWhole.{whole-keeps}
use Rattle.ldc.proofs.Lent.Rules.{kept-lent_of}
use Rattle.ldc.proofs.Lent.Shows.{sound-store_of, whole-store_of, lent_of-store_of}
use Rattle.ldc.proofs.Demand.MirrorKeeps.{view-put, flush-values, tidy-values}
use Rattle.ldc.proofs.Stores.Order.{view}
use Rattle.ldc.proofs.Serving.Runs.{run-told}
use Rattle.ldc.proofs.Serving.ServeCases.{serve-cases}
use Rattle.ldc.proofs.Stores.Sound.{Sound}
use Rattle.ldc.proofs.Serving.Splits.{Sent, split-bytes}
use Rattle.ldc.specs.Facts.{Shape}

-- A put or delete of this key.
abbrev pub Writes : Request → (key : ℕ) → Type 0
Writes r k = ((r.kind ≡ 1) ⊎ (r.kind ≡ 2)) × (key_in r.body ≡ k)

module _ (s : Store) (S : Sound s) (k : ℕ) where
  put_other : (e : Entry) → (e.key ≡ k → ⊥) → look_up (serve_put s e).store k ≡ look_up s k
  unfolding serve_put look_up
  put_other e d =
      cases (is_some (find e.key s.memory) || ltb (length s.memory) table_limit)
      (λ q. rw q (ap value_of (view-put s e k) ∙ rw (ne_eqb e.key k d)))
      (λ q. rw q)

  -- one request
  pub other_keys : (r : Request) → (Writes r k → ⊥) → look_up (serve s r).store k ≡ look_up s k
  unfolding look_up
  other_keys r d = serve-cases s r (λ v. value_of (view v.store k) ≡ value_of (view s k)) (record {
    unknown = λ _. refl;
    misfit = λ _ _. refl;
    put = λ i lo hi. put_other (record { key = key_in r.body; value = some (value_in r.body) }) (λ e. d (inl i, e));
    delete = λ i n. put_other (record { key = key_in r.body; value = none }) (λ e. d (inr i, e));
    look = λ i n. unfold serve_look_up in rw (look-store s (look_up s (key_in r.body)));
    scan = λ i n. unfold serve_scan in cases (ltb (high_in r.body) (key_in r.body)) (λ q. rw q) (λ q. rw q);
    flush = λ i n. flush-values s S k;
    tidy = λ i n. tidy-values s S k;
    probe = λ i n. unfold serve_probe in refl;
    report = λ i n. unfold serve_report in refl;
  })

-- any number of requests
pub other-keys-list : (s : Store) (k : ℕ) (rs : List Request) → Sound s → ((r : Request) → Memᴰ r rs → Sent r × (Writes r k → ⊥)) → look_up (serve_list s rs) k ≡ look_up s k
other-keys-list s k [] S h = refl
other-keys-list s k (r ∷ rs) S h =
    let c = h r (Memᴰ.head refl) in
    other-keys-list (serve s r).store k rs (keeps s r S c.0) (λ x m. h x (Memᴰ.tail m)) ∙ other_keys s S k r c.1

-- ---- a run on any sound store

pub sound-run : (m : Lent) → Shape m → sizes_good m ≡ true → broken m ≡ [] → (list answer : List ℕ) → Bytes list → broken (run m list answer).lent ≡ []
sound-run m shape z b list answer bytes =
    let s : Store = store_of m in
    let H = run-told Sent keeps whole-keeps s (sound-store_of m shape z b) (whole-store_of m z) list answer (λ rs q. split-bytes list rs bytes q) in
    let e : (run m list answer).lent ≡ (run (lent_of s) list answer).lent = ap (λ (x : Lent). (run x list answer).lent) (sym (lent_of-store_of m shape z b)) in
    ap broken (e ∙ H.lent) ∙ kept-lent_of _ H.sound H.whole
