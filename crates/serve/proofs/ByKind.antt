-- What serving a request of each kind comes to. The kind is put into the definition's cases, which then compute.
use Prim.Native.Nat.{ℕ, ◌+◌, ◌≤◌}
use mathlib.Core.Path.{◌≡◌, refl, sym, ◌∙◌}
use mathlib.Core.Bool.{Bool, true, false, cond, true≢false}
use mathlib.Core.List.{List}
use native.Mathlib.Omega.{arith}
use borrow.Author.Tests.{le-leb, lt-leb, leb-true, eqb-true, eqb-false, ne_eqb}
use lib.Dec.{leb, eqb}
use lib.ListN.{length}
use Rattle.table.specs.Entry.{entry_of, entry_form}
use Rattle.table.proofs.Tests.{and_parts}
use Rattle.table.specs.Limits.{value_limit, entry_limit, entry_head}
use Rattle.ldc.specs.Store.{Store}
use Rattle.ldc.specs.Request.{known, body_good, key_in, high_in, value_in, only, key_size}
use Rattle.ldc.specs.Memtable.{serve_put}
use Rattle.ldc.specs.Place.{serve_flush}
use Rattle.ldc.specs.Read.{serve_look_up, serve_scan, serve_report}
use Rattle.ldc.specs.Probe.{serve_probe}
use Rattle.ldc.specs.Steps.{serve_tidy}
use Rattle.ldc.specs.Serve.{serve_kind, serve}
use Rattle.ldc.proofs.Basics.Cases.{cases}
use Rattle.compact_pick.specs.Calm.{calm_after}
use Rattle.compact_pick.specs.Plan.{plan_of}
use Rattle.serve_write.specs.Turn.{request, suspect_after}

-- The test of the code before it looks at the kind.
abbrev pub good : (kind len : ℕ) → Bool
good kind len = cond (known kind) (body_good kind len) true

known_of : (kind : ℕ) → 1 ≤ kind → kind ≤ 8 → known kind ≡ true
unfolding known
known_of kind low high = rw (le-leb 1 kind low, le-leb kind 8 high)

pub unknown-0 : known 0 ≡ false
unfolding known
unknown-0 = refl

pub unknown-above : (kind : ℕ) → 9 ≤ kind → known kind ≡ false
unfolding known
unknown-above kind h = rw (le-leb 1 kind (omega arith), lt-leb kind 8 h)

module _ (kind : ℕ) (body : List ℕ) where
  -- A known kind with a good body.
  fits : 1 ≤ kind → kind ≤ 8 → good kind (length body) ≡ true → body_good kind (length body) ≡ true
  fits low high g = let k = known_of kind low high in rw k at g

  -- The lengths that a good body has.
  pub length-3 : kind ≡ 3 → good kind (length body) ≡ true → length body ≡ 8
  unfolding body_good
  length-3 e g = let f = fits (omega arith) (omega arith) g in eqb-true (length body) 8 (rw e at f)

  pub length-8 : kind ≡ 8 → good kind (length body) ≡ true → length body ≡ 8
  unfolding body_good
  length-8 e g = let f = fits (omega arith) (omega arith) g in eqb-true (length body) 8 (rw e at f)

  pub length-4 : kind ≡ 4 → good kind (length body) ≡ true → length body ≡ 16
  unfolding body_good
  length-4 e g = let f = fits (omega arith) (omega arith) g in eqb-true (length body) 16 (rw e at f)

  form-1 : kind ≡ 1 → good kind (length body) ≡ true → (8 ≤ length body) × (entry_form kind (4 + length body) ≡ true)
  unfolding body_good entry_form
  form-1 e g =
      let f = fits (omega arith) (omega arith) g in
      let p = and_parts (leb 8 (length body)) _ (rw e at f) in
      let low = leb-true 8 (length body) p.0 in
      let high = leb-true (length body) (key_size + value_limit) p.1 in
      (low, rw (e, le-leb entry_head (4 + length body) (omega arith), le-leb (4 + length body) entry_limit (omega arith)))

  form-2 : kind ≡ 2 → good kind (length body) ≡ true → (8 ≤ length body) × (entry_form kind (4 + length body) ≡ true)
  unfolding body_good entry_form
  form-2 e g =
      let f = fits (omega arith) (omega arith) g in
      let l = eqb-true (length body) 8 (rw e at f) in
      (omega arith, rw (e, l))

  pub form-put : 1 ≤ kind → kind ≤ 2 → good kind (length body) ≡ true → (8 ≤ length body) × (entry_form kind (4 + length body) ≡ true)
  form-put low high g = cases (eqb kind 2) (λ q. form-2 (eqb-true kind 2 q) g) (λ q. form-1 (omega (arith, eqb-false kind 2 q)) g)

module _ (s : Store) (kind : ℕ) (body : List ℕ) where
  pub serve-unknown : known kind ≡ false → serve s (request kind body) ≡ only 16 s
  unfolding serve
  serve-unknown h = rw h

  pub serve-misfit : good kind (length body) ≡ false → serve s (request kind body) ≡ only 17 s
  unfolding serve
  serve-misfit h =
      cases (known kind) (λ q. rw (q, (rw q at h)))
      (λ q. absurd (true≢false (rw q at h)))

  serve-good : 1 ≤ kind → kind ≤ 8 → good kind (length body) ≡ true → serve s (request kind body) ≡ serve_kind s kind body
  unfolding serve
  serve-good low high g = rw (known_of kind low high, fits kind body low high g)

  pub serve-3 : kind ≡ 3 → good kind (length body) ≡ true → serve s (request kind body) ≡ serve_look_up s (key_in body)
  unfolding serve_kind
  serve-3 e g = serve-good (omega arith) (omega arith) g ∙ rw e

  pub serve-4 : kind ≡ 4 → good kind (length body) ≡ true → serve s (request kind body) ≡ serve_scan s (key_in body) (high_in body)
  unfolding serve_kind
  serve-4 e g = serve-good (omega arith) (omega arith) g ∙ rw e

  pub serve-5 : kind ≡ 5 → good kind (length body) ≡ true → serve s (request kind body) ≡ serve_flush s
  unfolding serve_kind
  serve-5 e g = serve-good (omega arith) (omega arith) g ∙ rw e

  pub serve-6 : kind ≡ 6 → good kind (length body) ≡ true → serve s (request kind body) ≡ serve_tidy s
  unfolding serve_kind
  serve-6 e g = serve-good (omega arith) (omega arith) g ∙ rw e

  pub serve-7 : kind ≡ 7 → good kind (length body) ≡ true → serve s (request kind body) ≡ serve_report s
  unfolding serve_kind
  serve-7 e g = serve-good (omega arith) (omega arith) g ∙ rw e

  pub serve-8 : kind ≡ 8 → good kind (length body) ≡ true → serve s (request kind body) ≡ serve_probe s (key_in body)
  unfolding serve_kind
  serve-8 e g = serve-good (omega arith) (omega arith) g ∙ rw e

  pub serve-put : 1 ≤ kind → kind ≤ 2 → good kind (length body) ≡ true
      → serve s (request kind body) ≡ serve_put s (entry_of kind (key_in body) (value_in body))
  unfolding serve_kind entry_of
  serve-put low high g =
      serve-good low (omega arith) g
      ∙ cases (eqb kind 2) (λ q. rw (eqb-true kind 2 q)) (λ q. let e : kind ≡ 1 = omega (arith, eqb-false kind 2 q) in rw e)

pub known-six : (kind : ℕ) → kind ≡ 6 → known kind ≡ false → ⊥
known-six kind e h = true≢false (sym (known_of kind (omega arith) (omega arith)) ∙ h)

-- The level that can have due merges: only a tidy that is served changes it.
module _ (on : ℕ) (s : Store) (kind : ℕ) (body : List ℕ) where
  pub after-other : (kind ≡ 6 → ⊥) → on ≡ suspect_after on s (request kind body)
  unfolding suspect_after
  after-other h = rw (ne_eqb kind 6 h)

  pub after-misfit : good kind (length body) ≡ false → on ≡ suspect_after on s (request kind body)
  unfolding suspect_after
  after-misfit h =
      cases (eqb kind 6)
      (λ q. let e = eqb-true kind 6 q in
      let k = known_of kind (omega arith) (omega arith) in
      let f : body_good kind (length body) ≡ false = rw k at h in
      rw (q, f))
      (λ q. rw q)

  pub after-tidy : kind ≡ 6 → good kind (length body) ≡ true → calm_after on (plan_of s) ≡ suspect_after on s (request kind body)
  unfolding suspect_after
  after-tidy e g = rw (fits kind body (omega arith) (omega arith) g, e)
