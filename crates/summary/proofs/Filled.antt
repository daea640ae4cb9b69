-- One turn of the loop that makes a table's summary: the keys left are that of the entry passed and those behind it. And its two ends.
use Prim.Native.Nat.{ℕ, suc, ◌+◌, ◌-◌, ◌≤◌, ◌<◌}
use mathlib.Core.Path.{◌≡◌, sym, ◌∙◌}
use mathlib.Core.List.{List}
use native.Mathlib.Omega.{arith}
use native.Mathlib.Nat.{sub-zero}
use lib.ListN.{replicate}
use Rattle.table.specs.Limits.{table_head}
use Rattle.table.specs.Entry.{length_at, key_at}
use Rattle.table.specs.Table.{zeros, count_of, entries, entries_at}
use Rattle.table.proofs.Found.{entry_at-key}
use Rattle.summary.specs.Summary.{summary_bytes, with_key, with_keys, summary_of, keys_of}

-- At first all keys are left, and no bit is set.
pub fill-first : (s : List ℕ) (n : ℕ) → n ≡ count_of s
    → summary_of (keys_of (entries s)) ≡ with_keys (keys_of (entries_at (n - 0) s table_head)) (replicate summary_bytes 0)
unfolding summary_of entries zeros
fill-first s n e = rw (sub-zero, e)

-- The entry at `at` has this length and this key, whose bits are set.
pub fill-turn : (s : List ℕ) (n i at len key : ℕ) (t u whole : List ℕ)
    → i < n → len ≡ length_at s at → key ≡ key_at s at → u ≡ with_key key t
    → whole ≡ with_keys (keys_of (entries_at (n - i) s at)) t → whole ≡ with_keys (keys_of (entries_at (n - (i + 1)) s (at + len))) u
unfolding entries_at
fill-turn s n i at len key t u whole h hl hk hu e =
    let m : n - i ≡ suc (n - (i + 1)) = omega arith in
    e ∙ rw (m, entry_at-key s at, hl, hu, hk)

-- At last none is left.
pub fill_end : (s : List ℕ) (n i at : ℕ) (t whole : List ℕ) → n ≤ i → whole ≡ with_keys (keys_of (entries_at (n - i) s at)) t
    → t ≡ whole
unfolding entries_at
fill_end s n i at t whole h e = let m : n - i ≡ 0 = omega arith in sym (e ∙ rw m)
