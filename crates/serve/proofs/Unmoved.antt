-- What serving leaves where the store stays as it is, and where only its memory table changes.
use Prim.Native.Nat.{ℕ}
use mathlib.Core.Path.{◌≡◌, refl, sym, ◌∙◌, ap}
use mathlib.Core.Bool.{◌||◌}
use mathlib.Core.List.{List, []}
use native.Mathlib.Omega.{arith}
use lib.Dec.{ltb}
use lib.ListN.{length}
use Rattle.table.specs.Limits.{place_size, table_limit}
use Rattle.table.specs.Entry.{Entry}
use Rattle.table.specs.Table.{entries, table_bytes}
use Rattle.table.specs.Search.{find}
use Rattle.ldc.specs.Lists.{is_some}
use Rattle.ldc.specs.Store.{Store, with_memory}
use Rattle.ldc.specs.Lent.{Lent, store_of, lent_of}
use Rattle.ldc.specs.Request.{Served, reply_bytes, only}
use Rattle.ldc.specs.Memtable.{serve_put}
use Rattle.ldc.specs.Read.{look_up, serve_look_up, serve_scan, serve_report}
use Rattle.ldc.specs.Probe.{serve_probe}
use Rattle.ldc.proofs.Basics.Cases.{cases}
use Rattle.ldc.proofs.Lent.Rules.{unbroken}
use Rattle.ldc.proofs.Lent.Shows.{sizes}
use Rattle.ldc.proofs.Serving.Keeps.{look-store}
use Rattle.memtable.specs.Put.{put_in}
use Rattle.memtable.proofs.Serve.{served-result, served-bytes, served-store}
use Rattle.book.specs.Pieces.{lent}
use Rattle.read.specs.Shown.{Kept}
use Rattle.serve_read.specs.Tally.{Counts}
use Rattle.wire.specs.Reply.{replied, Written}
use Rattle.read.proofs.Pieces.{row-eight, length-fits}
use Rattle.serve_write.specs.Turn.{turn, turned}
use Rattle.serve_write.proofs.Turns.{turn-same, turn-bare}

pub scan-store : (s : Store) (low high : ℕ) → (serve_scan s low high).store ≡ s
unfolding serve_scan
scan-store s low high = cases (ltb high low) (λ q. rw q) (λ q. rw q)

pub look-up-store : (s : Store) (k : ℕ) → (serve_look_up s k).store ≡ s
unfolding serve_look_up
look-up-store s k = look-store s (look_up s k)

pub probe-store : (s : Store) (k : ℕ) → (serve_probe s k).store ≡ s
unfolding serve_probe
probe-store s k = refl

pub report-store : (s : Store) → (serve_report s).store ≡ s
unfolding serve_report
report-store s = refl

put-body : (s : Store) (e : Entry) → (serve_put s e).body ≡ []
unfolding serve_put
put-body s e = cases (is_some (find e.key s.memory) || ltb (length s.memory) table_limit) (λ q. rw q) (λ q. rw q)

-- What the report reads fits two bytes.
pub counts-kept : (m : Lent) → Kept m → length m.memory ≡ place_size → Counts m.cards m.head m.memory
counts-kept m k l =
    let z = sizes m k.sizes in
    record {
      few = omega (arith, z.cards, z.most);
      linked = row-eight m k;
      lists = λ n h. omega (arith, length-fits m k n h, z.cards, z.most);
      place = l;
      good = (unbroken m k.unbroken).memory;
    }

-- Nothing but the memory table's bytes.
with-memory : (s : Store) (es : List Entry)
    → lent_of (with_memory es s) ≡ lent (lent_of s).area (lent_of s).cards (lent_of s).lists (lent_of s).head (table_bytes es)
unfolding lent_of
with-memory s es = refl

module _ (m : Lent) (held : lent_of (store_of m) ≡ m) where
  pub turn-read : (kind : ℕ) (v : Served) (before after : List ℕ) (at written : ℕ) → v.store ≡ store_of m
      → Written before at (replied kind v) after written → turn m after written ≡ turned kind v before at
  unfolding turned
  turn-read kind v before after at written es w = turn-same (sym held ∙ ap lent_of (sym es)) w.bytes w.count

  pub turn-refused : (kind result : ℕ) (before after : List ℕ) (at written : ℕ)
      → Written before at (reply_bytes kind result []) after written → turn m after written ≡ turned kind (only result (store_of m)) before at
  turn-refused kind result before after at written w = turn-bare kind result (only result (store_of m)) m before after at written refl refl (sym held) w

  put-lent : (e : Entry) (memory : List ℕ) → memory ≡ (put_in e m.memory).bytes
      → lent m.area m.cards m.lists m.head memory ≡ lent_of (serve_put (store_of m) e).store
  put-lent e memory h =
      let shown : entries m.memory ≡ (store_of m).memory = unfold store_of in refl in
      let kept : table_bytes (store_of m).memory ≡ m.memory = unfold lent_of in ap (λ (x : Lent). x.memory) held in
      let es = (serve_put (store_of m) e).store.memory in
      let bytes : table_bytes es ≡ memory = served-bytes (store_of m) e m.memory shown kept ∙ sym h in
      sym (ap lent_of (served-store (store_of m) e m.memory shown kept) ∙ with-memory (store_of m) es ∙ rw (held, bytes))

  pub turn-put : (kind : ℕ) (e : Entry) (memory before after : List ℕ) (at written : ℕ) → memory ≡ (put_in e m.memory).bytes
      → Written before at (reply_bytes kind (put_in e m.memory).result []) after written
      → turn (lent m.area m.cards m.lists m.head memory) after written ≡ turned kind (serve_put (store_of m) e) before at
  turn-put kind e memory before after at written h w =
      let shown : entries m.memory ≡ (store_of m).memory = unfold store_of in refl in
      let kept : table_bytes (store_of m).memory ≡ m.memory = unfold lent_of in ap (λ (x : Lent). x.memory) held in
      turn-bare kind (put_in e m.memory).result (serve_put (store_of m) e) _ before after at written
      (sym (served-result (store_of m) e m.memory shown kept)) (put-body (store_of m) e) (put-lent e memory h) w
