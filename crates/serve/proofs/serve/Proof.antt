-- `serve` meets its contract: kind by kind, what was called leaves what the definition serves. Where only the answer or the memory table
-- changed, kept memory is what is lent of the store that it shows.
use Prim.Native.Nat.{ℕ, ◌≤◌}
use mathlib.Core.Path.{◌≡◌, refl, sym, ◌∙◌, ap}
use mathlib.Core.Bool.{true, false}
use mathlib.Core.Logic.{⊎_elim}
use native.Mathlib.Omega.{arith}
use borrow.Author.Rules.{rules}
use borrow.Author.Tests.{not-true, not-false}
use lib.ListN.{length}
use Rattle.table.specs.Entry.{entry_of}
use Rattle.ldc.specs.Lent.{store_of, lent_of}
use Rattle.ldc.specs.Request.{known, key_in, high_in, value_in}
use Rattle.ldc.specs.Read.{serve_look_up, serve_scan, serve_report}
use Rattle.ldc.specs.Probe.{serve_probe}
use Rattle.ldc.proofs.Lent.Rules.{unbroken}
use Rattle.book.specs.Head.{head_words}
use Rattle.book.specs.Pieces.{lent}
use Rattle.book_edit.proofs.Keeping.{shape_of, lent-kept}
use Rattle.serve.proofs.ByKind.{good, unknown-0, unknown-above, serve-unknown, serve-misfit, serve-3, serve-4, serve-5, serve-6, serve-7, serve-8, serve-put, length-3, length-4, length-8, form-put, after-other, after-misfit, after-tidy, known-six}
use Rattle.serve_write.proofs.Turns.{turned_by_lem}
use Rattle.serve_read.proofs.Counted.{report-served}
use Rattle.serve.proofs.Unmoved.{scan-store, look-up-store, probe-store, report-store, counts-kept, turn-read, turn-refused, turn-put}
use Rattle.serve.proofs.serve.Statement.{statement}
use Rattle.serve.proofs.serve.Tie as tie

-- The lent memory is that of the store that it shows.
held : (c : tie.After-slice_known-4-1)
    → let a = c.args in
    let m = lent a.area.now a.cards.now a.lists.now (head_words a.head) a.memory.now in
    lent_of (store_of m) ≡ m
held c =
    let b = c in
    let a = b.args in
    let m = lent a.area.now a.cards.now a.lists.now (head_words a.head) a.memory.now in
    lent-kept m
    (shape_of m b.requires.0.wide refl b.requires.0.memory (λ i. omega (arith, c.slice_known-3-1.given i)) (λ i. omega (arith, c.slice_known-1.given i)))
    b.requires.0.kept

-- The body has a length that the kind allows.
fit : (c : tie.Else-not-is_good)
    → let a = c.args in
    good a.kind (length a.body.now) ≡ true
fit c = sym c.is_good.ensures ∙ c.if-not-is_good.false

is-good-requires : tie.Need-is_good-requires
is-good-requires c κs = search rules

answer-bare-requires : tie.Need-answer_bare-requires
answer-bare-requires c κs = search rules

same_length : tie.Need-shape_of-answer-then-not-is_good
same_length c = search rules

returns : tie.Need-returns-then-not-is_good
returns c =
    let r = c in
    let i = r in
    let g = i in
    let k = g in
    let a = k.args in
    let m = lent a.area.now a.cards.now a.lists.now (head_words a.head) a.memory.now in
    let s = store_of m in (
      turn-refused m (held k.before.before.before.before.before.before) a.kind 17 a.answer.now _ a.at _ r.answer_bare.ensures
          ∙ turned_by_lem m a.kind a.body.now a.answer.now a.at refl (sym (serve-misfit s a.kind a.body.now (sym g.is_good.ensures ∙ i.if-not-is_good.true))),
      after-misfit a.suspect s a.kind a.body.now (sym g.is_good.ensures ∙ i.if-not-is_good.true),
    )

key-at-requires : tie.Need-key_at-key-requires
key-at-requires c κs =
    let a = c.args in
    omega (arith, length-3 a.kind a.body.now c.in-3.is (fit c.before))

look-up-reply-requires : tie.Need-look_up_reply-requires
look-up-reply-requires c κs =
    let p = c.requires in
    (record { memory = p.0.memory; kept = p.0.kept }, p.1.0)

key-at-requires-2 : tie.Need-key_at-low-requires
key-at-requires-2 c κs =
    let a = c.args in
    omega (arith, length-4 a.kind a.body.now c.in-4.is (fit c.before))

key-at-requires-3 : tie.Need-key_at-high-requires
key-at-requires-3 c κs =
    let a = c.args in
    omega (arith, length-4 a.kind a.body.now c.in-4.is (fit c.before.before))

scan-reply-requires : tie.Need-scan_reply-requires
scan-reply-requires c κs =
    let p = c.requires in
    (record { memory = p.0.memory; kept = p.0.kept }, p.1.0)

flush-reply-requires : tie.Need-flush_reply-requires
flush-reply-requires c κs = search rules

tidy-reply-requires : tie.Need-tidy_reply-requires
tidy-reply-requires c κs = search rules

report-reply-requires : tie.Need-report_reply-requires
report-reply-requires c κs =
    let b = c in
    (counts-kept _ b.requires.0.kept b.requires.0.memory, b.requires.1.0)

key-at-requires-4 : tie.Need-key_at-key-requires-in-8
key-at-requires-4 c κs =
    let a = c.args in
    omega (arith, length-8 a.kind a.body.now c.in-8.is (fit c.before))

probe-reply-requires : tie.Need-probe_reply-requires
probe-reply-requires c κs =
    let p = c.requires in
    (record { memory = p.0.memory; kept = p.0.kept }, p.1.0)

put-requires : tie.Need-put-requires
put-requires c κs =
    let t = c in
    let i = t in
    let b = i in
    let f = form-put b.args.kind b.args.body.now (omega (arith, t.in-1.in_default-own.rest.1)) (omega (arith, t.in-1.if-kind-lt3-own.true)) (fit i.before.before.before) in
    (b.requires.0.memory, ((unbroken _ b.requires.0.kept.unbroken).memory, (f.0, (f.1, b.requires.1.0))))

answer-bare-requires-2 : tie.Need-answer_bare-requires-in-0
answer-bare-requires-2 c κs = search rules

same-length-2 : tie.Need-shape_of-area-in-3
same-length-2 c = search rules

same-length-3 : tie.Need-shape_of-cards-in-3
same-length-3 c = search rules

same-length-4 : tie.Need-shape_of-lists-in-3
same-length-4 c = search rules

same-length-5 : tie.Need-shape_of-memory-in-3
same-length-5 c = search rules

same-length-6 : tie.Need-shape_of-answer-in-3
same-length-6 c = search rules

returns-2 : tie.Need-returns-in-3
unfolding key_in
returns-2 c =
    let r = c in
    let y = r in
    let x = y in
    let i = x in
    let g = i in
    let k = g in
    let a = k.args in
    let m = lent a.area.now a.cards.now a.lists.now (head_words a.head) a.memory.now in
    let s = store_of m in (
      turn-read m (held k.before.before.before.before.before.before.before.before) 3 (serve_look_up s y.key_at-key.result.value) a.answer.now _ a.at _ (look-up-store s _) r.look_up_reply.ensures
          ∙ turned_by_lem m a.kind a.body.now a.answer.now a.at (sym x.in-3.is) (ap (serve_look_up s) y.key_at-key.ensures ∙ sym (serve-3 s a.kind a.body.now x.in-3.is (fit i.before.before.before.before.before.before))),
      after-other a.suspect s a.kind a.body.now (λ e. omega (arith, x.in-3.is)),
    )

same-length-7 : tie.Need-shape_of-area-in-4
same-length-7 c = search rules

same-length-8 : tie.Need-shape_of-cards-in-4
same-length-8 c = search rules

same-length-9 : tie.Need-shape_of-lists-in-4
same-length-9 c = search rules

same-length-10 : tie.Need-shape_of-memory-in-4
same-length-10 c = search rules

same-length-11 : tie.Need-shape_of-answer-in-4
same-length-11 c = search rules

returns-3 : tie.Need-returns-in-4
unfolding key_in high_in
returns-3 c =
    let r = c in
    let z = r in
    let y = z in
    let x = y in
    let i = x in
    let g = i in
    let k = g in
    let a = k.args in
    let m = lent a.area.now a.cards.now a.lists.now (head_words a.head) a.memory.now in
    let s = store_of m in (
      turn-read m (held k.before.before.before.before.before.before.before.before.before) 4 (serve_scan s y.key_at-low.result.value z.key_at-high.result.value) a.answer.now _ a.at _ (scan-store s _ _) r.scan_reply.ensures
          ∙ turned_by_lem m a.kind a.body.now a.answer.now a.at (sym x.in-4.is)
          (ap (λ (n : ℕ). serve_scan s n z.key_at-high.result.value) y.key_at-low.ensures ∙ ap (λ (n : ℕ). serve_scan s (key_in a.body.now) n) z.key_at-high.ensures
          ∙ sym (serve-4 s a.kind a.body.now x.in-4.is (fit i.before.before.before.before.before.before.before))),
      after-other a.suspect s a.kind a.body.now (λ e. omega (arith, x.in-4.is)),
    )

same-length-12 : tie.Need-shape_of-area-in-5
same-length-12 c = search rules

same-length-13 : tie.Need-shape_of-cards-in-5
same-length-13 c = search rules

same-length-14 : tie.Need-shape_of-lists-in-5
same-length-14 c = search rules

same-length-15 : tie.Need-shape_of-memory-in-5
same-length-15 c = search rules

same-length-16 : tie.Need-shape_of-answer-in-5
same-length-16 c = search rules

returns-4 : tie.Need-returns-in-5
returns-4 c =
    let r = c in
    let x = r in
    let i = x in
    let g = i in
    let k = g in
    let a = k.args in
    let m = lent a.area.now a.cards.now a.lists.now (head_words a.head) a.memory.now in
    let s = store_of m in (
      r.flush_reply.ensures.0 ∙ turned_by_lem m a.kind a.body.now a.answer.now a.at (sym x.in-5.is) (sym (serve-5 s a.kind a.body.now x.in-5.is (fit i.before.before.before.before.before.before.before.before.before.before.before.before.before.before.before.before))),
      r.flush_reply.ensures.1 ∙ after-other a.suspect s a.kind a.body.now (λ e. omega (arith, x.in-5.is)),
    )

same-length-17 : tie.Need-shape_of-area-in-6
same-length-17 c = search rules

same-length-18 : tie.Need-shape_of-cards-in-6
same-length-18 c = search rules

same-length-19 : tie.Need-shape_of-lists-in-6
same-length-19 c = search rules

same-length-20 : tie.Need-shape_of-memory-in-6
same-length-20 c = search rules

same-length-21 : tie.Need-shape_of-answer-in-6
same-length-21 c = search rules

returns-5 : tie.Need-returns-in-6
returns-5 c =
    let r = c in
    let x = r in
    let i = x in
    let g = i in
    let k = g in
    let a = k.args in
    let m = lent a.area.now a.cards.now a.lists.now (head_words a.head) a.memory.now in
    let s = store_of m in (
      r.tidy_reply.ensures.0 ∙ turned_by_lem m a.kind a.body.now a.answer.now a.at (sym x.in-6.is) (sym (serve-6 s a.kind a.body.now x.in-6.is (fit i.before.before.before.before.before.before.before.before.before.before.before.before.before))),
      r.tidy_reply.ensures.1 ∙ after-tidy a.suspect s a.kind a.body.now x.in-6.is (fit i.before.before.before.before.before.before.before.before.before.before.before.before.before),
    )

same-length-22 : tie.Need-shape_of-cards-in-7
same-length-22 c = search rules

same-length-23 : tie.Need-shape_of-memory-in-7
same-length-23 c = search rules

same-length-24 : tie.Need-shape_of-answer-in-7
same-length-24 c = search rules

returns-6 : tie.Need-returns-in-7
returns-6 c =
    let r = c in
    let x = r in
    let i = x in
    let g = i in
    let k = g in
    let a = k.args in
    let m = lent a.area.now a.cards.now a.lists.now (head_words a.head) a.memory.now in
    let s = store_of m in
    let e = rw (report-served m k.requires.0.kept) at r.report_reply.ensures in (
      turn-read m (held k.before.before.before.before.before.before.before) 7 (serve_report s) a.answer.now _ a.at _ (report-store s) e
          ∙ turned_by_lem m a.kind a.body.now a.answer.now a.at (sym x.in-7.is) (sym (serve-7 s a.kind a.body.now x.in-7.is (fit i.before.before.before.before.before))),
      after-other a.suspect s a.kind a.body.now (λ e. omega (arith, x.in-7.is)),
    )

same-length-25 : tie.Need-shape_of-area-in-8
same-length-25 c = search rules

same-length-26 : tie.Need-shape_of-cards-in-8
same-length-26 c = search rules

same-length-27 : tie.Need-shape_of-lists-in-8
same-length-27 c = search rules

same-length-28 : tie.Need-shape_of-memory-in-8
same-length-28 c = search rules

same-length-29 : tie.Need-shape_of-answer-in-8
same-length-29 c = search rules

returns-7 : tie.Need-returns-in-8
unfolding key_in
returns-7 c =
    let r = c in
    let y = r in
    let x = y in
    let i = x in
    let g = i in
    let k = g in
    let a = k.args in
    let m = lent a.area.now a.cards.now a.lists.now (head_words a.head) a.memory.now in
    let s = store_of m in (
      turn-read m (held k.before.before.before.before.before.before.before.before) 8 (serve_probe s y.key_at-key-in-8.result.value) a.answer.now _ a.at _ (probe-store s _) r.probe_reply.ensures
          ∙ turned_by_lem m a.kind a.body.now a.answer.now a.at (sym x.in-8.is) (ap (serve_probe s) y.key_at-key-in-8.ensures ∙ sym (serve-8 s a.kind a.body.now x.in-8.is (fit i.before.before.before.before.before.before))),
      after-other a.suspect s a.kind a.body.now (λ e. omega (arith, x.in-8.is)),
    )

same-length-30 : tie.Need-shape_of-memory-in-1
same-length-30 c = search rules

same-length-31 : tie.Need-shape_of-answer-in-1
same-length-31 c = search rules

returns-8 : tie.Need-returns-in-1
returns-8 c =
    let r = c in
    let t = r in
    let i = t in
    let g = i in
    let k = g in
    let a = k.args in
    let m = lent a.area.now a.cards.now a.lists.now (head_words a.head) a.memory.now in
    let s = store_of m in (
      turn-put m (held k.before.before.before.before.before.before.before.before.before.before) a.kind (entry_of a.kind (key_in a.body.now) (value_in a.body.now)) _ a.answer.now _ a.at _ r.put.ensures.0 r.put.ensures.1
          ∙ turned_by_lem m a.kind a.body.now a.answer.now a.at refl (sym (serve-put s a.kind a.body.now (omega (arith, t.in-1.in_default-own.rest.1)) (omega (arith, t.in-1.if-kind-lt3-own.true)) (fit i.before.before.before.before.before.before.before.before))),
      after-other a.suspect s a.kind a.body.now (λ e. omega (arith, t.in-1.if-kind-lt3-own.true)),
    )

same-length-32 : tie.Need-shape_of-answer-in-0
same-length-32 c = search rules

returns-9 : tie.Need-returns-in-0
returns-9 c =
    let r = c in
    let x = r in
    let i = x in
    let g = i in
    let k = g in
    let a = k.args in
    let m = lent a.area.now a.cards.now a.lists.now (head_words a.head) a.memory.now in
    let s = store_of m in
    let off : known a.kind ≡ false = ⊎_elim (λ w. rw w.in-0-1.keys7 unknown-0)
    (λ w. let n = w.in_default-1.rest.0 in
    let six : 6 ≤ a.kind = omega (arith, w.if-kind-lt3-1.false, n.0.0.0.0.0.1, n.0.0.0.0.1, n.0.0.0.1) in
    unknown-above a.kind (omega (six, n.0.0.1, n.0.1, n.1, arith))) x.in-0-1.branch-raw in (
      turn-refused m (held k.before.before.before.before.before.before.before) a.kind 16 a.answer.now _ a.at _ r.answer_bare-in-0.ensures
          ∙ turned_by_lem m a.kind a.body.now a.answer.now a.at refl (sym (serve-unknown s a.kind a.body.now off)),
      after-other a.suspect s a.kind a.body.now (λ e. known-six a.kind e off),
    )

pub serve_spec : {M : Type 1} → statement M
serve_spec =
    tie.close (tie.spec is-good-requires answer-bare-requires same_length returns key-at-requires look-up-reply-requires key-at-requires-2 key-at-requires-3 scan-reply-requires flush-reply-requires tidy-reply-requires report-reply-requires key-at-requires-4 probe-reply-requires put-requires answer-bare-requires-2 same-length-2 same-length-3 same-length-4 same-length-5 same-length-6 returns-2 same-length-7 same-length-8 same-length-9 same-length-10 same-length-11 returns-3 same-length-12 same-length-13 same-length-14 same-length-15 same-length-16 returns-4 same-length-17 same-length-18 same-length-19 same-length-20 same-length-21 returns-5 same-length-22 same-length-23 same-length-24 returns-6 same-length-25 same-length-26 same-length-27 same-length-28 same-length-29 returns-7 same-length-30 same-length-31 returns-8 same-length-32 returns-9)
