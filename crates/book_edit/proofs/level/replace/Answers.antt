-- `replace` meets its contract: the place is found, for it is among the items, and the part comes back as one run of the lists.
use Rattle.std.proofs.Common.{ℕ, ◌≡◌, ◌+◌, ◌*◌, ◌-◌, List, sym, ap, ◌∙◌, length, set, take, drop, arith}
use Rattle.std.proofs.lemmas.List.Edits.{sets}
use Rattle.std.specs.Prelude.{Option}
use Rattle.coding.proofs.Sets.{sets-back}
use Rattle.ldc.specs.Steps.{replaced}
use Rattle.ldc.specs.Layout.{length_in, items_in, length_word}
use Rattle.ldc.proofs.Lent.Parts.{padded}
use Rattle.book.specs.Head.{head_words}
use Rattle.book.specs.Level.{index_of}
use Rattle.book.proofs.Levels.{index-some}
use Rattle.book_edit.specs.Level.{with_items}
use Rattle.book_edit.proofs.Levels.{part-long, items-long, length-replaced, part-replaced}
use Rattle.book_edit.proofs.level.replace.Goals as goal

-- What was sought in the part that was lent was sought in the level's items.
sought : (n size p old : ℕ) (lists words : List ℕ) (o : Option ℕ) → old ≡ length_in words n
    → o ≡ index_of p (take old (take (n * size + size - n * size) (drop (n * size) lists))) → o ≡ index_of p (items_in size lists words n)
sought n size p old lists words o e f =
    let k : n * size + size - n * size ≡ size = omega arith in
    rw (k, e) at f

pub unwrap-i-requires : goal.unwrap-i-requires
unwrap-i-requires c =
    let a = c.args in
    let found = sought a.n a.size a.p c.length_of-old.result a.lists.now (head_words a.head) c.index.result c.length_of-old.ensures c.index.ensures in
    rw found (index-some a.p (items_in a.size a.lists.now (head_words a.head) a.n) c.requires.1.0)

pub replace-requires : goal.replace-requires
replace-requires c =
    let a = c.args in
    let words = head_words a.head in
    let items = items_in a.size a.lists.now words a.n in
    let found = sought a.n a.size a.p c.length_of-old.result a.lists.now words c.index.result c.length_of-old.ensures c.index.ensures in
    let r = length-replaced a.p c.unwrap-i.result a.items.now items (sym found ∙ c.unwrap-i.ensures) in
    let k : a.n * a.size + a.size - a.n * a.size ≡ a.size = omega arith in
    let long = part-long a.n a.size a.lists.now words c.requires.0 in (
      omega (arith, r.0, c.length_of-old.ensures, items-long a.n a.size a.lists.now words c.requires.0),
      (rw k (omega (arith, long, c.length_of-old.ensures, c.requires.0.fits)), rw k (omega (arith, long, c.length_of-old.ensures, c.requires.1.1))),
    )

pub returns : goal.returns
unfolding with_items
returns c =
    let a = c.args in
    let words = head_words a.head in
    let items = items_in a.size a.lists.now words a.n in
    let l = c.requires.0 in
    let found = sought a.n a.size a.p c.length_of-old.result a.lists.now words c.index.result c.length_of-old.ensures c.index.ensures in
    let located : index_of a.p items ≡ _ = sym found ∙ c.unwrap-i.ensures in
    let r = length-replaced a.p c.unwrap-i.result a.items.now items located in
    let k : a.n * a.size + a.size - a.n * a.size ≡ a.size = omega arith in
    let changed = rw (k, c.length_of-old.ensures) at c.replace.ensures in
    let whole : c.replace.new.part ≡ padded a.size (replaced a.p a.items.now items) =
    changed ∙ part-replaced a.n a.size a.lists.now words l a.p c.unwrap-i.result a.items.now located c.requires.1.1 in
    let long : length c.replace.new.part ≡ a.size = c.replace.auto.part ∙ rw k (part-long a.n a.size a.lists.now words l) in
    let many : c.length_of-old.result + length a.items.now - 1 ≡ length (replaced a.p a.items.now items) =
    omega (arith, r.1, c.length_of-old.ensures, items-long a.n a.size a.lists.now words l) in (
      rw k (sets-back a.lists.now (a.n * a.size) a.size c.replace.new.part l.within long ∙ ap (sets a.lists.now (a.n * a.size)) whole),
      c.with_length.ensures ∙ ap (set words (length_word a.n)) many,
    )
