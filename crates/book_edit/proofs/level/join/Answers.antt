-- `join` meets its contract: the part is changed at one item, and comes back as one run of the lists.
use Rattle.std.proofs.Common.{ℕ, ◌≡◌, ◌+◌, ◌*◌, ◌-◌, List, [], ◌∷◌, ◌++◌, ap, ◌∙◌, length, set, arith}
use lib.ListN.{length-append, length-set}
use Rattle.std.proofs.lemmas.List.Edits.{sets}
use Rattle.coding.proofs.Sets.{sets-back}
use Rattle.ldc.proofs.Lent.Parts.{padded}
use Rattle.ldc.specs.Layout.{items_in, length_word}
use Rattle.book.specs.Head.{head_words}
use Rattle.book_edit.specs.Level.{with_items}
use Rattle.book_edit.proofs.Levels.{part-long, items-long, part-joined}
use Rattle.book_edit.proofs.level.join.Goals as goal

pub returns : goal.returns
unfolding with_items
returns c =
    let a = c.args in
    let words = head_words a.head in
    let items : List ℕ = items_in a.size a.lists.now words a.n in
    let l = c.requires.0 in
    let k : a.n * a.size + a.size - a.n * a.size ≡ a.size = omega arith in
    let changed = rw (k, c.length_of-old.ensures) at c.append.ensures in
    let whole : c.append.new.part ≡ padded a.size (items ++ a.p ∷ []) =
    changed ∙ part-joined a.n a.size a.lists.now words l a.p c.requires.1 in
    let long : length c.append.new.part ≡ a.size =
    ap length changed ∙ simp length-set (part-long a.n a.size a.lists.now words l) in
    let more : c.length_of-old.result + 1 ≡ length (items ++ a.p ∷ []) =
    rw length-append (omega (arith, c.length_of-old.ensures, items-long a.n a.size a.lists.now words l)) in (
      rw k (sets-back a.lists.now (a.n * a.size) a.size c.append.new.part l.within long ∙ ap (sets a.lists.now (a.n * a.size)) whole),
      c.with_length.ensures ∙ ap (set words (length_word a.n)) more,
    )
