-- `read_head` meets its contract: the words as they are saved, and the lengths of the four lists, each of which stands where the one before it ends.
use Rattle.saved_read.proofs.Levels.{four_lists, head-words}
use Rattle.saved_read.proofs.head.read_head.Goals as goal

pub list_end-second-requires : goal.list_end-second-requires
list_end-second-requires c = (four_lists _ _ c.requires.0 c.requires.1).0.room

pub list_end-third-requires : goal.list_end-third-requires
list_end-third-requires c = rw c.list_end-second.ensures (four_lists _ _ c.requires.0 c.requires.1).1.0.room

pub list_end-fourth-requires : goal.list_end-fourth-requires
list_end-fourth-requires c = rw (c.list_end-third.ensures, c.list_end-second.ensures) (four_lists _ _ c.requires.0 c.requires.1).1.1.0.room

pub word_at-requires-5 : goal.word_at-requires-5
word_at-requires-5 c = (four_lists _ _ c.requires.0 c.requires.1).0.begun

pub word_at-requires-6 : goal.word_at-requires-6
word_at-requires-6 c = rw c.list_end-second.ensures (four_lists _ _ c.requires.0 c.requires.1).1.0.begun

pub word_at-requires-7 : goal.word_at-requires-7
word_at-requires-7 c = rw (c.list_end-third.ensures, c.list_end-second.ensures) (four_lists _ _ c.requires.0 c.requires.1).1.1.0.begun

pub word_at-requires-8 : goal.word_at-requires-8
word_at-requires-8 c =
    rw (c.list_end-fourth.ensures, c.list_end-third.ensures, c.list_end-second.ensures) (four_lists _ _ c.requires.0 c.requires.1).1.1.1.begun

pub returns : goal.returns
returns c =
    rw (
      c.word_at-8.ensures,
      c.word_at-7.ensures,
      c.word_at-6.ensures,
      c.word_at-5.ensures,
      c.get_u64-2.ensures,
      c.word_at-4.ensures,
      c.get_u64.ensures,
      c.word_at-3.ensures,
      c.word_at-2.ensures,
      c.word_at.ensures,
    )
    (head-words c.args.s.now c.args.at _ _ _ c.requires.1 c.list_end-second.ensures c.list_end-third.ensures c.list_end-fourth.ensures)
