-- `put_list` meets its contract: the items are those of the level.
use mathlib.Core.Path.{◌∙◌, ap}
use lib.ListN.{take}
use Rattle.ldc.specs.Layout.{part_in}
use Rattle.saved_book.specs.Saved.{list_bytes}
use Rattle.saved_write.proofs.Puts.{put_as}
use Rattle.saved_write.proofs.lists.put_list.Goals as goal

pub put_items-requires : goal.put_items-requires
put_items-requires c =
    rw (c.items.ensures, c.length-len.ensures) c.requires.1.1.1

pub returns : goal.returns
returns c =
    put_as c.put_items.ensures
    (ap list_bytes (c.items.ensures ∙ ap (λ n. take n (part_in c.args.places c.args.lists.now c.args.n)) c.length-len.ensures))
