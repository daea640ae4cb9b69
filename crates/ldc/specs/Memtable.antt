-- Put and delete: they replace the key's memory entry or insert one.
use Rattle.std.specs.Prelude.{List, [], ◌∷◌, cond, ◌||◌, ltb, eqb, length}
use Rattle.table.specs.Limits.{table_limit}
use Rattle.table.specs.Entry.{Entry}
use Rattle.table.specs.Search.{find}
use Rattle.ldc.specs.Lists.{is_some}
use Rattle.ldc.specs.Store.{Store, with_memory}
use Rattle.ldc.specs.Request.{Served, memory_full, done, only}

-- Rising entries with one put among them, in place of an earlier one under its key.
abbrev pub put : Entry → List Entry → List Entry
put e [] = e ∷ []
put e (f ∷ es) = cond (ltb e.key f.key) (e ∷ f ∷ es) (cond (eqb e.key f.key) (e ∷ es) (f ∷ put e es))

-- Number 18: a new key when the memory holds 16.
unfoldable pub serve_put : Store → Entry → Served
serve_put s e =
    cond (is_some (find e.key s.memory) || ltb (length s.memory) table_limit)
    (done (with_memory (put e s.memory) s) [])
    (only memory_full s)
