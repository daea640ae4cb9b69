-- The reply to a look-up, by the entry that decides.
use Prim.Native.Nat.{ℕ}
use mathlib.Core.Path.{◌≡◌, refl, sym, ◌∙◌, ap}
use mathlib.Core.List.{List}
use mathlib.Core.Option.{Option, some, none}
use Rattle.table.specs.Entry.{Entry}
use Rattle.table.specs.Search.{find}
use Rattle.ldc.specs.Lists.{flat}
use Rattle.ldc.specs.Store.{Store}
use Rattle.ldc.specs.Read.{read_order, value_of, look_up, look_up_served, serve_look_up}
use Rattle.wire.specs.Reply.{replied}
use Rattle.serve_read.specs.Value.{value_reply}

replied-value : (s : Store) (o : Option (List ℕ)) → replied 3 (look_up_served s o) ≡ value_reply o
replied-value s (some v) = refl
replied-value s none = refl

pub look-found : (s : Store) (k : ℕ) (e : Entry) → some e ≡ find k (flat (read_order s)) → replied 3 (serve_look_up s k) ≡ value_reply e.value
unfolding serve_look_up look_up
look-found s k e h = replied-value s (value_of (find k (flat (read_order s)))) ∙ ap (λ o. value_reply (value_of o)) (sym h)

pub look-missed : (s : Store) (k : ℕ) → none ≡ find k (flat (read_order s)) → replied 3 (serve_look_up s k) ≡ value_reply none
unfolding serve_look_up look_up
look-missed s k h = replied-value s (value_of (find k (flat (read_order s)))) ∙ ap (λ o. value_reply (value_of o)) (sym h)
