-- Put and delete keep a store sound: they touch the memory table alone, and it stays one.
use Prim.Native.Nat.{suc}
use mathlib.Core.Path.{refl, ◌∙◌}
use mathlib.Core.List.{List}
use Rattle.table.specs.Entry.{Entry}
use Rattle.table.specs.Valid.{Valid}
use Rattle.ldc.specs.Store.{Store, size, card, links, bytes_at, table, level, slice, span_start, span_end, with_memory}
use Rattle.ldc.specs.Rules.{rule_a, times_listed, link_good, hung_on, named}
use Rattle.ldc.proofs.Stores.Frame.{spans_rise-same}
use Rattle.ldc.proofs.Stores.Sound.{Sound}

pub sound-memory : (s : Store) (es : List Entry) → Sound s → Valid es → Sound (with_memory es s)
unfolding size card links bytes_at table level slice span_start span_end rule_a times_listed link_good hung_on named
sound-memory s es S v = record {
  fewest = S.fewest;
  most = S.most;
  placed = S.placed;
  four = S.four;
  two = S.two;
  rule_a-kept = S.rule_a-kept;
  listed = S.listed;
  tables = S.tables;
  memory = v;
  bare = S.bare;
  few = S.few;
  hung = S.hung;
  disjoint = S.disjoint;
  naming = S.naming;
  rising = λ n. spans_rise-same s (with_memory es s) (level s (suc n)) (λ p m. (refl, refl)) ∙ S.rising n;
}
