-- A sound store (document 01): the parts of rules A to G that speak of the store. What they say of the lent numbers besides is in `Lent`.
use Rattle.std.specs.Prelude.{ℕ, List, [], ◌∷◌, ◌++◌, map, Bool, true, cond, not, ◌&&◌, ◌||◌, leb, ltb, eqb, length}
use Rattle.std.specs.Bool.{beq}
use Rattle.table.specs.Table.{is_table}
use Rattle.ldc.specs.Lists.{all, any, how_many, is_empty, flat, all_from}
use Rattle.ldc.specs.Store.{Link, Store, size, card, links, links_of, is_free, is_live, is_frozen, bytes_at, level, slice, span_start, span_end}
use Rattle.ldc.specs.Layout.{link_limit}

-- A: threshold 1 to 8 (a card has room for as many links) and cursor below P.
unfoldable pub threshold_good : ℕ → Bool
threshold_good t = leb 1 t && leb t link_limit

unfoldable pub rule_a : Store → Bool
rule_a s = threshold_good s.threshold && ltb s.cursor (size s)

-- B: each place is free or frozen and in no list, or live and in one list once; list items name places.
unfoldable pub times_listed : Store → ℕ → ℕ
times_listed s p = how_many (eqb p) (flat s.levels)

unfoldable pub rule_b : Store → Bool
rule_b s =
    all (λ p. ltb p (size s)) (flat s.levels)
    && all_from (size s) 0 (λ p. eqb (times_listed s p) (cond (is_live (card s p)) 1 0))

-- C: live and frozen places hold tables.
unfoldable pub rule_c : Store → Bool
rule_c s = all_from (size s) 0 (λ p. is_free (card s p) || is_table (bytes_at s p))

-- E: links hang only on levels 1 to 3; low is not above high; each names a frozen place and holds at least one of its entries; its number
-- is that of the place's entries in its range; links naming one place share no key and hang on one level.
unfoldable pub link_good : Store → Link → Bool
link_good s l =
    leb l.low l.high
    && (is_frozen (card s l.place) && (not (is_empty (slice s l)) && eqb l.number (length (slice s l))))

-- A link with the level of the table that it hangs on.
pub record Hung : Type 0 where
  pub on : ℕ
  pub link : Link

unfoldable pub hung_on : Store → ℕ → List Hung
hung_on s n = flat (map (λ p. map (λ l. record { on = n; link = l }) (links s p)) (level s n))

unfoldable pub apart : Hung → Hung → Bool
apart g h =
    not (eqb g.link.place h.link.place)
    || (eqb g.on h.on && (ltb g.link.high h.link.low || ltb h.link.high g.link.low))

abbrev pub all_apart : List Hung → Bool
all_apart [] = true
all_apart (h ∷ hs) = all (apart h) hs && all_apart hs

unfoldable pub rule_e : Store → Bool
rule_e s =
    all (λ p. is_empty (links s p)) (level s 0)
    && (all_from (size s) 0 (λ p. all (link_good s) (links s p))
    && all_apart (hung_on s 1 ++ (hung_on s 2 ++ hung_on s 3)))

-- F: a place is frozen exactly if a link names it.
unfoldable pub named : Store → ℕ → Bool
named s p = any (λ c. any (λ l. eqb l.place p) (links_of c)) s.cards

unfoldable pub rule_f : Store → Bool
rule_f s = all_from (size s) 0 (λ p. beq (is_frozen (card s p)) (named s p))

-- G: in levels 1 to 3 each table's span ends below the start of the next span.
abbrev pub spans_rise : Store → List ℕ → Bool
spans_rise s [] = true
spans_rise s (p ∷ []) = true
spans_rise s (p ∷ q ∷ ps) = ltb (span_end s p) (span_start s q) && spans_rise s (q ∷ ps)

unfoldable pub rule_g : Store → Bool
rule_g s = spans_rise s (level s 1) && (spans_rise s (level s 2) && spans_rise s (level s 3))
