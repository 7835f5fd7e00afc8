-- What a tree's pairs end as, where a `&mut` to one of their values is returned.
use Rattle.std.specs.Prelude.{List, Option}
use Rattle.std.specs.Borrow.{LendsIf, Fml, RattleType, MutBor}
use Rattle.std.specs.FinMap.{put}
use Rattle.kd_base.specs.Lends.{OrdMembers}
use Rattle.kd_base.specs.contracts.sorted_pairs.ordered.OrderedMap.{the_row}

abbrev pub map_row : (K V : RattleType) → OrdMembers K.Denot → RattleType
map_row K V order = the_row K V (record { cmp = order.cmp }) (record { eq = order.eq }) (record { partial_cmp = order.partial_cmp })

-- once the borrow ends, the key has the last value written through it, where it has one, and else the pairs stay
abbrev pub lends_in_tree : (K V : RattleType) (order : OrdMembers K.Denot) (pairs : MutBor (List (K.Denot × V.Denot))) (key : K.Denot) → Option (MutBor V.Denot) → Fml
lends_in_tree K V order pairs key value = LendsIf (map_row K V order) V pairs value (λ last. put order.cmp key last pairs.now) pairs.now
