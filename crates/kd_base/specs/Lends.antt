-- What the pairs end as, where a `&mut` to one of their values is returned.
use Rattle.std.specs.Prelude.{Bool, List, Option}
use Rattle.std.specs.Borrow.{Lends, LendsIf, Fml, RattleType, MutBor}
use Rattle.std.specs.declared.cmp.Ordering.{Ordering}
use Rattle.std.specs.FinMap.{put}
use Rattle.kd_base.specs.contracts.sorted_pairs.pairs.SortedPairs.{the_row}

-- what a clause has as the order of the keys
abbrev pub OrdMembers : Type 0 → Type 0
OrdMembers K = record { partial_cmp : K → K → Option Ordering; eq : K → K → Bool; cmp : K → K → Ordering }

abbrev pub pairs_row : (K V : RattleType) → OrdMembers K.Denot → RattleType
pairs_row K V order = the_row K V (record { cmp = order.cmp }) (record { eq = order.eq }) (record { partial_cmp = order.partial_cmp })

module _ (K V : RattleType) (order : OrdMembers K.Denot) (pairs : MutBor (List (K.Denot × V.Denot))) (key : K.Denot) where
  -- once the borrow ends, the key has the last value written through it
  abbrev pub lends_value : MutBor V.Denot → Fml
  lends_value value = Lends (pairs_row K V order) V pairs value (λ last. put order.cmp key last pairs.now)

  -- the same where there is one, and else the pairs stay
  abbrev pub lends_found : Option (MutBor V.Denot) → Fml
  lends_found value = LendsIf (pairs_row K V order) V pairs value (λ last. put order.cmp key last pairs.now) pairs.now
