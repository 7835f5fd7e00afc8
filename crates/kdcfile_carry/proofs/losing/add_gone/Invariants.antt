use Rattle.std.proofs.Common.{◌≡◌, ◌++◌, filter, map, take}
use Rattle.kdcfile_carry.specs.Losing.{is_gone}
use Rattle.kdcfile_carry.proofs.losing.add_gone.Given as goal

abbrev pub invariant-loop-item : goal.invariant-loop-item
invariant-loop-item g l = l.gone.items ≡ l.fn.gone.items ++ filter (is_gone l.fn.new) (map g.K.Kind.row_of (take l.item-index l.items))
