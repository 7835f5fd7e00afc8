use Rattle.std.proofs.Common.{◌≡◌, ◌+◌, length, take, List, ℕ}
use Rattle.std.specs.Prelude.{sum_by}
use Rattle.table_fit.proofs.services.parts_fit.Given as goal

abbrev pub invariant-loop-part : goal.invariant-loop-part
invariant-loop-part l = l.spare + sum_by (λ (part : List ℕ). length part) (take l.part-index l.parts) ≡ l.nb
