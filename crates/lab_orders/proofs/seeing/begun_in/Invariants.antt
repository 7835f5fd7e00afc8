use Rattle.std.proofs.Common.{◌≡◌, ◌+◌}
use Rattle.std.specs.Prelude.{count_by}
use Rattle.service_ends.specs.Standing.{active_of}
use Rattle.lab_walks.specs.Serial.{has_begun}
use Rattle.lab_orders.proofs.seeing.begun_in.Given as goal

abbrev pub invariant-loop-transaction : goal.invariant-loop-transaction
invariant-loop-transaction l = l.begun + count_by has_begun (active_of l.transaction-iterator) ≡ count_by has_begun l.core.state.active
