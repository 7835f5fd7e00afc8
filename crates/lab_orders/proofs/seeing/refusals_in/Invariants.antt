use Rattle.std.proofs.Common.{◌≡◌, ◌||◌}
use Rattle.std.specs.List.{list_any}
use Rattle.service_ends.specs.Standing.{active_of}
use Rattle.lab_walks.specs.Signs.{is_k04, is_k05, is_refused_in, was_refused}
use Rattle.lab_orders.proofs.seeing.refusals_in.Given as goal

abbrev pub invariant-loop-transaction : goal.invariant-loop-transaction
invariant-loop-transaction l = record {
  k04 : (l.k04 || list_any (was_refused is_k04) (active_of l.transaction-iterator)) ≡ is_refused_in is_k04 l.core.state;
  k05 : (l.k05 || list_any (was_refused is_k05) (active_of l.transaction-iterator)) ≡ is_refused_in is_k05 l.core.state;
}
