use Rattle.std.specs.Prelude.{◌≡◌, ℕ, Some}
use Rattle.std.proofs.Common.{ap, sym, ◌∙◌}
use Rattle.std.specs.FinMap.{find}
use Rattle.kdcs_types.specs.declared.call.Code.{Code}
use Rattle.abstract_monitor.specs.Bytes.{Bytes, bytes_cmp}
use Rattle.abstract_monitor.specs.Calls.{Performed, delete_local, delete_local_by, read_answer, read_away, read_away_by, replied, without_local}
use Rattle.abstract_monitor.specs.State.{OpenTransaction as Transaction}
use Rattle.service_parts.specs.Areas.{PrivateAreas, with_areas_of}
use Rattle.open_transaction.specs.Transactions.{transaction_of}
use Rattle.kdcs_calls.proofs.locals.read_away.Goals as goal

away : (x : Transaction) (old new : PrivateAreas) (name : Bytes) (capacity : ℕ) (bytes : Bytes) (code : Code) → find bytes_cmp name old.lssbs ≡ Some bytes → delete_local (with_areas_of x old) name ≡ replied (with_areas_of x new) code → read_answer (with_areas_of x new) capacity bytes ≡ read_away (with_areas_of x old) name capacity
away x old new name capacity bytes code found deleted =
    let left : record (with_areas_of x old) { lssbs = without_local name old.lssbs } ≡ with_areas_of x new = ap (λ (p : Performed). p.0) (sym (ap (delete_local_by (with_areas_of x old) name) found) ∙ deleted) in
    ap (λ (y : Transaction). read_answer y capacity bytes) (sym left) ∙ sym (ap (read_away_by (with_areas_of x old) name capacity) found)

pub returns-in-Some-clause-exact : goal.returns-in-Some-clause-exact
returns-in-Some-clause-exact c =
    rw c.read_reply.ensures
    (away (transaction_of c.args.transaction.now) _ _ c.args.name c.args.capacity c.in-Some.bytes _ (sym c.in_ok-read_local.ensures ∙ c.in-Some.is) (c.delete_local-deleted.ensures.exact (transaction_of c.args.transaction.now)))
