use Rattle.monitor_parts.proofs.session_table.Keeping.{nobody}
use Rattle.monitor_parts.proofs.session_table.Pterms.{no_pterms}
use Rattle.monitor_parts.proofs.session_table.sessions.Sessions.new.Goals as goal

pub invariant_of-result : goal.invariant_of-result
invariant_of-result c = (nobody _ c.new.ensures, no_pterms _ _ c.new.ensures c.new-2.ensures)
