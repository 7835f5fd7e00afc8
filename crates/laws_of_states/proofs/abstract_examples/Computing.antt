-- One name to unfold where a proof computes with the monitor.
use Rattle.std.specs.Fmt.{digits}
use Rattle.kdcs_types.specs.Difference.{differing}
use Rattle.kd_base.specs.Text.{trim_end}
use Rattle.abstract_monitor.specs.Contents.{trim_start, fitted, overlaid, number_of, in_digits, number_in, compared}
use Rattle.abstract_monitor.specs.Fields.{value_of, stored}
use Rattle.abstract_monitor.specs.Statement.{done_by, step, answered}
use Rattle.abstract_monitor.specs.Access.{denial_of}
use Rattle.abstract_monitor.specs.Calls.{job_target, moment_of, called, call_outcome}
use Rattle.abstract_monitor.specs.Charges.{total_charge}
use Rattle.abstract_monitor.specs.Commands.{started, signed_off, show_next, used, use_now, rotated, state_after, command_of, steps_of}
use Rattle.abstract_monitor.specs.Endings.{opened, followed, followed_by_input, with_areas, numbered, row_after, synchronised, broken, durable, refusal}
use Rattle.abstract_monitor.specs.Listing.{listing}
use Rattle.abstract_monitor.specs.Locks.{answer_of, reaches, told_now}
use Rattle.abstract_monitor.specs.Made.{made_rounds, made_lines}
use Rattle.abstract_monitor.specs.Outcomes.{pend_outcome}
use Rattle.abstract_monitor.specs.Picks.{least_job, pick}
use Rattle.abstract_monitor.specs.Redelivery.{fate}
use Rattle.abstract_monitor.specs.Sessions.{service_state, split_at, use_under, use_of}
use Rattle.abstract_monitor.specs.State.{unit_of}
use Rattle.abstract_monitor.specs.Statements.{area_of, statement}
use Rattle.abstract_monitor.specs.Trace.{history, trace, tables_after, bytes_of}
use Rattle.abstract_monitor.specs.Turns.{pterm_of_user, abnormal, settled, happens, turn_of}
use Rattle.laws_of_states.specs.Commits.{is_serial}
use Rattle.laws_of_states.specs.Replay.{replay_told, replay, atomic}

unfoldable pub monitor : Unit {0}
unfolding digits differing trim_end trim_start fitted overlaid number_of in_digits number_in compared value_of stored done_by step answered job_target moment_of called call_outcome total_charge started signed_off show_next used use_now rotated state_after command_of opened followed followed_by_input with_areas numbered row_after synchronised broken durable refusal listing answer_of reaches told_now made_rounds made_lines pend_outcome least_job pick service_state split_at denial_of use_under use_of unit_of area_of statement steps_of history trace tables_after bytes_of pterm_of_user abnormal settled happens turn_of is_serial replay_told replay atomic fate
monitor = tt
