-- Each step keeps it that all open transactions replay to themselves.
use Rattle.std.specs.Prelude.{◌≡◌, [], ◌∷◌}
use Rattle.std.proofs.Common.{sym, ap, ◌∙◌}
use Rattle.std.proofs.lemmas.List.{append-nil}
use Rattle.kdcs_types.specs.declared.key.ServiceId.{ServiceId}
use Rattle.kdcs_types.specs.Tables.{TableRows}
use Rattle.abstract_monitor.specs.State.{Application, OpenTransaction}
use Rattle.abstract_monitor.specs.Statements.{Kept, kept_so_far}
use Rattle.laws_of_states.specs.Keeping.{Leads, HasFacts}
use Rattle.laws_of_states.specs.Replay.{replay, IsReplayed}
use Rattle.laws_of_runs.specs.Replays.{kept_and, LookAlike, ReplaysToItself}
use Rattle.laws_of_runs.specs.ReplaysLaws.{alike_itself}
use Rattle.laws_of_runs.specs.SerialLaws.{StepsKeepReplays, ReplaysAreRecords}
use Rattle.laws_of_runs.proofs.Commands.{starts_replay, commands_replay}
use Rattle.laws_of_runs.proofs.Turns.{turns_replay}

-- over tables that look alike it is the replay of its record as it stands
pub replayed_over : (app : Application) (t other : TableRows) (id : ServiceId) (x : OpenTransaction) → ReplaysToItself app t id x → LookAlike t other id x [] → IsReplayed app other id x
replayed_over app t other id x h alike = ap (λ (r : Kept). replay app other r x.statements) (sym same) ∙ h other [] [] alike
  where
    same : kept_and id x [] [] x.statements ≡ kept_so_far id x
    same i = record { service = id; began = x.began; inputs = x.first ∷ x.lterm ∷ append-nil x.inputs i; notes = append-nil x.notes i; statements = x.statements }

pub replays_are_records : ReplaysAreRecords
replays_are_records app s all id x is = replayed_over app s.tables s.tables id x (all id x is) (alike_itself s.tables id x)

pub steps_keep : Leads HasFacts HasFacts → StepsKeepReplays
steps_keep keeps = record {
  turns = λ app s task is_app within h. (keeps.turns app s task is_app within h.0, turns_replay app s task h.0 h.1);
  commands = λ app s c is_app fits h. (keeps.commands app s c is_app fits h.0, commands_replay app s h.0 h.1 c);
  starts = λ app t is_app order suits. (keeps.starts app t is_app order suits, starts_replay app t);
}
