-- A point that awaits an input sends the message that its row keeps.
use Rattle.std.specs.Prelude.{◌≡◌, refl, IsSome, true, false, List, ◌∷◌, Option, Some, None, is_some}
use Rattle.std.proofs.Common.{sym, ap, ◌∙◌, true≢false}
use Rattle.std.specs.FinMap.{find}
use Rattle.kd_base.specs.ToolsLaws.{some_is}
use Rattle.kdcs_types.specs.declared.act.Act.{Act}
use Rattle.kdcs_types.specs.declared.key.ServiceId.{ServiceId}
use Rattle.kdcs_types.specs.declared.key.ServiceId.TheVariants.{Dialogue}
use Rattle.kdcs_types.specs.declared.service.Ending.{Ending}
use Rattle.kdcs_types.specs.declared.service.Ending.TheVariants.{Synced, Broken, BrokenFr}
use Rattle.kdcs_types.specs.declared.service.Service.{Service}
use Rattle.kdcs_types.specs.declared.service.Settled.{Settled}
use Rattle.kdcs_types.specs.Keys.{id_cmp}
use Rattle.kdcs_types.specs.Tables.{TableRows, service_of}
use Rattle.abstract_monitor.specs.declared.answer.Happened.{Happened}
use Rattle.abstract_monitor.specs.declared.answer.Happened.TheVariants.{Went, Queued, Waited, Held, Settles, Breaks, Returns}
use Rattle.abstract_monitor.specs.declared.outcome.Outcome.{Outcome}
use Rattle.abstract_monitor.specs.declared.outcome.Outcome.TheVariants.{Wait, Point, Follow}
use Rattle.abstract_monitor.specs.Bytes.{Bytes}
use Rattle.abstract_monitor.specs.Endings.{joined, row_after}
use Rattle.abstract_monitor.specs.State.{Application, OpenTransaction, State}
use Rattle.abstract_monitor.specs.Turns.{commit_of, pterm_of_user, out_acts, message_acts, statement_now, turn_of}
use Rattle.abstract_monitor.specs.Commands.{ScriptStep, Maker, ByTick, ByShow, ByTransaction, turned_step, command_of}
use Rattle.laws_of_states.specs.Commits.{row_by_ending}
use Rattle.laws_of_states.specs.Facts.{IsOpen}
use Rattle.laws_of_states.specs.Keeping.{HasFacts}
use Rattle.laws_of_runs.specs.AlongLaws.{EachMeets}
use Rattle.laws_of_runs.specs.Doings.{lines_by, Settling, StepMakes}
use Rattle.laws_of_runs.specs.QueueLaws.{TurnsDoSo, CommandsDoSo, AwaitingSends, SendsAtPoints}
use Rattle.laws_of_runs.proofs.laws_of_jobs.Queues.{own_row}

abbrev no_row : Option Service
no_row = None

no_service : {A : Type 0} (row : Service) → no_row ≡ Some row → A
no_service row e = absurd cc

-- the message is kept, and its line is the one that follows
record KeepsMessage (s : State) (id : ServiceId) (x : OpenTransaction) (row : Service) (lines : List Act) : Type 0 where
  last : row.last ≡ Some (joined x.parts)
  sends : lines ≡ message_acts s id x

module _ (app : Application) (s : State) (id : ServiceId) (x : OpenTransaction) (row : Service) (a : row.awaits ≡ true) where
  goes_on : (r : Service) → r.awaits ≡ false → (lines : List Act) → Some r ≡ Some row → KeepsMessage s id x row lines
  goes_on r other lines e = absurd (true≢false (sym a ∙ ap (λ (q : Service). q.awaits) (sym (some_is r row e)) ∙ other))

  point_keeps : (o : Outcome) → row_after app.generation id x o ≡ Some row → KeepsMessage s id x row (lines_by s id x (Settles o) Synced)
  unfolding row_after
  point_keeps (Wait tac) e = record { last = ap (λ (q : Service). q.last) (sym (some_is _ row e)); sends = refl }
  point_keeps (Point tac) e = goes_on _ refl _ e
  point_keeps (Follow tac) e = goes_on _ refl _ e
  point_keeps _ e = no_service row e

  end_keeps : (h : Happened) (ending : Ending) → row_by_ending app id x h ending ≡ Some row → KeepsMessage s id x row (lines_by s id x h ending)
  end_keeps (Settles o) Synced e = point_keeps o e
  end_keeps (Settles o) (Broken cause) e = no_service row e
  end_keeps (Settles o) BrokenFr e = no_service row e
  end_keeps (Breaks by) ending e = no_service row e
  end_keeps Went ending e = no_service row e
  end_keeps Queued ending e = no_service row e
  end_keeps (Held tac) ending e = no_service row e
  end_keeps Waited ending e = no_service row e
  end_keeps Returns ending e = no_service row e

is_there : {A : Type 0} (o : Option A) → IsSome o → (x : A) × (o ≡ Some x)
is_there None h = absurd (true≢false (sym h))
is_there (Some x) h = (x, refl)

transaction_sends : (app : Application) (s : State) (d : ScriptStep) (kept : Settled) → HasFacts app s → Settling app s kept d.after.tables d.acts → AwaitingSends app s d (Some (ByTransaction kept))
transaction_sends app s d kept facts m user row same e a =
    let h = (statement_now app s kept.service m.own).1 in
    let there : service_of d.after.tables kept.service ≡ Some row = ap (λ (i : ServiceId). service_of d.after.tables i) same ∙ e in
    let gives : row_by_ending app kept.service m.own h kept.ending ≡ Some row =
    sym (own_row app s.tables kept.service m.own h kept.ending) ∙ ap (λ (t : TableRows). service_of t kept.service) (sym m.gives) ∙ there in
    let k = end_keeps app s kept.service m.own row a h kept.ending gives in
    let opens : IsOpen s (Dialogue user) = ap (λ (i : ServiceId). is_some (find id_cmp i s.active)) (sym same) ∙ ap is_some m.was_open in
    let at = is_there (pterm_of_user s.signed user) (facts.0.open_signed user opens) in
    record {
      pterm = at.0;
      message = joined m.own.parts;
      at = at.1;
      last = k.last;
      acts = m.sends ∙ ap (λ (l : List Act). commit_of app s.tables d.after.tables ∷ l)
          (k.sends ∙ ap (λ (i : ServiceId). message_acts s i m.own) same ∙ ap (λ (p : Option Bytes). out_acts p (joined m.own.parts)) at.1);
    }

sends : (app : Application) (s : State) (d : ScriptStep) → HasFacts app s → (o : Option Maker) → StepMakes app s d o → AwaitingSends app s d o
sends app s d facts None m = tt
sends app s d facts (Some (ByTick ticks)) m = tt
sends app s d facts (Some (ByShow lterm)) m = tt
sends app s d facts (Some (ByTransaction kept)) m = transaction_sends app s d kept facts m

pub sends_each : TurnsDoSo → CommandsDoSo → EachMeets SendsAtPoints
sends_each turns commands = record {
  turns = λ app s task facts. sends app s (turned_step (turn_of app s task)) facts (turned_step (turn_of app s task)).by (turns app s task);
  commands = λ app s c facts. sends app s (command_of app s c) facts (command_of app s c).by (commands app s c);
}
