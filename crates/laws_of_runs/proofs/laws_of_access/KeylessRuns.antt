-- Where no TAC has a lock, each command and each script does what it does without key sets.
use Rattle.std.specs.Prelude.{◌≡◌, refl, ℕ, zero, suc, ◌+◌, Bool, true, false, List, [], ◌∷◌, ◌++◌, Option, Some, None, codes, nat_le, ◌==◌}
use Rattle.std.proofs.Common.{sym, ap, ◌∙◌}
use Rattle.std.specs.FinMap.{find}
use Rattle.kdcs_types.specs.declared.act.Act.{Act}
use Rattle.kdcs_types.specs.declared.act.Act.TheVariants.{Emit}
use Rattle.kdcs_types.specs.declared.key.ServiceId.TheVariants.{Dialogue}
use Rattle.kdcs_types.specs.declared.service.Job.{Job}
use Rattle.kdcs_types.specs.declared.service.Service.{Service}
use Rattle.kdcs_types.specs.Keys.{id_cmp}
use Rattle.kd_base.specs.Limits.{last_clock}
use Rattle.kdcs_types.specs.Tables.{TableRows, service_of}
use Rattle.abstract_monitor.specs.declared.command.Command.{Command}
use Rattle.abstract_monitor.specs.declared.command.Command.TheVariants.{Input, Tick, Run, Turn, Drop, Print, PrintLast, Restart}
use Rattle.abstract_monitor.specs.declared.input_use.Use.{Use}
use Rattle.abstract_monitor.specs.declared.input_use.Use.TheVariants.{Sign, SignRefused, SignFirst, AlreadySigned, Off, Display, Output, Again, Busy, TooLong, Next, Start, TacRefused}
use Rattle.abstract_monitor.specs.Bytes.{Bytes, bytes_cmp}
use Rattle.abstract_monitor.specs.Calls.{nothing_told}
use Rattle.abstract_monitor.specs.Endings.{opened, durable}
use Rattle.abstract_monitor.specs.Lines.{sys_line, restart_line, no_message_line, asy_line, prt_line}
use Rattle.abstract_monitor.specs.State.{Application, OpenTransaction, Session, State}
use Rattle.abstract_monitor.specs.Turns.{Turned, queued, turn_of}
use Rattle.abstract_monitor.specs.Commands.{Maker, ScriptStep, committing, says, started, lterm_at, user_at, signed_on, withdrawn, without_session, rolled_tables, signed_off}
use Rattle.abstract_monitor.specs.Commands.{due_for, show_by, show_next, follow_up_of, held_tac, next_by, start_service, used, use_now, tick_by, drop_by, restarted, in_a_row, next_task, turned_step, rotated}
use Rattle.abstract_monitor.specs.Commands.{state_after, acts_of, command_of, steps_of}
use Rattle.abstract_monitor.specs.Sessions.{service_state}
use Rattle.abstract_monitor.specs.Trace.{history, trace}
use Rattle.laws_of_runs.specs.Access.{HasNoLocks, keyless, LocksMakeTheTrace}
use Rattle.laws_of_runs.proofs.laws_of_access.Keyless.{restarts_same, durable_same, use_same, input_same, commit_same, statement_same}
use Rattle.laws_of_runs.proofs.laws_of_access.KeylessTurns.{turn_same}

module _ (app : Application) where
  abbrev bare : Application
  bare = keyless app

  started_same : (t : TableRows) → started bare t ≡ started app t
  unfolding started opened
  started_same t = refl

  -- ---- steps with a commit

  committing_same : (s : State) (new : TableRows) (maker : Maker) (text : Bytes) → committing bare s new maker text ≡ committing app s new maker text
  committing_same s new maker text = ap (λ (commit : Act). record (committing app s new maker text) { acts = commit ∷ Emit text ∷ [] }) (commit_same app s.tables new)

  show_by_same : (s : State) (lterm none : Bytes) (line_of : Bytes → Bytes) (o : Option Job) → show_by bare s lterm none line_of o ≡ show_by app s lterm none line_of o
  show_by_same s lterm none line_of None = refl
  show_by_same s lterm none line_of (Some job) = committing_same s _ _ (line_of job.value.message)

  show_same : (s : State) (lterm none : Bytes) (line_of : Bytes → Bytes) → show_next bare s lterm none line_of ≡ show_next app s lterm none line_of
  unfolding show_next
  show_same s lterm none line_of = show_by_same s lterm none line_of (due_for s lterm)

  tick_same : (s : State) (ticks clock : ℕ) (within : Bool) → tick_by bare s ticks clock within ≡ tick_by app s ticks clock within
  tick_same s ticks clock false = refl
  tick_same s ticks clock true = committing_same s _ _ _

  -- ---- sessions

  signed_on_same : (s : State) (pterm user : Bytes) → signed_on bare s pterm user ≡ signed_on app s pterm user
  unfolding opened
  signed_on_same s pterm user = refl

  off_same : (s : State) (pterm user : Bytes) → signed_off bare s pterm user ≡ signed_off app s pterm user
  unfolding signed_off
  off_same s pterm user = ap (λ (restart : Bool). record (without_session (withdrawn s (Dialogue user)) pterm) { tables = rolled_tables app s.tables user restart }) (restarts_same app.generation user)

  drop_same : (s : State) (pterm : Bytes) (o : Option Session) → drop_by bare s pterm o ≡ drop_by app s pterm o
  drop_same s pterm None = refl
  drop_same s pterm (Some v) = ap (λ (u : State). says u (sys_line pterm (codes "DROPPED"))) (off_same s pterm v.user)

  restarted_same : (s : State) → restarted bare s ≡ restarted app s
  restarted_same s = ap (λ (u : State). says u restart_line) (started_same (durable bare.generation s.tables) ∙ ap (started app) (durable_same app.generation s.tables))

  start_same : (s : State) (user lterm tac text : Bytes) → start_service bare s user lterm tac text ≡ start_service app s user lterm tac text
  unfolding opened
  start_same s user lterm tac text = refl

  -- ---- without locks

  module _ (none : HasNoLocks app.generation) where
    held_same : (x : OpenTransaction) → held_tac bare x ≡ held_tac app x
    held_same x i = follow_up_of (statement_same app none nothing_told false x i).1

    next_by_same : (s : State) (user lterm text : Bytes) (o : Option OpenTransaction) (row : Option Service) → next_by bare s user lterm text o row ≡ next_by app s user lterm text o row
    unfolding opened
    next_by_same s user lterm text (Some x) row = λ i. queued s (Dialogue user) (input_same app.generation x (held_same x i) text i)
    next_by_same s user lterm text None (Some row) = refl
    next_by_same s user lterm text None None = refl

    use_now_same : (s : State) (pterm text : Bytes) → use_now bare s pterm text ≡ use_now app s pterm text
    unfolding use_now
    use_now_same s pterm text = use_same app.generation none s.signed (service_state s (user_at s pterm)) pterm text

    used_same : (s : State) (pterm lterm user : Bytes) (u : Use) → used bare s pterm lterm user u ≡ used app s pterm lterm user u
    unfolding used
    used_same s pterm lterm user (Sign name) = signed_on_same s pterm name
    used_same s pterm lterm user (SignRefused fault) = refl
    used_same s pterm lterm user SignFirst = refl
    used_same s pterm lterm user AlreadySigned = refl
    used_same s pterm lterm user Off = ap (λ (v : State). says v (sys_line pterm (codes "SIGNED OFF " ++ user))) (off_same s pterm user)
    used_same s pterm lterm user Display = refl
    used_same s pterm lterm user Output = show_same s lterm (no_message_line pterm) (asy_line pterm)
    used_same s pterm lterm user Again = refl
    used_same s pterm lterm user Busy = refl
    used_same s pterm lterm user TooLong = refl
    used_same s pterm lterm user (Next text) = ap (λ (v : State). record { after = v; acts = []; by = None }) (next_by_same s user lterm text (find id_cmp (Dialogue user) s.active) (service_of s.tables (Dialogue user)))
    used_same s pterm lterm user (Start tac text) = ap (λ (v : State). record { after = v; acts = []; by = None }) (start_same s user lterm tac text)
    used_same s pterm lterm user (TacRefused fault) = refl

    command_same : (s : State) (c : Command) → command_of bare s c ≡ command_of app s c
    unfolding command_of
    command_same s (Input pterm text) =
        used_same s pterm (lterm_at app pterm) (user_at s pterm) (use_now bare s pterm text) ∙ ap (used app s pterm (lterm_at app pterm) (user_at s pterm)) (use_now_same s pterm text)
    command_same s (Tick ticks) = tick_same s ticks (s.tables.clock + ticks) (nat_le (s.tables.clock + ticks) last_clock)
    command_same s (Run turns) = refl
    command_same s (Turn task) = ap turned_step (turn_same app s none task)
    command_same s (Drop pterm) = drop_same s pterm (find bytes_cmp pterm s.signed)
    command_same s (Print pterm) = show_same s (lterm_at app pterm) (no_message_line pterm) (prt_line pterm)
    command_same s (PrintLast pterm) = refl
    command_same s Restart = restarted_same s

    rotated_same : (n : ℕ) (ended : Bool) (s : State) (task unmoved : ℕ) → rotated bare n ended s task unmoved ≡ rotated app n ended s task unmoved
    unfolding rotated
    rotated_same zero ended s task unmoved = refl
    rotated_same (suc n) true s task unmoved = refl
    rotated_same (suc n) false s task unmoved =
        let turned = turn_of bare s task in
        let row = in_a_row turned.moved unmoved in
        ap (λ (ds : List ScriptStep). turned_step turned ∷ ds) (rotated_same n (row == app.generation.limits.tasks) turned.after (next_task app task) row)
        ∙ ap (λ (t : Turned). turned_step t ∷ rotated app n (in_a_row t.moved unmoved == app.generation.limits.tasks) t.after (next_task app task) (in_a_row t.moved unmoved)) (turn_same app s none task)

    steps_same : (s : State) (c : Command) → steps_of bare s c ≡ steps_of app s c
    unfolding steps_of
    steps_same s (Run turns) = rotated_same turns false s 1 0
    steps_same s (Input pterm text) = ap (λ (d : ScriptStep). d ∷ []) (command_same s (Input pterm text))
    steps_same s (Tick ticks) = ap (λ (d : ScriptStep). d ∷ []) (command_same s (Tick ticks))
    steps_same s (Turn task) = ap (λ (d : ScriptStep). d ∷ []) (command_same s (Turn task))
    steps_same s (Drop pterm) = ap (λ (d : ScriptStep). d ∷ []) (command_same s (Drop pterm))
    steps_same s (Print pterm) = ap (λ (d : ScriptStep). d ∷ []) (command_same s (Print pterm))
    steps_same s (PrintLast pterm) = ap (λ (d : ScriptStep). d ∷ []) (command_same s (PrintLast pterm))
    steps_same s Restart = ap (λ (d : ScriptStep). d ∷ []) (command_same s Restart)

    history_same : (s : State) (script : List Command) → history bare s script ≡ history app s script
    unfolding history
    history_same s [] = refl
    history_same s (c ∷ cs) =
        let steps = steps_of bare s c in
        ap (λ (rest : List ScriptStep). steps ++ rest) (history_same (state_after s steps) cs) ∙ ap (λ (ds : List ScriptStep). ds ++ history app (state_after s ds) cs) (steps_same s c)

    trace_same : (t : TableRows) (script : List Command) → trace bare t script ≡ trace app t script
    unfolding trace
    trace_same t script = ap acts_of (history_same (started bare t) script) ∙ ap (λ (s : State). acts_of (history app s script)) (started_same t)

pub locks_make_the_trace : LocksMakeTheTrace
locks_make_the_trace app none = record { steps = λ s script. sym (history_same app none s script); traces = λ t script. sym (trace_same app none t script) }
