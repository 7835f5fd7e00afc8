-- That the commit of a step can be stored.
use Rattle.std.specs.Prelude.{◌≡◌, ◌≤◌, ℕ, List, [], ◌∷◌, All}
use Rattle.std.proofs.Common.{inl, inr, sym, subst}
use Rattle.std.proofs.lemmas.List.Elements.{All-head, All-weaker}
use Rattle.kd_records.specs.Charge.{total_charge as records_charge}
use Rattle.kdcs_types.specs.declared.act.Act.{Act}
use Rattle.kdcs_types.specs.declared.act.Act.TheVariants.{Commit, Emit}
use Rattle.kdcs_types.specs.Difference.{difference}
use Rattle.kdcs_types.specs.DifferenceLaws.{difference_changes, difference_makes_new}
use Rattle.kdcs_types.specs.Tables.{TableRows, IsSortedTables, changed}
use Rattle.application_types.specs.Soundness.{AreLimits}
use Rattle.application_types.specs.Generation.{Generated}
use Rattle.abstract_monitor.specs.Commands.{ScriptStep, turned_step, command_of}
use Rattle.abstract_monitor.specs.Endings.{durable}
use Rattle.abstract_monitor.specs.State.{Application, State}
use Rattle.abstract_monitor.specs.Turns.{turn_of}
use Rattle.laws_of_states.specs.DurableLaws.{durable_sorted}
use Rattle.laws_of_states.specs.Facts.{IsSoundState}
use Rattle.laws_of_states.specs.Steps.{AreLines, CommandsCommitOnce, CommitsOnce, TurnsCommitOnce}
use Rattle.laws_of_states.specs.Suits.{Suits}
use Rattle.laws_of_states.specs.StateLaws.{StatesStaySound}
use Rattle.record_codec.specs.PatchesLaws.{HasProperKey, patches_match_changes}
use Rattle.record_codec.specs.Patches.{HasProperKeys}
use Rattle.record_codec.specs.Records.{content_of_tables, rows_of}
use Rattle.record_codec.specs.RowReadings.{IsProperRow}
use Rattle.record_codec.specs.TableReadings.{AreProperTables}
use Rattle.table_fit.specs.ShortLaws.{suiting_tables_are_short}
use Rattle.device_acts.specs.ContentLaws.{content_charged}
use Rattle.device_acts.specs.Stands.{AreTables}
use Rattle.device_acts.specs.Named.{IsNamedAct, IsNamedChange}
use Rattle.device_acts.specs.NamedTables.{AreNamedTables}
use Rattle.device_acts.specs.NamedLaws.{keys_named, named_changed, proper_named}
use Rattle.device_acts.specs.PatchingLaws.{patch_there}
use Rattle.device_acts.specs.ProperLaws.{named_proper}
use Rattle.device_acts.specs.ShortLaws.{difference_short}
use Rattle.device_acts.specs.Storing.{AreStorable, CanBeStored, CommandsCanBeStored, TurnsCanBeStored}

-- ---- tables

-- tables in order that suit the generation
record AreFit (g : Generated) (t : TableRows) : Type 0 where
  sorted : IsSortedTables t
  suits : Suits g t

proper_keys : (t : TableRows) → AreProperTables t → HasProperKeys t
proper_keys t proper = All-weaker IsProperRow HasProperKey (λ r h. h.key) (rows_of t) proper

difference_stored : (g : Generated) (t u : TableRows) → AreLimits g.limits → AreTables t → Suits g t → AreFit g u → All IsNamedChange (difference t u).items → CanBeStored g.limits.blksize g.limits.pgpool t (difference t u)
difference_stored g t u limits tables suits fit named =
    let c = difference t u in
    let makes : changed t c ≡ u = difference_makes_new t u tables.sorted fit.sorted in
    let are = difference_changes t u fit.sorted in
    let keys = keys_named c.items named in
    let rows : AreNamedTables u = subst AreNamedTables makes (named_changed t c (proper_named t tables.proper) named are) in
    let proper : AreProperTables u = named_proper g u limits fit.sorted fit.suits rows in
    let there : AreTables u = record { sorted = fit.sorted; proper = proper } in
    record {
      short = difference_short t u (suiting_tables_are_short g u limits fit.suits proper);
      patch = patch_there c keys are.ascending;
      before = content_charged g t tables.proper suits;
      records = patches_match_changes t c (proper_keys t tables.proper) keys are;
      after = subst (λ (v : TableRows). records_charge g.limits.blksize (content_of_tables v).items ≤ g.limits.pgpool) (sym makes) (content_charged g u proper fit.suits);
      tables = subst AreTables (sym makes) there;
    }

-- ---- steps

lines_stored : (block pages : ℕ) (t : TableRows) (acts : List Act) → AreLines acts → AreStorable block pages t acts
lines_stored block pages t [] lines = tt
lines_stored block pages t (Emit bytes ∷ acts) lines = lines_stored block pages t acts lines
lines_stored block pages t (Commit c ∷ acts) lines = absurd lines

durable_fit : (app : Application) (s : State) → IsSoundState app s → AreFit app.generation (durable app.generation s.tables)
durable_fit app s sound = record { sorted = durable_sorted app.generation s.tables sound.order; suits = sound.suits }

step_stored : (app : Application) (s : State) (d : ScriptStep) → AreLimits app.generation.limits → IsSoundState app s → IsSoundState app d.after → AreTables (durable app.generation s.tables) → All IsNamedAct d.acts → CommitsOnce app s d
    → AreStorable app.generation.limits.blksize app.generation.limits.pgpool (durable app.generation s.tables) d.acts
step_stored app s d limits before after tables named (inl none) = lines_stored _ _ _ d.acts none.lines
step_stored app s d limits before after tables named (inr one) =
    let g = app.generation in
    let t = durable g s.tables in
    let c = difference t (durable g d.after.tables) in
    let commit : All IsNamedAct (Commit c ∷ one.rest) = subst (All IsNamedAct) one.acts named in
    let stored = difference_stored g t (durable g d.after.tables) limits tables before.suits (durable_fit app d.after after) (All-head IsNamedAct (Commit c) one.rest commit) in
    subst (AreStorable g.limits.blksize g.limits.pgpool t) (sym one.acts) (stored, lines_stored _ _ _ one.rest one.lines)

pub turns_stored : TurnsCommitOnce → StatesStaySound → TurnsCanBeStored
turns_stored once sound app s task application limits within facts tables named =
    step_stored app s (turned_step (turn_of app s task)) limits facts.1 (sound.turns app s task application within facts) tables named (once app s task)

pub commands_stored : CommandsCommitOnce → StatesStaySound → CommandsCanBeStored
commands_stored once sound app s c application limits is_command facts tables named =
    step_stored app s (command_of app s c) limits facts.1 (sound.commands app s c application is_command facts) tables named (once app s c)
