-- The entry of each step holds: a tick's, that of a message shown, and that of a transaction.
use Rattle.std.specs.Prelude.{◌≡◌, refl, ℕ, suc, ◌≤◌, Bool, true, false, cond, ◌&&◌, not, IsTrue, IfSome, List, length, is_some, nat_le, option_map, Option, Some, None}
use Rattle.std.proofs.Common.{inl, inr, sym, ap, ◌∙◌, subst, arith, true≢false}
use Rattle.std.specs.FinMap.{find}
use Rattle.kd_base.specs.Limits.{last_clock}
use Rattle.kd_base.specs.ToolsLaws.{both_true, true_both, some_is}
use Rattle.kdcs_types.specs.declared.act.Act.{Act}
use Rattle.kdcs_types.specs.declared.act.Changes.{Changes}
use Rattle.kdcs_types.specs.declared.key.ServiceId.{ServiceId}
use Rattle.kdcs_types.specs.declared.key.ServiceId.TheVariants.{Dialogue, Asynchronous}
use Rattle.kdcs_types.specs.declared.key.Target.TheVariants.{Tac, Lterm}
use Rattle.kdcs_types.specs.declared.service.Ending.{Ending}
use Rattle.kdcs_types.specs.declared.service.Job.{Job}
use Rattle.kdcs_types.specs.declared.service.JobValue.{JobValue}
use Rattle.kdcs_types.specs.declared.service.Service.{Service}
use Rattle.kdcs_types.specs.declared.service.Settled.{Settled}
use Rattle.kdcs_types.specs.Difference.{difference}
use Rattle.kdcs_types.specs.DifferenceLaws.{difference_makes_new}
use Rattle.kdcs_types.specs.Keys.{id_cmp}
use Rattle.kdcs_types.specs.Tables.{TableRows, job_of, service_of}
use Rattle.abstract_monitor.specs.Bytes.{Bytes}
use Rattle.abstract_monitor.specs.Commands.{Maker, ByTick, ByShow, ByTransaction, ScriptStep, due_for, is_for, shown_tables}
use Rattle.abstract_monitor.specs.Endings.{durable, is_durable}
use Rattle.abstract_monitor.specs.Picks.{due_job, is_free, least_job}
use Rattle.abstract_monitor.specs.State.{Application, OpenTransaction, State}
use Rattle.abstract_monitor.specs.Statements.{Kept, kept_of, kept_record}
use Rattle.laws_of_states.specs.Commits.{IsAtomicCommit}
use Rattle.laws_of_states.specs.DurableLaws.{durable_service, durable_sorted, kept_at}
use Rattle.laws_of_states.specs.Keeping.{HasFacts}
use Rattle.laws_of_states.specs.OwnRowLaws.{row_there_fits}
use Rattle.laws_of_states.specs.Replay.{IsDetermined, accepted, notes_on, replay, with_began}
use Rattle.laws_of_states.specs.Steps.{CommitsOnce, MakesOneCommit}
use Rattle.laws_of_states.specs.Suits.{is_user}
use Rattle.laws_of_states.specs.Transactions.{CanGoOn, IsOwner}
use Rattle.laws_of_runs.specs.SerialRuns.{Makes as MakesInRun, MakesItsCommit}
use Rattle.laws_of_runs.specs.Doings.{Settling, StepMakes}
use Rattle.laws_of_states.specs.EndsLaws.{for_lterm}
use Rattle.laws_of_states.specs.ItemsLaws.{IsIn, in_passes}
use Rattle.laws_of_states.specs.StatesLaws.{row_found}
use Rattle.audit_trail.specs.declared.entry.TrailEntry.{TrailEntry}
use Rattle.serial_audit.specs.Audit.{BeganIn, BeginsRightly, Determines, HasDueJob, HoldsFor, IsDueFor, Makes, Replays, ShowsDue, has_user, volatile_row_suits}
use Rattle.trail_run.specs.Entries.{by_of, changes_among, entry_by, entry_in}
use Rattle.trail_run.specs.HoldsFacts.{HasItsJob, IsRecorded, HasRecords, HoldsBetween, HoldsInStep}
use Rattle.trail_run.proofs.laws_of_trails.HoldsJobs.{filtered_alike, job_found}
use Rattle.trail_run.proofs.laws_of_trails.HoldsStatements.{reads_no_more}
use Rattle.trail_run.proofs.laws_of_trails.HoldsTurns.{sound_tables}

-- ---- a message shown

module _ (app : Application) (s : State) (h : HasRecords app s) where
  abbrev facts : HasFacts app s
  facts = h.0.0

  -- no service that began with a row has the number of a job
  no_row : (job : Job) → IsIn job s.tables.jobs → service_of s.tables (Asynchronous job.number) ≡ None
  unfolding durable
  no_row job is = none (service_of (durable app.generation s.tables) (Asynchronous job.number)) (in_passes _ job s.tables.jobs facts.1.suits.apart is) (durable_service app.generation s.tables job.number)
    where
      none : (o : Option Service) → IsTrue (not (is_some o)) → o ≡ service_of s.tables (Asynchronous job.number) → service_of s.tables (Asynchronous job.number) ≡ None
      none None n e = sym e
      none (Some row) n e = absurd (true≢false (sym n))

  -- a job for an LTERM is no open service's: that of a service with a row is gone, and any other goes to a TAC
  job_is_free : (lterm : Bytes) (job : Job) → IsIn job s.tables.jobs → IsTrue (is_for lterm job.value.to) → is_free s.active job ≡ true
  job_is_free lterm job is target = by (find id_cmp (Asynchronous job.number) s.active) refl
    where
      to_tac : (tac : Bytes) (clock : ℕ) (value : Option JobValue) → value ≡ Some job.value → IsDueFor clock tac value → ⊥
      to_tac tac clock None e d = d
      to_tac tac clock (Some v) e d = no (sym (for_lterm lterm job.value.to target) ∙ ap (λ (w : JobValue). w.to) (sym (some_is v job.value e)) ∙ d.1)
        where
          no : Lterm lterm ≡ Tac tac → ⊥
          no f = cc

      taken : (x : OpenTransaction) → find id_cmp (Asynchronous job.number) s.active ≡ Some x → ⊥
      taken x e = by x.began refl
        where
          by : (o : Option Service) → x.began ≡ o → ⊥
          by None f =
              to_tac x.first s.tables.clock (job_of s.tables job.number) (job_found s.tables job facts.1.order is)
              (subst (HasItsJob s.tables (Asynchronous job.number) x.first) f (h.1 (Asynchronous job.number) x e).job)
          by (Some row) f = some_none (sym ((facts.0.rooted (Asynchronous job.number) x e).began ∙ f) ∙ no_row job is)
            where
              some_none : Some row ≡ None → ⊥
              some_none g = cc

      by : (o : Option OpenTransaction) → find id_cmp (Asynchronous job.number) s.active ≡ o → not (is_some o) ≡ true
      by None e = refl
      by (Some x) e = absurd (taken x e)

  -- so the due job of all is that of those that no service has taken
  due_of_all : (lterm : Bytes) → due_for s lterm ≡ due_job s.tables.clock (is_for lterm) s.tables.jobs
  due_of_all lterm =
      ap least_job
      (filtered_alike (λ (job : Job). nat_le job.value.due s.tables.clock && is_for lterm job.value.to) (is_free s.active) s.tables.jobs
      (λ job is passes. job_is_free lterm job is (both_true (nat_le job.value.due s.tables.clock) (is_for lterm job.value.to) passes).1))

  shows_due : (lterm : Bytes) (after : TableRows) (job : Job) → due_for s lterm ≡ Some job → after ≡ shown_tables s.tables lterm job → ShowsDue (durable app.generation s.tables) (durable app.generation after) lterm
  unfolding durable
  shows_due lterm after job due gives = record { job = job; due = sym (due_of_all lterm) ∙ due; shown = ap (durable app.generation) gives }

  -- ---- a transaction

  module _ (id : ServiceId) (x : OpenTransaction) (ending : Ending) (is : find id_cmp id s.active ≡ Some x) where
    abbrev before : TableRows
    before = durable app.generation s.tables

    abbrev kept : Settled
    kept = kept_record id x ending

    abbrev can : CanGoOn app.generation id x
    can = facts.1.transactions id x is

    abbrev recorded : IsRecorded app.generation s.tables id x
    recorded = h.1 id x is

    rooted : service_of s.tables id ≡ x.began
    rooted = (facts.0.rooted id x is).began

    row_before : service_of before id ≡ cond (is_durable app.generation id) (service_of s.tables id) None
    unfolding durable
    row_before = kept_at (is_durable app.generation) id s.tables.services

    began_in : BeganIn app.generation before id (is_durable app.generation id) x.began
    began_in = by (is_durable app.generation id) refl x.began refl
      where
        row_suits : (row : Service) → x.began ≡ Some row → IsTrue (volatile_row_suits app.generation id row)
        row_suits row e =
            true_both _ _ (row_there_fits s.tables id (Some row) facts.1.order (rooted ∙ e)) (row_found app.generation s.tables id row (sound_tables app s facts) (rooted ∙ e)).suits

        by : (b : Bool) → is_durable app.generation id ≡ b → (o : Option Service) → x.began ≡ o → BeganIn app.generation before id b o
        by true d o e = row_before ∙ ap (λ b. cond b (service_of s.tables id) None) d ∙ rooted ∙ e
        by false d None e = row_before ∙ ap (λ b. cond b (service_of s.tables id) None) d
        by false d (Some row) e = row_suits row e

    due_job_there : HasDueJob before (kept_of kept) id x.began
    unfolding durable
    due_job_there = by id x.began recorded.job
      where
        by : (i : ServiceId) (o : Option Service) → HasItsJob s.tables i x.first o → HasDueJob (durable app.generation s.tables) (kept_of kept) i o
        by (Dialogue user) o d = tt
        by (Asynchronous number) (Some row) d = tt
        by (Asynchronous number) None d = d

    user_there : IsTrue (has_user app.generation id)
    user_there = by id can.owner
      where
        by : (i : ServiceId) → IsOwner i x.user → IsTrue (has_user app.generation i)
        by (Dialogue user) e = subst (λ (u : Bytes). IsTrue (is_user app.generation u)) (sym e) can.user
        by (Asynchronous number) e = refl

    begins_rightly : BeginsRightly app.generation (kept_of kept)
    begins_rightly = record { both = two (length x.inputs); tac = can.first; first = recorded.first; lterm = can.lterm }
      where
        two : (n : ℕ) → 2 ≤ suc (suc n)
        two n = omega arith

    determines : (t : TableRows) → IsDetermined app t (kept_of kept) → Determines app t (kept_of kept)
    determines t d = record {
      user = user_there;
      begins = begins_rightly;
      short = record { inputs = recorded.inputs; notes = recorded.notes };
      inputs = λ n below.
          subst (λ m. length (replay app t (kept_of kept) n).inputs ≤ m) (ap (λ (k : Kept). length (accepted k)) d.keeps)
          (reads_no_more app t (kept_of kept) n x.statements below);
      goes_on = d.goes_on;
      ends = d.ends;
      notes = λ area. ap (λ (k : Kept). notes_on area k.notes) d.keeps;
    }

    replays : (after : TableRows) → IsAtomicCommit app before after kept → Replays app before after kept
    replays after commit = record {
      began = began_in;
      job = due_job_there;
      determined = determines (with_began app.generation before (kept_of kept)) commit.atomic.determined;
      whole = commit.whole;
      result = commit.atomic.result;
      durable_part = commit.kept_part;
    }

  settled_replays : (kept : Settled) (after : TableRows) (acts : List Act) → Settling app s kept after acts → IsAtomicCommit app (durable app.generation s.tables) (durable app.generation after) kept
      → Replays app (durable app.generation s.tables) (durable app.generation after) kept
  settled_replays kept after acts made commit =
      subst (Replays app (durable app.generation s.tables) (durable app.generation after)) (sym made.kept_is)
      (replays kept.service made.own kept.ending made.was_open (durable app.generation after)
      (subst (IsAtomicCommit app (durable app.generation s.tables) (durable app.generation after)) made.kept_is commit))

  -- ---- a step

  module _ (d : ScriptStep) (later : HasFacts app d.after) where
    makes : (maker : Maker) → StepMakes app s d (Some maker) → MakesInRun app (durable app.generation s.tables) (durable app.generation d.after.tables) maker
        → Makes app (durable app.generation s.tables) (durable app.generation d.after.tables) (by_of maker)
    makes (ByTick ticks) does made = record { within = subst (λ n. n ≤ last_clock) (ap (λ (t : TableRows). t.clock) made) later.1.suits.clock; clock = made }
    makes (ByShow lterm) does made = shows_due lterm d.after.tables does.job does.due does.gives
    makes (ByTransaction kept) does made = settled_replays kept d.after.tables d.acts does made

    no_maker : (o : Option Changes) → entry_by o None ≡ None
    no_maker None = refl
    no_maker (Some changes) = refl

    one_holds : (one : MakesOneCommit app s d) → StepMakes app s d d.by → MakesItsCommit app s d → HoldsInStep app s d
    one_holds one does made =
        let old = durable app.generation s.tables in
        let new = durable app.generation d.after.tables in
        let entry : TrailEntry = record { by = by_of one.maker; changes = difference old new } in
        let is : entry_in d ≡ Some entry = λ i. entry_by (changes_among (one.acts i)) (option_map by_of (one.by i)) in
        let holds : HoldsFor app old entry new =
        record {
          makes = makes one.maker (subst (StepMakes app s d) one.by does) (subst (λ (o : Option Maker). IfSome o (MakesInRun app old new)) one.by made);
          changes = refl;
          tables = sym (difference_makes_new old new (durable_sorted app.generation s.tables facts.1.order) (durable_sorted app.generation d.after.tables later.1.order));
        } in
        subst (HoldsBetween app old new) (sym is) holds

    pub step_holds : CommitsOnce app s d → StepMakes app s d d.by → MakesItsCommit app s d → HoldsInStep app s d
    step_holds (inl none) does made =
        subst (HoldsBetween app (durable app.generation s.tables) (durable app.generation d.after.tables))
        (sym (ap (λ (o : Option Maker). entry_by (changes_among d.acts) (option_map by_of o)) none.by ∙ no_maker (changes_among d.acts))) none.tables
    step_holds (inr one) does made = one_holds one does made
