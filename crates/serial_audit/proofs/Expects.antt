-- What each maker is to change.
use Rattle.std.specs.Prelude.{◌≡◌, refl, ℕ, ◌+◌, ◌≤◌, List, [], ◌∷◌, Option, Some, None, IfNone, IfSome, Result, Ok, Err, IfOk, is_some}
use Rattle.std.proofs.Common.{sym, ap, subst, ◌∙◌}
use Rattle.std.proofs.lemmas.Result.{IfOk-weaker}
use Rattle.kd_base.specs.Limits.{last_clock}
use Rattle.kd_base.specs.ToolsLaws.{some_is}
use Rattle.kdcs_types.specs.declared.act.Changes.{Changes}
use Rattle.kdcs_types.specs.declared.service.Job.{Job}
use Rattle.kdcs_types.specs.declared.service.Settled.{Settled}
use Rattle.kdcs_types.specs.Difference.{difference}
use Rattle.kdcs_types.specs.DifferenceLaws.{difference_makes_new}
use Rattle.kdcs_types.specs.RowLaws.{numbers_apart}
use Rattle.kdcs_types.specs.Tables.{TableRows, IsSortedTables, changed}
use Rattle.application_types.specs.Generation.{Generated}
use Rattle.abstract_monitor.specs.Bytes.{Bytes}
use Rattle.abstract_monitor.specs.Commands.{due_for, is_for, shown_tables}
use Rattle.abstract_monitor.specs.Endings.{durable}
use Rattle.abstract_monitor.specs.Picks.{due_job, free_jobs}
use Rattle.abstract_monitor.specs.State.{Application, State}
use Rattle.abstract_monitor.specs.Statements.{kept_of}
use Rattle.laws_of_states.specs.CommitLaws.{shown_changes, tick_changes}
use Rattle.laws_of_states.specs.ShowsLaws.{due_stands, shown_made, tick_made}
use Rattle.laws_of_states.specs.DurableLaws.{durable_sorted}
use Rattle.laws_of_states.specs.Replay.{Ended, with_began}
use Rattle.laws_of_states.specs.Suits.{Suits}
use Rattle.laws_of_states.specs.EndsLaws.{durable_same, shows_stay_sound, ticks_stay_sound}
use Rattle.audit_trail.specs.declared.entry.By.{By}
use Rattle.audit_trail.specs.declared.entry.By.TheVariants.{Tick, Shown, Transaction}
use Rattle.audit_trail.specs.declared.entry.TrailEntry.{TrailEntry}
use Rattle.serial_audit.specs.Answers.{IfDiffers, IfHolds}
use Rattle.serial_audit.specs.declared.audited.Audited.{Audited}
use Rattle.serial_audit.specs.declared.audited.Audited.TheVariants.{Holds, Differs}
use Rattle.serial_audit.specs.Audit.{HoldsFor, Makes}
use Rattle.serial_audit.specs.Expecting.{Expected, Expects, ExpectsReplay, IsReady, IsReplayed}
use Rattle.serial_audit.proofs.Bases.{sound, start_durable}

module _ (app : Application) (t : TableRows) (sorted : IsSortedTables t) (suits : Suits app.generation t) where
  abbrev g : Generated
  g = app.generation

  -- ---- TICK

  module _ (ticks : ℕ) where
    abbrev ticked : TableRows
    ticked = record t { clock = t.clock + ticks }

    ticked_durable : durable g ticked ≡ ticked
    unfolding durable
    ticked_durable = ap (λ (u : TableRows). record u { clock = t.clock + ticks }) (durable_same g t suits)

    tick_expected : t.clock + ticks ≤ last_clock → (changes : Changes) → changes ≡ tick_changes t (t.clock + ticks) → Expected app t (Tick ticks) changes
    tick_expected within changes e = record {
      after = ticked;
      makes = record { within = within; clock = refl };
      changes_are = e ∙ sym ((tick_made g t (t.clock + ticks)).exact) ∙ (λ i. difference (durable_same g t suits i) (ticked_durable i));
      sorted = numbers_apart t (t.clock + ticks) t.next_job sorted;
      suits = subst (Suits g) ticked_durable (ticks_stay_sound g t (t.clock + ticks) (sound g t sorted suits) within).sound.suits;
    }

    pub tick_by : (by : By) → by ≡ Tick ticks → (o : Option Changes) → IfSome o (λ (changes : Changes). (t.clock + ticks ≤ last_clock) × (changes ≡ tick_changes t (t.clock + ticks))) → IfNone o (t.clock + ticks ≤ last_clock → ⊥) → Expects app t by o
    tick_by by e None some none = subst (λ (b : By). Expects app t b None) (sym e) (λ after makes. none makes.within)
    tick_by by e (Some changes) some none = subst (λ (b : By). Expects app t b (Some changes)) (sym e) (tick_expected some.0 changes some.1)

  -- ---- KDCOUT and PRINT

  -- nobody is signed on, and no service is open
  abbrev resting : State
  resting = record { tables = t; signed = []; ready = []; tasks = []; active = []; waits = [] }

  all_free : (jobs : List Job) → free_jobs [] jobs ≡ jobs
  all_free [] = refl
  all_free (job ∷ jobs) = ap (λ (js : List Job). job ∷ js) (all_free jobs)

  module _ (lterm : Bytes) where
    due_resting : (job : Job) → due_job t.clock (is_for lterm) t.jobs ≡ Some job → due_for resting lterm ≡ Some job
    due_resting job due = ap (due_job t.clock (is_for lterm)) (all_free t.jobs) ∙ due

    shown_durable : (job : Job) → durable g (shown_tables t lterm job) ≡ shown_tables t lterm job
    unfolding durable
    shown_durable job = ap (λ (u : TableRows). shown_tables u lterm job) (durable_same g t suits)

    show_expected : (job : Job) → due_job t.clock (is_for lterm) t.jobs ≡ Some job → (changes : Changes) → changes ≡ shown_changes t lterm job → Expected app t (Shown lterm) changes
    show_expected job due changes e =
        let made = shown_made g t lterm job sorted (ap is_some (due_stands resting lterm job sorted (due_resting job due))) in
        record {
          after = shown_tables t lterm job;
          makes = record { job = job; due = due; shown = refl };
          changes_are = e ∙ sym made.exact ∙ (λ i. difference (durable_same g t suits i) (shown_durable job i));
          sorted = made.order;
          suits = subst (Suits g) (shown_durable job) (shows_stay_sound g resting lterm job (sound g t sorted suits) (due_resting job due)).sound.suits;
        }

    show_refused : due_job t.clock (is_for lterm) t.jobs ≡ None → Expects app t (Shown lterm) None
    show_refused none after makes = absurd (none_some (sym none ∙ makes.due))
      where
        none_some : None ≡ Some makes.job → ⊥
        none_some e = cc

    abbrev Shows : Changes → Type 0
    Shows changes = (job : Job) × (due_job t.clock (is_for lterm) t.jobs ≡ Some job) × (changes ≡ shown_changes t lterm job)

    show_option : (o : Option Changes) → IfSome o Shows → IfNone o (due_job t.clock (is_for lterm) t.jobs ≡ None) → Expects app t (Shown lterm) o
    show_option None some none = show_refused none
    show_option (Some changes) some none = show_expected some.0 some.1 changes some.2

    pub show_by : (by : By) → by ≡ Shown lterm → {E : Type 0} (o : Result (Option Changes) E) → IfOk o (λ (k : Option Changes). IfSome k Shows) → IfOk o (λ (k : Option Changes). IfNone k (due_job t.clock (is_for lterm) t.jobs ≡ None)) → IfOk o (Expects app t by)
    show_by by e (Err x) some none = tt
    show_by by e (Ok k) some none = subst (λ (b : By). Expects app t b k) (sym e) (show_option k some none)

  -- ---- a transaction

  module _ (r : Settled) where
    pub replay_expected : IsReady g t r → (o : Option Changes) → IsReplayed app (with_began g t (kept_of r)) r o → ExpectsReplay app t r o
    replay_expected ready None is = λ after m. is m.whole m.determined m.result
    replay_expected ready (Some changes) is = record {
      after = durable g is.whole;
      makes = record { began = ready.began; job = ready.job; determined = is.determined; whole = is.whole; result = is.result; durable_part = refl };
      changes_are = is.changes_are ∙ ap (λ (u : TableRows). difference u (durable g is.whole)) (start_durable g t sorted suits (kept_of r) ready.began);
      sorted = durable_sorted g is.whole is.sound.order;
      suits = is.sound.suits;
    }

  -- ---- an entry

  -- no maker makes two tables of one
  one_result : (by : By) (a b : TableRows) → Makes app t a by → Makes app t b by → a ≡ b
  one_result (Tick ticks) a b m n = m.clock ∙ sym n.clock
  one_result (Shown lterm) a b m n = m.shown ∙ ap (shown_tables t lterm) (some_is m.job n.job (sym m.due ∙ n.due)) ∙ sym n.shown
  one_result (Transaction r) a b m n =
      m.durable_part
      ∙ ap (λ (e : Ended). durable g e.tables) (some_is (record { tables = m.whole; ending = r.ending }) (record { tables = n.whole; ending = r.ending }) (sym m.result ∙ n.result))
      ∙ sym n.durable_part

  module _ (entry : TrailEntry) (o : Option Changes) (expects : Expects app t entry.by o) where
    found : o ≡ Some entry.changes → Expected app t entry.by entry.changes
    found e = subst (λ (p : Option Changes). Expects app t entry.by p) e expects

    -- the tables after the expected changes
    after_is : (after : TableRows) → (e : o ≡ Some entry.changes) → after ≡ changed t entry.changes → after ≡ (found e).after
    after_is after e is = is ∙ ap (changed t) (found e).changes_are ∙ difference_makes_new t (found e).after sorted (found e).sorted

    entry_holds : (after : TableRows) → o ≡ Some entry.changes → after ≡ changed t entry.changes → HoldsFor app t entry after
    entry_holds after e is =
        subst (HoldsFor app t entry) (sym (after_is after e is)) (record {
          makes = (found e).makes;
          changes = (found e).changes_are;
          tables = sym (after_is after e is) ∙ is;
        })

    entry_suits : (after : TableRows) → o ≡ Some entry.changes → after ≡ changed t entry.changes → Suits g after
    entry_suits after e is = subst (Suits g) (sym (after_is after e is)) (found e).suits

  entry_differs : (entry : TrailEntry) (o : Option Changes) → Expects app t entry.by o → (o ≡ Some entry.changes → ⊥) → (after : TableRows) → HoldsFor app t entry after → ⊥
  entry_differs entry None expects other after h = expects after h.makes
  entry_differs entry (Some changes) expects other after h =
      other (ap (λ (c : Changes). Some c) (expects.changes_are ∙ ap (difference t) (one_result entry.by expects.after after expects.makes h.makes) ∙ sym h.changes))

  -- ---- the changes are made

  module _ (entry : TrailEntry) (u : TableRows) (same : u ≡ t) (o : Option Changes) (expects : Expects app t entry.by o) {E : Type 0} (r : Result Audited E) where
    module _ (holds : IfOk r (λ (a : Audited). IfHolds a (λ (after : TableRows). (o ≡ Some entry.changes) × (after ≡ changed u entry.changes)))) where
      -- what is so of the tables after the changes
      when_holds : (P : TableRows → Type 0) → ((after : TableRows) → o ≡ Some entry.changes → after ≡ changed t entry.changes → P after) → IfOk r (λ (a : Audited). IfHolds a P)
      when_holds P then = IfOk-weaker r _ _ by holds
        where
          by : (a : Audited) → IfHolds a (λ (after : TableRows). (o ≡ Some entry.changes) × (after ≡ changed u entry.changes)) → IfHolds a P
          by (Holds after) h = then after h.0 (h.1 ∙ ap (λ (v : TableRows). changed v entry.changes) same)
          by (Differs before) h = tt

      pub audited_holds : IfOk r (λ (a : Audited). IfHolds a (HoldsFor app t entry))
      audited_holds = when_holds (HoldsFor app t entry) (entry_holds entry o expects)

      pub audited_suits : IfOk r (λ (a : Audited). IfHolds a (Suits g))
      audited_suits = when_holds (Suits g) (entry_suits entry o expects)

    pub audited_differs : IfOk r (λ (a : Audited). IfDiffers a (λ (before : TableRows). (before ≡ u) × (o ≡ Some entry.changes → ⊥))) → IfOk r (λ (a : Audited). IfDiffers a (λ (before : TableRows). (after : TableRows) → HoldsFor app t entry after → ⊥))
    audited_differs differs = IfOk-weaker r _ _ by differs
      where
        by : (a : Audited) → IfDiffers a (λ (before : TableRows). (before ≡ u) × (o ≡ Some entry.changes → ⊥)) → IfDiffers a (λ (before : TableRows). (after : TableRows) → HoldsFor app t entry after → ⊥)
        by (Holds after) h = tt
        by (Differs before) h = entry_differs entry o expects h.1
