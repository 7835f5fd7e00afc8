-- Laws: how the steps of a run that stores and sends go on from one another.
use Rattle.std.proofs.Common.{◌≡◌, ◌≤◌, ◌<◌, ◌+◌, ◌^◌, ℕ, List, [], ◌++◌, refl, sym, ap, subst, ◌∙◌, arith}
use Rattle.std.specs.Prelude.{IsTrue}
use Rattle.std.proofs.lemmas.List.{append-nil}
use Rattle.kd_device.specs.Device.{State}
use Rattle.kd_device.specs.TimeLaws.{rose_either}
use Rattle.kd_records.specs.Identity.{Identity}
use Rattle.kd_records.specs.declared.content.Content.{Content}
use Rattle.kd_records.specs.declared.content.Patch.{Patch}
use Rattle.abstract_monitor.specs.Commands.{ScriptStep, acts_of}
use Rattle.kdcs_types.specs.Tables.{TableRows}
use Rattle.kdcs_types.specs.declared.act.Act.{Act}
use Rattle.abstract_monitor.specs.State.{Application}
use Rattle.abstract_monitor.specs.Trace.{tables_after}
use Rattle.laws_of_states.specs.Cut.{commits_in}
use Rattle.laws_of_states.specs.StepsLaws.{commits_of_both}
use Rattle.laws_of_runs.specs.HistoryLaws.{after_none}
use Rattle.monitor_core.specs.CoreSteps.{durable_of}
use Rattle.monitor_core.specs.CoreValue.{CoreValue}
use Rattle.device_acts.specs.Acting.{JoinsParts}
use Rattle.device_acts.specs.ActingLaws.{halts_within, running_start, running_within}
use Rattle.device_acts.specs.Stands.{identity_for}
use Rattle.device_acts.specs.WritingLaws.{all_begun}
use Rattle.device_acts.specs.declared.warm_start.error.OpenError.{OpenError}
use Rattle.monitor_core.specs.Sinks.{SinkGoesOn as StepsGoOn}
use Rattle.device_run.specs.Running.{identity_of, commits_most_with}
use Rattle.device_run.specs.Keeping.{DidSteps, IsRunningWith, StandsForRows, StepsWriteWith, WithinStepsWith}
use Rattle.device_run.specs.Storing.{FailedSteps, IsReadyWith, TookSteps}
use Rattle.device_run.specs.TablesLaws.{tables_go}
use Rattle.device_run.specs.SteppingLaws.{Stepping, acts_both, rows_stand, stepping_more, stepping_within, stepping_writes}

module _ (stands : Identity → Content → List ℕ → Type 0) (most : Identity → Patch → ℕ) (fine : State → State → Type 0) (on : JoinsParts fine) where
  -- what some steps write that are done
  pub steps_write : (fingerprint : List ℕ) (c d : CoreValue) (steps : List ScriptStep) (j : Identity) (x : Content) (file : List ℕ → Type 0) (a b : State) (lb : ℕ → List ℕ → List ℕ → Type 0) → ((image : List ℕ) → file image → stands j x image) → DidSteps fine fingerprint c steps d j x file a b lb
      → (IsTrue a.told → b.put ≤ a.put + commits_most_with most (identity_of fingerprint c) (acts_of steps)) → StepsWriteWith stands most fingerprint c steps a b lb
  steps_write fingerprint c d steps j x file a b lb means did put = λ told image left.
      let i = identity_of fingerprint c in
      all_begun tables_after tables_go (StandsForRows stands i) (durable_of c) (commits_most_with most i) (acts_of steps) a b image (did.acts.sent told) (put told)
      (subst (λ (t : TableRows). StandsForRows stands i t image) (did.tables told)
      (subst (λ (z : Application). StandsForRows stands (identity_for z.generation fingerprint) (durable_of d) image) did.application
      (rows_stand fingerprint d j x did.running stands image (means image (did.acts.rest told image left)))))

  -- no step was taken
  pub took_nothing : (fingerprint place : List ℕ) (c : CoreValue) (j : Identity) (x : Content) (file : List ℕ → Type 0) (a : State) (la : ℕ → List ℕ → List ℕ → Type 0) (m : ℕ) → IsReadyWith fingerprint c j x file a la → TookSteps stands most fine fingerprint fingerprint place place c [] c j x file a a la la m m
  took_nothing fingerprint place c j x file a la m ready =
      let start = running_start fine on tables_after tables_go (StandsForRows stands (identity_of fingerprint c)) file (durable_of c) [] a la ready.kept in
      record {
        within = start.within;
        did = record { application = refl; running = ready.running; state = λ told. sym (after_none c.state); tables = λ told. sym (tables_go.none (durable_of c)); acts = start.sent };
        put = λ told. omega arith;
        counted = λ told few. omega arith;
        same_fingerprint = refl;
        same_place = refl;
      }

  -- the first steps are steps of all
  within_first : (fingerprint : List ℕ) (c : CoreValue) (xs rest all : List ScriptStep) (a b : State) (la lb : ℕ → List ℕ → List ℕ → Type 0) → (IsTrue a.told → all ≡ xs ++ rest) → WithinStepsWith stands fingerprint c xs a b la lb → WithinStepsWith stands fingerprint c all a b la lb
  within_first fingerprint c xs rest all a b la lb split first =
      let rows = StandsForRows stands (identity_of fingerprint c) in
      let now = λ (image : List ℕ). la a.moment image a.sent in
      running_within fine on tables_after tables_go rows now (durable_of c) (durable_of c) (acts_of all) [] (acts_of xs) (acts_of rest) a a b la la lb
      (λ told. sym (tables_go.none (durable_of c))) (λ told. ap acts_of (split told) ∙ acts_both xs rest)
      (running_start fine on tables_after tables_go rows now (durable_of c) (acts_of all) a la (λ told image left. left)) first

  counted_more : (m n k x y : ℕ) → n ≡ m + x → k ≡ n + y → k ≡ m + (x + y)
  counted_more m n k x y first next = omega (arith, first, next)

  module _ {S : Type 0} (ready : S → Type 0) (fingerprint place : S → List ℕ) (identity : S → Identity) (kept : S → Content) (file : S → List ℕ → Type 0) (state : S → State) (leaves : S → ℕ → List ℕ → List ℕ → Type 0) (commits : S → ℕ) where
    abbrev Took : S → CoreValue → List ScriptStep → S → CoreValue → Type 0
    Took s c steps t d = TookSteps stands most fine (fingerprint s) (fingerprint t) (place s) (place t) c steps d (identity t) (kept t) (file t) (state s) (state t) (leaves s) (leaves t) (commits s) (commits t)

    abbrev Failing : S → CoreValue → List ScriptStep → OpenError → S → Type 0
    Failing s c steps e t = FailedSteps stands most fine (fingerprint s) (place s) (place t) c steps e (state s) (state t) (leaves s) (leaves t)

    module _ (s t u : S) (c d : CoreValue) (xs ys rest all : List ScriptStep) (first : Took s c xs t d) (is : IsTrue (state s).told → all ≡ xs ++ (ys ++ rest)) where
      run : Stepping stands most fine (fingerprint s) c d (identity t) (kept t) (file t) all xs (state s) (state t) (leaves s) (leaves t)
      run = record { within = within_first (fingerprint s) c xs (ys ++ rest) all (state s) (state t) (leaves s) (leaves t) is first.within; did = first.did; put = first.put }

      told_then : IsTrue (state s).told → IsTrue (state t).told
      told_then told = subst IsTrue (sym first.within.frame.told) told

      -- some more steps, whatever became of them
      module _ (within : WithinStepsWith stands (fingerprint t) d ys (state t) (state u) (leaves t) (leaves u)) where
        within_here : WithinStepsWith stands (fingerprint s) d ys (state t) (state u) (leaves t) (leaves u)
        within_here = subst (λ f. WithinStepsWith stands f d ys (state t) (state u) (leaves t) (leaves u)) first.same_fingerprint within

        run_within : WithinStepsWith stands (fingerprint s) c all (state s) (state u) (leaves s) (leaves u)
        run_within = stepping_within stands most fine on (fingerprint s) c d (identity t) (kept t) (file t) all xs ys rest (state s) (state t) (state u) (leaves s) (leaves t) (leaves u) run is within_here

        run_writes : StepsWriteWith stands most (fingerprint t) d ys (state t) (state u) (leaves u) → StepsWriteWith stands most (fingerprint s) c all (state s) (state u) (leaves u)
        run_writes writes =
            stepping_writes stands most fine on (fingerprint s) c d (identity t) (kept t) (file t) all xs ys rest (state s) (state t) (state u) (leaves s) (leaves t) (leaves u) run is within_here
            (subst (λ f. StepsWriteWith stands most f d ys (state t) (state u) (leaves u)) first.same_fingerprint writes)

        run_more : (e : CoreValue) → (IsTrue (state s).told → all ≡ xs ++ ys) → (IsTrue (state t).told → (state u).put ≤ (state t).put + commits_most_with most (identity_of (fingerprint t) d) (acts_of ys)) → DidSteps fine (fingerprint t) d ys e (identity u) (kept u) (file u) (state t) (state u) (leaves u) → Stepping stands most fine (fingerprint s) c e (identity u) (kept u) (file u) all all (state s) (state u) (leaves s) (leaves u)
        run_more e both put did =
            stepping_more stands most fine on (fingerprint s) c d (identity t) (kept t) (file t) all xs ys rest (state s) (state t) (state u) (leaves s) (leaves t) (leaves u) run is within_here
            e (identity u) (kept u) (file u) all both (subst (λ f. IsTrue (state t).told → (state u).put ≤ (state t).put + commits_most_with most (identity_of f d) (acts_of ys)) first.same_fingerprint put) (subst (λ f. DidSteps fine f d ys e (identity u) (kept u) (file u) (state t) (state u) (leaves u)) first.same_fingerprint did)

    took_more : (s t u : S) (c d e : CoreValue) (xs ys all : List ScriptStep) → Took s c xs t d → Took t d ys u e → (IsTrue (state s).told → all ≡ xs ++ ys) → Took s c all u e
    took_more s t u c d e xs ys all first next is =
        let split : IsTrue (state s).told → all ≡ xs ++ (ys ++ []) = λ told. is told ∙ ap (λ (l : List ScriptStep). xs ++ l) (sym (append-nil ys)) in
        let more = run_more s t u c d xs ys [] all first split next.within e is next.put next.did in
        record {
          within = more.within;
          did = more.did;
          put = more.put;
          counted = λ told few.
              let sum : commits_in (acts_of all) ≡ commits_in (acts_of xs) + commits_in (acts_of ys) = ap (λ (l : List ScriptStep). commits_in (acts_of l)) (is told) ∙ ap commits_in (acts_both xs ys) ∙ commits_of_both (acts_of xs) (acts_of ys) in
              let before : commits s + commits_in (acts_of xs) < 2 ^ 64 = omega (arith, few, sum) in
              let here = first.counted told before in
              let after : commits t + commits_in (acts_of ys) < 2 ^ 64 = omega (arith, few, sum, here) in
              counted_more (commits s) (commits t) (commits u) (commits_in (acts_of xs)) (commits_in (acts_of ys)) here (next.counted (told_then s t u c d xs ys [] all first split told) after) ∙ ap (λ n. commits s + n) (sym sum);
          same_fingerprint = next.same_fingerprint ∙ first.same_fingerprint;
          same_place = next.same_place ∙ first.same_place;
        }

    took_fails : (s t u : S) (c d : CoreValue) (xs ys rest all : List ScriptStep) (e : OpenError) → Took s c xs t d → Failing t d ys e u → (IsTrue (state s).told → all ≡ xs ++ (ys ++ rest)) → Failing s c all e u
    took_fails s t u c d xs ys rest all e first here is = record {
      within = run_within s t u c d xs ys rest all first is here.within;
      put = run_writes s t u c d xs ys rest all first is here.within here.put;
      went = λ none. on.after (state s) (state t) (state u) first.did.acts.calls (here.went none);
      failed = λ failed. rose_either (state s) (state t) (state u) first.within.frame (here.failed failed);
      halted = λ failed. halts_within (acts_of all) (acts_of xs) (acts_of ys) (acts_of rest) (state s) (state t) (state u) first.within.frame first.did.acts.sent (λ told. ap acts_of (is told) ∙ acts_both xs (ys ++ rest) ∙ ap (λ (l : List Act). acts_of xs ++ l) (acts_both ys rest)) (here.halted failed);
      refused = λ refused told. here.refused refused (told_then s t u c d xs ys rest all first is told);
      other = λ stored other told. here.other stored other (told_then s t u c d xs ys rest all first is told);
      same_place = here.same_place ∙ first.same_place;
    }

    pub storing_goes : StepsGoOn (λ s c. ready s × IsReadyWith (fingerprint s) c (identity s) (kept s) (file s) (state s) (leaves s)) (λ s. IsTrue (state s).told) (λ s c xs t d. ready t × Took s c xs t d) Failing
    storing_goes = record {
      none = λ s c now. (now.0, took_nothing (fingerprint s) (place s) c (identity s) (kept s) (file s) (state s) (leaves s) (commits s) now.1);
      application = λ s t c d xs took. took.1.did.application;
      state = λ s t c d xs took told. took.1.did.state told;
      again = λ s t c d xs now took. (
        took.0,
        record {
          running = subst (λ f. IsRunningWith f d (identity t) (kept t)) (sym took.1.same_fingerprint) took.1.did.running;
          kept = λ told. took.1.did.acts.rest (subst IsTrue took.1.within.frame.told told);
        },
      );
      more = λ s t u c d e xs ys all first next is. (next.0, took_more s t u c d e xs ys all first.1 next.1 is);
      fails = λ s t u c d xs ys rest all e first here is. took_fails s t u c d xs ys rest all e first.1 here is;
    }
