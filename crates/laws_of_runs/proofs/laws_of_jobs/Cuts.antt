-- A stop leaves the durable tables of a state between two steps, and a start from them goes on there.
use Rattle.std.specs.Prelude.{false, ◌≡◌, ◌⊎◌, refl, IsTrue, ℕ, suc, ◌+◌, Bool, cond, List, [], ◌∷◌, ◌++◌, length, Option, Some, None, All}
use Rattle.std.proofs.Common.{sym, ap, subst, ◌∙◌, inl, inr, arith, true≢false}
use Rattle.std.proofs.lemmas.List.Elements.{All-head, All-tail}
use Rattle.kdcs_types.specs.declared.act.Act.{Act}
use Rattle.kdcs_types.specs.declared.act.Act.TheVariants.{Commit, Emit}
use Rattle.kdcs_types.specs.declared.key.ServiceId.TheVariants.{Dialogue, Asynchronous}
use Rattle.kdcs_types.specs.declared.service.Service.{Service}
use Rattle.kdcs_types.specs.Tables.{TableRows, service_of, changed}
use Rattle.abstract_monitor.specs.Bytes.{Bytes}
use Rattle.abstract_monitor.specs.Endings.{is_durable, durable, restarts, lterm_of_row}
use Rattle.abstract_monitor.specs.State.{Application, State}
use Rattle.abstract_monitor.specs.Trace.{history, trace, tables_after}
use Rattle.abstract_monitor.specs.Turns.{pterm_of_user}
use Rattle.abstract_monitor.specs.Commands.{ScriptStep, Maker, started, signed_on, state_after, acts_of}
use Rattle.laws_of_states.specs.Applications.{IsApplication}
use Rattle.laws_of_states.specs.DurableLaws.{durable_sorted, kept_at, durable_service}
use Rattle.laws_of_states.specs.Facts.{IsSignedOn}
use Rattle.laws_of_states.specs.Keeping.{HasFacts}
use Rattle.laws_of_states.specs.Cut.{commits_in}
use Rattle.laws_of_states.specs.Steps.{AreLines, CommitsOnce, StepsMakeTheirTables}
use Rattle.laws_of_states.specs.StepsLaws.{commits_of_both, lines_commit_nothing, commit_counts, lines_after}
use Rattle.laws_of_states.specs.EachStep.{EachStep}
use Rattle.laws_of_runs.specs.RunLaws.{HistoriesCommitOnce, StartsHaveFacts, ScriptsKeepFacts}
use Rattle.laws_of_runs.specs.ListsLaws.{tables_both}
use Rattle.laws_of_runs.specs.SerialRuns.{makers_of}
use Rattle.laws_of_runs.specs.Stored.{StepsDone}
use Rattle.laws_of_runs.specs.ResumeLaws.{IsReadyAt, StartsResume, SignOnResumes, SignOnsResume, CutsResume}

-- ---- lists of acts

cons_head : {A : Type 0} (x y : A) (xs ys : List A) → x ∷ xs ≡ y ∷ ys → x ≡ y
cons_head x y xs ys e = cc

cons_tail : {A : Type 0} (x y : A) (xs ys : List A) → x ∷ xs ≡ y ∷ ys → xs ≡ ys
cons_tail x y xs ys e = cc

cons_both : {A : Type 0} (x y : A) (xs ys : List A) → x ≡ y → xs ≡ ys → x ∷ xs ≡ y ∷ ys
cons_both x y xs ys e f = cc

none_done : {A : Type 0} (done left : List A) → [] ≡ done ++ left → done ≡ []
none_done [] left e = refl
none_done (d ∷ ds) left e = absurd cc

-- of two lists one after another, some first items end within the first, or reach into the second
record EndsWithin {A : Type 0} (xs done : List A) : Type 0 where
  over : List A
  whole : xs ≡ done ++ over

record ReachesInto {A : Type 0} (xs ys done left : List A) : Type 0 where
  more : List A
  is : done ≡ xs ++ more
  rest : ys ≡ more ++ left

parted : {A : Type 0} (xs ys done left : List A) → xs ++ ys ≡ done ++ left → EndsWithin xs done ⊎ ReachesInto xs ys done left
parted [] ys done left e = inr (record { more = done; is = refl; rest = e })
parted (x ∷ xs) ys [] left e = inl (record { over = x ∷ xs; whole = refl })
parted (x ∷ xs) ys (d ∷ ds) left e = by (parted xs ys ds left (cons_tail x d (xs ++ ys) (ds ++ left) e))
  where
    same : x ≡ d
    same = cons_head x d (xs ++ ys) (ds ++ left) e

    by : EndsWithin xs ds ⊎ ReachesInto xs ys ds left → EndsWithin (x ∷ xs) (d ∷ ds) ⊎ ReachesInto (x ∷ xs) ys (d ∷ ds) left
    by (inl w) = inl (record { over = w.over; whole = cons_both x d xs (ds ++ w.over) same w.whole })
    by (inr r) = inr (record { more = r.more; is = cons_both d x ds (xs ++ r.more) (sym same) r.is; rest = r.rest })

first_lines : (xs ys : List Act) → AreLines (xs ++ ys) → AreLines xs
first_lines [] ys are = tt
first_lines (Commit c ∷ xs) ys are = absurd are
first_lines (Emit bytes ∷ xs) ys are = first_lines xs ys are

-- a commit and lines make what the commit makes
commit_makes : (t : TableRows) (commit : Act) (xs ys : List Act) → AreLines xs → AreLines ys → tables_after t (commit ∷ xs) ≡ tables_after t (commit ∷ ys)
unfolding tables_after
commit_makes t (Commit c) xs ys a b = lines_after (changed t c) xs a ∙ sym (lines_after (changed t c) ys b)
commit_makes t (Emit bytes) xs ys a b = lines_after t xs a ∙ sym (lines_after t ys b)

-- the acts make nothing of the tables, and none of them is a commit
abbrev MakesNone : TableRows → List Act → Type 0
MakesNone t done = (tables_after t done ≡ t) × (commits_in done ≡ 0)

-- they make what all acts of the step make, and have its commits
abbrev MakesAll : TableRows → (done all : List Act) → Type 0
MakesAll t done all = (tables_after t done ≡ tables_after t all) × (commits_in done ≡ commits_in all)

-- some first acts of a step make nothing, or all that the step makes
within_step : (app : Application) (s : State) (d : ScriptStep) (t : TableRows) (done over : List Act) → CommitsOnce app s d → d.acts ≡ done ++ over → MakesNone t done ⊎ MakesAll t done d.acts
within_step app s d t done over (inl none) e = let lines = first_lines done over (subst AreLines e none.lines) in inl (lines_after t done lines, lines_commit_nothing done lines)
within_step app s d t [] over (inr one) e = inl (lines_after t [] tt, lines_commit_nothing [] tt)
within_step app s d t (a ∷ more) over (inr one) e =
    let same : _ ∷ one.rest ≡ a ∷ more ++ over = sym one.acts ∙ e in
    let head = sym (cons_head _ a one.rest (more ++ over) same) in
    let lines : AreLines more = first_lines more over (subst AreLines (cons_tail _ a one.rest (more ++ over) same) one.lines) in
    inr (
      commit_makes t a more one.rest lines one.lines ∙ ap (λ (act : Act). tables_after t (act ∷ one.rest)) head ∙ ap (tables_after t) (sym one.acts),
      ap (λ (act : Act). commits_in (act ∷ more)) head ∙ commit_counts app s d.after more lines ∙ sym (ap commits_in one.acts ∙ commit_counts app s d.after one.rest one.lines),
    )

-- ---- makers and commits

makers_more : (d : ScriptStep) (ds : List ScriptStep) → length (makers_of (d ∷ ds)) ≡ length (makers_of (d ∷ [])) + length (makers_of ds)
makers_more d ds = by d.by
  where
    none_more : (n : ℕ) → n ≡ 0 + n
    none_more n = omega arith

    one_more : (n : ℕ) → suc n ≡ 1 + n
    one_more n = omega arith

    by : (o : Option Maker) → length (makers_of (record d { by = o } ∷ ds)) ≡ length (makers_of (record d { by = o } ∷ [])) + length (makers_of ds)
    by None = none_more (length (makers_of ds))
    by (Some maker) = one_more (length (makers_of ds))

-- a step has a maker for its commit, and none without one
makers_commit : (app : Application) (s : State) (d : ScriptStep) → CommitsOnce app s d → length (makers_of (d ∷ [])) ≡ commits_in d.acts
makers_commit app s d once = by once
  where
    makers : Option Maker → ℕ
    makers o = length (makers_of (record d { by = o } ∷ []))

    by : CommitsOnce app s d → makers d.by ≡ commits_in d.acts
    by (inl none) = ap makers none.by ∙ sym (lines_commit_nothing d.acts none.lines)
    by (inr one) = ap makers one.by ∙ sym (ap commits_in one.acts ∙ commit_counts app s d.after one.rest one.lines)

-- ---- between two steps

record Between (app : Application) (s : State) (steps : List ScriptStep) (done : List Act) : Type 0 where
  behind : StepsDone steps done
  stored : tables_after (durable app.generation s.tables) done ≡ durable app.generation (state_after s behind.first).tables
  facts : HasFacts app (state_after s behind.first)

module _ (makes : StepsMakeTheirTables) (app : Application) where
  abbrev Facts : ScriptStep → Type 0
  Facts d = HasFacts app d.after

  no_step : (s : State) (steps : List ScriptStep) (done : List Act) → HasFacts app s → MakesNone (durable app.generation s.tables) done → Between app s steps done
  unfolding state_after
  no_step s steps done facts e = record { behind = record { first = []; rest = steps; whole = refl; commits = sym e.1 }; stored = e.0; facts = facts }

  one_step : (s : State) (d : ScriptStep) (ds : List ScriptStep) (done : List Act) → HasFacts app d.after → CommitsOnce app s d
      → tables_after (durable app.generation s.tables) done ≡ durable app.generation d.after.tables → commits_in done ≡ commits_in d.acts → Between app s (d ∷ ds) done
  unfolding state_after
  one_step s d ds done facts once e k =
      record { behind = record { first = d ∷ []; rest = ds; whole = refl; commits = makers_commit app s d once ∙ sym k }; stored = e; facts = facts }

  later_steps : (s : State) (d : ScriptStep) (ds : List ScriptStep) (done more : List Act) → CommitsOnce app s d
      → tables_after (durable app.generation s.tables) done ≡ tables_after (durable app.generation d.after.tables) more → commits_in done ≡ commits_in d.acts + commits_in more
      → Between app d.after ds more → Between app s (d ∷ ds) done
  unfolding state_after
  later_steps s d ds done more once e k b = record {
    behind = record {
      first = d ∷ b.behind.first;
      rest = b.behind.rest;
      whole = ap (λ (l : List ScriptStep). d ∷ l) b.behind.whole;
      commits = makers_more d b.behind.first ∙ ap (λ n. n + length (makers_of b.behind.first)) (makers_commit app s d once) ∙ ap (λ n. commits_in d.acts + n) b.behind.commits ∙ sym k;
    };
    stored = e ∙ b.stored;
    facts = b.facts;
  }

  cut : (s : State) (steps : List ScriptStep) → HasFacts app s → EachStep (CommitsOnce app) s steps → All Facts steps → (done left : List Act) → acts_of steps ≡ done ++ left → Between app s steps done
  cut s [] facts once all done left e = let lines : AreLines done = subst AreLines (sym (none_done done left e)) tt in no_step s [] done facts (lines_after (durable app.generation s.tables) done lines, lines_commit_nothing done lines)
  cut s (d ∷ ds) facts once all done left e = by (parted d.acts (acts_of ds) done left e) (λ more rest. cut d.after ds (All-head Facts d ds all) once.1 (All-tail Facts d ds all) more left rest)
    where
      here : HasFacts app d.after
      here = All-head Facts d ds all

      made : tables_after (durable app.generation s.tables) d.acts ≡ durable app.generation d.after.tables
      made = makes app s d facts.1.order here.1.order once.0

      inside : MakesNone (durable app.generation s.tables) done ⊎ MakesAll (durable app.generation s.tables) done d.acts → Between app s (d ∷ ds) done
      inside (inl before) = no_step s (d ∷ ds) done facts before
      inside (inr after) = one_step s d ds done here once.0 (after.0 ∙ made) after.1

      by : EndsWithin d.acts done ⊎ ReachesInto d.acts (acts_of ds) done left → ((more : List Act) → acts_of ds ≡ more ++ left → Between app d.after ds more) → Between app s (d ∷ ds) done
      by (inl w) later = inside (within_step app s d (durable app.generation s.tables) done w.over once.0 w.whole)
      by (inr r) later =
          later_steps s d ds done r.more once.0
          (ap (tables_after (durable app.generation s.tables)) r.is ∙ tables_both (durable app.generation s.tables) d.acts r.more ∙ ap (λ (u : TableRows). tables_after u r.more) made)
          (ap commits_in r.is ∙ commits_of_both d.acts r.more)
          (later r.more r.rest)

-- ---- going on

nobody : (app : Application) (t : TableRows) (user : Bytes) → IsSignedOn (started app t) user → ⊥
unfolding started pterm_of_user
nobody app t user h = true≢false (sym h)

module _ (starts : StartsResume) (sign_ons : SignOnsResume) (starts_facts : StartsHaveFacts) (app : Application) (is_app : IsApplication app) (u : State) (facts : HasFacts app u) (found : TableRows) (is : found ≡ durable app.generation u.tables) where
  from_facts : HasFacts app (started app found)
  from_facts = subst (λ (t : TableRows). HasFacts app (started app t)) (sym is) (starts_facts app (durable app.generation u.tables) is_app (durable_sorted app.generation u.tables facts.1.order) facts.1.suits)

  from_asynchronous : (number : ℕ) (row : Service) → service_of u.tables (Asynchronous number) ≡ Some row → IsReadyAt app (started app found) (Asynchronous number) row (lterm_of_row row.lterm)
  from_asynchronous number row e =
      (starts app found).asynchronous number row (ap (λ (t : TableRows). service_of t (Asynchronous number)) is ∙ durable_service app.generation u.tables number ∙ e)

  durable_dialogue : (user : Bytes) → service_of (durable app.generation u.tables) (Dialogue user) ≡ cond (restarts app.generation user) (service_of u.tables (Dialogue user)) None
  unfolding durable
  durable_dialogue user = kept_at (is_durable app.generation) (Dialogue user) u.tables.services

  from_dialogue : (pterm user : Bytes) (row : Service) → IsTrue (restarts app.generation user) → service_of u.tables (Dialogue user) ≡ Some row → SignOnResumes app (started app found) pterm user row (signed_on app (started app found) pterm user)
  from_dialogue pterm user row restart e =
      sign_ons app (started app found) pterm user row from_facts (nobody app found user)
      (ap (λ (t : TableRows). service_of t (Dialogue user)) ((starts app found).tables ∙ is) ∙ durable_dialogue user ∙ ap (λ (b : Bool). cond b (service_of u.tables (Dialogue user)) None) restart ∙ e)

  from_jobs : (started app found).tables.jobs ≡ u.tables.jobs
  unfolding durable
  from_jobs = ap (λ (t : TableRows). t.jobs) ((starts app found).tables ∙ is)

  from_over : (user : Bytes) → restarts app.generation user ≡ false → service_of (started app found).tables (Dialogue user) ≡ None
  from_over user over =
      ap (λ (t : TableRows). service_of t (Dialogue user)) ((starts app found).tables ∙ is) ∙ durable_dialogue user ∙ ap (λ (b : Bool). cond b (service_of u.tables (Dialogue user)) None) over

pub cuts_resume : StepsMakeTheirTables → HistoriesCommitOnce → StartsHaveFacts → ScriptsKeepFacts → StartsResume → SignOnsResume → CutsResume
unfolding started trace
cuts_resume makes once starts_facts scripts starts sign_ons app t script is_app names order suits done left e =
    let s = started app t in
    let facts = starts_facts app t is_app order suits in
    let b = cut makes app s (history app s script) facts (once app s script) (scripts app s script is_app names facts) done left e in
    let u = state_after s b.behind.first in
    let found = tables_after (durable app.generation t) done in
    record {
      steps = b.behind;
      stored = b.stored;
      facts = from_facts starts sign_ons starts_facts app is_app u b.facts found b.stored;
      asynchronous = from_asynchronous starts sign_ons starts_facts app is_app u b.facts found b.stored;
      jobs = from_jobs starts sign_ons starts_facts app is_app u b.facts found b.stored;
      over = from_over starts sign_ons starts_facts app is_app u b.facts found b.stored;
      dialogue = from_dialogue starts sign_ons starts_facts app is_app u b.facts found b.stored;
    }
