-- A statement that is done leaves an open transaction that can go on.
use Rattle.std.specs.Prelude.{◌≡◌, ℕ, refl, ◌+◌, ◌≤◌, Bool, true, false, IsTrue, IsSome, IfSome, List, [], Option, None, Some}
use Rattle.std.proofs.Common.{sym, ap, subst, arith}
use Rattle.std.proofs.lemmas.List.{length-replicate}
use Rattle.kd_base.specs.declared.words.Variant.{Variant}
use Rattle.kdcs_types.specs.declared.call.Reply.{Reply}
use Rattle.kdcs_types.specs.declared.key.ServiceId.{ServiceId}
use Rattle.kdcs_types.specs.declared.key.ServiceId.TheVariants.{Dialogue, Asynchronous}
use Rattle.kdcs_types.specs.declared.run_state.Header.{Header}
use Rattle.kdcs_types.specs.declared.run_state.RunState.{RunState}
use Rattle.application_types.specs.Generation.{Generated}
use Rattle.application_types.specs.UnitText.{UnitText}
use Rattle.abstract_monitor.specs.KeepsReady.{SameLengths, StaysReady}
use Rattle.abstract_monitor.specs.KeepsReadyLaws.{steps_stay_ready, answers_stay_ready}
use Rattle.abstract_monitor.specs.Ready.{IsReady, IsAsking}
use Rattle.abstract_monitor.specs.Statement.{Meaning, Plain, Asks, Ends, step, next_target, read_into, answered}
use Rattle.abstract_monitor.specs.declared.answer.Called.{Called}
use Rattle.abstract_monitor.specs.declared.answer.Called.TheVariants.{Replied, Waits, Abnormal, Pends}
use Rattle.abstract_monitor.specs.declared.outcome.Outcome.{Outcome}
use Rattle.abstract_monitor.specs.declared.outcome.Outcome.TheVariants.{Stay, Queue, Finish, Break, Back}
use Rattle.abstract_monitor.specs.Bytes.{Bytes}
use Rattle.abstract_monitor.specs.State.{Application, OpenTransaction, unit_of}
use Rattle.abstract_monitor.specs.Calls.{Told, call_outcome}
use Rattle.abstract_monitor.specs.Endings.{is_asynchronous, header_of, handed_on, next_run, followed}
use Rattle.abstract_monitor.specs.Statements.{Stated, by_outcome, by_call, by_step, in_unit, statement}
use Rattle.laws_of_states.specs.Applications.{IsApplication}
use Rattle.laws_of_states.specs.Suits.{has_kind}
use Rattle.laws_of_states.specs.Transactions.{IsMessage, PutsNone, CanGoOn}
use Rattle.laws_of_states.specs.OpenLaws.{reads, StandsIn, ToldFits, OutcomeFits, CalledFits, CallsKeep, StatementKeeps, StatementsKeep}
use Rattle.laws_of_states.specs.ReadyLaws.{AskFits, StepFits, next_fits, fitted_unit, runs_are_ready, stored_header}
use Rattle.laws_of_states.specs.CallsLaws.{ReplyFits, call_keeps}
use Rattle.laws_of_states.specs.UpdatesLaws.{can_from, areas, lssb_part, with_run}

-- ---- calls

calls_nb : (app : Application) → IsApplication app → app.generation.limits.nb ≤ 32767
calls_nb app application = omega (arith, application.nb)

reply_answers : (g : Generated) (asynchronous reading : Bool) (unit : UnitText) (run : RunState) (c : Called) → IsAsking (step unit run) → (IsTrue reading → IsSome (next_target unit run)) → ReplyFits g asynchronous reading c → CalledFits g asynchronous unit run c
reply_answers g asynchronous reading unit run (Replied reply) asks target fits =
    record { asks = asks; read_length = omega (arith, fits.0); target = by reply.content fits.1 }
  where
    by : (o : Option Bytes) → (IsSome o → IsTrue reading) → IfSome o (λ content. IsSome (next_target unit run))
    by None r = tt
    by (Some content) r = target (r refl)
reply_answers g asynchronous reading unit run Waits asks target fits = tt
reply_answers g asynchronous reading unit run (Abnormal cause) asks target fits = tt
reply_answers g asynchronous reading unit run (Pends variant o) asks target fits = fits

pub calls_keep : CallsKeep
calls_keep app id x unit v call stands told e =
    let fits : AskFits (next_target unit x.run) call = subst (StepFits x.run (next_target unit x.run)) e (next_fits app id x unit stands) in
    let kept = call_keeps app.generation id v x call (calls_nb app stands.application) told fits.short stands.can in
    let p = call_outcome app.generation v (is_asynchronous id) x call in
    record {
      can = kept.can;
      same_run = kept.same_run;
      fits = reply_answers app.generation (is_asynchronous id) (reads call) unit p.0.run p.1
          (subst (λ (r : RunState). IsAsking (step unit r)) (sym kept.same_run) (subst IsAsking (sym e) tt))
          (λ r. subst (λ (n : RunState). IsSome (next_target unit n)) (sym kept.same_run) (fits.target_there r))
          kept.fits;
    }

-- ---- further unit runs

handed_message : (g : Generated) (id : ServiceId) (x : OpenTransaction) → CanGoOn g id x → (asynchronous : Bool) → IsMessage g (handed_on asynchronous x)
handed_message g id x can true = can.unread
handed_message g id x can false = can.parts

pub puts_none : (id : ServiceId) → PutsNone id []
puts_none (Dialogue user) = tt
puts_none (Asynchronous number) = refl

pub next_run_can : (g : Generated) (id : ServiceId) (x : OpenTransaction) (tac : Bytes) (unread inputs : List Bytes) → IsTrue (has_kind g tac (is_asynchronous id)) → IsMessage g unread → CanGoOn g id x → CanGoOn g id (next_run g x tac unread inputs)
next_run_can g id x tac unread inputs kind message can =
    let one : 1 ≤ 1 = omega arith in
    let no_length : 0 ≤ 99999 = omega arith in
    let no_time : (n : ℕ) → 0 ≤ n = λ n. omega arith in
    let none : IsMessage g [] = record { count = omega arith; bytes = omega arith } in
    can_from g id (next_run g x tac unread inputs)
    (can.owner, can.user, can.lterm, can.first, kind, ap (λ (h : Header). header_of h.benid h.logter h.tacvg tac) can.header)
    (one, no_length, no_time _, can.kb, length-replicate g.limits.spab 32)
    (message, none, puts_none id)
    (areas g id x can) (lssb_part g id x can) can.drafts

pub followed_can : (g : Generated) (id : ServiceId) (x : OpenTransaction) (tac : Bytes) → IsTrue (has_kind g tac (is_asynchronous id)) → CanGoOn g id x → CanGoOn g id (followed g (is_asynchronous id) x tac)
unfolding followed
followed_can g id x tac kind can = next_run_can g id x tac _ [] kind (handed_message g id x can (is_asynchronous id)) can

-- ---- statements

read_header : (unit : UnitText) (run : RunState) (target content : Option Bytes) → (read_into unit run target content).header ≡ run.header
read_header unit run None content = refl
read_header unit run (Some f) None = refl
read_header unit run (Some f) (Some content) = stored_header unit run f content

answered_header : (unit : UnitText) (run : RunState) (reply : Reply) → (answered unit run reply).header ≡ run.header
unfolding answered
answered_header unit run reply = read_header unit run (next_target unit run) reply.content

abbrev StatedFits : Application → ServiceId → Stated → Type 0
StatedFits app id r = StatementKeeps app.generation id r

by_outcome_keeps : (app : Application) (id : ServiceId) (x : OpenTransaction) (variant : Variant) (o : Outcome) → CanGoOn app.generation id x → OutcomeFits app.generation (is_asynchronous id) o → StatedFits app id (by_outcome app (is_asynchronous id) x variant o)
by_outcome_keeps app id x variant (Stay tac) can fits = record { can = followed_can app.generation id x tac fits can; fits = tt }
by_outcome_keeps app id x variant (Queue tac) can fits = record { can = followed_can app.generation id x tac fits can; fits = tt }
by_outcome_keeps app id x variant Finish can fits = record { can = can; fits = tt }
by_outcome_keeps app id x variant Break can fits = record { can = can; fits = tt }
by_outcome_keeps app id x variant Back can fits = record { can = can; fits = tt }
by_outcome_keeps app id x variant _ can fits = record { can = can; fits = fits }

by_call_keeps : (app : Application) (id : ServiceId) (unit : UnitText) (x : OpenTransaction) (c : Called) → IsReady unit x.run → CanGoOn app.generation id x → CalledFits app.generation (is_asynchronous id) unit x.run c → StatedFits app id (by_call app (is_asynchronous id) unit x c)
by_call_keeps app id unit x (Replied reply) ready can fits =
    let after = answers_stay_ready unit x.run reply ready fits in
    record {
      can = with_run app.generation id x can (answered unit x.run reply) (x.statements + 1) (answered_header unit x.run reply) after.0.place after.0.read_length after.0.count after.1;
      fits = tt;
    }
by_call_keeps app id unit x Waits ready can fits = record { can = can; fits = tt }
by_call_keeps app id unit x (Abnormal cause) ready can fits = record { can = can; fits = tt }
by_call_keeps app id unit x (Pends variant o) ready can fits = by_outcome_keeps app id x variant o can fits

by_step_keeps : (app : Application) (id : ServiceId) (x : OpenTransaction) (unit : UnitText) (v : Told) → StandsIn app id x unit → ToldFits v → (m : Meaning) → step unit x.run ≡ m → StatedFits app id (by_step app v (is_asynchronous id) x unit m)
by_step_keeps app id x unit v stands told (Plain after) e =
    let ready = runs_are_ready app id x unit stands in
    let labels = (fitted_unit app id x unit stands).labels_from_one in
    let stays : IsReady unit after × SameLengths x.run after = subst (StaysReady unit x.run) e (steps_stay_ready unit x.run labels ready) in
    let header : after.header ≡ x.run.header = subst (StepFits x.run (next_target unit x.run)) e (next_fits app id x unit stands) in
    record {
      can = with_run app.generation id x stands.can after (x.statements + 1) header stays.0.place stays.0.read_length stays.0.count stays.1;
      fits = tt;
    }
by_step_keeps app id x unit v stands told (Ends cause) e = record { can = stands.can; fits = tt }
by_step_keeps app id x unit v stands told (Asks call) e =
    let kept = calls_keep app id x unit v call stands told e in
    let p = call_outcome app.generation v (is_asynchronous id) x call in
    by_call_keeps app id unit p.0 p.1 (subst (IsReady unit) (sym kept.same_run) (runs_are_ready app id x unit stands)) kept.can kept.fits

pub statements_keep : StatementsKeep
unfolding statement
statements_keep app id x v application can told = by (unit_of app x.current) refl
  where
    by : (o : Option UnitText) → unit_of app x.current ≡ o → StatedFits app id (in_unit app v (is_asynchronous id) x o)
    by None e = record { can = can; fits = tt }
    by (Some unit) e = by_step_keeps app id x unit v (record { application = application; can = can; in_unit = e }) told (step unit x.run) refl
