-- A replay makes no other notes than a run does.
use Rattle.std.specs.Prelude.{◌≡◌, refl, ℕ, zero, suc, Bool, true, false, IsTrue, List, [], ◌∷◌, ◌++◌, cond, Option, Some, None}
use Rattle.std.proofs.Common.{sym, ap, ◌∙◌, subst}
use Rattle.std.proofs.lemmas.List.Folds.{list_all-append}
use Rattle.std.specs.List.{list_all}
use Rattle.kd_base.specs.ToolsLaws.{true_both}
use Rattle.kdcs_types.specs.declared.key.Area.{Area}
use Rattle.kdcs_types.specs.declared.key.ServiceId.{ServiceId}
use Rattle.kdcs_types.specs.declared.key.ServiceId.TheVariants.{Dialogue, Asynchronous}
use Rattle.kdcs_types.specs.declared.service.JobValue.{JobValue}
use Rattle.kdcs_types.specs.declared.service.Note.{Note}
use Rattle.kdcs_types.specs.declared.service.Service.{Service}
use Rattle.kdcs_types.specs.Tables.{TableRows, job_of, service_of}
use Rattle.application_types.specs.UnitText.{UnitText}
use Rattle.abstract_monitor.specs.declared.answer.Called.{Called}
use Rattle.abstract_monitor.specs.declared.answer.Called.TheVariants.{Replied}
use Rattle.abstract_monitor.specs.declared.answer.Happened.{Happened}
use Rattle.abstract_monitor.specs.declared.answer.Happened.TheVariants.{Went, Queued, Waited}
use Rattle.abstract_monitor.specs.declared.answer.LockAnswer.{LockAnswer}
use Rattle.abstract_monitor.specs.declared.answer.LockAnswer.TheVariants.{Granted, Wait, Busy, Deadlock}
use Rattle.abstract_monitor.specs.State.{Application, OpenTransaction}
use Rattle.abstract_monitor.specs.Calls.{Told, Performed, touches, touching, answer_by, on_answer}
use Rattle.abstract_monitor.specs.Endings.{is_asynchronous, opened, with_service, followed_by_input}
use Rattle.abstract_monitor.specs.Statements.{Kept, Stated, area_of, by_call, by_performed, statement}
use Rattle.laws_of_states.specs.Replay.{is_made, dialogue_from, job_from, opened_from, went_on, replay_told, replay}
use Rattle.laws_of_runs.specs.SerialLaws.{CommitsBeginWithTheirRow, RecordsHaveMadeNotes}
use Rattle.laws_of_states.specs.ShapesLaws.{IsAnswered, AnsweredBy, StatementLeaves, StatementLooks, StatementAlone, StatementLocks, StatementUnlocks, statement_looks}

-- the row at the beginning is that of the durable tables
pub commits_begin : CommitsBeginWithTheirRow
commits_begin app before after kept lasts commit = ap (λ b. service_of (cond b before (with_service before kept.service kept.began)) kept.service) (sym lasts) ∙ commit.atomic.began

abbrev AllMade : OpenTransaction → Type 0
AllMade x = IsTrue (list_all is_made x.notes)

same_notes : (y : OpenTransaction) (notes : List Note) → y.notes ≡ notes → IsTrue (list_all is_made notes) → AllMade y
same_notes y notes e h = ap (list_all is_made) e ∙ h

one_more : (notes : List Note) (n : Note) → is_made n ≡ true → IsTrue (list_all is_made notes) → IsTrue (list_all is_made (notes ++ n ∷ []))
one_more notes n is h = list_all-append is_made notes (n ∷ []) ∙ true_both (list_all is_made notes) (list_all is_made (n ∷ [])) h (true_both (is_made n) true is refl)

module _ (app : Application) (asy : Bool) (x : OpenTransaction) (made : AllMade x) where
  abbrev Makes : Stated → Type 0
  Makes q = AllMade q.0

  leaves_made : (q : Stated) → StatementLeaves x q.0 q.1 → Makes q
  leaves_made q = by q.1
    where
      same : q.0 ≡ x → AllMade q.0
      same e = subst AllMade (sym e) made

      by : (h : Happened) → StatementLeaves x q.0 h → AllMade q.0
      by Went l = same_notes q.0 x.notes l.notes made
      by Queued l = same_notes q.0 x.notes l.notes made
      by Waited l = absurd l
      by _ l = same l

  answered_made : (unit : UnitText) (z : OpenTransaction) (p : Performed) → AllMade z → IsAnswered z p → Makes (by_performed app asy unit p)
  answered_made unit z p h = by p.1
    where
      by : (c : Called) → AnsweredBy z p.0 c → Makes (by_call app asy unit p.0 c)
      by (Replied reply) q = same_notes p.0 z.notes q.notes h
      by _ q = absurd q

  touching_made : (area : Area) (b : Bool) → AllMade (touching x area b)
  touching_made area true = made
  touching_made area false = made

  locks_made : (unit : UnitText) (area : Area) (go : OpenTransaction → Performed) → ((y : OpenTransaction) → IsAnswered y (go y)) → (a : LockAnswer) → Makes (by_performed app asy unit (on_answer x area a go))
  locks_made unit area go all Granted =
      let y = touching x area (touches x area) in
      answered_made unit y (go y) (touching_made area (touches x area)) (all y)
  locks_made unit area go all Wait = made
  locks_made unit area go all Busy = one_more x.notes _ refl made
  locks_made unit area go all Deadlock = one_more x.notes _ refl made

  statement_made : (v : Told) → Makes (statement app v asy x)
  statement_made v = by (statement_looks app asy x)
    where
      by : StatementLooks app asy x (area_of app x) (λ w. statement app w asy x) → Makes (statement app v asy x)
      by (StatementAlone r same leaves) = subst Makes (sym (same v)) (leaves_made r leaves)
      by (StatementLocks unit area go asks same all) = subst Makes (sym (same v)) (locks_made unit area (go v.content) (all v.content) (answer_by v (touches x area)))
      by (StatementUnlocks unit area asks held same) = subst Makes (sym (same v)) (one_more x.notes _ refl made)

module _ (app : Application) (t : TableRows) (r : Kept) where
  opened_made : (id : ServiceId) (began : Option Service) → AllMade (opened_from app t r id began)
  unfolding opened
  opened_made (Dialogue user) None = refl
  opened_made (Dialogue user) (Some row) = from_row row.awaits
    where
      from_row : (b : Bool) → AllMade (dialogue_from app r user row b)
      from_row true = refl
      from_row false = refl
  opened_made (Asynchronous number) None = from_job (job_of t number)
    where
      from_job : (o : Option JobValue) → AllMade (job_from app r o)
      from_job None = refl
      from_job (Some job) = refl
  opened_made (Asynchronous number) (Some row) = refl

  replay_made : (n : ℕ) → AllMade (replay app t r n)
  unfolding replay followed_by_input
  replay_made zero = opened_made r.service r.began
  replay_made (suc n) =
      let z = replay app t r n in
      by z (statement app (replay_told t r z (area_of app z)) (is_asynchronous r.service) z) (replay_made n) (statement_made app (is_asynchronous r.service) z (replay_made n) (replay_told t r z (area_of app z)))
    where
      happening : (z y : OpenTransaction) (h : Happened) → AllMade z → AllMade y → AllMade (went_on app r z y h)
      happening z y Went old new = new
      happening z y Queued old new = new
      happening z y _ old new = old

      by : (z : OpenTransaction) (q : Stated) → AllMade z → AllMade q.0 → AllMade (went_on app r z q.0 q.1)
      by z q old new = happening z q.0 q.1 old new

pub records_have_made_notes : RecordsHaveMadeNotes
records_have_made_notes app t r determined = ap (λ (k : Kept). list_all is_made k.notes) (sym determined.keeps) ∙ replay_made app t r r.statements
