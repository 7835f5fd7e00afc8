-- What a statement keeps of the record of its transaction, and that a replay reads its inputs in order.
use Rattle.std.specs.Prelude.{◌≡◌, refl, ℕ, zero, suc, ◌+◌, ◌-◌, ◌≤◌, Bool, true, false, IsTrue, List, [], ◌∷◌, ◌++◌, length}
use Rattle.std.proofs.Common.{sym, ap, ◌∙◌, subst, arith}
use Rattle.std.proofs.lemmas.List.{length-append}
use Rattle.std.specs.List.{list_all}
use Rattle.kd_base.specs.ToolsLaws.{true_both}
use Rattle.kdcs_types.specs.declared.call.Code.TheVariants.{K04, K05}
use Rattle.kdcs_types.specs.declared.key.Area.{Area}
use Rattle.kdcs_types.specs.declared.service.Note.{Note}
use Rattle.kdcs_types.specs.declared.service.Note.TheVariants.{Released, Refused}
use Rattle.kdcs_types.specs.Tables.{TableRows}
use Rattle.application_types.specs.UnitText.{UnitText}
use Rattle.abstract_monitor.specs.declared.answer.Called.{Called}
use Rattle.abstract_monitor.specs.declared.answer.Called.TheVariants.{Replied}
use Rattle.abstract_monitor.specs.declared.answer.Happened.{Happened}
use Rattle.abstract_monitor.specs.declared.answer.Happened.TheVariants.{Went, Queued, Waited, Held}
use Rattle.abstract_monitor.specs.declared.answer.LockAnswer.{LockAnswer}
use Rattle.abstract_monitor.specs.declared.answer.LockAnswer.TheVariants.{Granted, Wait, Busy, Deadlock}
use Rattle.abstract_monitor.specs.State.{Application, OpenTransaction}
use Rattle.abstract_monitor.specs.Calls.{Told, Performed, touches, touching, answer_by, on_answer}
use Rattle.abstract_monitor.specs.Endings.{is_asynchronous, followed_by_input}
use Rattle.abstract_monitor.specs.Statements.{Kept, Stated, area_of, by_call, by_performed, statement}
use Rattle.laws_of_states.specs.Replay.{went_on, replay_told, replay_step, replay}
use Rattle.laws_of_states.specs.ListsLaws.{all_append}
use Rattle.laws_of_states.specs.OpenLaws.{ToldFits}
use Rattle.laws_of_states.specs.ShapesLaws.{Becomes, IsAnswered, AnsweredBy, StatementLeaves, StatementLooks, StatementAlone, StatementLocks, StatementUnlocks, statement_looks}
use Rattle.laws_of_runs.specs.ReplaysLaws.{replay_next}
use Rattle.serial_audit.specs.Audit.{note_fits}

-- all notes fit
abbrev NotesFit : List Note → Type 0
NotesFit notes = IsTrue (list_all note_fits notes)

-- y began as x did and has its inputs, and its notes fit where what it was told does
pub record Stays (v : Told) (x y : OpenTransaction) : Type 0 where
  pub began : y.began ≡ x.began
  pub first : y.first ≡ x.first
  pub inputs : y.inputs ≡ x.inputs
  pub notes : ToldFits v → IsTrue (list_all note_fits x.notes) → IsTrue (list_all note_fits y.notes)

module _ (app : Application) (asy : Bool) (x : OpenTransaction) (v : Told) where
  stays_itself : Stays v x x
  stays_itself = record { began = refl; first = refl; inputs = refl; notes = λ f h. h }

  becomes : (z y : OpenTransaction) (areas : List Area) (done : ℕ) → Stays v x z → Becomes z y areas z.notes done → Stays v x y
  becomes z y areas done a b = record {
    began = b.began ∙ a.began;
    first = b.first ∙ a.first;
    inputs = b.inputs ∙ a.inputs;
    notes = λ f h. subst NotesFit (sym b.notes) (a.notes f h);
  }

  leaves : (q : Stated) → StatementLeaves x q.0 q.1 → Stays v x q.0
  leaves q = by q.1
    where
      same : q.0 ≡ x → Stays v x q.0
      same e = subst (Stays v x) (sym e) stays_itself

      by : (h : Happened) → StatementLeaves x q.0 h → Stays v x q.0
      by Went l = becomes x q.0 _ _ stays_itself l
      by Queued l = becomes x q.0 _ _ stays_itself l
      by Waited l = absurd l
      by _ l = same l

  answered : (unit : UnitText) (z : OpenTransaction) (p : Performed) → Stays v x z → IsAnswered z p → Stays v x (by_performed app asy unit p).0
  answered unit z p a = by p.1
    where
      by : (c : Called) → AnsweredBy z p.0 c → Stays v x (by_call app asy unit p.0 c).0
      by (Replied reply) q = let s = becomes z p.0 _ _ a q in record { began = s.began; first = s.first; inputs = s.inputs; notes = s.notes }
      by _ q = absurd q

  touching_stays : (area : Area) (b : Bool) → Stays v x (touching x area b)
  touching_stays area true = stays_itself
  touching_stays area false = record { began = refl; first = refl; inputs = refl; notes = λ f h. h }

  locks : (unit : UnitText) (area : Area) (go : OpenTransaction → Performed) → ((y : OpenTransaction) → IsAnswered y (go y)) → (a : LockAnswer) → Stays v x (by_performed app asy unit (on_answer x area a go)).0
  locks unit area go all Granted = let y = touching x area (touches x area) in answered unit y (go y) (touching_stays area (touches x area)) (all y)
  locks unit area go all Wait = stays_itself
  locks unit area go all Busy = record { began = refl; first = refl; inputs = refl; notes = λ f h. all_append note_fits x.notes (Refused area K04 ∷ []) h refl }
  locks unit area go all Deadlock = record { began = refl; first = refl; inputs = refl; notes = λ f h. all_append note_fits x.notes (Refused area K05 ∷ []) h refl }

  pub statement_stays : Stays v x (statement app v asy x).0
  statement_stays = by (statement_looks app asy x)
    where
      by : StatementLooks app asy x (area_of app x) (λ w. statement app w asy x) → Stays v x (statement app v asy x).0
      by (StatementAlone r same left) = subst (λ (q : Stated). Stays v x q.0) (sym (same v)) (leaves r left)
      by (StatementLocks unit area go asks same all) =
          subst (λ (q : Stated). Stays v x q.0) (sym (same v)) (locks unit area (go v.content) (all v.content) (answer_by v (touches x area)))
      by (StatementUnlocks unit area asks held same) =
          subst (λ (q : Stated). Stays v x q.0) (sym (same v))
          (record { began = refl; first = refl; inputs = refl; notes = λ f h. all_append note_fits x.notes (Released area v.content ∷ []) h (true_both _ _ f refl) })

-- ---- the inputs of a replay

module _ (app : Application) (t : TableRows) (r : Kept) where
  abbrev read : ℕ → ℕ
  read n = length (replay app t r n).inputs

  -- a step reads one input, or none
  step_reads : (z : OpenTransaction) → length z.inputs ≤ length (replay_step app t r z).inputs
  unfolding followed_by_input
  step_reads z =
      let v = replay_told t r z (area_of app z) in
      by (statement app v (is_asynchronous r.service) z) (statement_stays app (is_asynchronous r.service) z v).inputs
    where
      same : (y : OpenTransaction) → y.inputs ≡ z.inputs → length z.inputs ≤ length y.inputs
      same y e = let f : length y.inputs ≡ length z.inputs = ap length e in omega (arith, f)

      more : (input : List ℕ) → length z.inputs ≤ length (z.inputs ++ input ∷ [])
      more input = let f : length (z.inputs ++ input ∷ []) ≡ length z.inputs + 1 = length-append z.inputs (input ∷ []) in omega (arith, f)

      happening : (y : OpenTransaction) (h : Happened) → y.inputs ≡ z.inputs → length z.inputs ≤ length (went_on app r z y h).inputs
      happening y Went e = same y e
      happening y Queued e = same y e
      happening y (Held tac) e = more _
      happening y _ e = same z refl

      by : (q : Stated) → q.0.inputs ≡ z.inputs → length z.inputs ≤ length (went_on app r z q.0 q.1).inputs
      by q e = happening q.0 q.1 e

  reads_on : (n k : ℕ) → read n ≤ read (n + k)
  reads_on n zero = subst (λ m. read n ≤ read m) (none n) (let z : read n ≤ read n = omega arith in z)
    where
      none : (m : ℕ) → m ≡ m + 0
      none m = omega arith
  reads_on n (suc k) =
      let a : read n ≤ read (n + k) = reads_on n k in
      let b : read (n + k) ≤ length (replay_step app t r (replay app t r (n + k))).inputs = step_reads (replay app t r (n + k)) in
      let c : read (n + k + 1) ≡ length (replay_step app t r (replay app t r (n + k))).inputs = ap (λ (y : OpenTransaction). length y.inputs) (replay_next app t r (n + k)) in
      subst (λ m. read n ≤ read m) (next n k) (let z : read n ≤ read (n + k + 1) = omega (arith, a, b, c) in z)
    where
      next : (m j : ℕ) → m + j + 1 ≡ m + suc j
      next m j = omega arith

  -- earlier it has read no more
  pub reads_no_more : (n last : ℕ) → n ≤ last → read n ≤ read last
  reads_no_more n last below = subst (λ m. read n ≤ read m) (whole n last below) (reads_on n (last - n))
    where
      whole : (m l : ℕ) → m ≤ l → m + (l - m) ≡ l
      whole m l b = omega (arith, b)
