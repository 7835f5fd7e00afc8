-- A statement that leaves its transaction open leaves one that replays to itself.
use Rattle.std.specs.Prelude.{◌≡◌, refl, ℕ, ◌+◌, Bool, true, false, cond, not, IsTrue, List, [], ◌∷◌, ◌++◌, filter, length, slice_get, Option, Some}
use Rattle.std.proofs.Common.{sym, ap, ◌∙◌, subst, true≢false}
use Rattle.std.proofs.lemmas.List.{append_assoc, append-nil}
use Rattle.std.specs.List.{list_any}
use Rattle.kdcs_types.specs.declared.call.Code.{Code}
use Rattle.kdcs_types.specs.declared.call.Code.TheVariants.{K04, K05}
use Rattle.kdcs_types.specs.declared.key.Area.{Area}
use Rattle.kdcs_types.specs.declared.key.ServiceId.{ServiceId}
use Rattle.kdcs_types.specs.declared.service.Note.{Note}
use Rattle.kdcs_types.specs.declared.service.Note.TheVariants.{Released, Refused}
use Rattle.kdcs_types.specs.Keys.{area_eq}
use Rattle.kdcs_types.specs.KeyLaws.{area_eq_same, area_eq_itself}
use Rattle.kdcs_types.specs.Tables.{TableRows, content_of}
use Rattle.application_types.specs.UnitText.{UnitText}
use Rattle.abstract_monitor.specs.declared.answer.Called.{Called}
use Rattle.abstract_monitor.specs.declared.answer.Called.TheVariants.{Replied, Waits, Abnormal, Pends}
use Rattle.abstract_monitor.specs.declared.answer.Happened.{Happened}
use Rattle.abstract_monitor.specs.declared.answer.Happened.TheVariants.{Went, Queued, Held}
use Rattle.abstract_monitor.specs.declared.answer.LockAnswer.{LockAnswer}
use Rattle.abstract_monitor.specs.declared.answer.LockAnswer.TheVariants.{Granted, Wait, Busy, Deadlock}
use Rattle.abstract_monitor.specs.Bytes.{Bytes}
use Rattle.abstract_monitor.specs.State.{Application, OpenTransaction}
use Rattle.abstract_monitor.specs.Calls.{Told, Performed, touches, touching, noted, answer_by, on_answer, locked, replied, unlocked_by, or_empty}
use Rattle.abstract_monitor.specs.Endings.{is_asynchronous, followed_by_input}
use Rattle.abstract_monitor.specs.Statements.{Kept, Stated, area_of, by_call, by_performed, statement}
use Rattle.laws_of_states.specs.Replay.{noted_area, notes_on, answer_by_note, content_by_note, went_on, replay_step, replay}
use Rattle.laws_of_states.specs.ListsLaws.{any_last, any_append, any_filter}
use Rattle.laws_of_states.specs.ShapesLaws.{Becomes, IsCounted, IsAnswered, AnsweredBy, StatementLeaves, StatementLooks, StatementAlone, StatementLocks, StatementUnlocks, statement_looks}
use Rattle.laws_of_runs.specs.Replays.{GoesOnAtOnce, kept_and, told_by, HasSameJob, LookAlike, ReplaysToItself}
use Rattle.laws_of_runs.specs.ReplaysLaws.{told_of, told_rest, replay_next, replays_counted}

-- y is x with one statement more, and these inputs and notes
pub record Advances (x y : OpenTransaction) (more : List Bytes) (new : List Note) : Type 0 where
  pub began : y.began ≡ x.began
  pub first : y.first ≡ x.first
  pub lterm : y.lterm ≡ x.lterm
  pub inputs : y.inputs ≡ x.inputs ++ more
  pub notes : y.notes ≡ x.notes ++ new
  pub statements : y.statements ≡ x.statements + 1

module _ (app : Application) (t : TableRows) (id : ServiceId) (x : OpenTransaction) (replays : ReplaysToItself app t id x) where
  -- the area of which the next statement asks
  abbrev asked : Option Area
  asked = area_of app x

  abbrev does : Told → Stated
  does v = statement app v (is_asynchronous id) x

  -- the hypothesis is used once, with the own inputs and notes in front
  advance : (y : OpenTransaction) (r : Stated) (more : List Bytes) (new : List Note) → Advances x y more new
      → ((other : TableRows) (notes : List Note) → LookAlike t other id y notes → LookAlike t other id x (new ++ notes))
      → ((other : TableRows) (notes : List Note) → LookAlike t other id y notes → does (told_of other (new ++ notes) asked) ≡ r)
      → ((inputs : List Bytes) (notes : List Note) (n : ℕ) → went_on app (kept_and id x (more ++ inputs) notes n) x r.0 r.1 ≡ y)
      → ReplaysToItself app t id y
  advance y r more new a back tells goes other inputs notes alike =
      ap (λ k. replay app other k y.statements) same_record
      ∙ ap (replay app other longer) a.statements
      ∙ replay_next app other longer x.statements
      ∙ ap (replay_step app other longer) (replays_counted app t other id x (more ++ inputs) (new ++ notes) y.statements replays (back other notes alike))
      ∙ ap (λ v. went_on app longer x (does v).0 (does v).1) (told_rest other id x (more ++ inputs) (new ++ notes) y.statements asked)
      ∙ ap (λ (q : Stated). went_on app longer x q.0 q.1) (tells other notes alike)
      ∙ goes inputs (new ++ notes) y.statements
    where
      longer : Kept
      longer = kept_and id x (more ++ inputs) (new ++ notes) y.statements

      all_inputs : y.inputs ++ inputs ≡ x.inputs ++ (more ++ inputs)
      all_inputs = ap (λ l. l ++ inputs) a.inputs ∙ append_assoc x.inputs more inputs

      all_notes : y.notes ++ notes ≡ x.notes ++ (new ++ notes)
      all_notes = ap (λ l. l ++ notes) a.notes ∙ append_assoc x.notes new notes

      same_record : kept_and id y inputs notes y.statements ≡ kept_and id x (more ++ inputs) (new ++ notes) y.statements
      same_record i = record { service = id; began = a.began i; inputs = a.first i ∷ a.lterm i ∷ all_inputs i; notes = all_notes i; statements = y.statements }

  -- ---- a statement that is told nothing, and one that finds its area held

  goes_at_once : (k : ServiceId) (inputs : List Bytes) (notes : List Note) (n : ℕ) (r : Stated) → GoesOnAtOnce r.1 → went_on app (kept_and k x inputs notes n) x r.0 r.1 ≡ r.0
  goes_at_once k inputs notes n r = by r.1
    where
      by : (h : Happened) → GoesOnAtOnce h → went_on app (kept_and k x inputs notes n) x r.0 h ≡ r.0
      by Went g = refl
      by Queued g = refl
      by _ g = absurd g

  -- with one statement more, where its areas are those before it and perhaps more, and no note is new
  counted_on : (r : Stated) → GoesOnAtOnce r.1 → Advances x r.0 [] [] → ((area : Area) → IsTrue (touches x area) → IsTrue (touches r.0 area))
      → ((other : TableRows) (notes : List Note) → LookAlike t other id r.0 notes → does (told_of other notes asked) ≡ r)
      → ReplaysToItself app t id r.0
  counted_on r goes a more tells =
      advance r.0 r [] [] a
      (λ other notes alike. record { areas = λ area h. alike.areas area (more area h); job = subst (HasSameJob t other id) a.began alike.job })
      tells
      (λ inputs notes n. goes_at_once id inputs notes n r goes)

  counted_advances : (y : OpenTransaction) (areas : List Area) → Becomes x y areas x.notes (x.statements + 1) → Advances x y [] []
  counted_advances y areas b = record {
    began = b.began;
    first = b.first;
    lterm = b.lterm;
    inputs = b.inputs ∙ sym (append-nil x.inputs);
    notes = b.notes ∙ sym (append-nil x.notes);
    statements = b.statements;
  }

  alone_replays : (r : Stated) → GoesOnAtOnce r.1 → StatementLeaves x r.0 r.1 → ((v : Told) → does v ≡ r) → ReplaysToItself app t id r.0
  alone_replays r goes leaves same =
      let b = counts r.1 goes leaves in
      counted_on r goes (counted_advances r.0 x.touched b) (λ area h. subst (λ l. IsTrue (list_any (λ (held : Area). area_eq held area) l)) (sym b.touched) h) (λ other notes alike. same _)
    where
      counts : (h : Happened) → GoesOnAtOnce h → StatementLeaves x r.0 h → IsCounted x r.0
      counts Went g l = l
      counts Queued g l = l
      counts _ g l = absurd g

  -- ---- a request for an area

  -- a call that is answered goes on at once, and is counted
  answered_counts : (unit : UnitText) (z : OpenTransaction) (p : Performed) → IsAnswered z p → IsCounted z (by_performed app (is_asynchronous id) unit p).0 × GoesOnAtOnce (by_performed app (is_asynchronous id) unit p).1
  answered_counts unit z p = by p.1
    where
      by : (c : Called) → AnsweredBy z p.0 c → IsCounted z (by_call app (is_asynchronous id) unit p.0 c).0 × GoesOnAtOnce (by_call app (is_asynchronous id) unit p.0 c).1
      by (Replied reply) q =
          (record { began = q.began; first = q.first; lterm = q.lterm; inputs = q.inputs; touched = q.touched; notes = q.notes; statements = ap (λ n. n + 1) q.statements }, tt)
      by Waits q = absurd q
      by (Abnormal cause) q = absurd q
      by (Pends variant o) q = absurd q

  locked_held : (v : Told) (area : Area) (go : OpenTransaction → Performed) → touches x area ≡ true → locked v x area go ≡ go x
  locked_held v area go e = ap (λ b. on_answer x area (answer_by v b) go) e ∙ ap (λ b. go (touching x area b)) e

  locked_free : (v : Told) (area : Area) (go : OpenTransaction → Performed) → touches x area ≡ false → locked v x area go ≡ on_answer x area v.answer go
  locked_free v area go e = ap (λ b. on_answer x area (answer_by v b) go) e

  -- the transaction with one area more
  abbrev holding : Area → OpenTransaction
  holding area = record x { touched = x.touched ++ area ∷ [] }

  locked_granted : (v : Told) (area : Area) (go : OpenTransaction → Performed) → touches x area ≡ false → v.answer ≡ Granted → locked v x area go ≡ go (holding area)
  locked_granted v area go e g = locked_free v area go e ∙ ap (λ a. on_answer x area a go) g ∙ ap (λ b. go (touching x area b)) e

  abbrev performs : UnitText → Performed → Stated
  performs unit p = by_performed app (is_asynchronous id) unit p

  -- another area's notes are not looked at
  other_told : (other : TableRows) (new : Note) (notes : List Note) (area : Area) → area_eq area (noted_area new) ≡ false → told_by other (new ∷ notes) area ≡ told_by other notes area
  other_told other new notes area e =
      ap (λ b. told (cond b (new ∷ notes_on area notes) (notes_on area notes))) e
    where
      told : List Note → Told
      told l = record { answer = answer_by_note (slice_get l 0); content = content_by_note (slice_get l 0) (content_of other area) }

  -- the new note on its area is looked at first
  own_told : (other : TableRows) (new : Note) (notes : List Note) → told_by other (new ∷ notes) (noted_area new) ≡ record { answer = answer_by_note (Some new); content = content_by_note (Some new) (content_of other (noted_area new)) }
  own_told other new notes =
      ap (λ b. told (cond b (new ∷ notes_on (noted_area new) notes) (notes_on (noted_area new) notes))) (area_eq_itself (noted_area new))
    where
      told : List Note → Told
      told l = record { answer = answer_by_note (slice_get l 0); content = content_by_note (slice_get l 0) (content_of other (noted_area new)) }

  module _ (v : Told) (tells : (area : Area) → asked ≡ Some area → v.content ≡ content_of t area) (r : Stated) (is : does v ≡ r) (goes : GoesOnAtOnce r.1) where
    module _ (unit : UnitText) (area : Area) (go : Option Bytes → OpenTransaction → Performed) (asks : asked ≡ Some area)
        (same : (w : Told) → does w ≡ performs unit (locked w x area (go w.content))) (all : (c : Option Bytes) (y : OpenTransaction) → IsAnswered y (go c y)) where
      -- what a replay is told of the area
      abbrev replay_tells : TableRows → List Note → Told
      replay_tells other notes = told_of other notes asked

      is_told : (other : TableRows) (notes : List Note) → replay_tells other notes ≡ told_by other notes area
      is_told other notes = ap (told_of other notes) asks

      -- it is told the present content where it looks alike
      looks : (other : TableRows) (notes : List Note) → told_by other notes area ≡ record { answer = Granted; content = content_of t area } → replay_tells other notes ≡ record { answer = Granted; content = v.content }
      looks other notes e = is_told other notes ∙ e ∙ ap (λ c. granted c) (sym (tells area asks))
        where
          granted : Option Bytes → Told
          granted c = record { answer = Granted; content = c }

      held_replays : touches x area ≡ true → ReplaysToItself app t id r.0
      held_replays e =
          let now : performs unit (go v.content x) ≡ r = sym (ap (performs unit) (locked_held v area (go v.content) e)) ∙ sym (same v) ∙ is in
          let b = subst (λ (q : Stated). IsCounted x q.0) now (answered_counts unit x (go v.content x) (all v.content x)).0 in
          let more : (a : Area) → IsTrue (touches x a) → IsTrue (touches r.0 a) = λ a h. subst (λ l. IsTrue (list_any (λ (held : Area). area_eq held a) l)) (sym b.touched) h in
          counted_on r goes (counted_advances r.0 x.touched b) more
          (λ other notes alike.
          ap does (looks other notes (alike.areas area (more area e)))
          ∙ same (record { answer = Granted; content = v.content })
          ∙ ap (performs unit) (locked_held (record { answer = Granted; content = v.content }) area (go v.content) e)
          ∙ now)

      granted_replays : touches x area ≡ false → v.answer ≡ Granted → ReplaysToItself app t id r.0
      granted_replays e g =
          let y = holding area in
          let now : performs unit (go v.content y) ≡ r = sym (ap (performs unit) (locked_granted v area (go v.content) e g)) ∙ sym (same v) ∙ is in
          let c = subst (λ (q : Stated). IsCounted y q.0) now (answered_counts unit y (go v.content y) (all v.content y)).0 in
          let b : Becomes x r.0 (x.touched ++ area ∷ []) x.notes (x.statements + 1) =
          record { began = c.began; first = c.first; lterm = c.lterm; inputs = c.inputs; touched = c.touched; notes = c.notes; statements = c.statements } in
          let still : (a : Area) → IsTrue (list_any (λ (held : Area). area_eq held a) (x.touched ++ area ∷ [])) → IsTrue (touches r.0 a) =
          λ a h. subst (λ l. IsTrue (list_any (λ (held : Area). area_eq held a) l)) (sym b.touched) h in
          counted_on r goes (counted_advances r.0 (x.touched ++ area ∷ []) b)
          (λ a h. still a (any_append (λ (held : Area). area_eq held a) x.touched (area ∷ []) h))
          (λ other notes alike.
          ap does (looks other notes (alike.areas area (still area (any_last (λ (held : Area). area_eq held area) x.touched area (area_eq_itself area)))))
          ∙ same (record { answer = Granted; content = v.content })
          ∙ ap (performs unit) (locked_granted (record { answer = Granted; content = v.content }) area (go v.content) e refl)
          ∙ now)

      -- K04 and K05: the note tells the replay of them
      refused_replays : (code : Code) (answer : LockAnswer) → touches x area ≡ false → v.answer ≡ answer → answer_by_note (Some (Refused area code)) ≡ answer
          → ((f : OpenTransaction → Performed) → on_answer x area answer f ≡ replied (noted x area code) code) → ReplaysToItself app t id r.0
      refused_replays code answer e g by_note refuses =
          let now : performs unit (replied (noted x area code) code) ≡ r = sym (ap (performs unit) (turned v g)) ∙ sym (same v) ∙ is in
          subst (λ (q : Stated). ReplaysToItself app t id q.0) now
          (advance (performs unit (replied (noted x area code) code)).0 (performs unit (replied (noted x area code) code)) [] (Refused area code ∷ [])
          (record { began = refl; first = refl; lterm = refl; inputs = sym (append-nil x.inputs); notes = refl; statements = refl })
          (λ other notes alike. record { areas = λ a h. other_told other (Refused area code) notes a (apart a h) ∙ alike.areas a h; job = alike.job })
          (λ other notes alike.
          same (replay_tells other (Refused area code ∷ notes))
          ∙ ap (performs unit) (turned (replay_tells other (Refused area code ∷ notes))
          (ap (λ (w : Told). w.answer) (is_told other (Refused area code ∷ notes) ∙ own_told other (Refused area code) notes) ∙ by_note)))
          (λ inputs notes n. refl))
        where
          turned : (w : Told) → w.answer ≡ answer → locked w x area (go w.content) ≡ replied (noted x area code) code
          turned w a = locked_free w area (go w.content) e ∙ ap (λ k. on_answer x area k (go w.content)) a ∙ refuses (go w.content)

          apart : (a : Area) → IsTrue (touches x a) → area_eq a area ≡ false
          apart a h = by (area_eq a area) refl
            where
              by : (b : Bool) → area_eq a area ≡ b → area_eq a area ≡ false
              by false q = q
              by true q = absurd (true≢false (sym h ∙ ap (touches x) (area_eq_same a area q) ∙ e))

      locks_replays : ReplaysToItself app t id r.0
      locks_replays = by (touches x area) refl
        where
          answered : touches x area ≡ false → (a : LockAnswer) → v.answer ≡ a → ReplaysToItself app t id r.0
          answered e Granted g = granted_replays e g
          answered e Wait g = absurd (subst (λ (q : Stated). GoesOnAtOnce q.1) (sym is ∙ same v ∙ ap (performs unit) (locked_free v area (go v.content) e ∙ ap (λ a. on_answer x area a (go v.content)) g)) goes)
          answered e Busy g = refused_replays K04 Busy e g refl (λ f. refl)
          answered e Deadlock g = refused_replays K05 Deadlock e g refl (λ f. refl)

          by : (b : Bool) → touches x area ≡ b → ReplaysToItself app t id r.0
          by true e = held_replays e
          by false e = answered e v.answer refl

    -- UNLK: the note tells the replay the content that was seen
    unlocks_replays : (unit : UnitText) (area : Area) → asked ≡ Some area → ((w : Told) → does w ≡ performs unit (unlocked_by w x area true false)) → ReplaysToItself app t id r.0
    unlocks_replays unit area asks same =
        let now : performs unit (unlocked_by v x area true false) ≡ r = sym (same v) ∙ is in
        let new = Released area v.content in
        subst (λ (q : Stated). ReplaysToItself app t id q.0) now
        (advance (performs unit (unlocked_by v x area true false)).0 (performs unit (unlocked_by v x area true false)) [] (new ∷ [])
        (record { began = refl; first = refl; lterm = refl; inputs = sym (append-nil x.inputs); notes = refl; statements = refl })
        (λ other notes alike. record { areas = λ a h. by other notes alike.areas a h (area_eq a area) refl; job = alike.job })
        (λ other notes alike.
        same (told_of other (new ∷ notes) asked)
        ∙ ap (λ c. performs unit (unlocked_by (record { answer = v.answer; content = c }) x area true false))
        (ap (λ (w : Told). w.content) (ap (told_of other (new ∷ notes)) asks ∙ own_told other new notes)))
        (λ inputs notes n. refl))
      where
        left : List Area
        left = filter (λ (held : Area). not (area_eq held area)) x.touched

        by : (other : TableRows) (notes : List Note)
            → ((a : Area) → IsTrue (list_any (λ (held : Area). area_eq held a) left) → told_by other notes a ≡ record { answer = Granted; content = content_of t a })
            → (a : Area) → IsTrue (touches x a) → (b : Bool) → area_eq a area ≡ b → told_by other (Released area v.content ∷ notes) a ≡ record { answer = Granted; content = content_of t a }
        by other notes alike a h true e =
            ap (told_by other (Released area v.content ∷ notes)) (area_eq_same a area e) ∙ own_told other (Released area v.content) notes
            ∙ ap granted (tells area asks ∙ ap (content_of t) (sym (area_eq_same a area e)))
          where
            granted : Option Bytes → Told
            granted c = record { answer = Granted; content = c }
        by other notes alike a h false e =
            other_told other (Released area v.content) notes a e
            ∙ alike a (any_filter (λ (held : Area). area_eq held a) (λ (held : Area). not (area_eq held area)) (λ held q. ap (λ k. not (area_eq k area)) (area_eq_same held a q) ∙ ap not e) x.touched h)

    by_looks : StatementLooks app (is_asynchronous id) x asked does → ReplaysToItself app t id r.0
    by_looks (StatementAlone q same leaves) =
        let e : q ≡ r = sym (same v) ∙ is in
        alone_replays r goes (subst (λ (k : Stated). StatementLeaves x k.0 k.1) e leaves) (λ w. same w ∙ e)
    by_looks (StatementLocks unit area go asks same all) = locks_replays unit area go asks same all
    by_looks (StatementUnlocks unit area asks held same) = unlocks_replays unit area asks same

    -- a statement that is told the content of its area in the tables, and goes on
    pub statement_replays : ReplaysToItself app t id r.0
    statement_replays = by_looks (statement_looks app (is_asynchronous id) x)

  -- ---- PEND KP and its input

  at_end : (l : List Bytes) (b : Bytes) (m : List Bytes) → slice_get (l ++ b ∷ m) (length l) ≡ Some b
  at_end [] b m = refl
  at_end (a ∷ l) b m = at_end l b m

  -- what is at a PEND KP goes on with its input
  pub input_replays : (tac text : Bytes) → ((v : Told) → does v ≡ (x, Held tac)) → ReplaysToItself app t id (followed_by_input app.generation x tac text)
  unfolding followed_by_input
  input_replays tac text stands =
      advance (followed_by_input app.generation x tac text) (x, Held tac) (text ∷ []) []
      (record { began = refl; first = refl; lterm = refl; inputs = refl; notes = sym (append-nil x.notes); statements = refl })
      (λ other notes alike. record { areas = alike.areas; job = alike.job })
      (λ other notes alike. stands _)
      (λ inputs notes n. ap (λ o. followed_by_input app.generation x tac (or_empty o)) (at_end x.inputs text inputs))
