-- What a call on an area looks at of what it is told.
use Rattle.std.specs.Prelude.{◌≡◌, refl, ◌&&◌, Bool, true, false, [], Option, Some, None, is_some, option_map}
use Rattle.std.proofs.Common.{sym, ap, subst, ◌∙◌, true≢false}
use Rattle.std.specs.FinMap.{find}
use Rattle.kd_base.specs.ToolsLaws.{some_is}
use Rattle.kdcs_types.specs.declared.call.Call.{Call}
use Rattle.kdcs_types.specs.declared.call.Call.TheVariants.{Init, SgetGb, SputGb, SrelGb, SgetUs, SputUs, Gtda, Ptda, UnlkGb, UnlkUs, UnlkDa}
use Rattle.kdcs_types.specs.declared.call.Code.{Code}
use Rattle.kdcs_types.specs.declared.call.Code.TheVariants.{K03, K04, K05, K08}
use Rattle.kdcs_types.specs.declared.key.Area.{Area}
use Rattle.kdcs_types.specs.declared.key.Area.TheVariants.{Gssb, Tls, Uls}
use Rattle.kdcs_types.specs.Keys.{area_cmp}
use Rattle.application_types.specs.Generation.{Generated, has_tls, has_uls}
use Rattle.abstract_monitor.specs.declared.answer.LockAnswer.{LockAnswer}
use Rattle.abstract_monitor.specs.Bytes.{Bytes}
use Rattle.abstract_monitor.specs.Calls.{Told, Performed, answer_by, call_outcome, called, called_by, declared, deleted, first_call, locked, name_in_operand, noted, on_answer, or_empty, read_answer}
use Rattle.abstract_monitor.specs.Calls.{read_or, replied, shown_by, touches, touching, unlocked, unlocked_by, with_name, wrote}
use Rattle.abstract_monitor.specs.State.{OpenTransaction}
use Rattle.abstract_monitor.specs.Statements.{area_of_call}
use Rattle.kdcs_calls.specs.Calling.{is_declared}
use Rattle.laws_of_states.specs.Replay.{answer_of_code, refuses}
use Rattle.serial_audit.specs.Asking.{asks_lock, locks}

-- a block, of a user or an LTERM
abbrev pub is_block : Area → Bool
is_block (Gssb name) = false
is_block (Tls block lterm) = true
is_block (Uls block user) = true

-- what a call on this area does: it asks for the lock, and reads an absent block as an empty one; or it gives the
-- area up; or it is answered whatever it is told
pub data AreaCall (x : OpenTransaction) (area : Area) (asks : Bool) (f : Told → Performed) : Type 0 where
  Locking : (go : Option Bytes → OpenTransaction → Performed) → asks ≡ true → ((v : Told) → f v ≡ locked v x area (go v.content))
      → ((c : Option Bytes) (y : OpenTransaction) → (go c y).0.notes ≡ y.notes)
      → (is_block area ≡ true → (y : OpenTransaction) → go None y ≡ go (Some []) y) → AreaCall x area asks f
  Unlocking : asks ≡ false → ((v : Told) → f v ≡ unlocked v x area) → AreaCall x area asks f
  Answering : (p : Performed) → asks ≡ false → ((v : Told) → f v ≡ p) → p.0.notes ≡ x.notes → AreaCall x area asks f

-- ---- each call

read_notes : (code : Code) (y : OpenTransaction) (capacity : _) (o : Option Bytes) → (read_or code y capacity o).0.notes ≡ y.notes
read_notes code y capacity None = refl
read_notes code y capacity (Some bytes) = refl

deleted_notes : (y : OpenTransaction) (area : Area) (o : Option Bytes) → (deleted y area o).0.notes ≡ y.notes
deleted_notes y area None = refl
deleted_notes y area (Some bytes) = refl

-- a block that is absent is read as an empty one
reads_empty : (o : Option (Option Bytes)) → or_empty (shown_by o None) ≡ or_empty (shown_by o (Some []))
reads_empty None = refl
reads_empty (Some own) = refl

module _ (x : OpenTransaction) where
  named : (make : Bytes → Area) (asks : Area → Bool) (go : Told → Bytes → Performed) → ((n : Bytes) → AreaCall x (make n) (asks (make n)) (λ v. go v n))
      → (o : Option Bytes) (area : Area) → option_map make o ≡ Some area → AreaCall x area (asks area) (λ v. with_name x o (go v))
  named make asks go all None area e = absurd cc
  named make asks go all (Some n) area e = subst (λ (a : Area). AreaCall x a (asks a) (λ v. go v n)) (some_is (make n) area e) (all n)

  declared_locking : (area : Area) (b : Bool) (f : Told → Performed) → AreaCall x area true f → AreaCall x area b (λ v. declared x b (f v))
  declared_locking area true f h = h
  declared_locking area false f h = Answering (replied x K08) refl (λ v. refl) refl

  declared_unlocking : (area : Area) (b : Bool) → AreaCall x area false (λ v. declared x b (unlocked v x area))
  declared_unlocking area true = Unlocking refl (λ v. refl)
  declared_unlocking area false = Answering (replied x K08) refl (λ v. refl) refl

  reading : (area : Area) (capacity : _) → AreaCall x area true (λ v. locked v x area (λ y. read_answer y capacity (or_empty (shown_by (find area_cmp area y.written) v.content))))
  reading area capacity =
      Locking (λ c y. read_answer y capacity (or_empty (shown_by (find area_cmp area y.written) c))) refl (λ v. refl) (λ c y. refl)
      (λ b y. ap (read_answer y capacity) (reads_empty (find area_cmp area y.written)))

  writing : (area : Area) (bytes : Bytes) → AreaCall x area true (λ v. locked v x area (λ y. wrote y area (Some bytes)))
  writing area bytes = Locking (λ c y. wrote y area (Some bytes)) refl (λ v. refl) (λ c y. refl) (λ b y. refl)

  module _ (g : Generated) (asy : Bool) where
    called_area : (call : Call) (area : Area) → area_of_call x call ≡ Some area → AreaCall x area (locks call && is_declared g area) (λ v. called g v asy x call)
    unfolding called
    called_area (SgetGb name capacity) area e =
        named Gssb (λ a. is_declared g a) _
        (λ n. Locking (λ c y. read_or K03 y capacity (shown_by (find area_cmp (Gssb n) y.written) c)) refl (λ v. refl) (λ c y. read_notes K03 y capacity _) (λ b. absurd (true≢false (sym b))))
        (name_in_operand name) area e
    called_area (SputGb name bytes) area e = named Gssb (λ a. is_declared g a) _ (λ n. writing (Gssb n) bytes) (name_in_operand name) area e
    called_area (SrelGb name) area e =
        named Gssb (λ a. is_declared g a) _
        (λ n. Locking (λ c y. deleted y (Gssb n) (shown_by (find area_cmp (Gssb n) y.written) c)) refl (λ v. refl) (λ c y. deleted_notes y (Gssb n) _) (λ b. absurd (true≢false (sym b))))
        (name_in_operand name) area e
    called_area (SgetUs name capacity) area e = named (λ n. Uls n x.user) (λ a. is_declared g a) _ (λ n. declared_locking (Uls n x.user) (has_uls g n) _ (reading (Uls n x.user) capacity)) (name_in_operand name) area e
    called_area (SputUs name bytes) area e = named (λ n. Uls n x.user) (λ a. is_declared g a) _ (λ n. declared_locking (Uls n x.user) (has_uls g n) _ (writing (Uls n x.user) bytes)) (name_in_operand name) area e
    called_area (Gtda name capacity) area e = named (λ n. Tls n x.lterm) (λ a. is_declared g a) _ (λ n. declared_locking (Tls n x.lterm) (has_tls g n) _ (reading (Tls n x.lterm) capacity)) (name_in_operand name) area e
    called_area (Ptda name bytes) area e = named (λ n. Tls n x.lterm) (λ a. is_declared g a) _ (λ n. declared_locking (Tls n x.lterm) (has_tls g n) _ (writing (Tls n x.lterm) bytes)) (name_in_operand name) area e
    called_area (UnlkGb name) area e = named Gssb (λ a. false) _ (λ n. Unlocking refl (λ v. refl)) (name_in_operand name) area e
    called_area (UnlkUs name) area e = named (λ n. Uls n x.user) (λ a. false) _ (λ n. declared_unlocking (Uls n x.user) (has_uls g n)) (name_in_operand name) area e
    called_area (UnlkDa name) area e = named (λ n. Tls n x.lterm) (λ a. false) _ (λ n. declared_unlocking (Tls n x.lterm) (has_tls g n)) (name_in_operand name) area e
    called_area _ area e = absurd cc

    first_notes : (call : Call) → (first_call x call).0.notes ≡ x.notes
    first_notes Init = refl
    first_notes _ = refl

    pub area_call : (call : Call) (area : Area) → area_of_call x call ≡ Some area → AreaCall x area (asks_lock g x call area) (λ v. call_outcome g v asy x call)
    unfolding call_outcome
    area_call call area e = by x.inited
      where
        by : (b : Bool) → AreaCall x area (b && (locks call && is_declared g area)) (λ v. called_by g v asy x call b)
        by true = called_area call area e
        by false = Answering (first_call x call) refl (λ v. refl) (first_notes call)

-- ---- what follows

module _ (x : OpenTransaction) (area : Area) (asks : Bool) (f : Told → Performed) (h : AreaCall x area asks f) where
  -- a refusal is answered and noted where the call asks for the lock of an area that is not held
  pub refusal_answered : asks ≡ true → touches x area ≡ false → (code : Code) → refuses code ≡ true → (v : Told) → v.answer ≡ answer_of_code code → f v ≡ replied (noted x area code) code
  refusal_answered asking free code refused v e = by h
    where
      answered : (go : OpenTransaction → Performed) (c : Code) → refuses c ≡ true → on_answer x area (answer_of_code c) go ≡ replied (noted x area c) c
      answered go K04 is = refl
      answered go K05 is = refl
      answered go _ is = absurd (true≢false (sym is))

      by : AreaCall x area asks f → f v ≡ replied (noted x area code) code
      by (Locking go is same notes empty) =
          same v
          ∙ ap (λ (b : Bool). on_answer x area (answer_by v b) (go v.content)) free
          ∙ ap (λ (a : LockAnswer). on_answer x area a (go v.content)) e
          ∙ answered (go v.content) code refused
      by (Unlocking idle same) = absurd (true≢false (sym asking ∙ idle))
      by (Answering p idle same notes) = absurd (true≢false (sym asking ∙ idle))

  -- a call that does not ask for the lock looks at the content alone
  pub content_alone : asks ≡ false → (v w : Told) → v.content ≡ w.content → f v ≡ f w
  content_alone idle v w e = by h
    where
      by : AreaCall x area asks f → f v ≡ f w
      by (Locking go asking same notes empty) = absurd (true≢false (sym asking ∙ idle))
      by (Unlocking is same) = same v ∙ gives_up ∙ sym (same w)
        where
          given : (b c : Bool) → unlocked_by v x area b c ≡ unlocked_by w x area b c
          given false c = refl
          given true true = refl
          given true false = ap (λ (c : Option Bytes). unlocked_by (record { answer = v.answer; content = c }) x area true false) e

          gives_up : unlocked v x area ≡ unlocked w x area
          gives_up = given (touches x area) (is_some (find area_cmp area x.written))
      by (Answering p is same notes) = same v ∙ sym (same w)

  -- and so does one on an area that is held
  pub held_alone : touches x area ≡ true → (v w : Told) → v.content ≡ w.content → f v ≡ f w
  held_alone held v w e = by h
    where
      by : AreaCall x area asks f → f v ≡ f w
      by (Locking go asking same notes empty) = same v ∙ lock ∙ sym (same w)
        where
          granted : (u : Told) → locked u x area (go u.content) ≡ go u.content (touching x area true)
          granted u = ap (λ (b : Bool). on_answer x area (answer_by u b) (go u.content)) held ∙ ap (λ (b : Bool). go u.content (touching x area b)) held

          lock : locked v x area (go v.content) ≡ locked w x area (go w.content)
          lock = granted v ∙ ap (λ (c : Option Bytes). go c (touching x area true)) e ∙ sym (granted w)
      by (Unlocking idle same) = content_alone idle v w e
      by (Answering p idle same notes) = same v ∙ sym (same w)
