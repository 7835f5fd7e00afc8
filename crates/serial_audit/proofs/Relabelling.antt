-- A note that an UNLK makes, in place of what the tables that it was shown could show.
use Rattle.std.specs.Prelude.{◌≡◌, refl, ℕ, ◌+◌, ◌-◌, Bool, true, false, List, [], ◌∷◌, ◌++◌, length, nat_lt, take, ◌⊎◌, Option, Some, None, is_some, if◌then◌else◌}
use Rattle.std.proofs.Common.{arith, sym, ap, inl, inr, ◌∙◌}
use Rattle.std.proofs.Math.Seq.{take-append_seam}
use Rattle.std.proofs.lemmas.Bool.{lt-ltb}
use Rattle.std.proofs.lemmas.Bool.Decides.{nat_tests}
use Rattle.std.proofs.lemmas.List.{length-append}
use Rattle.std.specs.FinMap.{find}
use Rattle.kd_base.specs.declared.words.Variant.{Variant}
use Rattle.kdcs_types.specs.declared.key.Area.{Area}
use Rattle.kdcs_types.specs.declared.service.Note.{Note}
use Rattle.kdcs_types.specs.declared.service.Note.TheVariants.{Released}
use Rattle.kdcs_types.specs.Keys.{area_cmp}
use Rattle.application_types.specs.UnitText.{UnitText}
use Rattle.abstract_monitor.specs.declared.answer.Called.{Called}
use Rattle.abstract_monitor.specs.declared.answer.Called.TheVariants.{Replied, Waits, Abnormal, Pends}
use Rattle.abstract_monitor.specs.declared.answer.Happened.{Happened}
use Rattle.abstract_monitor.specs.declared.answer.LockAnswer.{LockAnswer}
use Rattle.abstract_monitor.specs.declared.answer.LockAnswer.TheVariants.{Granted}
use Rattle.abstract_monitor.specs.declared.outcome.Outcome.{Outcome}
use Rattle.abstract_monitor.specs.declared.outcome.Outcome.TheVariants.{Stay, Queue}
use Rattle.abstract_monitor.specs.Bytes.{Bytes}
use Rattle.abstract_monitor.specs.Calls.{Told, Performed, answer_by, locked, on_answer, touches, touching, unlocked_by}
use Rattle.abstract_monitor.specs.Endings.{followed}
use Rattle.abstract_monitor.specs.State.{Application, OpenTransaction}
use Rattle.abstract_monitor.specs.Statements.{Stated, by_call, by_outcome, by_performed}
use Rattle.serial_audit.specs.Asking.{relabelled}
use Rattle.serial_audit.proofs.Calls.{AreaCall, Locking, Unlocking, Answering, is_block}

-- ---- of a transaction

-- the same, once it is known whether there are more
abbrev relabelled_by : (more : Bool) → Note → OpenTransaction → OpenTransaction
relabelled_by more n x = if more then record x { notes = take (length x.notes - 1) x.notes ++ n ∷ [] } else x

not_below : (n : ℕ) → nat_lt n n ≡ false
not_below n = grind (arith, nat_tests)

-- what has not noted more stays
none_more : (before : ℕ) (n : Note) (y : OpenTransaction) → length y.notes ≡ before → relabelled before n y ≡ y
none_more before n y e = ap (λ (b : Bool). relabelled_by b n y) (ap (nat_lt before) e ∙ not_below before)

-- the note of an UNLK
one_more : (x : OpenTransaction) (touched : List Area) (old n : Note)
    → relabelled (length x.notes) n (record x { touched = touched; notes = x.notes ++ old ∷ [] }) ≡ record x { touched = touched; notes = x.notes ++ n ∷ [] }
one_more x touched old n =
    ap (λ (b : Bool). relabelled_by b n y) (lt-ltb (length x.notes) (length y.notes) (omega (arith, count)))
    ∙ ap (λ (front : List Note). record x { touched = touched; notes = front ++ n ∷ [] }) (ap (λ (k : ℕ). take k y.notes) (omega (arith, count)) ∙ take-append_seam x.notes (old ∷ []))
  where
    y : OpenTransaction
    y = record x { touched = touched; notes = x.notes ++ old ∷ [] }

    count : length (x.notes ++ old ∷ []) ≡ length x.notes + 1
    count = length-append x.notes (old ∷ [])

-- ---- of a call

abbrev relabelled_call : ℕ → Note → Performed → Performed
relabelled_call before n p = (relabelled before n p.0, p.1)

no_note : (before : ℕ) (n : Note) (p : Performed) → length p.0.notes ≡ before → relabelled_call before n p ≡ p
no_note before n p e = ap (λ (y : OpenTransaction). (y, p.1)) (none_more before n p.0 e)

-- tables show a content as it is, or a block without bytes as one that is absent
abbrev pub IsShownAs : Area → (content shown : Option Bytes) → Type 0
IsShownAs area content shown = (shown ≡ content) ⊎ ((is_block area ≡ true) × (content ≡ Some []) × (shown ≡ None))

module _ (x : OpenTransaction) (area : Area) (asks : Bool) (f : Told → Performed) (h : AreaCall x area asks f) where
  abbrev relabelled_now : Option Bytes → Performed → Performed
  relabelled_now content p = relabelled_call (length x.notes) (Released area content) p

  -- told how a content is shown, and relabelled, a call does what it does told that content
  relabels : (v w : Told) → v.answer ≡ Granted → w.answer ≡ Granted → IsShownAs area v.content w.content → relabelled_now v.content (f w) ≡ f v
  relabels v w a b shown = by h
    where
      by : AreaCall x area asks f → relabelled_now v.content (f w) ≡ f v
      by (Locking go asking same notes empty) =
          ap (relabelled_now v.content) (same w ∙ granted w b)
          ∙ no_note (length x.notes) (Released area v.content) (go w.content y) (ap length (notes w.content y ∙ touching_notes (touches x area)))
          ∙ alike shown
          ∙ sym (same v ∙ granted v a)
        where
          y : OpenTransaction
          y = touching x area (touches x area)

          touching_notes : (held : Bool) → (touching x area held).notes ≡ x.notes
          touching_notes true = refl
          touching_notes false = refl

          granted : (u : Told) → u.answer ≡ Granted → locked u x area (go u.content) ≡ go u.content y
          granted u e = ap (λ (answer : LockAnswer). on_answer x area answer (go u.content)) (answer_granted (touches x area))
            where
              answer_granted : (held : Bool) → answer_by u held ≡ Granted
              answer_granted true = refl
              answer_granted false = e

          alike : IsShownAs area v.content w.content → go w.content y ≡ go v.content y
          alike (inl e) = ap (λ (c : Option Bytes). go c y) e
          alike (inr e) = ap (λ (c : Option Bytes). go c y) e.2 ∙ empty e.0 y ∙ sym (ap (λ (c : Option Bytes). go c y) e.1)
      by (Unlocking idle same) = ap (relabelled_now v.content) (same w) ∙ given (touches x area) (is_some (find area_cmp area x.written)) ∙ sym (same v)
        where
          given : (held written : Bool) → relabelled_now v.content (unlocked_by w x area held written) ≡ unlocked_by v x area held written
          given false written = no_note (length x.notes) (Released area v.content) (unlocked_by w x area false written) refl
          given true true = no_note (length x.notes) (Released area v.content) (unlocked_by w x area true true) refl
          given true false = ap (λ (z : OpenTransaction). (z, (unlocked_by v x area true false).1)) (one_more x (unlocked_by v x area true false).0.touched (Released area w.content) (Released area v.content))
      by (Answering p idle same notes) = ap (relabelled_now v.content) (same w) ∙ no_note (length x.notes) (Released area v.content) p (ap length notes) ∙ sym (same v)

-- ---- of a statement

module _ (app : Application) (asy : Bool) (unit : UnitText) (n : Note) where
  abbrev relabelled_stated : (more : Bool) → Stated → Stated
  relabelled_stated more q = (relabelled_by more n q.0, q.1)

  outcome_relabelled : (more : Bool) (y : OpenTransaction) (variant : Variant) (o : Outcome) → relabelled_stated more (by_outcome app asy y variant o) ≡ by_outcome app asy (relabelled_by more n y) variant o
  unfolding followed
  outcome_relabelled true y variant (Stay tac) = by asy
    where
      by : (b : Bool) → relabelled_stated true (by_outcome app b y variant (Stay tac)) ≡ by_outcome app b (relabelled_by true n y) variant (Stay tac)
      by true = refl
      by false = refl
  outcome_relabelled true y variant (Queue tac) = by asy
    where
      by : (b : Bool) → relabelled_stated true (by_outcome app b y variant (Queue tac)) ≡ by_outcome app b (relabelled_by true n y) variant (Queue tac)
      by true = refl
      by false = refl
  outcome_relabelled true y variant _ = refl
  outcome_relabelled false y variant o = refl

  call_relabelled : (more : Bool) (y : OpenTransaction) (c : Called) → relabelled_stated more (by_call app asy unit y c) ≡ by_call app asy unit (relabelled_by more n y) c
  call_relabelled true y (Replied reply) = refl
  call_relabelled true y Waits = refl
  call_relabelled true y (Abnormal cause) = refl
  call_relabelled true y (Pends variant o) = outcome_relabelled true y variant o
  call_relabelled false y c = refl

  same_count : (y : OpenTransaction) (c : Called) → (by_call app asy unit y c).0.notes ≡ y.notes
  unfolding followed
  same_count y (Replied reply) = refl
  same_count y Waits = refl
  same_count y (Abnormal cause) = refl
  same_count y (Pends variant o) = by o
    where
      by : (o : Outcome) → (by_outcome app asy y variant o).0.notes ≡ y.notes
      by (Stay tac) = refl
      by (Queue tac) = refl
      by _ = refl

  stated_relabelled : (before : ℕ) (p : Performed) → (relabelled before n (by_performed app asy unit p).0, (by_performed app asy unit p).1) ≡ by_performed app asy unit (relabelled_call before n p)
  stated_relabelled before p =
      ap (λ (notes : List Note). relabelled_stated (nat_lt before (length notes)) (by_performed app asy unit p)) (same_count p.0 p.1)
      ∙ call_relabelled (nat_lt before (length p.0.notes)) p.0 p.1

-- a call that was shown a content so, and relabelled, does what it does told that content
pub shown_stated : (app : Application) (asy : Bool) (unit : UnitText) (x y : OpenTransaction) (happened : Happened) (area : Area) (asks : Bool) (f : Told → Performed) → AreaCall x area asks f
    → (v w : Told) → v.answer ≡ Granted → w.answer ≡ Granted → IsShownAs area v.content w.content
    → (y, happened) ≡ by_performed app asy unit (f w) → (relabelled (length x.notes) (Released area v.content) y, happened) ≡ by_performed app asy unit (f v)
shown_stated app asy unit x y happened area asks f h v w a b shown e =
    ap (λ (q : Stated). (relabelled (length x.notes) (Released area v.content) q.0, q.1)) e
    ∙ stated_relabelled app asy unit (Released area v.content) (length x.notes) (f w)
    ∙ ap (by_performed app asy unit) (relabels x area asks f h v w a b shown)
