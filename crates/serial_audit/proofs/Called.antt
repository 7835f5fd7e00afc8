-- A call of a replay, from what tables and locks tell it.
use Rattle.std.specs.Prelude.{◌≡◌, refl, ℕ, Bool, true, false, length, Option, Some, None}
use Rattle.std.proofs.Common.{sym, ap, ◌∙◌}
use Rattle.kdcs_types.specs.declared.call.Call.{Call}
use Rattle.kdcs_types.specs.declared.call.Code.{Code}
use Rattle.kdcs_types.specs.declared.key.Area.{Area}
use Rattle.kdcs_types.specs.declared.key.ServiceId.{ServiceId}
use Rattle.kdcs_types.specs.declared.service.Note.{Note}
use Rattle.kdcs_types.specs.declared.service.Note.TheVariants.{Released, Refused}
use Rattle.kdcs_types.specs.Tables.{TableRows, content_of}
use Rattle.application_types.specs.UnitText.{UnitText}
use Rattle.abstract_monitor.specs.declared.answer.Happened.{Happened}
use Rattle.abstract_monitor.specs.declared.answer.Happened.TheVariants.{Went}
use Rattle.abstract_monitor.specs.declared.answer.LockAnswer.TheVariants.{Granted}
use Rattle.abstract_monitor.specs.Bytes.{Bytes}
use Rattle.abstract_monitor.specs.Calls.{Told, Performed, call_outcome, noted, plain_reply, touches}
use Rattle.abstract_monitor.specs.Endings.{is_asynchronous}
use Rattle.abstract_monitor.specs.Locks.{Locks, told_now}
use Rattle.abstract_monitor.specs.State.{Application, OpenTransaction as Transaction}
use Rattle.abstract_monitor.specs.Statements.{Kept, Stated, area_of_call, by_performed, counted}
use Rattle.laws_of_states.specs.Replay.{answer_by_note, content_by_note, first_unused, refuses, replay_told}
use Rattle.open_transaction.specs.declared.open.OpenTransaction.{OpenTransaction}
use Rattle.open_transaction.specs.Transactions.{transaction_of}
use Rattle.kdcs_calls.specs.Stating.{call_now}
use Rattle.serial_audit.specs.Asking.{HoldsAlone, asks_lock, call_replayed, relabelled, showing}
use Rattle.serial_audit.proofs.Calls.{AreaCall, area_call, content_alone, held_alone, refusal_answered}
use Rattle.serial_audit.proofs.Locks.{told_granted}
use Rattle.serial_audit.proofs.Relabelling.{shown_stated}
use Rattle.serial_audit.proofs.Showing.{shown_as}

module _ (app : Application) (t : TableRows) (r : Kept) (l : Locks) (w : OpenTransaction) (unit : UnitText) (call : Call) (own : w.id ≡ r.service) where
  abbrev x : Transaction
  x = transaction_of w

  abbrev asy : Bool
  asy = is_asynchronous r.service

  -- what the call does, told this
  abbrev outcome : Told → Performed
  outcome v = call_outcome app.generation v asy x call

  abbrev done : Told → Stated
  done v = by_performed app asy unit (outcome v)

  abbrev now_told : TableRows → Option Area → Told
  now_told u of = told_now l app.generation.limits.reswait u r.service of

  -- over any tables it is told so
  now_is : (u : TableRows) → call_now app u l w unit call ≡ done (now_told u (area_of_call x call))
  now_is u = ap (λ (id : ServiceId). by_performed app (is_asynchronous id) unit (call_outcome app.generation (told_now l app.generation.limits.reswait u id (area_of_call x call)) (is_asynchronous id) x call)) own

  -- a call that asks of no area is told nothing
  pub none_asked : area_of_call x call ≡ None → call_now app t l w unit call ≡ call_replayed app t r x unit call
  unfolding told_now replay_told
  none_asked e = now_is t ∙ ap (λ (of : Option Area). done (now_told t of)) e ∙ sym (ap (λ (of : Option Area). done (replay_told t r x of)) e)

  module _ (alone : HoldsAlone l r.service x) (area : Area) (asked : area_of_call x call ≡ Some area) where
    abbrev noted_told : Option Note → Told
    noted_told first = record { answer = answer_by_note first; content = content_by_note first (content_of t area) }

    replayed_is : (first : Option Note) → first_unused r x area ≡ first → call_replayed app t r x unit call ≡ done (noted_told first)
    unfolding replay_told
    replayed_is first e = ap (λ (of : Option Area). done (replay_told t r x of)) asked ∙ ap (λ (o : Option Note). done (noted_told o)) e

    abbrev granted_with : Option Bytes → Told
    granted_with content = record { answer = Granted; content = content }

    plain_is : (u : TableRows) → call_now app u l w unit call ≡ done (granted_with (content_of u area))
    plain_is u = now_is u ∙ ap (λ (of : Option Area). done (now_told u of)) asked ∙ ap done (told_granted l r.service x alone app.generation.limits.reswait u area)

    call_is : AreaCall x area (asks_lock app.generation x call area) outcome
    call_is = area_call x app.generation asy call area asked

    -- no note is left
    pub no_note_left : first_unused r x area ≡ None → call_now app t l w unit call ≡ call_replayed app t r x unit call
    no_note_left e = plain_is t ∙ sym (replayed_is None e)

    module _ (code : Code) (first : first_unused r x area ≡ Some (Refused area code)) where
      -- the call does not come to ask for the lock
      pub not_asking : asks_lock app.generation x call area ≡ false → call_now app t l w unit call ≡ call_replayed app t r x unit call
      not_asking idle =
          plain_is t
          ∙ ap (by_performed app asy unit) (content_alone x area _ outcome call_is idle (granted_with (content_of t area)) (noted_told (Some (Refused area code))) refl)
          ∙ sym (replayed_is (Some (Refused area code)) first)

      -- the area is held
      pub asking_held : touches x area ≡ true → call_now app t l w unit call ≡ call_replayed app t r x unit call
      asking_held held =
          plain_is t
          ∙ ap (by_performed app asy unit) (held_alone x area _ outcome call_is held (granted_with (content_of t area)) (noted_told (Some (Refused area code))) refl)
          ∙ sym (replayed_is (Some (Refused area code)) first)

      -- the request is refused
      pub refused : asks_lock app.generation x call area ≡ true → touches x area ≡ false → refuses code ≡ true → (counted unit (noted x area code) (plain_reply code), Went) ≡ call_replayed app t r x unit call
      refused asking free is =
          sym (ap (by_performed app asy unit) (refusal_answered x area _ outcome call_is asking free code is (noted_told (Some (Refused area code))) refl))
          ∙ sym (replayed_is (Some (Refused area code)) first)

    -- the call was shown the content of a note
    pub shown : (clock : ℕ) (content : Option Bytes) → first_unused r x area ≡ Some (Released area content) → (y : Transaction) (h : Happened)
        → (y, h) ≡ call_now app (showing clock area content) l w unit call → (relabelled (length x.notes) (Released area content) y, h) ≡ call_replayed app t r x unit call
    shown clock content first y h e =
        let u = showing clock area content in
        shown_stated app asy unit x y h area _ outcome call_is (granted_with content) (granted_with (content_of u area)) refl refl (shown_as clock area content) (e ∙ plain_is u)
        ∙ sym (replayed_is (Some (Released area content)) first)
