-- One statement of a replay in the code.
use Rattle.std.specs.Prelude.{◌≡◌, refl, ℕ, ◌++◌, ◌∷◌, [], Bool, true, false, IsTrue, length, nat_lt, take, ◌-◌, Option, Some, None, Result, Ok, Err, IfOk, OnOk, is_some, if◌then◌else◌}
use Rattle.std.proofs.Common.{sym, ap, subst, ◌∙◌}
use Rattle.kdcs_types.specs.declared.call.Call.{Call}
use Rattle.kdcs_types.specs.declared.call.Code.{Code}
use Rattle.kdcs_types.specs.declared.key.Area.{Area}
use Rattle.kdcs_types.specs.declared.key.ServiceId.{ServiceId}
use Rattle.kdcs_types.specs.declared.service.Note.{Note}
use Rattle.kdcs_types.specs.declared.service.Note.TheVariants.{Released, Refused}
use Rattle.kdcs_types.specs.Tables.{TableRows}
use Rattle.abstract_monitor.specs.Bytes.{Bytes}
use Rattle.application_types.specs.UnitText.{UnitText}
use Rattle.abstract_monitor.specs.declared.answer.Happened.{Happened}
use Rattle.abstract_monitor.specs.declared.answer.Happened.TheVariants.{Went}
use Rattle.abstract_monitor.specs.Calls.{noted, plain_reply, touches}
use Rattle.abstract_monitor.specs.Locks.{Locks, holder}
use Rattle.abstract_monitor.specs.State.{OpenTransaction as Transaction}
use Rattle.abstract_monitor.specs.Statements.{Stated, area_of, area_of_call, counted}
use Rattle.kdcs_calls.specs.Calling.{HoldersMatch, HoldsJust}
use Rattle.laws_of_states.specs.Replay.{first_unused, is_made, replay_statement, replay_told}
use Rattle.laws_of_states.specs.Transactions.{CanGoOn, fits_if_there}
use Rattle.laws_of_states.specs.OpenLaws.{StatementKeeps}
use Rattle.laws_of_states.specs.StatedLaws.{statements_keep}
use Rattle.open_transaction.specs.declared.open.OpenTransaction.{OpenTransaction}
use Rattle.open_transaction.specs.Transactions.{transaction_of}
use Rattle.kdcs_calls.specs.StatingLaws.{contents_fit}
use Rattle.kdcs_calls.specs.Stating.{ContentsFit, call_now}
use Rattle.serial_audit.specs.Asking.{HoldsAlone, asks_lock, call_replayed, relabelled, showing}
use Rattle.serial_audit.specs.Audit.{note_fits}
use Rattle.serial_audit.specs.Replaying.{Goes, IsAuditable, app_of, kept_in, tables_in}
use Rattle.serial_audit.specs.declared.replay.Replay.{Replay}
use Rattle.serial_audit.proofs.Called.{asking_held, no_note_left, none_asked, not_asking, refused, shown}
use Rattle.serial_audit.proofs.Locks.{alone_just, alone_same, alone_then}
use Rattle.serial_audit.proofs.Showing.{shown_fits}
use Rattle.serial_audit.proofs.Unused.{told_short, unused_passes}

relabelled_touched : (before : ℕ) (n : Note) (y : Transaction) → (relabelled before n y).touched ≡ y.touched
relabelled_touched before n y = by (nat_lt before (length y.notes))
  where
    by : (b : Bool) → (if b then record y { notes = take (length y.notes - 1) y.notes ++ n ∷ [] } else y).touched ≡ y.touched
    by true = refl
    by false = refl

module _ (p : Replay) (l : Locks) (w : OpenTransaction) (goes : Goes p l w) where
  abbrev x : Transaction
  x = transaction_of w

  pub just : HoldsJust l w.id x
  just = subst (λ (id : ServiceId). HoldsJust l id x) (sym goes.own) (alone_just l (kept_in p).service x goes.alone)

  pub alone : HoldsAlone l w.id x
  alone = subst (λ (id : ServiceId). HoldsAlone l id x) (sym goes.own) goes.alone

  -- after a call
  pub call_alone : (m : Locks) (y : Transaction) → HoldersMatch l m w.id y → HoldsAlone m w.id y
  call_alone m y matching = alone_then l w.id x alone m y matching

  pub shown_alone : (m : Locks) (y z : Transaction) (before : ℕ) (n : Note) → HoldersMatch l m w.id y → z ≡ relabelled before n y → HoldsAlone m w.id z
  shown_alone m y z before n matching e = alone_same m w.id y (call_alone m y matching) z (ap (λ (v : Transaction). v.touched) e ∙ relabelled_touched before n y)

  -- whether somebody holds the area
  pub held_is : (area : Area) → is_some (holder l area) ≡ touches x area
  held_is area = ap (λ (o : Option ServiceId). is_some o) (goes.alone area) ∙ by (touches x area)
    where
      by : (b : Bool) → is_some (if b then Some (kept_in p).service else None) ≡ b
      by true = refl
      by false = refl

  module _ (unit : UnitText) (call : Call) where
    abbrev replayed : Stated
    replayed = call_replayed (app_of p) (tables_in p) (kept_in p) x unit call

    abbrev now : TableRows → Stated
    now u = call_now (app_of p) u l w unit call

    pub none_done : area_of_call x call ≡ None → now (tables_in p) ≡ replayed
    none_done e = none_asked (app_of p) (tables_in p) (kept_in p) l w unit call goes.own e

    module _ (area : Area) (asked : area_of_call x call ≡ Some area) where
      pub plain_done : first_unused (kept_in p) x area ≡ None → now (tables_in p) ≡ replayed
      plain_done e = no_note_left (app_of p) (tables_in p) (kept_in p) l w unit call goes.own goes.alone area asked e

      module _ (code : Code) (first : first_unused (kept_in p) x area ≡ Some (Refused area code)) where
        pub unasked_done : asks_lock (app_of p).generation x call area ≡ false → now (tables_in p) ≡ replayed
        unasked_done idle = not_asking (app_of p) (tables_in p) (kept_in p) l w unit call goes.own goes.alone area asked code first idle

        pub held_done : is_some (holder l area) ≡ true → now (tables_in p) ≡ replayed
        held_done held = asking_held (app_of p) (tables_in p) (kept_in p) l w unit call goes.own goes.alone area asked code first (sym (held_is area) ∙ held)

        pub refused_done : IsAuditable p → asks_lock (app_of p).generation x call area ≡ true → is_some (holder l area) ≡ false → {E : Type 0} (z : Transaction) (o : Result Happened E)
            → OnOk o (z ≡ counted unit (noted x area code) (plain_reply code)) → IfOk o (λ (h : Happened). h ≡ Went) → IfOk o (λ (h : Happened). (z, h) ≡ replayed)
        refused_done auditable asking free z (Err e) is went = tt
        refused_done auditable asking free z (Ok h) is went =
            both
            ∙ refused (app_of p) (tables_in p) (kept_in p) l w unit call goes.own goes.alone area asked code first asking (sym (held_is area) ∙ free)
            (unused_passes (kept_in p) x area (Refused area code) first is_made auditable.made)
          where
            both : ◌≡◌ {A = Stated} (z, h) (counted unit (noted x area code) (plain_reply code), Went)
            both i = (is i, went i)

      module _ (content : Option Bytes) (first : first_unused (kept_in p) x area ≡ Some (Released area content)) where
        pub content_short : IsAuditable p → IsTrue (fits_if_there content)
        content_short auditable = unused_passes (kept_in p) x area (Released area content) first note_fits auditable.short.notes

        pub shown_short : IsAuditable p → (clock : ℕ) (u : TableRows) → u ≡ showing clock area content → ContentsFit u
        shown_short auditable clock u e = subst ContentsFit (sym e) (shown_fits clock area content (content_short auditable))

        pub shown_done : (clock : ℕ) (u : TableRows) (before : ℕ) (y z : Transaction) (h : Happened) → u ≡ showing clock area content → before ≡ length x.notes
            → (y, h) ≡ now u → z ≡ relabelled before (Released area content) y → (z, h) ≡ replayed
        shown_done clock u before y z h e count done is =
            ap (λ (v : Transaction). (v, h)) (is ∙ ap (λ (k : ℕ). relabelled k (Released area content) y) count)
            ∙ shown (app_of p) (tables_in p) (kept_in p) l w unit call goes.own goes.alone area asked clock content first y h (done ∙ ap now e)

-- ---- the statement

-- after it the transaction can go on
pub statement_kept : (p : Replay) (x y : Transaction) (h : Happened) → IsAuditable p → CanGoOn (app_of p).generation (kept_in p).service x
    → (y, h) ≡ replay_statement (app_of p) (tables_in p) (kept_in p) x → StatementKeeps (app_of p).generation (kept_in p).service (y, h)
statement_kept p x y h auditable can e =
    subst (StatementKeeps (app_of p).generation (kept_in p).service) (sym e)
    (statements_keep (app_of p) (kept_in p).service x (replay_told (tables_in p) (kept_in p) x (area_of (app_of p) x)) auditable.application can
    (told_short (tables_in p) (kept_in p) x (contents_fit (app_of p).generation (tables_in p) (kept_in p).service auditable.sound) auditable.short.notes (area_of (app_of p) x)))
