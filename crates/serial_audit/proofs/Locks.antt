-- While one service alone holds areas, each of its requests is granted.
use Rattle.std.specs.Prelude.{◌≡◌, refl, ℕ, Bool, true, false, List, [], Option, Some, None, if◌then◌else◌}
use Rattle.std.proofs.Common.{sym, ap, ◌∙◌}
use Rattle.kdcs_types.specs.declared.key.Area.{Area}
use Rattle.kdcs_types.specs.declared.key.ServiceId.{ServiceId}
use Rattle.kdcs_types.specs.KeyLaws.{id_eq_itself}
use Rattle.kdcs_types.specs.Tables.{TableRows, content_of}
use Rattle.monitor_parts.specs.Asked.{is_holder, no_locks, other_than}
use Rattle.abstract_monitor.specs.declared.answer.LockAnswer.{LockAnswer}
use Rattle.abstract_monitor.specs.declared.answer.LockAnswer.TheVariants.{Granted}
use Rattle.abstract_monitor.specs.Calls.{Told, touches}
use Rattle.abstract_monitor.specs.Locks.{Locks, answer_by_holder, answer_of, answer_of_held, told_now}
use Rattle.abstract_monitor.specs.State.{OpenTransaction}
use Rattle.kdcs_calls.specs.Calling.{HoldersMatch, HoldsJust}
use Rattle.serial_audit.specs.Asking.{HoldsAlone}

module _ (l : Locks) (id : ServiceId) (x : OpenTransaction) (alone : HoldsAlone l id x) where
  pub alone_just : HoldsJust l id x
  alone_just area = ap (λ (o : Option ServiceId). is_holder o id) (alone area) ∙ by (touches x area)
    where
      by : (b : Bool) → is_holder (if b then Some id else None) id ≡ b
      by true = id_eq_itself id
      by false = refl

  pub granted : (reswait now : ℕ) (area : Area) → answer_of l reswait now id area ≡ Granted
  unfolding answer_of
  granted reswait now area = ap (answer_by_holder l reswait now id area) (alone area) ∙ by (touches x area)
    where
      by : (b : Bool) → answer_by_holder l reswait now id area (if b then Some id else None) ≡ Granted
      by true = ap (answer_of_held l reswait now id area id) (id_eq_itself id)
      by false = refl

  pub told_granted : (reswait : ℕ) (t : TableRows) (area : Area) → told_now l reswait t id (Some area) ≡ record { answer = Granted; content = content_of t area }
  unfolding told_now
  told_granted reswait t area = ap told (granted reswait t.clock area)
    where
      told : LockAnswer → Told
      told a = record { answer = a; content = content_of t area }

  pub alone_then : (m : Locks) (y : OpenTransaction) → HoldersMatch l m id y → HoldsAlone m id y
  alone_then m y matching area = matching area ∙ ap (λ (o : Option ServiceId). if touches y area then Some id else other_than id o) (alone area) ∙ by (touches x area) (touches y area)
    where
      by : (b c : Bool) → (if c then Some id else other_than id (if b then Some id else None)) ≡ (if c then Some id else None)
      by b true = refl
      by true false = ap (λ (d : Bool). if d then None else Some id) (id_eq_itself id)
      by false false = refl

  -- where the same areas are touched, the same locks do
  pub alone_same : (y : OpenTransaction) → y.touched ≡ x.touched → HoldsAlone l id y
  alone_same y e area = alone area ∙ sym (ap (λ (held : List Area). if touches (record x { touched = held }) area then Some id else None) e)

pub none_alone : (id : ServiceId) (x : OpenTransaction) → x.touched ≡ [] → HoldsAlone no_locks id x
none_alone id x e area = sym (ap (λ (held : List Area). if touches (record x { touched = held }) area then Some id else None) e)
