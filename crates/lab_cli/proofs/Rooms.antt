-- What is read of a room, over one read after another.
use Rattle.std.proofs.Common.{◌≡◌, ◌∙◌, ℕ, List, Option, Some, None, Result, Ok, Err, refl, sym, subst}
use Rattle.std.specs.Prelude.{IsErrAnd, IsErrOf, IfErr, IsSome, IsTrue}
use Rattle.kd_device.specs.Device.{Rose}
use Rattle.kd_device.specs.Room.{RoomState, SameRoom, text_of}
use Rattle.kd_device.specs.declared.error.DeviceError.{DeviceError}
use Rattle.kd_device.specs.declared.error.DeviceError.TheVariants as device
use Rattle.refusals.specs.Texts.{NoReadFailed}
use Rattle.lab_cli.specs.Causes.{of_device}
use Rattle.lab_cli.specs.Places.{IsMissing}
use Rattle.lab_cli.specs.Stops.{FailsSo, StopsBy, StopsFor}
use Rattle.lab_cli.specs.declared.stop.Stop.{Stop}
use Rattle.lab_cli.specs.declared.stop.Stop.TheVariants as stop

-- an error that is handed on
pub handed : {A E : Type 0} (P : E → Type 0) (r : Result A E) (e : E) → IsErrAnd r (λ x. x ≡ e) → P e → IfErr r P
handed P (Ok x) e is h = absurd is
handed P (Err x) e is h = subst P (sym is) h

pub missing : {A : Type 0} (o : Option A) → (IsSome o → ⊥) → o ≡ None
missing None none = refl
missing (Some x) none = absurd (none refl)

-- how a read of one text fails
pub read_fails : {A : Type 0} (name : List ℕ) (old new : RoomState) (r : Result A DeviceError) → (IsErrOf r device.Failed → Rose old.faults new.faults) → (IsTrue old.sure → IsSome (text_of name old.texts) → IsErrOf r device.Failed → ⊥)
    → (IsErrOf r device.Memory → NoReadFailed old new) → IfErr r (FailsSo (IsMissing old.texts name) old new)
read_fails name old new (Ok x) rose sure memory = tt
read_fails name old new (Err device.Failed) rose sure memory = (rose refl, λ is. missing (text_of name old.texts) (λ some. sure is some refl))
read_fails name old new (Err device.Memory) rose sure memory = memory refl

-- ---- one read, and a later one

module _ (old mid new : RoomState) (fine : NoReadFailed old mid) (same : SameRoom old mid) where
  rose_later : Rose mid.faults new.faults → Rose old.faults new.faults
  rose_later h = subst (λ (n : ℕ). Rose n new.faults) fine h

  pub fine_later : NoReadFailed mid new → NoReadFailed old new
  fine_later h = h ∙ fine

  pub told_later : IsTrue old.told → IsTrue mid.told
  told_later h = subst IsTrue (sym same.told) h

  sure_later : IsTrue old.sure → IsTrue mid.sure
  sure_later h = subst IsTrue (sym same.sure) h

  pub fails_later : (misses misses' : Type 0) → (misses → misses') → (e : DeviceError) → FailsSo misses mid new e → FailsSo misses' old new e
  fails_later misses misses' weaker device.Failed h = (rose_later h.0, λ is. weaker (h.1 (sure_later is)))
  fails_later misses misses' weaker device.Memory h = fine_later h

  pub stops_later : (cause cause' : Stop → Type 0) (misses misses' : Type 0) → ((why : Stop) → IsTrue old.told → cause why → cause' why) → (IsTrue old.told → misses → misses') → (why : Stop) → StopsBy cause misses mid new why → StopsBy cause' misses' old new why
  stops_later cause cause' misses misses' causes weaker (stop.Texts why) h = (fine_later h.0, λ told. causes (stop.Texts why) told (h.1 (told_later told)))
  stops_later cause cause' misses misses' causes weaker stop.NotKdcfile h = (fine_later h.0, λ told. causes stop.NotKdcfile told (h.1 (told_later told)))
  stops_later cause cause' misses misses' causes weaker (stop.OtherGeneration stored) h = (fine_later h.0, λ told. causes (stop.OtherGeneration stored) told (h.1 (told_later told)))
  stops_later cause cause' misses misses' causes weaker stop.Spent h = (fine_later h.0, λ told. causes stop.Spent told (h.1 (told_later told)))
  stops_later cause cause' misses misses' causes weaker stop.Room h = (rose_later h.0, λ told sure. weaker told (h.1 (told_later told) (sure_later sure)))
  stops_later cause cause' misses misses' causes weaker stop.Output h = fine_later h
  stops_later cause cause' misses misses' causes weaker stop.Memory h = fine_later h

-- ---- an error of a read, and a cause in what was read

module _ (cause : Stop → Type 0) (misses : Type 0) (old new : RoomState) where
  pub read_stops : (own : Type 0) → (own → misses) → (e : DeviceError) → FailsSo own old new e → StopsBy cause misses old new (of_device e)
  read_stops own weaker device.Failed h = (h.0, λ told sure. weaker (h.1 sure))
  read_stops own weaker device.Memory h = h

  pub cause_stops : (own : Stop → Type 0) → NoReadFailed old new → ((why : Stop) → IsTrue old.told → own why → cause why) → (why : Stop) → StopsFor own why → StopsBy cause misses old new why
  cause_stops own fine causes (stop.Texts why) h = (fine, λ told. causes (stop.Texts why) told h)
  cause_stops own fine causes stop.NotKdcfile h = (fine, λ told. causes stop.NotKdcfile told h)
  cause_stops own fine causes (stop.OtherGeneration stored) h = (fine, λ told. causes (stop.OtherGeneration stored) told h)
  cause_stops own fine causes stop.Spent h = (fine, λ told. causes stop.Spent told h)
  cause_stops own fine causes stop.Room h = absurd h
  cause_stops own fine causes stop.Output h = absurd h
  cause_stops own fine causes stop.Memory h = fine

pub fails_weaker : (misses misses' : Type 0) (old new : RoomState) → (misses → misses') → (e : DeviceError) → FailsSo misses old new e → FailsSo misses' old new e
fails_weaker misses misses' old new weaker device.Failed h = (h.0, λ is. weaker (h.1 is))
fails_weaker misses misses' old new weaker device.Memory h = h
