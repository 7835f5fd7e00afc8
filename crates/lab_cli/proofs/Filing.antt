-- The files of a BASE, from which an application starts.
use Rattle.std.proofs.Common.{◌≡◌, ◌++◌, ℕ, List, [], Some, None, Result, Ok, Err, refl, subst}
use Rattle.std.specs.Prelude.{IfErr, IfOk, IsTrue, codes}
use Rattle.kd_device.specs.Room.{RoomState}
use Rattle.kdcs_types.specs.Tables.{TableRows}
use Rattle.application_types.specs.Generation.{Generated}
use Rattle.device_acts.specs.Opening.{StartsFrom}
use Rattle.kdcfile_copies.specs.declared.answer.Found.{Found}
use Rattle.kdcfile_copies.specs.declared.answer.Found.TheVariants.{Empty, NoCopy, Copy}
use Rattle.kdcfile_copies.specs.Copies.{IsCopyOf, bare}
use Rattle.kdcfile_copies.specs.CopiesLaws.{store_is_copy}
use Rattle.kdcfile_copies.specs.Finding.{IsAnswer, IsFound}
use Rattle.kdcfile_double.specs.ChoiceLaws.{nothing_is_no_copy}
use Rattle.kdcfile_double.specs.Opening.{AreEmpty, StartsFromTwo}
use Rattle.refusals.specs.Texts.{NoReadFailed}
use Rattle.lab_cli.specs.Places.{IsFileRead, MissesFile, StartsOver}
use Rattle.lab_cli.specs.Stops.{IsCauseOfOne, IsCauseOfTwo, IsCauseOver, StopsFor, StopsOver}
use Rattle.lab_cli.specs.declared.stop.Stop.{Stop}
use Rattle.lab_cli.proofs.Rooms.{cause_stops}

-- of an empty file it is answered that it is
is_empty_answer : (f : Found) (bytes : List ℕ) → IsFound f → IsAnswer f bytes → bytes ≡ [] → f ≡ Empty
is_empty_answer Empty bytes found answer empty = refl
is_empty_answer NoCopy bytes found answer empty = absurd (answer.0 empty)
is_empty_answer (Copy p) bytes found answer empty =
    absurd
    (nothing_is_no_copy p.store.identity p.sequence (bare p.store.content)
    (subst (λ (l : List ℕ). IsCopyOf p.store.identity p.sequence (bare p.store.content) l) empty (store_is_copy p.store p.sequence (bare p.store.content) bytes found.keeps answer)))

pub are_filled : (f h : Found) (a b : List ℕ) → IsFound f → IsFound h → IsAnswer f a → IsAnswer h b → ((f ≡ Empty) × (h ≡ Empty) → ⊥) → AreEmpty a b → ⊥
are_filled f h a b f_found h_found first second filled empty = filled (is_empty_answer f a f_found first empty.0, is_empty_answer h b h_found second empty.1)

pub empty_answer : (f : Found) (bytes : List ℕ) → f ≡ Empty → IsAnswer f bytes → bytes ≡ []
empty_answer f bytes is answer = subst (λ (x : Found). IsAnswer x bytes) is answer

-- ---- what was read of the files, and what comes of it

module _ (g : Generated) (f base : List ℕ) (old new : RoomState) (fine : NoReadFailed old new) where
  module _ (file : List ℕ) (read : IsTrue old.told → IsFileRead old.texts (base ++ codes ".KDCA") file) where
    pub one_starts : (r : Result TableRows Stop) → IfOk r (λ t. StartsFrom g f file t) → IfOk r (λ t. IsTrue old.told → StartsOver None g f base old.texts t)
    one_starts (Ok t) h = λ told. (file, read told, h)
    one_starts (Err why) h = tt

    pub one_stops : (r : Result TableRows Stop) → IfErr r (StopsFor (IsCauseOfOne g f file)) → IfErr r (StopsOver None g f base old new)
    one_stops (Ok t) h = tt
    one_stops (Err why) h = cause_stops (IsCauseOver None g f base old.texts) (MissesFile None base old.texts) old new (IsCauseOfOne g f file) fine (λ x told c. (file, read told, c)) why h

  module _ (a b : List ℕ) (first : IsTrue old.told → IsFileRead old.texts (base ++ codes ".KDCA") a) (second : IsTrue old.told → IsFileRead old.texts (base ++ codes ".KDCB") b) (line : ℕ) where
    pub two_starts : (r : Result TableRows Stop) → IfOk r (λ t. StartsFromTwo g f a b t) → IfOk r (λ t. IsTrue old.told → StartsOver (Some line) g f base old.texts t)
    two_starts (Ok t) h = λ told. (a, b, first told, second told, h)
    two_starts (Err why) h = tt

    pub two_stops : (r : Result TableRows Stop) → IfErr r (StopsFor (IsCauseOfTwo g f a b)) → IfErr r (StopsOver (Some line) g f base old new)
    two_stops (Ok t) h = tt
    two_stops (Err why) h = cause_stops (IsCauseOver (Some line) g f base old.texts) (MissesFile (Some line) base old.texts) old new (IsCauseOfTwo g f a b) fine (λ x told c. (a, b, first told, second told, c)) why h

pub on_ok : {A E : Type 0} (r : Result A E) (P : Type 0) → P → IfOk r (λ x. P)
on_ok (Ok x) P h = h
on_ok (Err e) P h = tt

-- what holds of the tables whatever was found holds of these files
pub found_starts : (P : List ℕ → List ℕ → TableRows → Type 0) (f h : Found) (a b : List ℕ) → IsAnswer f a → IsAnswer h b → (r : Result TableRows Stop) → IfOk r (λ t. (x y : List ℕ) → IsAnswer f x → IsAnswer h y → P x y t) → IfOk r (λ t. P a b t)
found_starts P f h a b first second (Ok t) each = each a b first second
found_starts P f h a b first second (Err why) each = tt
