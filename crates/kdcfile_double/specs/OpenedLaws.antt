-- Laws: what is answered where two files were read.
use Rattle.std.specs.Prelude.{◌≡◌, ◌⊎◌, ◌≤◌, ◌+◌, ◌^◌, ℕ, Bool, List, [], IsTrue, IfOk, IsErrAnd, IsErrOf, Option, None}
use Rattle.std.proofs.Common.{inl, ⊎_elim, arith, refl, sym, ap, subst, ◌∙◌, Result, Ok, Err}
use Rattle.kd_records.specs.Charge.{total_charge}
use Rattle.kd_device.specs.Twin.{Both}
use Rattle.kd_device.specs.declared.half.Half.{Half}
use Rattle.application_types.specs.Generation.{Generated}
use Rattle.kdcs_types.specs.Tables.{TableRows, empty_tables}
use Rattle.laws_of_states.specs.EmptyTablesLaws.{empty_suit}
use Rattle.laws_of_states.specs.Suits.{Suits}
use Rattle.kdcfile_copies.specs.declared.answer.LoadedCopy.{LoadedCopy}
use Rattle.kdcfile_copies.specs.declared.answer.Found.{Found}
use Rattle.kdcfile_copies.specs.declared.answer.Found.TheVariants.{Empty, NoCopy, Copy}
use Rattle.kdcfile_copies.specs.Copies.{IsCopyOf, bare}
use Rattle.kdcfile_copies.specs.CopiesLaws.{store_is_copy}
use Rattle.kdcfile_copies.specs.Finding.{IsAnswer, IsFound}
use Rattle.device_acts.specs.Stands.{AreTables}
use Rattle.device_acts.specs.declared.warm_start.error.OpenError.{OpenError}
use Rattle.device_acts.specs.declared.warm_start.error.OpenError.TheVariants as opening
use Rattle.kdcfile_double.specs.declared.error.TwinOpenError.{TwinOpenError}
use Rattle.kdcfile_double.specs.declared.error.TwinOpenError.TheVariants as to
use Rattle.kdcfile_double.specs.Causes.{of_open}
use Rattle.kdcfile_double.specs.Twice.{Twice, IsInUse, IsKeptTwice, IsOpen, content_of, identity_of, sequence_of}
use Rattle.kdcfile_double.specs.Opening.{AreEmpty, AreInUseSo, HasNoTablesInTwo, KeepsTablesTwice, SameFiles, StartsFromTwo, identity_twice}
use Rattle.kdcfile_double.specs.Mended.{BothRest}
use Rattle.kdcfile_double.specs.Choice.{AreOfFiles, HasCopy, IsChoice, copy_in}
use Rattle.kdcfile_double.specs.ChoiceLaws.{choice_fits, found_has, found_loaded, nothing_in_two, nothing_is_no_copy}
use Rattle.kdcfile_double.specs.OpeningLaws.{fits_twice, kept_of_files, starts_two}
use Rattle.kdcfile_double.specs.MakingLaws.{empty_are_tables}

-- ---- what was found

module _ (f h : Found) (p q : Option LoadedCopy) (is : IsFound f) (too : IsFound h) (one : p ≡ copy_in f) (two : q ≡ copy_in h) where
  pub opened_fits : (s : Twice) → IsChoice p q s → (a b : List ℕ) → IsAnswer f a → IsAnswer h b → AreOfFiles s a b
  opened_fits s choice a b first second =
      choice_fits (copy_in f) (copy_in h) s a b (found_loaded f is) (found_loaded h too)
      (subst (λ (o : Option LoadedCopy). IsChoice o (copy_in h) s) one (subst (λ (o : Option LoadedCopy). IsChoice p o s) two choice)) (found_has f a first) (found_has h b second)

  pub opened_none : (g : Generated) (fingerprint : List ℕ) → p ≡ None → q ≡ None → (a b : List ℕ) → IsAnswer f a → IsAnswer h b → HasNoTablesInTwo g fingerprint a b
  opened_none g fingerprint none neither a b first second =
      nothing_in_two g fingerprint a b (subst (λ (o : Option LoadedCopy). HasCopy o a) (sym one ∙ none) (found_has f a first)) (subst (λ (o : Option LoadedCopy). HasCopy o b) (sym two ∙ neither) (found_has h b second))

-- ---- both are empty

pub empty_suits : (g : Generated) (r : Result (Twice × TableRows) TwinOpenError) → IfOk r (λ o. o.1 ≡ empty_tables) → IfOk r (λ o. Suits g o.1)
empty_suits g (Ok o) e = subst (λ (t : TableRows). Suits g t) (sym e) (empty_suit g)
empty_suits g (Err x) e = tt

pub empty_tables_are : (r : Result (Twice × TableRows) TwinOpenError) → IfOk r (λ o. o.1 ≡ empty_tables) → IfOk r (λ o. AreTables o.1)
empty_tables_are (Ok o) e = subst (λ (t : TableRows). AreTables t) (sym e) empty_are_tables
empty_tables_are (Err x) e = tt

pub empty_sequence : (r : Result (Twice × TableRows) TwinOpenError) → IfOk r (λ o. sequence_of o.0 ≡ 0) → IfOk r (λ o. sequence_of o.0 ≤ 10 ^ 18)
empty_sequence (Ok o) e = omega (arith, e)
empty_sequence (Err x) e = tt

pub pages_fit : (g : Generated) (fingerprint : List ℕ) (r : Result (Twice × TableRows) TwinOpenError) → IfOk r (λ o. IsOpen o.0 → KeepsTablesTwice (identity_twice g fingerprint) o.0 o.1) → IfOk r (λ o. Suits g o.1)
    → IfOk r (λ o. IsOpen o.0 → total_charge (identity_of o.0).blksize (content_of o.0).items + 1 ≤ (identity_of o.0).pages)
pages_fit g fingerprint (Ok o) keeps suits = λ open_now. fits_twice g fingerprint o.0 o.1 (keeps open_now) suits
pages_fit g fingerprint (Err x) keeps suits = tt

pub empty_starts : (g : Generated) (fingerprint a b : List ℕ) (told : Type 0) (r : Result (Twice × TableRows) TwinOpenError) → (told → AreEmpty a b) → IfOk r (λ o. o.1 ≡ empty_tables) → IfOk r (λ o. told → StartsFromTwo g fingerprint a b o.1)
empty_starts g fingerprint a b told (Ok o) empty e = λ now. inl (empty now, e)
empty_starts g fingerprint a b told (Err x) empty e = tt

pub empty_is_open : (a b : List ℕ) (told : Type 0) (make : Bool) (r : Result (Twice × TableRows) TwinOpenError) → (told → AreEmpty a b) → IfOk r (λ o. IsTrue make → IsOpen o.0)
    → IfOk r (λ o. IsTrue make ⊎ (told × (AreEmpty a b → ⊥)) → IsOpen o.0)
empty_is_open a b told make (Ok o) empty is = λ asked. ⊎_elim (λ m. is m) (λ filled. absurd (filled.1 (empty filled.0))) asked
empty_is_open a b told make (Err x) empty is = tt

pub empty_made : (a b : List ℕ) (told : Type 0) (make : Bool) (r : Result (Twice × TableRows) TwinOpenError) → IfOk r (λ o. IsTrue make → (half : Half) → IsInUse half o.0)
    → IfOk r (λ o. IsTrue make → told → AreEmpty a b → (half : Half) → IsInUse half o.0)
empty_made a b told make (Ok o) is = λ asked now empty. is asked
empty_made a b told make (Err x) is = tt

pub kept_lifted : (told since : Type 0) (K : Twice → Type 0) (r : Result (Twice × TableRows) TwinOpenError) → (told → since) → IfOk r (λ o. IsOpen o.0 → since → K o.0) → IfOk r (λ o. IsOpen o.0 → told → K o.0)
kept_lifted told since K (Ok o) lift is = λ open_now now. is open_now (lift now)
kept_lifted told since K (Err x) lift is = tt

pub empty_in_use : (a b : List ℕ) (told : Type 0) (r : Result (Twice × TableRows) TwinOpenError) → (told → AreEmpty a b) → IfOk r (λ o. IsOpen o.0 → told → (AreEmpty a b → ⊥) → AreInUseSo o.0 a b)
empty_in_use a b told (Ok o) empty = λ open_now now filled. absurd (filled (empty now))
empty_in_use a b told (Err x) empty = tt

-- ---- they are not both empty

-- the store is of two files with these bytes
abbrev pub OpenedOf : Found → Found → Twice → Type 0
OpenedOf f h s = (a b : List ℕ) → IsAnswer f a → IsAnswer h b → AreOfFiles s a b

pub opened_pages : (g : Generated) (fingerprint : List ℕ) (r : Result (Twice × TableRows) TwinOpenError) → IfOk r (λ o. KeepsTablesTwice (identity_twice g fingerprint) o.0 o.1) → IfOk r (λ o. Suits g o.1)
    → IfOk r (λ o. IsOpen o.0 → total_charge (identity_of o.0).blksize (content_of o.0).items + 1 ≤ (identity_of o.0).pages)
opened_pages g fingerprint (Ok o) keeps suits = λ open_now. fits_twice g fingerprint o.0 o.1 keeps suits
opened_pages g fingerprint (Err x) keeps suits = tt

pub opened_tables : (g : Generated) (fingerprint : List ℕ) (r : Result (Twice × TableRows) TwinOpenError) → IfOk r (λ o. KeepsTablesTwice (identity_twice g fingerprint) o.0 o.1) → IfOk r (λ o. AreTables o.1)
opened_tables g fingerprint (Ok o) keeps = keeps.tables
opened_tables g fingerprint (Err x) keeps = tt

module _ (f h : Found) (a b : List ℕ) (told : Type 0) (first : told → IsAnswer f a) (second : told → IsAnswer h b) where
  pub opened_starts : (g : Generated) (fingerprint : List ℕ) (r : Result (Twice × TableRows) TwinOpenError) → IfOk r (λ o. OpenedOf f h o.0) → IfOk r (λ o. KeepsTablesTwice (identity_twice g fingerprint) o.0 o.1)
      → IfOk r (λ o. Suits g o.1) → IfOk r (λ o. sequence_of o.0 ≤ 10 ^ 18) → IfOk r (λ o. told → StartsFromTwo g fingerprint a b o.1)
  opened_starts g fingerprint (Ok o) fits keeps suits most = λ now. starts_two g fingerprint o.0 a b (fits a b (first now) (second now)) o.1 keeps suits most
  opened_starts g fingerprint (Err x) fits keeps suits most = tt

  pub opened_in_use : (r : Result (Twice × TableRows) TwinOpenError) → IfOk r (λ o. OpenedOf f h o.0) → IfOk r (λ o. IsOpen o.0 → told → (AreEmpty a b → ⊥) → AreInUseSo o.0 a b)
  opened_in_use (Ok o) fits = λ open_now now filled. (fits a b (first now) (second now)).in_use
  opened_in_use (Err x) fits = tt

-- nothing but that is found in an empty file
only_empty : (f : Found) (bytes : List ℕ) → IsFound f → IsAnswer f bytes → bytes ≡ [] → f ≡ Empty
only_empty Empty bytes is answer empty = refl
only_empty NoCopy bytes is answer empty = absurd (answer.0 empty)
only_empty (Copy p) bytes is answer empty =
    absurd
    (nothing_is_no_copy p.store.identity p.sequence (bare p.store.content)
    (subst (λ (l : List ℕ). IsCopyOf p.store.identity p.sequence (bare p.store.content) l) empty (store_is_copy p.store p.sequence (bare p.store.content) bytes is.keeps answer)))

-- files in which something was found are not both empty
pub opened_made : (f h : Found) (a b : List ℕ) (told : Type 0) (make : Bool) → IsFound f → IsFound h → (told → IsAnswer f a) → (told → IsAnswer h b) → ((f ≡ Empty) × (h ≡ Empty) → ⊥) → (r : Result (Twice × TableRows) TwinOpenError)
    → IfOk r (λ o. IsTrue make → told → AreEmpty a b → (half : Half) → IsInUse half o.0)
opened_made f h a b told make is too first second some (Ok o) = λ asked now empty. absurd (some (only_empty f a is (first now) empty.0, only_empty h b too (second now) empty.1))
opened_made f h a b told make is too first second some (Err x) = tt

-- a stop leaves of both what they hold
pub opened_kept : (f h : Found) (old new : Both) (leaves : ℕ → List ℕ → List ℕ → List ℕ → Type 0) (told : Type 0) → (told → IsAnswer f old.first.holds) → (told → IsAnswer h old.second.holds) → (told → SameFiles old new) → (told → BothRest new leaves)
    → (r : Result (Twice × TableRows) TwinOpenError) → IfOk r (λ o. OpenedOf f h o.0) → IfOk r (λ o. IsOpen o.0 → told → IsKeptTwice o.0 new leaves)
opened_kept f h old new leaves told first second same rest (Ok o) fits = λ open_now now.
    kept_of_files o.0 new leaves
    (fits new.first.holds new.second.holds (subst (λ (l : List ℕ). IsAnswer f l) (sym (same now).first_holds) (first now)) (subst (λ (l : List ℕ). IsAnswer h l) (sym (same now).second_holds) (second now))) (rest now)
opened_kept f h old new leaves told first second same rest (Err x) fits = tt

-- ---- an error that is handed on

-- which error it was
abbrev was : TwinOpenError → OpenError
was to.NotKdcfile = opening.NotKdcfile
was (to.OtherGeneration stored) = opening.OtherGeneration stored
was (to.Spent n) = opening.Memory
was to.Failed = opening.Failed
was to.Memory = opening.Memory

was_of : (e : OpenError) → was (of_open e) ≡ e
was_of opening.NotKdcfile = refl
was_of (opening.OtherGeneration stored) = refl
was_of opening.Failed = refl
was_of opening.Memory = refl

pub handed_open : (T U : Type 0) (r : Result T TwinOpenError) (e f : OpenError) → IsErrAnd r (λ x. x ≡ of_open e) → IsErrOf r (of_open f) → IsErrOf {T = U} (Err e) f
handed_open T U (Ok x) e f gives is = absurd gives
handed_open T U (Err x) e f gives is = let h : x ≡ of_open f = cc in ap (λ (y : OpenError). Err y) (sym (was_of e) ∙ ap was (sym gives ∙ h) ∙ was_of f)

pub never_spent : (T : Type 0) (r : Result T TwinOpenError) (e : OpenError) (n : ℕ) → IsErrAnd r (λ x. x ≡ of_open e) → IsErrOf r (to.Spent n) → ⊥
never_spent T (Ok x) e n gives is = absurd gives
never_spent T (Err x) opening.NotKdcfile n gives is = absurd cc
never_spent T (Err x) (opening.OtherGeneration stored) n gives is = absurd cc
never_spent T (Err x) opening.Failed n gives is = absurd cc
never_spent T (Err x) opening.Memory n gives is = absurd cc
