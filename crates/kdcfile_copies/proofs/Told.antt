-- What a file is whose store was loaded.
use Rattle.std.proofs.Common.{◌≡◌, ℕ, List, [], sym, ap, subst, ◌∙◌}
use Rattle.std.specs.Prelude.{Result, Ok, Err, IsErrAnd, IsErrOf}
use Rattle.kd_device.specs.Device.{State, Only}
use Rattle.kd_device.specs.Rest.{Rests}
use Rattle.kdcfile_store.specs.Kept.{IsKept}
use Rattle.kdcfile_store.specs.Paged.{Paged, HasFile, IsPaged}
use Rattle.kdcfile_copies.specs.declared.answer.Found.{Found}
use Rattle.kdcfile_copies.specs.declared.answer.Found.TheVariants.{Empty, NoCopy, Copy}
use Rattle.kdcfile_copies.specs.Copies.{HasSequence}
use Rattle.kdcfile_copies.specs.CopiesLaws.{others_are_no_copies, has_sequence_keeps}
use Rattle.kdcfile_copies.specs.Finding.{IsAnswer, IsFoundIn, IsLoaded}

pub loaded : (s : Paged) (n : ℕ) → IsPaged s → HasSequence n s.content → IsLoaded (record { store = s; sequence = n })
loaded s n paged has = record { identity = paged.identity; keeps = has_sequence_keeps s n paged.identity.blksize paged.content.ascending has }

pub answered : (s : Paged) (f : Found) (bytes : List ℕ) → IsFoundIn s f → HasFile s bytes → (bytes ≡ [] → ⊥) → IsAnswer f bytes
answered s Empty bytes is file filled = absurd is
answered s NoCopy bytes is file filled = (filled, others_are_no_copies s.identity s.content bytes (s.second, s.layout, file) is)
answered s (Copy c) bytes is file filled = subst (λ (t : Paged). HasFile t bytes) (sym is.0) file

-- calls that change no byte leave just what was there
pub only_rests : (a b : State) (la lb : ℕ → List ℕ → List ℕ → Type 0) → Only a.holds a la → Rests a b la lb → Only b.holds b lb
only_rests a b la lb only rests c left = only c (rests.stop c left) ∙ sym rests.holds

pub kept_answer : (a b : State) (la lb : ℕ → List ℕ → List ℕ → Type 0) (f : Found) → Only a.holds a la → Rests a b la lb → IsAnswer f a.holds → IsKept (IsAnswer f) b lb
kept_answer a b la lb f only rests answer = record { bytes = subst (IsAnswer f) (sym rests.holds) answer; at_rest = only_rests a b la lb only rests }

-- an error that is handed on is no other one
pub handed_on_not : {E : Type 0} (T U : Type 0) (r : Result T E) (e x : E) → IsErrAnd r (λ y. y ≡ e) → (IsErrOf r x → ⊥) → IsErrOf {T = U} (Err e) x → ⊥
handed_on_not T U (Ok v) e x gives none is = absurd gives
handed_on_not T U (Err y) e x gives none is = let h : e ≡ x = cc in none (ap (λ z. Err z) (gives ∙ h))
