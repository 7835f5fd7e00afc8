-- The line of a refusal is printed.
use Rattle.std.proofs.Common.{◌≡◌, ℕ, List, [], ◌∷◌, refl, subst}
use Rattle.refusals.specs.Statuses.{IsOneOf, status_of, status_of_file}
use Rattle.refusals.specs.declared.error.FileRefusal.{FileRefusal}
use Rattle.refusals.specs.declared.error.FileRefusal.TheVariants.{NotKdcfile, OtherGeneration, OtherBlksize, SmallerPool, TooManyGssbs, TooLarge, SequenceSpent, TwoCopies, Differs}
use Rattle.refusals.specs.declared.error.Refusal.{Refusal}
use Rattle.refusals.specs.declared.error.Refusal.TheVariants.{Application, Double, Script, Trail}
use Rattle.lab_turns.specs.Consoles.{Passed, printed}
use Rattle.lab_cli.specs.Stops.{Says}
use Rattle.lab_cli.proofs.Statuses.{memory_code, not_memory, said_codes, said_not_failed, said_same}

pub texts_code : (why : Refusal) → IsOneOf (2 ∷ 3 ∷ []) (status_of why)
texts_code (Application fault) = refl
texts_code (Double line) = refl
texts_code (Script fault) = refl
texts_code (Trail fault) = refl

pub texts_own : (why : Refusal) → IsOneOf (2 ∷ 3 ∷ 4 ∷ 8 ∷ []) (status_of why)
texts_own (Application fault) = refl
texts_own (Double line) = refl
texts_own (Script fault) = refl
texts_own (Trail fault) = refl

pub file_code : (why : FileRefusal) → IsOneOf (4 ∷ 8 ∷ []) (status_of_file why)
file_code NotKdcfile = refl
file_code (OtherGeneration stored) = refl
file_code (OtherBlksize n) = refl
file_code (SmallerPool n) = refl
file_code (TooManyGssbs n) = refl
file_code (TooLarge n) = refl
file_code SequenceSpent = refl
file_code TwoCopies = refl
file_code (Differs n) = refl

pub file_own : (why : FileRefusal) → IsOneOf (2 ∷ 3 ∷ 4 ∷ 8 ∷ []) (status_of_file why)
file_own NotKdcfile = refl
file_own (OtherGeneration stored) = refl
file_own (OtherBlksize n) = refl
file_own (SmallerPool n) = refl
file_own (TooManyGssbs n) = refl
file_own (TooLarge n) = refl
file_own SequenceSpent = refl
file_own TwoCopies = refl
file_own (Differs n) = refl

module _ {C : Type 0} (passes : C → List Passed → C → Type 0) (k : ℕ) (own : IsOneOf (2 ∷ 3 ∷ 4 ∷ 8 ∷ []) k) (line : List ℕ) (a b : C) where
  -- a device took the line with the status c, and what it took was printed with the status n
  pub says_line : (c n : ℕ) (got : List ℕ) → IsOneOf (k ∷ 5 ∷ 7 ∷ []) c → IsOneOf (c ∷ 5 ∷ []) n → (c ≡ k → got ≡ line) → ((n ≡ 5 → ⊥) → passes a (printed got) b) → Says passes k line a b n
  says_line c n got of_k of_c taken put = record {
    code_is = said_codes k c n of_k of_c;
    said = λ is. subst (λ (l : List ℕ). passes a (printed l) b) (taken (said_same k c n own of_k of_c is)) (put (said_not_failed k n own is));
  }

  pub says_nothing : Says passes k line a b 7
  says_nothing = record { code_is = memory_code k; said = λ is. absurd (not_memory k own is) }
