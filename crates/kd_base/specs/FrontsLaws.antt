-- Laws: the longest front of a list that passes a test, and what is after it.
use Rattle.std.specs.Prelude.{◌≡◌, ℕ, suc, ◌+◌, Bool, true, false, IsTrue, List, [], ◌∷◌, ◌++◌, length, take, drop, refl}
use Rattle.std.specs.List.{list_all, prefix_len}
use Rattle.std.proofs.Common.{inl, inr, ◌∙◌, ap, arith}
use Rattle.std.proofs.lemmas.Bool.{cases_Bool}
use Rattle.kd_base.specs.ToolsLaws.{both_true}
use Rattle.kd_base.specs.Fronts.{begins}

pub one_add : (n : ℕ) → 1 + n ≡ suc n
one_add n = omega arith

pub front_passes : (p : ℕ → Bool) (xs : List ℕ) → list_all p (take (prefix_len p xs) xs) ≡ true
front_passes p [] = refl
front_passes p (x ∷ xs) =
    elim (cases_Bool (p x)) [
      | inl h ↦ rw (h, one_add (prefix_len p xs), h, front_passes p xs) refl
      | inr h ↦ rw h refl
    ]

pub stops : (p : ℕ → Bool) (xs : List ℕ) → begins p (drop (prefix_len p xs) xs) ≡ false
stops p [] = refl
stops p (x ∷ xs) =
    elim (cases_Bool (p x)) [
      | inl h ↦ rw (h, one_add (prefix_len p xs)) (stops p xs)
      | inr h ↦ rw h h
    ]

-- a front that passes, before what does not begin so
pub split_there : (p : ℕ → Bool) (word rest : List ℕ) → IsTrue (list_all p word) → begins p rest ≡ false → prefix_len p (word ++ rest) ≡ length word
split_there p [] [] h k = refl
split_there p [] (b ∷ rest) h k = rw k refl
split_there p (b ∷ word) rest h k =
    let a = both_true (p b) (list_all p word) h in
    rw (a.0) (one_add _ ∙ ap suc (split_there p word rest a.1 k))
