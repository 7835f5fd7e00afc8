-- Flags that are copied one after another into a longer list of free pages.
use Rattle.std.specs.Prelude.{◌≡◌, refl, ℕ, zero, suc, ◌+◌, ◌-◌, ◌<◌, ◌≤◌, Bool, false, List, [], ◌∷◌, ◌++◌, length, set, replicate, take}
use Rattle.std.proofs.Common.{arith, ap, get_or, ◌∙◌}
use Rattle.std.proofs.lemmas.Option.{same_Some}
use Rattle.kdcfile_layout.specs.Places.{At}

-- the first k flags are copied
abbrev pub copied : (k n : ℕ) → List Bool → List Bool
copied k n used = take k used ++ replicate (n - k) false

clear_next : (k m : ℕ) (used : List Bool) → k < length used → At (take k used ++ replicate (suc m) false) k false
clear_next k m [] lt = absurd (omega arith)
clear_next zero m (u ∷ us) lt = refl
clear_next (suc k) m (u ∷ us) lt = clear_next k m us (omega (arith, lt))

set_next : (k m : ℕ) (used : List Bool) (d : Bool) → k < length used → set (take k used ++ replicate (suc m) false) k (get_or used k d) ≡ take (suc k) used ++ replicate m false
set_next k m [] d lt = absurd (omega arith)
set_next zero m (u ∷ us) d lt = refl
set_next (suc k) m (u ∷ us) d lt = ap (λ (l : List Bool). u ∷ l) (set_next k m us d (omega (arith, lt)))

-- the next page is free yet
pub next_is_free : (k n : ℕ) (used : List Bool) → k < length used → length used ≤ n → At (copied k n used) k false
next_is_free k n used lt le =
    let one : n - k ≡ suc (n - (k + 1)) = omega arith in
    rw one (clear_next k (n - (k + 1)) used lt)

pub next_copied : (k n : ℕ) (used : List Bool) (d : Bool) → k < length used → length used ≤ n → set (copied k n used) k (get_or used k d) ≡ copied (k + 1) n used
next_copied k n used d lt le =
    let one : n - k ≡ suc (n - (k + 1)) = omega arith in
    let up : suc k ≡ k + 1 = omega arith in
    rw one (set_next k (n - (k + 1)) used d lt ∙ ap (λ (j : ℕ). take j used ++ replicate (n - (k + 1)) false) up)

-- a flag that is there already is set
pub same_flag : (page : ℕ) (used : List Bool) (flag : Bool) → At used page flag → used ≡ set used page flag
same_flag page [] flag at = refl
same_flag zero (u ∷ us) flag at = ap (λ (x : Bool). x ∷ us) (same_Some u flag at)
same_flag (suc page) (u ∷ us) flag at = ap (λ (l : List Bool). u ∷ l) (same_flag page us flag at)
