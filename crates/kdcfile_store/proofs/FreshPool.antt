-- The pool of a file that is made.
use Rattle.std.proofs.Common.{◌≡◌, ℕ, suc, ◌+◌, Bool, true, List, [], ◌∷◌, ◌++◌, length, refl, ap, sym, subst, ◌∙◌, arith}
use Rattle.std.specs.Prelude.{set}
use Rattle.kdcfile_layout.specs.Pools.{flagged}
use Rattle.kdcfile_layout.specs.PoolsLaws.{length_flagged}
use Rattle.kdcfile_layout.specs.Fresh.{numbers}

flagged_joined : (flag : Bool) (pages : List ℕ) (used : List Bool) (p : ℕ) → flagged flag used (pages ++ p ∷ []) ≡ set (flagged flag used pages) p flag
flagged_joined flag [] used p = refl
flagged_joined flag (q ∷ pages) used p = flagged_joined flag pages (set used q flag) p

pub marked_none : (used : List Bool) → used ≡ flagged true used (numbers 0)
unfolding numbers
marked_none used = refl

pub marked_more : (used : List Bool) (n m : ℕ) → m ≡ n + 1 → set (flagged true used (numbers n)) n true ≡ flagged true used (numbers m)
unfolding numbers
marked_more used n m e =
    let more : suc n ≡ m = omega (arith, e) in
    sym (flagged_joined true (numbers n) used n) ∙ subst (λ (k : ℕ). flagged true used (numbers (suc n)) ≡ flagged true used (numbers k)) more refl

pub marked_length : (used now : List Bool) (pages : List ℕ) → now ≡ flagged true used pages → length now ≡ length used
marked_length used now pages e = ap (λ (l : List Bool). length l) e ∙ length_flagged true pages used
