-- Laws: a fault of one reader that another hands on: want of memory as such, and any other fault in its variant.
use Rattle.std.specs.Prelude.{◌≡◌, ◌≢◌, Bool, true, false, cond, Result, Ok, Err, IsErrAnd, IfErr}
use Rattle.std.proofs.Common.{refl, sym, ap, ◌∙◌, subst}
use Rattle.kd_base.specs.FirstFaults.{Unless, GivesUnless}
use Rattle.kd_base.specs.FirstFaultsLaws.{holds_unless}
use Rattle.application_read.specs.Handed.{handed_in}

-- what a fault refuses in its reader is refused for the fault that is handed on
abbrev pub HandedOn : {F : Type 0} → F → (F → Bool) → (A X D : Type 0) → (D → Bool) → (D → F) → Type 0
HandedOn {F} memory is_memory A X D is_want variant = (e : D) (read : Result X D) (wanted : Result A F) → GivesUnless is_want (Err e) read → (read ≡ Err e → wanted ≡ Err (variant e)) → GivesUnless is_memory (Err (handed_in memory is_want variant e)) wanted

module _ {D F : Type 0} (memory : F) (is_want : D → Bool) (variant : D → F) where
  pub handed_on : {A X : Type 0} (is_memory : F → Bool) → is_memory memory ≡ true → HandedOn memory is_memory A X D is_want variant
  handed_on {A} {X} is_memory known e read wanted h on = go (is_want e) h
    where
      go : (b : Bool) → Unless b (read ≡ Err e) → GivesUnless {X = A} is_memory (Err (cond b memory (variant e))) wanted
      go true h = holds_unless (is_memory memory) _ (λ no. let two : true ≡ false = sym known ∙ no in absurd (cc two))
      go false h = holds_unless (is_memory (variant e)) _ (λ no. on h)

  -- what stands of a fault, stands as it is handed on
  pub stands : (e : D) (P : F → Type 0) (want : D) → is_want want ≡ true → (e ≢ want → P (variant e)) → handed_in memory is_want variant e ≢ memory → P (handed_in memory is_want variant e)
  stands e P want is h some = go (is_want e) refl some
    where
      go : (b : Bool) → is_want e ≡ b → cond b memory (variant e) ≢ memory → P (cond b memory (variant e))
      go true found some = absurd (some refl)
      go false found some = h (λ x. let two : false ≡ true = sym found ∙ ap is_want x ∙ is in absurd (cc two))

-- an error that was made of a fault gives what the fault gives
pub made_of : {A F : Type 0} (is_memory : F → Bool) (r : Result A F) (y : F) (wanted : Result A F) → IsErrAnd r (λ x. x ≡ y) → GivesUnless is_memory (Err y) wanted → GivesUnless is_memory r wanted
made_of is_memory (Ok a) y wanted is h = absurd is
made_of {A} {F} is_memory (Err x) y wanted is h = subst (λ (z : F). let r : Result A F = Err z in GivesUnless is_memory r wanted) (sym is) h

-- and stands where the fault stands
pub stands_in : {A F : Type 0} (memory : F) (P : F → Type 0) (r : Result A F) (y : F) → IsErrAnd r (λ x. x ≡ y) → (y ≢ memory → P y) → IfErr r (λ e. e ≢ memory → P e)
stands_in memory P (Ok a) y is h = absurd is
stands_in {A} {F} memory P (Err x) y is h = subst (λ (z : F). z ≢ memory → P z) (sym is) h
