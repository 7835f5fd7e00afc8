-- What is made of what a search found.
use Rattle.std.proofs.Common.{◌≡◌, Option, Some, None, sym, ap, ◌∙◌}
use Rattle.std.specs.Prelude.{option_map}

module _ {A B C : Type 0} (v : A → B) (f : B → C) (o : Option A) (p : Option B) (is : option_map v o ≡ p) where
  pub nothing_found : (r : Option C) → r ≡ None → o ≡ None → r ≡ option_map f p
  nothing_found r none was = none ∙ ap (λ (q : Option A). option_map f (option_map v q)) (sym was) ∙ ap (option_map f) is

  pub something_found : (x : A) → o ≡ Some x → Some (f (v x)) ≡ option_map f p
  something_found x was = ap (λ (q : Option A). option_map f (option_map v q)) (sym was) ∙ ap (option_map f) is
