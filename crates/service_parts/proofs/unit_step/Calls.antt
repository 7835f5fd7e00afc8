-- Every statement that is no plain one is a call.
use Rattle.std.proofs.Common.{◌≡◌, ℕ, List, refl}
use Rattle.application_types.specs.declared.unit_types.action.Action.{Action}
use Rattle.application_types.specs.declared.unit_types.action.Action.TheVariants.{Move, Join, Add, Sub, Mul, Div, If, Jump}
use Rattle.application_types.specs.declared.unit_types.action.Operand.{Operand}
use Rattle.application_types.specs.declared.unit_types.action.Relation.{Relation}
use Rattle.service_parts.specs.Answers.{IsCall}

pub is_call : (a : Action) → ((f : List ℕ) (x : Operand) → a ≡ Move f x → ⊥) → ((f : List ℕ) (x y : Operand) → a ≡ Join f x y → ⊥) → ((f : List ℕ) (x : Operand) → a ≡ Add f x → ⊥) → ((f : List ℕ) (x : Operand) → a ≡ Sub f x → ⊥) → ((f : List ℕ) (x : Operand) → a ≡ Mul f x → ⊥) → ((f : List ℕ) (x : Operand) → a ≡ Div f x → ⊥) → ((x : Operand) (r : Relation) (y : Operand) (l : List ℕ) → a ≡ If x r y l → ⊥) → ((l : List ℕ) → a ≡ Jump l → ⊥) → IsCall a
is_call (Move f x) h1 h2 h3 h4 h5 h6 h7 h8 = h1 f x refl
is_call (Join f x y) h1 h2 h3 h4 h5 h6 h7 h8 = h2 f x y refl
is_call (Add f x) h1 h2 h3 h4 h5 h6 h7 h8 = h3 f x refl
is_call (Sub f x) h1 h2 h3 h4 h5 h6 h7 h8 = h4 f x refl
is_call (Mul f x) h1 h2 h3 h4 h5 h6 h7 h8 = h5 f x refl
is_call (Div f x) h1 h2 h3 h4 h5 h6 h7 h8 = h6 f x refl
is_call (If x r y l) h1 h2 h3 h4 h5 h6 h7 h8 = h7 x r y l refl
is_call (Jump l) h1 h2 h3 h4 h5 h6 h7 h8 = h8 l refl
is_call _ h1 h2 h3 h4 h5 h6 h7 h8 = tt
