-- The operands of a statement, by how many there are and of what kind.
use Rattle.std.specs.Prelude.{ℕ, List, [], ◌∷◌, Option, None, Some}
use Rattle.std.specs.Option.{option_map}
use Rattle.kd_base.specs.declared.words.Mode.{Mode}
use Rattle.application_types.specs.declared.unit_types.action.Operand.{Operand}
use Rattle.application_types.specs.declared.unit_types.action.Relation.{Relation}
use Rattle.unit_read.specs.declared.word.Word.{Word}
use Rattle.unit_read.specs.declared.shape.DelayedMessage.{DelayedMessage}
use Rattle.unit_read.specs.Operands.{name_of, operand_of, relation_of, mode_of}

-- two things, where both were found
abbrev pub both : {A B : Type 0} → Option A → Option B → Option (A × B)
both None y = None
both (Some a) None = None
both (Some a) (Some b) = Some (a, b)

-- one word and no other, and two
abbrev pub one_of : {A : Type 0} → (Word → Option A) → List Word → Option A
one_of f (w ∷ []) = f w
one_of f _ = None

abbrev pub two_of : {A B : Type 0} → (Word → Option A) → (Word → Option B) → List Word → Option (A × B)
two_of f g (v ∷ w ∷ []) = both (f v) (g w)
two_of f g _ = None

abbrev pub one_name : List Word → Option (List ℕ)
one_name words = one_of name_of words

abbrev pub one_operand : List Word → Option Operand
one_operand words = one_of operand_of words

abbrev pub two_operands : List Word → Option (Operand × Operand)
two_operands words = two_of operand_of operand_of words

abbrev pub name_and_operand : List Word → Option (List ℕ × Operand)
name_and_operand words = two_of name_of operand_of words

abbrev pub operand_and_name : List Word → Option (Operand × List ℕ)
operand_and_name words = two_of operand_of name_of words

abbrev pub name_and_two : List Word → Option (List ℕ × Operand × Operand)
name_and_two [] = None
name_and_two (w ∷ ws) = option_map (λ (p : List ℕ × (Operand × Operand)). (p.0, p.1.0, p.1.1)) (both (name_of w) (two_operands ws))

-- operand, relation, operand and label
abbrev pub compared : List Word → Option (Operand × Relation × Operand × List ℕ)
compared [] = None
compared (v ∷ []) = None
compared (v ∷ w ∷ ws) =
    option_map (λ (p : Operand × (Relation × (Operand × List ℕ))). (p.0, p.1.0, p.1.1.0, p.1.1.1)) (both (operand_of v) (both (relation_of w) (operand_and_name ws)))

-- hours, minutes, seconds and message
abbrev pub moment_of : List Word → Option (Operand × Operand × Operand × Operand)
moment_of [] = None
moment_of (v ∷ []) = None
moment_of (v ∷ w ∷ ws) =
    option_map (λ (p : Operand × (Operand × (Operand × Operand))). (p.0, p.1.0, p.1.1.0, p.1.1.1)) (both (operand_of v) (both (operand_of w) (two_operands ws)))

-- to, relative or absolute, days, and the rest
abbrev pub delayed : List Word → Option DelayedMessage
delayed [] = None
delayed (v ∷ []) = None
delayed (v ∷ w ∷ []) = None
delayed (v ∷ w ∷ x ∷ ws) =
    option_map (λ (p : Operand × (Mode × (Operand × (Operand × Operand × Operand × Operand)))). record { to = p.0; mode = p.1.0; days = p.1.1.0; rest = p.1.1.1 })
    (both (operand_of v) (both (mode_of w) (both (operand_of x) (moment_of ws))))
