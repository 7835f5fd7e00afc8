-- The fields that a statement names.
use Rattle.std.specs.Prelude.{ℕ, Bool, true, ◌&&◌, List, Some}
use Rattle.application_types.specs.declared.unit_types.action.Operand.{Operand}
use Rattle.application_types.specs.declared.unit_types.action.Operand.TheVariants as operands
use Rattle.application_types.specs.declared.unit_types.action.Action.{Action}
use Rattle.application_types.specs.declared.unit_types.action.Action.TheVariants as actions

-- the field that the operand names passes the test
abbrev pub operand_uses : (List ℕ → Bool) → Operand → Bool
operand_uses test (operands.Field name) = test name
operand_uses test (operands.Trim name) = test name
operand_uses test _ = true

-- each operand of a DPUT passes
abbrev pub dput_uses : (List ℕ → Bool) → (to d h m s message : Operand) → Bool
dput_uses t to d h m s message =
    operand_uses t to && operand_uses t d && operand_uses t h && operand_uses t m && operand_uses t s && operand_uses t message

-- each field that the statement names passes the test, the targets and those in operands; labels are no fields
abbrev pub uses : (List ℕ → Bool) → Action → Bool
uses t (actions.Move f o) = t f && operand_uses t o
uses t (actions.Join f o p) = t f && operand_uses t o && operand_uses t p
uses t (actions.Add f o) = t f && operand_uses t o
uses t (actions.Sub f o) = t f && operand_uses t o
uses t (actions.Mul f o) = t f && operand_uses t o
uses t (actions.Div f o) = t f && operand_uses t o
uses t (actions.If o r p l) = operand_uses t o && operand_uses t p
uses t (actions.Mget f) = t f
uses t (actions.Mput o) = operand_uses t o
uses t (actions.Fget f) = t f
uses t (actions.Fput o p) = operand_uses t o && operand_uses t p
uses t (actions.Dput to mode d h m s o) = dput_uses t to d h m s o
uses t (actions.SgetGb o f) = t f && operand_uses t o
uses t (actions.SputGb o p) = operand_uses t o && operand_uses t p
uses t (actions.SrelGb o) = operand_uses t o
uses t (actions.SgetKp o f) = t f && operand_uses t o
uses t (actions.SgetRl o f) = t f && operand_uses t o
uses t (actions.SputMs o p) = operand_uses t o && operand_uses t p
uses t (actions.SrelLb o) = operand_uses t o
uses t (actions.SgetUs o f) = t f && operand_uses t o
uses t (actions.SputUs o p) = operand_uses t o && operand_uses t p
uses t (actions.Gtda o f) = t f && operand_uses t o
uses t (actions.Ptda o p) = operand_uses t o && operand_uses t p
uses t (actions.UnlkGb o) = operand_uses t o
uses t (actions.UnlkUs o) = operand_uses t o
uses t (actions.UnlkDa o) = operand_uses t o
uses t (actions.Pend v (Some o)) = operand_uses t o
uses t _ = true
