-- A statement from its words: the table of keywords and operands.
use Rattle.std.specs.Prelude.{ℕ, Bool, true, false, List, [], ◌∷◌, drop, Option, None, Some, if◌then◌else◌, option_and_then}
use Rattle.std.specs.Option.{option_map}
use Rattle.kd_base.specs.declared.words.Variant.{Variant}
use Rattle.kd_base.specs.declared.words.Variant.TheVariants as variants
use Rattle.application_types.specs.declared.unit_types.action.Operand.{Operand}
use Rattle.application_types.specs.declared.unit_types.action.Relation.{Relation}
use Rattle.application_types.specs.declared.unit_types.action.Action.{Action}
use Rattle.application_types.specs.declared.unit_types.action.Action.TheVariants as actions
use Rattle.unit_read.specs.declared.word.Word.{Word}
use Rattle.unit_read.specs.declared.shape.DelayedMessage.{DelayedMessage}
use Rattle.unit_read.specs.declared.key.Key.{Key}
use Rattle.unit_read.specs.declared.key.Key.TheVariants as keys
use Rattle.unit_read.specs.Keys.{key_of, keyword_count}
use Rattle.unit_read.specs.Shapes.{one_name, one_operand, two_operands, name_and_operand, operand_and_name, name_and_two, compared, delayed}

abbrev pub takes_follow_up : Variant → Bool
takes_follow_up variants.Fi = false
takes_follow_up variants.Fr = false
takes_follow_up variants.Er = false
takes_follow_up variants.Rs = false
takes_follow_up _ = true

-- the action, where no words are left
abbrev pub alone : Action → List Word → Option Action
alone action [] = Some action
alone action (w ∷ ws) = None

abbrev pub pend_action : Variant → List Word → Option Action
pend_action variant words =
    if takes_follow_up variant then option_map (λ (o : Operand). actions.Pend variant (Some o)) (one_operand words)
    else alone (actions.Pend variant None) words

abbrev pub delayed_action : List Word → Option Action
delayed_action words = option_map (λ (d : DelayedMessage). actions.Dput d.to d.mode d.days d.rest.0 d.rest.1 d.rest.2 d.rest.3) (delayed words)

abbrev pub join_action : List Word → Option Action
join_action words = option_map (λ (p : List ℕ × Operand × Operand). actions.Join p.0 p.1 p.2) (name_and_two words)

abbrev pub if_action : List Word → Option Action
if_action words = option_map (λ (p : Operand × Relation × Operand × List ℕ). actions.If p.0 p.1 p.2 p.3) (compared words)

-- MOVE, or an arithmetic statement: what is stored in a field
abbrev pub stored : Key → (field : List ℕ) → Operand → Action
stored keys.Add f o = actions.Add f o
stored keys.Sub f o = actions.Sub f o
stored keys.Mul f o = actions.Mul f o
stored keys.Div f o = actions.Div f o
stored _ f o = actions.Move f o

-- JUMP, MGET or FGET: a label, or the field that a message is read into
abbrev pub named : Key → List ℕ → Action
named keys.Mget n = actions.Mget n
named keys.Fget n = actions.Fget n
named _ n = actions.Jump n

-- MPUT, or a call that gives an area or its lock back
abbrev pub given : Key → Operand → Action
given keys.SrelGb o = actions.SrelGb o
given keys.SrelLb o = actions.SrelLb o
given keys.UnlkGb o = actions.UnlkGb o
given keys.UnlkUs o = actions.UnlkUs o
given keys.UnlkDa o = actions.UnlkDa o
given _ o = actions.Mput o

-- FPUT, or a call that writes an area
abbrev pub written : Key → (name content : Operand) → Action
written keys.SputGb n o = actions.SputGb n o
written keys.SputMs n o = actions.SputMs n o
written keys.SputUs n o = actions.SputUs n o
written keys.Ptda n o = actions.Ptda n o
written _ n o = actions.Fput n o

-- a call that reads an area into a field
abbrev pub read : Key → (name : Operand) → (field : List ℕ) → Action
read keys.SgetKp n f = actions.SgetKp n f
read keys.SgetRl n f = actions.SgetRl n f
read keys.SgetUs n f = actions.SgetUs n f
read keys.Gtda n f = actions.Gtda n f
read _ n f = actions.SgetGb n f

-- the statement with these keywords, from its operands
abbrev pub action_at : Key → List Word → Option Action
action_at keys.Move ws = option_map (λ (p : List ℕ × Operand). actions.Move p.0 p.1) (name_and_operand ws)
action_at keys.Join ws = join_action ws
action_at keys.Add ws = option_map (λ (p : List ℕ × Operand). actions.Add p.0 p.1) (name_and_operand ws)
action_at keys.Sub ws = option_map (λ (p : List ℕ × Operand). actions.Sub p.0 p.1) (name_and_operand ws)
action_at keys.Mul ws = option_map (λ (p : List ℕ × Operand). actions.Mul p.0 p.1) (name_and_operand ws)
action_at keys.Div ws = option_map (λ (p : List ℕ × Operand). actions.Div p.0 p.1) (name_and_operand ws)
action_at keys.If ws = if_action ws
action_at keys.Jump ws = option_map (λ (l : List ℕ). actions.Jump l) (one_name ws)
action_at keys.Init ws = alone actions.Init ws
action_at keys.Mget ws = option_map (λ (f : List ℕ). actions.Mget f) (one_name ws)
action_at keys.Mput ws = option_map (λ (o : Operand). actions.Mput o) (one_operand ws)
action_at keys.Fget ws = option_map (λ (f : List ℕ). actions.Fget f) (one_name ws)
action_at keys.Fput ws = option_map (λ (p : Operand × Operand). actions.Fput p.0 p.1) (two_operands ws)
action_at keys.Dput ws = delayed_action ws
action_at keys.SgetGb ws = option_map (λ (p : Operand × List ℕ). actions.SgetGb p.0 p.1) (operand_and_name ws)
action_at keys.SputGb ws = option_map (λ (p : Operand × Operand). actions.SputGb p.0 p.1) (two_operands ws)
action_at keys.SrelGb ws = option_map (λ (o : Operand). actions.SrelGb o) (one_operand ws)
action_at keys.SgetKp ws = option_map (λ (p : Operand × List ℕ). actions.SgetKp p.0 p.1) (operand_and_name ws)
action_at keys.SgetRl ws = option_map (λ (p : Operand × List ℕ). actions.SgetRl p.0 p.1) (operand_and_name ws)
action_at keys.SputMs ws = option_map (λ (p : Operand × Operand). actions.SputMs p.0 p.1) (two_operands ws)
action_at keys.SrelLb ws = option_map (λ (o : Operand). actions.SrelLb o) (one_operand ws)
action_at keys.SgetUs ws = option_map (λ (p : Operand × List ℕ). actions.SgetUs p.0 p.1) (operand_and_name ws)
action_at keys.SputUs ws = option_map (λ (p : Operand × Operand). actions.SputUs p.0 p.1) (two_operands ws)
action_at keys.Gtda ws = option_map (λ (p : Operand × List ℕ). actions.Gtda p.0 p.1) (operand_and_name ws)
action_at keys.Ptda ws = option_map (λ (p : Operand × Operand). actions.Ptda p.0 p.1) (two_operands ws)
action_at keys.UnlkGb ws = option_map (λ (o : Operand). actions.UnlkGb o) (one_operand ws)
action_at keys.UnlkUs ws = option_map (λ (o : Operand). actions.UnlkUs o) (one_operand ws)
action_at keys.UnlkDa ws = option_map (λ (o : Operand). actions.UnlkDa o) (one_operand ws)
action_at (keys.Pend variant) ws = pend_action variant ws

-- the statement that the words are
abbrev pub action_of : List Word → Option Action
action_of words = option_and_then (λ (key : Key). action_at key (drop (keyword_count key) words)) (key_of words)
