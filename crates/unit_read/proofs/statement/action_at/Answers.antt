use Rattle.std.proofs.Common.{◌≡◌, ◌⊎◌, inl, inr, ℕ, List, Option, refl, subst}
use Rattle.std.specs.Prelude.{IfOk}
use Rattle.std.specs.Option.{option_map}
use Rattle.application_types.specs.declared.unit_types.action.Operand.{Operand}
use Rattle.application_types.specs.declared.unit_types.action.Action.{Action}
use Rattle.unit_read.specs.declared.word.Word.{Word}
use Rattle.unit_read.specs.declared.key.Key.{Key}
use Rattle.unit_read.specs.declared.key.Key.TheVariants as keys
use Rattle.unit_read.specs.Shapes.{one_name, one_operand, two_operands, operand_and_name}
use Rattle.unit_read.specs.Statements.{named, given, written, read, action_at}
use Rattle.unit_read.proofs.statement.action_at.Goals as goal

named_is : (k : Key) → k ≡ keys.Jump ⊎ k ≡ keys.Mget ⊎ k ≡ keys.Fget → (ws : List Word) → option_map (named k) (one_name ws) ≡ action_at k ws
named_is k (inl is) ws = rw is refl
named_is k (inr (inl is)) ws = rw is refl
named_is k (inr (inr is)) ws = rw is refl

pub returns-in-Jump : goal.returns-in-Jump
returns-in-Jump c = subst (λ (a : Option Action). IfOk c.named.result (λ found. found ≡ a)) (named_is c.args.key c.in-Jump.is c.args.words.now) c.named.ensures

given_is : (k : Key) → k ≡ keys.Mput ⊎ k ≡ keys.SrelGb ⊎ k ≡ keys.SrelLb ⊎ k ≡ keys.UnlkGb ⊎ k ≡ keys.UnlkUs ⊎ k ≡ keys.UnlkDa → (ws : List Word) → option_map (given k) (one_operand ws) ≡ action_at k ws
given_is k (inl is) ws = rw is refl
given_is k (inr (inl is)) ws = rw is refl
given_is k (inr (inr (inl is))) ws = rw is refl
given_is k (inr (inr (inr (inl is)))) ws = rw is refl
given_is k (inr (inr (inr (inr (inl is))))) ws = rw is refl
given_is k (inr (inr (inr (inr (inr is))))) ws = rw is refl

pub returns-in-Mput : goal.returns-in-Mput
returns-in-Mput c = subst (λ (a : Option Action). IfOk c.given.result (λ found. found ≡ a)) (given_is c.args.key c.in-Mput.is c.args.words.now) c.given.ensures

written_is : (k : Key) → k ≡ keys.Fput ⊎ k ≡ keys.SputGb ⊎ k ≡ keys.SputMs ⊎ k ≡ keys.SputUs ⊎ k ≡ keys.Ptda → (ws : List Word) → option_map (λ (p : Operand × Operand). written k p.0 p.1) (two_operands ws) ≡ action_at k ws
written_is k (inl is) ws = rw is refl
written_is k (inr (inl is)) ws = rw is refl
written_is k (inr (inr (inl is))) ws = rw is refl
written_is k (inr (inr (inr (inl is)))) ws = rw is refl
written_is k (inr (inr (inr (inr is)))) ws = rw is refl

pub returns-in-Fput : goal.returns-in-Fput
returns-in-Fput c = subst (λ (a : Option Action). IfOk c.written.result (λ found. found ≡ a)) (written_is c.args.key c.in-Fput.is c.args.words.now) c.written.ensures

read_is : (k : Key) → k ≡ keys.SgetGb ⊎ k ≡ keys.SgetKp ⊎ k ≡ keys.SgetRl ⊎ k ≡ keys.SgetUs ⊎ k ≡ keys.Gtda → (ws : List Word) → option_map (λ (p : Operand × List ℕ). read k p.0 p.1) (operand_and_name ws) ≡ action_at k ws
read_is k (inl is) ws = rw is refl
read_is k (inr (inl is)) ws = rw is refl
read_is k (inr (inr (inl is))) ws = rw is refl
read_is k (inr (inr (inr (inl is)))) ws = rw is refl
read_is k (inr (inr (inr (inr is)))) ws = rw is refl

pub returns-in-SgetGb : goal.returns-in-SgetGb
returns-in-SgetGb c = subst (λ (a : Option Action). IfOk c.read.result (λ found. found ≡ a)) (read_is c.args.key c.in-SgetGb.is c.args.words.now) c.read.ensures
