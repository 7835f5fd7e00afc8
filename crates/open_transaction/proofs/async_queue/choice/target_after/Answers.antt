-- The first pair that the search finds is that of the definition.
use Rattle.std.proofs.Common.{◌≡◌, Bool, not, ap, ◌∙◌, rules, tests}
use Rattle.std.specs.Prelude.{option_map, find}
use Rattle.std.specs.Map.Iter.{deref_pair}
use Rattle.std.proofs.lemmas.Iterator.Consumers.{YieldsList-from_rest}
use Rattle.std.proofs.lemmas.Iterator.Search.{find_from_yields_List}
use Rattle.kd_base.specs.Places.{from_key}
use Rattle.kdcs_types.specs.Same.{target_eq}
use Rattle.open_transaction.specs.declared.async_queue.due.DueKey.{DueKey}
use Rattle.open_transaction.specs.DueOrder.{due_cmp, last_key}
use Rattle.open_transaction.proofs.async_queue.Found.{nothing_found, something_found}
use Rattle.open_transaction.proofs.async_queue.choice.target_after.Goals as goal
use Rattle.open_transaction.proofs.async_queue.choice.target_after.Goals.{After-find}

abbrev is_other : After-find → DueKey × Bool → Bool
is_other c e = not (target_eq c.args.to.now e.0.to)

found : (c : After-find) → option_map deref_pair c.find.result ≡ find (is_other c) (from_key due_cmp (last_key c.args.to.now) c.args.by_due.now)
found c =
    find_from_yields_List (is_other c) _ _ c.find.result c.find.ensures.ran
    (YieldsList-from_rest _ (c.from.ensures.pairs ∙ ap (λ k. from_key due_cmp k c.args.by_due.now) c.last_of.ensures))
    (λ x b q k. search (rules, tests))

pub returns-in_err-key-clause-target : goal.returns-in_err-key-clause-target
returns-in_err-key-clause-target c = nothing_found deref_pair (λ (e : DueKey × Bool). e.0.to) _ _ (found (goal.at.returns-in_err-key-clause-target c).After-find) _ c.from_residual.ensures c.in_err-key.was

pub returns-clause-target : goal.returns-clause-target
returns-clause-target c = something_found deref_pair (λ (e : DueKey × Bool). e.0.to) _ _ (found (goal.at.returns-clause-target c).After-find) _ c.in_ok-key.was
