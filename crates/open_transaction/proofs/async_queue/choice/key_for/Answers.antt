-- The first pair that the search finds is that of the definition.
use Rattle.std.proofs.Common.{◌≡◌, Bool, ◌||◌, not, ap, ◌∙◌, rules, tests}
use Rattle.std.specs.Prelude.{option_map, find}
use Rattle.std.specs.Map.Iter.{deref_pair}
use Rattle.std.proofs.lemmas.Iterator.Consumers.{YieldsList-from_rest}
use Rattle.std.proofs.lemmas.Iterator.Search.{find_from_yields_List}
use Rattle.kd_base.specs.Places.{from_key}
use Rattle.kdcs_types.specs.Same.{target_eq}
use Rattle.open_transaction.specs.declared.async_queue.due.DueKey.{DueKey}
use Rattle.open_transaction.specs.DueOrder.{due_cmp, first_key}
use Rattle.open_transaction.proofs.async_queue.Found.{nothing_found, something_found}
use Rattle.open_transaction.proofs.async_queue.choice.key_for.Goals as goal
use Rattle.open_transaction.proofs.async_queue.choice.key_for.Goals.{After-find}

abbrev stops : After-find → DueKey × Bool → Bool
stops c e = not e.1 || not (target_eq c.args.to.now e.0.to)

found : (c : After-find) → option_map deref_pair c.find.result ≡ find (stops c) (from_key due_cmp (first_key c.args.to.now) c.args.by_due.now)
found c =
    find_from_yields_List (stops c) _ _ c.find.result c.find.ensures.ran
    (YieldsList-from_rest _ (c.from.ensures.pairs ∙ ap (λ k. from_key due_cmp k c.args.by_due.now) c.first_of.ensures))
    (λ x b q k. search (rules, tests))

pub returns-in_err-key-clause-key : goal.returns-in_err-key-clause-key
returns-in_err-key-clause-key c = nothing_found deref_pair (λ (e : DueKey × Bool). e.0) _ _ (found (goal.at.returns-in_err-key-clause-key c).After-find) _ c.from_residual.ensures c.in_err-key.was

pub returns-clause-key : goal.returns-clause-key
returns-clause-key c = something_found deref_pair (λ (e : DueKey × Bool). e.0) _ _ (found (goal.at.returns-clause-key c).After-find) _ c.in_ok-key.was
