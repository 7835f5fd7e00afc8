use Rattle.std.proofs.Common.{inl, sym, subst}
use Rattle.kdcs_types.specs.Tables.{TableRows}
use Rattle.laws_of_states.specs.EmptyTablesLaws.{empty_suit}
use Rattle.laws_of_states.specs.Suits.{Suits}
use Rattle.lab_cli.proofs.Filing.{empty_answer}
use Rattle.lab_cli.proofs.files.tables_of_found.Goals as goal

pub returns-then-are_empty-clause-suits : goal.returns-then-are_empty-clause-suits
returns-then-are_empty-clause-suits c = subst (λ (t : TableRows). Suits c.args.generation.now t) (sym c.empty.ensures) (empty_suit c.args.generation.now)

pub returns-then-are_empty-clause-starts : goal.returns-then-are_empty-clause-starts
returns-then-are_empty-clause-starts c = λ a b first second.
    let both = c.are_empty.ensures.0 c.if-are_empty.true in
    inl ((empty_answer c.args.first a both.0 first, empty_answer c.args.second b both.1 second), c.empty.ensures)
