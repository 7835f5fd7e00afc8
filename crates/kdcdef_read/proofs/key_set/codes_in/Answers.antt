use Rattle.std.proofs.Common.{true, false, sym, ◌∙◌}
use Rattle.kdcdef_read.proofs.KeySets.{codes_fit, codes_refused}
use Rattle.kdcdef_read.proofs.key_set.codes_in.Goals as goal

pub returns-then-are_codes : goal.returns-then-are_codes
returns-then-are_codes c = sym (codes_fit c.args.items.now (rw c.next.ensures at c.if-is_none.ensures) (sym c.are_codes.ensures ∙ c.if-are_codes.true))

pub returns-then-are_numbers : goal.returns-then-are_numbers
returns-then-are_numbers c =
    sym (codes_refused c.args.items.now true (rw c.next.ensures at c.if-is_none.ensures) (sym c.are_codes.ensures ∙ c.if-are_codes.false) (sym c.are_numbers.ensures ∙ c.if-are_numbers.true))

pub returns : goal.returns
returns c =
    sym (codes_refused c.args.items.now false (rw c.next.ensures at c.if-is_none.ensures) (sym c.are_codes.ensures ∙ c.if-are_codes.false) (sym c.are_numbers.ensures ∙ c.if-are_numbers.false))
