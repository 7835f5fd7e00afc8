use Rattle.std.proofs.Common.{◌≡◌, ◌+◌, ap, sym, ◌∙◌, arith}
use Rattle.std.proofs.lemmas.Result.{err_from_is_err_and}
use Rattle.kdcdef_read.specs.Left.{Left}
use Rattle.kdcdef_read.proofs.NextStatements.{step_line, is_followed, is_refused, is_within, still_within, told}
use Rattle.kdcdef_read.proofs.reading.Reader.next.Goals as goal

pub step-requires-clause-operands : goal.step-requires-clause-operands
step-requires-clause-operands c = (is_within c.self.inside.progress c.self.inside.raw.now c.self.inside.at c.statement.result c.statement.ensures c.self.invariant).0

pub step-requires-clause-line : goal.step-requires-clause-line
step-requires-clause-line c = (is_within c.self.inside.progress c.self.inside.raw.now c.self.inside.at c.statement.result c.statement.ensures c.self.invariant).1

pub returns-in_err-statement-clause-fault : goal.returns-in_err-statement-clause-fault
returns-in_err-statement-clause-fault c =
    let p = err_from_is_err_and c.from_residual.result c.from_residual.ensures.1 in
    rw (p.1, p.2)
    (λ other. ap (λ (l : Left). l.read) (sym c.self.view_is)
    ∙ is_refused c.self.inside.progress c.self.inside.raw.now c.self.inside.at c.statement.result c.in_err-statement.field-0.0 c.statement.ensures (told c.in_err-statement.field-0.0 other c.in_err-statement.ensures))

pub invariant_of-self : goal.invariant_of-self
invariant_of-self c =
    let line = step_line c.self.inside.progress c.in_ok-statement.progress c.statement.result c.in_ok-statement.statement c.in_ok-statement.ensures in
    still_within c.self.inside.progress c.in_ok-statement.progress c.self.inside.raw.now c.self.inside.at c.statement.result c.statement.ensures line.1 c.self.invariant

pub returns-clause-found : goal.returns-clause-found
returns-clause-found c =
    ap (λ (l : Left). l.read) (sym c.self.view_is)
    ∙ is_followed c.self.inside.progress c.in_ok-statement.progress c.self.inside.raw.now c.self.inside.at c.statement.result c.in_ok-statement.statement c.statement.ensures c.in_ok-statement.ensures

pub returns-clause-order : goal.returns-clause-order
returns-clause-order c =
    let line = step_line c.self.inside.progress c.in_ok-statement.progress c.statement.result c.in_ok-statement.statement c.in_ok-statement.ensures in
    let within = is_within c.self.inside.progress c.self.inside.raw.now c.self.inside.at c.statement.result c.statement.ensures c.self.invariant in
    let next : c.args.self.now.next ≡ c.self.inside.progress.next = ap (λ (l : Left). l.next) (sym c.self.view_is) in
    (omega (arith, next, line.0, within.2), line.1 ∙ ap (λ n. n + 1) (sym line.0))
