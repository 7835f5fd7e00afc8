use Rattle.std.proofs.Common.{◌≡◌, Bool, List, Result, ap, ◌∙◌, subst}
use Rattle.kd_base.specs.ToolsLaws.{ok_of}
use Rattle.kdcdef_read.specs.declared.fault.Cause.{Cause}
use Rattle.kdcdef_read.specs.declared.operands.Given.{Given}
use Rattle.kdcdef_read.specs.Filling.{read_operands}
use Rattle.kdcdef_read.specs.Steps.{Gives, no_keys, for_max, given_by}
use Rattle.kdcdef_read.proofs.statement.kept_by.Goals as goal

pub returns-in-Ok : goal.returns-in-Ok
returns-in-Ok c =
    let read : ok_of {E = Cause} c.in-Ok.given ≡ read_operands c.args.keyword (for_max c.args.keyword c.args.taken no_keys) c.args.raw.now.operands =
    c.in-Ok.ensures
    ∙ ap (λ (taken : List Bool). read_operands c.args.keyword taken c.args.raw.now.operands) c.for_max-before.ensures in
    let P : Result Given Cause → Type 0 = λ x. Gives c.given_by.result (given_by c.args.keyword c.args.taken c.args.raw.now.line c.args.raw.now.operands x) in
    subst P read c.given_by.ensures
