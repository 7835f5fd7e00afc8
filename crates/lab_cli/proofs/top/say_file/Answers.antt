use Rattle.std.proofs.Common.{◌∙◌, ◌++◌, ℕ, List, [], ◌∷◌, ap, refl, subst, sym}
use Rattle.refusals.specs.Lines.{file_line}
use Rattle.refusals.specs.Statuses.{IsOneOf, status_of_file}
use Rattle.lab_cli.proofs.Saying.{file_code, file_own, says_line, says_nothing}
use Rattle.lab_cli.proofs.top.say_file.Goals as goal

pub returns-in_default : goal.returns-in_default
returns-in_default g c = says_nothing g.C.Console.passes (status_of_file c.args.why.now) (file_own c.args.why.now) (file_line c.args.why.now) c.args.console.now c.args.console.now

pub returns : goal.returns
returns g c =
    says_line g.C.Console.passes (status_of_file c.args.why.now) (file_own c.args.why.now) (file_line c.args.why.now) c.args.console.now c.say.new.console c.refuse_file-status.result.code c.say.result.code c.sent.result.now c.refuse_file-status.ensures.code c.say.ensures.code
    (λ same.
    let said = (c.refuse_file-status.ensures.said (subst (λ (n : ℕ). IsOneOf (4 ∷ 8 ∷ []) n) (sym same) (file_code c.args.why.now))).1 refl in
    c.sent.ensures ∙ said.sent ∙ ap (λ (l : List ℕ). l ++ file_line c.args.why.now) c.in-Ok.ensures.sent) c.say.ensures.said
