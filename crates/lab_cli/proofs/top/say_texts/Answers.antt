use Rattle.std.proofs.Common.{◌∙◌, ◌++◌, ℕ, List, [], ◌∷◌, ap, refl, subst, sym}
use Rattle.refusals.specs.Lines.{refusal_line}
use Rattle.refusals.specs.Statuses.{IsOneOf, status_of}
use Rattle.lab_cli.proofs.Saying.{texts_code, texts_own, says_line, says_nothing}
use Rattle.lab_cli.proofs.top.say_texts.Goals as goal

pub returns-in_default : goal.returns-in_default
returns-in_default g c = says_nothing g.C.Console.passes (status_of c.args.why) (texts_own c.args.why) (refusal_line c.args.why) c.args.console.now c.args.console.now

pub returns : goal.returns
returns g c =
    says_line g.C.Console.passes (status_of c.args.why) (texts_own c.args.why) (refusal_line c.args.why) c.args.console.now c.say.new.console c.refuse_texts-status.result.code c.say.result.code c.sent.result.now c.refuse_texts-status.ensures.code c.say.ensures.code
    (λ same.
    let said = (c.refuse_texts-status.ensures.said (subst (λ (n : ℕ). IsOneOf (2 ∷ 3 ∷ []) n) (sym same) (texts_code c.args.why))).1 refl in
    c.sent.ensures ∙ said.sent ∙ ap (λ (l : List ℕ). l ++ refusal_line c.args.why) c.in-Ok.ensures.sent) c.say.ensures.said
