use Rattle.std.proofs.Common.{◌∷◌, ap, sym, ◌∙◌}
use Rattle.std.specs.Option.{option_copied}
use Rattle.audit_trail.specs.Lines.{one}
use Rattle.audit_trail.specs.Reading.{words_after}
use Rattle.audit_trail.proofs.Words.{more_than_one}
use Rattle.audit_trail.proofs.word.one.Goals as goal

pub returns-in-Some : goal.returns-in-Some
returns-in-Some c =
    sym (ap (λ o. one (words_after (option_copied o))) c.in_ok-rest.was
    ∙ ap one (c.first_word.ensures ∙ ap (λ o. c.first_word.result.0.now ∷ words_after (option_copied o)) c.in-Some.is)
    ∙ more_than_one c.first_word.result.0.now c.in-Some.field-0.now)
