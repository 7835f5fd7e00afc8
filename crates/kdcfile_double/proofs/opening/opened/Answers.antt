use Rattle.std.proofs.Common.{◌≡◌, ℕ, arith, sym, subst, ◌∙◌}
use Rattle.device_acts.specs.declared.warm_start.error.OpenError.TheVariants as opening
use Rattle.kdcfile_double.specs.Twice.{sequence_of}
use Rattle.kdcfile_double.specs.Opening.{IsSpent}
use Rattle.kdcfile_double.specs.ChoiceLaws.{choice_is_open, none_in_two, others_in_two}
use Rattle.kdcfile_double.specs.MakingLaws.{choice_is_new}
use Rattle.kdcfile_double.specs.OpeningLaws.{is_spent}
use Rattle.kdcfile_double.specs.OpenedLaws.{handed_open, never_spent, opened_fits, opened_none}
use Rattle.kdcfile_double.proofs.opening.opened.Goals as goal

pub returns-in_default-clause-refused : goal.returns-in_default-clause-refused
returns-in_default-clause-refused c = λ is a b first second.
    let none = c.chosen.ensures.none c.in_default.is in
    opened_none c.args.first c.args.second c.copy_in.result c.copy_in-2.result c.requires.first c.requires.second c.copy_in.ensures c.copy_in-2.ensures c.args.generation.now c.args.fingerprint.now none.0 none.1 a b first second

pub tables_for-requires : goal.tables_for-requires
tables_for-requires c = choice_is_open c.copy_in.result c.copy_in-2.result c.in-Some.store c.in-Some.ensures.some

pub returns-in_err-tables-clause-refused : goal.returns-in_err-tables-clause-refused
returns-in_err-tables-clause-refused c = λ is a b first second.
    none_in_two c.in-Some.store a b
    (opened_fits c.args.first c.args.second c.copy_in.result c.copy_in-2.result c.requires.first c.requires.second c.copy_in.ensures c.copy_in-2.ensures c.in-Some.store c.in-Some.ensures.some a b first second) c.args.generation.now
    c.args.fingerprint.now (c.in_err-tables.ensures.refused (handed_open _ _ c.from_residual.result c.in_err-tables.field-0.0 opening.NotKdcfile c.from_residual.ensures.1 is))

pub returns-in_err-tables-clause-other : goal.returns-in_err-tables-clause-other
returns-in_err-tables-clause-other c = λ stored is a b first second.
    others_in_two c.in-Some.store a b
    (opened_fits c.args.first c.args.second c.copy_in.result c.copy_in-2.result c.requires.first c.requires.second c.copy_in.ensures c.copy_in-2.ensures c.in-Some.store c.in-Some.ensures.some a b first second) stored
    c.args.fingerprint.now (c.in_err-tables.ensures.other stored (handed_open _ _ c.from_residual.result c.in_err-tables.field-0.0 (opening.OtherGeneration stored) c.from_residual.ensures.1 is))

pub returns-in_err-tables-clause-spent : goal.returns-in_err-tables-clause-spent
returns-in_err-tables-clause-spent c = λ n is. absurd (never_spent _ c.from_residual.result c.in_err-tables.field-0.0 n c.from_residual.ensures.1 is)

pub returns-in_err-tables-clause-failed : goal.returns-in_err-tables-clause-failed
returns-in_err-tables-clause-failed c = λ is. c.in_err-tables.ensures.failed (handed_open _ _ c.from_residual.result c.in_err-tables.field-0.0 opening.Failed c.from_residual.ensures.1 is)

pub sequence-sequence-requires : goal.sequence-sequence-requires
sequence-sequence-requires c = choice_is_open c.copy_in.result c.copy_in-2.result c.in-Some.store c.in-Some.ensures.some

pub returns-then-sequence-gt-LAST_SEQUENCE-clause-spent : goal.returns-then-sequence-gt-LAST_SEQUENCE-clause-spent
returns-then-sequence-gt-LAST_SEQUENCE-clause-spent c = λ n is a b first second.
    let s = c.in-Some.store in
    let same : c.sequence-sequence.result ≡ sequence_of s = c.sequence-sequence.ensures in
    let fits = opened_fits c.args.first c.args.second c.copy_in.result c.copy_in-2.result c.requires.first c.requires.second c.copy_in.ensures c.copy_in-2.ensures s c.in-Some.ensures.some a b first second in
    let number : c.sequence-sequence.result ≡ n = cc in
    subst (λ (m : ℕ). IsSpent c.args.generation.now c.args.fingerprint.now m a b) (sym same ∙ number)
    (is_spent c.args.generation.now c.args.fingerprint.now s a b fits c.in_ok-tables.tables c.in_ok-tables.ensures.tables c.in_ok-tables.ensures.suits (omega (arith, c.if-sequence-gt-LAST_SEQUENCE.true, same)))

pub returns-clause-fits : goal.returns-clause-fits
returns-clause-fits c = λ a b first second.
    opened_fits c.args.first c.args.second c.copy_in.result c.copy_in-2.result c.requires.first c.requires.second c.copy_in.ensures c.copy_in-2.ensures c.in-Some.store c.in-Some.ensures.some a b first second

pub returns-clause-is_open : goal.returns-clause-is_open
returns-clause-is_open c = choice_is_open c.copy_in.result c.copy_in-2.result c.in-Some.store c.in-Some.ensures.some

pub returns-clause-sequence : goal.returns-clause-sequence
returns-clause-sequence c =
    let same : c.sequence-sequence.result ≡ sequence_of c.in-Some.store = c.sequence-sequence.ensures in
    omega (arith, c.if-sequence-gt-LAST_SEQUENCE.false, same)

pub returns-clause-new : goal.returns-clause-new
returns-clause-new c = choice_is_new c.copy_in.result c.copy_in-2.result c.in-Some.store c.in-Some.ensures.some
