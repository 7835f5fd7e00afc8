-- The operands of MAX statements, one more statement at a time.
use Rattle.std.proofs.Common.{◌≡◌, ℕ, ◌+◌, ◌<◌, sym, ◌∙◌, ap, List, [], ◌∷◌, ◌++◌, length, take, get_or}
use Rattle.application_types.specs.declared.kdcdef_types.statement.MaxOperands.{MaxOperands}
use Rattle.application_types.specs.declared.kdcdef_types.statement.Statement.{Statement}
use Rattle.application_check.proofs.kdcdef_check.Passing.{next_taken}
use Rattle.application_check.specs.Generating.{nothing_given, operands_said, both_given, max_given}
use Rattle.kd_base.specs.ToolsLaws.{or_none, or_or}

both_nothing : (m : MaxOperands) → both_given m nothing_given ≡ m
both_nothing m = λ i. record {
  appliname = or_none m.appliname i;
  tasks = or_none m.tasks i;
  asyntasks = or_none m.asyntasks i;
  gssbs = or_none m.gssbs i;
  lssbs = or_none m.lssbs i;
  kb = or_none m.kb i;
  spab = or_none m.spab i;
  nb = or_none m.nb i;
  pgpool = or_none m.pgpool i;
  reswait = or_none m.reswait i;
  blksize = or_none m.blksize i;
  redelivery = or_none m.redelivery i;
  double = or_none m.double i;
}

both_both : (a b c : MaxOperands) → both_given (both_given a b) c ≡ both_given a (both_given b c)
both_both a b c = λ i. record {
  appliname = or_or a.appliname b.appliname c.appliname i;
  tasks = or_or a.tasks b.tasks c.tasks i;
  asyntasks = or_or a.asyntasks b.asyntasks c.asyntasks i;
  gssbs = or_or a.gssbs b.gssbs c.gssbs i;
  lssbs = or_or a.lssbs b.lssbs c.lssbs i;
  kb = or_or a.kb b.kb c.kb i;
  spab = or_or a.spab b.spab c.spab i;
  nb = or_or a.nb b.nb c.nb i;
  pgpool = or_or a.pgpool b.pgpool c.pgpool i;
  reswait = or_or a.reswait b.reswait c.reswait i;
  blksize = or_or a.blksize b.blksize c.blksize i;
  redelivery = or_or a.redelivery b.redelivery c.redelivery i;
  double = or_or a.double b.double c.double i;
}

-- one more statement
pub max_given_push : (ss : List Statement) (s : Statement) → max_given (ss ++ s ∷ []) ≡ both_given (max_given ss) (operands_said s.said)
max_given_push [] s = both_nothing (operands_said s.said)
max_given_push (t ∷ ss) s =
    ap (both_given (operands_said t.said)) (max_given_push ss s)
    ∙ sym (both_both (operands_said t.said) (max_given ss) (operands_said s.said))

pub next_given : (ss : List Statement) (i : ℕ) (s : Statement) (given : MaxOperands) → i < length ss → s ≡ get_or ss i s → given ≡ max_given (take i ss) → both_given given (operands_said s.said) ≡ max_given (take (i + 1) ss)
next_given ss i s given within is so_far =
    ap (λ (m : MaxOperands). both_given m (operands_said s.said)) so_far
    ∙ sym (max_given_push (take i ss) s)
    ∙ ap max_given (sym (next_taken ss i s within is))
