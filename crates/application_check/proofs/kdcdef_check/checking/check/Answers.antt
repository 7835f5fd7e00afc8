use Rattle.std.proofs.Common.{◌≡◌, ◌∙◌, List, sym, subst}
use Rattle.std.specs.Prelude.{Ok, Err}
use Rattle.application_types.specs.declared.kdcdef_types.statement.Statement.{Statement}
use Rattle.application_check.specs.Generating.{generated}
use Rattle.application_check.specs.Faults.{AreFaultless}
use Rattle.application_check.specs.Steps.{SaysTogether}
use Rattle.application_check.proofs.kdcdef_check.Answered.{only_that, refused_for, few_filled, some_name, all_sound}
use Rattle.application_check.proofs.kdcdef_check.FirstGathered.{gathered_first, gathered_free, looked_over, made_of_gathered}
use Rattle.application_check.proofs.kdcdef_check.checking.check.Goals as goal

pub returns-in-Some-clause-fault : goal.returns-in-Some-clause-fault
returns-in-Some-clause-fault c = λ ss was read _.
    let looked = looked_over c.args.gathered c.of-whole.result c.first_outer_fault-outer.result _ _ c.deref.ensures c.as_slice-statements.ensures.value c.first_outer_fault-outer.ensures in
    let whole = subst (SaysTogether c.of-whole.result) c.as_slice-statements.ensures.value c.of-whole.ensures in
    gathered_first c.args.gathered c.of-whole.result c.first_outer_fault-outer.result c.earlier.result c.in-Some.fault ss looked whole c.earlier.ensures c.in-Some.is was read.ends

pub returns-in-Some-clause-only : goal.returns-in-Some-clause-only
returns-in-Some-clause-only c = λ ss was read. only_that ss (Err c.in-Some.fault) tt (returns-in-Some-clause-fault c ss was read)

pub returns-in-Some-clause-refused : goal.returns-in-Some-clause-refused
returns-in-Some-clause-refused c = λ ss was read. refused_for ss (Err c.in-Some.fault) tt (returns-in-Some-clause-fault c ss was read)

pub counts-counts-requires : goal.counts-counts-requires
counts-counts-requires c =
    let looked = looked_over c.args.gathered c.of-whole.result c.first_outer_fault-outer.result _ _ c.deref.ensures c.as_slice-statements.ensures.value c.first_outer_fault-outer.ensures in
    let whole = subst (SaysTogether c.of-whole.result) c.as_slice-statements.ensures.value c.of-whole.ensures in
    let is = gathered_free c.args.gathered c.of-whole.result c.first_outer_fault-outer.result c.earlier.result c.requires.0 looked whole c.earlier.ensures c.in_default.is c.requires.1 c.requires.2 in
    few_filled c.args.gathered.kept.items c.args.gathered.tally is.free c.requires.1.tally

pub limits_of-requires : goal.limits_of-requires
limits_of-requires c =
    let looked = looked_over c.args.gathered c.of-whole.result c.first_outer_fault-outer.result _ _ c.deref.ensures c.as_slice-statements.ensures.value c.first_outer_fault-outer.ensures in
    let whole = subst (SaysTogether c.of-whole.result) c.as_slice-statements.ensures.value c.of-whole.ensures in
    let is = gathered_free c.args.gathered c.of-whole.result c.first_outer_fault-outer.result c.earlier.result c.requires.0 looked whole c.earlier.ensures c.in_default.is c.requires.1 c.requires.2 in
    some_name c.args.gathered.kept.items c.of-whole.result.max is.free is.read.ends whole.max

pub generation_of-requires : goal.generation_of-requires
generation_of-requires c =
    let looked = looked_over c.args.gathered c.of-whole.result c.first_outer_fault-outer.result _ _ c.deref.ensures c.as_slice-statements.ensures.value c.first_outer_fault-outer.ensures in
    let whole = subst (SaysTogether c.of-whole.result) c.as_slice-statements.ensures.value c.of-whole.ensures in
    let is = gathered_free c.args.gathered c.of-whole.result c.first_outer_fault-outer.result c.earlier.result c.requires.0 looked whole c.earlier.ensures c.in_default.is c.requires.1 c.requires.2 in
    let passed = rw c.as_slice-statements.ensures.value at c.passed_operands.ensures in
    let made = made_of_gathered c.args.gathered c.requires.0 c.of-whole.result.max c.passed_operands.result c.limits_of.result c.counts-counts.result c.of-whole.result.double c.requires.1 is whole.max passed c.limits_of.ensures c.counts-counts.ensures whole.double in
    rw c.into_inner.ensures (all_sound c.args.gathered.kept.items _ made is.read c.requires.1.named is.free)

pub returns-clause-found : goal.returns-clause-found
returns-clause-found c = λ ss was read.
    let looked = looked_over c.args.gathered c.of-whole.result c.first_outer_fault-outer.result _ _ c.deref.ensures c.as_slice-statements.ensures.value c.first_outer_fault-outer.ensures in
    let whole = subst (SaysTogether c.of-whole.result) c.as_slice-statements.ensures.value c.of-whole.ensures in
    let is = gathered_free c.args.gathered c.of-whole.result c.first_outer_fault-outer.result c.earlier.result ss looked whole c.earlier.ensures c.in_default.is was read in
    let passed = rw c.as_slice-statements.ensures.value at c.passed_operands.ensures in
    let made = c.in_ok-generation.ensures ∙ rw c.into_inner.ensures (made_of_gathered c.args.gathered ss c.of-whole.result.max c.passed_operands.result c.limits_of.result c.counts-counts.result c.of-whole.result.double was is whole.max passed c.limits_of.ensures c.counts-counts.ensures whole.double) in
    subst (λ (xs : List Statement). (c.in_ok-generation.generation ≡ generated xs) × AreFaultless xs) (sym is.all) (made, is.free)

pub returns-clause-only : goal.returns-clause-only
returns-clause-only c = λ ss was read. only_that ss (Ok c.in_ok-generation.generation) (returns-clause-found c ss was read) tt

pub returns-clause-refused : goal.returns-clause-refused
returns-clause-refused c = λ ss was read. refused_for ss (Ok c.in_ok-generation.generation) (returns-clause-found c ss was read) tt
