use Rattle.std.proofs.Common.{ℕ, ap, ◌∙◌, subst}
use Rattle.application_check.specs.declared.kdcdef_check.tables.Tables.{Tables}
use Rattle.application_check.specs.Generating.{generated}
use Rattle.application_check.specs.Faults.{kind_of}
use Rattle.application_check.specs.Steps.{own_fault, IsAdded}
use Rattle.application_check.proofs.kdcdef_check.Filling.{filled_names}
use Rattle.application_check.proofs.kdcdef_check.Gathering.{one_kept}
use Rattle.application_check.proofs.kdcdef_check.Tallies.{kind_within}
use Rattle.application_check.proofs.kdcdef_check.gathered.Gathered.keep.Goals as goal

pub returns : goal.returns
returns c = λ ss was.
    let kept = c.args.self.now.kept.items in
    let before = generated kept in
    let s = c.args.statement in
    let counted = c.count-count.ensures ∙ was.tally.counts (kind_of s.said) (kind_within s.said) in
    let fault = c.own_fault-self.ensures before (rw c.deref.ensures (filled_names c.args.self.now.tables.value kept (was.filled c.requires.none))) ∙ ap (λ (n : ℕ). own_fault before n s) counted in
    one_kept c.args.self.now _ ss s was c.requires.none c.in_ok-push.ensures.items fault (subst (λ (t : Tables). IsAdded t c.add.new.self s.line s.said) c.deref_mut.ensures.value c.in_ok-add.ensures) c.add-2.ensures c.know_name.ensures
