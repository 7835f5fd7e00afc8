use Rattle.std.proofs.Common.{refl, sym, ◌∙◌, subst}
use Rattle.application_check.specs.declared.kdcdef_check.tables.Tables.{Tables}
use Rattle.application_check.specs.Steps.{IsAdded}
use Rattle.application_check.proofs.kdcdef_check.Gathering.{one_named, no_name, names_of_added}
use Rattle.application_check.proofs.kdcdef_check.gathered.Gathered.add_name.Goals as goal

pub returns-then-not-may_be_named : goal.returns-then-not-may_be_named
returns-then-not-may_be_named c = λ ss was behind.
    let none = sym c.may_be_named.ensures ∙ c.if-not-may_be_named.true in
    one_named c.args.self.now c.args.self.now ss c.args.statement.now was c.requires behind refl refl refl (no_name c.args.self.now.tables.value c.args.statement.now.line c.args.statement.now.said none)

pub returns : goal.returns
returns c = λ ss was behind.
    let s = c.args.statement.now in
    let added = subst (λ (t : Tables). IsAdded t c.add.new.self s.line s.said) c.deref_mut.ensures.value c.in_ok-add.ensures in
    one_named c.args.self.now _ ss s was c.requires behind refl refl refl (names_of_added c.args.self.now.tables.value c.add.new.self s.line s.said added)
