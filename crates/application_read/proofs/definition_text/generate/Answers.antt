use Rattle.std.proofs.Common.{Ok, Err, refl}
use Rattle.kdcdef_read.specs.declared.fault.ReadFault.TheVariants as read
use Rattle.kdcdef_read.specs.Faults.{is_memory as is_read_memory}
use Rattle.application_check.specs.declared.kdcdef_check.fault.CheckFault.TheVariants as check
use Rattle.application_check.specs.Faults.{is_memory as is_check_memory}
use Rattle.application_read.specs.declared.definition_fault.DefinitionFault.TheVariants.{Read, Check, Memory}
use Rattle.application_read.specs.Definition.{HasFault, is_memory}
use Rattle.application_read.specs.Causes.{of_lex, of_read, of_check}
use Rattle.application_read.specs.HandedLaws.{made_of, stands_in, stands}
use Rattle.application_read.proofs.DefinitionLayers.{lex_only, lex_fault, read_only, read_fault, check_only, check_fault, all_only, all_fault}
use Rattle.application_read.proofs.definition_text.generate.Goals as goal

pub returns-in_err-raw-clause-only : goal.returns-in_err-raw-clause-only
returns-in_err-raw-clause-only c = λ g h.
    let e = c.in_err-raw.field-0.0 in
    made_of is_memory c.from_residual.result (of_lex e) (Ok g) c.from_residual.ensures.1 (lex_only c.args.definition.now e c.in_err-raw.ensures.only g h)

pub returns-in_err-raw-clause-refused : goal.returns-in_err-raw-clause-refused
returns-in_err-raw-clause-refused c = λ f h.
    let e = c.in_err-raw.field-0.0 in
    made_of is_memory c.from_residual.result (of_lex e) (Err f) c.from_residual.ensures.1 (lex_fault c.args.definition.now e c.in_err-raw.ensures.only c.in_err-raw.ensures.refused f h)

pub returns-in_err-gathered-clause-only : goal.returns-in_err-gathered-clause-only
returns-in_err-gathered-clause-only c = λ g h.
    let e = c.in_err-gathered.field-0.0 in
    made_of is_memory c.from_residual-in_err-gathered.result (of_read e) (Ok g) c.from_residual-in_err-gathered.ensures.1
    (read_only c.args.definition.now c.in_ok-raw.raw c.in_ok-raw.ensures.only c.in_ok-raw.ensures.refused c.read.result.read c.read.ensures.only c.read.ensures.refused e c.in_err-gathered.ensures.fault g h)

pub returns-in_err-gathered-clause-refused : goal.returns-in_err-gathered-clause-refused
returns-in_err-gathered-clause-refused c = λ f h.
    let e = c.in_err-gathered.field-0.0 in
    made_of is_memory c.from_residual-in_err-gathered.result (of_read e) (Err f) c.from_residual-in_err-gathered.ensures.1
    (read_fault c.args.definition.now c.in_ok-raw.raw c.in_ok-raw.ensures.only c.in_ok-raw.ensures.refused c.read.result.read c.read.ensures.only c.read.ensures.refused e c.in_err-gathered.ensures.fault f h)

pub returns-in_err-gathered-clause-fault : goal.returns-in_err-gathered-clause-fault
returns-in_err-gathered-clause-fault c =
    let e = c.in_err-gathered.field-0.0 in
    stands_in Memory (HasFault c.args.definition.now) c.from_residual-in_err-gathered.result (of_read e) c.from_residual-in_err-gathered.ensures.1
    (stands Memory is_read_memory (λ x. Read x) e (HasFault c.args.definition.now) read.Memory refl (λ some. (c.in_ok-raw.raw, c.in_ok-raw.ensures.found, c.read.ensures.fault e (c.in_err-gathered.ensures.fault some))))

pub check-requires : goal.check-requires
check-requires c =
    let f = c.in_ok-gathered.ensures.found in
    (f.0, f.2, c.read.ensures.read f.0 f.1)

pub returns-in_err-check-clause-only : goal.returns-in_err-check-clause-only
returns-in_err-check-clause-only c = λ g h.
    let e = c.in_err-check.field-0.0 in
    let r = c.in_ok-gathered.ensures.found in
    made_of is_memory c.from_residual-in_err-check.result (of_check e) (Ok g) c.from_residual-in_err-check.ensures.1
    (check_only c.args.definition.now c.in_ok-raw.raw c.in_ok-raw.ensures.only c.in_ok-raw.ensures.refused c.read.result.read c.read.ensures.only c.read.ensures.refused r.0 r.1 e (c.in_err-check.ensures.only r.0 r.2 (c.read.ensures.read r.0 r.1)) g h)

pub returns-in_err-check-clause-refused : goal.returns-in_err-check-clause-refused
returns-in_err-check-clause-refused c = λ f h.
    let e = c.in_err-check.field-0.0 in
    let r = c.in_ok-gathered.ensures.found in
    made_of is_memory c.from_residual-in_err-check.result (of_check e) (Err f) c.from_residual-in_err-check.ensures.1
    (check_fault c.args.definition.now c.in_ok-raw.raw c.in_ok-raw.ensures.only c.in_ok-raw.ensures.refused c.read.result.read c.read.ensures.only c.read.ensures.refused r.0 r.1 e (c.in_err-check.ensures.only r.0 r.2 (c.read.ensures.read r.0 r.1)) (c.in_err-check.ensures.refused r.0 r.2 (c.read.ensures.read r.0 r.1)) f h)

pub returns-in_err-check-clause-fault : goal.returns-in_err-check-clause-fault
returns-in_err-check-clause-fault c =
    let e = c.in_err-check.field-0.0 in
    let r = c.in_ok-gathered.ensures.found in
    stands_in Memory (HasFault c.args.definition.now) c.from_residual-in_err-check.result (of_check e) c.from_residual-in_err-check.ensures.1
    (stands Memory is_check_memory (λ x. Check x) e (HasFault c.args.definition.now) check.Memory refl (λ some. (r.0, (c.in_ok-raw.raw, c.in_ok-raw.ensures.found, c.read.ensures.found r.0 r.1), c.in_err-check.ensures.fault r.0 r.2 (c.read.ensures.read r.0 r.1) some)))

pub returns-clause-found : goal.returns-clause-found
returns-clause-found c =
    let r = c.in_ok-gathered.ensures.found in
    let g = c.in_ok-check.ensures.found r.0 r.2 (c.read.ensures.read r.0 r.1) in
    (r.0, (c.in_ok-raw.raw, c.in_ok-raw.ensures.found, c.read.ensures.found r.0 r.1), g.1, g.0)

pub returns-clause-only : goal.returns-clause-only
returns-clause-only c = λ g h.
    let r = c.in_ok-gathered.ensures.found in
    all_only c.args.definition.now c.in_ok-raw.raw c.in_ok-raw.ensures.only c.in_ok-raw.ensures.refused c.read.result.read c.read.ensures.only c.read.ensures.refused r.0 r.1 c.in_ok-check.field-0 (c.in_ok-check.ensures.found r.0 r.2 (c.read.ensures.read r.0 r.1)).0 g h

pub returns-clause-refused : goal.returns-clause-refused
returns-clause-refused c = λ f h.
    let r = c.in_ok-gathered.ensures.found in
    let are = c.read.ensures.read r.0 r.1 in
    all_fault c.args.definition.now c.in_ok-raw.raw c.in_ok-raw.ensures.only c.in_ok-raw.ensures.refused c.read.result.read c.read.ensures.only c.read.ensures.refused r.0 r.1 c.in_ok-check.field-0 (c.in_ok-check.ensures.found r.0 r.2 are).0 (c.in_ok-check.ensures.refused r.0 r.2 are) f h
