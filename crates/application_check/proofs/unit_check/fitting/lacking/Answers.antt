use Rattle.std.proofs.Common.{sym, ◌∙◌}
use Rattle.std.specs.BTreeMap.{get_by}
use Rattle.std.specs.Cmp.Lexicographic.{slice_cmp}
use Rattle.std.specs.Ordering.{nat_cmp}
use Rattle.application_check.proofs.unit_check.Places.{place_says, lacks_here, lacks_later}
use Rattle.application_check.proofs.unit_check.fitting.lacking.Goals as goal

pub returns-then-not-contains_key : goal.returns-then-not-contains_key
returns-then-not-contains_key c =
    let says = place_says c.args.units.now c.in_ok-name.name.now (get_by (slice_cmp nat_cmp c.in_ok-name.name.now) c.args.places.now) (c.requires c.in_ok-name.name.now) in
    sym (lacks_here c.args.units.now c.programs-programs.result.now.entries c.loop-i.i (c.in_ok-name.name.now, c.in_ok-name.line.now) (sym c.in_ok-name.ensures.entry) (sym says ∙ sym c.contains_key.ensures ∙ c.if-not-contains_key.true))
    ∙ c.loop-i.invariant

pub loop-i-preserved : goal.loop-i-preserved
loop-i-preserved c =
    let says = place_says c.args.units.now c.in_ok-name.name.now (get_by (slice_cmp nat_cmp c.in_ok-name.name.now) c.args.places.now) (c.requires c.in_ok-name.name.now) in
    sym (lacks_later c.args.units.now c.programs-programs.result.now.entries c.loop-i.i (c.in_ok-name.name.now, c.in_ok-name.line.now) (sym c.in_ok-name.ensures.entry) (sym says ∙ sym c.contains_key.ensures ∙ c.if-not-contains_key.false))
    ∙ c.loop-i.invariant
