use Rattle.std.proofs.Common.{arith, ap, ◌∙◌, ◌≡◌, ◌+◌, ◌≤◌, length, ℕ, List, take}
use Rattle.std.proofs.lemmas.List.{take_all}
use Rattle.std.specs.Prelude.{nat_lt}
use Rattle.kdcs_types.specs.declared.act.Change.{Change}
use Rattle.kdcs_types.specs.Tables.{AreChanges, IsSortedTables, TableRows, with_changes}
use Rattle.sync_points.specs.Refusals.{gssb_weight}
use Rattle.sync_points.specs.RefusalsLaws.{gssbs_after, lt_alike}
use Rattle.table_fit.specs.Weights.{made_weight, replaced_weight}
use Rattle.sync_points.proofs.gssbs.has_too_many_gssbs.Goals as goal

all_counted : (t : TableRows) (cs items : List Change) (limit after allowed n : ℕ) → items ≡ cs → length items ≤ n → IsSortedTables t → AreChanges cs
    → after ≡ length t.gssbs + made_weight gssb_weight (take n items) → allowed ≡ limit + replaced_weight gssb_weight t (take n items)
    → nat_lt allowed after ≡ nat_lt limit (length (with_changes t cs).gssbs)
all_counted t cs items limit after allowed n same within h are made replaced =
    let all : take n items ≡ cs = take_all n items within ∙ same in
    lt_alike allowed after limit (length (with_changes t cs).gssbs)
    (omega (arith, made, replaced, ap (made_weight gssb_weight) all, ap (replaced_weight gssb_weight t) all, gssbs_after t cs h are))

pub returns : goal.returns
returns c =
    all_counted c.args.tables.now c.args.changes.now c.as_slice-change-items.result.now c.args.limit c.loop-change.after c.loop-change.allowed c.loop-change.change-index c.as_slice-change-items.ensures
    (omega (arith, c.loop-change-test.false)) c.requires.sorted c.requires.changes c.loop-change.invariant.after c.loop-change.invariant.allowed
