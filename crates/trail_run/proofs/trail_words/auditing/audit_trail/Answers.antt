use Rattle.std.proofs.Common.{ℕ, ◌+◌, ap}
use Rattle.kdcs_types.specs.Tables.{TableRows}
use Rattle.laws_of_runs.specs.Applied.{applied}
use Rattle.laws_of_states.specs.Suits.{Suits}
use Rattle.serial_audit.specs.Audit.{HoldsFor}
use Rattle.trail_run.proofs.trail_words.Judging.{differs_here, holds_next, if_differs, if_holds, same_entry, same_place}
use Rattle.trail_run.proofs.trail_words.Records.{entry_record}
use Rattle.trail_run.proofs.trail_words.auditing.audit_trail.Goals as goal

pub audit_entry-requires-clause-kept : goal.audit_entry-requires-clause-kept
audit_entry-requires-clause-kept c =
    let same = c.loop-entry.invariant.items in
    let i = c.loop-entry.entry-index in
    let e = c.entry-item.result in
    entry_record c.args.trail c.requires.trail i e (same_entry _ _ same i e c.entry-item.is c.loop-entry-test.true) (same_place _ _ same i e c.entry-item.is c.loop-entry-test.true)

pub returns-in-Differs : goal.returns-in-Differs
returns-in-Differs c =
    let app = applied c.args.generation.now c.args.units.now in
    let same = c.loop-entry.invariant.items in
    let i = c.loop-entry.entry-index in
    let e = c.entry-item.result in
    differs_here app c.args.trail.start c.args.trail.entries i c.loop-entry.tables c.loop-entry.invariant.in_turn e
    (same_entry _ _ same i e c.entry-item.is c.loop-entry-test.true) (same_place _ _ same i e c.entry-item.is c.loop-entry-test.true)
    c.loop-entry.held c.loop-entry.invariant.count
    (if_differs (λ (before : TableRows). (after : TableRows) → HoldsFor app c.loop-entry.tables e after → ⊥) c.in_ok-after.field-0 c.in-Differs.field-0 c.in-Differs.is c.in_ok-after.ensures.differs)

pub loop-entry-preserved : goal.loop-entry-preserved
loop-entry-preserved c =
    let app = applied c.args.generation.now c.args.units.now in
    let same = c.loop-entry.invariant.items in
    let i = c.loop-entry.entry-index in
    let e = c.entry-item.result in
    record {
      items = same;
      count = ap (λ (n : ℕ). n + 1) c.loop-entry.invariant.count;
      in_turn =
          holds_next app c.args.trail.start c.args.trail.entries i c.loop-entry.tables c.loop-entry.invariant.in_turn e
          (same_entry _ _ same i e c.entry-item.is c.loop-entry-test.true) (same_place _ _ same i e c.entry-item.is c.loop-entry-test.true)
          c.in-Holds.after (if_holds (HoldsFor app c.loop-entry.tables e) c.in_ok-after.field-0 c.in-Holds.after c.in-Holds.is c.in_ok-after.ensures.holds);
      suits = if_holds (Suits c.args.generation.now) c.in_ok-after.field-0 c.in-Holds.after c.in-Holds.is c.in_ok-after.ensures.suits;
    }
