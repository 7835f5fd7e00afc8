use Rattle.std.proofs.Common.{◌∙◌, List, Bool, true, ap, subst, sym}
use Rattle.kdcfile_layout.specs.Pools.{flagged}
use Rattle.kdcfile_load.specs.Marks.{AreClear, pages_in, all_free}
use Rattle.kdcfile_load.proofs.MarksLaws.{clear_front, clear_rest, clear_joined, flagged_joined}
use Rattle.kdcfile_load.proofs.marks.pool_of.Goals as goal

pub returns-then-not-mark_all-clause-taken : goal.returns-then-not-mark_all-clause-taken
returns-then-not-mark_all-clause-taken c = λ clear.
    c.mark_all.ensures.taken c.if-not-mark_all.true
    (subst (λ (u : List Bool). AreClear u c.args.directory.now) (sym c.in_ok-pool.ensures) (clear_front (all_free c.args.count) c.args.directory.now (pages_in c.args.slots.now) clear))

pub returns-then-not-mark_slots-clause-taken : goal.returns-then-not-mark_slots-clause-taken
returns-then-not-mark_slots-clause-taken c = λ clear.
    c.mark_slots.ensures.taken c.if-not-mark_slots.true
    (subst (λ (u : List Bool). AreClear u (pages_in c.args.slots.now)) (sym (c.mark_all.ensures.used c.if-not-mark_all.false ∙ ap (λ (u : List Bool). flagged true u c.args.directory.now) c.in_ok-pool.ensures))
    (clear_rest (all_free c.args.count) c.args.directory.now (pages_in c.args.slots.now) clear))

pub returns-clause-clear : goal.returns-clause-clear
returns-clause-clear c =
    clear_joined (all_free c.args.count) c.args.directory.now (pages_in c.args.slots.now)
    (subst (λ (u : List Bool). AreClear u c.args.directory.now) c.in_ok-pool.ensures (c.mark_all.ensures.clear c.if-not-mark_all.false))
    (subst (λ (u : List Bool). AreClear u (pages_in c.args.slots.now)) (c.mark_all.ensures.used c.if-not-mark_all.false ∙ ap (λ (u : List Bool). flagged true u c.args.directory.now) c.in_ok-pool.ensures) (c.mark_slots.ensures.clear c.if-not-mark_slots.false))

pub returns-clause-used : goal.returns-clause-used
returns-clause-used c =
    c.mark_slots.ensures.used c.if-not-mark_slots.false
    ∙ ap (λ (u : List Bool). flagged true u (pages_in c.args.slots.now)) (c.mark_all.ensures.used c.if-not-mark_all.false ∙ ap (λ (u : List Bool). flagged true u c.args.directory.now) c.in_ok-pool.ensures)
    ∙ sym (flagged_joined (all_free c.args.count) c.args.directory.now (pages_in c.args.slots.now))
