use Rattle.std.proofs.Common.{◌∙◌, ap, refl, subst, sym}
use Rattle.kd_base.specs.ToolsLaws.{none_is}
use Rattle.abstract_monitor.specs.Locks.{Locks, holder}
use Rattle.monitor_parts.specs.Index.{IsOpenTo}
use Rattle.monitor_parts.proofs.area_locks.Indexing.{given_index, mended_index}
use Rattle.monitor_parts.proofs.area_locks.Holders.{own_again}
use Rattle.monitor_parts.proofs.area_locks.LockTable.grant.Goals as goal

pub returns-then-held-clause-locks : goal.returns-then-held-clause-locks
returns-then-held-clause-locks c =
    own_again c.args.self.now c.args.who.now c.args.area.now c.requires.once c.requires.open (holder c.args.self.now c.args.area.now) refl (sym c.requires.held ∙ c.if-held.true)

pub invariant_of-self-in-Err : goal.invariant_of-self-in-Err
invariant_of-self-in-Err c =
    let free = subst (λ (l : Locks). IsOpenTo l c.args.who.now c.args.area.now) (sym c.self.view_is) c.requires.open in
    let none = ap (λ (l : Locks). holder l c.args.area.now) c.self.view_is ∙ none_is (holder c.args.self.now c.args.area.now) (sym c.requires.held ∙ c.if-held.false) in
    rw (c.in-Err.ensures.err, c.remove.ensures.left, c.in_ok-put.ensures.ok, c.holding.ensures, c.holding-in-Err.ensures)
    (mended_index c.self.inside.holders c.self.inside.held c.self.invariant c.args.who.now c.args.area.now free tt none)

pub invariant_of-self-in_default : goal.invariant_of-self-in_default
invariant_of-self-in_default c =
    let free = subst (λ (l : Locks). IsOpenTo l c.args.who.now c.args.area.now) (sym c.self.view_is) c.requires.open in
    rw (c.in_default.ensures.ok, c.in_ok-put.ensures.ok, c.holding.ensures)
    (given_index c.self.inside.holders c.self.inside.held c.self.invariant c.args.who.now c.args.area.now free tt (rw (← c.in_default.ensures.ok) c.in_default.ensures.ascending))
