use Rattle.std.proofs.Common.{refl, sym, ap, subst, ◌∙◌, true≢false}
use Rattle.laws_of_states.specs.Replay.{notes_on}
use Rattle.open_transaction.specs.declared.open.OpenTransaction.{OpenTransaction}
use Rattle.open_transaction.specs.Transactions.{transaction_of}
use Rattle.serial_audit.specs.Replaying.{Goes, Ran}
use Rattle.serial_audit.specs.declared.replay.Replay.{Replay}
use Rattle.serial_audit.proofs.Replayed.{none_ended, opened_goes, opened_none, opened_ran, other_ended, replayed_to, rooted, unopened}
use Rattle.serial_audit.proofs.transaction.replayed_with.Goals as goal

pub returns-then-not-has_read : goal.returns-then-not-has_read
returns-then-not-has_read c =
    let p : Replay = c.args.replay.now in
    λ whole determines atomic. unopened p c.in_ok-transaction.transaction (transaction_of c.deref.result.now) c.in_ok-transaction.ensures (ap (λ (w : OpenTransaction). transaction_of w) (sym c.deref.ensures)) (sym c.has_read.ensures ∙ c.if-not-has_read.true) determines

pub run-requires-clause-goes : goal.run-requires-clause-goes
run-requires-clause-goes c =
    let p : Replay = c.args.replay.now in
    subst (Goes p c.args.locks.now) (sym c.deref_mut.ensures.value) (opened_goes p c.in_ok-transaction.transaction c.args.locks.now c.requires.auditable c.requires.can c.in_ok-transaction.ensures c.requires.locks)

pub run-requires-clause-start : goal.run-requires-clause-start
run-requires-clause-start c =
    let p : Replay = c.args.replay.now in
    subst (λ (w : OpenTransaction). Ran p 0 (transaction_of w)) (c.deref.ensures ∙ sym c.deref_mut.ensures.value)
    (opened_ran p c.in_ok-transaction.transaction (transaction_of c.deref.result.now) c.in_ok-transaction.ensures (ap (λ (w : OpenTransaction). transaction_of w) (sym c.deref.ensures)) (sym c.has_read.ensures ∙ c.if-not-has_read.false))

pub run-requires-clause-none : goal.run-requires-clause-none
run-requires-clause-none c =
    let p : Replay = c.args.replay.now in
    ap (λ (w : OpenTransaction). w.statements) c.deref_mut.ensures.value ∙ opened_none p c.in_ok-transaction.transaction c.in_ok-transaction.ensures

pub end-requires-clause-rooted : goal.end-requires-clause-rooted
end-requires-clause-rooted c =
    let p : Replay = c.args.replay.now in
    rooted p (transaction_of c.run.new.transaction) (c.in_ok-run.ensures.ran c.if-not-branch.false) c.requires.can

pub returns-then-same_ending : goal.returns-then-same_ending
returns-then-same_ending c =
    let p : Replay = c.args.replay.now in
    replayed_to p (transaction_of c.run.new.transaction) (c.in_ok-run.ensures.ran c.if-not-branch.false) c.in_ok-ended.field-0 c.in-Some.ended c.in-Some.is c.in_ok-ended.ensures.some
    c.requires.can c.requires.auditable
    (λ area. ap (notes_on area) (sym (c.as_slice.ensures ∙ ap (λ (w : OpenTransaction). w.notes) c.deref-2.ensures)) ∙ c.if-not-same_notes.ensures.0 refl area ∙ ap (notes_on area) c.as_slice-2.ensures)
    (c.if-same_ending.ensures.0 refl)

pub returns-else-same_ending : goal.returns-else-same_ending
returns-else-same_ending c =
    let p : Replay = c.args.replay.now in
    let x = transaction_of c.run.new.transaction in
    λ whole determines is. other_ended p x (c.in_ok-run.ensures.ran c.if-not-branch.false) c.in_ok-ended.field-0 c.in-Some.ended c.in-Some.is c.in_ok-ended.ensures.some (λ same. true≢false (sym (c.if-same_ending.ensures.1 same))) whole is

pub returns-in-None : goal.returns-in-None
returns-in-None c =
    let p : Replay = c.args.replay.now in
    let x = transaction_of c.run.new.transaction in
    λ whole determines is. none_ended p x (c.in_ok-run.ensures.ran c.if-not-branch.false) c.in_ok-ended.field-0 c.in-None.is c.in_ok-ended.ensures.none determines
