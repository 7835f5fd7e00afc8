use Rattle.std.proofs.Common.{ℕ, List, sym, ap, ◌∙◌, ◌+◌, ◌-◌, ◌∷◌, [], drop, arith}
use Rattle.kd_base.specs.Tools.{onto}
use Rattle.kdcfile_layout.specs.Reading.{numbers_of}
use Rattle.kdcfile_layout.specs.ReadRootsLaws.{a_number}
use Rattle.kdcfile_layout.proofs.kdcfile_read.SoFar.{at_first, ended, one_more, all_read}
use Rattle.kdcfile_layout.proofs.kdcfile_read.Turns.{no_numbers, no_number}
use Rattle.kdcfile_layout.proofs.kdcfile_read.root.numbers_of.Goals as goal

pub loop-init : goal.loop-init
loop-init c = at_first numbers_of c.new-numbers.result c.args.count c.args.bytes.now c.new-numbers.ensures

pub returns-then-left-lt4-clause-value : goal.returns-then-left-lt4-clause-value
returns-then-left-lt4-clause-value c =
    ended numbers_of c.loop.numbers c.args.count c.loop.counter c.loop.left.now (numbers_of c.args.count c.args.bytes.now) c.loop.invariant c.loop-test.true
    (no_number (c.args.count - (c.loop.counter + 1)) c.loop.left.now (omega (arith, c.if-left-lt4.true)))

pub loop-preserved : goal.loop-preserved
loop-preserved c =
    one_more numbers_of c.loop.numbers c.args.count c.loop.counter c.loop.left.now (numbers_of c.args.count c.args.bytes.now) c.loop.invariant c.loop-test.true c.u32_in.result c.split_at.result.1.now
    (a_number (c.args.count - (c.loop.counter + 1)) c.loop.left.now (omega (arith, c.if-left-lt4.false))
    ∙ ap (λ (m : ℕ). onto (m ∷ []) (numbers_of (c.args.count - (c.loop.counter + 1)) (drop 4 c.loop.left.now))) (sym c.u32_in.ensures)
    ∙ ap (λ (l : List ℕ). onto (c.u32_in.result ∷ []) (numbers_of (c.args.count - (c.loop.counter + 1)) l)) (sym c.split_at.ensures.back))
    c.push.new.self c.in_ok-push.ensures.ok

pub returns-clause-value : goal.returns-clause-value
returns-clause-value c = all_read numbers_of c.loop.numbers c.args.count c.loop.counter c.loop.left.now (numbers_of c.args.count c.args.bytes.now) c.loop.invariant (omega (arith, c.loop-test.false)) (no_numbers c.loop.left.now)
