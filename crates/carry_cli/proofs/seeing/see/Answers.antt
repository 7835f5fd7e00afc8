use Rattle.std.proofs.Common.{List, ℕ, sym, subst}
use Rattle.std.specs.Prelude.{IsTrue}
use Rattle.kdcfile_copies.specs.Copies.{IsNoCopy}
use Rattle.kdcfile_copies.specs.Finding.{IsAnswer}
use Rattle.kdcfile_copies.specs.declared.answer.Found.{Found}
use Rattle.carry_cli.proofs.seeing.see.Goals as goal

pub see_other-requires-clause-none : goal.see_other-requires-clause-none
see_other-requires-clause-none g c = λ told_b.
    let a = g.D.Device.state c.args.device.now in
    let told : IsTrue a.told = subst IsTrue c.load_copy.ensures.frame.told told_b in
    let answer = subst (λ (f : Found). IsAnswer f a.holds) c.in-NoCopy.is (c.in_ok-load_copy.ensures.answer told) in
    subst (λ (l : List ℕ). IsNoCopy l) (sym (c.load_copy.ensures.rests told).holds) answer.1
