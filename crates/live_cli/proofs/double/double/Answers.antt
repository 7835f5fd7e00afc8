use Rattle.std.proofs.Common.{⊎_elim, inl, inr, refl, subst, Err}
use Rattle.call_parts.specs.Asking.{gen_errand}
use Rattle.live_cli.specs.EndsTwo.{DoesLiveTwo}
use Rattle.live_cli.specs.declared.error.SessionError.{SessionError}
use Rattle.live_cli.specs.declared.error.SessionError.TheVariants.{Failed, Input, Memory}
use Rattle.live_cli.proofs.EndingTwo.{done_two, late_two, missing_two, refused_two}
use Rattle.live_cli.proofs.double.double.Goals as goal

pub returns-in-Ok : goal.returns-in-Ok
returns-in-Ok g c =
    done_two (gen_errand c.args.work) c.args.base.now c.args.alone (g.I.Typing.typing c.args.typing.now) (g.I.Typing.typing c.over_copies.new.typing) (g.T.Twin.both c.args.twin.now) (g.T.Twin.both c.over_copies.new.twin) (g.T.Twin.leaves c.args.twin.now) (g.T.Twin.leaves c.over_copies.new.twin) c.in-Ok.ensures

pub returns-in-Err-Failed : goal.returns-in-Err-Failed
returns-in-Err-Failed g c =
    late_two (gen_errand c.args.work) c.args.base.now c.args.alone (g.I.Typing.typing c.args.typing.now) (g.I.Typing.typing c.over_copies.new.typing) (g.T.Twin.both c.args.twin.now) (g.T.Twin.both c.over_copies.new.twin) (g.T.Twin.leaves c.args.twin.now) (g.T.Twin.leaves c.over_copies.new.twin) Failed 5 refl (subst (λ (x : SessionError). DoesLiveTwo (gen_errand c.args.work) c.args.base.now c.args.alone (Err x) (g.I.Typing.typing c.args.typing.now) (g.I.Typing.typing c.over_copies.new.typing) (g.T.Twin.both c.args.twin.now) (g.T.Twin.both c.over_copies.new.twin) (g.T.Twin.leaves c.args.twin.now) (g.T.Twin.leaves c.over_copies.new.twin)) c.in-Err-Failed.field-0-is c.in-Err-Failed.ensures) (λ is. inl refl) (λ not. absurd (not refl))

pub returns-in-Err-Input : goal.returns-in-Err-Input
returns-in-Err-Input g c =
    late_two (gen_errand c.args.work) c.args.base.now c.args.alone (g.I.Typing.typing c.args.typing.now) (g.I.Typing.typing c.over_copies.new.typing) (g.T.Twin.both c.args.twin.now) (g.T.Twin.both c.over_copies.new.twin) (g.T.Twin.leaves c.args.twin.now) (g.T.Twin.leaves c.over_copies.new.twin) Input 5 refl (subst (λ (x : SessionError). DoesLiveTwo (gen_errand c.args.work) c.args.base.now c.args.alone (Err x) (g.I.Typing.typing c.args.typing.now) (g.I.Typing.typing c.over_copies.new.typing) (g.T.Twin.both c.args.twin.now) (g.T.Twin.both c.over_copies.new.twin) (g.T.Twin.leaves c.args.twin.now) (g.T.Twin.leaves c.over_copies.new.twin)) c.in-Err-Input.field-0-is c.in-Err-Input.ensures) (λ is. inr refl) (λ not. absurd (not refl))

pub returns-in-Err-Memory : goal.returns-in-Err-Memory
returns-in-Err-Memory g c =
    late_two (gen_errand c.args.work) c.args.base.now c.args.alone (g.I.Typing.typing c.args.typing.now) (g.I.Typing.typing c.over_copies.new.typing) (g.T.Twin.both c.args.twin.now) (g.T.Twin.both c.over_copies.new.twin) (g.T.Twin.leaves c.args.twin.now) (g.T.Twin.leaves c.over_copies.new.twin) Memory 7 refl (subst (λ (x : SessionError). DoesLiveTwo (gen_errand c.args.work) c.args.base.now c.args.alone (Err x) (g.I.Typing.typing c.args.typing.now) (g.I.Typing.typing c.over_copies.new.typing) (g.T.Twin.both c.args.twin.now) (g.T.Twin.both c.over_copies.new.twin) (g.T.Twin.leaves c.args.twin.now) (g.T.Twin.leaves c.over_copies.new.twin)) c.in-Err-Memory.field-0-is c.in-Err-Memory.ensures) (λ is. absurd cc) (λ not is. ⊎_elim (λ failed. cc) (λ input. cc) is)

pub returns-in-Err-Missing : goal.returns-in-Err-Missing
returns-in-Err-Missing g c =
    missing_two (gen_errand c.args.work) c.args.base.now c.args.alone (g.I.Typing.typing c.args.typing.now) (g.I.Typing.typing c.over_copies.new.typing) (g.T.Twin.both c.args.twin.now) (g.T.Twin.both c.over_copies.new.twin) (g.T.Twin.both c.refuse_beside.new.twin) (g.T.Twin.leaves c.args.twin.now) (g.T.Twin.leaves c.over_copies.new.twin) (g.T.Twin.leaves c.refuse_beside.new.twin) c.refuse_beside.result.code c.in-Err-Missing.half
    (subst (λ (x : SessionError). DoesLiveTwo (gen_errand c.args.work) c.args.base.now c.args.alone (Err x) (g.I.Typing.typing c.args.typing.now) (g.I.Typing.typing c.over_copies.new.typing) (g.T.Twin.both c.args.twin.now) (g.T.Twin.both c.over_copies.new.twin) (g.T.Twin.leaves c.args.twin.now) (g.T.Twin.leaves c.over_copies.new.twin)) c.in-Err-Missing.field-0-is c.in-Err-Missing.ensures) c.refuse_beside.ensures

pub returns-in-Err-Refused : goal.returns-in-Err-Refused
returns-in-Err-Refused g c =
    refused_two (gen_errand c.args.work) c.args.base.now c.args.alone (g.I.Typing.typing c.args.typing.now) (g.I.Typing.typing c.over_copies.new.typing) (g.T.Twin.both c.args.twin.now) (g.T.Twin.both c.over_copies.new.twin) (g.T.Twin.both c.refuse_beside-in-Err-Refused.new.twin) (g.T.Twin.leaves c.args.twin.now) (g.T.Twin.leaves c.over_copies.new.twin) (g.T.Twin.leaves c.refuse_beside-in-Err-Refused.new.twin) c.refuse_beside-in-Err-Refused.result.code c.in-Err-Refused.why
    (subst (λ (x : SessionError). DoesLiveTwo (gen_errand c.args.work) c.args.base.now c.args.alone (Err x) (g.I.Typing.typing c.args.typing.now) (g.I.Typing.typing c.over_copies.new.typing) (g.T.Twin.both c.args.twin.now) (g.T.Twin.both c.over_copies.new.twin) (g.T.Twin.leaves c.args.twin.now) (g.T.Twin.leaves c.over_copies.new.twin)) c.in-Err-Refused.field-0-is c.in-Err-Refused.ensures) c.refuse_beside-in-Err-Refused.ensures
