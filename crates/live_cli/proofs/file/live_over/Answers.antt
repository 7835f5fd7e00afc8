use Rattle.std.proofs.Common.{◌≡◌, ◌∙◌, ◌++◌, ◌∷◌, [], ap, inl, inr, refl, subst, ℕ, List, Err}
use Rattle.call_parts.specs.Asking.{gen_errand}
use Rattle.call_parts.specs.Leaving.{MayAttach}
use Rattle.refusals.specs.declared.error.FileRefusal.TheVariants as why
use Rattle.live_run.specs.declared.error.LiveError.{LiveError}
use Rattle.live_cli.proofs.Ending.{done_ends, late_ends, nothing_ends, refused_ends}
use Rattle.live_cli.proofs.file.live_over.Goals as goal

pub returns-in_default : goal.returns-in_default
returns-in_default g c =
    nothing_ends (gen_errand c.args.work) c.args.base.now (g.I.Typing.typing c.args.typing.now) (g.I.Typing.typing c.args.typing.now) (record { told = refl; types = refl }) (g.D.Device.state c.args.device.now) (g.D.Device.leaves c.args.device.now)
    (λ image out left told. g.met.D.Device.sent_now c.args.device.now image out told left) (g.met.D.Device.holds_now c.args.device.now) refl

pub returns-in-Ok-live_file : goal.returns-in-Ok-live_file
returns-in-Ok-live_file g c =
    let a = g.D.Device.state c.args.device.now in
    let b = g.D.Device.state c.live_file.new.device in
    let name = c.deref.ensures.value ∙ c.in-Ok.ensures in
    done_ends (gen_errand c.args.work) c.args.base.now (g.I.Typing.typing c.args.typing.now) (g.I.Typing.typing c.live_file.new.typing) c.live_file.ensures.typing a (g.D.Device.leaves c.args.device.now) b (g.D.Device.leaves c.live_file.new.device) c.live_file.ensures.frame
    (λ told. subst (λ (n : List ℕ). MayAttach n a b) name (c.live_file.ensures.names told)) c.in-Ok-live_file.ensures.lived c.in-Ok-live_file.ensures.opened
    (λ told. subst (λ (n : List ℕ). b.names ≡ a.names ++ n ∷ []) name (c.in-Ok-live_file.ensures.named told)) (c.in-Ok-live_file.ensures.fine (λ is. absurd cc)) (c.in-Ok-live_file.ensures.heard (λ is. absurd cc))

pub returns-in-Err-Failed : goal.returns-in-Err-Failed
returns-in-Err-Failed g c =
    let a = g.D.Device.state c.args.device.now in
    let b = g.D.Device.state c.live_file.new.device in
    late_ends (gen_errand c.args.work) c.args.base.now (g.I.Typing.typing c.args.typing.now) (g.I.Typing.typing c.live_file.new.typing) c.live_file.ensures.typing a (g.D.Device.leaves c.args.device.now) b (g.D.Device.leaves c.live_file.new.device) c.live_file.ensures.frame
    (λ told. subst (λ (n : List ℕ). MayAttach n a b) (c.deref.ensures.value ∙ c.in-Ok.ensures) (c.live_file.ensures.names told)) _ 5 refl (λ is. inl c.in-Err-Failed.field-0-is) c.in-Err-Failed.ensures.lived c.live_file.ensures.still
    (λ is. inl (c.in-Err-Failed.ensures.failed (ap (λ (e : LiveError). Err e) c.in-Err-Failed.field-0-is))) (λ not. absurd (not refl))

pub returns-in-Err-Input : goal.returns-in-Err-Input
returns-in-Err-Input g c =
    let a = g.D.Device.state c.args.device.now in
    let b = g.D.Device.state c.live_file.new.device in
    late_ends (gen_errand c.args.work) c.args.base.now (g.I.Typing.typing c.args.typing.now) (g.I.Typing.typing c.live_file.new.typing) c.live_file.ensures.typing a (g.D.Device.leaves c.args.device.now) b (g.D.Device.leaves c.live_file.new.device) c.live_file.ensures.frame
    (λ told. subst (λ (n : List ℕ). MayAttach n a b) (c.deref.ensures.value ∙ c.in-Ok.ensures) (c.live_file.ensures.names told)) _ 5 refl (λ is. inr (c.in-Err-Input.ensures.input (ap (λ (e : LiveError). Err e) c.in-Err-Input.field-0-is))) c.in-Err-Input.ensures.lived c.live_file.ensures.still
    (λ is. inr (c.in-Err-Input.ensures.input (ap (λ (e : LiveError). Err e) c.in-Err-Input.field-0-is))) (λ not. absurd (not refl))

pub returns-in-Err-Memory : goal.returns-in-Err-Memory
returns-in-Err-Memory g c =
    let a = g.D.Device.state c.args.device.now in
    let b = g.D.Device.state c.live_file.new.device in
    late_ends (gen_errand c.args.work) c.args.base.now (g.I.Typing.typing c.args.typing.now) (g.I.Typing.typing c.live_file.new.typing) c.live_file.ensures.typing a (g.D.Device.leaves c.args.device.now) b (g.D.Device.leaves c.live_file.new.device) c.live_file.ensures.frame
    (λ told. subst (λ (n : List ℕ). MayAttach n a b) (c.deref.ensures.value ∙ c.in-Ok.ensures) (c.live_file.ensures.names told)) _ 7 refl (λ five. absurd cc) c.in-Err-Memory.ensures.lived c.live_file.ensures.still
    (λ is. absurd cc) (λ not. (c.in-Err-Memory.ensures.fine (λ is. absurd cc), c.in-Err-Memory.ensures.heard (λ is. absurd cc)))

pub returns-in-Err-Spent : goal.returns-in-Err-Spent
returns-in-Err-Spent g c =
    let a = g.D.Device.state c.args.device.now in
    let b = g.D.Device.state c.live_file.new.device in
    late_ends (gen_errand c.args.work) c.args.base.now (g.I.Typing.typing c.args.typing.now) (g.I.Typing.typing c.live_file.new.typing) c.live_file.ensures.typing a (g.D.Device.leaves c.args.device.now) b (g.D.Device.leaves c.live_file.new.device) c.live_file.ensures.frame
    (λ told. subst (λ (n : List ℕ). MayAttach n a b) (c.deref.ensures.value ∙ c.in-Ok.ensures) (c.live_file.ensures.names told)) _ 7 refl (λ five. absurd cc) c.in-Err-Spent.ensures.lived c.live_file.ensures.still
    (λ is. absurd cc) (λ not. (c.in-Err-Spent.ensures.fine (λ is. absurd cc), c.in-Err-Spent.ensures.heard (λ is. absurd cc)))

pub returns-in-Err-NotKdcfile : goal.returns-in-Err-NotKdcfile
returns-in-Err-NotKdcfile g c =
    let a = g.D.Device.state c.args.device.now in
    let d = g.D.Device.state c.live_file.new.device in
    let is = ap (λ (e : LiveError). Err e) c.in-Err-NotKdcfile.field-0-is in
    let sent = c.refuse_file in
    refused_ends (gen_errand c.args.work) c.args.base.now (g.I.Typing.typing c.args.typing.now) (g.I.Typing.typing c.live_file.new.typing) c.live_file.ensures.typing a (g.D.Device.leaves c.args.device.now) d (g.D.Device.leaves c.live_file.new.device) c.live_file.ensures.frame
    (λ told. subst (λ (n : List ℕ). MayAttach n a d) (c.deref.ensures.value ∙ c.in-Ok.ensures) (c.live_file.ensures.names told)) why.NotKdcfile refl (λ told. inl (refl, c.in-Err-NotKdcfile.ensures.refused is told)) c.live_file.ensures.still
    (c.in-Err-NotKdcfile.ensures.fine (λ no. absurd cc)) (c.in-Err-NotKdcfile.ensures.heard (λ no. absurd cc))
    (g.D.Device.state sent.new.device) (g.D.Device.leaves sent.new.device) sent.result.code sent.ensures.code sent.ensures.said sent.ensures.part sent.ensures.failed sent.ensures.fine sent.ensures.frame sent.ensures.names

pub returns : goal.returns
returns g c =
    let a = g.D.Device.state c.args.device.now in
    let d = g.D.Device.state c.live_file.new.device in
    let is = ap (λ (e : LiveError). Err e) c.in-Err-OtherGeneration.field-0-is in
    let sent = c.refuse_file-in-Err-OtherGeneration in
    refused_ends (gen_errand c.args.work) c.args.base.now (g.I.Typing.typing c.args.typing.now) (g.I.Typing.typing c.live_file.new.typing) c.live_file.ensures.typing a (g.D.Device.leaves c.args.device.now) d (g.D.Device.leaves c.live_file.new.device) c.live_file.ensures.frame
    (λ told. subst (λ (n : List ℕ). MayAttach n a d) (c.deref.ensures.value ∙ c.in-Ok.ensures) (c.live_file.ensures.names told)) (why.OtherGeneration c.in-Err-OtherGeneration.stored) refl (λ told. inr (c.in-Err-OtherGeneration.stored, refl, c.in-Err-OtherGeneration.ensures.other c.in-Err-OtherGeneration.stored is told)) c.live_file.ensures.still
    (c.in-Err-OtherGeneration.ensures.fine (λ no. absurd cc)) (c.in-Err-OtherGeneration.ensures.heard (λ no. absurd cc))
    (g.D.Device.state sent.new.device) (g.D.Device.leaves sent.new.device) sent.result.code sent.ensures.code sent.ensures.said sent.ensures.part sent.ensures.failed sent.ensures.fine sent.ensures.frame sent.ensures.names
