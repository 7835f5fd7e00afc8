use Rattle.std.proofs.Common.{◌≡◌, ℕ, List, ◌++◌, take, sym, ap, ◌∙◌}
use Rattle.std.specs.Prelude.{Result}
use Rattle.std.proofs.lemmas.List.{append-nil}
use Rattle.kd_device.specs.Device.{State, Quiet, Emits, Now, Sending}
use Rattle.kd_device.specs.TimeLaws.{leaves_then, leaves_weaker, told_after}
use Rattle.device_acts.specs.Said.{LeavesFront, LeavesSameFile, SaidPart}
use Rattle.device_acts.proofs.saying.say.Goals as goal

module _ (line : List ℕ) (a m : State) (la lm : ℕ → List ℕ → List ℕ → Type 0) (quiet : Quiet a m la lm) where
  -- nothing was sent yet
  none_said : SaidPart line a m
  none_said = record { disk = record { holds = quiet.holds; put = quiet.put }; sent = (0, quiet.sent ∙ sym (append-nil a.sent)) }

  none_left : LeavesFront line a m la lm
  none_left =
      leaves_weaker a m la lm (Now m lm) (λ c out. la a.moment c a.sent × ((n : ℕ) × (out ≡ a.sent ++ take n line))) quiet.time
      (λ c out now. (quiet.stop c now.1, (0, now.0 ∙ quiet.sent ∙ sym (append-nil a.sent))))

  module _ {E : Type 0} (r : Result Unit E) (b : State) (lb : ℕ → List ℕ → List ℕ → Type 0) (emits : Emits line m b lm lb r) where
    -- and then a front of the line
    front_said : SaidPart line a b
    front_said = record {
      disk = record { holds = emits.holds ∙ quiet.holds; put = emits.put ∙ quiet.put };
      sent = (emits.part.0, emits.part.1 ∙ ap (λ (s : List ℕ). s ++ take emits.part.0 line) quiet.sent);
    }

    front_stop : LeavesSameFile a b la lb
    front_stop c left = quiet.stop c (emits.stop c left)

    front_left : LeavesFront line a b la lb
    front_left =
        leaves_then a m la lm b lb (λ c out. la a.moment c a.sent × ((n : ℕ) × (out ≡ a.sent ++ take n line))) none_left
        (leaves_weaker m b lm lb (Sending line m lm) (λ c out. la a.moment c a.sent × ((n : ℕ) × (out ≡ a.sent ++ take n line))) emits.time
        (λ c out sends. (quiet.stop c sends.image, (sends.prefix.0, sends.prefix.1 ∙ ap (λ (s : List ℕ). s ++ take sends.prefix.0 line) quiet.sent))))

pub returns-in_err-reserve-clause-part : goal.returns-in_err-reserve-clause-part
returns-in_err-reserve-clause-part g c = λ told. none_said c.args.piece.now _ _ _ _ (c.reserve.ensures.content told)

pub returns-in_err-reserve-clause-any_moment : goal.returns-in_err-reserve-clause-any_moment
returns-in_err-reserve-clause-any_moment g c = λ told. none_left c.args.piece.now _ _ _ _ (c.reserve.ensures.content told)

pub returns-in_err-emit-clause-part : goal.returns-in_err-emit-clause-part
returns-in_err-emit-clause-part g c = λ told. front_said c.args.piece.now _ _ _ _ (c.reserve.ensures.content told) _ _ _ (c.emit.ensures.content (told_after _ _ c.reserve.ensures.frame told))

pub returns-in_err-emit-clause-stop : goal.returns-in_err-emit-clause-stop
returns-in_err-emit-clause-stop g c = λ told. front_stop c.args.piece.now _ _ _ _ (c.reserve.ensures.content told) _ _ _ (c.emit.ensures.content (told_after _ _ c.reserve.ensures.frame told))

pub returns-in_err-emit-clause-any_moment : goal.returns-in_err-emit-clause-any_moment
returns-in_err-emit-clause-any_moment g c = λ told. front_left c.args.piece.now _ _ _ _ (c.reserve.ensures.content told) _ _ _ (c.emit.ensures.content (told_after _ _ c.reserve.ensures.frame told))

pub returns-clause-part : goal.returns-clause-part
returns-clause-part g c = λ told. front_said c.args.piece.now _ _ _ _ (c.reserve.ensures.content told) _ _ _ (c.emit.ensures.content (told_after _ _ c.reserve.ensures.frame told))

pub returns-clause-stop : goal.returns-clause-stop
returns-clause-stop g c = λ told. front_stop c.args.piece.now _ _ _ _ (c.reserve.ensures.content told) _ _ _ (c.emit.ensures.content (told_after _ _ c.reserve.ensures.frame told))

pub returns-clause-any_moment : goal.returns-clause-any_moment
returns-clause-any_moment g c = λ told. front_left c.args.piece.now _ _ _ _ (c.reserve.ensures.content told) _ _ _ (c.emit.ensures.content (told_after _ _ c.reserve.ensures.frame told))
