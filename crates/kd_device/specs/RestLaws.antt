-- Laws: calls after which all stands as it did, and a stop leaves no more than it might have left before.
use Rattle.std.specs.Prelude.{ℕ, List}
use Rattle.std.proofs.Common.{◌∙◌}
use Rattle.kd_device.specs.Device.{State}
use Rattle.kd_device.specs.TimeLaws.{leaves_weaker, leaves_then}
use Rattle.kd_device.specs.Rest.{Before, Rests}

module _ (a b : State) (la lb : ℕ → List ℕ → List ℕ → Type 0) where
  pub rests_then : (d : State) (ld : ℕ → List ℕ → List ℕ → Type 0) → Rests a b la lb → Rests b d lb ld → Rests a d la ld
  rests_then d ld h k = record {
    holds = k.holds ∙ h.holds;
    sent = k.sent ∙ h.sent;
    put = k.put ∙ h.put;
    stop = λ c left. h.stop c (k.stop c left);
    leaves = leaves_then a b la lb d ld (Before a la) h.leaves (leaves_weaker b d lb ld (Before b lb) (Before a la) k.leaves (λ c out now. (now.0 ∙ h.sent, h.stop c now.1)));
  }
