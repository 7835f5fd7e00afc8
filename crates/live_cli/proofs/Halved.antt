-- What typed lines over one file promise of the first half of a twin, used as a device and given back.
use Rattle.std.proofs.Common.{◌≡◌, ℕ, List, subst}
use Rattle.kd_device.specs.declared.half.Half.{Half}
use Rattle.kd_device.specs.Twin.{Both, half_leaves, half_state}
use Rattle.call_parts.specs.Asking.{Errand}
use Rattle.live_run.specs.Typing.{TypingState}
use Rattle.live_cli.specs.Ends.{EndsLive}

-- of a twin that is another's equal
module _ {T : Type 0} (both : T → Both) (leaves : T → ℕ → List ℕ → List ℕ → List ℕ → Type 0) (half : Half) (w x y z : T) (first : w ≡ y) (last : x ≡ z) (e : Errand) (base : List ℕ) (i j : TypingState) (status : ℕ) where
  pub ends_at : EndsLive e base i j (half_state half (both w)) (half_state half (both x)) (half_leaves half (leaves w)) (half_leaves half (leaves x)) status → EndsLive e base i j (half_state half (both y)) (half_state half (both z)) (half_leaves half (leaves y)) (half_leaves half (leaves z)) status
  ends_at h =
      subst (λ (t : T). EndsLive e base i j (half_state half (both t)) (half_state half (both z)) (half_leaves half (leaves t)) (half_leaves half (leaves z)) status) first
      (subst (λ (t : T). EndsLive e base i j (half_state half (both w)) (half_state half (both t)) (half_leaves half (leaves w)) (half_leaves half (leaves t)) status) last h)

-- of one that is given back
pub ends_given : {T : Type 0} (both : T → Both) (leaves : T → ℕ → List ℕ → List ℕ → List ℕ → Type 0) (half : Half) {x y : T} (e : Errand) (base : List ℕ) (i j : TypingState) (status : ℕ) → EndsLive e base i j (half_state half (both x)) (half_state half (both y)) (half_leaves half (leaves x)) (half_leaves half (leaves y)) status → (z : T) → y ≡ z
    → EndsLive e base i j (half_state half (both x)) (half_state half (both z)) (half_leaves half (leaves x)) (half_leaves half (leaves z)) status
ends_given {T} both leaves half {x} e base i j status h z is = subst (λ (t : T). EndsLive e base i j (half_state half (both x)) (half_state half (both t)) (half_leaves half (leaves x)) (half_leaves half (leaves t)) status) is h
