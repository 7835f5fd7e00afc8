-- What a call over one file promises of the first half, used as a device and given back.
use Rattle.std.proofs.Common.{◌≡◌, ℕ, List, subst}
use Rattle.kd_device.specs.declared.half.Half.{Half}
use Rattle.kd_device.specs.declared.half.Half.TheVariants.{First}
use Rattle.kd_device.specs.Twin.{Both, half_leaves, half_state}
use Rattle.kd_device.specs.Apart.{IsSince}
use Rattle.call_parts.specs.Asking.{Errand}
use Rattle.utm_cli.specs.Parts.{EndsOne}

-- ---- what became of a twin that is another's equal

module _ {T : Type 0} (both : T → Both) (leaves : T → ℕ → List ℕ → List ℕ → List ℕ → Type 0) (half : Half) (w x y z : T) (first : w ≡ y) (last : x ≡ z) where
  pub ends_at : (e : Errand) (base : List ℕ) (status : ℕ) → EndsOne e base (half_state half (both w)) (half_state half (both x)) (half_leaves half (leaves w)) (half_leaves half (leaves x)) status → EndsOne e base (half_state half (both y)) (half_state half (both z)) (half_leaves half (leaves y)) (half_leaves half (leaves z)) status
  ends_at e base status h =
      subst (λ (t : T). EndsOne e base (half_state half (both t)) (half_state half (both z)) (half_leaves half (leaves t)) (half_leaves half (leaves z)) status) first
      (subst (λ (t : T). EndsOne e base (half_state half (both w)) (half_state half (both t)) (half_leaves half (leaves w)) (half_leaves half (leaves t)) status) last h)

-- ---- a twin that is given back

module _ {T : Type 0} (both : T → Both) (leaves : T → ℕ → List ℕ → List ℕ → List ℕ → Type 0) {place0 place : ℕ} {x y : T} (since : IsSince First place0 place (both x) (both y) (leaves x) (leaves y)) where
  pub ends_given : (e : Errand) (base : List ℕ) (status : ℕ) → EndsOne e base (half_state First (both x)) (half_state First (both y)) (half_leaves First (leaves x)) (half_leaves First (leaves y)) status → (z : T) → y ≡ z → EndsOne e base (half_state First (both x)) (half_state First (both z)) (half_leaves First (leaves x)) (half_leaves First (leaves z)) status
  ends_given e base status h z is = subst (λ (t : T). EndsOne e base (half_state First (both x)) (half_state First (both t)) (half_leaves First (leaves x)) (half_leaves First (leaves t)) status) is h
