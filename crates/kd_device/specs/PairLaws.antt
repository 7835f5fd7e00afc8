-- Laws: what a stop leaves of both halves, after one of them was in use.
use Rattle.std.specs.Prelude.{◌⊎◌, ◌≤◌, ℕ, List, IsTrue}
use Rattle.std.proofs.Common.{inl, inr, ⊎_elim, arith, sym, subst}
use Rattle.kd_device.specs.Device.{LeavesOnly}
use Rattle.kd_device.specs.declared.half.Half.{Half}
use Rattle.kd_device.specs.Twin.{Both, other, half_state, slice, half_leaves}
use Rattle.kd_device.specs.Apart.{IsSince}
use Rattle.kd_device.specs.HalfLaws.{slice_back, earlier_half}

module _ (half : Half) (place0 place : ℕ) (a b : Both) (la lb : ℕ → List ℕ → List ℕ → List ℕ → Type 0) (since : IsSince half place0 place a b la lb) (told : IsTrue a.told) where
  -- a stop now leaves no image of the other half that it could not leave before
  pub others_stay : ((t u : ℕ) (c d out : List ℕ) → IsTrue b.told → t ≤ u → lb u c d out → lb t c d out) → (d : List ℕ) → half_leaves (other half) lb b.moment d b.sent → half_leaves (other half) la a.moment d a.sent
  others_stay earlier d left =
      let told_b = subst IsTrue (sym since.apart.told) told in
      since.apart.others told d left.0 b.sent (earlier_half half lb (λ t u c d out. earlier t u c d out told_b) d a.moment b.moment left.0 b.sent since.apart.later (slice_back half lb d b.moment left.0 b.sent left.1))

  -- what a stop leaves of the one half, beside what it could leave of the other one before
  pub leaves_beside : (P : List ℕ → List ℕ → Type 0) → LeavesOnly (half_state half a) (half_state half b) (half_leaves half la) (half_leaves half lb) P → (d : List ℕ)
      → LeavesOnly (half_state half a) (half_state half b) (slice half d la) (slice half d lb) (λ c out. half_leaves (other half) la a.moment d a.sent × (half_leaves half la a.moment c out ⊎ P c out))
  leaves_beside P h d = record {
    later = h.later;
    only = λ t c out at left.
        ⊎_elim (λ l. inl l) (λ s. inr (since.apart.others told d c out s, h.only a.moment c out (omega arith) (d, s))) (since.apart.parted told d t c out at left);
  }
