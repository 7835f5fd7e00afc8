-- The first half of a twin, or the second one, is used as a device, and given back.
use Rattle.std.proofs.Common.{◌≡◌, ℕ, List, refl, ap, subst}
use Rattle.std.specs.Prelude.{IsTrue}
use Rattle.kd_device.specs.Device.{Frame, SameFaults, SameNames}
use Rattle.kd_device.specs.Rest.{Rests}
use Rattle.kd_device.specs.declared.half.Half.{Half}
use Rattle.kd_device.specs.declared.half.Half.TheVariants.{First, Second}
use Rattle.kd_device.specs.Twin.{Both, Disk, half_leaves, half_state, other}
use Rattle.kd_device.specs.Apart.{EarlierAt, IsSince}
use Rattle.kdcfile_copies.specs.Beside.{SameDisk}
use Rattle.kdcfile_copies.proofs.kdcfile_halves.HalfUsed.{other_stays, rests_beside}
use Rattle.kdcfile_double.specs.CommitTwoLaws.{one_frame}
use Rattle.kdcfile_double.specs.MakingLaws.{RestsBoth, SentNowBoth, first_rests_both}
use Rattle.kdcfile_double.specs.Twice.{FrameBoth, NoneRose}

half_fine : (half : Half) (a b : Both) → SameFaults (half_state half a) (half_state half b) → SameDisk (other half) a b → NoneRose a b
half_fine First a b fine same = record { first_same = fine.disk; second_same = ap (λ (x : Disk). x.disk_faults) same; line_same = fine.line }
half_fine Second a b fine same = record { first_same = ap (λ (x : Disk). x.disk_faults) same; second_same = fine.disk; line_same = fine.line }

module _ {T : Type 0} (both : T → Both) (leaves : T → ℕ → List ℕ → List ℕ → List ℕ → Type 0) {place0 place : ℕ} {x y : T} (since : IsSince First place0 place (both x) (both y) (leaves x) (leaves y)) where
  -- nothing was changed
  pub used_rests : (IsTrue (both x).told → Rests (half_state First (both x)) (half_state First (both y)) (half_leaves First (leaves x)) (half_leaves First (leaves y))) → EarlierAt (both y) (leaves y) → (IsTrue (both x).told → SentNowBoth (both x) (leaves x))
      → (z : T) → y ≡ z → IsTrue (both x).told → RestsBoth (both x) (both z) (leaves x) (leaves z)
  used_rests rests earlier sent z is told =
      subst (λ (t : T). RestsBoth (both x) (both t) (leaves x) (leaves t)) is
      (first_rests_both (both x) (both y) (leaves x) (leaves y) (sent told) (rests told) (rests_beside both leaves since rests y refl told) since.apart.disk (other_stays both leaves since earlier y refl told))

module _ {T : Type 0} (both : T → Both) (leaves : T → ℕ → List ℕ → List ℕ → List ℕ → Type 0) {half : Half} {place0 place : ℕ} {x y : T} (since : IsSince half place0 place (both x) (both y) (leaves x) (leaves y)) where
  pub used_frame : Frame (half_state half (both x)) (half_state half (both y)) → SameNames (half_state half (both x)) (half_state half (both y)) → (IsTrue (both x).told → (both y).sent ≡ (both x).sent) → (z : T) → y ≡ z → FrameBoth (both x) (both z)
  used_frame frame names sent z is = subst (λ (t : T). FrameBoth (both x) (both t)) is (one_frame half (both x) (both y) frame names since.apart.disk sent)

  pub used_fine : SameFaults (half_state half (both x)) (half_state half (both y)) → (z : T) → y ≡ z → NoneRose (both x) (both z)
  used_fine fine z is = subst (λ (t : T). NoneRose (both x) (both t)) is (half_fine half (both x) (both y) fine since.apart.disk)
