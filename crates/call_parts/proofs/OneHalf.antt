-- The first half of a twin is used as a device, and given back.
use Rattle.std.proofs.Common.{◌≡◌, ℕ, List, ap, subst, arith}
use Rattle.kd_device.specs.Device.{Frame, SameFaults}
use Rattle.kd_device.specs.declared.half.Half.{Half}
use Rattle.kd_device.specs.declared.half.Half.TheVariants.{First, Second}
use Rattle.kd_device.specs.Twin.{Both, Disk, disk_of, half_state}
use Rattle.kd_device.specs.Apart.{IsSince}
use Rattle.device_acts.specs.Said.{SameDisk}
use Rattle.kdcfile_double.specs.Opening.{SameFiles}
use Rattle.call_parts.specs.LeavingTwo.{FrameTwin}
use Rattle.call_parts.specs.Beside.{SendsRefusal, SendsRefusalTwo}

-- ---- the second disk is the same

module _ (a b : Both) (same : disk_of Second b ≡ disk_of Second a) where
  pub frame_two : Frame (half_state First a) (half_state First b) → FrameTwin a b
  frame_two h = record {
    told = h.told;
    first_faults = h.disk_faults;
    second_faults = omega (arith, ap (λ (d : Disk). d.disk_faults) same);
    line_faults = h.line_faults;
    moment = h.moment;
  }

  pub files_two : SameDisk (half_state First a) (half_state First b) → SameFiles a b
  files_two h = record { first_holds = h.holds; second_holds = ap (λ (d : Disk). d.holds) same; first_put = h.put; second_put = ap (λ (d : Disk). d.put) same }

  pub fine_two : SameFaults (half_state First a) (half_state First b) → (half : Half) → SameFaults (half_state half a) (half_state half b)
  fine_two h First = h
  fine_two h Second = record { disk = ap (λ (d : Disk). d.disk_faults) same; line = h.line }

  pub names_two : (disk_of First b).names ≡ (disk_of First a).names → (half : Half) → (disk_of half b).names ≡ (disk_of half a).names
  names_two h First = h
  names_two h Second = ap (λ (d : Disk). d.names) same

  refusal_two : (status : ℕ) (line : List ℕ) (ended : ℕ) → SendsRefusal status line (half_state First a) (half_state First b) ended → SendsRefusalTwo status line a b ended
  refusal_two status line ended h = record {
    code = h.code;
    said = λ is told. let s = h.said is told in record { files = files_two s.disk; sent = s.sent };
    part = λ told. let s = h.part told in record { files = files_two s.disk; front = s.sent };
    failed = h.failed;
    fine = λ not. fine_two (h.fine not);
    frame = frame_two h.frame;
    names = names_two h.names;
    second = same;
  }

-- the refusal as one over the first half
pub first_refusal : (a b : Both) (status : ℕ) (line : List ℕ) (ended : ℕ) → SendsRefusalTwo status line a b ended → SendsRefusal status line (half_state First a) (half_state First b) ended
first_refusal a b status line ended h = record {
  code = h.code;
  said = λ is told. let s = h.said is told in record { disk = record { holds = s.files.first_holds; put = s.files.first_put }; sent = s.sent };
  part = λ told. let s = h.part told in record { disk = record { holds = s.files.first_holds; put = s.files.first_put }; sent = s.front };
  failed = h.failed;
  fine = λ not. h.fine not First;
  frame = record { told = h.frame.told; disk_faults = h.frame.first_faults; line_faults = h.frame.line_faults; moment = h.frame.moment };
  names = h.names First;
}

-- ---- a twin that is given back

module _ {T : Type 0} (both : T → Both) (leaves : T → ℕ → List ℕ → List ℕ → List ℕ → Type 0) {place0 place : ℕ} {x y : T} (since : IsSince First place0 place (both x) (both y) (leaves x) (leaves y)) where
  pub second_stays : (z : T) → y ≡ z → disk_of Second (both z) ≡ disk_of Second (both x)
  second_stays z is = subst (λ (t : T). disk_of Second (both t) ≡ disk_of Second (both x)) is since.apart.disk

  pub frame_given : Frame (half_state First (both x)) (half_state First (both y)) → (z : T) → y ≡ z → FrameTwin (both x) (both z)
  frame_given h z is = subst (λ (t : T). FrameTwin (both x) (both t)) is (frame_two (both x) (both y) since.apart.disk h)

  pub refusal_given : (status : ℕ) (line : List ℕ) (ended : ℕ) → SendsRefusal status line (half_state First (both x)) (half_state First (both y)) ended → (z : T) → y ≡ z → SendsRefusalTwo status line (both x) (both z) ended
  refusal_given status line ended h z is = subst (λ (t : T). SendsRefusalTwo status line (both x) (both t) ended) is (refusal_two (both x) (both y) since.apart.disk status line ended h)
