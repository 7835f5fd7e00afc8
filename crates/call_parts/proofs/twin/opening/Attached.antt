-- The files of a BASE are attached: both stay as they are.
use Rattle.std.specs.Prelude.{◌≡◌, ℕ, List, [], IsTrue}
use Rattle.std.proofs.Common.{inl, inr, ⊎_elim, arith, ap, ◌∙◌}
use Rattle.kd_device.specs.Device.{Frame, Quiet}
use Rattle.kd_device.specs.Twin.{Both, Disk, disk_of, half_state, other, slice}
use Rattle.kd_device.specs.declared.half.Half.{Half}
use Rattle.kd_device.specs.declared.half.Half.TheVariants.{First, Second}
use Rattle.kdcfile_double.specs.MakingLaws.{RestsBoth}
use Rattle.kdcfile_double.specs.Twice.{FrameBoth, NoneRose}
use Rattle.call_parts.specs.LeavingTwo.{AttachesBoth, FrameTwin, MayAttachTwo}

-- ---- calls that change no byte

-- a call on one half, where the disk of the other one is the same
pub quiet_rests : (half : Half) (a b : Both) (la lb : ℕ → List ℕ → List ℕ → List ℕ → Type 0) → ((d : List ℕ) → Quiet (half_state half a) (half_state half b) (slice half d la) (slice half d lb)) → disk_of (other half) b ≡ disk_of (other half) a → RestsBoth a b la lb
quiet_rests First a b la lb quiet same = record {
  files = record { first_holds = (quiet []).holds; second_holds = ap (λ (x : Disk). x.holds) same; first_put = (quiet []).put; second_put = ap (λ (x : Disk). x.put) same };
  sent = (quiet []).sent;
  first_stop = λ c left. (left.0, (quiet left.0).stop c left.1);
  second_stop = λ d left. (left.0, (quiet d).stop left.0 left.1);
  leaves = record {
    later = (quiet []).time.later;
    only = λ t c d out le left. ⊎_elim (λ l. inl l) (λ now. let was = (quiet d).stop c now.1 in inr (now.0 ∙ (quiet []).sent, (d, was), (c, was))) ((quiet d).time.only t c out le left);
  };
}
quiet_rests Second a b la lb quiet same = record {
  files = record { first_holds = ap (λ (x : Disk). x.holds) same; second_holds = (quiet []).holds; first_put = ap (λ (x : Disk). x.put) same; second_put = (quiet []).put };
  sent = (quiet []).sent;
  first_stop = λ c left. (left.0, (quiet c).stop left.0 left.1);
  second_stop = λ d left. (left.0, (quiet left.0).stop d left.1);
  leaves = record {
    later = (quiet []).time.later;
    only = λ t c d out le left. ⊎_elim (λ l. inl l) (λ now. let was = (quiet c).stop d now.1 in inr (now.0 ∙ (quiet []).sent, (d, was), (c, was))) ((quiet c).time.only t d out le left);
  };
}

-- ---- what no call changes or lowers

-- where both disks are the same
pub reserved_frame : (a b : Both) → Frame (half_state First a) (half_state First b) → b.second ≡ a.second → FrameTwin a b
reserved_frame a b frame same = record {
  told = frame.told;
  first_faults = frame.disk_faults;
  second_faults = let e : b.second.disk_faults ≡ a.second.disk_faults = ap (λ (x : Disk). x.disk_faults) same in omega (arith, e);
  line_faults = frame.line_faults;
  moment = frame.moment;
}

pub reserved_none_rose : (a b : Both) → ((half : Half) → disk_of half b ≡ disk_of half a) → b.line_faults ≡ a.line_faults → NoneRose a b
reserved_none_rose a b same line = record { first_same = ap (λ (x : Disk). x.disk_faults) (same First); second_same = ap (λ (x : Disk). x.disk_faults) (same Second); line_same = line }

-- ---- names

module _ (a b e : Both) where
  -- calls that hand on none
  same_names : (half : Half) → IsTrue b.told → FrameBoth b e → (disk_of half e).names ≡ (disk_of half b).names
  same_names First told frame = frame.first_names told
  same_names Second told frame = frame.second_names told

  pub may_attach_then : (base : List ℕ) → IsTrue b.told → MayAttachTwo base a b → FrameBoth b e → MayAttachTwo base a e
  may_attach_then base told may frame half = ⊎_elim (λ none. inl (same_names half told frame ∙ none)) (λ attaches. inr (same_names half told frame ∙ attaches)) (may half)

  pub attaches_then : (base : List ℕ) → IsTrue b.told → AttachesBoth base a b → FrameBoth b e → AttachesBoth base a e
  attaches_then base told attaches frame half = same_names half told frame ∙ attaches half
