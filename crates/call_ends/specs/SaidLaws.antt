-- Laws: a line that is said after files that stay.
use Rattle.std.proofs.Common.{◌≡◌, inl, inr, ⊎_elim, ℕ, List, ◌++◌, take, refl, sym, ap, subst, ◌∙◌, arith}
use Rattle.kd_device.specs.Device.{Rose, SameFaults}
use Rattle.kd_device.specs.Twin.{Both, disk_of, half_state}
use Rattle.kd_device.specs.declared.half.Half.{Half}
use Rattle.kd_device.specs.declared.half.Half.TheVariants.{First}
use Rattle.kdcfile_double.specs.Opening.{SameFiles}
use Rattle.call_parts.specs.LeavingTwo.{FineTwo, FrameTwin, MayAttachTwo, SaidTwo, SaysPartTwo}

-- ---- a line after files that stay

module _ (a m b : Both) where
  pub files_then : SameFiles a m → SameFiles m b → SameFiles a b
  files_then h k = record {
    first_holds = k.first_holds ∙ h.first_holds;
    second_holds = k.second_holds ∙ h.second_holds;
    first_put = k.first_put ∙ h.first_put;
    second_put = k.second_put ∙ h.second_put;
  }

  pub said_then : (line : List ℕ) → SameFiles a m → m.sent ≡ a.sent → SaidTwo line m b → SaidTwo line a b
  said_then line files sent said = record { files = files_then files said.files; sent = said.sent ∙ ap (λ (s : List ℕ). s ++ line) sent }

  pub part_then : (line : List ℕ) → SameFiles a m → m.sent ≡ a.sent → SaysPartTwo line m b → SaysPartTwo line a b
  part_then line files sent part = record { files = files_then files part.files; front = (part.front.0, part.front.1 ∙ ap (λ (s : List ℕ). s ++ take part.front.0 line) sent) }

  pub names_then : (base : List ℕ) → MayAttachTwo base a m → ((half : Half) → (disk_of half b).names ≡ (disk_of half m).names) → MayAttachTwo base a b
  names_then base may same half =
      ⊎_elim (λ is. inl (same half ∙ is)) (λ is. inr (same half ∙ is)) (may half)

  -- no further call failed
  pub fine_then : FineTwo a m → ((half : Half) → SameFaults (half_state half m) (half_state half b)) → FineTwo a b
  fine_then h same = record {
    spared = (h.spared.0, (same h.spared.0).disk ∙ h.spared.1);
    line = ⊎_elim (λ none. inl ((same First).line ∙ none)) (λ rose. inr (rose.0, subst (λ (n : ℕ). Rose (disk_of rose.0 a).disk_faults n) (sym (same rose.0).disk) rose.1)) h.line;
  }

-- nothing was done
pub none_failed : (a : Both) → FineTwo a a
none_failed a = record { spared = (First, refl); line = inl refl }

pub same_frame : (a : Both) → FrameTwin a a
same_frame a = record { told = refl; first_faults = omega arith; second_faults = omega arith; line_faults = omega arith; moment = omega arith }
