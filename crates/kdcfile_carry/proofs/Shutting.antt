-- The second file is shut beside the first one, which has what was found.
use Rattle.std.specs.Prelude.{◌≡◌, ◌⊎◌, ◌≤◌, ℕ, Bool, true, false, List, Option, Some, None}
use Rattle.std.proofs.Common.{inl, inr, ⊎_elim, refl, sym, ap, subst}
use Rattle.kd_device.specs.Twin.{Both, Disk}
use Rattle.kd_device.specs.declared.half.Half.TheVariants.{First, Second}
use Rattle.kdcfile_layout.specs.Gates.{IsShut}
use Rattle.kdcfile_copies.specs.Beside.{SameDisk}
use Rattle.kdcfile_copies.specs.Copies.{AtMost, IsNoCopy, with_sequence}
use Rattle.kdcfile_copies.specs.Mending.{LeavesHalf}
use Rattle.kdcfile_copies.specs.MendingLaws.{shut_means_nothing}
use Rattle.kdcfile_double.specs.ChosenLaws.{below_at_most, none_is_below}
use Rattle.kdcfile_double.specs.Mended.{BothRest}
use Rattle.carry_steps.specs.Deciding.{shuts_second}
use Rattle.kdcfile_carry.specs.declared.finding.Kept.{Kept}
use Rattle.kdcfile_carry.specs.Doing.{IsOnFirst, IsReady}
use Rattle.kdcfile_carry.specs.Files.{AreFiles, AreFilesBy}
use Rattle.kdcfile_carry.specs.Keeping.{IsSource, files_in}
use Rattle.kdcfile_carry.specs.KeepingLaws.{source_files}
use Rattle.kdcfile_carry.specs.Leaving.{StaysWithin}
use Rattle.kdcfile_carry.specs.LeavingLaws.{HalfHas, copying_stays, stays_weaker}
use Rattle.kdcfile_carry.proofs.Changing.{ready}

shut_is_no_copy : (d : List ℕ) → IsShut d → IsNoCopy d
shut_is_no_copy d shut i n x copy = shut_means_nothing d shut i (with_sequence n x) copy.content

module _ (k : Kept) (c d e : List ℕ) (is : IsOnFirst k c d) (left : (e ≡ d) ⊎ IsShut e) where
  source_by : (n : ℕ) → k.sequence ≡ Some n → IsSource First k.file.store.identity n k.tables c e
  source_by n numbered =
      let was = is.source n numbered in
      record {
        tables = was.tables;
        copy = was.copy;
        behind = ⊎_elim (λ same. subst (λ (l : List ℕ). AtMost n l) (sym same) was.behind) (λ shut. below_at_most n e (none_is_below n e (shut_is_no_copy e shut))) left;
        none = was.none;
      }

  files_by : (s : Option ℕ) → k.sequence ≡ s → AreFilesBy k.file.store.identity k.tables s c d → AreFilesBy k.file.store.identity k.tables s c e
  files_by None numbered h = (h.0, ⊎_elim (λ same. subst IsNoCopy (sym same) h.1) (λ shut. shut_is_no_copy e shut) left)
  files_by (Some n) numbered h = source_files First k.file.store.identity n k.tables c e (source_by n numbered)

  pub shut_beside : IsOnFirst k c e
  shut_beside = record { files = files_by k.sequence refl is.files; has = is.has; source = source_by }

-- the first file has it, and the second one may stay
pub may_stay : (k : Kept) (c d : List ℕ) (double : Bool) → IsOnFirst k c d → (double ≡ false → (n : ℕ) → k.sequence ≡ Some n → IsNoCopy d) → IsReady k double c d
may_stay k c d double is none = ready k c d is.files is.source is.has double none

-- the second file is shut
module _ (k : Kept) (a b : Both) (la lb : ℕ → List ℕ → List ℕ → List ℕ → Type 0) (is : IsOnFirst k a.first.holds a.second.holds) (rest : BothRest a la) where
  abbrev Left : List ℕ → Type 0
  Left d = (d ≡ a.second.holds) ⊎ IsShut d

  as_files : (c d : List ℕ) → HalfHas Second a Left c d → AreFiles (files_in k) c d
  as_files c d h =
      let same : c ≡ a.first.holds = h.0 in
      subst (λ (l : List ℕ). AreFiles (files_in k) l d) (sym same) (shut_beside k a.first.holds a.second.holds d is h.1).files

  pub shut_stays : ((c d out : List ℕ) → la a.moment c d out → out ≡ a.sent) → b.sent ≡ a.sent → ((t u : ℕ) (c d out : List ℕ) → t ≤ u → lb u c d out → lb t c d out)
      → LeavesHalf Second a.first.holds Left a b la lb → StaysWithin (AreFiles (files_in k)) a b la lb
  shut_stays sent_now same earlier left = stays_weaker a b la lb (HalfHas Second a Left) (AreFiles (files_in k)) as_files (copying_stays Second a b la lb rest sent_now Left (inl refl) same earlier left)

  pub shut_ready : (double : Bool) → IsShut b.second.holds → SameDisk First a b → IsReady k double b.first.holds b.second.holds
  shut_ready double shut first =
      let same : b.first.holds ≡ a.first.holds = ap (λ (x : Disk). x.holds) first in
      subst (λ (l : List ℕ). IsReady k double l b.second.holds) (sym same)
      (may_stay k a.first.holds b.second.holds double (shut_beside k a.first.holds a.second.holds b.second.holds is (inr shut)) (λ one n numbered. shut_is_no_copy b.second.holds shut))

-- whether it is shut
pub not_shut : (double : Bool) (s : Option ℕ) → shuts_second double s ≡ false → double ≡ false → (n : ℕ) → s ≡ Some n → ⊥
not_shut true s stays one n is = absurd cc
not_shut false None stays one n is = absurd cc
not_shut false (Some m) stays one n is = absurd cc

pub is_shut : (double : Bool) (s : Option ℕ) → shuts_second double s ≡ true → (double ≡ false) × ((n : ℕ) × (s ≡ Some n))
is_shut double None shuts = absurd cc
is_shut true (Some n) shuts = absurd cc
is_shut false (Some n) shuts = (refl, (n, refl))
