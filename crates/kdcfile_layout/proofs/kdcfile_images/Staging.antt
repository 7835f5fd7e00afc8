-- The writes of a commit: the pages, and the root after them.
use Rattle.std.proofs.Common.{inl, ℕ, ◌+◌, ◌≤◌, not, List, [], ◌∷◌, ◌++◌, length, refl, ap, ◌∙◌, arith}
use Rattle.std.proofs.lemmas.List.Sums.{sum_by-append, sum_by-cons}
use Rattle.std.proofs.lemmas.List.Elements.{All-nil, All-cons, All-append}
use Rattle.kd_device.specs.Device.{written}
use Rattle.kdcfile_layout.specs.declared.page.PageWrite.{PageWrite}
use Rattle.kdcfile_layout.specs.Layout.{root_place}
use Rattle.kdcfile_layout.specs.Crash.{IsFree}
use Rattle.kdcfile_layout.specs.Joined.{AreJoined}
use Rattle.kdcfile_layout.specs.WritesLaws.{written_joined}
use Rattle.kdcfile_layout.specs.Opened.{Opened}
use Rattle.kdcfile_layout.specs.declared.kdcfile_images.image.Root.{Root}
use Rattle.kdcfile_layout.specs.Commit.{AreStaged, spelled_root}

abbrev pub root_write : Opened → Root → PageWrite
root_write i root = record { at = root_place (not i.second); bytes = spelled_root root }

module _ (i : Opened) (pages : List PageWrite) (root : Root) (joined : List PageWrite) (are : AreJoined pages joined) where
  pub with_root : AreStaged i pages root (joined ++ root_write i root ∷ [])
  with_root = record {
    file = λ h. written_joined h joined (root_write i root ∷ []) ∙ ap (λ (c : List ℕ). written c (root_place (not i.second)) (spelled_root root)) (are.holds h);
    total =
        omega (arith, sum_by-append (λ (w : PageWrite). length w.bytes) joined (root_write i root ∷ []), sum_by-cons (λ (w : PageWrite). length w.bytes) (root_write i root) [], are.total);
    below = λ end all inside.
        let P : PageWrite → Type 0 = λ w. w.at + length w.bytes ≤ end in
        All-append P joined (root_write i root ∷ []) (are.below end all) (All-cons P (root_write i root) [] inside (All-nil P));
    free = λ l some all fits.
        let P : PageWrite → Type 0 = λ w. IsFree i.blksize i.second l w in
        All-append P joined (root_write i root ∷ []) (are.free i.blksize i.second l some all) (All-cons P (root_write i root) [] (inl (refl, fits)) (All-nil P));
  }
