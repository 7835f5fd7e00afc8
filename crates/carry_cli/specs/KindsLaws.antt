-- Laws: what a file is.
use Rattle.std.specs.Prelude.{◌≡◌, ℕ, Bool, true, false, List, [], length, get_or}
use Rattle.std.proofs.Common.{inl, inr, refl, sym, ap, arith, ◌∙◌}
use Rattle.kd_records.specs.Identity.{Identity}
use Rattle.kd_records.specs.declared.content.Content.{Content}
use Rattle.kdcfile_copies.specs.Copies.{with_sequence}
use Rattle.kdcfile_copies.specs.CopiesLaws.{one_meaning_of_copies, others_are_no_copies}
use Rattle.kdcfile_copies.specs.MendingLaws.{shut_means_nothing}
use Rattle.kdcfile_layout.specs.Layout.{IsNoImage}
use Rattle.kdcfile_layout.specs.ReadFilesLaws.{one_meaning}
use Rattle.carry_cli.specs.Kinds.{FilesHaveOneState, IsForeign, IsKind, IsUnfinished, made_once, made_twice}
use Rattle.carry_cli.specs.declared.kinds.Kind.{Kind}
use Rattle.carry_cli.specs.declared.kinds.Kind.TheVariants as kind
use Rattle.carry_cli.specs.declared.kinds.Making.{Making}

pub foreign_filled : (bytes : List ℕ) → IsForeign bytes → bytes ≡ [] → ⊥
foreign_filled bytes foreign is = foreign.0 (ap (λ (l : List ℕ). get_or l 0 0) is)

pub unfinished_means_nothing : (bytes : List ℕ) → IsUnfinished bytes → IsNoImage bytes
unfinished_means_nothing bytes h = shut_means_nothing bytes (inr (λ (whole : get_or bytes 0 0 ≡ 75). omega (arith, h.1, whole)))

nothing_means_nothing : (bytes : List ℕ) → bytes ≡ [] → IsNoImage bytes
nothing_means_nothing bytes is = shut_means_nothing bytes (inl (omega (arith, ap (λ (l : List ℕ). length l) is)))

-- a file that is made with something, and its copy
same_once : (i j : Identity) (x y : Content) → i ≡ j → x ≡ y → made_once i x ≡ made_once j y
same_once i j x y same alike = ap (λ (k : Identity). made_once k x) same ∙ ap (λ (z : Content). made_once j z) alike

same_twice : (i j : Identity) (x y : Content) → i ≡ j → x ≡ y → made_twice i x ≡ made_twice j y
same_twice i j x y same alike = ap (λ (k : Identity). made_twice k x) same ∙ ap (λ (z : Content). made_twice j z) alike

same_copy : (n m : ℕ) (p q : Making) → n ≡ m → p ≡ q → kind.Copy n p ≡ kind.Copy m q
same_copy n m p q same alike = ap (λ (k : ℕ). kind.Copy k p) same ∙ ap (λ (z : Making). kind.Copy m z) alike

is_not_there : (there : Bool) → there ≡ false → there ≡ true → ⊥
is_not_there true none some = absurd cc
is_not_there false none some = absurd cc

module _ (there : Bool) (bytes : List ℕ) where
  single_none : (m : Making) → IsKind (kind.Single m) there bytes → IsNoImage bytes → ⊥
  single_none m h none = none h.0 h.1 h.2

  copy_none : (n : ℕ) (m : Making) → IsKind (kind.Copy n m) there bytes → IsNoImage bytes → ⊥
  copy_none n m h none = none h.0 (with_sequence n h.1) h.2.content

  single_copy : (p m : Making) (n : ℕ) → IsKind (kind.Single p) there bytes → IsKind (kind.Copy n m) there bytes → ⊥
  single_copy p m n h g = others_are_no_copies h.0 h.1 bytes h.2 h.3 g.0 n g.1 g.2

  two_singles : (p m : Making) → IsKind (kind.Single p) there bytes → IsKind (kind.Single m) there bytes → kind.Single p ≡ kind.Single m
  two_singles p m h g =
      let same = one_meaning h.0 g.0 h.1 g.1 bytes h.2 g.2 in
      ap (λ (z : Making). kind.Single z) (h.4 ∙ same_once h.0 g.0 h.1 g.1 same.0 same.1 ∙ sym g.4)

  two_copies : (k n : ℕ) (p m : Making) → IsKind (kind.Copy k p) there bytes → IsKind (kind.Copy n m) there bytes → kind.Copy k p ≡ kind.Copy n m
  two_copies k n p m h g =
      let same = one_meaning_of_copies h.0 g.0 k n h.1 g.1 bytes h.2 g.2 in
      same_copy k n p m same.1 (h.3 ∙ same_twice h.0 g.0 h.1 g.1 same.0 same.2 ∙ sym g.3)

  one_kind : (k l : Kind) → IsKind k there bytes → IsKind l there bytes → k ≡ l
  one_kind kind.Missing kind.Missing h g = refl
  one_kind kind.Missing kind.Empty h g = absurd (is_not_there there h.0 g.0)
  one_kind kind.Missing kind.Shut h g = absurd (g.0 h.1)
  one_kind kind.Missing kind.NoKdcfile h g = absurd (foreign_filled bytes g h.1)
  one_kind kind.Missing (kind.Single m) h g = absurd (single_none m g (nothing_means_nothing bytes h.1))
  one_kind kind.Missing (kind.Copy n m) h g = absurd (copy_none n m g (nothing_means_nothing bytes h.1))
  one_kind kind.Empty kind.Missing h g = absurd (is_not_there there g.0 h.0)
  one_kind kind.Empty kind.Empty h g = refl
  one_kind kind.Empty kind.Shut h g = absurd (g.0 h.1)
  one_kind kind.Empty kind.NoKdcfile h g = absurd (foreign_filled bytes g h.1)
  one_kind kind.Empty (kind.Single m) h g = absurd (single_none m g (nothing_means_nothing bytes h.1))
  one_kind kind.Empty (kind.Copy n m) h g = absurd (copy_none n m g (nothing_means_nothing bytes h.1))
  one_kind kind.Shut kind.Missing h g = absurd (h.0 g.1)
  one_kind kind.Shut kind.Empty h g = absurd (h.0 g.1)
  one_kind kind.Shut kind.Shut h g = refl
  one_kind kind.Shut kind.NoKdcfile h g = absurd (g.0 h.1)
  one_kind kind.Shut (kind.Single m) h g = absurd (single_none m g (unfinished_means_nothing bytes h))
  one_kind kind.Shut (kind.Copy n m) h g = absurd (copy_none n m g (unfinished_means_nothing bytes h))
  one_kind kind.NoKdcfile kind.Missing h g = absurd (foreign_filled bytes h g.1)
  one_kind kind.NoKdcfile kind.Empty h g = absurd (foreign_filled bytes h g.1)
  one_kind kind.NoKdcfile kind.Shut h g = absurd (h.0 g.1)
  one_kind kind.NoKdcfile kind.NoKdcfile h g = refl
  one_kind kind.NoKdcfile (kind.Single m) h g = absurd (single_none m g h.1)
  one_kind kind.NoKdcfile (kind.Copy n m) h g = absurd (copy_none n m g h.1)
  one_kind (kind.Single p) kind.Missing h g = absurd (single_none p h (nothing_means_nothing bytes g.1))
  one_kind (kind.Single p) kind.Empty h g = absurd (single_none p h (nothing_means_nothing bytes g.1))
  one_kind (kind.Single p) kind.Shut h g = absurd (single_none p h (unfinished_means_nothing bytes g))
  one_kind (kind.Single p) kind.NoKdcfile h g = absurd (single_none p h g.1)
  one_kind (kind.Single p) (kind.Single m) h g = two_singles p m h g
  one_kind (kind.Single p) (kind.Copy n m) h g = absurd (single_copy p m n h g)
  one_kind (kind.Copy k p) kind.Missing h g = absurd (copy_none k p h (nothing_means_nothing bytes g.1))
  one_kind (kind.Copy k p) kind.Empty h g = absurd (copy_none k p h (nothing_means_nothing bytes g.1))
  one_kind (kind.Copy k p) kind.Shut h g = absurd (copy_none k p h (unfinished_means_nothing bytes g))
  one_kind (kind.Copy k p) kind.NoKdcfile h g = absurd (copy_none k p h g.1)
  one_kind (kind.Copy k p) (kind.Single m) h g = absurd (single_copy m p k g h)
  one_kind (kind.Copy k p) (kind.Copy n m) h g = two_copies k n p m h g

pub files_have_one_state : FilesHaveOneState
files_have_one_state k l there bytes h g = one_kind there bytes k l h g
