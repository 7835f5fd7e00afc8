-- Laws: just a half that was behind is mended, when two files are opened.
use Rattle.std.specs.Prelude.{◌≡◌, ◌⊎◌, ℕ, List, [], ◌∷◌, Option, Some, None}
use Rattle.std.proofs.Common.{inl, inr, ⊎_elim, arith, refl, sym, subst, ◌∙◌}
use Rattle.kd_records.specs.Identity.{Identity}
use Rattle.kd_records.specs.declared.content.Content.{Content}
use Rattle.kd_device.specs.Twin.{Both}
use Rattle.kd_device.specs.declared.half.Half.{Half}
use Rattle.kd_device.specs.declared.half.Half.TheVariants.{First, Second}
use Rattle.kdcfile_copies.specs.declared.answer.LoadedCopy.{LoadedCopy}
use Rattle.kdcfile_copies.specs.Copies.{AtMost, Below, IsCopyOf}
use Rattle.kdcfile_copies.specs.CopiesLaws.{one_meaning_of_copies, some_none}
use Rattle.kdcfile_double.specs.ChoiceLaws.{nothing_is_no_copy}
use Rattle.kdcfile_double.specs.Mended.{IsBehind}
use Rattle.kdcfile_double.specs.Opening.{AreEmpty, AreInUseSo}
use Rattle.kdcfile_double.specs.Twice.{IsInUse, IsOpen, Twice, content_of, copy_at, identity_of, sequence_of}
use Rattle.call_parts.specs.LeavingTwo.{WasBehind}

-- a half is in use or not
pub used_or_not : (half : Half) (s : Twice) → IsInUse half s ⊎ (copy_at half s ≡ None)
used_or_not half s = by (copy_at half s) refl
  where
    by : (o : Option LoadedCopy) → copy_at half s ≡ o → IsInUse half s ⊎ (copy_at half s ≡ None)
    by (Some p) e = inl (p, e)
    by None e = inr e

unused : (half : Half) (s : Twice) → copy_at half s ≡ None → IsInUse half s → ⊥
unused half s none used = some_none (sym used.1 ∙ none)

-- files are both empty or not
pub empty_or_not : (a b : List ℕ) → AreEmpty a b ⊎ (AreEmpty a b → ⊥)
empty_or_not [] [] = inl (refl, refl)
empty_or_not [] (n ∷ b) = inr (λ empty. absurd cc)
empty_or_not (n ∷ a) b = inr (λ empty. absurd cc)

-- beside an empty file no half was behind
pub none_was_behind : (half : Half) (a : Both) → AreEmpty a.first.holds a.second.holds → WasBehind half a → ⊥
none_was_behind First a empty (i, n, x, is, below) = nothing_is_no_copy i n x (subst (λ (l : List ℕ). IsCopyOf i n x l) empty.1 is)
none_was_behind Second a empty (i, n, x, is, most, differs) = nothing_is_no_copy i n x (subst (λ (l : List ℕ). IsCopyOf i n x l) empty.0 is)

module _ (s : Twice) (a : Both) (in_use : AreInUseSo s a.first.holds a.second.holds) where
  -- a half that is not in use was behind
  pub unused_was_behind : (half : Half) → IsOpen s → copy_at half s ≡ None → WasBehind half a
  unused_was_behind First (inl first) none = absurd (unused First s none first)
  unused_was_behind First (inr second) none = (identity_of s, sequence_of s, content_of s, in_use.second_is second, in_use.first_is_not (unused First s none))
  unused_was_behind Second (inl first) none =
      let not = in_use.second_is_not (unused Second s none) in
      (identity_of s, sequence_of s, content_of s, in_use.first_is first, not.0, not.1)
  unused_was_behind Second (inr second) none = absurd (unused Second s none second)

  first_not_behind : IsInUse First s → (i : Identity) (n : ℕ) (x : Content) → IsCopyOf i n x a.second.holds → Below n a.first.holds → ⊥
  first_not_behind used i n x is below =
      let less = below (identity_of s) (sequence_of s) (content_of s) (in_use.first_is used) in
      ⊎_elim
      (λ both.
      let same = one_meaning_of_copies i (identity_of s) n (sequence_of s) x (content_of s) a.second.holds is (in_use.second_is both) in
      omega (arith, less, same.1))
      (λ none. let most = (in_use.second_is_not (unused Second s none)).0 i n x is in omega (arith, less, most))
      (used_or_not Second s)

  second_not_behind : IsInUse Second s → (i : Identity) (n : ℕ) (x : Content) → IsCopyOf i n x a.first.holds → AtMost n a.second.holds → (IsCopyOf i n x a.second.holds → ⊥) → ⊥
  second_not_behind used i n x is most differs =
      ⊎_elim
      (λ both. let same = one_meaning_of_copies i (identity_of s) n (sequence_of s) x (content_of s) a.first.holds is (in_use.first_is both) in differs (own same.0 same.1 same.2))
      (λ none.
      let less = in_use.first_is_not (unused First s none) i n x is in
      let few = most (identity_of s) (sequence_of s) (content_of s) (in_use.second_is used) in
      omega (arith, less, few))
      (used_or_not First s)
    where
      own : i ≡ identity_of s → n ≡ sequence_of s → x ≡ content_of s → IsCopyOf i n x a.second.holds
      own made numbered kept =
          subst (λ (j : Identity). IsCopyOf j n x a.second.holds) (sym made)
          (subst (λ (m : ℕ). IsCopyOf (identity_of s) m x a.second.holds) (sym numbered)
          (subst (λ (y : Content). IsCopyOf (identity_of s) (sequence_of s) y a.second.holds) (sym kept) (in_use.second_is used)))

  -- a half that was behind is not in use
  pub behind_is_unused : (half : Half) → WasBehind half a → copy_at half s ≡ None
  behind_is_unused First (i, n, x, is, below) = ⊎_elim (λ used. absurd (first_not_behind used i n x is below)) (λ none. none) (used_or_not First s)
  behind_is_unused Second (i, n, x, is, most, differs) = ⊎_elim (λ used. absurd (second_not_behind used i n x is most differs)) (λ none. none) (used_or_not Second s)

-- what is known of copies that were opened, before one is mended: of two empty files both were made
pub record AreOpened (s : Twice) (a : Both) : Type 0 where
  pub is_open : IsOpen s
  pub new : (s.mended ≡ None) × (s.lost ≡ None)
  pub made : AreEmpty a.first.holds a.second.holds → (half : Half) → IsInUse half s
  pub in_use : (AreEmpty a.first.holds a.second.holds → ⊥) → AreInUseSo s a.first.holds a.second.holds

module _ (s s' : Twice) (a : Both) (opened : AreOpened s a) where
  -- just a half that was behind is mended
  pub mended_was_behind : ((half : Half) → s'.mended ≡ Some half → IsBehind half s ⊎ (s.mended ≡ Some half)) → (half : Half) → s'.mended ≡ Some half → WasBehind half a
  mended_was_behind only half is = ⊎_elim (λ behind. was behind.0) (λ before. absurd (some_none (sym before ∙ opened.new.0))) (only half is)
    where
      was : copy_at half s ≡ None → WasBehind half a
      was none =
          ⊎_elim (λ empty. absurd (unused half s none (opened.made empty half))) (λ filled. unused_was_behind s a (opened.in_use filled) half opened.is_open none)
          (empty_or_not a.first.holds a.second.holds)

  -- and it is mended, or lost
  pub behind_is_mended : ((half : Half) → IsBehind half s → (s'.mended ≡ Some half) × IsInUse half s' ⊎ (s'.lost ≡ Some half)) → (half : Half) → WasBehind half a → (s'.mended ≡ Some half) ⊎ (s'.lost ≡ Some half)
  behind_is_mended mends half was =
      ⊎_elim (λ empty. absurd (none_was_behind half a empty was))
      (λ filled. ⊎_elim (λ now. inl now.0) (λ lost. inr lost) (mends half (behind_is_unused s a (opened.in_use filled) half was, opened.new.1)))
      (empty_or_not a.first.holds a.second.holds)

  -- a half is in use, or it is lost
  pub used_or_lost : ((half : Half) → IsBehind half s → (s'.mended ≡ Some half) × IsInUse half s' ⊎ (s'.lost ≡ Some half)) → ((half : Half) → IsInUse half s → IsInUse half s') → (half : Half) → IsInUse half s' ⊎ (s'.lost ≡ Some half)
  used_or_lost mends stays half =
      ⊎_elim (λ used. inl (stays half used)) (λ none. ⊎_elim (λ now. inl now.1) (λ lost. inr lost) (mends half (none, opened.new.1))) (used_or_not half s)
