-- Which of two files is missing, from what was read of them.
use Rattle.std.specs.Prelude.{◌≡◌, ℕ, zero, suc, true, false, not, nat_eq, List, []}
use Rattle.std.proofs.Common.{arith, sym, subst, ◌∙◌}
use Rattle.std.proofs.lemmas.Bool.Decides.{nat_tests}
use Rattle.kd_device.specs.Rest.{Rests}
use Rattle.kd_device.specs.Twin.{Both, half_leaves, half_state, other}
use Rattle.kd_device.specs.declared.half.Half.{Half}
use Rattle.kd_device.specs.declared.half.Half.TheVariants.{First, Second}
use Rattle.kdcfile_store.specs.Paged.{HasFile}
use Rattle.kdcfile_copies.specs.Beside.{LeavesBeside, NoMore, OtherStays, SameDisk}
use Rattle.kdcfile_copies.specs.Copies.{IsNoCopy, bare}
use Rattle.kdcfile_copies.specs.CopiesLaws.{one_meaning_of_copies, store_is_copy}
use Rattle.kdcfile_copies.specs.Finding.{IsLoaded}
use Rattle.kdcfile_copies.specs.declared.answer.LoadedCopy.{LoadedCopy}
use Rattle.kdcfile_double.specs.ChoiceLaws.{nothing_is_no_copy}
use Rattle.kdcfile_double.specs.MakingLaws.{RestsBoth, SentNowBoth, first_rests_both, second_rests_both}
use Rattle.call_parts.specs.Missing.{HasCommits}

-- ---- a copy with commits

pub no_copy_no : (bytes : List ℕ) → IsNoCopy bytes → HasCommits bytes → ⊥
no_copy_no bytes none (i, n, x, copy, some) = none i n x copy

pub empty_no : (bytes : List ℕ) → bytes ≡ [] → HasCommits bytes → ⊥
empty_no bytes empty = no_copy_no bytes (subst (λ (l : List ℕ). IsNoCopy l) (sym empty) nothing_is_no_copy)

module _ (c : LoadedCopy) (loaded : IsLoaded c) (bytes : List ℕ) (file : HasFile c.store bytes) where
  pub commits_yes : (c.sequence ≡ 0 → ⊥) → HasCommits bytes
  commits_yes some = (c.store.identity, c.sequence, bare c.store.content, store_is_copy c.store c.sequence (bare c.store.content) bytes loaded.keeps file, some)

  pub commits_no : c.sequence ≡ 0 → HasCommits bytes → ⊥
  commits_no none (i, n, x, copy, some) =
      let one = one_meaning_of_copies i c.store.identity n c.sequence x (bare c.store.content) bytes copy (store_is_copy c.store c.sequence (bare c.store.content) bytes loaded.keeps file) in
      some (one.1 ∙ none)

pub not_zero : (n : ℕ) → not (nat_eq n 0) ≡ true → n ≡ 0 → ⊥
not_zero zero is same = absurd cc
not_zero (suc n) is same = absurd cc

pub is_zero : (n : ℕ) → not (nat_eq n 0) ≡ false → n ≡ 0
is_zero n is = grind (arith, nat_tests)

-- ---- one half was looked at

pub half_rests : (half : Half) (a b : Both) (la lb : ℕ → List ℕ → List ℕ → List ℕ → Type 0) → SentNowBoth a la → Rests (half_state half a) (half_state half b) (half_leaves half la) (half_leaves half lb) → LeavesBeside half a b la lb NoMore → SameDisk (other half) a b → OtherStays half a b la lb → RestsBoth a b la lb
half_rests First a b la lb sent rests beside same stays = first_rests_both a b la lb sent rests beside same stays
half_rests Second a b la lb sent rests beside same stays = second_rests_both a b la lb sent rests beside same stays
