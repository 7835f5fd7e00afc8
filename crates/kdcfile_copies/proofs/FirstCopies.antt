-- What the making of a file and its first commit leave.
use Rattle.std.proofs.Common.{◌≡◌, inl, inr, ⊎_elim, ℕ, ◌+◌, ◌≤◌, List, sym, subst, ◌∙◌, arith}
use Rattle.kd_device.specs.Device.{State}
use Rattle.kd_device.specs.Rest.{Rests}
use Rattle.kd_device.specs.TimeLaws.{leaves_weaker, leaves_then}
use Rattle.kd_records.specs.declared.content.Content.{Content}
use Rattle.kd_records.specs.declared.content.Patch.{Patch}
use Rattle.kd_records.specs.Charge.{total_charge}
use Rattle.kd_records.specs.Contents.{IsPatch, patched}
use Rattle.kd_records.specs.Identity.{Identity, IsIdentity}
use Rattle.kdcfile_layout.specs.Layout.{StandsFor, fresh}
use Rattle.kdcfile_store.specs.Kept.{IsKept, LeavesPatched, OldOrNew}
use Rattle.kdcfile_store.specs.Paged.{Paged, HasFile, Made, LeavesMade}
use Rattle.kdcfile_copies.specs.Copies.{sequence_alone, with_sequence}
use Rattle.kdcfile_copies.specs.CopiesLaws.{alone_is_patch, bare_is_no_copy, fresh_is_bare, no_image_is_no_copy, sequence_is_one_page}
use Rattle.kdcfile_copies.specs.Keeping.{BeingMade, LeavesCopyMade, LeavesNoCopy}

-- a file that was made, without its first commit
pub made_alone : (i : Identity) (a b : State) (la lb : ℕ → List ℕ → List ℕ → Type 0) → LeavesMade i a b la lb → LeavesCopyMade i a b la lb
made_alone i a b la lb h =
    leaves_weaker a b la lb (Made i a.sent) (BeingMade i a.sent) h
    (λ c out made. (made.0, inl (⊎_elim (λ none. no_image_is_no_copy c none) (λ stands. bare_is_no_copy i fresh c fresh_is_bare stands) made.1)))

enough : (t k pages : ℕ) → t ≡ k + 1 → k ≡ 0 → 16 ≤ pages → t ≤ pages
enough t k pages e z least = omega arith

module _ (i : Identity) (s : Paged) (p : Patch) (is : IsIdentity i) (identity : s.identity ≡ i) (content : s.content ≡ fresh) (first : p ≡ sequence_alone 0 fresh) where
  pub first_made : patched s.content p ≡ with_sequence 0 fresh
  first_made = λ z. patched (content z) (first z)

  pub first_patch : IsPatch p
  first_patch = subst IsPatch (sym first) (alone_is_patch 0 fresh)

  none_charged : (size : ℕ) → total_charge size fresh.items ≡ 0
  none_charged size = omega arith

  pub charged_after : total_charge s.identity.blksize (patched s.content p).items ≤ s.identity.pages
  charged_after =
      subst (λ (x : Content). total_charge s.identity.blksize x.items ≤ s.identity.pages) (sym first_made)
      (subst (λ (j : Identity). total_charge j.blksize (with_sequence 0 fresh).items ≤ j.pages) (sym identity)
      (enough (total_charge i.blksize (with_sequence 0 fresh).items) (total_charge i.blksize fresh.items) i.pages (sequence_is_one_page i.blksize 0 fresh is.blksize fresh_is_bare) (none_charged i.blksize) is.least))

  pub made_then : (a b d : State) (la lb ld : ℕ → List ℕ → List ℕ → Type 0) → b.sent ≡ a.sent → LeavesMade i a b la lb → LeavesPatched (StandsFor s.identity) s.content p b d lb ld → LeavesCopyMade i a d la ld
  made_then a b d la lb ld sent h k =
      leaves_then a b la lb d ld (BeingMade i a.sent) (made_alone i a b la lb h)
      (leaves_weaker b d lb ld (OldOrNew (StandsFor s.identity) s.content (patched s.content p) b.sent) (BeingMade i a.sent) k
      (λ c out left. (
        left.0 ∙ sent,
        ⊎_elim
            (λ old. inl (bare_is_no_copy s.identity fresh c fresh_is_bare (subst (λ (x : Content). StandsFor s.identity x c) content old)))
            (λ new. inr (record { content = subst (λ (j : Identity). StandsFor j (with_sequence 0 fresh) c) identity (subst (λ (x : Content). StandsFor s.identity x c) first_made new); bare = fresh_is_bare; small = omega arith }))
            left.1,
      )))

  -- the file is made, and stays without its first commit
  pub kept_no_copy : (b d : State) (lb ld : ℕ → List ℕ → List ℕ → Type 0) → IsKept (HasFile s) b lb → Rests b d lb ld → LeavesNoCopy d ld
  kept_no_copy b d lb ld kept rests c left =
      bare_is_no_copy s.identity fresh c fresh_is_bare
      (subst (λ (x : Content). StandsFor s.identity x c) content (subst (λ (l : List ℕ). StandsFor s.identity s.content l) (sym (kept.at_rest c (rests.stop c left))) (s.second, s.layout, kept.bytes)))
