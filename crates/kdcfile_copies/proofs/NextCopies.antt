-- What a commit makes of a copy.
use Rattle.std.proofs.Common.{◌≡◌, inl, inr, ⊎_elim, ℕ, ◌+◌, ◌<◌, ◌≤◌, ◌^◌, List, sym, ap, subst, ◌∙◌}
use Rattle.std.specs.Prelude.{IsTrue}
use Rattle.std.specs.FinMap.{is_sorted}
use Rattle.kd_device.specs.Device.{State}
use Rattle.kd_device.specs.TimeLaws.{leaves_weaker}
use Rattle.kd_records.specs.declared.content.Content.{Content}
use Rattle.kd_records.specs.declared.content.Patch.{Patch}
use Rattle.kd_records.specs.Charge.{IsBlockSize, total_charge}
use Rattle.kd_records.specs.ContentLaws.{patch_keeps_order}
use Rattle.kd_records.specs.Identity.{Identity}
use Rattle.kd_records.specs.Contents.{IsPatch, patched}
use Rattle.kd_records.specs.Keys.{key_cmp}
use Rattle.kdcfile_layout.specs.Layout.{StandsFor}
use Rattle.kdcfile_store.specs.Kept.{LeavesPatched, OldOrNew}
use Rattle.kdcfile_store.specs.Paged.{Paged}
use Rattle.kdcfile_copies.specs.Copies.{HasNoSequence, IsBare, with_sequence, bare, next_patch}
use Rattle.kdcfile_copies.specs.CopiesLaws.{next_is_patch, next_patch_makes_next, patch_keeps_bare, sequence_is_one_page}
use Rattle.kdcfile_copies.specs.Keeping.{CopyKeeps, LeavesNextCopy, OldOrNextCopy}

module _ (s : Paged) (n : ℕ) (p q : Patch) (keeps : CopyKeeps s n (bare s.content)) (is : IsPatch p) (none : HasNoSequence p) (next : q ≡ next_patch (n + 1) p) where
  up : IsTrue (is_sorted key_cmp (bare s.content).items)
  up = keeps.ascending

  pub next_kept : patched s.content q ≡ with_sequence (n + 1) (patched (bare s.content) p)
  next_kept = ap (λ (x : Content). patched x q) keeps.content ∙ ap (λ (r : Patch). patched (with_sequence n (bare s.content)) r) next ∙ next_patch_makes_next n (n + 1) (bare s.content) p up is

  pub next_bare : IsBare (patched (bare s.content) p)
  next_bare = patch_keeps_bare (bare s.content) p keeps.bare is none

  pub is_patch : IsPatch q
  is_patch = subst IsPatch (sym next) (next_is_patch (n + 1) p is)

  pub charged_before : total_charge s.identity.blksize (bare s.content).items + 1 ≤ s.identity.pages → total_charge s.identity.blksize s.content.items ≤ s.identity.pages
  charged_before fits =
      subst (λ (x : Content). total_charge s.identity.blksize x.items ≤ s.identity.pages) (sym keeps.content)
      (subst (λ (k : ℕ). k ≤ s.identity.pages) (sym (sequence_is_one_page s.identity.blksize n (bare s.content) keeps.blksize keeps.bare)) fits)

  pub charged_after : total_charge s.identity.blksize (patched (bare s.content) p).items + 1 ≤ s.identity.pages → total_charge s.identity.blksize (patched s.content q).items ≤ s.identity.pages
  charged_after fits =
      subst (λ (x : Content). total_charge s.identity.blksize x.items ≤ s.identity.pages) (sym next_kept)
      (subst (λ (k : ℕ). k ≤ s.identity.pages) (sym (sequence_is_one_page s.identity.blksize (n + 1) (patched (bare s.content) p) keeps.blksize next_bare)) fits)

  pub keeps_next : n + 1 < 2 ^ 64 → (t : Paged) → t.identity ≡ s.identity → t.content ≡ patched s.content q → CopyKeeps t (n + 1) (patched (bare s.content) p)
  keeps_next small t same made = record {
    content = made ∙ next_kept;
    bare = next_bare;
    small = small;
    ascending = patch_keeps_order (bare s.content) p up;
    blksize = subst (λ (i : Identity). IsBlockSize i.blksize) (sym same) keeps.blksize;
  }

  pub leaves_next : n + 1 < 2 ^ 64 → (a b : State) (la lb : ℕ → List ℕ → List ℕ → Type 0) → LeavesPatched (StandsFor s.identity) s.content q a b la lb → LeavesNextCopy s.identity n (bare s.content) (patched (bare s.content) p) a b la lb
  leaves_next small a b la lb h =
      leaves_weaker a b la lb (OldOrNew (StandsFor s.identity) s.content (patched s.content q) a.sent) (OldOrNextCopy s.identity n (bare s.content) (patched (bare s.content) p) a.sent) h
      (λ c out left. (
        left.0,
        ⊎_elim
            (λ old. inl (record { content = subst (λ (x : Content). StandsFor s.identity x c) keeps.content old; bare = keeps.bare; small = keeps.small }))
            (λ new. inr (record { content = subst (λ (x : Content). StandsFor s.identity x c) next_kept new; bare = next_bare; small = small }))
            left.1,
      ))
