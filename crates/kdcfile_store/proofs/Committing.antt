-- What is made is written, and selected.
use Rattle.std.proofs.Common.{◌≡◌, inl, ℕ, ◌≤◌, Bool, not, List, length, ap, sym, subst, ◌∙◌}
use Rattle.kd_device.specs.Device.{State, LeavesOnly, Only, Quiet}
use Rattle.kd_device.specs.TimeLaws.{leaves_weaker, leaves_then, quiet_leaves}
use Rattle.kd_records.specs.declared.content.Content.{Content}
use Rattle.kd_records.specs.declared.content.Patch.{Patch}
use Rattle.kd_records.specs.Contents.{patched}
use Rattle.kd_records.specs.Identity.{Identity}
use Rattle.kdcfile_layout.specs.Layout.{Layout, Stands, StandsFor}
use Rattle.kdcfile_layout.specs.declared.kdcfile_images.image.Root.{Root}
use Rattle.kdcfile_layout.specs.Commit.{ArePages, IsApartFrom, WouldBe, Either, LeavesEither}
use Rattle.kdcfile_layout.specs.Opened.{Opened, identity_of, renewed, layout_in}
use Rattle.kdcfile_store.specs.declared.next.Next.{Next}
use Rattle.kdcfile_store.specs.Kept.{OldOrNew}
use Rattle.kdcfile_store.specs.Next.{IsNext}

module _ {i : Opened} {x : Content} {l : Layout} {used : List Bool} {patch : Patch} {long : ℕ} {n : Next} (next : IsNext i x l used patch long n) where
  -- the file keeps its fingerprint and its sizes
  same : renewed i n.root ≡ identity_of i
  same = ap (λ (r : Root). renewed i r) next.root

  pool : n.root.pgpool ≡ i.root.pgpool
  pool = ap (λ (r : Root). r.pgpool) next.root

  pub are_pages : ArePages i.blksize n.root.pgpool n.writes.items
  are_pages = rw pool next.pages

  pub apart : (h : List ℕ) → Stands (identity_of i) i.second x l h → IsApartFrom i x l n.writes.items h
  apart h stands = record { stands = stands; free = next.apart }

  pub would_be : (h : List ℕ) → long ≤ length h → Stands (identity_of i) i.second x l h → WouldBe i n.writes.items n.root n.filing.content.content (layout_in n.root n.filing.table.slots) h
  would_be h le stands = next.would_be h le stands

  pub leaves_patched : (a d : State) (la ld : ℕ → List ℕ → List ℕ → Type 0) → long ≤ length a.holds → Stands (identity_of i) i.second x l a.holds → LeavesEither i n.writes.items n.root a d la ld → LeavesOnly a d la ld (OldOrNew (StandsFor (identity_of i)) x (patched x patch) a.sent)
  leaves_patched a d la ld le stands leaves =
      subst (λ (y : Content). LeavesOnly a d la ld (Either (identity_of i) x (identity_of i) y a.sent)) next.content
      (subst (λ (j : Identity). LeavesOnly a d la ld (Either (identity_of i) x j n.filing.content.content a.sent)) same
      (leaves x n.filing.content.content l (layout_in n.root n.filing.table.slots) (apart a.holds stands) (would_be a.holds le stands)))

  pub new_stands : (o : Opened) (h g : List ℕ) → o ≡ record i { root = n.root; second = not i.second } → long ≤ length h → Stands (identity_of i) i.second x l h
      → ((y : Content) (m : Layout) → WouldBe i n.writes.items n.root y m h → Stands (renewed i n.root) (not i.second) y m g) → Stands (identity_of o) o.second n.filing.content.content (layout_in o.root n.filing.table.slots) g
  new_stands o h g is le stands after =
      rw is (after n.filing.content.content (layout_in n.root n.filing.table.slots) (would_be h le stands))

-- a call before it that changes no byte
pub after_quiet : (stands : Content → List ℕ → Type 0) (x y : Content) (a b d : State) (la lb ld : ℕ → List ℕ → List ℕ → Type 0) → stands x a.holds → Only a.holds a la → Quiet a b la lb → LeavesOnly b d lb ld (OldOrNew stands x y b.sent) → LeavesOnly a d la ld (OldOrNew stands x y a.sent)
after_quiet stands x y a b d la lb ld is only quiet leaves =
    leaves_then a b la lb d ld (OldOrNew stands x y a.sent)
    (leaves_weaker a b la lb (λ c out. (out ≡ a.sent) × (c ≡ a.holds)) (OldOrNew stands x y a.sent) (quiet_leaves a b la lb (λ c. c ≡ a.holds) only quiet)
    (λ c out h. (h.0, inl (subst (λ (l : List ℕ). stands x l) (sym h.1) is))))
    (leaves_weaker b d lb ld (OldOrNew stands x y b.sent) (OldOrNew stands x y a.sent) leaves (λ c out h. (h.0 ∙ quiet.sent, h.1)))
