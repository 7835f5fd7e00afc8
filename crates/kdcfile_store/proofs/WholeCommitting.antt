-- A whole content is written, and selected.
use Rattle.std.proofs.Common.{◌≡◌, ℕ, Bool, not, List, ap, sym, subst}
use Rattle.kd_device.specs.Device.{State, LeavesOnly}
use Rattle.kd_records.specs.declared.content.Content.{Content}
use Rattle.kd_records.specs.Identity.{Identity}
use Rattle.kdcfile_layout.specs.Layout.{Layout, IsImage, Stands}
use Rattle.kdcfile_layout.specs.Crash.{AllFree}
use Rattle.kdcfile_layout.specs.declared.kdcfile_images.image.Root.{Root}
use Rattle.kdcfile_layout.specs.Commit.{ArePages, IsApartFrom, WouldBe, Either, LeavesEither, staged}
use Rattle.kdcfile_layout.specs.Opened.{Opened, identity_of, renewed, layout_in}
use Rattle.kdcfile_store.specs.declared.carrying.Whole.{Whole}
use Rattle.kdcfile_store.specs.Whole.{AreUsed, IsWholeContent}

module _ {used : List Bool} {j : Identity} {y : Content} {w : Whole} (whole : IsWholeContent used j y w) (i : Opened) (size : j.blksize ≡ i.blksize) where
  -- the file gets its fingerprint and its page pool
  becomes : renewed i w.root ≡ j
  becomes = λ z. record { blksize = sym size z; pages = ap (λ (r : Root). r.pgpool) whole.root z; fingerprint = ap (λ (r : Root). r.fingerprint) whole.root z }

  pub are_pages : ArePages i.blksize w.root.pgpool w.writes.items
  are_pages = subst (λ (k : Identity). ArePages k.blksize k.pages w.writes.items) (sym becomes) whole.pages

  module _ (x : Content) (l : Layout) (are : AreUsed l used) where
    pub apart : (h : List ℕ) → Stands (identity_of i) i.second x l h → IsApartFrom i x l w.writes.items h
    apart h stands = record { stands = stands; free = subst (λ (n : ℕ). AllFree n i.second l w.writes.items) size (whole.apart i.second l are) }

    pub would_be : (h : List ℕ) → Stands (identity_of i) i.second x l h → WouldBe i w.writes.items w.root y (layout_in w.root w.filed.table) h
    would_be h stands =
        subst (λ (k : Identity). IsImage k (not i.second) y (layout_in w.root w.filed.table) (staged i w.writes.items w.root h)) (sym becomes)
        (whole.would_be (identity_of i) i.second x l h (sym size) are stands)

    pub leaves_carried : (a d : State) (la ld : ℕ → List ℕ → List ℕ → Type 0) → Stands (identity_of i) i.second x l a.holds → LeavesEither i w.writes.items w.root a d la ld → LeavesOnly a d la ld (Either (identity_of i) x j y a.sent)
    leaves_carried a d la ld stands leaves =
        subst (λ (k : Identity). LeavesOnly a d la ld (Either (identity_of i) x k y a.sent)) becomes
        (leaves x y l (layout_in w.root w.filed.table) (apart a.holds stands) (would_be a.holds stands))

    pub now_stands : (o : Opened) (h g : List ℕ) → o ≡ record i { root = w.root; second = not i.second } → Stands (identity_of i) i.second x l h
        → ((z : Content) (m : Layout) → WouldBe i w.writes.items w.root z m h → Stands (renewed i w.root) (not i.second) z m g) → Stands (identity_of o) o.second w.filed.content (layout_in o.root w.filed.table) g
    now_stands o h g is stands after = rw (is, whole.content) (after y (layout_in w.root w.filed.table) (would_be h stands))
