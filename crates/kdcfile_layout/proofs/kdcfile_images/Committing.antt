-- A commit of pages and a root, as the device sees it.
use Rattle.std.proofs.Common.{◌≡◌, ℕ, ◌+◌, ◌*◌, ◌<◌, ◌≤◌, ◌^◌, Bool, true, false, not, List, [], ◌∷◌, ◌++◌, length, suc, ap, sym, subst, ◌∙◌, arith, length-append}
use Rattle.std.specs.Prelude.{codes}
use Rattle.std.specs.List.{flat_map}
use Rattle.std.specs.Int.{w32, w64, to_be_bytes}
use Rattle.std.proofs.Math.Nat.{mul-le-mul_left}
use Rattle.std.proofs.lemmas.Grind.{common_steps}
use Rattle.std.proofs.lemmas.List.Sums.{sum_by-cons}
use Rattle.std.proofs.lemmas.List.Elements.{All-head, All-tail, All-weaker}
use Rattle.kd_device.specs.Device.{State, LeavesOnly, written}
use Rattle.kd_device.specs.TimeLaws.{leaves_weaker}
use Rattle.kd_records.specs.declared.content.Content.{Content}
use Rattle.kd_records.specs.ChargeLaws.{block_from, block_upto}
use Rattle.kdcfile_layout.specs.declared.page.PageWrite.{PageWrite}
use Rattle.kdcfile_layout.specs.Layout.{Layout, IsImage, Stands, root_place, page_count, directory_pages, selector}
use Rattle.kdcfile_layout.specs.Crash.{AllFree}
use Rattle.kdcfile_layout.specs.CrashLaws.{length_page_numbers, per_root, either, done}
use Rattle.kdcfile_layout.specs.Synced.{IsSynced}
use Rattle.kdcfile_layout.specs.Writes.{written_all, total, AllBelow, KeepsOrSelects, Selects}
use Rattle.kdcfile_layout.specs.Opened.{Opened, IsOpened, identity_of, renewed}
use Rattle.kdcfile_layout.specs.declared.kdcfile_images.image.Root.{Root}
use Rattle.kdcfile_layout.specs.Commit.{IsPage, ArePages, AreStaged, staged, committed, spelled_root, Either, IsApartFrom, WouldBe}

pub length_spelled_root : (r : Root) → length r.fingerprint ≡ 32 → length (spelled_root r) ≡ 64 + 4 * length r.directory
length_spelled_root r print =
    let front = r.fingerprint ++ to_be_bytes w64 r.clock ++ to_be_bytes w64 r.next_job ++ to_be_bytes w32 r.pgpool ++ to_be_bytes w32 (length r.directory) ++ to_be_bytes w32 r.records ++ codes "ROOT" in
    let long : length front ≡ 64 = grind (arith, common_steps) in
    omega (arith, length-append front (flat_map (λ (p : ℕ). to_be_bytes w32 p) r.directory), long, length_page_numbers r.directory)

total_most : (size pool : ℕ) (pages : List PageWrite) → ArePages size pool pages → total pages ≤ length pages * size
total_most size pool [] are = omega arith
total_most size pool (w ∷ ws) are =
    let one = All-head (IsPage size pool) w ws are in
    omega (arith, sum_by-cons (λ (v : PageWrite). length v.bytes) w ws, one.3, total_most size pool ws (All-tail (IsPage size pool) w ws are))

few_bytes : (n size d : ℕ) → n < 2 ^ 32 → size ≤ 8192 → d ≤ 469 → n * size + 64 + 4 * d < 2 ^ 63
few_bytes n size d few upto most = let less : n ≤ 2 ^ 32 = omega (arith, few) in omega (arith, mul-le-mul_left size less, upto, most)

root_upto : (b : Bool) → root_place b ≤ 16384
root_upto true = omega arith
root_upto false = omega arith

module _ (i : Opened) (pages : List PageWrite) (root : Root) (writes : List PageWrite) (are : AreStaged i pages root writes) (print : length root.fingerprint ≡ 32) (most : root.pgpool ≤ 30000) (numbers : length root.directory ≡ directory_pages i.blksize root.pgpool) (opened : IsOpened i) where
  root_length : length (spelled_root root) ≡ 64 + 4 * directory_pages i.blksize root.pgpool
  root_length = omega (arith, length_spelled_root root print, numbers)

  few_numbers : directory_pages i.blksize root.pgpool ≤ 469
  few_numbers = per_root i.blksize root.pgpool opened.identity.blksize most

  whole : total writes ≡ total pages + 64 + 4 * directory_pages i.blksize root.pgpool
  whole = omega (arith, are.total, root_length)

  pub few : ArePages i.blksize root.pgpool pages → length pages < 2 ^ 32 → total writes < 2 ^ 63
  few all less =
      omega (arith, whole, total_most i.blksize root.pgpool pages all, few_bytes (length pages) i.blksize (directory_pages i.blksize root.pgpool) less (block_upto i.blksize opened.identity.blksize) few_numbers)

  pub below : (end : ℕ) → end ≡ 24576 + page_count i.blksize root.pgpool * i.blksize → ArePages i.blksize root.pgpool pages → AllBelow end writes
  below end is all =
      are.below end
      (All-weaker (IsPage i.blksize root.pgpool) (λ w. w.at + length w.bytes ≤ end)
      (λ w page. let le : suc page.0 ≤ page_count i.blksize root.pgpool = page.1 in omega (arith, is, page.2, page.3, mul-le-mul_left i.blksize le))
      pages all)
      (omega (arith, is, root_length, root_upto (not i.second), few_numbers))

  pub put : (n : ℕ) (new : List ℕ) (a b : State) (lb : ℕ → List ℕ → List ℕ → Type 0) → n ≡ total writes + 1 → IsSynced n new a b lb → b.put ≡ a.put + total pages + 64 + 4 * directory_pages i.blksize root.pgpool + 1
  put n new a b lb is synced = omega (arith, synced.put, is, whole)

  module _ (a b : State) (la lb : ℕ → List ℕ → List ℕ → Type 0) where
    pub put_most : Selects writes a b la lb → b.put ≤ a.put + total pages + 64 + 4 * directory_pages i.blksize root.pgpool + 1
    put_most selects = omega (arith, selects.put, whole)

    module _ (x y : Content) (l m : Layout) (apart : IsApartFrom i x l pages a.holds) (new : WouldBe i pages root y m a.holds) where
      all_free : AllFree i.blksize i.second l writes
      all_free = are.free l (omega (arith, block_from i.blksize opened.identity.blksize)) apart.free (omega (arith, root_length, few_numbers))

      image : IsImage (renewed i root) (not i.second) y m (written_all a.holds writes)
      image = subst (λ (c : List ℕ). IsImage (renewed i root) (not i.second) y m c) (sym (are.file a.holds)) new

      pub any_moment : Selects writes a b la lb → LeavesOnly a b la lb (Either (identity_of i) x (renewed i root) y a.sent)
      any_moment selects =
          leaves_weaker a b la lb (λ c out. (out ≡ a.sent) × KeepsOrSelects writes a.holds c) (Either (identity_of i) x (renewed i root) y a.sent) selects.leaves
          (λ c out left. (left.0, either (identity_of i) (renewed i root) i.second x y l m writes a.holds apart.stands all_free image c left.1))

      pub stands : b.holds ≡ committed i pages root a.holds → Stands (renewed i root) (not i.second) y m b.holds
      stands holds =
          subst (λ (c : List ℕ). Stands (renewed i root) (not i.second) y m c) (ap (λ (c : List ℕ). written c 4096 (selector (not i.second) ∷ [])) (are.file a.holds) ∙ sym holds)
          (done (identity_of i) (renewed i root) i.second x y l m writes a.holds apart.stands all_free image)

pub file_is : (i : Opened) (pages : List PageWrite) (root : Root) (writes : List PageWrite) → AreStaged i pages root writes → (h c : List ℕ) (byte : ℕ) → byte ≡ selector (not i.second) → c ≡ written (written_all h writes) 4096 (byte ∷ []) → c ≡ committed i pages root h
file_is i pages root writes are h c byte is holds = holds ∙ ap (λ (e : List ℕ). written e 4096 (byte ∷ [])) (are.file h) ∙ ap (λ (k : ℕ). written (staged i pages root h) 4096 (k ∷ [])) is
