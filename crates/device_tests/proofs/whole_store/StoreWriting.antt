-- A content that is written as the unselected image.
use Rattle.std.proofs.Common.{◌≡◌, ℕ, ◌+◌, ◌≤◌, ◌<◌, ◌^◌, not, List, length, sym, ap, subst, ◌∙◌, arith, length-append}
use Rattle.std.specs.Prelude.{sum_by}
use Rattle.std.specs.List.{flat_map}
use Rattle.std.proofs.lemmas.Grind.{common_steps}
use Rattle.kd_device.specs.Device.{State, LeavesOnly}
use Rattle.kd_records.specs.declared.content.Content.{Content}
use Rattle.kd_records.specs.Contents.{Record, IsContent}
use Rattle.kd_records.specs.Charge.{total_charge}
use Rattle.kd_records.specs.Charged.{record_length}
use Rattle.kd_records.specs.ChargeLaws.{charged_records_fit, length_within}
use Rattle.kd_records.specs.Identity.{Identity, IsIdentity}
use Rattle.device_tests.specs.File.{Stands, root, spelled_record, image_size}
use Rattle.device_tests.specs.Opened.{Opened, identity_of, renewed}
use Rattle.device_tests.specs.Commit.{committed, Either}
use Rattle.device_tests.specs.declared.whole_store.image.Root.{Root}
use Rattle.device_tests.specs.WrittenLaws.{image_stands}
use Rattle.device_tests.specs.Whole.{root_with}

pub length_root : (i : Identity) (y : Content) → IsIdentity i → length (root i y) ≡ 64
length_root i y is = let print : length i.fingerprint ≡ 32 = is.fingerprint in grind (arith, common_steps)

module _ (o : Opened) (y : Content) (body : List ℕ) (is : IsIdentity (identity_of o)) (few : total_charge o.blksize y.items ≤ o.root.pgpool) where
  body_fits : length body ≡ sum_by record_length y.items → 64 + length body ≤ image_size (identity_of o)
  body_fits long = let h = charged_records_fit o.blksize o.root.pgpool y.items is.blksize few in omega (arith, h, long)

  pub few_records : length y.items < 2 ^ 32
  few_records = omega (arith, length_within o.blksize y.items, few, is.most)

  would_stand : (x : Content) (h : List ℕ) → length body ≡ sum_by record_length y.items → body ≡ flat_map spelled_record y.items → IsContent y → Stands (identity_of o) o.second x h → Stands (identity_of o) (not o.second) y (committed o body (root_with o y) h)
  would_stand x h long spelled_is fits old =
      let wide = length_root (identity_of o) y is in
      image_stands (identity_of o) o.second x y h body old fits
      (omega (arith, body_fits long, wide, length-append (root (identity_of o) y) (flat_map spelled_record y.items), ap (λ (l : List ℕ). length l) spelled_is))
      spelled_is

-- the same of bytes and a root that were made for this content
module _ (o : Opened) (y : Content) (items : List Record) (body slice : List ℕ) (next : Root) (is : IsIdentity (identity_of o)) (few : total_charge o.blksize y.items ≤ o.root.pgpool) (items_are : items ≡ y.items) (long : length body ≡ sum_by record_length items)
    (spelled_is : body ≡ flat_map spelled_record items) (slice_is : slice ≡ body) (next_is : next ≡ root_with o y) where
  long_so : length body ≡ sum_by record_length y.items
  long_so = long ∙ ap (λ (l : List Record). sum_by record_length l) items_are

  pub slice_fits : 64 + length slice ≤ image_size (identity_of o)
  slice_fits = omega (arith, body_fits o y body is few long_so, ap (λ (l : List ℕ). length l) slice_is)

  pub slice_long : length slice ≡ sum_by record_length y.items
  slice_long = ap (λ (l : List ℕ). length l) slice_is ∙ long_so

  pub next_stands : (x : Content) (h : List ℕ) → IsContent y → Stands (identity_of o) o.second x h → Stands (identity_of o) (not o.second) y (committed o slice next h)
  next_stands x h fits old = rw (slice_is, next_is) (would_stand o y body is few x h long_so (spelled_is ∙ ap (λ (l : List Record). flat_map spelled_record l) items_are) fits old)

  pub renewed_stands : (x : Content) (h : List ℕ) → IsContent y → Stands (identity_of o) o.second x h → Stands (renewed o next) (not o.second) y (committed o slice next h)
  renewed_stands x h fits old = subst (λ (r : Root). Stands (renewed o r) (not o.second) y (committed o slice next h)) (sym next_is) (next_stands x h fits old)

  pub leaves_either : (x : Content) (a d : State) (la ld : ℕ → List ℕ → List ℕ → Type 0) → IsContent y → Stands (identity_of o) o.second x a.holds
      → (Stands (renewed o next) (not o.second) y (committed o slice next a.holds) → LeavesOnly a d la ld (Either (identity_of o) x (renewed o next) y a.sent)) → LeavesOnly a d la ld (Either (identity_of o) x (identity_of o) y a.sent)
  leaves_either x a d la ld fits old leaves = subst (λ (r : Root). LeavesOnly a d la ld (Either (identity_of o) x (renewed o r) y a.sent)) next_is (leaves (renewed_stands x a.holds fits old))
