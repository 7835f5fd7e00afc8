-- An image whose records and root were written, and then selected.
use Rattle.std.proofs.Common.{◌≡◌, ℕ, ◌%◌, ◌≤◌, Bool, not, List, [], ◌∷◌, ◌++◌, length, ap, subst, ◌∙◌, arith}
use Rattle.std.specs.List.{flat_map}
use Rattle.kd_device.specs.Device.{written}
use Rattle.kd_device.specs.TornLaws.{length_written}
use Rattle.kd_records.specs.declared.content.Content.{Content}
use Rattle.kd_records.specs.Contents.{IsContent}
use Rattle.kd_records.specs.Identity.{Identity}
use Rattle.device_tests.specs.File.{Stands, head, root, spelled, spelled_record, image_size, place}
use Rattle.kdcfile_layout.specs.Layout.{StandsAt, selector}
use Rattle.kdcfile_layout.specs.PartsLaws.{within_file}
use Rattle.kdcfile_layout.specs.CrashLaws.{byte_of, small}
use Rattle.kdcfile_layout.specs.WrittenLaws.{written_stands, below_write, above_write}
use Rattle.device_tests.specs.HeadsLaws.{place_past}

module _ (i : Identity) (second : Bool) (x y : Content) (h body : List ℕ) (old : Stands i second x h) (fits : IsContent y) (inside : length (spelled i y) ≤ image_size i) (is : body ≡ flat_map spelled_record y.items) where
  head_inside : 17 ≤ length h
  head_inside = within_file 0 (head i) h old.headed (omega arith)

  -- the image, then the selector
  pub image_stands : Stands i (not second) y (written (written h (place i (not second)) (root i y ++ body)) 4096 (selector (not second) ∷ []))
  image_stands =
      let at = place i (not second) in
      let far = place_past i (not second) in
      let m = written h at (root i y ++ body) in
      let e = written m 4096 (selector (not second) ∷ []) in
      let long : 17 ≤ length m = omega (arith, length_written h at (root i y ++ body), head_inside) in
      let headed = below_write h at (root i y ++ body) 0 (head i) old.headed (omega (arith, far)) head_inside in
      record {
        identity = old.identity;
        content = fits;
        headed = below_write m 4096 (selector (not second) ∷ []) 0 (head i) headed (omega arith) long;
        selected = ap (λ (n : ℕ). n % 2) (byte_of e (selector (not second)) (written_stands m 4096 (selector (not second) ∷ []))) ∙ small (not second);
        image = subst (λ (l : List ℕ). StandsAt at (root i y ++ l) e) is (above_write m 4096 (selector (not second) ∷ []) at (root i y ++ body) (written_stands h at (root i y ++ body)) (omega (arith, far)));
        inside = inside;
      }
