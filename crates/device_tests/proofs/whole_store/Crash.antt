-- What a stop within a commit leaves.
use Rattle.std.proofs.Common.{◌≡◌, ◌⊎◌, inl, inr, ⊎_elim, ℕ, ◌+◌, ◌%◌, ◌<◌, ◌≤◌, ◌^◌, min, Bool, true, false, not, List, [], ◌∷◌, ◌++◌, length, sym, ap, subst, get_or, ◌∙◌, arith, length-append}
use Rattle.std.specs.Prelude.{codes}
use Rattle.std.specs.Int.{w32, w64, to_be_bytes}
use Rattle.std.specs.List.{flat_map}
use Rattle.std.proofs.Math.Nat.{mul-le-mul_left}
use Rattle.std.proofs.lemmas.List.Sums.{sum_by-cons}
use Rattle.std.proofs.lemmas.List.Elements.{All-nil, All-cons}
use Rattle.kd_device.specs.Device.{State, LeavesOnly, Torn, written}
use Rattle.kd_device.specs.TornLaws.{torn_done, length_written}
use Rattle.kd_device.specs.TimeLaws.{leaves_weaker}
use Rattle.kd_records.specs.declared.content.Content.{Content}
use Rattle.kd_records.specs.ChargeLaws.{block_upto}
use Rattle.kd_records.specs.Identity.{Identity, IsIdentity}
use Rattle.kdcfile_layout.specs.declared.page.PageWrite.{PageWrite}
use Rattle.kdcfile_layout.specs.Layout.{StandsAt, selector}
use Rattle.kdcfile_layout.specs.PartsLaws.{within_file, stands_below, stands_above, one_of_two}
use Rattle.kdcfile_layout.specs.CrashLaws.{all_keep}
use Rattle.kdcfile_layout.specs.Synced.{IsSynced}
use Rattle.kdcfile_layout.specs.Writes.{written_all, total, AllBelow, IsApart, Keeps, KeepsOrSelects, Selects}
use Rattle.device_tests.specs.File.{Stands, StandsFor, spelled, spelled_record, root, image_size, place, head}
use Rattle.device_tests.specs.declared.whole_store.image.Root.{Root}
use Rattle.device_tests.specs.Opened.{Opened, identity_of, renewed}
use Rattle.device_tests.specs.Commit.{spelled_root, other_place, image_write, staged, committed, Either}
use Rattle.device_tests.specs.HeadsLaws.{place_past}
use Rattle.kdcfile_layout.specs.CrashLaws.{byte_of, byte_stands}

pub spelled_some : (i : Identity) (x : Content) → 0 < length (spelled i x)
spelled_some i x =
    omega
    (arith, length-append (root i x) (flat_map spelled_record x.items), length-append (i.fingerprint ++ to_be_bytes w64 x.clock ++ to_be_bytes w64 x.next_job ++ to_be_bytes w32 i.pages ++ to_be_bytes w32 0 ++ to_be_bytes w32 (length x.items)) (codes "ROOT"))

-- the two images have no byte in common
images_apart : (i : Identity) (second : Bool) (n m : ℕ) → n ≤ image_size i → m ≤ image_size i → (place i second + n ≤ place i (not second)) ⊎ (place i (not second) + m ≤ place i second)
images_apart i false n m le ge = inl (omega (arith, le))
images_apart i true n m le ge = inr (omega (arith, ge))

module _ (i : Identity) (x : Content) (h c : List ℕ) where
  pub reaches : (second : Bool) → Stands i second x h → place i second + length (spelled i x) ≤ length h
  reaches second stands = within_file (place i second) (spelled i x) h stands.image (spelled_some i x)

  -- whatever is written as the other image, this one is kept
  pub other_kept : (second : Bool) (bytes : List ℕ) → length bytes ≤ image_size i → Stands i second x h → Keeps (record { at = place i (not second); bytes = bytes } ∷ []) h c → Stands i second x c
  other_kept second bytes le stands keeps =
      let end = reaches second stands in
      let long : 4097 ≤ length h = omega (arith, end, place_past i second) in
      let w : PageWrite = record { at = place i (not second); bytes = bytes } in
      let below : (q n : ℕ) → q + n ≤ 8192 → IsApart q n (w ∷ []) = λ q n fits. All-cons (λ (v : PageWrite). (q + n ≤ v.at) ⊎ (v.at + length v.bytes ≤ q)) w [] (inl (omega (arith, fits, place_past i (not second)))) (All-nil (λ (v : PageWrite). (q + n ≤ v.at) ⊎ (v.at + length v.bytes ≤ q))) in
      record {
        identity = stands.identity;
        content = stands.content;
        headed = keeps.stands 0 (head i) stands.headed (omega (arith, long)) (below 0 17 (omega arith));
        selected = ap (λ (n : ℕ). n % 2) (byte_of c (get_or h 4096 0) (keeps.stands 4096 (get_or h 4096 0 ∷ []) (byte_stands h long) long (below 4096 1 (omega arith)))) ∙ stands.selected;
        image =
            keeps.stands (place i second) (spelled i x) stands.image end
            (All-cons (λ (v : PageWrite). (place i second + length (spelled i x) ≤ v.at) ⊎ (v.at + length v.bytes ≤ place i second)) w [] (images_apart i second (length (spelled i x)) (length bytes) stands.inside le)
            (All-nil (λ (v : PageWrite). (place i second + length (spelled i x) ≤ v.at) ⊎ (v.at + length v.bytes ≤ place i second))));
        inside = stands.inside;
      }

-- any selector leaves head and image
parts_kept : (i : Identity) (x : Content) (second : Bool) (h c : List ℕ) → Torn 4096 4097 h c → StandsAt 0 (head i) h × StandsAt (place i second) (spelled i x) h → StandsAt 0 (head i) c × StandsAt (place i second) (spelled i x) c
parts_kept i x second h c torn parts = (
  stands_below 4096 4097 h c torn 0 (head i) parts.0 (omega arith),
  stands_above 4096 4097 h c torn (place i second) (spelled i x) parts.1 (omega (arith, place_past i second)),
)

torn_back : (from upto : ℕ) (h c : List ℕ) → Torn from upto h c → length c ≡ length h → Torn from upto c h
torn_back from upto h c torn same = record { before = sym torn.before; after = sym torn.after; no_shorter = omega arith; no_longer = omega arith }

module _ (i : Identity) (print : List ℕ) (x y : Content) where
  -- whatever the selector, it names one of two whole images
  chosen : (second : Bool) (h e c : List ℕ) → Stands i second x h → Stands (record i { fingerprint = print }) (not second) y e → StandsAt 0 (head i) c × StandsAt (place i second) (spelled i x) c → StandsAt 0 (head (record i { fingerprint = print })) c × StandsAt (place (record i { fingerprint = print }) (not second)) (spelled (record i { fingerprint = print }) y) c
      → Stands i second x c ⊎ Stands (record i { fingerprint = print }) (not second) y c
  chosen false h e c old new xs ys =
      ⊎_elim (λ even. inl (record { identity = old.identity; content = old.content; headed = xs.0; selected = even; image = xs.1; inside = old.inside }))
      (λ odd. inr (record { identity = new.identity; content = new.content; headed = ys.0; selected = odd; image = ys.1; inside = new.inside })) (one_of_two (get_or c 4096 0))
  chosen true h e c old new xs ys =
      ⊎_elim (λ even. inr (record { identity = new.identity; content = new.content; headed = ys.0; selected = even; image = ys.1; inside = new.inside }))
      (λ odd. inl (record { identity = old.identity; content = old.content; headed = xs.0; selected = odd; image = xs.1; inside = old.inside })) (one_of_two (get_or c 4096 0))

  -- an image is written, and then selected
  module _ (second : Bool) (h bytes : List ℕ) (old : Stands i second x h) (le : length bytes ≤ image_size i)
      (new : Stands (record i { fingerprint = print }) (not second) y (written (written h (place i (not second)) bytes) 4096 (selector (not second) ∷ []))) where
    abbrev w : PageWrite
    w = record { at = place i (not second); bytes = bytes }

    abbrev m : List ℕ
    m = written h (place i (not second)) bytes

    abbrev e : List ℕ
    e = written m 4096 (selector (not second) ∷ [])

    old_in_m : Stands i second x m
    old_in_m = other_kept i x h m second bytes le old (all_keep (w ∷ []) h)

    long : 4097 ≤ length m
    long = omega (arith, reaches i x m m second old_in_m, place_past i second)

    at_selector : (c : List ℕ) → Torn (min 4096 (length m)) 4097 m c → Torn 4096 4097 m c
    at_selector c torn = subst (λ (n : ℕ). Torn n 4097 m c) (omega (arith, long)) torn

    new_parts : StandsAt 0 (head (record i { fingerprint = print })) m × StandsAt (place (record i { fingerprint = print }) (not second)) (spelled (record i { fingerprint = print }) y) m
    new_parts =
        parts_kept (record i { fingerprint = print }) y (not second) e m
        (torn_back 4096 4097 m e (at_selector e (torn_done m 4096 (selector (not second) ∷ []))) (omega (arith, length_written m 4096 (selector (not second) ∷ []), long)))
        (new.headed, new.image)

    selector_torn : (c : List ℕ) → Torn 4096 4097 m c → Stands i second x c ⊎ Stands (record i { fingerprint = print }) (not second) y c
    selector_torn c torn =
        chosen second m e c old_in_m new (parts_kept i x second m c torn (old_in_m.headed, old_in_m.image)) (parts_kept (record i { fingerprint = print }) y (not second) m c torn new_parts)

    pub either : (c : List ℕ) → KeepsOrSelects (w ∷ []) h c → StandsFor i x c ⊎ StandsFor (record i { fingerprint = print }) y c
    either c (inl keeps) = inl (second, other_kept i x h c second bytes le old keeps)
    either c (inr torn) = ⊎_elim (λ s. inl (second, s)) (λ s. inr (not second, s)) (selector_torn c (at_selector c torn))

-- the whole of a commit
module _ (o : Opened) (body : List ℕ) (root : Root) (writes : List PageWrite) (is : writes ≡ image_write o body root ∷ []) (long : length (spelled_root root) ≡ 64) (inside : 64 + length body ≤ image_size (identity_of o)) where
  whole : length (spelled_root root ++ body) ≡ 64 + length body
  whole = omega (arith, length-append (spelled_root root) body, long)

  written_total : total writes ≡ 64 + length body
  written_total = ap (λ (ws : List PageWrite). total ws) is ∙ sum_by-cons (λ (v : PageWrite). length v.bytes) (image_write o body root) [] ∙ omega (arith, whole)

  pub few : IsIdentity (identity_of o) → total writes < 2 ^ 63
  few known = omega (arith, written_total, inside, mul-le-mul_left o.blksize known.most, block_upto o.blksize known.blksize)

  pub below : (end : ℕ) → end ≡ other_place o + image_size (identity_of o) → AllBelow end writes
  below end end_is =
      let P : PageWrite → Type 0 = λ v. v.at + length v.bytes ≤ end in
      subst (λ (ws : List PageWrite). AllBelow end ws) (sym is) (All-cons P (image_write o body root) [] (omega (arith, whole, inside, end_is)) (All-nil P))

  pub put : (n : ℕ) (new : List ℕ) (a b : State) (lb : ℕ → List ℕ → List ℕ → Type 0) → n ≡ total writes + 1 → IsSynced n new a b lb → b.put ≡ a.put + length body + 65
  put n new a b lb n_is synced = omega (arith, synced.put, n_is, written_total)

  pub holds : (h c : List ℕ) (byte : ℕ) → byte ≡ selector (not o.second) → c ≡ written (written_all h writes) 4096 (byte ∷ []) → c ≡ committed o body root h
  holds h c byte byte_is e = e ∙ ap (λ (ws : List PageWrite). written (written_all h ws) 4096 (byte ∷ [])) is ∙ ap (λ (n : ℕ). written (staged o body root h) 4096 (n ∷ [])) byte_is

  module _ (a b : State) (la lb : ℕ → List ℕ → List ℕ → Type 0) (selects : Selects writes a b la lb) where
    pub put_most : b.put ≤ a.put + length body + 65
    put_most = omega (arith, selects.put, written_total)

    pub any_moment : (x y : Content) → Stands (identity_of o) o.second x a.holds → Stands (renewed o root) (not o.second) y (committed o body root a.holds) → LeavesOnly a b la lb (Either (identity_of o) x (renewed o root) y a.sent)
    any_moment x y old new =
        leaves_weaker a b la lb (λ c out. (out ≡ a.sent) × KeepsOrSelects writes a.holds c) (Either (identity_of o) x (renewed o root) y a.sent) selects.leaves
        (λ c out left.
        (left.0, either (identity_of o) root.fingerprint x y o.second a.holds (spelled_root root ++ body) old (omega (arith, whole, inside)) new c (subst (λ (ws : List PageWrite). KeepsOrSelects ws a.holds c) is left.1)))
