-- What a stop within a commit of pages leaves: the old image or the new one.
use Rattle.std.proofs.Common.{[], ◌≡◌, ◌⊎◌, inl, inr, ⊎_elim, ℕ, ◌+◌, ◌-◌, ◌*◌, ◌/◌, ◌%◌, ◌<◌, ◌≤◌, min, Bool, true, false, not, List, ◌∷◌, ◌++◌, length, take, drop, get_or, refl, ap, sym, subst, ◌∙◌}
use Rattle.std.proofs.Common.{arith, length-append}
use Rattle.std.specs.Prelude.{codes}
use Rattle.std.specs.List.{flat_map}
use Rattle.std.specs.Int.{w32, w64, to_be_bytes}
use Rattle.std.proofs.lemmas.Grind.{common_steps}
use Rattle.std.proofs.lemmas.List.{drop_more, get_or-take, get_or-drop}
use Rattle.std.proofs.lemmas.List.Elements.{All-head, All-tail}
use Rattle.kd_device.specs.Device.{Torn, written}
use Rattle.kd_device.specs.TornLaws.{length_written, torn_done}
use Rattle.kd_records.specs.declared.content.Content.{Content}
use Rattle.kd_records.specs.Identity.{Identity}
use Rattle.kd_records.specs.Charge.{IsBlockSize}
use Rattle.kdcfile_layout.specs.Layout.{StandsAt, selector, Layout, Part, PartStands, Name, InRoot, InChain, Names, IsImage, Stands, StandsFor, root_place, page_place, slots_in_page, head, root}
use Rattle.kdcfile_layout.specs.Layout.{directory_text}
use Rattle.kdcfile_layout.specs.PartsLaws.{within_file, stands_below, stands_above, one_of_two}
use Rattle.kdcfile_layout.specs.WrittenLaws.{written_stands, below_write, above_write}
use Rattle.kdcfile_layout.specs.declared.page.PageWrite.{PageWrite}
use Rattle.kdcfile_layout.specs.WritesLaws.{longer}
use Rattle.kdcfile_layout.specs.Writes.{written_all, IsApart, Keeps, KeepsOrSelects}
use Rattle.kdcfile_layout.specs.PagesLaws.{parts_named}
use Rattle.kdcfile_layout.specs.Crash.{AllFree, KeepsImage}

-- ---- sizes

pub per_root : (b pages : ℕ) → IsBlockSize b → pages ≤ 30000 → (pages + (b / 32 - 1)) / (b / 32) ≤ 469
per_root b pages is most =
    elim is [
      | inl e ↦ rw e (omega arith)
      | inr h ↦ elim h [ inl e ↦ rw e (omega arith) | inr e ↦ rw e (omega arith) ]
    ]

pub some_slots : (b : ℕ) → IsBlockSize b → 0 < slots_in_page b
some_slots b is =
    elim is [
      | inl e ↦ rw e (omega arith)
      | inr h ↦ elim h [ inl e ↦ rw e (omega arith) | inr e ↦ rw e (omega arith) ]
    ]

-- page numbers take four bytes each
pub length_page_numbers : (ps : List ℕ) → length (flat_map (λ p. to_be_bytes w32 p) ps) ≡ 4 * length ps
length_page_numbers [] = omega arith
length_page_numbers (p ∷ ps) = omega (arith, length-append (to_be_bytes w32 p) (flat_map (λ (q : ℕ). to_be_bytes w32 q) ps), length_page_numbers ps)

pub length_root : (i : Identity) (x : Content) (directory : List ℕ) → length i.fingerprint ≡ 32 → length (root i x directory) ≡ 64 + 4 * length directory
length_root i x directory print =
    let front = i.fingerprint ++ to_be_bytes w64 x.clock ++ to_be_bytes w64 x.next_job ++ to_be_bytes w32 i.pages ++ to_be_bytes w32 (length directory) ++ to_be_bytes w32 (length x.items) ++ codes "ROOT" in
    let long : length front ≡ 64 = grind (arith, common_steps) in
    omega (arith, length-append front (flat_map (λ (p : ℕ). to_be_bytes w32 p) directory), long, length_page_numbers directory)

-- ---- writes leave what is apart from them

part_left : (ws : List PageWrite) (h : List ℕ) (q : ℕ) (part : List ℕ) → StandsAt q part h → q + length part ≤ length h → IsApart q (length part) ws → StandsAt q part (written_all h ws)
part_left [] h q part stands inside apart = stands
part_left (w ∷ ws) h q part stands inside apart =
    let P : PageWrite → Type 0 = λ v. (q + length part ≤ v.at) ⊎ (v.at + length v.bytes ≤ q) in
    part_left ws (written h w.at w.bytes) q part
    (⊎_elim (λ below. below_write h w.at w.bytes q part stands below inside) (λ above. above_write h w.at w.bytes q part stands above) (All-head P w ws apart))
    (omega (arith, inside, length_written h w.at w.bytes)) (All-tail P w ws apart)

pub all_keep : (ws : List PageWrite) (h : List ℕ) → Keeps ws h (written_all h ws)
all_keep ws h = record { stands = λ q part stands inside apart. part_left ws h q part stands inside apart; no_shorter = longer ws h }

root_at : (second : Bool) → 8192 ≤ root_place second
root_at true = omega arith
root_at false = omega arith

module _ (i : Identity) (second : Bool) (x : Content) (l : Layout) (h : List ℕ) (image : IsImage i second x l h) where
  pub root_fits : length (root i x l.directory) ≤ 8192
  root_fits = omega (arith, length_root i x l.directory image.identity.fingerprint, image.layout.directory, per_root i.blksize i.pages image.identity.blksize image.identity.most)

  pub root_inside : root_place second + length (root i x l.directory) ≤ length h
  root_inside = within_file (root_place second) (root i x l.directory) h image.root (omega (arith, length_root i x l.directory image.identity.fingerprint))

  pub long : 8256 ≤ length h
  long = omega (arith, root_inside, root_at second, length_root i x l.directory image.identity.fingerprint)

  image_kept : (c : List ℕ) → KeepsImage i.blksize second l h c → IsImage i second x l c
  image_kept c kept = record {
    identity = image.identity;
    content = image.content;
    layout = image.layout;
    headed = kept.first (head i) (omega arith) image.headed (omega (arith, long));
    root = kept.root (root i x l.directory) root_fits image.root root_inside;
    directory = λ k p at. part (InRoot k) (p, directory_text i.blksize k l.slots) at (image.directory k p at);
    chains = λ s b v at found.
        let stood = image.chains s b v at found in
        let named = parts_named (i.blksize - 48) b.key (length v) 0 v b.pages in
        λ n e lt. part (InChain s (named n e lt).0) _ (b, at, (named n e lt).1) (stood n e lt);
  }
    where
      part : (u : Name) (q : Part) → Names l u q.0 → PartStands i.blksize h q → PartStands i.blksize c q
      part u q named stands = record {
        stands = kept.page u q.0 q.1 named stands.fits stands.stands (omega (arith, stands.fits, stands.inside));
        fits = stands.fits;
        inside = omega (arith, stands.inside, kept.no_shorter);
      }

-- ---- by writes elsewhere

module _ (size : ℕ) (second : Bool) (l : Layout) (ws : List PageWrite) (free : AllFree size second l ws) where
  -- each write is of the other root or of pages
  apart_first : (at n : ℕ) → at + n ≤ 8192 → IsApart at n ws
  apart_first at n le k w lt = ⊎_elim (λ r. inl (omega (arith, r.0, root_at (not second), le))) (λ p. inl (omega (arith, p.0, le))) (free k w lt)

  apart_root : (n : ℕ) → n ≤ 8192 → IsApart (root_place second) n ws
  apart_root n le k w lt = ⊎_elim (λ r. roots second _ _ n le r.0 r.1) (λ p. inl (omega (arith, p.0, le, root_end second))) (free k w lt)
    where
      root_end : (b : Bool) → root_place b + 8192 ≤ 24576
      root_end true = omega arith
      root_end false = omega arith

      roots : (b : Bool) (at m n : ℕ) → n ≤ 8192 → at ≡ root_place (not b) → m ≤ 8192 → (root_place b + n ≤ at) ⊎ (at + m ≤ root_place b)
      roots true at m n le is small = inr (omega (arith, is, small))
      roots false at m n le is small = inl (omega (arith, is, le))

  apart_page : (u : Name) (p n : ℕ) → Names l u p → n ≤ size → IsApart (page_place size p) n ws
  apart_page u p n named le k w lt =
      ⊎_elim
      (λ r. inr (omega (arith, r.0, r.1, root_upto (not second))))
      (λ q. ⊎_elim (λ a. inl (omega (arith, a, le))) (λ b. inr b) (q.1 u p named))
      (free k w lt)
    where
      root_upto : (b : Bool) → root_place b ≤ 16384
      root_upto true = omega arith
      root_upto false = omega arith

  kept_apart : (h c : List ℕ) → Keeps ws h c → KeepsImage size second l h c
  kept_apart h c keeps = record {
    first = λ part le stands inside. keeps.stands 0 part stands (omega (arith, inside)) (apart_first 0 (length part) (omega (arith, le)));
    root = λ part le stands inside. keeps.stands (root_place second) part stands inside (apart_root (length part) le);
    page = λ u p part named le stands inside. keeps.stands (page_place size p) part stands inside (apart_page u p (length part) named le);
    no_shorter = keeps.no_shorter;
  }

kept_selector : (size : ℕ) (second : Bool) (l : Layout) (h c : List ℕ) → Torn 4096 4097 h c → KeepsImage size second l h c
kept_selector size second l h c torn = record {
  first = λ part le stands inside. stands_below 4096 4097 h c torn 0 part stands (omega (arith, le));
  root = λ part le stands inside. stands_above 4096 4097 h c torn (root_place second) part stands (omega (arith, root_at second));
  page = λ u p part named le stands inside. stands_above 4096 4097 h c torn (page_place size p) part stands (omega arith);
  no_shorter = torn.no_shorter;
}

pub byte_stands : (h : List ℕ) → 4097 ≤ length h → StandsAt 4096 (get_or h 4096 0 ∷ []) h
byte_stands h inside = ap (λ (t : List ℕ). take 1 t) (drop_more h 4096 0 (omega arith))

pub byte_of : (c : List ℕ) (b : ℕ) → StandsAt 4096 (b ∷ []) c → get_or c 4096 0 ≡ b
byte_of c b stands = sym (get_or-drop 4096 c 0 0) ∙ sym (get_or-take 1 (drop 4096 c) 0 0 (omega arith)) ∙ ap (λ (t : List ℕ). get_or t 0 0) stands

pub small : (b : Bool) → selector b % 2 ≡ selector b
small true = refl
small false = refl

-- the image that is not written over
pub image_after : (i : Identity) (second : Bool) (x : Content) (l : Layout) (h : List ℕ) → Stands i second x l h → (ws : List PageWrite) → AllFree i.blksize second l ws → IsImage i second x l (written_all h ws)
image_after i second x l h stands ws free = image_kept i second x l h stands.image (written_all h ws) (kept_apart i.blksize second l ws free h (written_all h ws) (all_keep ws h))

-- ---- the commit

module _ (i j : Identity) (second : Bool) (x y : Content) (l m : Layout) (ws : List PageWrite) (h : List ℕ) (old : Stands i second x l h) (free : AllFree i.blksize second l ws) (new : IsImage j (not second) y m (written_all h ws)) where
  -- before the selector a stop leaves the old image
  pub old_left : (c : List ℕ) → Keeps ws h c → Stands i second x l c
  old_left c keeps =
      let inside : 4097 ≤ length h = omega (arith, long i second x l h old.image) in
      record {
        selected = ap (λ (n : ℕ). n % 2) (byte_of c (get_or h 4096 0) (keeps.stands 4096 (get_or h 4096 0 ∷ []) (byte_stands h inside) inside (apart_first i.blksize second l ws free 4096 1 (omega arith)))) ∙ old.selected;
        image = image_kept i second x l h old.image c (kept_apart i.blksize second l ws free h c keeps);
      }

  old_staged : Stands i second x l (written_all h ws)
  old_staged = old_left (written_all h ws) (all_keep ws h)

  -- with any selector, the old one or the new one
  chosen : (b : Bool) (c : List ℕ) → IsImage i b x l c → IsImage j (not b) y m c → StandsFor i x c ⊎ StandsFor j y c
  chosen false c was now =
      ⊎_elim (λ e. inl (false, l, record { selected = e; image = was })) (λ e. inr (true, m, record { selected = e; image = now })) (one_of_two (get_or c 4096 0))
  chosen true c was now =
      ⊎_elim (λ e. inr (false, m, record { selected = e; image = now })) (λ e. inl (true, l, record { selected = e; image = was })) (one_of_two (get_or c 4096 0))

  at_selector : (c : List ℕ) → Torn (min 4096 (length (written_all h ws))) 4097 (written_all h ws) c → Torn 4096 4097 (written_all h ws) c
  at_selector c torn = subst (λ (n : ℕ). Torn n 4097 (written_all h ws) c) (omega (arith, long i second x l (written_all h ws) old_staged.image)) torn

  pub either : (c : List ℕ) → KeepsOrSelects ws h c → StandsFor i x c ⊎ StandsFor j y c
  either c (inl keeps) = inl (second, l, old_left c keeps)
  either c (inr torn) =
      chosen second c
      (image_kept i second x l (written_all h ws) old_staged.image c (kept_selector i.blksize second l (written_all h ws) c (at_selector c torn)))
      (image_kept j (not second) y m (written_all h ws) new c (kept_selector j.blksize (not second) m (written_all h ws) c (at_selector c torn)))

  -- and in the end the new one
  pub done : Stands j (not second) y m (written (written_all h ws) 4096 (selector (not second) ∷ []))
  done =
      let c = written (written_all h ws) 4096 (selector (not second) ∷ []) in
      record {
        selected = ap (λ (n : ℕ). n % 2) (byte_of c (selector (not second)) (written_stands (written_all h ws) 4096 (selector (not second) ∷ []))) ∙ small (not second);
        image = image_kept j (not second) y m (written_all h ws) new c (kept_selector j.blksize (not second) m (written_all h ws) c (at_selector c (torn_done (written_all h ws) 4096 (selector (not second) ∷ []))));
      }
