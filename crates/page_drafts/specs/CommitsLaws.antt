-- A commit of a prepared patch: from what is stored a draft can be prepared; what it writes is, with the root, the
-- other image; and with its pages used and the freed ones free, all is stored as before.
use Rattle.std.proofs.Common.{◌≡◌, ⊎_elim, ℕ, zero, suc, ◌+◌, ◌-◌, ◌*◌, ◌/◌, ◌<◌, ◌≤◌, min, Bool, true, false, not, List, [], ◌∷◌, length, take, Some, None, refl, ap, sym, subst, ◌∙◌, arith}
use Rattle.std.specs.Prelude.{All, IsTrue}
use Rattle.std.specs.FinMap.{is_sorted}
use Rattle.std.proofs.Math.Nat.{mul-le-mul_left}
use Rattle.std.proofs.lemmas.Nat.{div-add-mod', mod_below}
use Rattle.std.proofs.lemmas.List.{length-take}
use Rattle.std.proofs.lemmas.List.Elements.{All-nil, All-weaker}
use Rattle.kd_device.specs.Device.{written}
use Rattle.kd_device.specs.TornLaws.{length_written}
use Rattle.kd_records.specs.declared.content.Content.{Content}
use Rattle.kd_records.specs.Keys.{key_cmp}
use Rattle.kd_records.specs.Contents.{Record, Change, changed_all, IsContent}
use Rattle.kd_records.specs.Charge.{total_charge}
use Rattle.kd_records.specs.ChargeLaws.{length_within}
use Rattle.kd_records.specs.Identity.{Identity, IsIdentity}
use Rattle.kdcfile_layout.specs.Places.{At, IsDistinct}
use Rattle.kdcfile_layout.specs.PlacesLaws.{no_item, at_one, at_within, at_take}
use Rattle.kdcfile_layout.specs.Pools.{ArePlanned, flagged, free_count}
use Rattle.kdcfile_layout.specs.PoolsLaws.{length_flagged, flag_kept, flag_set, flag_stays, count_settled}
use Rattle.kdcfile_layout.specs.declared.page.PageWrite.{PageWrite}
use Rattle.kdcfile_layout.specs.Layout.{StandsAt, Layout, Part, PartStands, IsLayout, IsImage, Stands, root_place, page_place, page_count, slots_in_page, head, root, directory_text, record_parts}
use Rattle.kdcfile_layout.specs.Layout.{chain_pages}
use Rattle.kdcfile_layout.specs.WrittenLaws.{written_stands, below_write, above_write}
use Rattle.kdcfile_layout.specs.Writes.{written_all, total}
use Rattle.kdcfile_layout.specs.Crash.{AllFree}
use Rattle.kdcfile_layout.specs.CrashLaws.{per_root, some_slots, length_root, image_after, all_keep, long}
use Rattle.kdcfile_layout.specs.Bound.{put_charge}
use Rattle.kdcfile_layout.specs.Stored.{IsStored}
use Rattle.page_drafts.specs.ChargedLaws.{put_charged}
use Rattle.page_drafts.specs.Drafts.{IsUnnamed, Drafted}
use Rattle.page_drafts.specs.Drafting.{Drafting, IsOnPlan, IsDraft, unprepared}
use Rattle.page_drafts.specs.Freed.{AreFreed}
use Rattle.page_drafts.specs.OnPlanLaws.{total_most, pages_there, plan_free}
use Rattle.page_drafts.specs.Prepared.{CanPrepare, Prepared}
use Rattle.page_drafts.specs.PreparedLaws.{begun_anywhere}

-- ---- a draft begins as an image, and ends as the other one

pub begun_in : (i : Identity) (second : Bool) (x : Content) (l : Layout) (h : List ℕ) (plan : List ℕ) (long : ℕ) → long ≤ length h → IsImage i second x l h → chain_pages l.slots ≡ total_charge i.blksize x.items → IsUnnamed l plan → IsDraft i.blksize i.pages x.items plan (Some h) (unprepared long l)
begun_in i second x l h plan long le image charged unnamed = record {
  drafted = record {
    ascending = image.content.ascending;
    charged = charged;
    layout = image.layout;
    unplanned = λ u p n names le at. unnamed u p n names at;
    directory = λ k p at clean. image.directory k p at;
    chains = image.chains;
  };
  on_plan = All-nil (IsOnPlan i.blksize plan);
  count = omega arith;
  long = le;
}

-- with no stale page, and the root written, it is the other image
module _ (i : Identity) (is : IsIdentity i) (second : Bool) (y : Content) (m : Layout) (stale : List Bool) (plan : List ℕ) (t : ℕ) (h : List ℕ) (d : Drafted i.blksize i.pages y.items m stale plan t (Some h)) (clean : (k : ℕ) → k < length m.directory → At stale k false) (headed : StandsAt 0 (head i) h) (whole : 8256 ≤ length h)
    (fits : IsContent y) where
  root_upto : length (root i y m.directory) ≤ 8192
  root_upto = omega (arith, length_root i y m.directory is.fingerprint, d.layout.directory, per_root i.blksize i.pages is.blksize is.most)

  place_upto : (b : Bool) → (8192 ≤ root_place b) × (root_place b ≤ 16384)
  place_upto true = (omega arith, omega arith)
  place_upto false = (omega arith, omega arith)

  part : (q : Part) → PartStands i.blksize h q → PartStands i.blksize (written h (root_place (not second)) (root i y m.directory)) q
  part q stands = record {
    stands = above_write h (root_place (not second)) (root i y m.directory) (page_place i.blksize q.0) q.1 stands.stands (omega (arith, root_upto, (place_upto (not second)).1));
    fits = stands.fits;
    inside = omega (arith, stands.inside, length_written h (root_place (not second)) (root i y m.directory));
  }

  pub ended : IsImage i (not second) y m (written h (root_place (not second)) (root i y m.directory))
  ended = record {
    identity = is;
    content = fits;
    layout = d.layout;
    headed = below_write h (root_place (not second)) (root i y m.directory) 0 (head i) headed (omega (arith, (place_upto (not second)).0)) (omega (arith, whole));
    root = written_stands h (root_place (not second)) (root i y m.directory);
    directory = λ k p at. part (p, directory_text i.blksize k m.slots) (d.directory k p at (clean k (at_within m.directory k p at)));
    chains = λ s c v at found. All-weaker (PartStands i.blksize h) (PartStands i.blksize (written h (root_place (not second)) (root i y m.directory))) part (record_parts i.blksize v c) (d.chains s c v at found);
  }

take_at_front : (xs : List ℕ) (n a x : ℕ) → At xs a x → a < n → At (take n xs) a x
take_at_front xs zero a x at lt = absurd (omega (arith, lt))
take_at_front [] (suc n) a x at lt = absurd (no_item a x at)
take_at_front (y ∷ xs) (suc n) zero x at lt = at
take_at_front (y ∷ xs) (suc n) (suc a) x at lt = take_at_front xs n a x at (omega (arith, lt))

-- ---- from what is stored a draft can be prepared

-- so many pages of s slots have n slots
pub slots_cover : (n s : ℕ) → 0 < s → n ≤ (n + (s - 1)) / s * s
slots_cover n s some = omega (arith, div-add-mod' (n + (s - 1)) s, mod_below (n + (s - 1)) s some)

module _ (i : Identity) (x : Content) (l : Layout) (used : List Bool) (stored : IsStored i x l used) (changes : List Change) (sorted : IsTrue (is_sorted key_cmp changes)) (before : total_charge i.blksize x.items ≤ i.pages) (fits : total_charge i.blksize (changed_all x.items changes) ≤ i.pages) where
  -- a plan has its pages
  pub plan_fits : put_charge i.blksize changes + min (length changes) (length l.directory) ≤ free_count used
  plan_fits = omega (arith, stored.free, before, fits, put_charged i.blksize x.items changes stored.content.ascending sorted, stored.layout.directory)

  module _ (needed : ℕ) (plan : List ℕ) (planned : ArePlanned used needed plan) where
    plan_unnamed : IsUnnamed l plan
    plan_unnamed u p n named at = true_false (at_one used p true false (stored.named u p named) (planned.clear n p at))
      where
        true_false : true ≡ false → ⊥
        true_false e = cc

    pub can_prepare : CanPrepare i.blksize i.pages x.items plan changes l
    can_prepare = record {
      planned = record { distinct = planned.distinct; below = λ n p at. omega (arith, at_within used p false (planned.clear n p at), stored.pages) };
      unnamed = plan_unnamed;
      layout = stored.layout;
      charged = stored.charged;
      ascending = stored.content.ascending;
      changes_ascending = sorted;
      slots =
          omega (
            arith,
            length_within i.blksize (changed_all x.items changes),
            fits,
            stored.layout.slots,
            slots_cover i.pages (slots_in_page i.blksize) (some_slots i.blksize stored.identity.blksize),
          );
    }

    module _ (at_least : ℕ) (e : Drafting) (made : Prepared i.blksize at_least plan changes l e) where
      now : IsDraft i.blksize i.pages (changed_all x.items changes) plan None e
      now = made.draft i.pages x.items None can_prepare (begun_anywhere i.blksize i.pages x.items plan changes l can_prepare at_least)

      are : AreFreed l plan e.layout e.taken e.freed
      are = made.freed i.pages x.items can_prepare

      -- ---- the pages that are written

      pub are_pages : All (λ (w : PageWrite). (p : ℕ) × (p < page_count i.blksize i.pages) × (w.at ≡ page_place i.blksize p) × (length w.bytes ≤ i.blksize)) e.writes
      are_pages = pages_there i.blksize i.pages plan can_prepare.planned e.writes now.on_plan

      pub count_pages : length e.writes ≡ e.taken
      count_pages = now.count

      pub bytes_most : total e.writes ≤ i.blksize * (put_charge i.blksize changes + length changes)
      bytes_most = let le : e.taken ≤ put_charge i.blksize changes + length changes = made.most in omega (arith, ap (λ (n : ℕ). n * i.blksize) now.count, total_most i.blksize plan e.writes now.on_plan, mul-le-mul_left i.blksize le)

      pub pages_free : (second : Bool) → AllFree i.blksize second l e.writes
      pages_free second = plan_free i.blksize plan e.writes now.on_plan second l plan_unnamed

      -- ---- the pages that become used, and those that become free

      length-taken : length (take e.taken plan) ≡ e.taken
      length-taken = omega (arith, length-take e.taken plan, made.enough)

      pub taken_planned : ArePlanned used (length (take e.taken plan)) (take e.taken plan)
      taken_planned = record {
        count = refl;
        distinct = λ a b p h k. planned.distinct a b p (at_take plan e.taken a p h).0 (at_take plan e.taken b p k).0;
        clear = λ n p h. planned.clear n p (at_take plan e.taken n p h).0;
      }

      pub freed_once : IsDistinct e.freed
      freed_once = are.distinct

      pub freed_used : (n p : ℕ) → At e.freed n p → At used p true
      freed_used n p at = let was = are.named n p at in stored.named was.0 p was.1

      module _ (y : Content) (content : IsContent y) (items : y.items ≡ changed_all x.items changes) where
        laid_out : IsLayout i.blksize i.pages y.items e.layout
        laid_out = subst (λ (xs : List Record). IsLayout i.blksize i.pages xs e.layout) (sym items) now.drafted.layout

        -- with its pages used and the freed ones free, the new content is stored as the old one was
        pub stored_after : IsStored i y e.layout (flagged false (flagged true used (take e.taken plan)) e.freed)
        stored_after = record {
          identity = stored.identity;
          content = content;
          layout = laid_out;
          charged = now.drafted.charged ∙ ap (λ (xs : List Record). total_charge i.blksize xs) (sym items);
          pages = length_flagged false e.freed (flagged true used (take e.taken plan)) ∙ length_flagged true (take e.taken plan) used ∙ stored.pages;
          named = λ u p named.
              flag_kept false e.freed (flagged true used (take e.taken plan)) p true (λ n at. are.unnamed u p n named at)
              (⊎_elim
              (λ was. flag_stays (take e.taken plan) used p (stored.named was.0 p was.1))
              (λ new. flag_set (take e.taken plan) used new.0 p (take_at_front plan e.taken new.0 p new.1 new.2) (at_within used p false (planned.clear new.0 p new.1)))
              (are.kept u p named));
          free =
              omega (
                arith,
                stored.free,
                stored.charged,
                stored.layout.directory,
                now.drafted.charged,
                ap (λ (xs : List Record). total_charge i.blksize xs) items,
                now.drafted.layout.directory,
                are.count,
                count_settled used (take e.taken plan) e.freed taken_planned freed_once freed_used,
                length-taken,
              );
        }

      -- ---- the other image

      module _ (second : Bool) (h : List ℕ) (le : at_least ≤ length h) (stands : Stands i second x l h) (y : Content) (content : IsContent y) (items : y.items ≡ changed_all x.items changes) (print : List ℕ) (identity : IsIdentity (record i { fingerprint = print })) where
        -- the file with the pages, and with the root of this fingerprint as the other one, has the new content's image
        pub would_be : IsImage (record i { fingerprint = print }) (not second) y e.layout (written (written_all h e.writes) (root_place (not second)) (root (record i { fingerprint = print }) y e.layout.directory))
        would_be =
            let image = stands.image in
            let begun : IsDraft i.blksize i.pages x.items plan (Some h) (unprepared at_least l) = begun_in i second x l h plan at_least le image stored.charged plan_unnamed in
            let draft = subst (λ (xs : List Record). IsDraft i.blksize i.pages xs plan (Some h) e) (sym items) (made.draft i.pages x.items (Some h) can_prepare begun) in
            let old = image_after i second x l h stands e.writes (pages_free second) in
            ended (record i { fingerprint = print }) identity second y e.layout e.stale plan e.taken (written_all h e.writes) draft.drafted made.clean old.headed (omega (arith, long i second x l h image, (all_keep e.writes h).no_shorter)) content
