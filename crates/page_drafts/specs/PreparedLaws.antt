-- A patch is prepared whole.
use Rattle.std.proofs.Common.{◌≡◌, ℕ, ◌+◌, ◌*◌, ◌≤◌, min, Bool, false, cond, List, length, Option, None, ap, sym, subst, ◌∙◌, arith}
use Rattle.std.specs.Prelude.{replicate}
use Rattle.std.specs.List.{count_by}
use Rattle.std.proofs.lemmas.List.{length-replicate}
use Rattle.std.proofs.lemmas.List.Folds.{sum_by-replicate}
use Rattle.std.proofs.lemmas.List.Sums.{count_by-le-length}
use Rattle.std.proofs.lemmas.List.Elements.{All-nil}
use Rattle.kd_records.specs.Contents.{Record, Change}
use Rattle.kdcfile_layout.specs.Places.{At}
use Rattle.kdcfile_layout.specs.declared.chain.Chain.{Chain}
use Rattle.kdcfile_layout.specs.Layout.{Layout, slots_in_page}
use Rattle.kdcfile_layout.specs.Bound.{put_charge}
use Rattle.page_drafts.specs.Drafting.{Drafting, IsSized, IsOnPlan, IsDraft, stale_pages, unprepared}
use Rattle.page_drafts.specs.DraftRuns.{removed_all, put_all, RemovesAll, PutsAll, HasRoom, Freshens}
use Rattle.page_drafts.specs.FreedLaws.{none_freed}
use Rattle.page_drafts.specs.PassesLaws.{two_passes, passes_count, ascending_once}
use Rattle.page_drafts.specs.Prepared.{CanPrepare, Prepared}

none_stale : (n : ℕ) → count_by (λ b. b) (replicate n false) ≡ 0
none_stale n = omega (arith, sum_by-replicate (λ (b : Bool). cond b 1 0) n false)

module _ (size pool : ℕ) (items : List Record) (plan : List ℕ) (changes : List Change) (l : Layout) (can : CanPrepare size pool items plan changes l) (long : ℕ) where
  -- a draft of what is there, on any device
  pub begun_anywhere : IsDraft size pool items plan None (unprepared long l)
  begun_anywhere = record {
    drafted = record {
      ascending = can.ascending;
      charged = can.charged;
      layout = can.layout;
      unplanned = λ u p n names le at. can.unnamed u p n names at;
      directory = λ k p at clean. tt;
      chains = λ s c v at found. λ n e lt. tt;
    };
    on_plan = All-nil (IsOnPlan size plan);
    count = omega arith;
    long = tt;
  }

  pub begun_sized : IsSized size (unprepared long l)
  begun_sized = record {
    stale = length-replicate (length l.directory) false;
    slots = can.layout.slots ∙ ap (λ (n : ℕ). n * slots_in_page size) (sym can.layout.directory);
  }

module _ (size long : ℕ) (plan : List ℕ) (changes : List Change) (l : Layout) (e : Drafting) (removes : RemovesAll size changes (unprepared long l) e) where
  pub room_after : (pool : ℕ) (items : List Record) → CanPrepare size pool items plan changes l → HasRoom size pool (removed_all items changes) plan changes e
  room_after pool items can = record {
    planned = can.planned;
    draft = removes.draft pool items plan None can.planned (begun_anywhere size pool items plan changes l can long);
    slots = omega (arith, ap (λ (xs : List Record). length xs) (two_passes items changes can.ascending can.changes_ascending), can.slots, removes.slots);
  }

  module _ (f : Drafting) (puts : PutsAll size plan changes e f) where
    stale_most : stale_pages f ≤ length changes
    stale_most = omega (arith, puts.stale, removes.stale, none_stale (length l.directory), passes_count changes)

    same_directory : f.layout.directory ≡ l.directory
    same_directory = puts.directory ∙ removes.directory

    stale_within : stale_pages f ≤ length l.directory
    stale_within = omega (arith, count_by-le-length (λ (b : Bool). b) f.stale, puts.sized.stale, ap (λ (d : List ℕ). length d) same_directory)

    pub pages_after : put_charge size changes + min (length changes) (length l.directory) ≤ length plan → f.taken + stale_pages f ≤ length plan
    pages_after enough = omega (arith, puts.taken, removes.taken, enough, stale_most, stale_within)

    pub prepared : (g : Drafting) → put_charge size changes + min (length changes) (length l.directory) ≤ length plan → Freshens size plan (length f.layout.directory) f g → Prepared size long plan changes l g
    prepared g enough freshens = record {
      draft = λ pool items file can draft.
          let first = removes.draft pool items plan file can.planned draft in
          let second = puts.draft pool (removed_all items changes) file can.planned first in
          subst (λ (xs : List Record). IsDraft size pool xs plan file g) (two_passes items changes can.ascending can.changes_ascending) (freshens.draft pool (put_all (removed_all items changes) changes) file can.planned second);
      clean = λ k lt. freshens.clean k (omega (arith, lt, freshens.directory));
      most = omega (arith, freshens.weight, stale_most, puts.taken, removes.taken);
      enough = omega (arith, freshens.weight, pages_after enough);
      directory = freshens.directory ∙ ap (λ (d : List ℕ). length d) same_directory;
      slots = ap (λ (s : List (Option Chain)). length s) freshens.slots ∙ puts.slots ∙ removes.slots;
      freed = λ pool items can.
          let none = begun_anywhere size pool items plan changes l can long in
          let first = removes.draft pool items plan None can.planned none in
          let second = puts.draft pool (removed_all items changes) None can.planned first in
          freshens.freed pool (put_all (removed_all items changes) changes) None l can.planned second can.unnamed (λ j p le at. subst (λ (d : List ℕ). At d j p) same_directory at)
          (puts.freed pool (removed_all items changes) None l can.planned (ascending_once changes can.changes_ascending) first can.unnamed removes.chains
          (removes.freed pool items plan None l can.planned none can.unnamed (λ s c at. at) (none_freed l plan)));
    }
