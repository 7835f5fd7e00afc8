-- A whole content is drafted: its records are put one after another, and then the whole directory is written.
use Rattle.std.proofs.Common.{◌≡◌, ⊎_elim, ℕ, zero, suc, ◌+◌, ◌<◌, ◌≤◌, Bool, true, false, cond, T, List, [], ◌∷◌, length, take, get_or, Option, Some, None, refl, ap, sym, subst, ◌∙◌, arith}
use Rattle.std.specs.Prelude.{All, IsTrue, replicate}
use Rattle.std.specs.Ordering.{eq_by_cmp}
use Rattle.std.specs.FinMap.{find, is_sorted}
use Rattle.std.specs.FinMap.Entries.{below_all, same_entries}
use Rattle.std.proofs.lemmas.Bool.{false≢true}
use Rattle.std.proofs.lemmas.Option.{none-some, slice_get-get_or}
use Rattle.std.proofs.lemmas.List.{length-replicate, length-map, get_or-map, take-map, get_or-replicate}
use Rattle.std.proofs.lemmas.List.Sums.{sum_by-cons, count_by-le-length}
use Rattle.std.proofs.lemmas.List.Elements.{All-nil, All-map, All-weaker}
use Rattle.kd_records.specs.declared.key.RecordKey.{RecordKey}
use Rattle.kd_records.specs.Keys.{key_cmp}
use Rattle.kd_records.specs.KeyLaws.{key_total, same_key}
use Rattle.kd_records.specs.Contents.{Record, Change, IsRecord}
use Rattle.kd_records.specs.Charge.{IsBlockSize, charge_of, total_charge}
use Rattle.kdcfile_layout.specs.Places.{At}
use Rattle.kdcfile_layout.specs.PlacesLaws.{at_one, at_within}
use Rattle.kdcfile_layout.specs.declared.chain.Chain.{Chain}
use Rattle.kdcfile_layout.specs.Layout.{Layout, Name, InRoot, InChain, Names, if_used, used, chain_pages}
use Rattle.kdcfile_layout.specs.Bound.{charge_put, put_charge}
use Rattle.page_drafts.specs.DraftSteps.{HasLength}
use Rattle.page_drafts.specs.Drafting.{Drafting, IsOnPlan, IsDraft, stale_pages}
use Rattle.page_drafts.specs.DraftRuns.{put_all, AreWide, PutsOne, PutsAll, HasRoom, Freshens}
use Rattle.page_drafts.specs.DraftRunsLaws.{enough_here, puts_more, room_at}
use Rattle.page_drafts.specs.FreedLaws.{none_freed}
use Rattle.page_drafts.specs.Passes.{put_by}
use Rattle.page_drafts.specs.PassesLaws.{ascending_once, found_put, sorted_put}
use Rattle.page_drafts.specs.Tables.{IsAbsent}
use Rattle.page_drafts.specs.WholeDrafts.{unwritten, puts_of, CanPrepareWhole, PreparedWhole}

-- ---- records as changes

-- they are found as the records are
found_puts : (q : RecordKey) (items : List Record) → put_by (find key_cmp q (puts_of items)) None ≡ find key_cmp q items
found_puts q [] = refl
found_puts q (r ∷ items) = by (eq_by_cmp key_cmp q r.0) (found_puts q items)
  where
    by : (b : Bool) → put_by (find key_cmp q (puts_of items)) None ≡ find key_cmp q items → put_by (cond b (Some (Some r.1)) (find key_cmp q (puts_of items))) None ≡ cond b (Some r.1) (find key_cmp q items)
    by true rest = refl
    by false rest = rest

below_puts : (k : RecordKey) (items : List Record) → below_all key_cmp k (puts_of items) ≡ below_all key_cmp k items
below_puts k [] = refl
below_puts k (r ∷ items) = rw (below_puts k items) refl

same_order : (items : List Record) → is_sorted key_cmp (puts_of items) ≡ is_sorted key_cmp items
same_order [] = refl
same_order (r ∷ items) = rw (below_puts r.0 items, same_order items) refl

puts_ascending : (items : List Record) → IsTrue (is_sorted key_cmp items) → IsTrue (is_sorted key_cmp (puts_of items))
puts_ascending items h = same_order items ∙ h

-- where no record was, they make the records
put_whole : (items : List Record) → IsTrue (is_sorted key_cmp items) → put_all [] (puts_of items) ≡ items
put_whole items h =
    same_entries key_cmp key_total same_key (put_all [] (puts_of items)) items
    (subst T (sym (sorted_put (puts_of items) [] refl)) tt)
    (subst T (sym h) tt)
    (λ q. found_put q (puts_of items) [] (puts_ascending items h) ∙ found_puts q items)

same_charge : (size : ℕ) (items : List Record) → put_charge size (puts_of items) ≡ total_charge size items
same_charge size [] = refl
same_charge size (r ∷ items) = omega (arith, sum_by-cons (λ (c : Change). charge_put size c.1) (r.0, Some r.1) (puts_of items), sum_by-cons (λ (q : Record). charge_put size (Some q.1)) r items, same_charge size items)

-- ---- one record after another

abbrev put_of : Record → Change
put_of r = (r.0, Some r.1)

wide_puts : (items : List Record) → All IsRecord items → AreWide (puts_of items)
wide_puts items all = All-map (λ (c : Change). length c.0.bytes ≡ 24) put_of items (All-weaker IsRecord (λ (r : Record). length r.0.bytes ≡ 24) (λ r is. is.key_length) items all)

module _ (size : ℕ) (block : IsBlockSize size) (plan : List ℕ) (items : List Record) (d e : Drafting) (i : ℕ) (r : Record) (is : r ≡ get_or items i r) (lt : i < length items) (so_far : PutsAll size plan (puts_of (take i items)) d e) where
  put_here : put_of r ≡ get_or (puts_of items) i (put_of r)
  put_here = ap put_of is ∙ sym (get_or-map put_of items i r (put_of r) lt)

  within : i < length (puts_of items)
  within = omega (arith, lt, length-map items put_of)

  front : PutsAll size plan (take i (puts_of items)) d e
  front = subst (λ (cs : List Change). PutsAll size plan cs d e) (sym (take-map put_of i items)) so_far

  module _ (enough : d.taken + total_charge size items ≤ length plan) where
    enough_puts : d.taken + put_charge size (puts_of items) ≤ length plan
    enough_puts = omega (arith, enough, same_charge size items)

    pub enough_for : e.taken + charge_of size (length r.1) ≤ length plan
    enough_for = enough_here size block plan d e e (puts_of items) i (put_of r) put_here within front enough_puts

    pub one_more : All IsRecord items → (f : Drafting) → PutsOne size plan (put_of r) e f → PutsAll size plan (puts_of (take (i + 1) items)) d f
    one_more all f step =
        subst (λ (cs : List Change). PutsAll size plan cs d f) (take-map put_of (i + 1) items)
        (puts_more size block plan d e f (puts_of items) i (put_of r) put_here within front (wide_puts items all) enough_puts step)

  pub room_for : (pool : ℕ) (before : List Record) → HasRoom size pool before plan (puts_of items) d → IsAbsent r.0 e.layout.slots → used e.layout.slots < length e.layout.slots
  room_for pool before room absent = room_at size pool block before plan (puts_of items) d e room i (put_of r) r.1 put_here refl within front absent

-- ---- the whole is prepared

no_pages : (slots : List (Option Chain)) → ((s : ℕ) (c : Chain) → At slots s (Some c) → ⊥) → chain_pages slots ≡ 0
no_pages [] none = refl
no_pages (None ∷ slots) none = omega (arith, sum_by-cons (λ (o : Option Chain). if_used (λ c. length c.pages) o) None slots, no_pages slots (λ s c at. none (suc s) c at))
no_pages (Some c ∷ slots) none = absurd (none zero c refl)

module _ (size : ℕ) (items : List Record) (plan : List ℕ) (l : Layout) where
  all_stale : (k : ℕ) → k < length l.directory → At (unwritten l).stale k true
  all_stale k lt =
      let stale : List Bool = replicate (length l.directory) true in
      let long : k < length stale = omega (arith, lt, length-replicate (length l.directory) true) in
      slice_get-get_or stale k true long ∙ ap (λ (b : Bool). Some b) (get_or-replicate (length l.directory) k true true lt)

  module _ (pool : ℕ) (can : CanPrepareWhole size pool items plan l) where
    no_chain : (s : ℕ) (c : Chain) → At l.slots s (Some c) → ⊥
    no_chain s c at = let v = can.layout.table.kept s c at in none-some v.0 v.1

    no_length : (file : Option (List ℕ)) → HasLength 0 file
    no_length None = tt
    no_length (Some h) = omega arith

    begun : (file : Option (List ℕ)) → IsDraft size pool [] plan file (unwritten l)
    begun file = record {
      drafted = record {
        ascending = refl;
        charged = no_pages l.slots no_chain;
        layout = can.layout;
        unplanned = λ u p n names le at. can.unnamed u p n names at;
        directory = λ k p at clean. absurd (false≢true (at_one (unwritten l).stale k false true clean (all_stale k (at_within l.directory k p at))));
        chains = λ s c v at found. absurd (no_chain s c at);
      };
      on_plan = All-nil (IsOnPlan size plan);
      count = omega arith;
      long = no_length file;
    }

    pub room : HasRoom size pool [] plan (puts_of items) (unwritten l)
    room = record {
      planned = can.planned;
      draft = begun None;
      slots = omega (arith, ap (λ (xs : List Record). length xs) (put_whole items can.ascending), can.slots);
    }

  module _ (f : Drafting) (puts : PutsAll size plan (puts_of items) (unwritten l) f) where
    stale_within : stale_pages f ≤ length l.directory
    stale_within = omega (arith, count_by-le-length (λ (b : Bool). b) f.stale, puts.sized.stale, ap (λ (d : List ℕ). length d) puts.directory)

    -- a page of a chain is of the plan, since none was there and none is the directory's
    chain_planned : (pool : ℕ) → CanPrepareWhole size pool items plan l → (s a p : ℕ) → Names f.layout (InChain s a) p → (n : ℕ) × At plan n p
    chain_planned pool can s a p named =
        let none = begun pool can None in
        let draft = puts.draft pool [] None can.planned none in
        let are = puts.freed pool [] None l can.planned (ascending_once (puts_of items) (puts_ascending items can.ascending)) none can.unnamed (λ r c at. at) (none_freed l plan) in
        ⊎_elim (λ was. absurd (not_before draft.drafted.layout.once was.0 was.1)) (λ on. (on.0, on.1)) (are.kept (InChain s a) p named)
      where
        not_before : ((u v : Name) (q : ℕ) → Names f.layout u q → Names f.layout v q → u ≡ v) → (u : Name) → Names l u p → ⊥
        not_before once (InRoot j) at = let same : InRoot j ≡ InChain s a = once (InRoot j) (InChain s a) p (subst (λ (d : List ℕ). At d j p) (sym puts.directory) at) named in cc
        not_before once (InChain r b) (c, at, page) = no_chain pool can r c at

    module _ (g : Drafting) (freshens : Freshens size plan (length f.layout.directory) f g) where
      planned : (pool : ℕ) → CanPrepareWhole size pool items plan l → (u : Name) (p : ℕ) → Names g.layout u p → (n : ℕ) × At plan n p
      planned pool can (InRoot j) p at =
          let lt : j < length f.layout.directory = omega (arith, at_within g.layout.directory j p at, freshens.directory) in
          freshens.written j p lt (puts.stays j (all_stale j (omega (arith, lt, ap (λ (d : List ℕ). length d) puts.directory)))) at
      planned pool can (InChain s a) p (c, at, page) = chain_planned pool can s a p (c, subst (λ (slots : List (Option Chain)). At slots s (Some c)) freshens.slots at, page)

      pub prepared_whole : PreparedWhole size plan items l g
      prepared_whole = record {
        draft = λ pool file can.
            subst (λ (xs : List Record). IsDraft size pool xs plan file g) (put_whole items can.ascending) (freshens.draft pool (put_all [] (puts_of items)) file can.planned (puts.draft pool [] file can.planned (begun pool can file)));
        clean = λ k lt. freshens.clean k (omega (arith, lt, freshens.directory));
        most = omega (arith, freshens.weight, stale_within, puts.taken, same_charge size items);
        named = planned;
      }
