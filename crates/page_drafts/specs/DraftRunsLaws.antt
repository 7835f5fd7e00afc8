-- All changes of a patch, one after another: first those that remove, then those that put; and then the directory.
use Rattle.std.specs.FinMap as map
use Rattle.std.proofs.Common.{◌≡◌, inl, inr, ⊎_elim, ℕ, ◌+◌, ◌*◌, ◌/◌, ◌<◌, ◌≤◌, Bool, true, false, List, [], ◌∷◌, ◌++◌, length, take, drop, get_or, Option, Some, None, refl, ap, sym, subst, ◌∙◌}
use Rattle.std.proofs.Common.{arith}
use Rattle.std.specs.Prelude.{set, IsTrue}
use Rattle.std.specs.List.{count_by}
use Rattle.std.proofs.lemmas.Bool.{cases_eq, cases_lt, false≢true}
use Rattle.std.proofs.lemmas.List.{take_more, take-append-drop, length-set, length-take, length-drop, get_or_default}
use Rattle.std.proofs.lemmas.Option.{none-some, same_Some, slice_get-get_or}
use Rattle.std.proofs.lemmas.List.Sums.{sum_by-append, sum_by-cons, sum_by-take-le}
use Rattle.kd_records.specs.declared.key.RecordKey.{RecordKey}
use Rattle.kd_records.specs.Keys.{key_cmp}
use Rattle.kd_records.specs.Contents.{Record, Change, changed}
use Rattle.kd_records.specs.Charge.{IsBlockSize, charge_of}
use Rattle.kdcfile_layout.specs.declared.chain.Chain.{Chain}
use Rattle.kdcfile_layout.specs.Places.{At}
use Rattle.kdcfile_layout.specs.Layout.{Layout, slots_in_page, used}
use Rattle.kdcfile_layout.specs.Bound.{charge_put, put_charge}
use Rattle.kdcfile_layout.specs.PlacesLaws.{at_one, at_end, at_front, at_set, at_set_same, at_set_other, at_within}
use Rattle.kdcfile_layout.specs.PoolsLaws.{flag_stays}
use Rattle.page_drafts.specs.Counts.{if_any}
use Rattle.page_drafts.specs.CountsLaws.{over_changed, ascending_changed, length_over}
use Rattle.page_drafts.specs.Drafts.{IsUnnamed}
use Rattle.page_drafts.specs.DraftStepsLaws.{next_there}
use Rattle.page_drafts.specs.Drafting.{Drafting, new_chain, put_in, IsRemoved, IsPageWritten, IsSized, IsDraft, stale_pages}
use Rattle.page_drafts.specs.Freed.{AreFreed, HasChainsOf, IsKeyIn, AreOnce}
use Rattle.page_drafts.specs.FreedLaws.{slot_freed, page_freed}
use Rattle.page_drafts.specs.DraftingLaws.{put_kept, removed_kept, page_kept, no_record, put_sized, removed_sized, put_stale, removed_stale, one_less}
use Rattle.page_drafts.specs.Tables.{IsAbsent}
use Rattle.page_drafts.specs.DraftRuns.{HasFreed, removed_all, is_removal, RemovesOne, RemovesAll, put_all, is_put, PutsOne, AreWide, HasRoom, PutsAll, Freshens}

-- ---- what each step frees

module _ (size pool : ℕ) (items : List Record) (plan : List ℕ) (file : Option (List ℕ)) (d : Drafting) (is : IsDraft size pool items plan file d) (from : Layout) (apart : IsUnnamed from plan) where
  put_freed : (k : RecordKey) (v : List ℕ) (s : ℕ) → s < length d.layout.slots → d.taken + charge_of size (length v) ≤ length plan → ((c : Chain) → At d.layout.slots s (Some c) → At from.slots s (Some c)) → HasFreed from plan d → HasFreed from plan (put_in size plan k v s d)
  put_freed k v s lt enough old are =
      slot_freed from d.layout plan d.taken (d.taken + charge_of size (length v)) apart is.drafted.layout.once s (Some (new_chain size plan k v d.taken)) lt
      (λ c a p e at. next_there plan d.taken (charge_of size (length v)) a p (subst (λ (x : Chain). At x.pages a p) (sym (same_Some _ c e)) at))
      (omega (arith, length-take (charge_of size (length v)) (drop d.taken plan), length-drop d.taken plan, enough)) old d.freed are

  removed_freed : (k : RecordKey) (e : Drafting) → IsRemoved size k d e → HasChainsOf from d.layout → HasFreed from plan d → HasFreed from plan e
  removed_freed k e (inl (absent, same)) old are = subst (λ (x : Drafting). HasFreed from plan x) (sym same) are
  removed_freed k e (inr (s, place, same)) old are =
      subst (λ (x : Drafting). HasFreed from plan x) (sym same)
      (slot_freed from d.layout plan d.taken d.taken apart is.drafted.layout.once s None place.there (λ c a p e at. absurd cc) (omega arith) (λ c at. old s c at) d.freed are)

  written_freed : (k : ℕ) (e : Drafting) → IsPageWritten size plan k d e → k < length d.layout.directory → ((p : ℕ) → At d.layout.directory k p → At from.directory k p) → HasFreed from plan d → HasFreed from plan e
  written_freed k e w lt old are =
      let layout : e.layout ≡ record d.layout { directory = set d.layout.directory k w.page.0 } = λ z. record { directory = w.page.2 z; slots = w.slots z } in
      let was : ℕ = get_or d.layout.directory k 0 in
      let here : At d.layout.directory k was = slice_get-get_or d.layout.directory k 0 lt in
      subst (λ (l : Layout). AreFreed from plan l e.taken e.freed) (sym layout)
      (subst (λ (t : ℕ). AreFreed from plan (record d.layout { directory = set d.layout.directory k w.page.0 }) t e.freed) (sym w.taken)
      (subst (λ (f : List ℕ). AreFreed from plan (record d.layout { directory = set d.layout.directory k w.page.0 }) (d.taken + 1) f) (sym w.freed)
      (page_freed from d.layout plan d.taken apart is.drafted.layout.once k w.page.0 was w.page.1 here (old was here) d.freed are)))

-- ---- the changes that remove

removed_chains : (size : ℕ) (k : RecordKey) (d e : Drafting) → IsRemoved size k d e → HasChainsOf d.layout e.layout
removed_chains size k d e (inl (absent, same)) s c at = subst (λ (x : Drafting). At x.layout.slots s (Some c)) same at
removed_chains size k d e (inr (r, place, same)) s c at =
    ⊎_elim (λ x. absurd (none-some c x.1)) (λ y. y.1) (at_set d.layout.slots r s None (Some c) (subst (λ (x : Drafting). At x.layout.slots s (Some c)) same at))

removed_joined : (items : List Record) (xs ys : List Change) → removed_all items (xs ++ ys) ≡ removed_all (removed_all items xs) ys
removed_joined items [] ys = refl
removed_joined items ((k, None) ∷ xs) ys = removed_joined (changed items (k, None)) xs ys
removed_joined items ((k, Some v) ∷ xs) ys = removed_joined items xs ys

module _ (size : ℕ) (block : IsBlockSize size) (d e f : Drafting) where
  removed_slots : (k : RecordKey) → IsRemoved size k e f → (length f.layout.slots ≡ length e.layout.slots) × (f.layout.directory ≡ e.layout.directory) × (f.taken ≡ e.taken)
  removed_slots k (inl (absent, same)) = (ap (λ (x : Drafting). length x.layout.slots) same, ap (λ (x : Drafting). x.layout.directory) same, ap (λ (x : Drafting). x.taken) same)
  removed_slots k (inr (s, place, same)) = (ap (λ (x : Drafting). length x.layout.slots) same ∙ length-set e.layout.slots s None, ap (λ (x : Drafting). x.layout.directory) same, ap (λ (x : Drafting). x.taken) same)

  one_removed : (changes : List Change) (c : Change) → RemovesAll size changes d e → RemovesOne size c e f → RemovesAll size (changes ++ c ∷ []) d f
  one_removed changes (k, None) so_far step =
      let same = removed_slots k step in
      record {
        draft = λ pool items plan file planned draft.
            subst (λ (xs : List Record). IsDraft size pool xs plan file f) (sym (removed_joined items changes ((k, None) ∷ [])))
            (removed_kept size pool plan planned block (removed_all items changes) file e (so_far.draft pool items plan file planned draft) k f step);
        sized = removed_sized size k e f step so_far.sized;
        stale = omega (arith, removed_stale size k e f block so_far.sized step, so_far.stale, sum_by-append (λ (c : Change). is_removal c.1) changes ((k, None) ∷ []));
        taken = same.2 ∙ so_far.taken;
        slots = same.0 ∙ so_far.slots;
        directory = same.1 ∙ so_far.directory;
        chains = λ s b at. so_far.chains s b (removed_chains size k e f step s b at);
        freed = λ pool items plan file from planned draft apart old are.
            removed_freed size pool (removed_all items changes) plan file e (so_far.draft pool items plan file planned draft) from apart k f step (λ s b at. old s b (so_far.chains s b at)) (so_far.freed pool items plan file from planned draft apart old are);
      }
  one_removed changes (k, Some v) so_far step =
      subst (λ (x : Drafting). RemovesAll size (changes ++ (k, Some v) ∷ []) d x) (sym step)
      (record {
        draft = λ pool items plan file planned draft.
            subst (λ (xs : List Record). IsDraft size pool xs plan file e) (sym (removed_joined items changes ((k, Some v) ∷ []))) (so_far.draft pool items plan file planned draft);
        sized = so_far.sized;
        stale = omega (arith, so_far.stale, sum_by-append (λ (c : Change). is_removal c.1) changes ((k, Some v) ∷ []));
        taken = so_far.taken;
        slots = so_far.slots;
        directory = so_far.directory;
        chains = so_far.chains;
        freed = so_far.freed;
      })

  pub removes_more : (changes : List Change) (i : ℕ) (c : Change) → c ≡ get_or changes i c → i < length changes → RemovesAll size (take i changes) d e → RemovesOne size c e f → RemovesAll size (take (i + 1) changes) d f
  removes_more changes i c is lt so_far step =
      subst (λ (cs : List Change). RemovesAll size cs d f) (sym (take_more changes i c lt ∙ ap (λ (b : Change). take i changes ++ b ∷ []) (sym is))) (one_removed (take i changes) c so_far step)

-- ---- the changes that put

-- a key that is in some changes is in these and more
key_joined : (k : RecordKey) (changes more : List Change) → IsKeyIn k changes → IsKeyIn k (changes ++ more)
key_joined k changes more (n, b, at, e) = (n, b, at_front changes more n b at, e)

key_last : (changes : List Change) (c : Change) → IsKeyIn c.0 (changes ++ c ∷ [])
key_last changes c = (length changes, c, at_end changes c, refl)

once_front : (changes more : List Change) → AreOnce (changes ++ more) → AreOnce changes
once_front changes more once n m b c x y e = once n m b c (at_front changes more n b x) (at_front changes more m c y) e

-- the last of changes with a key each has another key than those before
last_apart : (changes : List Change) (c : Change) → AreOnce (changes ++ c ∷ []) → IsKeyIn c.0 changes → ⊥
last_apart changes c once (n, b, at, e) =
    let same : n ≡ length changes = once n (length changes) b c (at_front changes (c ∷ []) n b at) (at_end changes c) e in
    omega (arith, at_within changes n b at, same)

pub put_joined : (items : List Record) (xs ys : List Change) → put_all items (xs ++ ys) ≡ put_all (put_all items xs) ys
put_joined items [] ys = refl
put_joined items ((k, None) ∷ xs) ys = put_joined items xs ys
put_joined items ((k, Some v) ∷ xs) ys = put_joined (changed items (k, Some v)) xs ys

module _ (size : ℕ) (block : IsBlockSize size) (plan : List ℕ) (d e f : Drafting) where
  one_put : (changes : List Change) (c : Change) → length c.0.bytes ≡ 24 → e.taken + charge_put size c.1 ≤ length plan → PutsAll size plan changes d e → PutsOne size plan c e f → PutsAll size plan (changes ++ c ∷ []) d f
  one_put changes (k, None) wide enough so_far step =
      subst (λ (x : Drafting). PutsAll size plan (changes ++ (k, None) ∷ []) d x) (sym step)
      (record {
        draft = λ pool items file planned draft. subst (λ (xs : List Record). IsDraft size pool xs plan file e) (sym (put_joined items changes ((k, None) ∷ []))) (so_far.draft pool items file planned draft);
        sized = so_far.sized;
        stale = omega (arith, so_far.stale, sum_by-append (λ (c : Change). is_put c.1) changes ((k, None) ∷ []));
        stays = so_far.stays;
        taken = omega (arith, so_far.taken, sum_by-append (λ (c : Change). charge_put size c.1) changes ((k, None) ∷ []));
        slots = so_far.slots;
        directory = so_far.directory;
        chains = λ s b at. ⊎_elim (λ x. inl x) (λ y. inr (key_joined b.key changes ((k, None) ∷ []) y)) (so_far.chains s b at);
        freed = λ pool items file from planned once draft apart old are. so_far.freed pool items file from planned (once_front changes ((k, None) ∷ []) once) draft apart old are;
      })
  one_put changes (k, Some v) wide enough so_far (s, place, same) =
      subst (λ (x : Drafting). PutsAll size plan (changes ++ (k, Some v) ∷ []) d x) (sym same)
      (record {
        draft = λ pool items file planned draft.
            subst (λ (xs : List Record). IsDraft size pool xs plan file (put_in size plan k v s e)) (sym (put_joined items changes ((k, Some v) ∷ [])))
            (put_kept size pool plan planned block (put_all items changes) file e (so_far.draft pool items file planned draft) k wide v s place enough);
        sized = put_sized size plan k v s e so_far.sized;
        stale = omega (arith, put_stale size plan k v s e block so_far.sized place.there, so_far.stale, sum_by-append (λ (c : Change). is_put c.1) changes ((k, Some v) ∷ []));
        stays = λ j at. flag_stays ((s / slots_in_page size) ∷ []) e.stale j (so_far.stays j at);
        taken = omega (arith, so_far.taken, sum_by-append (λ (c : Change). charge_put size c.1) changes ((k, Some v) ∷ []));
        slots = length-set e.layout.slots s _ ∙ so_far.slots;
        directory = so_far.directory;
        chains = λ r b at.
            ⊎_elim
            (λ x. inr (subst (λ (q : RecordKey). IsKeyIn q (changes ++ (k, Some v) ∷ [])) (ap (λ (y : Chain). y.key) (same_Some (new_chain size plan k v e.taken) b x.1)) (key_last changes (k, Some v))))
            (λ y. ⊎_elim (λ was. inl was) (λ new. inr (key_joined b.key changes ((k, Some v) ∷ []) new)) (so_far.chains r b y.1))
            (at_set e.layout.slots s r (Some (new_chain size plan k v e.taken)) (Some b) at);
        freed = λ pool items file from planned once draft apart old are.
            put_freed size pool (put_all items changes) plan file e (so_far.draft pool items file planned draft) from apart k v s place.there enough
            (λ b at. ⊎_elim (λ was. old s b was) (λ new. absurd (last_apart changes (k, Some v) once (subst (λ (q : RecordKey). IsKeyIn q changes) (place.own b at) new))) (so_far.chains s b at))
            (so_far.freed pool items file from planned (once_front changes ((k, Some v) ∷ []) once) draft apart old are);
      })

  module _ (changes : List Change) (i : ℕ) (c : Change) (is : c ≡ get_or changes i c) (lt : i < length changes) (so_far : PutsAll size plan (take i changes) d e) where
    front : take (i + 1) changes ≡ take i changes ++ c ∷ []
    front = take_more changes i c lt ∙ ap (λ (b : Change). take i changes ++ b ∷ []) (sym is)

    pub enough_here : d.taken + put_charge size changes ≤ length plan → e.taken + charge_put size c.1 ≤ length plan
    enough_here enough =
        omega (arith, so_far.taken, enough, ap (λ (cs : List Change). put_charge size cs) front, sum_by-append (λ (b : Change). charge_put size b.1) (take i changes) (c ∷ []), sum_by-cons (λ (b : Change). charge_put size b.1) c [], sum_by-take-le (λ (b : Change). charge_put size b.1) changes (i + 1))

    pub puts_more : AreWide changes → d.taken + put_charge size changes ≤ length plan → PutsOne size plan c e f → PutsAll size plan (take (i + 1) changes) d f
    puts_more wide enough step =
        subst (λ (cs : List Change). PutsAll size plan cs d f) (sym front) (one_put (take i changes) c (subst (λ (b : Change). length b.0.bytes ≡ 24) (sym is) (wide i c lt)) (enough_here enough) so_far step)

-- a put takes no record away
if_any_one : (o : Option (List ℕ)) → if_any (λ v. 1) o ≤ 1
if_any_one None = omega arith
if_any_one (Some v) = omega arith

put_no_less : (k : RecordKey) (v : List ℕ) (items : List Record) → IsTrue (map.is_sorted key_cmp items) → length items ≤ length (changed items (k, Some v))
put_no_less k v items sorted =
    omega (arith, over_changed (λ (w : List ℕ). 1) k (Some v) items sorted, length_over items, length_over (changed items (k, Some v)), if_any_one (map.find key_cmp k items))

puts_no_less : (changes : List Change) (items : List Record) → IsTrue (map.is_sorted key_cmp items) → length items ≤ length (put_all items changes)
puts_no_less [] items sorted = omega arith
puts_no_less ((k, None) ∷ changes) items sorted = puts_no_less changes items sorted
puts_no_less ((k, Some v) ∷ changes) items sorted = omega (arith, put_no_less k v items sorted, puts_no_less changes (changed items (k, Some v)) (ascending_changed items k (Some v) sorted))

-- so there is a free slot for each new key
module _ (size pool : ℕ) (block : IsBlockSize size) (items : List Record) (plan : List ℕ) (changes : List Change) (d e : Drafting) (room : HasRoom size pool items plan changes d) (i : ℕ) (k : RecordKey) (v : List ℕ) (is : ◌≡◌ {A = Change} (k, Some v) (get_or changes i (k, Some v))) (lt : i < length changes)
    (so_far : PutsAll size plan (take i changes) d e) where
  now : IsDraft size pool (put_all items (take i changes)) plan None e
  now = so_far.draft pool items None room.planned room.draft

  whole : put_all items changes ≡ put_all (changed (put_all items (take i changes)) (k, Some v)) (drop (i + 1) changes)
  whole =
      ap (λ (cs : List Change). put_all items cs) (sym (take-append-drop (i + 1) changes))
      ∙ put_joined items (take (i + 1) changes) (drop (i + 1) changes)
      ∙ ap (λ (xs : List Record). put_all xs (drop (i + 1) changes))
      (ap (λ (cs : List Change). put_all items cs) (take_more changes i (k, Some v) lt ∙ ap (λ (b : Change). take i changes ++ b ∷ []) (sym is)) ∙ put_joined items (take i changes) ((k, Some v) ∷ []))

  pub room_here : IsAbsent k e.layout.slots → used e.layout.slots < length e.layout.slots
  room_here absent =
      let there = put_all items (take i changes) in
      let none : map.find key_cmp k there ≡ None = no_record size pool plan room.planned block there None e now k absent in
      omega (
        arith,
        now.drafted.layout.table.number,
        over_changed (λ (w : List ℕ). 1) k (Some v) there now.drafted.ascending,
        length_over there,
        length_over (changed there (k, Some v)),
        ap (λ (o : Option (List ℕ)). if_any (λ (w : List ℕ). 1) o) none,
        so_far.slots,
        room.slots,
        ap (λ (xs : List Record). length xs) whole,
        puts_no_less (drop (i + 1) changes) (changed there (k, Some v)) (ascending_changed there k (Some v) now.drafted.ascending),
      )

module _ (size pool : ℕ) (block : IsBlockSize size) (items : List Record) (plan : List ℕ) (changes : List Change) (d e : Drafting) (room : HasRoom size pool items plan changes d) (i : ℕ) (c : Change) (v : List ℕ) (is : c ≡ get_or changes i c) (puts_v : c.1 ≡ Some v) (lt : i < length changes)
    (so_far : PutsAll size plan (take i changes) d e) where
  same : ◌≡◌ {A = Change} (c.0, Some v) c
  same = λ z. (c.0, sym puts_v z)

  pub room_at : IsAbsent c.0 e.layout.slots → used e.layout.slots < length e.layout.slots
  room_at absent = room_here size pool block items plan changes d e room i c.0 v (same ∙ is ∙ get_or_default changes i c (c.0, Some v) lt) lt so_far absent

-- pages that are not stale are passed over
pub freshens_past : (size : ℕ) (plan : List ℕ) (k m : ℕ) (d e : Drafting) → k ≤ m → ((j : ℕ) → k ≤ j → j < m → At e.stale j false) → Freshens size plan k d e → Freshens size plan m d e
freshens_past size plan k m d e le clean so_far = record {
  draft = so_far.draft;
  clean = λ j lt. ⊎_elim (λ below. so_far.clean j below) (λ above. clean j above lt) (cases_lt j k);
  later = λ j b high at. so_far.later j b (omega (arith, le, high)) at;
  written = λ j p lt stale at.
      ⊎_elim
      (λ below. so_far.written j p below stale at)
      (λ above. absurd (false≢true (at_one e.stale j false true (clean j above lt) (so_far.later j true above stale))))
      (cases_lt j k);
  sized = so_far.sized;
  weight = so_far.weight;
  slots = so_far.slots;
  directory = so_far.directory;
  pages = λ j p high at. so_far.pages j p (omega (arith, le, high)) at;
  freed = so_far.freed;
}

module _ (size : ℕ) (block : IsBlockSize size) (plan : List ℕ) (k : ℕ) (d e f : Drafting) (so_far : Freshens size plan k d e) (lt : k < length e.layout.directory) where
  pub freshens_more : At e.stale k true → IsPageWritten size plan k e f → Freshens size plan (k + 1) d f
  freshens_more stale w =
      let there : k < length e.stale = at_within e.stale k true stale in
      record {
        draft = λ pool items file planned draft. page_kept size pool plan planned block items file e (so_far.draft pool items file planned draft) k f lt w;
        clean = λ j le.
            subst (λ (t : List Bool). At t j false) (sym w.stale)
            (⊎_elim (λ is. subst (λ (n : ℕ). At (set e.stale k false) n false) (sym is) (at_set_same e.stale k false there)) (λ ne. at_set_other e.stale k j false false (λ e. ne (sym e)) (so_far.clean j (omega (arith, le, ne)))) (cases_eq j k));
        later = λ j b le at. subst (λ (t : List Bool). At t j b) (sym w.stale) (at_set_other e.stale k j false b (λ is. omega (arith, le, is)) (so_far.later j b (omega (arith, le)) at));
        written = λ j p le stale at.
            ⊎_elim
            (λ x. (e.taken, subst (λ (m : ℕ). At plan e.taken m) x.1 w.page.1))
            (λ y. so_far.written j p (omega (arith, le, y.0)) stale y.1)
            (at_set e.layout.directory k j w.page.0 p (subst (λ (l : List ℕ). At l j p) w.page.2 at));
        sized = record {
          stale = ap (λ (t : List Bool). length t) w.stale ∙ length-set e.stale k false ∙ so_far.sized.stale ∙ sym (length-set e.layout.directory k w.page.0) ∙ sym (ap (λ (l : List ℕ). length l) w.page.2);
          slots = ap (λ (l : List (Option Chain)). length l) w.slots ∙ so_far.sized.slots ∙ sym (ap (λ (n : ℕ). n * slots_in_page size) (ap (λ (l : List ℕ). length l) w.page.2 ∙ length-set e.layout.directory k w.page.0));
        };
        weight = omega (arith, so_far.weight, w.taken, one_less e.stale k stale there, ap (λ (t : List Bool). count_by (λ b. b) t) w.stale);
        slots = w.slots ∙ so_far.slots;
        directory = ap (λ (l : List ℕ). length l) w.page.2 ∙ length-set e.layout.directory k w.page.0 ∙ so_far.directory;
        pages = λ j p le at.
            ⊎_elim (λ x. absurd (omega (arith, le, x.0))) (λ y. so_far.pages j p (omega (arith, le)) y.1)
            (at_set e.layout.directory k j w.page.0 p (subst (λ (l : List ℕ). At l j p) w.page.2 at));
        freed = λ pool items file from planned draft apart old are.
            written_freed size pool items plan file e (so_far.draft pool items file planned draft) from apart k f w lt (λ p at. old k p (omega arith) (so_far.pages k p (omega arith) at)) (so_far.freed pool items file from planned draft apart old are);
      }

-- the first stale page is written, and the pages before it are fresh
pub freshens_next : (size : ℕ) (block : IsBlockSize size) (plan : List ℕ) (k : ℕ) (d e f : Drafting) → ((n : ℕ) × (n ≤ length d.layout.directory) × Freshens size plan n d e) → At e.stale k true → ((j : ℕ) → j < k → At e.stale j false) → IsPageWritten size plan k e f → (n : ℕ) × (n ≤ length d.layout.directory) × Freshens size plan n d f
freshens_next size block plan k d e f (n, most, so_far) stale first w =
    let there : k < length e.layout.directory = omega (arith, at_within e.stale k true stale, so_far.sized.stale) in
    ⊎_elim
    (λ below. absurd (false≢true (at_one e.stale k false true (so_far.clean k below) stale)))
    (λ above. (k + 1, omega (arith, there, so_far.directory), freshens_more size block plan k d e f (freshens_past size plan n k d e above (λ j low lt. first j lt) so_far) there stale w))
    (cases_lt k n)

-- nothing is written yet
pub freshens_none : (size : ℕ) (plan : List ℕ) (d : Drafting) → IsSized size d → Freshens size plan 0 d d
freshens_none size plan d sized = record {
  draft = λ pool items file planned draft. draft;
  clean = λ j lt. absurd (omega (arith, lt));
  later = λ j b le at. at;
  written = λ j p lt stale at. absurd (omega (arith, lt));
  sized = sized;
  weight = refl;
  slots = refl;
  directory = refl;
  pages = λ j p le at. at;
  freed = λ pool items file from planned draft apart old are. are;
}

-- a page that is written is stale no more
pub fewer_stale : (size : ℕ) (plan : List ℕ) (k : ℕ) (e f : Drafting) → At e.stale k true → IsPageWritten size plan k e f → stale_pages f + 1 ≡ stale_pages e
fewer_stale size plan k e f stale w = omega (arith, one_less e.stale k stale (at_within e.stale k true stale), ap (λ (t : List Bool). count_by (λ b. b) t) w.stale)

-- while a page is stale, there is a page of the plan for it
pub page_left : (plan : List ℕ) (k : ℕ) (d e : Drafting) → e.taken + stale_pages e ≡ d.taken + stale_pages d → d.taken + stale_pages d ≤ length plan → At e.stale k true → e.taken < length plan
page_left plan k d e weight enough stale = omega (arith, weight, enough, one_less e.stale k stale (at_within e.stale k true stale))
