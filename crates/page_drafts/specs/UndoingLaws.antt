-- Laws: what takes a change of a table back, and that a table can be taken back after each change.
use Rattle.std.proofs.Common.{◌≡◌, ℕ, ◌+◌, ◌-◌, ◌<◌, cond, List, [], ◌∷◌, ◌++◌, length, take, Option, Some, None, refl, ap, sym, subst, ◌∙◌, arith, length-append}
use Rattle.std.specs.Prelude.{All, set, get_or, is_some, IsTrue}
use Rattle.std.specs.FinMap.{find, put, is_sorted}
use Rattle.std.proofs.lemmas.Grind.{flat_map-append}
use Rattle.std.proofs.lemmas.Option.{none-some, same_Some, get_or_from_slice_get}
use Rattle.std.proofs.lemmas.List.{append-nil, get_or_append_left, length-set, set-set, set-get_or, take-append-le, take_all}
use Rattle.std.proofs.lemmas.List.Elements.{All-push, All-weaker}
use Rattle.kd_base.specs.ChangedLaws.{with_value, changed_back}
use Rattle.kd_records.specs.declared.key.RecordKey.{RecordKey}
use Rattle.kd_records.specs.Keys.{key_cmp}
use Rattle.kd_records.specs.KeyLaws.{key_total, same_key}
use Rattle.kdcfile_layout.specs.declared.chain.Chain.{Chain}
use Rattle.kdcfile_layout.specs.Places.{At}
use Rattle.page_drafts.specs.declared.parts.Undo.{Undo}
use Rattle.page_drafts.specs.declared.parts.Undo.TheVariants.{Added, Replaced, Removed}
use Rattle.page_drafts.specs.Tables.{Index, Parts, HasKey, IsIndexed, IsAbsent}
use Rattle.kdcfile_layout.specs.PlacesLaws.{all_at, at_end, at_within}
use Rattle.page_drafts.specs.TablesLaws.{found_put_same, indexed_replaced, indexed_added, indexed_removed}
use Rattle.page_drafts.specs.Undoing.{place_of, reverted, undone, undone_all, gone_by, gone_keys, IsChanging}

-- ---- what takes each change back

-- the slot that was written has again what it had
slots_back : (slots : List (Option Chain)) (s : ℕ) (new old : Option Chain) → At slots s old → set (set slots s new) s old ≡ slots
slots_back slots s new old at = set-set slots s new old ∙ ap (set slots s) (sym (get_or_from_slice_get slots s old old at)) ∙ set-get_or slots s old

index_back : (k : RecordKey) (s : ℕ) (index : Index) → IsTrue (is_sorted key_cmp index) → reverted k (find key_cmp k index) (put key_cmp k s index) ≡ index
index_back k s index up = by (find key_cmp k index) refl
  where
    with_old : Option ℕ → Index
    with_old o = with_value key_cmp k o (put key_cmp k s index)

    by : (o : Option ℕ) → find key_cmp k index ≡ o → reverted k o (put key_cmp k s index) ≡ index
    by None e = subst (λ (o : Option ℕ). with_old o ≡ index) e (changed_back key_cmp key_total same_key k (Some s) index up)
    by (Some w) e =
        ap (λ (o : Option ℕ). cond (is_some o) (put key_cmp k w (put key_cmp k s index)) (put key_cmp k s index)) (found_put_same k s index)
        ∙ subst (λ (o : Option ℕ). with_old o ≡ index) e (changed_back key_cmp key_total same_key k (Some s) index up)

free_back : (free : List ℕ) (s : ℕ) → take (length (free ++ s ∷ []) - 1) (free ++ s ∷ []) ≡ free
free_back free s =
    let less : length (free ++ s ∷ []) - 1 ≡ length free = omega (arith, length-append free (s ∷ [])) in
    ap (λ (n : ℕ). take n (free ++ s ∷ [])) less ∙ take-append-le (length free) free (s ∷ []) (omega arith) ∙ take_all (length free) free (omega arith)

pub added_back : (t : Parts) (less : List ℕ) (s : ℕ) (k : RecordKey) (new : Option Chain) → t.free ≡ less ++ s ∷ [] → At t.slots s None → IsTrue (is_sorted key_cmp t.index)
    → undone (Added s k (find key_cmp k t.index)) (record { slots = set t.slots s new; index = put key_cmp k s t.index; free = less }) ≡ t
added_back t less s k new split at up =
    let slots = slots_back t.slots s new None at in
    let index = index_back k s t.index up in
    λ i. record { slots = slots i; index = index i; free = sym split i }

pub replaced_back : (t : Parts) (s : ℕ) (c : Chain) (new : Option Chain) → At t.slots s (Some c) → undone (Replaced s c) (record t { slots = set t.slots s new }) ≡ t
replaced_back t s c new at = ap (λ (l : List (Option Chain)). record t { slots = l }) (slots_back t.slots s new (Some c) at)

pub removed_back : (t : Parts) (s : ℕ) (c : Chain) → At t.slots s (Some c) → undone (Removed s c) (record t { slots = set t.slots s None; free = t.free ++ s ∷ [] }) ≡ t
removed_back t s c at =
    let slots = slots_back t.slots s None (Some c) at in
    let free = free_back t.free s in
    λ i. record t { slots = slots i; free = free i }

-- ---- one more change

pub undone_last : (undo : List Undo) (u : Undo) (t : Parts) → undone_all (undo ++ u ∷ []) t ≡ undone_all undo (undone u t)
undone_last [] u t = refl
undone_last (v ∷ undo) u t = ap (undone v) (undone_last undo u t)

pub undone_slots : (u : Undo) (t : Parts) → length (undone u t).slots ≡ length t.slots
undone_slots (Added s k was) t = length-set t.slots s None
undone_slots (Replaced s c) t = length-set t.slots s (Some c)
undone_slots (Removed s c) t = length-set t.slots s (Some c)

gone_last : (undo : List Undo) (u : Undo) → gone_keys (undo ++ u ∷ []) ≡ gone_keys undo ++ gone_by u
gone_last undo u = flat_map-append gone_by undo (u ∷ []) ∙ ap (λ (l : List RecordKey). gone_keys undo ++ l) (append-nil (gone_by u))

-- a table after one more change, and it can be taken back to where the one before it can be
pub record CanUndoMore (t : Parts) (undo : List Undo) (after : Parts) (more : List Undo) : Type 0 where
  pub changing : IsChanging after more
  pub before : undone_all more after ≡ undone_all undo t

goes_on : (t : Parts) (undo : List Undo) (u : Undo) (after : Parts) → undone u after ≡ t → IsChanging t undo → IsIndexed after (gone_keys undo ++ gone_by u) → place_of u < length t.slots → CanUndoMore t undo after (undo ++ u ∷ [])
goes_on t undo u after back is indexed place =
    let long : length t.slots ≡ length after.slots = ap (λ (p : Parts). length p.slots) (sym back) ∙ undone_slots u after in
    let before : undone_all (undo ++ u ∷ []) after ≡ undone_all undo t = undone_last undo u after ∙ ap (undone_all undo) back in
    record {
      changing = record {
        indexed = subst (IsIndexed after) (sym (gone_last undo u)) indexed;
        before = subst (λ (p : Parts). IsIndexed p []) (sym before) is.before;
        places =
            All-push (λ (v : Undo). place_of v < length after.slots) undo u
            (All-weaker (λ (v : Undo). place_of v < length t.slots) (λ (v : Undo). place_of v < length after.slots) (λ v lt. omega (arith, lt, long)) undo is.places)
            (omega (arith, place, long));
      };
      before = before;
    }

-- what was read of a slot is what is there
same_slot : (slots : List (Option Chain)) (s : ℕ) (o x : Option Chain) → o ≡ get_or slots s o → At slots s x → x ≡ o
same_slot slots s o x read at = sym (read ∙ get_or_from_slice_get slots s x o at)

module _ (t : Parts) (undo same more : List Undo) (is : IsChanging t undo) (u : same ≡ undo) where
  replaced_here : (s : ℕ) (c d : Chain) → At t.slots s (Some c) → c.key ≡ d.key → CanUndoMore t undo (record t { slots = set t.slots s (Some d) }) (undo ++ Replaced s c ∷ [])
  replaced_here s c d at key =
      goes_on t undo (Replaced s c) (record t { slots = set t.slots s (Some d) }) (replaced_back t s c (Some d) at) is
      (subst (IsIndexed (record t { slots = set t.slots s (Some d) })) (sym (append-nil (gone_keys undo))) (indexed_replaced t (gone_keys undo) is.indexed s c d at key))
      (at_within t.slots s (Some c) at)

  -- a slot with this key has another chain, and had the one that was read
  pub replaced_on : (free : List ℕ) (s : ℕ) (c d : Chain) (o new : Option Chain) → free ≡ t.free → new ≡ Some d → more ≡ same ++ Replaced s c ∷ [] → HasKey t.slots s d.key → o ≡ get_or t.slots s o → Some c ≡ o
      → CanUndoMore t undo (record { slots = set t.slots s new; index = t.index; free = free }) more
  replaced_on free s c d o new f n m has read was =
      let there : Some has.0 ≡ Some c = same_slot t.slots s o (Some has.0) read has.1 ∙ sym was in
      rw (f, n, m, u) (replaced_here s c d (has.1 ∙ ap (λ (x : Option Chain). Some x) there) (ap (λ (x : Chain). x.key) (sym (same_Some has.0 c there)) ∙ has.2))

  removed_here : (s : ℕ) (c : Chain) → At t.slots s (Some c) → CanUndoMore t undo (record t { slots = set t.slots s None; free = t.free ++ s ∷ [] }) (undo ++ Removed s c ∷ [])
  removed_here s c at =
      goes_on t undo (Removed s c) (record t { slots = set t.slots s None; free = t.free ++ s ∷ [] }) (removed_back t s c at) is (indexed_removed t (gone_keys undo) is.indexed s c at) (at_within t.slots s (Some c) at)

  -- a slot with a record is free, and had the chain that was read
  pub removed_on : (room free : List ℕ) (s : ℕ) (c : Chain) (o new : Option Chain) → room ≡ t.free → free ≡ room ++ s ∷ [] → new ≡ None → more ≡ same ++ Removed s c ∷ [] → (d : Chain) × At t.slots s (Some d) → o ≡ get_or t.slots s o → Some c ≡ o
      → CanUndoMore t undo (record { slots = set t.slots s new; index = t.index; free = free }) more
  removed_on room free s c o new r f n m has read was =
      let there : Some has.0 ≡ Some c = same_slot t.slots s o (Some has.0) read has.1 ∙ sym was in
      rw (f, r, n, m, u) (removed_here s c (has.1 ∙ ap (λ (x : Option Chain). Some x) there))

  added_here : (less : List ℕ) (s : ℕ) (d : Chain) → t.free ≡ less ++ s ∷ [] → IsAbsent d.key t.slots → At t.slots s None
      → CanUndoMore t undo (record { slots = set t.slots s (Some d); index = put key_cmp d.key s t.index; free = less }) (undo ++ Added s d.key (find key_cmp d.key t.index) ∷ [])
  added_here less s d split absent at =
      let no_chain : Option Chain = None in
      let after : Parts = record { slots = set t.slots s (Some d); index = put key_cmp d.key s t.index; free = less } in
      goes_on t undo (Added s d.key (find key_cmp d.key t.index)) after (added_back t less s d.key (Some d) split at is.indexed.ascending) is
      (subst (IsIndexed after) (sym (append-nil (gone_keys undo))) (indexed_added t (gone_keys undo) is.indexed less s d split absent))
      (at_within t.slots s no_chain at)

  -- the last free slot has a chain with a new key
  pub added_on : (index : Index) (free less : List ℕ) (s : ℕ) (was : Option ℕ) (d : Chain) → index ≡ put key_cmp d.key s t.index → free ≡ less → t.free ≡ less ++ s ∷ [] → was ≡ find key_cmp d.key t.index → more ≡ same ++ Added s d.key was ∷ []
      → IsAbsent d.key t.slots → At t.slots s None → CanUndoMore t undo (record { slots = set t.slots s (Some d); index = index; free = free }) more
  added_on index free less s was d x f split w m absent at = rw (x, f, m, u, w) (added_here less s d split absent at)

-- a slot with a record is not read as free
pub not_free : (slots : List (Option Chain)) (s : ℕ) (o : Option Chain) (c : Chain) → At slots s (Some c) → o ≡ get_or slots s o → None ≡ o → ⊥
not_free slots s o c at read none = none-some c (none ∙ sym (same_slot slots s o (Some c) read at))

-- ---- the changes are taken back, or forgotten, the last one first

module _ (undo less : List Undo) (u : Undo) (split : undo ≡ less ++ u ∷ []) where
  pub gone_less : gone_keys undo ≡ gone_keys less ++ gone_by u
  gone_less = ap gone_keys split ∙ gone_last less u

  pub undone_less : (t : Parts) → undone_all less (undone u t) ≡ undone_all undo t
  undone_less t = sym (undone_last less u t) ∙ ap (λ (l : List Undo). undone_all l t) (sym split)

  pub last_place : (n : ℕ) → All (λ (v : Undo). place_of v < n) undo → place_of u < n
  last_place n all = all_at (λ (v : Undo). place_of v < n) undo (length less) u all (subst (λ (l : List Undo). At l (length less) u) (sym split) (at_end less u))

  pub less_places : (t : Parts) → All (λ (v : Undo). place_of v < length t.slots) undo → All (λ (v : Undo). place_of v < length (undone u t).slots) less
  less_places t all = λ k d lt.
      let kept : get_or undo k d ≡ get_or less k d = ap (λ (l : List Undo). get_or l k d) split ∙ get_or_append_left less (u ∷ []) d k lt in
      let long : length undo ≡ length less + 1 = ap (λ (l : List Undo). length l) split ∙ length-append less (u ∷ []) in
      omega (arith, all k d (omega (arith, lt, long)), ap place_of kept, undone_slots u t)
