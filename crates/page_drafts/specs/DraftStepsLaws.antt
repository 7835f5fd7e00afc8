-- The steps of a draft: a record that is put, a record that is removed, a directory page that is written.
use Rattle.std.specs.FinMap as map
use Rattle.std.proofs.Common.{◌≡◌, ◌⊎◌, inl, inr, ⊎_elim, ℕ, suc, ◌+◌, ◌-◌, ◌*◌, ◌/◌, ◌%◌, ◌<◌, ◌≤◌, Bool, true, false, List, [], ◌∷◌, length, drop, Option, Some, None, refl, ap, sym, subst, ◌∙◌}
use Rattle.std.proofs.Common.{arith}
use Rattle.std.specs.Prelude.{All, set}
use Rattle.std.proofs.Math.Nat.{mul-le-mul_left}
use Rattle.std.proofs.lemmas.Bool.{cases_lt}
use Rattle.std.proofs.lemmas.Nat.{div-add-mod', mod_below}
use Rattle.std.proofs.lemmas.List.{length-set, length-take, length-drop}
use Rattle.kd_records.specs.declared.key.RecordKey.{RecordKey}
use Rattle.kd_records.specs.Keys.{key_cmp}
use Rattle.kd_records.specs.Contents.{Record, changed}
use Rattle.kd_records.specs.ContentLaws.{change_says_what_is_found}
use Rattle.kd_records.specs.Charge.{charge_of}
use Rattle.kdcfile_layout.specs.declared.chain.Chain.{Chain}
use Rattle.kdcfile_layout.specs.Places.{At, IsDistinct}
use Rattle.kdcfile_layout.specs.Layout.{Layout, Part, Has, Name, InRoot, InChain, Names, record_parts, directory_text, page_count, slots_in_page}
use Rattle.kdcfile_layout.specs.PlacesLaws.{at_set, at_take, at_drop}
use Rattle.page_drafts.specs.Counts.{if_any, over}
use Rattle.page_drafts.specs.CountsLaws.{over_changed, ascending_changed, length_over}
use Rattle.kdcfile_layout.specs.Pages.{Fits, padded, page_write, part_writes, pages_of}
use Rattle.kdcfile_layout.specs.PagesLaws.{length_padded, other_page, this_page, other_parts, these_parts, pages_of_chain, parts_named, chain_fits}
use Rattle.page_drafts.specs.Drafts.{IsPlan, Drafted, IsSlotFor, IsOutside}
use Rattle.page_drafts.specs.DraftsLaws.{same_or_not, one_change}
use Rattle.page_drafts.specs.DraftSteps.{next_pages, after, HasLength}

-- ---- the plan's next pages

pub next_there : (plan : List ℕ) (t n a p : ℕ) → At (next_pages plan t n) a p → At plan (t + a) p × (t + a < t + n)
next_there plan t n a p h = let r = at_take (drop t plan) n a p h in (at_drop plan t a p r.0, omega (arith, r.1))

next_distinct : (plan : List ℕ) (t n : ℕ) → IsDistinct plan → IsDistinct (next_pages plan t n)
next_distinct plan t n d a b p h k = let e : t + a ≡ t + b = d (t + a) (t + b) p (next_there plan t n a p h).0 (next_there plan t n b p k).0 in omega (arith, e)

has_others : (size long : ℕ) (file : Option (List ℕ)) (parts : List Part) (part : Part) → All (Fits size) parts → ((a : ℕ) → At (pages_of parts) a part.0 → ⊥) → Has size file part → Has size (after file (part_writes size long parts)) part
has_others size long None parts part fit apart has = tt
has_others size long (Some h) parts part fit apart has = other_parts size long parts h part fit apart has

has_these : (size long : ℕ) (file : Option (List ℕ)) (parts : List Part) → HasLength long file → All (Fits size) parts → IsDistinct (pages_of parts) → All (Has size (after file (part_writes size long parts))) parts
has_these size long None parts le fit distinct = λ n e lt. tt
has_these size long (Some h) parts le fit distinct = these_parts size long parts h le fit distinct

has_other : (size : ℕ) (file : Option (List ℕ)) (new : Part) → Fits size new → (part : Part) → (new.0 ≡ part.0 → ⊥) → Has size file part → Has size (after file (page_write size new ∷ [])) part
has_other size None new fit part apart has = tt
has_other size (Some h) new fit part apart has = other_page size h new.0 (padded size new.1) (omega (arith, length_padded size new.1 fit)) part apart has

has_this : (size : ℕ) (file : Option (List ℕ)) (new : Part) → Fits size new → Has size (after file (page_write size new ∷ [])) new
has_this size None new fit = tt
has_this size (Some h) new fit = this_page size h new fit

-- ---- a record is put

module _ (size pool : ℕ) (items : List Record) (l : Layout) (stale : List Bool) (plan : List ℕ) (t n : ℕ) (file : Option (List ℕ)) (d : Drafted size pool items l stale plan t file) (planned : IsPlan size pool plan) (k : RecordKey) (s : ℕ) (in_table : s < length l.slots)
    (own : (c : Chain) → At l.slots s (Some c) → c.key ≡ k) (only : (r : ℕ) (c : Chain) → At l.slots r (Some c) → c.key ≡ k → r ≡ s)
    (stale' : List Bool) (fewer : (j : ℕ) → At stale' j false → At stale j false × IsOutside size s j) where
  module _ (long : ℕ) (le : HasLength long file) (v : List ℕ) (wide : length k.bytes ≡ 24) (block : 48 ≤ size) (enough : t + n ≤ length plan) (charge : n ≡ charge_of size (length v)) where
    suits : IsSlotFor size k (Some v) plan t (t + n) (Some (record { key = k; pages = next_pages plan t n }))
    suits = record {
      key = λ c e. ap (λ (x : Chain). x.key) (sym (the e));
      key_length = λ c e. ap (λ (x : Chain). length x.key.bytes) (sym (the e)) ∙ wide;
      valued = λ c e. (v, refl, ap (λ (x : Chain). length x.pages) (sym (the e)) ∙ omega (arith, length-take n (drop t plan), length-drop t plan, enough, charge));
      there = λ w e. (record { key = k; pages = next_pages plan t n }, refl);
      pages = λ c a p e at. next_there plan t n a p (subst (λ (x : Chain). At x.pages a p) (sym (the e)) at);
    }
      where
        the : {c : Chain} → Some (record { key = k; pages = next_pages plan t n }) ≡ Some c → record { key = k; pages = next_pages plan t n } ≡ c
        the e = cc

    pub record_put : Drafted size pool (changed items (k, Some v)) (record l { slots = set l.slots s (Some (record { key = k; pages = next_pages plan t n })) }) stale' plan (t + n) (after file (part_writes size long (record_parts size v (record { key = k; pages = next_pages plan t n }))))
    record_put =
        let c : Chain = record { key = k; pages = next_pages plan t n } in
        let parts = record_parts size v c in
        let same : pages_of parts ≡ next_pages plan t n = pages_of_chain (size - 48) k (length v) 0 v (next_pages plan t n) in
        let fit : All (Fits size) parts = chain_fits size (size - 48) k (length v) 0 v (next_pages plan t n) wide (omega (arith, block)) in
        one_change size pool items l stale plan t (t + n) file d planned k (Some v) s (Some c) in_table own only (omega arith) suits
        (after file (part_writes size long parts))
        (λ part free stands. has_others size long file parts part fit (λ a at. free (t + a) (omega arith) (next_there plan t n a part.0 (subst (λ (ps : List ℕ). At ps a part.0) same at)).0) stands)
        (λ b w e f. subst (λ (x : Chain). All (Has size (after file (part_writes size long parts))) (record_parts size w x)) (chain_is b e)
        (subst (λ (y : List ℕ). All (Has size (after file (part_writes size long parts))) (record_parts size y c)) (value_is w f)
        (has_these size long file parts le fit (subst (λ (ps : List ℕ). IsDistinct ps) (sym same) (next_distinct plan t n planned.distinct)))))
        stale' fewer
      where
        chain_is : (b : Chain) → Some (record { key = k; pages = next_pages plan t n }) ≡ Some b → record { key = k; pages = next_pages plan t n } ≡ b
        chain_is b e = cc

        value_is : (w : List ℕ) → Some v ≡ Some w → v ≡ w
        value_is w e = cc

  -- ---- a record is removed

  no_chain : IsSlotFor size k None plan t t None
  no_chain = record {
    key = λ c e. absurd cc;
    key_length = λ c e. absurd cc;
    valued = λ c e. absurd cc;
    there = λ v e. absurd cc;
    pages = λ c a p e at. absurd cc;
  }

  pub record_removed : Drafted size pool (changed items (k, None)) (record l { slots = set l.slots s None }) stale' plan t file
  record_removed =
      one_change size pool items l stale plan t t file d planned k None s None in_table own only (omega arith) no_chain file (λ part free stands. stands) (λ c v e f. absurd cc) stale' fewer

-- a key that has no record is removed
module _ (size pool : ℕ) (items : List Record) (l : Layout) (stale : List Bool) (plan : List ℕ) (t : ℕ) (file : Option (List ℕ)) (d : Drafted size pool items l stale plan t file) (k : RecordKey) (none : map.find key_cmp k items ≡ None) where
  same_found : (q : RecordKey) → map.find key_cmp q (changed items (k, None)) ≡ map.find key_cmp q items
  same_found q =
      let said = change_says_what_is_found items k None in
      ⊎_elim (λ same. ap (λ (j : RecordKey). map.find key_cmp j (changed items (k, None))) same ∙ said.0 ∙ sym (ap (λ (j : RecordKey). map.find key_cmp j items) same ∙ none)) (λ apart. said.1 q apart) (same_or_not q k)

  same_sum : (f : List ℕ → ℕ) → over f items ≡ over f (changed items (k, None))
  same_sum f = omega (arith, over_changed f k None items d.ascending, ap (λ (o : Option (List ℕ)). if_any f o) none)

  pub nothing_removed : Drafted size pool (changed items (k, None)) l stale plan t file
  nothing_removed = record {
    ascending = ascending_changed items k None d.ascending;
    charged = d.charged ∙ same_sum (λ v. charge_of size (length v));
    layout = record {
      directory = d.layout.directory;
      slots = d.layout.slots;
      table = record {
        one_slot = d.layout.table.one_slot;
        key_length = d.layout.table.key_length;
        number = d.layout.table.number ∙ sym (length_over items) ∙ same_sum (λ v. 1) ∙ length_over (changed items (k, None));
        kept = λ s c at. let v = d.layout.table.kept s c at in (v.0, same_found c.key ∙ v.1, v.2);
        placed = λ q v found. d.layout.table.placed q v (sym (same_found q) ∙ found);
      };
      below = d.layout.below;
      once = d.layout.once;
    };
    unplanned = d.unplanned;
    directory = d.directory;
    chains = λ s c v at found. d.chains s c v at (sym (same_found c.key) ∙ found);
  }

-- ---- a directory page is written

module _ (size pool : ℕ) (items : List Record) (l : Layout) (stale : List Bool) (plan : List ℕ) (t : ℕ) (file : Option (List ℕ)) (d : Drafted size pool items l stale plan t file) (planned : IsPlan size pool plan) (k q : ℕ) (in_root : k < length l.directory) (there : At plan t q) (fit : length (directory_text size k l.slots) ≤ size)
    (stale' : List Bool) (fewer : (j : ℕ) → At stale' j false → (k ≡ j → ⊥) → At stale j false) where
  name_now : (u : Name) (p : ℕ) → Names (record l { directory = set l.directory k q }) u p → ((u ≡ InRoot k) × (q ≡ p)) ⊎ Names l u p
  name_now (InRoot j) p at =
      ⊎_elim
      (λ x. inl (ap (λ (m : ℕ). InRoot m) (sym x.0), x.1))
      (λ y. inr y.1)
      (at_set l.directory k j q p at)
  name_now (InChain r a) p names = inr names

  -- pages that were named are others
  another : (u : Name) (p : ℕ) → Names l u p → q ≡ p → ⊥
  another u p names e = d.unplanned u p t names (omega arith) (there ∙ ap (λ (m : ℕ). Some m) e)

  pub directory_written : Drafted size pool items (record l { directory = set l.directory k q }) stale' plan (t + 1) (after file (page_write size (q, directory_text size k l.slots) ∷ []))
  directory_written =
      record {
        ascending = d.ascending;
        charged = d.charged;
        layout = record {
          directory = length-set l.directory k q ∙ d.layout.directory;
          slots = d.layout.slots;
          table = d.layout.table;
          below = λ u p names. ⊎_elim (λ x. subst (λ (m : ℕ). m < page_count size pool) x.1 (planned.below t q there)) (λ y. d.layout.below u p y) (name_now u p names);
          once = λ u v p first second.
              ⊎_elim
              (λ x. ⊎_elim
              (λ y. x.0 ∙ sym y.0)
              (λ y. absurd (another v p y x.1))
              (name_now v p second))
              (λ x. ⊎_elim
              (λ y. absurd (another u p x y.1))
              (λ y. d.layout.once u v p x y)
              (name_now v p second))
              (name_now u p first);
        };
        unplanned = λ u p n names le at.
            ⊎_elim
            (λ x. let e : n ≡ t = planned.distinct n t p at (there ∙ ap (λ (m : ℕ). Some m) x.1) in absurd (omega (arith, e, le)))
            (λ y. d.unplanned u p n y (omega (arith, le)) at)
            (name_now u p names);
        directory = λ j p at clean.
            ⊎_elim
            (λ x. subst (λ (m : ℕ). Has size (after file (page_write size (q, directory_text size k l.slots) ∷ [])) (p, directory_text size m l.slots)) x.0
            (subst (λ (m : ℕ). Has size (after file (page_write size (q, directory_text size k l.slots) ∷ [])) (m, directory_text size k l.slots)) x.1
            (has_this size file (q, directory_text size k l.slots) fit)))
            (λ y. has_other size file (q, directory_text size k l.slots) fit (p, directory_text size j l.slots) (another (InRoot j) p y.1) (d.directory j p y.1 (fewer j clean y.0)))
            (at_set l.directory k j q p at);
        chains = λ r c v at found.
            let stood = d.chains r c v at found in
            let named = parts_named (size - 48) c.key (length v) 0 v c.pages in
            λ n e lt. has_other size file (q, directory_text size k l.slots) fit _ (another (InChain r (named n e lt).0) _ (c, at, (named n e lt).1)) (stood n e lt);
      }

-- ---- which pages are stale

-- a slot that is not of a directory page is outside it
pub of_other_page : (size s k : ℕ) → 0 < slots_in_page size → (s / slots_in_page size ≡ k → ⊥) → IsOutside size s k
of_other_page size s k some apart = by (slots_in_page size) (s / slots_in_page size) (s % slots_in_page size) (mod_below s (slots_in_page size) some) (div-add-mod' s (slots_in_page size)) apart (cases_lt (s / slots_in_page size) k)
  where
    by : (per q r : ℕ) → r < per → q * per + r ≡ s → (q ≡ k → ⊥) → (q < k) ⊎ (k ≤ q) → (s < k * per) ⊎ (k * per + per ≤ s)
    by per q r lt is ne (inl below) = let le : suc q ≤ k = omega (arith, below) in inl (omega (arith, mul-le-mul_left per le))
    by per q r lt is ne (inr above) = let le : suc k ≤ q = omega (arith, above, ne) in inr (omega (arith, mul-le-mul_left per le))

-- after a page is marked, what is not stale is another page
pub fewer_clean : (size s : ℕ) (stale : List Bool) → 0 < slots_in_page size → (j : ℕ) → At (set stale (s / slots_in_page size) true) j false → At stale j false × IsOutside size s j
fewer_clean size s stale some j at =
    ⊎_elim
    (λ x. absurd (true_false x.1))
    (λ y. (y.1, of_other_page size s j some y.0))
    (at_set stale (s / slots_in_page size) j true false at)
  where
    true_false : true ≡ false → ⊥
    true_false e = cc

-- after a page is written, what is not stale is that page or was not stale
pub clean_page : (stale : List Bool) (k j : ℕ) → At (set stale k false) j false → (k ≡ j → ⊥) → At stale j false
clean_page stale k j at apart = ⊎_elim (λ x. absurd (apart x.0)) (λ y. y.1) (at_set stale k j false false at)
