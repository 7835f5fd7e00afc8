-- Chains that are read slot by slot, and chains that stand in a file.
use Rattle.std.proofs.Common.{◌≡◌, ℕ, zero, suc, ◌+◌, ◌<◌, ◌≤◌, ltb, leb, List, [], ◌∷◌, ◌++◌, length, Option, Some, None, refl, ap, sym, subst, ◌∙◌, arith}
use Rattle.std.proofs.Common.{append_assoc, append-nil}
use Rattle.std.specs.Prelude.{map, All}
use Rattle.std.specs.Option.{option_map, option_and_then}
use Rattle.std.proofs.lemmas.Bool.{lt-ltb, le-leb, cond-true}
use Rattle.std.proofs.lemmas.Option.{none-some, same_Some}
use Rattle.std.proofs.lemmas.List.Elements.{All-head, All-tail}
use Rattle.std.proofs.lemmas.List.Sums.{sum_by-cons}
use Rattle.kd_base.specs.ToolsLaws.{map_some, and_some}
use Rattle.kd_records.specs.Contents.{Record}
use Rattle.kd_records.specs.Charge.{IsBlockSize, charge_of}
use Rattle.kdcfile_layout.specs.Places.{At}
use Rattle.kdcfile_layout.specs.PlacesLaws.{no_item}
use Rattle.kdcfile_layout.specs.TestsLaws.{when}
use Rattle.kdcfile_layout.specs.declared.chain.Chain.{Chain}
use Rattle.kdcfile_layout.specs.Layout.{first_of_pages, if_used, chain_pages}
use Rattle.kdcfile_layout.specs.declared.kdcfile_read.slot.First.{First}
use Rattle.kdcfile_layout.specs.Slots.{first_in}
use Rattle.kdcfile_layout.specs.Reading.{whole_of}
use Rattle.kdcfile_layout.specs.Chains.{page_at, Chained, chain_of}
use Rattle.kdcfile_layout.specs.Reads.{ReadsChain}
use Rattle.kdcfile_layout.specs.ReadChainsLaws.{read_chains_stand}
use Rattle.kdcfile_layout.specs.SizesLaws.{charge_holds}
use Rattle.kdcfile_load.specs.Reads.{steps, chain_within, record_at, with_free, with_record, after_slot, records_from, IsFirst}
use Rattle.kdcfile_load.specs.declared.records.Gathering.{Gathering}
use Rattle.kdcfile_load.proofs.StepsLaws.{steps_none, steps_more}

-- ---- the length of a value

-- ---- chains that stand

-- each used slot has a record, whose chain is read
abbrev pub AreStored : ℕ → ℕ → List ℕ → List (Option Chain) → List Record → Type 0
AreStored size count h [] [] = Unit {0}
AreStored size count h [] (r ∷ records) = ⊥
AreStored size count h (None ∷ slots) records = AreStored size count h slots records
AreStored size count h (Some c ∷ slots) [] = ⊥
AreStored size count h (Some c ∷ slots) (r ∷ records) = (c.key ≡ r.0) × ReadsChain size count h c r.1 × AreStored size count h slots records

-- a slot's record
pub stored_at : (size count : ℕ) (h : List ℕ) (slots : List (Option Chain)) (records : List Record) (s : ℕ) (c : Chain) → AreStored size count h slots records → At slots s (Some c) → (n : ℕ) × (r : Record) × At records n r × (c.key ≡ r.0) × ReadsChain size count h c r.1
stored_at size count h [] records s c stored at = absurd (no_item s (Some c) at)
stored_at size count h (None ∷ slots) records zero c stored at = absurd (none-some c (same_Some None (Some c) at))
stored_at size count h (None ∷ slots) records (suc s) c stored at = stored_at size count h slots records s c stored at
stored_at size count h (Some d ∷ slots) [] s c stored at = absurd stored
stored_at size count h (Some d ∷ slots) (r ∷ records) zero c stored at =
    subst (λ (x : Chain). (n : ℕ) × (q : Record) × At (r ∷ records) n q × (x.key ≡ q.0) × ReadsChain size count h x q.1) (same_Some d c (same_Some (Some d) (Some c) at)) (zero, r, refl, stored.0, stored.1)
stored_at size count h (Some d ∷ slots) (r ∷ records) (suc s) c stored at =
    let rest = stored_at size count h slots records s c stored.2 at in
    (suc rest.0, rest.1, rest.2, rest.3, rest.4)

-- what is known of a used slot of a layout that stands
pub record IsRead (size count : ℕ) (h : List ℕ) (c : Chain) : Type 0 where
  pub value : List ℕ
  pub charged : length c.pages ≡ charge_of size (length value)
  pub below : first_of_pages c.pages < count
  pub reads : ReadsChain size count h c value

module _ (size count : ℕ) (h : List ℕ) (block : IsBlockSize size) where
  -- the record of such a slot is read
  record_read : (c : Chain) (left : ℕ) (is : IsRead size count h c) → length c.pages ≤ left → record_at size count left h c.key (first_of_pages c.pages) ≡ Some (c.pages, is.value)
  record_read c left is few =
      let p = first_of_pages c.pages in
      let n = length is.value in
      cond-true (ltb p count) (option_and_then (λ (m : ℕ). chain_within size count left h c.key p m) (whole_of (page_at size h p))) None (lt-ltb p count is.below)
      ∙ ap (λ (o : Option ℕ). option_and_then (λ (m : ℕ). chain_within size count left h c.key p m) o) is.reads.whole
      ∙ cond-true (leb (charge_of size n) left) (chain_of size count h c.key n 0 (charge_of size n) n p) None (le-leb (charge_of size n) left (omega (arith, is.charged, few)))
      ∙ is.reads.chain

  -- all slots of a layout that stands are read
  pub records_read : (slots : List (Option Chain)) (g : Gathering) → ((s : ℕ) (c : Chain) → At slots s (Some c) → IsRead size count h c) → chain_pages slots ≤ g.left
      → (next : Gathering) × (records_from size count h g (map first_in slots) ≡ Some next) × (next.slots ≡ g.slots ++ slots)
  records_read [] g each few = (g, steps_none (after_slot size count h) g, sym (append-nil g.slots))
  records_read (None ∷ slots) g each few =
      let rest = records_read slots (with_free g) (λ s c at. each (suc s) c at) (omega (arith, few, sum_by-cons (λ (o : Option Chain). if_used (λ c. length c.pages) o) None slots)) in (
        rest.0,
        steps_more (after_slot size count h) g None (map first_in slots) ∙ rest.1,
        rest.2 ∙ append_assoc {A = Option Chain} g.slots (None ∷ []) slots,
      )
  records_read (Some c ∷ slots) g each few =
      let is = each zero c refl in
      let all : chain_pages (Some c ∷ slots) ≡ length c.pages + chain_pages slots = sum_by-cons (λ (o : Option Chain). if_used (λ c. length c.pages) o) (Some c) slots in
      let next = with_record g c.key (c.pages, is.value) in
      let rest = records_read slots (with_record g c.key (c.pages, is.value)) (λ s d at. each (suc s) d at) (omega (arith, few, all)) in
      let here : after_slot size count h g (first_in (Some c)) ≡ Some (with_record g c.key (c.pages, is.value)) = ap (λ (o : Option Chained). option_map (λ (r : Chained). with_record g c.key r) o) (record_read c g.left is (omega (arith, few, all))) in (
        rest.0,
        steps_more (after_slot size count h) g (first_in (Some c)) (map first_in slots) ∙ ap (λ (o : Option Gathering). option_and_then (λ (n : Gathering). steps (after_slot size count h) n (map first_in slots)) o) here ∙ rest.1,
        rest.2 ∙ append_assoc {A = Option Chain} g.slots (Some c ∷ []) slots,
      )

  -- a record that was read
  record_stands : (f : First) (left : ℕ) (r : Chained) → length f.key.bytes ≡ 24 → record_at size count left h f.key f.page ≡ Some r → (first_of_pages r.0 ≡ f.page) × ReadsChain size count h (record { key = f.key; pages = r.0 }) r.1
  record_stands f left r wide_key e =
      let there = when (ltb f.page count) (option_and_then (λ (m : ℕ). chain_within size count left h f.key f.page m) (whole_of (page_at size h f.page))) r e in
      let n = and_some (λ (m : ℕ). chain_within size count left h f.key f.page m) (whole_of (page_at size h f.page)) r there.1 in
      let chain = (when (leb (charge_of size n.0) left) (chain_of size count h f.key n.0 0 (charge_of size n.0) n.0 f.page) r n.2).1 in
      let stands = read_chains_stand size count h f.key n.0 0 (charge_of size n.0) n.0 f.page r.1 r.0 wide_key (charge_holds size n.0 block) chain in
      let whole : whole_of (page_at size h f.page) ≡ Some n.0 = n.1 in
      let long : n.0 ≡ length r.1 = sym stands.2 in (
        stands.0,
        record {
          whole = ap (λ (p : ℕ). whole_of (page_at size h p)) stands.0 ∙ whole ∙ ap (λ (m : ℕ). Some m) long;
          chain =
              ap (λ (p : ℕ). chain_of size count h f.key (length r.1) 0 (charge_of size (length r.1)) (length r.1) p) stands.0
              ∙ ap (λ (m : ℕ). chain_of size count h f.key m 0 (charge_of size m) m f.page) (sym long)
              ∙ chain;
        },
      )

  some_page : (f : First) (p : ℕ) → p ≡ f.page → ◌≡◌ {A = Option First} (Some (record { key = f.key; page = p })) (Some f)
  some_page f p e = λ z. Some (record { key = f.key; page = e z })

  -- all slots that were read have chains that are read
  pub records_stand : (firsts : List (Option First)) (g next : Gathering) → All IsFirst firsts → records_from size count h g firsts ≡ Some next
      → (slots : List (Option Chain)) × (records : List Record) × (next.slots ≡ g.slots ++ slots) × (next.records ≡ g.records ++ records) × (map first_in slots ≡ firsts) × AreStored size count h slots records
  records_stand [] g next are e =
      let is : g ≡ next = same_Some g next (sym (steps_none (after_slot size count h) g) ∙ e) in
      ([], [], ap (λ (x : Gathering). x.slots) (sym is) ∙ sym (append-nil g.slots), ap (λ (x : Gathering). x.records) (sym is) ∙ sym (append-nil g.records), refl, tt)
  records_stand (None ∷ firsts) g next are e =
      let rest = records_stand firsts (with_free g) next (All-tail IsFirst None firsts are) (sym (steps_more (after_slot size count h) g None firsts) ∙ e) in
      (None ∷ rest.0, rest.1, rest.2 ∙ append_assoc {A = Option Chain} g.slots (None ∷ []) rest.0, rest.3, ap (λ (l : List (Option First)). None ∷ l) rest.4, rest.5)
  records_stand (Some f ∷ firsts) g next are e =
      let first = and_some (λ (n : Gathering). steps (after_slot size count h) n firsts) (after_slot size count h g (Some f)) next (sym (steps_more (after_slot size count h) g (Some f) firsts) ∙ e) in
      let own = map_some (λ (r : Chained). with_record g f.key r) (record_at size count g.left h f.key f.page) first.0 first.1 in
      let key = (All-head IsFirst (Some f) firsts are).key_length in
      let stands = record_stands f g.left own.0 key own.1 in
      let rest = records_stand firsts first.0 next (All-tail IsFirst (Some f) firsts are) first.2 in
      let c : Chain = record { key = f.key; pages = own.0.0 } in (
        Some (record { key = f.key; pages = own.0.0 }) ∷ rest.0,
        (f.key, own.0.1) ∷ rest.1,
        rest.2 ∙ ap (λ (x : Gathering). x.slots ++ rest.0) (sym own.2) ∙ append_assoc {A = Option Chain} g.slots (Some (record { key = f.key; pages = own.0.0 }) ∷ []) rest.0,
        rest.3 ∙ ap (λ (x : Gathering). x.records ++ rest.1) (sym own.2) ∙ append_assoc {A = Record} g.records ((f.key, own.0.1) ∷ []) rest.1,
        ap (λ (o : Option First). o ∷ map first_in rest.0) (some_page f (first_of_pages own.0.0) stands.0) ∙ ap (λ (l : List (Option First)). Some f ∷ l) rest.4,
        (refl, stands.1, rest.5),
      )
