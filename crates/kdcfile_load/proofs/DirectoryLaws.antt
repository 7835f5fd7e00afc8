-- The slots of a directory that stands are read, and what is read are the slots of each of its pages.
use Rattle.std.proofs.Common.{◌≡◌, ℕ, zero, suc, ◌+◌, ◌*◌, ◌<◌, ◌≤◌, ltb, List, [], ◌∷◌, ◌++◌, length, take, drop, Option, Some, None, refl, ap, sym, subst, ◌∙◌, arith, append_assoc, append-nil}
use Rattle.std.proofs.Common.{length-append}
use Rattle.std.specs.Prelude.{map}
use Rattle.std.specs.Option.{option_map, option_and_then}
use Rattle.std.proofs.lemmas.Bool.{lt-ltb, cond-true}
use Rattle.std.proofs.lemmas.Option.{same_Some}
use Rattle.std.proofs.lemmas.List.{take-take, take-append-drop, drop-take, take_all, take-map, drop-map, take_at, drop_at}
use Rattle.kd_base.specs.ToolsLaws.{map_some, and_some}
use Rattle.kdcfile_layout.specs.Places.{At}
use Rattle.kdcfile_layout.specs.PlacesLaws.{no_item}
use Rattle.kdcfile_layout.specs.Fields.{AreBytes}
use Rattle.kdcfile_layout.specs.TestsLaws.{when}
use Rattle.kdcfile_layout.specs.declared.chain.Chain.{Chain}
use Rattle.kdcfile_layout.specs.Layout.{slots_in_page}
use Rattle.kdcfile_layout.specs.declared.kdcfile_read.slot.First.{First}
use Rattle.kdcfile_layout.specs.Slots.{first_in, slots_of}
use Rattle.kdcfile_layout.specs.Chains.{page_at}
use Rattle.kdcfile_layout.specs.Reads.{page_slots}
use Rattle.kdcfile_load.specs.Reads.{steps, slots_at, after_page, directory_from}
use Rattle.kdcfile_load.proofs.FirstsLaws.{firsts_of}
use Rattle.kdcfile_load.proofs.StepsLaws.{steps_none, steps_more}

-- the first a, and the b after them
take_two : {X : Type 0} (a b : ℕ) (xs : List X) → take a xs ++ take b (drop a xs) ≡ take (a + b) xs
take_two {X} a b xs =
    ap (λ (l : List X). l ++ take b (drop a xs)) (sym (take-take a (a + b) xs (omega arith)))
    ∙ ap (λ (l : List X). take a (take (a + b) xs) ++ l) (sym (drop-take a b xs))
    ∙ take-append-drop a (take (a + b) xs)

module _ (size count : ℕ) (h : List ℕ) where
  module _ (fs : List (Option First)) where
    -- what each page of a directory has is read after what those before it have
    pub directory_read : (pages : List ℕ) (j : ℕ) → length fs ≡ (j + length pages) * slots_in_page size
        → ((k p : ℕ) → At pages k p → (p < count) × (slots_of (slots_in_page size) (page_at size h p) ≡ Some (take (slots_in_page size) (drop ((j + k) * slots_in_page size) fs))))
        → directory_from size count h (take (j * slots_in_page size) fs) pages ≡ Some fs
    directory_read [] j long each =
        steps_none (after_page size count h) (take (j * slots_in_page size) fs)
        ∙ ap (λ (l : List (Option First)). Some l) (take_all (j * slots_in_page size) fs (all_of j (slots_in_page size) (length fs) long))
      where
        all_of : (j per n : ℕ) → n ≡ (j + 0) * per → n ≤ j * per
        all_of j per n e = let z : j + 0 ≡ j = omega arith in omega (arith, e, ap (λ (x : ℕ). x * per) z)
    directory_read (p ∷ pages) j long each =
        let per = slots_in_page size in
        let own = each zero p refl in
        let here : slots_of per (page_at size h p) ≡ Some (take per (drop (j * per) fs)) = subst (λ (m : ℕ). slots_of per (page_at size h p) ≡ Some (take per (drop (m * per) fs))) (omega arith) own.1 in
        let at : slots_at size count h p ≡ Some (take per (drop (j * per) fs)) = cond-true (ltb p count) (slots_of per (page_at size h p)) None (lt-ltb p count own.0) ∙ here in
        let next : after_page size count h (take (j * per) fs) p ≡ Some (take (j * per + per) fs) =
        ap (λ (o : Option (List (Option First))). option_map (λ (more : List (Option First)). take (j * per) fs ++ more) o) at ∙ ap (λ (l : List (Option First)). Some l) (take_two (j * per) per fs) in
        steps_more (after_page size count h) (take (j * per) fs) p pages
        ∙ ap (λ (o : Option (List (Option First))). option_and_then (λ (s : List (Option First)). steps (after_page size count h) s pages) o) next
        ∙ ap (λ (m : ℕ). steps (after_page size count h) (take m fs) pages) (next_page j per)
        ∙ directory_read pages (j + 1) (long ∙ ap (λ (m : ℕ). m * per) (omega arith))
        (λ k q at. let more = each (suc k) q at in (more.0, more.1 ∙ ap (λ (m : ℕ). Some (take per (drop (m * per) fs))) (omega arith)))
      where
        next_page : (j per : ℕ) → j * per + per ≡ (j + 1) * per
        next_page j per = omega arith

  -- what was read before, and then the slots of each page
  pub read_directory_is : (pages : List ℕ) (slots fs : List (Option First)) → ((k p : ℕ) → At pages k p → AreBytes (page_at size h p)) → directory_from size count h slots pages ≡ Some fs
      → (rest : List (Option First)) × (fs ≡ slots ++ rest) × ((k p : ℕ) → At pages k p → slots_of (slots_in_page size) (page_at size h p) ≡ Some (take (slots_in_page size) (drop (length slots + k * slots_in_page size) fs)))
  read_directory_is [] slots fs bytes e =
      ([], sym (same_Some slots fs (sym (steps_none (after_page size count h) slots) ∙ e)) ∙ sym (append-nil slots), λ k p at. absurd (no_item k p at))
  read_directory_is (p ∷ pages) slots fs bytes e =
      let per = slots_in_page size in
      let first = and_some (λ (s : List (Option First)). steps (after_page size count h) s pages) (after_page size count h slots p) fs (sym (steps_more (after_page size count h) slots p pages) ∙ e) in
      let own = map_some (λ (more : List (Option First)). slots ++ more) (slots_at size count h p) first.0 first.1 in
      let here = (when (ltb p count) (slots_of per (page_at size h p)) own.0 own.1).1 in
      let long = (firsts_of per (page_at size h p) own.0 (bytes zero p refl) here).number in
      let rest = read_directory_is pages first.0 fs (λ k q at. bytes (suc k) q at) first.2 in
      let whole : fs ≡ slots ++ (own.0 ++ rest.0) = rest.1 ∙ ap (λ (l : List (Option First)). l ++ rest.0) (sym own.2) ∙ append_assoc slots own.0 rest.0 in
      let longer : length first.0 ≡ length slots + per = ap (λ (l : List (Option First)). length l) (sym own.2) ∙ omega (arith, length-append slots own.0, long) in (
        own.0 ++ rest.0,
        whole,
        λ k q at. each k q at own.0 rest.0 here long whole first.0 longer rest.2,
      )
    where
      each : (k q : ℕ) → At (p ∷ pages) k q → (own rest : List (Option First)) → slots_of (slots_in_page size) (page_at size h p) ≡ Some own → length own ≡ slots_in_page size → fs ≡ slots ++ (own ++ rest) → (before : List (Option First)) → length before ≡ length slots + slots_in_page size
          → ((k p : ℕ) → At pages k p → slots_of (slots_in_page size) (page_at size h p) ≡ Some (take (slots_in_page size) (drop (length before + k * slots_in_page size) fs)))
          → slots_of (slots_in_page size) (page_at size h q) ≡ Some (take (slots_in_page size) (drop (length slots + k * slots_in_page size) fs))
      each zero q at own rest here long whole before longer more =
          let after : drop (length slots + 0 * slots_in_page size) fs ≡ own ++ rest = ap (λ (l : List (Option First)). drop (length slots + 0 * slots_in_page size) l) whole ∙ drop_at slots (own ++ rest) (length slots + 0 * slots_in_page size) (omega arith) in
          ap (λ (x : ℕ). slots_of (slots_in_page size) (page_at size h x)) (sym (same_Some p q at))
          ∙ here
          ∙ ap (λ (l : List (Option First)). Some l) (sym (take_at own rest (slots_in_page size) long) ∙ ap (λ (l : List (Option First)). take (slots_in_page size) l) (sym after))
      each (suc k) q at own rest here long whole before longer more =
          more k q at ∙ ap (λ (m : ℕ). Some (take (slots_in_page size) (drop m fs))) (moved k (length slots) (slots_in_page size) (length before) longer)
        where
          moved : (k s per b : ℕ) → b ≡ s + per → b + k * per ≡ s + suc k * per
          moved k s per b e = omega (arith, e)

-- the slots of a page, as they are read
pub page_firsts : (size k : ℕ) (slots : List (Option Chain)) → map first_in (page_slots size k slots) ≡ take (slots_in_page size) (drop (k * slots_in_page size) (map first_in slots))
page_firsts size k slots =
    sym (take-map first_in (slots_in_page size) (drop (k * slots_in_page size) slots)) ∙ ap (λ (l : List (Option First)). take (slots_in_page size) l) (sym (drop-map first_in (k * slots_in_page size) slots))
