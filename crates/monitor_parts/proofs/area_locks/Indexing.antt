-- What the index of the holders shows, and that it stays one where an area changes hands.
use Rattle.std.specs.Prelude.{◌≡◌, refl, Bool, true, false, cond, not, ◌&&◌, IsTrue, IfNone, IfSome, List, [], ◌∷◌, Option, Some, None, is_some}
use Rattle.std.proofs.Common.{ap, sym, subst, ◌∙◌, true≢false}
use Rattle.std.proofs.lemmas.List.Elements.{All-head, filter_passes}
use Rattle.std.specs.List.{All}
use Rattle.std.specs.Option.{option_cmp}
use Rattle.std.specs.Ordering.{is_eq, is_lt, eq_by_cmp, ordering_then, ordering_reverse}
use Rattle.std.specs.declared.cmp.Ordering.{Ordering}
use Rattle.std.specs.declared.cmp.Ordering.TheVariants.{Less, Equal, Greater}
use Rattle.std.specs.Cmp.{IsTotalOrder, eq_by_cmp_equiv, Equal-is, on_total, then_total, tied_itself, tied_then}
use Rattle.std.specs.Cmp.Lexicographic.{options_total}
use Rattle.std.specs.FinMap.{find, put, is_sorted}
use Rattle.std.specs.FinMap.Entries.{below_all, find_tied, find-put, find-where_key, is_sorted-where_key}
use Rattle.kd_base.specs.OrderLaws.{holds, is_true}
use Rattle.kd_base.specs.ToolsLaws.{both_true}
use Rattle.kd_base.specs.Places.{from_key, without}
use Rattle.kd_base.specs.PlacesLaws.{find_without, left_sorted}
use Rattle.kd_base.specs.TreeLaws.{none_before}
use Rattle.kdcs_types.specs.declared.key.Area.{Area}
use Rattle.kdcs_types.specs.declared.key.ServiceId.{ServiceId}
use Rattle.kdcs_types.specs.Keys.{area_cmp, area_eq, id_cmp, id_eq}
use Rattle.kdcs_types.specs.KeyLaws.{area_total, id_eq_itself, id_eq_same, id_total}
use Rattle.monitor_parts.specs.Asked.{is_holder}
use Rattle.monitor_parts.specs.Index.{Holding, IsIndex, holding_cmp, is_held}

pub holding_total : IsTotalOrder holding_cmp
holding_total = then_total (on_total (λ (h : Holding). h.0) id_total) (on_total (λ (h : Holding). h.1) (options_total area_total))

-- ---- the first area of a service

pub none_by : {Y : Type 0} (o : Option Y) (P : Type 0) → P → IfNone o P
none_by None P p = p
none_by (Some y) P p = tt

later_service : (r s : Ordering) → is_eq r ≡ false → not (is_lt (ordering_then r s)) ≡ true → r ≡ Greater
later_service Less s other passes = absurd (true≢false (sym passes))
later_service Equal s other passes = absurd (true≢false other)
later_service Greater s other passes = refl

module _ {X : Type 0} (holders : List (Area × ServiceId)) (held : List (Holding × X)) (index : IsIndex holders held) (up : IsTrue (is_sorted holding_cmp held)) (who : ServiceId) where
  abbrev begins : Holding
  begins = (who, None)

  abbrev rest : List (Holding × X)
  rest = from_key holding_cmp begins held

  not_before : (area : Option Area) → not (is_lt (holding_cmp (who, area) begins)) ≡ true
  not_before area = ap (λ r. not (is_lt (ordering_then r (option_cmp area_cmp area None)))) (tied_itself id_total who) ∙ by area
    where
      by : (o : Option Area) → not (is_lt (option_cmp area_cmp o None)) ≡ true
      by None = refl
      by (Some a) = refl

  -- all that it holds is from there on
  held_is : (area : Option Area) → is_held holders who area ≡ is_some (find holding_cmp (who, area) rest)
  held_is area =
      sym (index.exact who area)
      ∙ ap is_some (
      sym (
      find-where_key holding_cmp (λ k. not (is_lt (holding_cmp k begins))) (who, area) (λ k t. ap (λ r. not (is_lt r)) (sym (holding_total.congr (who, area) k begins t))) held
      ∙ ap (λ b. cond b (find holding_cmp (who, area) held) None) (not_before area)
      )
      )

  pub nothing_held : rest ≡ [] → (area : Area) → is_held holders who (Some area) ≡ false
  nothing_held e area = held_is (Some area) ∙ ap (λ (l : List (Holding × X)). is_some (find holding_cmp (who, Some area) l)) e

  module _ (first : Holding × X) (more : List (Holding × X)) (is : rest ≡ first ∷ more) where
    held_from : (area : Option Area) → is_held holders who area ≡ is_some (find holding_cmp (who, area) (first ∷ more))
    held_from area = held_is area ∙ ap (λ (l : List (Holding × X)). is_some (find holding_cmp (who, area) l)) is

    own : id_eq first.0.0 who ≡ true → is_held holders who first.0.1 ≡ true
    own e =
        held_from first.0.1
        ∙ ap (λ (i : ServiceId). is_some (find holding_cmp (i, first.0.1) (first ∷ more))) (sym (id_eq_same first.0.0 who e))
        ∙ ap (λ r. is_some (cond (is_eq r) (Some first.1) (find holding_cmp first.0 more))) (tied_itself holding_total first.0)

    pub first_held : id_eq first.0.0 who ≡ true → IfSome first.0.1 (λ (area : Area). IsTrue (is_held holders who (Some area)))
    first_held e = by first.0.1 (own e)
      where
        by : (o : Option Area) → is_held holders who o ≡ true → IfSome o (λ (area : Area). IsTrue (is_held holders who (Some area)))
        by None h = tt
        by (Some area) h = h

    -- no service stands without an area
    pub has_area : id_eq first.0.0 who ≡ true → (P : Type 0) → IfNone first.0.1 P
    has_area e P = by first.0.1 (own e)
      where
        by : (o : Option Area) → is_held holders who o ≡ true → IfNone o P
        by None h = absurd (true≢false (sym h))
        by (Some area) h = tt

    pub anothers_first : id_eq first.0.0 who ≡ false → (area : Area) → is_held holders who (Some area) ≡ false
    anothers_first e area =
        held_from (Some area)
        ∙ ap (λ r. is_some (cond (is_eq r) (Some first.1) (find holding_cmp (who, Some area) more))) less
        ∙ ap is_some (none_before holding_cmp (who, Some area) first more holding_total less below)
      where
        passes : not (is_lt (holding_cmp first.0 begins)) ≡ true
        passes =
            let all = filter_passes (λ (e : Holding × X). not (is_lt (holding_cmp e.0 begins))) held in
            All-head (λ (e : Holding × X). not (is_lt (holding_cmp e.0 begins)) ≡ true) first more (subst (λ (l : List (Holding × X)). All (λ (e : Holding × X). not (is_lt (holding_cmp e.0 begins)) ≡ true) l) is all)

        less : holding_cmp (who, Some area) first.0 ≡ Less
        less =
            ap (λ r. ordering_then r (option_cmp area_cmp (Some area) first.0.1))
            (id_total.antisymm who first.0.0 ∙ ap ordering_reverse (later_service (id_cmp first.0.0 who) (option_cmp area_cmp first.0.1 None) e passes))

        below : IsTrue (below_all holding_cmp first.0 more)
        below =
            let rises = is_true _ (is_sorted-where_key holding_cmp (λ k. not (is_lt (holding_cmp k begins))) held (holds _ up)) in
            (both_true (below_all holding_cmp first.0 more) (is_sorted holding_cmp more) (subst (λ (l : List (Holding × X)). IsTrue (is_sorted holding_cmp l)) is rises)).0

-- ---- an area changes hands

-- what a service holds, no other holds
pub held_own : (holders : List (Area × ServiceId)) (who : ServiceId) (area : Area) → is_holder (find area_cmp area holders) who ≡ true → (other : ServiceId) → find area_cmp area holders ≡ Some other → id_eq other who ≡ true
held_own holders who area own other found = ap (λ (o : Option ServiceId). is_holder o who) (sym found) ∙ own

module _ {X : Type 0} (holders : List (Area × ServiceId)) (held : List (Holding × X)) (index : IsIndex holders held) (who : ServiceId) (area : Area)
    (free : (other : ServiceId) → find area_cmp area holders ≡ Some other → id_eq other who ≡ true) where
  apart : (w : ServiceId) → id_eq w who ≡ false → id_eq who w ≡ false
  apart w e = (eq_by_cmp_equiv id_total).symm who w ∙ e

  -- another service did not hold it
  not_another : (w : ServiceId) → id_eq w who ≡ false → is_holder (find area_cmp area holders) w ≡ false
  not_another w e = by (find area_cmp area holders) refl
    where
      by : (o : Option ServiceId) → find area_cmp area holders ≡ o → is_holder o w ≡ false
      by None found = refl
      by (Some other) found = ap (λ (i : ServiceId). id_eq i w) (id_eq_same other who (free other found)) ∙ apart w e

  -- the service is given the area, or gives it back
  pub still_index : (given : Bool) (after : List (Area × ServiceId)) (held_after : List (Holding × X)) → IsTrue (is_sorted area_cmp after)
      → ((a : Area) → find area_cmp a after ≡ cond (area_eq a area) (cond given (Some who) None) (find area_cmp a holders))
      → ((h : Holding) → is_some (find holding_cmp h held_after) ≡ cond (eq_by_cmp holding_cmp h (who, Some area)) given (is_some (find holding_cmp h held)))
      → IsIndex after held_after
  still_index given after held_after up holder_is held_is = record { ascending = up; exact = exact }
    where
      no_area : (w : ServiceId) → eq_by_cmp holding_cmp (w, None) (who, Some area) ≡ false
      no_area w = by (id_cmp w who)
        where
          by : (r : Ordering) → is_eq (ordering_then r Less) ≡ false
          by Less = refl
          by Equal = refl
          by Greater = refl

      holds_then : (g : Bool) (w : ServiceId) → id_eq w who ≡ true → g ≡ is_holder (cond g (Some who) None) w
      holds_then true w e = sym (ap (id_eq who) (id_eq_same w who e) ∙ id_eq_itself who)
      holds_then false w e = refl

      holds_not : (g : Bool) (w : ServiceId) → id_eq w who ≡ false → false ≡ is_holder (cond g (Some who) None) w
      holds_not true w e = sym (apart w e)
      holds_not false w e = refl

      by : (w : ServiceId) (a : Area) (own same : Bool) → id_eq w who ≡ own → area_eq a area ≡ same
          → cond (own && same) given (is_holder (find area_cmp a holders) w) ≡ is_holder (cond same (cond given (Some who) None) (find area_cmp a holders)) w
      by w a true true o s = holds_then given w o
      by w a false true o s =
          ap (λ (h : Option ServiceId). is_holder h w) (sym (find_tied area_cmp area_total a area ((Equal-is _).0 s) holders)) ∙ not_another w o ∙ holds_not given w o
      by w a true false o s = refl
      by w a false false o s = refl

      exact : (w : ServiceId) (a : Option Area) → is_some (find holding_cmp (w, a) held_after) ≡ is_held after w a
      exact w None = held_is (w, None) ∙ ap (λ b. cond b given (is_some (find holding_cmp (w, None) held))) (no_area w) ∙ index.exact w None
      exact w (Some a) =
          held_is (w, Some a)
          ∙ ap (λ b. cond b given (is_some (find holding_cmp (w, Some a) held))) (sym (tied_then (id_cmp w who) (area_cmp a area)))
          ∙ ap (cond (id_eq w who && area_eq a area) given) (index.exact w (Some a))
          ∙ by w a (id_eq w who) (area_eq a area) refl refl
          ∙ ap (λ (h : Option ServiceId). is_holder h w) (sym (holder_is a))

  -- ---- the changes of both

  chosen_some : {Y : Type 0} (b given : Bool) (y : Option Y) (o : Option Y) → is_some y ≡ given → is_some (cond b y o) ≡ cond b given (is_some o)
  chosen_some true given y o e = e
  chosen_some false given y o e = refl

  left_out : {Y : Type 0} (b : Bool) (y : Y) (o : Option Y) → cond b None (cond b (Some y) o) ≡ cond b None o
  left_out true y o = refl
  left_out false y o = refl

  pub given_index : (x : X) → IsTrue (is_sorted area_cmp (put area_cmp area who holders)) → IsIndex (put area_cmp area who holders) (put holding_cmp (who, Some area) x held)
  given_index x up =
      still_index true (put area_cmp area who holders) (put holding_cmp (who, Some area) x held) up
      (λ a. find-put area_cmp area_total a area who holders)
      (λ h. ap is_some (find-put holding_cmp holding_total h (who, Some area) x held) ∙ chosen_some (eq_by_cmp holding_cmp h (who, Some area)) true (Some x) (find holding_cmp h held) refl)

  pub taken_index : IsIndex (without area_cmp area holders) (without holding_cmp (who, Some area) held)
  taken_index =
      still_index false (without area_cmp area holders) (without holding_cmp (who, Some area) held) (left_sorted area_cmp area holders index.ascending)
      (λ a. find_without area_cmp area_total a area holders)
      (λ h. ap is_some (find_without holding_cmp holding_total h (who, Some area) held) ∙ chosen_some (eq_by_cmp holding_cmp h (who, Some area)) false None (find holding_cmp h held) refl)

  -- what was put into it alone is taken out again
  pub mended_index : (x : X) → find area_cmp area holders ≡ None → IsIndex holders (without holding_cmp (who, Some area) (put holding_cmp (who, Some area) x held))
  mended_index x none =
      still_index false holders (without holding_cmp (who, Some area) (put holding_cmp (who, Some area) x held)) index.ascending
      (λ a. nobodys a (area_eq a area) refl)
      (λ h.
      ap is_some (
      find_without holding_cmp holding_total h (who, Some area) (put holding_cmp (who, Some area) x held)
      ∙ ap (cond (eq_by_cmp holding_cmp h (who, Some area)) None) (find-put holding_cmp holding_total h (who, Some area) x held)
      ∙ left_out (eq_by_cmp holding_cmp h (who, Some area)) x (find holding_cmp h held)
      )
      ∙ chosen_some (eq_by_cmp holding_cmp h (who, Some area)) false None (find holding_cmp h held) refl)
    where
      nobodys : (a : Area) (same : Bool) → area_eq a area ≡ same → find area_cmp a holders ≡ cond same None (find area_cmp a holders)
      nobodys a true e = sym (find_tied area_cmp area_total a area ((Equal-is _).0 e) holders) ∙ none
      nobodys a false e = refl
