-- Which of the services are allowed: all of a kind, or none of it.
use Rattle.std.specs.Prelude.{◌≡◌, refl, ◌<◌, ℕ, Bool, true, false, not, ◌&&◌, ◌||◌, List, Option, None, Some, slice_index_or}
use Rattle.std.proofs.Common.{ap, sym, ◌∙◌, take, ◌+◌, length}
use Rattle.std.specs.Ordering.{bool_cmp, nat_cmp}
use Rattle.std.specs.declared.cmp.Ordering.TheVariants.{Equal}
use Rattle.std.specs.Cmp.{Equal-is}
use Rattle.std.specs.FinMap.{IsAntisymmetric, nat_cmp-IsAntisymmetric}
use Rattle.std.proofs.lemmas.List.Folds.{list_any_more}
use Rattle.std.proofs.lemmas.List.{get_or_default}
use Rattle.application_types.specs.Generation.{Generated}
use Rattle.abstract_monitor.specs.Picks.{Classed, is_allowed, place_passes, service_is_allowed}
use Rattle.open_transaction.specs.DueOrderLaws.{then_equal}
use Rattle.service_ends.specs.declared.step_scheduler.kinds.Kind.{Kind}
use Rattle.service_ends.specs.Arrivals.{is_of_kinds}
use Rattle.service_ends.specs.Kinds.{kind_cmp, kind_of, is_of_kind}

same_bool : (a b : Bool) → bool_cmp a b ≡ Equal → a ≡ b
same_bool true true e = refl
same_bool true false e = absurd cc
same_bool false true e = absurd cc
same_bool false false e = refl

same_kind : IsAntisymmetric kind_cmp
same_kind a b e =
    let parts = then_equal (bool_cmp a.asynchronous b.asynchronous) (nat_cmp a.class b.class) e in
    λ i. record { asynchronous = same_bool a.asynchronous b.asynchronous parts.0 i; class = nat_cmp-IsAntisymmetric a.class b.class parts.1 i }

-- what is read in a list that is the same
pub read_there : (xs ys : List Kind) (i : ℕ) (d : Kind) → xs ≡ ys → i < length ys → slice_index_or xs i d ≡ slice_index_or ys i (slice_index_or xs i d)
read_there xs ys i d same lt = ap (λ (l : List Kind). slice_index_or l i d) same ∙ get_or_default ys i d (slice_index_or xs i d) lt

-- a test of what is in a place
pub same_passes : (p q : Classed → Bool) → ((e : Classed) → p e ≡ q e) → (place : Option Classed) → place_passes p place ≡ place_passes q place
same_passes p q same place = λ i. place_passes (λ e. same e i) place

pub either_passes : (p q : Classed → Bool) (place : Option Classed) → (place_passes p place || place_passes q place) ≡ place_passes (λ e. p e || q e) place
either_passes p q None = refl
either_passes p q (Some e) = refl

pub none_passes : (p : Classed → Bool) → ((e : Classed) → p e ≡ false) → (place : Option Classed) → place_passes p place ≡ false
none_passes p none None = refl
none_passes p none (Some e) = none e

module _ (g : Generated) (places : List (Option Classed)) where
  abbrev allowed : Classed → Bool
  allowed = service_is_allowed g places

  of_kind : (kind : Kind) (e : Classed) → is_of_kind kind e ≡ true → allowed e ≡ is_allowed g places kind.asynchronous kind.class
  of_kind kind e is = ap (λ (k : Kind). is_allowed g places k.asynchronous k.class) (sym (same_kind kind (kind_of e) ((Equal-is (kind_cmp kind (kind_of e))).0 is)))

  pub kind_allowed : (kind : Kind) → is_allowed g places kind.asynchronous kind.class ≡ true → (e : Classed) → is_of_kind kind e ≡ (is_of_kind kind e && allowed e)
  kind_allowed kind is_free e = by (is_of_kind kind e) refl
    where
      by : (b : Bool) → is_of_kind kind e ≡ b → b ≡ (b && allowed e)
      by true is = sym (of_kind kind e is ∙ is_free)
      by false is = refl

  pub kind_refused : (kind : Kind) → is_allowed g places kind.asynchronous kind.class ≡ false → (e : Classed) → (is_of_kind kind e && allowed e) ≡ false
  kind_refused kind is_full e = by (is_of_kind kind e) refl
    where
      by : (b : Bool) → is_of_kind kind e ≡ b → (b && allowed e) ≡ false
      by true is = of_kind kind e is ∙ is_full
      by false is = refl

  both_or : (a b c : Bool) → ((a && c) || (b && c)) ≡ ((a || b) && c)
  both_or true true true = refl
  both_or true true false = refl
  both_or true false true = refl
  both_or true false false = refl
  both_or false b c = refl

  -- one kind more
  pub more_kinds : (kinds : List Kind) (i : ℕ) (kind : Kind) → i < length kinds → kind ≡ slice_index_or kinds i kind → (place : Option Classed)
      → (place_passes (λ e. is_of_kinds (take i kinds) e && allowed e) place || place_passes (λ e. is_of_kind kind e && allowed e) place) ≡ place_passes (λ e. is_of_kinds (take (i + 1) kinds) e && allowed e) place
  more_kinds kinds i kind lt is place =
      either_passes (λ e. is_of_kinds (take i kinds) e && allowed e) (λ e. is_of_kind kind e && allowed e) place
      ∙ same_passes _ _ (λ e. both_or (is_of_kinds (take i kinds) e) (is_of_kind kind e) (allowed e) ∙ ap (λ b. b && allowed e) (more e)) place
    where
      more : (e : Classed) → (is_of_kinds (take i kinds) e || is_of_kind kind e) ≡ is_of_kinds (take (i + 1) kinds) e
      more e = ap (λ (k : Kind). is_of_kinds (take i kinds) e || is_of_kind k e) is ∙ sym (list_any_more (λ (k : Kind). is_of_kind k e) kinds i kind lt)

  -- where each service is of one of the kinds
  pub all_kinds : (kinds : List Kind) (place : Option Classed) → place_passes (λ e. not (is_of_kinds kinds e)) place ≡ false → place_passes (λ e. is_of_kinds kinds e && allowed e) place ≡ place_passes allowed place
  all_kinds kinds None noted = refl
  all_kinds kinds (Some e) noted = by (is_of_kinds kinds e) noted
    where
      by : (b : Bool) → not b ≡ false → (b && allowed e) ≡ allowed e
      by true noted = refl
      by false noted = absurd cc
