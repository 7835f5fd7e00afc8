-- The counts of what the tasks hold, as one task changes.
use Rattle.std.specs.Prelude.{◌≡◌, refl, ◌<◌, ◌≤◌, ◌+◌, ◌-◌, ℕ, Bool, true, false, cond, ◌==◌, List, Option, None, Some, replicate, slice_get, slice_index, slice_set}
use Rattle.std.proofs.Common.{ap, sym, subst, true≢false, ◌∙◌, arith, get_or, get_or-set_same, get_or-set_other, length-set}
use mir.Val.{bool_byte}
use Rattle.std.specs.Option.{unwrap_or}
use Rattle.std.proofs.lemmas.Bool.{eq-eqb, eqb-true}
use Rattle.std.proofs.lemmas.List.{get_or-replicate, length-replicate, set-get_or}
use Rattle.std.proofs.lemmas.List.Folds.{sum_by-replicate}
use Rattle.std.proofs.lemmas.List.Sums.{sum_by-set}
use Rattle.std.proofs.lemmas.Option.{slice_get_within, slice_get-get_or, unwrap_or-slice_get}
use Rattle.kd_base.specs.ToolsLaws.{some_is}
use Rattle.abstract_monitor.specs.Endings.{is_asynchronous}
use Rattle.abstract_monitor.specs.Picks.{Classed, place_passes, tasks_with}
use Rattle.service_ends.specs.Counted.{AreCounts}

abbrev pub one_if : Bool → ℕ
one_if b = cond b 1 0

-- as `usize::from` counts
pub as_number : (b : Bool) → bool_byte b ≡ one_if b
as_number true = refl
as_number false = refl

counted : (p : Classed → Bool) (places : List (Option Classed)) (i : ℕ) (before after : Option Classed) → slice_get places i ≡ Some before
    → tasks_with (slice_set places i after) p + one_if (place_passes p before) ≡ tasks_with places p + one_if (place_passes p after)
counted p places i before after there =
    let lt = slice_get_within places i before there in
    let read : get_or places i before ≡ before = some_is _ _ (sym (slice_get-get_or places i before lt) ∙ there) in
    ap (λ (place : Option Classed). tasks_with (slice_set places i after) p + one_if (place_passes p place)) (sym read)
    ∙ sum_by-set (λ (place : Option Classed). one_if (place_passes p place)) places i after before lt

module _ (places : List (Option Classed)) (counts : List ℕ) (count : ℕ) (i : ℕ) (e : Classed) (h : AreCounts places counts count) (lt : e.1 < 256) where
  -- the place's count and no other one changes
  class_counted : (v : ℕ) (changed : List (Option Classed)) → v ≡ tasks_with changed (λ (x : Classed). x.1 == e.1)
      → ((class : ℕ) → (e.1 == class) ≡ false → tasks_with changed (λ (x : Classed). x.1 == class) ≡ tasks_with places (λ (x : Classed). x.1 == class))
      → (class : ℕ) → class < 256 → slice_index (slice_set counts e.1 v) class ≡ tasks_with changed (λ (x : Classed). x.1 == class)
  class_counted v changed here others class within = by (e.1 == class) refl
    where
      by : (b : Bool) → (e.1 == class) ≡ b → slice_index (slice_set counts e.1 v) class ≡ tasks_with changed (λ (x : Classed). x.1 == class)
      by true same = subst (λ (k : ℕ). slice_index (slice_set counts e.1 v) k ≡ tasks_with changed (λ (x : Classed). x.1 == k)) (eqb-true e.1 class same) (get_or-set_same counts e.1 v 0 (omega (arith, h.classes)) ∙ here)
      by false apart = get_or-set_other counts e.1 class v 0 (λ same. true≢false (sym (eq-eqb e.1 class (sym same)) ∙ apart)) ∙ h.of_class class within ∙ sym (others class apart)

  module _ (there : slice_get places i ≡ Some (Some e)) where
    less : (p : Classed → Bool) → tasks_with (slice_set places i None) p + one_if (p e) ≡ tasks_with places p
    less p = let c = counted p places i (Some e) None there in omega (arith, c)

    pub class_held : 1 ≤ slice_index counts e.1
    class_held = let c = less (λ x. x.1 == e.1) in let own = ap one_if (eq-eqb e.1 e.1 refl) in omega (arith, c, own, h.of_class e.1 lt)

    pub asynchronous_held : one_if (is_asynchronous e.0) ≤ count
    asynchronous_held = let c = less (λ x. is_asynchronous x.0) in omega (arith, c, h.asynchronous)

    pub counts_cleared : AreCounts (slice_set places i None) (slice_set counts e.1 (slice_index counts e.1 - 1)) (count - one_if (is_asynchronous e.0))
    counts_cleared = record {
      classes = length-set counts e.1 (slice_index counts e.1 - 1) ∙ h.classes;
      of_class = class_counted (slice_index counts e.1 - 1) (slice_set places i None)
          (let c = less (λ x. x.1 == e.1) in let own = ap one_if (eq-eqb e.1 e.1 refl) in omega (arith, c, own, h.of_class e.1 lt))
          (λ class apart. let c = less (λ x. x.1 == class) in let other = ap one_if apart in omega (arith, c, other));
      asynchronous = let c = less (λ x. is_asynchronous x.0) in omega (arith, c, h.asynchronous);
    }

  module _ (there : slice_get places i ≡ Some None) where
    more : (p : Classed → Bool) → tasks_with (slice_set places i (Some e)) p ≡ tasks_with places p + one_if (p e)
    more p = let c = counted p places i None (Some e) there in omega (arith, c)

    pub counts_filled : AreCounts (slice_set places i (Some e)) (slice_set counts e.1 (slice_index counts e.1 + 1)) (count + one_if (is_asynchronous e.0))
    counts_filled = record {
      classes = length-set counts e.1 (slice_index counts e.1 + 1) ∙ h.classes;
      of_class = class_counted (slice_index counts e.1 + 1) (slice_set places i (Some e))
          (let c = more (λ x. x.1 == e.1) in let own = ap one_if (eq-eqb e.1 e.1 refl) in omega (arith, c, own, h.of_class e.1 lt))
          (λ class apart. let c = more (λ x. x.1 == class) in let other = ap one_if apart in omega (arith, c, other));
      asynchronous = let c = more (λ x. is_asynchronous x.0) in omega (arith, c, h.asynchronous);
    }

-- no task holds anything
pub none_counted : (tasks : ℕ) → AreCounts (replicate tasks None) (replicate 256 0) 0
none_counted tasks = record {
  classes = length-replicate {A = ℕ} 256 0;
  of_class = λ class lt. get_or-replicate {A = ℕ} 256 class 0 0 lt ∙ sym (free (λ x. x.1 == class));
  asynchronous = sym (free (λ x. is_asynchronous x.0));
}
  where
    free : (p : Classed → Bool) → tasks_with (replicate tasks None) p ≡ 0
    free p = sum_by-replicate (λ (place : Option Classed). one_if (place_passes p place)) tasks None ∙ omega arith

-- a place that held this before
pub set_same : (places : List (Option Classed)) (i : ℕ) (place : Option Classed) → slice_get places i ≡ Some place → places ≡ slice_set places i place
set_same places i place there =
    let lt = slice_get_within places i place there in
    sym (set-get_or places i place) ∙ ap (slice_set places i) (some_is _ _ (sym (slice_get-get_or places i place lt) ∙ there))

-- what is read is what is there
pub read_place : (places : List (Option Classed)) (i : ℕ) (place : Option Classed) → slice_get places i ≡ Some place → get_or places i None ≡ place
read_place places i place there = sym (unwrap_or-slice_get places i None) ∙ ap (λ (o : Option (Option Classed)). unwrap_or o None) there
