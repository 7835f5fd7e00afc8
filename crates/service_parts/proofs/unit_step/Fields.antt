-- Fields that were found, and what is stored in them.
use Rattle.std.proofs.Common.{◌≡◌, ℕ, ◌≤◌, ◌<◌, inl, inr, min, List, ◌++◌, length, take, drop, refl, arith, sym, ◌∙◌, ap, append_assoc, length-append, length-take, Some, None}
use Rattle.std.specs.Prelude.{All, bytes_eq}
use Rattle.std.proofs.lemmas.Bool.{cases_lt}
use Rattle.std.proofs.lemmas.List.{take_all, take_at, take-append-le, take-append-drop}
use Rattle.service_parts.proofs.unit_step.Writing.{is_cut}
use Rattle.kdcs_types.specs.declared.run_state.RunState.{RunState}
use Rattle.application_types.specs.declared.unit_types.unit.Field.{Field}
use Rattle.application_types.specs.PlacesLaws.{found_passes}
use Rattle.application_types.specs.UnitText.{UnitText, field_named}
use Rattle.abstract_monitor.specs.Contents.{fitted}
use Rattle.abstract_monitor.specs.Fields.{stored, stored_in, written}
use Rattle.abstract_monitor.specs.Ready.{IsInside}

-- a field of the unit lies inside its area
pub found_inside : (unit : UnitText) (run : RunState) (name : List ℕ) (f : Field) → All (IsInside run) unit.fields → Some f ≡ field_named unit name → IsInside run f
found_inside unit run name f all e = found_passes (IsInside run) (λ (g : Field). bytes_eq name g.name) unit.fields f all (sym e)

-- ---- what is stored

-- more than fits need not be stored
pub front_is_enough : (n : ℕ) (bytes : List ℕ) → fitted n (take (min (length bytes) n) bytes) ≡ fitted n bytes
front_is_enough n bytes =
    elim (cases_lt (length bytes) n) [
      | inl h ↦ ap (fitted n) (take_all (min (length bytes) n) bytes (omega arith))
      | inr h ↦
          let is : min (length bytes) n ≡ n = omega arith in
          let long : n ≤ length (take n bytes) = omega (arith, length-take n bytes) in
          rw is (is_cut n (take n bytes) long ∙ take_all n (take n bytes) (omega (arith, length-take n bytes)) ∙ sym (is_cut n bytes h))
    ]

cut_behind : (n : ℕ) (a b : List ℕ) → length a < n → n ≤ length b → fitted n (a ++ take n b) ≡ fitted n (a ++ b)
cut_behind n a b short long =
    let whole : a ++ b ≡ (a ++ take n b) ++ drop n b = ap (λ (x : List ℕ). a ++ x) (sym (take-append-drop n b)) ∙ sym (append_assoc a (take n b) (drop n b)) in
    let bounded : n ≤ length (a ++ take n b) = omega (arith, length-append a (take n b), length-take n b) in
    let all : n ≤ length (a ++ b) = omega (arith, length-append a b) in
    is_cut n (a ++ take n b) bounded ∙ sym (take-append-le n (a ++ take n b) (drop n b) bounded) ∙ ap (take n) (sym whole) ∙ sym (is_cut n (a ++ b) all)

behind_is_enough : (n : ℕ) (a b : List ℕ) → length a < n → fitted n (a ++ take (min (length b) n) b) ≡ fitted n (a ++ b)
behind_is_enough n a b short =
    elim (cases_lt (length b) n) [
      | inl h ↦ ap (λ (x : List ℕ). fitted n (a ++ x)) (take_all (min (length b) n) b (omega arith))
      | inr h ↦
          let is : min (length b) n ≡ n = omega arith in
          rw is (cut_behind n a b short h)
    ]

pub fronts_are_enough : (n : ℕ) (a b : List ℕ) → fitted n (take (min (length a) n) a ++ take (min (length b) n) b) ≡ fitted n (a ++ b)
fronts_are_enough n a b =
    elim (cases_lt (length a) n) [
      | inl h ↦
          let whole : take (min (length a) n) a ≡ a = take_all (min (length a) n) a (omega arith) in
          rw whole (behind_is_enough n a b h)
      | inr h ↦
          let is : min (length a) n ≡ n = omega arith in
          let len : length (take n a) ≡ n = omega (arith, length-take n a) in
          let more = take (min (length b) n) b in
          let long : n ≤ length (take n a ++ more) = omega (arith, length-append (take n a) more) in
          let all : n ≤ length (a ++ b) = omega (arith, length-append a b) in
          rw is (is_cut n (take n a ++ more) long ∙ take_at (take n a) more n len ∙ sym (take-append-le n a b h) ∙ sym (is_cut n (a ++ b) all))
    ]

-- a field gets the bytes where it gets as many of them as fit
pub gets_front : (unit : UnitText) (run : RunState) (name : List ℕ) (f : Field) (bytes kept : List ℕ) → Some f ≡ field_named unit name → kept ≡ take (min (length bytes) f.length) bytes → stored_in run (Some f) kept ≡ stored unit run name bytes
unfolding stored
gets_front unit run name f bytes kept found is =
    rw (sym found) (ap (λ (x : List ℕ). written run f.spab f.offset x) (ap (fitted f.length) is ∙ front_is_enough f.length bytes))

pub gets_fronts : (unit : UnitText) (run : RunState) (name : List ℕ) (f : Field) (a b kept : List ℕ) → Some f ≡ field_named unit name → kept ≡ take (min (length a) f.length) a ++ take (min (length b) f.length) b → stored_in run (Some f) kept ≡ stored unit run name (a ++ b)
unfolding stored
gets_fronts unit run name f a b kept found is =
    rw (sym found) (ap (λ (x : List ℕ). written run f.spab f.offset x) (ap (fitted f.length) is ∙ fronts_are_enough f.length a b))

-- no such field: nothing is stored
pub gets_nothing : (unit : UnitText) (run : RunState) (name bytes : List ℕ) → None ≡ field_named unit name → run ≡ stored unit run name bytes
unfolding stored
gets_nothing unit run name bytes none = rw (sym none) refl
