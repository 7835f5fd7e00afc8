-- Laws: a run that can be stepped stays so: after a plain statement, and after a call's answer.
use Rattle.std.specs.Prelude.{◌≡◌, ℕ, ◌+◌, ◌-◌, ◌≤◌, ◌<◌, Bool, true, false, List, ◌++◌, length, take, drop, replicate, nat_eq, All, Option, Some, None, IfSome, refl, bytes_eq, slice_index_or}
use Rattle.std.proofs.Common.{inl, inr, arith, length-append, length-take, length-drop}
use Rattle.std.proofs.lemmas.Bool.{cases_Bool}
use Rattle.std.proofs.lemmas.Bool.Decides.{nat_tests}
use Rattle.std.proofs.lemmas.List.{length-replicate}
use Rattle.kd_base.specs.ToolsLaws.{cases_option}
use Rattle.kdcs_types.specs.declared.run_state.RunState.{RunState}
use Rattle.application_types.specs.declared.unit_types.action.Action.{Action}
use Rattle.application_types.specs.declared.unit_types.action.Action.TheVariants as action
use Rattle.application_types.specs.declared.unit_types.action.Operand.{Operand}
use Rattle.application_types.specs.declared.unit_types.unit.Field.{Field}
use Rattle.application_types.specs.PlacesLaws.{found_passes}
use Rattle.application_types.specs.UnitText.{UnitText, LabelsFromOne, field_named, label_place, statement_at}
use Rattle.abstract_monitor.specs.Contents.{number_of, fitted, overlaid, compared}
use Rattle.abstract_monitor.specs.Fields.{run_area, field_bytes, value_of, written, stored_in, stored}
use Rattle.abstract_monitor.specs.Statement.{moved_on, jumped, branched, relates, calculated, calculates, gets_result, sum_of, difference_of, product_of, quotient_of, done_by, step, read_into}
use Rattle.abstract_monitor.specs.Statement.{next_target, answered}
use Rattle.abstract_monitor.specs.Ready.{IsInside, IsReady, IsAsking}
use Rattle.abstract_monitor.specs.KeepsReady.{SameLengths, StaysReady, StepsStayReady, AnswersStayReady}

-- ---- lengths

length_overlaid : (at : ℕ) (bytes under : List ℕ) → at + length bytes ≤ length under → length (overlaid at bytes under) ≡ length under
unfolding overlaid
length_overlaid at bytes under h =
    omega (arith, length-append (take at under ++ bytes) (drop (at + length bytes) under), length-append (take at under) bytes, length-take at under, length-drop (at + length bytes) under)

length_fitted : (n : ℕ) (bytes : List ℕ) → length (fitted n bytes) ≡ n
unfolding fitted
length_fitted n bytes =
    let spaces : List ℕ = replicate (n - length bytes) 32 in
    omega (arith, length-take n (bytes ++ spaces), length-append bytes spaces, length-replicate {A = ℕ} (n - length bytes) 32)

-- what storing keeps
record Keeps (old new : RunState) : Type 0 where
  place : new.place ≡ old.place
  count : new.count ≡ old.count
  budget : new.budget ≡ old.budget
  read_length : new.length ≡ old.length
  lengths : SameLengths old new

areas_keep : (run : RunState) (kb spab : List ℕ) → length kb ≡ length run.kb → length spab ≡ length run.spab → Keeps run (record run { kb = kb; spab = spab })
areas_keep run kb spab same_kb same_spab =
    record { place = refl; count = refl; budget = refl; read_length = refl; lengths = record { kb = same_kb; spab = same_spab } }

keeps_all : (run : RunState) → Keeps run run
keeps_all run = areas_keep run run.kb run.spab refl refl

written_keeps : (run : RunState) (spab : Bool) (at : ℕ) (bytes : List ℕ) → at + length bytes ≤ length (run_area run spab) → Keeps run (written run spab at bytes)
written_keeps run true at bytes h = areas_keep run run.kb (overlaid at bytes run.spab) refl (length_overlaid at bytes run.spab h)
written_keeps run false at bytes h = areas_keep run (overlaid at bytes run.kb) run.spab (length_overlaid at bytes run.kb h) refl

in_field_keeps : (run : RunState) (f : Field) (bytes : List ℕ) → IsInside run f → Keeps run (stored_in run (Some f) bytes)
in_field_keeps run f bytes inside =
    let h : f.offset + length (fitted f.length bytes) ≤ length (run_area run f.spab) = omega (arith, length_fitted f.length bytes) in
    written_keeps run f.spab f.offset (fitted f.length bytes) h

stored_keeps : (unit : UnitText) (run : RunState) (name bytes : List ℕ) → All (IsInside run) unit.fields → Keeps run (stored unit run name bytes)
unfolding stored
stored_keeps unit run name bytes inside =
    elim (cases_option (field_named unit name)) [
      | inl none ↦ rw none (keeps_all run)
      | inr found ↦
          rw (found.1)
          (in_field_keeps run found.0 bytes (found_passes (IsInside run) (λ (g : Field). bytes_eq name g.name) unit.fields found.0 inside found.1))
    ]

-- ---- ready again

area_lengths : (old new : RunState) → SameLengths old new → (spab : Bool) → length (run_area new spab) ≡ length (run_area old spab)
area_lengths old new same true = same.spab
area_lengths old new same false = same.kb

inside_still : (old new : RunState) → SameLengths old new → (f : Field) → IsInside old f → IsInside new f
inside_still old new same f h = omega (arith, area_lengths old new same f.spab)

ready_again : (unit : UnitText) (old new : RunState) → IsReady unit old → 1 ≤ new.place → new.length ≤ 99999 → new.count ≤ new.budget → SameLengths old new → IsReady unit new × SameLengths old new
ready_again unit old new ready place read_length count same = (
  record {
    place = place;
    read_length = read_length;
    count = count;
    fields = λ k d lt. inside_still old new same (slice_index_or unit.fields k d) (ready.fields k d lt);
    labels = ready.labels;
  },
  same,
)

moved_ready : (unit : UnitText) (old new : RunState) → IsReady unit old → old.count < old.budget → Keeps old new → IsReady unit (moved_on new) × SameLengths old (moved_on new)
moved_ready unit old new ready left keeps =
    ready_again unit old (moved_on new) ready (omega arith) (rw (keeps.read_length) ready.read_length) (rw (keeps.count, keeps.budget) (omega arith)) (record { kb = keeps.lengths.kb; spab = keeps.lengths.spab })

jumped_ready : (unit : UnitText) (run : RunState) (to : Option ℕ) → IfSome to (λ place. 1 ≤ place) → IsReady unit run → run.count < run.budget → IsReady unit (jumped run to) × SameLengths run (jumped run to)
jumped_ready unit run None from_one ready left = (ready, record { kb = refl; spab = refl })
jumped_ready unit run (Some place) from_one ready left =
    ready_again unit run (jumped run (Some place)) ready from_one ready.read_length (omega arith) (record { kb = refl; spab = refl })

branched_ready : (unit : UnitText) (run : RunState) (label : List ℕ) (jumps : Bool) → LabelsFromOne unit → IsReady unit run → run.count < run.budget → IsReady unit (branched unit run label jumps) × SameLengths run (branched unit run label jumps)
branched_ready unit run label true labels ready left = jumped_ready unit run (label_place unit label) (labels label) ready left
branched_ready unit run label false labels ready left = moved_ready unit run run ready left (keeps_all run)

result_ready : (unit : UnitText) (run : RunState) (f : Field) (result : Option (List ℕ)) → IsInside run f → IsReady unit run → run.count < run.budget → StaysReady unit run (gets_result run f result)
result_ready unit run f None inside ready left = tt
result_ready unit run f (Some bytes) inside ready left = moved_ready unit run (stored_in run (Some f) bytes) ready left (in_field_keeps run f bytes inside)

calculates_ready : (unit : UnitText) (run : RunState) (name : List ℕ) (x : Operand) (calculation : ℕ → ℕ → Option ℕ) → IsReady unit run → run.count < run.budget → StaysReady unit run (calculates unit run (field_named unit name) x calculation)
calculates_ready unit run name x calculation ready left =
    elim (cases_option (field_named unit name)) [
      | inl none ↦ rw none (moved_ready unit run run ready left (keeps_all run))
      | inr found ↦
          let f = found.0 in
          let inside = found_passes (IsInside run) (λ (g : Field). bytes_eq name g.name) unit.fields f ready.fields found.1 in
          rw (found.1)
          (result_ready unit run f (calculated f.length calculation (number_of (field_bytes run (Some f))) (number_of (value_of unit run x))) inside ready left)
    ]

done_ready : (unit : UnitText) (run : RunState) (says : Action) → LabelsFromOne unit → IsReady unit run → run.count < run.budget → StaysReady unit run (done_by unit run says)
unfolding done_by
done_ready unit run (action.Move f x) labels ready left =
    moved_ready unit run (stored unit run f (value_of unit run x)) ready left (stored_keeps unit run f (value_of unit run x) ready.fields)
done_ready unit run (action.Join f x y) labels ready left =
    moved_ready unit run (stored unit run f (value_of unit run x ++ value_of unit run y)) ready left (stored_keeps unit run f (value_of unit run x ++ value_of unit run y) ready.fields)
done_ready unit run (action.Add f x) labels ready left = calculates_ready unit run f x sum_of ready left
done_ready unit run (action.Sub f x) labels ready left = calculates_ready unit run f x difference_of ready left
done_ready unit run (action.Mul f x) labels ready left = calculates_ready unit run f x product_of ready left
done_ready unit run (action.Div f x) labels ready left = calculates_ready unit run f x quotient_of ready left
done_ready unit run (action.If x relation y label) labels ready left =
    branched_ready unit run label (relates relation (compared (value_of unit run x) (value_of unit run y))) labels ready left
done_ready unit run (action.Jump label) labels ready left = jumped_ready unit run (label_place unit label) (labels label) ready left
done_ready unit run _ labels ready left = tt

in_time : (a b : ℕ) → nat_eq a b ≡ false → a ≤ b → a < b
in_time a b h le = grind (arith, nat_tests)

pub steps_stay_ready : StepsStayReady
unfolding step
steps_stay_ready unit run labels ready =
    elim (cases_option (statement_at unit run.place)) [
      | inl none ↦ rw none tt
      | inr found ↦
          elim (cases_Bool (nat_eq run.count run.budget)) [
            | inl spent ↦ rw (found.1, spent) tt
            | inr left ↦
                rw (found.1, left) (done_ready unit run (found.0).action labels ready (in_time run.count run.budget left ready.count))
          ]
    ]

-- ---- answers

pub time_left : (unit : UnitText) (run : RunState) → IsAsking (step unit run) → run.count ≤ run.budget → run.count < run.budget
unfolding step
time_left unit run asks le =
    elim (cases_option (statement_at unit run.place)) [
      | inl none ↦ absurd (rw none at asks)
      | inr found ↦
          elim (cases_Bool (nat_eq run.count run.budget)) [
            | inl spent ↦ absurd (rw (found.1, spent) at asks)
            | inr left ↦ in_time run.count run.budget left le
          ]
    ]

read_keeps : (unit : UnitText) (run : RunState) (target content : Option (List ℕ)) → All (IsInside run) unit.fields → Keeps run (read_into unit run target content)
read_keeps unit run None content inside = keeps_all run
read_keeps unit run (Some f) None inside = keeps_all run
read_keeps unit run (Some f) (Some content) inside = stored_keeps unit run f content inside

pub answers_stay_ready : AnswersStayReady
unfolding answered
answers_stay_ready unit run reply ready can =
    let after = read_into unit run (next_target unit run) reply.content in
    let keeps = read_keeps unit run (next_target unit run) reply.content ready.fields in
    let left = time_left unit run can.asks ready.count in
    let now : RunState = record after { place = after.place + 1; count = after.count + 1; code = reply.code; length = reply.length } in
    ready_again unit run now ready (omega arith) can.read_length (rw (keeps.count, keeps.budget) (omega arith)) (record { kb = keeps.lengths.kb; spab = keeps.lengths.spab })
