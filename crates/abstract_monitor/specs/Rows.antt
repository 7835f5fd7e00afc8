-- Worked rows: what statements do to some runs.
use Rattle.std.specs.Prelude.{◌≡◌, ℕ, Bool, true, false, List, [], ◌∷◌, Some, None, codes}
use Rattle.std.specs.declared.cmp.Ordering.TheVariants.{Equal, Greater}
use Rattle.kdcs_types.specs.declared.call.Code.TheVariants.{Done, K02}
use Rattle.kdcs_types.specs.declared.call.Call.TheVariants as call
use Rattle.kdcs_types.specs.declared.call.Cause.TheVariants.{E06, E07, E08}
use Rattle.kdcs_types.specs.declared.run_state.RunState.{RunState}
use Rattle.kdcs_types.specs.declared.run_state.Header.{Header}
use Rattle.application_types.specs.declared.unit_types.action.Action.{Action}
use Rattle.application_types.specs.declared.unit_types.action.Action.TheVariants as action
use Rattle.application_types.specs.declared.unit_types.action.HeaderName.TheVariants.{Benid, Crccc, Rlm}
use Rattle.application_types.specs.declared.unit_types.action.Operand.TheVariants as read
use Rattle.application_types.specs.declared.unit_types.action.Relation.TheVariants.{Eq, Lt}
use Rattle.application_types.specs.declared.unit_types.unit.Field.{Field}
use Rattle.application_types.specs.UnitText.{UnitText}
use Rattle.abstract_monitor.specs.Contents.{number_of, number_in, compared}
use Rattle.abstract_monitor.specs.Statement.{Meaning, Plain, Asks, Ends, step, answered}

abbrev field : List ℕ → Bool → ℕ → ℕ → Field
field name spab offset len = record { name = name; line = 1; spab = spab; offset = offset; length = len }

-- f and g overlap in KB; n lies in SPAB
abbrev unit : Action → UnitText
unit says =
    record {
      name = codes "U";
      line = 1;
      fields = field (codes "f") false 0 4 ∷ field (codes "g") false 2 4 ∷ field (codes "n") true 0 4 ∷ [];
      labels = (codes "l", 7) ∷ [];
      statements = record { line = 2; action = says } ∷ [];
    }

abbrev header : Header
header = record { benid = codes "U1"; logter = codes "L1"; tacvg = codes "ORD1"; tacal = codes "ORD2" }

abbrev run : ℕ → ℕ → List ℕ → List ℕ → RunState
run place count kb spab =
    record { place = place; count = count; budget = 9; kb = kb; spab = spab; code = K02; length = 81; header = header }

abbrev done : Action → List ℕ → List ℕ → Meaning
done says kb spab = step (unit says) (run 1 5 kb spab)

abbrev f : List ℕ
f = codes "f"

abbrev g : List ℕ
g = codes "g"

abbrev n : List ℕ
n = codes "n"

-- moves
pub record Moves : Type 0 where
  pub overlapping : done (action.Move f (read.Field g)) (codes "ABCDEF") (codes "0010") ≡ Plain (run 2 6 (codes "CDEFEF") (codes "0010"))
  pub fills : done (action.Move f (read.Literal (codes "x"))) (codes "ABCDEF") (codes "0010") ≡ Plain (run 2 6 (codes "x   EF") (codes "0010"))
  pub cuts : done (action.Move n (read.Header Benid)) (codes "ABCDEF") (codes "0010") ≡ Plain (run 2 6 (codes "ABCDEF") (codes "U1  "))
  pub last_code : done (action.Move n (read.Header Crccc)) (codes "ABCDEF") (codes "0010") ≡ Plain (run 2 6 (codes "ABCDEF") (codes "K02 "))
  pub last_length : done (action.Move g (read.Header Rlm)) (codes "ABCDEF") (codes "0010") ≡ Plain (run 2 6 (codes "AB0008") (codes "0010"))
  pub joins_what_it_read : done (action.Join f (read.Digits (codes "12")) (read.Field f)) (codes "ABCDEF") (codes "0010") ≡ Plain (run 2 6 (codes "12ABEF") (codes "0010"))
  pub joins_trimmed : done (action.Join f (read.Trim f) (read.Trim g)) (codes "A   B ") (codes "0010") ≡ Plain (run 2 6 (codes "A  BB ") (codes "0010"))

-- numbers
pub record Numbers : Type 0 where
  pub adds_itself : done (action.Add n (read.Field n)) (codes "ABCDEF") (codes " 16 ") ≡ Plain (run 2 6 (codes "ABCDEF") (codes "0032"))
  pub cut_quotient : done (action.Div n (read.Digits (codes "4"))) (codes "ABCDEF") (codes "0015") ≡ Plain (run 2 6 (codes "ABCDEF") (codes "0003"))
  pub spaces_are_zero : done (action.Sub n (read.Literal (codes ""))) (codes "ABCDEF") (codes "    ") ≡ Plain (run 2 6 (codes "ABCDEF") (codes "0000"))
  pub by_zero : done (action.Div n (read.Literal (codes "  "))) (codes "ABCDEF") (codes "0015") ≡ Ends E06
  pub below_zero : done (action.Sub n (read.Digits (codes "16"))) (codes "ABCDEF") (codes "0015") ≡ Ends E06
  pub too_long : done (action.Add n (read.Digits (codes "1"))) (codes "ABCDEF") (codes "9999") ≡ Ends E06
  pub no_number : done (action.Mul n (read.Field f)) (codes "ABCDEF") (codes "9999") ≡ Ends E06
  pub most_digits : number_of (codes " 999999999999999999 ") ≡ Some 999999999999999999
  pub a_digit_more : number_of (codes "0999999999999999999") ≡ None
  pub a_space_within : number_of (codes "1 2") ≡ None
  pub longest_result : number_in 20 999999999999999999 ≡ Some (codes "00999999999999999999")
  pub result_of_19_digits : number_in 20 1000000000000000000 ≡ None

-- comparisons and jumps
pub record Comparisons : Type 0 where
  pub shorter_is_filled : compared (codes "AB") (codes "AB  ") ≡ Equal
  pub filled_before_compared : compared (codes "AB") (65 ∷ 66 ∷ 31 ∷ []) ≡ Greater
  pub nothing_is_spaces : compared (codes "  !") (codes "") ≡ Greater
  pub jumps_where_true : done (action.If (read.Field f) Lt (read.Literal (codes "B")) (codes "l")) (codes "ABCDEF") (codes "0010") ≡ Plain (run 7 6 (codes "ABCDEF") (codes "0010"))
  pub goes_on_where_false : done (action.If (read.Field n) Eq (read.Digits (codes "10")) (codes "l")) (codes "ABCDEF") (codes "0010") ≡ Plain (run 2 6 (codes "ABCDEF") (codes "0010"))

-- calls, and the ends of a run
pub record CallsAndEnds : Type 0 where
  pub asks_with_its_bytes : done (action.SputGb (read.Trim f) (read.Field n)) (codes "A B   ") (codes "0010") ≡ Asks (call.SputGb (codes "A B") (codes "0010"))
  pub asks_with_its_capacity : done (action.Mget g) (codes "ABCDEF") (codes "0010") ≡ Asks (call.Mget 4)
  pub last_of_its_time : step (unit (action.Jump (codes "l"))) (run 1 8 [] []) ≡ Plain (run 7 9 [] [])
  pub time_is_spent : step (unit (action.Div n (read.Literal (codes "")))) (run 1 9 [] []) ≡ Ends E07
  pub behind_the_last : step (unit action.Init) (run 2 9 [] []) ≡ Ends E08
  pub takes_the_answer : answered (unit (action.SgetGb (read.Literal (codes "A")) g)) (run 1 5 (codes "ABCDEF") []) (record { code = Done; length = 2; content = Some (codes "xy") }) ≡ record (run 2 6 (codes "ABxy  ") []) { code = Done; length = 2 }
