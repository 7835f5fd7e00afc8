-- The made application is one that the laws speak of, and its start from empty tables is sound.
use Rattle.std.specs.Prelude.{◌≡◌, refl, codes, false, zero, suc, ◌+◌, ◌≤◌, Bool, true, cond, not, IfSome, IsSome, List, [], ◌∷◌, length, nat_le, is_some, All, Option, None, Some}
use Rattle.std.proofs.Common.{arith, sym, true≢false}
use Rattle.std.proofs.lemmas.Bool.{leb-true}
use Rattle.std.proofs.lemmas.List.Sums.{AllPass-from_list_all}
use Rattle.std.specs.Fmt.{digits}
use Rattle.std.specs.List.{list_all}
use Rattle.kdcs_types.specs.RowLaws.{empty_sorted}
use Rattle.kdcs_types.specs.Tables.{empty_tables}
use Rattle.application_types.specs.declared.kdcdef_types.entry.LtermEntry.{LtermEntry}
use Rattle.application_types.specs.declared.kdcdef_types.entry.PtermEntry.{PtermEntry}
use Rattle.application_types.specs.declared.kdcdef_types.entry.TacEntry.{TacEntry}
use Rattle.application_types.specs.declared.kdcdef_types.entry.UserEntry.{UserEntry}
use Rattle.application_types.specs.declared.kdcdef_types.limits.Limits.{Limits}
use Rattle.application_types.specs.declared.unit_types.action.Operand.{Operand}
use Rattle.application_types.specs.declared.unit_types.action.Operand.TheVariants.{Literal, Digits}
use Rattle.application_types.specs.declared.unit_types.action.UnitStatement.{UnitStatement}
use Rattle.application_types.specs.declared.unit_types.unit.Field.{Field}
use Rattle.application_types.specs.UnitText.{UnitText, IsShortOperand, label_place, jump_of, operands_of}
use Rattle.abstract_monitor.specs.Bytes.{Bytes}
use Rattle.abstract_monitor.specs.State.{unit_of}
use Rattle.abstract_monitor.specs.Made.{made_tac, made_generation, add_unit, tally_unit, made_application}
use Rattle.laws_of_states.specs.Applications.{LiesInside, IsFittedUnit, HasUnit, IsApplication}
use Rattle.abstract_monitor.specs.Commands.{started}
use Rattle.laws_of_states.specs.EmptyTablesLaws.{empty_suit}
use Rattle.laws_of_states.specs.Facts.{IsSoundState}
use Rattle.laws_of_states.specs.Suits.{is_lterm}
use Rattle.laws_of_states.specs.KeptEntriesLaws.{entries_have, short_names}
use Rattle.laws_of_states.specs.CommandedLaws.{states_stay_sound}

-- what a test says of each item
all_by : {X : Type 0} (P : X → Type 0) (test : X → Bool) → ((x : X) → test x ≡ true → P x) → (xs : List X) → list_all test xs ≡ true → All P xs
all_by P test says xs h = λ k d lt. says _ (AllPass-from_list_all test xs h k d lt)

-- ---- a unit without labels

abbrev is_short : Operand → Bool
is_short (Literal bytes) = nat_le (length bytes) 32767
is_short (Digits bytes) = nat_le (length bytes) 18
is_short _ = true

short_says : (o : Operand) → is_short o ≡ true → IsShortOperand o
short_says (Literal bytes) h = leb-true (length bytes) 32767 h
short_says (Digits bytes) h = leb-true (length bytes) 18 h
short_says _ h = tt

abbrev lies_inside : Limits → Field → Bool
lies_inside m f = nat_le (f.offset + f.length) (cond f.spab m.spab m.kb)

-- it jumps nowhere
abbrev jumps_not : UnitStatement → Bool
jumps_not s = not (is_some (jump_of s.action))

no_jump : (unit : UnitText) (o : Option Bytes) → not (is_some o) ≡ true → IfSome o (λ label. IsSome (label_place unit label))
no_jump unit None h = tt
no_jump unit (Some label) h = absurd (true≢false (sym h))

fitted : (m : Limits) (unit : UnitText) → unit.labels ≡ [] → list_all (lies_inside m) unit.fields ≡ true → list_all jumps_not unit.statements ≡ true
    → list_all (λ (s : UnitStatement). list_all is_short (operands_of s.action)) unit.statements ≡ true → IsFittedUnit m unit
fitted m unit none inside quiet short = record {
  fields = all_by (LiesInside m) (lies_inside m) (λ f h. leb-true (f.offset + f.length) (cond f.spab m.spab m.kb) h) unit.fields inside;
  labels = all_by (λ (s : UnitStatement). IfSome (jump_of s.action) (λ label. IsSome (label_place unit label))) jumps_not (λ s h. no_jump unit (jump_of s.action) h) unit.statements quiet;
  labels_from_one = λ name. rw none tt;
  literals = all_by (λ (s : UnitStatement). All IsShortOperand (operands_of s.action)) (λ (s : UnitStatement). list_all is_short (operands_of s.action)) (λ s h. all_by IsShortOperand is_short short_says (operands_of s.action) h) unit.statements short;
}

-- ---- the application

no_entry : {A : Type 0} (P : A → Type 0) → All P []
no_entry P k d lt = absurd (omega arith)

one_more : {A : Type 0} (P : A → Type 0) (x : A) (xs : List A) → P x → All P xs → All P (x ∷ xs)
one_more P x xs h all zero d lt = h
one_more P x xs h all (suc k) d lt = all k d (omega arith)

abbrev HasItsUnit : Bytes × TacEntry → Type 0
HasItsUnit e = HasUnit made_application e.0

have_units : All HasItsUnit made_generation.tacs
unfolding unit_of
have_units =
    let add = made_tac (codes "ADD") false 0 in
    let tally = made_tac (codes "TALLY") true 16 in
    one_more HasItsUnit add (tally ∷ []) (add_unit, refl, fitted made_generation.limits add_unit refl refl refl refl)
    (one_more HasItsUnit tally [] (tally_unit, refl, fitted made_generation.limits tally_unit refl refl refl refl) (no_entry HasItsUnit))

abbrev short_name : {A : Type 0} → Bytes × A → Bool
short_name e = nat_le (length e.0) 8

pub made_is_application : IsApplication made_application
unfolding digits
made_is_application =
    let g = made_generation in
    record {
      tasks = omega arith;
      kb = omega arith;
      spab = omega arith;
      nb = omega arith;
      names = short_names g
          (all_by (λ (e : Bytes × TacEntry). length e.0 ≤ 8) short_name (λ e h. leb-true (length e.0) 8 h) g.tacs refl)
          (all_by (λ (e : Bytes × UserEntry). length e.0 ≤ 8) short_name (λ e h. leb-true (length e.0) 8 h) g.users refl)
          (all_by (λ (e : Bytes × LtermEntry). length e.0 ≤ 8) short_name (λ e h. leb-true (length e.0) 8 h) g.lterms refl);
      terminals = entries_have (λ (e : Bytes × PtermEntry). is_lterm g e.1.lterm ≡ true) g.pterms (all_by (λ (e : Bytes × PtermEntry). is_lterm g e.1.lterm ≡ true) (λ (e : Bytes × PtermEntry). is_lterm g e.1.lterm) (λ e h. h) g.pterms refl);
      units = entries_have HasItsUnit g.tacs have_units;
    }

-- ---- its start from empty tables

pub made_start_is_sound : IsSoundState made_application (started made_application empty_tables)
made_start_is_sound = states_stay_sound.starts made_application empty_tables made_is_application empty_sorted (empty_suit made_generation)
