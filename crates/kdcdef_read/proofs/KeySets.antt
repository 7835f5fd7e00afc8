-- Codes that are read are one or more, each in its range; what is told to be one is one.
use Rattle.std.proofs.Common.{◌≡◌, ℕ, ◌≤◌, Bool, true, false, List, [], ◌∷◌, length, Option, Some, None, Result, Ok, Err, refl, ap, ◌∙◌, subst, arith, leb, cond, inl, inr}
use Rattle.std.specs.Prelude.{◌&&◌, is_some, codes}
use Rattle.std.specs.List.{All, list_all}
use Rattle.std.specs.Result.{result_ok}
use Rattle.std.proofs.lemmas.Bool.{leb-true}
use Rattle.std.proofs.lemmas.List.Elements.{All-nil, All-cons}
use Rattle.kd_base.specs.Text.{decimal_of}
use Rattle.kd_base.specs.ToolsLaws.{chosen, both_true, some_is, some_of, ok_of, err_of, ok_is, bind_ok}
use Rattle.texts.specs.Firsts.{first_of}
use Rattle.texts.specs.declared.kdcdef_lex.statement.RawItem.{RawItem}
use Rattle.texts.specs.declared.kdcdef_lex.statement.RawOperand.{RawOperand}
use Rattle.texts.specs.declared.kdcdef_lex.statement.RawValue.{RawValue}
use Rattle.texts.specs.declared.kdcdef_lex.statement.RawValue.TheVariants as raw
use Rattle.application_types.specs.declared.kdcdef_types.entry.KeySet.{KeySet}
use Rattle.application_types.specs.declared.kdcdef_types.entry.KeySet.TheVariants.{Master, Codes}
use Rattle.application_types.specs.Statements.{IsWithin, IsKeySetInRange}
use Rattle.kdcdef_read.specs.declared.fault.Cause.{Cause}
use Rattle.kdcdef_read.specs.declared.fault.Cause.TheVariants.{BadNumber, OutOfRange}
use Rattle.kdcdef_read.specs.declared.value.Value.{Value}
use Rattle.kdcdef_read.specs.declared.value.Value.TheVariants as values
use Rattle.kdcdef_read.specs.Numbers.{or_cause, number_text, number_between}
use Rattle.kdcdef_read.specs.KeySets.{item_number, code_in, code_of, is_code, is_number, with_code, codes_of, codes_cause, one_code, listed_codes, key_set_in, fits, codes_in, is_keys, key_set_of}
use Rattle.kdcdef_read.specs.Words.{is}
use Rattle.kdcdef_read.proofs.Fitting.{in_range_fits}

-- ---- ranges

abbrev IsCode : ℕ → Type 0
IsCode code = IsWithin 1 4000 code

code_within : (number : Option ℕ) (code : ℕ) → code_in number ≡ Some code → IsCode code
code_within None code e = absurd cc
code_within (Some n) code e =
    elim (chosen (leb 1 n && leb n 4000) (some_of n) None (Some code) e) [
      | inl h ↦
          let b = both_true (leb 1 n) (leb n 4000) h.0 in
          subst IsCode (some_is n code h.1) (leb-true 1 n b.0, leb-true n 4000 b.1)
      | inr h ↦ absurd (cc h.1)
    ]

-- a code and those that follow it
record AreMade (number : Option ℕ) (more : Option (List ℕ)) (list : List ℕ) : Type 0 where
  code : ℕ
  rest : List ℕ
  number_is : number ≡ Some code
  more_is : more ≡ Some rest
  is : code ∷ rest ≡ list

made : (number : Option ℕ) (more : Option (List ℕ)) (list : List ℕ) → with_code number more ≡ Some list → AreMade number more list
made None more list e = absurd cc
made (Some code) None list e = absurd cc
made (Some code) (Some rest) list e = record { code = code; rest = rest; number_is = refl; more_is = refl; is = some_is (code ∷ rest) list e }

codes_within : (items : List (Option RawItem)) (list : List ℕ) → codes_of items ≡ Some list → All IsCode list
codes_within [] list e = subst (All IsCode) (some_is [] list e) (All-nil IsCode)
codes_within (item ∷ more) list e =
    let m = made (code_of item) (codes_of more) list e in
    subst (All IsCode) m.is (All-cons IsCode m.code m.rest (code_within (item_number item) m.code m.number_is) (codes_within more m.rest m.more_is))

some_code : (item : Option RawItem) (more : List (Option RawItem)) (list : List ℕ) → codes_of (item ∷ more) ≡ Some list → 1 ≤ length list
some_code item more list e =
    let m = made (code_of item) (codes_of more) list e in
    let P : List ℕ → Type 0 = λ x. 1 ≤ length x in
    subst P m.is (omega arith)

abbrev all_of : List ℕ → KeySet
all_of list = Codes list

made_in_range : (cause : Cause) (found : Option (List ℕ)) (set : KeySet) → ((list : List ℕ) → found ≡ Some list → (1 ≤ length list) × All IsCode list) → or_cause all_of cause found ≡ Ok set → IsKeySetInRange set
made_in_range cause None set each e = absurd cc
made_in_range cause (Some list) set each e = subst IsKeySetInRange (ok_is Cause (Codes list) set e) (each list refl)

listed_in_range : (items : List (Option RawItem)) (set : KeySet) → listed_codes items ≡ Ok set → IsKeySetInRange set
listed_in_range [] set e = absurd cc
listed_in_range (item ∷ more) set e =
    made_in_range (codes_cause (item ∷ more)) (codes_of (item ∷ more)) set (λ list is. (some_code item more list is, codes_within (item ∷ more) list is)) e

abbrev of_code : ℕ → Result KeySet Cause
of_code code = Ok (Codes (code ∷ []))

one_in_range : (r : RawValue) (set : KeySet) → one_code r ≡ Ok set → IsKeySetInRange set
one_in_range r set e =
    let b = bind_ok (number_between 1 4000 r) of_code set e in
    let w = in_range_fits 1 4000 (decimal_of (number_text r)) b.0 b.1 in
    subst IsKeySetInRange (ok_is Cause (Codes (b.0 ∷ [])) set b.2) (omega arith, All-cons IsCode b.0 [] w (All-nil IsCode))

value_in_range : (r : RawValue) (set : KeySet) → key_set_in r ≡ Ok set → IsKeySetInRange set
value_in_range (raw.Word word) set e =
    elim (chosen (is word (codes "MASTER")) (ok_of {E = Cause} Master) (one_code (raw.Word word)) (Ok set) e) [
      | inl h ↦ subst IsKeySetInRange (ok_is Cause Master set h.1) tt
      | inr h ↦ one_in_range (raw.Word word) set h.1
    ]
value_in_range (raw.Quoted bytes) set e = absurd cc
value_in_range (raw.Listed items) set e = listed_in_range items set e

ok_there : (q : Result KeySet Cause) (set : KeySet) → result_ok q ≡ Some set → q ≡ Ok set
ok_there (Ok x) set e = let is = some_is x set e in subst (λ (y : KeySet). ok_of {E = Cause} x ≡ Ok y) is refl
ok_there (Err cause) set e = absurd cc

pub set_in_range : (os : List RawOperand) (set : KeySet) → key_set_of os ≡ Some set → IsKeySetInRange set
set_in_range [] set e = absurd cc
set_in_range (o ∷ os) set e =
    elim (chosen (is_keys o.key) (result_ok (key_set_in o.value)) (key_set_of os) (Some set) e) [
      | inl h ↦ value_in_range o.value set (ok_there (key_set_in o.value) set h.1)
      | inr h ↦ set_in_range os set h.1
    ]

-- ---- what is told

both_there : (number : Option ℕ) (more : Option (List ℕ)) → is_some (with_code number more) ≡ (is_some number && is_some more)
both_there None more = refl
both_there (Some code) None = refl
both_there (Some code) (Some rest) = refl

codes_there : (items : List (Option RawItem)) → is_some (codes_of items) ≡ list_all is_code items
codes_there [] = refl
codes_there (item ∷ more) = both_there (code_of item) (codes_of more) ∙ ap (λ (b : Bool). is_code item && b) (codes_there more)

found_fits : (cause : Cause) (found : Option (List ℕ)) → is_some found ≡ true → fits (or_cause all_of cause found) ≡ Ok values.Keys
found_fits cause None h = absurd cc
found_fits cause (Some list) h = refl

not_found : (cause : Cause) (found : Option (List ℕ)) → is_some found ≡ false → fits (or_cause all_of cause found) ≡ Err cause
not_found cause None h = refl
not_found cause (Some list) h = absurd cc

pub codes_fit : (items : List (Option RawItem)) → is_some (first_of items) ≡ true → list_all is_code items ≡ true → codes_in items ≡ Ok values.Keys
codes_fit [] some h = absurd cc
codes_fit (item ∷ more) some h = found_fits (codes_cause (item ∷ more)) (codes_of (item ∷ more)) (codes_there (item ∷ more) ∙ h)

-- why items are not codes, where they are all numbers or not
pub codes_refused : (items : List (Option RawItem)) (numbers : Bool) → is_some (first_of items) ≡ true → list_all is_code items ≡ false → list_all is_number items ≡ numbers → codes_in items ≡ Err (cond numbers OutOfRange BadNumber)
codes_refused [] numbers some h n = absurd cc
codes_refused (item ∷ more) numbers some h n =
    not_found (codes_cause (item ∷ more)) (codes_of (item ∷ more)) (codes_there (item ∷ more) ∙ h)
    ∙ ap (λ (b : Bool). err_of {A = Value} (cond b OutOfRange BadNumber)) n
