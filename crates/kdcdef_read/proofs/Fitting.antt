-- The numbers that values have lie in the ranges of their rows.
use Rattle.std.proofs.Common.{◌≡◌, ℕ, zero, suc, ◌≤◌, Bool, true, false, cond, eqb, leb, List, [], ◌∷◌, length, Option, Some, None, Result, Ok, Err, refl, sym, subst, arith, inl, inr}
use Rattle.std.specs.Prelude.{◌&&◌, IfSome, codes, if◌then◌else◌}
use Rattle.std.specs.Result.{result_ok}
use Rattle.std.proofs.lemmas.Bool.{cases_Bool, leb-true}
use Rattle.std.specs.Option.{option_or}
use Rattle.kd_base.specs.Text.{decimal_of}
use Rattle.kd_base.specs.ToolsLaws.{chosen, both_true, some_is, bind_ok, ok_is, ok_of}
use Rattle.texts.specs.declared.kdcdef_lex.statement.RawOperand.{RawOperand}
use Rattle.texts.specs.declared.kdcdef_lex.statement.RawValue.{RawValue}
use Rattle.texts.specs.declared.kdcdef_lex.statement.RawValue.TheVariants as raw
use Rattle.application_types.specs.Statements.{IsWithin, IsBlksize}
use Rattle.kdcdef_read.specs.declared.fault.Cause.{Cause}
use Rattle.kdcdef_read.specs.declared.fault.Cause.TheVariants.{BadChoice, OutOfRange}
use Rattle.kdcdef_read.specs.declared.rows.Choice.TheVariants as choices
use Rattle.kdcdef_read.specs.declared.rows.Kind.{Kind}
use Rattle.kdcdef_read.specs.declared.rows.Kind.TheVariants as kinds
use Rattle.kdcdef_read.specs.declared.rows.Row.{Row}
use Rattle.kdcdef_read.specs.declared.value.Value.{Value}
use Rattle.kdcdef_read.specs.declared.value.Value.TheVariants as values
use Rattle.kdcdef_read.specs.declared.words.Keyword.{Keyword}
use Rattle.kdcdef_read.specs.declared.words.Key.{Key}
use Rattle.kdcdef_read.specs.Passwords.{password_of}
use Rattle.kdcdef_read.specs.Words.{is}
use Rattle.kdcdef_read.specs.Table.{row_of}
use Rattle.kdcdef_read.specs.Numbers.{or_cause, number_text, in_range, number_between}
use Rattle.kdcdef_read.specs.Values.{number_in, class_in, redelivery_in, time_in, password_in, value_of}
use Rattle.kdcdef_read.specs.Operands.{same_key, operand_key, row_says, key_says, said_from, said, default_in, answer_of}
use Rattle.kdcdef_read.specs.Said.{number_at, class_at, redelivery_at, time_at, password_at}

-- ---- values

-- the numbers in a value of the kind lie in its range
abbrev pub Fits : Kind → Value → Type 0
Fits (kinds.Number low high) (values.Number n) = IsWithin low high n
Fits kinds.Class (values.Class n) = IsWithin 1 16 n
Fits kinds.Redelivery (values.Redelivery n) = IsWithin 0 255 n
Fits kinds.Time (values.Time n) = IsWithin 1 100000 n
Fits kinds.Password (values.Password pass) = IsWithin 1 16 (length pass)
Fits (kinds.OneOf choices.Blksize) (values.Number n) = IsBlksize n
Fits kind value = Unit {0}

pub in_range_fits : (low high : ℕ) (o : Option ℕ) (n : ℕ) → in_range low high o ≡ Ok n → IsWithin low high n
in_range_fits low high None n e = absurd cc
in_range_fits low high (Some m) n e =
    elim (chosen (leb low m && leb m high) (ok_of {E = Cause} m) (Err OutOfRange) (Ok n) e) [
      | inl h ↦
          let b = both_true (leb low m) (leb m high) h.0 in
          subst (IsWithin low high) (ok_is Cause m n h.1) (leb-true low m b.0, leb-true m high b.1)
      | inr h ↦ absurd (cc h.1)
    ]

abbrev of_number : ℕ → Result Value Cause
of_number n = Ok (values.Number n)

abbrev of_class : ℕ → Result Value Cause
of_class n = Ok (values.Class n)

abbrev of_redelivery : ℕ → Result Value Cause
of_redelivery n = Ok (values.Redelivery n)

abbrev of_time : ℕ → Result Value Cause
of_time n = if eqb n 0 then Ok (values.Time 100000) else Ok (values.Time n)

number_fits : (low high : ℕ) (r : RawValue) (v : Value) → number_in low high r ≡ Ok v → Fits (kinds.Number low high) v
number_fits low high r v e =
    let b = bind_ok (number_between low high r) of_number v e in
    subst (Fits (kinds.Number low high)) (ok_is Cause (values.Number b.0) v b.2) (in_range_fits low high (decimal_of (number_text r)) b.0 b.1)

class_fits : (r : RawValue) (v : Value) → class_in r ≡ Ok v → Fits kinds.Class v
class_fits r v e =
    let b = bind_ok (number_between 1 16 r) of_class v e in
    subst (Fits kinds.Class) (ok_is Cause (values.Class b.0) v b.2) (in_range_fits 1 16 (decimal_of (number_text r)) b.0 b.1)

redelivery_fits : (r : RawValue) (v : Value) → redelivery_in r ≡ Ok v → Fits kinds.Redelivery v
redelivery_fits r v e =
    let b = bind_ok (number_between 0 255 r) of_redelivery v e in
    subst (Fits kinds.Redelivery) (ok_is Cause (values.Redelivery b.0) v b.2) (in_range_fits 0 255 (decimal_of (number_text r)) b.0 b.1)

positive : (n : ℕ) → eqb n 0 ≡ false → 1 ≤ n
positive zero h = absurd cc
positive (suc n) h = omega arith

time_fits : (r : RawValue) (v : Value) → time_in r ≡ Ok v → Fits kinds.Time v
time_fits r v e =
    let b = bind_ok (number_between 0 100000 r) of_time v e in
    let w = in_range_fits 0 100000 (decimal_of (number_text r)) b.0 b.1 in
    elim (chosen (eqb b.0 0) (ok_of {E = Cause} (values.Time 100000)) (Ok (values.Time b.0)) (Ok v) b.2) [
      | inl h ↦ subst (Fits kinds.Time) (ok_is Cause (values.Time 100000) v h.1) (omega arith, omega arith)
      | inr h ↦ subst (Fits kinds.Time) (ok_is Cause (values.Time b.0) v h.1) (positive b.0 h.0, w.1)
    ]

abbrev Passes : Option (List ℕ) → Value → Type 0
Passes o v = or_cause (λ (pass : List ℕ). values.Password pass) OutOfRange o ≡ Ok v

password_of_fits : (bytes : List ℕ) (v : Value) → Passes (password_of bytes) v → Fits kinds.Password v
password_of_fits bytes v e =
    elim (cases_Bool (leb 1 (length bytes) && leb (length bytes) 16)) [
      | inl h ↦
          let P : Bool → Type 0 = λ b. Passes (cond b (Some bytes) None) v in
          let b = both_true (leb 1 (length bytes)) (leb (length bytes) 16) h in
          subst (Fits kinds.Password) (ok_is Cause (values.Password bytes) v (subst P h e)) (leb-true 1 (length bytes) b.0, leb-true (length bytes) 16 b.1)
      | inr h ↦
          let P : Bool → Type 0 = λ b. Passes (cond b (Some bytes) None) v in
          absurd (cc (subst P h e))
    ]

password_fits : (r : RawValue) (v : Value) → password_in r ≡ Ok v → Fits kinds.Password v
password_fits (raw.Word bytes) v e = password_of_fits bytes v e
password_fits (raw.Quoted bytes) v e = password_of_fits bytes v e
password_fits (raw.Listed items) v e = absurd cc

abbrev Chooses : Option Value → Value → Type 0
Chooses o v = or_cause (λ (value : Value). value) BadChoice o ≡ Ok v

blksize_at : (n : ℕ) (v : Value) → IsBlksize n → Chooses (Some (values.Number n)) v → Fits (kinds.OneOf choices.Blksize) v
blksize_at n v h e = subst (Fits (kinds.OneOf choices.Blksize)) (ok_is Cause (values.Number n) v e) h

sizes : (a b c : Bool) (v : Value) → Chooses (cond a (Some (values.Number 2048)) (cond b (Some (values.Number 4096)) (cond c (Some (values.Number 8192)) None))) v → Fits (kinds.OneOf choices.Blksize) v
sizes true b c v e = blksize_at 2048 v (inl refl) e
sizes false true c v e = blksize_at 4096 v (inr (inl refl)) e
sizes false false true v e = blksize_at 8192 v (inr (inr refl)) e
sizes false false false v e = absurd cc

blksize_fits : (r : RawValue) (v : Value) → value_of (kinds.OneOf choices.Blksize) r ≡ Ok v → Fits (kinds.OneOf choices.Blksize) v
blksize_fits (raw.Word word) v e = sizes (is word (codes "2K")) (is word (codes "4K")) (is word (codes "8K")) v e
blksize_fits (raw.Quoted bytes) v e = absurd cc
blksize_fits (raw.Listed items) v e = absurd cc

-- ---- answers

-- what is said was said by an operand with the row of the key
said_value : (first : Bool) (keyword : Keyword) (key : Key) (row : Row) (P : Value → Type 0) (os : List RawOperand) (v : Value) → row_of keyword key ≡ Some row → ((r : RawValue) (w : Value) → value_of row.kind r ≡ Ok w → P w) → said_from first keyword key os ≡ Some v → P v
said_value first keyword key row P [] v is each e = absurd cc
said_value first keyword key row P (o ∷ os) v is each e = by_key (operand_key first o) (λ h. said_value false keyword key row P os v is each h) e
  where
    by_value : (q : Result Value Cause) → (said_from false keyword key os ≡ Some v → P v) → value_of row.kind o.value ≡ q → option_or (result_ok q) (said_from false keyword key os) ≡ Some v → P v
    by_value (Ok w) later read e = subst P (some_is w v e) (each o.value w read)
    by_value (Err cause) later read e = later e

    by_row : (r : Option Row) → (said_from false keyword key os ≡ Some v → P v) → r ≡ Some row → option_or (row_says o r) (said_from false keyword key os) ≡ Some v → P v
    by_row None later same e = absurd cc
    by_row (Some x) later same e =
        let Q : Row → Type 0 = λ y. option_or (result_ok (value_of y.kind o.value)) (said_from false keyword key os) ≡ Some v in
        by_value (value_of row.kind o.value) later refl (subst Q (some_is x row same) e)

    by_same : (b : Bool) → (said_from false keyword key os ≡ Some v → P v) → option_or (cond b (row_says o (row_of keyword key)) None) (said_from false keyword key os) ≡ Some v → P v
    by_same true later e = by_row (row_of keyword key) later is e
    by_same false later e = later e

    by_key : (k : Option Key) → (said_from false keyword key os ≡ Some v → P v) → option_or (key_says keyword key o k) (said_from false keyword key os) ≡ Some v → P v
    by_key None later e = later e
    by_key (Some k) later e = by_same (same_key k key) later e

if_none : (P : Value → Type 0) (default : Option Value) (o : Option Value) → ((v : Value) → o ≡ Some v → P v) → IfSome default P → IfSome (option_or o default) P
if_none P default None h d = d
if_none P default (Some v) h d = h v refl

pub answer_keeps : (P : Value → Type 0) (keyword : Keyword) (key : Key) (row : Row) (os : List RawOperand) → row_of keyword key ≡ Some row → ((r : RawValue) (w : Value) → value_of row.kind r ≡ Ok w → P w) → IfSome row.default P → IfSome (answer_of keyword os key) P
answer_keeps P keyword key row os is each d =
    let D : Option Row → Type 0 = λ r. IfSome (option_or (said keyword key os) (default_in r)) P in
    subst D (sym is) (if_none P row.default (said keyword key os) (λ v e. said_value true keyword key row P os v is each e) d)

-- ---- by kind

number_if : (low high : ℕ) (o : Option Value) → IfSome o (Fits (kinds.Number low high)) → IfSome (number_at o) (IsWithin low high)
number_if low high None h = tt
number_if low high (Some (values.Number n)) h = h
number_if low high (Some v) h = tt

blksize_if : (o : Option Value) → IfSome o (Fits (kinds.OneOf choices.Blksize)) → IfSome (number_at o) IsBlksize
blksize_if None h = tt
blksize_if (Some (values.Number n)) h = h
blksize_if (Some v) h = tt

class_if : (o : Option Value) → IfSome o (Fits kinds.Class) → IfSome (class_at o) (IsWithin 1 16)
class_if None h = tt
class_if (Some (values.Class n)) h = h
class_if (Some v) h = tt

redelivery_if : (o : Option Value) → IfSome o (Fits kinds.Redelivery) → IfSome (redelivery_at o) (IsWithin 0 255)
redelivery_if None h = tt
redelivery_if (Some (values.Redelivery n)) h = h
redelivery_if (Some v) h = tt

time_if : (o : Option Value) → IfSome o (Fits kinds.Time) → IfSome (time_at o) (IsWithin 1 100000)
time_if None h = tt
time_if (Some (values.Time n)) h = h
time_if (Some v) h = tt

abbrev pub IsPassword : List ℕ → Type 0
IsPassword pass = IsWithin 1 16 (length pass)

password_if : (o : Option Value) → IfSome o (Fits kinds.Password) → IfSome (password_at o) IsPassword
password_if None h = tt
password_if (Some (values.Password pass)) h = h
password_if (Some v) h = tt

abbrev pub row_with : Kind → Option Value → Row
row_with kind default = record { kind = kind; default = default }

pub number_within : (keyword : Keyword) (key : Key) (low high : ℕ) (default : Option Value) (os : List RawOperand) → row_of keyword key ≡ Some (row_with (kinds.Number low high) default) → IfSome default (Fits (kinds.Number low high)) → IfSome (number_at (answer_of keyword os key)) (IsWithin low high)
number_within keyword key low high default os is d =
    number_if low high (answer_of keyword os key) (answer_keeps (Fits (kinds.Number low high)) keyword key (row_with (kinds.Number low high) default) os is (number_fits low high) d)

pub blksize_is : (keyword : Keyword) (key : Key) (os : List RawOperand) → row_of keyword key ≡ Some (row_with (kinds.OneOf choices.Blksize) None) → IfSome (number_at (answer_of keyword os key)) IsBlksize
blksize_is keyword key os is =
    blksize_if (answer_of keyword os key) (answer_keeps (Fits (kinds.OneOf choices.Blksize)) keyword key (row_with (kinds.OneOf choices.Blksize) None) os is blksize_fits tt)

pub class_within : (keyword : Keyword) (key : Key) (os : List RawOperand) → row_of keyword key ≡ Some (row_with kinds.Class None) → IfSome (class_at (answer_of keyword os key)) (IsWithin 1 16)
class_within keyword key os is =
    class_if (answer_of keyword os key) (answer_keeps (Fits kinds.Class) keyword key (row_with kinds.Class None) os is class_fits tt)

pub redelivery_within : (keyword : Keyword) (key : Key) (os : List RawOperand) → row_of keyword key ≡ Some (row_with kinds.Redelivery None) → IfSome (redelivery_at (answer_of keyword os key)) (IsWithin 0 255)
redelivery_within keyword key os is =
    redelivery_if (answer_of keyword os key) (answer_keeps (Fits kinds.Redelivery) keyword key (row_with kinds.Redelivery None) os is redelivery_fits tt)

pub time_within : (keyword : Keyword) (key : Key) (os : List RawOperand) → row_of keyword key ≡ Some (row_with kinds.Time (Some (values.Time 1000))) → IfSome (time_at (answer_of keyword os key)) (IsWithin 1 100000)
time_within keyword key os is =
    time_if (answer_of keyword os key) (answer_keeps (Fits kinds.Time) keyword key (row_with kinds.Time (Some (values.Time 1000))) os is time_fits (omega arith, omega arith))

pub password_within : (keyword : Keyword) (key : Key) (os : List RawOperand) → row_of keyword key ≡ Some (row_with kinds.Password None) → IfSome (password_at (answer_of keyword os key)) IsPassword
password_within keyword key os is =
    password_if (answer_of keyword os key) (answer_keeps (Fits kinds.Password) keyword key (row_with kinds.Password None) os is password_fits tt)
