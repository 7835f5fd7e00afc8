use Rattle.std.proofs.Common.{◌≡◌, ℕ, Bool, true, false, get_or, Ok, Err, refl, sym, ap, ◌∙◌}
use Rattle.std.proofs.lemmas.Option.{unwrap_or-slice_get}
use Rattle.std.proofs.lemmas.Result.{err_from_is_err_and}
use Rattle.texts.specs.declared.kdcdef_lex.statement.RawOperand.{RawOperand}
use Rattle.kdcdef_read.specs.declared.fault.Cause.{Cause}
use Rattle.kdcdef_read.specs.declared.fault.Cause.TheVariants.{OperandTwice}
use Rattle.kdcdef_read.specs.declared.operands.Given.{Given}
use Rattle.kdcdef_read.specs.declared.rows.Row.{Row}
use Rattle.kdcdef_read.specs.declared.value.Value.{Value}
use Rattle.kdcdef_read.specs.declared.words.Key.{Key}
use Rattle.kdcdef_read.specs.Words.{place_of}
use Rattle.kdcdef_read.specs.Values.{value_of}
use Rattle.kdcdef_read.specs.Filling.{is_taken, put, with_row}
use Rattle.kdcdef_read.proofs.operands.add_row.Goals as goal

-- whether a key is taken, read at its place
taken_at : (given : Given) (key : Key) (place : ℕ) (taken : Bool) → place ≡ place_of key → get_or given.taken place false ≡ taken → is_taken given.taken key ≡ taken
taken_at given key place taken is read = unwrap_or-slice_get given.taken (place_of key) false ∙ ap (λ (n : ℕ). get_or given.taken n false) (sym is) ∙ read

twice : (given : Given) (key : Key) (row : Row) (o : RawOperand) → is_taken given.taken key ≡ true → Err OperandTwice ≡ with_row given key row o
twice given key row o h = rw h refl

once : (given : Given) (key : Key) (row : Row) (o : RawOperand) (value : Value) → is_taken given.taken key ≡ false → value_of row.kind o.value ≡ Ok value → Ok (put given key value) ≡ with_row given key row o
once given key row o value h is = rw (h, is) refl

pub returns-then-given-place-clause-says : goal.returns-then-given-place-clause-says
returns-then-given-place-clause-says c =
    twice c.args.given.now c.args.key c.args.row c.args.operand.now
    (taken_at c.args.given.now c.args.key c.place_of-place.result true c.place_of-place.ensures.place c.if-given-place.true)

pub returns-clause-says : goal.returns-clause-says
returns-clause-says c =
    rw c.place_of-place.ensures.place
    (once c.args.given.now c.args.key c.args.row c.args.operand.now c.in_ok-value.value
    (taken_at c.args.given.now c.args.key c.place_of-place.result false c.place_of-place.ensures.place c.if-given-place.false)
    (sym c.in_ok-value.ensures))

refused : (given : Given) (key : Key) (row : Row) (o : RawOperand) (cause : Cause) → is_taken given.taken key ≡ false → value_of row.kind o.value ≡ Err cause → Err cause ≡ with_row given key row o
refused given key row o cause h is = rw (h, is) refl

pub returns-in_err-value-clause-says : goal.returns-in_err-value-clause-says
returns-in_err-value-clause-says c =
    let p = err_from_is_err_and c.from_residual.result c.from_residual.ensures.1 in
    rw (p.1, p.2)
    (refused c.args.given.now c.args.key c.args.row c.args.operand.now c.in_err-value.field-0.0 (taken_at c.args.given.now c.args.key c.place_of-place.result false c.place_of-place.ensures.place c.if-given-place.false) (sym c.in_err-value.ensures))
