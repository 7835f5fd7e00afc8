use Rattle.std.proofs.Common.{sym, ap, ◌≡◌, ◌∙◌, ℕ, Bool, false, true}
use Rattle.std.specs.Option.{option_map}
use Rattle.std.specs.Prelude.{Option, Some, None, cond}
use Rattle.kd_base.specs.ToolsLaws.{some_is}
use Rattle.kdcs_types.specs.declared.act.Row.{Row}
use Rattle.kdcs_types.specs.declared.key.Key.{Key}
use Rattle.kdcs_types.specs.Tables.{TableRows, change_key, row_at}
use Rattle.application_types.specs.declared.kdcdef_types.limits.Limits.{Limits}
use Rattle.application_types.specs.Generation.{Generated}
use Rattle.abstract_monitor.specs.Charges.{charge_of}
use Rattle.laws_of_states.specs.DurableKeys.{key_is_durable}
use Rattle.table_fit.specs.Lengths.{value_length}
use Rattle.table_fit.specs.Pages.{row_charge, value_charge}
use Rattle.table_fit.specs.PagesLaws.{charge_at}
use Rattle.table_fit.specs.Weights.{row_weight}
use Rattle.table_fit.proofs.row_charges.replaced.Goals as goal

-- the test of the key says what the row there takes
tested : (g : Generated) (t : TableRows) (k key : Key) (is b : Bool) → key ≡ k → is ≡ key_is_durable g key → is ≡ b → cond b (row_weight (value_charge g.limits.blksize) (row_at t k)) 0 ≡ row_weight (row_charge g) (row_at t k)
tested g t k key is b same test so = sym (charge_at g t k ∙ ap (λ (d : Bool). cond d (row_weight (value_charge g.limits.blksize) (row_at t k)) 0) (sym (ap (key_is_durable g) same) ∙ sym test ∙ so))

-- its length does
measured : (b n : ℕ) (o : Option Row) → Some n ≡ option_map value_length o → charge_of b n ≡ row_weight (value_charge b) o
measured b n None e = absurd cc
measured b n (Some r) e = ap (charge_of b) (some_is n (value_length r) e)

pub returns-then-not-is_key_durable : goal.returns-then-not-is_key_durable
returns-then-not-is_key_durable c =
    tested c.args.generation.now c.args.tables.now (change_key c.args.change.now) c.key.result c.is_key_durable.result false c.key.ensures c.is_key_durable.ensures c.if-not-is_key_durable.true

pub returns-in-Some : goal.returns-in-Some
returns-in-Some c =
    let g = c.args.generation.now in
    let t = c.args.tables.now in
    c.charge.ensures
    ∙ ap (λ (m : Limits). charge_of m.blksize c.in-Some.length) c.max.ensures.limits
    ∙ measured g.limits.blksize c.in-Some.length (row_at t (change_key c.args.change.now)) (c.in-Some.ensures ∙ ap (λ (k : Key). option_map value_length (row_at t k)) c.key-2.ensures)
    ∙ tested g t (change_key c.args.change.now) c.key.result c.is_key_durable.result true c.key.ensures c.is_key_durable.ensures c.if-not-is_key_durable.false
