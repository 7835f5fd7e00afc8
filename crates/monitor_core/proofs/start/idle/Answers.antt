use Rattle.std.specs.Prelude.{min}
use Rattle.std.proofs.Common.{arith, ap, sym, ◌≡◌, ◌-◌, ◌^◌, ◌∙◌, ℕ}
use Rattle.kdcs_types.specs.Tables.{TableRows}
use Rattle.application_types.specs.Soundness.{AreLimits}
use Rattle.application_types.specs.declared.kdcdef_types.limits.Limits.{Limits}
use Rattle.application_types.specs.Generation.{Generated}
use Rattle.abstract_monitor.specs.Charges.{total_charge}
use Rattle.abstract_monitor.specs.Endings.{durable}
use Rattle.laws_of_states.specs.Suits.{Suits}
use Rattle.laws_of_states.specs.EndsLaws.{durable_same}
use Rattle.table_fit.specs.ChargingLaws.{suiting_short}
use Rattle.monitor_core.proofs.Opening.{rest_indexed, rest_state}
use Rattle.monitor_core.proofs.start.idle.Goals as goal

-- all rows of tables that suit are durable, and take no more pages than there are
all_charged : (g : Generated) (t : TableRows) (limits : Limits) (charge : ℕ) → AreLimits g.limits → Suits g t → limits ≡ g.limits → charge ≡ min (total_charge limits.blksize t) (2 ^ 64 - 1) → charge ≡ total_charge g.limits.blksize (durable g t)
all_charged g t limits charge are suits same e =
    let whole : charge ≡ min (total_charge g.limits.blksize t) (2 ^ 64 - 1) = e ∙ ap (λ (m : Limits). min (total_charge m.blksize t) (2 ^ 64 - 1)) same in
    let few : charge ≡ total_charge g.limits.blksize t = omega (arith, whole, suits.charge, are.pgpool) in
    few ∙ ap (total_charge g.limits.blksize) (sym (durable_same g t suits))

pub total_charge-charge-requires-clause-short : goal.total_charge-charge-requires-clause-short
total_charge-charge-requires-clause-short c = suiting_short c.args.generation c.args.tables c.max.ensures.sound.limits c.requires.suits

pub returns-clause-state : goal.returns-clause-state
returns-clause-state c =
    rest_state
    (record { generation = c.args.generation; units = c.args.units; steps = 0; tables = c.args.tables; charge = c.total_charge-charge.result; sessions = c.new.result; scheduler = c.args.scheduler; active = c.new-2.result; locks = c.new-3.result; jobs = c.args.jobs })
    c.requires.scheduler c.new.ensures c.new-2.ensures c.new-3.ensures

pub returns-clause-indexed : goal.returns-clause-indexed
returns-clause-indexed c =
    rest_indexed _ c.requires.scheduler c.new.ensures c.new-2.ensures c.new-3.ensures c.requires.jobs
    (all_charged c.args.generation c.args.tables c.max.result.now _ c.max.ensures.sound.limits c.requires.suits c.max.ensures.limits c.total_charge-charge.ensures)
