use Rattle.std.proofs.Common.{◌≡◌, take}
use Rattle.kd_records.specs.Charge.{total_charge}
use Rattle.carry_cli.proofs.making.record_pages.Given as goal

abbrev pub invariant-loop-record : goal.invariant-loop-record
invariant-loop-record l = l.pages ≡ total_charge l.size (take l.record-index l.records)
