-- The empty tables suit each generation.
use Rattle.std.specs.Prelude.{refl}
use Rattle.std.proofs.Common.{arith}
use Rattle.kdcs_types.specs.Tables.{empty_tables}
use Rattle.application_types.specs.Generation.{Generated}
use Rattle.abstract_monitor.specs.Charges.{total_charge}
use Rattle.laws_of_states.specs.Suits.{Suits}

pub empty_suit : (g : Generated) → Suits g empty_tables
unfolding total_charge
empty_suit g = record {
  clock = omega arith;
  next_job_from_one = omega arith;
  next_job = omega arith;
  charge = omega arith;
  count = omega arith;
  gssbs = refl;
  tlss = refl;
  ulss = refl;
  services = refl;
  durable = refl;
  jobs = refl;
  shown = refl;
  job_numbers = refl;
  service_numbers = refl;
  apart = refl;
}
