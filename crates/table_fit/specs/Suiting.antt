-- The numbers of tables that suit.
use Rattle.std.specs.Prelude.{Bool, ◌&&◌, IsTrue, not, is_some, nat_le, nat_lt}
use Rattle.std.specs.List.{list_all}
use Rattle.kd_base.specs.Limits.{last_clock, last_next_job}
use Rattle.kdcs_types.specs.declared.key.ServiceId.TheVariants.{Asynchronous}
use Rattle.kdcs_types.specs.declared.service.Job.{Job}
use Rattle.kdcs_types.specs.declared.service.Service.{Service}
use Rattle.kdcs_types.specs.Tables.{TableRows, service_of}
use Rattle.laws_of_states.specs.Suits.{number_is_below}

-- the numbers of jobs and of asynchronous services are below the next one, and none is both
pub record AreNumbersApart (t : TableRows) : Type 0 where
  pub job_numbers : IsTrue (list_all (λ (j : Job). nat_lt j.number t.next_job) t.jobs)
  pub service_numbers : IsTrue (list_all (λ (s : Service). number_is_below t.next_job s.id) t.services)
  pub apart : IsTrue (list_all (λ (j : Job). not (is_some (service_of t (Asynchronous j.number)))) t.jobs)

-- ---- the same as tests

-- the clock and the next job number are in range
abbrev pub are_numbers_in_range : TableRows → Bool
are_numbers_in_range t = nat_le t.clock last_clock && nat_le 1 t.next_job && nat_le t.next_job last_next_job

-- the numbers of jobs and of asynchronous services are below the next one, and none is both
abbrev pub are_numbers_apart : TableRows → Bool
are_numbers_apart t =
    list_all (λ (j : Job). nat_lt j.number t.next_job) t.jobs && list_all (λ (s : Service). number_is_below t.next_job s.id) t.services
    && list_all (λ (j : Job). not (is_some (service_of t (Asynchronous j.number)))) t.jobs
