-- How late a draft may be due, and the job that it becomes.
use Rattle.std.specs.Prelude.{◌≤◌, ℕ, List, [], ◌∷◌}
use Rattle.kdcs_types.specs.declared.service.Job.{Job}
use Rattle.abstract_monitor.specs.declared.draft.Due.{Due}
use Rattle.abstract_monitor.specs.declared.draft.Draft.{Draft}
use Rattle.abstract_monitor.specs.Endings.{due_at}
use Rattle.service_parts.specs.Ticks.{ticks_of, last_ticks}

-- the ticks are those that days, hours, minutes and seconds give
abbrev pub IsInTicks : Due → Type 0
IsInTicks due = ticks_of due ≤ last_ticks

abbrev pub AreInTicks : List Draft → Type 0
AreInTicks [] = Unit {0}
AreInTicks (d ∷ ds) = IsInTicks d.due × AreInTicks ds

-- a draft as the job with this number
abbrev pub job_of : (number clock : ℕ) → (user lterm : List ℕ) → Draft → Job
job_of number clock user lterm d = record { number = number; value = record { to = d.to; due = due_at d.due clock; redelivered = 0; user = user; lterm = lterm; message = d.message } }
