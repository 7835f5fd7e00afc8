-- Whole values: a job's and a service's.
use Rattle.std.specs.Prelude.{ℕ, ◌^◌, ◌/◌, ◌%◌, ◌<◌, Bool, List, [], ◌∷◌, Option, Some, None, option_and_then}
use Rattle.std.specs.Int.{w64}
use Rattle.kd_base.specs.Text.{IsName}
use Rattle.kdcs_types.specs.declared.key.ServiceId.{ServiceId}
use Rattle.kdcs_types.specs.declared.key.Target.{Target}
use Rattle.kdcs_types.specs.declared.service.JobValue.{JobValue}
use Rattle.kdcs_types.specs.declared.service.Service.{Service}
use Rattle.record_codec.specs.Fields.{IsShort, FitAll, name_field, number_field, list_field, both, counted_items}
use Rattle.record_codec.specs.Readings.{turned, flag_reading, last_reading, LastFits, target_reading, TargetFits, lterm_reading, LtermFits}

-- ---- jobs

-- names are names, the due has seven bytes, the number of deliveries one, and the message's length four
pub record JobFits (v : JobValue) : Type 0 where
  pub to : TargetFits v.to
  pub due : v.due < 2 ^ 56
  pub redelivered : v.redelivered < 2 ^ 8
  pub user : IsName v.user
  pub lterm : IsName v.lterm
  pub message : IsShort v.message

-- target; redelivered and due as one number of eight bytes; user, LTERM and message
abbrev pub JobPart : Type 0
JobPart = Target × (ℕ × (List ℕ × (List ℕ × List ℕ)))

abbrev pub job_part : List ℕ → Option (JobPart × List ℕ)
job_part = both target_reading (both (number_field w64) (both name_field (both name_field list_field)))

abbrev pub job_of : JobPart → JobValue
job_of p = record { to = p.0; due = p.1.0 % 2 ^ 56; redelivered = p.1.0 / 2 ^ 56; user = p.1.1.0; lterm = p.1.1.1.0; message = p.1.1.1.1 }

abbrev pub job_reading : List ℕ → Option (JobValue × List ℕ)
job_reading = turned job_of job_part

-- ---- services

abbrev pub lssb_reading : List ℕ → Option ((List ℕ × List ℕ) × List ℕ)
lssb_reading = both name_field list_field

abbrev pub LssbFits : List ℕ × List ℕ → Type 0
LssbFits l = IsName l.0 × IsShort l.1

abbrev pub lssbs_reading : List ℕ → Option (List (List ℕ × List ℕ) × List ℕ)
lssbs_reading = counted_items lssb_reading

abbrev pub parts_reading : List ℕ → Option (List (List ℕ) × List ℕ)
parts_reading = counted_items list_field

-- names are names, numbers and lengths have four bytes, and the LTERM is there for an asynchronous service alone
pub record ServiceFits (s : Service) : Type 0 where
  pub first : IsName s.first
  pub next : IsName s.next
  pub user : IsName s.user
  pub lterm : LtermFits s.id s.lterm
  pub kb : IsShort s.kb
  pub handed : FitAll IsShort s.handed
  pub last : LastFits s.last
  pub lssbs : FitAll LssbFits s.lssbs

abbrev pub EndPart : Type 0
EndPart = List (List ℕ) × (Option (List ℕ) × List (List ℕ × List ℕ))

abbrev pub ServicePart : Type 0
ServicePart = List ℕ × (List ℕ × (Bool × (List ℕ × (Option (List ℕ) × (List ℕ × EndPart)))))

abbrev pub end_part : List ℕ → Option (EndPart × List ℕ)
end_part = both parts_reading (both last_reading lssbs_reading)

abbrev pub service_part : ServiceId → List ℕ → Option (ServicePart × List ℕ)
service_part id = both name_field (both name_field (both flag_reading (both name_field (both (lterm_reading id) (both list_field end_part)))))

abbrev pub service_of : ServiceId → ServicePart → Service
service_of id p =
    record {
      id = id;
      first = p.0;
      next = p.1.0;
      awaits = p.1.1.0;
      user = p.1.1.1.0;
      lterm = p.1.1.1.1.0;
      kb = p.1.1.1.1.1.0;
      handed = p.1.1.1.1.1.1.0;
      last = p.1.1.1.1.1.1.1.0;
      lssbs = p.1.1.1.1.1.1.1.1;
    }

abbrev pub service_reading : ServiceId → List ℕ → Option (Service × List ℕ)
service_reading id = turned (service_of id) (service_part id)

-- ---- nothing is left

abbrev pub ended : {A : Type 0} → A → List ℕ → Option A
ended x [] = Some x
ended x (b ∷ bytes) = None

-- what is in the bytes, with nothing after it
abbrev pub whole : {A : Type 0} → (List ℕ → Option (A × List ℕ)) → List ℕ → Option A
whole reads bytes = option_and_then (λ p. ended p.0 p.1) (reads bytes)
