-- How the values of services and jobs are read.
use Rattle.std.specs.Prelude.{ℕ, Bool, true, false, List, ⊤, Option, Some, None, option_and_then, ◌==◌, if◌then◌else◌}
use Rattle.std.specs.Int.{w64}
use Rattle.std.specs.Option.{option_map}
use Rattle.kd_base.specs.Text.{IsName}
use Rattle.kdcs_types.specs.declared.key.ServiceId.{ServiceId}
use Rattle.kdcs_types.specs.declared.key.ServiceId.TheVariants.{Dialogue, Asynchronous}
use Rattle.kdcs_types.specs.declared.key.Target.{Target}
use Rattle.kdcs_types.specs.declared.key.Target.TheVariants.{Tac, Lterm}
use Rattle.record_codec.specs.Fields.{IsShort, name_field, number_field, list_field, chosen_by, either}

-- ---- flags, last messages and targets

abbrev pub always : {A : Type 0} → A → List ℕ → Option (A × List ℕ)
always x rest = Some (x, rest)

abbrev pub turned : {A B : Type 0} → (A → B) → (List ℕ → Option (A × List ℕ)) → List ℕ → Option (B × List ℕ)
turned f reads bytes = option_map (λ p. (f p.0, p.1)) (reads bytes)

abbrev pub flag_reading : List ℕ → Option (Bool × List ℕ)
flag_reading = chosen_by (either 0 (always false) 1 (always true))

abbrev pub no_message : Option (List ℕ)
no_message = None

abbrev pub some_message : List ℕ → Option (List ℕ)
some_message bytes = Some bytes

abbrev pub last_reading : List ℕ → Option (Option (List ℕ) × List ℕ)
last_reading = chosen_by (either 0 (always no_message) 1 (turned some_message list_field))

abbrev pub to_tac : List ℕ → Target
to_tac name = Tac name

abbrev pub to_lterm : List ℕ → Target
to_lterm name = Lterm name

abbrev pub target_reading : List ℕ → Option (Target × List ℕ)
target_reading = chosen_by (either 84 (turned to_tac name_field) 76 (turned to_lterm name_field))

abbrev pub LastFits : Option (List ℕ) → Type 0
LastFits None = ⊤
LastFits (Some message) = IsShort message

abbrev pub TargetFits : Target → Type 0
TargetFits (Tac tac) = IsName tac
TargetFits (Lterm lterm) = IsName lterm

-- ---- the LTERM of a service

-- eight spaces as a number
abbrev pub eight_spaces : ℕ
eight_spaces = 2314885530818453536

abbrev pub no_lterm : ℕ × List ℕ → Option (Option (List ℕ) × List ℕ)
no_lterm p = if p.0 == eight_spaces then Some (None, p.1) else None

-- a dialogue service has eight spaces, and an asynchronous one a name
abbrev pub lterm_reading : ServiceId → List ℕ → Option (Option (List ℕ) × List ℕ)
lterm_reading (Dialogue user) bytes = option_and_then no_lterm (number_field w64 bytes)
lterm_reading (Asynchronous number) bytes = turned some_message name_field bytes

abbrev pub LtermFits : ServiceId → Option (List ℕ) → Type 0
LtermFits (Dialogue user) None = ⊤
LtermFits (Dialogue user) (Some lterm) = ⊥
LtermFits (Asynchronous number) None = ⊥
LtermFits (Asynchronous number) (Some lterm) = IsName lterm
