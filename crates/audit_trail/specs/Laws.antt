-- What holds of every text that is read as a trail.
use Rattle.std.specs.Prelude.{◌≡◌, ◌≢◌, ◌↔◌, ◌<◌, ℕ, ◌+◌, List, [], ◌∷◌, ◌++◌, length, Option, Some, None, option_and_then, Ok, Err}
use Rattle.std.specs.Str.Lines.{lines}
use Rattle.kd_base.specs.Limits.{longest_text}
use Rattle.audit_trail.specs.declared.entry.Trail.{Trail}
use Rattle.audit_trail.specs.declared.fault.TrailFault.TheVariants.{BadLine, TooLong, OtherGeneration, NotSuited, Memory}
use Rattle.audit_trail.specs.declared.place.Place.{Place}
use Rattle.audit_trail.specs.declared.place.Place.TheVariants.{First, Ended}
use Rattle.audit_trail.specs.Facts.{IsTrail}
use Rattle.audit_trail.specs.Places.{after_line, trail_in}

-- the place after these lines, where each may stand in its place
abbrev pub after_lines : Place → List (List ℕ) → Option Place
after_lines place [] = Some place
after_lines place (line ∷ rest) = option_and_then (λ next. after_lines next rest) (after_line place line)

-- the next line may not stand in this place, or there is none and the trail is not whole
abbrev pub IsStuck : Place → List (List ℕ) → Type 0
IsStuck place [] = (trail : Trail) → place ≢ Ended trail
IsStuck place (line ∷ rest) = after_line place line ≡ None

-- the lines before the one with this number may stand in their places, and this one may not
pub record IsFirstBad (number : ℕ) (all : List (List ℕ)) : Type 0 where
  pub before : List (List ℕ)
  pub behind : List (List ℕ)
  pub place : Place
  pub parts : all ≡ before ++ behind
  pub count : number ≡ length before + 1
  pub reached : after_lines First before ≡ Some place
  pub stuck : IsStuck place behind

abbrev pub FaultsAreFirst : Type 0
FaultsAreFirst = (text : List ℕ) (number : ℕ) → trail_in text ≡ Err (BadLine number) → IsFirstBad number (lines text)

-- too long is what has more than 16,777,216 bytes
abbrev pub LongTextsAreTooLong : Type 0
LongTextsAreTooLong = (text : List ℕ) → (trail_in text ≡ Err TooLong) ↔ (longest_text < length text)

-- a text is refused for nothing else
abbrev pub NoOtherFaults : Type 0
NoOtherFaults =
    (text : List ℕ) → ((number : ℕ) → trail_in text ≢ Err (OtherGeneration number)) × ((number : ℕ) → trail_in text ≢ Err (NotSuited number)) × (trail_in text ≢ Err Memory)

-- a text says the trail of its lines, one after another
abbrev pub SaysWhatItsLinesSay : Type 0
SaysWhatItsLinesSay = (text : List ℕ) (trail : Trail) → trail_in text ≡ Ok trail → after_lines First (lines text) ≡ Some (Ended trail)

-- and its tables take the changes of each entry
abbrev pub ReadTrailsAreTrails : Type 0
ReadTrailsAreTrails = (text : List ℕ) (trail : Trail) → trail_in text ≡ Ok trail → IsTrail trail
