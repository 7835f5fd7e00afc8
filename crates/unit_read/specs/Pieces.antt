-- The pieces of units, one to a line.
use Rattle.std.specs.Prelude.{ℕ, ◌-◌, Bool, true, false, not, ◌&&◌, ◌==◌, nat_le, List, [], ◌∷◌, length, take, Option, None, Some, is_some, if◌then◌else◌, codes, bytes_eq, slice_index}
use Rattle.std.specs.Prelude.{option_and_then}
use Rattle.std.specs.Option.{option_map}
use Rattle.kd_base.specs.Limits.{longest_content}
use Rattle.kd_base.specs.Text.{decimal_of, prog_name_of}
use Rattle.application_types.specs.declared.unit_types.action.Action.{Action}
use Rattle.unit_read.specs.declared.word.Word.{Word}
use Rattle.unit_read.specs.declared.word.Word.TheVariants.{Plain, Literal}
use Rattle.unit_read.specs.declared.piece.Piece.{Piece}
use Rattle.unit_read.specs.declared.piece.Piece.TheVariants as pieces
use Rattle.unit_read.specs.Operands.{is_name, header_of}
use Rattle.unit_read.specs.Shapes.{both}
use Rattle.unit_read.specs.Statements.{action_of}

abbrev pub plain : Word → Option (List ℕ)
plain (Plain bytes) = Some bytes
plain (Literal bytes) = None

-- the number, where it is from the least one to 32,767
abbrev pub in_range : ℕ → ℕ → Option ℕ
in_range least number = if nat_le least number && nat_le number longest_content then Some number else None

abbrev pub number_from : ℕ → Word → Option ℕ
number_from least word = option_and_then (λ (bytes : List ℕ). option_and_then (in_range least) (decimal_of bytes)) (plain word)

-- whether the area is SPAB; else it is KB
abbrev pub area_of : Word → Option Bool
area_of (Plain word) =
    if bytes_eq word (codes "SPAB") then Some true
    else (if bytes_eq word (codes "KB") then Some false else None)
area_of (Literal bytes) = None

-- the name of a new field, which is no header name
abbrev pub new_field : Word → Option (List ℕ)
new_field (Plain word) = if is_name word && not (is_some (header_of word)) then Some word else None
new_field (Literal bytes) = None

-- name, whether it is in SPAB, offset and length
abbrev pub field_parts : Word → Word → Word → Word → Option (List ℕ × (Bool × (ℕ × ℕ)))
field_parts n a o l = both (new_field n) (both (area_of a) (both (number_from 0 o) (number_from 1 l)))

-- after FIELD
abbrev pub field_of : List Word → Option Piece
field_of [] = None
field_of (n ∷ []) = None
field_of (n ∷ a ∷ []) = None
field_of (n ∷ a ∷ o ∷ []) = None
field_of (n ∷ a ∷ o ∷ l ∷ []) =
    option_map (λ (p : List ℕ × (Bool × (ℕ × ℕ))). pieces.Field p.0 p.1.0 p.1.1.0 p.1.1.1) (field_parts n a o l)
field_of (n ∷ a ∷ o ∷ l ∷ x ∷ ws) = None

-- after UNIT
abbrev pub unit_of : List Word → Option Piece
unit_of [] = None
unit_of (w ∷ []) = option_and_then (λ (bytes : List ℕ). option_map (λ (name : List ℕ). pieces.Unit name) (prog_name_of bytes)) (plain w)
unit_of (w ∷ v ∷ ws) = None

-- the name before a colon
abbrev pub before_colon : List ℕ → Option (List ℕ)
before_colon word =
    if slice_index word (length word - 1) == 58 && is_name (take (length word - 1) word) then Some (take (length word - 1) word) else None

-- the name of the label that is the only word
abbrev pub label_in : List Word → Option (List ℕ)
label_in [] = None
label_in (Plain word ∷ []) = before_colon word
label_in (Literal bytes ∷ []) = None
label_in (w ∷ v ∷ ws) = None

-- a label, or else a statement
abbrev pub inner_of : Option (List ℕ) → List Word → Option Piece
inner_of (Some label) words = Some (pieces.Label label)
inner_of None words = option_map (λ (action : Action). pieces.Statement action) (action_of words)

-- the piece that the words are
abbrev pub piece_of : List Word → Option Piece
piece_of [] = None
piece_of (Plain word ∷ rest) =
    if bytes_eq word (codes "UNIT") then unit_of rest
    else (if bytes_eq word (codes "FIELD") then field_of rest
    else (if bytes_eq word (codes "END") && length rest == 0 then Some pieces.End
    else inner_of (label_in (Plain word ∷ rest)) (Plain word ∷ rest)))
piece_of (Literal bytes ∷ rest) = None
