-- Names, numbers and operands, one word each.
use Rattle.std.specs.Prelude.{ℕ, ◌-◌, Bool, ◌&&◌, ◌||◌, ◌==◌, nat_le, List, length, take, drop, Option, Some, None, if◌then◌else◌, codes, bytes_eq}
use Rattle.std.specs.List.{list_all}
use Rattle.kd_base.specs.Limits.{longest_content}
use Rattle.kd_base.specs.declared.words.Mode.{Mode}
use Rattle.kd_base.specs.declared.words.Mode.TheVariants.{Relative, Absolute}
use Rattle.kd_base.specs.Fronts.{begins}
use Rattle.kd_base.specs.Text.{is_between, is_digit}
use Rattle.application_types.specs.declared.unit_types.action.HeaderName.{HeaderName}
use Rattle.application_types.specs.declared.unit_types.action.HeaderName.TheVariants.{Benid, Logter, Tacvg, Tacal, Crccc, Rlm}
use Rattle.application_types.specs.declared.unit_types.action.Operand.{Operand}
use Rattle.application_types.specs.declared.unit_types.action.Operand.TheVariants as operands
use Rattle.application_types.specs.declared.unit_types.action.Relation.{Relation}
use Rattle.application_types.specs.declared.unit_types.action.Relation.TheVariants.{Eq, Ne, Lt, Gt}
use Rattle.unit_read.specs.declared.word.Word.{Word}
use Rattle.unit_read.specs.declared.word.Word.TheVariants.{Plain, Literal}

abbrev pub is_letter : ℕ → Bool
is_letter b = is_between 65 90 b || is_between 97 122 b

abbrev pub is_name_byte : ℕ → Bool
is_name_byte b = is_letter b || is_digit b || b == 95

-- the form of a field's or a label's name: 1 to 16 letters, digits and `_`, the first a letter
abbrev pub is_name : List ℕ → Bool
is_name bytes = nat_le (length bytes) 16 && begins is_letter bytes && list_all is_name_byte bytes

-- 1 to 18 digits
abbrev pub are_digits : List ℕ → Bool
are_digits bytes = nat_le 1 (length bytes) && nat_le (length bytes) 18 && list_all is_digit bytes

abbrev pub name_of : Word → Option (List ℕ)
name_of (Plain bytes) = if is_name bytes then Some bytes else None
name_of (Literal bytes) = None

abbrev pub header_of : List ℕ → Option HeaderName
header_of name =
    if bytes_eq name (codes "KCBENID") then Some Benid
    else (if bytes_eq name (codes "KCLOGTER") then Some Logter
    else (if bytes_eq name (codes "KCTACVG") then Some Tacvg
    else (if bytes_eq name (codes "KCTACAL") then Some Tacal
    else (if bytes_eq name (codes "KCRCCC") then Some Crccc
    else (if bytes_eq name (codes "KCRLM") then Some Rlm else None)))))

-- what is between `TRIM(` and `)`
abbrev pub in_trim : List ℕ → Option (List ℕ)
in_trim word =
    if nat_le 6 (length word) && bytes_eq (take 5 word) (codes "TRIM(") && bytes_eq (drop (length word - 6) (drop 5 word)) (codes ")")
    then Some (take (length word - 6) (drop 5 word)) else None

abbrev pub trim_operand : Option (List ℕ) → Option Operand
trim_operand None = None
trim_operand (Some name) = if is_name name then Some (operands.Trim name) else None

abbrev pub named_operand : Option HeaderName → List ℕ → Option Operand
named_operand None name = Some (operands.Field name)
named_operand (Some header) name = Some (operands.Header header)

abbrev pub plain_operand : List ℕ → Option Operand
plain_operand word =
    if is_name word then named_operand (header_of word) word
    else (if are_digits word then Some (operands.Digits word)
    else trim_operand (in_trim word))

abbrev pub operand_of : Word → Option Operand
operand_of (Plain word) = plain_operand word
operand_of (Literal bytes) = if nat_le (length bytes) longest_content then Some (operands.Literal bytes) else None

abbrev pub relation_of : Word → Option Relation
relation_of (Plain word) =
    if bytes_eq word (codes "EQ") then Some Eq
    else (if bytes_eq word (codes "NE") then Some Ne
    else (if bytes_eq word (codes "LT") then Some Lt
    else (if bytes_eq word (codes "GT") then Some Gt else None)))
relation_of (Literal bytes) = None

abbrev pub mode_of : Word → Option Mode
mode_of (Plain word) =
    if bytes_eq word (codes "R") then Some Relative
    else (if bytes_eq word (codes "A") then Some Absolute else None)
mode_of (Literal bytes) = None
