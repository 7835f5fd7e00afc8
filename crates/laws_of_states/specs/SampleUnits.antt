-- The program units of the sample application SHOP.
use Rattle.std.specs.Prelude.{ℕ, Bool, true, false, List, [], ◌∷◌, Some, None, codes}
use Rattle.kd_base.specs.declared.words.Mode.TheVariants.{Relative}
use Rattle.kd_base.specs.declared.words.Variant.TheVariants.{Kp, Pa, Re, Sp, Fi, Fc, Er, Rs}
use Rattle.application_types.specs.declared.unit_types.action.Action.{Action}
use Rattle.application_types.specs.declared.unit_types.action.Action.TheVariants.{Move, Join, Add, If, Jump, Init, Mget, Mput, Fget, Fput, Dput, SgetGb, SputGb, SgetKp, SputMs, SputUs, Gtda, Ptda}
use Rattle.application_types.specs.declared.unit_types.action.Action.TheVariants.{UnlkGb, Pend}
use Rattle.application_types.specs.declared.unit_types.action.HeaderName.TheVariants.{Crccc}
use Rattle.application_types.specs.declared.unit_types.action.Operand.TheVariants.{Field as FieldOf, Literal, Digits, Header, Trim}
use Rattle.application_types.specs.declared.unit_types.action.Relation.TheVariants.{Ne}
use Rattle.application_types.specs.declared.unit_types.action.UnitStatement.{UnitStatement}
use Rattle.application_types.specs.declared.unit_types.unit.Field.{Field}
use Rattle.application_types.specs.UnitText.{UnitText}
use Rattle.abstract_monitor.specs.Made.{from_line}

abbrev pub unit : List ℕ → ℕ → List Field → List (List ℕ × ℕ) → List UnitStatement → UnitText
unit name line fields labels statements = record { name = name; line = line; fields = fields; labels = labels; statements = statements }

-- the line, the name, whether it is in SPAB, its offset and its length
abbrev pub field : ℕ → List ℕ → Bool → ℕ → ℕ → Field
field line name spab offset length = record { name = name; line = line; spab = spab; offset = offset; length = length }

-- the line and the action
abbrev pub at : ℕ → Action → UnitStatement
at line action = record { line = line; action = action }

abbrev pub hello_unit : UnitText
hello_unit = unit (codes "HELLO") 1 [] [] (from_line 2 (Init ∷ Mput (Literal (codes "HELLO")) ∷ Pend Fi None ∷ []))

-- in the order of their UNIT lines, HELLO apart
abbrev pub other_units : List UnitText
other_units =
    unit (codes "ORD1") 6 (field 7 (codes "item") false 0 8 ∷ []) []
    (from_line 8 (Init ∷ Mget (codes "item") ∷ Mput (Literal (codes "QTY")) ∷ Pend Re (Some (Literal (codes "ORD2"))) ∷ []))
    ∷ unit (codes "ORD2") 13 (field 14 (codes "item") false 0 8 ∷ field 15 (codes "qty") true 0 8 ∷ field 16 (codes "ans") true 8 24 ∷ []) []
    (from_line 17 (Init ∷ Mget (codes "qty") ∷ Join (codes "ans") (Trim (codes "item")) (Trim (codes "qty")) ∷ Mput (Trim (codes "ans")) ∷ Pend Fi None ∷ []))
    ∷ unit (codes "ADD1") 23 (field 24 (codes "n") true 0 4 ∷ []) []
    (from_line 25 (Init ∷ SgetGb (Literal (codes "CNT")) (codes "n") ∷ Add (codes "n") (Digits (codes "1")) ∷ SputGb (Literal (codes "CNT")) (FieldOf (codes "n"))
    ∷ Mput (FieldOf (codes "n")) ∷ Pend Fi None ∷ []))
    ∷ unit (codes "CROSS1") 32 (field 33 (codes "v") true 0 8 ∷ []) []
    (from_line 34 (Init ∷ SgetGb (Literal (codes "A")) (codes "v") ∷ SgetGb (Literal (codes "B")) (codes "v") ∷ Mput (Header Crccc) ∷ Pend Fi None ∷ []))
    ∷ unit (codes "CROSS2") 40 (field 41 (codes "v") true 0 8 ∷ []) []
    (from_line 42 (Init ∷ SgetGb (Literal (codes "B")) (codes "v") ∷ SgetGb (Literal (codes "A")) (codes "v") ∷ Mput (Header Crccc) ∷ Pend Fi None ∷ []))
    ∷ unit (codes "HOLD") 48 (field 49 (codes "v") true 0 8 ∷ []) []
    (from_line 50 (Init ∷ SgetGb (Literal (codes "A")) (codes "v") ∷ Mput (Literal (codes "HELD")) ∷ Pend Kp (Some (Literal (codes "HOLD2"))) ∷ []))
    ∷ unit (codes "HOLD2") 55 [] [] (from_line 56 (Init ∷ Mput (Literal (codes "FREE")) ∷ Pend Fi None ∷ []))
    ∷ unit (codes "SEEK") 60 (field 61 (codes "v") true 0 8 ∷ []) []
    (from_line 62 (Init ∷ SgetGb (Literal (codes "A")) (codes "v") ∷ Mput (Header Crccc) ∷ Pend Fi None ∷ []))
    ∷ unit (codes "UNL") 67 (field 68 (codes "n") true 0 4 ∷ []) []
    (from_line 69 (Init ∷ SgetGb (Literal (codes "CNT")) (codes "n") ∷ UnlkGb (Literal (codes "CNT")) ∷ SputGb (Literal (codes "LOG")) (FieldOf (codes "n"))
    ∷ UnlkGb (Literal (codes "LOG")) ∷ Mput (Header Crccc) ∷ Pend Fi None ∷ []))
    ∷ unit (codes "NOMSG") 77 [] [] (from_line 78 (Init ∷ Pend Fi None ∷ []))
    ∷ unit (codes "NOINIT") 81 [] [] (from_line 82 (Mput (Literal (codes "X")) ∷ Pend Fi None ∷ []))
    ∷ unit (codes "LOOP") 85 [] ((codes "again", 2) ∷ []) (at 86 Init ∷ from_line 88 (Jump (codes "again") ∷ []))
    ∷ unit (codes "FCA") 90 (field 91 (codes "k") false 0 4 ∷ []) []
    (from_line 92 (Init ∷ Move (codes "k") (Literal (codes "OLD")) ∷ SputMs (Literal (codes "L1")) (Literal (codes "X")) ∷ Mput (Literal (codes "PASS"))
    ∷ Pend Fc (Some (Literal (codes "FCB"))) ∷ []))
    ∷ unit (codes "FCB") 98 (field 99 (codes "k") false 0 4 ∷ field 100 (codes "m") true 0 8 ∷ field 101 (codes "w") true 8 8 ∷ field 102 (codes "a") true 16 24 ∷ []) []
    (from_line 103 (Init ∷ Mget (codes "m") ∷ SgetKp (Literal (codes "L1")) (codes "w") ∷ Join (codes "a") (Trim (codes "m")) (Header Crccc)
    ∷ Join (codes "a") (Trim (codes "a")) (Trim (codes "k")) ∷ Mput (Trim (codes "a")) ∷ Pend Fi None ∷ []))
    ∷ unit (codes "RSA") 111 [] [] (from_line 112 (Init ∷ SputGb (Literal (codes "CNT")) (Literal (codes "0009")) ∷ Pend Rs None ∷ []))
    ∷ unit (codes "RSB1") 116 [] [] (from_line 117 (Init ∷ Mput (Literal (codes "ASK")) ∷ Pend Re (Some (Literal (codes "RSB2"))) ∷ []))
    ∷ unit (codes "RSB2") 121 [] [] (from_line 122 (Init ∷ Pend Rs None ∷ []))
    ∷ unit (codes "FER") 125 [] [] (from_line 126 (Init ∷ Fput (Literal (codes "L2")) (Literal (codes "NOTE")) ∷ Pend Er None ∷ []))
    ∷ unit (codes "FSP") 130 [] []
    (from_line 131 (Init ∷ Fput (Literal (codes "L2")) (Literal (codes "NOTE")) ∷ Pend Sp (Some (Literal (codes "FSP2"))) ∷ []))
    ∷ unit (codes "FSP2") 135 [] [] (from_line 136 (Init ∷ Pend Er None ∷ []))
    ∷ unit (codes "JOB1") 139 (field 140 (codes "n") true 0 4 ∷ []) []
    (from_line 141 (Init ∷ Fget (codes "n") ∷ SputGb (Literal (codes "CNT")) (FieldOf (codes "n")) ∷ Pend Fi None ∷ []))
    ∷ unit (codes "MAKEJ") 146 [] []
    (from_line 147 (Init ∷ Fput (Literal (codes "JOB1")) (Literal (codes "0007")) ∷ Mput (Literal (codes "MADE")) ∷ Pend Fi None ∷ []))
    ∷ unit (codes "DP") 152 [] []
    (from_line 153 (Init
    ∷ Dput (Literal (codes "L2")) Relative (Digits (codes "0")) (Digits (codes "0")) (Digits (codes "0")) (Digits (codes "10")) (Literal (codes "TEN"))
    ∷ Dput (Literal (codes "L2")) Relative (Digits (codes "0")) (Digits (codes "0")) (Digits (codes "0")) (Digits (codes "0")) (Literal (codes "NOW"))
    ∷ Dput (Literal (codes "L2")) Relative (Digits (codes "0")) (Digits (codes "0")) (Digits (codes "0")) (Digits (codes "10")) (Literal (codes "TWO"))
    ∷ Mput (Literal (codes "DONE")) ∷ Pend Fi None ∷ []))
    ∷ unit (codes "FILL") 160 (field 161 (codes "c") true 0 2 ∷ []) ((codes "again", 2) ∷ [])
    (at 162 Init ∷ from_line 164 (Fput (Literal (codes "L2")) (Literal (codes "X")) ∷ Add (codes "c") (Digits (codes "1"))
    ∷ If (FieldOf (codes "c")) Ne (Literal (codes "16")) (codes "again") ∷ Mput (Literal (codes "FULL")) ∷ Pend Fi None ∷ []))
    ∷ unit (codes "R1") 170 [] [] (from_line 171 (Init ∷ Mput (Literal (codes "ONE")) ∷ Pend Re (Some (Literal (codes "R2"))) ∷ []))
    ∷ unit (codes "R2") 175 [] []
    (from_line 176 (Init ∷ SputGb (Literal (codes "CNT")) (Literal (codes "0005")) ∷ Mput (Literal (codes "TWO")) ∷ Pend Kp (Some (Literal (codes "R3"))) ∷ []))
    ∷ unit (codes "R3") 181 [] [] (from_line 182 (Init ∷ Mput (Literal (codes "END")) ∷ Pend Fi None ∷ []))
    ∷ unit (codes "TLU") 186 (field 187 (codes "v") true 0 8 ∷ []) []
    (from_line 188 (Init ∷ Ptda (Literal (codes "T1")) (Literal (codes "AB")) ∷ SputUs (Literal (codes "S1")) (Literal (codes "CD"))
    ∷ Gtda (Literal (codes "T9")) (codes "v") ∷ Mput (Header Crccc) ∷ Pend Fi None ∷ []))
    ∷ unit (codes "TOPRT") 195 [] []
    (from_line 196 (Init ∷ Fput (Literal (codes "L3")) (Literal (codes "PAPER")) ∷ Mput (Literal (codes "OK")) ∷ Pend Fi None ∷ []))
    ∷ unit (codes "PRA") 201 [] [] (from_line 202 (Init ∷ Mput (Literal (codes "ONE")) ∷ Pend Pa (Some (Literal (codes "PRB"))) ∷ []))
    ∷ unit (codes "PRB") 206 (field 207 (codes "v") true 0 8 ∷ []) []
    (from_line 208 (Init ∷ Mget (codes "v") ∷ Mput (Trim (codes "v")) ∷ Mput (Literal (codes "TWO")) ∷ Pend Fi None ∷ []))
    ∷ []
