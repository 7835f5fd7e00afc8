-- Worked rows.
use Rattle.std.specs.Prelude.{◌≡◌, ℕ, List, [], ◌∷◌, ◌++◌, map, codes, replicate, Some, None, Ok, Err}
use Rattle.kdcs_types.specs.declared.act.Change.TheVariants.{Set, Remove}
use Rattle.kdcs_types.specs.declared.act.Row.TheVariants as row
use Rattle.kdcs_types.specs.declared.call.Cause.TheVariants.{E08}
use Rattle.kdcs_types.specs.declared.call.Code.TheVariants.{K05}
use Rattle.kdcs_types.specs.declared.key.Area.TheVariants as area
use Rattle.kdcs_types.specs.declared.key.Key.TheVariants as key
use Rattle.kdcs_types.specs.declared.key.ServiceId.TheVariants.{Dialogue}
use Rattle.kdcs_types.specs.declared.service.Ending.TheVariants.{Broken}
use Rattle.kdcs_types.specs.declared.service.Note.TheVariants.{Released, Refused}
use Rattle.kdcs_types.specs.declared.service.Settled.{Settled}
use Rattle.kdcs_types.specs.Tables.{empty_tables}
use Rattle.record_codec.specs.TableReadings.{changes_of}
use Rattle.audit_trail.specs.declared.entry.By.TheVariants as made
use Rattle.audit_trail.specs.declared.entry.TrailEntry.{TrailEntry}
use Rattle.audit_trail.specs.declared.fault.TrailFault.TheVariants.{BadLine}
use Rattle.audit_trail.specs.declared.line.Line.TheVariants as says
use Rattle.audit_trail.specs.Kept.{kept_bytes}
use Rattle.audit_trail.specs.KeptReadings.{kept_read}
use Rattle.audit_trail.specs.Lines.{line_in}
use Rattle.audit_trail.specs.Places.{trail_in, trail_of, entry_of}
use Rattle.audit_trail.specs.Printed.{trail_text}

-- ---- a trail of TICK 5 on empty tables

abbrev pub zeros : List ℕ
zeros = replicate 32 0

abbrev pub tick_of_five : List TrailEntry
tick_of_five = entry_of (made.Tick 5) (changes_of 5 1 []) ∷ []

abbrev pub unended : List ℕ
unended = codes "TRAIL " ++ (replicate 64 48 ++ codes "\nSTART 0 1\nN 5\nC 5 1\n")

pub record TrailRows : Type 0 where
  pub text : trail_text zeros empty_tables tick_of_five ≡ unended ++ codes "END\n"
  pub read : trail_in (unended ++ codes "END\n") ≡ Ok (trail_of zeros empty_tables tick_of_five)
  -- the last line may lack its end
  pub last : trail_in (unended ++ codes "END") ≡ Ok (trail_of zeros empty_tables tick_of_five)
  pub without_end : trail_in unended ≡ Err (BadLine 5)
  pub behind_end : trail_in (unended ++ codes "END\n\n") ≡ Err (BadLine 6)
  pub without_changes : trail_in (unended ++ codes "N 1\nEND\n") ≡ Err (BadLine 6)
  pub empty : trail_in [] ≡ Err (BadLine 1)

-- ---- lines

-- the key of the GSSB A, in hexadecimal
abbrev pub key_of_a : List ℕ
key_of_a = codes "4120202020202020" ++ replicate 32 48

abbrev pub LineRows : Type 0
LineRows =
    map line_in (
    codes "N 007"
    ∷ codes "N 1234567890123456789"
    ∷ codes "N  7"
    ∷ codes "N 7 "
    ∷ codes "n 7"
    ∷ codes "O L1"
    ∷ codes "START 0 1"
    ∷ codes "C 5"
    ∷ (codes "S 1 " ++ key_of_a ++ codes " 3031")
    ∷ (codes "S 01 " ++ key_of_a ++ codes " -")
    ∷ (codes "S 1 " ++ key_of_a ++ codes " ")
    ∷ (codes "S 1 " ++ key_of_a ++ codes " 303")
    ∷ (codes "S 1 " ++ key_of_a ++ codes " 4A")
    ∷ (codes "S 7 " ++ key_of_a ++ codes " 3031")
    ∷ (codes "S 5 " ++ key_of_a ++ codes " 3031")
    ∷ (codes "D 1 " ++ key_of_a)
    ∷ codes "D 1 41"
    ∷ codes "END"
    ∷ codes "END "
    ∷ [])
    ≡ Some (says.Made (made.Tick 7))
    ∷ None
    ∷ None
    ∷ None
    ∷ None
    ∷ Some (says.Made (made.Shown (codes "L1")))
    ∷ Some (says.Start 0 1)
    ∷ None
    ∷ Some (says.Change (Set (row.Gssb (codes "A") (codes "01"))))
    ∷ Some (says.Change (Set (row.Gssb (codes "A") [])))
    ∷ None
    ∷ None
    ∷ None
    ∷ None
    ∷ None
    ∷ Some (says.Change (Remove (key.Gssb (codes "A"))))
    ∷ None
    ∷ Some says.End
    ∷ None
    ∷ []

-- ---- what a transaction kept

-- a first transaction of the user U1, which released the GSSB A and was refused the GSSB B, and broke
abbrev pub kept : Settled
kept = record {
  service = Dialogue (codes "U1");
  began = None;
  inputs = codes "UNL" ∷ codes "L1" ∷ [];
  notes = Released (area.Gssb (codes "A")) (Some (codes "7")) ∷ Refused (area.Gssb (codes "B")) K05 ∷ [];
  statements = 9;
  ending = Broken E08;
}

pub record KeptRows : Type 0 where
  pub begin : kept_bytes kept ≡ codes "DU1      " ++ replicate 15 0 ++ 0 ∷ replicate 7 0 ++ 2 ∷ 0 ∷ 0 ∷ 0 ∷ 3 ∷ codes "UNL" ++ 0 ∷ 0 ∷ 0 ∷ 2 ∷ codes "L1" ++ replicate 7 0 ++ 2 ∷ 1 ∷ 1 ∷ codes "A       " ++ replicate 16 0 ++ 1 ∷ 0 ∷ 0 ∷ 0 ∷ 1 ∷ codes "7" ++ 2 ∷ 1 ∷ codes "B       " ++ replicate 16 0 ++ 5 ∷ replicate 7 0 ++ 9 ∷ 8 ∷ []
  pub read : kept_read (kept_bytes kept) ≡ Some kept
  -- one byte more
  pub longer : kept_read (kept_bytes kept ++ 0 ∷ []) ≡ None
