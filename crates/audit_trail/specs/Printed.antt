-- The text of a trail.
use Rattle.std.specs.Prelude.{ℕ, List, [], ◌∷◌, ◌++◌, flat_map, codes, decimal, Some, None}
use Rattle.hex.specs.Hex.{encode_lower}
use Rattle.kd_records.specs.Contents.{Record, Change as RecordChange}
use Rattle.kdcs_types.specs.declared.act.Changes.{Changes}
use Rattle.kdcs_types.specs.Tables.{TableRows}
use Rattle.record_codec.specs.Records.{content_of_tables, patch_of}
use Rattle.audit_trail.specs.declared.entry.By.{By}
use Rattle.audit_trail.specs.declared.entry.By.TheVariants.{Tick, Shown, Transaction}
use Rattle.audit_trail.specs.declared.entry.TrailEntry.{TrailEntry}
use Rattle.audit_trail.specs.Kept.{kept_bytes}

-- a keyword and words, parted by one space, and LF
abbrev pub line : List ℕ → List (List ℕ) → List ℕ
line keyword words = keyword ++ (flat_map (λ (word : List ℕ). 32 ∷ word) words ++ 10 ∷ [])

-- two digits for each byte, or `-` for none
abbrev pub value_word : List ℕ → List ℕ
value_word [] = codes "-"
value_word (b ∷ bytes) = encode_lower (b ∷ bytes)

-- a record that is set or removed
abbrev pub change_line : RecordChange → List ℕ
change_line (k, Some value) = line (codes "S") (decimal k.kind ∷ encode_lower k.bytes ∷ value_word value ∷ [])
change_line (k, None) = line (codes "D") (decimal k.kind ∷ encode_lower k.bytes ∷ [])

abbrev pub set_line : Record → List ℕ
set_line r = change_line (r.0, Some r.1)

-- the tables at the start, by their records
abbrev pub tables_lines : TableRows → List ℕ
tables_lines t = line (codes "START") (decimal t.clock ∷ decimal t.next_job ∷ []) ++ flat_map set_line (content_of_tables t).items

-- the changes, by those of the records
abbrev pub changes_lines : Changes → List ℕ
changes_lines c = line (codes "C") (decimal c.clock ∷ decimal c.next_job ∷ []) ++ flat_map change_line (patch_of c).items

-- what made the commit
abbrev pub by_line : By → List ℕ
by_line (Tick ticks) = line (codes "N") (decimal ticks ∷ [])
by_line (Shown lterm) = line (codes "O") (lterm ∷ [])
by_line (Transaction kept) = line (codes "T") (encode_lower (kept_bytes kept) ∷ [])

abbrev pub entry_lines : TrailEntry → List ℕ
entry_lines e = by_line e.by ++ changes_lines e.changes

-- the fingerprint, and the tables at the start
abbrev pub head_lines : List ℕ → TableRows → List ℕ
head_lines fingerprint t = line (codes "TRAIL") (encode_lower fingerprint ∷ []) ++ tables_lines t

abbrev pub end_line : List ℕ
end_line = line (codes "END") []

-- the trail of a run that began with these tables and made these entries
abbrev pub trail_text : List ℕ → TableRows → List TrailEntry → List ℕ
trail_text fingerprint start entries = head_lines fingerprint start ++ (flat_map entry_lines entries ++ end_line)
