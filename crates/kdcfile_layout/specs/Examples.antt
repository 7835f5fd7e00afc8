-- Worked rows: the slot of the GSSB CNT at page 1, the head of its page, and sizes of a small file.
use Rattle.std.specs.Prelude.{[], ◌∷◌, ◌≡◌, ◌^◌, ◌-◌, Some}
use Rattle.kd_records.specs.declared.key.RecordKey.{RecordKey}
use Rattle.kdcfile_layout.specs.Layout.{spelled_slot, chain_head, page_place, directory_pages, page_count}

abbrev pub cnt : RecordKey
cnt = record { kind = 1; bytes = 67 ∷ 78 ∷ 84 ∷ 32 ∷ 32 ∷ 32 ∷ 32 ∷ 32 ∷ 0 ∷ 0 ∷ 0 ∷ 0 ∷ 0 ∷ 0 ∷ 0 ∷ 0 ∷ 0 ∷ 0 ∷ 0 ∷ 0 ∷ 0 ∷ 0 ∷ 0 ∷ 0 ∷ [] }

-- what was worked out by hand
pub record WorkedRows : Type 0 where
  pub slot_at_page_1 : spelled_slot (Some (record { key = cnt; pages = 1 ∷ [] })) ≡ 1 ∷ 67 ∷ 78 ∷ 84 ∷ 32 ∷ 32 ∷ 32 ∷ 32 ∷ 32 ∷ 0 ∷ 0 ∷ 0 ∷ 0 ∷ 0 ∷ 0 ∷ 0 ∷ 0 ∷ 0 ∷ 0 ∷ 0 ∷ 0 ∷ 0 ∷ 0 ∷ 0 ∷ 0 ∷ 0 ∷ 0 ∷ 0 ∷ 1 ∷ 0 ∷ 0 ∷ 0 ∷ []
  pub head_of_four_bytes : chain_head cnt 4 0 (2 ^ 32 - 1) ≡ 1 ∷ 67 ∷ 78 ∷ 84 ∷ 32 ∷ 32 ∷ 32 ∷ 32 ∷ 32 ∷ 0 ∷ 0 ∷ 0 ∷ 0 ∷ 0 ∷ 0 ∷ 0 ∷ 0 ∷ 0 ∷ 0 ∷ 0 ∷ 0 ∷ 0 ∷ 0 ∷ 0 ∷ 0 ∷ 0 ∷ 0 ∷ 0 ∷ 4 ∷ 0 ∷ 0 ∷ 0 ∷ 0 ∷ 255 ∷ 255 ∷ 255 ∷ 255 ∷ 0 ∷ 0 ∷ 0 ∷ 0 ∷ 0 ∷ 0 ∷ 0 ∷ 0 ∷ 0 ∷ 0 ∷ 0 ∷ []
  pub one_directory_page : directory_pages 2048 16 ≡ 1
  pub pages_of_small : page_count 2048 16 ≡ 34
  pub first_page : page_place 2048 0 ≡ 24576
