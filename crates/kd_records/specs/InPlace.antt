-- A content that is changed where it stands, with what takes the changes back.
use Rattle.std.specs.Prelude.{List, [], ◌∷◌}
use Rattle.kd_records.specs.declared.content.Content.{Content}
use Rattle.kd_records.specs.Contents.{Record, Change, changed}

-- a content as it is now, and as it was before
pub record Patching : Type 0 where
  pub content : Content
  pub before : Content

-- the records before some changes, each of which is taken back by what its key had, the last one first
abbrev pub undone : List Change → List Record → List Record
undone [] records = records
undone (c ∷ changes) records = changed (undone changes records) c
