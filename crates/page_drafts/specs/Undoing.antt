-- A table that is changed where it stands, with what takes the changes back, the last one first.
use Rattle.std.proofs.Common.{ℕ, ◌-◌, ◌<◌, cond, List, [], ◌∷◌, ◌++◌, take, length, Option, Some, None}
use Rattle.std.specs.Prelude.{All, set, is_some}
use Rattle.std.specs.List.{flat_map}
use Rattle.std.specs.FinMap.{find, put}
use Rattle.kd_records.specs.declared.key.RecordKey.{RecordKey}
use Rattle.kd_records.specs.Keys.{key_cmp}
use Rattle.kdcfile_layout.specs.declared.chain.Chain.{Chain}
use Rattle.page_drafts.specs.declared.parts.TableParts.{TableParts}
use Rattle.page_drafts.specs.declared.parts.Undo.{Undo}
use Rattle.page_drafts.specs.declared.parts.Undo.TheVariants.{Added, Replaced, Removed}
use Rattle.page_drafts.specs.Tables.{Index, Parts, IsIndexed, without}

-- the slots as they are now, and as they were before
pub record Changing : Type 0 where
  pub slots : List (Option Chain)
  pub before : List (Option Chain)

abbrev pub parts_of : TableParts → Parts
parts_of t = record { slots = t.slots.items; index = t.index; free = t.free.items }

-- where the change was
abbrev pub place_of : Undo → ℕ
place_of (Added s k was) = s
place_of (Replaced s c) = s
place_of (Removed s c) = s

-- the index where the key has its old place again, or none
abbrev pub reverted : RecordKey → Option ℕ → Index → Index
reverted k None index = without k index
reverted k (Some s) index = cond (is_some (find key_cmp k index)) (put key_cmp k s index) index

-- the table before a change
abbrev pub undone : Undo → Parts → Parts
undone (Added s k was) t = record { slots = set t.slots s None; index = reverted k was t.index; free = t.free ++ s ∷ [] }
undone (Replaced s c) t = record t { slots = set t.slots s (Some c) }
undone (Removed s c) t = record t { slots = set t.slots s (Some c); free = take (length t.free - 1) t.free }

-- the table before all changes
abbrev pub undone_all : List Undo → Parts → Parts
undone_all [] t = t
undone_all (u ∷ undo) t = undone u (undone_all undo t)

-- the keys of the records that were removed
abbrev pub gone_by : Undo → List RecordKey
gone_by (Added s k was) = []
gone_by (Replaced s c) = []
gone_by (Removed s c) = c.key ∷ []

abbrev pub gone_keys : List Undo → List RecordKey
gone_keys undo = flat_map gone_by undo

-- the index has besides at most the keys of removed records, and has none of them before all changes
pub record IsChanging (t : Parts) (undo : List Undo) : Type 0 where
  pub indexed : IsIndexed t (gone_keys undo)
  pub before : IsIndexed (undone_all undo t) []
  pub places : All (λ (u : Undo). place_of u < length t.slots) undo
