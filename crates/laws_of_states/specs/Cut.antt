-- The cut of a trace: what was sent and what is stored, at some moment of a run.
use Rattle.std.specs.Prelude.{◌≡◌, ◌⊎◌, ℕ, List, ◌∷◌, ◌++◌, take, count_by}
use Rattle.kdcs_types.specs.declared.act.Act.{Act}
use Rattle.kdcs_types.specs.declared.act.Act.TheVariants.{Emit}
use Rattle.kdcs_types.specs.Tables.{TableRows}
use Rattle.abstract_monitor.specs.Bytes.{Bytes}
use Rattle.abstract_monitor.specs.Made.{is_commit}
use Rattle.abstract_monitor.specs.Trace.{tables_after, bytes_of}

-- how many commits are among some acts
abbrev pub commits_in : List Act → ℕ
commits_in acts = count_by is_commit acts

-- the bytes are those of the acts that are done, and perhaps a part of the line that is next
abbrev pub SentBy : List Act → List Act → Bytes → Type 0
SentBy done left out =
    (out ≡ bytes_of done) ⊎ ((line : Bytes) × (rest : List Act) × (left ≡ Emit line ∷ rest) × (n : ℕ) × (out ≡ bytes_of done ++ take n line))

-- some first acts of all were done, the image stands for the durable tables after them, and these bytes were sent
pub record IsCut (stands : TableRows → Bytes → Type 0) (start : TableRows) (all : List Act) (image out : Bytes) : Type 0 where
  pub done : List Act
  pub left : List Act
  pub whole : all ≡ done ++ left
  pub file : stands (tables_after start done) image
  pub bytes : SentBy done left out
