-- What contracts see of a message area.
use Rattle.std.specs.Prelude.{ℕ, List}
use Rattle.abstract_monitor.specs.Bytes.{Bytes}

-- the parts that are still to be read, the parts put, and how many bytes these may have together
pub record MessageParts : Type 0 where
  pub unread : List Bytes
  pub parts : List Bytes
  pub nb : ℕ
