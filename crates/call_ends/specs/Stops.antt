-- What a call over two copies leaves at a stop, and at its end, whatever its acts are.
use Rattle.std.specs.Prelude.{◌≡◌, ◌⊎◌, ℕ, List, ◌++◌, Option, Some}
use Rattle.kd_records.specs.Identity.{Identity}
use Rattle.kd_device.specs.Twin.{Both}
use Rattle.kd_device.specs.declared.half.Half.{Half}
use Rattle.kdcs_types.specs.declared.act.Act.{Act}
use Rattle.kdcs_types.specs.Tables.{TableRows}
use Rattle.abstract_monitor.specs.Trace.{bytes_of, tables_after}
use Rattle.laws_of_states.specs.Cut.{SentBy}
use Rattle.kdcfile_copies.specs.Beside.{file_of}
use Rattle.kdcfile_double.specs.Twice.{RoseAt}
use Rattle.twin_run.specs.Running.{CountsAs, IsCopyOfTables, IsLastCopy, with_copies}
use Rattle.call_parts.specs.LeavingTwo.{LeavesUnmadeTwo, WasBehind}

-- some first acts were done, with the lines of a half that was behind and of one on which a call failed; files have the tables after them, and these bytes were sent beyond those before
pub record IsCutOfTwo (keeps : TableRows → Type 0) (t : TableRows) (acts : List Act) (a b : Both) (out : List ℕ) : Type 0 where
  pub mended : Option Half
  pub mended_was : (half : Half) → mended ≡ Some half → WasBehind half a
  pub lost : Option Half
  pub lost_rose : (half : Half) → lost ≡ Some half → RoseAt half a b
  pub since : List ℕ
  pub more : out ≡ a.sent ++ since
  pub done : List Act
  pub left : List Act
  pub whole : with_copies mended acts lost ≡ done ++ left
  pub files : keeps (tables_after t done)
  pub bytes : SentBy done left since

-- what was sent and the copy that counts are a cut of the acts; and where a byte was sent, so is each half by itself on which no call failed
pub record IsStopOfRun (i : Identity) (t : TableRows) (acts : List Act) (a b : Both) (c d out : List ℕ) : Type 0 where
  pub pair : IsCutOfTwo (λ u. CountsAs i u c d) t acts a b out ⊎ LeavesUnmadeTwo a c d out
  pub alone : (half : Half) → (out ≡ a.sent → ⊥) → (RoseAt half a b → ⊥) → IsCutOfTwo (λ u. IsCopyOfTables i u (file_of half c d)) t acts a b out

-- all was done: the lines of the acts were sent with those of the copies, and each half that is not lost has the last copy; and whatever files a stop leaves of both, the copy that counts has the last tables
pub record RanTwo (i : Identity) (t : TableRows) (acts : List Act) (a b : Both) (lb : ℕ → List ℕ → List ℕ → List ℕ → Type 0) : Type 0 where
  pub mended : Option Half
  pub mended_was : (half : Half) → mended ≡ Some half → WasBehind half a
  pub lost : Option Half
  pub lost_rose : (half : Half) → lost ≡ Some half → RoseAt half a b
  pub mended_all : (half : Half) → WasBehind half a → (mended ≡ Some half) ⊎ (lost ≡ Some half)
  pub sent : b.sent ≡ a.sent ++ bytes_of (with_copies mended acts lost)
  pub counts : CountsAs i (tables_after t acts) b.first.holds b.second.holds
  pub counts_after : (c d : List ℕ) → lb b.moment c d b.sent → CountsAs i (tables_after t acts) c d
  pub copies : (half : Half) → (lost ≡ Some half) ⊎ IsLastCopy i half (tables_after t acts) a b lb
