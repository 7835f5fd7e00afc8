-- Writes to a range of the file, and what a stop leaves of them.
use Rattle.std.specs.Prelude.{◌≡◌, ◌≤◌, ◌+◌, ℕ, min, List, length}
use Rattle.kd_device.specs.Device.{State, LeavesOnly, Only, Torn}

-- so many calls of so many bytes together were made of what was spare
pub record UsesAll (k n : ℕ) (a b : State) : Type 0 where
  pub calls : b.spare_calls + k ≡ a.spare_calls
  pub bytes : b.spare_bytes + n ≡ a.spare_bytes
  pub end : b.spare_end ≡ a.spare_end

-- from a to b at most n bytes were written, all between these places
pub record WritesOnly (from upto n : ℕ) (a b : State) (la lb : ℕ → List ℕ → List ℕ → Type 0) : Type 0 where
  pub sent : b.sent ≡ a.sent
  pub put : b.put ≤ a.put + n
  pub leaves : LeavesOnly a b la lb (λ c out. (out ≡ a.sent) × Torn (min from (length a.holds)) upto a.holds c)  -- a stop leaves any bytes there

-- the file is `new` after n bytes were written, and on the disk
pub record IsSynced (n : ℕ) (new : List ℕ) (a b : State) (lb : ℕ → List ℕ → List ℕ → Type 0) : Type 0 where
  pub holds : b.holds ≡ new
  pub put : b.put ≡ a.put + n
  pub at_rest : Only new b lb  -- a stop now leaves this file
