-- A device in memory of which no call fails, as contracts see it.
use Rattle.std.specs.Prelude.{ℕ, List}
use Rattle.kd_device.specs.Device.{State}
use Rattle.kd_device.specs.Recording.{Recording, seen, left_by}
use Rattle.kd_device.specs.Memory.{OfOne}

abbrev pub sure_state : Recording → State
sure_state r = seen 0 0 0 r

abbrev pub sure_leaves : Recording → ℕ → List ℕ → List ℕ → Type 0
sure_leaves r t c out = left_by (OfOne c) r t out
