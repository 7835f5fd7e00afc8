-- What is seen of a device, a twin and a room that tell nothing of their content: counts.
use Rattle.std.specs.Prelude.{ℕ, false, []}
use Rattle.kd_device.specs.Device.{State}
use Rattle.kd_device.specs.Room.{RoomState}
use Rattle.kd_device.specs.Twin.{Both, no_disk, untold}

pub record Counts : Type 0 where
  pub disk_faults : ℕ
  pub line_faults : ℕ
  pub spare_calls : ℕ
  pub spare_bytes : ℕ
  pub spare_end : ℕ

-- a device with these counts
abbrev pub device_of : Counts → State
device_of c = record {
  told = false;
  holds = [];
  sent = [];
  put = 0;
  names = [];
  disk_faults = c.disk_faults;
  line_faults = c.line_faults;
  moment = 0;
  spare_calls = c.spare_calls;
  spare_bytes = c.spare_bytes;
  spare_end = c.spare_end;
}

pub record TwinCounts : Type 0 where
  pub first_faults : ℕ
  pub second_faults : ℕ
  pub line_faults : ℕ
  pub spare_calls : ℕ
  pub spare_bytes : ℕ
  pub spare_end : ℕ

-- a twin with these counts
abbrev pub both_of : TwinCounts → Both
both_of c = record untold {
  first = record no_disk { disk_faults = c.first_faults };
  second = record no_disk { disk_faults = c.second_faults };
  line_faults = c.line_faults;
  spare_calls = c.spare_calls;
  spare_bytes = c.spare_bytes;
  spare_end = c.spare_end;
}

-- a room with so many faults
abbrev pub room_of : ℕ → RoomState
room_of faults = record { told = false; texts = []; sure = false; faults = faults }
