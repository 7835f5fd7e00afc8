-- Worked texts.
use Rattle.std.specs.Prelude.{◌≡◌, ◌++◌, flat_map, codes}
use Rattle.abstract_monitor.specs.Bytes.{Bytes}
use Rattle.abstract_monitor.specs.Made.{made_round}
use Rattle.call_parts.specs.MadeTexts.{command_line, script_text}

-- the four users sign on
abbrev pub signed_on : Bytes
signed_on = codes "IN P1 KDCSIGN U1\nIN P2 KDCSIGN U2\nIN P3 KDCSIGN U3\nIN P4 KDCSIGN U4\n"

pub record ScriptRows : Type 0 where
  -- a run follows the last input
  pub one : script_text 1 ≡ signed_on ++ codes "IN P1 ADD 1\nRUN 100\n"
  pub two : script_text 2 ≡ signed_on ++ codes "IN P1 ADD 1\nIN P2 ADD 2\nRUN 100\n"
  -- and each second one
  pub five : script_text 5 ≡ signed_on ++ codes "IN P1 ADD 1\nIN P2 ADD 2\nRUN 100\nIN P3 ADD 3\nIN P4 ADD 4\nRUN 100\nIN P1 ADD 5\nRUN 100\n"
  -- a tick follows each hundredth
  pub hundredth : flat_map command_line (made_round 250 100) ≡ codes "IN P4 ADD 0\nRUN 100\nTICK 1\n"
  pub not_hundredth : flat_map command_line (made_round 250 99) ≡ codes "IN P3 ADD 9\n"
