-- Who may start what: a TAC with a lock is for those who have its code, the user and the LTERM of the terminal both.
use Rattle.std.specs.Prelude.{ℕ, Bool, true, false, Option, Some, None}
use Rattle.application_types.specs.declared.kdcdef_types.entry.KeySet.{KeySet}
use Rattle.application_types.specs.Generation.{Generated, keys_have, lock_of, user_keys, lterm_keys}
use Rattle.abstract_monitor.specs.declared.access.Denial.{Denial}
use Rattle.abstract_monitor.specs.declared.access.Denial.TheVariants.{User, Lterm}
use Rattle.abstract_monitor.specs.Bytes.{Bytes}

-- why a user may not start this TAC at this LTERM; none where it may
abbrev pub Rule : Type 0
Rule = (user lterm tac : Bytes) → Option Denial

-- the user's keys come before those of the LTERM
abbrev pub denial_by : (code : ℕ) → (user_has lterm_has : Bool) → Option Denial
denial_by code false _ = Some (User code)
denial_by code true false = Some (Lterm code)
denial_by code true true = None

-- a TAC without a lock is denied to nobody
abbrev pub denial_at : (lock : Option ℕ) → (user lterm : Option KeySet) → Option Denial
denial_at None user lterm = None
denial_at (Some code) user lterm = denial_by code (keys_have user code) (keys_have lterm code)

-- the rule of a generation: by the lock of the TAC, and the key sets of the user and of the LTERM
unfoldable pub denial_of : Generated → Rule
denial_of g user lterm tac = denial_at (lock_of g tac) (user_keys g user) (lterm_keys g lterm)
