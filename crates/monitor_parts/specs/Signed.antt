-- What lists of sessions keep.
use Rattle.std.specs.Prelude.{◌≡◌, IsTrue, List, Some, None}
use Rattle.std.specs.FinMap.{find, is_sorted}
use Rattle.abstract_monitor.specs.Bytes.{Bytes, bytes_cmp}
use Rattle.abstract_monitor.specs.State.{Session}
use Rattle.abstract_monitor.specs.Turns.{pterm_of_user}

-- they are in the order of their PTERMs, and a user is in one session at most
pub record AreSessions (signed : List (Bytes × Session)) : Type 0 where
  pub sorted : IsTrue (is_sorted bytes_cmp signed)
  pub once : (p q : Bytes) (v w : Session) → find bytes_cmp p signed ≡ Some v → find bytes_cmp q signed ≡ Some w → v.user ≡ w.user → p ≡ q

-- nobody is signed on at the PTERM, and the user nowhere
pub record CanSignOn (signed : List (Bytes × Session)) (pterm user : Bytes) : Type 0 where
  pub pterm_is_free : find bytes_cmp pterm signed ≡ None
  pub user_is_free : pterm_of_user signed user ≡ None

-- the PTERM of each user who is signed on, and of nobody else
pub record ArePterms (signed : List (Bytes × Session)) (by_user : List (Bytes × Bytes)) : Type 0 where
  pub each : (pterm : Bytes) (v : Session) → find bytes_cmp pterm signed ≡ Some v → find bytes_cmp v.user by_user ≡ Some pterm
  pub only : (user pterm : Bytes) → find bytes_cmp user by_user ≡ Some pterm → (v : Session) × (find bytes_cmp pterm signed ≡ Some v) × (v.user ≡ user)
