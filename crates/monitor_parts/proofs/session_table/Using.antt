-- What an input means with and without a session at its PTERM.
use Rattle.std.proofs.Common.{◌≡◌, refl, List, Option, Some, None}
use Rattle.std.specs.FinMap.{find}
use Rattle.std.specs.Option.{option_map}
use Rattle.kd_base.specs.ToolsLaws.{some_is}
use Rattle.application_types.specs.Generation.{Generated, pterm_of}
use Rattle.abstract_monitor.specs.declared.input_use.ServiceState.{ServiceState}
use Rattle.abstract_monitor.specs.declared.input_use.Use.{Use}
use Rattle.abstract_monitor.specs.Access.{denial_of}
use Rattle.abstract_monitor.specs.Bytes.{Bytes, bytes_cmp}
use Rattle.abstract_monitor.specs.State.{Session}
use Rattle.abstract_monitor.specs.Sessions.{Split, first_word, lterm_by, use_by, use_under, use_of, use_signed, use_unsigned}

-- who a session is of
abbrev pub user_in : Session → Bytes
user_in v = v.user

module _ (g : Generated) (signed : List (Bytes × Session)) (state : ServiceState) (pterm text : Bytes) (pieces : Split) where
  -- the use by what is found at the PTERM
  abbrev use_found : Option Session → Use
  use_found o = use_by g (denial_of g) signed state (lterm_by (pterm_of g pterm)) text o

  pub use_without : pieces ≡ first_word text → None ≡ option_map user_in (find bytes_cmp pterm signed) → use_unsigned g signed pieces ≡ use_of g signed state pterm text
  unfolding use_of use_under
  use_without e h =
      elim (find bytes_cmp pterm signed) as (λ o. None ≡ option_map user_in o → use_unsigned g signed pieces ≡ use_found o) [ None ↦ λ _. rw e refl | Some v ↦ λ k. cc ] h

  pub use_within : (user : Bytes) → pieces ≡ first_word text → Some user ≡ option_map user_in (find bytes_cmp pterm signed)
      → use_signed g (denial_of g user (lterm_by (pterm_of g pterm))) text pieces state ≡ use_of g signed state pterm text
  unfolding use_of use_under
  use_within user e h =
      elim (find bytes_cmp pterm signed) as (λ o. Some user ≡ option_map user_in o → use_signed g (denial_of g user (lterm_by (pterm_of g pterm))) text pieces state ≡ use_found o)
      [ None ↦ λ k. cc | Some v ↦ λ k. rw (e, some_is user v.user k) refl ] h
