-- Where no TAC has a lock, nothing is denied.
use Rattle.std.specs.Prelude.{◌≡◌, refl, Option, Some, None, option_and_then}
use Rattle.std.proofs.Common.{ap, ◌∙◌}
use Rattle.kd_base.specs.declared.words.Variant.{Variant}
use Rattle.kd_base.specs.declared.words.Variant.TheVariants.{Kp, Pr, Pa, Re, Sp, Fi, Fc, Fr, Er, Rs}
use Rattle.application_types.specs.Generation.{Generated, tac_of, user_keys, lterm_keys}
use Rattle.abstract_monitor.specs.Access.{Rule, denial_at, denial_of}
use Rattle.abstract_monitor.specs.Bytes.{Bytes}
use Rattle.abstract_monitor.specs.Calls.{follow_up_denial, follow_up_entry, unless_denied}
use Rattle.abstract_monitor.specs.Sessions.{use_under, use_of}
use Rattle.abstract_monitor.specs.State.{OpenTransaction}
use Rattle.laws_of_runs.specs.Access.{HasNoLocks, no_rule, LocksMakeTheRule}

module _ (g : Generated) (none : HasNoLocks g) where
  pub nothing_denied : ◌≡◌ {A = Rule} (denial_of g) no_rule
  unfolding denial_of
  nothing_denied i user lterm tac = denial_at (none tac i) (user_keys g user) (lterm_keys g lterm)

  not_denied : (x : OpenTransaction) (variant : Variant) (tac : Bytes) → follow_up_denial no_rule x variant tac ≡ None
  not_denied x Kp tac = refl
  not_denied x Pr tac = refl
  not_denied x Pa tac = refl
  not_denied x Re tac = refl
  not_denied x Sp tac = refl
  not_denied x Fi tac = refl
  not_denied x Fc tac = refl
  not_denied x Fr tac = refl
  not_denied x Er tac = refl
  not_denied x Rs tac = refl

  entry_is : (x : OpenTransaction) (variant : Variant) (name : Option Bytes) → follow_up_entry no_rule g x variant name ≡ option_and_then (tac_of g) name
  entry_is x variant None = refl
  entry_is x variant (Some tac) = ap (λ o. unless_denied o (tac_of g tac)) (not_denied x variant tac)

pub locks_make_the_rule : LocksMakeTheRule
unfolding use_of
locks_make_the_rule g none = record {
  inputs = λ signed state pterm text. ap (λ (rule : Rule). use_under rule g signed state pterm text) (nothing_denied g none);
  follow_ups = λ x variant name. ap (λ (rule : Rule). follow_up_entry rule g x variant name) (nothing_denied g none) ∙ entry_is g none x variant name;
}
