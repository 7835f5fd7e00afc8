-- Laws: what is known of files that are opened, or refused.
use Rattle.std.proofs.Common.{◌≡◌, inl, inr, ℕ, List, sym, ap, subst, ◌∙◌}
use Rattle.std.proofs.lemmas.List.{append-nil}
use Rattle.kd_device.specs.Twin.{Both}
use Rattle.kdcfile_store.specs.Paged.{identity_with}
use Rattle.kdcfile_store.specs.declared.store.StoreLimits.{StoreLimits}
use Rattle.kdcs_types.specs.RowLaws.{empty_sorted}
use Rattle.kdcs_types.specs.Tables.{IsSortedTables, TableRows}
use Rattle.laws_of_states.specs.EmptyTablesLaws.{empty_suit}
use Rattle.laws_of_states.specs.Suits.{Suits}
use Rattle.device_acts.specs.Stands.{limits_of}
use Rattle.kdcfile_double.specs.Opening.{KeepsTablesTwice}
use Rattle.kdcfile_double.specs.Twice.{Twice, identity_of}
use Rattle.refusals.specs.declared.error.FileRefusal.{FileRefusal}
use Rattle.refusals.specs.declared.error.FileRefusal.TheVariants as why
use Rattle.twin_run.specs.Keeping.{one_more}
use Rattle.call_parts.specs.Asking.{Errand}
use Rattle.call_parts.specs.LeavingTwo.{SaysPartTwo}
use Rattle.call_parts.specs.Opening.{OpeningRefusesTwo, Opens, OpensTwo, identity_of_two}
use Rattle.call_parts.specs.OpeningTwo.{StaysAsItIs}
use Rattle.call_parts.specs.TwoAnswersLaws.{AnswersOfTwoExcludeEachOther, answers_of_two_exclude_each_other}

-- ---- tables with which files are opened suit

pub opened_one : (e : Errand) (bytes : List ℕ) (t : TableRows) → Opens e bytes t → IsSortedTables t × Suits e.application.generation t
opened_one e bytes t (inl (empty, is)) = (subst IsSortedTables (sym is) empty_sorted, subst (Suits e.application.generation) (sym is) (empty_suit e.application.generation))
opened_one e bytes t (inr (stands, suits)) = (stands.tables.sorted, suits)

pub opened_two : (e : Errand) (a : Both) (t : TableRows) → OpensTwo e a t → IsSortedTables t × Suits e.application.generation t
opened_two e a t (inl (empty, is)) = (subst IsSortedTables (sym is) empty_sorted, subst (Suits e.application.generation) (sym is) (empty_suit e.application.generation))
opened_two e a t (inr (n, few, on)) = (on.0.tables.sorted, on.1)

-- ---- two files are answered in one way

module _ (e : Errand) (a : Both) where
  answer : AnswersOfTwoExcludeEachOther e.application.generation e.fingerprint a.first.holds a.second.holds
  answer = answers_of_two_exclude_each_other e.application.generation e.fingerprint a.first.holds a.second.holds

  pub opened_or_refused : (t : TableRows) (r : FileRefusal) → OpensTwo e a t → OpeningRefusesTwo e a r → ⊥
  opened_or_refused t r opens (inl none) = answer.started_or_refused t opens none.1
  opened_or_refused t r opens (inr (inl other)) = answer.started_or_other t other.0 opens other.2
  opened_or_refused t r opens (inr (inr spent)) = answer.started_or_spent t spent.0 opens spent.2

  pub refused_once : (r q : FileRefusal) → OpeningRefusesTwo e a r → OpeningRefusesTwo e a q → r ≡ q
  refused_once r q (inl none) (inl again) = none.0 ∙ sym again.0
  refused_once r q (inl none) (inr (inl other)) = absurd (answer.refused_or_other other.0 none.1 other.2)
  refused_once r q (inl none) (inr (inr spent)) = absurd (answer.refused_or_spent spent.0 none.1 spent.2)
  refused_once r q (inr (inl other)) (inl none) = absurd (answer.refused_or_other other.0 none.1 other.2)
  refused_once r q (inr (inl other)) (inr (inl again)) = other.1 ∙ ap (λ (stored : List ℕ). why.OtherGeneration stored) (answer.other_once other.0 again.0 other.2 again.2) ∙ sym again.1
  refused_once r q (inr (inl other)) (inr (inr spent)) = absurd (answer.other_or_spent other.0 spent.0 other.2 spent.2)
  refused_once r q (inr (inr spent)) (inl none) = absurd (answer.refused_or_spent spent.0 none.1 spent.2)
  refused_once r q (inr (inr spent)) (inr (inl other)) = absurd (answer.other_or_spent other.0 spent.0 other.2 spent.2)
  refused_once r q (inr (inr spent)) (inr (inr again)) = spent.1 ∙ sym again.1

-- ---- two files that stay, or that are in use

-- nothing was said
pub none_said : (line : List ℕ) (a b : Both) (la lb : ℕ → List ℕ → List ℕ → List ℕ → Type 0) → StaysAsItIs a b la lb → SaysPartTwo line a b
none_said line a b la lb stays = record { files = stays.files; front = (0, stays.sent ∙ sym (append-nil a.sent)) }

-- the copies were made with the limits of the generation, with one page more
pub copies_made_for : (e : Errand) (s : Twice) (t : TableRows) → KeepsTablesTwice (identity_of_two e) s t → (l : StoreLimits) → l ≡ limits_of e.application.generation → identity_of s ≡ one_more (identity_with l e.fingerprint)
copies_made_for e s t keeps l made = keeps.identity_is ∙ ap (λ (k : StoreLimits). one_more (identity_with k e.fingerprint)) (sym made)
