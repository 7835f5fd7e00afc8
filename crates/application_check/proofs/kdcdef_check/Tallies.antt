-- How many statements there are of each kind, one statement further.
use Rattle.std.proofs.Common.{◌≡◌, ◌⊎◌, ℕ, ◌+◌, ◌<◌, ◌==◌, sym, ◌∙◌, ap, inl, inr, arith, Bool, true, false, List, length, take, get_or, set}
use Rattle.std.specs.Prelude.{slice_index}
use Rattle.std.proofs.lemmas.Bool.Decides.{eqb_tells}
use Rattle.std.proofs.lemmas.List.{get_or-set_other, length-set}
use Rattle.std.proofs.lemmas.Grind.{get_or-set_at}
use Rattle.std.proofs.lemmas.List.Sums.{count_by_more_yes, count_by_more_no}
use Rattle.application_types.specs.declared.kdcdef_types.statement.Said.{Said}
use Rattle.application_types.specs.declared.kdcdef_types.statement.Said.TheVariants.{Passed}
use Rattle.application_types.specs.declared.kdcdef_types.statement.Statement.{Statement}
use Rattle.application_check.specs.declared.kdcdef_check.tally.Tally.{Tally}
use Rattle.application_check.specs.Faults.{kind_of, kind_count}
use Rattle.application_check.specs.Steps.{IsTallyOf}

pub kind_within : (said : Said) → kind_of said < 12
kind_within Passed = omega arith
kind_within said = omega arith

pub next_tally : (ss : List Statement) (i : ℕ) (s : Statement) (old new : Tally) (k : ℕ) → i < length ss → s ≡ get_or ss i s → k ≡ kind_of s.said → k < 12 → IsTallyOf old (take i ss) → new.counts ≡ set old.counts k (slice_index old.counts k + 1) → IsTallyOf new (take (i + 1) ss)
next_tally ss i s old new k within is kind_is small was added = record {
  kinds = ap length added ∙ length-set old.counts k (slice_index old.counts k + 1) ∙ was.kinds;
  counts = λ kind below. by kind below (eqb_tells (kind_of s.said) kind);
}
  where
    same : (kind : ℕ) (b : Bool) → (kind_of s.said == kind) ≡ b → (kind_of (get_or ss i s).said == kind) ≡ b
    same kind b h = rw (sym is) h

    by : (kind : ℕ) → kind < 12 → (((kind_of s.said == kind) ≡ true) × (kind_of s.said ≡ kind)) ⊎ (((kind_of s.said == kind) ≡ false) × (kind_of s.said ≡ kind → ⊥)) → slice_index new.counts kind ≡ kind_count kind (take (i + 1) ss)
    by kind below (inl h) =
        rw (count_by_more_yes (λ (t : Statement). kind_of t.said == kind) ss i s within (same kind true h.0))
        (rw added (get_or-set_at old.counts k kind (slice_index old.counts k + 1) 0 (sym (kind_is ∙ h.1)) (omega (arith, was.kinds, small))
        ∙ ap (λ n. slice_index old.counts n + 1) (kind_is ∙ h.1) ∙ ap (λ n. n + 1) (was.counts kind below)))
    by kind below (inr h) =
        rw (count_by_more_no (λ (t : Statement). kind_of t.said == kind) ss i s within (same kind false h.0))
        (rw added (get_or-set_other old.counts k kind (slice_index old.counts k + 1) 0 (λ e. h.1 (sym kind_is ∙ sym e)) ∙ was.counts kind below))
