-- Laws: what a stop leaves is taken again.
use Rattle.std.specs.Prelude.{◌≡◌, ⊤, ℕ, Bool, true, false, List, Option, Some, None, is_some, Result, Ok, Err}
use Rattle.std.proofs.Common.{inl, inr, refl, sym, ap, subst, ◌∙◌}
use Rattle.kd_base.specs.OrderLaws.{equal_is_same}
use Rattle.kd_base.specs.ToolsLaws.{not_both, true_both}
use Rattle.kd_records.specs.Identity.{Identity}
use Rattle.application_types.specs.Generation.{Generated}
use Rattle.kd_update.specs.Carrying.{carried}
use Rattle.kd_update.specs.Judging.{judged}
use Rattle.kdcfile_update.specs.Report.{is_same_print}
use Rattle.kd_update.specs.SuitingLaws.{carried_tables_suit}
use Rattle.kd_update.specs.declared.error.UpdateError.{UpdateError}
use Rattle.carry_steps.specs.Deciding.{is_asked, next_sequence}
use Rattle.kdcfile_carry.specs.Files.{AreFiles, Files}
use Rattle.kdcfile_carry.specs.Ways.{AreOwn, IsUpToDate, MayCarry, StopsAreTaken, carried_files, files_after, files_by, made_by, pool_by, room_by, then_judged}

pub both_judged : (a b : Result ⊤ UpdateError) → then_judged a b ≡ Ok tt → (a ≡ Ok tt) × (b ≡ Ok tt)
both_judged (Ok v) b h = (refl, h)
both_judged (Err why) b h = absurd cc

print_by : (double : Bool) (g : Generated) (fingerprint : List ℕ) → (made_by double g fingerprint).fingerprint ≡ fingerprint
print_by true g fingerprint = refl
print_by false g fingerprint = refl

asked_by : (double : Bool) (s : Option ℕ) → is_some (next_sequence double s) ≡ double
asked_by false s = refl
asked_by true None = refl
asked_by true (Some n) = refl

-- files of these texts, by their fingerprint
same_print : (a b : List ℕ) → a ≡ b → is_same_print a b ≡ true
same_print a b same = (equal_is_same a b).1 same

-- and of their shape
asked : (double two : Bool) → two ≡ double → is_asked double two ≡ true
asked true true same = refl
asked true false same = absurd cc
asked false true same = absurd cc
asked false false same = refl

asked_is : (double two : Bool) → is_asked double two ≡ true → two ≡ double
asked_is true two is = is
asked_is false true is = absurd cc
asked_is false false is = refl

module _ (g : Generated) (fingerprint : List ℕ) (f : Files) where
  pub up_to_date_own : IsUpToDate g fingerprint f → AreOwn g fingerprint f
  up_to_date_own up = record { print = ap (λ (i : Identity). i.fingerprint) up.identity_is ∙ print_by (is_some g.double) g fingerprint; as_asked = up.as_asked }

  -- they stay where they are of these texts and of their shape, and else are those of the carried tables
  pub after_same : AreOwn g fingerprint f → files_after g fingerprint f ≡ f
  after_same own =
      ap (λ (b : Bool). files_by b g fingerprint f)
      (true_both (is_same_print f.identity.fingerprint fingerprint) (is_asked (is_some g.double) (is_some f.sequence)) (same_print f.identity.fingerprint fingerprint own.print) (asked (is_some g.double) (is_some f.sequence) own.as_asked))

  pub after_other : (AreOwn g fingerprint f → ⊥) → files_after g fingerprint f ≡ carried_files g fingerprint f
  after_other differs =
      ap (λ (b : Bool). files_by b g fingerprint f)
      (not_both (is_same_print f.identity.fingerprint fingerprint) (is_asked (is_some g.double) (is_some f.sequence))
      (λ same shape. differs (record { print = (equal_is_same f.identity.fingerprint fingerprint).0 same; as_asked = asked_is (is_some g.double) (is_some f.sequence) shape })))

  pub carried_up_to_date : MayCarry g fingerprint f → IsUpToDate g fingerprint (carried_files g fingerprint f)
  carried_up_to_date may = record {
    identity_is = refl;
    as_asked = asked_by (is_some g.double) f.sequence;
    suits = carried_tables_suit g f.identity.blksize (pool_by f.sequence f.identity.pages) f.tables
        (both_judged (judged g f.identity.blksize (pool_by f.sequence f.identity.pages) f.tables (carried g f.tables)) (room_by (is_some g.double) f.sequence f.identity.pages g.limits.pgpool) may.judged).0;
  }

pub stops_are_taken : StopsAreTaken
stops_are_taken g fingerprint f c d taken (inl are) = (f, are, taken, refl)
stops_are_taken g fingerprint f c d (inl up) (inr are) = (f, subst (λ (h : Files). AreFiles h c d) (after_same g fingerprint f (up_to_date_own g fingerprint f up)) are, inl up, refl)
stops_are_taken g fingerprint f c d (inr may) (inr are) =
    let is = after_other g fingerprint f may.differs in
    let up = carried_up_to_date g fingerprint f may in (
      carried_files g fingerprint f,
      subst (λ (h : Files). AreFiles h c d) is are,
      inl up,
      after_same g fingerprint (carried_files g fingerprint f) (up_to_date_own g fingerprint (carried_files g fingerprint f) up) ∙ sym is,
    )
