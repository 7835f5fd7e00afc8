-- What an answer of the check says of the statements.
use Rattle.std.proofs.Common.{◌≡◌, ◌≢◌, ℕ, ◌<◌, ◌≤◌, refl, sym, ◌∙◌, ap, arith, false, List, Option, Some, None, is_none}
use Rattle.std.specs.Prelude.{Result, Ok, Err, IfOk, IfErr, IsSome, slice_index}
use Rattle.kd_base.specs.FirstFaultsLaws.{first_both}
use Rattle.kd_base.specs.ToolsLaws.{ok_of, err_of}
use Rattle.application_types.specs.declared.kdcdef_types.statement.Statement.{Statement}
use Rattle.application_types.specs.Generation.{Generated}
use Rattle.application_check.specs.declared.kdcdef_check.fault.CheckFault.{CheckFault}
use Rattle.application_check.specs.declared.kdcdef_check.fault.CheckFault.TheVariants.{NameTwice, NoProgram, NoLterm, LtermTwice, NoMax, ClassOfWrongKind, PoolTooSmall, NoUser, TooMany, NoKset}
use Rattle.application_check.specs.declared.kdcdef_check.fault.CheckFault.TheVariants.{PoolForDouble, Memory}
use Rattle.application_types.specs.declared.kdcdef_types.statement.MaxOperands.{MaxOperands}
use Rattle.application_types.specs.declared.kdcdef_types.limits.Limits.{Limits}
use Rattle.application_types.specs.declared.kdcdef_types.limits.Counts.{Counts}
use Rattle.application_types.specs.Statements.{AreRead, EndsOnce, passed_count}
use Rattle.application_check.specs.declared.kdcdef_check.tables.Tables.{Tables}
use Rattle.application_check.specs.declared.kdcdef_check.tally.Tally.{Tally}
use Rattle.application_types.specs.Soundness.{IsSound}
use Rattle.application_check.specs.Generating.{generated, max_given, with_defaults, double_said, counts_of}
use Rattle.application_check.specs.Faults.{line_of, number_of, AreFaultless, IsFirstFault, Gives}
use Rattle.application_check.specs.Steps.{AreFilled, AllNamed, IsTallyOf, counts_in, made_of}
use Rattle.application_check.proofs.kdcdef_check.Counting.{program_count, tac_count, user_count, pterm_count, lterm_count, passed_statements}
use Rattle.application_check.proofs.kdcdef_check.Faultless.{few, appliname_said}
use Rattle.application_check.proofs.kdcdef_check.Exact.{made_exactly}
use Rattle.application_check.proofs.kdcdef_check.Sound.{sound}

-- ---- there is one first fault at most

same_fault : (d e : CheckFault) → line_of d ≡ line_of e → number_of d ≡ number_of e → d ≡ e
same_fault (NameTwice n) (NameTwice m) l k = cc l
same_fault (NoProgram n) (NoProgram m) l k = cc l
same_fault (NoLterm n) (NoLterm m) l k = cc l
same_fault (LtermTwice n) (LtermTwice m) l k = cc l
same_fault (NoMax n) (NoMax m) l k = cc l
same_fault (ClassOfWrongKind n) (ClassOfWrongKind m) l k = cc l
same_fault (PoolTooSmall n) (PoolTooSmall m) l k = cc l
same_fault (NoUser n) (NoUser m) l k = cc l
same_fault (TooMany n) (TooMany m) l k = cc l
same_fault (NoKset n) (NoKset m) l k = cc l
same_fault (PoolForDouble n) (PoolForDouble m) l k = cc l
same_fault Memory Memory l k = refl
same_fault _ _ l k = absurd (omega (arith, k))

same_first : (ss : List Statement) (d e : CheckFault) → IsFirstFault ss d → IsFirstFault ss e → d ≡ e
same_first ss d e p q =
    let same = first_both line_of number_of d e (p.1 e q.0) (q.1 d p.0) in
    same_fault d e same.0 same.1

-- ---- the other clauses

abbrev FoundOn : List Statement → Result Generated CheckFault → Type 0
FoundOn ss r = IfOk r (λ (g : Generated). (g ≡ generated ss) × AreFaultless ss)

abbrev FaultOn : List Statement → Result Generated CheckFault → Type 0
FaultOn ss r = IfErr r (λ (e : CheckFault). e ≢ Memory → IsFirstFault ss e)

pub only_that : (ss : List Statement) (r : Result Generated CheckFault) → FoundOn ss r → FaultOn ss r → AreFaultless ss → Gives r (Ok (generated ss))
only_that ss (Ok g) found fault free = ap (λ (x : Generated). ok_of {E = CheckFault} x) (sym found.0)
only_that ss (Err Memory) found fault free = tt
only_that ss (Err e) found fault free = absurd (free e (fault (λ is. absurd cc)).0)

pub refused_for : (ss : List Statement) (r : Result Generated CheckFault) → FoundOn ss r → FaultOn ss r → (e : CheckFault) → IsFirstFault ss e → Gives r (Err e)
refused_for ss (Ok g) found fault e first = absurd (found.1 e first.0)
refused_for ss (Err Memory) found fault e first = tt
refused_for ss (Err d) found fault e first = ap (λ (x : CheckFault). err_of {A = Generated} x) (same_first ss e d first (fault (λ is. absurd cc)))

-- ---- what an answer is made of

pub few_filled : (ss : List Statement) (t : Tally) → AreFaultless ss → IsTallyOf t ss → (kind : ℕ) → kind < 12 → slice_index t.counts kind ≤ 20000
few_filled ss t free tally kind below = rw (tally.counts kind below) (few ss free kind)

some_if : {A : Type 0} (o : Option A) → is_none o ≡ false → IsSome o
some_if None h = absurd (grind (arith, h))
some_if (Some x) h = refl

pub some_name : (ss : List Statement) (m : MaxOperands) → AreFaultless ss → EndsOnce ss → m ≡ max_given ss → IsSome m.appliname
some_name ss m free ends is = rw is (some_if (max_given ss).appliname (appliname_said ss free ends))

counted : (ss : List Statement) (t : Tally) (passed : ℕ) → IsTallyOf t ss → passed ≡ passed_count ss → counts_in t passed ≡ counts_of ss
counted ss t passed tally is = λ j. record {
  users = (tally.counts 3 (omega arith) ∙ user_count ss) j;
  pterms = (tally.counts 4 (omega arith) ∙ pterm_count ss) j;
  lterms = (tally.counts 5 (omega arith) ∙ lterm_count ss) j;
  tacs = (tally.counts 2 (omega arith) ∙ tac_count ss) j;
  programs = (tally.counts 1 (omega arith) ∙ program_count ss) j;
  passed_statements = (tally.counts 10 (omega arith) ∙ passed_statements ss) j;
  passed_operands = is j;
}

pub all_made : (ss : List Statement) (tables : Tables) (t : Tally) (m : MaxOperands) (passed : ℕ) (limits : Limits) (counts : Counts) (double : Option ℕ) → AreFilled tables ss → IsTallyOf t ss → m ≡ max_given ss → passed ≡ passed_count ss → limits ≡ with_defaults m → counts ≡ counts_in t passed → double ≡ double_said ss → AreFaultless ss → made_of tables limits counts double ≡ generated ss
all_made ss tables t m passed limits counts double filled tally max is_passed is_limits is_counts is_double free =
    ap (λ (l : Limits). made_of tables l counts double) (is_limits ∙ ap with_defaults max)
    ∙ made_exactly tables ss counts double filled free (is_counts ∙ counted ss t passed tally is_passed) is_double

pub all_sound : (ss : List Statement) (g : Generated) → g ≡ generated ss → AreRead ss → AllNamed ss → AreFaultless ss → IsSound g
all_sound ss g is read named free = rw is (sound ss read named free)
