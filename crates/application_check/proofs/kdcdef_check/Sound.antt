-- What the statements generate keeps its ranges, where they have no fault.
use Rattle.std.proofs.Common.{◌≡◌, ℕ, suc, ◌<◌, ◌≤◌, ◌==◌, ◌&&◌, refl, sym, inl, inr, arith, true, false, nat_lt, List, [], ◌∷◌, length, Option, Some, None, is_some, is_none, filter_map, IsTrue}
use Rattle.std.proofs.Common.{unwrap_or}
use Rattle.std.specs.Prelude.{IfSome}
use Rattle.std.specs.List.{All, cons_option}
use Rattle.std.specs.Map.{values_of}
use Rattle.std.specs.Option.{option_or}
use Rattle.std.proofs.lemmas.Bool.Decides.{nat_tests}
use Rattle.std.proofs.lemmas.List.Elements.{All-cons, All-nil, All-map}
use Rattle.kd_base.specs.Text.{IsName}
use Rattle.application_types.specs.declared.kdcdef_types.entry.TacEntry.{TacEntry}
use Rattle.application_types.specs.declared.kdcdef_types.entry.UserEntry.{UserEntry}
use Rattle.application_types.specs.declared.kdcdef_types.entry.PtermEntry.{PtermEntry}
use Rattle.application_types.specs.declared.kdcdef_types.entry.LtermEntry.{LtermEntry}
use Rattle.application_types.specs.declared.kdcdef_types.entry.KeySet.{KeySet}
use Rattle.application_types.specs.declared.kdcdef_types.statement.MaxOperands.{MaxOperands}
use Rattle.application_types.specs.declared.kdcdef_types.statement.Said.{Said}
use Rattle.application_types.specs.declared.kdcdef_types.statement.Said.TheVariants.{Max, Tac, User, Pterm, Lterm, TacClass, Kset}
use Rattle.application_types.specs.declared.kdcdef_types.statement.Statement.{Statement}
use Rattle.application_types.specs.Statements.{IsWithin, IsBlksize, IsMaxInRange, IsTacInRange, IsUserInRange, IsKeySetInRange, IsInRange, AreRead}
use Rattle.application_types.specs.Generation.{Generated, entry_of, lterm_of}
use Rattle.application_check.specs.declared.kdcdef_check.fault.CheckFault.TheVariants.{NoProgram, NoLterm, ClassOfWrongKind, NoKset}
use Rattle.application_types.specs.Soundness.{AreLimits, IsSound, AreNamed, AreCounted, HasKeys, fits_kind}
use Rattle.application_check.specs.Generating.{as_tac, as_user, as_pterm, as_lterm, as_class, as_kset, said_as, programs_said, nothing_given, operands_said, both_given, max_given, with_defaults}
use Rattle.application_check.specs.Generating.{double_said, generated}
use Rattle.application_check.specs.Faults.{lacks_program, lacks_lterm, lacks_keys, lacks_kset, has_other_class, AreFaultless}
use Rattle.application_check.specs.Steps.{IsNamed, AllNamed}
use Rattle.application_check.proofs.kdcdef_check.Counting.{program_count, tac_count, user_count, pterm_count, lterm_count, passed_statements}
use Rattle.application_check.proofs.kdcdef_check.Faultless.{not_shown, all_at, few, some_user_said, pool_said, full_pool_said}
use Rattle.application_check.proofs.kdcdef_check.Apart.{names_apart}
use Rattle.std.proofs.lemmas.Bool.{not-false}

-- ---- lists

all_head : {A : Type 0} (P : A → Type 0) (x : A) (xs : List A) → All P (x ∷ xs) → P x
all_head P x xs h = h 0 x (omega arith)

all_tail : {A : Type 0} (P : A → Type 0) (x : A) (xs : List A) → All P (x ∷ xs) → All P xs
all_tail P x xs h = λ k d below. h (suc k) d (omega (arith, below))

one_more : {A : Type 0} (Q : A → Type 0) (o : Option A) (xs : List A) → IfSome o Q → All Q xs → All Q (cons_option o xs)
one_more Q None xs h rest = rest
one_more Q (Some x) xs h rest = All-cons Q x xs h rest

-- what holds of the statements holds of what they make
all_keep : {A : Type 0} (P : Statement → Type 0) (Q : A → Type 0) (f : Statement → Option A) → ((s : Statement) → P s → IfSome (f s) Q) → (ss : List Statement) → All P ss → All Q (filter_map f ss)
all_keep P Q f h [] all = All-nil Q
all_keep P Q f h (s ∷ ss) all = one_more Q (f s) (filter_map f ss) (h s (all_head P s ss all)) (all_keep P Q f h ss (all_tail P s ss all))

-- and of the values in their entries
values_keep : {K V : Type 0} (P : Statement → Type 0) (Q : V → Type 0) (f : Statement → Option (K × V)) → ((s : Statement) → P s → IfSome (f s) (λ (p : K × V). Q p.1)) → (ss : List Statement) → All P ss → All Q (values_of (filter_map f ss))
values_keep {K} {V} P Q f h ss all = All-map Q (λ (p : K × V). p.1) (filter_map f ss) (all_keep P (λ (p : K × V). Q p.1) f h ss all)

-- ---- the limits

in_either : {A : Type 0} (P : A → Type 0) (x y : Option A) → IfSome x P → IfSome y P → IfSome (option_or x y) P
in_either P None y h i = i
in_either P (Some x) y h i = h

or_default : {A : Type 0} (P : A → Type 0) (x : Option A) (d : A) → IfSome x P → P d → P (unwrap_or x d)
or_default P None d h i = i
or_default P (Some x) d h i = h

nothing_in_range : IsMaxInRange nothing_given
nothing_in_range = record { tasks = tt; asyntasks = tt; gssbs = tt; lssbs = tt; kb = tt; spab = tt; nb = tt; pgpool = tt; reswait = tt; blksize = tt; redelivery = tt }

said_in_range : (said : Said) → IsInRange said → IsMaxInRange (operands_said said)
said_in_range (Max m) h = h
said_in_range _ h = nothing_in_range

both_in_range : (a b : MaxOperands) → IsMaxInRange a → IsMaxInRange b → IsMaxInRange (both_given a b)
both_in_range a b h i = record {
  tasks = in_either (IsWithin 1 240) a.tasks b.tasks h.tasks i.tasks;
  asyntasks = in_either (IsWithin 0 240) a.asyntasks b.asyntasks h.asyntasks i.asyntasks;
  gssbs = in_either (IsWithin 0 30000) a.gssbs b.gssbs h.gssbs i.gssbs;
  lssbs = in_either (IsWithin 0 1000) a.lssbs b.lssbs h.lssbs i.lssbs;
  kb = in_either (IsWithin 0 32767) a.kb b.kb h.kb i.kb;
  spab = in_either (IsWithin 0 32767) a.spab b.spab h.spab i.spab;
  nb = in_either (IsWithin 1 32700) a.nb b.nb h.nb i.nb;
  pgpool = in_either (IsWithin 16 30000) a.pgpool b.pgpool h.pgpool i.pgpool;
  reswait = in_either (IsWithin 0 32767) a.reswait b.reswait h.reswait i.reswait;
  blksize = in_either IsBlksize a.blksize b.blksize h.blksize i.blksize;
  redelivery = in_either (IsWithin 0 255) a.redelivery b.redelivery h.redelivery i.redelivery;
}

max_in_range : (ss : List Statement) → All (λ (s : Statement). IsInRange s.said) ss → IsMaxInRange (max_given ss)
max_in_range [] h = nothing_in_range
max_in_range (s ∷ ss) h =
    both_in_range (operands_said s.said) (max_given ss) (said_in_range s.said (all_head (λ (t : Statement). IsInRange t.said) s ss h)) (max_in_range ss (all_tail (λ (t : Statement). IsInRange t.said) s ss h))

limits_in_range : (m : MaxOperands) → IsMaxInRange m → AreLimits (with_defaults m)
limits_in_range m h = record {
  tasks = or_default (IsWithin 1 240) m.tasks 1 h.tasks (omega arith, omega arith);
  asyntasks = (or_default (IsWithin 0 240) m.asyntasks 1 h.asyntasks (omega arith, omega arith)).1;
  gssbs = (or_default (IsWithin 0 30000) m.gssbs 32 h.gssbs (omega arith, omega arith)).1;
  lssbs = (or_default (IsWithin 0 1000) m.lssbs 8 h.lssbs (omega arith, omega arith)).1;
  kb = (or_default (IsWithin 0 32767) m.kb 512 h.kb (omega arith, omega arith)).1;
  spab = (or_default (IsWithin 0 32767) m.spab 512 h.spab (omega arith, omega arith)).1;
  nb = or_default (IsWithin 1 32700) m.nb 2048 h.nb (omega arith, omega arith);
  pgpool = or_default (IsWithin 16 30000) m.pgpool 100 h.pgpool (omega arith, omega arith);
  reswait = (or_default (IsWithin 0 32767) m.reswait 60 h.reswait (omega arith, omega arith)).1;
  blksize = or_default IsBlksize m.blksize 4096 h.blksize (inr (inl refl));
  redelivery = (or_default (IsWithin 0 255) m.redelivery 0 h.redelivery (omega arith, omega arith)).1;
}

-- ---- the names

abbrev IsNameOf : {A : Type 0} → List ℕ × A → Type 0
IsNameOf p = IsName p.0

named_entries : (said : Said) → IsNamed said → IfSome (as_tac said) IsNameOf × IfSome (as_user said) IsNameOf × IfSome (as_pterm said) IsNameOf × IfSome (as_lterm said) IsNameOf
named_entries (Tac name entry) h = (h, tt, tt, tt)
named_entries (User name entry) h = (tt, h, tt, tt)
named_entries (Pterm name entry) h = (tt, tt, h, tt)
named_entries (Lterm name entry) h = (tt, tt, tt, h)
named_entries _ h = (tt, tt, tt, tt)

names_kept : (ss : List Statement) → AllNamed ss → AreNamed (generated ss)
names_kept ss named =
    let P : Statement → Type 0 = λ (s : Statement). IsNamed s.said in
    record {
      tacs = all_keep P IsNameOf (λ (s : Statement). as_tac s.said) (λ s h. (named_entries s.said h).0) ss named;
      users = all_keep P IsNameOf (λ (s : Statement). as_user s.said) (λ s h. (named_entries s.said h).1) ss named;
      pterms = all_keep P IsNameOf (λ (s : Statement). as_pterm s.said) (λ s h. (named_entries s.said h).2) ss named;
      lterms = all_keep P IsNameOf (λ (s : Statement). as_lterm s.said) (λ s h. (named_entries s.said h).3) ss named;
    }

-- ---- the entries

tac_ranges : (said : Said) → IsInRange said → IfSome (as_tac said) (λ (p : List ℕ × TacEntry). IsTacInRange p.1)
tac_ranges (Tac name entry) h = h
tac_ranges _ h = tt

user_ranges : (said : Said) → IsInRange said → IfSome (as_user said) (λ (p : List ℕ × UserEntry). IsUserInRange p.1)
user_ranges (User name entry) h = h
user_ranges _ h = tt

class_ranges : (said : Said) → IsInRange said → IfSome (as_class said) (λ (p : ℕ × ℕ). p.1 ≤ 240)
class_ranges (TacClass class tasks) h = h.1
class_ranges _ h = tt

kset_ranges : (said : Said) → IsInRange said → IfSome (as_kset said) (λ (p : List ℕ × KeySet). IsKeySetInRange p.1)
kset_ranges (Kset name set) h = h
kset_ranges _ h = tt

not_none : {A : Type 0} (o : Option A) → is_none o ≡ false → is_some o ≡ true
not_none None h = absurd (grind (arith, h))
not_none (Some x) h = refl

tac_kinds : (said : Said) → has_other_class said ≡ false → IfSome (as_tac said) (λ (p : List ℕ × TacEntry). IsTrue (fits_kind p.1))
tac_kinds (Tac name entry) h = not-false (fits_kind entry) h
tac_kinds _ h = tt

tac_programs : (g : Generated) (said : Said) → lacks_program g said ≡ false → IfSome (as_tac said) (λ (p : List ℕ × TacEntry). IsTrue (is_some (entry_of g.programs p.1.program)))
tac_programs g (Tac name entry) h = not_none (entry_of g.programs entry.program) h
tac_programs g _ h = tt

pterm_lterms : (g : Generated) (said : Said) → lacks_lterm g said ≡ false → IfSome (as_pterm said) (λ (p : List ℕ × PtermEntry). IsTrue (is_some (lterm_of g p.1.lterm)))
pterm_lterms g (Pterm name entry) h = not_none (lterm_of g entry.lterm) h
pterm_lterms g _ h = tt

has_keys : (g : Generated) (name : Option (List ℕ)) → lacks_keys g name ≡ false → HasKeys g name
has_keys g None h = tt
has_keys g (Some name) h = not_none (entry_of g.ksets name) h

user_ksets : (g : Generated) (said : Said) → lacks_kset g said ≡ false → IfSome (as_user said) (λ (p : List ℕ × UserEntry). HasKeys g p.1.kset)
user_ksets g (User name entry) h = has_keys g entry.kset h
user_ksets g _ h = tt

lterm_ksets : (g : Generated) (said : Said) → lacks_kset g said ≡ false → IfSome (as_lterm said) (λ (p : List ℕ × LtermEntry). HasKeys g p.1.kset)
lterm_ksets g (Lterm name entry) h = has_keys g entry.kset h
lterm_ksets g _ h = tt

-- no statement lacks its key set
all_have_ksets : (ss : List Statement) → AreFaultless ss → All (λ (s : Statement). lacks_kset (generated ss) s.said ≡ false) ss
all_have_ksets ss free = all_at (λ (s : Statement). lacks_kset (generated ss) s.said ≡ false) ss (λ i s at. not_shown ss free i s at (NoKset s.line) refl)

-- ---- the counts

counted : (ss : List Statement) → AreRead ss → AreFaultless ss → AreCounted (generated ss)
counted ss read free = record {
  users = (refl, rw (sym (user_count ss)) (few ss free 3));
  pterms = (refl, rw (sym (pterm_count ss)) (few ss free 4));
  lterms = (refl, rw (sym (lterm_count ss)) (few ss free 5));
  tacs = (refl, rw (sym (tac_count ss)) (few ss free 2));
  programs = (refl, rw (sym (program_count ss)) (few ss free 1));
  passed_statements = rw (sym (passed_statements ss)) (few ss free 10);
  passed_operands = read.passed;
}

one_or_more : (n : ℕ) → (n == 0) ≡ false → 1 ≤ n
one_or_more n h = grind (arith, nat_tests, h)

not_less : (m n : ℕ) → nat_lt m n ≡ false → n ≤ m
not_less m n h = grind (arith, nat_tests, h)

not_full : (double : Option ℕ) (pgpool : ℕ) → pgpool ≤ 30000 → (is_some double && (pgpool == 30000)) ≡ false → IfSome double (λ (line : ℕ). pgpool < 30000)
not_full None pgpool within h = tt
not_full (Some line) pgpool within h = grind (arith, nat_tests, within, h)

pub sound : (ss : List Statement) → AreRead ss → AllNamed ss → AreFaultless ss → IsSound (generated ss)
sound ss read named free = record {
  limits = limits_in_range (max_given ss) (max_in_range ss read.ranges);
  names = names_kept ss named;
  tacs = values_keep (λ (s : Statement). IsInRange s.said) IsTacInRange (λ (s : Statement). as_tac s.said) (λ s h. tac_ranges s.said h) ss read.ranges;
  users = values_keep (λ (s : Statement). IsInRange s.said) IsUserInRange (λ (s : Statement). as_user s.said) (λ s h. user_ranges s.said h) ss read.ranges;
  classes = values_keep (λ (s : Statement). IsInRange s.said) (λ (tasks : ℕ). tasks ≤ 240) (λ (s : Statement). as_class s.said) (λ s h. class_ranges s.said h) ss read.ranges;
  ksets = values_keep (λ (s : Statement). IsInRange s.said) IsKeySetInRange (λ (s : Statement). as_kset s.said) (λ s h. kset_ranges s.said h) ss read.ranges;
  kinds = values_keep (λ (s : Statement). has_other_class s.said ≡ false) (λ (t : TacEntry). IsTrue (fits_kind t)) (λ (s : Statement). as_tac s.said) (λ s h. tac_kinds s.said h) ss (all_at (λ (s : Statement). has_other_class s.said ≡ false) ss (λ i s at. not_shown ss free i s at (ClassOfWrongKind s.line) refl));
  programs = values_keep (λ (s : Statement). lacks_program (generated ss) s.said ≡ false) (λ (t : TacEntry). IsTrue (is_some (entry_of (programs_said ss) t.program))) (λ (s : Statement). as_tac s.said) (λ s h. tac_programs (generated ss) s.said h) ss (all_at (λ (s : Statement). lacks_program (generated ss) s.said ≡ false) ss (λ i s at. not_shown ss free i s at (NoProgram s.line) refl));
  terminals = values_keep (λ (s : Statement). lacks_lterm (generated ss) s.said ≡ false) (λ (p : PtermEntry). IsTrue (is_some (entry_of (said_as as_lterm ss) p.lterm))) (λ (s : Statement). as_pterm s.said) (λ s h. pterm_lterms (generated ss) s.said h) ss (all_at (λ (s : Statement). lacks_lterm (generated ss) s.said ≡ false) ss (λ i s at. not_shown ss free i s at (NoLterm s.line) refl));
  user_keys = values_keep (λ (s : Statement). lacks_kset (generated ss) s.said ≡ false) (λ (u : UserEntry). HasKeys (generated ss) u.kset) (λ (s : Statement). as_user s.said) (λ s h. user_ksets (generated ss) s.said h) ss (all_have_ksets ss free);
  lterm_keys = values_keep (λ (s : Statement). lacks_kset (generated ss) s.said ≡ false) (λ (l : LtermEntry). HasKeys (generated ss) l.kset) (λ (s : Statement). as_lterm s.said) (λ s h. lterm_ksets (generated ss) s.said h) ss (all_have_ksets ss free);
  apart = names_apart ss free;
  counts = counted ss read free;
  some_user = one_or_more (length (said_as as_user ss)) (some_user_said ss free read.ends);
  pool = not_less _ _ (pool_said ss free read.ends);
  double = not_full (double_said ss) (with_defaults (max_given ss)).pgpool (limits_in_range (max_given ss) (max_in_range ss read.ranges)).pgpool.1 (full_pool_said ss free read.ends);
}
