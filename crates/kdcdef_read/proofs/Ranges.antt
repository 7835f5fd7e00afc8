-- Statements that are read keep what the next reader relies on: ranges, lines, counts, and no operand of MAX twice.
use Rattle.std.proofs.Common.{◌≡◌, ℕ, ◌+◌, ◌≤◌, Bool, true, false, cond, List, [], ◌∷◌, ◌++◌, length, Option, Some, None, Ok, refl, sym, ap, ◌∙◌, subst, arith}
use Rattle.std.specs.Prelude.{IfSome, option_and_then}
use Rattle.std.specs.Option.{option_map}
use Rattle.std.specs.List.{All}
use Rattle.std.proofs.lemmas.List.Elements.{All-nil, All-cons}
use Rattle.kd_base.specs.ToolsLaws.{some_is, some_of, map_some, and_some, ok_is}
use Rattle.texts.specs.declared.kdcdef_lex.statement.RawOperand.{RawOperand}
use Rattle.texts.specs.declared.kdcdef_lex.statement.RawStatement.{RawStatement}
use Rattle.texts.specs.Bounds.{LinesUpTo, operand_count}
use Rattle.application_types.specs.declared.kdcdef_types.entry.CallUse.{CallUse}
use Rattle.application_types.specs.declared.kdcdef_types.entry.KeySet.{KeySet}
use Rattle.application_types.specs.declared.kdcdef_types.entry.TacEntry.{TacEntry}
use Rattle.application_types.specs.declared.kdcdef_types.statement.Said.{Said}
use Rattle.application_types.specs.declared.kdcdef_types.statement.Said.TheVariants.{Program, Tac, User, Lterm, Tls, Uls, TacClass, Kset, Passed, End}
use Rattle.application_types.specs.declared.kdcdef_types.statement.Statement.{Statement}
use Rattle.application_types.specs.Statements.{IsWithin, IsTacInRange, IsInRange, passed_count}
use Rattle.kdcdef_read.specs.declared.fault.Cause.{Cause}
use Rattle.kdcdef_read.specs.declared.fault.ReadFault.{ReadFault}
use Rattle.kdcdef_read.specs.declared.value.Value.{Value}
use Rattle.kdcdef_read.specs.declared.value.Value.TheVariants as values
use Rattle.kdcdef_read.specs.declared.words.Keyword.{Keyword}
use Rattle.kdcdef_read.specs.declared.words.Keyword.TheVariants as keywords
use Rattle.kdcdef_read.specs.declared.words.Form.{Form}
use Rattle.kdcdef_read.specs.declared.words.Form.TheVariants as forms
use Rattle.kdcdef_read.specs.declared.words.Key.{Key}
use Rattle.kdcdef_read.specs.declared.words.Key.TheVariants as keys
use Rattle.kdcdef_read.specs.Words.{form_of}
use Rattle.kdcdef_read.specs.KeySets.{key_set_of}
use Rattle.kdcdef_read.specs.Operands.{operand_key, is_kept, passed_from, passed_in, first_cause, answer_of}
use Rattle.kdcdef_read.specs.Said.{name_at, prog_name_at, number_at, class_at, time_at, call_at, flag_at, password_at, max_said, program_said, class_of, tac_entry, tac_said, user_said, pterm_of}
use Rattle.kdcdef_read.specs.Said.{pterm_said, lterm_said, tls_said, uls_said, class_said, kset_said, said_of}
use Rattle.kdcdef_read.specs.Meaning.{statement, shared, or_missing, unless, form_says, Say}
use Rattle.kdcdef_read.proofs.Fitting.{number_within, blksize_is, class_within, redelivery_within, time_within, password_within}
use Rattle.kdcdef_read.proofs.KeySets.{set_in_range}

-- ---- one statement

-- a statement whose operands are kept
pub record IsKept (keyword : Keyword) (own : List RawOperand) (r : RawStatement) (s : Statement) : Type 0 where
  pub cause : first_cause keyword own r.operands ≡ None
  pub said : said_of keyword (answer_of keyword r.operands) (key_set_of r.operands) ≡ Some s.said
  pub line : s.line ≡ r.line
  pub passed : s.passed ≡ passed_in keyword r.operands

pub kept_is : (keyword : Keyword) (own : List RawOperand) (r : RawStatement) (s : Statement) → form_says own r (Some (forms.Kept keyword)) ≡ Ok s → IsKept keyword own r s
kept_is keyword own r s e = by_cause (first_cause keyword own r.operands) refl e
  where
    by_said : (o : Option Said) → said_of keyword (answer_of keyword r.operands) (key_set_of r.operands) ≡ o → first_cause keyword own r.operands ≡ None → or_missing r.line (passed_in keyword r.operands) o ≡ Ok s → IsKept keyword own r s
    by_said None is none h = absurd cc
    by_said (Some said) is none h =
        let made : Statement = statement r.line (passed_in keyword r.operands) said in
        let same : made ≡ s = ok_is ReadFault made s h in
        record {
          cause = none;
          said = is ∙ ap (λ (x : Statement). some_of x.said) same;
          line = sym (ap (λ (x : Statement). x.line) same);
          passed = sym (ap (λ (x : Statement). x.passed) same);
        }

    by_cause : (c : Option Cause) → first_cause keyword own r.operands ≡ c → unless r.line c (or_missing r.line (passed_in keyword r.operands) (said_of keyword (answer_of keyword r.operands) (key_set_of r.operands))) ≡ Ok s → IsKept keyword own r s
    by_cause None none h = by_said (said_of keyword (answer_of keyword r.operands) (key_set_of r.operands)) refl none h
    by_cause (Some cause) none h = absurd cc

few_passed : (first : Bool) (keyword : Keyword) (os : List RawOperand) → passed_from first keyword os ≤ length os
few_passed first keyword [] = omega arith
few_passed first keyword (o ∷ os) = at_most (is_kept keyword (operand_key first o)) (few_passed false keyword os)
  where
    at_most : (b : Bool) → passed_from false keyword os ≤ length os → cond b 0 1 + passed_from false keyword os ≤ length (o ∷ os)
    at_most true h = omega arith
    at_most false h = omega arith

-- its line and its count
form_plain : (own : List RawOperand) (r : RawStatement) (form : Option Form) (s : Statement) → form_says own r form ≡ Ok s → (s.line ≡ r.line) × (s.passed ≤ length r.operands)
form_plain own r None s e = absurd cc
form_plain own r (Some forms.Passed) s e =
    let P : Statement → Type 0 = λ x. (x.line ≡ r.line) × (x.passed ≤ length r.operands) in
    subst P (ok_is ReadFault (statement r.line 0 Passed) s e) (refl, omega arith)
form_plain own r (Some forms.End) s e =
    let P : Statement → Type 0 = λ x. (x.line ≡ r.line) × (x.passed ≤ length r.operands) in
    subst P (ok_is ReadFault (statement r.line (length r.operands) End) s e) (refl, omega arith)
form_plain own r (Some (forms.Kept keyword)) s e =
    let k = kept_is keyword own r s e in
    (k.line, omega (arith, k.passed, few_passed true keyword r.operands))

-- ---- what statements say

pub program_is : (at : Key → Option Value) (said : Said) → program_said at ≡ Some said → (name : List ℕ) × (Program name ≡ said)
program_is at said e = let m = map_some (λ (name : List ℕ). Program name) (prog_name_at (at keys.First)) said e in (m.0, m.2)

pub tls_is : (at : Key → Option Value) (said : Said) → tls_said at ≡ Some said → (name : List ℕ) × (Tls name ≡ said)
tls_is at said e = let m = map_some (λ (name : List ℕ). Tls name) (name_at (at keys.First)) said e in (m.0, m.2)

pub uls_is : (at : Key → Option Value) (said : Said) → uls_said at ≡ Some said → (name : List ℕ) × (Uls name ≡ said)
uls_is at said e = let m = map_some (λ (name : List ℕ). Uls name) (name_at (at keys.First)) said e in (m.0, m.2)

pub pterm_is : (at : Key → Option Value) (said : Said) → pterm_said at ≡ Some said → (name : List ℕ) × (pterm_of name (name_at (at keys.Lterm)) ≡ said)
pterm_is at said e = let m = map_some (λ (name : List ℕ). pterm_of name (name_at (at keys.Lterm))) (name_at (at keys.First)) said e in (m.0, m.2)

abbrev lterm_made : Option (List ℕ) → List ℕ → Bool → Said
lterm_made kset name printer = Lterm name (record { printer = printer; kset = kset })

pub lterm_is : (at : Key → Option Value) (said : Said) → lterm_said at ≡ Some said → (name : List ℕ) × (printer : Bool) × (lterm_made (name_at (at keys.Kset)) name printer ≡ said)
lterm_is at said e =
    let a = and_some (λ (name : List ℕ). option_map (lterm_made (name_at (at keys.Kset)) name) (flag_at (at keys.Usage))) (name_at (at keys.First)) said e in
    let m = map_some (lterm_made (name_at (at keys.Kset)) a.0) (flag_at (at keys.Usage)) said a.2 in
    (a.0, m.0, m.2)

abbrev user_made : Option (List ℕ) → Option (List ℕ) → List ℕ → Bool → Said
user_made pass kset name restart = User name (record { pass = pass; restart = restart; kset = kset })

pub user_is : (at : Key → Option Value) (said : Said) → user_said at ≡ Some said → (name : List ℕ) × (restart : Bool) × (user_made (password_at (at keys.Pass)) (name_at (at keys.Kset)) name restart ≡ said)
user_is at said e =
    let a = and_some (λ (name : List ℕ). option_map (user_made (password_at (at keys.Pass)) (name_at (at keys.Kset)) name) (flag_at (at keys.Restart))) (name_at (at keys.First)) said e in
    let m = map_some (user_made (password_at (at keys.Pass)) (name_at (at keys.Kset)) a.0) (flag_at (at keys.Restart)) said a.2 in
    (a.0, m.0, m.2)

abbrev class_made : ℕ → ℕ → Said
class_made class tasks = TacClass class tasks

pub class_is : (at : Key → Option Value) (said : Said) → class_said at ≡ Some said → (class : ℕ) × (tasks : ℕ) × (class_at (at keys.First) ≡ Some class) × (number_at (at keys.Tasks) ≡ Some tasks) × (class_made class tasks ≡ said)
class_is at said e =
    let a = and_some (λ (class : ℕ). option_map (class_made class) (number_at (at keys.Tasks))) (class_at (at keys.First)) said e in
    let m = map_some (class_made a.0) (number_at (at keys.Tasks)) said a.2 in
    (a.0, m.0, a.1, m.1, m.2)

abbrev kset_made : List ℕ → KeySet → Said
kset_made name codes = Kset name codes

pub kset_is : (at : Key → Option Value) (set : Option KeySet) (said : Said) → kset_said at set ≡ Some said → (name : List ℕ) × (codes : KeySet) × (set ≡ Some codes) × (kset_made name codes ≡ said)
kset_is at set said e =
    let a = and_some (λ (name : List ℕ). option_map (kset_made name) set) (name_at (at keys.First)) said e in
    let m = map_some (kset_made a.0) set said a.2 in
    (a.0, m.0, m.1, m.2)

abbrev tac_made : List ℕ → TacEntry → Said
tac_made name entry = Tac name entry

pub tac_is : (at : Key → Option Value) (said : Said) → tac_said at ≡ Some said → (name : List ℕ) × (entry : TacEntry) × (tac_entry at ≡ Some entry) × (tac_made name entry ≡ said)
tac_is at said e =
    let a = and_some (λ (name : List ℕ). option_map (tac_made name) (tac_entry at)) (name_at (at keys.First)) said e in
    let m = map_some (tac_made a.0) (tac_entry at) said a.2 in
    (a.0, m.0, m.1, m.2)

-- ---- ranges

if_some : {A : Type 0} (P : A → Type 0) (o : Option A) (x : A) → o ≡ Some x → IfSome o P → P x
if_some {A} P o x e h = let Q : Option A → Type 0 = λ y. IfSome y P in subst Q e h

class_small : (asynchronous : Bool) (class : Option ℕ) → IfSome class (IsWithin 1 16) → class_of asynchronous class ≤ 16
class_small true None h = omega arith
class_small false None h = omega arith
class_small asynchronous (Some n) h = h.1

abbrev entry_made : Option ℕ → Option ℕ → List ℕ → Bool → CallUse → Bool → ℕ → TacEntry
entry_made class lock program asynchronous call on time =
    record { program = program; asynchronous = asynchronous; call = call; on = on; class = class_of asynchronous class; time = time; lock = lock }

entry_in_range : (os : List RawOperand) (entry : TacEntry) → tac_entry (answer_of keywords.Tac os) ≡ Some entry → IsTacInRange entry
entry_in_range os entry e =
    let at : Key → Option Value = answer_of keywords.Tac os in
    let class : Option ℕ = class_at (at keys.TacClass) in
    let lock : Option ℕ = number_at (at keys.Lock) in
    let step4 = λ (program : List ℕ) (asynchronous : Bool) (call : CallUse) (on : Bool). option_map (entry_made class lock program asynchronous call on) (time_at (at keys.Time)) in
    let step3 = λ (program : List ℕ) (asynchronous : Bool) (call : CallUse). option_and_then (step4 program asynchronous call) (flag_at (at keys.Status)) in
    let step2 = λ (program : List ℕ) (asynchronous : Bool). option_and_then (step3 program asynchronous) (call_at (at keys.Call)) in
    let step1 = λ (program : List ℕ). option_and_then (step2 program) (flag_at (at keys.Type)) in
    let a = and_some step1 (prog_name_at (at keys.Program)) entry e in
    let b = and_some (step2 a.0) (flag_at (at keys.Type)) entry a.2 in
    let c = and_some (step3 a.0 b.0) (call_at (at keys.Call)) entry b.2 in
    let d = and_some (step4 a.0 b.0 c.0) (flag_at (at keys.Status)) entry c.2 in
    let m = map_some (entry_made class lock a.0 b.0 c.0 d.0) (time_at (at keys.Time)) entry d.2 in
    subst IsTacInRange m.2 (record {
      class = class_small b.0 class (class_within keywords.Tac keys.TacClass os refl);
      time = if_some (IsWithin 1 100000) (time_at (at keys.Time)) m.0 m.1 (time_within keywords.Tac keys.Time os refl);
      lock = number_within keywords.Tac keys.Lock 1 4000 None os refl tt;
    })

max_in_range : (os : List RawOperand) → IsInRange (max_said (answer_of keywords.Max os))
max_in_range os = record {
  tasks = number_within keywords.Max keys.Tasks 1 240 None os refl tt;
  asyntasks = number_within keywords.Max keys.Asyntasks 0 240 None os refl tt;
  gssbs = number_within keywords.Max keys.Gssbs 0 30000 None os refl tt;
  lssbs = number_within keywords.Max keys.Lssbs 0 1000 None os refl tt;
  kb = number_within keywords.Max keys.Kb 0 32767 None os refl tt;
  spab = number_within keywords.Max keys.Spab 0 32767 None os refl tt;
  nb = number_within keywords.Max keys.Nb 1 32700 None os refl tt;
  pgpool = number_within keywords.Max keys.Pgpool 16 30000 None os refl tt;
  reswait = number_within keywords.Max keys.Reswait 0 32767 None os refl tt;
  blksize = blksize_is keywords.Max keys.Blksize os refl;
  redelivery = redelivery_within keywords.Max keys.Redelivery os refl;
}

pterm_in_range : (name : List ℕ) (lterm : Option (List ℕ)) → IsInRange (pterm_of name lterm)
pterm_in_range name None = tt
pterm_in_range name (Some lterm) = tt

said_in_range : (keyword : Keyword) (os : List RawOperand) (said : Said) → said_of keyword (answer_of keyword os) (key_set_of os) ≡ Some said → IsInRange said
said_in_range keywords.Max os said e = subst IsInRange (some_is (max_said (answer_of keywords.Max os)) said e) (max_in_range os)
said_in_range keywords.Program os said e = let m = program_is (answer_of keywords.Program os) said e in subst IsInRange m.1 tt
said_in_range keywords.Tac os said e = let m = tac_is (answer_of keywords.Tac os) said e in subst IsInRange m.3 (entry_in_range os m.1 m.2)
said_in_range keywords.User os said e =
    let m = user_is (answer_of keywords.User os) said e in
    subst IsInRange m.2 (password_within keywords.User keys.Pass os refl)
said_in_range keywords.Pterm os said e =
    let m = pterm_is (answer_of keywords.Pterm os) said e in
    subst IsInRange m.1 (pterm_in_range m.0 (name_at (answer_of keywords.Pterm os keys.Lterm)))
said_in_range keywords.Lterm os said e = let m = lterm_is (answer_of keywords.Lterm os) said e in subst IsInRange m.2 tt
said_in_range keywords.Tls os said e = let m = tls_is (answer_of keywords.Tls os) said e in subst IsInRange m.1 tt
said_in_range keywords.Uls os said e = let m = uls_is (answer_of keywords.Uls os) said e in subst IsInRange m.1 tt
said_in_range keywords.TacClass os said e =
    let m = class_is (answer_of keywords.TacClass os) said e in
    let w = if_some (IsWithin 0 240) (number_at (answer_of keywords.TacClass os keys.Tasks)) m.1 m.3 (number_within keywords.TacClass keys.Tasks 0 240 (Some (values.Number 240)) os refl (omega arith, omega arith)) in
    subst IsInRange m.4
    (if_some (IsWithin 1 16) (class_at (answer_of keywords.TacClass os keys.First)) m.0 m.2 (class_within keywords.TacClass keys.First os refl), w.1)
said_in_range keywords.Kset os said e =
    let m = kset_is (answer_of keywords.Kset os) (key_set_of os) said e in
    subst IsInRange m.3 (set_in_range os m.1 m.2)

form_in_range : (own : List RawOperand) (r : RawStatement) (form : Option Form) (s : Statement) → form_says own r form ≡ Ok s → IsInRange s.said
form_in_range own r None s e = absurd cc
form_in_range own r (Some forms.Passed) s e =
    let P : Statement → Type 0 = λ x. IsInRange x.said in subst P (ok_is ReadFault (statement r.line 0 Passed) s e) tt
form_in_range own r (Some forms.End) s e =
    let P : Statement → Type 0 = λ x. IsInRange x.said in subst P (ok_is ReadFault (statement r.line (length r.operands) End) s e) tt
form_in_range own r (Some (forms.Kept keyword)) s e = said_in_range keyword r.operands s.said (kept_is keyword own r s e).said

-- ---- all statements

abbrev pub InRange : Statement → Type 0
InRange s = IsInRange s.said

abbrev pub InLines : Statement → Type 0
InLines s = s.line ≤ 16777217

pub all_in_range : (before : List RawOperand) (rs : List RawStatement) (ss : List Statement) → Say before rs ss → All InRange ss
all_in_range before [] [] say = All-nil InRange
all_in_range before [] (s ∷ ss) say = absurd say
all_in_range before (r ∷ rs) [] say = absurd say
all_in_range before (r ∷ rs) (s ∷ ss) say =
    All-cons InRange s ss (form_in_range (shared (form_of r.keyword) before) r (form_of r.keyword) s say.0) (all_in_range (before ++ shared (form_of r.keyword) r.operands) rs ss say.1)

pub all_in_lines : (before : List RawOperand) (rs : List RawStatement) (ss : List Statement) → LinesUpTo 16777217 rs → Say before rs ss → All InLines ss
all_in_lines before [] [] lines say = All-nil InLines
all_in_lines before [] (s ∷ ss) lines say = absurd say
all_in_lines before (r ∷ rs) [] lines say = absurd say
all_in_lines before (r ∷ rs) (s ∷ ss) lines say =
    let k = form_plain (shared (form_of r.keyword) before) r (form_of r.keyword) s say.0 in
    let here : s.line ≤ 16777217 = omega (arith, k.0, lines.0) in
    All-cons InLines s ss here (all_in_lines (before ++ shared (form_of r.keyword) r.operands) rs ss lines.1 say.1)

pub few_are_passed : (before : List RawOperand) (rs : List RawStatement) (ss : List Statement) → Say before rs ss → passed_count ss ≤ operand_count rs
few_are_passed before [] [] say = omega arith
few_are_passed before [] (s ∷ ss) say = absurd say
few_are_passed before (r ∷ rs) [] say = absurd say
few_are_passed before (r ∷ rs) (s ∷ ss) say =
    let k = form_plain (shared (form_of r.keyword) before) r (form_of r.keyword) s say.0 in
    let rest = few_are_passed (before ++ shared (form_of r.keyword) r.operands) rs ss say.1 in
    omega (arith, k.1, rest)
