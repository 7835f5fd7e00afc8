-- Faults are those of the first faulty line, and commands those of the lines.
use Rattle.std.proofs.Common.{◌≡◌, ◌⊎◌, inl, inr, subst, suc, ℕ, ◌+◌, Bool, true, false, List, [], ◌∷◌, ◌++◌, length, Result, Ok, Err, refl, sym, ap, ◌∙◌, arith}
use Rattle.std.specs.Str.Lines.{lines}
use Rattle.kd_base.specs.ToolsLaws.{ok_is, err_is}
use Rattle.script_read.specs.declared.fault.ScriptFault.{ScriptFault}
use Rattle.script_read.specs.declared.fault.ScriptFault.TheVariants.{BadLine, OutOfRange, TooLong}
use Rattle.script_read.specs.Script.{Line, Nothing, Says, IsBad, IsOutOfRange, before, line_then, script_from, script_by, is_too_long, script_of}
use Rattle.script_read.specs.Commands.{line_in}
use Rattle.script_read.specs.Laws.{IsRight, AreRight, IsFirstFault, IsFirstOf, FaultsAreFirst, said, all_said, SaysItsLines, SaysWhatItsLinesSay}

-- the fault that a line with this number has
abbrev IsFaultOf : {C : Type 0} → ℕ → Line C → ScriptFault → Type 0
IsFaultOf n IsBad fault = BadLine n ≡ fault
IsFaultOf n IsOutOfRange fault = OutOfRange n ≡ fault
IsFaultOf n _ fault = ⊥

-- from line `first` on, the first fault
record StandsFrom {C : Type 0} (reads : List ℕ → Line C) (first : ℕ) (fault : ScriptFault) (all : List (List ℕ)) : Type 0 where
  pub before : List (List ℕ)
  pub line : List ℕ
  pub behind : List (List ℕ)
  pub parts : all ≡ before ++ line ∷ behind
  pub right : AreRight reads before
  pub here : IsFaultOf (first + length before) (reads line) fault

before_err : {C : Type 0} (c : C) (rest : Result (List C) ScriptFault) (fault : ScriptFault) → before c rest ≡ Err fault → rest ≡ Err fault
before_err c (Ok commands) fault h = absurd cc
before_err c (Err e) fault h = h

-- the fault is this line's, or that of the lines after it
abbrev HereOrBehind : {C : Type 0} → ℕ → Line C → Result (List C) ScriptFault → ScriptFault → Type 0
HereOrBehind n line rest fault = IsFaultOf n line fault ⊎ (IsRight line × (rest ≡ Err fault))

here_or_behind : {C : Type 0} (n : ℕ) (line : Line C) (rest : Result (List C) ScriptFault) (fault : ScriptFault) → line_then n line rest ≡ Err fault → HereOrBehind n line rest fault
here_or_behind n Nothing rest fault h = inr (tt, h)
here_or_behind n (Says c) rest fault h = inr (tt, before_err c rest fault h)
here_or_behind {C} n IsBad rest fault h = inl (err_is (List C) (BadLine n) fault h)
here_or_behind {C} n IsOutOfRange rest fault h = inl (err_is (List C) (OutOfRange n) fault h)

add_none : (n : ℕ) → n + 0 ≡ n
add_none n = omega arith

one_on : (n k : ℕ) → (n + 1) + k ≡ n + suc k
one_on n k = omega arith

stands_behind : {C : Type 0} (reads : List ℕ → Line C) (n : ℕ) (fault : ScriptFault) (line : List ℕ) (rest : List (List ℕ)) → IsRight (reads line) → StandsFrom reads (n + 1) fault rest → StandsFrom reads n fault (line ∷ rest)
stands_behind reads n fault line rest right s = record {
  before = line ∷ s.before;
  line = s.line;
  behind = s.behind;
  parts = ap (λ (ls : List (List ℕ)). line ∷ ls) s.parts;
  right = (right, s.right);
  here = subst (λ (k : ℕ). IsFaultOf k (reads s.line) fault) (one_on n (length s.before)) s.here;
}

stands : {C : Type 0} (reads : List ℕ → Line C) (n : ℕ) (fault : ScriptFault) (all : List (List ℕ)) → script_from reads n all ≡ Err fault → StandsFrom reads n fault all
stands reads n fault [] h = absurd cc
stands reads n fault (line ∷ rest) h =
    elim (here_or_behind n (reads line) (script_from reads (n + 1) rest) fault h) [
      | inl here ↦ record { before = []; line = line; behind = rest; parts = refl; right = tt; here = subst (λ (k : ℕ). IsFaultOf k (reads line) fault) (sym (add_none n)) here }
      | inr later ↦ stands_behind reads n fault line rest later.0 (stands reads (n + 1) fault rest later.1)
    ]

-- a text that is refused for a line is not too long
lines_say : {C : Type 0} (reads : List ℕ → Line C) (long : Bool) (text : List ℕ) (fault : ScriptFault) → script_by long reads text ≡ Err fault → (TooLong ≡ fault) ⊎ (script_from reads 1 (lines text) ≡ Err fault)
lines_say {C} reads true text fault h = inl (err_is (List C) TooLong fault h)
lines_say reads false text fault h = inr h

bad_is : {C : Type 0} (n k : ℕ) (line : Line C) → IsFaultOf k line (BadLine n) → (line ≡ IsBad) × (n ≡ k)
bad_is n k IsBad h = (refl, cc)
bad_is n k IsOutOfRange h = absurd cc
bad_is n k _ h = absurd h

out_is : {C : Type 0} (n k : ℕ) (line : Line C) → IsFaultOf k line (OutOfRange n) → (line ≡ IsOutOfRange) × (n ≡ k)
out_is n k IsBad h = absurd cc
out_is n k IsOutOfRange h = (refl, cc)
out_is n k _ h = absurd h

first_of_lines : {C : Type 0} (reads : List ℕ → Line C) (n : ℕ) (what : Line C) (fault : ScriptFault) (all : List (List ℕ)) → ((k : ℕ) (line : Line C) → IsFaultOf k line fault → (line ≡ what) × (n ≡ k)) → StandsFrom reads 1 fault all → IsFirstFault reads n what all
first_of_lines reads n what fault all is s =
    let e = is (1 + length s.before) (reads s.line) s.here in
    record { before = s.before; line = s.line; behind = s.behind; parts = s.parts; number = omega (arith, e.1); right = s.right; fault = e.0 }

first_fault : {C : Type 0} (reads : List ℕ → Line C) (text : List ℕ) (n : ℕ) (what : Line C) (fault : ScriptFault) → ((k : ℕ) (line : Line C) → IsFaultOf k line fault → (line ≡ what) × (n ≡ k)) → (TooLong ≡ fault → ⊥) → script_of reads text ≡ Err fault → IsFirstFault reads n what (lines text)
first_fault reads text n what fault is other h =
    elim (lines_say reads (is_too_long text) text fault h) [
      | inl long ↦ absurd (other long)
      | inr say ↦ first_of_lines reads n what fault (lines text) is (stands reads 1 fault (lines text) say)
    ]

first_of : {C : Type 0} (reads : List ℕ → Line C) (text : List ℕ) → IsFirstOf reads text
first_of reads text = record {
  bad = λ n h. first_fault reads text n IsBad (BadLine n) (λ k line. bad_is n k line) (λ e. cc) h;
  out_of_range = λ n h. first_fault reads text n IsOutOfRange (OutOfRange n) (λ k line. out_is n k line) (λ e. cc) h;
}

pub faults_first : FaultsAreFirst
faults_first g text = first_of (line_in g) text

-- ---- commands

pub record SaysAll {C : Type 0} (reads : List ℕ → Line C) (all : List (List ℕ)) (commands : List C) : Type 0 where
  pub right : AreRight reads all
  pub said : commands ≡ all_said reads all

abbrev IsPutBefore : {C : Type 0} → C → Result (List C) ScriptFault → List C → Type 0
IsPutBefore {C} c rest commands = (more : List C) × (rest ≡ Ok more) × (commands ≡ c ∷ more)

before_ok : {C : Type 0} (c : C) (rest : Result (List C) ScriptFault) (commands : List C) → before c rest ≡ Ok commands → IsPutBefore c rest commands
before_ok c (Ok more) commands h = (more, refl, sym (ok_is ScriptFault (c ∷ more) commands h))
before_ok c (Err e) commands h = absurd cc

abbrev SaidBefore : {C : Type 0} → Line C → Result (List C) ScriptFault → List C → Type 0
SaidBefore {C} line rest commands = IsRight line × ((more : List C) × (rest ≡ Ok more) × (commands ≡ said line ++ more))

said_before : {C : Type 0} (n : ℕ) (line : Line C) (rest : Result (List C) ScriptFault) (commands : List C) → line_then n line rest ≡ Ok commands → SaidBefore line rest commands
said_before n Nothing rest commands h = (tt, (commands, h, refl))
said_before n (Says c) rest commands h = (tt, before_ok c rest commands h)
said_before n IsBad rest commands h = absurd cc
said_before n IsOutOfRange rest commands h = absurd cc

pub says_all : {C : Type 0} (reads : List ℕ → Line C) (n : ℕ) (all : List (List ℕ)) (commands : List C) → script_from reads n all ≡ Ok commands → SaysAll reads all commands
says_all reads n [] commands h = record { right = tt; said = sym (ok_is ScriptFault [] commands h) }
says_all {C} reads n (line ∷ rest) commands h =
    let b = said_before n (reads line) (script_from reads (n + 1) rest) commands h in
    let s = says_all reads (n + 1) rest b.1.0 b.1.1 in
    record { right = (b.0, s.right); said = b.1.2 ∙ ap (λ (cs : List C). said (reads line) ++ cs) s.said }

not_long : {C : Type 0} (reads : List ℕ → Line C) (long : Bool) (text : List ℕ) (commands : List C) → script_by long reads text ≡ Ok commands → script_from reads 1 (lines text) ≡ Ok commands
not_long reads true text commands h = absurd cc
not_long reads false text commands h = h

says_lines : {C : Type 0} (reads : List ℕ → Line C) → SaysItsLines reads
says_lines reads text commands h =
    let s = says_all reads 1 (lines text) commands (not_long reads (is_too_long text) text commands h) in
    (s.right, s.said)

pub says_its_lines : SaysWhatItsLinesSay
says_its_lines g = says_lines (line_in g)
