-- What a text says, by its lines.
use Rattle.std.specs.Prelude.{◌≡◌, ◌≢◌, refl, ◌<◌, ◌≤◌, ℕ, ◌+◌, Bool, nat_lt, List, [], ◌∷◌, ◌++◌, length, Option, Some, None, option_and_then, Result, Ok, Err, IfOk}
use Rattle.std.proofs.Common.{sym, ap, subst, ◌∙◌, inl, inr, arith}
use Rattle.std.proofs.lemmas.Bool.{cases_Bool, ltb-true, ltb-false}
use Rattle.std.specs.Str.Lines.{lines}
use Rattle.kd_base.specs.Limits.{longest_text}
use Rattle.kd_base.specs.ToolsLaws.{cases_option}
use Rattle.audit_trail.specs.declared.entry.Trail.{Trail}
use Rattle.audit_trail.specs.declared.fault.TrailFault.{TrailFault}
use Rattle.audit_trail.specs.declared.fault.TrailFault.TheVariants.{BadLine, TooLong, OtherGeneration, NotSuited, Memory}
use Rattle.audit_trail.specs.declared.place.Place.{Place}
use Rattle.audit_trail.specs.declared.place.Place.TheVariants.{First, Second, Rows, Made, Changing, Ended}
use Rattle.audit_trail.specs.Facts.{IsTrail, IsOrdered}
use Rattle.audit_trail.specs.Laws.{after_lines, IsStuck, IsFirstBad, FaultsAreFirst, LongTextsAreTooLong, NoOtherFaults, SaysWhatItsLinesSay, ReadTrailsAreTrails}
use Rattle.audit_trail.specs.Places.{at_end, then_from, after_line, trail_from, trail_by, trail_in}
use Rattle.audit_trail.specs.Reading.{Gives}
use Rattle.audit_trail.specs.SaidLaws.{after_keeps}

abbrev fault_of : TrailFault → Result Trail TrailFault
fault_of fault = Err fault

-- ---- one line after another

-- a text of these lines from a place on: a trail, or stuck at a line
data Ends (place : Place) (number : ℕ) (all : List (List ℕ)) (said : Result Trail TrailFault) : Type 0 where
  Whole : (trail : Trail) → after_lines place all ≡ Some (Ended trail) → said ≡ Ok trail → Ends place number all said
  Stuck : (before behind : List (List ℕ)) (there : Place) → all ≡ before ++ behind → after_lines place before ≡ Some there → IsStuck there behind → said ≡ fault_of (BadLine (number + length before)) → Ends place number all said

bad_at : (number : ℕ) → fault_of (BadLine number) ≡ fault_of (BadLine (number + 0))
bad_at number = let here : number ≡ number + 0 = omega arith in ap (λ (n : ℕ). fault_of (BadLine n)) here

no_more : (p : Place) (number : ℕ) → Ends p number [] (at_end number p)
no_more First number = Stuck [] [] First refl refl (λ trail e. cc e) (bad_at number)
no_more (Second fingerprint) number = Stuck [] [] (Second fingerprint) refl refl (λ trail e. cc e) (bad_at number)
no_more (Rows fingerprint start) number = Stuck [] [] (Rows fingerprint start) refl refl (λ trail e. cc e) (bad_at number)
no_more (Made trail by) number = Stuck [] [] (Made trail by) refl refl (λ trail e. cc e) (bad_at number)
no_more (Changing trail entry) number = Stuck [] [] (Changing trail entry) refl refl (λ trail e. cc e) (bad_at number)
no_more (Ended trail) number = Whole trail refl refl

abbrev then_lines : List (List ℕ) → Place → Option Place
then_lines rest next = after_lines next rest

one_more : (p next : Place) (number : ℕ) (line : List ℕ) (rest : List (List ℕ)) → after_line p line ≡ Some next → Ends next (number + 1) rest (trail_from next (number + 1) rest) → Ends p number (line ∷ rest) (trail_from p number (line ∷ rest))
one_more p next number line rest e (Whole trail reached said) =
    Whole trail (ap (option_and_then (then_lines rest)) e ∙ reached) (ap (λ (o : Option Place). then_from number o (λ (q : Place). trail_from q (number + 1) rest)) e ∙ said)
one_more p next number line rest e (Stuck before behind there parts reached stuck said) =
    let far : number + 1 + length before ≡ number + length (line ∷ before) = omega arith in
    Stuck (line ∷ before) behind there (ap (λ (l : List (List ℕ)). line ∷ l) parts) (ap (option_and_then (then_lines before)) e ∙ reached) stuck
    (ap (λ (o : Option Place). then_from number o (λ (q : Place). trail_from q (number + 1) rest)) e ∙ said ∙ ap (λ (n : ℕ). fault_of (BadLine n)) far)

stuck_here : (p : Place) (number : ℕ) (line : List ℕ) (rest : List (List ℕ)) → after_line p line ≡ None → Ends p number (line ∷ rest) (trail_from p number (line ∷ rest))
stuck_here p number line rest e =
    Stuck [] (line ∷ rest) p refl refl e (ap (λ (o : Option Place). then_from number o (λ (q : Place). trail_from q (number + 1) rest)) e ∙ bad_at number)

ends : (p : Place) (number : ℕ) (all : List (List ℕ)) → Ends p number all (trail_from p number all)
ends p number [] = no_more p number
ends p number (line ∷ rest) =
    elim (cases_option (after_line p line)) [
      | inl none ↦ stuck_here p number line rest none
      | inr some ↦ one_more p some.0 number line rest some.1 (ends some.0 (number + 1) rest)
    ]

-- ---- texts

-- a text of any length
by_length : (P : Result Trail TrailFault → Type 0) (text : List ℕ) → (longest_text < length text → P (fault_of TooLong)) → (length text ≤ longest_text → P (trail_from First 1 (lines text))) → P (trail_in text)
by_length P text long short =
    elim (cases_Bool (nat_lt longest_text (length text))) [
      | inl h ↦ subst (λ (b : Bool). P (trail_by b text)) (sym h) (long (ltb-true longest_text (length text) h))
      | inr h ↦ subst (λ (b : Bool). P (trail_by b text)) (sym h) (short (ltb-false longest_text (length text) h))
    ]

first_bad : (number : ℕ) (all : List (List ℕ)) (said : Result Trail TrailFault) → Ends First 1 all said → said ≡ fault_of (BadLine number) → IsFirstBad number all
first_bad number all said (Whole trail reached is) e = absurd (cc (sym is ∙ e))
first_bad number all said (Stuck before behind there parts reached stuck is) e =
    let same : BadLine (1 + length before) ≡ BadLine number = cc (sym is ∙ e) in
    let count : 1 + length before ≡ number = cc same in
    record { before = before; behind = behind; place = there; parts = parts; count = omega (arith, count); reached = reached; stuck = stuck }

pub faults_are_first : FaultsAreFirst
faults_are_first text number =
    by_length (λ r. r ≡ fault_of (BadLine number) → IsFirstBad number (lines text)) text
    (λ long e. absurd (cc e))
    (λ short e. first_bad number (lines text) _ (ends First 1 (lines text)) e)

-- the faults that lines have
abbrev IsOfLine : Result Trail TrailFault → Type 0
IsOfLine (Ok trail) = Unit {0}
IsOfLine (Err (BadLine number)) = Unit {0}
IsOfLine (Err TooLong) = ⊥
IsOfLine (Err (OtherGeneration number)) = ⊥
IsOfLine (Err (NotSuited number)) = ⊥
IsOfLine (Err Memory) = ⊥

of_line : (p : Place) (number : ℕ) (all : List (List ℕ)) (said : Result Trail TrailFault) → Ends p number all said → IsOfLine said
of_line p number all said (Whole trail reached is) = subst IsOfLine (sym is) tt
of_line p number all said (Stuck before behind there parts reached stuck is) = subst IsOfLine (sym is) tt

lines_alone : (text : List ℕ) → IsOfLine (trail_from First 1 (lines text))
lines_alone text = of_line First 1 (lines text) _ (ends First 1 (lines text))

pub long_texts : LongTextsAreTooLong
long_texts text = (
  by_length (λ r. r ≡ fault_of TooLong → longest_text < length text) text (λ long e. long) (λ short e. absurd (subst IsOfLine e (lines_alone text))),
  λ long. by_length (λ r. r ≡ fault_of TooLong) text (λ h. refl) (λ short. absurd (omega (arith, long, short))),
)

pub no_other_faults : NoOtherFaults
no_other_faults text = (
  (λ number. by_length (λ r. r ≢ fault_of (OtherGeneration number)) text (λ h e. cc e) (λ short e. subst IsOfLine e (lines_alone text))),
  (λ number. by_length (λ r. r ≢ fault_of (NotSuited number)) text (λ h e. cc e) (λ short e. subst IsOfLine e (lines_alone text))),
  by_length (λ r. r ≢ fault_of Memory) text (λ h e. cc e) (λ short e. subst IsOfLine e (lines_alone text)),
)

whole_of : (all : List (List ℕ)) (said : Result Trail TrailFault) (trail : Trail) → Ends First 1 all said → said ≡ Ok trail → after_lines First all ≡ Some (Ended trail)
whole_of all said trail (Whole other reached is) e = let same : other ≡ trail = cc (sym is ∙ e) in reached ∙ ap (λ (t : Trail). Some (Ended t)) same
whole_of all said trail (Stuck before behind there parts reached stuck is) e = absurd (cc (sym is ∙ e))

pub says_what_its_lines_say : SaysWhatItsLinesSay
says_what_its_lines_say text trail =
    by_length (λ r. r ≡ Ok trail → after_lines First (lines text) ≡ Some (Ended trail)) text
    (λ long e. absurd (cc e))
    (λ short e. whole_of (lines text) _ trail (ends First 1 (lines text)) e)

all_keep : (p q : Place) (all : List (List ℕ)) → IsOrdered p → after_lines p all ≡ Some q → IsOrdered q
all_keep p q [] h e = subst IsOrdered (cc e) h
all_keep p q (line ∷ rest) h e =
    elim (cases_option (after_line p line)) [
      | inl none ↦ absurd (cc (sym (ap (option_and_then (then_lines rest)) none) ∙ e))
      | inr some ↦ all_keep some.0 q rest (after_keeps p line some.0 h some.1) (sym (ap (option_and_then (then_lines rest)) some.1) ∙ e)
    ]

lines_of_trails : (all : List (List ℕ)) (trail : Trail) → trail_from First 1 all ≡ Ok trail → IsTrail trail
lines_of_trails all trail e = all_keep First (Ended trail) all tt (whole_of all _ trail (ends First 1 all) e)

pub read_trails_are_trails : ReadTrailsAreTrails
read_trails_are_trails text trail = by_length (λ r. r ≡ Ok trail → IsTrail trail) text (λ long e. absurd (cc e)) (λ short e. lines_of_trails (lines text) trail e)

-- so is what was read of lines
pub what_is_read : (all : List (List ℕ)) (r : Result Trail TrailFault) → Gives r (trail_from First 1 all) → IfOk r IsTrail
what_is_read all (Ok trail) e = lines_of_trails all trail e
what_is_read all (Err fault) e = tt
