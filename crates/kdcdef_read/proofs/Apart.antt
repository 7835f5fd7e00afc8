-- No two MAX statements that are read give the same operand.
use Rattle.std.proofs.Common.{◌≡◌, ◌⊎◌, ℕ, Bool, true, false, cond, List, [], ◌∷◌, ◌++◌, length, Option, Some, None, Ok, refl, sym, ap, ◌∙◌, subst, arith, inl, inr}
use Rattle.std.specs.Prelude.{is_some}
use Rattle.std.specs.List.{All}
use Rattle.std.proofs.lemmas.List.Elements.{All-nil, All-cons}
use Rattle.std.specs.Option.{option_or}
use Rattle.kd_base.specs.ToolsLaws.{some_is, ok_is, or_none}
use Rattle.texts.specs.declared.kdcdef_lex.statement.RawOperand.{RawOperand}
use Rattle.texts.specs.declared.kdcdef_lex.statement.RawStatement.{RawStatement}
use Rattle.texts.specs.Bounds.{AreWithinBounds}
use Rattle.application_types.specs.declared.kdcdef_types.statement.MaxOperands.{MaxOperands}
use Rattle.application_types.specs.declared.kdcdef_types.statement.Said.{Said}
use Rattle.application_types.specs.declared.kdcdef_types.statement.Said.TheVariants.{Max, Passed, End}
use Rattle.application_types.specs.declared.kdcdef_types.statement.Statement.{Statement}
use Rattle.application_types.specs.Statements.{NotBoth, AreApart, SayApart, NoMaxTwice, AreRead}
use Rattle.kdcdef_read.specs.declared.fault.ReadFault.{ReadFault}
use Rattle.kdcdef_read.specs.declared.rows.Row.{Row}
use Rattle.kdcdef_read.specs.declared.value.Value.{Value}
use Rattle.kdcdef_read.specs.declared.words.Keyword.TheVariants as keywords
use Rattle.kdcdef_read.specs.declared.words.Form.{Form}
use Rattle.kdcdef_read.specs.declared.words.Form.TheVariants as forms
use Rattle.kdcdef_read.specs.declared.words.Key.{Key}
use Rattle.kdcdef_read.specs.declared.words.Key.TheVariants as keys
use Rattle.kdcdef_read.specs.Words.{form_of}
use Rattle.kdcdef_read.specs.Table.{row_of}
use Rattle.kdcdef_read.specs.KeySets.{key_set_of}
use Rattle.kdcdef_read.specs.Operands.{same_key, operand_key, row_says, key_says, said_from, said, row_cause, key_cause, operand_cause, cause_from, first_cause, answer_of, default_in}
use Rattle.kdcdef_read.specs.Said.{name_at, number_at, redelivery_at, flag_at, max_said, pterm_of}
use Rattle.kdcdef_read.specs.Meaning.{statement, shared, form_says, Say, StandFor}
use Rattle.kdcdef_read.proofs.Keys.{same_key_is}
use Rattle.kdcdef_read.proofs.Filled.{both_none, some_or_first, said_more_max, said_append_max}
use Rattle.kdcdef_read.proofs.Ranges.{kept_is, program_is, tac_is, user_is, pterm_is, lterm_is, tls_is, uls_is, class_is, kset_is, all_in_range, all_in_lines, few_are_passed}

-- ---- operands

-- whether the operands of MAX say something for a key
abbrev Given : Key → List RawOperand → Type 0
Given key os = is_some (said keywords.Max key os) ≡ true

-- an operand that is not refused says nothing for a key that was given
silent : (key : Key) (before : List RawOperand) (o : RawOperand) (k : Option Key) → Given key before → key_cause keywords.Max before o k ≡ None → key_says keywords.Max key o k ≡ None
silent key before o None given fine = refl
silent key before o (Some k) given fine = by_same (same_key k key) refl
  where
    by_row : (r : Option Row) → row_cause true o r ≡ None → row_says o r ≡ None
    by_row None h = refl
    by_row (Some row) h = absurd cc

    by_same : (b : Bool) → same_key k key ≡ b → cond b (row_says o (row_of keywords.Max key)) None ≡ None
    by_same false h = refl
    by_same true h =
        let C : Key → Type 0 = λ x. row_cause (is_some (said keywords.Max x before)) o (row_of keywords.Max x) ≡ None in
        let T : Bool → Type 0 = λ b. row_cause b o (row_of keywords.Max key) ≡ None in
        by_row (row_of keywords.Max key) (subst T given (subst C (same_key_is k key h) fine))

still_given : (key : Key) (before : List RawOperand) (o : RawOperand) (first : Bool) → Given key before → Given key (before ++ o ∷ [])
still_given key before o first given =
    let T : Option Value → Type 0 = λ x. is_some x ≡ true in
    subst T (sym (said_more_max first before key o)) (some_or_first (said keywords.Max key before) (key_says keywords.Max key o (operand_key first o)) given)

all_silent : (first : Bool) (key : Key) (before os : List RawOperand) → Given key before → cause_from first keywords.Max before os ≡ None → said_from first keywords.Max key os ≡ None
all_silent first key before [] given fine = refl
all_silent first key before (o ∷ os) given fine =
    let b = both_none (operand_cause first keywords.Max before o) (cause_from false keywords.Max (before ++ o ∷ []) os) fine in
    ap (λ (x : Option Value). option_or x (said_from false keywords.Max key os)) (silent key before o (operand_key first o) given b.0)
    ∙ all_silent false key (before ++ o ∷ []) os (still_given key before o first given) b.1

-- ---- two statements

abbrev Behind : List RawOperand → List RawOperand → Type 0
Behind os before = (key : Key) → Given key os → Given key before

given_or : (key : Key) (os before later : List RawOperand) → Behind os before → first_cause keywords.Max before later ≡ None → (said keywords.Max key os ≡ None) ⊎ (said keywords.Max key later ≡ None)
given_or key os before later behind fine = by_said (said keywords.Max key os) refl
  where
    by_said : (x : Option Value) → said keywords.Max key os ≡ x → (said keywords.Max key os ≡ None) ⊎ (said keywords.Max key later ≡ None)
    by_said None e = inl e
    by_said (Some v) e = inr (all_silent true key before later (behind key (ap (λ (x : Option Value). is_some x) e)) fine)

not_none : {A : Type 0} (b : Option A) → NotBoth None b
not_none None = tt
not_none (Some y) = tt

none_not : {A : Type 0} (a : Option A) → NotBoth a None
none_not None = tt
none_not (Some x) = tt

-- what a MAX statement says has no defaults
no_default : (key : Key) → default_in (row_of keywords.Max key) ≡ None
no_default keys.First = refl
no_default key = refl

plain : (key : Key) (os : List RawOperand) → answer_of keywords.Max os key ≡ said keywords.Max key os
plain key os = ap (option_or (said keywords.Max key os)) (no_default key) ∙ or_none (said keywords.Max key os)

apart_at : {A : Type 0} (f : Option Value → Option A) (key : Key) (os before later : List RawOperand) → f None ≡ None → Behind os before → first_cause keywords.Max before later ≡ None → NotBoth (f (answer_of keywords.Max os key)) (f (answer_of keywords.Max later key))
apart_at {A} f key os before later none behind fine =
    elim (given_or key os before later behind fine) [
      | inl h ↦
          let P : Option A → Type 0 = λ x. NotBoth x (f (answer_of keywords.Max later key)) in
          subst P (sym (ap f (plain key os ∙ h) ∙ none)) (not_none (f (answer_of keywords.Max later key)))
      | inr h ↦
          let P : Option A → Type 0 = λ x. NotBoth (f (answer_of keywords.Max os key)) x in
          subst P (sym (ap f (plain key later ∙ h) ∙ none)) (none_not (f (answer_of keywords.Max os key)))
    ]

max_apart : (os before later : List RawOperand) → Behind os before → first_cause keywords.Max before later ≡ None → SayApart (max_said (answer_of keywords.Max os)) (max_said (answer_of keywords.Max later))
max_apart os before later behind fine = record {
  appliname = apart_at name_at keys.Appliname os before later refl behind fine;
  tasks = apart_at number_at keys.Tasks os before later refl behind fine;
  asyntasks = apart_at number_at keys.Asyntasks os before later refl behind fine;
  gssbs = apart_at number_at keys.Gssbs os before later refl behind fine;
  lssbs = apart_at number_at keys.Lssbs os before later refl behind fine;
  kb = apart_at number_at keys.Kb os before later refl behind fine;
  spab = apart_at number_at keys.Spab os before later refl behind fine;
  nb = apart_at number_at keys.Nb os before later refl behind fine;
  pgpool = apart_at number_at keys.Pgpool os before later refl behind fine;
  reswait = apart_at number_at keys.Reswait os before later refl behind fine;
  blksize = apart_at number_at keys.Blksize os before later refl behind fine;
  redelivery = apart_at redelivery_at keys.Redelivery os before later refl behind fine;
  double = apart_at flag_at keys.KdcFile os before later refl behind fine;
}

-- ---- which statements say MAX

pterm_not : (name : List ℕ) (lterm : Option (List ℕ)) (m : MaxOperands) → pterm_of name lterm ≡ Max m → ⊥
pterm_not name None m e = cc
pterm_not name (Some lterm) m e = cc

-- a statement that says MAX is one
record IsMax (own : List RawOperand) (r : RawStatement) (form : Option Form) (m : MaxOperands) : Type 0 where
  kept : form ≡ Some (forms.Kept keywords.Max)
  cause : first_cause keywords.Max own r.operands ≡ None
  said : max_said (answer_of keywords.Max r.operands) ≡ Max m

max_is : (own : List RawOperand) (r : RawStatement) (form : Option Form) (s : Statement) (m : MaxOperands) → form_says own r form ≡ Ok s → s.said ≡ Max m → IsMax own r form m
max_is own r None s m e is = absurd cc
max_is own r (Some forms.Passed) s m e is =
    let h = ap (λ (x : Statement). x.said) (ok_is ReadFault (statement r.line 0 Passed) s e) in absurd (cc (h, is))
max_is own r (Some forms.End) s m e is =
    let h = ap (λ (x : Statement). x.said) (ok_is ReadFault (statement r.line (length r.operands) End) s e) in absurd (cc (h, is))
max_is own r (Some (forms.Kept keywords.Max)) s m e is =
    let k = kept_is keywords.Max own r s e in
    record { kept = refl; cause = k.cause; said = some_is (max_said (answer_of keywords.Max r.operands)) s.said k.said ∙ is }
max_is own r (Some (forms.Kept keywords.Program)) s m e is = let h = program_is (answer_of keywords.Program r.operands) s.said (kept_is keywords.Program own r s e).said in absurd (cc (h.1, is))
max_is own r (Some (forms.Kept keywords.Tac)) s m e is = let h = tac_is (answer_of keywords.Tac r.operands) s.said (kept_is keywords.Tac own r s e).said in absurd (cc (h.3, is))
max_is own r (Some (forms.Kept keywords.User)) s m e is = let h = user_is (answer_of keywords.User r.operands) s.said (kept_is keywords.User own r s e).said in absurd (cc (h.2, is))
max_is own r (Some (forms.Kept keywords.Pterm)) s m e is =
    let h = pterm_is (answer_of keywords.Pterm r.operands) s.said (kept_is keywords.Pterm own r s e).said in
    absurd (pterm_not h.0 (name_at (answer_of keywords.Pterm r.operands keys.Lterm)) m (h.1 ∙ is))
max_is own r (Some (forms.Kept keywords.Lterm)) s m e is = let h = lterm_is (answer_of keywords.Lterm r.operands) s.said (kept_is keywords.Lterm own r s e).said in absurd (cc (h.2, is))
max_is own r (Some (forms.Kept keywords.Tls)) s m e is = let h = tls_is (answer_of keywords.Tls r.operands) s.said (kept_is keywords.Tls own r s e).said in absurd (cc (h.1, is))
max_is own r (Some (forms.Kept keywords.Uls)) s m e is = let h = uls_is (answer_of keywords.Uls r.operands) s.said (kept_is keywords.Uls own r s e).said in absurd (cc (h.1, is))
max_is own r (Some (forms.Kept keywords.TacClass)) s m e is = let h = class_is (answer_of keywords.TacClass r.operands) s.said (kept_is keywords.TacClass own r s e).said in absurd (cc (h.4, is))
max_is own r (Some (forms.Kept keywords.Kset)) s m e is = let h = kset_is (answer_of keywords.Kset r.operands) (key_set_of r.operands) s.said (kept_is keywords.Kset own r s e).said in absurd (cc (h.3, is))

apart_unless : (a b : Said) → ((m n : MaxOperands) → a ≡ Max m → b ≡ Max n → AreApart m n) → SayApart a b
apart_unless (Max m) (Max n) h = h m n refl refl
apart_unless a b h = tt

-- ---- all statements

behind_more : (os before more : List RawOperand) → Behind os before → Behind os (before ++ more)
behind_more os before more behind key given =
    let T : Option Value → Type 0 = λ x. is_some x ≡ true in
    subst T (sym (said_append_max key before more)) (some_or_first (said keywords.Max key before) (said keywords.Max key more) (behind key given))

-- a statement that says the operands os of MAX is apart from all after them
apart_from : (said : Said) (os before : List RawOperand) (rs : List RawStatement) (ss : List Statement) → ((m : MaxOperands) → said ≡ Max m → (max_said (answer_of keywords.Max os) ≡ Max m) × Behind os before) → Say before rs ss → All (λ (t : Statement). SayApart said t.said) ss
apart_from said os before [] [] owns say = All-nil (λ (t : Statement). SayApart said t.said)
apart_from said os before [] (s ∷ ss) owns say = absurd say
apart_from said os before (r ∷ rs) [] owns say = absurd say
apart_from said os before (r ∷ rs) (s ∷ ss) owns say =
    All-cons (λ (t : Statement). SayApart said t.said) s ss
    (apart_unless said s.said (λ m n a b.
    let o = owns m a in
    let k = max_is (shared (form_of r.keyword) before) r (form_of r.keyword) s n say.0 b in
    let C : Option Form → Type 0 = λ f. first_cause keywords.Max (shared f before) r.operands ≡ None in
    let fine = subst C k.kept k.cause in
    let P : Said → Type 0 = λ x. SayApart x (max_said (answer_of keywords.Max r.operands)) in
    let Q : Said → Type 0 = λ x. SayApart (Max m) x in
    subst Q k.said (subst P o.0 (max_apart os before r.operands o.1 fine))))
    (apart_from said os (before ++ shared (form_of r.keyword) r.operands) rs ss
    (λ m a. let o = owns m a in (o.0, behind_more os before (shared (form_of r.keyword) r.operands) o.1)) say.1)

behind_own : (os before : List RawOperand) → Behind os (before ++ os)
behind_own os before key given =
    let T : Option Value → Type 0 = λ x. is_some x ≡ true in
    subst T (sym (said_append_max key before os)) (given_last (said keywords.Max key before) (said keywords.Max key os) given)
  where
    given_last : (a b : Option Value) → is_some b ≡ true → is_some (option_or a b) ≡ true
    given_last None b h = h
    given_last (Some v) b h = refl

pub no_max_twice : (before : List RawOperand) (rs : List RawStatement) (ss : List Statement) → Say before rs ss → NoMaxTwice ss
no_max_twice before [] [] say = tt
no_max_twice before [] (s ∷ ss) say = absurd say
no_max_twice before (r ∷ rs) [] say = absurd say
no_max_twice before (r ∷ rs) (s ∷ ss) say = (
  apart_from s.said r.operands (before ++ shared (form_of r.keyword) r.operands) rs ss
      (λ m a.
      let k = max_is (shared (form_of r.keyword) before) r (form_of r.keyword) s m say.0 a in
      let B : Option Form → Type 0 = λ f. Behind r.operands (before ++ shared f r.operands) in
      (k.said, subst B (sym k.kept) (behind_own r.operands before)))
      say.1,
  no_max_twice (before ++ shared (form_of r.keyword) r.operands) rs ss say.1,
)

-- what the next reader may rely on
pub are_read : (rs : List RawStatement) (ss : List Statement) → AreWithinBounds rs → StandFor rs ss → AreRead ss
are_read rs ss within stand = record {
  ranges = all_in_range [] rs ss stand.0;
  lines = all_in_lines [] rs ss within.lines stand.0;
  ends = stand.1;
  max = no_max_twice [] rs ss stand.0;
  passed = omega (arith, few_are_passed [] rs ss stand.0, within.operands);
}
