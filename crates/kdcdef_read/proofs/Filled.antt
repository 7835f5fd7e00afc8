-- What was read from left to right is what the operands say, and the first cause is theirs.
use Rattle.std.proofs.Common.{◌≡◌, ◌≢◌, ◌⊎◌, ℕ, ◌+◌, Bool, true, false, cond, List, [], ◌∷◌, ◌++◌, length, set, Option, Some, None, Result, Ok, Err, refl, sym, ap, ◌∙◌, subst, arith, inl, inr}
use Rattle.std.proofs.Common.{length-set, eq-eqb, append_assoc}
use Rattle.std.specs.Prelude.{is_some}
use Rattle.std.proofs.lemmas.Bool.{cases_Bool, false≢true}
use Rattle.std.specs.Option.{option_or}
use Rattle.kd_base.specs.Tools.{◌>>=◌}
use Rattle.kd_base.specs.ToolsLaws.{chosen, bind_ok, bind_err, ok_is, err_is, some_of, or_none, or_or, none_is}
use Rattle.texts.specs.declared.kdcdef_lex.statement.RawOperand.{RawOperand}
use Rattle.kdcdef_read.specs.declared.fault.Cause.{Cause}
use Rattle.kdcdef_read.specs.declared.fault.Cause.TheVariants.{OperandTwice}
use Rattle.kdcdef_read.specs.declared.operands.Given.{Given}
use Rattle.kdcdef_read.specs.declared.words.Keyword.{Keyword}
use Rattle.kdcdef_read.specs.declared.words.Keyword.TheVariants as keywords
use Rattle.kdcdef_read.specs.declared.words.Key.{Key}
use Rattle.kdcdef_read.specs.declared.words.Key.TheVariants as keys
use Rattle.kdcdef_read.specs.declared.rows.Row.{Row}
use Rattle.kdcdef_read.specs.declared.value.Value.{Value}
use Rattle.kdcdef_read.specs.Words.{place_of}
use Rattle.kdcdef_read.specs.Table.{row_of}
use Rattle.kdcdef_read.specs.Values.{value_of}
use Rattle.kdcdef_read.specs.Operands.{same_key, key_in, operand_key, key_says, said_from, said, is_kept, passed_from, row_cause, key_cause, cause_from}
use Rattle.kdcdef_read.specs.Filling.{slot_at, is_taken, put, pass, with_kept, with_key, with_operand, with_operands}
use Rattle.kdcdef_read.proofs.Keys.{same_key_is}
use Rattle.kdcdef_read.proofs.Slots.{slot_same, slot_other, taken_same, taken_other}

-- ---- what may be given

some_or : {A : Type 0} (o : Option A) (v : A) → is_some (option_or o (Some v)) ≡ true
some_or None v = refl
some_or (Some w) v = refl

pub both_none : {A : Type 0} (a b : Option A) → option_or a b ≡ None → (a ≡ None) × (b ≡ None)
both_none None b e = (refl, e)
both_none (Some v) b e = absurd cc

-- ---- the first operand

-- no operand is before
abbrev pub begins : List RawOperand → Bool
begins [] = true
begins (o ∷ os) = false

-- `first` says whether operands are before; only for MAX, where others may, it need not
abbrev pub Fits : Bool → Keyword → List RawOperand → Type 0
Fits first keyword before = (first ≡ begins before) ⊎ (keyword ≡ keywords.Max)

no_first : (key : Key) (o : RawOperand) → key_says keywords.Max key o (Some keys.First) ≡ None
no_first keys.First o = refl
no_first key o = refl

first_or_not : (key : Key) (o : RawOperand) (k : Option (List ℕ)) (f g : Bool) → key_says keywords.Max key o (key_in f k) ≡ key_says keywords.Max key o (key_in g k)
first_or_not key o (Some word) f g = refl
first_or_not key o None true true = refl
first_or_not key o None true false = no_first key o
first_or_not key o None false true = sym (no_first key o)
first_or_not key o None false false = refl

more_from : (keyword : Keyword) (key : Key) (os : List RawOperand) (o : RawOperand) → said_from false keyword key (os ++ o ∷ []) ≡ option_or (said_from false keyword key os) (key_says keyword key o (operand_key false o))
more_from keyword key [] o = or_none (key_says keyword key o (operand_key false o))
more_from keyword key (p ∷ os) o =
    ap (option_or (key_says keyword key p (operand_key false p))) (more_from keyword key os o)
    ∙ sym (or_or (key_says keyword key p (operand_key false p)) (said_from false keyword key os) (key_says keyword key o (operand_key false o)))

more : (keyword : Keyword) (key : Key) (os : List RawOperand) (o : RawOperand) → said keyword key (os ++ o ∷ []) ≡ option_or (said keyword key os) (key_says keyword key o (operand_key (begins os) o))
more keyword key [] o = or_none (key_says keyword key o (operand_key true o))
more keyword key (p ∷ os) o =
    ap (option_or (key_says keyword key p (operand_key true p))) (more_from keyword key os o)
    ∙ sym (or_or (key_says keyword key p (operand_key true p)) (said_from false keyword key os) (key_says keyword key o (operand_key false o)))

fits_says : (first : Bool) (keyword : Keyword) (before : List RawOperand) (key : Key) (o : RawOperand) → Fits first keyword before → key_says keyword key o (operand_key (begins before) o) ≡ key_says keyword key o (operand_key first o)
fits_says first keyword before key o (inl e) = ap (λ (f : Bool). key_says keyword key o (operand_key f o)) (sym e)
fits_says first keyword before key o (inr e) =
    let P : Keyword → Type 0 = λ k. key_says k key o (operand_key (begins before) o) ≡ key_says k key o (operand_key first o) in
    subst P (sym e) (first_or_not key o o.key (begins before) first)

-- what is said once an operand was added
said_more : (first : Bool) (keyword : Keyword) (before : List RawOperand) (key : Key) (o : RawOperand) → Fits first keyword before → said keyword key (before ++ o ∷ []) ≡ option_or (said keyword key before) (key_says keyword key o (operand_key first o))
said_more first keyword before key o fits =
    more keyword key before o ∙ ap (option_or (said keyword key before)) (fits_says first keyword before key o fits)

begins_not : (before : List RawOperand) (o : RawOperand) → begins (before ++ o ∷ []) ≡ false
begins_not [] o = refl
begins_not (p ∷ before) o = refl

fits_more : (first : Bool) (keyword : Keyword) (before : List RawOperand) (o : RawOperand) → Fits first keyword before → Fits false keyword (before ++ o ∷ [])
fits_more first keyword before o fits = inl (sym (begins_not before o))

pub said_more_max : (first : Bool) (before : List RawOperand) (key : Key) (o : RawOperand) → said keywords.Max key (before ++ o ∷ []) ≡ option_or (said keywords.Max key before) (key_says keywords.Max key o (operand_key first o))
said_more_max first before key o = said_more first keywords.Max before key o (inr refl)

-- MAX says the same wherever its operands begin
max_from : (key : Key) (os : List RawOperand) (f g : Bool) → said_from f keywords.Max key os ≡ said_from g keywords.Max key os
max_from key [] f g = refl
max_from key (o ∷ os) f g = ap (λ (x : Option Value). option_or x (said_from false keywords.Max key os)) (first_or_not key o o.key f g)

max_append : (key : Key) (f : Bool) (before os : List RawOperand) → said_from f keywords.Max key (before ++ os) ≡ option_or (said_from f keywords.Max key before) (said keywords.Max key os)
max_append key f [] os = max_from key os f true
max_append key f (o ∷ before) os =
    ap (option_or (key_says keywords.Max key o (operand_key f o))) (max_append key false before os)
    ∙ sym (or_or (key_says keywords.Max key o (operand_key f o)) (said_from false keywords.Max key before) (said keywords.Max key os))

pub said_append_max : (key : Key) (before os : List RawOperand) → said keywords.Max key (before ++ os) ≡ option_or (said keywords.Max key before) (said keywords.Max key os)
said_append_max key before os = max_append key true before os

pub some_or_first : (a b : Option Value) → is_some a ≡ true → is_some (option_or a b) ≡ true
some_or_first None b h = absurd cc
some_or_first (Some v) b h = refl

-- ---- one operand

-- what was given is what the operands before say
pub record IsGiven (keyword : Keyword) (before : List RawOperand) (given : Given) : Type 0 where
  pub slots : length given.slots ≡ 28
  pub keys : length given.taken ≡ 28
  pub taken : (key : Key) → is_taken given.taken key ≡ is_some (said keyword key before)
  pub free : (key : Key) → said keyword key before ≡ None → slot_at given.slots key ≡ None

-- what an operand with this key adds
record IsNext (keyword : Keyword) (before : List RawOperand) (given : Given) (o : RawOperand) (k : Option Key) (next : Given) : Type 0 where
  cause : key_cause keyword before o k ≡ None
  says : (key : Key) → slot_at next.slots key ≡ option_or (slot_at given.slots key) (key_says keyword key o k)
  taken : (key : Key) → is_taken next.taken key ≡ is_some (option_or (said keyword key before) (key_says keyword key o k))
  passed : next.passed ≡ given.passed + cond (is_kept keyword k) 0 1
  slots : length next.slots ≡ 28
  keys : length next.taken ≡ 28

-- where it is passed over
passes : (keyword : Keyword) (before : List RawOperand) (given : Given) (o : RawOperand) (k : Option Key) → IsGiven keyword before given → key_cause keyword before o k ≡ None → ((key : Key) → key_says keyword key o k ≡ None) → is_kept keyword k ≡ false → IsNext keyword before given o k (pass given)
passes keyword before given o k g cause nothing kept = record {
  cause = cause;
  says = λ key. rw (nothing key) (sym (or_none (slot_at given.slots key)));
  taken = λ key. rw (nothing key, or_none (said keyword key before)) (g.taken key);
  passed = rw kept refl;
  slots = g.slots;
  keys = g.keys;
}

says_nothing : (keyword : Keyword) (k key : Key) (o : RawOperand) → row_of keyword k ≡ None → key_says keyword key o (Some k) ≡ None
says_nothing keyword k key o none =
    elim (cases_Bool (same_key k key)) [
      | inl h ↦ rw (h, ap (row_of keyword) (sym (same_key_is k key h)) ∙ none) refl
      | inr h ↦ rw h refl
    ]

says_own : (keyword : Keyword) (k : Key) (o : RawOperand) (row : Row) (v : Value) → row_of keyword k ≡ Some row → value_of row.kind o.value ≡ Ok v → key_says keyword k o (Some k) ≡ Some v
says_own keyword k o row v r read = rw (eq-eqb (place_of k) (place_of k) refl, r, read) refl

says_other : (keyword : Keyword) (k key : Key) (o : RawOperand) → same_key k key ≡ false → key_says keyword key o (Some k) ≡ None
says_other keyword k key o h = rw h refl

apart : (k key : Key) → same_key k key ≡ false → place_of key ≢ place_of k
apart k key h e = false≢true (sym h ∙ eq-eqb (place_of k) (place_of key) (sym e))

put_next : (keyword : Keyword) (before : List RawOperand) (given : Given) (o : RawOperand) (k : Key) (row : Row) (v : Value) → IsGiven keyword before given → row_of keyword k ≡ Some row → is_taken given.taken k ≡ false → value_of row.kind o.value ≡ Ok v → IsNext keyword before given o (Some k) (put given k v)
put_next keyword before given o k row v g r new read =
    let silent : said keyword k before ≡ None = none_is (said keyword k before) (sym (g.taken k) ∙ new) in
    record {
      cause = rw (silent, r, read) refl;
      says = λ key. elim (cases_Bool (same_key k key)) [
        | inl h ↦
            let P : Key → Type 0 = λ x. slot_at (set given.slots (place_of k) (Some v)) x ≡ option_or (slot_at given.slots x) (key_says keyword x o (Some k)) in
            subst P (same_key_is k key h) (rw (slot_same given.slots k v g.slots, g.free k silent, says_own keyword k o row v r read) refl)
        | inr h ↦ rw (slot_other given.slots k key v g.slots (apart k key h), says_other keyword k key o h) (sym (or_none (slot_at given.slots key)))
      ];
      taken = λ key. elim (cases_Bool (same_key k key)) [
        | inl h ↦
            let P : Key → Type 0 = λ x. is_taken (set given.taken (place_of k) true) x ≡ is_some (option_or (said keyword x before) (key_says keyword x o (Some k))) in
            subst P (same_key_is k key h) (rw (taken_same given.taken k g.keys, says_own keyword k o row v r read) (sym (some_or (said keyword k before) v)))
        | inr h ↦ rw (taken_other given.taken k key (apart k key h), says_other keyword k key o h, or_none (said keyword key before)) (g.taken key)
      ];
      passed = rw r (omega arith);
      slots = length-set given.slots (place_of k) (Some v) ∙ g.slots;
      keys = length-set given.taken (place_of k) true ∙ g.keys;
    }

abbrev fine : Given → Result Given Cause
fine given = Ok given

kept_next : (keyword : Keyword) (before : List RawOperand) (given : Given) (o : RawOperand) (k : Key) (r : Option Row) (next : Given) → IsGiven keyword before given → row_of keyword k ≡ r → with_kept given k r o ≡ Ok next → IsNext keyword before given o (Some k) next
kept_next keyword before given o k None next g r e =
    subst (IsNext keyword before given o (Some k)) (ok_is Cause (pass given) next e)
    (passes keyword before given o (Some k) g (rw r refl) (λ key. says_nothing keyword k key o r) (rw r refl))
kept_next keyword before given o k (Some row) next g r e =
    elim (chosen (is_taken given.taken k) (Err OperandTwice) (value_of row.kind o.value >>= λ value. Ok (put given k value)) (Ok next) e) [
      | inl h ↦ absurd (cc h.1)
      | inr h ↦
          let b = bind_ok (value_of row.kind o.value) (λ (value : Value). fine (put given k value)) next h.1 in
          subst (IsNext keyword before given o (Some k)) (ok_is Cause (put given k b.0) next b.2) (put_next keyword before given o k row b.0 g r h.0 b.1)
    ]

key_next : (keyword : Keyword) (before : List RawOperand) (given : Given) (o : RawOperand) (k : Option Key) (next : Given) → IsGiven keyword before given → with_key keyword given k o ≡ Ok next → IsNext keyword before given o k next
key_next keyword before given o None next g e =
    subst (IsNext keyword before given o None) (ok_is Cause (pass given) next e) (passes keyword before given o None g refl (λ key. refl) refl)
key_next keyword before given o (Some k) next g e = kept_next keyword before given o k (row_of keyword k) next g refl e

-- where it is refused
kept_cause : (keyword : Keyword) (before : List RawOperand) (given : Given) (o : RawOperand) (k : Key) (r : Option Row) (cause : Cause) → IsGiven keyword before given → with_kept given k r o ≡ Err cause → row_cause (is_some (said keyword k before)) o r ≡ Some cause
kept_cause keyword before given o k None cause g e = absurd cc
kept_cause keyword before given o k (Some row) cause g e =
    elim (chosen (is_taken given.taken k) (Err OperandTwice) (value_of row.kind o.value >>= λ value. Ok (put given k value)) (Err cause) e) [
      | inl h ↦ rw (sym (g.taken k) ∙ h.0) (ap some_of (err_is Given OperandTwice cause h.1))
      | inr h ↦
          elim (bind_err (value_of row.kind o.value) (λ (value : Value). fine (put given k value)) cause h.1) [
            | inl bad ↦ rw (sym (g.taken k) ∙ h.0, bad) refl
            | inr b ↦ absurd (cc b.2)
          ]
    ]

key_refused : (keyword : Keyword) (before : List RawOperand) (given : Given) (o : RawOperand) (k : Option Key) (cause : Cause) → IsGiven keyword before given → with_key keyword given k o ≡ Err cause → key_cause keyword before o k ≡ Some cause
key_refused keyword before given o None cause g e = absurd cc
key_refused keyword before given o (Some k) cause g e = kept_cause keyword before given o k (row_of keyword k) cause g e

-- ---- all operands

pub record AreGiven (first : Bool) (keyword : Keyword) (before : List RawOperand) (given : Given) (os : List RawOperand) (end : Given) : Type 0 where
  pub cause : cause_from first keyword before os ≡ None
  pub says : (key : Key) → slot_at end.slots key ≡ option_or (slot_at given.slots key) (said_from first keyword key os)
  pub passed : end.passed ≡ given.passed + passed_from first keyword os
  pub now : IsGiven keyword (before ++ os) end

step_given : (first : Bool) (keyword : Keyword) (before : List RawOperand) (given : Given) (o : RawOperand) (next : Given) → Fits first keyword before → IsGiven keyword before given → IsNext keyword before given o (operand_key first o) next → IsGiven keyword (before ++ o ∷ []) next
step_given first keyword before given o next fits g n = record {
  slots = n.slots;
  keys = n.keys;
  taken = λ key. rw (said_more first keyword before key o fits) (n.taken key);
  free = λ key none.
      let b = both_none (said keyword key before) (key_says keyword key o (operand_key first o)) (sym (said_more first keyword before key o fits) ∙ none) in
      n.says key ∙ rw (g.free key b.0, b.1) refl;
}

pub append_none : (os : List RawOperand) → os ++ [] ≡ os
append_none [] = refl
append_none (o ∷ os) = ap (λ (x : List RawOperand). o ∷ x) (append_none os)

pub all_given : (first : Bool) (keyword : Keyword) (before : List RawOperand) (given : Given) (os : List RawOperand) (end : Given) → Fits first keyword before → IsGiven keyword before given → with_operands keyword first given os ≡ Ok end → AreGiven first keyword before given os end
all_given first keyword before given [] end fits g e =
    subst (AreGiven first keyword before given []) (ok_is Cause given end e) (record {
      cause = refl;
      says = λ key. sym (or_none (slot_at given.slots key));
      passed = omega arith;
      now = subst (λ (x : List RawOperand). IsGiven keyword x given) (sym (append_none before)) g;
    })
all_given first keyword before given (o ∷ os) end fits g e =
    let b = bind_ok (with_operand keyword first given o) (λ (next : Given). with_operands keyword false next os) end e in
    let n = key_next keyword before given o (operand_key first o) b.0 g b.1 in
    let a = all_given false keyword (before ++ o ∷ []) b.0 os end (fits_more first keyword before o fits) (step_given first keyword before given o b.0 fits g n) b.2 in
    record {
      cause = rw (n.cause, a.cause) refl;
      says = λ key.
          a.says key ∙ ap (λ (x : Option Value). option_or x (said_from false keyword key os)) (n.says key)
          ∙ or_or (slot_at given.slots key) (key_says keyword key o (operand_key first o)) (said_from false keyword key os);
      passed = omega (arith, a.passed, n.passed);
      now = subst (λ (x : List RawOperand). IsGiven keyword x end) (append_assoc before (o ∷ []) os) a.now;
    }

pub first_refused : (first : Bool) (keyword : Keyword) (before : List RawOperand) (given : Given) (os : List RawOperand) (cause : Cause) → Fits first keyword before → IsGiven keyword before given → with_operands keyword first given os ≡ Err cause → cause_from first keyword before os ≡ Some cause
first_refused first keyword before given [] cause fits g e = absurd cc
first_refused first keyword before given (o ∷ os) cause fits g e =
    elim (bind_err (with_operand keyword first given o) (λ (next : Given). with_operands keyword false next os) cause e) [
      | inl bad ↦ rw (key_refused keyword before given o (operand_key first o) cause g bad) refl
      | inr b ↦
          let n = key_next keyword before given o (operand_key first o) b.0 g b.1 in
          rw n.cause (first_refused false keyword (before ++ o ∷ []) b.0 os cause (fits_more first keyword before o fits) (step_given first keyword before given o b.0 fits g n) b.2)
    ]
