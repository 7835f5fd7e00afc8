-- An item or an operand, and those that follow it.
use Rattle.std.proofs.Common.{◌≡◌, ℕ, ◌<◌, ◌≤◌, Bool, true, false, cond, List, [], ◌∷◌, length, Option, Some, None, refl, sym, ap, ◌∙◌, arith, length-append}
use Rattle.std.specs.Prelude.{is_some, unwrap_or}
use Rattle.std.specs.Option.{option_map}
use Rattle.kd_base.specs.Tools.{onto, onto_first}
use Rattle.kd_base.specs.ToolsLaws.{is_some_map, and_some, some_is}
use Rattle.texts.specs.Firsts.{first_of}
use Rattle.texts.specs.declared.kdcdef_lex.token.Token.{Token}
use Rattle.texts.specs.declared.kdcdef_lex.token.Token.TheVariants as tokens
use Rattle.texts.specs.declared.kdcdef_lex.statement.RawItem.{RawItem}
use Rattle.texts.specs.declared.kdcdef_lex.statement.RawOperand.{RawOperand}
use Rattle.texts.specs.Parsing.{item_step, items_within, list_at, behind_list, items_in, operand_at, operand_ended, operand_step, operands_within, operands_of}
use Rattle.texts.proofs.kdcdef_lex.Parsed.{mark, item_step_takes, items_take, items_again, items_fit, operand_step_takes, operands_take, operands_again, operands_fit, some_left}

-- ---- items

abbrev Listed : Type 0
Listed = List (Option RawItem) × List Token

-- a list is found in as many steps as it has tokens
enough_items : (m k : ℕ) (ts : List Token) (found : Listed) → items_within m ts ≡ Some found → length ts ≤ k → items_within k ts ≡ Some found
enough_items m k ts found e le =
    let t = items_take m ts found.0 found.1 e in
    ap (items_within k) t.1 ∙ items_again found.0 t.0 k found.1 t.2 (omega (arith, items_fit found.0 t.0 t.2, ap length t.1, length-append t.0 (tokens.Close ∷ found.1)))

items_fuel : (n : ℕ) (ts : List Token) → length ts ≤ n → items_within n ts ≡ list_at ts
items_fuel n ts le = by (items_within n ts) (list_at ts) refl refl
  where
    by : (a b : Option Listed) → items_within n ts ≡ a → list_at ts ≡ b → a ≡ b
    by None None e f = refl
    by None (Some p) e f = sym e ∙ enough_items (length ts) n ts p f le
    by (Some p) b e f = sym (enough_items n (length ts) ts p e (omega arith)) ∙ f

shorter_item : (ts after : List Token) (i : Option RawItem) (more : Bool) → item_step ts ≡ Some (i, more, after) → length after < length ts
shorter_item ts after i more h =
    let t = item_step_takes ts (i, more, after) h in
    omega (arith, ap length t.1, length-append t.0 (mark more ∷ after))

-- the list from an item on
pub list_step : (ts after : List Token) (i : Option RawItem) (more : Bool) → item_step ts ≡ Some (i, more, after) → list_at ts ≡ cond more (onto_first (i ∷ []) (list_at after)) (Some (i ∷ [], after))
list_step [] after i more h = absurd cc
list_step (t ∷ ts) after i more h =
    let rest : items_within (length ts) after ≡ list_at after = items_fuel (length ts) after (omega (arith, shorter_item (t ∷ ts) after i more h)) in
    rw h (ap (λ (found : Option Listed). cond more (onto_first (i ∷ []) found) (Some (i ∷ [], after))) rest)

behind_onto : (front : List (Option RawItem)) (found : Option Listed) → option_map (λ (l : Listed). l.1) (onto_first front found) ≡ option_map (λ (l : Listed). l.1) found
behind_onto front None = refl
behind_onto front (Some l) = refl

-- what follows a list is what follows it from the next item on
pub behind_more : (ts after : List Token) (i : Option RawItem) (more : Bool) (whole : Option (List Token)) → Some (i, more, after) ≡ item_step ts → more ≡ true → behind_list ts ≡ whole → behind_list after ≡ whole
behind_more ts after i more whole h is so_far =
    sym (ap (option_map (λ (l : Listed). l.1)) (list_step ts after i more (sym h)) ∙ rw is (behind_onto (i ∷ []) (list_at after))) ∙ so_far

-- the first item and those behind it
pub item_more : (ts after : List Token) (i : Option RawItem) → Some (i, true, after) ≡ item_step ts → is_some (list_at ts) ≡ true
    → (is_some (list_at after) ≡ true) × (Some (i, items_in (list_at after)) ≡ first_of (items_in (list_at ts)))
item_more ts after i h is = rw (list_step ts after i true (sym h)) (by (list_at after) (rw (list_step ts after i true (sym h)) at is))
  where
    by : (o : Option Listed) → is_some (onto_first (i ∷ []) o) ≡ true → (is_some o ≡ true) × (Some (i, items_in o) ≡ first_of (items_in (onto_first (i ∷ []) o)))
    by None k = absurd cc
    by (Some l) k = (refl, refl)

-- ---- operands

abbrev pub some_operands : List Token → Option (List RawOperand)
some_operands ts = operands_within (length ts) ts

enough_operands : (m k : ℕ) (ts : List Token) (os : List RawOperand) → operands_within m ts ≡ Some os → length ts ≤ k → operands_within k ts ≡ Some os
enough_operands m k ts os e le =
    let t = operands_take m ts os e in
    operands_again os ts k t.0 t.1 (omega (arith, operands_fit os ts t.0))

operands_fuel : (n : ℕ) (ts : List Token) → length ts ≤ n → operands_within n ts ≡ some_operands ts
operands_fuel n ts le = by (operands_within n ts) (some_operands ts) refl refl
  where
    by : (a b : Option (List RawOperand)) → operands_within n ts ≡ a → some_operands ts ≡ b → a ≡ b
    by None None e f = refl
    by None (Some os) e f = sym e ∙ enough_operands (length ts) n ts os f le
    by (Some os) b e f = sym (enough_operands n (length ts) ts os e (omega arith)) ∙ f

pub shorter_operand : (ts after : List Token) (o : RawOperand) → operand_step ts ≡ Some (o, true, after) → length after < length ts
shorter_operand ts after o h =
    let t = operand_step_takes ts (o, true, after) h in
    omega (arith, ap length t.1, length-append t.0 (tokens.Comma ∷ after))

operands_more : (ts after : List Token) (o : RawOperand) → operand_step ts ≡ Some (o, true, after) → some_operands ts ≡ onto (o ∷ []) (some_operands after)
operands_more [] after o h = absurd cc
operands_more (t ∷ ts) after o h =
    let rest : operands_within (length ts) after ≡ some_operands after = operands_fuel (length ts) after (omega (arith, shorter_operand (t ∷ ts) after o h)) in
    rw h (ap (onto (o ∷ [])) rest)

operands_last : (ts after : List Token) (o : RawOperand) → operand_step ts ≡ Some (o, false, after) → some_operands ts ≡ Some (o ∷ [])
operands_last [] after o h = absurd cc
operands_last (t ∷ ts) after o h = rw h refl

-- nothing follows the last one
ended_last : (o p : RawOperand) (ts after : List Token) → operand_ended o ts ≡ Some (p, false, after) → after ≡ []
ended_last o p [] after h = sym (ap (λ (s : RawOperand × Bool × List Token). s.2) (some_is (o, false, []) (p, false, after) h))
ended_last o p (tokens.Comma ∷ ts) after h = absurd (cc (ap (λ (s : RawOperand × Bool × List Token). s.1) (some_is (o, true, ts) (p, false, after) h)))
ended_last o p (t ∷ ts) after h = absurd cc

last_after : (ts after : List Token) (o : RawOperand) → operand_step ts ≡ Some (o, false, after) → after ≡ []
last_after ts after o h =
    let a = and_some (λ (p : RawOperand × List Token). operand_ended p.0 p.1) (operand_at ts) (o, false, after) h in
    ended_last a.0.0 o a.0.1 after a.2

-- whether all are operands, from one on
pub are_more : (ts after : List Token) (o : RawOperand) (more all : Bool) → Some (o, more, after) ≡ operand_step ts → more ≡ true → is_some (some_operands ts) ≡ all → is_some (some_operands after) ≡ all
are_more ts after o more all h is so_far =
    let step : operand_step ts ≡ Some (o, true, after) = sym h ∙ ap (λ (b : Bool). Some (o, b, after)) is in
    sym (is_some_map (λ (os : List RawOperand). o ∷ os) (some_operands after)) ∙ sym (ap (λ (x : Option (List RawOperand)). is_some x) (operands_more ts after o step)) ∙ so_far

-- the first operand and those behind it
pub operand_first : (ts after : List Token) (o : RawOperand) (more : Bool) → Some (o, more, after) ≡ operand_step ts → is_some (operands_of ts) ≡ true
    → (is_some (operands_of after) ≡ true) × (Some (o, unwrap_or (operands_of after) []) ≡ first_of (unwrap_or (operands_of ts) []))
operand_first [] after o more h is = absurd cc
operand_first (t ∷ ts) [] o true h is = absurd (cc (rw (some_left t ts, operands_more (t ∷ ts) [] o (sym h)) at is))
operand_first (t ∷ ts) (u ∷ after) o true h is =
    let all = some_left t ts ∙ operands_more (t ∷ ts) (u ∷ after) o (sym h) in
    rw (all, some_left u after) (by (some_operands (u ∷ after)) (rw all at is))
  where
    by : (x : Option (List RawOperand)) → is_some (onto (o ∷ []) x) ≡ true → (is_some x ≡ true) × (Some (o, unwrap_or x []) ≡ first_of (unwrap_or (onto (o ∷ []) x) []))
    by None k = absurd cc
    by (Some os) k = (refl, refl)
operand_first (t ∷ ts) after o false h is =
    rw (some_left t ts, operands_last (t ∷ ts) after o (sym h), last_after (t ∷ ts) after o (sym h)) (refl, refl)
