-- The operands of a statement: what is read is written so, and what is written so is read.
use Rattle.std.proofs.Common.{◌≡◌, ℕ, List, [], ◌∷◌, Option, Some, None, refl, ap, subst}
use Rattle.kd_base.specs.declared.words.Mode.{Mode}
use Rattle.kd_base.specs.ToolsLaws.{map_some, some_is}
use Rattle.application_types.specs.declared.unit_types.action.Operand.{Operand}
use Rattle.application_types.specs.declared.unit_types.action.Relation.{Relation}
use Rattle.unit_read.specs.declared.word.Word.{Word}
use Rattle.unit_read.specs.declared.word.Word.TheVariants.{Plain}
use Rattle.unit_read.specs.declared.shape.DelayedMessage.{DelayedMessage}
use Rattle.unit_read.specs.Operands.{name_of, operand_of, relation_of, mode_of}
use Rattle.unit_read.specs.Shapes.{both, one_of, two_of, one_name, one_operand, two_operands, name_and_operand, operand_and_name, name_and_two, compared, moment_of, delayed}
use Rattle.unit_read.specs.Grammar.{operand_word, IsOperand, IsName, relation_name, mode_name}
use Rattle.unit_read.proofs.Operands.{name_is, operand_is, relation_is, mode_is}

pub both_some : {A B : Type 0} (x : Option A) (y : Option B) (p : A × B) → both x y ≡ Some p → (x ≡ Some p.0) × (y ≡ Some p.1)
both_some None y p e = absurd cc
both_some (Some a) None p e = absurd cc
both_some {A} {B} (Some a) (Some b) p e =
    subst (λ (q : A × B). let o : Option A = Some a in let r : Option B = Some b in (o ≡ Some q.0) × (r ≡ Some q.1)) (some_is (a, b) p e) (refl, refl)

-- ---- a word in front, and the others

-- what was found in words is written so
abbrev pub Finds : {A : Type 0} → List Word → Option A → (A → List Word) → (A → Type 0) → Type 0
Finds {A} words found written Is = (x : A) → found ≡ Some x → (words ≡ written x) × Is x

-- and what was found in one word
abbrev Reads : {A : Type 0} → Word → Option A → (A → Word) → (A → Type 0) → Type 0
Reads {A} word found written Is = (x : A) → found ≡ Some x → (word ≡ written x) × Is x

more_words : (v x : Word) (ws ys : List Word) → v ≡ x → ws ≡ ys → v ∷ ws ≡ x ∷ ys
more_words v x ws ys e f = cc

in_front : {A B : Type 0} (w : Word) (ws : List Word) (first : Option A) (rest : Option B) (word : A → Word) (words : B → List Word) (P : A → Type 0) (Q : B → Type 0) → Reads w first word P → Finds ws rest words Q
    → Finds (w ∷ ws) (both first rest) (λ (p : A × B). word p.0 ∷ words p.1) (λ (p : A × B). P p.0 × Q p.1)
in_front w ws first rest word words P Q reads finds p e =
    let b = both_some first rest p e in
    let x = reads p.0 b.0 in
    let y = finds p.1 b.1 in
    (more_words w (word p.0) ws (words p.1) x.0 y.0, (x.1, y.1))

one_is : {A : Type 0} (f : Word → Option A) (word : A → Word) (P : A → Type 0) → ((w : Word) → Reads w (f w) word P) → (ws : List Word) → Finds ws (one_of f ws) (λ (x : A). word x ∷ []) P
one_is f word P reads (w ∷ []) x e = let a = reads w x e in (ap (λ (v : Word). v ∷ []) a.0, a.1)
one_is f word P reads _ x e = absurd cc

two_are : {A B : Type 0} (f : Word → Option A) (g : Word → Option B) (left : A → Word) (right : B → Word) (P : A → Type 0) (Q : B → Type 0) → ((w : Word) → Reads w (f w) left P) → ((w : Word) → Reads w (g w) right Q) → (ws : List Word)
    → Finds ws (two_of f g ws) (λ (p : A × B). left p.0 ∷ right p.1 ∷ []) (λ (p : A × B). P p.0 × Q p.1)
two_are {A} {B} f g left right P Q reads also (v ∷ w ∷ []) p e =
    in_front v (w ∷ []) (f v) (g w) left (λ (y : B). right y ∷ []) P Q (reads v) (one_is g right Q also (w ∷ [])) p e
two_are f g left right P Q reads also _ p e = absurd cc

-- ---- the shapes

pub one_name_is : (ws : List Word) → Finds ws (one_name ws) (λ (name : List ℕ). Plain name ∷ []) IsName
one_name_is ws = one_is name_of Plain IsName name_is ws

pub one_operand_is : (ws : List Word) → Finds ws (one_operand ws) (λ (o : Operand). operand_word o ∷ []) IsOperand
one_operand_is ws = one_is operand_of operand_word IsOperand operand_is ws

pub two_operands_are : (ws : List Word) → Finds ws (two_operands ws) (λ (p : Operand × Operand). operand_word p.0 ∷ operand_word p.1 ∷ []) (λ (p : Operand × Operand). IsOperand p.0 × IsOperand p.1)
two_operands_are ws = two_are operand_of operand_of operand_word operand_word IsOperand IsOperand operand_is operand_is ws

pub name_and_operand_are : (ws : List Word) → Finds ws (name_and_operand ws) (λ (p : List ℕ × Operand). Plain p.0 ∷ operand_word p.1 ∷ []) (λ (p : List ℕ × Operand). IsName p.0 × IsOperand p.1)
name_and_operand_are ws = two_are name_of operand_of Plain operand_word IsName IsOperand name_is operand_is ws

pub operand_and_name_are : (ws : List Word) → Finds ws (operand_and_name ws) (λ (p : Operand × List ℕ). operand_word p.0 ∷ Plain p.1 ∷ []) (λ (p : Operand × List ℕ). IsOperand p.0 × IsName p.1)
operand_and_name_are ws = two_are operand_of name_of operand_word Plain IsOperand IsName operand_is name_is ws

abbrev NameAndTwo : List Word → List ℕ × Operand × Operand → Type 0
NameAndTwo ws p = (ws ≡ Plain p.0 ∷ operand_word p.1 ∷ operand_word p.2 ∷ []) × (IsName p.0 × IsOperand p.1 × IsOperand p.2)

pub name_and_two_are : (ws : List Word) (p : List ℕ × Operand × Operand) → name_and_two ws ≡ Some p → NameAndTwo ws p
name_and_two_are [] p e = absurd cc
name_and_two_are (w ∷ ws) p e =
    let m = map_some (λ (q : List ℕ × (Operand × Operand)). let r : List ℕ × Operand × Operand = (q.0, q.1.0, q.1.1) in r) (both (name_of w) (two_operands ws)) p e in
    let s = in_front w ws (name_of w) (two_operands ws) Plain _ IsName _ (name_is w) (two_operands_are ws) m.0 m.1 in
    subst (NameAndTwo (w ∷ ws)) m.2 (s.0, (s.1.0, s.1.1.0, s.1.1.1))

-- a relation or a mode that was read has no form to keep
abbrev Any : {A : Type 0} → A → Type 0
Any x = Unit {0}

abbrev Compared : List Word → Operand × Relation × Operand × List ℕ → Type 0
Compared ws p = (ws ≡ operand_word p.0 ∷ Plain (relation_name p.1) ∷ operand_word p.2 ∷ Plain p.3 ∷ []) × (IsOperand p.0 × IsOperand p.2 × IsName p.3)

pub compared_are : (ws : List Word) (p : Operand × Relation × Operand × List ℕ) → compared ws ≡ Some p → Compared ws p
compared_are (v ∷ w ∷ ws) p e =
    let m = map_some (λ (q : Operand × (Relation × (Operand × List ℕ))). let r : Operand × Relation × Operand × List ℕ = (q.0, q.1.0, q.1.1.0, q.1.1.1) in r) (both (operand_of v) (both (relation_of w) (operand_and_name ws))) p e in
    let rest = in_front w ws (relation_of w) (operand_and_name ws) (λ (r : Relation). Plain (relation_name r)) _ (λ (r : Relation). Any r) _ (λ r is. (relation_is w r is, tt)) (operand_and_name_are ws) in
    let s = in_front v (w ∷ ws) (operand_of v) (both (relation_of w) (operand_and_name ws)) operand_word _ IsOperand _ (operand_is v) rest m.0 m.1 in
    subst (Compared (v ∷ w ∷ ws)) m.2 (s.0, (s.1.0, s.1.1.1.0, s.1.1.1.1))
compared_are _ p e = absurd cc

abbrev Moment : List Word → Operand × Operand × Operand × Operand → Type 0
Moment ws p = (ws ≡ operand_word p.0 ∷ operand_word p.1 ∷ operand_word p.2 ∷ operand_word p.3 ∷ []) × (IsOperand p.0 × IsOperand p.1 × IsOperand p.2 × IsOperand p.3)

moment_is : (ws : List Word) (p : Operand × Operand × Operand × Operand) → moment_of ws ≡ Some p → Moment ws p
moment_is (v ∷ w ∷ ws) p e =
    let m = map_some (λ (q : Operand × (Operand × (Operand × Operand))). let r : Operand × Operand × Operand × Operand = (q.0, q.1.0, q.1.1.0, q.1.1.1) in r) (both (operand_of v) (both (operand_of w) (two_operands ws))) p e in
    let rest = in_front w ws (operand_of w) (two_operands ws) operand_word _ IsOperand _ (operand_is w) (two_operands_are ws) in
    let s = in_front v (w ∷ ws) (operand_of v) (both (operand_of w) (two_operands ws)) operand_word _ IsOperand _ (operand_is v) rest m.0 m.1 in
    subst (Moment (v ∷ w ∷ ws)) m.2 (s.0, (s.1.0, s.1.1.0, s.1.1.1.0, s.1.1.1.1))
moment_is _ p e = absurd cc

-- what a DPUT says, as words
abbrev IsDelayed : List Word → DelayedMessage → Type 0
IsDelayed ws d =
    (ws ≡ operand_word d.to ∷ Plain (mode_name d.mode) ∷ operand_word d.days ∷ operand_word d.rest.0 ∷ operand_word d.rest.1 ∷ operand_word d.rest.2 ∷ operand_word d.rest.3 ∷ [])
    × (IsOperand d.to × IsOperand d.days × IsOperand d.rest.0 × IsOperand d.rest.1 × IsOperand d.rest.2 × IsOperand d.rest.3)

pub delayed_is : (ws : List Word) (d : DelayedMessage) → delayed ws ≡ Some d → IsDelayed ws d
delayed_is (v ∷ w ∷ x ∷ ws) d e =
    let made = λ (q : Operand × (Mode × (Operand × (Operand × Operand × Operand × Operand)))). let r : DelayedMessage = record { to = q.0; mode = q.1.0; days = q.1.1.0; rest = q.1.1.1 } in r in
    let m = map_some made (both (operand_of v) (both (mode_of w) (both (operand_of x) (moment_of ws)))) d e in
    let days = in_front x ws (operand_of x) (moment_of ws) operand_word _ IsOperand _ (operand_is x) (moment_is ws) in
    let mode = in_front w (x ∷ ws) (mode_of w) (both (operand_of x) (moment_of ws)) (λ (m : Mode). Plain (mode_name m)) _ (λ (m : Mode). Any m) _ (λ m is. (mode_is w m is, tt)) days in
    let s = in_front v (w ∷ x ∷ ws) (operand_of v) (both (mode_of w) (both (operand_of x) (moment_of ws))) operand_word _ IsOperand _ (operand_is v) mode m.0 m.1 in
    let rest = s.1.1.1 in
    subst (IsDelayed (v ∷ w ∷ x ∷ ws)) m.2 (s.0, (s.1.0, rest.0, rest.1.0, rest.1.1, rest.1.2, rest.1.3))
delayed_is _ d e = absurd cc
