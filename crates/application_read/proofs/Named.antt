-- The TACs, users and terminals of statements that are read have names.
use Rattle.std.proofs.Common.{◌≡◌, inl, inr, ℕ, Bool, List, [], ◌∷◌, ◌++◌, length, Option, Some, None, Ok, refl, subst}
use Rattle.std.specs.Prelude.{◌&&◌, nat_le, IfSome}
use Rattle.std.specs.Option.{option_map}
use Rattle.std.specs.List.{list_all}
use Rattle.std.proofs.lemmas.Bool.{cases_Bool, leb-true}
use Rattle.std.proofs.lemmas.List.Elements.{All-nil, All-cons}
use Rattle.kd_base.specs.Text.{is_name_byte, IsName}
use Rattle.kd_base.specs.ToolsLaws.{both_true, some_is, map_some, and_some, bind_ok, ok_is}
use Rattle.texts.specs.declared.kdcdef_lex.statement.RawOperand.{RawOperand}
use Rattle.texts.specs.declared.kdcdef_lex.statement.RawStatement.{RawStatement}
use Rattle.texts.specs.declared.kdcdef_lex.statement.RawValue.{RawValue}
use Rattle.texts.specs.declared.kdcdef_lex.statement.RawValue.TheVariants as raw
use Rattle.application_types.specs.declared.kdcdef_types.entry.KeySet.{KeySet}
use Rattle.application_types.specs.declared.kdcdef_types.entry.TacEntry.{TacEntry}
use Rattle.application_types.specs.declared.kdcdef_types.statement.Said.{Said}
use Rattle.application_types.specs.declared.kdcdef_types.statement.Said.TheVariants.{Program, Tac, User, Lterm, Tls, Uls, TacClass, Kset, Passed, End}
use Rattle.application_types.specs.declared.kdcdef_types.statement.Statement.{Statement}
use Rattle.kdcdef_read.specs.declared.fault.ReadFault.{ReadFault}
use Rattle.kdcdef_read.specs.declared.rows.Kind.TheVariants as kinds
use Rattle.kdcdef_read.specs.declared.value.Value.{Value}
use Rattle.kdcdef_read.specs.declared.value.Value.TheVariants as values
use Rattle.kdcdef_read.specs.declared.words.Form.{Form}
use Rattle.kdcdef_read.specs.declared.words.Form.TheVariants as forms
use Rattle.kdcdef_read.specs.declared.words.Key.{Key}
use Rattle.kdcdef_read.specs.declared.words.Key.TheVariants as keys
use Rattle.kdcdef_read.specs.declared.words.Keyword.{Keyword}
use Rattle.kdcdef_read.specs.declared.words.Keyword.TheVariants as keywords
use Rattle.kdcdef_read.specs.Words.{form_of}
use Rattle.kdcdef_read.specs.Table.{row_of}
use Rattle.kdcdef_read.specs.Values.{written_name, value_of}
use Rattle.kdcdef_read.specs.KeySets.{key_set_of}
use Rattle.kdcdef_read.specs.Operands.{answer_of}
use Rattle.kdcdef_read.specs.Said.{name_at, prog_name_at, number_at, class_at, flag_at, password_at, max_said, tac_entry, pterm_of, said_of}
use Rattle.kdcdef_read.specs.Meaning.{statement, shared, form_says, Say}
use Rattle.kdcdef_read.proofs.Fitting.{row_with, answer_keeps}
use Rattle.kdcdef_read.proofs.Ranges.{kept_is}
use Rattle.application_check.specs.Steps.{IsNamed, AllNamed}

-- ---- values

word_is : (word name : List ℕ) → written_name 8 (raw.Word word) ≡ Ok name → IsName name
word_is word name e =
    elim (cases_Bool (nat_le 1 (length word) && nat_le (length word) 8 && list_all is_name_byte word)) [
      | inl h ↦
          let a = both_true (nat_le 1 (length word) && nat_le (length word) 8) (list_all is_name_byte word) h in
          let b = both_true (nat_le 1 (length word)) (nat_le (length word) 8) a.0 in
          let found = rw h at e in
          let same : word ≡ name = cc found in
          subst IsName same (leb-true 1 (length word) b.0, leb-true (length word) 8 b.1, a.1)
      | inr h ↦ absurd (let found = rw h at e in cc found)
    ]

written_is : (r : RawValue) (name : List ℕ) → written_name 8 r ≡ Ok name → IsName name
written_is (raw.Word word) name e = word_is word name e
written_is (raw.Quoted bytes) name e = absurd cc
written_is (raw.Listed items) name e = absurd cc

-- the name in a value is one
abbrev HasName : Value → Type 0
HasName (values.Name name) = IsName name
HasName value = Unit {0}

name_has : (r : RawValue) (v : Value) → value_of kinds.Name r ≡ Ok v → HasName v
name_has r v e =
    let b = bind_ok (written_name 8 r) (λ (name : List ℕ). Ok (values.Name name)) v e in
    let same : values.Name b.0 ≡ v = cc b.2 in
    subst HasName same (written_is r b.0 b.1)

name_if : (o : Option Value) → IfSome o HasName → IfSome (name_at o) IsName
name_if None h = tt
name_if (Some (values.Name name)) h = h
name_if (Some v) h = tt

-- the first operand of a statement, where it is a name
first_named : (keyword : Keyword) (os : List RawOperand) (name : List ℕ) → row_of keyword keys.First ≡ Some (row_with kinds.Name None) → name_at (answer_of keyword os keys.First) ≡ Some name → IsName name
first_named keyword os name row at =
    let Q : Option (List ℕ) → Type 0 = λ o. IfSome o IsName in
    subst Q at (name_if (answer_of keyword os keys.First) (answer_keeps HasName keyword keys.First (row_with kinds.Name None) os row name_has tt))

-- ---- statements

abbrev tac_made : List ℕ → TacEntry → Said
tac_made name entry = Tac name entry

abbrev user_made : Option (List ℕ) → Option (List ℕ) → List ℕ → Bool → Said
user_made pass kset name restart = User name (record { pass = pass; restart = restart; kset = kset })

abbrev lterm_made : Option (List ℕ) → List ℕ → Bool → Said
lterm_made kset name printer = Lterm name (record { printer = printer; kset = kset })

abbrev kset_made : List ℕ → KeySet → Said
kset_made name set = Kset name set

abbrev class_made : ℕ → ℕ → Said
class_made class tasks = TacClass class tasks

pterm_named : (name : List ℕ) (lterm : Option (List ℕ)) → IsName name → IsNamed (pterm_of name lterm)
pterm_named name None h = tt
pterm_named name (Some lterm) h = h

said_named : (keyword : Keyword) (os : List RawOperand) (said : Said) → said_of keyword (answer_of keyword os) (key_set_of os) ≡ Some said → IsNamed said
said_named keywords.Max os said e = subst IsNamed (some_is (max_said (answer_of keywords.Max os)) said e) tt
said_named keywords.Program os said e =
    let m = map_some (λ (name : List ℕ). Program name) (prog_name_at (answer_of keywords.Program os keys.First)) said e in
    subst IsNamed m.2 tt
said_named keywords.Tac os said e =
    let at : Key → Option Value = answer_of keywords.Tac os in
    let a = and_some (λ (name : List ℕ). option_map (tac_made name) (tac_entry at)) (name_at (at keys.First)) said e in
    let m = map_some (tac_made a.0) (tac_entry at) said a.2 in
    subst IsNamed m.2 (first_named keywords.Tac os a.0 refl a.1)
said_named keywords.User os said e =
    let at : Key → Option Value = answer_of keywords.User os in
    let a = and_some (λ (name : List ℕ). option_map (user_made (password_at (at keys.Pass)) (name_at (at keys.Kset)) name) (flag_at (at keys.Restart))) (name_at (at keys.First)) said e in
    let m = map_some (user_made (password_at (at keys.Pass)) (name_at (at keys.Kset)) a.0) (flag_at (at keys.Restart)) said a.2 in
    subst IsNamed m.2 (first_named keywords.User os a.0 refl a.1)
said_named keywords.Pterm os said e =
    let at : Key → Option Value = answer_of keywords.Pterm os in
    let m = map_some (λ (name : List ℕ). pterm_of name (name_at (at keys.Lterm))) (name_at (at keys.First)) said e in
    subst IsNamed m.2 (pterm_named m.0 (name_at (at keys.Lterm)) (first_named keywords.Pterm os m.0 refl m.1))
said_named keywords.Lterm os said e =
    let at : Key → Option Value = answer_of keywords.Lterm os in
    let a = and_some (λ (name : List ℕ). option_map (lterm_made (name_at (at keys.Kset)) name) (flag_at (at keys.Usage))) (name_at (at keys.First)) said e in
    let m = map_some (lterm_made (name_at (at keys.Kset)) a.0) (flag_at (at keys.Usage)) said a.2 in
    subst IsNamed m.2 (first_named keywords.Lterm os a.0 refl a.1)
said_named keywords.Tls os said e =
    let m = map_some (λ (name : List ℕ). Tls name) (name_at (answer_of keywords.Tls os keys.First)) said e in
    subst IsNamed m.2 tt
said_named keywords.Uls os said e =
    let m = map_some (λ (name : List ℕ). Uls name) (name_at (answer_of keywords.Uls os keys.First)) said e in
    subst IsNamed m.2 tt
said_named keywords.TacClass os said e =
    let at : Key → Option Value = answer_of keywords.TacClass os in
    let a = and_some (λ (class : ℕ). option_map (class_made class) (number_at (at keys.Tasks))) (class_at (at keys.First)) said e in
    let m = map_some (class_made a.0) (number_at (at keys.Tasks)) said a.2 in
    subst IsNamed m.2 tt
said_named keywords.Kset os said e =
    let at : Key → Option Value = answer_of keywords.Kset os in
    let a = and_some (λ (name : List ℕ). option_map (kset_made name) (key_set_of os)) (name_at (at keys.First)) said e in
    let m = map_some (kset_made a.0) (key_set_of os) said a.2 in
    subst IsNamed m.2 tt

abbrev HasNames : Statement → Type 0
HasNames s = IsNamed s.said

form_named : (own : List RawOperand) (r : RawStatement) (form : Option Form) (s : Statement) → form_says own r form ≡ Ok s → HasNames s
form_named own r None s e = absurd cc
form_named own r (Some forms.Passed) s e = subst HasNames (ok_is ReadFault (statement r.line 0 Passed) s e) tt
form_named own r (Some forms.End) s e = subst HasNames (ok_is ReadFault (statement r.line (length r.operands) End) s e) tt
form_named own r (Some (forms.Kept keyword)) s e = said_named keyword r.operands s.said (kept_is keyword own r s e).said

pub all_named : (before : List RawOperand) (rs : List RawStatement) (ss : List Statement) → Say before rs ss → AllNamed ss
all_named before [] [] say = All-nil HasNames
all_named before [] (s ∷ ss) say = absurd say
all_named before (r ∷ rs) [] say = absurd say
all_named before (r ∷ rs) (s ∷ ss) say =
    All-cons HasNames s ss (form_named (shared (form_of r.keyword) before) r (form_of r.keyword) s say.0) (all_named (before ++ shared (form_of r.keyword) r.operands) rs ss say.1)
