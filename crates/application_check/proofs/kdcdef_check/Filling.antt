-- Tables that were filled from the statements so far.
use Rattle.std.proofs.Common.{◌≡◌, ◌||◌, ℕ, refl, sym, ◌∙◌, ap, nat_eq, bytes_eq, is_some, List, [], ◌∷◌, ◌++◌, Option, filter_map}
use Rattle.std.specs.List.{cons_option, list_any}
use Rattle.std.specs.Map.{lookup}
use Rattle.std.proofs.lemmas.List.Sums.{fold-append}
use Rattle.application_types.specs.declared.kdcdef_types.entry.PtermEntry.{PtermEntry}
use Rattle.application_types.specs.declared.kdcdef_types.statement.Said.{Said}
use Rattle.application_types.specs.declared.kdcdef_types.statement.Said.TheVariants.{Pterm}
use Rattle.application_types.specs.declared.kdcdef_types.statement.Statement.{Statement}
use Rattle.application_check.specs.declared.kdcdef_check.tables.Tables.{Tables}
use Rattle.application_check.specs.Generating.{as_program, as_tac, as_user, as_pterm, as_lterm, as_tls, as_uls, as_class, as_kset, said_as, generated}
use Rattle.application_check.specs.Steps.{put, put_key, filled_by, lterm_said, IsAdded, AreFilled, AreNamedFilled, HaveNames, HaveNamed}
use Rattle.application_check.proofs.kdcdef_check.Names.{exact_numbers, exact_bytes, there_table_of, among_keys_table}

pub filled_by_push : {A : Type 0} (add : Option A → List A → List A) (f : Statement → Option A) (ss : List Statement) (s : Statement) → filled_by add f (ss ++ s ∷ []) ≡ add (f s) (filled_by add f ss)
filled_by_push {A} add f ss s = fold-append (λ (made : List A) (s : Statement). add (f s) made) [] ss (s ∷ [])

-- a table, and the same with one more statement
pub further : {A : Type 0} (add : Option A → List A → List A) (f : Statement → Option A) (ss : List Statement) (s : Statement) (old new : List A) → old ≡ filled_by add f ss → new ≡ add (f s) old → new ≡ filled_by add f (ss ++ s ∷ [])
further add f ss s old new was is = is ∙ ap (add (f s)) was ∙ sym (filled_by_push add f ss s)

pub filled_further : (ss : List Statement) (s : Statement) (old new : Tables) → AreFilled old ss → IsAdded old new s.line s.said → AreFilled new (ss ++ s ∷ [])
filled_further ss s old new was added = record {
  programs = further (put bytes_eq) (λ (s : Statement). as_program s.line s.said) ss s _ _ was.programs added.programs;
  tacs = further (put bytes_eq) (λ (s : Statement). as_tac s.said) ss s _ _ was.tacs added.tacs;
  users = further (put bytes_eq) (λ (s : Statement). as_user s.said) ss s _ _ was.users added.users;
  pterms = further (put bytes_eq) (λ (s : Statement). as_pterm s.said) ss s _ _ was.pterms added.pterms;
  lterms = further (put bytes_eq) (λ (s : Statement). as_lterm s.said) ss s _ _ was.lterms added.lterms;
  classes = further (put nat_eq) (λ (s : Statement). as_class s.said) ss s _ _ was.classes added.classes;
  ksets = further (put bytes_eq) (λ (s : Statement). as_kset s.said) ss s _ _ was.ksets added.ksets;
  tls = further (put_key bytes_eq) (λ (s : Statement). as_tls s.said) ss s _ _ was.tls added.tls;
  uls = further (put_key bytes_eq) (λ (s : Statement). as_uls s.said) ss s _ _ was.uls added.uls;
  served = further (put_key bytes_eq) (λ (s : Statement). lterm_said s.said) ss s _ _ was.served added.served;
}

-- an LTERM is among those of the PTERMs
served_so : (said : Said) (name : List ℕ) (ks : List (List ℕ)) (ps : List (List ℕ × PtermEntry)) → list_any (bytes_eq name) ks ≡ list_any (λ (p : List ℕ × PtermEntry). bytes_eq name p.1.lterm) ps → list_any (bytes_eq name) (cons_option (lterm_said said) ks) ≡ list_any (λ (p : List ℕ × PtermEntry). bytes_eq name p.1.lterm) (cons_option (as_pterm said) ps)
served_so (Pterm n entry) name ks ps h = ap (λ b. bytes_eq name entry.lterm || b) h
served_so _ name ks ps h = h

served_by : (ss : List Statement) (name : List ℕ) → list_any (bytes_eq name) (filter_map (λ (s : Statement). lterm_said s.said) ss) ≡ list_any (λ (p : List ℕ × PtermEntry). bytes_eq name p.1.lterm) (said_as as_pterm ss)
served_by [] name = refl
served_by (s ∷ ss) name = served_so s.said name (filter_map (λ (s : Statement). lterm_said s.said) ss) (said_as as_pterm ss) (served_by ss name)

-- the tables that others name have the names of what the statements generate, where these filled them
pub named_names : (t : Tables) (ss : List Statement) → AreNamedFilled t ss → HaveNamed t (generated ss)
named_names t ss filled = record {
  programs = λ (name : List ℕ). ap (λ (es : List (List ℕ × _)). is_some (lookup (bytes_eq name) es)) filled.programs ∙ there_table_of bytes_eq exact_bytes (λ (s : Statement). as_program s.line s.said) ss name;
  lterms = λ (name : List ℕ). ap (λ (es : List (List ℕ × _)). is_some (lookup (bytes_eq name) es)) filled.lterms ∙ there_table_of bytes_eq exact_bytes (λ (s : Statement). as_lterm s.said) ss name;
  ksets = λ (name : List ℕ). ap (λ (es : List (List ℕ × _)). is_some (lookup (bytes_eq name) es)) filled.ksets ∙ there_table_of bytes_eq exact_bytes (λ (s : Statement). as_kset s.said) ss name;
}

-- the tables that the statements filled have the names of what these generate
pub filled_names : (t : Tables) (ss : List Statement) → AreFilled t ss → HaveNames t (generated ss)
filled_names t ss filled = record {
  programs = λ (name : List ℕ). ap (λ (es : List (List ℕ × _)). is_some (lookup (bytes_eq name) es)) filled.programs ∙ there_table_of bytes_eq exact_bytes (λ (s : Statement). as_program s.line s.said) ss name;
  tacs = λ (name : List ℕ). ap (λ (es : List (List ℕ × _)). is_some (lookup (bytes_eq name) es)) filled.tacs ∙ there_table_of bytes_eq exact_bytes (λ (s : Statement). as_tac s.said) ss name;
  users = λ (name : List ℕ). ap (λ (es : List (List ℕ × _)). is_some (lookup (bytes_eq name) es)) filled.users ∙ there_table_of bytes_eq exact_bytes (λ (s : Statement). as_user s.said) ss name;
  pterms = λ (name : List ℕ). ap (λ (es : List (List ℕ × _)). is_some (lookup (bytes_eq name) es)) filled.pterms ∙ there_table_of bytes_eq exact_bytes (λ (s : Statement). as_pterm s.said) ss name;
  lterms = λ (name : List ℕ). ap (λ (es : List (List ℕ × _)). is_some (lookup (bytes_eq name) es)) filled.lterms ∙ there_table_of bytes_eq exact_bytes (λ (s : Statement). as_lterm s.said) ss name;
  classes = λ (class : ℕ). ap (λ (es : List (ℕ × ℕ)). is_some (lookup (nat_eq class) es)) filled.classes ∙ there_table_of nat_eq exact_numbers (λ (s : Statement). as_class s.said) ss class;
  ksets = λ (name : List ℕ). ap (λ (es : List (List ℕ × _)). is_some (lookup (bytes_eq name) es)) filled.ksets ∙ there_table_of bytes_eq exact_bytes (λ (s : Statement). as_kset s.said) ss name;
  tls = λ (name : List ℕ). ap (λ (ks : List (List ℕ)). list_any (bytes_eq name) ks) filled.tls ∙ among_keys_table bytes_eq exact_bytes (λ (s : Statement). as_tls s.said) ss name;
  uls = λ (name : List ℕ). ap (λ (ks : List (List ℕ)). list_any (bytes_eq name) ks) filled.uls ∙ among_keys_table bytes_eq exact_bytes (λ (s : Statement). as_uls s.said) ss name;
  served = λ (name : List ℕ). ap (λ (ks : List (List ℕ)). list_any (bytes_eq name) ks) filled.served ∙ among_keys_table bytes_eq exact_bytes (λ (s : Statement). lterm_said s.said) ss name ∙ served_by ss name;
}
