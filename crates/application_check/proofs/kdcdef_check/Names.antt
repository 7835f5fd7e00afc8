-- Which names a table has, filled one statement after another.
use Rattle.std.proofs.Common.{◌≡◌, refl, sym, ◌∙◌, ap, inl, inr, arith, Bool, true, false, cond, ◌||◌, nat_eq, bytes_eq, is_some, List, [], ◌∷◌, ◌++◌, Option, Some, None, fold, filter_map}
use Rattle.std.specs.List.{cons_option, list_any}
use Rattle.std.specs.Map.{lookup}
use Rattle.std.proofs.lemmas.Bool.Decides.{eqb_tells}
use Rattle.std.proofs.lemmas.List.Folds.{list_any-append}
use Rattle.std.proofs.lemmas.Slice.Eq.{bytes_eq-Decides}
use Rattle.indexmap.specs.IndexMap.{insert_entry}
use Rattle.indexmap.specs.IndexSet.{insert_key}
use Rattle.application_types.specs.declared.kdcdef_types.statement.Statement.{Statement}
use Rattle.application_check.specs.Steps.{put, put_key, table_of, keys_table}

-- what is equal by the test is the same
abbrev pub IsExact : {K : Type 0} → (K → K → Bool) → Type 0
IsExact {K} eq = (x y : K) → eq x y ≡ true → x ≡ y

pub exact_numbers : IsExact nat_eq
exact_numbers x y h = elim (eqb_tells x y) [ inl p ↦ p.1 | inr p ↦ absurd (grind (arith, p.0, h)) ]

pub exact_bytes : IsExact bytes_eq
exact_bytes x y h = (bytes_eq-Decides x y).0 h

pub or_true : (b : Bool) → (b || true) ≡ true
or_true true = refl
or_true false = refl

pub or_false : (b : Bool) → (b || false) ≡ b
or_false true = refl
or_false false = refl

or_swapped : (a b c : Bool) → (a || (b || c)) ≡ (b || (a || c))
or_swapped true b c = sym (or_true b)
or_swapped false b c = refl

or_regrouped : (a b c : Bool) → ((a || b) || c) ≡ (b || (a || c))
or_regrouped true b c = sym (or_true b)
or_regrouped false b c = refl

or_turned : (a b : Bool) → (a || b) ≡ (b || a)
or_turned true b = sym (or_true b)
or_turned false b = sym (or_false b)

or_again : (a b c : Bool) → a ≡ b → (b || c) ≡ (a || (b || c))
or_again true b c h = rw (sym h) refl
or_again false b c h = refl

pub at_head : {V : Type 0} (b : Bool) (v : V) (o : Option V) → is_some (cond b (Some v) o) ≡ (b || is_some o)
at_head true v o = refl
at_head false v o = refl

-- what is found in what was filled, where a test finds what one entry has and what the rest has
found_filled_by : {A : Type 0} (add : Option A → List A → List A) (found : List A → Bool) → found [] ≡ false → ((o : Option A) (es : List A) → found (add o es) ≡ (found (cons_option o []) || found es)) → ((o : Option A) (es : List A) → found (cons_option o es) ≡ (found (cons_option o []) || found es))
    → (f : Statement → Option A) (ss : List Statement) (es : List A) → found (fold (λ (made : List A) (s : Statement). add (f s) made) es ss) ≡ (found es || found (filter_map f ss))
found_filled_by add found none adds more f [] es = rw none (sym (or_false (found es)))
found_filled_by add found none adds more f (s ∷ ss) es =
    found_filled_by add found none adds more f ss (add (f s) es)
    ∙ ap (λ b. b || found (filter_map f ss)) (adds (f s) es)
    ∙ or_regrouped (found (cons_option (f s) [])) (found es) (found (filter_map f ss))
    ∙ ap (λ b. found es || b) (sym (more (f s) (filter_map f ss)))

module _ {K V : Type 0} (eq : K → K → Bool) (exact : IsExact eq) where
  -- a name is there after an insertion where it was inserted, or was there
  there_insert : (es : List (K × V)) (k new : K) (v : V) → is_some (lookup (eq k) (insert_entry eq es new v)) ≡ (eq k new || is_some (lookup (eq k) es))
  there_insert [] k new v = at_head (eq k new) v None
  there_insert (e ∷ es) k new v = go (there_insert es k new v) (eq new e.0) refl
    where
      there : Bool
      there = is_some (lookup (eq k) es)

      behind : (eq k new || (eq k e.0 || there)) ≡ (eq k new || is_some (cond (eq k e.0) (Some e.1) (lookup (eq k) es)))
      behind = ap (λ b. eq k new || b) (sym (at_head (eq k e.0) e.1 (lookup (eq k) es)))

      go : is_some (lookup (eq k) (insert_entry eq es new v)) ≡ (eq k new || there) → (a : Bool) → eq new e.0 ≡ a → is_some (lookup (eq k) (cond a ((e.0, v) ∷ es) (e ∷ insert_entry eq es new v))) ≡ (eq k new || is_some (cond (eq k e.0) (Some e.1) (lookup (eq k) es)))
      go so_far true h = at_head (eq k e.0) v (lookup (eq k) es) ∙ or_again (eq k new) (eq k e.0) there (ap (eq k) (exact new e.0 h)) ∙ behind
      go so_far false h =
          at_head (eq k e.0) e.1 (lookup (eq k) (insert_entry eq es new v))
          ∙ ap (λ b. eq k e.0 || b) so_far
          ∙ or_swapped (eq k e.0) (eq k new) there
          ∙ behind

  there_put : (o : Option (K × V)) (es : List (K × V)) (k : K) → is_some (lookup (eq k) (put eq o es)) ≡ (is_some (lookup (eq k) (cons_option o [])) || is_some (lookup (eq k) es))
  there_put None es k = refl
  there_put (Some p) es k = there_insert es k p.0 p.1 ∙ ap (λ b. b || is_some (lookup (eq k) es)) (sym (at_head (eq k p.0) p.1 None ∙ or_false (eq k p.0)))

  there_cons : (o : Option (K × V)) (es : List (K × V)) (k : K) → is_some (lookup (eq k) (cons_option o es)) ≡ (is_some (lookup (eq k) (cons_option o [])) || is_some (lookup (eq k) es))
  there_cons None es k = refl
  there_cons (Some p) es k = at_head (eq k p.0) p.1 (lookup (eq k) es) ∙ ap (λ b. b || is_some (lookup (eq k) es)) (sym (at_head (eq k p.0) p.1 None ∙ or_false (eq k p.0)))

  -- a filled table has the names that the statements make
  pub there_table_of : (f : Statement → Option (K × V)) (ss : List Statement) (k : K) → is_some (lookup (eq k) (table_of eq f ss)) ≡ is_some (lookup (eq k) (filter_map f ss))
  there_table_of f ss k = found_filled_by (put eq) (λ (es : List (K × V)). is_some (lookup (eq k) es)) refl (λ o es. there_put o es k) (λ o es. there_cons o es k) f ss []

module _ {K : Type 0} (eq : K → K → Bool) (exact : IsExact eq) where
  among_insert : (ks : List K) (k new : K) → list_any (eq k) (insert_key eq ks new) ≡ (eq k new || list_any (eq k) ks)
  among_insert ks k new = go (list_any (eq new) ks) refl
    where
      present : (b : Bool) → eq k new ≡ b → list_any (eq new) ks ≡ true → list_any (eq k) ks ≡ (b || list_any (eq k) ks)
      present true h is = rw (exact k new h) is
      present false h is = refl

      go : (a : Bool) → list_any (eq new) ks ≡ a → list_any (eq k) (cond a ks (ks ++ new ∷ [])) ≡ (eq k new || list_any (eq k) ks)
      go true h = present (eq k new) refl h
      go false h = list_any-append (eq k) ks (new ∷ []) ∙ ap (λ b. list_any (eq k) ks || b) (or_false (eq k new)) ∙ or_turned (list_any (eq k) ks) (eq k new)

  among_put : (o : Option K) (ks : List K) (k : K) → list_any (eq k) (put_key eq o ks) ≡ (list_any (eq k) (cons_option o []) || list_any (eq k) ks)
  among_put None ks k = refl
  among_put (Some new) ks k = among_insert ks k new ∙ ap (λ b. b || list_any (eq k) ks) (sym (or_false (eq k new)))

  among_cons : (o : Option K) (ks : List K) (k : K) → list_any (eq k) (cons_option o ks) ≡ (list_any (eq k) (cons_option o []) || list_any (eq k) ks)
  among_cons None ks k = refl
  among_cons (Some new) ks k = ap (λ b. b || list_any (eq k) ks) (sym (or_false (eq k new)))

  pub among_keys_table : (f : Statement → Option K) (ss : List Statement) (k : K) → list_any (eq k) (keys_table eq f ss) ≡ list_any (eq k) (filter_map f ss)
  among_keys_table f ss k = found_filled_by (put_key eq) (λ (ks : List K). list_any (eq k) ks) refl (λ o ks. among_put o ks k) (λ o ks. among_cons o ks k) f ss []
