-- With no name twice, the filled tables are those of the generation.
use Rattle.std.proofs.Common.{◌≡◌, ◌⊎◌, ℕ, zero, suc, ◌+◌, ◌<◌, ◌≤◌, refl, sym, ◌∙◌, ap, subst, inl, inr, arith, Bool, true, false, cond, ◌||◌, List, [], ◌∷◌, ◌++◌, length, take, get_or, slice_get}
use Rattle.std.proofs.Common.{Option, Some, None, is_some, bytes_eq, nat_eq, filter_map}
use Rattle.std.specs.List.{cons_option, list_any}
use Rattle.std.specs.Option.{IfSome}
use Rattle.std.specs.Map.{lookup}
use Rattle.std.proofs.lemmas.List.{take_all, append-nil}
use Rattle.std.proofs.lemmas.List.Elements.{filter_map-append}
use Rattle.std.proofs.lemmas.Option.{slice_get_cases}
use Rattle.indexmap.specs.IndexMap.{insert_entry}
use Rattle.application_types.specs.declared.kdcdef_types.entry.TacEntry.{TacEntry}
use Rattle.application_types.specs.declared.kdcdef_types.entry.UserEntry.{UserEntry}
use Rattle.application_types.specs.declared.kdcdef_types.entry.PtermEntry.{PtermEntry}
use Rattle.application_types.specs.declared.kdcdef_types.entry.LtermEntry.{LtermEntry}
use Rattle.application_types.specs.declared.kdcdef_types.entry.KeySet.{KeySet}
use Rattle.application_types.specs.declared.kdcdef_types.limits.Counts.{Counts}
use Rattle.application_types.specs.declared.kdcdef_types.statement.Said.{Said}
use Rattle.application_types.specs.declared.kdcdef_types.statement.Said.TheVariants.{Program, Tac, User, Pterm, Lterm, Tls, Uls, TacClass, Kset}
use Rattle.application_types.specs.declared.kdcdef_types.statement.Statement.{Statement}
use Rattle.application_types.specs.Generation.{Generated, entry_of, tac_of, user_of, pterm_of, lterm_of, has_tls, has_uls, class_limit}
use Rattle.application_check.specs.declared.kdcdef_check.tables.Tables.{Tables}
use Rattle.application_check.specs.Generating.{as_program, as_tac, as_user, as_pterm, as_lterm, as_tls, as_uls, as_class, as_kset, max_given, with_defaults, double_said, counts_of, generated}
use Rattle.application_check.specs.Faults.{is_taken, AreFaultless}
use Rattle.application_check.specs.Steps.{put, put_key, filled_by, table_of, keys_table, AreFilled, made_of}
use Rattle.application_check.proofs.kdcdef_check.Passing.{next_taken}
use Rattle.application_check.proofs.kdcdef_check.Filling.{filled_by_push}
use Rattle.application_check.proofs.kdcdef_check.Faultless.{not_taken}

-- f makes nothing at a statement whose name the entries before it have
abbrev IsFresh : {K V : Type 0} → (K → K → Bool) → (Statement → Option (K × V)) → List Statement → Type 0
IsFresh {K} {V} eq f ss = (i : ℕ) (s : Statement) → slice_get ss i ≡ Some s → IfSome (f s) (λ (p : K × V). is_some (lookup (eq p.0) (filter_map f (take i ss))) ≡ false)

abbrev IsFreshKey : {K : Type 0} → (K → K → Bool) → (Statement → Option K) → List Statement → Type 0
IsFreshKey {K} eq f ss = (i : ℕ) (s : Statement) → slice_get ss i ≡ Some s → IfSome (f s) (λ (p : K). list_any (eq p) (filter_map f (take i ss)) ≡ false)

-- what is put in after what was made before is at the end
module _ {A : Type 0} (add : Option A → List A → List A) (f : Statement → Option A) (ss : List Statement) (adds : (i : ℕ) (s : Statement) → slice_get ss i ≡ Some s → add (f s) (filter_map f (take i ss)) ≡ filter_map f (take i ss) ++ cons_option (f s) []) where
  exact_to : (n : ℕ) → n ≤ length ss → filled_by add f (take n ss) ≡ filter_map f (take n ss)
  exact_to zero within = refl
  exact_to (suc n) within = by (slice_get_cases ss n).1 (exact_to n (omega (arith, within)))
    where
      by : ((s : Statement) × (n < length ss) × (slice_get ss n ≡ Some s) × (get_or ss n s ≡ s)) ⊎ ((length ss ≤ n) × (slice_get ss n ≡ None)) → filled_by add f (take n ss) ≡ filter_map f (take n ss) → filled_by add f (take (suc n) ss) ≡ filter_map f (take (suc n) ss)
      by (inl h) so_far =
          let e : suc n ≡ n + 1 = omega arith in
          let next : take (suc n) ss ≡ take n ss ++ h.0 ∷ [] = ap (λ (m : ℕ). take m ss) e ∙ next_taken ss n h.0 h.1 (sym h.3) in
          rw next (filled_by_push add f (take n ss) h.0 ∙ ap (add (f h.0)) so_far ∙ adds n h.0 h.2 ∙ sym (filter_map-append f (take n ss) (h.0 ∷ [])))
      by (inr h) so_far = absurd (omega (arith, within, h.0))

  exact : filled_by add f ss ≡ filter_map f ss
  exact = subst (λ (xs : List Statement). filled_by add f xs ≡ filter_map f xs) (take_all (length ss) ss (omega arith)) (exact_to (length ss) (omega arith))

module _ {K V : Type 0} (eq : K → K → Bool) where
  insert_fresh : (es : List (K × V)) (k : K) (v : V) → is_some (lookup (eq k) es) ≡ false → insert_entry eq es k v ≡ es ++ (k, v) ∷ []
  insert_fresh [] k v h = refl
  insert_fresh (e ∷ es) k v h = go (insert_fresh es k v) (eq k e.0) h
    where
      go : (is_some (lookup (eq k) es) ≡ false → insert_entry eq es k v ≡ es ++ (k, v) ∷ []) → (b : Bool) → is_some (cond b (Some e.1) (lookup (eq k) es)) ≡ false → cond b ((e.0, v) ∷ es) (e ∷ insert_entry eq es k v) ≡ e ∷ (es ++ (k, v) ∷ [])
      go rest true i = absurd (grind (arith, i))
      go rest false i = ap (λ (xs : List (K × V)). e ∷ xs) (rest i)

  put_fresh : (o : Option (K × V)) (es : List (K × V)) → IfSome o (λ (p : K × V). is_some (lookup (eq p.0) es) ≡ false) → put eq o es ≡ es ++ cons_option o []
  put_fresh None es h = sym (append-nil es)
  put_fresh (Some p) es h = insert_fresh es p.0 p.1 h

  exact_table : (f : Statement → Option (K × V)) (ss : List Statement) → IsFresh eq f ss → table_of eq f ss ≡ filter_map f ss
  exact_table f ss fresh = exact (put eq) f ss (λ i s at. put_fresh (f s) (filter_map f (take i ss)) (fresh i s at))

module _ {K : Type 0} (eq : K → K → Bool) where
  put_fresh_key : (o : Option K) (ks : List K) → IfSome o (λ (p : K). list_any (eq p) ks ≡ false) → put_key eq o ks ≡ ks ++ cons_option o []
  put_fresh_key None ks h = sym (append-nil ks)
  put_fresh_key (Some p) ks h = rw h refl

  exact_keys : (f : Statement → Option K) (ss : List Statement) → IsFreshKey eq f ss → keys_table eq f ss ≡ filter_map f ss
  exact_keys f ss fresh = exact (put_key eq) f ss (λ i s at. put_fresh_key (f s) (filter_map f (take i ss)) (fresh i s at))

-- ---- a name that is not taken is not in its table

left_false : (a b : Bool) → (a || b) ≡ false → a ≡ false
left_false true b h = h
left_false false b h = refl

fresh_entries : (g : Generated) (line : ℕ) (said : Said) → is_taken g said ≡ false
    → IfSome (as_program line said) (λ (p : List ℕ × ℕ). is_some (entry_of g.programs p.0) ≡ false) × IfSome (as_tac said) (λ (p : List ℕ × TacEntry). is_some (tac_of g p.0) ≡ false)
    × IfSome (as_user said) (λ (p : List ℕ × UserEntry). is_some (user_of g p.0) ≡ false) × IfSome (as_pterm said) (λ (p : List ℕ × PtermEntry). is_some (pterm_of g p.0) ≡ false)
    × IfSome (as_lterm said) (λ (p : List ℕ × LtermEntry). is_some (lterm_of g p.0) ≡ false) × IfSome (as_tls said) (λ (p : List ℕ). has_tls g p ≡ false)
    × IfSome (as_uls said) (λ (p : List ℕ). has_uls g p ≡ false) × IfSome (as_class said) (λ (p : ℕ × ℕ). is_some (class_limit g p.0) ≡ false)
    × IfSome (as_kset said) (λ (p : List ℕ × KeySet). is_some (entry_of g.ksets p.0) ≡ false)
fresh_entries g line (Program name) h = (h, tt, tt, tt, tt, tt, tt, tt, tt)
fresh_entries g line (Tac name entry) h = (tt, left_false (is_some (tac_of g name)) (is_some (lterm_of g name)) h, tt, tt, tt, tt, tt, tt, tt)
fresh_entries g line (User name entry) h = (tt, tt, h, tt, tt, tt, tt, tt, tt)
fresh_entries g line (Pterm name entry) h = (tt, tt, tt, h, tt, tt, tt, tt, tt)
fresh_entries g line (Lterm name entry) h = (tt, tt, tt, tt, left_false (is_some (lterm_of g name)) (is_some (tac_of g name)) h, tt, tt, tt, tt)
fresh_entries g line (Tls name) h = (tt, tt, tt, tt, tt, h, tt, tt, tt)
fresh_entries g line (Uls name) h = (tt, tt, tt, tt, tt, tt, h, tt, tt)
fresh_entries g line (TacClass class tasks) h = (tt, tt, tt, tt, tt, tt, tt, h, tt)
fresh_entries g line (Kset name set) h = (tt, tt, tt, tt, tt, tt, tt, tt, h)
fresh_entries g line _ h = (tt, tt, tt, tt, tt, tt, tt, tt, tt)

-- the tables that the statements filled, with the limits, the counts and the line of DOUBLE, are what they generate
pub made_exactly : (t : Tables) (ss : List Statement) (counts : Counts) (double : Option ℕ) → AreFilled t ss → AreFaultless ss → counts ≡ counts_of ss → double ≡ double_said ss → made_of t (with_defaults (max_given ss)) counts double ≡ generated ss
made_exactly t ss counts double filled free counted is_double = λ j. record {
  limits = with_defaults (max_given ss);
  programs = (filled.programs ∙ exact_table bytes_eq (λ (s : Statement). as_program s.line s.said) ss (λ i s at. (fresh_entries (generated (take i ss)) s.line s.said (not_taken ss free i s at)).0)) j;
  tacs = (filled.tacs ∙ exact_table bytes_eq (λ (s : Statement). as_tac s.said) ss (λ i s at. (fresh_entries (generated (take i ss)) s.line s.said (not_taken ss free i s at)).1)) j;
  users = (filled.users ∙ exact_table bytes_eq (λ (s : Statement). as_user s.said) ss (λ i s at. (fresh_entries (generated (take i ss)) s.line s.said (not_taken ss free i s at)).2)) j;
  pterms = (filled.pterms ∙ exact_table bytes_eq (λ (s : Statement). as_pterm s.said) ss (λ i s at. (fresh_entries (generated (take i ss)) s.line s.said (not_taken ss free i s at)).3)) j;
  lterms = (filled.lterms ∙ exact_table bytes_eq (λ (s : Statement). as_lterm s.said) ss (λ i s at. (fresh_entries (generated (take i ss)) s.line s.said (not_taken ss free i s at)).4)) j;
  tls = (filled.tls ∙ exact_keys bytes_eq (λ (s : Statement). as_tls s.said) ss (λ i s at. (fresh_entries (generated (take i ss)) s.line s.said (not_taken ss free i s at)).5)) j;
  uls = (filled.uls ∙ exact_keys bytes_eq (λ (s : Statement). as_uls s.said) ss (λ i s at. (fresh_entries (generated (take i ss)) s.line s.said (not_taken ss free i s at)).6)) j;
  classes = (filled.classes ∙ exact_table nat_eq (λ (s : Statement). as_class s.said) ss (λ i s at. (fresh_entries (generated (take i ss)) s.line s.said (not_taken ss free i s at)).7)) j;
  ksets = (filled.ksets ∙ exact_table bytes_eq (λ (s : Statement). as_kset s.said) ss (λ i s at. (fresh_entries (generated (take i ss)) s.line s.said (not_taken ss free i s at)).8)) j;
  counts = counted j;
  double = is_double j;
}
