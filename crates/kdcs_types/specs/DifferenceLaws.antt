-- What holds of the difference of two tables.
use Rattle.std.specs.Prelude.{◌≡◌, ◌≢◌, refl, Bool, true, false, cond, ◌||◌, IsTrue, List, [], ◌∷◌, ◌++◌, map, Option, Some, None, is_some}
use Rattle.std.proofs.Common.{sym, ap, ◌∙◌, true≢false}
use Rattle.std.proofs.lemmas.List.Folds.{list_any-append}
use Rattle.std.specs.Option.{option_map}
use Rattle.std.specs.List.{list_all, list_any}
use Rattle.kd_base.specs.ToolsLaws.{true_both, is_some_map}
use Rattle.kdcs_types.specs.declared.key.Key.{Key}
use Rattle.kdcs_types.specs.declared.key.Key.TheVariants as key
use Rattle.kdcs_types.specs.declared.service.Service.{Service}
use Rattle.kdcs_types.specs.declared.act.Row.{Row}
use Rattle.kdcs_types.specs.declared.act.Change.{Change}
use Rattle.kdcs_types.specs.declared.act.Change.TheVariants.{Set, Remove}
use Rattle.kdcs_types.specs.declared.act.Changes.{Changes}
use Rattle.kdcs_types.specs.Keys.{key_eq}
use Rattle.kdcs_types.specs.Keyed.{ascends, item_at}
use Rattle.kdcs_types.specs.KeyLaws.{key_eq_same, id_eq_itself}
use Rattle.kdcs_types.specs.KeyedLaws.{item_at_with, ascends_with, all_with, found_key, found_passes, found_among, same_items}
use Rattle.kdcs_types.specs.Tables.{TableRows, gssb_key, tls_key, uls_key, service_key, job_key, shown_key, gssb_row, tls_row, uls_row, service_row, job_row, shown_row, row_key, row_at, changed}
use Rattle.kdcs_types.specs.Tables.{is_filled, service_fits, row_fits, change_fits, change_key, change_at, AreChanges, IsSortedTables}
use Rattle.kdcs_types.specs.Same.{row_same}
use Rattle.kdcs_types.specs.SameLaws.{row_same_only, row_same_itself}
use Rattle.kdcs_types.specs.Difference.{keys_of, change_to, noted_unless, differing, difference}
use Rattle.kdcs_types.specs.TableLaws.{row_after, AreRealChanges}
use Rattle.kdcs_types.specs.RowLaws.{rows_changed, numbers_changed, changed_sorted, same_tables}

-- ---- the rows of tables

module _ {E : Type 0} (key_of : E → Key) (row_of : E → Row) (keeps : (e : E) → row_key (row_of e) ≡ key_of e) (q : Key) (es : List E) where
  -- the row that is found under a key has it
  found_row : (o : Option E) → item_at key_of q es ≡ o → change_key (change_to q (option_map row_of o)) ≡ q
  found_row None h = refl
  found_row (Some e) h = keeps e ∙ found_key key_of q es e h

  -- and is one that may be there
  found_fits : ((e : E) → item_at key_of q es ≡ Some e → IsTrue (row_fits (row_of e))) → (o : Option E) → item_at key_of q es ≡ o → IsTrue (change_fits (change_to q (option_map row_of o)))
  found_fits fits None h = refl
  found_fits fits (Some e) h = fits e h

pub row_at_key : (t : TableRows) (k : Key) → change_key (change_to k (row_at t k)) ≡ k
row_at_key t (key.Gssb n) = found_row gssb_key gssb_row (λ e. refl) (key.Gssb n) t.gssbs _ refl
row_at_key t (key.Tls b l) = found_row tls_key tls_row (λ e. refl) (key.Tls b l) t.tlss _ refl
row_at_key t (key.Uls b l) = found_row uls_key uls_row (λ e. refl) (key.Uls b l) t.ulss _ refl
row_at_key t (key.Service i) = found_row service_key service_row (λ e. refl) (key.Service i) t.services _ refl
row_at_key t (key.Job n) = found_row job_key job_row (λ e. refl) (key.Job n) t.jobs _ refl
row_at_key t (key.Shown n) = found_row shown_key shown_row (λ e. refl) (key.Shown n) t.shown _ refl

pub row_at_fits : (t : TableRows) → IsSortedTables t → (k : Key) → IsTrue (change_fits (change_to k (row_at t k)))
row_at_fits t h (key.Gssb n) = found_fits gssb_key gssb_row (λ e. refl) (key.Gssb n) t.gssbs (λ e f. refl) _ refl
row_at_fits t h (key.Tls b l) =
    found_fits tls_key tls_row (λ e. refl) (key.Tls b l) t.tlss
    (λ e f. found_passes tls_key (λ r. is_filled r.2) (key.Tls b l) t.tlss e h.tlss_filled f) _ refl
row_at_fits t h (key.Uls b l) =
    found_fits uls_key uls_row (λ e. refl) (key.Uls b l) t.ulss
    (λ e f. found_passes uls_key (λ r. is_filled r.2) (key.Uls b l) t.ulss e h.ulss_filled f) _ refl
row_at_fits t h (key.Service i) =
    found_fits service_key service_row (λ e. refl) (key.Service i) t.services
    (λ (e : Service) f. true_both _ _ (id_eq_itself e.id) (found_passes service_key service_fits (key.Service i) t.services e h.services_fit f)) _ refl
row_at_fits t h (key.Job n) = found_fits job_key job_row (λ e. refl) (key.Job n) t.jobs (λ e f. refl) _ refl
row_at_fits t h (key.Shown n) = found_fits shown_key shown_row (λ e. refl) (key.Shown n) t.shown (λ e f. refl) _ refl

-- ---- the keys of all rows

in_left : (p : Key → Bool) (xs ys : List Key) → IsTrue (list_any p xs) → IsTrue (list_any p (xs ++ ys))
in_left p xs ys h = list_any-append p xs ys ∙ ap (λ b. b || list_any p ys) h

in_right : (p : Key → Bool) (xs ys : List Key) → IsTrue (list_any p ys) → IsTrue (list_any p (xs ++ ys))
in_right p xs ys h = list_any-append p xs ys ∙ either (list_any p xs) (list_any p ys) h
  where
    either : (a b : Bool) → b ≡ true → (a || b) ≡ true
    either true b e = refl
    either false b e = e

module _ (t : TableRows) where
  abbrev from_shown : List Key
  from_shown = map shown_key t.shown

  abbrev from_jobs : List Key
  from_jobs = map job_key t.jobs ++ from_shown

  abbrev from_services : List Key
  from_services = map service_key t.services ++ from_jobs

  abbrev from_ulss : List Key
  from_ulss = map uls_key t.ulss ++ from_services

  abbrev from_tlss : List Key
  from_tlss = map tls_key t.tlss ++ from_ulss

  module _ (p : Key → Bool) where
    past_gssbs : IsTrue (list_any p from_tlss) → IsTrue (list_any p (keys_of t))
    past_gssbs h = in_right p (map gssb_key t.gssbs) from_tlss h

    past_tlss : IsTrue (list_any p from_ulss) → IsTrue (list_any p (keys_of t))
    past_tlss h = past_gssbs (in_right p (map tls_key t.tlss) from_ulss h)

    past_ulss : IsTrue (list_any p from_services) → IsTrue (list_any p (keys_of t))
    past_ulss h = past_tlss (in_right p (map uls_key t.ulss) from_services h)

    past_services : IsTrue (list_any p from_jobs) → IsTrue (list_any p (keys_of t))
    past_services h = past_ulss (in_right p (map service_key t.services) from_jobs h)

  pub has_key : (q : Key) → IsTrue (is_some (row_at t q)) → IsTrue (list_any (key_eq q) (keys_of t))
  has_key (key.Gssb n) h = in_left _ (map gssb_key t.gssbs) from_tlss (found_among gssb_key (key.Gssb n) t.gssbs (sym (is_some_map gssb_row _) ∙ h))
  has_key (key.Tls b l) h = past_gssbs _ (in_left _ (map tls_key t.tlss) from_ulss (found_among tls_key (key.Tls b l) t.tlss (sym (is_some_map tls_row _) ∙ h)))
  has_key (key.Uls b l) h = past_tlss _ (in_left _ (map uls_key t.ulss) from_services (found_among uls_key (key.Uls b l) t.ulss (sym (is_some_map uls_row _) ∙ h)))
  has_key (key.Service i) h = past_ulss _ (in_left _ (map service_key t.services) from_jobs (found_among service_key (key.Service i) t.services (sym (is_some_map service_row _) ∙ h)))
  has_key (key.Job n) h = past_services _ (in_left _ (map job_key t.jobs) from_shown (found_among job_key (key.Job n) t.jobs (sym (is_some_map job_row _) ∙ h)))
  has_key (key.Shown n) h = past_services _ (in_right _ (map job_key t.jobs) from_shown (found_among shown_key (key.Shown n) t.shown (sym (is_some_map shown_row _) ∙ h)))

-- ---- what differs

module _ (old new : TableRows) where
  -- the change that a key needs
  abbrev needed : Key → Option Change
  needed q = cond (row_same (row_at old q) (row_at new q)) None (Some (change_to q (row_at new q)))

  differing_at : (q : Key) (ks : List Key) → change_at q (differing old new ks) ≡ cond (list_any (key_eq q) ks) (needed q) None
  unfolding differing
  differing_at q [] = refl
  differing_at q (k ∷ ks) = by (differing_at q ks) (row_same (row_at old k) (row_at new k)) refl
    where
      none : (a : Bool) (o : Option Change) → o ≡ None → cond a o None ≡ o
      none true o e = refl
      none false o e = sym e

      by : change_at q (differing old new ks) ≡ cond (list_any (key_eq q) ks) (needed q) None → (b : Bool) → row_same (row_at old k) (row_at new k) ≡ b → change_at q (noted_unless b (change_to k (row_at new k)) (differing old new ks)) ≡ cond (key_eq q k || list_any (key_eq q) ks) (needed q) None
      by rest true p =
          rest
          ∙ elim (key_eq q k) as (λ c. key_eq q k ≡ c → cond (list_any (key_eq q) ks) (needed q) None ≡ cond (c || list_any (key_eq q) ks) (needed q) None) [
            | true ↦ λ e. none (list_any (key_eq q) ks) (needed q) (ap needed (key_eq_same q k e) ∙ ap (λ c. cond c None (Some (change_to k (row_at new k)))) p)
            | false ↦ λ e. refl
          ] refl
      by rest false p =
          item_at_with change_key q (change_to k (row_at new k)) (differing old new ks)
          ∙ ap (λ j. cond (key_eq q j) (Some (change_to k (row_at new k))) (change_at q (differing old new ks))) (row_at_key new k)
          ∙ elim (key_eq q k) as (λ c. key_eq q k ≡ c → cond c (Some (change_to k (row_at new k))) (change_at q (differing old new ks)) ≡ cond (c || list_any (key_eq q) ks) (needed q) None) [
            | true ↦ λ e. sym (ap needed (key_eq_same q k e) ∙ ap (λ c. cond c None (Some (change_to k (row_at new k)))) p)
            | false ↦ λ e. rest
          ] refl

  no_row : (t : TableRows) (q : Key) → list_any (key_eq q) (keys_of t) ≡ false → row_at t q ≡ None
  no_row t q h =
      elim (row_at t q) as (λ o. row_at t q ≡ o → o ≡ None) [
        | None ↦ λ e. refl
        | Some r ↦ λ e. absurd (true≢false (sym (has_key t q (ap is_some e)) ∙ h))
      ] refl

  difference_at : (q : Key) → change_at q (difference old new).items ≡ needed q
  difference_at q =
      differing_at q (keys_of old ++ keys_of new)
      ∙ elim (list_any (key_eq q) (keys_of old ++ keys_of new)) as (λ b. list_any (key_eq q) (keys_of old ++ keys_of new) ≡ b → cond b (needed q) None ≡ needed q) [
        | true ↦ λ e. refl
        | false ↦ λ e.
            let none_old = no_row old q (absent _ _ (in_left _ (keys_of old) (keys_of new)) e) in
            let none_new = no_row new q (absent _ _ (in_right _ (keys_of old) (keys_of new)) e) in
            sym (ap (λ b. cond b None (Some (change_to q (row_at new q)))) ((λ i. row_same (none_old i) (none_new i))))
      ] refl
    where
      absent : (a b : Bool) → (a ≡ true → b ≡ true) → b ≡ false → a ≡ false
      absent true b there h = absurd (true≢false (sym (there refl) ∙ h))
      absent false b there h = refl

  differing_ascends : (ks : List Key) → IsTrue (ascends change_key (differing old new ks))
  unfolding differing
  differing_ascends [] = refl
  differing_ascends (k ∷ ks) =
      elim (row_same (row_at old k) (row_at new k)) as (λ b. IsTrue (ascends change_key (noted_unless b (change_to k (row_at new k)) (differing old new ks)))) [
        | true ↦ differing_ascends ks
        | false ↦ ascends_with change_key (change_to k (row_at new k)) (differing old new ks) (differing_ascends ks)
      ]

  differing_fits : IsSortedTables new → (ks : List Key) → IsTrue (list_all change_fits (differing old new ks))
  unfolding differing
  differing_fits h [] = refl
  differing_fits h (k ∷ ks) =
      elim (row_same (row_at old k) (row_at new k)) as (λ b. IsTrue (list_all change_fits (noted_unless b (change_to k (row_at new k)) (differing old new ks)))) [
        | true ↦ differing_fits h ks
        | false ↦ all_with change_key change_fits (change_to k (row_at new k)) (differing old new ks) (row_at_fits new h k) (differing_fits h ks)
      ]

pub difference_exact : (old new : TableRows) (k : Key)
    → (row_at old k ≡ row_at new k → change_at k (difference old new).items ≡ None) × (row_at old k ≢ row_at new k → change_at k (difference old new).items ≡ Some (change_to k (row_at new k)))
difference_exact old new k = (same, other)
  where
    same : row_at old k ≡ row_at new k → change_at k (difference old new).items ≡ None
    same e =
        difference_at old new k
        ∙ ap (λ b. cond b None (Some (change_to k (row_at new k)))) (ap (λ o. row_same o (row_at new k)) e ∙ row_same_itself (row_at new k))

    other : row_at old k ≢ row_at new k → change_at k (difference old new).items ≡ Some (change_to k (row_at new k))
    other apart =
        difference_at old new k
        ∙ elim (row_same (row_at old k) (row_at new k)) as (λ b. row_same (row_at old k) (row_at new k) ≡ b → cond b None (Some (change_to k (row_at new k))) ≡ Some (change_to k (row_at new k))) [
          | true ↦ λ e. absurd (apart (row_same_only _ _ e))
          | false ↦ λ e. refl
        ] refl

pub difference_changes : (old new : TableRows) → IsSortedTables new → AreChanges (difference old new).items
difference_changes old new h = record {
  ascending = differing_ascends old new (keys_of old ++ keys_of new);
  fit = differing_fits old new h (keys_of old ++ keys_of new);
}

after_needed : (old new : TableRows) (k : Key) → row_after (needed old new k) (row_at old k) ≡ row_at new k
after_needed old new k =
    elim (row_same (row_at old k) (row_at new k)) as (λ b. row_same (row_at old k) (row_at new k) ≡ b → row_after (cond b None (Some (change_to k (row_at new k)))) (row_at old k) ≡ row_at new k) [
      | true ↦ λ e. row_same_only _ _ e
      | false ↦ λ e. set_to (row_at new k)
    ] refl
  where
    set_to : (o : Option Row) → row_after (Some (change_to k o)) (row_at old k) ≡ o
    set_to None = refl
    set_to (Some r) = refl

pub difference_makes_new : (old new : TableRows) → IsSortedTables old → IsSortedTables new → changed old (difference old new) ≡ new
difference_makes_new old new g h =
    let are = difference_changes old new h in
    let numbers = numbers_changed old (difference old new) in
    same_tables (changed old (difference old new)) new (changed_sorted old (difference old new) g are) h numbers.0 numbers.1
    (λ k. rows_changed old (difference old new) are k ∙ ap (λ o. row_after o (row_at old k)) (difference_at old new k) ∙ after_needed old new k)

-- ---- the difference of tables and the same with changes

module _ (t : TableRows) (c : Changes) (sorted : IsSortedTables t) (are : AreRealChanges t c) where
  -- after a change, the row of its key says which it was
  changed_by : (k : Key) (ch : Change) → change_key ch ≡ k → change_to k (row_after (Some ch) (row_at t k)) ≡ ch
  changed_by k (Set r) e = refl
  changed_by k (Remove j) e = ap Remove (sym e)

  same_change : (k : Key) (o : Option Change) → change_at k c.items ≡ o → change_at k (difference t (changed t c)).items ≡ o
  same_change k None e =
      (difference_exact t (changed t c) k).0 (sym (rows_changed t c are.changes k ∙ ap (λ o. row_after o (row_at t k)) e))
  same_change k (Some ch) e =
      let row : row_at (changed t c) k ≡ row_after (Some ch) (row_at t k) = rows_changed t c are.changes k ∙ ap (λ o. row_after o (row_at t k)) e in
      (difference_exact t (changed t c) k).1 (λ same. are.real k ch e (sym row ∙ sym same))
      ∙ ap (λ o. Some (change_to k o)) row
      ∙ ap Some (changed_by k ch (found_key change_key k c.items ch e))

  pub difference_is_changes : difference t (changed t c) ≡ c
  difference_is_changes =
      let after = changed_sorted t c sorted are.changes in
      let numbers = numbers_changed t c in
      let items = same_items change_key (difference t (changed t c)).items c.items (difference_changes t (changed t c) after).ascending are.changes.ascending (λ k. same_change k _ refl) in
      λ i. record { clock = numbers.0 i; next_job = numbers.1 i; items = items i }
