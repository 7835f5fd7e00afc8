-- What holds of the tables after changes, and that tables are known by their rows.
use Rattle.std.specs.Prelude.{◌≡◌, refl, ℕ, Bool, true, false, cond, IsTrue, List, [], ◌∷◌, Option, Some, None, option_and_then}
use Rattle.std.proofs.Common.{sym, ap, subst, ◌∙◌}
use Rattle.std.specs.Option.{option_map}
use Rattle.std.specs.List.{list_all}
use Rattle.std.specs.FinMap.{is_sorted}
use Rattle.std.specs.FinMap.Entries.{below_all}
use Rattle.kd_base.specs.ToolsLaws.{both_true}
use Rattle.kdcs_types.specs.declared.key.ServiceId.{ServiceId}
use Rattle.kdcs_types.specs.declared.key.Key.{Key}
use Rattle.kdcs_types.specs.declared.key.Key.TheVariants as key
use Rattle.kdcs_types.specs.declared.service.Service.{Service}
use Rattle.kdcs_types.specs.declared.service.Job.{Job}
use Rattle.kdcs_types.specs.declared.service.JobValue.{JobValue}
use Rattle.kdcs_types.specs.declared.act.Row.{Row}
use Rattle.kdcs_types.specs.declared.act.Row.TheVariants as row
use Rattle.kdcs_types.specs.declared.act.Change.{Change}
use Rattle.kdcs_types.specs.declared.act.Change.TheVariants.{Set, Remove}
use Rattle.kdcs_types.specs.declared.act.Changes.{Changes}
use Rattle.kdcs_types.specs.Keys.{key_cmp, key_eq, id_eq}
use Rattle.kdcs_types.specs.Keyed.{keyed, ascends, item_at, with_item, without_item}
use Rattle.kdcs_types.specs.KeyLaws.{id_eq_same, key_eq_same}
use Rattle.kdcs_types.specs.KeyedLaws.{item_at_with, item_at_without, ascends_with, ascends_without, all_with, all_without, found_key, not_above, not_among, same_items}
use Rattle.kdcs_types.specs.Tables.{TableRows, empty_tables, gssb_key, tls_key, uls_key, service_key, job_key, shown_key, gssb_row, tls_row, uls_row, service_row, job_row, shown_row, row_key, row_at}
use Rattle.kdcs_types.specs.Tables.{service_of, with_row, without_row, with_change, with_changes, changed, is_filled, service_fits, row_fits, change_fits, change_key, change_at, AreChanges}
use Rattle.kdcs_types.specs.Tables.{IsSortedTables}
use Rattle.kdcs_types.specs.TableLaws.{row_after}

-- ---- one change

mapped : {A B : Type 0} (f : A → B) (b : Bool) (x : A) (o : Option A) → option_map f (cond b (Some x) o) ≡ cond b (Some (f x)) (option_map f o)
mapped f true x o = refl
mapped f false x o = refl

mapped_none : {A B : Type 0} (f : A → B) (b : Bool) (o : Option A) → option_map f (cond b None o) ≡ cond b None (option_map f o)
mapped_none f true o = refl
mapped_none f false o = refl

module _ {E : Type 0} (key_of : E → Key) (row_of : E → Row) where
  set_item : (q : Key) (e : E) (es : List E) → option_map row_of (item_at key_of q (with_item key_of e es)) ≡ cond (key_eq q (key_of e)) (Some (row_of e)) (option_map row_of (item_at key_of q es))
  set_item q e es = ap (option_map row_of) (item_at_with key_of q e es) ∙ mapped row_of (key_eq q (key_of e)) e (item_at key_of q es)

  removed_item : (q k : Key) (es : List E) → option_map row_of (item_at key_of q (without_item key_of k es)) ≡ cond (key_eq q k) None (option_map row_of (item_at key_of q es))
  removed_item q k es = ap (option_map row_of) (item_at_without key_of q k es) ∙ mapped_none row_of (key_eq q k) (item_at key_of q es)

pub row_at_with : (t : TableRows) (r : Row) (q : Key) → IsTrue (row_fits r) → row_at (with_row t r) q ≡ cond (key_eq q (row_key r)) (Some r) (row_at t q)
row_at_with t (row.Gssb n c) (key.Gssb m) h = set_item gssb_key gssb_row (key.Gssb m) (n, c) t.gssbs
row_at_with t (row.Gssb n c) _ h = refl
row_at_with t (row.Tls b l c) (key.Tls a k) h = set_item tls_key tls_row (key.Tls a k) (b, l, c) t.tlss
row_at_with t (row.Tls b l c) _ h = refl
row_at_with t (row.Uls b u c) (key.Uls a k) h = set_item uls_key uls_row (key.Uls a k) (b, u, c) t.ulss
row_at_with t (row.Uls b u c) _ h = refl
row_at_with t (row.Service i s) (key.Service j) h =
    subst
    (λ (k : ServiceId). row_at (with_row t (row.Service k s)) (key.Service j) ≡ cond (key_eq (key.Service j) (key.Service k)) (Some (row.Service k s)) (row_at t (key.Service j)))
    (id_eq_same s.id i ((both_true (id_eq s.id i) (service_fits s) h).0))
    (set_item service_key service_row (key.Service j) s t.services)
row_at_with t (row.Service i s) _ h = refl
row_at_with t (row.Job n v) (key.Job m) h = set_item job_key job_row (key.Job m) (record { number = n; value = v }) t.jobs
row_at_with t (row.Job n v) _ h = refl
row_at_with t (row.Shown l v) (key.Shown m) h = set_item shown_key shown_row (key.Shown m) (l, v) t.shown
row_at_with t (row.Shown l v) _ h = refl

pub row_at_without : (t : TableRows) (k : Key) (q : Key) → row_at (without_row t k) q ≡ cond (key_eq q k) None (row_at t q)
row_at_without t (key.Gssb n) (key.Gssb m) = removed_item gssb_key gssb_row (key.Gssb m) (key.Gssb n) t.gssbs
row_at_without t (key.Gssb n) _ = refl
row_at_without t (key.Tls b l) (key.Tls a m) = removed_item tls_key tls_row (key.Tls a m) (key.Tls b l) t.tlss
row_at_without t (key.Tls b l) _ = refl
row_at_without t (key.Uls b l) (key.Uls a m) = removed_item uls_key uls_row (key.Uls a m) (key.Uls b l) t.ulss
row_at_without t (key.Uls b l) _ = refl
row_at_without t (key.Service i) (key.Service j) = removed_item service_key service_row (key.Service j) (key.Service i) t.services
row_at_without t (key.Service i) _ = refl
row_at_without t (key.Job n) (key.Job m) = removed_item job_key job_row (key.Job m) (key.Job n) t.jobs
row_at_without t (key.Job n) _ = refl
row_at_without t (key.Shown n) (key.Shown m) = removed_item shown_key shown_row (key.Shown m) (key.Shown n) t.shown
row_at_without t (key.Shown n) _ = refl

pub row_at_with_change : (t : TableRows) (c : Change) (q : Key) → IsTrue (change_fits c) → row_at (with_change t c) q ≡ cond (key_eq q (change_key c)) (row_after (Some c) (row_at t q)) (row_at t q)
row_at_with_change t (Set r) q h = row_at_with t r q h
row_at_with_change t (Remove k) q h = row_at_without t k q

-- ---- all changes

pub row_at_with_changes : (t : TableRows) (cs : List Change) (q : Key) → IsTrue (ascends change_key cs) → IsTrue (list_all change_fits cs) → row_at (with_changes t cs) q ≡ row_after (change_at q cs) (row_at t q)
row_at_with_changes t [] q up fit = refl
row_at_with_changes t (c ∷ cs) q up fit =
    let up2 = both_true (below_all key_cmp (change_key c) (keyed change_key cs)) (is_sorted key_cmp (keyed change_key cs)) up in
    let fit2 = both_true (change_fits c) (list_all change_fits cs) fit in
    let one = row_at_with_change t c q fit2.0 in
    row_at_with_changes (with_change t c) cs q up2.1 fit2.1
    ∙ ap (row_after (change_at q cs)) one
    ∙ elim (key_eq q (change_key c)) as (λ b. key_eq q (change_key c) ≡ b → row_after (change_at q cs) (cond b (row_after (Some c) (row_at t q)) (row_at t q)) ≡ row_after (cond b (Some c) (change_at q cs)) (row_at t q)) [
      | true ↦ λ e. ap (λ o. row_after o (row_after (Some c) (row_at t q))) (subst (λ k. change_at k cs ≡ None) (sym (key_eq_same q (change_key c) e)) (not_above change_key (change_key c) (keyed change_key cs) up2.0))
      | false ↦ λ e. refl
    ] refl

with_numbers : (t : TableRows) (c : Changes) (q : Key) → row_at (record t { clock = c.clock; next_job = c.next_job }) q ≡ row_at t q
with_numbers t c (key.Gssb n) = refl
with_numbers t c _ = refl

pub rows_changed : (t : TableRows) (c : Changes) → AreChanges c.items → (k : Key) → row_at (changed t c) k ≡ row_after (change_at k c.items) (row_at t k)
rows_changed t c h k =
    row_at_with_changes (record t { clock = c.clock; next_job = c.next_job }) c.items k h.ascending h.fit
    ∙ ap (row_after (change_at k c.items)) (with_numbers t c k)

-- ---- the numbers

pub numbers_with_change : (t : TableRows) (c : Change) → ((with_change t c).clock ≡ t.clock) × ((with_change t c).next_job ≡ t.next_job)
numbers_with_change t (Set (row.Gssb n c)) = (refl, refl)
numbers_with_change t (Set (row.Tls b l c)) = (refl, refl)
numbers_with_change t (Set (row.Uls b u c)) = (refl, refl)
numbers_with_change t (Set (row.Service i s)) = (refl, refl)
numbers_with_change t (Set (row.Job n v)) = (refl, refl)
numbers_with_change t (Set (row.Shown l v)) = (refl, refl)
numbers_with_change t (Remove (key.Gssb n)) = (refl, refl)
numbers_with_change t (Remove (key.Tls b l)) = (refl, refl)
numbers_with_change t (Remove (key.Uls b l)) = (refl, refl)
numbers_with_change t (Remove (key.Service i)) = (refl, refl)
numbers_with_change t (Remove (key.Job n)) = (refl, refl)
numbers_with_change t (Remove (key.Shown n)) = (refl, refl)

numbers_stay : (t : TableRows) (cs : List Change) → ((with_changes t cs).clock ≡ t.clock) × ((with_changes t cs).next_job ≡ t.next_job)
numbers_stay t [] = (refl, refl)
numbers_stay t (c ∷ cs) =
    let rest = numbers_stay (with_change t c) cs in
    let one = numbers_with_change t c in
    (rest.0 ∙ one.0, rest.1 ∙ one.1)

pub numbers_changed : (t : TableRows) (c : Changes) → ((changed t c).clock ≡ c.clock) × ((changed t c).next_job ≡ c.next_job)
numbers_changed t c = numbers_stay (record t { clock = c.clock; next_job = c.next_job }) c.items

-- ---- the row of a service

-- it is there under its id
pub own_id : (t : TableRows) (id : ServiceId) (row : Service) → service_of t id ≡ Some row → row.id ≡ id
own_id t id row e = under (found_key service_key (key.Service id) t.services row e)
  where
    under : service_key row ≡ key.Service id → row.id ≡ id
    under same = cc

-- ---- the order

pub empty_sorted : IsSortedTables empty_tables
empty_sorted = record { gssbs = refl; tlss = refl; ulss = refl; services = refl; jobs = refl; shown = refl; tlss_filled = refl; ulss_filled = refl; services_fit = refl }

pub sorted_with : (t : TableRows) (r : Row) → IsSortedTables t → IsTrue (row_fits r) → IsSortedTables (with_row t r)
sorted_with t (row.Gssb n c) h f = record { gssbs = ascends_with gssb_key (n, c) t.gssbs h.gssbs; tlss = h.tlss; ulss = h.ulss; services = h.services; jobs = h.jobs; shown = h.shown; tlss_filled = h.tlss_filled; ulss_filled = h.ulss_filled; services_fit = h.services_fit }
sorted_with t (row.Tls b l c) h f = record { gssbs = h.gssbs; tlss = ascends_with tls_key (b, l, c) t.tlss h.tlss; ulss = h.ulss; services = h.services; jobs = h.jobs; shown = h.shown; tlss_filled = all_with tls_key (λ r. is_filled r.2) (b, l, c) t.tlss f h.tlss_filled; ulss_filled = h.ulss_filled; services_fit = h.services_fit }
sorted_with t (row.Uls b u c) h f = record { gssbs = h.gssbs; tlss = h.tlss; ulss = ascends_with uls_key (b, u, c) t.ulss h.ulss; services = h.services; jobs = h.jobs; shown = h.shown; tlss_filled = h.tlss_filled; ulss_filled = all_with uls_key (λ r. is_filled r.2) (b, u, c) t.ulss f h.ulss_filled; services_fit = h.services_fit }
sorted_with t (row.Service i s) h f = record { gssbs = h.gssbs; tlss = h.tlss; ulss = h.ulss; services = ascends_with service_key s t.services h.services; jobs = h.jobs; shown = h.shown; tlss_filled = h.tlss_filled; ulss_filled = h.ulss_filled; services_fit = all_with service_key service_fits s t.services ((both_true (id_eq s.id i) (service_fits s) f).1) h.services_fit }
sorted_with t (row.Job n v) h f = record { gssbs = h.gssbs; tlss = h.tlss; ulss = h.ulss; services = h.services; jobs = ascends_with job_key (record { number = n; value = v }) t.jobs h.jobs; shown = h.shown; tlss_filled = h.tlss_filled; ulss_filled = h.ulss_filled; services_fit = h.services_fit }
sorted_with t (row.Shown l v) h f = record { gssbs = h.gssbs; tlss = h.tlss; ulss = h.ulss; services = h.services; jobs = h.jobs; shown = ascends_with shown_key (l, v) t.shown h.shown; tlss_filled = h.tlss_filled; ulss_filled = h.ulss_filled; services_fit = h.services_fit }

pub sorted_without : (t : TableRows) (k : Key) → IsSortedTables t → IsSortedTables (without_row t k)
sorted_without t (key.Gssb n) h = record { gssbs = ascends_without gssb_key (key.Gssb n) t.gssbs h.gssbs; tlss = h.tlss; ulss = h.ulss; services = h.services; jobs = h.jobs; shown = h.shown; tlss_filled = h.tlss_filled; ulss_filled = h.ulss_filled; services_fit = h.services_fit }
sorted_without t (key.Tls b l) h = record { gssbs = h.gssbs; tlss = ascends_without tls_key (key.Tls b l) t.tlss h.tlss; ulss = h.ulss; services = h.services; jobs = h.jobs; shown = h.shown; tlss_filled = all_without tls_key (λ r. is_filled r.2) (key.Tls b l) t.tlss h.tlss_filled; ulss_filled = h.ulss_filled; services_fit = h.services_fit }
sorted_without t (key.Uls b u) h = record { gssbs = h.gssbs; tlss = h.tlss; ulss = ascends_without uls_key (key.Uls b u) t.ulss h.ulss; services = h.services; jobs = h.jobs; shown = h.shown; tlss_filled = h.tlss_filled; ulss_filled = all_without uls_key (λ r. is_filled r.2) (key.Uls b u) t.ulss h.ulss_filled; services_fit = h.services_fit }
sorted_without t (key.Service i) h = record { gssbs = h.gssbs; tlss = h.tlss; ulss = h.ulss; services = ascends_without service_key (key.Service i) t.services h.services; jobs = h.jobs; shown = h.shown; tlss_filled = h.tlss_filled; ulss_filled = h.ulss_filled; services_fit = all_without service_key service_fits (key.Service i) t.services h.services_fit }
sorted_without t (key.Job n) h = record { gssbs = h.gssbs; tlss = h.tlss; ulss = h.ulss; services = h.services; jobs = ascends_without job_key (key.Job n) t.jobs h.jobs; shown = h.shown; tlss_filled = h.tlss_filled; ulss_filled = h.ulss_filled; services_fit = h.services_fit }
sorted_without t (key.Shown l) h = record { gssbs = h.gssbs; tlss = h.tlss; ulss = h.ulss; services = h.services; jobs = h.jobs; shown = ascends_without shown_key (key.Shown l) t.shown h.shown; tlss_filled = h.tlss_filled; ulss_filled = h.ulss_filled; services_fit = h.services_fit }

-- other numbers leave the rows in order
pub numbers_apart : (t : TableRows) (clock next : ℕ) → IsSortedTables t → IsSortedTables (record t { clock = clock; next_job = next })
numbers_apart t clock next h =
    record { gssbs = h.gssbs; tlss = h.tlss; ulss = h.ulss; services = h.services; jobs = h.jobs; shown = h.shown; tlss_filled = h.tlss_filled; ulss_filled = h.ulss_filled; services_fit = h.services_fit }

pub sorted_with_change : (t : TableRows) (c : Change) → IsSortedTables t → IsTrue (change_fits c) → IsSortedTables (with_change t c)
sorted_with_change t (Set r) h f = sorted_with t r h f
sorted_with_change t (Remove k) h f = sorted_without t k h

pub sorted_with_changes : (t : TableRows) (cs : List Change) → IsSortedTables t → IsTrue (list_all change_fits cs) → IsSortedTables (with_changes t cs)
sorted_with_changes t [] h f = h
sorted_with_changes t (c ∷ cs) h f =
    let fit = both_true (change_fits c) (list_all change_fits cs) f in
    sorted_with_changes (with_change t c) cs (sorted_with_change t c h fit.0) fit.1

pub changed_sorted : (t : TableRows) (c : Changes) → IsSortedTables t → AreChanges c.items → IsSortedTables (changed t c)
changed_sorted t c h are =
    sorted_with_changes (record t { clock = c.clock; next_job = c.next_job }) c.items
    (record { gssbs = h.gssbs; tlss = h.tlss; ulss = h.ulss; services = h.services; jobs = h.jobs; shown = h.shown; tlss_filled = h.tlss_filled; ulss_filled = h.ulss_filled; services_fit = h.services_fit })
    are.fit

-- ---- tables are known by their rows

abbrev pub gssb_in : Row → Option (List ℕ × List ℕ)
gssb_in (row.Gssb n c) = Some (n, c)
gssb_in _ = None

abbrev pub tls_in : Row → Option (List ℕ × List ℕ × List ℕ)
tls_in (row.Tls b l c) = Some (b, l, c)
tls_in _ = None

abbrev pub uls_in : Row → Option (List ℕ × List ℕ × List ℕ)
uls_in (row.Uls b u c) = Some (b, u, c)
uls_in _ = None

abbrev pub service_in : Row → Option Service
service_in (row.Service i s) = Some s
service_in _ = None

abbrev pub job_in : Row → Option Job
job_in (row.Job n v) = Some (record { number = n; value = v })
job_in _ = None

abbrev pub shown_in : Row → Option (List ℕ × JobValue)
shown_in (row.Shown l v) = Some (l, v)
shown_in _ = None

module _ {E : Type 0} (row_of : E → Row) (back : Row → Option E) (is : (e : E) → back (row_of e) ≡ Some e) where
  there_and_back : (o : Option E) → option_and_then back (option_map row_of o) ≡ o
  there_and_back None = refl
  there_and_back (Some e) = is e

  unmapped : (o p : Option E) → option_map row_of o ≡ option_map row_of p → o ≡ p
  unmapped o p e = sym (there_and_back o) ∙ ap (option_and_then back) e ∙ there_and_back p

neither : {E : Type 0} (key_of : E → Key) (q : Key) (es fs : List E) → ((e : E) → key_eq q (key_of e) ≡ false) → item_at key_of q es ≡ item_at key_of q fs
neither key_of q es fs apart = not_among key_of q apart es ∙ sym (not_among key_of q apart fs)

module _ (t u : TableRows) (rows : (k : Key) → row_at t k ≡ row_at u k) where
  gssbs_alike : (q : Key) → item_at gssb_key q t.gssbs ≡ item_at gssb_key q u.gssbs
  gssbs_alike (key.Gssb n) = unmapped gssb_row gssb_in (λ e. refl) _ _ (rows (key.Gssb n))
  gssbs_alike q = neither gssb_key q t.gssbs u.gssbs (λ e. refl)

  tlss_alike : (q : Key) → item_at tls_key q t.tlss ≡ item_at tls_key q u.tlss
  tlss_alike (key.Tls b l) = unmapped tls_row tls_in (λ e. refl) _ _ (rows (key.Tls b l))
  tlss_alike q = neither tls_key q t.tlss u.tlss (λ e. refl)

  ulss_alike : (q : Key) → item_at uls_key q t.ulss ≡ item_at uls_key q u.ulss
  ulss_alike (key.Uls b l) = unmapped uls_row uls_in (λ e. refl) _ _ (rows (key.Uls b l))
  ulss_alike q = neither uls_key q t.ulss u.ulss (λ e. refl)

  services_alike : (q : Key) → item_at service_key q t.services ≡ item_at service_key q u.services
  services_alike (key.Service i) = unmapped service_row service_in (λ e. refl) _ _ (rows (key.Service i))
  services_alike q = neither service_key q t.services u.services (λ e. refl)

  jobs_alike : (q : Key) → item_at job_key q t.jobs ≡ item_at job_key q u.jobs
  jobs_alike (key.Job n) = unmapped job_row job_in (λ e. refl) _ _ (rows (key.Job n))
  jobs_alike q = neither job_key q t.jobs u.jobs (λ e. refl)

  shown_alike : (q : Key) → item_at shown_key q t.shown ≡ item_at shown_key q u.shown
  shown_alike (key.Shown l) = unmapped shown_row shown_in (λ e. refl) _ _ (rows (key.Shown l))
  shown_alike q = neither shown_key q t.shown u.shown (λ e. refl)

pub same_tables : (t u : TableRows) → IsSortedTables t → IsSortedTables u → t.clock ≡ u.clock → t.next_job ≡ u.next_job → ((k : Key) → row_at t k ≡ row_at u k) → t ≡ u
same_tables t u g h clock next rows =
    let p1 = same_items gssb_key t.gssbs u.gssbs g.gssbs h.gssbs (gssbs_alike t u rows) in
    let p2 = same_items tls_key t.tlss u.tlss g.tlss h.tlss (tlss_alike t u rows) in
    let p3 = same_items uls_key t.ulss u.ulss g.ulss h.ulss (ulss_alike t u rows) in
    let p4 = same_items service_key t.services u.services g.services h.services (services_alike t u rows) in
    let p5 = same_items job_key t.jobs u.jobs g.jobs h.jobs (jobs_alike t u rows) in
    let p6 = same_items shown_key t.shown u.shown g.shown h.shown (shown_alike t u rows) in
    λ i. record { clock = clock i; next_job = next i; gssbs = p1 i; tlss = p2 i; ulss = p3 i; services = p4 i; jobs = p5 i; shown = p6 i }
