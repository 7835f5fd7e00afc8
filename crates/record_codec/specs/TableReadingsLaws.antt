-- Laws: how a content is read as tables.
use Rattle.std.specs.Prelude.{◌≡◌, refl, ℕ, Bool, true, false, IsTrue, List, [], ◌∷◌, ◌++◌, map, Some, None, option_and_then, All}
use Rattle.std.proofs.Common.{sym, ap, subst, ◌∙◌, append_assoc, true≢false}
use Rattle.std.proofs.lemmas.List.Elements.{All-nil, All-from_recursion, recursion_from_All}
use Rattle.std.specs.Option.{option_map}
use Rattle.std.specs.List.{list_all, AllByRecursion as Each}
use Rattle.std.specs.Ordering.{is_lt, ordering_reverse}
use Rattle.std.specs.declared.cmp.Ordering.{Ordering}
use Rattle.std.specs.declared.cmp.Ordering.TheVariants.{Less, Equal, Greater}
use Rattle.std.specs.FinMap.{put, is_sorted}
use Rattle.std.specs.FinMap.Entries.{below_all}
use Rattle.kd_base.specs.ToolsLaws.{both_true, true_both, some_is, map_some, and_some}
use Rattle.kd_records.specs.declared.key.RecordKey.{RecordKey}
use Rattle.kd_records.specs.declared.content.Content.{Content}
use Rattle.kd_records.specs.Keys.{key_cmp as record_cmp}
use Rattle.kd_records.specs.KeyLaws.{key_total}
use Rattle.kd_records.specs.Contents.{Record, Change as RecordChange, changed_all, patched}
use Rattle.kdcs_types.specs.declared.act.Row.{Row}
use Rattle.kdcs_types.specs.declared.act.Change.{Change}
use Rattle.kdcs_types.specs.declared.act.Change.TheVariants.{Set}
use Rattle.kdcs_types.specs.declared.act.Changes.{Changes}
use Rattle.kdcs_types.specs.declared.key.Key.{Key}
use Rattle.kdcs_types.specs.declared.service.Service.{Service}
use Rattle.kdcs_types.specs.Keys.{key_cmp, id_eq}
use Rattle.kdcs_types.specs.KeyLaws.{id_eq_itself}
use Rattle.kdcs_types.specs.Keyed.{keyed, ascends}
use Rattle.kdcs_types.specs.Tables.{TableRows, empty_tables, gssb_key, tls_key, uls_key, service_key, job_key, shown_key, gssb_row, tls_row, uls_row, service_row, job_row, shown_row, is_filled}
use Rattle.kdcs_types.specs.Tables.{service_fits, row_key, row_fits, change_fits, change_key, changed, AreChanges, IsSortedTables}
use Rattle.kdcs_types.specs.RowLaws.{empty_sorted, changed_sorted}
use Rattle.record_codec.specs.Values.{record_key, service_bytes, record_of, record_change}
use Rattle.record_codec.specs.Records.{rows_of, content_of_tables, patch_of, AreTablesOf}
use Rattle.record_codec.specs.Order.{IsProperKey}
use Rattle.record_codec.specs.OrderLaws.{keys_keep_their_order}
use Rattle.record_codec.specs.PatchesLaws.{put_in_front, each_mapped, record_at, Above, above_all, above_more, second, value_of_job, value_of_shown, by_kinds, kinds_are, EachRow, HasProperKey, OfSet}
use Rattle.record_codec.specs.PatchesLaws.{each_row, all_rows, changes_keep, patches_match_changes}
use Rattle.record_codec.specs.RowReadings.{IsProperRow, row_read}
use Rattle.record_codec.specs.RowReadingsLaws.{row_back, row_there}
use Rattle.record_codec.specs.TableReadings.{sets_read, AreRecordBytes, AreProperTables}
use Rattle.std.proofs.ByRecursion.{All-append}

-- each record is set
abbrev set_record : Record → RecordChange
set_record x = (x.0, Some x.1)

-- ---- records put one after another

reversed : (x a : Record) → IsTrue (is_lt (record_cmp a.0 x.0)) → record_cmp x.0 a.0 ≡ Greater
reversed x a h = key_total.antisymm x.0 a.0 ∙ by (record_cmp a.0 x.0) h
  where
    by : (o : Ordering) → IsTrue (is_lt o) → ordering_reverse o ≡ Greater
    by Less h = refl
    by Equal h = absurd (true≢false (sym h))
    by Greater h = absurd (true≢false (sym h))

nil_behind : (xs : List Record) → xs ++ [] ≡ xs
nil_behind [] = refl
nil_behind (x ∷ xs) = ap (λ (l : List Record). x ∷ l) (nil_behind xs)

-- each of the later records is after each of the former ones
abbrev AllBehind : List Record → List Record → Type 0
AllBehind done xs = Each (λ (x : Record). Each (λ (a : Record). record_cmp x.0 a.0 ≡ Greater) done) xs

more_behind : (done : List Record) (x : Record) (xs : List Record) → IsTrue (below_all record_cmp x.0 xs) → AllBehind done xs → AllBehind (done ++ x ∷ []) xs
more_behind done x [] below h = tt
more_behind done x (y ∷ xs) below h =
    let parts = both_true (is_lt (record_cmp x.0 y.0)) (below_all record_cmp x.0 xs) below in
    (All-append (λ (a : Record). record_cmp y.0 a.0 ≡ Greater) done (x ∷ []) h.0 (reversed y x parts.0, tt), more_behind done x xs parts.1 h.1)

all_put : (done xs : List Record) → IsTrue (is_sorted record_cmp xs) → AllBehind done xs → changed_all done (map set_record xs) ≡ done ++ xs
all_put done [] h b = sym (nil_behind done)
all_put done (x ∷ xs) h b =
    let parts = both_true (below_all record_cmp x.0 xs) (is_sorted record_cmp xs) h in
    let last : put record_cmp x.0 x.1 done ≡ done ++ x ∷ [] = ap (put record_cmp x.0 x.1) (sym (nil_behind done)) ∙ put_in_front x.0 x.1 done [] b.0 in
    ap (λ (l : List Record). changed_all l (map set_record xs)) last
    ∙ all_put (done ++ x ∷ []) xs parts.1 (more_behind done x xs parts.0 b.1)
    ∙ append_assoc done (x ∷ []) xs

none_behind : (xs : List Record) → AllBehind [] xs
none_behind [] = tt
none_behind (x ∷ xs) = (tt, none_behind xs)

pub records_put : (xs : List Record) → IsTrue (is_sorted record_cmp xs) → changed_all [] (map set_record xs) ≡ xs
records_put xs h = all_put [] xs h (none_behind xs)

-- ---- what the changes are that are read

record SetsThere (xs : List Record) (cs : List Change) : Type 0 where
  records : map record_change cs ≡ map set_record xs
  keys : map (λ (c : Change). record_key (change_key c)) cs ≡ map (λ (x : Record). x.0) xs
  proper : Each (λ (c : Change). IsProperKey (change_key c)) cs
  rows : Each (OfSet IsProperRow) cs
  fit : IsTrue (list_all change_fits cs)

sets_there : (xs : List Record) (cs : List Change) → Each AreRecordBytes xs → sets_read xs ≡ Some cs → SetsThere xs cs
sets_there [] cs are e = subst (SetsThere []) (some_is [] cs e) (record { records = refl; keys = refl; proper = tt; rows = tt; fit = refl })
sets_there (x ∷ xs) cs are e =
    let a = and_some (λ (r : Row). option_map (λ (cs : List Change). Set r ∷ cs) (sets_read xs)) (row_read x) cs e in
    let r : Row = a.0 in
    let b = map_some (λ (cs : List Change). Set r ∷ cs) (sets_read xs) cs a.2 in
    let t = row_there x r are.0.0 are.0.1 a.1 in
    let s = sets_there xs b.0 are.1 b.1 in
    subst (SetsThere (x ∷ xs)) b.2 (record {
      records = λ i. set_record (sym t.record_is i) ∷ s.records i;
      keys = λ i. (sym t.record_is i).0 ∷ s.keys i;
      proper = (t.proper.key, s.proper);
      rows = (t.proper, s.rows);
      fit = true_both (row_fits r) (list_all change_fits b.0) t.fits s.fit;
    })

-- ---- the keys of the changes ascend

abbrev changes_below : Key → List Change → Bool
changes_below k cs = below_all key_cmp k (keyed change_key cs)

below_too : (k : Key) (cs : List Change) (xs : List Record) → IsProperKey k → Each (λ (c : Change). IsProperKey (change_key c)) cs → map (λ (c : Change). record_key (change_key c)) cs ≡ map (λ (x : Record). x.0) xs → IsTrue (below_all record_cmp (record_key k) xs) → IsTrue (changes_below k cs)
below_too k [] xs h hs e below = refl
below_too k (c ∷ cs) [] h hs e below = absurd (cc e)
below_too k (c ∷ cs) (x ∷ xs) h hs e below =
    let parts = both_true (is_lt (record_cmp (record_key k) x.0)) (below_all record_cmp (record_key k) xs) below in
    let first : record_key (change_key c) ≡ x.0 = cc e in
    let rest : map (λ (c : Change). record_key (change_key c)) cs ≡ map (λ (x : Record). x.0) xs = cc e in
    true_both (is_lt (key_cmp k (change_key c))) (changes_below k cs)
    (ap is_lt (sym (keys_keep_their_order k (change_key c) h hs.0) ∙ ap (record_cmp (record_key k)) first) ∙ parts.0)
    (below_too k cs xs h hs.1 rest parts.1)

ascend_too : (cs : List Change) (xs : List Record) → Each (λ (c : Change). IsProperKey (change_key c)) cs → map (λ (c : Change). record_key (change_key c)) cs ≡ map (λ (x : Record). x.0) xs → IsTrue (is_sorted record_cmp xs) → IsTrue (ascends change_key cs)
ascend_too [] xs hs e h = refl
ascend_too (c ∷ cs) [] hs e h = absurd (cc e)
ascend_too (c ∷ cs) (x ∷ xs) hs e h =
    let parts = both_true (below_all record_cmp x.0 xs) (is_sorted record_cmp xs) h in
    let first : record_key (change_key c) ≡ x.0 = cc e in
    let rest : map (λ (c : Change). record_key (change_key c)) cs ≡ map (λ (x : Record). x.0) xs = cc e in
    true_both (changes_below (change_key c) cs) (ascends change_key cs)
    (below_too (change_key c) cs xs hs.0 hs.1 rest (subst (λ (k : RecordKey). IsTrue (below_all record_cmp k xs)) (sym first) parts.0))
    (ascend_too cs xs hs.1 rest parts.1)

-- ---- the tables

pub changes_are : (xs : List Record) (cs : List Change) → All AreRecordBytes xs → IsTrue (is_sorted record_cmp xs) → sets_read xs ≡ Some cs → AreChanges cs
changes_are xs cs are h e =
    let s = sets_there xs cs (recursion_from_All AreRecordBytes xs are) e in
    record { ascending = ascend_too cs xs s.proper s.keys h; fit = s.fit }

pub tables_there : (x : Content) (c : Changes) → c.clock ≡ x.clock → c.next_job ≡ x.next_job → All AreRecordBytes x.items → IsTrue (is_sorted record_cmp x.items) → sets_read x.items ≡ Some c.items → AreTablesOf x (changed empty_tables c)
tables_there x c clock next_job are h e =
    let s = sets_there x.items c.items (recursion_from_All AreRecordBytes x.items are) e in
    let changes = changes_are x.items c.items are h e in
    let made : patched (content_of_tables empty_tables) (patch_of c) ≡ content_of_tables (changed empty_tables c)
    = patches_match_changes empty_tables c (All-nil (λ (r : Row). IsProperKey (row_key r))) (All-from_recursion (λ (ch : Change). IsProperKey (change_key ch)) c.items s.proper) changes in
    let items : changed_all [] (map record_change c.items) ≡ x.items = ap (changed_all []) s.records ∙ records_put x.items h in
    record {
      sorted = changed_sorted empty_tables c empty_sorted changes;
      records = (λ i. record { clock = sym clock i; next_job = sym next_job i; items = sym items i }) ∙ made;
    }

-- so are the tables that are read
pub tables_proper : (xs : List Record) (c : Changes) → All AreRecordBytes xs → sets_read xs ≡ Some c.items → AreProperTables (changed empty_tables c)
tables_proper xs c are e =
    let s = sets_there xs c.items (recursion_from_All AreRecordBytes xs are) e in
    all_rows IsProperRow (changed empty_tables c)
    (changes_keep IsProperRow c.items (record empty_tables { clock = c.clock; next_job = c.next_job })
    (record { gssbs = tt; tlss = tt; ulss = tt; services = tt; jobs = tt; shown = tt }) s.rows s.fit)

-- ---- tables whose records the content has

sets_back : (rs : List Row) → Each IsProperRow rs → Each (λ (r : Row). IsTrue (row_fits r)) rs → sets_read (map record_of rs) ≡ Some (map (λ (r : Row). Set r) rs)
sets_back [] hs fits = refl
sets_back (r ∷ rs) hs fits =
    ap (option_and_then (λ (q : Row). option_map (λ (cs : List Change). Set q ∷ cs) (sets_read (map record_of rs)))) (row_back r hs.0 fits.0)
    ∙ ap (option_map (λ (cs : List Change). Set r ∷ cs)) (sets_back rs hs.1 fits.1)

abbrev pub FitsThere : Row → Type 0
FitsThere r = IsTrue (row_fits r)

fit_each : {A : Type 0} (f : A → Row) (test : A → Bool) → ((a : A) → IsTrue (test a) → FitsThere (f a)) → (xs : List A) → IsTrue (list_all test xs) → Each FitsThere (map f xs)
fit_each f test to [] h = tt
fit_each f test to (x ∷ xs) h = let parts = both_true (test x) (list_all test xs) h in (to x parts.0, fit_each f test to xs parts.1)

pub rows_fit : (t : TableRows) → IsSortedTables t → Each FitsThere (rows_of t)
rows_fit t h =
    All-append FitsThere (map gssb_row t.gssbs) _ (each_mapped FitsThere gssb_row (λ e. refl) t.gssbs)
    (All-append FitsThere (map tls_row t.tlss) _ (fit_each tls_row (λ r. is_filled r.2) (λ e k. k) t.tlss h.tlss_filled)
    (All-append FitsThere (map uls_row t.ulss) _ (fit_each uls_row (λ r. is_filled r.2) (λ e k. k) t.ulss h.ulss_filled)
    (All-append FitsThere (map service_row t.services) _ (fit_each service_row service_fits (λ (s : Service) k. true_both (id_eq s.id s.id) (service_fits s) (id_eq_itself s.id) k) t.services h.services_fit)
    (All-append FitsThere (map job_row t.jobs) _ (each_mapped FitsThere job_row (λ e. refl) t.jobs)
    (each_mapped FitsThere shown_row (λ e. refl) t.shown)))))

module _ {E : Type 0} (key_of : E → Key) (value_of : E → List ℕ) where
  below_there : (k : Key) (es : List E) → IsProperKey k → Each (λ e. IsProperKey (key_of e)) es → IsTrue (below_all key_cmp k (keyed key_of es)) → IsTrue (below_all record_cmp (record_key k) (map (record_at key_of value_of) es))
  below_there k [] h hs below = refl
  below_there k (e ∷ es) h hs below =
      let parts = both_true (is_lt (key_cmp k (key_of e))) (below_all key_cmp k (keyed key_of es)) below in
      true_both (is_lt (record_cmp (record_key k) (record_key (key_of e)))) (below_all record_cmp (record_key k) (map (record_at key_of value_of) es))
      (ap is_lt (keys_keep_their_order k (key_of e) h hs.0) ∙ parts.0) (below_there k es h hs.1 parts.1)

  section_sorted : (es : List E) → Each (λ e. IsProperKey (key_of e)) es → IsTrue (ascends key_of es) → IsTrue (is_sorted record_cmp (map (record_at key_of value_of) es))
  section_sorted [] hs h = refl
  section_sorted (e ∷ es) hs h =
      let parts = both_true (below_all key_cmp (key_of e) (keyed key_of es)) (ascends key_of es) h in
      true_both (below_all record_cmp (record_key (key_of e)) (map (record_at key_of value_of) es)) (is_sorted record_cmp (map (record_at key_of value_of) es))
      (below_there (key_of e) es hs.0 hs.1 parts.0) (section_sorted es hs.1 parts.1)

below_both : (k : RecordKey) (xs ys : List Record) → IsTrue (below_all record_cmp k xs) → Each (Above k) ys → IsTrue (below_all record_cmp k (xs ++ ys))
below_both k [] [] h above = refl
below_both k [] (y ∷ ys) h above = true_both (is_lt (record_cmp k y.0)) (below_all record_cmp k ys) (ap is_lt above.0) (below_both k [] ys h above.1)
below_both k (x ∷ xs) ys h above =
    let parts = both_true (is_lt (record_cmp k x.0)) (below_all record_cmp k xs) h in
    true_both (is_lt (record_cmp k x.0)) (below_all record_cmp k (xs ++ ys)) parts.0 (below_both k xs ys parts.1 above)

sorted_both : (xs ys : List Record) → IsTrue (is_sorted record_cmp xs) → Each (λ (x : Record). Each (Above x.0) ys) xs → IsTrue (is_sorted record_cmp ys) → IsTrue (is_sorted record_cmp (xs ++ ys))
sorted_both [] ys h above k = k
sorted_both (x ∷ xs) ys h above k =
    let parts = both_true (below_all record_cmp x.0 xs) (is_sorted record_cmp xs) h in
    true_both (below_all record_cmp x.0 (xs ++ ys)) (is_sorted record_cmp (xs ++ ys)) (below_both x.0 xs ys parts.0 above.0) (sorted_both xs ys parts.1 above.1 k)

-- the rows of one kind, before those of the kinds after
sorted_more : {E : Type 0} (key_of : E → Key) (value_of : E → List ℕ) (es : List E) (rest : List Record) → Each (λ e. IsProperKey (key_of e)) es → IsTrue (ascends key_of es) → ((e : E) → Each (Above (record_key (key_of e))) rest) → IsTrue (is_sorted record_cmp rest) → IsTrue (is_sorted record_cmp (map (record_at key_of value_of) es ++ rest))
sorted_more key_of value_of es rest hs h above k =
    sorted_both (map (record_at key_of value_of) es) rest (section_sorted key_of value_of es hs h)
    (each_mapped (λ (x : Record). Each (Above x.0) rest) (record_at key_of value_of) above es) k

kinds_sorted : (t : TableRows) → EachRow HasProperKey t → IsSortedTables t → IsTrue (is_sorted record_cmp (by_kinds t))
kinds_sorted t h s =
    sorted_more gssb_key (λ r. r.1) t.gssbs _ h.gssbs s.gssbs (λ e. above_more tls_key second (gssb_key e) (λ f. refl) t.tlss _ (above_more uls_key second (gssb_key e) (λ f. refl) t.ulss _ (above_more service_key service_bytes (gssb_key e) (λ f. refl) t.services _ (above_more job_key value_of_job (gssb_key e) (λ f. refl) t.jobs _ (above_all shown_key value_of_shown (gssb_key e) (λ f. refl) t.shown)))))
    (sorted_more tls_key second t.tlss _ h.tlss s.tlss (λ e. above_more uls_key second (tls_key e) (λ f. refl) t.ulss _ (above_more service_key service_bytes (tls_key e) (λ f. refl) t.services _ (above_more job_key value_of_job (tls_key e) (λ f. refl) t.jobs _ (above_all shown_key value_of_shown (tls_key e) (λ f. refl) t.shown))))
    (sorted_more uls_key second t.ulss _ h.ulss s.ulss (λ e. above_more service_key service_bytes (uls_key e) (λ f. refl) t.services _ (above_more job_key value_of_job (uls_key e) (λ f. refl) t.jobs _ (above_all shown_key value_of_shown (uls_key e) (λ f. refl) t.shown)))
    (sorted_more service_key service_bytes t.services _ h.services s.services (λ e. above_more job_key value_of_job (service_key e) (λ f. refl) t.jobs _ (above_all shown_key value_of_shown (service_key e) (λ f. refl) t.shown))
    (sorted_more job_key value_of_job t.jobs _ h.jobs s.jobs (λ e. above_all shown_key value_of_shown (job_key e) (λ f. refl) t.shown)
    (section_sorted shown_key value_of_shown t.shown h.shown s.shown)))))

proper_keys : (t : TableRows) → AreProperTables t → EachRow HasProperKey t
proper_keys t h = each_row HasProperKey t (λ k d i. (h k d i).key)

pub tables_read : (x : Content) (t : TableRows) → AreProperTables t → AreTablesOf x t → sets_read x.items ≡ Some (map (λ (r : Row). Set r) (rows_of t))
tables_read x t h are = ap (λ (y : Content). sets_read y.items) are.records ∙ sets_back (rows_of t) (recursion_from_All IsProperRow (rows_of t) h) (rows_fit t are.sorted)

pub records_ascend : (x : Content) (t : TableRows) → AreProperTables t → AreTablesOf x t → is_sorted record_cmp x.items ≡ true
records_ascend x t h are = ap (λ (y : Content). is_sorted record_cmp y.items) are.records ∙ ap (is_sorted record_cmp) (kinds_are t) ∙ kinds_sorted t (proper_keys t h) are.sorted

-- no tables where a record is no row, or where the keys do not ascend
pub no_tables_unread : (x : Content) → sets_read x.items ≡ None → (t : TableRows) → AreProperTables t → AreTablesOf x t → ⊥
no_tables_unread x none t h are = cc (sym (tables_read x t h are) ∙ none)

pub no_tables_unsorted : (x : Content) → is_sorted record_cmp x.items ≡ false → (t : TableRows) → AreProperTables t → AreTablesOf x t → ⊥
no_tables_unsorted x none t h are = true≢false (sym (records_ascend x t h are) ∙ none)
