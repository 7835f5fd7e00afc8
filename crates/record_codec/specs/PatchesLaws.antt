-- Laws: the patch of some changes makes the records of the changed tables.
use Rattle.std.specs.Prelude.{◌≡◌, refl, ℕ, Bool, true, false, cond, not, IsTrue, List, [], ◌∷◌, ◌++◌, map, All, ⊤}
use Rattle.std.proofs.Common.{sym, ap, subst, ◌∙◌}
use Rattle.std.proofs.lemmas.List.{map-append}
use Rattle.std.proofs.lemmas.Simd.{map-map}
use Rattle.std.proofs.lemmas.List.Elements.{All-from_recursion, recursion_from_All}
use Rattle.std.specs.List.{filter, list_all, AllByRecursion as Each}
use Rattle.std.specs.Ordering.{is_eq, eq_by_cmp}
use Rattle.std.specs.declared.cmp.Ordering.{Ordering}
use Rattle.std.specs.declared.cmp.Ordering.TheVariants.{Less, Equal, Greater}
use Rattle.std.specs.FinMap.{put}
use Rattle.std.specs.FinMap.Entries.{by_order}
use Rattle.kd_base.specs.ToolsLaws.{both_true}
use Rattle.kd_records.specs.declared.key.RecordKey.{RecordKey}
use Rattle.kd_records.specs.Keys.{key_cmp as record_cmp}
use Rattle.kd_records.specs.Contents.{Record, without, changed_all}
use Rattle.kdcs_types.specs.declared.act.Row.{Row}
use Rattle.kdcs_types.specs.declared.act.Row.TheVariants as row
use Rattle.kdcs_types.specs.declared.act.Change.{Change}
use Rattle.kdcs_types.specs.declared.act.Change.TheVariants.{Set, Remove}
use Rattle.kdcs_types.specs.declared.key.Key.{Key}
use Rattle.kdcs_types.specs.declared.key.Key.TheVariants as key
use Rattle.kdcs_types.specs.declared.service.Service.{Service}
use Rattle.kdcs_types.specs.declared.service.Job.{Job}
use Rattle.kdcs_types.specs.declared.service.JobValue.{JobValue}
use Rattle.kdcs_types.specs.Keys.{key_cmp, key_eq, id_eq}
use Rattle.kdcs_types.specs.KeyLaws.{same_key, id_eq_same}
use Rattle.kdcs_types.specs.Keyed.{keyed, with_item, without_item}
use Rattle.kdcs_types.specs.KeyedLaws.{items_back}
use Rattle.kdcs_types.specs.RowLaws.{numbers_changed}
use Rattle.kdcs_types.specs.Tables.{TableRows, gssb_key, tls_key, uls_key, service_key, job_key, shown_key, gssb_row, tls_row, uls_row, service_row, job_row, shown_row, row_key, with_row, without_row}
use Rattle.kdcs_types.specs.Tables.{with_changes, changed, service_fits, row_fits, change_fits, change_key}
use Rattle.record_codec.specs.Values.{record_key, value_bytes, service_bytes, job_bytes, record_of, record_change}
use Rattle.record_codec.specs.Records.{rows_of}
use Rattle.record_codec.specs.Order.{IsProperKey}
use Rattle.record_codec.specs.OrderLaws.{keys_keep_their_order}
use Rattle.record_codec.specs.Patches.{PatchesMatchChanges}
use Rattle.std.proofs.ByRecursion.{All-append}
use Rattle.kd_base.specs.ListsLaws.{each_front, each_behind}

-- ---- lists of records

module _ (k : RecordKey) (v : List ℕ) where
  pub put_in_front : (xs ys : List Record) → Each (λ (r : Record). record_cmp k r.0 ≡ Greater) xs → put record_cmp k v (xs ++ ys) ≡ xs ++ put record_cmp k v ys
  put_in_front [] ys h = refl
  put_in_front (x ∷ xs) ys h =
      ap (λ o. by_order o ((k, v) ∷ x ∷ (xs ++ ys)) ((x.0, v) ∷ (xs ++ ys)) (x ∷ put record_cmp k v (xs ++ ys))) h.0
      ∙ ap (λ (l : List Record). x ∷ l) (put_in_front xs ys h.1)

  put_behind : (xs ys : List Record) → Each (λ (r : Record). record_cmp k r.0 ≡ Less) ys → put record_cmp k v (xs ++ ys) ≡ put record_cmp k v xs ++ ys
  put_behind [] [] h = refl
  put_behind [] (y ∷ ys) h = ap (λ o. by_order o ((k, v) ∷ y ∷ ys) ((y.0, v) ∷ ys) (y ∷ put record_cmp k v ys)) h.0
  put_behind (x ∷ xs) ys h =
      elim (record_cmp k x.0) as (λ o. by_order o ((k, v) ∷ x ∷ (xs ++ ys)) ((x.0, v) ∷ (xs ++ ys)) (x ∷ put record_cmp k v (xs ++ ys)) ≡ by_order o ((k, v) ∷ x ∷ xs) ((x.0, v) ∷ xs) (x ∷ put record_cmp k v xs) ++ ys) [
        | Less ↦ refl
        | Equal ↦ refl
        | Greater ↦ ap (λ (l : List Record). x ∷ l) (put_behind xs ys h)
      ]

module _ (k : RecordKey) where
  abbrev differs : Record → Bool
  differs r = not (eq_by_cmp record_cmp k r.0)

  without_both : (xs ys : List Record) → without k (xs ++ ys) ≡ without k xs ++ without k ys
  without_both [] ys = refl
  without_both (x ∷ xs) ys =
      elim (differs x) as (λ b. cond b (x ∷ without k (xs ++ ys)) (without k (xs ++ ys)) ≡ cond b (x ∷ without k xs) (without k xs) ++ without k ys) [
        | true ↦ ap (λ (l : List Record). x ∷ l) (without_both xs ys)
        | false ↦ without_both xs ys
      ]

  without_none : (xs : List Record) → Each (λ (r : Record). not (eq_by_cmp record_cmp k r.0) ≡ true) xs → without k xs ≡ xs
  without_none [] h = refl
  without_none (x ∷ xs) h = ap (λ b. cond b (x ∷ without k xs) (without k xs)) h.0 ∙ ap (λ (l : List Record). x ∷ l) (without_none xs h.1)

module _ {X : Type 0} (P : X → Type 0) where
  pub each_mapped : {A : Type 0} (f : A → X) → ((a : A) → P (f a)) → (xs : List A) → Each P (map f xs)
  each_mapped f all [] = tt
  each_mapped f all (x ∷ xs) = (all x, each_mapped f all xs)

-- ---- the rows of one kind

module _ {E : Type 0} (key_of : E → Key) (value_of : E → List ℕ) where
  abbrev pub record_at : E → Record
  record_at e = (record_key (key_of e), value_of e)

  abbrev HasKey : E → Type 0
  HasKey e = IsProperKey (key_of e)

  section_put : (e : E) (es : List E) → HasKey e → Each HasKey es → put record_cmp (record_key (key_of e)) (value_of e) (map record_at es) ≡ map record_at (with_item key_of e es)
  section_put e [] h k = refl
  section_put e (x ∷ xs) h k =
      ap (λ o. by_order o (record_at e ∷ record_at x ∷ map record_at xs) ((record_key (key_of x), value_of e) ∷ map record_at xs) (record_at x ∷ put record_cmp (record_key (key_of e)) (value_of e) (map record_at xs))) (keys_keep_their_order (key_of e) (key_of x) h k.0)
      ∙ by (section_put e xs h k.1) (key_cmp (key_of e) (key_of x)) refl
    where
      by : put record_cmp (record_key (key_of e)) (value_of e) (map record_at xs) ≡ map record_at (with_item key_of e xs) → (o : Ordering) → key_cmp (key_of e) (key_of x) ≡ o
          → by_order o (record_at e ∷ record_at x ∷ map record_at xs) ((record_key (key_of x), value_of e) ∷ map record_at xs) (record_at x ∷ put record_cmp (record_key (key_of e)) (value_of e) (map record_at xs))
          ≡ map record_at (map (λ p. p.1) (by_order o ((key_of e, e) ∷ (key_of x, x) ∷ keyed key_of xs) ((key_of x, e) ∷ keyed key_of xs) ((key_of x, x) ∷ put key_cmp (key_of e) e (keyed key_of xs))))
      by rest Less p = ap (λ (l : List E). record_at e ∷ record_at x ∷ map record_at l) (sym (items_back key_of xs))
      by rest Equal p =
          ap (λ (q : Key). (record_key q, value_of e) ∷ map record_at xs) (sym (same_key (key_of e) (key_of x) p))
          ∙ ap (λ (l : List E). record_at e ∷ map record_at l) (sym (items_back key_of xs))
      by rest Greater p = ap (λ (l : List Record). record_at x ∷ l) rest

  section_without : (q : Key) (es : List E) → IsProperKey q → Each HasKey es → without (record_key q) (map record_at es) ≡ map record_at (without_item key_of q es)
  section_without q [] h k = refl
  section_without q (x ∷ xs) h k =
      ap (λ o. cond (not (is_eq o)) (record_at x ∷ without (record_key q) (map record_at xs)) (without (record_key q) (map record_at xs))) (keys_keep_their_order q (key_of x) h k.0)
      ∙ by (section_without q xs h k.1) (not (key_eq q (key_of x)))
    where
      by : without (record_key q) (map record_at xs) ≡ map record_at (without_item key_of q xs) → (b : Bool) → cond b (record_at x ∷ without (record_key q) (map record_at xs)) (without (record_key q) (map record_at xs)) ≡ map record_at (cond b (x ∷ without_item key_of q xs) (without_item key_of q xs))
      by rest true = ap (λ (l : List Record). record_at x ∷ l) rest
      by rest false = rest

  each_put : (P : E → Type 0) (e : E) (es : List E) → P e → Each P es → Each P (with_item key_of e es)
  each_put P e [] h k = (h, tt)
  each_put P e (x ∷ xs) h k = by (each_put P e xs h k.1) (key_cmp (key_of e) (key_of x))
    where
      back : Each P xs → Each P (map (λ p. p.1) (keyed key_of xs))
      back = subst (Each P) (sym (items_back key_of xs))

      by : Each P (with_item key_of e xs) → (o : Ordering) → Each P (map (λ p. p.1) (by_order o ((key_of e, e) ∷ (key_of x, x) ∷ keyed key_of xs) ((key_of x, e) ∷ keyed key_of xs) ((key_of x, x) ∷ put key_cmp (key_of e) e (keyed key_of xs))))
      by rest Less = (h, (k.0, back k.1))
      by rest Equal = (h, back k.1)
      by rest Greater = (k.0, rest)

  each_left : (P : E → Type 0) (test : E → Bool) (es : List E) → Each P es → Each P (filter test es)
  each_left P test [] h = tt
  each_left P test (x ∷ xs) h = by (each_left P test xs h.1) (test x)
    where
      by : Each P (filter test xs) → (b : Bool) → Each P (cond b (x ∷ filter test xs) (filter test xs))
      by rest true = (h.0, rest)
      by rest false = rest

-- ---- tables

-- what holds of all rows, list by list
pub record EachRow (P : Row → Type 0) (t : TableRows) : Type 0 where
  pub gssbs : Each (λ r. P (gssb_row r)) t.gssbs
  pub tlss : Each (λ r. P (tls_row r)) t.tlss
  pub ulss : Each (λ r. P (uls_row r)) t.ulss
  pub services : Each (λ r. P (service_row r)) t.services
  pub jobs : Each (λ r. P (job_row r)) t.jobs
  pub shown : Each (λ r. P (shown_row r)) t.shown

abbrev pub HasProperKey : Row → Type 0
HasProperKey r = IsProperKey (row_key r)

abbrev pub gssb_records : List (List ℕ × List ℕ) → List Record
gssb_records xs = map (record_at gssb_key (λ r. r.1)) xs

abbrev pub tls_records : List (List ℕ × List ℕ × List ℕ) → List Record
tls_records xs = map (record_at tls_key (λ r. r.2)) xs

abbrev pub uls_records : List (List ℕ × List ℕ × List ℕ) → List Record
uls_records xs = map (record_at uls_key (λ r. r.2)) xs

abbrev pub service_records : List Service → List Record
service_records xs = map (record_at service_key service_bytes) xs

abbrev pub job_records : List Job → List Record
job_records xs = map (record_at job_key (λ (j : Job). job_bytes j.value)) xs

abbrev pub shown_records : List (List ℕ × JobValue) → List Record
shown_records xs = map (record_at shown_key (λ (r : List ℕ × JobValue). job_bytes r.1)) xs

-- the records, kind by kind
abbrev pub by_kinds : TableRows → List Record
by_kinds t = gssb_records t.gssbs ++ (tls_records t.tlss ++ (uls_records t.ulss ++ (service_records t.services ++ (job_records t.jobs ++ shown_records t.shown))))

onto_both : {A B C : Type 0} (f : A → B) (g : B → C) (xs : List A) (rest : List B) (there : List C) → map g rest ≡ there → map g (map f xs ++ rest) ≡ map (λ a. g (f a)) xs ++ there
onto_both {C = C} f g xs rest there e = map-append g (map f xs) rest ∙ (λ i. ◌++◌ {A = C} (map-map g f xs i) (e i))

pub kinds_are : (t : TableRows) → map record_of (rows_of t) ≡ by_kinds t
kinds_are t =
    onto_both gssb_row record_of t.gssbs _ _
    (onto_both tls_row record_of t.tlss _ _
    (onto_both uls_row record_of t.ulss _ _
    (onto_both service_row record_of t.services _ _
    (onto_both job_row record_of t.jobs _ _ (map-map record_of shown_row t.shown)))))

-- ---- one change

abbrev pub Above : RecordKey → Record → Type 0
Above k r = record_cmp k r.0 ≡ Less

abbrev Below : RecordKey → Record → Type 0
Below k r = record_cmp k r.0 ≡ Greater

-- the records of another kind, as a key of this kind meets them
past : {E : Type 0} (key_of : E → Key) (value_of : E → List ℕ) (k : Key) (v : List ℕ) (es : List E) (rest there : List Record)
    → ((e : E) → record_cmp (record_key k) (record_key (key_of e)) ≡ Greater) → put record_cmp (record_key k) v rest ≡ there
    → put record_cmp (record_key k) v (map (record_at key_of value_of) es ++ rest) ≡ map (record_at key_of value_of) es ++ there
past key_of value_of k v es rest there below e =
    put_in_front (record_key k) v (map (record_at key_of value_of) es) rest (each_mapped (Below (record_key k)) (record_at key_of value_of) below es)
    ∙ ap (λ (l : List Record). map (record_at key_of value_of) es ++ l) e

-- the records of this kind, with those of the kinds after it
here : {E : Type 0} (key_of : E → Key) (value_of : E → List ℕ) (e : E) (es : List E) (rest : List Record)
    → IsProperKey (key_of e) → Each (λ x. IsProperKey (key_of x)) es → Each (Above (record_key (key_of e))) rest
    → put record_cmp (record_key (key_of e)) (value_of e) (map (record_at key_of value_of) es ++ rest) ≡ map (record_at key_of value_of) (with_item key_of e es) ++ rest
here key_of value_of e es rest h hs above =
    put_behind (record_key (key_of e)) (value_of e) (map (record_at key_of value_of) es) rest above
    ∙ ap (λ (l : List Record). l ++ rest) (section_put key_of value_of e es h hs)

-- all keys of a list are greater
pub above_all : {E : Type 0} (key_of : E → Key) (value_of : E → List ℕ) (k : Key) → ((e : E) → record_cmp (record_key k) (record_key (key_of e)) ≡ Less) → (es : List E) → Each (Above (record_key k)) (map (record_at key_of value_of) es)
above_all key_of value_of k less es = each_mapped (Above (record_key k)) (record_at key_of value_of) less es

pub above_more : {E : Type 0} (key_of : E → Key) (value_of : E → List ℕ) (k : Key) → ((e : E) → record_cmp (record_key k) (record_key (key_of e)) ≡ Less) → (es : List E) (rest : List Record) → Each (Above (record_key k)) rest → Each (Above (record_key k)) (map (record_at key_of value_of) es ++ rest)
above_more key_of value_of k less es rest h = All-append (Above (record_key k)) (map (record_at key_of value_of) es) rest (above_all key_of value_of k less es) h

abbrev pub second : {A B C : Type 0} → A × B × C → C
second r = r.2

abbrev pub value_of_job : Job → List ℕ
value_of_job j = job_bytes j.value

abbrev pub value_of_shown : List ℕ × JobValue → List ℕ
value_of_shown r = job_bytes r.1

-- the records of areas, as a key after them meets them
past_areas : (t : TableRows) (k : Key) (v : List ℕ) (rest there : List Record)
    → ((e : List ℕ × List ℕ) → record_cmp (record_key k) (record_key (gssb_key e)) ≡ Greater)
    → ((e : List ℕ × List ℕ × List ℕ) → record_cmp (record_key k) (record_key (tls_key e)) ≡ Greater)
    → ((e : List ℕ × List ℕ × List ℕ) → record_cmp (record_key k) (record_key (uls_key e)) ≡ Greater)
    → put record_cmp (record_key k) v rest ≡ there
    → put record_cmp (record_key k) v (gssb_records t.gssbs ++ (tls_records t.tlss ++ (uls_records t.ulss ++ rest))) ≡ gssb_records t.gssbs ++ (tls_records t.tlss ++ (uls_records t.ulss ++ there))
past_areas t k v rest there gssbs tlss ulss e = past gssb_key (λ r. r.1) k v t.gssbs _ _ gssbs (past tls_key second k v t.tlss _ _ tlss (past uls_key second k v t.ulss _ _ ulss e))

set_matches : (t : TableRows) (r : Row) → EachRow HasProperKey t → HasProperKey r → IsTrue (row_fits r) → put record_cmp (record_key (row_key r)) (value_bytes r) (by_kinds t) ≡ by_kinds (with_row t r)
set_matches t (row.Gssb name content) h k fits =
    let q = key.Gssb name in
    here gssb_key (λ r. r.1) (name, content) t.gssbs _ k h.gssbs
    (above_more tls_key second q (λ e. refl) t.tlss _ (above_more uls_key second q (λ e. refl) t.ulss _ (above_more service_key service_bytes q (λ e. refl) t.services _ (above_more job_key value_of_job q (λ e. refl) t.jobs _ (above_all shown_key value_of_shown q (λ e. refl) t.shown)))))
set_matches t (row.Tls block lterm content) h k fits =
    let q = key.Tls block lterm in
    past gssb_key (λ r. r.1) q content t.gssbs _ _ (λ e. refl)
    (here tls_key second (block, lterm, content) t.tlss _ k h.tlss
    (above_more uls_key second q (λ e. refl) t.ulss _ (above_more service_key service_bytes q (λ e. refl) t.services _ (above_more job_key value_of_job q (λ e. refl) t.jobs _ (above_all shown_key value_of_shown q (λ e. refl) t.shown)))))
set_matches t (row.Uls block user content) h k fits =
    let q = key.Uls block user in
    past gssb_key (λ r. r.1) q content t.gssbs _ _ (λ e. refl)
    (past tls_key second q content t.tlss _ _ (λ e. refl)
    (here uls_key second (block, user, content) t.ulss _ k h.ulss
    (above_more service_key service_bytes q (λ e. refl) t.services _ (above_more job_key value_of_job q (λ e. refl) t.jobs _ (above_all shown_key value_of_shown q (λ e. refl) t.shown)))))
set_matches t (row.Service id service) h k fits =
    let own : service.id ≡ id = id_eq_same service.id id (both_true (id_eq service.id id) (service_fits service) fits).0 in
    past_areas t (key.Service id) (service_bytes service) _ _ (λ e. refl) (λ e. refl) (λ e. refl)
    (ap (λ i. put record_cmp (record_key (key.Service i)) (service_bytes service) (service_records t.services ++ (job_records t.jobs ++ shown_records t.shown))) (sym own)
    ∙ here service_key service_bytes service t.services _ (subst (λ i. IsProperKey (key.Service i)) (sym own) k) h.services
    (above_more job_key value_of_job (key.Service service.id) (λ e. refl) t.jobs _ (above_all shown_key value_of_shown (key.Service service.id) (λ e. refl) t.shown)))
set_matches t (row.Job number value) h k fits =
    let q = key.Job number in
    past_areas t q (job_bytes value) _ _ (λ e. refl) (λ e. refl) (λ e. refl)
    (past service_key service_bytes q (job_bytes value) t.services _ _ (λ e. refl)
    (here job_key value_of_job (record { number = number; value = value }) t.jobs _ k h.jobs (above_all shown_key value_of_shown q (λ e. refl) t.shown)))
set_matches t (row.Shown lterm value) h k fits =
    let q = key.Shown lterm in
    past_areas t q (job_bytes value) _ _ (λ e. refl) (λ e. refl) (λ e. refl)
    (past service_key service_bytes q (job_bytes value) t.services _ _ (λ e. refl)
    (past job_key value_of_job q (job_bytes value) t.jobs _ _ (λ e. refl)
    (section_put shown_key value_of_shown (lterm, value) t.shown k h.shown)))

-- the records of another kind all stay
stays : {E : Type 0} (key_of : E → Key) (value_of : E → List ℕ) (k : Key) (es : List E) (rest there : List Record)
    → ((e : E) → not (eq_by_cmp record_cmp (record_key k) (record_key (key_of e))) ≡ true) → without (record_key k) rest ≡ there
    → without (record_key k) (map (record_at key_of value_of) es ++ rest) ≡ map (record_at key_of value_of) es ++ there
stays key_of value_of k es rest there apart e =
    without_both (record_key k) (map (record_at key_of value_of) es) rest
    ∙ (λ i. ◌++◌ {A = Record} (alone i) (e i))
  where
    alone : without (record_key k) (map (record_at key_of value_of) es) ≡ map (record_at key_of value_of) es
    alone = without_none (record_key k) (map (record_at key_of value_of) es) (each_mapped (λ (r : Record). not (eq_by_cmp record_cmp (record_key k) r.0) ≡ true) (record_at key_of value_of) apart es)

last_stays : {E : Type 0} (key_of : E → Key) (value_of : E → List ℕ) (k : Key) (es : List E)
    → ((e : E) → not (eq_by_cmp record_cmp (record_key k) (record_key (key_of e))) ≡ true) → without (record_key k) (map (record_at key_of value_of) es) ≡ map (record_at key_of value_of) es
last_stays key_of value_of k es apart = without_none (record_key k) (map (record_at key_of value_of) es) (each_mapped (λ (r : Record). not (eq_by_cmp record_cmp (record_key k) r.0) ≡ true) (record_at key_of value_of) apart es)

leaves : {E : Type 0} (key_of : E → Key) (value_of : E → List ℕ) (k : Key) (es : List E) (rest there : List Record)
    → IsProperKey k → Each (λ x. IsProperKey (key_of x)) es → without (record_key k) rest ≡ there
    → without (record_key k) (map (record_at key_of value_of) es ++ rest) ≡ map (record_at key_of value_of) (without_item key_of k es) ++ there
leaves key_of value_of k es rest there h hs e =
    without_both (record_key k) (map (record_at key_of value_of) es) rest
    ∙ (λ i. ◌++◌ {A = Record} (section_without key_of value_of k es h hs i) (e i))

remove_matches : (t : TableRows) (q : Key) → EachRow HasProperKey t → IsProperKey q → without (record_key q) (by_kinds t) ≡ by_kinds (without_row t q)
remove_matches t (key.Gssb name) h k =
    let q = key.Gssb name in
    leaves gssb_key (λ r. r.1) q t.gssbs _ _ k h.gssbs
    (stays tls_key second q t.tlss _ _ (λ e. refl) (stays uls_key second q t.ulss _ _ (λ e. refl) (stays service_key service_bytes q t.services _ _ (λ e. refl) (stays job_key value_of_job q t.jobs _ _ (λ e. refl) (last_stays shown_key value_of_shown q t.shown (λ e. refl))))))
remove_matches t (key.Tls block lterm) h k =
    let q = key.Tls block lterm in
    stays gssb_key (λ r. r.1) q t.gssbs _ _ (λ e. refl)
    (leaves tls_key second q t.tlss _ _ k h.tlss (stays uls_key second q t.ulss _ _ (λ e. refl) (stays service_key service_bytes q t.services _ _ (λ e. refl) (stays job_key value_of_job q t.jobs _ _ (λ e. refl) (last_stays shown_key value_of_shown q t.shown (λ e. refl))))))
remove_matches t (key.Uls block user) h k =
    let q = key.Uls block user in
    stays gssb_key (λ r. r.1) q t.gssbs _ _ (λ e. refl)
    (stays tls_key second q t.tlss _ _ (λ e. refl) (leaves uls_key second q t.ulss _ _ k h.ulss (stays service_key service_bytes q t.services _ _ (λ e. refl) (stays job_key value_of_job q t.jobs _ _ (λ e. refl) (last_stays shown_key value_of_shown q t.shown (λ e. refl))))))
remove_matches t (key.Service id) h k =
    let q = key.Service id in
    stays gssb_key (λ r. r.1) q t.gssbs _ _ (λ e. refl)
    (stays tls_key second q t.tlss _ _ (λ e. refl) (stays uls_key second q t.ulss _ _ (λ e. refl) (leaves service_key service_bytes q t.services _ _ k h.services (stays job_key value_of_job q t.jobs _ _ (λ e. refl) (last_stays shown_key value_of_shown q t.shown (λ e. refl))))))
remove_matches t (key.Job number) h k =
    let q = key.Job number in
    stays gssb_key (λ r. r.1) q t.gssbs _ _ (λ e. refl)
    (stays tls_key second q t.tlss _ _ (λ e. refl) (stays uls_key second q t.ulss _ _ (λ e. refl) (stays service_key service_bytes q t.services _ _ (λ e. refl) (leaves job_key value_of_job q t.jobs _ _ k h.jobs (last_stays shown_key value_of_shown q t.shown (λ e. refl))))))
remove_matches t (key.Shown lterm) h k =
    let q = key.Shown lterm in
    stays gssb_key (λ r. r.1) q t.gssbs _ _ (λ e. refl)
    (stays tls_key second q t.tlss _ _ (λ e. refl) (stays uls_key second q t.ulss _ _ (λ e. refl) (stays service_key service_bytes q t.services _ _ (λ e. refl) (stays job_key value_of_job q t.jobs _ _ (λ e. refl) (section_without shown_key value_of_shown q t.shown k h.shown)))))

-- ---- what holds of rows holds after a change

pub set_keeps : (P : Row → Type 0) (t : TableRows) (r : Row) → EachRow P t → P r → IsTrue (row_fits r) → EachRow P (with_row t r)
set_keeps P t (row.Gssb name content) h k fits = record { gssbs = each_put gssb_key (λ r. r.1) (λ r. P (gssb_row r)) (name, content) t.gssbs k h.gssbs; tlss = h.tlss; ulss = h.ulss; services = h.services; jobs = h.jobs; shown = h.shown }
set_keeps P t (row.Tls block lterm content) h k fits = record { gssbs = h.gssbs; tlss = each_put tls_key second (λ r. P (tls_row r)) (block, lterm, content) t.tlss k h.tlss; ulss = h.ulss; services = h.services; jobs = h.jobs; shown = h.shown }
set_keeps P t (row.Uls block user content) h k fits = record { gssbs = h.gssbs; tlss = h.tlss; ulss = each_put uls_key second (λ r. P (uls_row r)) (block, user, content) t.ulss k h.ulss; services = h.services; jobs = h.jobs; shown = h.shown }
set_keeps P t (row.Service id service) h k fits =
    let own : service.id ≡ id = id_eq_same service.id id (both_true (id_eq service.id id) (service_fits service) fits).0 in
    record { gssbs = h.gssbs; tlss = h.tlss; ulss = h.ulss; services = each_put service_key service_bytes (λ r. P (service_row r)) service t.services (subst (λ i. P (row.Service i service)) (sym own) k) h.services; jobs = h.jobs; shown = h.shown }
set_keeps P t (row.Job number value) h k fits = record { gssbs = h.gssbs; tlss = h.tlss; ulss = h.ulss; services = h.services; jobs = each_put job_key value_of_job (λ r. P (job_row r)) (record { number = number; value = value }) t.jobs k h.jobs; shown = h.shown }
set_keeps P t (row.Shown lterm value) h k fits = record { gssbs = h.gssbs; tlss = h.tlss; ulss = h.ulss; services = h.services; jobs = h.jobs; shown = each_put shown_key value_of_shown (λ r. P (shown_row r)) (lterm, value) t.shown k h.shown }

pub remove_keeps : (P : Row → Type 0) (t : TableRows) (q : Key) → EachRow P t → EachRow P (without_row t q)
remove_keeps P t (key.Gssb name) h = record { gssbs = each_left gssb_key (λ r. r.1) (λ r. P (gssb_row r)) _ t.gssbs h.gssbs; tlss = h.tlss; ulss = h.ulss; services = h.services; jobs = h.jobs; shown = h.shown }
remove_keeps P t (key.Tls block lterm) h = record { gssbs = h.gssbs; tlss = each_left tls_key second (λ r. P (tls_row r)) _ t.tlss h.tlss; ulss = h.ulss; services = h.services; jobs = h.jobs; shown = h.shown }
remove_keeps P t (key.Uls block user) h = record { gssbs = h.gssbs; tlss = h.tlss; ulss = each_left uls_key second (λ r. P (uls_row r)) _ t.ulss h.ulss; services = h.services; jobs = h.jobs; shown = h.shown }
remove_keeps P t (key.Service id) h = record { gssbs = h.gssbs; tlss = h.tlss; ulss = h.ulss; services = each_left service_key service_bytes (λ r. P (service_row r)) _ t.services h.services; jobs = h.jobs; shown = h.shown }
remove_keeps P t (key.Job number) h = record { gssbs = h.gssbs; tlss = h.tlss; ulss = h.ulss; services = h.services; jobs = each_left job_key value_of_job (λ r. P (job_row r)) _ t.jobs h.jobs; shown = h.shown }
remove_keeps P t (key.Shown lterm) h = record { gssbs = h.gssbs; tlss = h.tlss; ulss = h.ulss; services = h.services; jobs = h.jobs; shown = each_left shown_key value_of_shown (λ r. P (shown_row r)) _ t.shown h.shown }

-- what holds of a row that the change sets
abbrev pub OfSet : (Row → Type 0) → Change → Type 0
OfSet P (Set r) = P r
OfSet P (Remove q) = ⊤

-- ---- all changes

pub changes_keep : (P : Row → Type 0) (cs : List Change) (t : TableRows) → EachRow P t → Each (OfSet P) cs → IsTrue (list_all change_fits cs) → EachRow P (with_changes t cs)
changes_keep P [] t h ks fits = h
changes_keep P (Set r ∷ cs) t h ks fits =
    let parts = both_true (row_fits r) (list_all change_fits cs) fits in
    changes_keep P cs (with_row t r) (set_keeps P t r h ks.0 parts.0) ks.1 parts.1
changes_keep P (Remove q ∷ cs) t h ks fits = changes_keep P cs (without_row t q) (remove_keeps P t q h) ks.1 fits

all_match : (cs : List Change) (t : TableRows) → EachRow HasProperKey t → Each (λ (c : Change). IsProperKey (change_key c)) cs → IsTrue (list_all change_fits cs) → changed_all (by_kinds t) (map record_change cs) ≡ by_kinds (with_changes t cs)
all_match [] t h ks fits = refl
all_match (Set r ∷ cs) t h ks fits =
    let parts = both_true (row_fits r) (list_all change_fits cs) fits in
    ap (λ (l : List Record). changed_all l (map record_change cs)) (set_matches t r h ks.0 parts.0)
    ∙ all_match cs (with_row t r) (set_keeps HasProperKey t r h ks.0 parts.0) ks.1 parts.1
all_match (Remove q ∷ cs) t h ks fits =
    ap (λ (l : List Record). changed_all l (map record_change cs)) (remove_matches t q h ks.0)
    ∙ all_match cs (without_row t q) (remove_keeps HasProperKey t q h) ks.1 fits

module _ {X : Type 0} (P : X → Type 0) where
  pub each_unmapped : {A : Type 0} (f : A → X) (xs : List A) → Each P (map f xs) → Each (λ a. P (f a)) xs
  each_unmapped f [] h = tt
  each_unmapped f (x ∷ xs) h = (h.0, each_unmapped f xs h.1)

by_lists : (P : Row → Type 0) (t : TableRows) → Each P (rows_of t) → EachRow P t
by_lists P t h =
    let a = each_behind P (map gssb_row t.gssbs) _ h in
    let b = each_behind P (map tls_row t.tlss) _ a in
    let c = each_behind P (map uls_row t.ulss) _ b in
    let d = each_behind P (map service_row t.services) _ c in
    record {
      gssbs = each_unmapped P gssb_row t.gssbs (each_front P (map gssb_row t.gssbs) _ h);
      tlss = each_unmapped P tls_row t.tlss (each_front P (map tls_row t.tlss) _ a);
      ulss = each_unmapped P uls_row t.ulss (each_front P (map uls_row t.ulss) _ b);
      services = each_unmapped P service_row t.services (each_front P (map service_row t.services) _ c);
      jobs = each_unmapped P job_row t.jobs (each_front P (map job_row t.jobs) _ d);
      shown = each_unmapped P shown_row t.shown (each_behind P (map job_row t.jobs) _ d);
    }

-- what holds of each row of tables, by the rows of each kind
pub each_row : (P : Row → Type 0) (t : TableRows) → All P (rows_of t) → EachRow P t
each_row P t h = by_lists P t (recursion_from_All P (rows_of t) h)

each_listed : {A : Type 0} (P : Row → Type 0) (f : A → Row) (xs : List A) → Each (λ a. P (f a)) xs → Each P (map f xs)
each_listed P f [] h = tt
each_listed P f (x ∷ xs) h = (h.0, each_listed P f xs h.1)

-- what holds of the rows of each kind holds of all
pub all_rows : (P : Row → Type 0) (t : TableRows) → EachRow P t → All P (rows_of t)
all_rows P t h =
    All-from_recursion P (rows_of t)
    (All-append P (map gssb_row t.gssbs) _ (each_listed P gssb_row t.gssbs h.gssbs)
    (All-append P (map tls_row t.tlss) _ (each_listed P tls_row t.tlss h.tlss)
    (All-append P (map uls_row t.ulss) _ (each_listed P uls_row t.ulss h.ulss)
    (All-append P (map service_row t.services) _ (each_listed P service_row t.services h.services)
    (All-append P (map job_row t.jobs) _ (each_listed P job_row t.jobs h.jobs)
    (each_listed P shown_row t.shown h.shown))))))

pub patches_match_changes : PatchesMatchChanges
patches_match_changes t c h ks are =
    let numbers = numbers_changed t c in
    let kept = each_row HasProperKey t h in
    let begun : EachRow HasProperKey (record t { clock = c.clock; next_job = c.next_job }) = record { gssbs = kept.gssbs; tlss = kept.tlss; ulss = kept.ulss; services = kept.services; jobs = kept.jobs; shown = kept.shown } in
    let items : changed_all (map record_of (rows_of t)) (map record_change c.items) ≡ map record_of (rows_of (changed t c)) =
    ap (λ (l : List Record). changed_all l (map record_change c.items)) (kinds_are t)
    ∙ all_match c.items (record t { clock = c.clock; next_job = c.next_job }) begun (recursion_from_All (λ (ch : Change). IsProperKey (change_key ch)) c.items ks) are.fit
    ∙ sym (kinds_are (changed t c)) in
    λ i. record { clock = sym numbers.0 i; next_job = sym numbers.1 i; items = items i }
