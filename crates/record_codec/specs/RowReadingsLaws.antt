-- Laws: how a record is read as a row.
use Rattle.std.specs.Prelude.{◌≡◌, refl, ℕ, ◌^◌, ◌<◌, IsTrue, List, ◌++◌, length, replicate, ◌-◌, Option, Some, None, option_and_then, ◌==◌, if◌then◌else◌}
use Rattle.std.proofs.Common.{sym, ap, subst, ◌∙◌, inl, inr, arith}
use Rattle.std.specs.Int.{w64, to_be_bytes}
use Rattle.std.specs.Option.{option_map}
use Rattle.std.specs.Ordering.{eq_by_cmp, is_eq}
use Rattle.std.specs.Cmp.{tied_itself, Equal-is}
use Rattle.kd_base.specs.Text.{IsName, padded}
use Rattle.kd_base.specs.ToolsLaws.{chosen, some_is, map_some, and_some, both_true}
use Rattle.kd_records.specs.declared.key.RecordKey.{RecordKey}
use Rattle.kd_records.specs.Keys.{key_cmp as record_cmp}
use Rattle.kd_records.specs.KeyLaws.{key_total, same_key}
use Rattle.kd_records.specs.Contents.{Record}
use Rattle.kdcs_types.specs.declared.act.Row.{Row}
use Rattle.kdcs_types.specs.declared.act.Row.TheVariants as row
use Rattle.kdcs_types.specs.declared.key.Key.{Key}
use Rattle.kdcs_types.specs.declared.key.Key.TheVariants as key
use Rattle.kdcs_types.specs.declared.key.ServiceId.{ServiceId}
use Rattle.kdcs_types.specs.declared.key.ServiceId.TheVariants.{Dialogue, Asynchronous}
use Rattle.kdcs_types.specs.Keys.{key_kind, id_eq}
use Rattle.kdcs_types.specs.KeyLaws.{id_eq_same}
use Rattle.kdcs_types.specs.Tables.{row_key, row_fits, service_fits}
use Rattle.record_codec.specs.Values.{id_bytes, key_bytes, record_key, service_bytes, job_bytes, value_bytes, record_of}
use Rattle.record_codec.specs.Order.{IsProperKey}
use Rattle.record_codec.specs.Fields.{AreBytes, name_field, number_field, either}
use Rattle.record_codec.specs.FieldsLaws.{IsReading, either_there, by_byte, names_are_read, u64s_are_read, both_are_read}
use Rattle.record_codec.specs.Readings.{turned}
use Rattle.record_codec.specs.ReadingsLaws.{turned_back, turned_there}
use Rattle.record_codec.specs.WholeValues.{JobFits, job_reading, service_reading, whole}
use Rattle.record_codec.specs.WholeValuesLaws.{jobs_are_read, services_are_read, IsServiceOf, whole_back, whole_there}
use Rattle.record_codec.specs.RowReadings.{to_dialogue, to_asynchronous, id_reading, two_names, gssb_of, tls_of, uls_of, service_key_of, job_key_of, shown_of, key_reading, checked_key, key_read}
use Rattle.record_codec.specs.RowReadings.{ValueFits, IsProperRow, service_row_of, job_row_of, shown_row_of, value_read, checked_row, row_read, RowThere, RecordsAreOneToOne}

-- ---- keys

ids_back : (id : ServiceId) (rest : List ℕ) → IsProperKey (key.Service id) → id_reading (id_bytes id ++ rest) ≡ Some (id, rest)
ids_back (Dialogue user) rest h =
    by_byte (either 68 (turned to_dialogue name_field) 65 (turned to_asynchronous (number_field w64))) 68 (padded user ++ rest) (omega arith)
    ∙ turned_back to_dialogue name_field padded IsName names_are_read user rest h
ids_back (Asynchronous number) rest h =
    by_byte (either 68 (turned to_dialogue name_field) 65 (turned to_asynchronous (number_field w64))) 65 (to_be_bytes w64 number ++ rest) (omega arith)
    ∙ turned_back to_asynchronous (number_field w64) (to_be_bytes w64) (λ n. n < 2 ^ 64) u64s_are_read number rest h

two_back : (f : List ℕ × List ℕ → Key) (a b rest : List ℕ) → IsName a → IsName b → turned f two_names ((padded a ++ padded b) ++ rest) ≡ Some (f (a, b), rest)
two_back f a b rest h k =
    turned_back f two_names (λ (p : List ℕ × List ℕ). padded p.0 ++ padded p.1) (λ (p : List ℕ × List ℕ). IsName p.0 × IsName p.1)
    (both_are_read name_field name_field padded padded IsName IsName names_are_read names_are_read) (a, b) rest (h, k)

keys_back : (k : Key) (rest : List ℕ) → IsProperKey k → key_reading (key_kind k) (key_bytes k ++ rest) ≡ Some (k, rest)
keys_back (key.Gssb name) rest h = turned_back gssb_of name_field padded IsName names_are_read name rest h
keys_back (key.Tls block lterm) rest h = two_back tls_of block lterm rest h.0 h.1
keys_back (key.Uls block user) rest h = two_back uls_of block user rest h.0 h.1
keys_back (key.Service id) rest h = ap (option_map (λ p. (service_key_of p.0, p.1))) (ids_back id rest h)
keys_back (key.Job number) rest h = turned_back job_key_of (number_field w64) (to_be_bytes w64) (λ n. n < 2 ^ 64) u64s_are_read number rest h
keys_back (key.Shown lterm) rest h = turned_back shown_of name_field padded IsName names_are_read lterm rest h

pub key_back : (k : Key) → IsProperKey k → key_read (record_key k) ≡ Some k
key_back k h =
    ap (option_and_then (checked_key (record_key k))) (keys_back k (replicate (24 - length (key_bytes k)) 0) h)
    ∙ ap (λ r. if is_eq r then Some k else None) (tied_itself key_total (record_key k))

-- the record's key is the key's
pub key_there : (k : RecordKey) (q : Key) → key_read k ≡ Some q → k ≡ record_key q
key_there k q e =
    let a = and_some (checked_key k) (key_reading k.kind k.bytes) q e in
    let p : Key × List ℕ = a.0 in
    elim (chosen (eq_by_cmp record_cmp (record_key p.0) k) (Some p.0) None (Some q) a.2) [
      | inl h ↦ sym (same_key (record_key p.0) k ((Equal-is (record_cmp (record_key p.0) k)).0 h.0)) ∙ ap record_key (some_is p.0 q h.1)
      | inr h ↦ absurd (cc h.1)
    ]

-- what is read has the names and numbers of a key
proper_by : {A : Type 0} (f : A → Key) (reads : List ℕ → Option (A × List ℕ)) (of_a : A → List ℕ) (F : A → Type 0) → IsReading reads of_a F → ((a : A) → F a → IsProperKey (f a)) → (q : Key) (bytes rest : List ℕ) → AreBytes bytes → turned f reads bytes ≡ Some (q, rest) → IsProperKey q
proper_by f reads of_a F h to q bytes rest are e = let t = turned_there f reads of_a F h q bytes rest are e in subst IsProperKey t.1 (to t.0 t.3)

proper_two : (f : List ℕ × List ℕ → Key) → ((a : List ℕ × List ℕ) → IsName a.0 × IsName a.1 → IsProperKey (f a)) → (q : Key) (bytes rest : List ℕ) → AreBytes bytes → turned f two_names bytes ≡ Some (q, rest) → IsProperKey q
proper_two f to q bytes rest are e =
    proper_by f two_names (λ (p : List ℕ × List ℕ). padded p.0 ++ padded p.1) (λ (p : List ℕ × List ℕ). IsName p.0 × IsName p.1)
    (both_are_read name_field name_field padded padded IsName IsName names_are_read names_are_read) to q bytes rest are e

ids_there : (id : ServiceId) (bytes rest : List ℕ) → AreBytes bytes → id_reading bytes ≡ Some (id, rest) → IsProperKey (key.Service id)
ids_there id bytes rest are e =
    either_there 68 (turned to_dialogue name_field) 65 (turned to_asynchronous (number_field w64)) id bytes rest (IsProperKey (key.Service id))
    (λ left is left_are f. let t = turned_there to_dialogue name_field padded IsName names_are_read id left rest left_are f in subst (λ i. IsProperKey (key.Service i)) t.1 t.3)
    (λ left is left_are f. let t = turned_there to_asynchronous (number_field w64) (to_be_bytes w64) (λ n. n < 2 ^ 64) u64s_are_read id left rest left_are f in subst (λ i. IsProperKey (key.Service i)) t.1 t.3)
    are e

keys_proper : (kind : ℕ) (q : Key) (bytes rest : List ℕ) → AreBytes bytes → key_reading kind bytes ≡ Some (q, rest) → IsProperKey q
keys_proper kind q bytes rest are e =
    elim (chosen (kind == 1) _ _ (Some (q, rest)) e) [
      | inl h ↦ proper_by gssb_of name_field padded IsName names_are_read (λ a k. k) q bytes rest are h.1
      | inr h ↦ elim (chosen (kind == 2) _ _ (Some (q, rest)) h.1) [
        | inl h ↦ proper_two tls_of (λ a k. k) q bytes rest are h.1
        | inr h ↦ elim (chosen (kind == 3) _ _ (Some (q, rest)) h.1) [
          | inl h ↦ proper_two uls_of (λ a k. k) q bytes rest are h.1
          | inr h ↦ elim (chosen (kind == 4) _ _ (Some (q, rest)) h.1) [
            | inl h ↦
                let m = map_some (λ (p : ServiceId × List ℕ). (service_key_of p.0, p.1)) (id_reading bytes) (q, rest) h.1 in
                subst IsProperKey (ap (λ (p : Key × List ℕ). p.0) m.2) (ids_there m.0.0 bytes m.0.1 are m.1)
            | inr h ↦ elim (chosen (kind == 5) _ _ (Some (q, rest)) h.1) [
              | inl h ↦ proper_by job_key_of (number_field w64) (to_be_bytes w64) (λ n. n < 2 ^ 64) u64s_are_read (λ a k. k) q bytes rest are h.1
              | inr h ↦ elim (chosen (kind == 6) _ _ (Some (q, rest)) h.1) [
                | inl h ↦ proper_by shown_of name_field padded IsName names_are_read (λ a k. k) q bytes rest are h.1
                | inr h ↦ absurd (cc h.1)
              ]
            ]
          ]
        ]
      ]
    ]

pub key_proper : (k : RecordKey) (q : Key) → AreBytes k.bytes → key_read k ≡ Some q → IsProperKey q
key_proper k q are e =
    let a = and_some (checked_key k) (key_reading k.kind k.bytes) q e in
    let p : Key × List ℕ = a.0 in
    elim (chosen (eq_by_cmp record_cmp (record_key p.0) k) (Some p.0) None (Some q) a.2) [
      | inl h ↦ subst IsProperKey (some_is p.0 q h.1) (keys_proper k.kind p.0 k.bytes p.1 are a.1)
      | inr h ↦ absurd (cc h.1)
    ]

-- ---- rows

value_back : (r : Row) → ValueFits r → IsTrue (row_fits r) → value_read (row_key r) (value_bytes r) ≡ Some r
value_back (row.Gssb name content) h fits = refl
value_back (row.Tls block lterm content) h fits = refl
value_back (row.Uls block user content) h fits = refl
value_back (row.Service id service) h fits =
    ap (option_map (service_row_of id)) (whole_back (service_reading id) service_bytes (IsServiceOf id) (services_are_read id) service (id_eq_same service.id id (both_true (id_eq service.id id) (service_fits service) fits).0, h))
value_back (row.Job number value) h fits = ap (option_map (job_row_of number)) (whole_back job_reading job_bytes JobFits jobs_are_read value h)
value_back (row.Shown lterm value) h fits = ap (option_map (shown_row_of lterm)) (whole_back job_reading job_bytes JobFits jobs_are_read value h)

pub row_back : (r : Row) → IsProperRow r → IsTrue (row_fits r) → row_read (record_of r) ≡ Some r
row_back r h fits =
    ap (option_and_then (λ k. option_and_then checked_row (value_read k (value_bytes r)))) (key_back (row_key r) h.key)
    ∙ ap (option_and_then checked_row) (value_back r h.value fits)
    ∙ ap (λ b. if b then Some r else None) fits

-- the row has this key, and the bytes are its value's
record ValueThere (k : Key) (bytes : List ℕ) (r : Row) : Type 0 where
  key : row_key r ≡ k
  value : bytes ≡ value_bytes r
  fits : ValueFits r

some_row_is : (x y : Row) → Some x ≡ Some y → x ≡ y
some_row_is x y e = some_is x y e

value_there : (k : Key) (bytes : List ℕ) (r : Row) → AreBytes bytes → value_read k bytes ≡ Some r → ValueThere k bytes r
value_there (key.Gssb name) bytes r are e = subst (ValueThere (key.Gssb name) bytes) (some_row_is (row.Gssb name bytes) r e) (record { key = refl; value = refl; fits = tt })
value_there (key.Tls block lterm) bytes r are e = subst (ValueThere (key.Tls block lterm) bytes) (some_row_is (row.Tls block lterm bytes) r e) (record { key = refl; value = refl; fits = tt })
value_there (key.Uls block user) bytes r are e = subst (ValueThere (key.Uls block user) bytes) (some_row_is (row.Uls block user bytes) r e) (record { key = refl; value = refl; fits = tt })
value_there (key.Service id) bytes r are e =
    let m = map_some (service_row_of id) (whole (service_reading id) bytes) r e in
    let w = whole_there (service_reading id) service_bytes (IsServiceOf id) (services_are_read id) m.0 bytes are m.1 in
    subst (ValueThere (key.Service id) bytes) m.2 (record { key = refl; value = w.0; fits = w.1.1 })
value_there (key.Job number) bytes r are e =
    let m = map_some (job_row_of number) (whole job_reading bytes) r e in
    let w = whole_there job_reading job_bytes JobFits jobs_are_read m.0 bytes are m.1 in
    subst (ValueThere (key.Job number) bytes) m.2 (record { key = refl; value = w.0; fits = w.1 })
value_there (key.Shown lterm) bytes r are e =
    let m = map_some (shown_row_of lterm) (whole job_reading bytes) r e in
    let w = whole_there job_reading job_bytes JobFits jobs_are_read m.0 bytes are m.1 in
    subst (ValueThere (key.Shown lterm) bytes) m.2 (record { key = refl; value = w.0; fits = w.1 })

pub row_there : (x : Record) (r : Row) → AreBytes x.0.bytes → AreBytes x.1 → row_read x ≡ Some r → RowThere x r
row_there x r key_are are e =
    let a = and_some (λ k. option_and_then checked_row (value_read k x.1)) (key_read x.0) r e in
    let b = and_some checked_row (value_read a.0 x.1) r a.2 in
    elim (chosen (row_fits b.0) (Some b.0) None (Some r) b.2) [
      | inl h ↦
          let v = value_there a.0 x.1 b.0 are b.1 in
          subst (RowThere x) (some_is b.0 r h.1) (record { record_is = λ i. ((key_there x.0 a.0 a.1 ∙ ap record_key (sym v.key)) i, v.value i); proper = record { key = subst IsProperKey (sym v.key) (key_proper x.0 a.0 key_are a.1); value = v.fits }; fits = h.0 })
      | inr h ↦ absurd (cc h.1)
    ]

pub records_are_one_to_one : RecordsAreOneToOne
records_are_one_to_one r q hr hq fr fq e = some_is r q (sym (row_back r hr fr) ∙ ap row_read e ∙ row_back q hq fq)

-- a record that is not read is no row's
pub no_row : (x : Record) → row_read x ≡ None → (r : Row) → IsProperRow r → IsTrue (row_fits r) → x ≡ record_of r → ⊥
no_row x none r h fits e = cc (sym (row_back r h fits) ∙ ap row_read (sym e) ∙ none)
