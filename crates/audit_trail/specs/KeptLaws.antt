-- Laws: what a transaction kept is read as it was written.
use Rattle.std.specs.Prelude.{◌≡◌, refl, ℕ, zero, suc, ◌+◌, ◌^◌, ◌<◌, ◌≤◌, ⊤, true, IsTrue, List, [], ◌∷◌, ◌++◌, length, flat_map, replicate, take, ◌-◌, Option, Some, None, option_and_then, ◌==◌}
use Rattle.std.specs.Prelude.{nat_le}
use Rattle.std.proofs.Common.{sym, ap, subst, ◌∙◌, inl, inr, arith, append_assoc, length-append}
use Rattle.std.proofs.lemmas.Bool.{eqb-true}
use Rattle.std.proofs.lemmas.Bool.Decides.{nat_tests}
use Rattle.std.proofs.lemmas.List.{length-replicate}
use Rattle.std.proofs.lemmas.List.Elements.{All-from_recursion, recursion_from_All}
use Rattle.std.specs.Int.{w8, w32, w64, to_be_bytes}
use Rattle.std.specs.List.{AllByRecursion as Each, list_all}
use Rattle.std.specs.Option.{option_map}
use Rattle.kd_base.specs.Field.{list}
use Rattle.kd_base.specs.Text.{IsName, is_name_byte, padded}
use Rattle.kd_base.specs.RoundTripsLaws.{padded_len}
use Rattle.kd_base.specs.ToolsLaws.{chosen, some_is, map_some, and_some, both_true, find_passes}
use Rattle.kd_records.specs.declared.key.RecordKey.{RecordKey}
use Rattle.kdcs_types.specs.declared.act.Row.{Row}
use Rattle.kdcs_types.specs.declared.act.Row.TheVariants as row
use Rattle.kdcs_types.specs.declared.call.Cause.TheVariants.{E01, E02, E03, E04, E05, E06, E07, E08, E09, E10, E11, E12, Er}
use Rattle.kdcs_types.specs.declared.call.Code.{Code}
use Rattle.kdcs_types.specs.declared.call.Code.TheVariants.{K04, K05}
use Rattle.kdcs_types.specs.declared.key.Area.{Area}
use Rattle.kdcs_types.specs.declared.key.Area.TheVariants as area
use Rattle.kdcs_types.specs.declared.key.Key.{Key}
use Rattle.kdcs_types.specs.declared.key.Key.TheVariants as key
use Rattle.kdcs_types.specs.declared.key.ServiceId.{ServiceId}
use Rattle.kdcs_types.specs.declared.key.ServiceId.TheVariants.{Dialogue, Asynchronous}
use Rattle.kdcs_types.specs.declared.service.Ending.{Ending}
use Rattle.kdcs_types.specs.declared.service.Ending.TheVariants.{Synced, Broken, BrokenFr}
use Rattle.kdcs_types.specs.declared.service.Note.{Note}
use Rattle.kdcs_types.specs.declared.service.Note.TheVariants.{Released, Refused}
use Rattle.kdcs_types.specs.declared.service.Service.{Service}
use Rattle.kdcs_types.specs.declared.service.Settled.{Settled}
use Rattle.kdcs_types.specs.Keys.{key_kind, area_key}
use Rattle.kdcs_types.specs.Tables.{row_key, row_fits}
use Rattle.record_codec.specs.Values.{filled, key_bytes, record_key, service_bytes, value_bytes, last_bytes}
use Rattle.record_codec.specs.Order.{IsProperKey}
use Rattle.record_codec.specs.Fields.{AreBytes, IsShort, number_field, list_field, both, items, either}
use Rattle.record_codec.specs.FieldsLaws.{IsReading, bytes_front, bytes_behind, either_there, by_byte, by_which, one_byte, u8s_are_read, u64s_are_read, lists_are_read, both_are_read, items_back}
use Rattle.record_codec.specs.FieldsLaws.{items_there}
use Rattle.record_codec.specs.ItemsLaws.{count_within}
use Rattle.record_codec.specs.Readings.{always, turned, last_reading, LastFits}
use Rattle.record_codec.specs.ReadingsLaws.{turned_there, turned_back, lasts_are_read}
use Rattle.record_codec.specs.WholeValuesLaws.{whole_back, whole_there}
use Rattle.record_codec.specs.RowReadings.{IsProperRow, key_read, row_read}
use Rattle.record_codec.specs.RowReadingsLaws.{key_back, key_there, key_proper, row_back, row_there}
use Rattle.audit_trail.specs.declared.kept.TheConstants.{ENDINGS}
use Rattle.audit_trail.specs.Kept.{many, service_key_bytes, began_bytes, area_bytes, code_byte, note_bytes, ending_byte, kept_bytes}
use Rattle.audit_trail.specs.KeptReadings.{picked, many_items, key_field, key_of_kind, service_at, area_at, service_field, area_field, service_of_row, service_with, no_row, some_row, began_reading}
use Rattle.audit_trail.specs.KeptReadings.{released, refused, code_reading, note_reading, last_statement, few_statements, statements_reading, ending_at, ending_reading, EndPart, KeptPart, kept_part}
use Rattle.audit_trail.specs.KeptReadings.{settled_of, kept_reading, kept_read}
use Rattle.audit_trail.specs.Facts.{IsRowOf, IsRefusal, IsNote, IsKeptRecord}
use Rattle.audit_trail.specs.Written.{HasShortRow, HasShortNote, HasShortParts}

-- ---- readers made of others

-- so many items after a number of eight bytes
abbrev pub ManyFit : {A : Type 0} → (A → Type 0) → List A → Type 0
ManyFit F xs = (length xs < 2 ^ 64) × Each F xs

many_are_read : {A : Type 0} (one : List ℕ → Option (A × List ℕ)) (of_one : A → List ℕ) (F : A → Type 0) → IsReading one of_one F → IsReading (many_items one) (many of_one) (ManyFit F)
many_are_read {A} one of_one F h = record {
  comes_back = λ xs rest fits.
      ap (many_items one) (append_assoc (to_be_bytes w64 (length xs)) (flat_map of_one xs) rest)
      ∙ ap (option_and_then (λ p. items one p.0 p.1)) (u64s_are_read.comes_back (length xs) (flat_map of_one xs ++ rest) fits.0)
      ∙ items_back one of_one F h xs rest fits.1;
  stands_there = λ xs bytes rest are e.
      let a = and_some (λ (p : ℕ × List ℕ). items one p.0 p.1) (number_field w64 bytes) (xs, rest) e in
      let p : ℕ × List ℕ = a.0 in
      let f = u64s_are_read.stands_there p.0 bytes p.1 are a.1 in
      let g = items_there one of_one F h p.0 xs p.1 rest (bytes_behind (to_be_bytes w64 p.0) p.1 bytes f.0 are) a.2 in
      (f.0 ∙ (λ i. to_be_bytes w64 (sym g.many i) ++ g.whole i) ∙ sym (append_assoc (to_be_bytes w64 (length xs)) (flat_map of_one xs) rest), (subst (λ (n : ℕ). n < 2 ^ 64) (sym g.many) f.1, g.fits));
}

-- the bytes in front of others
front_is : (front rest : List ℕ) → take (length front) (front ++ rest) ≡ front
front_is [] rest = refl
front_is (x ∷ front) rest = ap (λ (l : List ℕ). x ∷ l) (front_is front rest)

bytes_in_front : (front rest xs : List ℕ) → xs ≡ front ++ rest → AreBytes xs → AreBytes front
bytes_in_front front rest xs e are = subst AreBytes (front_is front rest) (bytes_front (length front) (front ++ rest) (subst AreBytes e are))

-- what is made of what was read, and which bytes it is made of
picked_are_read : {A B : Type 0} (make : A → Option B) (reads : List ℕ → Option (A × List ℕ)) (of_a : A → List ℕ) (F : A → Type 0) (from : B → A) (G : B → Type 0)
    → IsReading reads of_a F → ((b : B) → G b → F (from b) × (make (from b) ≡ Some b)) → ((a : A) (b : B) → AreBytes (of_a a) → F a → make a ≡ Some b → (a ≡ from b) × G b) → IsReading (picked make reads) (λ b. of_a (from b)) G
picked_are_read {A} {B} make reads of_a F from G h back there = record {
  comes_back = λ b rest fits.
      let k = back b fits in
      ap (option_and_then (λ (p : A × List ℕ). option_map (λ (made : B). (made, p.1)) (make p.0))) (h.comes_back (from b) rest k.0)
      ∙ ap (option_map (λ (made : B). (made, rest))) k.1;
  stands_there = λ b bytes rest are e.
      let a = and_some (λ (p : A × List ℕ). option_map (λ (made : B). (made, p.1)) (make p.0)) (reads bytes) (b, rest) e in
      let p : A × List ℕ = a.0 in
      let m = map_some (λ (made : B). (made, p.1)) (make p.0) (b, rest) a.2 in
      let f = h.stands_there p.0 bytes p.1 are a.1 in
      let t = there p.0 m.0 (bytes_in_front (of_a p.0) p.1 bytes f.0 are) f.1 m.1 in
      subst (λ (z : B × List ℕ). (bytes ≡ of_a (from z.0) ++ z.1) × G z.0) m.2 (f.0 ∙ ap (λ (x : A). of_a x ++ p.1) t.0, t.1);
}

-- ---- keys

abbrev IsByte : ℕ → Type 0
IsByte n = n < 256

abbrev same_bytes : List ℕ → List ℕ
same_bytes x = x

-- 24 bytes
abbrev KeyFits : List ℕ → Type 0
KeyFits x = (length x ≡ 24) × Each IsByte x

one_by_one : (xs : List ℕ) → flat_map one_byte xs ≡ xs
one_by_one [] = refl
one_by_one (x ∷ xs) = ap (λ (l : List ℕ). x ∷ l) (one_by_one xs)

keys_are_read : IsReading key_field same_bytes KeyFits
keys_are_read = record {
  comes_back = λ x rest fits.
      (λ i. items (number_field w8) (sym fits.0 i) (sym (one_by_one x) i ++ rest)) ∙ items_back (number_field w8) one_byte IsByte u8s_are_read x rest fits.1;
  stands_there = λ x bytes rest are e.
      let g = items_there (number_field w8) one_byte IsByte u8s_are_read 24 x bytes rest are e in
      (g.whole ∙ ap (λ (l : List ℕ). l ++ rest) (one_by_one x), (g.many, g.fits));
}

-- each is a byte, wherever it is read
read_bytes : (xs : List ℕ) → Each IsByte xs → AreBytes xs
read_bytes [] h k = omega arith
read_bytes (x ∷ xs) h zero = h.0
read_bytes (x ∷ xs) h (suc k) = read_bytes xs h.1 k

each_both : (xs ys : List ℕ) → Each IsByte xs → Each IsByte ys → Each IsByte (xs ++ ys)
each_both [] ys h k = k
each_both (x ∷ xs) ys h k = (h.0, each_both xs ys h.1 k)

each_same : (n x : ℕ) → IsByte x → Each IsByte (replicate n x)
each_same zero x h = tt
each_same (suc n) x h = (h, each_same n x h)

name_byte : (b : ℕ) → IsTrue (is_name_byte b) → IsByte b
name_byte b h = grind (arith, nat_tests)

name_bytes : (xs : List ℕ) → IsTrue (list_all is_name_byte xs) → Each IsByte xs
name_bytes [] h = tt
name_bytes (x ∷ xs) h = let parts = both_true (is_name_byte x) (list_all is_name_byte xs) h in (name_byte x parts.0, name_bytes xs parts.1)

padded_bytes : (name : List ℕ) → IsName name → Each IsByte (padded name)
padded_bytes name h = each_both name (replicate (8 - length name) 32) (name_bytes name h.2) (each_same (8 - length name) 32 (omega arith))

number_bytes : (n : ℕ) → Each IsByte (to_be_bytes w64 n)
number_bytes n = (omega arith, (omega arith, (omega arith, (omega arith, (omega arith, (omega arith, (omega arith, (omega arith, tt))))))))

-- not more than 24 bytes
abbrev FewBytes : List ℕ → Type 0
FewBytes xs = (length xs ≤ 24) × Each IsByte xs

two_names : (a b : List ℕ) → IsName a → IsName b → FewBytes (padded a ++ padded b)
two_names a b h k = (omega (arith, length-append (padded a) (padded b), padded_len a h, padded_len b k), each_both (padded a) (padded b) (padded_bytes a h) (padded_bytes b k))

few_bytes : (k : Key) → IsProperKey k → FewBytes (key_bytes k)
few_bytes (key.Gssb name) h = (omega (arith, padded_len name h), padded_bytes name h)
few_bytes (key.Tls block lterm) h = two_names block lterm h.0 h.1
few_bytes (key.Uls block user) h = two_names block user h.0 h.1
few_bytes (key.Service (Dialogue user)) h = (omega (arith, padded_len user h), (omega arith, padded_bytes user h))
few_bytes (key.Service (Asynchronous number)) h = (omega arith, (omega arith, number_bytes number))
few_bytes (key.Job number) h = (omega arith, number_bytes number)
few_bytes (key.Shown lterm) h = (omega (arith, padded_len lterm h), padded_bytes lterm h)

-- the 24 bytes of a key
abbrev pub cells : Key → List ℕ
cells k = filled (key_bytes k)

pub cells_fit : (k : Key) → IsProperKey k → KeyFits (cells k)
cells_fit k h =
    let few = few_bytes k h in
    let n = 24 - length (key_bytes k) in
    (omega (arith, length-append (key_bytes k) (replicate n 0), length-replicate {A = ℕ} n 0, few.0), each_both (key_bytes k) (replicate n 0) few.1 (each_same n 0 (omega arith)))

pub key_bytes_are : (k : Key) → IsProperKey k → AreBytes (cells k)
key_bytes_are k h = read_bytes (cells k) (cells_fit k h).1

-- a key of this kind
abbrev IsKeyOf : ℕ → Key → Type 0
IsKeyOf kind k = (key_kind k ≡ kind) × IsProperKey k

abbrev keyed : ℕ → List ℕ → RecordKey
keyed kind bytes = record { kind = kind; bytes = bytes }

kinds_are_read : (kind : ℕ) → IsReading (key_of_kind kind) cells (IsKeyOf kind)
kinds_are_read kind =
    picked_are_read (λ (bytes : List ℕ). key_read (keyed kind bytes)) key_field same_bytes KeyFits cells (IsKeyOf kind) keys_are_read
    (λ k is. (cells_fit k is.1, ap (λ (n : ℕ). key_read (keyed n (cells k))) (sym is.0) ∙ key_back k is.1))
    (λ bytes k are fits e.
    let same = key_there (keyed kind bytes) k e in
    (ap (λ (r : RecordKey). r.bytes) same, (sym (ap (λ (r : RecordKey). r.kind) same), key_proper (keyed kind bytes) k are e)))

service_there : (k : Key) (id : ServiceId) → service_at k ≡ Some id → k ≡ key.Service id
service_there (key.Gssb name) id e = absurd (cc e)
service_there (key.Tls block lterm) id e = absurd (cc e)
service_there (key.Uls block user) id e = absurd (cc e)
service_there (key.Service other) id e = ap (λ (i : ServiceId). key.Service i) (some_is other id e)
service_there (key.Job number) id e = absurd (cc e)
service_there (key.Shown lterm) id e = absurd (cc e)

abbrev service_key_of : ServiceId → Key
service_key_of id = key.Service id

abbrev IsProperId : ServiceId → Type 0
IsProperId id = IsProperKey (key.Service id)

ids_are_read : IsReading service_field service_key_bytes IsProperId
ids_are_read =
    picked_are_read service_at (key_of_kind 4) cells (IsKeyOf 4) service_key_of IsProperId (kinds_are_read 4)
    (λ id is. ((refl, is), refl))
    (λ k id are is e. let same = service_there k id e in (same, subst IsProperKey same is.1))

area_there : (k : Key) (a : Area) → area_at k ≡ Some a → k ≡ area_key a
area_there (key.Gssb name) a e = ap area_key (some_is (area.Gssb name) a e)
area_there (key.Tls block lterm) a e = ap area_key (some_is (area.Tls block lterm) a e)
area_there (key.Uls block user) a e = ap area_key (some_is (area.Uls block user) a e)
area_there (key.Service id) a e = absurd (cc e)
area_there (key.Job number) a e = absurd (cc e)
area_there (key.Shown lterm) a e = absurd (cc e)

area_of_its_key : (a : Area) → area_at (area_key a) ≡ Some a
area_of_its_key (area.Gssb name) = refl
area_of_its_key (area.Tls block lterm) = refl
area_of_its_key (area.Uls block user) = refl

abbrev IsAreaOf : ℕ → Area → Type 0
IsAreaOf kind a = IsKeyOf kind (area_key a)

abbrev area_cells : Area → List ℕ
area_cells a = cells (area_key a)

areas_of_kind : (kind : ℕ) → IsReading (picked area_at (key_of_kind kind)) area_cells (IsAreaOf kind)
areas_of_kind kind =
    picked_are_read area_at (key_of_kind kind) cells (IsKeyOf kind) area_key (IsAreaOf kind) (kinds_are_read kind)
    (λ a is. (is, area_of_its_key a))
    (λ k a are is e. let same = area_there k a e in (same, subst (IsKeyOf kind) same is))

abbrev by_kind : ℕ → List ℕ → Option (Area × List ℕ)
by_kind kind = picked area_at (key_of_kind kind)

small_kind : (k : Key) → IsByte (key_kind k)
small_kind (key.Gssb name) = omega arith
small_kind (key.Tls block lterm) = omega arith
small_kind (key.Uls block user) = omega arith
small_kind (key.Service id) = omega arith
small_kind (key.Job number) = omega arith
small_kind (key.Shown lterm) = omega arith

abbrev IsProperArea : Area → Type 0
IsProperArea a = IsProperKey (area_key a)

areas_are_read : IsReading area_field area_bytes IsProperArea
areas_are_read = record {
  comes_back = λ a rest fits.
      by_byte by_kind (key_kind (area_key a)) (area_cells a ++ rest) (small_kind (area_key a)) ∙ (areas_of_kind (key_kind (area_key a))).comes_back a rest (refl, fits);
  stands_there = λ a bytes rest are e.
      let w = by_which by_kind a bytes rest are e in
      let s = (areas_of_kind w.0).stands_there a w.1 rest w.3 w.4 in
      (w.2 ∙ (λ i. sym s.1.0 i ∷ s.0 i), s.1.1);
}

-- ---- the row at the beginning

-- a row whose value can be written
abbrev RowFits : ServiceId → Service → Type 0
RowFits id s = (IsProperRow (row.Service id s) × IsTrue (row_fits (row.Service id s))) × IsShort (service_bytes s)

abbrev BeganFits : ServiceId → Option Service → Type 0
BeganFits id None = ⊤
BeganFits id (Some s) = RowFits id s

abbrev id_in : ServiceId → Key → ServiceId
id_in other (key.Gssb name) = other
id_in other (key.Tls block lterm) = other
id_in other (key.Uls block user) = other
id_in other (key.Service id) = id
id_in other (key.Job number) = other
id_in other (key.Shown lterm) = other

abbrev MayStand : Row → Type 0
MayStand r = IsProperRow r × IsTrue (row_fits r)

row_is : (r : Row) (s : Service) (id : ServiceId) → service_of_row r ≡ Some s → row_key r ≡ key.Service id → r ≡ row.Service id s
row_is (row.Gssb name content) s id e k = absurd (cc e)
row_is (row.Tls block lterm content) s id e k = absurd (cc e)
row_is (row.Uls block user content) s id e k = absurd (cc e)
row_is (row.Service other t) s id e k = λ i. row.Service (ap (id_in id) k i) (some_is t s e i)
row_is (row.Job number v) s id e k = absurd (cc e)
row_is (row.Shown lterm v) s id e k = absurd (cc e)

row_found : (id : ServiceId) (value : List ℕ) (s : Service) → IsProperId id → AreBytes value → service_with id value ≡ Some s → (value ≡ service_bytes s) × MayStand (row.Service id s)
row_found id value s is are e =
    let k = record_key (key.Service id) in
    let a = and_some service_of_row (row_read (k, value)) s e in
    let there = row_there (k, value) a.0 (key_bytes_are (key.Service id) is) are a.1 in
    let same : row_key a.0 ≡ key.Service id = some_is (row_key a.0) (key.Service id) (sym (key_back (row_key a.0) there.proper.key) ∙ ap (λ (x : RecordKey × List ℕ). key_read x.0) (sym there.record_is) ∙ key_back (key.Service id) is) in
    let whole = row_is a.0 s id a.2 same in
    (ap (λ (x : RecordKey × List ℕ). x.1) there.record_is ∙ ap value_bytes whole, subst MayStand whole (there.proper, there.fits))

rows_are_read : (id : ServiceId) → IsProperId id → IsReading (picked (service_with id) list_field) (λ (s : Service). list (service_bytes s)) (RowFits id)
rows_are_read id is =
    picked_are_read (service_with id) list_field list IsShort service_bytes (RowFits id) lists_are_read
    (λ s fits. (fits.1, ap (option_and_then service_of_row) (row_back (row.Service id s) fits.0.0 fits.0.1)))
    (λ value s are short e.
    let found = row_found id value s is (bytes_behind (to_be_bytes w32 (length value)) value (list value) refl are) e in
    (found.0, (found.1, subst IsShort found.0 short)))

abbrev row_by : ServiceId → ℕ → List ℕ → Option (Option Service × List ℕ)
row_by id = either 0 (always no_row) 1 (turned some_row (picked (service_with id) list_field))

began_are_read : (id : ServiceId) → IsProperId id → IsReading (began_reading id) began_bytes (BeganFits id)
began_are_read id is = record { comes_back = back; stands_there = there }
  where
    back : (x : Option Service) (rest : List ℕ) → BeganFits id x → began_reading id (began_bytes x ++ rest) ≡ Some (x, rest)
    back None rest fits = by_byte (row_by id) 0 rest (omega arith)
    back (Some s) rest fits =
        by_byte (row_by id) 1 (list (service_bytes s) ++ rest) (omega arith)
        ∙ turned_back some_row (picked (service_with id) list_field) (λ (s : Service). list (service_bytes s)) (RowFits id) (rows_are_read id is) s rest fits

    there : (x : Option Service) (bytes rest : List ℕ) → AreBytes bytes → began_reading id bytes ≡ Some (x, rest) → (bytes ≡ began_bytes x ++ rest) × BeganFits id x
    there x bytes rest are e =
        either_there 0 (always no_row) 1 (turned some_row (picked (service_with id) list_field)) x bytes rest ((bytes ≡ began_bytes x ++ rest) × BeganFits id x)
        (λ left is _ f.
        let same : (no_row, left) ≡ (x, rest) = some_is (no_row, left) (x, rest) f in
        subst (λ (p : Option Service × List ℕ). (bytes ≡ began_bytes p.0 ++ p.1) × BeganFits id p.0) same (is, tt))
        (λ left at bytes_there f.
        let t = turned_there some_row (picked (service_with id) list_field) (λ (s : Service). list (service_bytes s)) (RowFits id) (rows_are_read id is) x left rest bytes_there f in
        subst (λ (o : Option Service). (bytes ≡ began_bytes o ++ rest) × BeganFits id o) t.1 (at ∙ ap (λ (l : List ℕ). 1 ∷ l) t.2, t.3))
        are e

-- ---- notes

abbrev code_bytes : Code → List ℕ
code_bytes code = code_byte code ∷ []

codes_are_read : IsReading code_reading code_bytes IsRefusal
codes_are_read = record { comes_back = back; stands_there = there }
  where
    back : (x : Code) (rest : List ℕ) → IsRefusal x → code_reading (code_bytes x ++ rest) ≡ Some (x, rest)
    back x rest (inl is) = subst (λ (c : Code). code_reading (code_bytes c ++ rest) ≡ Some (c, rest)) (sym is) (by_byte (either 4 (always K04) 5 (always K05)) 4 rest (omega arith))
    back x rest (inr is) = subst (λ (c : Code). code_reading (code_bytes c ++ rest) ≡ Some (c, rest)) (sym is) (by_byte (either 4 (always K04) 5 (always K05)) 5 rest (omega arith))

    there : (x : Code) (bytes rest : List ℕ) → AreBytes bytes → code_reading bytes ≡ Some (x, rest) → (bytes ≡ code_bytes x ++ rest) × IsRefusal x
    there x bytes rest are e =
        either_there 4 (always K04) 5 (always K05) x bytes rest ((bytes ≡ code_bytes x ++ rest) × IsRefusal x)
        (λ left is _ f.
        let same : (K04, left) ≡ (x, rest) = some_is (K04, left) (x, rest) f in
        subst (λ (p : Code × List ℕ). (bytes ≡ code_bytes p.0 ++ p.1) × IsRefusal p.0) same (is, inl refl))
        (λ left is _ f.
        let same : (K05, left) ≡ (x, rest) = some_is (K05, left) (x, rest) f in
        subst (λ (p : Code × List ℕ). (bytes ≡ code_bytes p.0 ++ p.1) × IsRefusal p.0) same (is, inr refl))
        are e

-- a note whose content can be written
abbrev NoteFits : Note → Type 0
NoteFits (Released a content) = IsProperArea a × LastFits content
NoteFits (Refused a code) = IsProperArea a × IsRefusal code

releases_are_read : IsReading (both area_field last_reading) (λ (p : Area × Option (List ℕ)). area_bytes p.0 ++ last_bytes p.1) (λ (p : Area × Option (List ℕ)). IsProperArea p.0 × LastFits p.1)
releases_are_read = both_are_read area_field last_reading area_bytes last_bytes IsProperArea LastFits areas_are_read lasts_are_read

refusals_are_read : IsReading (both area_field code_reading) (λ (p : Area × Code). area_bytes p.0 ++ code_bytes p.1) (λ (p : Area × Code). IsProperArea p.0 × IsRefusal p.1)
refusals_are_read = both_are_read area_field code_reading area_bytes code_bytes IsProperArea IsRefusal areas_are_read codes_are_read

abbrev note_by : ℕ → List ℕ → Option (Note × List ℕ)
note_by = either 1 (turned released (both area_field last_reading)) 2 (turned refused (both area_field code_reading))

notes_are_read : IsReading note_reading note_bytes NoteFits
notes_are_read = record { comes_back = back; stands_there = there }
  where
    back : (x : Note) (rest : List ℕ) → NoteFits x → note_reading (note_bytes x ++ rest) ≡ Some (x, rest)
    back (Released a content) rest fits =
        by_byte note_by 1 ((area_bytes a ++ last_bytes content) ++ rest) (omega arith)
        ∙ turned_back released (both area_field last_reading) _ _ releases_are_read (a, content) rest fits
    back (Refused a code) rest fits =
        by_byte note_by 2 ((area_bytes a ++ code_bytes code) ++ rest) (omega arith)
        ∙ turned_back refused (both area_field code_reading) _ _ refusals_are_read (a, code) rest fits

    there : (x : Note) (bytes rest : List ℕ) → AreBytes bytes → note_reading bytes ≡ Some (x, rest) → (bytes ≡ note_bytes x ++ rest) × NoteFits x
    there x bytes rest are e =
        either_there 1 (turned released (both area_field last_reading)) 2 (turned refused (both area_field code_reading)) x bytes rest ((bytes ≡ note_bytes x ++ rest) × NoteFits x)
        (λ left is bytes_there f.
        let t = turned_there released (both area_field last_reading) _ _ releases_are_read x left rest bytes_there f in
        subst (λ (o : Note). (bytes ≡ note_bytes o ++ rest) × NoteFits o) t.1 (is ∙ ap (λ (l : List ℕ). 1 ∷ l) t.2, t.3))
        (λ left is bytes_there f.
        let t = turned_there refused (both area_field code_reading) _ _ refusals_are_read x left rest bytes_there f in
        subst (λ (o : Note). (bytes ≡ note_bytes o ++ rest) × NoteFits o) t.1 (is ∙ ap (λ (l : List ℕ). 2 ∷ l) t.2, t.3))
        are e

-- ---- statements and the ending

abbrev IsCount : ℕ → Type 0
IsCount n = n ≤ last_statement

statements_are_read : IsReading statements_reading (to_be_bytes w64) IsCount
statements_are_read =
    picked_are_read few_statements (number_field w64) (to_be_bytes w64) (λ n. n < 2 ^ 64) (λ (n : ℕ). n) IsCount u64s_are_read
    (λ n few. (omega (arith, few), few_are n few))
    (λ n m are small e. few_there n m e)
  where
    few_are : (n : ℕ) → n ≤ last_statement → few_statements n ≡ Some n
    few_are n few = grind (arith, nat_tests)

    few : (n : ℕ) → nat_le n last_statement ≡ true → n ≤ last_statement
    few n h = grind (arith, nat_tests)

    few_there : (n m : ℕ) → few_statements n ≡ Some m → (n ≡ m) × IsCount m
    few_there n m e =
        elim (chosen (nat_le n last_statement) (Some n) None (Some m) e) [
          | inl h ↦ let same = some_is n m h.1 in (same, subst IsCount same (few n h.0))
          | inr h ↦ absurd (cc h.1)
        ]

abbrev AnyEnding : Ending → Type 0
AnyEnding e = ⊤

abbrev ending_bytes : Ending → List ℕ
ending_bytes e = ending_byte e ∷ []

small_ending : (e : Ending) → IsByte (ending_byte e)
small_ending Synced = omega arith
small_ending (Broken E01) = omega arith
small_ending (Broken E02) = omega arith
small_ending (Broken E03) = omega arith
small_ending (Broken E04) = omega arith
small_ending (Broken E05) = omega arith
small_ending (Broken E06) = omega arith
small_ending (Broken E07) = omega arith
small_ending (Broken E08) = omega arith
small_ending (Broken E09) = omega arith
small_ending (Broken E10) = omega arith
small_ending (Broken E11) = omega arith
small_ending (Broken E12) = omega arith
small_ending (Broken Er) = omega arith
small_ending BrokenFr = omega arith

ending_is : (e : Ending) → ending_at (ending_byte e) ≡ Some e
ending_is Synced = refl
ending_is (Broken E01) = refl
ending_is (Broken E02) = refl
ending_is (Broken E03) = refl
ending_is (Broken E04) = refl
ending_is (Broken E05) = refl
ending_is (Broken E06) = refl
ending_is (Broken E07) = refl
ending_is (Broken E08) = refl
ending_is (Broken E09) = refl
ending_is (Broken E10) = refl
ending_is (Broken E11) = refl
ending_is (Broken E12) = refl
ending_is (Broken Er) = refl
ending_is BrokenFr = refl

endings_are_read : IsReading ending_reading ending_bytes AnyEnding
endings_are_read =
    picked_are_read ending_at (number_field w8) one_byte IsByte ending_byte AnyEnding u8s_are_read
    (λ e any. (small_ending e, ending_is e))
    (λ n e are small found. (sym (eqb-true (ending_byte e) n (find_passes (λ (x : Ending). ending_byte x == n) ENDINGS e found)), tt))

-- ---- the whole

abbrev EndFits : EndPart → Type 0
EndFits p = IsCount p.0 × AnyEnding p.1

abbrev end_bytes : EndPart → List ℕ
end_bytes p = to_be_bytes w64 p.0 ++ ending_bytes p.1

abbrev NotesPart : Type 0
NotesPart = List Note × EndPart

abbrev notes_bytes : NotesPart → List ℕ
notes_bytes p = many note_bytes p.0 ++ end_bytes p.1

abbrev NotesFit : NotesPart → Type 0
NotesFit p = ManyFit NoteFits p.0 × EndFits p.1

abbrev InputsPart : Type 0
InputsPart = List (List ℕ) × NotesPart

abbrev inputs_bytes : InputsPart → List ℕ
inputs_bytes p = many list p.0 ++ notes_bytes p.1

abbrev InputsFit : InputsPart → Type 0
InputsFit p = ManyFit IsShort p.0 × NotesFit p.1

abbrev part_bytes : KeptPart → List ℕ
part_bytes p = began_bytes p.0 ++ inputs_bytes p.1

abbrev PartFits : ServiceId → KeptPart → Type 0
PartFits id p = BeganFits id p.0 × InputsFit p.1

parts_are_read : (id : ServiceId) → IsProperId id → IsReading (kept_part id) part_bytes (PartFits id)
parts_are_read id is =
    both_are_read (began_reading id) inputs began_bytes inputs_bytes (BeganFits id) InputsFit (began_are_read id is)
    (both_are_read (many_items list_field) notes (many list) notes_bytes (ManyFit IsShort) NotesFit (many_are_read list_field list IsShort lists_are_read)
    (both_are_read (many_items note_reading) end (many note_bytes) end_bytes (ManyFit NoteFits) EndFits (many_are_read note_reading note_bytes NoteFits notes_are_read)
    (both_are_read statements_reading ending_reading (to_be_bytes w64) ending_bytes IsCount AnyEnding statements_are_read endings_are_read)))
  where
    end : List ℕ → Option (EndPart × List ℕ)
    end = both statements_reading ending_reading

    notes : List ℕ → Option (NotesPart × List ℕ)
    notes = both (many_items note_reading) end

    inputs : List ℕ → Option (InputsPart × List ℕ)
    inputs = both (many_items list_field) notes

abbrev part_of : Settled → KeptPart
part_of k = (k.began, (k.inputs, (k.notes, (k.statements, k.ending))))

-- what can be read again
pub record KeptFits (k : Settled) : Type 0 where
  pub service : IsProperId k.service
  pub part : PartFits k.service (part_of k)

kepts_are_read : IsReading kept_reading kept_bytes KeptFits
kepts_are_read = record {
  comes_back = λ k rest fits.
      ap kept_reading (append_assoc (service_key_bytes k.service) (part_bytes (part_of k)) rest)
      ∙ ap (option_and_then rest_by) (ids_are_read.comes_back k.service (part_bytes (part_of k) ++ rest) fits.service)
      ∙ turned_back (settled_of k.service) (kept_part k.service) part_bytes (PartFits k.service) (parts_are_read k.service fits.service) (part_of k) rest fits.part;
  stands_there = λ k bytes rest are e.
      let a = and_some rest_by (service_field bytes) (k, rest) e in
      let p : ServiceId × List ℕ = a.0 in
      let f = ids_are_read.stands_there p.0 bytes p.1 are a.1 in
      let t = turned_there (settled_of p.0) (kept_part p.0) part_bytes (PartFits p.0) (parts_are_read p.0 f.1) k p.1 rest (bytes_behind (service_key_bytes p.0) p.1 bytes f.0 are) a.2 in
      let whole : bytes ≡ kept_bytes (settled_of p.0 t.0) ++ rest = f.0 ∙ ap (λ (l : List ℕ). service_key_bytes p.0 ++ l) t.2 ∙ sym (append_assoc (service_key_bytes p.0) (part_bytes t.0) rest) in
      subst (λ (o : Settled). (bytes ≡ kept_bytes o ++ rest) × KeptFits o) t.1 (whole, record { service = f.1; part = t.3 });
}
  where
    rest_by : ServiceId × List ℕ → Option (Settled × List ℕ)
    rest_by p = turned (settled_of p.0) (kept_part p.0) p.1

-- ---- what was read, and what is read again

notes_there : (xs : List Note) → Each NoteFits xs → Each IsNote xs
notes_there [] h = tt
notes_there (Released a content ∷ xs) h = (h.0.0, notes_there xs h.1)
notes_there (Refused a code ∷ xs) h = (h.0, notes_there xs h.1)

began_there : (id : ServiceId) (o : Option Service) → BeganFits id o → IsRowOf id o
began_there id None h = tt
began_there id (Some s) h = h.0

pub kept_there : (bytes : List ℕ) (k : Settled) → AreBytes bytes → kept_read bytes ≡ Some k → IsKeptRecord k
kept_there bytes k are e =
    let fits = (whole_there kept_reading kept_bytes KeptFits kepts_are_read k bytes are e).1 in
    record {
      service = fits.service;
      began = began_there k.service k.began fits.part.0;
      notes = All-from_recursion IsNote k.notes (notes_there k.notes fits.part.1.1.0.1);
      statements = fits.part.1.1.1.0;
    }

began_fits : (id : ServiceId) (o : Option Service) → IsRowOf id o → HasShortRow o → BeganFits id o
began_fits id None h short = tt
began_fits id (Some s) h short = (h, short)

last_fits : (o : Option (List ℕ)) → IsShort (last_bytes o) → LastFits o
last_fits None h = tt
last_fits (Some message) h = omega (arith, h)

notes_fit : (xs : List Note) → Each IsNote xs → Each HasShortNote xs → Each NoteFits xs
notes_fit [] h short = tt
notes_fit (Released a content ∷ xs) h short = ((h.0, last_fits content short.0), notes_fit xs h.1 short.1)
notes_fit (Refused a code ∷ xs) h short = (h.0, notes_fit xs h.1 short.1)

some_note : (x : Note) → 1 ≤ length (note_bytes x)
some_note (Released a content) = omega arith
some_note (Refused a code) = omega arith

kept_length : (k : Settled) → length (flat_map list k.inputs) + length (flat_map note_bytes k.notes) ≤ length (kept_bytes k)
kept_length k =
    let a = many list k.inputs in
    let b = many note_bytes k.notes in
    let c = end_bytes (k.statements, k.ending) in
    omega (
      arith,
      length-append (service_key_bytes k.service) (part_bytes (part_of k)),
      length-append (began_bytes k.began) (a ++ (b ++ c)),
      length-append a (b ++ c),
      length-append b c,
      length-append (to_be_bytes w64 (length k.inputs)) (flat_map list k.inputs),
      length-append (to_be_bytes w64 (length k.notes)) (flat_map note_bytes k.notes),
    )

pub kept_back : (k : Settled) → IsKeptRecord k → HasShortParts k → length (kept_bytes k) < 2 ^ 64 → kept_read (kept_bytes k) ≡ Some k
kept_back k is short long =
    let many_inputs = count_within list (λ x. omega arith) k.inputs in
    let many_notes = count_within note_bytes some_note k.notes in
    let all = kept_length k in
    whole_back kept_reading kept_bytes KeptFits kepts_are_read k (record {
      service = is.service;
      part = (
        began_fits k.service k.began is.began short.began,
        (
          (omega arith, recursion_from_All IsShort k.inputs short.inputs),
          ((omega arith, notes_fit k.notes (recursion_from_All IsNote k.notes is.notes) (recursion_from_All HasShortNote k.notes short.notes)), (is.statements, tt)),
        ),
      );
    })
