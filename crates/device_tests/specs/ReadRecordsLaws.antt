-- Records that are read, and records that are written.
use Rattle.std.proofs.Common.{◌≡◌, ℕ, zero, suc, ◌+◌, ◌≤◌, true, cond, IsTrue, eqb, ltb, List, [], ◌∷◌, ◌++◌, length, take, drop, get_or, Option, Some, None, refl, sym, ap, subst, ◌∙◌, arith}
use Rattle.std.proofs.Common.{append_assoc, length-append}
use Rattle.std.specs.List.{All, flat_map}
use Rattle.std.specs.Int.{w32, to_be_bytes}
use Rattle.std.specs.Option.{option_and_then}
use Rattle.std.specs.Ordering.{is_lt}
use Rattle.std.specs.Cmp.{IsTotalOrder}
use Rattle.std.specs.Cmp.Lexicographic.{on_texts}
use Rattle.std.specs.FinMap.Entries.{below_all, is_sorted}
use Rattle.std.specs.declared.cmp.Ordering.{Ordering}
use Rattle.std.proofs.lemmas.Bool.{ltb-false, le-ltb, eqb-false, ne_eqb, and_parts, and_from, cond-true, cond-false}
use Rattle.std.proofs.lemmas.List.Elements.{All-nil, All-cons, All-head, All-tail}
use Rattle.std.proofs.lemmas.List.{drop_more}
use Rattle.std.proofs.lemmas.Option.{same_Some}
use Rattle.kd_records.specs.declared.key.RecordKey.{RecordKey}
use Rattle.kd_records.specs.Contents.{Record, IsRecord}
use Rattle.kd_records.specs.Keys.{key_text, key_cmp}
use Rattle.device_tests.specs.File.{spelled_record}
use Rattle.kdcfile_layout.specs.Fields.{AreBytes, number, key_at}
use Rattle.device_tests.specs.Reading.{valued, record_at, after_record, records_of, comes_after}
use Rattle.kdcfile_layout.specs.FieldsLaws.{after, field, parted, read_4, small_4, written_4, length_piece, AreBytes_drop}
use Rattle.kdcfile_layout.specs.TestsLaws.{unless, when}
use Rattle.kd_base.specs.Tools.{onto}
use Rattle.kd_base.specs.OrderLaws.{is_less}
use Rattle.kd_base.specs.ToolsLaws.{and_some, map_some}

-- one record, written in front of a rest
module _ (r : Record) (rest : List ℕ) (is : IsRecord r) where
  from_key : spelled_record r ++ rest ≡ r.0.kind ∷ (r.0.bytes ++ (to_be_bytes w32 (length r.1) ++ (r.1 ++ rest)))
  from_key = ap (λ (l : List ℕ). r.0.kind ∷ l) (append_assoc r.0.bytes (to_be_bytes w32 (length r.1) ++ r.1) rest ∙ ap (λ (l : List ℕ). r.0.bytes ++ l) (append_assoc (to_be_bytes w32 (length r.1)) r.1 rest))

  at_bytes : drop 1 (spelled_record r ++ rest) ≡ r.0.bytes ++ (to_be_bytes w32 (length r.1) ++ (r.1 ++ rest))
  at_bytes = ap (λ (l : List ℕ). drop 1 l) from_key

  at_length : drop 25 (spelled_record r ++ rest) ≡ to_be_bytes w32 (length r.1) ++ (r.1 ++ rest)
  at_length = after (spelled_record r ++ rest) r.0.bytes (to_be_bytes w32 (length r.1) ++ (r.1 ++ rest)) 1 24 at_bytes is.key_length

  at_value : drop 29 (spelled_record r ++ rest) ≡ r.1 ++ rest
  at_value = after (spelled_record r ++ rest) (to_be_bytes w32 (length r.1)) (r.1 ++ rest) 25 4 at_length refl

  pub behind : after_record r (spelled_record r ++ rest) ≡ rest
  behind = after (spelled_record r ++ rest) r.1 rest 29 (length r.1) at_value refl

  len : length (spelled_record r ++ rest) ≡ 29 + length r.1 + length rest
  len =
      omega (arith, ap (λ (l : List ℕ). length l) from_key, length-append r.0.bytes (to_be_bytes w32 (length r.1) ++ (r.1 ++ rest)), length-append (to_be_bytes w32 (length r.1)) (r.1 ++ rest), length-append r.1 rest, is.key_length)

  kind_is : get_or (spelled_record r ++ rest) 0 0 ≡ r.0.kind
  kind_is = ap (λ (l : List ℕ). get_or l 0 0) from_key

  bytes_are : take 24 (drop 1 (spelled_record r ++ rest)) ≡ r.0.bytes
  bytes_are = field (spelled_record r ++ rest) r.0.bytes (to_be_bytes w32 (length r.1) ++ (r.1 ++ rest)) 1 24 at_bytes is.key_length

  pub record_written : record_at (spelled_record r ++ rest) ≡ Some r
  unfolding record_at
  record_written =
      cond-false (ltb (length (spelled_record r ++ rest)) 29) _ _ (le-ltb (length (spelled_record r ++ rest)) 29 (omega (arith, len)))
      ∙ cond-false (eqb (get_or (spelled_record r ++ rest) 0 0) 0) _ _ (ne_eqb (get_or (spelled_record r ++ rest) 0 0) 0 (λ e. omega (arith, e, kind_is, is.kind_from_one)))
      ∙ ap (λ (n : ℕ). valued n (spelled_record r ++ rest)) (written_4 (spelled_record r ++ rest) (r.1 ++ rest) 25 (length r.1) at_length is.value_length)
      ∙ cond-false (ltb (length (spelled_record r ++ rest)) (29 + length r.1)) _ _ (le-ltb (length (spelled_record r ++ rest)) (29 + length r.1) (omega (arith, len)))
      ∙ ap3 kind_is bytes_are (field (spelled_record r ++ rest) r.1 rest 29 (length r.1) at_value refl)
    where
      ap3 : {k n : ℕ} {b c v w : List ℕ} → k ≡ n → b ≡ c → v ≡ w → ◌≡◌ {A = Option Record} (Some (record { kind = k; bytes = b }, v)) (Some (record { kind = n; bytes = c }, w))
      ap3 p q s = λ i. Some (record { kind = p i; bytes = q i }, s i)

-- one record, read
pub record ReadRecord (left : List ℕ) (r : Record) : Type 0 where
  pub fits : IsRecord r
  pub spelled : left ≡ spelled_record r ++ after_record r left

pub record_read : (left : List ℕ) (r : Record) → AreBytes left → record_at left ≡ Some r → ReadRecord left r
unfolding record_at
record_read left r bytes e =
    let long = unless (ltb (length left) 29) _ r e in
    let kind = unless (eqb (get_or left 0 0) 0) _ r long.1 in
    let enough = unless (ltb (length left) (29 + number w32 25 left)) _ r kind.1 in
    let P : Record → Type 0 = λ q. ReadRecord left q in
    subst P (same_Some _ r enough.1) (made (ltb-false (length left) 29 long.0) (eqb-false (get_or left 0 0) 0 kind.0) (ltb-false (length left) (29 + number w32 25 left) enough.0))
  where
    made : 29 ≤ length left → (get_or left 0 0 ≡ 0 → ⊥) → 29 + number w32 25 left ≤ length left → ReadRecord left (key_at left, take (number w32 25 left) (drop 29 left))
    made long kind enough =
        let value_length : length (take (number w32 25 left) (drop 29 left)) ≡ number w32 25 left = length_piece 29 (number w32 25 left) left enough in
        record {
          fits = record {
            kind_from_one = omega (arith, kind);
            kind_is_byte = bytes 0;
            key_length = length_piece 1 24 left (omega arith);
            value_length = omega (arith, value_length, small_4 25 left bytes);
          };
          spelled =
              drop_more left 0 0 (omega arith)
              ∙ ap (λ (l : List ℕ). get_or left 0 0 ∷ l)
              (parted 1 24 left
              ∙ ap (λ (l : List ℕ). take 24 (drop 1 left) ++ l)
              (parted 25 4 left
              ∙ ap (λ (l : List ℕ). l ++ drop 29 left) (sym (read_4 25 left bytes (omega arith)) ∙ ap (λ (n : ℕ). to_be_bytes w32 n) (sym value_length))
              ∙ ap (λ (l : List ℕ). to_be_bytes w32 (length (take (number w32 25 left) (drop 29 left))) ++ l)
              (parted 29 (number w32 25 left) left ∙ ap (λ (n : ℕ). take (number w32 25 left) (drop 29 left) ++ drop (29 + n) left) (sym value_length)))
              ∙ sym (ap (λ (l : List ℕ). take 24 (drop 1 left) ++ l) (append_assoc (to_be_bytes w32 (length (take (number w32 25 left) (drop 29 left)))) (take (number w32 25 left) (drop 29 left)) (after_record (key_at left, take (number w32 25 left) (drop 29 left)) left)))
              ∙ sym (append_assoc (take 24 (drop 1 left)) (to_be_bytes w32 (length (take (number w32 25 left) (drop 29 left))) ++ take (number w32 25 left) (drop 29 left)) (after_record (key_at left, take (number w32 25 left) (drop 29 left)) left)));
        }

-- the records after a key
abbrev pub Behind : Option RecordKey → List Record → Type 0
Behind None items = Unit {0}
Behind (Some k) items = IsTrue (below_all key_cmp k items)

keys_total : IsTotalOrder key_cmp
keys_total = on_texts key_text

still_below : (j k : RecordKey) (items : List Record) → IsTrue (is_lt (key_cmp j k)) → IsTrue (below_all key_cmp k items) → IsTrue (below_all key_cmp j items)
still_below j k [] h below = refl
still_below j k (r ∷ items) h below =
    let parts = and_parts (is_lt (key_cmp k r.0)) (below_all key_cmp k items) below in
    and_from (is_lt (key_cmp j r.0)) (below_all key_cmp j items)
    (let P : Ordering → Type 0 = λ o. IsTrue (is_lt o) in subst P (sym (keys_total.trans j k r.0 (is_less (key_cmp j k) h) (is_less (key_cmp k r.0) parts.0))) refl)
    (still_below j k items h parts.1)

behind_comes_after : (previous : Option RecordKey) (r : Record) (items : List Record) → Behind previous (r ∷ items) → comes_after previous r.0 ≡ true
behind_comes_after None r items h = refl
behind_comes_after (Some k) r items h = (and_parts (is_lt (key_cmp k r.0)) (below_all key_cmp k items) h).0

comes_after_behind : (previous : Option RecordKey) (r : Record) (items : List Record) → comes_after previous r.0 ≡ true → IsTrue (below_all key_cmp r.0 items) → Behind previous (r ∷ items)
comes_after_behind None r items e below = tt
comes_after_behind (Some k) r items e below =
    and_from (is_lt (key_cmp k r.0)) (below_all key_cmp k items) e (still_below k r.0 items e below)

-- what is read after one record
abbrev pub reads_on : Option RecordKey → ℕ → List ℕ → Record → Option (List Record)
reads_on previous n left r = cond (comes_after previous r.0) (onto (r ∷ []) (records_of (Some r.0) n (after_record r left))) None

pub one_and_more : (previous : Option RecordKey) (n : ℕ) (left : List ℕ) (r : Record) → record_at left ≡ Some r → records_of previous (suc n) left ≡ reads_on previous n left r
unfolding records_of
one_and_more previous n left r e = ap (λ (o : Option Record). option_and_then (λ q. reads_on previous n left q) o) e

pub no_more : (previous : Option RecordKey) (n : ℕ) (left : List ℕ) → record_at left ≡ None → records_of previous (suc n) left ≡ None
unfolding records_of
no_more previous n left e = ap (λ (o : Option Record). option_and_then (λ q. reads_on previous n left q) o) e

pub none_left : (previous : Option RecordKey) (left : List ℕ) → records_of previous 0 left ≡ Some []
unfolding records_of
none_left previous left = refl

pub records_written : (previous : Option RecordKey) (items : List Record) (rest : List ℕ) → All IsRecord items → IsTrue (is_sorted key_cmp items) → Behind previous items
    → records_of previous (length items) (flat_map spelled_record items ++ rest) ≡ Some items
records_written previous [] rest all sorted behind_it = none_left previous rest
records_written previous (r ∷ items) rest all sorted behind_it =
    let is = All-head IsRecord r items all in
    let parts = and_parts (below_all key_cmp r.0 items) (is_sorted key_cmp items) sorted in
    let split : (spelled_record r ++ flat_map spelled_record items) ++ rest ≡ spelled_record r ++ (flat_map spelled_record items ++ rest) = append_assoc (spelled_record r) (flat_map spelled_record items) rest in
    ap (λ (l : List ℕ). records_of previous (suc (length items)) l) split
    ∙ one_and_more previous (length items) (spelled_record r ++ (flat_map spelled_record items ++ rest)) r (record_written r (flat_map spelled_record items ++ rest) is)
    ∙ cond-true (comes_after previous r.0) _ _ (behind_comes_after previous r items behind_it)
    ∙ ap (λ (l : List ℕ). onto (r ∷ []) (records_of (Some r.0) (length items) l)) (behind r (flat_map spelled_record items ++ rest) is)
    ∙ ap (λ (o : Option (List Record)). onto (r ∷ []) o)
    (records_written (Some r.0) items rest (All-tail IsRecord r items all) parts.1 parts.0)

-- records that were read, with the bytes that they stand on
pub record ReadRecords (previous : Option RecordKey) (n : ℕ) (left : List ℕ) (items : List Record) : Type 0 where
  pub count : length items ≡ n
  pub fit : All IsRecord items
  pub ascending : IsTrue (is_sorted key_cmp items)
  pub behind_it : Behind previous items
  pub spelled : (tail : List ℕ) × (left ≡ flat_map spelled_record items ++ tail)

behind_none : (previous : Option RecordKey) → Behind previous []
behind_none None = tt
behind_none (Some k) = refl

found_one : (previous : Option RecordKey) (n : ℕ) (left : List ℕ) (items : List Record) → records_of previous (suc n) left ≡ Some items → (r : Record) × (record_at left ≡ Some r) × (reads_on previous n left r ≡ Some items)
unfolding records_of
found_one previous n left items e = and_some (λ r. reads_on previous n left r) (record_at left) items e

pub records_read : (previous : Option RecordKey) (n : ℕ) (left : List ℕ) (items : List Record) → AreBytes left → records_of previous n left ≡ Some items → ReadRecords previous n left items
records_read previous zero left items bytes e =
    let P : List Record → Type 0 = λ l. ReadRecords previous 0 left l in
    subst P (same_Some [] items (sym (none_left previous left) ∙ e)) (record { count = refl; fit = All-nil IsRecord; ascending = refl; behind_it = behind_none previous; spelled = (left, refl) })
records_read previous (suc n) left items bytes e =
    let found = found_one previous n left items e in
    let r = found.0 in
    let rest = when (comes_after previous r.0) _ items found.2 in
    let more = map_some (λ l. (r ∷ []) ++ l) (records_of (Some r.0) n (after_record r left)) items rest.1 in
    let one = record_read left r bytes found.1 in
    let others = records_read (Some r.0) n (after_record r left) more.0 (AreBytes_drop (29 + length r.1) left bytes) more.1 in
    let P : List Record → Type 0 = λ l. ReadRecords previous (suc n) left l in
    subst P more.2 (record {
      count = ap (λ (k : ℕ). suc k) others.count;
      fit = All-cons IsRecord r more.0 one.fits others.fit;
      ascending = and_from (below_all key_cmp r.0 more.0) (is_sorted key_cmp more.0) others.behind_it others.ascending;
      behind_it = comes_after_behind previous r more.0 rest.0 others.behind_it;
      spelled = (others.spelled.0, one.spelled ∙ ap (λ (l : List ℕ). spelled_record r ++ l) others.spelled.1 ∙ sym (append_assoc (spelled_record r) (flat_map spelled_record more.0) others.spelled.0));
    })
