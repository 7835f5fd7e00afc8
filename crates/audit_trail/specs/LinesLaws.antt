-- Laws: each line is read as it was written.
use Rattle.std.specs.Prelude.{◌≡◌, refl, ℕ, ◌^◌, ◌<◌, IsTrue, List, [], ◌∷◌, length, codes, decimal, Some, option_and_then}
use Rattle.std.proofs.Common.{ap, ◌∙◌, arith}
use Rattle.std.specs.Option.{option_map}
use Rattle.hex.specs.Hex.{encode_lower}
use Rattle.kd_base.specs.Text.{IsName, decimal_of}
use Rattle.kd_records.specs.declared.key.RecordKey.{RecordKey}
use Rattle.kdcs_types.specs.declared.act.Change.TheVariants.{Set, Remove}
use Rattle.kdcs_types.specs.declared.act.Row.{Row}
use Rattle.kdcs_types.specs.declared.key.Key.{Key}
use Rattle.kdcs_types.specs.declared.key.Key.TheVariants as key
use Rattle.kdcs_types.specs.declared.service.Settled.{Settled}
use Rattle.kdcs_types.specs.Keys.{key_kind}
use Rattle.kdcs_types.specs.Tables.{row_key, row_fits}
use Rattle.record_codec.specs.Fields.{AreBytes}
use Rattle.record_codec.specs.Order.{IsProperKey}
use Rattle.record_codec.specs.RowReadings.{IsProperRow, key_read, row_read}
use Rattle.record_codec.specs.RowReadingsLaws.{key_back, row_back}
use Rattle.record_codec.specs.Values.{record_key, value_bytes}
use Rattle.audit_trail.specs.declared.entry.By.TheVariants as made
use Rattle.audit_trail.specs.declared.line.Line.{Line}
use Rattle.audit_trail.specs.declared.line.Line.TheVariants as says
use Rattle.audit_trail.specs.Facts.{IsKeptRecord}
use Rattle.audit_trail.specs.Kept.{kept_bytes}
use Rattle.audit_trail.specs.KeptLaws.{cells, cells_fit, key_bytes_are, kept_back}
use Rattle.audit_trail.specs.KeptReadings.{kept_read}
use Rattle.audit_trail.specs.Lines.{so_many_bytes, value_of, two_numbers, kind_by, kind_of, with_bytes, record_key_of, begun, started, committed, ticked, shown, settled, set, removed, said_by}
use Rattle.audit_trail.specs.Lines.{line_in}
use Rattle.audit_trail.specs.Printed.{value_word}
use Rattle.audit_trail.specs.RoundTrip.{HasFewDigits}
use Rattle.audit_trail.specs.WordsLaws.{AreBlack, AreWords, bare, words_of_line, decimal_black, decimal_back, name_word, encoded_black, bytes_back, so_many_back, value_back, value_black}
use Rattle.audit_trail.specs.Written.{HasShortParts}

-- this keyword and these words are a line that says this
pub record Spells (keyword : List ℕ) (rest : List (List ℕ)) (l : Line) : Type 0 where
  pub keyword_black : AreBlack keyword
  pub rest_black : AreWords rest
  pub says : line_in (bare keyword rest) ≡ Some l

spelled : (keyword : List ℕ) (rest : List (List ℕ)) (l : Line) → AreBlack keyword → AreWords rest → said_by (keyword ∷ rest) ≡ Some l → Spells keyword rest l
spelled keyword rest l h hs e = record { keyword_black = h; rest_black = hs; says = ap said_by (words_of_line keyword rest h hs) ∙ e }

-- ---- numbers, names, and what was kept

numbers_back : (clock next : ℕ) → HasFewDigits clock → HasFewDigits next → two_numbers (decimal clock, decimal next) ≡ Some (clock, next)
numbers_back clock next h k =
    ap (option_and_then (λ (c : ℕ). option_map (λ (n : ℕ). (c, n)) (decimal_of (decimal next)))) (decimal_back clock h)
    ∙ ap (option_map (λ (n : ℕ). (clock, n))) (decimal_back next k)

pub trail_back : (fingerprint : List ℕ) → length fingerprint ≡ 32 → AreBytes fingerprint → Spells (codes "TRAIL") (encode_lower fingerprint ∷ []) (says.Trail fingerprint)
trail_back fingerprint len are =
    spelled (codes "TRAIL") (encode_lower fingerprint ∷ []) (says.Trail fingerprint) (omega arith, (omega arith, (omega arith, (omega arith, (omega arith, tt))))) (encoded_black fingerprint are, tt)
    (ap (option_map begun) (so_many_back 32 fingerprint len are))

pub start_back : (clock next : ℕ) → HasFewDigits clock → HasFewDigits next → Spells (codes "START") (decimal clock ∷ decimal next ∷ []) (says.Start clock next)
start_back clock next h k =
    spelled (codes "START") (decimal clock ∷ decimal next ∷ []) (says.Start clock next) (omega arith, (omega arith, (omega arith, (omega arith, (omega arith, tt))))) (decimal_black clock h, (decimal_black next k, tt))
    (ap (option_map started) (numbers_back clock next h k))

pub commit_back : (clock next : ℕ) → HasFewDigits clock → HasFewDigits next → Spells (codes "C") (decimal clock ∷ decimal next ∷ []) (says.Commit clock next)
commit_back clock next h k =
    spelled (codes "C") (decimal clock ∷ decimal next ∷ []) (says.Commit clock next) (omega arith, tt) (decimal_black clock h, (decimal_black next k, tt))
    (ap (option_map committed) (numbers_back clock next h k))

pub tick_back : (ticks : ℕ) → HasFewDigits ticks → Spells (codes "N") (decimal ticks ∷ []) (says.Made (made.Tick ticks))
tick_back ticks h = spelled (codes "N") (decimal ticks ∷ []) (says.Made (made.Tick ticks)) (omega arith, tt) (decimal_black ticks h, tt) (ap (option_map ticked) (decimal_back ticks h))

pub shown_back : (lterm : List ℕ) → IsName lterm → Spells (codes "O") (lterm ∷ []) (says.Made (made.Shown lterm))
shown_back lterm h = spelled (codes "O") (lterm ∷ []) (says.Made (made.Shown lterm)) (omega arith, tt) ((name_word lterm h).0, tt) (ap (option_map shown) (name_word lterm h).1)

pub settled_back : (kept : Settled) → IsKeptRecord kept → HasShortParts kept → AreBytes (kept_bytes kept) → length (kept_bytes kept) < 2 ^ 64 → Spells (codes "T") (encode_lower (kept_bytes kept) ∷ []) (says.Made (made.Transaction kept))
settled_back kept is short are long =
    spelled (codes "T") (encode_lower (kept_bytes kept) ∷ []) (says.Made (made.Transaction kept)) (omega arith, tt) (encoded_black (kept_bytes kept) are, tt)
    (ap (option_map settled) (ap (option_and_then kept_read) (bytes_back (kept_bytes kept) are) ∙ kept_back kept is short long))

pub end_back : Spells (codes "END") [] says.End
end_back = spelled (codes "END") [] says.End (omega arith, (omega arith, (omega arith, tt))) tt refl

-- ---- records

few_kinds : (k : Key) → HasFewDigits (key_kind k)
few_kinds (key.Gssb name) = omega arith
few_kinds (key.Tls block lterm) = omega arith
few_kinds (key.Uls block user) = omega arith
few_kinds (key.Service id) = omega arith
few_kinds (key.Job number) = omega arith
few_kinds (key.Shown lterm) = omega arith

kind_is : (k : Key) → kind_by (key_kind k) ≡ Some (key_kind k)
kind_is (key.Gssb name) = refl
kind_is (key.Tls block lterm) = refl
kind_is (key.Uls block user) = refl
kind_is (key.Service id) = refl
kind_is (key.Job number) = refl
kind_is (key.Shown lterm) = refl

kind_back : (k : Key) → kind_of (decimal (key_kind k)) ≡ Some (key_kind k)
kind_back k = ap (option_and_then kind_by) (decimal_back (key_kind k) (few_kinds k)) ∙ kind_is k

record_key_back : (k : Key) → IsProperKey k → record_key_of (decimal (key_kind k), encode_lower (cells k)) ≡ Some (record_key k)
record_key_back k h =
    ap (option_and_then (λ (kind : ℕ). option_map (with_bytes kind) (so_many_bytes 24 (encode_lower (cells k))))) (kind_back k)
    ∙ ap (option_map (with_bytes (key_kind k))) (so_many_back 24 (cells k) (cells_fit k h).0 (key_bytes_are k h))

pub removed_back : (k : Key) → IsProperKey k → Spells (codes "D") (decimal (key_kind k) ∷ encode_lower (cells k) ∷ []) (says.Change (Remove k))
removed_back k h =
    spelled (codes "D") (decimal (key_kind k) ∷ encode_lower (cells k) ∷ []) (says.Change (Remove k)) (omega arith, tt) (decimal_black (key_kind k) (few_kinds k), (encoded_black (cells k) (key_bytes_are k h), tt))
    (ap (option_map removed) (ap (option_and_then key_read) (record_key_back k h) ∙ key_back k h))

pub set_back : (r : Row) → IsProperRow r → IsTrue (row_fits r) → AreBytes (value_bytes r) → Spells (codes "S") (decimal (key_kind (row_key r)) ∷ encode_lower (cells (row_key r)) ∷ value_word (value_bytes r) ∷ []) (says.Change (Set r))
set_back r h fits are =
    let k = row_key r in
    spelled (codes "S") (decimal (key_kind k) ∷ encode_lower (cells k) ∷ value_word (value_bytes r) ∷ []) (says.Change (Set r)) (omega arith, tt)
    (decimal_black (key_kind k) (few_kinds k), (encoded_black (cells k) (key_bytes_are k h.key), (value_black (value_bytes r) are, tt)))
    (ap (option_map set) (
    ap (option_and_then (λ (q : RecordKey). option_and_then (λ (value : List ℕ). row_read (q, value)) (value_of (value_word (value_bytes r))))) (record_key_back k h.key)
    ∙ ap (option_and_then (λ (value : List ℕ). row_read (record_key k, value))) (value_back (value_bytes r) are)
    ∙ row_back r h fits))
