-- Pairs of hexadecimal digits, one after another.
use Rattle.std.proofs.Common.{◌≡◌, ℕ, ◌+◌, ◌*◌, Bool, List, [], ◌∷◌, Option, Some, None, refl, sym, ap, ◌∙◌}
use Rattle.std.specs.Prelude.{is_some, option_and_then, unwrap_or, true}
use Rattle.kd_base.specs.Tools.{onto}
use Rattle.kd_base.specs.ToolsLaws.{is_some_map, map_some}
use Rattle.texts.specs.Firsts.{first_of}
use Rattle.texts.specs.FirstsLaws.{first_is}
use Rattle.texts.specs.QuotedValues.{hex_digit, hex_bytes, byte_of, hex_pair}

-- the two digits at the front
pub pair_at : (digits behind rest : List ℕ) (high low : ℕ) → Some (high, behind) ≡ first_of digits → Some (low, rest) ≡ first_of behind → digits ≡ high ∷ low ∷ rest
pair_at digits behind rest high low h k = first_is digits behind high h ∙ ap (λ (xs : List ℕ). high ∷ xs) (first_is behind rest low k)

-- pairs of digits are a byte and the bytes behind it
pairs_are : (h l : ℕ) (rest : List ℕ) → hex_bytes (h ∷ l ∷ rest) ≡ option_and_then (λ (byte : ℕ). onto (byte ∷ []) (hex_bytes rest)) (byte_of (hex_digit h) (hex_digit l))
pairs_are h l rest = by (hex_digit h) (hex_digit l)
  where
    by : (a b : Option ℕ) → option_and_then (λ (high : ℕ). option_and_then (λ (low : ℕ). onto ((16 * high + low) ∷ []) (hex_bytes rest)) b) a ≡ option_and_then (λ (byte : ℕ). onto (byte ∷ []) (hex_bytes rest)) (byte_of a b)
    by None b = refl
    by (Some high) None = refl
    by (Some high) (Some low) = refl

-- where a pair is at the front, the digits are pairs as far as those behind it are
pub pair_more : (digits : List ℕ) (byte : ℕ) (rest : List ℕ) → hex_pair digits ≡ Some (byte, rest) → hex_bytes digits ≡ onto (byte ∷ []) (hex_bytes rest)
pair_more [] byte rest h = absurd cc
pair_more (x ∷ []) byte rest h = absurd cc
pair_more (x ∷ y ∷ more) byte rest h =
    let m = map_some (λ (b : ℕ). let p : ℕ × List ℕ = (b, more) in p) (byte_of (hex_digit x) (hex_digit y)) (byte, rest) h in
    pairs_are x y more ∙ rw m.1 (ap (λ (p : ℕ × List ℕ). onto (p.0 ∷ []) (hex_bytes p.1)) m.2)

-- whether they are, further on
pub pairs_on : (digits rest : List ℕ) (byte : ℕ) (all : Bool) → Some (byte, rest) ≡ hex_pair digits → is_some (hex_bytes digits) ≡ all → is_some (hex_bytes rest) ≡ all
pairs_on digits rest byte all h is =
    sym (is_some_map (λ (bytes : List ℕ). byte ∷ bytes) (hex_bytes rest)) ∙ sym (ap (λ (o : Option (List ℕ)). is_some o) (pair_more digits byte rest (sym h))) ∙ is

-- the first of the bytes that are meant
pub byte_first : (digits rest : List ℕ) (byte : ℕ) → Some (byte, rest) ≡ hex_pair digits → is_some (hex_bytes digits) ≡ true → Some (byte, unwrap_or (hex_bytes rest) []) ≡ first_of (unwrap_or (hex_bytes digits) [])
byte_first digits rest byte h is = rw (pair_more digits byte rest (sym h)) (by (hex_bytes rest) (pairs_on digits rest byte true h is))
  where
    by : (o : Option (List ℕ)) → is_some o ≡ true → Some (byte, unwrap_or o []) ≡ first_of (unwrap_or (onto (byte ∷ []) o) [])
    by None k = absurd cc
    by (Some bytes) k = refl
