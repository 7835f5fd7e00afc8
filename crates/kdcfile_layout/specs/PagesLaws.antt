-- Pages that are written, and what is in the others.
use Rattle.std.proofs.Common.{length-take, [], ◌≡◌, ◌⊎◌, inl, inr, ⊎_elim, ℕ, zero, suc, ◌+◌, ◌-◌, ◌*◌, ◌≤◌, Bool, true, false, List, ◌∷◌, ◌++◌, length, take, drop, Some, refl, ap, sym, ◌∙◌, arith, leb-true, length-append}
use Rattle.std.specs.Prelude.{All, nat_le}
use Rattle.std.proofs.Math.Nat.{mul-le-mul_left}
use Rattle.std.proofs.lemmas.Bool.{cases_lt}
use Rattle.std.proofs.lemmas.List.{length-replicate, take_at, take-take}
use Rattle.std.proofs.lemmas.Grind.{common_steps}
use Rattle.std.proofs.lemmas.List.Elements.{All-weaker, All-nil, All-cons, All-head, All-tail}
use Rattle.kd_records.specs.declared.key.RecordKey.{RecordKey}
use Rattle.kd_device.specs.Device.{written}
use Rattle.kdcfile_layout.specs.Layout.{first_of_pages, chain_parts, chain_head, StandsAt, Part, PartStands, page_place, zeros}
use Rattle.kdcfile_layout.specs.WrittenLaws.{written_stands, below_write, above_write}
use Rattle.kdcfile_layout.specs.Writes.{written_all}
use Rattle.kdcfile_layout.specs.Places.{At, IsDistinct}
use Rattle.kdcfile_layout.specs.PlacesLaws.{distinct_tail, distinct_head}
use Rattle.kdcfile_layout.specs.Pages.{padded, write_where, part_write, part_writes, Fits, pages_of}
use Rattle.kd_device.specs.TornLaws.{length_written}

pub length_zeros : (n : ℕ) → length (zeros n) ≡ n
unfolding zeros
length_zeros n = length-replicate n 0

pub length_padded : (size : ℕ) (text : List ℕ) → length text ≤ size → length (padded size text) ≡ size
length_padded size text le = omega (arith, length-append text (zeros (size - length text)), length_zeros (size - length text))

-- two pages have no byte in common
pub pages_apart : (b p q : ℕ) → (p ≡ q → ⊥) → (p * b + b ≤ q * b) ⊎ (q * b + b ≤ p * b)
pages_apart b p q apart =
    ⊎_elim
    (λ lt. let le : suc p ≤ q = omega (arith, lt) in inl (omega (arith, mul-le-mul_left b le)))
    (λ ge. let le : suc q ≤ p = omega (arith, ge, apart) in inr (omega (arith, mul-le-mul_left b le)))
    (cases_lt p q)

module _ (size : ℕ) (h : List ℕ) (p : ℕ) (bytes : List ℕ) (whole : length bytes ≤ size) where
  -- a page that is written leaves the others
  pub other_page : (part : Part) → (p ≡ part.0 → ⊥) → PartStands size h part → PartStands size (written h (page_place size p) bytes) part
  other_page part apart stands = record {
    stands =
        ⊎_elim
        (λ first. above_write h (page_place size p) bytes (page_place size part.0) part.1 stands.stands (omega (arith, whole, first)))
        (λ last. below_write h (page_place size p) bytes (page_place size part.0) part.1 stands.stands (omega (arith, stands.fits, last)) (omega (arith, stands.fits, stands.inside)))
        (pages_apart size p part.0 apart);
    fits = stands.fits;
    inside = omega (arith, stands.inside, length_written h (page_place size p) bytes);
  }

-- the front of what is there
pub front_stands : (at : ℕ) (front rest h : List ℕ) → StandsAt at (front ++ rest) h → StandsAt at front h
front_stands at front rest h stands =
    sym (take-take (length front) (length (front ++ rest)) (drop at h) (omega (arith, length-append front rest)))
    ∙ ap (λ (l : List ℕ). take (length front) l) stands
    ∙ take_at front rest (length front) refl

-- a page that is written is there
pub this_page : (size : ℕ) (h : List ℕ) (part : Part) → Fits size part → PartStands size (written h (page_place size part.0) (padded size part.1)) part
this_page size h part fits = record {
  stands = front_stands (page_place size part.0) part.1 (zeros (size - length part.1)) (written h (page_place size part.0) (padded size part.1)) (written_stands h (page_place size part.0) (padded size part.1));
  fits = fits;
  inside = omega (arith, length_written h (page_place size part.0) (padded size part.1), length_padded size part.1 fits);
}

-- the same of a page of which its front alone is written, where the file has it
module _ (size : ℕ) (part : Part) (fits : Fits size part) where
  length_of : (there : Bool) → length (write_where size part there).bytes ≤ size
  length_of true = fits
  length_of false = omega (arith, length_padded size part.1 fits)

  pub length_part : (long : ℕ) → length (part_write size long part).bytes ≤ size
  length_part long = length_of (nat_le (page_place size part.0 + size) long)

  pub this_part : (long : ℕ) (h : List ℕ) → long ≤ length h → PartStands size (written h (page_place size part.0) (part_write size long part).bytes) part
  this_part long h le = by (nat_le (page_place size part.0 + size) long) (λ is. omega (arith, leb-true (page_place size part.0 + size) long is, le))
    where
      by : (there : Bool) → (there ≡ true → page_place size part.0 + size ≤ length h) → PartStands size (written h (page_place size part.0) (write_where size part there).bytes) part
      by true inside = record {
        stands = written_stands h (page_place size part.0) part.1;
        fits = fits;
        inside = omega (arith, inside refl, length_written h (page_place size part.0) part.1);
      }
      by false inside = this_page size h part fits

pub other_parts : (size long : ℕ) (parts : List Part) (h : List ℕ) (part : Part) → All (Fits size) parts → ((a : ℕ) → At (pages_of parts) a part.0 → ⊥) → PartStands size h part → PartStands size (written_all h (part_writes size long parts)) part
other_parts size long [] h part fit apart stands = stands
other_parts size long (p ∷ parts) h part fit apart stands =
    let fits = All-head (Fits size) p parts fit in
    other_parts size long parts (written h (page_place size p.0) (part_write size long p).bytes) part (All-tail (Fits size) p parts fit) (λ a at. apart (suc a) at)
    (other_page size h p.0 (part_write size long p).bytes (length_part size p fits long) part (λ e. apart zero (ap (λ (m : ℕ). Some m) e)) stands)

-- parts that are written on pages, all of them apart, stand
pub these_parts : (size long : ℕ) (parts : List Part) (h : List ℕ) → long ≤ length h → All (Fits size) parts → IsDistinct (pages_of parts) → All (PartStands size (written_all h (part_writes size long parts))) parts
these_parts size long [] h le fit distinct = All-nil (PartStands size h)
these_parts size long (p ∷ parts) h le fit distinct =
    let bytes = (part_write size long p).bytes in
    let h1 = written h (page_place size p.0) bytes in
    let fits = All-head (Fits size) p parts fit in
    let rest = All-tail (Fits size) p parts fit in
    All-cons (PartStands size (written_all h (part_writes size long (p ∷ parts)))) p parts
    (other_parts size long parts h1 p rest (distinct_head p.0 (pages_of parts) distinct) (this_part size p fits long h le))
    (these_parts size long parts h1 (omega (arith, le, length_written h (page_place size p.0) bytes)) rest (distinct_tail p.0 (pages_of parts) distinct))

-- ---- the texts of a record's pages

-- the pages of a chain's parts are the chain's
pub pages_of_chain : (m : ℕ) (k : RecordKey) (n part : ℕ) (left pages : List ℕ) → pages_of (chain_parts m k n part left pages) ≡ pages
pages_of_chain m k n part left [] = refl
pages_of_chain m k n part left (p ∷ pages) = ap (λ (l : List ℕ). p ∷ l) (pages_of_chain m k n (part + 1) (drop m left) pages)

pub parts_named : (m : ℕ) (k : RecordKey) (n part : ℕ) (left pages : List ℕ) → All (λ (q : Part). (a : ℕ) × At pages a q.0) (chain_parts m k n part left pages)
parts_named m k n part left [] = All-nil (λ (q : Part). (a : ℕ) × At [] a q.0)
parts_named m k n part left (p ∷ pages) =
    All-cons (λ (q : Part). (a : ℕ) × At (p ∷ pages) a q.0) (p, chain_head k n part (first_of_pages pages) ++ take m left) (chain_parts m k n (part + 1) (drop m left) pages)
    (zero, refl)
    (All-weaker (λ (q : Part). (a : ℕ) × At pages a q.0) (λ (q : Part). (a : ℕ) × At (p ∷ pages) a q.0) (λ q h. (suc h.0, h.1)) (chain_parts m k n (part + 1) (drop m left) pages) (parts_named m k n (part + 1) (drop m left) pages))

pub length_chain_head : (k : RecordKey) (n part next : ℕ) → length k.bytes ≡ 24 → length (chain_head k n part next) ≡ 48
unfolding chain_head
length_chain_head k n part next is =
    let tail : length (zeros 11) ≡ 11 = length_zeros 11 in
    grind (arith, common_steps)

pub chain_fits : (size : ℕ) (m : ℕ) (k : RecordKey) (n part : ℕ) (left pages : List ℕ) → length k.bytes ≡ 24 → m + 48 ≡ size → All (Fits size) (chain_parts m k n part left pages)
chain_fits size m k n part left [] is room = All-nil (Fits size)
chain_fits size m k n part left (p ∷ pages) is room =
    All-cons (Fits size) (p, chain_head k n part (first_of_pages pages) ++ take m left) (chain_parts m k n (part + 1) (drop m left) pages)
    (omega (arith, length-append (chain_head k n part (first_of_pages pages)) (take m left), length_chain_head k n part (first_of_pages pages) is, length-take m left, room))
    (chain_fits size m k n (part + 1) (drop m left) pages is room)
