-- Laws: records that are charged no more than the pages that there are fit into the bytes of these pages.
use Rattle.std.specs.Prelude.{◌≡◌, ℕ, suc, ◌+◌, ◌-◌, ◌*◌, ◌/◌, ◌%◌, ◌^◌, ◌<◌, ◌≤◌, min, max, List, [], ◌∷◌, length, sum_by, All}
use Rattle.std.proofs.Common.{sym, ◌∙◌, ap, inl, inr, arith}
use Rattle.std.proofs.Math.Nat.{mul-le-mul_left}
use Rattle.std.proofs.lemmas.Bool.{cases_lt}
use Rattle.std.proofs.lemmas.List.Sums.{sum_by-cons}
use Rattle.std.proofs.lemmas.List.Elements.{All-nil, All-cons, All-weaker}
use Rattle.std.proofs.lemmas.Nat.{div-add-mod', div-mul-add, mod_below}
use Rattle.std.proofs.lemmas.Grind.{div_ceil_times}
use Rattle.std.specs.Int.{div_ceil}
use Rattle.kd_records.specs.Contents.{Record}
use Rattle.kd_records.specs.Charge.{IsBlockSize, charge_of, total_charge}
use Rattle.kd_records.specs.Charged.{record_length, ChargedRecordsFit}

pub block_from : (blksize : ℕ) → IsBlockSize blksize → 2048 ≤ blksize
block_from blksize h = elim h [ inl e ↦ omega arith | inr h ↦ elim h [ inl e ↦ omega arith | inr e ↦ omega arith ] ]

pub block_upto : (blksize : ℕ) → IsBlockSize blksize → blksize ≤ 8192
block_upto blksize h = elim h [ inl e ↦ omega arith | inr h ↦ elim h [ inl e ↦ omega arith | inr e ↦ omega arith ] ]

-- ---- one record

-- a quotient that is rounded up, in two ways
ceil_by : (m q r : ℕ) → r < m → q + min 1 r ≡ ((q * m + r) + (m - 1)) / m
ceil_by m q r h =
    elim (cases_lt 0 r) [
      | inl p ↦
          let one : q + min 1 r ≡ q + 1 = omega arith in
          let whole : (q * m + r) + (m - 1) ≡ (q + 1) * m + (r - 1) = omega arith in
          one ∙ sym (ap (λ (x : ℕ). x / m) whole ∙ div-mul-add (q + 1) m (r - 1) (omega arith))
      | inr p ↦
          let none : q + min 1 r ≡ q = omega arith in
          let whole : (q * m + r) + (m - 1) ≡ q * m + (m - 1) = omega arith in
          none ∙ sym (ap (λ (x : ℕ). x / m) whole ∙ div-mul-add q m (m - 1) (omega arith))
    ]

ceil_is : (n m : ℕ) → 0 < m → n / m + min 1 (n % m) ≡ (n + (m - 1)) / m
ceil_is n m h = ceil_by m (n / m) (n % m) (mod_below n m h) ∙ ap (λ (x : ℕ). (x + (m - 1)) / m) (div-add-mod' n m)

pub charge_is : (blksize n : ℕ) → 2048 ≤ blksize → charge_of blksize n ≡ max 1 (div_ceil n (blksize - 48))
charge_is blksize n h =
    let less : blksize - 49 ≡ (blksize - 48) - 1 = omega arith in
    ap (λ (x : ℕ). max 1 ((n + x) / (blksize - 48))) less ∙ ap (λ (x : ℕ). max 1 x) (sym (ceil_is n (blksize - 48) (omega arith)))

covers : (blksize m c d n : ℕ) → blksize ≡ m + 48 → c ≡ max 1 d → n ≤ d * m → 29 + n ≤ c * blksize
covers blksize m c d n e is h =
    let more : d ≤ c = omega arith in
    let some : 1 ≤ c = omega arith in
    omega (arith, ap (λ (x : ℕ). c * x) e, mul-le-mul_left m more)

-- the pages of one record hold its value, its key and the length
pub charge_covers : (blksize n : ℕ) → 2048 ≤ blksize → 29 + n ≤ charge_of blksize n * blksize
charge_covers blksize n h =
    covers blksize (blksize - 48) (charge_of blksize n) (div_ceil n (blksize - 48)) n (omega arith) (charge_is blksize n h)
    (div_ceil_times n (blksize - 48) (omega arith)).0

one_le_max : (n : ℕ) → 1 ≤ max 1 n
one_le_max n = omega arith

pub charge_from_one : (blksize n : ℕ) → 1 ≤ charge_of blksize n
charge_from_one blksize n = one_le_max ((n + (blksize - 49)) / (blksize - 48))

small : (blksize c n : ℕ) → 29 + n ≤ c * blksize → c ≤ 30000 → blksize ≤ 8192 → n < 2 ^ 32
small blksize c n h few upto = omega (arith, mul-le-mul_left blksize few)

-- ---- all records

abbrev charge_at : ℕ → Record → ℕ
charge_at blksize r = charge_of blksize (length r.1)

more_covered : (blksize a b x y c t : ℕ) → a ≡ x + y → b ≡ c + t → x ≤ c * blksize → y ≤ t * blksize → a ≤ b * blksize
more_covered blksize a b x y c t e is h k = omega (arith, ap (λ (z : ℕ). z * blksize) is)

pub records_covered : (blksize : ℕ) (records : List Record) → 2048 ≤ blksize → sum_by record_length records ≤ total_charge blksize records * blksize
records_covered blksize [] h = omega arith
records_covered blksize (r ∷ records) h =
    more_covered blksize (sum_by record_length (r ∷ records)) (total_charge blksize (r ∷ records)) (record_length r) (sum_by record_length records) (charge_at blksize r) (total_charge blksize records)
    (sum_by-cons record_length r records)
    (sum_by-cons (charge_at blksize) r records)
    (charge_covers blksize (length r.1) h)
    (records_covered blksize records h)

all_covered : (blksize pages size charge : ℕ) → size ≤ charge * blksize → charge ≤ pages → 64 + size ≤ 8192 + pages * blksize
all_covered blksize pages size charge h few = omega (arith, mul-le-mul_left blksize few)

pub charged_records_fit : ChargedRecordsFit
charged_records_fit blksize pages records is few =
    all_covered blksize pages (sum_by record_length records) (total_charge blksize records) (records_covered blksize records (block_from blksize is)) few

more_few : (n a c t : ℕ) → a ≡ c + t → 1 ≤ c → n ≤ t → suc n ≤ a
more_few n a c t e h k = omega arith

-- there are no more records than pages that they are charged
pub length_within : (blksize : ℕ) (records : List Record) → length records ≤ total_charge blksize records
length_within blksize [] = omega arith
length_within blksize (r ∷ records) =
    more_few (length records) (total_charge blksize (r ∷ records)) (charge_at blksize r) (total_charge blksize records)
    (sum_by-cons (charge_at blksize) r records)
    (charge_from_one blksize (length r.1))
    (length_within blksize records)

at_most : (a b c t : ℕ) → a ≡ c + t → (b ≤ t → b ≤ a) × (c ≤ a)
at_most a b c t e = (λ h. omega arith, omega arith)

-- no record is charged more than all together
pub each_within : (blksize : ℕ) (records : List Record) → All (λ r. charge_at blksize r ≤ total_charge blksize records) records
each_within blksize [] = All-nil (λ r. charge_at blksize r ≤ total_charge blksize [])
each_within blksize (r ∷ records) =
    let whole = total_charge blksize (r ∷ records) in
    let e : whole ≡ charge_at blksize r + total_charge blksize records = sum_by-cons (charge_at blksize) r records in
    All-cons (λ s. charge_at blksize s ≤ whole) r records
    (at_most whole 0 (charge_at blksize r) (total_charge blksize records) e).1
    (All-weaker (λ s. charge_at blksize s ≤ total_charge blksize records) (λ s. charge_at blksize s ≤ whole)
    (λ s h. (at_most whole (charge_at blksize s) (charge_at blksize r) (total_charge blksize records) e).0 h)
    records (each_within blksize records))

-- so the length of a value has four bytes
pub values_fit : (blksize pages : ℕ) (records : List Record) → IsBlockSize blksize → pages ≤ 30000 → total_charge blksize records ≤ pages
    → All (λ r. length r.1 < 2 ^ 32) records
values_fit blksize pages records is most few =
    let least = block_from blksize is in
    let upto = block_upto blksize is in
    All-weaker (λ r. charge_at blksize r ≤ total_charge blksize records) (λ r. length r.1 < 2 ^ 32)
    (λ r h. small blksize (charge_at blksize r) (length r.1) (charge_covers blksize (length r.1) least) (within (charge_at blksize r) (total_charge blksize records) pages h few most) upto)
    records (each_within blksize records)
  where
    within : (c t pages : ℕ) → c ≤ t → t ≤ pages → pages ≤ 30000 → c ≤ 30000
    within c t pages a b c' = omega arith
