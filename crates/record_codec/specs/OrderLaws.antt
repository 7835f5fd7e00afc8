-- Laws: the keys of records are ordered as the keys of rows are.
use Rattle.std.specs.Prelude.{◌≡◌, refl, ℕ, zero, suc, ◌+◌, ◌-◌, ◌*◌, ◌^◌, ◌<◌, ◌≤◌, Bool, true, false, ◌==◌, ◌⊎◌, nat_lt, IsTrue, List, [], ◌∷◌, ◌++◌, length, replicate}
use Rattle.std.proofs.Common.{arith, sym, ap, subst, ◌∙◌, inl, inr, length-append, true≢false}
use Rattle.std.proofs.Math.Nat.{mul-le-mul_right, pow-suc}
use Rattle.std.proofs.lemmas.Nat.{from_be_bytes-to_be_bytes_8, mod_below}
use Rattle.std.proofs.lemmas.Bool.{cases_lt, eqb-true}
use Rattle.std.proofs.lemmas.Bool.Decides.{nat_tests}
use Rattle.std.specs.Cmp.Lexicographic.{slice_cmp}
use Rattle.std.specs.Int.{w64, from_be_bytes, to_be_bytes}
use Rattle.std.specs.List.{list_all, AllByRecursion as Each}
use Rattle.std.specs.Ordering.{nat_cmp, ordering_then}
use Rattle.std.specs.declared.cmp.Ordering.{Ordering}
use Rattle.std.specs.declared.cmp.Ordering.TheVariants.{Less, Equal, Greater}
use Rattle.kd_base.specs.Text.{IsName, is_name_byte, padded}
use Rattle.kd_base.specs.ToolsLaws.{both_true}
use Rattle.kd_records.specs.Keys.{key_cmp as record_cmp}
use Rattle.kdcs_types.specs.declared.key.Key.{Key}
use Rattle.kdcs_types.specs.declared.key.Key.TheVariants as key
use Rattle.kdcs_types.specs.declared.key.ServiceId.TheVariants.{Dialogue, Asynchronous}
use Rattle.kdcs_types.specs.Keys.{key_kind, key_cmp, texts_behind, texts_cmp}
use Rattle.record_codec.specs.Values.{filled, key_bytes, record_key}
use Rattle.record_codec.specs.Order.{IsProperKey, KeysKeepTheirOrder}
use Rattle.kd_base.specs.RoundTripsLaws.{padded_len}
use Rattle.kd_base.specs.OrderLaws.{greater_is}

abbrev bytes_cmp : List ℕ → List ℕ → Ordering
bytes_cmp = slice_cmp nat_cmp

-- ---- numbers

less_is : (m n : ℕ) → m < n → nat_cmp m n ≡ Less
less_is m n h = let t : nat_lt m n ≡ true = grind (arith, nat_tests) in rw t refl

equal_is : (n : ℕ) → nat_cmp n n ≡ Equal
equal_is n =
    let t : nat_lt n n ≡ false = grind (arith, nat_tests) in
    let e : (n == n) ≡ true = grind (arith, nat_tests) in
    rw (t, e) refl

-- ---- lists of one length, one after the other

then_then : (a b c : Ordering) → ordering_then (ordering_then a b) c ≡ ordering_then a (ordering_then b c)
then_then Less b c = refl
then_then Equal b c = refl
then_then Greater b c = refl

pub then_equal : (a : Ordering) → ordering_then a Equal ≡ a
then_equal Less = refl
then_equal Equal = refl
then_equal Greater = refl

pub joined_cmp : (a b c d : List ℕ) → length a ≡ length b → bytes_cmp (a ++ c) (b ++ d) ≡ ordering_then (bytes_cmp a b) (bytes_cmp c d)
joined_cmp [] [] c d e = refl
joined_cmp [] (y ∷ ys) c d e = absurd (omega (arith, e))
joined_cmp (x ∷ xs) [] c d e = absurd (omega (arith, e))
joined_cmp (x ∷ xs) (y ∷ ys) c d e =
    ap (ordering_then (nat_cmp x y)) (joined_cmp xs ys c d (omega (arith, e))) ∙ sym (then_then (nat_cmp x y) (bytes_cmp xs ys) (bytes_cmp c d))

pub same_cmp : (a : List ℕ) → bytes_cmp a a ≡ Equal
same_cmp [] = refl
same_cmp (x ∷ xs) = ap (λ o. ordering_then o (bytes_cmp xs xs)) (equal_is x) ∙ same_cmp xs

-- ---- the number that bytes say, the highest first

abbrev number : List ℕ → ℕ
number [] = 0
number (x ∷ xs) = x * 256 ^ length xs + number xs

abbrev AreBytes : List ℕ → Type 0
AreBytes xs = Each (λ (x : ℕ). x < 256) xs

distribute : (x p : ℕ) → (x + 1) * p ≡ x * p + p
distribute x p = omega arith

higher : (x p a q : ℕ) → x < 256 → a < p → q ≡ p * 256 → x * p + a < q
higher x p a q h k e =
    let m : (x + 1) * p ≤ 256 * p = mul-le-mul_right p (omega arith) in
    omega (arith, m, e, distribute x p)

number_below : (xs : List ℕ) → AreBytes xs → number xs < 256 ^ length xs
number_below [] h = omega arith
number_below (x ∷ xs) h = higher x (256 ^ length xs) (number xs) _ h.0 (number_below xs h.1) (pow-suc 256 (length xs))

-- a greater first byte makes a greater number
ahead : (x y p a b : ℕ) → x < y → a < p → x * p + a < y * p + b
ahead x y p a b h k =
    let m : (x + 1) * p ≤ y * p = mul-le-mul_right p (omega arith) in
    omega (arith, m, distribute x p)

behind_same : (c a b : ℕ) → nat_cmp (c + a) (c + b) ≡ nat_cmp a b
behind_same c a b =
    elim (cases_lt a b) [
      | inl h ↦ less_is (c + a) (c + b) (omega arith) ∙ sym (less_is a b h)
      | inr h ↦ elim (cases_lt b a) [
        | inl k ↦ greater_is (c + a) (c + b) (omega arith) ∙ sym (greater_is a b k)
        | inr k ↦ let e : a ≡ b = omega arith in rw e (equal_is (c + b) ∙ sym (equal_is b))
      ]
    ]

first_decides : (x y p a b : ℕ) → a < p → b < p → ordering_then (nat_cmp x y) (nat_cmp a b) ≡ nat_cmp (x * p + a) (y * p + b)
first_decides x y p a b ha hb =
    elim (cases_lt x y) [
      | inl h ↦ ap (λ o. ordering_then o (nat_cmp a b)) (less_is x y h) ∙ sym (less_is (x * p + a) (y * p + b) (ahead x y p a b h ha))
      | inr h ↦ elim (cases_lt y x) [
        | inl k ↦ ap (λ o. ordering_then o (nat_cmp a b)) (greater_is x y k) ∙ sym (greater_is (x * p + a) (y * p + b) (ahead y x p b a k hb))
        | inr k ↦ let e : x ≡ y = omega arith in rw e (ap (λ o. ordering_then o (nat_cmp a b)) (equal_is y) ∙ sym (behind_same (y * p) a b))
      ]
    ]

-- bytes of one length are ordered as the numbers that they say
number_cmp : (xs ys : List ℕ) → AreBytes xs → AreBytes ys → length xs ≡ length ys → bytes_cmp xs ys ≡ nat_cmp (number xs) (number ys)
number_cmp [] [] h k e = refl
number_cmp [] (y ∷ ys) h k e = absurd (omega (arith, e))
number_cmp (x ∷ xs) [] h k e = absurd (omega (arith, e))
number_cmp (x ∷ xs) (y ∷ ys) h k e =
    let same : length xs ≡ length ys = omega (arith, e) in
    ap (ordering_then (nat_cmp x y)) (number_cmp xs ys h.1 k.1 same)
    ∙ first_decides x y (256 ^ length ys) (number xs) (number ys) (subst (λ n. number xs < 256 ^ n) same (number_below xs h.1)) (number_below ys k.1)
    ∙ ap (λ n. nat_cmp (x * 256 ^ n + number xs) (number (y ∷ ys))) (sym same)

eight_bytes : (n : ℕ) → AreBytes (to_be_bytes w64 n)
eight_bytes n = (mod_below _ 256 (omega arith), (mod_below _ 256 (omega arith), (mod_below _ 256 (omega arith), (mod_below _ 256 (omega arith), (mod_below _ 256 (omega arith), (mod_below _ 256 (omega arith), (mod_below _ 256 (omega arith), (mod_below _ 256 (omega arith), tt))))))))

said : (a b c d e f g h : ℕ) → number (a ∷ b ∷ c ∷ d ∷ e ∷ f ∷ g ∷ h ∷ []) ≡ from_be_bytes w64 (a ∷ b ∷ c ∷ d ∷ e ∷ f ∷ g ∷ h ∷ [])
said a b c d e f g h = omega arith

number_back : (n : ℕ) → n < 2 ^ 64 → number (to_be_bytes w64 n) ≡ n
number_back n h = said _ _ _ _ _ _ _ _ ∙ from_be_bytes-to_be_bytes_8 n h

pub number_order : (m n : ℕ) → m < 2 ^ 64 → n < 2 ^ 64 → bytes_cmp (to_be_bytes w64 m) (to_be_bytes w64 n) ≡ nat_cmp m n
number_order m n h k =
    number_cmp (to_be_bytes w64 m) (to_be_bytes w64 n) (eight_bytes m) (eight_bytes n) refl
    ∙ ap (λ x. nat_cmp x (number (to_be_bytes w64 n))) (number_back m h)
    ∙ ap (nat_cmp m) (number_back n k)

-- ---- names

-- each byte of a name is greater than the space that fills it
abbrev AreFilled : List ℕ → Type 0
AreFilled xs = Each (λ (x : ℕ). 32 < x) xs

name_byte : (b : ℕ) → IsTrue (is_name_byte b) → 32 < b
name_byte b h =
    elim (cases_lt 32 b) [
      | inl lt ↦ lt
      | inr low ↦ absurd (true≢false (sym h ∙ not_name b low))
    ]
  where
    not_name : (b : ℕ) → b ≤ 32 → is_name_byte b ≡ false
    not_name b low = grind (arith, nat_tests)

name_filled : (xs : List ℕ) → IsTrue (list_all is_name_byte xs) → AreFilled xs
name_filled [] h = tt
name_filled (x ∷ xs) h = let parts = both_true (is_name_byte x) (list_all is_name_byte xs) h in (name_byte x parts.0, name_filled xs parts.1)

filled_cmp : (n : ℕ) (xs ys : List ℕ) → length xs ≤ n → length ys ≤ n → AreFilled xs → AreFilled ys → bytes_cmp (xs ++ replicate (n - length xs) 32) (ys ++ replicate (n - length ys) 32) ≡ bytes_cmp xs ys
filled_cmp n [] [] h k f g = same_cmp (replicate (n - 0) 32)
filled_cmp zero [] (y ∷ ys) h k f g = absurd (omega (arith, k))
filled_cmp (suc n) [] (y ∷ ys) h k f g =
    let e : suc n - 0 ≡ suc n = omega arith in
    rw e (ap (λ o. ordering_then o (bytes_cmp (replicate n 32) (ys ++ replicate (suc n - suc (length ys)) 32))) (less_is 32 y g.0))
filled_cmp zero (x ∷ xs) ys h k f g = absurd (omega (arith, h))
filled_cmp (suc n) (x ∷ xs) [] h k f g =
    let e : suc n - 0 ≡ suc n = omega arith in
    rw e (ap (λ o. ordering_then o (bytes_cmp (xs ++ replicate (suc n - suc (length xs)) 32) (replicate n 32))) (greater_is x 32 f.0))
filled_cmp (suc n) (x ∷ xs) (y ∷ ys) h k f g =
    let ex : suc n - suc (length xs) ≡ n - length xs = omega arith in
    let ey : suc n - suc (length ys) ≡ n - length ys = omega arith in
    rw (ex, ey) (ap (ordering_then (nat_cmp x y)) (filled_cmp n xs ys (omega (arith, h)) (omega (arith, k)) f.1 g.1))

pub name_order : (a b : List ℕ) → IsName a → IsName b → bytes_cmp (padded a) (padded b) ≡ bytes_cmp a b
name_order a b h k = filled_cmp 8 a b h.1 k.1 (name_filled a h.2) (name_filled b k.2)

-- ---- keys

-- the bytes of keys of one kind are as many, and ordered as their texts are
record SameOrder (a b : Key) : Type 0 where
  long : length (key_bytes a) ≡ length (key_bytes b)
  order : bytes_cmp (key_bytes a) (key_bytes b) ≡ texts_cmp (texts_behind a) (texts_behind b)

two_names : (a b c d : List ℕ) → IsName a → IsName b → IsName c → IsName d → bytes_cmp (padded a ++ padded c) (padded b ++ padded d) ≡ texts_cmp (a ∷ c ∷ []) (b ∷ d ∷ [])
two_names a b c d ha hb hc hd =
    joined_cmp (padded a) (padded b) (padded c) (padded d) (padded_len a ha ∙ sym (padded_len b hb))
    ∙ ap (λ o. ordering_then o (bytes_cmp (padded c) (padded d))) (name_order a b ha hb)
    ∙ ap (ordering_then (bytes_cmp a b)) (name_order c d hc hd ∙ sym (then_equal (bytes_cmp c d)))

two_long : (a b c d : List ℕ) → IsName a → IsName b → IsName c → IsName d → length (padded a ++ padded c) ≡ length (padded b ++ padded d)
two_long a b c d ha hb hc hd = omega (arith, length-append (padded a) (padded c), length-append (padded b) (padded d), padded_len a ha, padded_len b hb, padded_len c hc, padded_len d hd)

same_order : (a b : Key) → IsProperKey a → IsProperKey b → key_kind a ≡ key_kind b → SameOrder a b
same_order (key.Gssb a) (key.Gssb b) h k e = record { long = padded_len a h ∙ sym (padded_len b k); order = name_order a b h k ∙ sym (then_equal (bytes_cmp a b)) }
same_order (key.Tls a c) (key.Tls b d) h k e = record { long = two_long a b c d h.0 k.0 h.1 k.1; order = two_names a b c d h.0 k.0 h.1 k.1 }
same_order (key.Uls a c) (key.Uls b d) h k e = record { long = two_long a b c d h.0 k.0 h.1 k.1; order = two_names a b c d h.0 k.0 h.1 k.1 }
same_order (key.Service (Dialogue a)) (key.Service (Dialogue b)) h k e = record { long = ap suc (padded_len a h ∙ sym (padded_len b k)); order = name_order a b h k ∙ sym (then_equal (bytes_cmp a b)) }
same_order (key.Service (Dialogue a)) (key.Service (Asynchronous n)) h k e = record { long = ap suc (padded_len a h); order = refl }
same_order (key.Service (Asynchronous m)) (key.Service (Dialogue b)) h k e = record { long = ap suc (sym (padded_len b k)); order = refl }
same_order (key.Service (Asynchronous m)) (key.Service (Asynchronous n)) h k e = record { long = refl; order = number_order m n h k ∙ sym (then_equal _ ∙ then_equal (nat_cmp m n)) }
same_order (key.Job m) (key.Job n) h k e = record { long = refl; order = number_order m n h k ∙ sym (then_equal _ ∙ then_equal (nat_cmp m n)) }
same_order (key.Shown a) (key.Shown b) h k e = record { long = padded_len a h ∙ sym (padded_len b k); order = name_order a b h k ∙ sym (then_equal (bytes_cmp a b)) }
same_order _ _ h k e = absurd cc

one_kind : (a b : Key) → IsProperKey a → IsProperKey b → key_kind a ≡ key_kind b → bytes_cmp (filled (key_bytes a)) (filled (key_bytes b)) ≡ texts_cmp (texts_behind a) (texts_behind b)
one_kind a b h k e =
    let o = same_order a b h k e in
    joined_cmp (key_bytes a) (key_bytes b) _ _ o.long
    ∙ ap (λ n. ordering_then (bytes_cmp (key_bytes a) (key_bytes b)) (bytes_cmp (replicate (24 - length (key_bytes a)) 0) (replicate (24 - n) 0))) (sym o.long)
    ∙ ap (ordering_then (bytes_cmp (key_bytes a) (key_bytes b))) (same_cmp (replicate (24 - length (key_bytes a)) 0))
    ∙ then_equal (bytes_cmp (key_bytes a) (key_bytes b))
    ∙ o.order

pub keys_keep_their_order : KeysKeepTheirOrder
keys_keep_their_order a b h k = by (key_kind a == key_kind b) refl
  where
    by : (s : Bool) → (key_kind a == key_kind b) ≡ s → record_cmp (record_key a) (record_key b) ≡ key_cmp a b
    by true e =
        ap (ordering_then (nat_cmp (key_kind a) (key_kind b))) (one_kind a b h k (eqb-true (key_kind a) (key_kind b) e))
        ∙ ap (λ o. ordering_then o (texts_cmp (texts_behind a) (texts_behind b))) (sym (then_equal (nat_cmp (key_kind a) (key_kind b))))
    by false e = decided (nat_cmp (key_kind a) (key_kind b)) (not_equal (key_kind a) (key_kind b) e)
      where
        not_equal : (m n : ℕ) → (m == n) ≡ false → (nat_cmp m n ≡ Less) ⊎ (nat_cmp m n ≡ Greater)
        not_equal m n e = elim (cases_lt m n) [
          | inl h ↦ inl (less_is m n h)
          | inr h ↦ elim (cases_lt n m) [
            | inl k ↦ inr (greater_is m n k)
            | inr k ↦ absurd (true≢false (let s : m ≡ n = omega arith in let t : (m == n) ≡ true = grind (arith, nat_tests) in sym t ∙ e))
          ]
        ]

        decided : (o : Ordering) → (o ≡ Less) ⊎ (o ≡ Greater) → ordering_then o (bytes_cmp (filled (key_bytes a)) (filled (key_bytes b))) ≡ ordering_then (ordering_then o Equal) (texts_cmp (texts_behind a) (texts_behind b))
        decided Less h = refl
        decided Greater h = refl
        decided Equal (inl h) = absurd cc
        decided Equal (inr h) = absurd cc
