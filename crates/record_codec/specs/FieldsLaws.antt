-- Laws: how values are read: readers of what is in front of some bytes, each with what was written for it to read.
use Rattle.std.specs.Prelude.{◌≡◌, refl, ℕ, zero, suc, ◌+◌, ◌^◌, ◌<◌, ◌≤◌, cond, List, [], ◌∷◌, ◌++◌, length, take, drop, flat_map, Option, Some, None, option_and_then, ◌==◌, if◌then◌else◌, nat_lt}
use Rattle.std.proofs.Common.{sym, ap, subst, ◌∙◌, inl, inr, arith, append_assoc, ⊎_elim}
use Rattle.std.proofs.lemmas.Bool.{cases_lt, ltb-false, eqb-true}
use Rattle.std.proofs.lemmas.List.{take-append-drop, get_or-take, get_or-drop, get_or_past, length-take, length-take-le}
use Rattle.std.proofs.lemmas.Nat.{be_bytes_4, be_bytes_8}
use Rattle.std.specs.Int.{Width, byte_len, w8, w32, w64, from_be_bytes, to_be_bytes}
use Rattle.std.specs.List.{AllByRecursion as Each}
use Rattle.std.specs.Option.{option_map}
use Rattle.kd_base.specs.Text.{IsName, padded}
use Rattle.kd_base.specs.Field.{number_at, after_number, list, list_of, rest_of, list_at, after_list, name_at, after_name}
use Rattle.kd_base.specs.RoundTripsLaws.{u8_comes_back, u32_comes_back, u64_comes_back, list_comes_back, name_comes_back, name_stands_there}
use Rattle.kd_base.specs.ToolsLaws.{chosen, some_is, map_some, and_some}
use Rattle.record_codec.specs.Fields.{AreBytes, field, name_field, number_field, list_field, IsShort, both, items, counted_items, FitAll, chosen_by, either}

-- what was written is read again, whatever follows; and what is read was written so
pub record IsReading {A : Type 0} (reads : List ℕ → Option (A × List ℕ)) (bytes_of : A → List ℕ) (Fits : A → Type 0) : Type 0 where
  pub comes_back : (x : A) (rest : List ℕ) → Fits x → reads (bytes_of x ++ rest) ≡ Some (x, rest)
  pub stands_there : (x : A) (bytes rest : List ℕ) → AreBytes bytes → reads bytes ≡ Some (x, rest) → (bytes ≡ bytes_of x ++ rest) × Fits x

-- ---- bytes

pub bytes_left : (n : ℕ) (xs : List ℕ) → AreBytes xs → AreBytes (drop n xs)
bytes_left n xs bytes k = omega (arith, get_or-drop n xs k 0, bytes (n + k))

pub bytes_front : (n : ℕ) (xs : List ℕ) → AreBytes xs → AreBytes (take n xs)
bytes_front n xs bytes k =
    ⊎_elim (λ lt. omega (arith, get_or-take n xs k 0 lt, bytes k)) (λ ge. omega (arith, get_or_past (take n xs) k 0 (omega (arith, length-take n xs)))) (cases_lt k n)

pub bytes_behind : (front rest xs : List ℕ) → xs ≡ front ++ rest → AreBytes xs → AreBytes rest
bytes_behind [] rest xs e bytes = subst AreBytes e bytes
bytes_behind (x ∷ front) rest [] e bytes = absurd (cc e)
bytes_behind (x ∷ front) rest (y ∷ xs) e bytes = bytes_behind front rest xs (ap (λ (l : List ℕ). drop 1 l) e) (bytes_left 1 (y ∷ xs) bytes)

small_1 : (xs : List ℕ) → AreBytes xs → from_be_bytes w8 (take 1 xs) < 256
small_1 xs bytes = let b = bytes_front 1 xs bytes in omega (arith, b 0)

small_4 : (xs : List ℕ) → AreBytes xs → from_be_bytes w32 (take 4 xs) < 2 ^ 32
small_4 xs bytes = let b = bytes_front 4 xs bytes in omega (arith, b 0, b 1, b 2, b 3)

small_8 : (xs : List ℕ) → AreBytes xs → from_be_bytes w64 (take 8 xs) < 2 ^ 64
small_8 xs bytes = let b = bytes_front 8 xs bytes in omega (arith, b 0, b 1, b 2, b 3, b 4, b 5, b 6, b 7)

-- ---- fields

found_field : {A : Type 0} (at : List ℕ → Option A) (after : List ℕ → List ℕ) (x : A) (bytes rest : List ℕ) → field at after bytes ≡ Some (x, rest) → (at bytes ≡ Some x) × (after bytes ≡ rest)
found_field at after x bytes rest e =
    let h = map_some (λ x. (x, after bytes)) (at bytes) (x, rest) e in
    (h.1 ∙ ap (λ y. Some y) (ap (λ p. p.0) h.2), ap (λ p. p.1) h.2)

is_field : {A : Type 0} (at : List ℕ → Option A) (after : List ℕ → List ℕ) (bytes : List ℕ) (x : A) (rest : List ℕ) → at bytes ≡ Some x → after bytes ≡ rest → field at after bytes ≡ Some (x, rest)
is_field at after bytes x rest e f = ap (option_map (λ x. (x, after bytes))) e ∙ ap (λ (r : List ℕ). Some (x, r)) f

pub names_are_read : IsReading name_field padded IsName
names_are_read = record {
  comes_back = λ x rest fits. is_field name_at after_name (padded x ++ rest) x rest (name_comes_back x rest fits).0 (name_comes_back x rest fits).1;
  stands_there = λ x bytes rest are e.
      let h = found_field name_at after_name x bytes rest e in
      let s = name_stands_there x bytes h.0 in
      (s.1 ∙ ap (λ (l : List ℕ). padded x ++ l) h.1, s.0);
}

-- a number in front
number_there : (w : Width) (x : ℕ) (bytes rest : List ℕ) → number_field w bytes ≡ Some (x, rest) → (byte_len w ≤ length bytes) × (from_be_bytes w (take (byte_len w) bytes) ≡ x) × (drop (byte_len w) bytes ≡ rest)
number_there w x bytes rest e =
    let h = found_field (number_at w) (after_number w) x bytes rest e in
    elim (chosen (nat_lt (length bytes) (byte_len w)) None (Some (from_be_bytes w (take (byte_len w) bytes))) (Some x) h.0) [
      | inl k ↦ absurd (cc k.1)
      | inr k ↦ (ltb-false (length bytes) (byte_len w) k.0, some_is (from_be_bytes w (take (byte_len w) bytes)) x k.1, sym (ap (λ b. cond b bytes (drop (byte_len w) bytes)) k.0) ∙ h.1)
    ]

parted : (n : ℕ) (bytes front rest : List ℕ) → front ≡ take n bytes → drop n bytes ≡ rest → bytes ≡ front ++ rest
parted n bytes front rest e f = sym (take-append-drop n bytes) ∙ (λ i. ◌++◌ {A = ℕ} (sym e i) (f i))

-- numbers of one width are read, where the bytes that are written for a number are those that stand for it
by_width : (w : Width) (m : ℕ) (bytes_of : ℕ → List ℕ)
    → ((x : ℕ) (rest : List ℕ) → x < m → (number_at w (bytes_of x ++ rest) ≡ Some x) × (after_number w (bytes_of x ++ rest) ≡ rest))
    → ((xs : List ℕ) → AreBytes xs → byte_len w ≤ length xs → bytes_of (from_be_bytes w (take (byte_len w) xs)) ≡ take (byte_len w) xs)
    → ((xs : List ℕ) → AreBytes xs → from_be_bytes w (take (byte_len w) xs) < m) → IsReading (number_field w) bytes_of (λ n. n < m)
by_width w m bytes_of back written small = record {
  comes_back = λ x rest fits. is_field (number_at w) (after_number w) (bytes_of x ++ rest) x rest (back x rest fits).0 (back x rest fits).1;
  stands_there = λ x bytes rest are e.
      let h = number_there w x bytes rest e in
      (parted (byte_len w) bytes (bytes_of x) rest (ap bytes_of (sym h.1) ∙ written bytes are h.0) h.2, subst (λ (n : ℕ). n < m) h.1 (small bytes are));
}

pub u64s_are_read : IsReading (number_field w64) (to_be_bytes w64) (λ n. n < 2 ^ 64)
u64s_are_read = by_width w64 (2 ^ 64) (to_be_bytes w64) u64_comes_back (λ xs are h. be_bytes_8 (take 8 xs) _ (length-take-le 8 xs h) (bytes_front 8 xs are) refl) small_8

pub u32s_are_read : IsReading (number_field w32) (to_be_bytes w32) (λ n. n < 2 ^ 32)
u32s_are_read = by_width w32 (2 ^ 32) (to_be_bytes w32) u32_comes_back (λ xs are h. be_bytes_4 (take 4 xs) _ (length-take-le 4 xs h) (bytes_front 4 xs are) refl) small_4

-- a byte
abbrev pub one_byte : ℕ → List ℕ
one_byte n = n ∷ []

first_byte : (bytes : List ℕ) → 1 ≤ length bytes → one_byte (from_be_bytes w8 (take 1 bytes)) ≡ take 1 bytes
first_byte [] h = absurd (omega (arith, h))
first_byte (b ∷ bytes) h = ap one_byte (omega arith)

pub u8s_are_read : IsReading (number_field w8) one_byte (λ n. n < 256)
u8s_are_read = by_width w8 256 one_byte u8_comes_back (λ xs are h. first_byte xs h) small_1

list_there : (x bytes rest : List ℕ) → AreBytes bytes → list_at bytes ≡ Some x → after_list bytes ≡ rest → (bytes ≡ list x ++ rest) × IsShort x
list_there x bytes rest are e f =
    elim (chosen (nat_lt (length bytes) 4) None (list_of n behind) (Some x) e) [
      | inl k ↦ absurd (cc k.1)
      | inr k ↦ elim (chosen (nat_lt (length behind) n) None (Some (take n behind)) (Some x) k.1) [
        | inl m ↦ absurd (cc m.1)
        | inr m ↦
            let long : 4 ≤ length bytes = ltb-false (length bytes) 4 k.0 in
            let enough : n ≤ length behind = ltb-false (length behind) n m.0 in
            let taken : take n behind ≡ x = some_is (take n behind) x m.1 in
            let many : length x ≡ n = ap length (sym taken) ∙ length-take-le n behind enough in
            let left : drop n behind ≡ rest = sym (ap (λ b. cond b bytes (drop n behind)) m.0) ∙ sym (ap (λ b. cond b bytes (rest_of n behind bytes)) k.0) ∙ f in
            let count : to_be_bytes w32 (length x) ≡ take 4 bytes = ap (to_be_bytes w32) many ∙ be_bytes_4 (take 4 bytes) n (length-take-le 4 bytes long) (bytes_front 4 bytes are) refl in
            (parted 4 bytes (to_be_bytes w32 (length x)) behind count refl ∙ ap (λ (l : List ℕ). to_be_bytes w32 (length x) ++ l) (parted n behind x rest (sym taken) left), subst (λ (m : ℕ). m < 2 ^ 32) (sym many) (small_4 bytes are))
      ]
    ]
  where
    n : ℕ
    n = from_be_bytes w32 (take 4 bytes)

    behind : List ℕ
    behind = drop 4 bytes

pub lists_are_read : IsReading list_field list IsShort
lists_are_read = record {
  comes_back = λ x rest fits. is_field list_at after_list (list x ++ rest) x rest (list_comes_back x rest fits).0 (list_comes_back x rest fits).1;
  stands_there = λ x bytes rest are e. let h = found_field list_at after_list x bytes rest e in list_there x bytes rest are h.0 h.1;
}

-- ---- one after another

pub both_are_read : {A B : Type 0} (one : List ℕ → Option (A × List ℕ)) (two : List ℕ → Option (B × List ℕ)) (of_one : A → List ℕ) (of_two : B → List ℕ) (F : A → Type 0) (G : B → Type 0)
    → IsReading one of_one F → IsReading two of_two G → IsReading (both one two) (λ p. of_one p.0 ++ of_two p.1) (λ p. F p.0 × G p.1)
both_are_read {A} {B} one two of_one of_two F G h k = record {
  comes_back = λ x rest fits.
      ap (both one two) (append_assoc (of_one x.0) (of_two x.1) rest)
      ∙ ap (option_and_then (λ p. option_map (λ q. ((p.0, q.0), q.1)) (two p.1))) (h.comes_back x.0 (of_two x.1 ++ rest) fits.0)
      ∙ ap (option_map (λ q. ((x.0, q.0), q.1))) (k.comes_back x.1 rest fits.1);
  stands_there = λ x bytes rest are e.
      let a = and_some (λ (p : A × List ℕ). option_map (λ (q : B × List ℕ). ((p.0, q.0), q.1)) (two p.1)) (one bytes) (x, rest) e in
      let p : A × List ℕ = a.0 in
      let b = map_some (λ (q : B × List ℕ). ((p.0, q.0), q.1)) (two p.1) (x, rest) a.2 in
      let q : B × List ℕ = b.0 in
      let f = h.stands_there p.0 bytes p.1 are a.1 in
      let g = k.stands_there q.0 p.1 q.1 (bytes_behind (of_one p.0) p.1 bytes f.0 are) b.1 in
      let whole : bytes ≡ (of_one p.0 ++ of_two q.0) ++ q.1 = f.0 ∙ ap (λ (l : List ℕ). of_one p.0 ++ l) g.0 ∙ sym (append_assoc (of_one p.0) (of_two q.0) q.1) in
      subst (λ (z : (A × B) × List ℕ). (bytes ≡ (of_one z.0.0 ++ of_two z.0.1) ++ z.1) × (F z.0.0 × G z.0.1)) b.2 (whole, (f.1, g.1));
}

module _ {A : Type 0} (one : List ℕ → Option (A × List ℕ)) (of_one : A → List ℕ) (F : A → Type 0) (h : IsReading one of_one F) where
  pub items_back : (xs : List A) (rest : List ℕ) → Each F xs → items one (length xs) (flat_map of_one xs ++ rest) ≡ Some (xs, rest)
  unfolding items
  items_back [] rest fits = refl
  items_back (x ∷ xs) rest fits =
      ap (λ (l : List ℕ). option_and_then (λ p. option_map (λ q. (p.0 ∷ q.0, q.1)) (items one (length xs) p.1)) (one l)) (append_assoc (of_one x) (flat_map of_one xs) rest)
      ∙ ap (option_and_then (λ p. option_map (λ q. (p.0 ∷ q.0, q.1)) (items one (length xs) p.1))) (h.comes_back x (flat_map of_one xs ++ rest) fits.0)
      ∙ ap (option_map (λ q. (x ∷ q.0, q.1))) (items_back xs rest fits.1)

  -- what so many items are read from
  pub record AreItems (n : ℕ) (bytes : List ℕ) (xs : List A) (rest : List ℕ) : Type 0 where
    pub many : length xs ≡ n
    pub whole : bytes ≡ flat_map of_one xs ++ rest
    pub fits : Each F xs

  pub items_there : (n : ℕ) (xs : List A) (bytes rest : List ℕ) → AreBytes bytes → items one n bytes ≡ Some (xs, rest) → AreItems n bytes xs rest
  unfolding items
  items_there zero xs bytes rest are e =
      let same : ([], bytes) ≡ (xs, rest) = some_is ([], bytes) (xs, rest) e in
      subst (λ (z : List A × List ℕ). AreItems zero bytes z.0 z.1) same (record { many = refl; whole = refl; fits = tt })
  items_there (suc n) xs bytes rest are e =
      let a = and_some (λ (p : A × List ℕ). option_map (λ (q : List A × List ℕ). (p.0 ∷ q.0, q.1)) (items one n p.1)) (one bytes) (xs, rest) e in
      let p : A × List ℕ = a.0 in
      let b = map_some (λ (q : List A × List ℕ). (p.0 ∷ q.0, q.1)) (items one n p.1) (xs, rest) a.2 in
      let q : List A × List ℕ = b.0 in
      let f = h.stands_there p.0 bytes p.1 are a.1 in
      let g = items_there n q.0 p.1 q.1 (bytes_behind (of_one p.0) p.1 bytes f.0 are) b.1 in
      subst (λ (z : List A × List ℕ). AreItems (suc n) bytes z.0 z.1) b.2 (record {
        many = ap suc g.many;
        whole = f.0 ∙ ap (λ (l : List ℕ). of_one p.0 ++ l) g.whole ∙ sym (append_assoc (of_one p.0) (flat_map of_one q.0) q.1);
        fits = (f.1, g.fits);
      })

pub counted_are_read : {A : Type 0} (one : List ℕ → Option (A × List ℕ)) (of_one : A → List ℕ) (F : A → Type 0) → IsReading one of_one F → IsReading (counted_items one) (λ xs. to_be_bytes w32 (length xs) ++ flat_map of_one xs) (FitAll F)
counted_are_read {A} one of_one F h = record {
  comes_back = λ xs rest fits.
      ap (counted_items one) (append_assoc (to_be_bytes w32 (length xs)) (flat_map of_one xs) rest)
      ∙ ap (option_and_then (λ p. items one p.0 p.1)) (u32s_are_read.comes_back (length xs) (flat_map of_one xs ++ rest) fits.0)
      ∙ items_back one of_one F h xs rest fits.1;
  stands_there = λ xs bytes rest are e.
      let a = and_some (λ (p : ℕ × List ℕ). items one p.0 p.1) (number_field w32 bytes) (xs, rest) e in
      let p : ℕ × List ℕ = a.0 in
      let f = u32s_are_read.stands_there p.0 bytes p.1 are a.1 in
      let g = items_there one of_one F h p.0 xs p.1 rest (bytes_behind (to_be_bytes w32 p.0) p.1 bytes f.0 are) a.2 in
      (f.0 ∙ (λ i. to_be_bytes w32 (sym g.many i) ++ g.whole i) ∙ sym (append_assoc (to_be_bytes w32 (length xs)) (flat_map of_one xs) rest), (subst (λ (n : ℕ). n < 2 ^ 32) (sym g.many) f.1, g.fits));
}

-- ---- what a byte says

pub by_byte : {A : Type 0} (by : ℕ → List ℕ → Option (A × List ℕ)) (b : ℕ) (rest : List ℕ) → b < 256 → chosen_by by (b ∷ rest) ≡ by b rest
by_byte by b rest h = ap (option_and_then (λ p. by p.0 p.1)) (u8s_are_read.comes_back b rest h)

-- the byte that was read, and how the rest was
pub by_which : {A : Type 0} (by : ℕ → List ℕ → Option (A × List ℕ)) (x : A) (bytes rest : List ℕ) → AreBytes bytes → chosen_by by bytes ≡ Some (x, rest) → (b : ℕ) × (left : List ℕ) × (bytes ≡ b ∷ left) × AreBytes left × (by b left ≡ Some (x, rest))
by_which {A} by x bytes rest are e =
    let a = and_some (λ (p : ℕ × List ℕ). by p.0 p.1) (number_field w8 bytes) (x, rest) e in
    let p : ℕ × List ℕ = a.0 in
    let f = u8s_are_read.stands_there p.0 bytes p.1 are a.1 in
    (p.0, p.1, f.0, bytes_behind (one_byte p.0) p.1 bytes f.0 are, a.2)

pub either_there : {A : Type 0} (a : ℕ) (one : List ℕ → Option (A × List ℕ)) (b : ℕ) (two : List ℕ → Option (A × List ℕ)) (x : A) (bytes rest : List ℕ) (P : Type 0)
    → ((left : List ℕ) → bytes ≡ a ∷ left → AreBytes left → one left ≡ Some (x, rest) → P)
    → ((left : List ℕ) → bytes ≡ b ∷ left → AreBytes left → two left ≡ Some (x, rest) → P)
    → AreBytes bytes → chosen_by (either a one b two) bytes ≡ Some (x, rest) → P
either_there a one b two x bytes rest P f g are e =
    let w = by_which (either a one b two) x bytes rest are e in
    elim (chosen (w.0 == a) (one w.1) (if w.0 == b then two w.1 else None) (Some (x, rest)) w.4) [
      | inl h ↦ f w.1 (w.2 ∙ ap (λ (n : ℕ). n ∷ w.1) (eqb-true w.0 a h.0)) w.3 h.1
      | inr h ↦ elim (chosen (w.0 == b) (two w.1) None (Some (x, rest)) h.1) [
        | inl k ↦ g w.1 (w.2 ∙ ap (λ (n : ℕ). n ∷ w.1) (eqb-true w.0 b k.0)) w.3 k.1
        | inr k ↦ absurd (cc k.1)
      ]
    ]
