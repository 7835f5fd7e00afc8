-- Filled with spaces, names compare as the numbers that their bytes are.
use Rattle.std.proofs.Common.{◌≡◌, ℕ, zero, suc, ◌+◌, ◌-◌, ◌*◌, ◌<◌, ◌≤◌, true, List, [], ◌∷◌, ◌++◌, length, take, refl, sym, ap, ◌∙◌, arith}
use Rattle.std.proofs.lemmas.List.{length-append, length-replicate}
use Rattle.std.specs.Prelude.{IsTrue, replicate, nat_eq}
use Rattle.std.specs.List.{list_all, AllByRecursion as Each}
use Rattle.std.specs.Ordering.{nat_cmp, is_eq, ordering_then, MatchOrdering}
use Rattle.std.specs.declared.cmp.Ordering.{Ordering}
use Rattle.std.specs.declared.cmp.Ordering.TheVariants.{Less, Equal, Greater}
use Rattle.std.specs.Cmp.{nat_cmp_is, unsigned_ties}
use Rattle.std.specs.Cmp.Lexicographic.{pointwise, slice_cmp, texts_ties}
use Rattle.std.specs.Slice.Scan.{big_endian}
use Rattle.std.proofs.lemmas.Cmp.{ranked, tied_itself, nat_cmp_total, nat_list_cmp_total}
use Rattle.std.proofs.lemmas.Bool.Decides.{nat_tests}
use Rattle.kd_base.specs.Text.{is_name_byte, filled}
use Rattle.kd_base.specs.declared.name.NameOf.TheInside.{Inside}
use Rattle.kd_base.specs.NameCells.{IsNameCells}
use Rattle.kd_base.specs.OrderLaws.{greater_is}
use Rattle.kd_base.specs.ToolsLaws.{both_true}

less_is : (m n : ℕ) → m < n → nat_cmp m n ≡ Less
less_is m n h = sym (nat_cmp_is m n Less h)

abbrev AreBytes : List ℕ → Type 0
AreBytes = Each (λ x. x < 256)

-- the digits behind a lower number do not make up for it
lower_stays : (a b : ℕ) (xs ys : List ℕ) → length xs ≡ length ys → AreBytes xs → a < b → big_endian a xs < big_endian b ys
lower_stays a b [] [] e h l = l
lower_stays a b [] (y ∷ ys) e h l = absurd (omega arith)
lower_stays a b (x ∷ xs) [] e h l = absurd (omega arith)
lower_stays a b (x ∷ xs) (y ∷ ys) e h l = let small : x < 256 = h.0 in lower_stays (a * 256 + x) (b * 256 + y) xs ys (omega arith) h.1 (omega arith)

numbers_as_lists : (a : ℕ) (xs ys : List ℕ) → length xs ≡ length ys → AreBytes xs → AreBytes ys → nat_cmp (big_endian a xs) (big_endian a ys) ≡ slice_cmp nat_cmp xs ys
numbers_as_lists a [] [] e p q = tied_itself nat_cmp_total a
numbers_as_lists a [] (y ∷ ys) e p q = absurd (omega arith)
numbers_as_lists a (x ∷ xs) [] e p q = absurd (omega arith)
numbers_as_lists a (x ∷ xs) (y ∷ ys) e p q = by (nat_cmp x y) (ranked x y _ refl) (numbers_as_lists (a * 256 + x) xs ys (omega arith) p.1 q.1)
  where
    by : (r : Ordering) → MatchOrdering r (x < y) (x ≡ y) (y < x) → nat_cmp (big_endian (a * 256 + x) xs) (big_endian (a * 256 + x) ys) ≡ slice_cmp nat_cmp xs ys
        → nat_cmp (big_endian (a * 256 + x) xs) (big_endian (a * 256 + y) ys) ≡ ordering_then r (slice_cmp nat_cmp xs ys)
    by Less h rest = let l : x < y = h in less_is _ _ (lower_stays (a * 256 + x) (a * 256 + y) xs ys (omega arith) p.1 (omega arith))
    by Equal h rest = ap (λ z. nat_cmp (big_endian (a * 256 + x) xs) (big_endian (a * 256 + z) ys)) (sym h) ∙ rest
    by Greater h rest = let l : y < x = h in greater_is _ _ (lower_stays (a * 256 + y) (a * 256 + x) ys xs (omega arith) q.1 (omega arith))

-- more than the space that fills a name, so that a name sorts behind those that it goes on from
name_byte_range : (b : ℕ) → is_name_byte b ≡ true → (32 < b) × (b < 256)
name_byte_range b h = (grind (arith, nat_tests), grind (arith, nat_tests))

spaces_are_bytes : (room : ℕ) → AreBytes (replicate room 32)
spaces_are_bytes zero = tt
spaces_are_bytes (suc room) = (omega arith, spaces_are_bytes room)

filled_are_bytes : (name : List ℕ) (room : ℕ) → IsTrue (list_all is_name_byte name) → AreBytes (name ++ replicate room 32)
filled_are_bytes [] room h = spaces_are_bytes room
filled_are_bytes (b ∷ bs) room h = let parts = both_true (is_name_byte b) (list_all is_name_byte bs) h in ((name_byte_range b parts.0).1, filled_are_bytes bs room parts.1)

filled_as_names : (xs ys : List ℕ) (p q : ℕ) → length xs + p ≡ length ys + q → IsTrue (list_all is_name_byte xs) → IsTrue (list_all is_name_byte ys) → slice_cmp nat_cmp (xs ++ replicate p 32) (ys ++ replicate q 32) ≡ slice_cmp nat_cmp xs ys
filled_as_names [] [] p q e h k = ap (λ n. slice_cmp nat_cmp (replicate n 32) (replicate q 32)) (omega arith) ∙ tied_itself nat_list_cmp_total (replicate q 32)
filled_as_names [] (y ∷ ys) zero q e h k = absurd (omega arith)
filled_as_names [] (y ∷ ys) (suc p) q e h k =
    ap (λ r. ordering_then r (slice_cmp nat_cmp (replicate p 32) (ys ++ replicate q 32))) (less_is 32 y (name_byte_range y (both_true (is_name_byte y) (list_all is_name_byte ys) k).0).0)
filled_as_names (x ∷ xs) [] p zero e h k = absurd (omega arith)
filled_as_names (x ∷ xs) [] p (suc q) e h k =
    ap (λ r. ordering_then r (slice_cmp nat_cmp (xs ++ replicate p 32) (replicate q 32))) (greater_is x 32 (name_byte_range x (both_true (is_name_byte x) (list_all is_name_byte xs) h).0).0)
filled_as_names (x ∷ xs) (y ∷ ys) p q e h k =
    ap (ordering_then (nat_cmp x y)) (filled_as_names xs ys p q (omega arith) (both_true (is_name_byte x) (list_all is_name_byte xs) h).1 (both_true (is_name_byte y) (list_all is_name_byte ys) k).1)

filled_length : (most : ℕ) (name : List ℕ) → length name ≤ most → length (filled most name) ≡ most
filled_length most name h = omega (arith, length-append name (replicate (most - length name) 32), length-replicate {A = ℕ} (most - length name) 32)

order_by_number : (most : ℕ) (m n : Inside most) → IsNameCells most m → IsNameCells most n → nat_cmp (big_endian 0 m.cells) (big_endian 0 n.cells) ≡ slice_cmp nat_cmp (take m.used m.cells) (take n.used n.cells)
order_by_number most m n a b =
    let x = take m.used m.cells in
    let y = take n.used n.cells in
    (λ i. nat_cmp (big_endian 0 (a.rest i)) (big_endian 0 (b.rest i)))
    ∙ numbers_as_lists 0 (filled most x) (filled most y) (filled_length most x a.name.1 ∙ sym (filled_length most y b.name.1)) (filled_are_bytes x (most - length x) a.name.2) (filled_are_bytes y (most - length y) b.name.2)
    ∙ filled_as_names x y (most - length x) (most - length y) (omega (arith, a.name.1, b.name.1)) a.name.2 b.name.2

pub cmp_by_number : (most : ℕ) (m n : Inside most) (u v : ℕ) (r : Ordering) → IsNameCells most m → IsNameCells most n → u ≡ big_endian 0 m.cells → v ≡ big_endian 0 n.cells → r ≡ nat_cmp u v → r ≡ slice_cmp nat_cmp (take m.used m.cells) (take n.used n.cells)
cmp_by_number most m n u v r a b at_m at_n is = is ∙ (λ i. nat_cmp (at_m i) (at_n i)) ∙ order_by_number most m n a b

pub eq_by_number : (most : ℕ) (m n : Inside most) (u v : ℕ) → IsNameCells most m → IsNameCells most n → u ≡ big_endian 0 m.cells → v ≡ big_endian 0 n.cells → nat_eq u v ≡ pointwise nat_eq (take m.used m.cells) (take n.used n.cells)
eq_by_number most m n u v a b at_m at_n = unsigned_ties u v ∙ ap is_eq (cmp_by_number most m n u v (nat_cmp u v) a b at_m at_n refl) ∙ sym (texts_ties (take m.used m.cells) (take n.used n.cells))
