-- Laws: what was written is read again, whatever follows.
use Rattle.std.specs.Prelude.{◌≡◌, ℕ, zero, suc, ◌&&◌, ◌-◌, ◌≤◌, true, false, List, [], ◌∷◌, ◌++◌, length, take, drop, replicate, Option, Some, None, IfSome, refl, nat_lt, nat_le}
use Rattle.std.specs.Int.{Width, byte_len, w8, w32, w64, from_be_bytes, to_be_bytes}
use Rattle.std.specs.List.{list_all, prefix_len}
use Rattle.std.proofs.Common.{inl, inr, sym, ◌∙◌, ap, subst, arith, append_assoc, length-append}
use Rattle.std.proofs.lemmas.Nat.{from_be_bytes-to_be_bytes_4, from_be_bytes-to_be_bytes_8}
use Rattle.std.proofs.lemmas.Bool.{le-ltb, ltb-false, eqb-true}
use Rattle.std.proofs.lemmas.Bool.Decides.{nat_tests}
use Rattle.std.proofs.lemmas.List.{take_at, drop_at, take-append-drop, length-replicate, length-take-le}
use Rattle.kd_base.specs.Text.{is_name_byte, is_space, IsName, name_of, name_in, padded}
use Rattle.kd_base.specs.Field.{number_at, after_number, list_at, after_list, name_at, after_name}
use Rattle.kd_base.specs.Fronts.{begins}
use Rattle.kd_base.specs.FrontsLaws.{split_there}
use Rattle.kd_base.specs.ToolsLaws.{chosen, both_true, some_is}
use Rattle.kd_base.specs.RoundTrips.{U8ComesBack, U32ComesBack, U64ComesBack, ListComesBack, NameComesBack, NameStandsThere}

-- ---- a front of known length

record IsFront (front rest : List ℕ) (k : ℕ) : Type 0 where
  pub long : nat_lt (length (front ++ rest)) k ≡ false
  pub taken : take k (front ++ rest) ≡ front
  pub dropped : drop k (front ++ rest) ≡ rest

is_front : (front rest : List ℕ) (k : ℕ) → length front ≡ k → IsFront front rest k
is_front front rest k e =
    record {
      long = le-ltb (length (front ++ rest)) k (omega (arith, length-append front rest));
      taken = take_at front rest k e;
      dropped = drop_at front rest k e;
    }

-- ---- numbers

number_back : (w : Width) (front rest : List ℕ) (n : ℕ) → length front ≡ byte_len w → from_be_bytes w front ≡ n → (number_at w (front ++ rest) ≡ Some n) × (after_number w (front ++ rest) ≡ rest)
number_back w front rest n len is =
    let h = is_front front rest (byte_len w) len in
    (rw (h.long, h.taken, is) refl, rw (h.long, h.dropped) refl)

pub u8_comes_back : U8ComesBack
u8_comes_back n rest fits = number_back w8 (n ∷ []) rest n refl refl

pub u32_comes_back : U32ComesBack
u32_comes_back n rest fits = number_back w32 (to_be_bytes w32 n) rest n refl (from_be_bytes-to_be_bytes_4 n fits)

pub u64_comes_back : U64ComesBack
u64_comes_back n rest fits = number_back w64 (to_be_bytes w64 n) rest n refl (from_be_bytes-to_be_bytes_8 n fits)

-- ---- lists

list_back : (front bytes rest : List ℕ) → length front ≡ 4 → from_be_bytes w32 front ≡ length bytes → (list_at ((front ++ bytes) ++ rest) ≡ Some bytes) × (after_list ((front ++ bytes) ++ rest) ≡ rest)
list_back front bytes rest len is =
    let h = is_front front (bytes ++ rest) 4 len in
    let k = is_front bytes rest (length bytes) refl in
    rw (append_assoc front bytes rest) (rw (h.long, h.taken, h.dropped, is, k.long, k.taken) refl, rw (h.long, h.taken, h.dropped, is, k.long, k.dropped) refl)

pub list_comes_back : ListComesBack
list_comes_back bytes rest fits = list_back (to_be_bytes w32 (length bytes)) bytes rest refl (from_be_bytes-to_be_bytes_4 (length bytes) fits)

-- ---- names

no_name_byte : (k : ℕ) → begins is_name_byte (replicate k 32) ≡ false
no_name_byte zero = refl
no_name_byte (suc k) = refl

pub spaces_only : (k : ℕ) → list_all is_space (replicate k 32) ≡ true
spaces_only zero = refl
spaces_only (suc k) = spaces_only k

pub only_spaces : (bytes : List ℕ) → list_all is_space bytes ≡ true → bytes ≡ replicate (length bytes) 32
only_spaces [] h = refl
only_spaces (b ∷ bytes) h =
    let a = both_true (is_space b) (list_all is_space bytes) h in
    ap (λ (x : ℕ). x ∷ bytes) (eqb-true b 32 a.0) ∙ ap (λ (x : List ℕ). 32 ∷ x) (only_spaces bytes a.1)

at_least_one : (n : ℕ) → 1 ≤ n → nat_le 1 n ≡ true
at_least_one n h = grind (arith, nat_tests)

at_most_eight : (n : ℕ) → n ≤ 8 → nat_le n 8 ≡ true
at_most_eight n h = grind (arith, nat_tests)

is_at_least_one : (n : ℕ) → nat_le 1 n ≡ true → 1 ≤ n
is_at_least_one n h = grind (arith, nat_tests)

is_at_most_eight : (n : ℕ) → nat_le n 8 ≡ true → n ≤ 8
is_at_most_eight n h = grind (arith, nat_tests)

pub name_in_padded : (name : List ℕ) → IsName name → name_in (padded name) ≡ Some name
name_in_padded name h =
    let spaces = replicate (8 - length name) 32 in
    let len = split_there is_name_byte name spaces h.2 (no_name_byte (8 - length name)) in
    let some = at_least_one (length name) h.0 in
    let few = at_most_eight (length name) h.1 in
    rw (len, drop_at name spaces (length name) refl, take_at name spaces (length name) refl, spaces_only (8 - length name), some, few, h.2) refl

pub padded_len : (name : List ℕ) → IsName name → length (padded name) ≡ 8
padded_len name h = omega (arith, length-append name (replicate (8 - length name) 32), length-replicate {A = ℕ} (8 - length name) 32)

pub name_comes_back : NameComesBack
name_comes_back name rest h =
    let front = is_front (padded name) rest 8 (padded_len name h) in
    let back : name_at (padded name ++ rest) ≡ Some name = rw (front.long, front.taken) (name_in_padded name h) in
    (back, rw back front.dropped)

-- what a name is read from
pub name_in_is : (field name : List ℕ) → length field ≡ 8 → name_in field ≡ Some name → IsName name × (field ≡ padded name)
name_in_is field name len e =
    let n = prefix_len is_name_byte field in
    elim (chosen (list_all is_space (drop n field)) (name_of (take n field)) None (Some name) e) [
      | inl h ↦ elim (chosen (nat_le 1 (length (take n field)) && nat_le (length (take n field)) 8 && list_all is_name_byte (take n field)) (Some (take n field)) None (Some name) h.1) [
        | inl k ↦
            let same : take n field ≡ name = some_is (take n field) name k.1 in
            let outer = both_true (nat_le 1 (length (take n field)) && nat_le (length (take n field)) 8) (list_all is_name_byte (take n field)) k.0 in
            let inner = both_true (nat_le 1 (length (take n field))) (nat_le (length (take n field)) 8) outer.0 in
            let whole : field ≡ take n field ++ drop n field = sym (take-append-drop n field) in
            let left : length (drop n field) ≡ 8 - length (take n field) = omega (arith, ap length whole, length-append (take n field) (drop n field)) in
            let is : IsName (take n field) = (is_at_least_one (length (take n field)) inner.0, is_at_most_eight (length (take n field)) inner.1, outer.1) in
            subst (λ (x : List ℕ). IsName x × (field ≡ padded x)) same
            (is, whole ∙ ap (λ (x : List ℕ). take n field ++ x) (only_spaces (drop n field) h.0 ∙ ap (λ (m : ℕ). replicate m 32) left))
        | inr k ↦ absurd (cc k.1)
      ]
      | inr h ↦ absurd (cc h.1)
    ]

pub name_stands_there : NameStandsThere
name_stands_there name bytes e =
    elim (chosen (nat_lt (length bytes) 8) None (name_in (take 8 bytes)) (Some name) e) [
      | inl h ↦ absurd (cc h.1)
      | inr h ↦
          let long : 8 ≤ length bytes = ltb-false (length bytes) 8 h.0 in
          let whole : bytes ≡ take 8 bytes ++ drop 8 bytes = sym (take-append-drop 8 bytes) in
          let is = name_in_is (take 8 bytes) name (length-take-le 8 bytes long) h.1 in
          let left : after_name bytes ≡ drop 8 bytes = rw e refl in
          (is.0, whole ∙ ap (λ (x : List ℕ). x ++ drop 8 bytes) is.1 ∙ ap (λ (x : List ℕ). padded name ++ x) (sym left))
    ]

-- ---- what a reader answers

pub field_found : (field : List ℕ) (o : Option (List ℕ)) → length field ≡ 8 → o ≡ name_in field → IfSome o (λ name. IsName name × (field ≡ padded name))
field_found field None len e = tt
field_found field (Some name) len e = name_in_is field name len (sym e)

pub field_only : (field : List ℕ) (o : Option (List ℕ)) → o ≡ name_in field → (name : List ℕ) → IsName name → field ≡ padded name → o ≡ Some name
field_only field o e name h is = e ∙ ap name_in is ∙ name_in_padded name h

pub name_only : (old : List ℕ) (o : Option (List ℕ)) → o ≡ name_at old → (name rest : List ℕ) → IsName name → old ≡ padded name ++ rest → o ≡ Some name
name_only old o e name rest h is = e ∙ ap name_at is ∙ (name_comes_back name rest h).0
