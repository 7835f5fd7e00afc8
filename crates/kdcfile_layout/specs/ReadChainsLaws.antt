-- Chains that are read, and chains that stand.
use Rattle.std.proofs.Common.{◌≡◌, ℕ, zero, suc, ◌+◌, ◌-◌, ◌*◌, ◌<◌, ◌≤◌, ◌^◌, true, ◌&&◌, eqb, ltb, leb, List, [], ◌∷◌, ◌++◌, length, take, drop, Option, Some, None, refl, ap, sym, subst, ◌∙◌, arith}
use Rattle.std.proofs.Common.{append_assoc, length-append}
use Rattle.std.specs.Prelude.{All}
use Rattle.std.specs.Option.{option_map, option_and_then}
use Rattle.std.specs.Int.{w32, to_be_bytes}
use Rattle.std.specs.Str.{bytes_eq}
use Rattle.std.proofs.lemmas.Bool.{ltb-true, leb-true, eqb-true, lt-ltb, le-leb, and_parts, and_from, cond-true, cond-false, le-ltb}
use Rattle.std.proofs.lemmas.Slice.Eq.{bytes_eq-Decides}
use Rattle.std.proofs.lemmas.Option.{none-some, same_Some}
use Rattle.std.proofs.lemmas.List.{take-take, take_at, drop_at, drop-take, take_all, take-append-drop, length-take, length-take-le, length-drop}
use Rattle.std.proofs.lemmas.List.Elements.{All-nil, All-cons, All-head, All-tail}
use Rattle.kd_records.specs.declared.key.RecordKey.{RecordKey}
use Rattle.kdcfile_layout.specs.Fields.{number}
use Rattle.kdcfile_layout.specs.FieldsLaws.{after, written_4}
use Rattle.kdcfile_layout.specs.PagesLaws.{length_chain_head}
use Rattle.kdcfile_layout.specs.TestsLaws.{when}
use Rattle.kd_base.specs.ToolsLaws.{and_some, map_some}
use Rattle.kdcfile_layout.specs.Layout.{PartStands, page_place, chain_head, chain_parts, first_of_pages, zeros}
use Rattle.kdcfile_layout.specs.Chains.{page_at, Held, part_of, part_at, Chained, last_with, chain_of}
use Rattle.kdcfile_layout.specs.Reading.{whole_of}
use Rattle.kdcfile_layout.specs.ReadChains.{Holds, IsHeld, Read, ChainsAreRead, ReadChainsStand}

-- ---- one page

-- what is at the front of a page that is in the file
front_of_page : (size : ℕ) (h : List ℕ) (p m : ℕ) → m ≤ size → take m (page_at size h p) ≡ take m (drop (page_place size p) h)
front_of_page size h p m le = take-take m size (drop (page_place size p) h) le

length_page : (size : ℕ) (h : List ℕ) (p : ℕ) → page_place size p + size ≤ length h → length (page_at size h p) ≡ size
length_page size h p inside = length-take-le size (drop (page_place size p) h) (omega (arith, length-drop (page_place size p) h, inside))

module _ (size : ℕ) (h : List ℕ) (p : ℕ) (head piece : List ℕ) (block : 48 < size) (wide : length head ≡ 48) where
  -- the head and the piece of a part that stands
  module _ (stands : PartStands size h (p, head ++ piece)) where
    whole : take (48 + length piece) (page_at size h p) ≡ head ++ piece
    whole =
        front_of_page size h p (48 + length piece) (omega (arith, stands.fits, length-append head piece, wide))
        ∙ ap (λ (m : ℕ). take m (drop (page_place size p) h)) (omega (arith, length-append head piece, wide))
        ∙ stands.stands

    pub page_head : take 48 (page_at size h p) ≡ head
    page_head = sym (take-take 48 (48 + length piece) (page_at size h p) (omega arith)) ∙ ap (λ (l : List ℕ). take 48 l) whole ∙ take_at head piece 48 wide

    pub page_piece : take (length piece) (drop 48 (page_at size h p)) ≡ piece
    page_piece = sym (drop-take 48 (length piece) (page_at size h p)) ∙ ap (λ (l : List ℕ). drop 48 l) whole ∙ drop_at head piece 48 wide

    pub page_front : drop 0 (page_at size h p) ≡ head ++ drop 48 (page_at size h p)
    page_front = sym (take-append-drop 48 (page_at size h p)) ∙ ap (λ (l : List ℕ). l ++ drop 48 (page_at size h p)) page_head

  -- and the other way round
  pub part_stands : page_place size p + size ≤ length h → take 48 (page_at size h p) ≡ head → (m : ℕ) → m + 48 ≤ size → piece ≡ take m (drop 48 (page_at size h p)) → PartStands size h (p, head ++ piece)
  part_stands inside head_is m fits piece_is =
      let long : length piece ≡ m = ap (λ (l : List ℕ). length l) piece_is ∙ length-take-le m (drop 48 (page_at size h p)) (omega (arith, length-drop 48 (page_at size h p), length_page size h p inside, fits)) in
      let both : head ++ piece ≡ take (48 + m) (page_at size h p) =
      ap (λ (l : List ℕ). head ++ l) (piece_is ∙ sym (drop-take 48 m (page_at size h p)))
      ∙ ap (λ (l : List ℕ). l ++ drop 48 (take (48 + m) (page_at size h p))) (sym head_is ∙ sym (take-take 48 (48 + m) (page_at size h p) (omega arith)))
      ∙ take-append-drop 48 (take (48 + m) (page_at size h p)) in
      record {
        stands =
            ap (λ (n : ℕ). take n (drop (page_place size p) h)) (omega (arith, length-append head piece, wide, long))
            ∙ sym (front_of_page size h p (48 + m) (omega (arith, fits)))
            ∙ sym both;
        fits = omega (arith, length-append head piece, wide, long, fits);
        inside = inside;
      }

-- what stands after the key in the head of a page, from its length on, its part's number on, and the next page on
after_key : (k : RecordKey) (n part next : ℕ) (page rest : List ℕ) → length k.bytes ≡ 24 → drop 0 page ≡ chain_head k n part next ++ rest → drop 25 page ≡ to_be_bytes w32 n ++ (to_be_bytes w32 part ++ (to_be_bytes w32 next ++ (zeros 11 ++ rest)))
unfolding chain_head
after_key k n part next page rest wide is =
    after page (k.kind ∷ k.bytes) (to_be_bytes w32 n ++ (to_be_bytes w32 part ++ (to_be_bytes w32 next ++ (zeros 11 ++ rest)))) 0 25 (is ∙ grouped k.kind k.bytes (to_be_bytes w32 n) (to_be_bytes w32 part) (to_be_bytes w32 next) (zeros 11) rest) (omega (arith, wide))
  where
    grouped : (a : ℕ) (b c d e f g : List ℕ) → (a ∷ (b ++ c ++ d ++ e ++ f)) ++ g ≡ (a ∷ b) ++ (c ++ (d ++ (e ++ (f ++ g))))
    grouped a b c d e f g = simp append_assoc

-- the length of the whole value is read from the head
whole_read : (k : RecordKey) (n part next : ℕ) (page rest : List ℕ) → length k.bytes ≡ 24 → n < 2 ^ 32 → drop 0 page ≡ chain_head k n part next ++ rest → number w32 25 page ≡ n
whole_read k n part next page rest wide small is =
    written_4 page (to_be_bytes w32 part ++ (to_be_bytes w32 next ++ (zeros 11 ++ rest))) 25 n (after_key k n part next page rest wide is) small

-- the next page is read from the head
next_read : (k : RecordKey) (n part next : ℕ) (page rest : List ℕ) → length k.bytes ≡ 24 → next < 2 ^ 32 → drop 0 page ≡ chain_head k n part next ++ rest → number w32 33 page ≡ next
next_read k n part next page rest wide small is =
    written_4 page (zeros 11 ++ rest) 33 next
    (after page (to_be_bytes w32 part) (to_be_bytes w32 next ++ (zeros 11 ++ rest)) 29 4
    (after page (to_be_bytes w32 n) (to_be_bytes w32 part ++ (to_be_bytes w32 next ++ (zeros 11 ++ rest))) 25 4 (after_key k n part next page rest wide is) refl) refl) small

-- ---- chains

some_held : (a b : ℕ) (c : List ℕ) → a ≡ b → ◌≡◌ {A = Option Held} (Some (a, c)) (Some (b, c))
some_held a b c e = λ z. Some (e z, c)

-- a part that stands is held, with the next page that its head names
part_held : (size count : ℕ) (h : List ℕ) (k : RecordKey) (n part next p : ℕ) (piece : List ℕ) → length k.bytes ≡ 24 → 48 < size → next < 2 ^ 32 → p < count → PartStands size h (p, chain_head k n part next ++ piece)
    → (part_at size count h k n part p ≡ Some (next, drop 48 (page_at size h p))) × (take (length piece) (drop 48 (page_at size h p)) ≡ piece)
part_held size count h k n part next p piece wide block small below stands =
    let hd = chain_head k n part next in
    let page = page_at size h p in
    let head_is = page_head size h p hd piece block (length_chain_head k n part next wide) stands in
    let named : number w32 33 page ≡ next = next_read k n part next page (drop 48 page) wide small (page_front size h p hd piece block (length_chain_head k n part next wide) stands) in
    let passes : (leb size (length page) && bytes_eq (take 48 page) (chain_head k n part (number w32 33 page))) ≡ true =
    and_from (leb size (length page)) (bytes_eq (take 48 page) (chain_head k n part (number w32 33 page)))
    (le-leb size (length page) (omega (arith, length_page size h p stands.inside)))
    ((bytes_eq-Decides (take 48 page) (chain_head k n part (number w32 33 page))).1 (head_is ∙ ap (λ (m : ℕ). chain_head k n part m) (sym named))) in (
      cond-true (ltb p count) (part_of size k n part page) None (lt-ltb p count below) ∙ cond-true (leb size (length page) && bytes_eq (take 48 page) (chain_head k n part (number w32 33 page))) (Some (number w32 33 page, drop 48 page)) None passes ∙ some_held (number w32 33 page) next (drop 48 page) named,
      page_piece size h p hd piece block (length_chain_head k n part next wide) stands,
    )

pub some_chain : (a b c d : List ℕ) → a ≡ b → c ≡ d → ◌≡◌ {A = Option Chained} (Some (a, c)) (Some (b, d))
some_chain a b c d e f = λ z. Some (e z, f z)

-- one page fewer
least_next : (m left room : ℕ) → (suc (suc left) - 1) * m ≤ room → left * m + m ≤ room
least_next m left room h =
    let e : suc (suc left) - 1 ≡ suc left = omega arith in
    let P : ℕ → Type 0 = λ x. x * m ≤ room in
    let g : suc left * m ≤ room = subst P e h in
    omega (arith, g)

least_rest : (m left room : ℕ) → left * m + m ≤ room → (suc left - 1) * m ≤ room - m
least_rest m left room h =
    let e : left ≡ suc left - 1 = omega arith in
    let P : ℕ → Type 0 = λ x. x * m ≤ room - m in
    subst P e (omega (arith, h))

most_rest : (m left room : ℕ) → room ≤ suc (suc left) * m → room - m ≤ suc left * m
most_rest m left room h = omega (arith, h)

pub holds_rest : (size left room : ℕ) → Holds size (suc (suc left)) room → Holds size (suc left) (room - (size - 48))
holds_rest size left room holds = record {
  block = holds.block;
  some = omega arith;
  least = least_rest (size - 48) left room (least_next (size - 48) left room holds.least);
  most = most_rest (size - 48) left room holds.most;
}

pub chains_are_read : ChainsAreRead
unfolding chain_of
chains_are_read size count h k n part zero room value pages wide few holds pages_are value_is stands = absurd (omega (arith, holds.some))
chains_are_read size count h k n part (suc left) room value [] wide few holds pages_are value_is stands = absurd (omega (arith, pages_are))
chains_are_read size count h k n part (suc zero) room value (p ∷ q ∷ pages) wide few holds pages_are value_is stands = absurd (omega (arith, pages_are))
chains_are_read size count h k n part (suc zero) room value (p ∷ []) wide few holds pages_are value_is stands =
    let first = All-head (PartStands size h) (p, chain_head k n part (2 ^ 32 - 1) ++ take (size - 48) value) [] stands.parts in
    let all : take (size - 48) value ≡ value = take_all (size - 48) value (omega (arith, value_is, holds.most)) in
    let held = part_held size count h k n part (2 ^ 32 - 1) p (take (size - 48) value) wide holds.block (omega arith) (All-head (λ (x : ℕ). x < count) p [] stands.below) first in
    ap (λ (o : Option Held). option_and_then (λ (q : Held). last_with room p q) o) held.0
    ∙ some_chain (p ∷ []) (p ∷ []) (take room (drop 48 (page_at size h p))) value refl
    (ap (λ (m : ℕ). take m (drop 48 (page_at size h p))) (sym value_is ∙ ap (λ (l : List ℕ). length l) (sym all)) ∙ held.1 ∙ all)
chains_are_read size count h k n part (suc (suc left)) room value (p ∷ []) wide few holds pages_are value_is stands = absurd (omega (arith, pages_are))
chains_are_read size count h k n part (suc (suc left)) room value (p ∷ q ∷ pages) wide few holds pages_are value_is stands =
    let payload = size - 48 in
    let below_rest = All-tail (λ (x : ℕ). x < count) p (q ∷ pages) stands.below in
    let q_below = All-head (λ (x : ℕ). x < count) q pages below_rest in
    let rest_parts = chain_parts payload k n (part + 1) (drop payload value) (q ∷ pages) in
    let first = All-head (PartStands size h) (p, chain_head k n part q ++ take payload value) rest_parts stands.parts in
    let held = part_held size count h k n part q p (take payload value) wide holds.block (omega (arith, q_below, few)) (All-head (λ (x : ℕ). x < count) p (q ∷ pages) stands.below) first in
    let full : length (take payload value) ≡ payload = omega (arith, length-take payload value, value_is, least_next (size - 48) left room holds.least) in
    let rest =
    chains_are_read size count h k n (part + 1) (suc left) (room - payload) (drop payload value) (q ∷ pages) wide few (holds_rest size left room holds) (omega (arith, pages_are)) (omega (arith, length-drop payload value, value_is))
    (record { below = below_rest; parts = All-tail (PartStands size h) (p, chain_head k n part q ++ take payload value) rest_parts stands.parts }) in
    ap (λ (o : Option Held). option_and_then (λ (x : Held). option_map (λ (r : Chained). (p ∷ r.0, take (size - 48) x.1 ++ r.1)) (chain_of size count h k n (part + 1) (suc left) (room - (size - 48)) x.0)) o) held.0
    ∙ ap (λ (o : Option Chained). option_map (λ (r : Chained). (p ∷ r.0, take (size - 48) (drop 48 (page_at size h p)) ++ r.1)) o) rest
    ∙ some_chain (p ∷ q ∷ pages) (p ∷ q ∷ pages) (take (size - 48) (drop 48 (page_at size h p)) ++ drop payload value) value refl
    (ap (λ (l : List ℕ). l ++ drop payload value) (ap (λ (m : ℕ). take m (drop 48 (page_at size h p))) (sym full) ∙ held.1) ∙ take-append-drop payload value)

held : (size count : ℕ) (h : List ℕ) (k : RecordKey) (n part p : ℕ) (q : Held) → 48 < size → part_at size count h k n part p ≡ Some q → IsHeld size count h k n part p q
held size count h k n part p q block e =
    let page = page_at size h p in
    let here = when (ltb p count) (part_of size k n part page) q e in
    let there = when (leb size (length page) && bytes_eq (take 48 page) (chain_head k n part (number w32 33 page))) (Some (number w32 33 page, drop 48 page)) q here.1 in
    let both = and_parts (leb size (length page)) (bytes_eq (take 48 page) (chain_head k n part (number w32 33 page))) there.0 in
    let is : (number w32 33 page, drop 48 page) ≡ q = same_Some (number w32 33 page, drop 48 page) q there.1 in
    record {
      below = ltb-true p count here.0;
      inside = omega (arith, leb-true size (length page) both.0, length-take size (drop (page_place size p) h), length-drop (page_place size p) h, block);
      headed = (bytes_eq-Decides (take 48 page) (chain_head k n part (number w32 33 page))).0 both.1 ∙ ap (λ (x : Held). chain_head k n part x.0) is;
      after = sym (ap (λ (x : Held). x.1) is);
    }

length_piece : (size : ℕ) (h : List ℕ) (p m : ℕ) → page_place size p + size ≤ length h → m + 48 ≤ size → length (take m (drop 48 (page_at size h p))) ≡ m
length_piece size h p m inside le = length-take-le m (drop 48 (page_at size h p)) (omega (arith, length-drop 48 (page_at size h p), length_page size h p inside, le))

last_read : (size count : ℕ) (h : List ℕ) (k : RecordKey) (n part room p : ℕ) (q : Held) → length k.bytes ≡ 24 → Holds size 1 room → IsHeld size count h k n part p q → q.0 ≡ 2 ^ 32 - 1 → Read size count h k n part 1 room p (p ∷ [], take room q.1)
last_read size count h k n part room p q wide holds is last =
    let room_fits : room + 48 ≤ size = omega (arith, holds.most, holds.block) in
    let piece_is : take room q.1 ≡ take room (drop 48 (page_at size h p)) = ap (λ (l : List ℕ). take room l) is.after in
    let long : length (take room q.1) ≡ room = ap (λ (l : List ℕ). length l) piece_is ∙ length_piece size h p room is.inside room_fits in
    let all : take (size - 48) (take room q.1) ≡ take room q.1 = take_all (size - 48) (take room q.1) (omega (arith, long, room_fits)) in
    let hd = chain_head k n part (2 ^ 32 - 1) in (
      refl,
      refl,
      long,
      record {
        below = All-cons (λ (x : ℕ). x < count) p [] is.below (All-nil (λ (x : ℕ). x < count));
        parts =
            All-cons (PartStands size h) (p, hd ++ take (size - 48) (take room q.1)) []
            (part_stands size h p hd (take (size - 48) (take room q.1)) holds.block (length_chain_head k n part (2 ^ 32 - 1) wide) is.inside (is.headed ∙ ap (λ (m : ℕ). chain_head k n part m) last) room room_fits (all ∙ piece_is))
            (All-nil (PartStands size h));
      },
    )

more_read : (size count : ℕ) (h : List ℕ) (k : RecordKey) (n part left room p : ℕ) (q : Held) (r : Chained) → length k.bytes ≡ 24 → Holds size (suc (suc left)) room → IsHeld size count h k n part p q → Read size count h k n (part + 1) (suc left) (room - (size - 48)) q.0 r
    → Read size count h k n part (suc (suc left)) room p (p ∷ r.0, take (size - 48) q.1 ++ r.1)
more_read size count h k n part left room p q r wide holds is rest =
    let piece = take (size - 48) q.1 in
    let fits : size - 48 + 48 ≤ size = omega (arith, holds.block) in
    let piece_is : take (size - 48) q.1 ≡ take (size - 48) (drop 48 (page_at size h p)) = ap (λ (l : List ℕ). take (size - 48) l) is.after in
    let long : length (take (size - 48) q.1) ≡ size - 48 = ap (λ (l : List ℕ). length l) piece_is ∙ length_piece size h p (size - 48) is.inside fits in
    let hd = chain_head k n part (first_of_pages r.0) in
    let front : take (size - 48) (piece ++ r.1) ≡ piece = take_at piece r.1 (size - 48) long in
    let tail : drop (size - 48) (piece ++ r.1) ≡ r.1 = drop_at piece r.1 (size - 48) long in (
      refl,
      omega (arith, rest.1),
      omega (arith, length-append piece r.1, long, rest.2, least_next (size - 48) left room holds.least),
      record {
        below = All-cons (λ (x : ℕ). x < count) p r.0 is.below rest.3.below;
        parts =
            All-cons (PartStands size h) (p, hd ++ take (size - 48) (piece ++ r.1)) (chain_parts (size - 48) k n (part + 1) (drop (size - 48) (piece ++ r.1)) r.0)
            (part_stands size h p hd (take (size - 48) (piece ++ r.1)) holds.block (length_chain_head k n part (first_of_pages r.0) wide) is.inside (is.headed ∙ ap (λ (m : ℕ). chain_head k n part m) (sym rest.0)) (size - 48) fits (front ∙ piece_is))
            (subst (λ (l : List ℕ). All (PartStands size h) (chain_parts (size - 48) k n (part + 1) l r.0)) (sym tail) rest.3.parts);
      },
    )

pub read_chains_stand : ReadChainsStand
unfolding chain_of
read_chains_stand size count h k n part zero room p value pages wide holds e = absurd (none-some (pages, value) e)
read_chains_stand size count h k n part (suc zero) room p value pages wide holds e =
    let q = and_some (λ (x : Held). last_with room p x) (part_at size count h k n part p) (pages, value) e in
    let last = when (eqb q.0.0 (2 ^ 32 - 1)) (Some (p ∷ [], take room q.0.1)) (pages, value) q.2 in
    subst (λ (r : Chained). Read size count h k n part 1 room p r) (same_Some (p ∷ [], take room q.0.1) (pages, value) last.1)
    (last_read size count h k n part room p q.0 wide holds (held size count h k n part p q.0 holds.block q.1) (eqb-true q.0.0 (2 ^ 32 - 1) last.0))
read_chains_stand size count h k n part (suc (suc left)) room p value pages wide holds e =
    let q = and_some (λ (x : Held). option_map (λ (r : Chained). (p ∷ r.0, take (size - 48) x.1 ++ r.1)) (chain_of size count h k n (part + 1) (suc left) (room - (size - 48)) x.0)) (part_at size count h k n part p) (pages, value) e in
    let r = map_some (λ (r : Chained). (p ∷ r.0, take (size - 48) q.0.1 ++ r.1)) (chain_of size count h k n (part + 1) (suc left) (room - (size - 48)) q.0.0) (pages, value) q.2 in
    let rest = read_chains_stand size count h k n (part + 1) (suc left) (room - (size - 48)) q.0.0 r.0.1 r.0.0 wide (holds_rest size left room holds) r.1 in
    subst (λ (x : Chained). Read size count h k n part (suc (suc left)) room p x) r.2 (more_read size count h k n part left room p q.0 r.0 wide holds (held size count h k n part p q.0 holds.block q.1) rest)

-- ---- the length of a value

-- the first page of a chain that stands says the length of the value
pub whole_written : (size : ℕ) (h : List ℕ) (k : RecordKey) (n : ℕ) (value pages : List ℕ) → length k.bytes ≡ 24 → 48 < size → n < 2 ^ 32 → 1 ≤ length pages → All (PartStands size h) (chain_parts (size - 48) k n 0 value pages) → whole_of (page_at size h (first_of_pages pages)) ≡ Some n
whole_written size h k n value [] wide block small some parts = absurd (omega (arith, some))
whole_written size h k n value (p ∷ pages) wide block small some parts =
    let next = first_of_pages pages in
    let page = page_at size h p in
    let piece = take (size - 48) value in
    let first : PartStands size h (p, chain_head k n 0 next ++ piece) = All-head (PartStands size h) (p, chain_head k n 0 next ++ piece) (chain_parts (size - 48) k n 1 (drop (size - 48) value) pages) parts in
    cond-false (ltb (length page) 29) None (Some (number w32 25 page)) (le-ltb (length page) 29 (omega (arith, length_page size h p first.inside, block)))
    ∙ ap (λ (m : ℕ). Some m) (whole_read k n 0 next page (drop 48 page) wide small (page_front size h p (chain_head k n 0 next) piece block (length_chain_head k n 0 next wide) first))
