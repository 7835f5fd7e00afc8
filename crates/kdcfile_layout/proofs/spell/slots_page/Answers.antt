use Rattle.std.proofs.Common.{◌≡◌, ℕ, ◌+◌, ◌-◌, ◌*◌, ◌<◌, ◌≤◌, List, [], ◌∷◌, ◌++◌, length, take, drop, get_or, Option, Some, None, refl, ap, sym, subst, ◌∙◌, arith, append_assoc, length-append}
use Rattle.std.specs.List.{flat_map}
use Rattle.std.proofs.Math.Seq.{drop-append-add}
use Rattle.std.proofs.lemmas.List.{append-nil, take_at, take_more}
use Rattle.std.proofs.lemmas.Grind.{flat_map-append}
use Rattle.kdcfile_layout.specs.declared.chain.Chain.{Chain}
use Rattle.kdcfile_layout.specs.Layout.{zeros, spelled_slot}
use Rattle.kdcfile_layout.specs.PagesLaws.{length_zeros}
use Rattle.kdcfile_layout.proofs.Zeros.{zeros_then, zeros_left}
use Rattle.kdcfile_layout.proofs.spell.slots_page.Goals as goal

-- zero bytes after a slot that is put where zero bytes are
put_there : (front : List ℕ) (m : ℕ) (slot : Option Chain) (old new : List ℕ) → 32 ≤ m → old ≡ front ++ zeros m → (slot ≡ None → new ≡ old) → ((c : Chain) → slot ≡ Some c → new ≡ take (length front) old ++ spelled_slot slot ++ drop (length front + 32) old) → new ≡ (front ++ spelled_slot slot) ++ zeros (m - 32)
unfolding spelled_slot
put_there front m None old new enough was none some =
    none refl ∙ was ∙ ap (λ (l : List ℕ). front ++ l) (ap (λ (n : ℕ). zeros n) (omega (arith, enough)) ∙ sym (zeros_then 32 (m - 32))) ∙ sym (append_assoc front (zeros 32) (zeros (m - 32)))
put_there front m (Some c) old new enough was none some =
    some c refl
    ∙ ap (λ (l : List ℕ). take (length front) l ++ spelled_slot (Some c) ++ drop (length front + 32) l) was
    ∙ ap (λ (l : List ℕ). l ++ spelled_slot (Some c) ++ drop (length front + 32) (front ++ zeros m)) (take_at front (zeros m) (length front) refl)
    ∙ ap (λ (l : List ℕ). front ++ spelled_slot (Some c) ++ l) (drop-append-add front (zeros m) 32 ∙ zeros_left 32 m)

pub put_slot-requires : goal.put_slot-requires
put_slot-requires c = omega (arith, ap (λ (l : List ℕ). length l) c.loop-n.invariant.bytes, length-append (flat_map spelled_slot (take c.loop-n.n c.args.slots.now)) (zeros (c.args.size - 32 * c.loop-n.n)), length_zeros (c.args.size - 32 * c.loop-n.n), c.loop-n.invariant.length, c.loop-n-test.true, c.requires.fits)

-- a slot has 32 bytes
slot_length : (slot : Option Chain) → ((c : Chain) → slot ≡ Some c → length (spelled_slot slot) ≡ 32) → length (spelled_slot slot) ≡ 32
unfolding spelled_slot
slot_length None some = length_zeros 32
slot_length (Some c) some = some c refl

-- the bytes of one slot more
one_more : (slots : List (Option Chain)) (n : ℕ) (slot : Option Chain) → n < length slots → slot ≡ get_or slots n slot → flat_map spelled_slot (take (n + 1) slots) ≡ flat_map spelled_slot (take n slots) ++ spelled_slot slot
one_more slots n slot lt is =
    ap (λ (l : List (Option Chain)). flat_map spelled_slot l) (take_more slots n slot lt ∙ ap (λ (o : Option Chain). take n slots ++ o ∷ []) (sym is))
    ∙ flat_map-append spelled_slot (take n slots) (slot ∷ [])
    ∙ ap (λ (l : List ℕ). flat_map spelled_slot (take n slots) ++ l) (append-nil (spelled_slot slot))

pub loop-n-preserved : goal.loop-n-preserved
loop-n-preserved c =
    let slot : Option Chain = c.index-slots-n.result in
    let front : List ℕ = flat_map spelled_slot (take c.loop-n.n c.args.slots.now) in
    let left : ℕ = c.args.size - 32 * c.loop-n.n in
    let old : List ℕ = c.loop-n.page.items in
    let new : List ℕ = c.put_slot.new.page.items in
    let more = one_more c.args.slots.now c.loop-n.n slot c.loop-n-test.true c.index-slots-n.is in
    let long : length (spelled_slot slot) ≡ 32 = slot_length slot c.put_slot.ensures.length in
    record {
      bytes =
          put_there front left slot old new (omega (arith, c.loop-n-test.true, c.requires.fits)) c.loop-n.invariant.bytes c.put_slot.ensures.none
          (λ d e. subst (λ (at : ℕ). new ≡ take at old ++ spelled_slot slot ++ drop (at + 32) old) (sym c.loop-n.invariant.length) (c.put_slot.ensures.some d e))
          ∙ ap (λ (l : List ℕ). l ++ zeros (left - 32)) (sym more)
          ∙ ap (λ (n : ℕ). flat_map spelled_slot (take (c.loop-n.n + 1) c.args.slots.now) ++ zeros n) (omega arith);
      length = ap (λ (l : List ℕ). length l) more ∙ omega (arith, length-append front (spelled_slot slot), long, c.loop-n.invariant.length);
    }
