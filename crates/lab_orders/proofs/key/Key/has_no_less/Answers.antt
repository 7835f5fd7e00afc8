use Rattle.std.proofs.Common.{◌≡◌, ◌≤◌, sym, ap, ◌∙◌}
use Rattle.std.specs.Prelude.{true}
use Rattle.std.specs.Cmp.{booleans_Decides}
use Rattle.std.proofs.lemmas.Bool.{eqb-true, leb-true, true≢false}
use Rattle.std.proofs.lemmas.Slice.Eq.{bytes_eq-Decides, slice_eq-Decides}
use Rattle.lab_walks.specs.declared.signs.Signs.{Signs}
use Rattle.lab_orders.proofs.Exploring.{signs_equal}
use Rattle.lab_orders.proofs.key.Key.has_no_less.Goals as goal
use Rattle.lab_orders.proofs.key.Key.has_no_less.Goals.{then-self-other, else-self-other, then-self-other-2, else-self-other-2, then-self-other-3, else-self-other-3, then-self-other-4, else-self-other-4, then-eq, else-eq}

pub returns-then-eq-2 : goal.returns-then-eq-2
returns-then-eq-2 c same =
    let k = c.args.self.now in
    let l = c.args.other.now in
    let lines = elim c.if-eq.branch as (λ _. (k.lines ≡ l.lines) × (c.if-self-other-4.value ≡ true)) [
      | then-eq w ↦ ((sym w.as_slice.ensures ∙ (slice_eq-Decides bytes_eq-Decides _ _ _ w.eq-then-eq.ensures).0 (sym w.value-is ∙ c.if-eq-2.true) ∙ w.as_slice-then-eq.ensures), w.if-eq.true)
      | else-eq w ↦ absurd (true≢false (sym c.if-eq-2.true ∙ w.value-is ∙ w.if-eq.false))
    ] in
    let signs = elim c.if-self-other-4.branch as (λ _. (k.signs ≡ l.signs) × (c.if-self-other-3.value ≡ true)) [
      | then-self-other-4 w ↦ (signs_equal _ _ (sym w.eq.ensures ∙ sym w.value-is ∙ lines.1), w.if-self-other-4.true)
      | else-self-other-4 w ↦ absurd (true≢false (sym lines.1 ∙ w.value-is ∙ w.if-self-other-4.false))
    ] in
    let serial = elim c.if-self-other-3.branch as (λ _. (k.serial ≡ l.serial) × (c.if-self-other-2.value ≡ true)) [
      | then-self-other-3 w ↦ ((booleans_Decides k.serial l.serial).0 (sym w.value-is ∙ signs.1), w.if-self-other-3.true)
      | else-self-other-3 w ↦ absurd (true≢false (sym signs.1 ∙ w.value-is ∙ w.if-self-other-3.false))
    ] in
    let room = elim c.if-self-other-2.branch as (λ _. (l.room ≤ k.room) × (c.if-self-other.value ≡ true)) [
      | then-self-other-2 w ↦ (leb-true l.room k.room (sym w.value-is ∙ serial.1), w.if-self-other-2.true)
      | else-self-other-2 w ↦ absurd (true≢false (sym serial.1 ∙ w.value-is ∙ w.if-self-other-2.false))
    ] in
    let place = elim c.if-self-other.branch as (λ _. (k.behind ≡ l.behind) × (k.left ≡ l.left)) [
      | then-self-other w ↦ (eqb-true k.behind l.behind (sym w.value-is ∙ room.1), w.if-self-other.true)
      | else-self-other w ↦ absurd (w.if-self-other.false (eqb-true k.left l.left (sym w.value-is ∙ room.1)))
    ] in
    record {
      left = place.1;
      behind = place.0;
      outline = c.is_same.ensures same;
      lines = lines.0;
      k04 = ap (λ (x : Signs). x.k04) signs.0;
      k05 = ap (λ (x : Signs). x.k05) signs.0;
      dump = ap (λ (x : Signs). x.dump) signs.0;
      serial = serial.0;
      room = room.0;
    }
