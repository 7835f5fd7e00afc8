use Rattle.std.proofs.Common.{◌∙◌, ap, sym, List, ℕ}
use Rattle.std.specs.Prelude.{Some}
use Rattle.std.specs.Str.{bytes_eq}
use Rattle.kd_device.proofs.Named.{found, passed}
use Rattle.kd_device.proofs.memory_room.text_named.Goals as goal

pub loop-key-preserved : goal.loop-key-preserved
loop-key-preserved c =
    let item = c.loop-key-item.result in
    let name = ap (λ (key : List ℕ). bytes_eq c.args.name.now key) (c.as_slice.ensures ∙ ap (λ (p : List ℕ × List ℕ). p.0) c.loop-key-item.is) in
    c.loop-key.invariant ∙ passed c.args.name.now c.args.texts.now c.loop-key.key-index item c.loop-key-test.true (sym name ∙ sym c.if-eq.ensures)

pub returns-then-eq : goal.returns-then-eq
returns-then-eq c =
    let item = c.loop-key-item.result in
    let name = ap (λ (key : List ℕ). bytes_eq c.args.name.now key) (c.as_slice.ensures ∙ ap (λ (p : List ℕ × List ℕ). p.0) c.loop-key-item.is) in
    ap (λ (p : List ℕ × List ℕ). Some p.1) c.loop-key-item.is
    ∙ sym (found c.args.name.now c.args.texts.now c.loop-key.key-index item c.loop-key-test.true (sym name ∙ sym c.if-eq.ensures)) ∙ sym c.loop-key.invariant
