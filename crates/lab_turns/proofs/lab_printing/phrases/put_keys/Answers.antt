use Rattle.std.proofs.Common.{◌≡◌, ℕ, List, ◌++◌, ap, append_assoc, subst, ◌∙◌}
use Rattle.std.specs.Prelude.{OnOk, codes, decimal}
use Rattle.lab_turns.proofs.Changed.{no_row}
use Rattle.lab_turns.proofs.lab_printing.phrases.put_keys.Goals as goal

pub returns-in-empty : goal.returns-in-empty
returns-in-empty c =
    subst (λ (text : List ℕ). OnOk c.put_count.result (c.put_count.new.out ≡ text))
    (append_assoc c.args.out.now (codes "no row, CLOCK ") (decimal c.args.clock) ∙ ap (λ (text : List ℕ). c.args.out.now ++ text) (no_row c.args.clock c.args.changes.now c.in-empty.len_below))
    c.put_count.ensures
