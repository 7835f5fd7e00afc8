use Rattle.std.proofs.Common.{◌≡◌, ℕ, List, ◌++◌, length, take, drop, rules, refl, sym, ◌∙◌, ap, subst}
use Rattle.std.specs.Prelude.{replicate}
use Rattle.std.proofs.Math.Seq.{take-append_seam}
use Rattle.std.proofs.lemmas.List.{drop-replicate}
use Rattle.kd_base.specs.Text.{IsNameUpTo}
use Rattle.kd_base.specs.NameCells.{IsNameCells}
use Rattle.kd_base.proofs.name.NameOf.from_bytes.Goals as goal

cells_are : (most : ℕ) (bytes : List ℕ) → IsNameUpTo most bytes → IsNameCells most (record { cells = bytes ++ drop (length bytes) (replicate most 32); used = length bytes })
cells_are most bytes h =
    let front : take (length bytes) (bytes ++ drop (length bytes) (replicate most 32)) ≡ bytes = take-append_seam bytes (drop (length bytes) (replicate most 32)) in
    record {
      used = ap length front;
      rest = rw (drop-replicate {X = ℕ} (length bytes) most 32, take-append_seam) refl;
      name = subst (IsNameUpTo most) (sym front) h;
    }

pub invariant_of-result : goal.invariant_of-result
invariant_of-result g c =
    rw c.copy_from_slice.ensures.after (cells_are g.row.N c.args.bytes.now (search rules, search rules, sym c.are_name_bytes.ensures ∙ c.if-not-are_name_bytes.false))
