-- The words of `state`, as a slice has them.
use Rattle.std.proofs.Common.{◌≡◌, ◌≤◌, ◌-◌, ◌∙◌, ◌∷◌, ℕ, Bool, true, List, [], ap, arith, sym, map, take, drop, length, get_or}
use Rattle.std.specs.Prelude.{codes}
use Rattle.kd_base.specs.ToolsLaws.{behind}
use Rattle.script_read.specs.Script.{same}
use Rattle.call_parts.specs.Words.{base_of}
use Rattle.carry_cli.specs.Words.{state_by, state_of}

pub state_then : {S : Type 0} (bytes : S → List ℕ) (words : List S) (word : S) → 1 ≤ length words → word ≡ get_or words 0 word → same (bytes word) (codes "state") ≡ true → state_of (map bytes words) ≡ base_of (map bytes (take (length words - 1) (drop 1 words)))
state_then bytes [] word some is spelled = absurd (omega (arith, some))
state_then {S} bytes (w ∷ ws) word some is spelled =
    ap (λ (b : Bool). state_by b (map bytes ws)) (ap (λ (x : S). same (bytes x) (codes "state")) (sym is) ∙ spelled) ∙ sym (ap (λ (l : List S). base_of (map bytes l)) (behind 1 (w ∷ ws)))
