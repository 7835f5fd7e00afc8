-- The literals of the made input are the defined texts, and its script is made round by round.
use Rattle.std.proofs.Common.{◌≡◌, refl, sym, ap, ◌∙◌, ℕ, suc, ◌+◌, ◌-◌, ◌<◌, Bool, true, false, List, [], ◌∷◌, ◌++◌, append_assoc, arith, Result, Ok, Err}
use Rattle.std.proofs.lemmas.List.{append-nil}
use Rattle.std.specs.Prelude.{OnOk, cond, flat_map, codes, ◌%◌, ◌==◌, ◌||◌}
use Rattle.std.specs.Fmt.{digits}
use Rattle.abstract_monitor.specs.Bytes.{Bytes}
use Rattle.abstract_monitor.specs.Made.{for_four, sign_on_command, when, made_round, made_rounds}
use Rattle.abstract_monitor.specs.declared.command.Command.{Command}
use Rattle.abstract_monitor.specs.declared.command.Command.TheVariants.{Run, Tick}
use Rattle.call_parts.specs.MadeTexts.{definition_text, command_line, input_line, script_text}

pub definition_is : codes "MAX APPLINAME=MAKE,TASKS=2,KB=16,SPAB=64,NB=80,PGPOOL=64,BLKSIZE=2K\nPROGRAM ADD\nPROGRAM TALLY\nTAC ADD,PROGRAM=ADD\nTAC TALLY,PROGRAM=TALLY,TYPE=A\nUSER U1\nLTERM L1\nPTERM P1,LTERM=L1\nUSER U2\nLTERM L2\nPTERM P2,LTERM=L2\nUSER U3\nLTERM L3\nPTERM P3,LTERM=L3\nUSER U4\nLTERM L4\nPTERM P4,LTERM=L4\nEND\n" ≡ definition_text
unfolding digits
definition_is = refl

pub sign_ons_are : codes "IN P1 KDCSIGN U1\nIN P2 KDCSIGN U2\nIN P3 KDCSIGN U3\nIN P4 KDCSIGN U4\n" ≡ flat_map command_line (for_four sign_on_command)
unfolding digits
sign_ons_are = refl

both : (a b : Bool) → flat_map command_line (when a (Run 100) ++ when b (Tick 1)) ≡ cond a (codes "RUN 100\n") [] ++ cond b (codes "TICK 1\n") []
unfolding digits
both true true = refl
both true false = refl
both false true = refl
both false false = refl

round_is : (all i : ℕ) → flat_map command_line (made_round all i) ≡ input_line i ++ (cond (i % 2 == 0 || i == all) (codes "RUN 100\n") [] ++ cond (i % 100 == 0) (codes "TICK 1\n") [])
round_is all i = ap (λ (l : Bytes). input_line i ++ l) (both (i % 2 == 0 || i == all) (i % 100 == 0))

-- ---- round by round

flat_map_joined : (xs ys : List Command) → flat_map command_line (xs ++ ys) ≡ flat_map command_line xs ++ flat_map command_line ys
flat_map_joined [] ys = refl
flat_map_joined (x ∷ xs) ys = ap (λ (l : Bytes). command_line x ++ l) (flat_map_joined xs ys) ∙ sym (append_assoc (command_line x) (flat_map command_line xs) (flat_map command_line ys))

-- the lines of so many inputs from this one on
abbrev pub rounds_left : (all left i : ℕ) → Bytes
rounds_left all left i = flat_map command_line (made_rounds all left i)

pub begins : (n : ℕ) (out : Bytes) → out ≡ codes "IN P1 KDCSIGN U1\nIN P2 KDCSIGN U2\nIN P3 KDCSIGN U3\nIN P4 KDCSIGN U4\n" → out ++ rounds_left n (n - 0) (0 + 1) ≡ script_text n
begins n out is =
    let all : n - 0 ≡ n = omega arith in
    ap (λ k. out ++ rounds_left n k 1) all ∙ ap (λ (l : Bytes). l ++ rounds_left n n 1) (is ∙ sign_ons_are) ∙ sym (flat_map_joined (for_four sign_on_command) (made_rounds n n 1))

one_more : (all left i : ℕ) → rounds_left all (suc left) i ≡ flat_map command_line (made_round all i) ++ rounds_left all left (i + 1)
unfolding made_rounds
one_more all left i = flat_map_joined (made_round all i) (made_rounds all left (i + 1))

none_left : (all i : ℕ) → rounds_left all 0 i ≡ []
unfolding made_rounds
none_left all i = refl

pub one_round : (n done : ℕ) (out more : Bytes) → done < n → more ≡ out ++ flat_map command_line (made_round n (done + 1)) → out ++ rounds_left n (n - done) (done + 1) ≡ script_text n → more ++ rounds_left n (n - (done + 1)) (done + 1 + 1) ≡ script_text n
one_round n done out more less is inv =
    let left : n - done ≡ suc (n - (done + 1)) = omega (arith, less) in
    let next = ap (λ k. rounds_left n k (done + 1)) left ∙ one_more n (n - (done + 1)) (done + 1) in
    ap (λ (l : Bytes). l ++ rounds_left n (n - (done + 1)) (done + 1 + 1)) is
    ∙ append_assoc out (flat_map command_line (made_round n (done + 1))) (rounds_left n (n - (done + 1)) (done + 1 + 1))
    ∙ ap (λ (l : Bytes). out ++ l) (sym next) ∙ inv

pub ends : (n done : ℕ) (out : Bytes) → n - done ≡ 0 → out ++ rounds_left n (n - done) (done + 1) ≡ script_text n → out ≡ script_text n
ends n done out over inv =
    sym (append-nil out) ∙ ap (λ (l : Bytes). out ++ l) (sym (ap (λ k. rounds_left n k (done + 1)) over ∙ none_left n (done + 1))) ∙ inv

-- ---- one round

-- an input, with what follows it
pub round_put : (all i : ℕ) (old one two three : Bytes) → one ≡ old ++ input_line i → (due : Bool) → due ≡ (i % 2 == 0 || i == all) → two ≡ one ++ cond due (codes "RUN 100\n") []
    → {E : Type 0} (r : Result Unit E) → OnOk r (three ≡ two ++ cond (i % 100 == 0) (codes "TICK 1\n") []) → OnOk r (three ≡ old ++ flat_map command_line (made_round all i))
round_put all i old one two three first due is second {E} (Ok x) third =
    let run = cond (i % 2 == 0 || i == all) (codes "RUN 100\n") [] in
    let tick = cond (i % 100 == 0) (codes "TICK 1\n") [] in
    let second_is : two ≡ (old ++ input_line i) ++ run = second ∙ (λ j. first j ++ cond (is j) (codes "RUN 100\n") []) in
    third ∙ ap (λ (l : Bytes). l ++ tick) second_is ∙ ap (λ (l : Bytes). l ++ tick) (append_assoc old (input_line i) run) ∙ append_assoc old (input_line i ++ run) tick
    ∙ ap (λ (l : Bytes). old ++ l) (append_assoc (input_line i) run tick ∙ sym (round_is all i))
round_put all i old one two three first due is second {E} (Err e) third = tt
