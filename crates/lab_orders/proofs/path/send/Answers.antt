use Rattle.std.proofs.Common.{◌≡◌, ℕ, ◌+◌, ◌<◌, ◌≤◌, List, ◌∷◌, ◌++◌, length, drop, get_or, sym, ap, ◌∙◌, append_assoc, arith}
use Rattle.std.proofs.lemmas.List.{append-nil, drop_all, drop_more}
use Rattle.kdcs_types.specs.declared.act.Act.{Act}
use Rattle.kdcs_types.specs.declared.act.Act.TheVariants.{Commit, Emit}
use Rattle.kdcs_types.specs.declared.act.Changes.{Changes}
use Rattle.abstract_monitor.specs.Trace.{bytes_of}
use Rattle.lab_orders.proofs.path.send.Goals as goal
use Rattle.lab_orders.proofs.path.send.Goals.{in-Commit, in-Emit+in_ok-append-in-Emit}

-- the act at i, and those behind it
module _ (acts : List Act) (i : ℕ) (act : Act) (is : act ≡ get_or acts i act) (lt : i < length acts) where
  here : (x : Act) → act ≡ x → drop i acts ≡ x ∷ drop (i + 1) acts
  here x same = drop_more acts i act lt ∙ ap (λ (a : Act). a ∷ drop (i + 1) acts) (sym is ∙ same)

  sent_at_commit : (changes : Changes) → act ≡ Commit changes → bytes_of (drop i acts) ≡ bytes_of (drop (i + 1) acts)
  unfolding bytes_of
  sent_at_commit changes e = ap bytes_of (here (Commit changes) e)

  sent_at_emit : (line : List ℕ) → act ≡ Emit line → bytes_of (drop i acts) ≡ line ++ bytes_of (drop (i + 1) acts)
  unfolding bytes_of
  sent_at_emit line e = ap bytes_of (here (Emit line) e)

no_bytes : (sent : List ℕ) (acts : List Act) (i : ℕ) → length acts ≤ i → sent ++ bytes_of (drop i acts) ≡ sent
unfolding bytes_of
no_bytes sent acts i over = ap (λ (l : List Act). sent ++ bytes_of l) (drop_all i acts over) ∙ append-nil sent

pub loop-act-preserved : goal.loop-act-preserved
loop-act-preserved c =
    let rest = bytes_of (drop (c.loop-act.act-index + 1) c.args.acts.now) in
    elim c.match-act.branch [
      | in-Commit w ↦
          ap (λ (b : List ℕ). b ++ rest) w.sent-is
          ∙ ap (λ (b : List ℕ). c.loop-act.sent ++ b) (sym (sent_at_commit c.args.acts.now c.loop-act.act-index c.act-item.result c.act-item.is c.loop-act-test.true w.in-Commit.field-0 w.in-Commit.is))
          ∙ c.loop-act.invariant
      | in-Emit+in_ok-append-in-Emit w ↦
          ap (λ (b : List ℕ). b ++ rest) (w.sent-is ∙ w.in_ok-append-in-Emit.ensures.ok ∙ ap (λ (b : List ℕ). c.loop-act.sent ++ b) w.as_slice.ensures)
          ∙ append_assoc c.loop-act.sent w.in-Emit.line rest
          ∙ ap (λ (b : List ℕ). c.loop-act.sent ++ b) (sym (sent_at_emit c.args.acts.now c.loop-act.act-index c.act-item.result c.act-item.is c.loop-act-test.true w.in-Emit.line w.in-Emit.is))
          ∙ c.loop-act.invariant
    ]

pub returns : goal.returns
returns c = sym (no_bytes c.loop-act.sent c.args.acts.now c.loop-act.act-index (omega arith)) ∙ c.loop-act.invariant
