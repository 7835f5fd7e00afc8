use Rattle.std.proofs.Common.{◌≡◌, ◌+◌, ◌<◌, ◌++◌, ℕ, List, length, drop, get_or, ap, sym, ◌∙◌, append_assoc}
use Rattle.std.proofs.lemmas.List.{at_drop_more}
use Rattle.abstract_monitor.specs.Bytes.{Bytes}
use Rattle.abstract_monitor.specs.Endings.{joined}
use Rattle.open_transaction.proofs.open.OpenTransaction.message.Goals as goal

one_more_part : (done part message : Bytes) (parts : List Bytes) (i : ℕ) → i < length parts → part ≡ get_or parts i part → done ++ joined (drop i parts) ≡ message → (done ++ part) ++ joined (drop (i + 1) parts) ≡ message
one_more_part done part message parts i h is so_far =
    append_assoc done part (joined (drop (i + 1) parts))
    ∙ ap (λ (p : Bytes). done ++ (p ++ joined (drop (i + 1) parts))) is
    ∙ sym (ap (λ (b : Bytes). done ++ b) (at_drop_more joined parts i part h))
    ∙ so_far

pub loop-part-preserved : goal.loop-part-preserved
loop-part-preserved c = rw c.in_ok-append.ensures.ok (rw c.as_slice.ensures (one_more_part _ _ _ _ _ c.loop-part-test.true c.part-item.is c.loop-part.invariant))
