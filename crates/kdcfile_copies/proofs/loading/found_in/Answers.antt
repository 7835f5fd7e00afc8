use Rattle.std.proofs.Common.{refl, subst}
use Rattle.kdcfile_copies.specs.Copies.{HasSequence}
use Rattle.kd_records.specs.declared.content.Content.{Content}
use Rattle.kdcfile_copies.proofs.Told.{loaded}
use Rattle.kdcfile_copies.proofs.loading.found_in.Goals as goal

pub returns-in-Some : goal.returns-in-Some
returns-in-Some c =
    (refl, loaded c.args.store c.in-Some.sequence c.is_in_order.ensures (subst (λ (x : Content). HasSequence c.in-Some.sequence x) c.kept.ensures c.in-Some.ensures.some))
