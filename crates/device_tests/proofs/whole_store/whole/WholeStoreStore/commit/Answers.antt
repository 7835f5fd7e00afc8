use Rattle.std.proofs.Common.{◌≡◌, ◌≤◌, ◌+◌, ◌∙◌, sym, ap, subst, ◌<◌, ◌^◌, arith}
use Rattle.std.specs.Prelude.{sum_by}
use Rattle.kd_records.specs.declared.content.Content.{Content}
use Rattle.kd_records.specs.Charged.{record_length}
use Rattle.kd_records.specs.Contents.{IsContent, patched}
use Rattle.kd_records.specs.ContentLaws.{patch_keeps_content}
use Rattle.device_tests.specs.Whole.{Whole}
use Rattle.device_tests.proofs.whole_store.whole.WholeStoreStore.commit.Goals as goal

pub write_content-requires-clause-fits : goal.write_content-requires-clause-fits
write_content-requires-clause-fits g c = λ told.
    let i = c.args.self.now.identity in
    let x = c.args.self.now.content in
    let p = c.args.patch.now in
    let file = (c.requires.kept told).bytes in
    let made : c.in_ok-next.next ≡ patched x p = c.in_ok-next.ensures.content ∙ ap (λ (y : Content). patched y p) (ap (λ (s : Whole). s.content) c.self.view_is) in
    let clock : p.clock < 2 ^ 64 = omega (arith, c.in_ok-next.ensures.clock, ap (λ (y : Content). y.clock) made) in
    let next_job : p.next_job < 2 ^ 64 = omega (arith, c.in_ok-next.ensures.next_job, ap (λ (y : Content). y.next_job) made) in
    subst IsContent (sym made) (patch_keeps_content i.blksize i.pages x p file.identity.blksize file.identity.most file.content c.requires.patch clock next_job c.requires.charge_after)

pub returns-in_err-write_content-clause-put_most : goal.returns-in_err-write_content-clause-put_most
returns-in_err-write_content-clause-put_most g c = λ told.
    let made = c.in_ok-next.ensures.content ∙ ap (λ (s : Whole). patched s.content c.args.patch.now) c.self.view_is in
    subst (λ (y : Content). (g.D.Device.state c.write_content.new.device).put ≤ (g.D.Device.state c.args.device.now).put + (sum_by record_length y.items + 65)) made (c.write_content.ensures.put_most told)

pub returns-clause-put_most : goal.returns-clause-put_most
returns-clause-put_most g c = λ told.
    let made = c.in_ok-next.ensures.content ∙ ap (λ (s : Whole). patched s.content c.args.patch.now) c.self.view_is in
    subst (λ (y : Content). (g.D.Device.state c.write_content.new.device).put ≤ (g.D.Device.state c.args.device.now).put + (sum_by record_length y.items + 65)) made (c.write_content.ensures.put_most told)
