use Rattle.std.proofs.Common.{◌∙◌, ℕ, take, drop, subst, sym, ap}
use Rattle.std.specs.Prelude.{IsTrue}
use Rattle.kdcfile_layout.specs.Fields.{AreBytes}
use Rattle.kdcfile_layout.specs.Layout.{slots_in_page}
use Rattle.kdcfile_load.specs.Reads.{AreFirsts}
use Rattle.kdcfile_layout.specs.Chains.{page_at}
use Rattle.kdcfile_load.proofs.Choices.{some_then}
use Rattle.kdcfile_load.proofs.FirstsLaws.{firsts_of}
use Rattle.kdcfile_load.proofs.directory.slots_at.Goals as goal

pub returns-clause-slots : goal.returns-clause-slots
returns-clause-slots g c =
    some_then (λ s. AreFirsts (slots_in_page c.args.size) s) c.in_ok-slots_of.field-0
    (λ s e. firsts_of (slots_in_page c.args.size) c.as_slice.result.now s c.in_ok-slots_of.ensures.bytes (sym c.in_ok-slots_of.ensures.value ∙ e))

pub returns-clause-bytes : goal.returns-clause-bytes
returns-clause-bytes g c =
    some_then (λ s. IsTrue (g.D.Device.state c.args.device.now).told → AreBytes (page_at c.args.size (g.D.Device.state c.args.device.now).holds c.args.page)) c.in_ok-slots_of.field-0
    (λ s e told. subst AreBytes (c.as_slice.ensures.value ∙ c.in_ok-bytes.ensures.value told ∙ ap (λ (p : ℕ). take c.args.size (drop p (g.D.Device.state c.args.device.now).holds)) c.page_place.ensures) c.in_ok-slots_of.ensures.bytes)
