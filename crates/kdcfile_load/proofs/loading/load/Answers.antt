use Rattle.std.proofs.Common.{◌∙◌, List, ℕ, subst}
use Rattle.std.specs.Prelude.{IsTrue}
use Rattle.kdcfile_layout.specs.Layout.{IsNoImage}
use Rattle.kdcfile_load.proofs.Choices.{of_none}
use Rattle.kdcfile_load.proofs.loading.load.Goals as goal

pub returns-in-None-clause-none : goal.returns-in-None-clause-none
returns-in-None-clause-none g c = λ _ told.
    subst (λ (l : List ℕ). IsNoImage l) (c.in_ok-bring_to_rest.ensures.rests told).holds
    (of_none (IsTrue (g.D.Device.state c.bring_to_rest.new.device).told → IsNoImage (g.D.Device.state c.bring_to_rest.new.device).holds) c.in_ok-loaded.field-0 c.in_ok-loaded.ensures.none c.in-None.is (c.in_ok-bring_to_rest.ensures.frame.told ∙ told))
