use Rattle.std.proofs.Common.{◌≡◌, ◌∙◌, ⊎_elim, ◌+◌, ◌*◌, ◌++◌, List, ℕ, Option, Some, None, get_or, refl, subst, sym, ap}
use Rattle.std.specs.Prelude.{IsTrue}
use Rattle.std.specs.Option.{option_map}
use Rattle.kdcfile_layout.specs.Fields.{AreBytes}
use Rattle.kdcfile_layout.specs.Layout.{slots_in_page}
use Rattle.kdcfile_layout.specs.declared.kdcfile_read.slot.First.{First}
use Rattle.kdcfile_layout.specs.Chains.{page_at}
use Rattle.kdcfile_load.specs.Reads.{slots_at, after_page, AreFirsts}
use Rattle.kdcfile_load.proofs.FirstsLaws.{more_firsts}
use Rattle.kdcfile_load.proofs.RestedLaws.{rested_then}
use Rattle.kdcfile_load.proofs.Choices.{not_failed, of_some}
use Rattle.kdcfile_load.proofs.StepsLaws.{step_end, step_fails, step_goes, one_of_more}
use Rattle.kdcfile_load.proofs.directory.read_directory.Goals as goal

-- a page that is read now is one of the file as it was
read_before : (size count p : ℕ) (h now : List ℕ) (o q : Option (List (Option First))) → now ≡ h → o ≡ slots_at size count now p → o ≡ q → slots_at size count h p ≡ q
read_before size count p h now o q same is e = ap (λ (l : List ℕ). slots_at size count l p) (sym same) ∙ sym is ∙ e

stepped : (size count p : ℕ) (h : List ℕ) (slots : List (Option First)) (o : Option (List (Option First))) → slots_at size count h p ≡ o → after_page size count h slots p ≡ option_map (λ more. slots ++ more) o
stepped size count p h slots o e = ap (λ (x : Option (List (Option First))). option_map (λ (more : List (Option First)). slots ++ more) x) e

some_slots : (a b : List (Option First)) → a ≡ b → ◌≡◌ {A = Option (List (Option First))} (Some a) (Some b)
some_slots a b e = ap (λ (x : List (Option First)). Some x) e

pub returns-in_default-clause-value : goal.returns-in_default-clause-value
returns-in_default-clause-value g c = λ told.
    let before = c.loop-page.invariant.rested in
    let p = get_or c.args.directory.now c.loop-page.page-index 0 in
    sym (step_fails (after_page c.args.size c.args.count (g.D.Device.state c.args.device.now).holds) c.loop-page.slots c.args.directory.now c.loop-page.page-index p 0 c.loop-page-test.true refl
    (stepped c.args.size c.args.count p (g.D.Device.state c.args.device.now).holds c.loop-page.slots None
    (read_before c.args.size c.args.count p (g.D.Device.state c.args.device.now).holds (g.D.Device.state c.loop-page.device).holds c.in_ok-more.field-0 None (before.rests told).holds (c.in_ok-more.ensures.value (before.frame.told ∙ told)) c.in_default.is)))
    ∙ c.loop-page.invariant.so_far told

pub loop-page-preserved : goal.loop-page-preserved
loop-page-preserved g c = record {
  rested = rested_then _ _ _ _ c.loop-page.invariant.rested _ _ c.slots_at.ensures.frame c.slots_at.ensures.names (c.in_ok-more.ensures.fine (λ e. not_failed e)) c.slots_at.ensures.rests;
  are =
      subst (λ (s : List (Option First)). AreFirsts ((c.loop-page.page-index + 1) * slots_in_page c.args.size) s) (sym (c.in_ok-append.ensures ∙ ap (λ (s : List (Option First)). c.loop-page.slots ++ s) c.as_slice.ensures))
      (more_firsts c.loop-page.page-index (slots_in_page c.args.size) c.loop-page.slots c.in-Some.more c.loop-page.invariant.are (of_some (λ s. AreFirsts (slots_in_page c.args.size) s) c.in_ok-more.field-0 c.in-Some.more c.in_ok-more.ensures.slots c.in-Some.is));
  bytes = λ told k q at.
      ⊎_elim
      (λ front. c.loop-page.invariant.bytes told k q front)
      (λ here.
      subst (λ (x : ℕ). AreBytes (page_at c.args.size (g.D.Device.state c.args.device.now).holds x)) here
      (subst (λ (h : List ℕ). AreBytes (page_at c.args.size h (get_or c.args.directory.now c.loop-page.page-index 0))) (c.loop-page.invariant.rested.rests told).holds
      (of_some (λ s. IsTrue (g.D.Device.state c.loop-page.device).told → AreBytes (page_at c.args.size (g.D.Device.state c.loop-page.device).holds (get_or c.args.directory.now c.loop-page.page-index 0))) c.in_ok-more.field-0 c.in-Some.more c.in_ok-more.ensures.bytes c.in-Some.is (c.loop-page.invariant.rested.frame.told ∙ told))))
      (one_of_more c.args.directory.now c.loop-page.page-index k (get_or c.args.directory.now c.loop-page.page-index 0) q 0 c.loop-page-test.true refl at);
  so_far = λ told.
      let before = c.loop-page.invariant.rested in
      let p = get_or c.args.directory.now c.loop-page.page-index 0 in
      sym (step_goes (after_page c.args.size c.args.count (g.D.Device.state c.args.device.now).holds) c.loop-page.slots c.args.directory.now c.loop-page.page-index p 0 c.loop-page-test.true refl c.append.new.to
      (stepped c.args.size c.args.count p (g.D.Device.state c.args.device.now).holds c.loop-page.slots (Some c.in-Some.more)
      (read_before c.args.size c.args.count p (g.D.Device.state c.args.device.now).holds (g.D.Device.state c.loop-page.device).holds c.in_ok-more.field-0 (Some c.in-Some.more) (before.rests told).holds (c.in_ok-more.ensures.value (before.frame.told ∙ told)) c.in-Some.is)
      ∙ some_slots (c.loop-page.slots ++ c.in-Some.more) c.append.new.to (sym (c.in_ok-append.ensures ∙ ap (λ (s : List (Option First)). c.loop-page.slots ++ s) c.as_slice.ensures))))
      ∙ c.loop-page.invariant.so_far told;
}

pub returns-clause-value : goal.returns-clause-value
returns-clause-value g c = λ told. sym (step_end (after_page c.args.size c.args.count (g.D.Device.state c.args.device.now).holds) c.loop-page.slots c.args.directory.now c.loop-page.page-index c.loop-page-test.false) ∙ c.loop-page.invariant.so_far told
