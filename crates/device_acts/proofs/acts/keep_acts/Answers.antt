use Rattle.std.proofs.Common.{◌∙◌, ◌∷◌, [], ◌+◌, refl, sym, subst, arith, take, drop}
use Rattle.std.specs.Prelude.{IsTrue}
use Rattle.kd_base.specs.ToolsLaws.{error_same}
use Rattle.kd_records.specs.Identity.{Identity}
use Rattle.kd_records.specs.declared.content.Content.{Content}
use Rattle.kd_device.specs.TimeLaws.{told_after}
use Rattle.device_acts.specs.ErrorsLaws.{other_error}
use Rattle.device_acts.specs.Acting.{WithinActs, WritesWithin, acts_most, content_after, AreCommittable}
use Rattle.device_acts.specs.ActingLaws.{around, halts_within, running_start, act_within, act_more}
use Rattle.device_acts.specs.ContentsLaws.{content_goes, content_more, can_here, can_more}
use Rattle.device_acts.specs.WritingLaws.{contents_add, over_begun, act_begun, act_puts, writes_most}
use Rattle.device_acts.proofs.acts.keep_acts.Goals as goal

pub loop-act-init : goal.loop-act-init
loop-act-init g c = record {
  ready = c.requires.ready;
  identity = refl;
  place = refl;
  content = refl;
  can = c.requires.can;
  put = λ told. omega arith;
  run = running_start g.K.Keeper.fine g.met.K.Keeper.fine_goes content_after content_goes (g.K.Keeper.stands (g.K.Keeper.identity c.args.keeper.now)) (g.K.Keeper.file c.args.keeper.now) (g.K.Keeper.kept c.args.keeper.now) c.args.acts.now (g.K.Keeper.state c.args.keeper.now) (g.K.Keeper.leaves c.args.keeper.now) c.requires.kept;
}

pub do_act-requires-clause-kept : goal.do_act-requires-clause-kept
do_act-requires-clause-kept g c = λ told. c.loop-act.invariant.run.sent.rest (subst IsTrue c.loop-act.invariant.run.within.frame.told told)

pub do_act-requires-clause-can : goal.do_act-requires-clause-can
do_act-requires-clause-can g c =
    let act = c.act-item.result in
    subst (λ (j : Identity). AreCommittable j (g.K.Keeper.kept c.loop-act.keeper) (act ∷ [])) (sym c.loop-act.invariant.identity)
    (can_here (g.K.Keeper.kept c.loop-act.keeper) c.args.acts.now c.loop-act.act-index act c.act-item.is c.loop-act-test.true (g.K.Keeper.identity c.args.keeper.now) c.loop-act.invariant.can)

pub returns-in_err-do_act-clause-any : goal.returns-in_err-do_act-clause-any
returns-in_err-do_act-clause-any g c =
    act_within g.K.Keeper.fine g.met.K.Keeper.fine_goes content_after content_goes _ _ _ _ _ _ _ c.act-item.is c.loop-act-test.true _ _ _ _ _ _ (λ told. c.loop-act.invariant.content) c.loop-act.invariant.run
    (subst (λ (j : Identity). WithinActs content_after (g.K.Keeper.stands j) (g.K.Keeper.kept c.loop-act.keeper) (c.act-item.result ∷ []) (g.K.Keeper.state c.loop-act.keeper) (g.K.Keeper.state c.do_act.new.keeper) (g.K.Keeper.leaves c.loop-act.keeper) (g.K.Keeper.leaves c.do_act.new.keeper)) c.loop-act.invariant.identity c.do_act.ensures.any)

pub returns-in_err-do_act-clause-fine : goal.returns-in_err-do_act-clause-fine
returns-in_err-do_act-clause-fine g c = λ none. g.met.K.Keeper.fine_goes.after _ _ _ c.loop-act.invariant.run.sent.calls (c.in_err-do_act.ensures.fine (other_error _ _ c.from_residual.result c.in_err-do_act.field-0.0 _ c.from_residual.ensures.1 none))

pub returns-clause-fine : goal.returns-clause-fine
returns-clause-fine g c = λ none. c.loop-act.invariant.run.sent.calls

pub loop-act-preserved : goal.loop-act-preserved
loop-act-preserved g c =
    let now = g.K.Keeper.kept c.loop-act.keeper in
    let next = g.K.Keeper.kept c.do_act.new.keeper in
    let i = c.loop-act.act-index in
    let act = c.act-item.result in
    let acts = c.args.acts.now in
    record {
      ready = c.in_ok-do_act.ensures.ready;
      identity = c.do_act.ensures.identity ∙ c.loop-act.invariant.identity;
      place = c.do_act.ensures.place ∙ c.loop-act.invariant.place;
      content = content_more now acts i act c.act-item.is c.loop-act-test.true (g.K.Keeper.kept c.args.keeper.now) next c.loop-act.invariant.content c.in_ok-do_act.ensures.content;
      can = can_more now acts i act c.act-item.is c.loop-act-test.true (g.K.Keeper.identity c.args.keeper.now) next c.loop-act.invariant.can c.in_ok-do_act.ensures.content;
      put = λ told.
          let most = acts_most g.K.Keeper.most_written (g.K.Keeper.identity c.args.keeper.now) in
          let told_now : IsTrue (g.K.Keeper.state c.loop-act.keeper).told = subst IsTrue (sym c.loop-act.invariant.run.within.frame.told) told in
          let left = g.met.K.Keeper.left_now c.do_act.new.keeper (told_after (g.K.Keeper.state c.loop-act.keeper) (g.K.Keeper.state c.do_act.new.keeper) c.do_act.ensures.any.frame told_now) in
          let here : WritesWithin content_after (g.K.Keeper.stands (g.K.Keeper.identity c.args.keeper.now)) now (most now) (act ∷ []) (g.K.Keeper.state c.loop-act.keeper) (g.K.Keeper.state c.do_act.new.keeper) (g.K.Keeper.leaves c.do_act.new.keeper) =
          subst (λ (j : Identity). WritesWithin content_after (g.K.Keeper.stands j) now (acts_most g.K.Keeper.most_written j now) (act ∷ []) (g.K.Keeper.state c.loop-act.keeper) (g.K.Keeper.state c.do_act.new.keeper) (g.K.Keeper.leaves c.do_act.new.keeper)) c.loop-act.invariant.identity c.do_act.ensures.put in
          act_puts content_after content_goes (g.K.Keeper.stands (g.K.Keeper.identity c.args.keeper.now)) most (contents_add g.K.Keeper.most_written (g.K.Keeper.identity c.args.keeper.now)) (g.K.Keeper.kept c.args.keeper.now) now acts i act c.act-item.is c.loop-act-test.true (g.K.Keeper.state c.args.keeper.now) (g.K.Keeper.state c.loop-act.keeper) (g.K.Keeper.state c.do_act.new.keeper)
          c.loop-act.invariant.content (c.loop-act.invariant.put told)
          (writes_most content_after most (contents_add g.K.Keeper.most_written (g.K.Keeper.identity c.args.keeper.now)) now (act ∷ []) (g.K.Keeper.state c.loop-act.keeper) (g.K.Keeper.state c.do_act.new.keeper) (here told_now left.0 left.1).writes);
      run = act_more g.K.Keeper.fine g.met.K.Keeper.fine_goes content_after content_goes _ _ _ _ _ _ _ c.act-item.is c.loop-act-test.true _ _ _ _ _ _ (λ told. c.loop-act.invariant.content) c.loop-act.invariant.run
          (subst (λ (j : Identity). WithinActs content_after (g.K.Keeper.stands j) (g.K.Keeper.kept c.loop-act.keeper) (c.act-item.result ∷ []) (g.K.Keeper.state c.loop-act.keeper) (g.K.Keeper.state c.do_act.new.keeper) (g.K.Keeper.leaves c.loop-act.keeper) (g.K.Keeper.leaves c.do_act.new.keeper)) c.loop-act.invariant.identity c.do_act.ensures.any)
          (g.K.Keeper.file c.do_act.new.keeper) c.in_ok-do_act.ensures.done;
    }

pub returns-in_err-do_act-clause-put : goal.returns-in_err-do_act-clause-put
returns-in_err-do_act-clause-put g c = λ told image left.
    let here : WritesWithin content_after (g.K.Keeper.stands (g.K.Keeper.identity c.args.keeper.now)) (g.K.Keeper.kept c.loop-act.keeper) (acts_most g.K.Keeper.most_written (g.K.Keeper.identity c.args.keeper.now) (g.K.Keeper.kept c.loop-act.keeper)) (c.act-item.result ∷ []) (g.K.Keeper.state c.loop-act.keeper) (g.K.Keeper.state c.do_act.new.keeper) (g.K.Keeper.leaves c.do_act.new.keeper) =
    subst (λ (j : Identity). WritesWithin content_after (g.K.Keeper.stands j) (g.K.Keeper.kept c.loop-act.keeper) (acts_most g.K.Keeper.most_written j (g.K.Keeper.kept c.loop-act.keeper)) (c.act-item.result ∷ []) (g.K.Keeper.state c.loop-act.keeper) (g.K.Keeper.state c.do_act.new.keeper) (g.K.Keeper.leaves c.do_act.new.keeper)) c.loop-act.invariant.identity c.do_act.ensures.put in
    act_begun content_after content_goes (g.K.Keeper.stands (g.K.Keeper.identity c.args.keeper.now)) (acts_most g.K.Keeper.most_written (g.K.Keeper.identity c.args.keeper.now)) (contents_add g.K.Keeper.most_written (g.K.Keeper.identity c.args.keeper.now)) (g.K.Keeper.kept c.args.keeper.now) (g.K.Keeper.kept c.loop-act.keeper) c.args.acts.now c.loop-act.act-index c.act-item.result c.act-item.is c.loop-act-test.true (g.K.Keeper.state c.args.keeper.now) (g.K.Keeper.state c.loop-act.keeper) (g.K.Keeper.state c.do_act.new.keeper)
    c.loop-act.invariant.content (c.loop-act.invariant.put told) image (c.loop-act.invariant.run.sent.sent told) (here (subst IsTrue (sym c.loop-act.invariant.run.within.frame.told) told) image left)

pub returns-clause-put : goal.returns-clause-put
returns-clause-put g c = λ told image left.
    let file = g.met.K.Keeper.file_stands c.loop-act.keeper image (c.loop-act.invariant.run.sent.rest told image left) in
    let here = subst (λ (j : Identity). g.K.Keeper.stands j (g.K.Keeper.kept c.loop-act.keeper) image) c.loop-act.invariant.identity file in
    over_begun content_after content_goes (g.K.Keeper.stands (g.K.Keeper.identity c.args.keeper.now)) (g.K.Keeper.kept c.args.keeper.now) (acts_most g.K.Keeper.most_written (g.K.Keeper.identity c.args.keeper.now) (g.K.Keeper.kept c.args.keeper.now)) c.args.acts.now c.loop-act.act-index (g.K.Keeper.state c.args.keeper.now) (g.K.Keeper.state c.loop-act.keeper) image
    (omega arith) (c.loop-act.invariant.run.sent.sent told) (c.loop-act.invariant.put told) (subst (λ (x : Content). g.K.Keeper.stands (g.K.Keeper.identity c.args.keeper.now) x image) c.loop-act.invariant.content here)

pub returns-in_err-do_act-clause-halted : goal.returns-in_err-do_act-clause-halted
returns-in_err-do_act-clause-halted g c = λ is.
    halts_within c.args.acts.now (take c.loop-act.act-index c.args.acts.now) (c.act-item.result ∷ []) (drop (c.loop-act.act-index + 1) c.args.acts.now) (g.K.Keeper.state c.args.keeper.now) (g.K.Keeper.state c.loop-act.keeper) (g.K.Keeper.state c.do_act.new.keeper) c.loop-act.invariant.run.within.frame c.loop-act.invariant.run.sent.sent (λ told. around c.args.acts.now c.loop-act.act-index c.act-item.result c.act-item.result c.act-item.is c.loop-act-test.true)
    (c.in_err-do_act.ensures.halted (error_same _ _ c.from_residual.result c.in_err-do_act.field-0.0 _ c.from_residual.ensures.1 is))
