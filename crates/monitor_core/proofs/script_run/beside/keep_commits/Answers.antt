use Rattle.std.proofs.Common.{◌≡◌, ℕ, ◌+◌, ◌<◌, ◌≤◌, List, ◌∷◌, length, drop, get_or, sym, ap, subst, ◌∙◌, arith}
use Rattle.std.proofs.lemmas.List.{drop_all, drop_more}
use Rattle.kdcs_types.specs.declared.act.Act.{Act}
use Rattle.kdcs_types.specs.declared.act.Act.TheVariants.{Commit, Emit}
use Rattle.kdcs_types.specs.declared.act.Changes.{Changes}
use Rattle.kdcs_types.specs.Tables.{AreChanges, TableRows, changed}
use Rattle.abstract_monitor.specs.Trace.{tables_after}
use Rattle.monitor_core.specs.Keeping.{AreKept}
use Rattle.monitor_core.proofs.script_run.beside.keep_commits.Goals as goal
use Rattle.monitor_core.proofs.script_run.beside.keep_commits.Goals.{in-Commit+in_ok-change-in-Commit, in-Emit}

-- the act at i, and those behind it
module _ (acts : List Act) (i : ℕ) (act : Act) (is : act ≡ get_or acts i act) (lt : i < length acts) where
  here : (x : Act) → act ≡ x → drop i acts ≡ x ∷ drop (i + 1) acts
  here x same = drop_more acts i act lt ∙ ap (λ (a : Act). a ∷ drop (i + 1) acts) (sym is ∙ same)

  kept_at_commit : (changes : Changes) → act ≡ Commit changes → AreKept (drop i acts) → AreChanges changes.items × AreKept (drop (i + 1) acts)
  kept_at_commit changes e kept = subst AreKept (here (Commit changes) e) kept

  kept_at_emit : (line : List ℕ) → act ≡ Emit line → AreKept (drop i acts) → AreKept (drop (i + 1) acts)
  kept_at_emit line e kept = subst AreKept (here (Emit line) e) kept

  durable_at_commit : (t : TableRows) (changes : Changes) → act ≡ Commit changes → tables_after t (drop i acts) ≡ tables_after (changed t changes) (drop (i + 1) acts)
  unfolding tables_after
  durable_at_commit t changes e = ap (tables_after t) (here (Commit changes) e)

  durable_at_emit : (t : TableRows) (line : List ℕ) → act ≡ Emit line → tables_after t (drop i acts) ≡ tables_after t (drop (i + 1) acts)
  unfolding tables_after
  durable_at_emit t line e = ap (tables_after t) (here (Emit line) e)

none_behind : (t : TableRows) (acts : List Act) (i : ℕ) → length acts ≤ i → tables_after t (drop i acts) ≡ t
unfolding tables_after
none_behind t acts i over = ap (tables_after t) (drop_all i acts over)

pub change-requires : goal.change-requires
change-requires c = (kept_at_commit c.args.acts.now c.loop-act.act-index c.act-item.result c.act-item.is c.loop-act-test.true c.in-Commit.changes c.in-Commit.is c.loop-act.invariant.kept).0

pub loop-act-preserved : goal.loop-act-preserved
loop-act-preserved c = elim c.match-act.branch [
  | in-Commit+in_ok-change-in-Commit w ↦ record {
    kept = (kept_at_commit c.args.acts.now c.loop-act.act-index c.act-item.result c.act-item.is c.loop-act-test.true w.in-Commit.changes w.in-Commit.is c.loop-act.invariant.kept).1;
    durable =
        ap (λ (t : TableRows). tables_after t (drop (c.loop-act.act-index + 1) c.args.acts.now)) (w.durable-is ∙ w.in_ok-change-in-Commit.ensures.ok)
        ∙ sym (durable_at_commit c.args.acts.now c.loop-act.act-index c.act-item.result c.act-item.is c.loop-act-test.true c.loop-act.durable w.in-Commit.changes w.in-Commit.is)
        ∙ c.loop-act.invariant.durable;
  }
  | in-Emit w ↦ record {
    kept = kept_at_emit c.args.acts.now c.loop-act.act-index c.act-item.result c.act-item.is c.loop-act-test.true w.in-Emit.field-0 w.in-Emit.is c.loop-act.invariant.kept;
    durable =
        ap (λ (t : TableRows). tables_after t (drop (c.loop-act.act-index + 1) c.args.acts.now)) w.durable-is
        ∙ sym (durable_at_emit c.args.acts.now c.loop-act.act-index c.act-item.result c.act-item.is c.loop-act-test.true c.loop-act.durable w.in-Emit.field-0 w.in-Emit.is)
        ∙ c.loop-act.invariant.durable;
  }
]

pub returns : goal.returns
returns c = sym (none_behind c.loop-act.durable c.args.acts.now c.loop-act.act-index (omega arith)) ∙ c.loop-act.invariant.durable
