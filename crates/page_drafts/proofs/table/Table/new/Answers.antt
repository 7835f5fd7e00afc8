use Rattle.std.proofs.Common.{◌≡◌, ◌∙◌, ◌++◌, ◌∷◌, ◌+◌, [], replicate, refl, ap, sym, subst, List, ℕ, arith, Option}
use Rattle.std.proofs.lemmas.List.{replicate_more}
use Rattle.kdcfile_layout.specs.declared.chain.Chain.{Chain}
use Rattle.page_drafts.specs.Tables.{IsDescending}
use Rattle.kdcfile_layout.specs.Layout.{free_slot}
use Rattle.page_drafts.specs.TablesLaws.{descending_more, empty_table}
use Rattle.page_drafts.proofs.table.Table.new.Goals as goal

pub loop-n-preserved : goal.loop-n-preserved
loop-n-preserved c = record {
  slots = c.in_ok-push.ensures.items ∙ ap (λ (l : List (Option Chain)). l ++ free_slot ∷ []) c.loop-n.invariant.slots ∙ replicate_more c.loop-n.n free_slot;
  free =
      subst (λ (l : List ℕ). IsDescending l (c.loop-n.n + 1) c.args.count) (sym c.in_ok-push-2.ensures.items)
      (descending_more c.loop-n.free.items c.loop-n.n c.args.count _ c.loop-n-test.true refl c.loop-n.invariant.free);
}

pub invariant_of-result : goal.invariant_of-result
invariant_of-result c =
    let all : c.loop-n.n ≡ c.args.count = omega (arith, c.loop-n-test.false, c.loop-n.auto.n-end) in
    let free : IsDescending c.loop-n.free.items c.args.count c.args.count = subst (λ (n : ℕ). IsDescending c.loop-n.free.items n c.args.count) all c.loop-n.invariant.free in
    rw (c.loop-n.invariant.slots ∙ ap (λ (n : ℕ). replicate n free_slot) all, c.new.ensures) (empty_table c.loop-n.free.items c.args.count free)
