-- A commit has pages and slots for all that it changes.
use Rattle.std.proofs.Common.{◌≡◌, ℕ, ◌+◌, ◌*◌, ◌<◌, ◌≤◌, ◌^◌, Bool, List, length, Option, Some, ap, ◌∙◌, arith}
use Rattle.std.specs.Prelude.{get_or}
use Rattle.std.proofs.Math.Nat.{mul-le-mul_left}
use Rattle.std.proofs.lemmas.List.Sums.{sum_by_more_le}
use Rattle.std.proofs.lemmas.List.Elements.{All-weaker}
use Rattle.std.proofs.lemmas.Option.{get_or_from_slice_get}
use Rattle.kd_records.specs.declared.content.Content.{Content}
use Rattle.kd_records.specs.declared.content.Patch.{Patch}
use Rattle.kd_records.specs.Contents.{Change, patched, IsKey, IsPatch}
use Rattle.kd_records.specs.Charge.{charge_of, total_charge}
use Rattle.kd_records.specs.ChargeLaws.{block_from, block_upto, charge_covers}
use Rattle.kdcfile_layout.specs.Places.{At}
use Rattle.kdcfile_layout.specs.PlacesLaws.{at_within}
use Rattle.kdcfile_layout.specs.Pools.{ArePlanned, free_count}
use Rattle.kdcfile_layout.specs.declared.chain.Chain.{Chain}
use Rattle.kdcfile_layout.specs.Bound.{charge_put, put_charge}
use Rattle.kdcfile_layout.specs.CrashLaws.{per_root}
use Rattle.kdcfile_layout.specs.Stored.{IsStored}
use Rattle.kdcfile_layout.specs.Opened.{Opened, identity_of, layout_in}
use Rattle.page_drafts.specs.ChargedLaws.{put_charged}
use Rattle.page_drafts.specs.CommitsLaws.{plan_fits, can_prepare}
use Rattle.kdcfile_store.specs.Next.{CanDraft, needed_pages}

-- a value that is charged few pages is short
short : (size n charge : ℕ) → 29 + n ≤ charge * size → charge ≤ 30000 → size ≤ 8192 → n < 2 ^ 32
short size n charge covers few upto = omega (arith, covers, mul-le-mul_left size few, upto)

module _ (i : Opened) (slots : List (Option Chain)) (x : Content) (used : List Bool) (patch : Patch) (stored : IsStored (identity_of i) x (layout_in i.root slots) used) (is : IsPatch patch) (before : total_charge i.blksize x.items ≤ i.root.pgpool)
    (after : total_charge i.blksize (patched x patch).items ≤ i.root.pgpool) where
  puts_within : put_charge i.blksize patch.items ≤ i.root.pgpool
  puts_within = omega (arith, put_charged i.blksize x.items patch.items stored.content.ascending is.ascending, after)

  few_pages : length i.root.directory ≤ 469
  few_pages = omega (arith, stored.layout.directory, per_root i.blksize i.root.pgpool stored.identity.blksize stored.identity.most)

  pub plan_few : put_charge i.blksize patch.items + length i.root.directory < 2 ^ 32
  plan_few = omega (arith, puts_within, few_pages, stored.identity.most)

  -- there are free pages for the new values and for the whole directory
  pub plan_enough : needed_pages i patch ≤ free_count used
  plan_enough = plan_fits _ _ _ _ stored patch.items is.ascending before after

  value_charge : (k : ℕ) (c : Change) (v : List ℕ) → At patch.items k c → c.1 ≡ Some v → charge_of i.blksize (length v) ≤ put_charge i.blksize patch.items
  value_charge k c v at e =
      let f : Change → ℕ = λ b. charge_put i.blksize b.1 in
      let here : f (get_or patch.items k c) ≡ charge_of i.blksize (length v) = ap f (get_or_from_slice_get patch.items k c c at) ∙ ap (λ (o : Option (List ℕ)). charge_put i.blksize o) e in
      omega (arith, here, sum_by_more_le f patch.items k c (at_within patch.items k c at))

  short_values : (k : ℕ) (c : Change) (v : List ℕ) → At patch.items k c → c.1 ≡ Some v → length v < 2 ^ 32
  short_values k c v at e =
      short i.blksize (length v) (charge_of i.blksize (length v)) (charge_covers i.blksize (length v) (block_from i.blksize stored.identity.blksize))
      (omega (arith, value_charge k c v at e, puts_within, stored.identity.most))
      (block_upto i.blksize stored.identity.blksize)

  module _ (plan : List ℕ) (planned : ArePlanned used (needed_pages i patch) plan) where
    pub few_planned : length plan < 2 ^ 32
    few_planned = omega (arith, planned.count, plan_few)

    pub can_draft : CanDraft i slots plan patch.items
    can_draft = record {
      values = short_values;
      wide = All-weaker (λ (c : Change). IsKey c.0) (λ (c : Change). length c.0.bytes ≡ 24) (λ c key. key.key_length) patch.items is.keys;
      enough = omega (arith, planned.count);
      few = few_planned;
      room = (x.items, can_prepare _ _ _ _ stored _ is.ascending before after _ plan planned);
    }
