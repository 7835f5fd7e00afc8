-- What a prepared patch makes is the next content with its image.
use Rattle.std.proofs.Common.{◌≡◌, ℕ, ◌<◌, ◌≤◌, ◌^◌, Bool, List, length, Option, refl, ap, arith}
use Rattle.kd_records.specs.declared.content.Content.{Content}
use Rattle.kd_records.specs.declared.content.Patch.{Patch}
use Rattle.kd_records.specs.Contents.{patched, IsContent, IsPatch}
use Rattle.kd_records.specs.InPlace.{Patching}
use Rattle.kd_records.specs.Charge.{total_charge}
use Rattle.kd_records.specs.ChargeLaws.{length_within}
use Rattle.kd_records.specs.ContentLaws.{patch_keeps_content}
use Rattle.kdcfile_layout.specs.Pools.{ArePlanned}
use Rattle.kdcfile_layout.specs.declared.chain.Chain.{Chain}
use Rattle.kdcfile_layout.specs.Stored.{IsStored}
use Rattle.kdcfile_layout.specs.Opened.{Opened, identity_of, layout_in}
use Rattle.page_drafts.specs.CommitsLaws.{are_pages, count_pages, bytes_most, pages_free, taken_planned, freed_once, freed_used, stored_after, would_be}
use Rattle.page_drafts.specs.Drafting.{Drafting}
use Rattle.page_drafts.specs.Prepared.{Prepared}
use Rattle.kdcfile_store.specs.declared.next.Next.{Next}
use Rattle.kdcfile_store.specs.Next.{IsDrafted, IsNext}

module _ (i : Opened) (slots : List (Option Chain)) (x : Content) (used : List Bool) (patch : Patch) (stored : IsStored (identity_of i) x (layout_in i.root slots) used) (is : IsPatch patch) (before : total_charge i.blksize x.items ≤ i.root.pgpool)
    (after : total_charge i.blksize (patched x patch).items ≤ i.root.pgpool) (p : Patching) (made : p.content ≡ patched x patch) where
  pub few_records : length p.content.items < 2 ^ 32
  few_records = omega (arith, ap (λ (z : Content). length z.items) made, length_within i.blksize (patched x patch).items, after, stored.identity.most)

  module _ (needed : ℕ) (plan : List ℕ) (planned : ArePlanned used needed plan) (few : length plan < 2 ^ 32) (long : ℕ) (e : Drafting) (prepared : Prepared i.blksize long plan patch.items (layout_in i.root slots) e) (n : Next) (drafted : IsDrafted i p plan e n) where
    content : IsContent p.content
    content =
        rw made
        (patch_keeps_content i.blksize i.root.pgpool x patch stored.identity.blksize stored.identity.most stored.content is
        (omega (arith, drafted.clock, ap (λ (z : Content). z.clock) made))
        (omega (arith, drafted.next_job, ap (λ (z : Content). z.next_job) made))
        after)

    items : p.content.items ≡ (patched x patch).items
    items = ap (λ (z : Content). z.items) made

    pub is_next : IsNext i x (layout_in i.root slots) used patch long n
    is_next = record {
      content = rw drafted.content made;
      root = rw (drafted.root, drafted.content) refl;
      pages = rw drafted.writes (are_pages _ _ _ _ stored _ is.ascending before after _ _ planned long _ prepared);
      few = rw drafted.writes (omega (arith, few, prepared.enough, count_pages _ _ _ _ stored _ is.ascending before after _ _ planned long _ prepared));
      most = rw drafted.writes (bytes_most _ _ _ _ stored _ is.ascending before after _ _ planned long _ prepared);
      planned = rw drafted.pages (taken_planned _ _ _ _ stored _ is.ascending before after _ _ planned long _ prepared);
      distinct = rw drafted.freed (freed_once _ _ _ _ stored _ is.ascending before after _ _ planned long _ prepared);
      freed = rw drafted.freed (freed_used _ _ _ _ stored _ is.ascending before after _ _ planned long _ prepared);
      stored = rw (drafted.content, drafted.root, drafted.table, drafted.pages, drafted.freed) (stored_after _ _ _ _ stored _ is.ascending before after _ _ planned long _ prepared p.content content items);
      apart = rw drafted.writes (pages_free _ _ _ _ stored _ is.ascending before after _ _ planned long _ prepared i.second);
      would_be = λ h le stands.
          rw (drafted.content, drafted.root, drafted.table, drafted.writes)
          (would_be _ _ _ _ stored _ is.ascending before after _ _ planned long _ prepared i.second h le stands p.content content items i.root.fingerprint stored.identity);
    }
