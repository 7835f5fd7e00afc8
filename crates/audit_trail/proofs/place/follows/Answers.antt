use Rattle.std.proofs.Common.{◌≡◌, ◌<◌, ◌-◌, List, length, get_or, sym, ap, subst, ◌∙◌, rules}
use Rattle.std.specs.Ordering.{is_lt}
use Rattle.kdcs_types.specs.declared.act.Change.{Change}
use Rattle.kdcs_types.specs.Keys.{key_cmp}
use Rattle.kdcs_types.specs.Tables.{change_key}
use Rattle.audit_trail.specs.AscendingLaws.{one_more_ascends, last_decides}
use Rattle.audit_trail.proofs.place.follows.Goals as goal

pub returns : goal.returns
returns c =
    let cs = c.args.changes.now.items in
    let last : Change = c.index-items-items.result in
    let some : 0 < length c.as_slice-items.result.now = search rules in
    let there : 0 < length cs = subst (λ (l : List Change). 0 < length l) c.as_slice-items.ensures some in
    let is : last ≡ get_or cs (length cs - 1) last = subst (λ (l : List Change). last ≡ get_or l (length l - 1) last) c.as_slice-items.ensures c.index-items-items.is in
    let told : c.is_lt.result ≡ is_lt (key_cmp (change_key last) (change_key c.args.next.now)) = c.is_lt.ensures ∙ ap is_lt (c.cmp.ensures ∙ (λ i. key_cmp (c.key.ensures i) (c.key-2.ensures i))) in
    told ∙ sym (one_more_ascends cs c.args.next.now c.requires.ascending ∙ last_decides cs last c.args.next.now there is)
