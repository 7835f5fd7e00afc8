use Rattle.std.proofs.Common.{◌≡◌, ◌+◌, length, rules, arith, ap, length-append}
use Rattle.texts.proofs.kdcdef_lex.Keeping.{kept_more, one_kept}
use Rattle.texts.proofs.kdcdef_lex.statements.Statements.push.Goals as goal

pub invariant_of-self-2 : goal.invariant_of-self-2
invariant_of-self-2 c =
    let at : c.len-from.result ≡ length c.self.inside.bytes.items = search rules in
    let extended : c.len-end.result ≡ length c.extend_from_slice.new.self.items = search rules in
    let end : c.len-end.result ≡ c.len-from.result + length c.args.text.now = omega (arith, at, extended, ap length c.in_ok-extend_from_slice.ensures.items, length-append c.self.inside.bytes.items c.args.text.now) in
    rw (c.in_ok-extend_from_slice.ensures.items, c.in_ok-push.ensures.items)
    (kept_more c.self.inside.bytes.items c.args.text.now c.self.inside.places.items c.args.line c.len-from.result c.len-end.result at end c.requires c.self.invariant)

pub returns : goal.returns
returns c =
    let at : c.len-from.result ≡ length c.self.inside.bytes.items = search rules in
    let extended : c.len-end.result ≡ length c.extend_from_slice.new.self.items = search rules in
    let end : c.len-end.result ≡ c.len-from.result + length c.args.text.now = omega (arith, at, extended, ap length c.in_ok-extend_from_slice.ensures.items, length-append c.self.inside.bytes.items c.args.text.now) in
    rw (c.in_ok-extend_from_slice.ensures.items, c.in_ok-push.ensures.items, ← c.self.view_is)
    (one_kept c.self.inside.bytes.items c.args.text.now c.self.inside.places.items c.args.line c.len-from.result c.len-end.result at end c.self.invariant)
