use Rattle.std.proofs.Common.{rules, ◌≡◌, length, rules}
use Rattle.std.proofs.lemmas.Result.{on_ok_weaker}
use Rattle.kdcfile_layout.proofs.OneByOne.{not_both, alone_by, last_by, both_by}
use Rattle.kdcfile_layout.specs.Joined.{Follows}
use Rattle.kdcfile_layout.proofs.joining.put_joined.Goals as goal

pub returns-then-follows : goal.returns-then-follows
returns-then-follows c = λ ws is.
    both_by ws _ _ is c.pop.new.self.items c.in-Some.last c.args.next c.in_ok-both-in-Some.field-0 (c.follows.ensures.0 c.if-follows.true) c.in-Some.ensures.items c.in_ok-both-in-Some.ensures c.in_ok-push-in-Some.ensures.items

pub returns-in-None : goal.returns-in-None
returns-in-None c =
    let empty : length c.pop.new.self.items ≡ 0 = search rules in
    on_ok_weaker c.put_apart.result (λ e ws is. alone_by ws _ _ is c.pop.new.self.items c.args.next empty c.in-None.ensures.items e) c.put_apart.ensures

pub returns-in_ok-push-in-Some-2 : goal.returns-in_ok-push-in-Some-2
returns-in_ok-push-in-Some-2 c =
    let far : Follows c.in-Some.last c.args.next → ⊥ = λ f. not_both c.follows.result (c.follows.ensures.1 f) c.if-follows.false in
    on_ok_weaker c.put_apart-in-Some.result
    (λ e ws is. last_by ws _ _ is c.pop.new.self.items c.push-in-Some.new.self.items c.in-Some.last c.args.next far c.in-Some.ensures.items c.in_ok-push-in-Some-2.ensures.items e)
    c.put_apart-in-Some.ensures
