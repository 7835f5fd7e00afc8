use Rattle.std.proofs.Common.{◌≡◌, ◌++◌, ◌∷◌, [], OnOk, subst}
use Rattle.record_codec.proofs.encode.put_job.Goals as goal

pub returns : goal.returns
returns c =
    subst (λ x. OnOk c.push.result (c.push.new.self ≡ x)) (λ i. c.args.records.now ++ (c.record_key.ensures i, c.in_ok-value.ensures i) ∷ []) c.push.ensures.ok
