use Rattle.std.proofs.Common.{rules}
use Rattle.record_codec.proofs.Eight.{joined_is}
use Rattle.record_codec.proofs.keys.joined.Goals as goal

pub returns : goal.returns
returns c = joined_is c.args.front c.args.behind (search rules) (search rules)
