use Rattle.std.proofs.Common.{◌∙◌}
use Rattle.wire.proofs.MessageLaws.{body_is}
use Rattle.wire.proofs.message.Packets.over.Goals as goal

pub returns-clause-bits : goal.returns-clause-bits
returns-clause-bits c = c.new.ensures ∙ body_is c.args.octets.now _ c.saturating_sub.ensures

pub invariant_of-result-clause-behind : goal.invariant_of-result-clause-behind
invariant_of-result-clause-behind c = c.new.ensures ∙ body_is c.args.octets.now _ c.saturating_sub.ensures
