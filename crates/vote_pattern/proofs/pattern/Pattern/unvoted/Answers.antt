use Rattle.vote_pattern.specs.inner.PatternFields.{votes_in}
use Rattle.vote_pattern.proofs.VoteLemmas.{others_unvoted}
use Rattle.vote_pattern.proofs.pattern.Pattern.unvoted.Goals as goal

pub returns : goal.returns
returns c =
    others_unvoted (votes_in c.self.inside) c.args.self.now c.args.slot c.index.result.now c.other_bits.result
    c.self.invariant c.self.view_is c.requires c.index.ensures c.other_bits.ensures
