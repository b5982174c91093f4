use Rattle.vote_pattern.specs.inner.PatternFields.{votes_in}
use Rattle.vote_pattern.proofs.VoteLemmas.{read_is_vote, read_keeps_words}
use Rattle.vote_pattern.proofs.pattern.Pattern.clear.Goals as goal

pub invariant_of-self : goal.invariant_of-self
invariant_of-self c =
    read_keeps_words (votes_in c.self.inside) c.args.self.now c.args.slot c.args.cell c.index-word.result.now c.without_bit.result _
    c.self.invariant c.self.view_is c.requires.slot c.requires.cell c.index-word.ensures c.without_bit.ensures

pub returns : goal.returns
returns c =
    read_is_vote (votes_in c.self.inside) c.args.self.now c.args.slot c.args.cell c.index-word.result.now c.without_bit.result _
    c.self.invariant c.self.view_is c.requires.slot c.requires.cell c.index-word.ensures c.without_bit.ensures
