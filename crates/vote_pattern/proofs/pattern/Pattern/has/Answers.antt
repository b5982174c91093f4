use Rattle.std.proofs.Common.{◌∙◌}
use Rattle.vote_pattern.specs.inner.PatternFields.{votes_in}
use Rattle.vote_pattern.proofs.VoteLemmas.{read_is_in}
use Rattle.vote_pattern.proofs.pattern.Pattern.has.Goals as goal

pub returns : goal.returns
returns c =
    c.has_bit.ensures
    ∙ read_is_in (votes_in c.self.inside) c.args.self.now c.args.slot c.args.cell c.index.result.now
    c.self.invariant c.self.view_is c.requires.slot c.requires.cell c.index.ensures
