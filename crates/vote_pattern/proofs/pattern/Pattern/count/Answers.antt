use Rattle.std.proofs.Common.{ap, ◌∙◌, sum_by}
use Rattle.vote_pattern.specs.inner.Numbers.{number_count}
use Rattle.vote_pattern.specs.Votes.{vote_count}
use Rattle.vote_pattern.specs.inner.PatternFields.{votes_in}
use Rattle.vote_pattern.proofs.VoteLemmas.{numbers_are_votes}
use Rattle.vote_pattern.proofs.pattern.Pattern.count.Goals as goal

pub returns : goal.returns
returns c =
    c.count.ensures ∙ ap (sum_by number_count) c.as_slice.ensures.value
    ∙ numbers_are_votes (votes_in c.self.inside) c.self.invariant ∙ ap vote_count c.self.view_is
