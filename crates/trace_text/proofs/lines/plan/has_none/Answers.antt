use Rattle.std.proofs.Common.{not, ◌∙◌, ap}
use Rattle.std.specs.List.{range_with_len}
use Rattle.vote_pattern.specs.Votes.{is_in, votes_at}
use Rattle.trace_text.proofs.VoteLemmas.{none_passes}
use Rattle.trace_text.proofs.lines.plan.has_none.Goals as goal

pub returns : goal.returns
unfolding votes_at
returns c =
    ap not c.has_some.ensures ∙ none_passes (is_in c.args.pattern.now c.args.slot) (range_with_len 0 c.args.pattern.now.cells)
