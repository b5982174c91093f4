use Rattle.std.proofs.Common.{◌≡◌, ◌+◌, ◌≤◌, true}
use Rattle.rcp_model.specs.Thinning.{is_good}
use Rattle.vote_pattern.specs.Votes.{vote_count}
use Rattle.recovery_analysis.specs.Graphs.{graph_of, IsOneSize}
use Rattle.pattern_thinning.proofs.AfterLemmas.{AreVotesAfter}
use Rattle.pattern_thinning.proofs.thinning.try_votes.Given as goal

abbrev pub invariant-loop-number : goal.invariant-loop-number
invariant-loop-number l = record {
  size : IsOneSize l.rows l.pattern;
  good : is_good l.limit (graph_of l.rows l.pattern) ≡ true;
  so_far : AreVotesAfter l.limit l.rows l.fn.pattern l.number l.pattern;
  count : vote_count l.pattern + l.spared ≡ vote_count l.fn.pattern;
  small : l.spared ≤ l.number;
}
