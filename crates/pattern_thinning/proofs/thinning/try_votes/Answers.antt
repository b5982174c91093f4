use Rattle.std.proofs.Common.{ap, subst, arith}
use Rattle.rcp_model.specs.declared.node.Node.{Node}
use Rattle.rcp_model.specs.Thinning.{thinned_at}
use Rattle.vote_pattern.specs.Laws.{one_if}
use Rattle.vote_pattern.specs.Votes.{AreVotesOf}
use Rattle.recovery_analysis.specs.Graphs.{graph_of}
use Rattle.pattern_thinning.proofs.AfterLemmas.{after_more, after_all}
use Rattle.pattern_thinning.proofs.thinning.try_votes.Goals.{then-try_vote, else-try_vote}
use Rattle.pattern_thinning.proofs.thinning.try_votes.Goals as goal

pub loop-number-init : goal.loop-number-init
loop-number-init c = record {
  size = c.requires.size;
  good = c.requires.good;
  so_far = λ g feeds are. are;
  count = omega arith;
  small = omega arith;
}

pub loop-number-preserved : goal.loop-number-preserved
loop-number-preserved c =
    let limit = c.args.limit in
    let rows = c.args.rows.now in
    record {
      size = c.try_vote.ensures.size;
      good = c.try_vote.ensures.good;
      so_far = after_more limit rows c.args.pattern.now c.loop-number.pattern c.try_vote.new.pattern c.loop-number.number c.loop-number.invariant.so_far
          (subst (λ (n : Node). AreVotesOf (thinned_at limit (graph_of rows c.loop-number.pattern) n) c.try_vote.new.pattern) c.node_at-node.ensures.value c.try_vote.ensures.tried);
      count = elim c.if-try_vote.branch [
        | then-try_vote w ↦ let k = ap one_if w.if-try_vote.true in omega (arith, c.try_vote.ensures.count, k)
        | else-try_vote w ↦ let k = ap one_if w.if-try_vote.false in omega (arith, c.try_vote.ensures.count, k)
      ];
      small = elim c.if-try_vote.branch [ then-try_vote w ↦ omega arith | else-try_vote w ↦ omega arith ];
    }

pub returns-clause-thinned : goal.returns-clause-thinned
returns-clause-thinned c =
    after_all c.args.limit c.args.rows.now c.args.pattern.now c.loop-number.pattern c.loop-number.number (omega arith) c.loop-number.invariant.so_far
