use Rattle.std.proofs.Common.{◌≡◌, refl, length, arith, sym, ◌∙◌, subst}
use Rattle.majority_vote.proofs.CandidateLemmas.{Leads, leads_anew, leads_more, leads_less, candidate_is, same_places, other_places}
use Rattle.majority_vote.proofs.voting.candidate.Goals.{then-lead-eq0, else-lead-eq0+then-eq, else-lead-eq0+else-eq}
use Rattle.majority_vote.proofs.voting.candidate.Goals as goal

pub overflow_add-lead : goal.overflow_add-lead
overflow_add-lead c = let w = c.loop-vote.invariant.within in omega arith

pub loop-vote-preserved : goal.loop-vote-preserved
loop-vote-preserved c = elim c.if-lead-eq0.branch [
  | then-lead-eq0 w ↦ rw (w.leader-is, w.lead-is) (leads_anew c.args.votes.now c.loop-vote.vote-index c.loop-vote.leader _ c.loop-vote-test.true refl (subst (Leads c.args.votes.now c.loop-vote.vote-index c.loop-vote.leader) w.if-lead-eq0.true c.loop-vote.invariant))
  | else-lead-eq0+then-eq w ↦ rw (w.leader-is, w.lead-is) (leads_more c.args.votes.now c.loop-vote.vote-index c.loop-vote.leader c.loop-vote.lead c.loop-vote-test.true (same_places _ c.loop-vote.leader (sym w.eq.ensures ∙ w.if-eq.true)) c.loop-vote.invariant)
  | else-lead-eq0+else-eq w ↦ rw (w.leader-is, w.lead-is) (leads_less c.args.votes.now c.loop-vote.vote-index c.loop-vote.leader c.loop-vote.lead c.loop-vote-test.true (other_places _ c.loop-vote.leader (sym w.eq.ensures ∙ w.if-eq.false)) w.if-lead-eq0.false c.loop-vote.invariant)
]

pub returns : goal.returns
returns c = candidate_is c.args.votes.now c.loop-vote.leader c.loop-vote.lead (let e : c.loop-vote.vote-index ≡ length c.args.votes.now = omega (arith, c.loop-vote-test.false, c.loop-vote.auto.vote-index-end) in subst (λ n. Leads c.args.votes.now n c.loop-vote.leader c.loop-vote.lead) e c.loop-vote.invariant)
