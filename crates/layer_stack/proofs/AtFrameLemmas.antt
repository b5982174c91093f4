-- Recovery in the words of a reader who counts frames from 0.
use Rattle.std.proofs.Common.{suc, Some, subst, ap, ◌∙◌}
use Rattle.rcp_model.specs.History.{past_of}
use Rattle.rcp_model.specs.HistoryLaws.{HistoriesGoByFrames}
use Rattle.rcp_model.specs.System.{state_after}
use Rattle.rcp_model.proofs.HistoryLaws.{past_more}
use Rattle.layer_stack.specs.Recovery.{VotesAreIdeal, ReplicasRecover, ReplicasRecoverByFrames}

pub recovers_by_frames : ReplicasRecover → HistoriesGoByFrames → ReplicasRecoverByFrames
recovers_by_frames recover by_frames plan recovery history frame rules some none within guard =
    let go = by_frames plan recovery history in
    let matches = recover plan recovery (past_of history (suc frame)) rules some none ((go.1.guard frame within).1 guard) in
    let votes = subst (VotesAreIdeal plan (state_after plan (past_of history (suc frame)))) (past_more history frame within) matches.votes in
    record {
      replicas = λ replica lt works. matches.replicas replica lt (go.1.working frame replica within ∙ works);
      votes = λ actuator lt. votes actuator lt ∙ ap Some (go.0.command frame actuator within);
    }
