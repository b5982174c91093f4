use Rattle.phase_machine.proofs.VotingLemmas.{vote_is}
use Rattle.phase_machine.specs.Phases.{evaluated_over, vote_after}
use Rattle.rcp_base.specs.Tables.{table}
use Rattle.replica_parts.specs.Ballots.{IsBallotOrNone}
use Rattle.std.proofs.Common.{List, Some, ap₂, ℕ, ℤ, ◌∙◌}
use Rattle.vote_pattern.specs.Votes.{is_in}
use Rattle.phase_machine.proofs.voting.vote_with.Goals as goal

pub returns-clause-voted : goal.returns-clause-voted
returns-clause-voted c = λ plan replica has h code.
    let room = h.body.room in
    let votes = is_in c.args.pattern.now in
    let ballot = vote_after plan votes replica has in
    let voted : IsBallotOrNone plan.replicas c.vote_over.new.ballot (Some ballot) =
    let v = c.vote_over.ensures.ballot plan h.body.setting in (
      v.0,
      vote_is plan votes replica has _ _ _ _ _ _ _ h.body.setting.replicas h.body.number
          h.computed h.own h.boxes c.hear_boxes.ensures.heard v.1,
    ) in
    record {
      body = record {
        setting = h.body.setting;
        number = h.body.number;
        room = record {
          replica = room.replica;
          held = room.held;
          computed = room.computed;
          own = room.own;
          boxes = room.boxes;
          ballot = c.vote_over.ensures.room;
          commands = c.evaluate_all.ensures.size;
          places = c.vote_over.ensures.places;
        };
      };
      voted = voted;
      commands =
          c.evaluate_all.ensures.commands plan plan.replicas ballot code voted
          ∙ ap₂ (λ (n : ℕ) (s : List ℤ). table n (λ (a : ℕ). Some (evaluated_over plan s ballot a)))
          h.body.setting.actuators c.sensors.ensures;
      boxes = h.boxes;
    }
