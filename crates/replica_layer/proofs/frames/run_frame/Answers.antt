use Rattle.std.proofs.Common.{sym, ◌∙◌, arith, ap, subst, ℕ, List, map, Vec}
use Rattle.std.specs.Global.{Global}
use Rattle.frame_table.specs.Plan.{IsOf}
use Rattle.rcp_model.specs.System.{end_of_frame, next_state, still_on_its_way}
use Rattle.vote_pattern.specs.Votes.{Votes, IsPatternOf}
use Rattle.replica_parts.specs.declared.ballot.Ballot.{Ballot}
use Rattle.replica_parts.specs.declared.post.Post.{Post}
use Rattle.replica_parts.specs.Ballots.{AreBallots}
use Rattle.replica_parts.specs.Places.{letter_rows}
use Rattle.replica_parts.specs.Rooms.{ArePostRows}
use Rattle.replica_parts.specs.Setting.{IsSettingOf}
use Rattle.replica_layer.proofs.NextLemmas.{kept_table}
use Rattle.replica_layer.proofs.frames.run_frame.Goals as goal

pub returns : goal.returns
unfolding next_state end_of_frame
returns c = λ plan state h f.
    let room = c.vote_and_hold.ensures.room in
    let setting = subst (IsSettingOf plan) (sym c.vote_and_hold.ensures.setting) h.setting in
    let code = subst (IsOf plan) (sym c.vote_and_hold.ensures.code) h.code in
    let next = next_state plan state c.args.input.now in
    record {
      setting = setting;
      votes = subst (λ (v : Votes). IsPatternOf plan v) (sym c.vote_and_hold.ensures.votes) h.votes;
      code = subst (IsOf plan) (sym c.command_all.ensures.table) code;
      room = record {
        held = room.held;
        ballots = room.ballots;
        commands = c.command_all.ensures.room;
        letters = subst (λ (v : Vec (Vec Post Global) Global). ArePostRows c.vote_and_hold.new.layer.setting v.items) (sym c.swap.ensures.x_after) c.keep_all.ensures.room;
        computed = room.computed;
        own = room.own;
        fresh = subst (λ (v : Vec (Vec Post Global) Global). ArePostRows c.vote_and_hold.new.layer.setting v.items) (sym c.swap.ensures.y_after) room.letters;
        places = room.places;
      };
      done = let d = c.vote_and_hold.ensures.done in let e = h.done in omega (arith, d, e);
      replicas = c.vote_and_hold.ensures.held plan state h f;
      ballots = c.vote_and_hold.ensures.ballots plan state h f;
      commands = c.command_all.ensures.commands plan next.ballots setting code
          (subst (λ (xs : List Ballot). AreBallots plan.replicas xs next.ballots) (sym c.as_slice.ensures.value) (c.vote_and_hold.ensures.ballots plan state h f));
      letters = ap (λ (v : Vec (Vec Post Global) Global). letter_rows v.items) c.swap.ensures.x_after
          ∙ c.keep_all.ensures.letters plan setting
          ∙ ap (λ (n : ℕ). map (map (still_on_its_way plan n)) (letter_rows c.vote_and_hold.new.layer.fresh.items)) h.done
          ∙ ap (map (map (still_on_its_way plan state.done))) (c.vote_and_hold.ensures.fresh plan state h f)
          ∙ kept_table plan state c.args.input.now;
    }
