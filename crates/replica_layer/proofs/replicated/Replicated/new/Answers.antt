use Rattle.std.proofs.Common.{refl}
use Rattle.rcp_model.specs.System.{initial_state}
use Rattle.replica_layer.proofs.replicated.Replicated.new.Goals as goal

pub returns : goal.returns
unfolding initial_state
returns c =
    let setting = c.in_ok-setting.ensures in
    record {
      setting = setting;
      votes = c.in_ok-of.ensures;
      code = c.in_ok-new.ensures;
      room = record {
        held = c.in_ok-initial_states.ensures.room c.in_ok-setting.setting setting;
        ballots = c.in_ok-ballots.ensures.room;
        commands = c.in_ok-commands.ensures.room;
        letters = c.in_ok-letters.ensures.room;
        computed = c.in_ok-initial_states-2.ensures.room c.in_ok-setting.setting setting;
        own = c.in_ok-own.ensures;
        fresh = c.in_ok-fresh.ensures.room;
        places = c.in_ok-places.ensures;
      };
      done = refl;
      replicas = c.in_ok-initial_states.ensures.held;
      ballots = c.in_ok-ballots.ensures.none c.args.plan.now setting;
      commands = c.in_ok-commands.ensures.none c.args.plan.now setting;
      letters = c.in_ok-letters.ensures.none c.args.plan.now setting;
    }
