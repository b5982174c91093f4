use Rattle.std.proofs.Common.{ℕ, Option, None, refl}
use Rattle.rcp_model.specs.Messages.{Letter}
use Rattle.rcp_model.specs.System.{initial_state}
use Rattle.distributed_layer.proofs.AmidLemmas.{post_table}
use Rattle.distributed_layer.proofs.distributed.Distributed.new.Goals as goal

pub returns : goal.returns
unfolding initial_state
returns c =
    let plan = c.args.plan.now in
    let setting = c.in_ok-setting.ensures in
    let none : ℕ → ℕ → Option Letter = λ q p. None in
    record {
      of_plan = record {
        setting = setting;
        votes = c.in_ok-of.ensures;
        code = c.in_ok-new.ensures;
        phases = c.in_ok-phases.ensures.size;
        letters = c.in_ok-letters.ensures.room;
        own = c.in_ok-own.ensures;
        fresh = c.in_ok-fresh.ensures.room;
      };
      done = refl;
      replicas = ((λ replica sender. None), c.in_ok-phases.ensures.rest);
      letters =
          post_table c.in_ok-letters.letters.items plan.replicas none none
          (c.in_ok-letters.ensures.none plan setting) (λ q p lt. refl) (λ q p le. refl)
          (λ q p le. refl);
    }
