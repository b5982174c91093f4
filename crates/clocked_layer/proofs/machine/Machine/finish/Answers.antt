use Rattle.std.proofs.Common.{Vec, ap, arith, subst, sym, ◌∙◌}
use Rattle.std.specs.Global.{Global}
use Rattle.rcp_model.specs.System.{end_of_frame}
use Rattle.replica_parts.specs.Places.{post_at}
use Rattle.replica_parts.specs.Rooms.{ArePostRows}
use Rattle.replica_parts.specs.declared.post.Post.{Post}
use Rattle.clocked_layer.proofs.machine.Machine.finish.Goals as goal

pub returns : goal.returns
unfolding end_of_frame
returns c plan block shows stages none =
    let of = shows.of_plan in
    record {
      of_plan = record {
        setting = of.setting;
        timing = of.timing;
        votes = of.votes;
        code = of.code;
        phases = c.finish_all.ensures.size ∙ of.phases;
        own = of.own;
        fresh = subst
            (λ (rows : Vec (Vec Post Global) Global).
            ArePostRows c.args.self.now.setting rows.items)
            (sym c.swap.ensures.x_after) of.late;
        late = subst
            (λ (rows : Vec (Vec Post Global) Global).
            ArePostRows c.args.self.now.setting rows.items)
            (sym c.swap.ensures.y_after) of.fresh;
      };
      done = omega (arith, shows.done);
      phases = c.finish_all.ensures.rest plan block.seats block.done block.fresh shows.seats
          shows.frame stages;
      fresh = ap (λ (rows : Vec (Vec Post Global) Global). post_at rows.items) c.swap.ensures.x_after
          ∙ shows.late ∙ none;
      late = ap (λ (rows : Vec (Vec Post Global) Global). post_at rows.items) c.swap.ensures.y_after
          ∙ shows.fresh;
    }
