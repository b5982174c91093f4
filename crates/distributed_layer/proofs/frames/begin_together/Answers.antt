use Rattle.std.proofs.Common.{sym, subst, refl, arith}
use Rattle.frame_table.specs.Plan.{IsOf}
use Rattle.distributed_layer.proofs.AmidLemmas.{waiting, waits}
use Rattle.distributed_layer.proofs.frames.begin_together.Goals as goal

pub all_begin-requires : goal.all_begin-requires
all_begin-requires c =
    let at = c.requires.2 in
    record {
      can = (
        c.requires.0,
        waiting c.requires.1 at.replicas.0,
        at.of_plan.code,
        (λ q up. refl),
        waits c.resting_replicas_wait.ensures c.args.layer.now c.requires.0 c.requires.1
            c.args.input.now at c.requires.3,
      );
    }

pub returns : goal.returns
returns c = λ plan state at frame.
    let layer = c.args.layer.now in
    let rows = c.args.input.now in
    let boxes = at.replicas.0 in
    let begun =
    c.all_begin.ensures.seats plan (waiting state boxes) at.of_plan.code (λ q up. refl)
    (waits c.resting_replicas_wait.ensures layer plan state rows at frame) in (
      boxes,
      record {
        of_plan = record {
          setting = at.of_plan.setting;
          votes = at.of_plan.votes;
          code = subst (IsOf plan) (sym c.all_begin.ensures.table) at.of_plan.code;
          phases = begun.size;
          letters = at.of_plan.letters;
          own = at.of_plan.own;
          fresh = at.of_plan.fresh;
        };
        frame = frame;
        limit = omega (arith, at.done, c.requires.2.done, c.requires.4);
        done = at.done;
        late_letters = at.letters;
        fresh_letters = refl;
        replicas = begun.show;
      },
    )
