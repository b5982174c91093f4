use Rattle.std.proofs.Common.{refl, sym, ap, subst, ◌∙◌, arith, ◌&&◌, length}
use Rattle.std.proofs.lemmas.Option.{same_Some}
use Rattle.rcp_model.specs.History.{past_of}
use Rattle.layer_stack.specs.Run.{StandsFor}
use Rattle.layer_stack.specs.Streaks.{has_healthy_majority}
use Rattle.layer_stack.proofs.RunLemmas.{can_fill, few_done, frame_of, streaks_step, guard_step, past_one_more}
use Rattle.layer_stack.proofs.run.run_frame.Goals as goal

pub fill-requires : goal.fill-requires
fill-requires g c =
    let r = c.requires.ready in
    record { ready = (c.args.run.now.plan.now, r.0, r.1, can_fill _ _ _ _ r.2) }

pub frame-requires : goal.frame-requires
frame-requires g c =
    let r = c.requires.ready in
    record { ready = (c.args.run.now.plan.now, _, r.2.stands.at, frame_of _ r.0 _ _ r.2.of_plan (c.fill.ensures.rows c.args.run.now.plan.now r.0 r.1 (can_fill _ _ _ _ r.2)), few_done _ _ _ _ r.2) }

pub count_frame-requires-clause-rows : goal.count_frame-requires-clause-rows
count_frame-requires-clause-rows g c =
    let r = c.requires.ready in
    let f = frame_of _ r.0 _ _ r.2.of_plan (c.fill.ensures.rows c.args.run.now.plan.now r.0 r.1 (can_fill _ _ _ _ r.2)) in
    f

pub has_healthy_majority-requires : goal.has_healthy_majority-requires
has_healthy_majority-requires g c =
    let r = c.requires.ready in
    let after = streaks_step c.args.run.now.plan.now c.args.run.now.length _ _ _ c.fill.new.input r.2.stands.streaks c.count_frame.ensures in
    omega (arith, after.size, r.2.stands.rules.few_replicas, ap length c.as_slice.ensures.value)

pub returns-clause-stands : goal.returns-clause-stands
returns-clause-stands g c = λ history tells can.
    let rows = c.fill.ensures.rows c.args.run.now.plan.now history tells (can_fill _ _ _ _ can) in
    let frame = frame_of _ history _ _ can.of_plan rows in
    let after = streaks_step c.args.run.now.plan.now c.args.run.now.length _ _ _ c.fill.new.input can.stands.streaks c.count_frame.ensures in
    subst (StandsFor g.L.Layer.is_at _) (sym (past_one_more history _ _ rows) ∙ ap (past_of history) (sym c.fill.ensures.done)) (record {
      rules = can.stands.rules;
      some = can.stands.some;
      at = c.frame.ensures.state c.args.run.now.plan.now _ can.stands.at frame;
      streaks = after;
      guard = guard_step c.args.run.now.plan.now c.args.run.now.length _ _ c.fill.new.input c.args.run.now.guard _ after can.stands.guard (ap (λ b. c.args.run.now.guard && b) (c.has_healthy_majority.ensures ∙ ap (has_healthy_majority c.args.run.now.length) c.as_slice.ensures.value));
      rows = frame;
      input = refl;
    })

pub returns-clause-went : goal.returns-clause-went
returns-clause-went g c = λ history rows tells can is.
    let same = same_Some rows c.fill.new.input (sym is ∙ c.fill.ensures.rows c.args.run.now.plan.now history tells (can_fill _ _ _ _ can)) in
    subst (λ r. g.L.Layer.went c.args.run.now.layer r c.frame.new.self) (sym same) c.frame.ensures.went
