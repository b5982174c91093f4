use Rattle.std.proofs.Common.{sym, ap, subst, ◌∙◌, arith, slice_get}
use Rattle.layer_stack.specs.Run.{CanRun}
use Rattle.layer_stack.proofs.RunLemmas.{can_run}
use Rattle.layer_stack.proofs.run.run_frames.Goals as goal

pub run_frame-requires : goal.run_frame-requires
run_frame-requires g c =
    let r = c.requires.ready in
    let i = c.loop-frame.invariant in
    record { ready = (r.0, i.told r.0 r.1, can_run _ _ _ r.0 _ _ _ r.2 i.plan (i.stands r.0 r.1 r.2) (omega (arith, i.seen, c.loop-frame-test.true))) }

pub loop-frame-preserved : goal.loop-frame-preserved
loop-frame-preserved g c =
    let i = c.loop-frame.invariant in
    record {
      plan = c.run_frame.ensures.plan ∙ i.plan;
      bound = c.run_frame.ensures.length ∙ i.bound;
      seen = omega (arith, c.run_frame.ensures.done, i.seen);
      told = λ history t. c.run_frame.ensures.history history (i.told history t);
      start = λ e. absurd (omega (arith, e));
      went = λ e history rows t can is.
          let s = i.start (omega (arith, e)) in
          let at = g.L.Layer.is_at in
          let done = g.I.Inputs.done in
          subst (λ r. g.L.Layer.went r.layer rows c.run_frame.new.run.layer) s.0 (c.run_frame.ensures.went history rows (i.told history t)
          (subst (λ r. CanRun at r history (done c.loop-frame.inputs) 1) (sym s.0) (subst (λ x. CanRun at c.args.run.now history (done x) 1) (sym s.1) can))
          (ap (λ x. slice_get history (done x)) s.1 ∙ is));
      stands = λ history t can. c.run_frame.ensures.stands history (i.told history t) (can_run _ _ _ history _ _ _ can i.plan (i.stands history t can) (omega (arith, i.seen, c.loop-frame-test.true)));
    }

pub returns-clause-recovers : goal.returns-clause-recovers
returns-clause-recovers g c = λ history tells can none guard.
    let s = c.loop-frame.invariant.stands history tells can in
    c.replicas_recover.ensures c.loop-frame.run.plan.now c.loop-frame.run.length _ s.rules (let some = s.some in omega (arith, some)) none guard

pub returns-clause-went : goal.returns-clause-went
returns-clause-went g c = λ history rows one tells can is. c.loop-frame.invariant.went (omega (arith, one, c.loop-frame-test.false, c.loop-frame.auto._frame-end)) history rows tells (subst (CanRun g.L.Layer.is_at c.args.run.now history (g.I.Inputs.done c.args.inputs.now)) one can) is
