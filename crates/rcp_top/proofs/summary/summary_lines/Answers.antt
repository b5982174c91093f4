-- The frame that is counted is the one for which the run stands.
use Rattle.std.proofs.Common.{◌≡◌, ◌+◌, ◌<◌, ℕ, List, length, get_or, refl, ap, ap₂, sym, ◌∙◌, subst, arith}
use Rattle.rcp_base.specs.declared.TheConstants.{MAX_FRAMES}
use Rattle.rcp_model.specs.declared.plan.PlanParts.{PlanParts}
use Rattle.rcp_model.specs.FrameRows.{FrameRows}
use Rattle.rcp_model.specs.History.{History, past_of}
use Rattle.layer_stack.specs.Inputs.{IsHistoryOf}
use Rattle.layer_stack.specs.Run.{StandsFor}
use Rattle.rcp_top.specs.Summary.{counts_of}
use Rattle.rcp_top.proofs.RunLemmas.{past_at, past_length, stands_next}
use Rattle.rcp_top.proofs.summary.summary_lines.Goals as goal

pub loop-frame-init : goal.loop-frame-init
loop-frame-init g c = record {
  seen = c.requires.first;
  plan = refl;
  bound = refl;
  told = λ history tells. tells;
  stands = λ history tells are. c.requires.start;
  counted = λ history tells are. c.new-counts.ensures c.args.plan.now c.args.run.now.length;
}

pub with_frame-counts-requires-clause-last : goal.with_frame-counts-requires-clause-last
with_frame-counts-requires-clause-last g c =
    let plan = c.args.plan.now in
    let t = c.loop-frame._frame in
    let i = c.loop-frame.invariant in
    let run = c.loop-frame.run in
    let at = g.L.Layer.is_at in
    let history = c.requires.inputs.0 in
    let tells = c.requires.inputs.1 in
    let are = c.requires.inputs.2 in
    let same : run.plan.now ≡ plan = ap (λ p. p.now) i.plan ∙ c.requires.plan in
    let more : t < length history = omega (arith, c.loop-frame-test.true, c.frames-frames.ensures plan history tells) in
    let Tells : PlanParts → Type 0 = λ p. g.I.Inputs.tells c.loop-frame.inputs p history in
    let stands = stands_next {L = g.row.L.Denot} at plan run c.run_frames.new.run history _ _ t same i.seen (omega (arith, c.run_frames.ensures.done, i.seen)) more are
    (i.stands history tells are) (c.run_frames.ensures.stands history (subst Tells (sym same) (i.told history tells))) in
    let past = past_of history t in
    let Stands : List FrameRows → Type 0 = StandsFor {L = g.row.L.Denot} at c.run_frames.new.run in
    let Counted : ℕ → Type 0 = λ n. c.loop-frame.counts ≡ counts_of plan n past in
    let bound : c.args.run.now.length ≡ c.run_frames.new.run.length = sym (c.run_frames.ensures.length ∙ i.bound) in
    let few : length past < MAX_FRAMES = omega (arith, past_length history t (omega arith), more, are.few) in
    (get_or history t run.input, past, subst Stands (past_at history t run.input more) stands, subst Counted bound (i.counted history tells are), few)

pub loop-frame-preserved : goal.loop-frame-preserved
loop-frame-preserved g c =
    let plan = c.args.plan.now in
    let t = c.loop-frame._frame in
    let i = c.loop-frame.invariant in
    let run = c.loop-frame.run in
    let at = g.L.Layer.is_at in
    let tells = g.I.Inputs.tells in
    let same : run.plan.now ≡ plan = ap (λ p. p.now) i.plan ∙ c.requires.plan in
    let new_plan : c.run_frames.new.run.plan.now ≡ plan = ap (λ p. p.now) c.run_frames.ensures.plan ∙ same in
    let told : (history : History) → tells c.args.inputs.now plan history → tells c.loop-frame.inputs run.plan.now history =
    λ history tell. let Tells : PlanParts → Type 0 = λ p. tells c.loop-frame.inputs p history in subst Tells (sym same) (i.told history tell) in
    let seen : g.I.Inputs.done c.run_frames.new.inputs ≡ t + 1 = omega (arith, c.run_frames.ensures.done, i.seen) in
    let bound : c.run_frames.new.run.length ≡ c.args.run.now.length = c.run_frames.ensures.length ∙ i.bound in
    let more : (history : History) → tells c.args.inputs.now plan history → t < length history =
    λ history tell. omega (arith, c.loop-frame-test.true, c.frames-frames.ensures plan history tell) in
    let stands : (history : History) → tells c.args.inputs.now plan history → IsHistoryOf plan history
    → StandsFor {L = g.row.L.Denot} at c.run_frames.new.run (past_of history (t + 1)) =
    λ history tell are. stands_next {L = g.row.L.Denot} at plan run c.run_frames.new.run history _ _ t same i.seen seen (more history tell) are
    (i.stands history tell are) (c.run_frames.ensures.stands history (told history tell)) in
    record {
      seen = seen;
      plan = c.run_frames.ensures.plan ∙ i.plan;
      bound = bound;
      told = λ history tell.
          let Tells : PlanParts → Type 0 = λ p. tells c.run_frames.new.inputs p history in
          subst Tells new_plan (c.run_frames.ensures.history history (told history tell));
      stands = stands;
      counted = λ history tell are.
          let past = past_of history t in
          let now = past_at history t run.input (more history tell) in
          let Stands : List FrameRows → Type 0 = StandsFor {L = g.row.L.Denot} at c.run_frames.new.run in
          let Counted : ℕ → Type 0 = λ n. c.loop-frame.counts ≡ counts_of plan n past in
          c.with_frame-counts.ensures (get_or history t run.input) past (subst Stands now (stands history tell are)) (subst Counted (sym bound) (i.counted history tell are))
          ∙ ap₂ (λ (n : ℕ) (frames : List FrameRows). counts_of plan n frames) bound (sym now);
    }
