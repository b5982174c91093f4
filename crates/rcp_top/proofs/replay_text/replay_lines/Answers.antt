-- The frame that is written is the one for which the run stands, and what is left is to be written.
use Rattle.std.proofs.Common.{◌≡◌, ◌+◌, ◌<◌, ◌≤◌, length, refl, ap, sym, ◌∙◌, subst, arith}
use Rattle.rcp_base.proofs.AddingLaws.{halfway_start, halfway_as, halfway_stop, halfway_last}
use Rattle.rcp_model.specs.declared.plan.PlanParts.{PlanParts}
use Rattle.rcp_model.specs.History.{History, past_of}
use Rattle.layer_stack.specs.Inputs.{IsHistoryOf}
use Rattle.layer_stack.specs.Run.{StandsFor}
use Rattle.trace_text.specs.declared.label.Label.TheVariants as label
use Rattle.trace_text.specs.Lines.{count_line}
use Rattle.rcp_top.specs.Replay.{replay_frame_text}
use Rattle.rcp_top.proofs.ReplayLemmas.{frame_replayed}
use Rattle.rcp_top.proofs.RunLemmas.{run_at_end, stands_next}
use Rattle.rcp_top.proofs.replay_text.replay_lines.Goals as goal

pub loop-t-init : goal.loop-t-init
loop-t-init g c = record {
  seen = c.requires.first;
  plan = refl;
  bound = refl;
  told = λ history tells. tells;
  stands = λ history tells are. c.requires.start;
  text = λ history tells are. halfway_start _ _;
}

pub returns-then-is_err-clause-text : goal.returns-then-is_err-clause-text
returns-then-is_err-clause-text g c history tells are =
    let plan = c.args.plan.now in
    let t = c.loop-t.t in
    let i = c.loop-t.invariant in
    let run = c.loop-t.run in
    let at = g.L.Layer.is_at in
    let same : run.plan.now ≡ plan = ap (λ p. p.now) i.plan ∙ c.requires.plan in
    let more : t < length history = omega (arith, c.loop-t-test.true, c.frames-frames.ensures plan history tells) in
    let Tells : PlanParts → Type 0 = λ p. g.I.Inputs.tells c.loop-t.inputs p history in
    let stands = stands_next {L = g.row.L.Denot} at plan run c.run_frames.new.run history _ _ t same i.seen (omega (arith, c.run_frames.ensures.done, i.seen)) more are
    (i.stands history tells are) (c.run_frames.ensures.stands history (subst Tells (sym same) (i.told history tells))) in
    halfway_stop c.write_frame-so_far.result (sym c.is_err.ensures.value ∙ c.if-is_err.true)
    (frame_replayed {L = g.row.L.Denot} at plan c.run_frames.new.run history t _ c.args.run.now.length run.input _ _
    (c.run_frames.ensures.length ∙ i.bound) more stands (i.text history tells are) c.write_frame-so_far.ensures)

pub loop-t-preserved : goal.loop-t-preserved
loop-t-preserved g c =
    let plan = c.args.plan.now in
    let t = c.loop-t.t in
    let i = c.loop-t.invariant in
    let run = c.loop-t.run in
    let at = g.L.Layer.is_at in
    let tells = g.I.Inputs.tells in
    let same : run.plan.now ≡ plan = ap (λ p. p.now) i.plan ∙ c.requires.plan in
    let new_plan : c.run_frames.new.run.plan.now ≡ plan = ap (λ p. p.now) c.run_frames.ensures.plan ∙ same in
    let told : (history : History) → tells c.args.inputs.now plan history → tells c.loop-t.inputs run.plan.now history =
    λ history tell. let Tells : PlanParts → Type 0 = λ p. tells c.loop-t.inputs p history in subst Tells (sym same) (i.told history tell) in
    let seen : g.I.Inputs.done c.run_frames.new.inputs ≡ t + 1 = omega (arith, c.run_frames.ensures.done, i.seen) in
    let more : (history : History) → tells c.args.inputs.now plan history → t < length history =
    λ history tell. omega (arith, c.loop-t-test.true, c.frames-frames.ensures plan history tell) in
    let stands : (history : History) → tells c.args.inputs.now plan history → IsHistoryOf plan history
    → StandsFor {L = g.row.L.Denot} at c.run_frames.new.run (past_of history (t + 1)) =
    λ history tell are. stands_next {L = g.row.L.Denot} at plan run c.run_frames.new.run history _ _ t same i.seen seen (more history tell) are
    (i.stands history tell are) (c.run_frames.ensures.stands history (told history tell)) in
    record {
      seen = seen;
      plan = c.run_frames.ensures.plan ∙ i.plan;
      bound = c.run_frames.ensures.length ∙ i.bound;
      told = λ history tell.
          let Tells : PlanParts → Type 0 = λ p. tells c.run_frames.new.inputs p history in
          subst Tells new_plan (c.run_frames.ensures.history history (told history tell));
      stands = stands;
      text = λ history tell are.
          frame_replayed {L = g.row.L.Denot} at plan c.run_frames.new.run history t _ c.args.run.now.length run.input _ _
          (c.run_frames.ensures.length ∙ i.bound) (more history tell) (stands history tell are) (i.text history tell are) c.write_frame-so_far.ensures;
    }

pub returns-clause-text : goal.returns-clause-text
returns-clause-text g c history tells are =
    let plan = c.args.plan.now in
    let i = c.loop-t.invariant in
    let all = c.frames-frames.ensures plan history tells in
    let least : length history ≤ c.loop-t.t = omega (arith, c.loop-t-test.false, all) in
    let last = count_line label.End (length history) in
    let line : c.count.result.now ≡ last = c.count.ensures ∙ ap (count_line label.End) all in
    halfway_last (g.S.Sink.state c.add.new.out) c.add.result last
    (halfway_as _ _ (run_at_end (replay_frame_text plan c.args.run.now.length) history c.loop-t.t least) (i.text history tells are)) (rw line at c.add.ensures)
