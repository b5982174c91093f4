-- The events that are written are those that the picker picked, and what is left is to be written.
use Rattle.std.proofs.Common.{◌≡◌, ◌+◌, ◌<◌, ◌≤◌, length, refl, ap, sym, ◌∙◌, subst, arith}
use Rattle.rcp_base.proofs.AddingLaws.{halfway_start, halfway_as, halfway_stop, halfway_last}
use Rattle.rcp_model.specs.declared.plan.PlanParts.{PlanParts}
use Rattle.rcp_model.specs.History.{History}
use Rattle.clocked_layer.specs.Stepped.{RestsAt}
use Rattle.layer_stack.specs.Inputs.{IsHistoryOf}
use Rattle.trace_text.specs.declared.label.Label.TheVariants as label
use Rattle.trace_text.specs.Lines.{count_line}
use Rattle.rcp_top.specs.Events.{event_frame_text}
use Rattle.rcp_top.proofs.EventLemmas.{answers_next, block_written, picked_next}
use Rattle.rcp_top.proofs.RunLemmas.{run_at_end, stands_next}
use Rattle.rcp_top.proofs.event_text.event_lines.Goals as goal

pub loop-t-init : goal.loop-t-init
loop-t-init g c = record {
  seen = c.requires.first;
  plan = refl;
  bound = refl;
  told = λ history tells. tells;
  stands = λ history tells are. c.requires.start;
  answers = λ history answers tells are is. is;
  text = λ history answers tells are is. halfway_start _ _;
}

pub returns-then-is_err-clause-text : goal.returns-then-is_err-clause-text
returns-then-is_err-clause-text g c history answers tells are is =
    let B = g.B.Stepped in
    let plan = c.args.plan.now in
    let t = c.loop-t.t in
    let i = c.loop-t.invariant in
    let run = c.loop-t.run in
    let layer = c.run_frames.new.run.layer in
    let same : run.plan.now ≡ plan = ap (λ p. p.now) i.plan ∙ c.requires.plan in
    let more : t < length history = omega (arith, c.loop-t-test.true, c.frames-frames.ensures plan history tells) in
    let Tells : PlanParts → Type 0 = λ p. g.I.Inputs.tells c.loop-t.inputs p history in
    let told = subst Tells (sym same) (i.told history tells) in
    let picked = picked_next {B = g.row.B.Denot} B.rests B.answers B.log plan run layer history _ t same i.seen more are (i.stands history tells are)
    (λ rows. c.run_frames.ensures.went history rows refl told) in
    let events : c.log.result.now ≡ B.log layer.block = c.log.ensures ∙ ap B.log (c.block.ensures ∙ ap (λ timed. timed.block) c.layer.ensures) in
    halfway_stop c.write_block-so_far.result (sym c.is_err.ensures.value ∙ c.if-is_err.true)
    (block_written (B.answers run.layer.block) (B.answers layer.block) plan answers history t run.input (B.log layer.block) (i.answers history answers tells are is) picked
    _ _ more (i.text history answers tells are is) (rw events at c.write_block-so_far.ensures))

pub loop-t-preserved : goal.loop-t-preserved
loop-t-preserved g c =
    let B = g.B.Stepped in
    let plan = c.args.plan.now in
    let t = c.loop-t.t in
    let i = c.loop-t.invariant in
    let run = c.loop-t.run in
    let tells = g.I.Inputs.tells in
    let layer = c.run_frames.new.run.layer in
    let same : run.plan.now ≡ plan = ap (λ p. p.now) i.plan ∙ c.requires.plan in
    let new_plan : c.run_frames.new.run.plan.now ≡ plan = ap (λ p. p.now) c.run_frames.ensures.plan ∙ same in
    let told : (history : History) → tells c.args.inputs.now plan history → tells c.loop-t.inputs run.plan.now history =
    λ history tell. let Tells : PlanParts → Type 0 = λ p. tells c.loop-t.inputs p history in subst Tells (sym same) (i.told history tell) in
    let seen : g.I.Inputs.done c.run_frames.new.inputs ≡ t + 1 = omega (arith, c.run_frames.ensures.done, i.seen) in
    let more : (history : History) → tells c.args.inputs.now plan history → t < length history =
    λ history tell. omega (arith, c.loop-t-test.true, c.frames-frames.ensures plan history tell) in
    let events : c.log.result.now ≡ B.log layer.block = c.log.ensures ∙ ap B.log (c.block.ensures ∙ ap (λ timed. timed.block) c.layer.ensures) in
    let picked = λ (history : History) (tell : tells c.args.inputs.now plan history) (are : IsHistoryOf plan history).
    picked_next {B = g.row.B.Denot} B.rests B.answers B.log plan run layer history _ t same i.seen (more history tell) are (i.stands history tell are)
    (λ rows. c.run_frames.ensures.went history rows refl (told history tell)) in
    record {
      seen = seen;
      plan = c.run_frames.ensures.plan ∙ i.plan;
      bound = c.run_frames.ensures.length ∙ i.bound;
      told = λ history tell.
          let Tells : PlanParts → Type 0 = λ p. tells c.run_frames.new.inputs p history in
          subst Tells new_plan (c.run_frames.ensures.history history (told history tell));
      stands = λ history tell are.
          stands_next (λ timed. RestsAt (B.rests timed.block)) plan run c.run_frames.new.run history _ _ t same i.seen seen (more history tell) are
          (i.stands history tell are) (c.run_frames.ensures.stands history (told history tell));
      answers = λ history answers tell are is.
          answers_next (B.answers run.layer.block) (B.answers layer.block) plan answers history t run.input (B.log layer.block) (i.answers history answers tell are is)
          (picked history tell are) (more history tell);
      text = λ history answers tell are is.
          block_written (B.answers run.layer.block) (B.answers layer.block) plan answers history t run.input (B.log layer.block) (i.answers history answers tell are is)
          (picked history tell are) _ _ (more history tell) (i.text history answers tell are is) (rw events at c.write_block-so_far.ensures);
    }

pub returns-clause-text : goal.returns-clause-text
returns-clause-text g c history answers tells are is =
    let plan = c.args.plan.now in
    let i = c.loop-t.invariant in
    let all = c.frames-frames.ensures plan history tells in
    let least : length history ≤ c.loop-t.t = omega (arith, c.loop-t-test.false, all) in
    let last = count_line label.End (length history) in
    let line : c.count.result.now ≡ last = c.count.ensures ∙ ap (count_line label.End) all in
    halfway_last (g.S.Sink.state c.add.new.out) c.add.result last
    (halfway_as _ _ (run_at_end (event_frame_text plan answers) history c.loop-t.t least) (i.text history answers tells are is)) (rw line at c.add.ensures)
