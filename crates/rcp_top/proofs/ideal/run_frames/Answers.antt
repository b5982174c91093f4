-- The frame that is written is the one after which the processor stands, and what is left is to be written.
use Rattle.std.proofs.Common.{◌≡◌, ◌≤◌, ℤ, List, length, ap, sym, ◌∙◌, arith}
use Rattle.rcp_base.proofs.AddingLaws.{halfway_start, halfway_as, halfway_stop, halfway_last}
use Rattle.trace_text.specs.declared.label.Label.TheVariants as label
use Rattle.trace_text.specs.Lines.{count_line}
use Rattle.rcp_top.specs.Ideal.{sensors_of_history}
use Rattle.rcp_top.proofs.FrameLemmas.{past_frames, rest_at_start, rest_at_end, stands_after_next, frame_more}
use Rattle.rcp_top.proofs.HistoryLaws.{before_the_first, frame_at, after_the_next, as_many}
use Rattle.rcp_top.proofs.ideal.run_frames.Goals as goal

pub loop-t-init : goal.loop-t-init
loop-t-init g c = (
  c.requires.first,
  λ history tells are. record {
    told = tells;
    rows = before_the_first c.args.plan.now history c.args.input.now c.requires.of_plan c.requires.input;
    uni = c.requires.start;
    text = halfway_as _ _ (sym (rest_at_start c.args.plan.now (sensors_of_history history))) (halfway_start _ _);
  },
)

pub write_frame-so_far-requires-clause-stands : goal.write_frame-so_far-requires-clause-stands
write_frame-so_far-requires-clause-stands g c =
    let history = c.requires.inputs.0 in
    let so_far = c.loop-t.invariant.1 history c.requires.inputs.1 c.requires.inputs.2 in
    let past = past_frames (sensors_of_history history) c.loop-t.t in
    (c.sensors.result.now, past, c.frame.ensures c.args.plan.now past so_far.uni)

pub returns-then-is_err : goal.returns-then-is_err
returns-then-is_err g c history tells are =
    let plan = c.args.plan.now in
    let t = c.loop-t.t in
    let frames = sensors_of_history history in
    let so_far = c.loop-t.invariant.1 history tells are in
    let next = frame_at plan history _ t _ c.fill.new.input c.sensors.result.now c.loop-t.invariant.0 are (omega (arith, c.loop-t-test.true, c.frames-frames.ensures plan history tells)) so_far.rows (c.fill.ensures.rows plan history so_far.told) c.sensors.ensures in
    halfway_stop c.write_frame-so_far.result (sym c.is_err.ensures.value ∙ c.if-is_err.true)
    (frame_more plan frames t c.sensors.result.now (g.S.Sink.state c.write_frame-so_far.new.out) c.write_frame-so_far.result next.below next.there so_far.text
    (c.write_frame-so_far.ensures c.sensors.result.now (past_frames frames t) (c.frame.ensures plan (past_frames frames t) so_far.uni)))

pub loop-t-preserved : goal.loop-t-preserved
loop-t-preserved g c = (
  omega (arith, c.fill.ensures.done, c.loop-t.invariant.0),
  λ history tells are.
      let plan = c.args.plan.now in
      let t = c.loop-t.t in
      let frames = sensors_of_history history in
      let so_far = c.loop-t.invariant.1 history tells are in
      let next = frame_at plan history _ t _ c.fill.new.input c.sensors.result.now c.loop-t.invariant.0 are (omega (arith, c.loop-t-test.true, c.frames-frames.ensures plan history tells)) so_far.rows (c.fill.ensures.rows plan history so_far.told) c.sensors.ensures in
      let stands = c.frame.ensures plan (past_frames frames t) so_far.uni in
      record {
        told = c.fill.ensures.history plan history so_far.told;
        rows = after_the_next plan history t c.fill.new.input are next.is;
        uni = stands_after_next plan frames _ t c.sensors.result.now next.below next.there stands;
        text =
            frame_more plan frames t c.sensors.result.now (g.S.Sink.state c.write_frame-so_far.new.out) c.write_frame-so_far.result next.below next.there so_far.text
            (c.write_frame-so_far.ensures c.sensors.result.now (past_frames frames t) stands);
      },
)

pub returns : goal.returns
returns g c history tells are =
    let so_far = c.loop-t.invariant.1 history tells are in
    let frames : List (List ℤ) = sensors_of_history history in
    let all = c.frames-frames.ensures c.args.plan.now history tells in
    let least : length frames ≤ c.loop-t.t = omega (arith, c.loop-t-test.false, all, as_many history) in
    let last = count_line label.End (length frames) in
    let line : c.count.result.now ≡ last = c.count.ensures ∙ ap (count_line label.End) (all ∙ sym (as_many history)) in
    halfway_last (g.S.Sink.state c.add.new.out) c.add.result last
    (halfway_as _ _ (rest_at_end c.args.plan.now frames c.loop-t.t least) so_far.text) (rw line at c.add.ensures)
