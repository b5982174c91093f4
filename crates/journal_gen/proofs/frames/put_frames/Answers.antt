use Rattle.journal_gen.proofs.TextLemmas.{frame_put}
use Rattle.journal_gen.proofs.frames.put_frames.Goals as goal

pub loop-frame-preserved : goal.loop-frame-preserved
loop-frame-preserved c =
    frame_put c.args.parts.now c.args.recovery c.args.number c.loop-frame.frame c.loop-frame.draws.seed _ _ _ _
    c.loop-frame.invariant.0 c.loop-frame.invariant.1
    c.in_ok-put_frame.ensures.text c.in_ok-put_frame.ensures.seed
