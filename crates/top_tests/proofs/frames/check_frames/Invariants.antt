use Rattle.rcp_model.specs.History.{History}
use Rattle.top_tests.specs.Frames.{CanFillNext}
use Rattle.top_tests.proofs.frames.check_frames.Given as goal

abbrev pub invariant-loop-line : goal.invariant-loop-line
invariant-loop-line g l = (history : History) × CanFillNext l.plan history l.journal l.input
