use Rattle.rcp_model.proofs.HistoryLaws.{steps_by_frames, judges_by_frames}
use Rattle.rcp_model.proofs.laws.frames.histories_go_by_frames.Goals as goal

pub returns : goal.returns
returns c = λ plan recovery history. (steps_by_frames plan history, judges_by_frames plan recovery history)
