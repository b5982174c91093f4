-- The verdict on what was seen of the file is that on the file.
use Rattle.std.proofs.Common.{Result, subst}
use Rattle.rcp_top.specs.Reading.{Reading, End, file_at}
use Rattle.rcp_top.specs.Finds.{IsSeenUpTo, TellsEnd}
use Rattle.rcp_top.specs.Read.{IsJudged, good_plan}
use Rattle.task_file.specs.TaskFile.{task_file_result}
use Rattle.task_file.specs.declared.fault.FileFault.{FileFault}
use Rattle.rcp_model.specs.declared.plan.PlanParts.{PlanParts}
use Rattle.rcp_top.proofs.JudgeLemmas.{same_file}
use Rattle.rcp_top.proofs.ReadingLaws.{finds_then, finds_here, later_self}
use Rattle.rcp_top.proofs.read.read_plan_at.Goals as goal

pub returns-clause-finds : goal.returns-clause-finds
returns-clause-finds g c =
    let now = g.F.Folder.state c.read_file.new.folder in
    finds_then (λ seen. IsSeenUpTo 1048576 seen.items) IsJudged _ now now (file_at c.args.file.now) (λ bytes. Reading.gives (good_plan (task_file_result bytes)))
    c.in_ok-bytes.bytes c.plan_in.result c.in_ok-bytes.ensures.later (later_self now) c.in_ok-bytes.ensures.finds
    (λ bytes seen.
    let P : Result PlanParts FileFault → Type 0 = λ said. TellsEnd IsJudged c.plan_in.result (End.gave (good_plan said)) in
    finds_here IsJudged now now (good_plan (task_file_result bytes)) c.plan_in.result
    (subst P (same_file c.in_ok-bytes.bytes.items bytes seen) (rw c.as_slice.ensures.value at c.plan_in.ensures)))
