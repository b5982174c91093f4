-- The plan, and then its journal.
use Rattle.std.proofs.Common.{List, ℕ, Err, subst}
use Rattle.std.proofs.lemmas.Result.{err_from_is_err_and}
use Rattle.rcp_model.specs.declared.plan.PlanParts.{PlanParts}
use Rattle.rcp_model.specs.History.{History}
use Rattle.rcp_top.specs.Finds.{Finds}
use Rattle.rcp_top.specs.Frames.{ShowsRun}
use Rattle.rcp_top.specs.Read.{IsJudged, IsJournal, plan_at, history_at, shown}
use Rattle.rcp_top.specs.Reading.{Reading, ◌>>=◌}
use Rattle.rcp_top.proofs.ReadingLaws.{finds_then, finds_stop}
use Rattle.rcp_top.proofs.read.read_run.Goals as goal

after_plan : (PlanParts → History → List ℕ) → List ℕ → PlanParts → Reading (List ℕ)
after_plan text journal plan = history_at plan journal >>= λ history. shown (text plan history)

pub returns-in_err-journal-clause-finds : goal.returns-in_err-journal-clause-finds
unfolding after_plan
returns-in_err-journal-clause-finds g c text_for =
    let p = err_from_is_err_and c.from_residual-in_err-journal.result c.from_residual-in_err-journal.ensures.1 in
    let b = g.F.Folder.state c.read_plan_at.new.folder in
    let d = g.F.Folder.state c.read_journal_at.new.folder in
    let text = text_for c.args.asked in
    let judged = c.in_ok-judged.judged in
    let journal = c.args.journal.now in
    let why = c.in_err-journal.field-0.0 in
    let P : PlanParts → Type 0 = λ plan. Finds (ShowsRun text_for) b d (after_plan text journal plan) (Err why) in
    rw (p.1, p.2) (finds_then IsJudged (ShowsRun text_for) (g.F.Folder.state c.args.folder.now) b d (plan_at c.args.file.now) (after_plan text journal) judged (Err why)
    c.in_ok-judged.ensures.later c.in_err-journal.ensures.later c.in_ok-judged.ensures.finds
    (λ plan is. subst P is.is
    (finds_stop (IsJournal judged.plan) (ShowsRun text_for) b d (history_at judged.plan journal) (λ history. shown (text judged.plan history)) why
    c.in_err-journal.ensures.later c.in_err-journal.ensures.finds)))
