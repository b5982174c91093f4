use Rattle.std.proofs.Common.{◌∙◌, ap, sym, subst, refl}
use Rattle.std.proofs.lemmas.Result.{err_from_is_err_and}
use Rattle.rcp_base.specs.Answers.{IsFaultOr}
use Rattle.fault_journal.specs.Fault.{is_journal_memory}
use Rattle.rcp_model.specs.declared.plan.PlanParts.{PlanParts}
use Rattle.rcp_model.specs.Plan.{IsPlan}
use Rattle.fault_journal.specs.Journal.{journal_rows}
use Rattle.fault_journal.proofs.ReadLemmas.{read-Ok, read-Err, journal-Ok}
use Rattle.fault_journal.proofs.journal.Journal.check.Goals as goal

pub returns-in_err-read-clause-fault : goal.returns-in_err-read-clause-fault
returns-in_err-read-clause-fault c =
    let p = err_from_is_err_and c.from_residual.result c.from_residual.ensures.1 in
    rw (p.1, p.2)
    (read-Err c.args.plan.now c.args.bytes.now c.in_err-read.field-0.0
    (subst (λ (plan : PlanParts). IsFaultOr (is_journal_memory c.in_err-read.field-0.0) c.in_err-read.field-0.0 (journal_rows plan c.args.bytes.now)) c.parts.ensures.parts c.in_err-read.ensures))

pub returns-clause-verdict : goal.returns-clause-verdict
returns-clause-verdict c =
    read-Ok c.args.plan.now c.args.bytes.now (record { rows = c.in_ok-read.read.rows; frames = c.in_ok-read.read.frames; place = 0; done = 0 })
    (ap (λ (parts : PlanParts). journal_rows parts c.args.bytes.now) (sym c.parts.ensures.parts) ∙ c.in_ok-read.ensures)

pub returns-clause-journal : goal.returns-clause-journal
returns-clause-journal c =
    journal-Ok c.args.plan.now c.args.bytes.now _
    (subst IsPlan c.parts.ensures.parts c.parts.ensures.rules)
    (ap (λ (parts : PlanParts). journal_rows parts c.args.bytes.now) (sym c.parts.ensures.parts) ∙ c.in_ok-read.ensures) refl refl
