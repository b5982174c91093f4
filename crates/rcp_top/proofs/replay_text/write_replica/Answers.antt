-- What the run and its layer tell of a replica is what it holds.
use Rattle.std.proofs.Common.{◌≡◌, ◌∷◌, length, ◌∙◌, subst}
use Rattle.rcp_model.specs.declared.plan.PlanParts.{PlanParts}
use Rattle.rcp_model.specs.Health.{is_working}
use Rattle.rcp_model.specs.System.{state_after}
use Rattle.rcp_top.proofs.ReplayLemmas.{at_of_run, held_line_is, told_cells}
use Rattle.rcp_top.proofs.replay_text.write_replica.Goals as goal

pub returns : goal.returns
returns g c rows past stands =
    let plan = c.args.plan.now in
    let run = c.args.run.now in
    let replica = c.args.replica in
    let now = rows ∷ past in
    let state = state_after plan now in
    let at = at_of_run {L = g.row.L.Denot} g.L.Layer.is_at plan run c.layer-layer.result.now now c.requires.plan c.layer-layer.ensures stands in
    let Counts : PlanParts → Type 0 = λ parts. c.len-count.result ≡ length parts.cells in
    let count = subst Counts c.parts.ensures.parts c.len-count.ensures in
    let cells = told_cells plan now replica c.len-count.result _ count (c.cells_of-cells.ensures plan state at c.requires.replica count) in
    let Works : PlanParts → Type 0 = λ p. c.working-working.result ≡ is_working p run.length now replica in
    let working = subst Works c.requires.plan (c.working-working.ensures now stands) in
    let line =
    held_line_is plan run.length rows past replica _ _ _ _ (c.is_down-down.ensures now stands) (c.slot.ensures plan state at c.requires.replica) cells working in
    rw (c.replica.ensures ∙ line) at c.add.ensures
