-- The guard, the votes and the replicas, one after the other.
use Rattle.std.proofs.Common.{◌≡◌, ◌↔◌, ◌∷◌, ◌++◌, IsTrue, length, ap₂, ◌∙◌, subst}
use Rattle.rcp_base.proofs.AddingLaws.{adds_then}
use Rattle.rcp_model.specs.declared.plan.PlanParts.{PlanParts}
use Rattle.rcp_model.specs.Health.{MeetsGuard}
use Rattle.trace_text.specs.Lines.{frame_guard_line}
use Rattle.rcp_top.specs.Replay.{held_lines, meets_guard, replay_frame_text, voted_lines}
use Rattle.rcp_top.proofs.ReplayLemmas.{guard_told}
use Rattle.rcp_top.proofs.replay_text.write_frame.Goals as goal

pub returns : goal.returns
unfolding replay_frame_text
returns g c rows past stands there =
    let plan = c.args.plan.now in
    let length_of_run = c.args.run.now.length in
    let now = rows ∷ past in
    let P : PlanParts → Type 0 = λ p. IsTrue c.guard.result ↔ MeetsGuard p length_of_run now in
    let guard = guard_told plan length_of_run now c.guard.result (subst P c.requires.plan (c.guard.ensures now stands)) in
    let first = frame_guard_line (length past) (meets_guard plan length_of_run now) in
    let line : c.frame_guard.result.now ≡ first = c.frame_guard.ensures ∙ ap₂ frame_guard_line there guard in
    let votes = voted_lines plan now in
    let replicas = held_lines plan length_of_run rows past in
    adds_then _ _ _ _ _ _ first (votes ++ replicas) (rw line at c.add-so_far.ensures)
    (adds_then _ _ _ _ _ _ votes replicas (c.write_votes-so_far.ensures now stands) (c.write_replicas.ensures rows past stands))
