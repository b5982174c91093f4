-- The line of an actuator is the next one that is to be written.
use Rattle.std.proofs.Common.{◌≡◌, ℕ, List, flat_map, length, ap, ◌∙◌, subst, arith}
use Rattle.std.specs.List.{range_with_len}
use Rattle.rcp_base.specs.Adding.{Adds}
use Rattle.rcp_base.proofs.AddingLaws.{adds_then}
use Rattle.rcp_model.specs.declared.plan.PlanParts.{PlanParts}
use Rattle.rcp_top.specs.Replay.{voted_line}
use Rattle.rcp_top.proofs.LineLemmas.{numbered_more}
use Rattle.rcp_top.proofs.replay_text.write_votes.Goals as goal

pub loop-actuator-preserved : goal.loop-actuator-preserved
loop-actuator-preserved g c past stands =
    let actuator = c.loop-actuator.actuator in
    let line : ℕ → List ℕ = voted_line c.args.plan.now past in
    let Q : List ℕ → Type 0 = Adds (g.S.Sink.state c.args.out.now) (g.S.Sink.state c.write_vote-so_far.new.out) c.args.so_far c.write_vote-so_far.result in
    subst Q (numbered_more line actuator)
    (adds_then _ _ _ _ _ _ (flat_map line (range_with_len 0 actuator)) (line actuator)
    (c.loop-actuator.invariant past stands) (c.write_vote-so_far.ensures past stands))

pub returns : goal.returns
returns g c past stands =
    let plan = c.args.plan.now in
    let many = c.len-actuator-end.ensures ∙ ap (λ (parts : PlanParts). length parts.actuators) c.parts.ensures.parts in
    let all : c.loop-actuator.actuator ≡ length plan.actuators = omega (arith, c.loop-actuator-test.false, c.loop-actuator.auto.actuator-end, many) in
    let P : ℕ → Type 0 = λ n. Adds (g.S.Sink.state c.args.out.now) (g.S.Sink.state c.loop-actuator.out) c.args.so_far c.loop-actuator.so_far
    (flat_map (voted_line plan past) (range_with_len 0 n)) in
    subst P all (c.loop-actuator.invariant past stands)
