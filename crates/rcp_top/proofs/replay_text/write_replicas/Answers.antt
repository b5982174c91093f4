-- The line of a replica is the next one that is to be written.
use Rattle.std.proofs.Common.{◌≡◌, ℕ, List, flat_map, ap, subst, arith}
use Rattle.std.specs.List.{range_with_len}
use Rattle.rcp_base.specs.Adding.{Adds}
use Rattle.rcp_base.proofs.AddingLaws.{adds_then}
use Rattle.rcp_model.specs.declared.plan.PlanParts.{PlanParts}
use Rattle.rcp_top.specs.Replay.{held_line}
use Rattle.rcp_top.proofs.LineLemmas.{numbered_more}
use Rattle.rcp_top.proofs.replay_text.write_replicas.Goals as goal

pub loop-replica-preserved : goal.loop-replica-preserved
loop-replica-preserved g c rows past stands =
    let replica = c.loop-replica.replica in
    let line : ℕ → List ℕ = held_line c.args.plan.now c.args.run.now.length rows past in
    let Q : List ℕ → Type 0 = Adds (g.S.Sink.state c.args.out.now) (g.S.Sink.state c.write_replica-so_far.new.out) c.args.so_far c.write_replica-so_far.result in
    subst Q (numbered_more line replica)
    (adds_then _ _ _ _ _ _ (flat_map line (range_with_len 0 replica)) (line replica)
    (c.loop-replica.invariant rows past stands) (c.write_replica-so_far.ensures rows past stands))

pub returns : goal.returns
returns g c rows past stands =
    let plan = c.args.plan.now in
    let many = ap (λ (parts : PlanParts). parts.replicas) c.parts.ensures.parts in
    let all : c.loop-replica.replica ≡ plan.replicas = omega (arith, c.loop-replica-test.false, c.loop-replica.auto.replica-end, many) in
    let P : ℕ → Type 0 = λ n. Adds (g.S.Sink.state c.args.out.now) (g.S.Sink.state c.loop-replica.out) c.args.so_far c.loop-replica.so_far
    (flat_map (held_line plan c.args.run.now.length rows past) (range_with_len 0 n)) in
    subst P all (c.loop-replica.invariant rows past stands)
