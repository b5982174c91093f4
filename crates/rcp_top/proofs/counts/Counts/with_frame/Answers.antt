-- The guard, the votes and the replicas of the last frame are counted to those before.
use Rattle.std.proofs.Common.{◌↔◌, ◌∷◌, IsTrue, ap, ◌∙◌, subst, arith}
use Rattle.std.specs.Int.{from_bool}
use Rattle.rcp_model.specs.declared.plan.PlanParts.{PlanParts}
use Rattle.rcp_model.specs.Health.{MeetsGuard}
use Rattle.rcp_model.specs.Plan.{IsPlan}
use Rattle.rcp_top.specs.Summary.{all_votes}
use Rattle.rcp_top.proofs.ReplayLemmas.{guard_told}
use Rattle.rcp_top.proofs.SummaryLemmas.{all_votes_few, counts_more, guarded_few, one_at_most, parts_of, working_few}
use Rattle.rcp_top.proofs.counts.Counts.with_frame.Goals as goal

pub overflow_add-result : goal.overflow_add-result
overflow_add-result g c =
    let plan = c.args.plan.now in
    let recovery = c.args.run.now.length in
    let past = c.requires.last.1 in
    let before = parts_of plan recovery past c.args.self c.requires.last.3 in
    omega (arith, before.0, guarded_few plan recovery past, c.requires.last.4, c.from.ensures, one_at_most c.guard.result)

pub with_votes-requires-clause-few : goal.with_votes-requires-clause-few
with_votes-requires-clause-few g c =
    let plan = c.args.plan.now in
    let past = c.requires.last.1 in
    let before = parts_of plan c.args.run.now.length past c.args.self c.requires.last.3 in
    let rules = subst IsPlan c.requires.plan c.requires.last.2.rules in
    (all_votes plan past, before.1, omega (arith, all_votes_few plan past rules.actuators, c.requires.last.4))

pub overflow_add-result-2 : goal.overflow_add-result-2
overflow_add-result-2 g c =
    let plan = c.args.plan.now in
    let recovery = c.args.run.now.length in
    let past = c.requires.last.1 in
    let before = parts_of plan recovery past c.args.self c.requires.last.3 in
    let rules = subst IsPlan c.requires.plan c.requires.last.2.rules in
    omega (arith, before.2, working_few plan recovery past rules.few_replicas, c.requires.last.4, c.working_count.ensures.few, rules.few_replicas)

pub returns : goal.returns
returns g c rows past stands is =
    let plan = c.args.plan.now in
    let recovery = c.args.run.now.length in
    let now = rows ∷ past in
    let P : PlanParts → Type 0 = λ p. IsTrue c.guard.result ↔ MeetsGuard p recovery now in
    let guard = guard_told plan recovery now c.guard.result (subst P c.requires.plan (c.guard.ensures now stands)) in
    let before = parts_of plan recovery past c.args.self is in
    counts_more plan recovery rows past c.args.self c.from.result c.with_votes.result c.working_count.result is
    (c.from.ensures ∙ ap from_bool guard) (c.with_votes.ensures (all_votes plan past) now before.1 stands) (c.working_count.ensures.count now stands)
