-- The vote of an actuator is the next one.
use Rattle.std.proofs.Common.{◌≡◌, ◌<◌, ℕ, ℤ, ◌∷◌, [], ◌++◌, length, Option, ap, sym, ◌∙◌, subst, append-nil, arith}
use Rattle.std.proofs.lemmas.List.{length-append}
use Rattle.rcp_base.proofs.TableLaws.{length-table, table_none}
use Rattle.rcp_base.specs.Tables.{table}
use Rattle.rcp_model.specs.declared.plan.PlanParts.{PlanParts}
use Rattle.rcp_model.specs.System.{actuator_vote, state_after}
use Rattle.rcp_top.specs.Summary.{tally_of}
use Rattle.rcp_top.proofs.SummaryLemmas.{votes_more}
use Rattle.rcp_top.proofs.counts.with_votes.Goals as goal

pub loop-actuator-init : goal.loop-actuator-init
loop-actuator-init g c votes past is stands =
    let vote = actuator_vote c.args.plan.now (state_after c.args.plan.now past) in
    is ∙ ap tally_of (sym (ap (λ more. votes ++ more) (table_none vote) ∙ append-nil votes))

pub with_vote-tally-requires : goal.with_vote-tally-requires
with_vote-tally-requires g c =
    let plan = c.args.plan.now in
    let votes = c.requires.few.0 in
    let past = c.requires.stands.0 in
    let vote = actuator_vote plan (state_after plan past) in
    let k = c.loop-actuator.actuator in
    let more = table k vote in
    let few : k < 4294967296 = omega arith in (
      votes ++ more,
      c.loop-actuator.invariant votes past c.requires.few.1 c.requires.stands.1,
      omega (arith, length-append votes more, length-table k vote, c.requires.few.2),
    )

pub loop-actuator-preserved : goal.loop-actuator-preserved
loop-actuator-preserved g c votes past is stands =
    let plan = c.args.plan.now in
    let vote = actuator_vote plan (state_after plan past) in
    let k = c.loop-actuator.actuator in
    let so_far = votes ++ table k vote in
    let P : PlanParts → Type 0 = λ p. c.vote.result ≡ actuator_vote p (state_after p past) k in
    let next : c.vote.result ≡ vote k = subst P c.requires.plan (c.vote.ensures past stands) in
    c.with_vote-tally.ensures so_far (c.loop-actuator.invariant votes past is stands)
    ∙ ap (λ (last : Option ℤ). tally_of (so_far ++ last ∷ [])) next
    ∙ ap tally_of (votes_more votes vote k)

pub returns : goal.returns
returns g c votes past is stands =
    let plan = c.args.plan.now in
    let vote = actuator_vote plan (state_after plan past) in
    let many = c.len-actuator-end.ensures ∙ ap (λ (parts : PlanParts). length parts.actuators) c.parts.ensures.parts in
    let all : c.loop-actuator.actuator ≡ length plan.actuators = omega (arith, c.loop-actuator-test.false, c.loop-actuator.auto.actuator-end, many) in
    c.loop-actuator.invariant votes past is stands ∙ ap (λ (n : ℕ). tally_of (votes ++ table n vote)) all
