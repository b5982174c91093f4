-- A replica that is working is one more.
use Rattle.std.proofs.Common.{◌≡◌, ◌+◌, ap, ap₂, sym, ◌∙◌, subst, arith}
use Rattle.std.specs.Int.{from_bool}
use Rattle.rcp_model.specs.declared.plan.PlanParts.{PlanParts}
use Rattle.rcp_model.specs.Health.{is_working}
use Rattle.rcp_top.proofs.SummaryLemmas.{one_at_most, one_if, working_more}
use Rattle.rcp_top.proofs.counts.working_count.Goals as goal

pub loop-replica-preserved : goal.loop-replica-preserved
loop-replica-preserved g c =
    let k = c.loop-replica.replica in
    let length = c.args.run.now.length in
    record {
      few = omega (arith, c.loop-replica.invariant.few, c.from-count.ensures, one_at_most c.working.result);
      counted = λ past stands.
          let works = is_working c.args.plan.now length past in
          let P : PlanParts → Type 0 = λ p. c.working.result ≡ is_working p length past k in
          let told = subst P c.requires.plan (c.working.ensures past stands) in
          ap₂ (λ n b. n + b) (c.loop-replica.invariant.counted past stands) (c.from-count.ensures ∙ (ap from_bool told ∙ one_if (works k)))
          ∙ sym (working_more works k);
    }
