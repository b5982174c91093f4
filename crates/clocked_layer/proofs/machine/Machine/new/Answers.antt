use Rattle.std.proofs.Common.{None, Option, ap, length, refl, ℤ, ◌∙◌}
use Rattle.std.proofs.lemmas.List.{length-replicate}
use Rattle.clocked_layer.proofs.PostLemmas.{none_posted}
use Rattle.rcp_base.specs.Message.{Content}
use Rattle.rcp_model.specs.System.{initial_state}
use Rattle.rcp_model.specs.declared.plan.PlanParts.{PlanParts}
use Rattle.clocked_layer.proofs.machine.Machine.new.Goals as goal

abbrev none : Option ℤ
none = None

pub returns : goal.returns
unfolding initial_state
returns c =
    let plan = c.args.plan.now in
    let setting = c.in_ok-setting.ensures in
    record {
      of_plan = record {
        setting = setting;
        timing = ap (λ (parts : PlanParts). parts.timing) c.parts.ensures.parts;
        votes = c.in_ok-of.ensures;
        code = c.in_ok-new.ensures;
        phases = c.in_ok-phases.ensures.size;
        own = ap (λ (m : Content). length m.values) c.in_ok-own.ensures
            ∙ length-replicate c.cells.result none ∙ c.cells.ensures;
        fresh = c.in_ok-fresh.ensures.room;
        late = c.in_ok-late.ensures.room;
      };
      done = refl;
      phases = c.in_ok-phases.ensures.rest;
      fresh = none_posted c.in_ok-fresh.fresh.items plan.replicas plan.replicas
          (c.in_ok-fresh.ensures.none plan setting);
      late = none_posted c.in_ok-late.late.items plan.replicas plan.replicas
          (c.in_ok-late.ensures.none plan setting);
    }
