use Rattle.rcp_model.specs.Moments.{begin_tick}
use Rattle.rcp_model.specs.declared.plan.Timing.{Timing}
use Rattle.replica_parts.proofs.SettingLemmas.{end_is}
use Rattle.std.proofs.Common.{FitsSigned, ap, arith, of_z, pos, to_z, w64, ◌+◌, ◌-ℤ◌, ◌∙◌}
use Rattle.std.proofs.lemmas.Int.{ints, to_z-of_z}
use Rattle.replica_parts.proofs.keeping.end_tick.Goals as goal

pub returns : goal.returns
returns c = λ plan s.
    let r = c.begin.ensures.range in
    let f : FitsSigned w64 c.begin.result = omega (arith, ints, r.0, r.1) in
    to_z-of_z w64 c.begin.result f ∙ c.begin.ensures.value
    ∙ ap (λ (t : Timing). begin_tick t (c.args.frame + 1) (to_z w64 (of_z w64 (pos 0 -ℤ to_z w64 (of_z w64 t.skew_limit))))) s.timing
    ∙ end_is plan.timing (c.args.frame + 1) s.rules.timing_range.skew_limit
