-- The guard as a test.
use Rattle.std.proofs.Common.{[], ◌∷◌, refl, arith}
use Rattle.rcp_top.specs.Headline.{GuardsAreTested}

pub guard_is_tested : GuardsAreTested
guard_is_tested plan recovery [] = (λ _. tt, λ _. refl)
guard_is_tested plan recovery (rows ∷ past) = grind (arith, guard_is_tested plan recovery past)
