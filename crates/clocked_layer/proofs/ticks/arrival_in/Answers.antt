use Rattle.std.specs.Prelude.{IfSome}
use Rattle.std.proofs.Common.{None, Option, SFits, Some, ap₂, arith, cond, rules, subst, sym, w64, ℤ, ◌∙◌}
use Rattle.std.proofs.lemmas.Int.{to_z-of_z}
use Rattle.clocked_layer.specs.Opening.{ArriveTogether}
use Rattle.clocked_layer.proofs.ticks.arrival_in.Goals as goal

pub returns-in-Some : goal.returns-in-Some
returns-in-Some c plan s =
    let fits : SFits w64 c.in-Some.tick = search rules in
    let p = c.args.sender in
    let q = c.args.receiver in
    let together = subst
    (λ (o : Option ℤ). IfSome o (ArriveTogether c.args.setting.now c.args.frame c.args.input.now))
    c.in-Some.is c.requires.ticks.arrival in
    c.to_another.ensures
    ∙ ap₂ (λ t x. cond t (Some x) None)
    (sym (together.goes plan p q s (omega (arith, s.replicas, c.requires.sender))
    (omega (arith, s.replicas, c.requires.receiver))))
    (to_z-of_z w64 c.in-Some.tick fits ∙ together.arrives plan p q s)
