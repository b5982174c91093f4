use Rattle.std.proofs.Common.{sym, ◌∙◌, ap, ℕ, ◌+◌, ◌-◌, ◌%◌, ◌≡◌, arith}
use Rattle.std.proofs.Math.Nat.{mod-eq_of_lt, mod_self}
use Rattle.pattern_thinning.proofs.reach.slot_before.Goals as goal

pub returns-then-slot-eq0-clause-turn : goal.returns-then-slot-eq0-clause-turn
returns-then-slot-eq0-clause-turn c =
    let slots : ℕ = c.args.rows.now.slots in
    let full : c.slots.result - 1 + 1 ≡ slots = omega arith in
    c.if-slot-eq0.true ∙ sym (ap (λ (x : ℕ). x % slots) full ∙ mod_self slots)

pub returns-else-slot-eq0-clause-turn : goal.returns-else-slot-eq0-clause-turn
returns-else-slot-eq0-clause-turn c =
    let slots : ℕ = c.args.rows.now.slots in
    let same : c.args.slot - 1 + 1 ≡ c.args.slot = omega arith in
    sym (ap (λ (x : ℕ). x % slots) same ∙ mod-eq_of_lt c.requires)
