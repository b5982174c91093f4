-- The rule that is told is the first that a timing breaks, and the limit on delay follows from the rules.
use Rattle.std.proofs.Common.{◌≡◌, ◌↔◌, Bool, true, false, not, if◌then◌else◌, Some, None, ◌+ℤ◌, arith}
use Rattle.std.proofs.lemmas.Int.{ints}
use Rattle.std.proofs.lemmas.Bool.{cases_from_iff}
use Rattle.std.specs.Bool.{MatchBool}
use Rattle.rcp_model.specs.declared.plan.Timing.{Timing}
use Rattle.rcp_model.specs.Laws.{TellsFirstFailedRule, TheDelayLimitFollows}
use Rattle.rcp_model.proofs.RoundingLaws.{parts_rounded_up-nonnegative, parts_rounded_up-rises, parts_rounded_up-small}
use Rattle.rcp_model.specs.TimingRules.{PhasesLast, BroadcastFits, NoneIsEarly, FramesStayApart, LimitsNest, phases_last, broadcast_fits, none_is_early, frames_stay_apart, limits_nest, first_failed_rule}

-- a test that says whether a rule holds
abbrev Tested : Bool → Type 0 → Type 0
Tested test rule = MatchBool test rule (¬ rule)

-- each test passes exactly where its rule holds
module _ (timing : Timing) where
  phases_tested : (phases_last timing ≡ true) ↔ PhasesLast timing
  phases_tested = grind (arith, ints)

  broadcast_tested : (broadcast_fits timing ≡ true) ↔ BroadcastFits timing
  broadcast_tested = grind (arith, ints)

  early_tested : (none_is_early timing ≡ true) ↔ NoneIsEarly timing
  early_tested = grind (arith, ints)

  apart_tested : (frames_stay_apart timing ≡ true) ↔ FramesStayApart timing
  apart_tested = grind (arith, ints)

  limits_tested : (limits_nest timing ≡ true) ↔ LimitsNest timing
  limits_tested = grind (arith, ints)

  -- the first test that fails, or none
  told_by : (a b c d e : Bool)
      → Tested a (PhasesLast timing) → Tested b (BroadcastFits timing) → Tested c (NoneIsEarly timing)
      → Tested d (FramesStayApart timing) → Tested e (LimitsNest timing)
      → TellsFirstFailedRule timing (if not a then Some 1 else if not b then Some 2 else if not c then Some 3 else if not d then Some 4 else if not e then Some 5 else None)
  told_by true true true true true p q r s t = grind arith
  told_by true true true true false p q r s t = grind arith
  told_by true true true false _ p q r s t = grind arith
  told_by true true false _ _ p q r s t = grind arith
  told_by true false _ _ _ p q r s t = grind arith
  told_by false _ _ _ _ p q r s t = grind arith

  -- so the rule that is told is the first that fails
  pub first_failed_rule-tells : TellsFirstFailedRule timing (first_failed_rule timing)
  unfolding first_failed_rule
  first_failed_rule-tells =
      told_by _ _ _ _ _
      (cases_from_iff phases_tested) (cases_from_iff broadcast_tested) (cases_from_iff early_tested)
      (cases_from_iff apart_tested) (cases_from_iff limits_tested)

-- the delays of healthy replicas are within the limit
pub delay_limit_follows : TheDelayLimitFollows
delay_limit_follows timing range fits apart slow =
    let phases = timing.compute +ℤ timing.broadcast +ℤ timing.vote in
    let one = parts_rounded_up-nonnegative timing.compute timing.drift_ppm (omega (arith, ints)) (omega (arith, ints)) in
    let two = parts_rounded_up-nonnegative (timing.compute +ℤ timing.broadcast) timing.drift_ppm (omega (arith, ints)) (omega (arith, ints)) in
    let rises = parts_rounded_up-rises timing.compute phases timing.drift_limit_ppm (omega (arith, ints)) (omega (arith, ints)) (omega (arith, ints)) in
    let small = parts_rounded_up-small timing.compute timing.drift_limit_ppm (omega (arith, ints)) (omega (arith, ints)) (omega (arith, ints)) in
    omega (arith, ints, one, two, rises, small)
