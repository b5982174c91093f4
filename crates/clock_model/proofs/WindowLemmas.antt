-- Between two healthy replicas a message lies in the window of its own frame.
use Rattle.std.proofs.Common.{◌≡◌, ℕ, suc, ◌*◌, ◌≤◌, true, ℤ, pos, negsuc, neg_ℤ, ◌+ℤ◌, ◌-ℤ◌, ◌*ℤ◌, ◌≤ℤ◌, int_le, arith, mul-le-mul_left}
use Rattle.std.proofs.lemmas.Int.{ints}
use Rattle.std.proofs.lemmas.Bool.{and_from}
use Rattle.rcp_model.specs.declared.plan.PlanParts.{PlanParts}
use Rattle.rcp_model.specs.declared.plan.Timing.{Timing}
use Rattle.rcp_model.specs.FrameRows.{FrameRows, skew_of, rate_of, delay_of}
use Rattle.rcp_model.specs.Messages.{arrival_of}
use Rattle.rcp_model.specs.Moments.{local_ticks, begin_tick, send_tick, vote_tick, is_in_window}
use Rattle.rcp_model.specs.Rounding.{parts_rounded_down, parts_rounded_up}
use Rattle.rcp_model.specs.TimingRules.{KeepsRules, AreInRange, frame_length}
use Rattle.rcp_model.proofs.RoundingLaws.{parts_rounded}
use Rattle.clock_model.specs.Laws.{ArrivesInTime, HealthyPairsHear}
use Rattle.clock_model.proofs.HealthLaws.{SendsRight, IsHealthy, healthy_facts}

pub le_of : (a b : ℤ) → int_le a b ≡ true → a ≤ℤ b
le_of a b h = grind (arith, ints)

of_le : (a b : ℤ) → a ≤ℤ b → int_le a b ≡ true
of_le a b h = grind (arith, ints)

-- a product with a number within a bound is within the product with the bound
pub product_within : (x d r : ℤ) → pos 0 ≤ℤ x → pos 0 ≤ℤ d → neg_ℤ d ≤ℤ r → r ≤ℤ d → (neg_ℤ (x *ℤ d) ≤ℤ (x *ℤ r)) × ((x *ℤ r) ≤ℤ (x *ℤ d))
product_within (negsuc n) d r h k low high = absurd (omega (arith, ints))
product_within (pos n) (negsuc m) r h k low high = absurd (omega (arith, ints))
product_within (pos n) (pos m) (pos a) h k low high =
    let less : n * a ≤ n * m = mul-le-mul_left n (omega (arith, ints)) in
    (omega (arith, ints), omega (arith, ints))
product_within (pos n) (pos m) (negsuc b) h k low high =
    let less : n * suc b ≤ n * m = mul-le-mul_left n (omega (arith, ints)) in
    (omega (arith, ints), omega (arith, ints))

-- local ticks are within the rounded drift of their number
pub ticks_within : (x d r : ℤ) → pos 0 ≤ℤ x → pos 0 ≤ℤ d → neg_ℤ d ≤ℤ r → r ≤ℤ d → ((x -ℤ parts_rounded_up x d) ≤ℤ local_ticks r x) × (local_ticks r x ≤ℤ (x +ℤ parts_rounded_up x d))
unfolding local_ticks
ticks_within x d r h k low high =
    let p = product_within x d r h k low high in
    let at_most = (parts_rounded x d).up (parts_rounded_up x d) in
    let above : (x *ℤ d) ≤ℤ (pos 1_000_000 *ℤ parts_rounded_up x d) = at_most.0 (omega (arith, ints)) in
    let below = (parts_rounded x r).down (parts_rounded_down x r) in
    let under : (pos 1_000_000 *ℤ parts_rounded_down x r) ≤ℤ (x *ℤ r) = below.0 (omega (arith, ints)) in
    let least = (parts_rounded x r).down (neg_ℤ (parts_rounded_up x d)) in
    let low_side : neg_ℤ (parts_rounded_up x d) ≤ℤ parts_rounded_down x r = least.1 (omega (arith, ints, p.0, above)) in
    (omega (arith, ints, low_side), omega (arith, ints, under, above, p.1))

-- a healthy replica's message reaches a healthy replica in its window of the frame
in_window_of : (plan : PlanParts) → AreInRange plan.timing → KeepsRules plan.timing → (frame : ℕ) (rows : FrameRows) (sender receiver : ℕ)
    → IsHealthy plan rows sender → IsHealthy plan rows receiver → SendsRight plan rows sender receiver
    → ArrivesInTime plan frame rows sender receiver
unfolding is_in_window arrival_of send_tick vote_tick begin_tick
in_window_of plan range rules frame rows sender receiver sends hears right =
    let timing : Timing = plan.timing in
    let base : ℤ = pos frame *ℤ frame_length timing in
    let c = ticks_within timing.compute timing.drift_ppm (rate_of rows sender) range.compute.0 range.drift_ppm.0 (le_of _ _ sends.rate_low) (le_of _ _ sends.rate_high) in
    let both : pos 0 ≤ℤ (timing.compute +ℤ timing.broadcast) = omega (arith, ints, range.compute.0, range.broadcast.0) in
    let v = ticks_within (timing.compute +ℤ timing.broadcast) timing.drift_ppm (rate_of rows receiver) both range.drift_ppm.0 (le_of _ _ hears.rate_low) (le_of _ _ hears.rate_high) in
    let a = le_of (pos 0) (skew_of rows sender) sends.skew_low in
    let b = le_of (skew_of rows sender) timing.skew sends.skew_high in
    let d = le_of (pos 0) (skew_of rows receiver) hears.skew_low in
    let e = le_of (skew_of rows receiver) timing.skew hears.skew_high in
    let f = le_of timing.delay_min (delay_of rows sender receiver) right.delay_low in
    let g = le_of (delay_of rows sender receiver) timing.delay_max right.delay_high in
    let early = rules.none_is_early in
    let fits = rules.broadcast_fits in
    let low : (base +ℤ skew_of rows receiver) ≤ℤ ((base +ℤ skew_of rows sender +ℤ local_ticks (rate_of rows sender) timing.compute) +ℤ delay_of rows sender receiver) = omega (arith, ints, c.0, a, e, f, early) in
    let high : ((base +ℤ skew_of rows sender +ℤ local_ticks (rate_of rows sender) timing.compute) +ℤ delay_of rows sender receiver) ≤ℤ (base +ℤ skew_of rows receiver +ℤ local_ticks (rate_of rows receiver) (timing.compute +ℤ timing.broadcast)) = omega (arith, ints, c.1, v.0, b, d, g, fits) in
    and_from _ _ (of_le _ _ low) (of_le _ _ high)

pub pairs_hear : HealthyPairsHear
pairs_hear plan frame rows sender receiver range rules inside sends hears =
    let sender_facts = healthy_facts plan rows sender sends in
    let receiver_facts = healthy_facts plan rows receiver hears in
    in_window_of plan range rules frame rows sender receiver sender_facts receiver_facts (sender_facts.to receiver inside)
