-- The moments of a frame rise within its block, and messages arrive before the next sends.
use Rattle.std.proofs.Common.{◌≡◌, ◌⊎◌, inl, inr, ℕ, suc, ◌+◌, ◌*◌, ◌≤◌, ◌<◌, ℤ, pos, negsuc, ◌+ℤ◌, ◌-ℤ◌, ◌*ℤ◌, ◌≤ℤ◌, ◌<ℤ◌, arith, add-mul, mul-le-mul_right}
use Rattle.std.proofs.lemmas.Bool.{and_parts, cases_eq}
use Rattle.std.proofs.lemmas.Int.{ints}
use Rattle.rcp_model.specs.declared.plan.PlanParts.{PlanParts}
use Rattle.rcp_model.specs.FrameLimits.{IsWithin, AreWithinLimits}
use Rattle.rcp_model.specs.FrameRows.{FrameRows, rate_of}
use Rattle.rcp_model.specs.Messages.{arrival_of}
use Rattle.rcp_model.specs.Moments.{local_ticks, begin_tick, send_tick, vote_tick, sync_tick, is_in_window}
use Rattle.rcp_model.specs.Rounding.{parts_rounded_down}
use Rattle.rcp_model.specs.TimingRules.{KeepsRules, AreInRange, frame_length, limit_drift_of}
use Rattle.rcp_model.proofs.RoundingLaws.{parts_rounded, parts_rounded_up-nonnegative}
use Rattle.clock_model.specs.Laws.{MomentsKeepOrder, FramesFollowEachOther, MessagesMeetTwoWindows}
use Rattle.clock_model.specs.Order.{begin_of, send_of, vote_of, sync_of, block_begin, send_limit, KeepsOrder}
use Rattle.clock_model.proofs.DriftLemmas.{rounded_down-small}
use Rattle.clock_model.proofs.WindowLemmas.{le_of, product_within, ticks_within}

-- a product with a sum is the sum of the products
product_of_sum : (a b : ℕ) (r : ℤ) → pos (a + b) *ℤ r ≡ pos a *ℤ r +ℤ pos b *ℤ r
product_of_sum a b (pos k) =
    let sum : (a + b) * k ≡ a * k + b * k = add-mul a b k in
    omega (arith, ints)
product_of_sum a b (negsuc k) =
    let sum : (a + b) * suc k ≡ a * suc k + b * suc k = add-mul a b (suc k) in
    omega (arith, ints)

-- and with a greater number it is no less
product_rises : (a b : ℕ) (x : ℤ) → a ≤ b → pos 0 ≤ℤ x → (pos a *ℤ x) ≤ℤ (pos b *ℤ x)
product_rises a b (pos k) h low =
    let more : a * k ≤ b * k = mul-le-mul_right k h in
    omega (arith, ints)
product_rises a b (negsuc k) h low = absurd (omega (arith, ints))

-- a clock that gains or loses at most a thousandth runs forward
runs_forward : (x y r : ℤ) → pos 0 ≤ℤ x → pos 0 ≤ℤ y → IsWithin (pos 1_000) r
    → local_ticks r x ≤ℤ local_ticks r (x +ℤ y)
unfolding local_ticks
runs_forward (pos a) (pos b) r h k rate =
    let down : ℤ = parts_rounded_down (pos a) r in
    let sum : pos (a + b) *ℤ r ≡ pos a *ℤ r +ℤ pos b *ℤ r = product_of_sum a b r in
    let lost = product_within (pos b) (pos 1_000) r k (omega (arith, ints)) rate.0 rate.1 in
    let before = ((parts_rounded (pos a) r).down down).0 (omega (arith, ints)) in
    let after = ((parts_rounded (pos (a + b)) r).down (down -ℤ pos b)).1
    (omega (arith, ints, sum, lost.0, before)) in
    omega (arith, ints, after)
runs_forward (pos a) (negsuc b) r h k rate = absurd (omega (arith, ints))
runs_forward (negsuc a) y r h k rate = absurd (omega (arith, ints))

-- and from 0
runs_on : (x r : ℤ) → pos 0 ≤ℤ x → IsWithin (pos 1_000) r → pos 0 ≤ℤ local_ticks r x
unfolding local_ticks
runs_on x r h rate =
    let parts = rounded_down-small x r h (omega (arith, ints), omega (arith, ints)) in
    omega (arith, ints, parts.0)

-- local ticks are more or fewer by at most so many
abbrev IsOffBy : ℤ → ℤ → ℤ → Type 0
IsOffBy drift ticks local = ((ticks -ℤ drift) ≤ℤ local) × (local ≤ℤ (ticks +ℤ drift))

-- the length of the frames so far and of one more
one_frame_more : (frame : ℕ) (length : ℤ)
    → pos (frame + 1) *ℤ length ≡ pos frame *ℤ length +ℤ length
one_frame_more frame length =
    let sum = product_of_sum frame 1 length in
    omega (arith, ints, sum)

module _ (plan : PlanParts) (range : AreInRange plan.timing) (rules : KeepsRules plan.timing) where
  -- of one replica in one frame
  module _ (frame : ℕ) (rows : FrameRows) (limits : AreWithinLimits plan rows) (replica : ℕ) where
    slow : IsWithin (pos 1_000) (rate_of rows replica)
    slow =
        let rate = limits.rate replica in
        let limit = rules.limits_nest.drift_limit in
        (omega (arith, ints, rate.0, limit), omega (arith, ints, rate.1, limit))

    passes : (ticks : ℤ) → pos 0 ≤ℤ ticks
        → IsOffBy (limit_drift_of plan.timing ticks) ticks
        (local_ticks (rate_of rows replica) ticks)
    passes ticks low =
        let rate = limits.rate replica in
        ticks_within ticks plan.timing.drift_limit_ppm (rate_of rows replica) low
        range.drift_limit_ppm.0 rate.0 rate.1

    begin_in_block : block_begin plan frame ≤ℤ begin_of plan frame rows replica
    unfolding block_begin begin_tick
    begin_in_block = omega (arith, ints, (limits.skew replica).0)

    send_follows_begin : begin_of plan frame rows replica ≤ℤ send_of plan frame rows replica
    unfolding send_tick
    send_follows_begin =
        let on = runs_on plan.timing.compute (rate_of rows replica) range.compute.0 slow in
        omega (arith, ints, on)

    vote_follows_send : send_of plan frame rows replica ≤ℤ vote_of plan frame rows replica
    unfolding send_tick vote_tick
    vote_follows_send =
        let on = runs_forward plan.timing.compute plan.timing.broadcast (rate_of rows replica)
        range.compute.0 range.broadcast.0 slow in
        omega (arith, ints, on)

    sync_follows_vote : vote_of plan frame rows replica ≤ℤ sync_of plan frame rows replica
    unfolding vote_tick sync_tick
    sync_follows_vote =
        let voted : ℤ = plan.timing.compute +ℤ plan.timing.broadcast in
        let low : pos 0 ≤ℤ voted = omega (arith, ints, range.compute.0, range.broadcast.0) in
        let on = runs_forward voted plan.timing.vote (rate_of rows replica) low range.vote.0 slow in
        omega (arith, ints, on)

    sync_in_block : sync_of plan frame rows replica <ℤ block_begin plan (frame + 1)
    unfolding block_begin begin_tick sync_tick
    sync_in_block =
        let phases : ℤ = plan.timing.compute +ℤ plan.timing.broadcast +ℤ plan.timing.vote in
        let low : pos 0 ≤ℤ phases =
        omega (arith, ints, range.compute.0, range.broadcast.0, range.vote.0) in
        let passed = passes phases low in
        let next = one_frame_more frame (frame_length plan.timing) in
        omega (arith, ints, passed.1, next, (limits.skew replica).1, rules.frames_stay_apart)

    send_from_limit : send_limit plan frame ≤ℤ send_of plan frame rows replica
    unfolding send_limit block_begin send_tick begin_tick
    send_from_limit =
        let passed = passes plan.timing.compute range.compute.0 in
        omega (arith, ints, (limits.skew replica).0, passed.0)

    arrival_follows_send : (receiver : ℕ)
        → send_of plan frame rows replica ≤ℤ arrival_of plan frame rows replica receiver
    unfolding arrival_of
    arrival_follows_send receiver = omega (arith, ints, (limits.delay replica receiver).0)

    arrival_before_limit : (receiver : ℕ)
        → arrival_of plan frame rows replica receiver <ℤ send_limit plan (frame + 1)
    unfolding send_limit block_begin arrival_of send_tick begin_tick
    arrival_before_limit receiver =
        let passed = passes plan.timing.compute range.compute.0 in
        let next = one_frame_more frame (frame_length plan.timing) in
        let delay = (limits.delay replica receiver).1 in
        omega (arith, ints, next, (limits.skew replica).1, delay, passed.1)

pub order_kept : MomentsKeepOrder
order_kept plan frame rows range rules of = record {
  begin_in_block = begin_in_block plan range rules frame rows of.limits;
  send_follows_begin = send_follows_begin plan range rules frame rows of.limits;
  vote_follows_send = vote_follows_send plan range rules frame rows of.limits;
  sync_follows_vote = sync_follows_vote plan range rules frame rows of.limits;
  sync_in_block = sync_in_block plan range rules frame rows of.limits;
  send_from_limit = send_from_limit plan range rules frame rows of.limits;
  arrival_follows_send = arrival_follows_send plan range rules frame rows of.limits;
  arrival_before_limit = arrival_before_limit plan range rules frame rows of.limits;
}

pub frames_follow : FramesFollowEachOther
frames_follow plan frame rows next range rules of of_next =
    let this : KeepsOrder plan frame rows = order_kept plan frame rows range rules of in
    let that : KeepsOrder plan (frame + 1) next =
    order_kept plan (frame + 1) next range rules of_next in
    record {
      sync_before_begin = λ replica other.
          omega (arith, ints, this.sync_in_block replica, that.begin_in_block other);
      arrival_before_send = λ sender receiver other.
          let before = this.arrival_before_limit sender receiver in
          omega (arith, ints, before, that.send_from_limit other);
    }

-- a frame that comes neither before another nor after the next is one of the two
own_or_next : (frame other : ℕ) → (other < frame → ⊥) → (frame + 1 < other → ⊥)
    → (other ≡ frame) ⊎ (other ≡ frame + 1)
own_or_next frame other sooner later = among (cases_eq other frame)
  where
    among : (other ≡ frame) ⊎ (other ≡ frame → ⊥) → (other ≡ frame) ⊎ (other ≡ frame + 1)
    among (inl same) = inl same
    among (inr apart) = inr (omega (arith, apart, sooner, later))

module _ (plan : PlanParts) (range : AreInRange plan.timing) (rules : KeepsRules plan.timing) where
  -- blocks come in the order of their frames
  blocks_rise : (m n : ℕ) → m ≤ n → block_begin plan m ≤ℤ block_begin plan n
  unfolding block_begin
  blocks_rise m n h =
      let low : pos 0 ≤ℤ frame_length plan.timing =
      omega (arith, ints, range.compute.0, range.broadcast.0, range.vote.0, range.sync.0) in
      omega (arith, ints, product_rises m n (frame_length plan.timing) h low)

  -- the first send of a frame comes before its block ends
  limit_in_block : (frame : ℕ) → send_limit plan frame ≤ℤ block_begin plan (frame + 1)
  unfolding block_begin send_limit
  limit_in_block frame =
      let next = one_frame_more frame (frame_length plan.timing) in
      let drift = parts_rounded_up-nonnegative plan.timing.compute plan.timing.drift_limit_ppm
      range.compute.0 range.drift_limit_ppm.0 in
      omega (arith, ints, next, drift, range.broadcast.0, range.vote.0, range.sync.0)

  -- of a message of one frame in a window of another
  module _ (frame other : ℕ) (rows others : FrameRows) (sender receiver : ℕ)
      (own : KeepsOrder plan frame rows) (that : KeepsOrder plan other others)
      (from : begin_of plan other others receiver ≤ℤ arrival_of plan frame rows sender receiver)
      (to : arrival_of plan frame rows sender receiver ≤ℤ vote_of plan other others receiver) where
    not_sooner : other < frame → ⊥
    not_sooner h =
        let blocks = blocks_rise (other + 1) frame (omega arith) in
        let past : vote_of plan other others receiver <ℤ block_begin plan (other + 1) =
        omega (arith, ints, that.sync_follows_vote receiver, that.sync_in_block receiver) in
        let sent : block_begin plan frame ≤ℤ send_of plan frame rows sender =
        omega (arith, ints, own.begin_in_block sender, own.send_follows_begin sender) in
        omega (arith, ints, blocks, past, sent, to, own.arrival_follows_send sender receiver)

    not_later : frame + 1 < other → ⊥
    not_later h =
        let blocks = blocks_rise (frame + 1 + 1) other (omega arith) in
        let before = own.arrival_before_limit sender receiver in
        let block = limit_in_block (frame + 1) in
        omega (arith, ints, blocks, block, before, from, that.begin_in_block receiver)

pub two_windows : MessagesMeetTwoWindows
unfolding is_in_window
two_windows plan frame other rows others sender receiver range rules of of_others h =
    let own = order_kept plan frame rows range rules of in
    let that = order_kept plan other others range rules of_others in
    let inside = and_parts _ _ h in
    let from = le_of _ _ inside.0 in
    let to = le_of _ _ inside.1 in
    own_or_next frame other
    (not_sooner plan range rules frame other rows others sender receiver own that from to)
    (not_later plan range rules frame other rows others sender receiver own that from to)
