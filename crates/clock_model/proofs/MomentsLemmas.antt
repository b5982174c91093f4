-- Moments are small enough for 64 bits, and so are the numbers on the way to them.
use Rattle.std.proofs.Common.{◌≡◌, ◌*◌, ◌≤◌, ℕ, ℤ, pos, negsuc, ◌+ℤ◌, ◌*ℤ◌, ◌≤ℤ◌, FitsSigned, to_z, of_z, w64, ap, arith, mul-le-mul}
use Rattle.std.proofs.lemmas.Int.{ints, to_z-of_z}
use Rattle.rcp_model.specs.declared.plan.Timing.{Timing}
use Rattle.rcp_model.specs.FrameLimits.{IsWithin}
use Rattle.rcp_model.specs.Moments.{begin_tick, local_ticks, send_tick}
use Rattle.rcp_model.specs.TimingRules.{KeepsRules, frame_length}
use Rattle.clock_model.specs.Moments.{IsBeginTick, IsClock, IsSendTick, MayBegin}
use Rattle.clock_model.proofs.DriftLemmas.{computed_product, product_back, rounded_down-small}

-- the ticks of all frames before one
abbrev pub AreFrames : ℤ → Type 0
AreFrames x = (pos 0 ≤ℤ x) × (x ≤ℤ pos 4_000_000_000_000_000)

-- so many frames of such a length are no more
frames_fit : (frame : ℕ) (length : ℤ) → frame ≤ 1_000_000 → (pos 0 ≤ℤ length) × (length ≤ℤ pos 4_000_000_000) → AreFrames (pos frame *ℤ length)
frames_fit frame (pos n) h k =
    let small : n ≤ 4_000_000_000 = omega (arith, ints) in
    let product : frame * n ≤ 1_000_000 * 4_000_000_000 = mul-le-mul h small in
    (omega (arith, ints), omega (arith, ints))
frames_fit frame (negsuc n) h k = absurd (omega (arith, ints))

-- a begin is the same of the skew that code reads
pub record IsTold (timing : Timing) (frame : ℕ) (skew : ℤ) : Type 0 where
  pub value : begin_tick timing frame (to_z w64 (of_z w64 skew)) ≡ begin_tick timing frame skew
  pub range : IsBeginTick (begin_tick timing frame skew)

-- what the code computes of a frame and a length is the ticks of all frames before
pub record IsComputedBegin (timing : Timing) (frame : ℕ) (skew computed : ℤ) : Type 0 where
  pub value : computed +ℤ skew ≡ begin_tick timing frame skew
  pub frames : AreFrames computed
  pub small : IsWithin (pos 1_000_000_000) skew

module _ (timing : Timing) (frame : ℕ) (skew : ℤ) (h : MayBegin timing frame skew) where
  frames_of : AreFrames (pos frame *ℤ frame_length timing)
  frames_of = frames_fit frame (frame_length timing) h.frame_limit (omega (arith, ints), omega (arith, ints))

  -- as it is told by the parts of the product
  pub begin_computed : (from length : ℤ) → from ≡ pos frame → length ≡ frame_length timing → FitsSigned w64 from → FitsSigned w64 length
      → IsComputedBegin timing frame skew (computed_product from length)
  unfolding begin_tick
  begin_computed from length e k f g =
      let product = product_back f g e k in
      record {
        value = ap (λ (x : ℤ). x +ℤ skew) product;
        frames = rw product frames_of;
        small = (omega (arith, ints), omega (arith, ints));
      }

  begin_tick-range : IsBeginTick (begin_tick timing frame skew)
  unfolding begin_tick
  begin_tick-range =
      let frames = frames_of in
      (omega (arith, ints), omega (arith, ints))

  -- it is told by a skew that comes back from 64 bits
  pub begin_back : FitsSigned w64 skew → IsTold timing frame skew
  begin_back f = record { value = ap (begin_tick timing frame) (to_z-of_z w64 skew f); range = begin_tick-range }

-- a moment is told by a skew, a rate and ticks that come back from 64 bits
pub moment_back : (timing : Timing) (frame : ℕ) (skew rate computed ticks : ℤ) → FitsSigned w64 skew → FitsSigned w64 rate → computed ≡ ticks
    → begin_tick timing frame (to_z w64 (of_z w64 skew)) +ℤ local_ticks (to_z w64 (of_z w64 rate)) computed ≡ begin_tick timing frame skew +ℤ local_ticks rate ticks
moment_back timing frame skew rate computed ticks f g e = rw (to_z-of_z w64 skew f, to_z-of_z w64 rate g, e)

-- where the rules are kept, a clock runs forward, so a send is at most the greatest skew before the first frame
pub send_tick-range : (timing : Timing) (frame : ℕ) (skew rate : ℤ) → IsClock timing frame skew rate → KeepsRules timing → IsSendTick (send_tick timing frame skew rate)
unfolding send_tick local_ticks
send_tick-range timing frame skew rate h rules =
    let begins = begin_tick-range timing frame skew h.begins in
    let parts = rounded_down-small timing.compute rate (omega (arith, ints)) (omega (arith, ints), omega (arith, ints)) in
    (omega (arith, ints, begins, parts), omega (arith, ints, begins, parts))
