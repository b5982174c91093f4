-- What follows of a plan for what a layer keeps of it.
use Rattle.std.proofs.Common.{◌≡◌, ◌≤◌, ◌<◌, ℕ, length, get_or, Bool, refl, sym, ap, subst, ◌∙◌, arith, ℤ, pos, FitsSigned, w64, to_z, of_z, ◌+ℤ◌, ◌-ℤ◌, ◌*ℤ◌}
use Rattle.std.proofs.lemmas.Int.{ints, to_z-of_z}
use Rattle.rcp_base.proofs.TableLaws.{get_or-table, length-table}
use Rattle.rcp_model.specs.declared.plan.PlanParts.{PlanParts}
use Rattle.rcp_model.specs.FrameRows.{FrameRows, skew_of, rate_of, delay_of}
use Rattle.rcp_model.specs.Moments.{arrival_tick, begin_tick}
use Rattle.rcp_model.specs.declared.plan.Timing.{Timing}
use Rattle.rcp_model.specs.TimingRules.{KeepsRules, IsTimingNumber, frame_length}
use Rattle.rcp_model.proofs.RoundingLaws.{parts_rounded_up-nonnegative}
use Rattle.clock_model.specs.Moments.{IsClock, IsDelay, IsSendTick}
use Rattle.rcp_model.specs.Ballot.{is_median}
use Rattle.replica_parts.specs.declared.setting.Setting.{Setting}
use Rattle.replica_parts.specs.Setting.{IsSettingOf, HasPlan, HasPlanWith}

pub medians_long : (setting : Setting) → HasPlan setting → length setting.medians.items ≡ setting.cells
medians_long setting s = ap length s.1.medians ∙ length-table _ _ ∙ sym s.1.cells

pub median_at : (plan : PlanParts) (setting : Setting) (cell : ℕ) (d : Bool) → IsSettingOf plan setting → cell < setting.cells → get_or setting.medians.items cell d ≡ is_median plan cell
median_at plan setting cell d s lt = ap (λ xs. get_or xs cell d) s.medians ∙ get_or-table _ _ cell d (let e = s.cells in omega (arith, lt, e))

module _ (setting : Setting) (rows : FrameRows) (s : HasPlanWith setting rows) where
  pub rules_of : KeepsRules setting.timing
  rules_of = subst KeepsRules (sym s.1.timing) s.1.rules.timing_rules

  pub clock_of : (frame replica : ℕ) → frame ≤ 1_000_000 → IsClock setting.timing frame (skew_of rows replica) (rate_of rows replica)
  clock_of frame replica h = subst (λ t. IsClock t frame (skew_of rows replica) (rate_of rows replica)) (sym s.1.timing) (record {
    begins = record { in_range = s.1.rules.timing_range; frame_limit = h; skew_limit = s.2.limits.skew replica };
    rate_limit = s.2.limits.rate replica;
  })

  skew_fits : (replica : ℕ) → FitsSigned w64 (skew_of rows replica)
  skew_fits replica = let h = s.2.limits.skew replica in let r = s.1.rules.timing_range.skew_limit in omega (arith, ints, h.0, h.1, r.0, r.1)

  rate_fits : (replica : ℕ) → FitsSigned w64 (rate_of rows replica)
  rate_fits replica = let h = s.2.limits.rate replica in let r = s.1.rules.timing_range.drift_limit_ppm in omega (arith, ints, h.0, h.1, r.0, r.1)

  pub delay_is : (sender receiver : ℕ) → IsDelay (delay_of rows sender receiver)
  delay_is sender receiver =
      let d = s.2.limits.delay sender receiver in
      let r = s.1.rules.timing_range in
      let n = parts_rounded_up-nonnegative s.0.timing.compute s.0.timing.drift_limit_ppm r.compute.0 r.drift_limit_ppm.0 in
      (d.0, omega (arith, ints, d.1, r.compute.1, r.broadcast.1, r.vote.1, r.sync.1, r.skew_limit.0, n))

  -- the same of what code reads
  pub skew_back : (replica : ℕ) (skew : ℤ) → skew ≡ skew_of rows replica → to_z w64 (of_z w64 skew) ≡ skew_of rows replica
  skew_back replica skew e = ap (λ (x : ℤ). to_z w64 (of_z w64 x)) e ∙ to_z-of_z w64 _ (skew_fits replica)

  pub rate_back : (replica : ℕ) (rate : ℤ) → rate ≡ rate_of rows replica → to_z w64 (of_z w64 rate) ≡ rate_of rows replica
  rate_back replica rate e = ap (λ (x : ℤ). to_z w64 (of_z w64 x)) e ∙ to_z-of_z w64 _ (rate_fits replica)

  pub delay_back : (sender receiver : ℕ) (delay : ℤ) → delay ≡ delay_of rows sender receiver → to_z w64 (of_z w64 delay) ≡ delay_of rows sender receiver
  delay_back sender receiver delay e = let d = delay_is sender receiver in ap (λ (x : ℤ). to_z w64 (of_z w64 x)) e ∙ to_z-of_z w64 _ (omega (arith, ints, d.0, d.1))

  pub clock_read : (frame replica : ℕ) (skew rate : ℤ) → frame ≤ 1_000_000 → skew ≡ skew_of rows replica → rate ≡ rate_of rows replica → IsClock setting.timing frame (to_z w64 (of_z w64 skew)) (to_z w64 (of_z w64 rate))
  clock_read frame replica skew rate h e f = rw (skew_back replica skew e, rate_back replica rate f) (clock_of frame replica h)

  -- a sum of a send and a delay comes back
  pub arrival_back : (sender receiver : ℕ) (sent delay result send : ℤ) → IsSendTick sent → sent ≡ send → delay ≡ delay_of rows sender receiver
      → result ≡ arrival_tick (to_z w64 (of_z w64 sent)) (to_z w64 (of_z w64 delay)) → to_z w64 (of_z w64 result) ≡ arrival_tick send (delay_of rows sender receiver)
  arrival_back sender receiver sent delay result send h e f g =
      let d = delay_is sender receiver in
      let sent_fits : FitsSigned w64 sent = omega (arith, ints, h.0, h.1) in
      let value : result ≡ arrival_tick send (delay_of rows sender receiver) = g ∙ rw (to_z-of_z w64 sent sent_fits, delay_back sender receiver delay f, e) refl in
      let fits : FitsSigned w64 (arrival_tick send (delay_of rows sender receiver)) = omega (arith, ints, h.0, h.1, d.0, d.1, e) in
      ap (λ (x : ℤ). to_z w64 (of_z w64 x)) value ∙ to_z-of_z w64 _ fits

  -- the rows have the sizes of every plan that the setting is of
  pub same_replicas : (plan : PlanParts) → IsSettingOf plan setting → plan.replicas ≡ rows.replicas
  same_replicas plan t = sym t.replicas ∙ s.1.replicas ∙ sym s.2.tables.replicas

  pub same_cells : (plan : PlanParts) → IsSettingOf plan setting → length plan.cells ≡ rows.cells
  same_cells plan t = sym t.cells ∙ s.1.cells ∙ sym s.2.tables.cells

-- the end of a frame's events, as code computes it
pub end_is : (timing : Timing) (frame : ℕ) → IsTimingNumber timing.skew_limit
    → begin_tick timing frame (to_z w64 (of_z w64 (pos 0 -ℤ to_z w64 (of_z w64 timing.skew_limit)))) ≡ ((pos frame *ℤ frame_length timing) -ℤ timing.skew_limit)
unfolding begin_tick
end_is timing frame h =
    let back : to_z w64 (of_z w64 (pos 0 -ℤ to_z w64 (of_z w64 timing.skew_limit))) ≡ (pos 0 -ℤ timing.skew_limit) = omega (arith, ints, h.0, h.1) in
    ap (λ (x : ℤ). (pos frame *ℤ frame_length timing) +ℤ x) back ∙ minus_is (pos frame *ℤ frame_length timing) timing.skew_limit
  where
    minus_is : (a b : ℤ) → (a +ℤ (pos 0 -ℤ b)) ≡ (a -ℤ b)
    minus_is a b = omega (arith, ints)
