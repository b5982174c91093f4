use Rattle.std.proofs.Common.{refl, ◌≡◌, w64, to_z, of_z, to_z-of_z}
use Rattle.rcp_model.specs.RowWrites.{cleared}
use Rattle.layer_stack.proofs.FrameLemmas.{quiet_is_frame}
use Rattle.layer_stack.proofs.frame_in.quiet_frame.Goals as goal

pub invariant_of-result : goal.invariant_of-result
invariant_of-result c =
    quiet_is_frame _
    record {
      downs = c.in_ok-filled.ensures;
      slots = c.in_ok-filled-2.ensures;
      skews = c.in_ok-filled-3.ensures;
      rates = c.in_ok-filled-4.ensures;
      cell_values = c.in_ok-filled-5.ensures;
      acts = c.in_ok-filled-6.ensures;
      lie_slots = c.in_ok-filled-7.ensures;
      drops = c.in_ok-filled-8.ensures;
      delays = c.in_ok-filled-9.ensures;
      lies = c.in_ok-filled-10.ensures;
    }
    c.requires.replicas c.requires.cells c.requires.actuators

pub returns : goal.returns
unfolding cleared
returns c =
    let delay : to_z w64 (of_z w64 c.args.delay_min) ≡ c.args.delay_min = to_z-of_z c.ranges.delay_min in
    let h = (invariant_of-result c).quiet refl in
    rw delay (rw delay at h)
