use Rattle.std.proofs.Common.{◌≡◌, rules, w64, to_z, of_z}
use Rattle.rcp_model.specs.FrameRows.{no_rows}
use Rattle.layer_stack.proofs.frame_in.frame_of.Goals as goal

pub returns-clause-rows : goal.returns-clause-rows
unfolding no_rows
returns-clause-rows c =
    let min = c.args.parts.now.timing.delay_min in
    let delay : to_z w64 (of_z w64 min) ≡ min = search rules in
    rw (← c.len.ensures, ← c.len-2.ensures, ← c.as_slice.ensures, ← c.in_ok-sensors.ensures) (rw delay at c.quiet_frame.ensures)
