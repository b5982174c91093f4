use Rattle.std.proofs.Common.{◌≡◌, ◌∙◌, ap, refl, rules, w64, to_z, of_z}
use Rattle.rcp_model.specs.RowWrites.{cleared}
use Rattle.rcp_model.proofs.FrameOfLaws.{cleared_kept}
use Rattle.layer_stack.proofs.FrameLemmas.{quiet_is_frame}
use Rattle.layer_stack.proofs.frame_in.FrameIn.next_frame.Goals as goal

pub invariant_of-self : goal.invariant_of-self
invariant_of-self c =
    let h = c.self.invariant in
    let delay : to_z w64 (of_z w64 c.self.inside.delay_min) ≡ c.self.inside.delay_min = search rules in
    quiet_is_frame _
    record {
      downs = rw (c.clear.ensures, h.tables.downs);
      slots = rw (c.clear-then-self.ensures, h.tables.slots);
      skews = rw (c.clear-then-self-2.ensures, h.tables.skews);
      rates = rw (c.clear-then-self-3.ensures, h.tables.rates);
      cell_values = rw (c.clear-then-self-4.ensures, h.tables.cell_values);
      acts = rw (c.clear-then-self-5.ensures, h.tables.acts);
      lie_slots = rw (c.clear-then-self-6.ensures, h.tables.lie_slots);
      drops = rw (c.clear-then-self-7.ensures, h.tables.drops);
      delays = rw (c.clear-then-self-8.ensures, h.tables.delays, delay);
      lies = rw (c.clear-then-self-9.ensures, h.tables.lies);
    }
    h.few_replicas h.few_cells h.few_actuators

pub returns-then-self-clause-rows : goal.returns-then-self-clause-rows
unfolding cleared
returns-then-self-clause-rows c = (invariant_of-self c).quiet refl ∙ ap cleared c.self.view_is

pub returns-then-self-clause-of_plan : goal.returns-then-self-clause-of_plan
returns-then-self-clause-of_plan c plan h = rw (returns-then-self-clause-rows c) (cleared_kept plan c.args.self.now h)
