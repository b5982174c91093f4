-- The limits of what a row's numbers may be. This project's own.
use Rattle.std.specs.Prelude.{ℕ, Bool, true, false, not, ◌&&◌, ℤ, pos, neg_ℤ, int_le, int_lt}
use Rattle.std.specs.Ordering.{int_eq}
use Rattle.rcp_base.specs.Answers.{natural_of}
use Rattle.rcp_base.specs.declared.TheConstants.{MAX_FRAMES}
use Rattle.rcp_model.specs.declared.plan.PlanParts.{PlanParts}
use Rattle.rcp_model.specs.Slot.{slot_count}
use Rattle.rcp_model.specs.TimingRules.{delay_limit_of}
use Rattle.fault_journal.specs.declared.row.Kind.{Kind}
use Rattle.fault_journal.specs.declared.row.Kind.TheVariants as kind
use Rattle.fault_journal.specs.declared.row.Row.{Row}
use Rattle.fault_journal.specs.declared.row.WrittenRow.{WrittenRow}

-- from 0 on, and less than so many
abbrev pub is_below : ℕ → ℤ → Bool
is_below count x = int_le (pos 0) x && int_lt x (pos count)

-- from 0 up to a limit
abbrev pub is_up_to : ℤ → ℤ → Bool
is_up_to limit x = int_le (pos 0) x && int_le x limit

-- at most so far from 0
abbrev pub is_within : ℤ → ℤ → Bool
is_within limit x = int_le (neg_ℤ limit) x && int_le x limit

-- the frame of an end row is the number of frames, and that of another row is one of them
abbrev pub frame_is_there : Kind → ℤ → Bool
frame_is_there kind.End frame = int_le (pos 1) frame && int_le frame (pos MAX_FRAMES)
frame_is_there _ frame = is_below MAX_FRAMES frame

-- a row on a message has two replicas
abbrev pub is_on_a_message : Kind → Bool
is_on_a_message kind.Lie = true
is_on_a_message kind.LieSlot = true
is_on_a_message kind.Drop = true
is_on_a_message kind.Delay = true
is_on_a_message _ = false

-- the value of a row of this kind is within its limits
abbrev pub value_is_permitted : PlanParts → Kind → ℤ → Bool
value_is_permitted plan kind.Slot value = is_below (slot_count plan) value
value_is_permitted plan kind.LieSlot value = is_below (slot_count plan) value
value_is_permitted plan kind.Skew value = is_within plan.timing.skew_limit value
value_is_permitted plan kind.Rate value = is_within plan.timing.drift_limit_ppm value
value_is_permitted plan kind.Delay value = is_up_to (delay_limit_of plan.timing) value
value_is_permitted plan _ value = true

-- all numbers of a row are within their limits
unfoldable pub is_within_limits : PlanParts → WrittenRow → Bool
is_within_limits plan row =
    frame_is_there row.kind row.frame
    && is_below plan.replicas row.replica && is_below plan.replicas row.receiver
    && not (is_on_a_message row.kind && int_eq row.replica row.receiver)
    && value_is_permitted plan row.kind row.value

-- the row with its numbers in the types that their limits allow
abbrev pub packed : WrittenRow → Row
packed row = record {
  frame = natural_of row.frame;
  kind = row.kind;
  replica = natural_of row.replica;
  receiver = natural_of row.receiver;
  item = row.item;
  value = row.value;
}
