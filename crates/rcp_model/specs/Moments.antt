-- The moments of a frame in whole ticks, by a replica's skew and the rate of its clock.
-- After NASA TM-104196; the formulas are this project's own.
use Rattle.std.specs.Prelude.{ℕ, ℤ, pos, ◌+ℤ◌, ◌*ℤ◌, int_le, Bool, ◌&&◌}
use Rattle.rcp_model.specs.declared.plan.Timing.{Timing}
use Rattle.rcp_model.specs.Rounding.{parts_rounded_down}
use Rattle.rcp_model.specs.TimingRules.{frame_length}

-- the real length of so many local ticks, at a rate in parts per million
unfoldable pub local_ticks : ℤ → ℤ → ℤ
local_ticks rate ticks = ticks +ℤ parts_rounded_down ticks rate

-- where a replica begins a frame
unfoldable pub begin_tick : Timing → ℕ → ℤ → ℤ
begin_tick timing frame skew = pos frame *ℤ frame_length timing +ℤ skew

-- where it has computed, and sends
unfoldable pub send_tick : Timing → ℕ → ℤ → ℤ → ℤ
send_tick timing frame skew rate = begin_tick timing frame skew +ℤ local_ticks rate timing.compute

-- where it votes
unfoldable pub vote_tick : Timing → ℕ → ℤ → ℤ → ℤ
vote_tick timing frame skew rate = begin_tick timing frame skew +ℤ local_ticks rate (timing.compute +ℤ timing.broadcast)

-- where it has voted, and syncs
unfoldable pub sync_tick : Timing → ℕ → ℤ → ℤ → ℤ
sync_tick timing frame skew rate =
    begin_tick timing frame skew +ℤ local_ticks rate (timing.compute +ℤ timing.broadcast +ℤ timing.vote)

-- where a message sent at a tick arrives
abbrev pub arrival_tick : ℤ → ℤ → ℤ
arrival_tick sent delay = sent +ℤ delay

-- a tick from a replica's begin to its vote, both included
unfoldable pub is_in_window : Timing → ℕ → ℤ → ℤ → ℤ → Bool
is_in_window timing frame skew rate tick =
    int_le (begin_tick timing frame skew) tick && int_le tick (vote_tick timing frame skew rate)
