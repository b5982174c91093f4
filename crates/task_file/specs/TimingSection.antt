-- The timing of a task file: ten integers.
-- This project's own.
use Rattle.std.specs.Prelude.{ℕ, ℤ, pos, List, [], ◌∷◌, codes, Result, Ok}
use Rattle.toml.specs.Data.{Members}
use Rattle.rcp_base.specs.Answers.{◌>>=◌}
use Rattle.rcp_model.specs.declared.plan.Timing.{Timing}
use Rattle.task_file.specs.declared.fault.FileFault.{FileFault}
use Rattle.task_file.specs.declared.path.Key.{Key}
use Rattle.task_file.specs.declared.path.Key.TheVariants as key
use Rattle.task_file.specs.declared.path.Section.TheVariants as section
use Rattle.task_file.specs.declared.sections.Phases.{Phases}
use Rattle.task_file.specs.declared.sections.Bounds.{Bounds}
use Rattle.task_file.specs.Document.{integer_at, table_at}
use Rattle.task_file.specs.Lookups.{there, only_keys}
use Rattle.task_file.specs.Places.{of_section, of_key}

-- an integer of the timing
unfoldable pub ticks_at : Key → List ℕ → Members → Result ℤ FileFault
ticks_at at name members = there (of_key section.Timing at) (integer_at (pos 0) (pos 1000000000) name members)

-- the keys of the timing
abbrev pub timing_keys : List (List ℕ)
timing_keys =
    codes "compute" ∷ codes "broadcast" ∷ codes "vote" ∷ codes "sync" ∷ codes "skew" ∷ codes "drift_ppm"
    ∷ codes "delay_min" ∷ codes "delay_max" ∷ codes "skew_limit" ∷ codes "drift_limit_ppm" ∷ []

-- the lengths of the four phases
unfoldable pub phases_of : Members → Result Phases FileFault
phases_of members = do
  compute ← ticks_at key.Compute (codes "compute") members
  broadcast ← ticks_at key.Broadcast (codes "broadcast") members
  vote ← ticks_at key.Vote (codes "vote") members
  sync ← ticks_at key.Sync (codes "sync") members
  Ok (record { compute = compute; broadcast = broadcast; vote = vote; sync = sync })

-- the bounds on clocks and messages
unfoldable pub bounds_of : Members → Result Bounds FileFault
bounds_of members = do
  skew ← ticks_at key.Skew (codes "skew") members
  drift_ppm ← ticks_at key.DriftPpm (codes "drift_ppm") members
  delay_min ← ticks_at key.DelayMin (codes "delay_min") members
  delay_max ← ticks_at key.DelayMax (codes "delay_max") members
  skew_limit ← ticks_at key.SkewLimit (codes "skew_limit") members
  drift_limit_ppm ← ticks_at key.DriftLimitPpm (codes "drift_limit_ppm") members
  Ok (record {
    skew = skew;
    drift_ppm = drift_ppm;
    delay_min = delay_min;
    delay_max = delay_max;
    skew_limit = skew_limit;
    drift_limit_ppm = drift_limit_ppm;
  })

-- phases and bounds make a timing
abbrev pub timing_with : Phases → Bounds → Timing
timing_with phases bounds = record {
  compute = phases.compute;
  broadcast = phases.broadcast;
  vote = phases.vote;
  sync = phases.sync;
  skew = bounds.skew;
  drift_ppm = bounds.drift_ppm;
  delay_min = bounds.delay_min;
  delay_max = bounds.delay_max;
  skew_limit = bounds.skew_limit;
  drift_limit_ppm = bounds.drift_limit_ppm;
}

-- the ten integers of a timing, and no other key
abbrev pub timing_of : Members → Result Timing FileFault
timing_of members = do
  phases ← phases_of members
  bounds ← bounds_of members
  only_keys (of_key section.Timing key.Unknown) timing_keys members (timing_with phases bounds)

-- the table of the timing
abbrev pub timing_table : Members → Result Members FileFault
timing_table members = there (of_section section.Timing) (table_at (codes "timing") members)

-- the section
abbrev pub timing_section : Members → Result Timing FileFault
timing_section members = timing_table members >>= timing_of
