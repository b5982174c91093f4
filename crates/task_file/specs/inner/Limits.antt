-- The lengths that a file of the right shape keeps.
-- This project's own.
use Rattle.std.specs.Prelude.{pos, ◌≤◌, ◌≤ℤ◌, List, length, All, IfSome}
use Rattle.rcp_base.specs.declared.TheConstants.{MAX_REPLICAS, MAX_SENSORS, MAX_CELLS, MAX_TASKS, MAX_SLOTS, MAX_ACTUATORS, MAX_BODY, MAX_RECOVERY}
use Rattle.rcp_model.specs.TimingRules.{AreInRange}
use Rattle.rcp_model.specs.Plan.{AreUpTo}
use Rattle.task_file.specs.Sections.{RawText, RawSlot, Sections}

-- texts that are no longer than the limit
abbrev pub AreShort : List RawText → Type 0
AreShort texts = All (λ raw. length raw.text ≤ MAX_BODY) texts

-- at most 128 tasks and 64 votes
pub record IsShortSlot (slot : RawSlot) : Type 0 where
  pub tasks : length slot.tasks ≤ MAX_TASKS
  pub votes : length slot.votes ≤ MAX_CELLS

-- the numbers and lengths of sections of the right shape
pub record AreShortSections (sections : Sections) : Type 0 where
  pub some_replicas : pos 1 ≤ℤ sections.replicas
  pub few_replicas : sections.replicas ≤ℤ pos MAX_REPLICAS
  pub limit : IfSome sections.limit (λ nodes. (pos 1 ≤ℤ nodes) × (nodes ≤ℤ pos MAX_RECOVERY))
  pub timing : AreInRange sections.timing
  pub sensors : length sections.sensors ≤ MAX_SENSORS
  pub cells : AreUpTo MAX_CELLS sections.cells
  pub tasks : AreUpTo MAX_TASKS sections.tasks
  pub slots : AreUpTo MAX_SLOTS sections.slots
  pub short_slots : All IsShortSlot sections.slots
  pub actuators : length sections.actuators ≤ MAX_ACTUATORS
  pub short_bodies : AreShort sections.tasks
  pub short_values : AreShort sections.actuators
