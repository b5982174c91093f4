-- What a document of the right shape gives is within the limits.
-- This project's own.
use Rattle.std.specs.Prelude.{IfSome}
use Rattle.std.specs.List.{All}
use Rattle.std.proofs.Common.{◌≡◌, ℕ, ◌≤◌, ℤ, pos, ◌≤ℤ◌, int_le, nat_le, Bool, true, false, ◌&&◌, List, [], ◌∷◌, length, codes, Option, Some, None, option_and_then, Result, Ok, subst, arith}
use Rattle.std.proofs.lemmas.Bool.{and_parts}
use Rattle.std.proofs.lemmas.Bool.Decides.{nat_tests}
use Rattle.std.proofs.lemmas.Int.{ints}
use Rattle.toml.specs.Data.{Data, Members, get_member}
use Rattle.rcp_base.specs.declared.TheConstants.{MAX_REPLICAS, MAX_SENSORS, MAX_CELLS, MAX_TASKS, MAX_SLOTS, MAX_ACTUATORS, MAX_BODY, MAX_RECOVERY}
use Rattle.rcp_base.specs.Answers.{◌>>=◌, each_from}
use Rattle.rcp_base.proofs.StepLaws.{then_ok, passes_ok, found_ok, as_many_read, all_read}
use Rattle.rcp_model.specs.declared.plan.Timing.{Timing}
use Rattle.rcp_model.specs.TimingRules.{IsTimingNumber, AreInRange}
use Rattle.task_file.specs.declared.fault.FileFault.{FileFault}
use Rattle.task_file.specs.declared.path.Path.{Path}
use Rattle.task_file.specs.declared.path.Key.{Key}
use Rattle.task_file.specs.declared.path.Section.{Section}
use Rattle.task_file.specs.declared.path.Key.TheVariants as key
use Rattle.task_file.specs.declared.path.Section.TheVariants as section
use Rattle.task_file.specs.declared.sections.Settings.{Settings}
use Rattle.task_file.specs.declared.sections.Phases.{Phases}
use Rattle.task_file.specs.declared.sections.Bounds.{Bounds}
use Rattle.task_file.specs.Document.{where_is, items_of, integer_at, short_text_at, list_at, has_only}
use Rattle.task_file.specs.Items.{variable_of, text_in, named_text_of, entry_of, list_in, entries_of, slot_of}
use Rattle.task_file.specs.Lookups.{there, where_there, tables_at, maybe_tables_at, table_of, name_in}
use Rattle.task_file.specs.Places.{of_section}
use Rattle.task_file.specs.Sections.{RawText, RawSlot, Sections}
use Rattle.task_file.specs.Shape.{format_in, is_second, replicas_in, limit_in, settings_of, sensor_section, cell_section, task_section, slot_section, actuator_section, top_keys, sections_of}
use Rattle.task_file.specs.TimingSection.{ticks_at, timing_keys, phases_of, bounds_of, timing_with, timing_of, timing_table, timing_section}
use Rattle.task_file.specs.inner.Limits.{IsShortSlot, AreShortSections}

pub where_some : {A : Type 0} (test : A → Bool) (y x : A) → where_is test y ≡ Some x → test x ≡ true
where_some test y x is = grind arith

pub tested : {A B : Type 0} (test : B → Bool) (see : A → B) (found : Option A) (x : B) → option_and_then (λ a. where_is test (see a)) found ≡ Some x → test x ≡ true
tested test see (Some y) x is = where_some test (see y) x is
tested test see None x is = cc

pub within_integers : (least greatest n : ℤ) → (int_le least n && int_le n greatest) ≡ true → (least ≤ℤ n) × (n ≤ℤ greatest)
within_integers least greatest n is =
    let (low, high) = and_parts (int_le least n) (int_le n greatest) is in
    (grind (arith, ints), grind (arith, ints))

pub integer_within : (path : Path) (least greatest : ℤ) (key : List ℕ) (tree : Members) (n : ℤ)
    → there path (integer_at least greatest key tree) ≡ Ok n → (least ≤ℤ n) × (n ≤ℤ greatest)
unfolding integer_at
integer_within path least greatest key tree n is =
    within_integers least greatest n (tested (λ n. int_le least n && int_le n greatest) (λ n. n) _ n (found_ok _ _ n is))

pub within_counts : (least greatest n : ℕ) → (nat_le least n && nat_le n greatest) ≡ true → (least ≤ n) × (n ≤ greatest)
within_counts least greatest n is =
    let (low, high) = and_parts (nat_le least n) (nat_le n greatest) is in
    (grind (arith, nat_tests), grind (arith, nat_tests))

pub list_within : (path : Path) (least greatest : ℕ) (key : List ℕ) (tree : Members) (list : List Data)
    → there path (list_at least greatest key tree) ≡ Ok list → (least ≤ length list) × (length list ≤ greatest)
list_within path least greatest key tree list is =
    within_counts least greatest (length list)
    (tested (λ list. nat_le least (length list) && nat_le (length list) greatest) items_of _ list (found_ok _ _ list is))

pub text_within : (path : Path) (most : ℕ) (key : List ℕ) (tree : Members) (text : List ℕ) → there path (short_text_at most key tree) ≡ Ok text → length text ≤ most
text_within path most key tree text is =
    let few = tested (λ text. nat_le (length text) most) (λ text. text) _ text (found_ok _ _ text is) in
    grind (arith, nat_tests)

-- the tables of a section that must be there
pub tables_within : {B : Type 0} (at : Section) (least greatest : ℕ) (name : List ℕ) (tree : Members) (read : ℕ → Data → Result B FileFault) (ys : List B)
    → (tables_at at least greatest name tree >>= each_from read 0) ≡ Ok ys → (least ≤ length ys) × (length ys ≤ greatest)
tables_within at least greatest name tree read ys is =
    let (list, found, each) = then_ok (tables_at at least greatest name tree) (each_from read 0) ys is in
    let count = as_many_read read 0 list ys each in
    let within = list_within (of_section at) least greatest name tree list found in
    (omega arith, omega arith)

few_maybe : (at : Section) (greatest : ℕ) (name : List ℕ) (tree : Members) (value : Option Data) (list : List Data)
    → where_there [] (tables_at at 0 greatest name tree) value ≡ Ok list → length list ≤ greatest
few_maybe at greatest name tree None list is =
    let none : [] ≡ list = cc in
    rw (← none) (omega arith)
few_maybe at greatest name tree (Some value) list is = (list_within (of_section at) 0 greatest name tree list is).1

-- those of a section that may be absent
pub maybe_tables_within : {B : Type 0} (at : Section) (greatest : ℕ) (name : List ℕ) (tree : Members) (read : ℕ → Data → Result B FileFault) (ys : List B)
    → (maybe_tables_at at greatest name tree >>= each_from read 0) ≡ Ok ys → length ys ≤ greatest
maybe_tables_within at greatest name tree read ys is =
    let (list, found, each) = then_ok (maybe_tables_at at greatest name tree) (each_from read 0) ys is in
    let count = as_many_read read 0 list ys each in
    let within = few_maybe at greatest name tree (get_member name tree) list found in
    omega arith

-- what holds of each of the items that were looked up holds of all
all_of : {B : Type 0} (P : B → Type 0) (looked_up : Result (List Data) FileFault) (read : ℕ → Data → Result B FileFault) (ys : List B)
    → ((i : ℕ) (value : Data) (y : B) → read i value ≡ Ok y → P y) → (looked_up >>= each_from read 0) ≡ Ok ys → All P ys
all_of P looked_up read ys each is =
    let (list, found, all) = then_ok looked_up (each_from read 0) ys is in
    all_read read P each 0 list ys all

pub named_text_is_short : (at : Section) (text_key : Key) (word : List ℕ) (i : ℕ) (value : Data) (raw : RawText)
    → named_text_of at text_key word i value ≡ Ok raw → length raw.text ≤ MAX_BODY
named_text_is_short at text_key word i value raw is =
    let (tree, table, is) = then_ok (table_of at i value) _ raw is in
    let (name, named, is) = then_ok (name_in at i tree) _ raw is in
    let (text, short, is) = then_ok (text_in at text_key word i tree) _ raw is in
    let same = passes_ok _ (has_only (codes "name" ∷ word ∷ []) tree) _ raw is in
    rw (← same) (text_within _ MAX_BODY word tree text short)

pub entries_are_few : (i : ℕ) (at : Key) (most : ℕ) (word : List ℕ) (tree : Members) (entries : List (List ℕ))
    → entries_of i at most word tree ≡ Ok entries → length entries ≤ most
entries_are_few i at most word tree entries is =
    let (list, found, each) = then_ok (list_in i at most word tree) _ entries is in
    let count = as_many_read (entry_of i at) 0 list entries each in
    let within = list_within _ 0 most word tree list found in
    omega arith

pub slot_is_short : (i : ℕ) (value : Data) (raw : RawSlot) → slot_of i value ≡ Ok raw → IsShortSlot raw
slot_is_short i value raw is =
    let (tree, table, is) = then_ok (table_of section.Slot i value) _ raw is in
    let (tasks, ran, is) = then_ok (entries_of i key.Tasks MAX_TASKS (codes "tasks") tree) _ raw is in
    let (votes, voted, is) = then_ok (entries_of i key.Votes MAX_CELLS (codes "votes") tree) _ raw is in
    let same = passes_ok _ (has_only (codes "tasks" ∷ codes "votes" ∷ []) tree) _ raw is in
    subst IsShortSlot same (record {
      tasks = entries_are_few i key.Tasks MAX_TASKS (codes "tasks") tree tasks ran;
      votes = entries_are_few i key.Votes MAX_CELLS (codes "votes") tree votes voted;
    })

ticks_then : {A : Type 0} (at : Key) (name : List ℕ) (tree : Members) (next : ℤ → Result A FileFault) (read : A)
    → (ticks_at at name tree >>= next) ≡ Ok read → (n : ℤ) × IsTimingNumber n × (next n ≡ Ok read)
unfolding ticks_at
ticks_then at name tree next read is =
    let (n, found, left) = then_ok (ticks_at at name tree) next read is in
    (n, integer_within _ (pos 0) (pos 1000000000) name tree n found, left)

record ArePhases (phases : Phases) : Type 0 where
  compute : IsTimingNumber phases.compute
  broadcast : IsTimingNumber phases.broadcast
  vote : IsTimingNumber phases.vote
  sync : IsTimingNumber phases.sync

phases_within : (tree : Members) (phases : Phases) → phases_of tree ≡ Ok phases → ArePhases phases
unfolding phases_of
phases_within tree phases is =
    let (compute, compute_fits, is) = ticks_then key.Compute (codes "compute") tree _ phases is in
    let (broadcast, broadcast_fits, is) = ticks_then key.Broadcast (codes "broadcast") tree _ phases is in
    let (vote, vote_fits, is) = ticks_then key.Vote (codes "vote") tree _ phases is in
    let (sync, sync_fits, is) = ticks_then key.Sync (codes "sync") tree _ phases is in
    let read : Phases = record { compute = compute; broadcast = broadcast; vote = vote; sync = sync } in
    let same : read ≡ phases = cc in
    subst ArePhases same (record { compute = compute_fits; broadcast = broadcast_fits; vote = vote_fits; sync = sync_fits })

record AreBounds (bounds : Bounds) : Type 0 where
  skew : IsTimingNumber bounds.skew
  drift_ppm : IsTimingNumber bounds.drift_ppm
  delay_min : IsTimingNumber bounds.delay_min
  delay_max : IsTimingNumber bounds.delay_max
  skew_limit : IsTimingNumber bounds.skew_limit
  drift_limit_ppm : IsTimingNumber bounds.drift_limit_ppm

bounds_within : (tree : Members) (bounds : Bounds) → bounds_of tree ≡ Ok bounds → AreBounds bounds
unfolding bounds_of
bounds_within tree bounds is =
    let (skew, skew_fits, is) = ticks_then key.Skew (codes "skew") tree _ bounds is in
    let (drift_ppm, drift_ppm_fits, is) = ticks_then key.DriftPpm (codes "drift_ppm") tree _ bounds is in
    let (delay_min, delay_min_fits, is) = ticks_then key.DelayMin (codes "delay_min") tree _ bounds is in
    let (delay_max, delay_max_fits, is) = ticks_then key.DelayMax (codes "delay_max") tree _ bounds is in
    let (skew_limit, skew_limit_fits, is) = ticks_then key.SkewLimit (codes "skew_limit") tree _ bounds is in
    let (drift_limit_ppm, drift_limit_ppm_fits, is) = ticks_then key.DriftLimitPpm (codes "drift_limit_ppm") tree _ bounds is in
    let read : Bounds = record { skew = skew; drift_ppm = drift_ppm; delay_min = delay_min; delay_max = delay_max; skew_limit = skew_limit; drift_limit_ppm = drift_limit_ppm } in
    let same : read ≡ bounds = cc in
    subst AreBounds same (record {
      skew = skew_fits;
      drift_ppm = drift_ppm_fits;
      delay_min = delay_min_fits;
      delay_max = delay_max_fits;
      skew_limit = skew_limit_fits;
      drift_limit_ppm = drift_limit_ppm_fits;
    })

pub timing_within : (tree : Members) (timing : Timing) → timing_of tree ≡ Ok timing → AreInRange timing
timing_within tree timing is =
    let (phases, phases_are, is) = then_ok (phases_of tree) _ timing is in
    let (bounds, bounds_are, is) = then_ok (bounds_of tree) _ timing is in
    let few = phases_within tree phases phases_are in
    let bound = bounds_within tree bounds bounds_are in
    subst AreInRange (passes_ok _ (has_only timing_keys tree) (timing_with phases bounds) timing is) (record {
      compute = few.compute;
      broadcast = few.broadcast;
      vote = few.vote;
      sync = few.sync;
      skew = bound.skew;
      drift_ppm = bound.drift_ppm;
      delay_min = bound.delay_min;
      delay_max = bound.delay_max;
      skew_limit = bound.skew_limit;
      drift_limit_ppm = bound.drift_limit_ppm;
    })

timing_section_within : (tree : Members) (timing : Timing) → timing_section tree ≡ Ok timing → AreInRange timing
timing_section_within tree timing is =
    let (table, found, is) = then_ok (timing_table tree) _ timing is in
    timing_within table timing is

-- a text of at most 4,096 bytes
abbrev IsShort : RawText → Type 0
IsShort raw = length raw.text ≤ MAX_BODY

abbrev read_task : ℕ → Data → Result RawText FileFault
read_task = named_text_of section.Task key.Body (codes "body")

abbrev read_actuator : ℕ → Data → Result RawText FileFault
read_actuator = named_text_of section.Actuator key.Value (codes "value")

maybe_within : (path : Path) (least greatest : ℤ) (name : List ℕ) (tree : Members) (value : Option Data) (limit : Option ℤ)
    → where_there None (there path (integer_at least greatest name tree) >>= λ n. Ok (Some n)) value ≡ Ok limit
    → IfSome limit (λ n. (least ≤ℤ n) × (n ≤ℤ greatest))
maybe_within path least greatest name tree None limit is =
    let none : None ≡ limit = cc in
    rw (← none) tt
maybe_within path least greatest name tree (Some value) limit is =
    let (n, found, is) = then_ok (there path (integer_at least greatest name tree)) _ limit is in
    let some : Some n ≡ limit = cc in
    rw (← some) (integer_within path least greatest name tree n found)

-- the limit on the recovery length
limit_within : (second : Bool) (tree : Members) (limit : Option ℤ) → limit_in second tree ≡ Ok limit
    → IfSome limit (λ n. (pos 1 ≤ℤ n) × (n ≤ℤ pos MAX_RECOVERY))
limit_within false tree limit is =
    let none : None ≡ limit = cc in
    rw (← none) tt
limit_within true tree limit is =
    maybe_within (of_section section.RecoveryLimit) (pos 1) (pos MAX_RECOVERY) (codes "recovery_limit") tree (get_member (codes "recovery_limit") tree) limit is

-- the settings of a document of the right shape
record AreSettings (settings : Settings) : Type 0 where
  some_replicas : pos 1 ≤ℤ settings.replicas
  few_replicas : settings.replicas ≤ℤ pos MAX_REPLICAS
  limit : IfSome settings.limit (λ nodes. (pos 1 ≤ℤ nodes) × (nodes ≤ℤ pos MAX_RECOVERY))
  timing : AreInRange settings.timing

settings_within : (tree : Members) (settings : Settings) → settings_of tree ≡ Ok settings → AreSettings settings
settings_within tree settings is =
    let (format, format_is, is) = then_ok (format_in tree) _ settings is in
    let second = is_second format in
    let (replicas, replicas_are, is) = then_ok (replicas_in tree) _ settings is in
    let (limit, limit_is, is) = then_ok (limit_in second tree) _ settings is in
    let (timing, timing_is, is) = then_ok (timing_section tree) _ settings is in
    let few = integer_within (of_section section.Replicas) (pos 1) (pos MAX_REPLICAS) (codes "replicas") tree replicas replicas_are in
    let read : Settings = record { second = second; replicas = replicas; limit = limit; timing = timing } in
    let same : read ≡ settings = cc in
    subst AreSettings same (record {
      some_replicas = few.0;
      few_replicas = few.1;
      limit = limit_within second tree limit limit_is;
      timing = timing_section_within tree timing timing_is;
    })

-- the sections of a document of the right shape
pub sections_within : (tree : Members) (sections : Sections) → sections_of tree ≡ Ok sections → AreShortSections sections
unfolding sections_of
sections_within tree sections is =
    let (settings, settings_are, is) = then_ok (settings_of tree) _ sections is in
    let second = settings.second in
    let kept = settings_within tree settings settings_are in
    let (sensors, sensors_are, is) = then_ok (sensor_section tree) _ sections is in
    let (cells, cells_are, is) = then_ok (cell_section second tree) _ sections is in
    let (tasks, tasks_are, is) = then_ok (task_section tree) _ sections is in
    let (slots, slots_are, is) = then_ok (slot_section tree) _ sections is in
    let (actuators, actuators_are, is) = then_ok (actuator_section tree) _ sections is in
    let few_cells = tables_within section.Cell 1 MAX_CELLS (codes "cell") tree (variable_of section.Cell second) cells cells_are in
    let few_tasks = tables_within section.Task 1 MAX_TASKS (codes "task") tree read_task tasks tasks_are in
    let few_slots = tables_within section.Slot 1 MAX_SLOTS (codes "slot") tree slot_of slots slots_are in
    subst AreShortSections (passes_ok _ (has_only (top_keys second) tree) _ sections is) (record {
      some_replicas = kept.some_replicas;
      few_replicas = kept.few_replicas;
      limit = kept.limit;
      timing = kept.timing;
      sensors = maybe_tables_within section.Sensor MAX_SENSORS (codes "sensor") tree (variable_of section.Sensor false) sensors sensors_are;
      cells = record { some = few_cells.0; few = few_cells.1 };
      tasks = record { some = few_tasks.0; few = few_tasks.1 };
      slots = record { some = few_slots.0; few = few_slots.1 };
      short_slots = all_of IsShortSlot (tables_at section.Slot 1 MAX_SLOTS (codes "slot") tree) slot_of slots slot_is_short slots_are;
      actuators = maybe_tables_within section.Actuator MAX_ACTUATORS (codes "actuator") tree read_actuator actuators actuators_are;
      short_bodies = all_of IsShort (tables_at section.Task 1 MAX_TASKS (codes "task") tree) read_task tasks (named_text_is_short section.Task key.Body (codes "body")) tasks_are;
      short_values = all_of IsShort (maybe_tables_at section.Actuator MAX_ACTUATORS (codes "actuator") tree) read_actuator actuators
          (named_text_is_short section.Actuator key.Value (codes "value")) actuators_are;
    })
