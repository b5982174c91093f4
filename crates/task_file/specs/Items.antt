-- The tables of the list sections: variables, texts and slots.
-- This project's own.
use Rattle.std.specs.Prelude.{ℕ, ℤ, Bool, true, false, List, [], ◌∷◌, codes, Option, Some, None, option_and_then, Result, Ok, if◌then◌else◌}
use Rattle.std.specs.Str.{bytes_eq}
use Rattle.toml.specs.Data.{Data, Members, get_member, as_str}
use Rattle.rcp_base.specs.declared.TheConstants.{MAX_BODY, MAX_CELLS, MAX_TASKS}
use Rattle.rcp_base.specs.Answers.{◌>>=◌, each_from}
use Rattle.task_file.specs.declared.fault.FileFault.{FileFault}
use Rattle.task_file.specs.declared.path.Key.{Key}
use Rattle.task_file.specs.declared.path.Key.TheVariants as key
use Rattle.task_file.specs.declared.path.Section.{Section}
use Rattle.task_file.specs.declared.path.Section.TheVariants as section
use Rattle.task_file.specs.Document.{any_integer_at, text_at, short_text_at, list_at}
use Rattle.task_file.specs.Lookups.{there, only_keys, where_there, table_of, name_in}
use Rattle.task_file.specs.Places.{of_table_key, of_entry}
use Rattle.task_file.specs.Sections.{RawVariable, RawText, RawSlot}

-- the initial value in a table of a section
abbrev pub initial_in : Section → ℕ → Members → Result ℤ FileFault
initial_in at i members = there (of_table_key at i key.Initial) (any_integer_at (codes "initial") members)

-- the text says that the median votes a cell, or that the majority does
abbrev pub is_median_word : List ℕ → Option Bool
is_median_word text =
    if bytes_eq text (codes "majority") then Some false
    else if bytes_eq text (codes "median") then Some true
    else None

-- what the key `vote` of a table says
abbrev pub median_at : Members → Option Bool
median_at members = option_and_then is_median_word (text_at (codes "vote") members)

-- the median votes a table that may have the key `vote`, and says so there
abbrev pub median_in : Bool → Section → ℕ → Members → Result Bool FileFault
median_in false at i _ = Ok false
median_in true at i members =
    where_there false (there (of_table_key at i key.Vote) (median_at members)) (get_member (codes "vote") members)

-- the keys of a variable, which may have `vote` or not
abbrev pub variable_keys : Bool → List (List ℕ)
variable_keys false = codes "name" ∷ codes "initial" ∷ []
variable_keys true = codes "name" ∷ codes "initial" ∷ codes "vote" ∷ []

-- a table `name`, `initial`, and `vote` where it may have this key
abbrev pub variable_of : Section → Bool → ℕ → Data → Result RawVariable FileFault
variable_of at votes i value = do
  members ← table_of at i value
  name ← name_in at i members
  initial ← initial_in at i members
  median ← median_in votes at i members
  only_keys (of_table_key at i key.Unknown) (variable_keys votes) members
      (record { name = name; initial = initial; median = median })

-- a text of the task language at this key
abbrev pub text_in : Section → Key → List ℕ → ℕ → Members → Result (List ℕ) FileFault
text_in at text_key word i members = there (of_table_key at i text_key) (short_text_at MAX_BODY word members)

-- a table `name` and a text at this key
abbrev pub named_text_of : Section → Key → List ℕ → ℕ → Data → Result RawText FileFault
named_text_of at text_key word i value = do
  members ← table_of at i value
  name ← name_in at i members
  text ← text_in at text_key word i members
  only_keys (of_table_key at i key.Unknown) (codes "name" ∷ word ∷ []) members (record { name = name; text = text })

-- an entry of a list of texts
abbrev pub entry_of : ℕ → Key → ℕ → Data → Result (List ℕ) FileFault
entry_of i at j value = there (of_entry section.Slot i at j) (as_str value)

-- the list at a key of a slot
abbrev pub list_in : ℕ → Key → ℕ → List ℕ → Members → Result (List Data) FileFault
list_in i at most word members = there (of_table_key section.Slot i at) (list_at 0 most word members)

-- a list of texts
abbrev pub entries_of : ℕ → Key → ℕ → List ℕ → Members → Result (List (List ℕ)) FileFault
entries_of i at most word members = list_in i at most word members >>= each_from (entry_of i at) 0

-- a table `tasks`, `votes`
abbrev pub slot_of : ℕ → Data → Result RawSlot FileFault
slot_of i value = do
  members ← table_of section.Slot i value
  tasks ← entries_of i key.Tasks MAX_TASKS (codes "tasks") members
  votes ← entries_of i key.Votes MAX_CELLS (codes "votes") members
  only_keys (of_table_key section.Slot i key.Unknown) (codes "tasks" ∷ codes "votes" ∷ []) members
      (record { tasks = tasks; votes = votes })
