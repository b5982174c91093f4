-- Look-ups in the tables of a file: what there is at a place, or a fault of shape there.
-- This project's own.
use Rattle.std.specs.Prelude.{ℕ, ℤ, List, [], codes, Option, Some, None, Result, Ok}
use Rattle.toml.specs.Data.{Data, Members, get_member, as_table}
use Rattle.rcp_base.specs.Answers.{◌>>=◌, found_or, where_passes}
use Rattle.task_file.specs.declared.fault.FileFault.{FileFault}
use Rattle.task_file.specs.declared.fault.FileFault.TheVariants as fault
use Rattle.task_file.specs.declared.path.Path.{Path}
use Rattle.task_file.specs.declared.path.Key.TheVariants as key
use Rattle.task_file.specs.declared.path.Section.{Section}
use Rattle.task_file.specs.Document.{integer_at, text_at, list_at, has_only}
use Rattle.task_file.specs.Places.{of_section, of_table, of_table_key}

-- there, or a fault of shape at the place
abbrev pub there : {A : Type 0} → Path → Option A → Result A FileFault
there path found = found_or (fault.Shape path) found

-- no key but these, or a fault of shape at the place
abbrev pub only_keys : {A : Type 0} → Path → List (List ℕ) → Members → A → Result A FileFault
only_keys path keys members x = where_passes (fault.Shape path) (has_only keys members) x

-- what is read where a value is there, and else this
abbrev pub where_there : {A : Type 0} → A → Result A FileFault → Option Data → Result A FileFault
where_there none read None = Ok none
where_there none read (Some value) = read

-- an integer at the top that must be there
abbrev pub top_integer : Section → ℤ → ℤ → List ℕ → Members → Result ℤ FileFault
top_integer at least greatest name members = there (of_section at) (integer_at least greatest name members)

-- one that may be absent
abbrev pub maybe_integer : Section → ℤ → ℤ → List ℕ → Members → Result (Option ℤ) FileFault
maybe_integer at least greatest name members =
    where_there None (top_integer at least greatest name members >>= λ n. Ok (Some n)) (get_member name members)

-- the tables of a section that must be there, from the least to the greatest number
abbrev pub tables_at : Section → ℕ → ℕ → List ℕ → Members → Result (List Data) FileFault
tables_at at least greatest name members = there (of_section at) (list_at least greatest name members)

-- those of a section that may be absent
abbrev pub maybe_tables_at : Section → ℕ → List ℕ → Members → Result (List Data) FileFault
maybe_tables_at at greatest name members = where_there [] (tables_at at 0 greatest name members) (get_member name members)

-- a table of a section
abbrev pub table_of : Section → ℕ → Data → Result Members FileFault
table_of at i value = there (of_table at i) (as_table value)

-- the text for a name in a table of a section
abbrev pub name_in : Section → ℕ → Members → Result (List ℕ) FileFault
name_in at i members = there (of_table_key at i key.Name) (text_at (codes "name") members)
