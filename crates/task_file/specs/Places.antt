-- Places in a task file: of a section, of one of its tables, of a key there, and of an entry there.
-- This project's own.
use Rattle.std.specs.Prelude.{ℕ, Some, None}
use Rattle.task_file.specs.declared.path.Path.{Path}
use Rattle.task_file.specs.declared.path.Key.{Key}
use Rattle.task_file.specs.declared.path.Section.{Section}

-- a section
abbrev pub of_section : Section → Path
of_section section = record { section = section; index = None; key = None; item = None }

-- a key of a section that is a table
abbrev pub of_key : Section → Key → Path
of_key section key = record { section = section; index = None; key = Some key; item = None }

-- a table of a section
abbrev pub of_table : Section → ℕ → Path
of_table section i = record { section = section; index = Some i; key = None; item = None }

-- a key of a table of a section
abbrev pub of_table_key : Section → ℕ → Key → Path
of_table_key section i key = record { section = section; index = Some i; key = Some key; item = None }

-- an entry of the list at a key of a table of a section
abbrev pub of_entry : Section → ℕ → Key → ℕ → Path
of_entry section i key j = record { section = section; index = Some i; key = Some key; item = Some j }
