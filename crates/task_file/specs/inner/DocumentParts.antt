-- Two steps of the answer to a task file: from its text to its document, and from there to the parts.
-- This project's own.
use Rattle.std.specs.Prelude.{ℕ, List, Result}
use Rattle.toml.specs.Data.{Members}
use Rattle.toml.specs.Parse.{parse_document}
use Rattle.rcp_base.specs.Answers.{◌>>=◌, found_or}
use Rattle.rcp_model.specs.declared.plan.PlanParts.{PlanParts}
use Rattle.task_file.specs.declared.fault.FileFault.{FileFault}
use Rattle.task_file.specs.declared.fault.FileFault.TheVariants as fault
use Rattle.task_file.specs.Shape.{sections_of}
use Rattle.task_file.specs.TaskFile.{parts_of_sections}

abbrev pub document_of_text : List ℕ → Result Members FileFault
document_of_text text = found_or fault.NotToml (parse_document text)

abbrev pub parts_of_document : Members → Result PlanParts FileFault
parts_of_document members = sections_of members >>= parts_of_sections
