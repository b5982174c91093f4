-- Names in which no fault is found are names, none of which stands twice.
-- This project's own.
use Rattle.std.specs.Prelude.{All, ◌&&◌, not, slice_index_or}
use Rattle.std.specs.Str.{bytes_eq}
use Rattle.std.proofs.Common.{◌≡◌, ◌≢◌, ℕ, ◌+◌, List, [], ◌∷◌, ◌++◌, Bool, true, false, cond, Option, Some, None, refl, sym, subst, append_assoc, append-nil}
use Rattle.std.proofs.lemmas.List.Folds.{list_any_at}
use Rattle.std.proofs.lemmas.Slice.Eq.{bytes_eq-Decides}
use Rattle.rcp_base.specs.Name.{is_name}
use Rattle.rcp_base.specs.Answers.{has_text}
use Rattle.rcp_base.proofs.StepLaws.{neither_found}
use Rattle.rcp_model.specs.Plan.{AreNames}
use Rattle.rcp_model.proofs.NameLaws.{no_names, names_more}
use Rattle.task_file.specs.declared.fault.FileFault.{FileFault}
use Rattle.task_file.specs.declared.fault.FileFault.TheVariants.{BadName}
use Rattle.task_file.specs.declared.path.Section.{Section}
use Rattle.task_file.specs.Places.{of_table_key}
use Rattle.task_file.specs.Sections.{Sections}
use Rattle.task_file.specs.Names.{bad_name_from, raw_names, text_names, first_bad_name}
use Rattle.task_file.specs.declared.path.Key.TheVariants as key
use Rattle.task_file.specs.declared.path.Section.TheVariants as section

-- a name that is among none is another than each
other_than : (names : List (List ℕ)) (name : List ℕ) → has_text names name ≡ false → All (λ other. other ≢ name) names
other_than names name none k d below same =
    let equal : bytes_eq (slice_index_or names k d) name ≡ true = (bytes_eq-Decides (slice_index_or names k d) name).1 same in
    let among : has_text names name ≡ true = list_any_at (λ k. bytes_eq k name) names k d below equal in
    cc

names_follow : (at : Section) (before : List (List ℕ)) (i : ℕ) (names : List (List ℕ)) → AreNames before → bad_name_from at before i names ≡ None → AreNames (before ++ names)
names_follow at before i [] are none = subst AreNames (sym (append-nil before)) are
names_follow at before i (name ∷ names) are none = by_case (is_name name) refl (has_text before name) refl none (names_follow at (before ++ name ∷ []) (i + 1) names)
  where
    rest : Option FileFault
    rest = bad_name_from at (before ++ name ∷ []) (i + 1) names

    by_case : (named : Bool) → is_name name ≡ named → (among : Bool) → has_text before name ≡ among
        → cond (named && not among) rest (Some (BadName (of_table_key at i key.Name))) ≡ None
        → (AreNames (before ++ name ∷ []) → rest ≡ None → AreNames (before ++ name ∷ [] ++ names)) → AreNames (before ++ name ∷ names)
    by_case true is false new none follow =
        subst AreNames (append_assoc before (name ∷ []) names) (follow (names_more before name are is (other_than before name new)) none)
    by_case true is true among none follow = cc
    by_case false is among _ none follow = cc

-- the three sets of names of a file
pub record HasNames (sections : Sections) : Type 0 where
  pub variables : AreNames (raw_names sections.sensors ++ raw_names sections.cells)
  pub tasks : AreNames (text_names sections.tasks)
  pub actuators : AreNames (text_names sections.actuators)

-- where no bad name is found
pub names_right : (sections : Sections) → first_bad_name sections ≡ None → HasNames sections
unfolding first_bad_name
names_right sections none =
    let (sensors, none) = neither_found (bad_name_from section.Sensor [] 0 (raw_names sections.sensors)) _ none in
    let (cells, none) = neither_found (bad_name_from section.Cell (raw_names sections.sensors) 0 (raw_names sections.cells)) _ none in
    let (tasks, actuators) = neither_found (bad_name_from section.Task [] 0 (text_names sections.tasks)) _ none in
    let first : AreNames (raw_names sections.sensors) = names_follow section.Sensor [] 0 (raw_names sections.sensors) no_names sensors in
    record {
      variables = names_follow section.Cell (raw_names sections.sensors) 0 (raw_names sections.cells) first cells;
      tasks = names_follow section.Task [] 0 (text_names sections.tasks) no_names tasks;
      actuators = names_follow section.Actuator [] 0 (text_names sections.actuators) no_names actuators;
    }
