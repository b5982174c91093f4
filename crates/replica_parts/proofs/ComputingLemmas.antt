-- What replicas compute and say.
use Rattle.std.proofs.Common.{◌≡◌, [], ◌∷◌, refl, ℕ, ◌<◌, ◌≤◌, List, map, length, get_or, sym, ◌∙◌, arith, ℤ, Option, None, replicate, inl, inr}
use Rattle.std.proofs.lemmas.List.{ext_get_or, get_or-map, length-map, get_or_past, get_or-replicate, length-replicate}
use Rattle.std.proofs.lemmas.Bool.{cases_lt}
use Rattle.rcp_base.specs.Message.{Content}
use Rattle.rcp_model.specs.declared.plan.PlanParts.{PlanParts}
use Rattle.replica_parts.specs.States.{state_after_compute}
use Rattle.rcp_base.proofs.TableLaws.{length-table}
use Rattle.rcp_model.specs.declared.task.Task.{Task}
use Rattle.rcp_model.specs.Task.{cells_after_task}
use Rattle.rcp_model.specs.Slot.{tasks_of, cells_after_tasks, cells_after_slot}
use Rattle.rcp_model.specs.Uniprocessor.{ProcessorState}
use Rattle.rcp_base.specs.Filling.{Filled}

-- places filled with what a function makes of each item of a list are its image
pub filled_map : {A X : Type 0} (f : A → X) (xs : List A) (n : ℕ) (a : A) (d : X) (old new : List X) (i : ℕ) → length xs ≡ n → Filled n (λ (k : ℕ). f (get_or xs k a)) d old new i → n ≤ i → new ≡ map f xs
filled_map f xs n a d old new i size h le =
    ext_get_or d new (map f xs) (h.size ∙ sym size ∙ sym (length-map xs f))
    (λ k below. let lt : k < length xs = omega (arith, below, h.size, size) in h.done k (omega (arith, lt, size, le)) ∙ sym (get_or-map f xs k a d lt))

-- how many cells tasks and slots leave
length-after_task : (task : Task) (sensors cells : List ℤ) → length (cells_after_task task sensors cells) ≡ length cells
unfolding cells_after_task
length-after_task task sensors cells = length-table _ _

length-after_tasks : (tasks : List Task) (sensors cells : List ℤ) → length (cells_after_tasks tasks sensors cells) ≡ length cells
length-after_tasks [] sensors cells = refl
length-after_tasks (task ∷ tasks) sensors cells = length-after_tasks tasks sensors (cells_after_task task sensors cells) ∙ length-after_task task sensors cells

length-after_slot : (plan : PlanParts) (slot : ℕ) (sensors cells : List ℤ) → length (cells_after_slot plan slot sensors cells) ≡ length cells
unfolding cells_after_slot
length-after_slot plan slot sensors cells = length-after_tasks (tasks_of plan slot) sensors cells

pub length-state_after_compute : (plan : PlanParts) (sensors : List ℤ) (held : ProcessorState) → length (state_after_compute plan sensors held).cells ≡ length held.cells
length-state_after_compute plan sensors held = length-after_slot plan held.slot sensors held.cells

pub same_content : (s t : ℕ) (v w : List (Option ℤ)) → s ≡ t → v ≡ w → ◌≡◌ {A = Content} (record { slot = s; values = v }) (record { slot = t; values = w })
same_content s t v w e f = cc

abbrev pub no_value : Option ℤ
no_value = None

-- a place of an emptied message names none, also past the last
pub none_before : (n i : ℕ) → get_or (replicate n (no_value)) i no_value ≡ no_value
none_before n i = elim (cases_lt i n) [
  | inl a ↦ get_or-replicate n i no_value no_value a
  | inr a ↦ get_or_past (replicate n no_value) i no_value (omega (arith, a, length-replicate n (no_value)))
]
