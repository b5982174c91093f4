-- Ways from cell to cell over the tasks of a slot.
use Rattle.std.proofs.Common.{◌≡◌, ℕ, true, List, [], ◌∷◌}
use Rattle.std.specs.Prelude.{◌&&◌}
use Rattle.std.proofs.lemmas.Bool.{and_parts, and_from, eqb-true, eq-eqb}
use Rattle.rcp_model.specs.declared.task.Task.{Task}
use Rattle.rcp_base.proofs.SearchLaws.{any_of, any_found}
use Rattle.rcp_model.specs.Dependence.{leads, feeds_through, FeedsThrough}

pub to_way : (cells : ℕ) (tasks : List Task) (from to : ℕ) → feeds_through cells tasks from to ≡ true → FeedsThrough cells tasks from to
to_way cells [] from to h = eqb-true from to h
to_way cells (task ∷ tasks) from to h =
    let p = any_found cells (λ x. leads task from x && feeds_through cells tasks x to) h in
    let both = and_parts (leads task from p.v) (feeds_through cells tasks p.v to) p.passes in
    (p.v, p.below, both.0, to_way cells tasks p.v to both.1)

pub from_way : (cells : ℕ) (tasks : List Task) (from to : ℕ) → FeedsThrough cells tasks from to → feeds_through cells tasks from to ≡ true
from_way cells [] from to way = eq-eqb from to way
from_way cells (task ∷ tasks) from to (x, below, first, rest) =
    any_of cells (λ x. leads task from x && feeds_through cells tasks x to) x below (and_from (leads task from x) (feeds_through cells tasks x to) first (from_way cells tasks x to rest))
