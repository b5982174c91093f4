-- The results of a code have places, and go to the cells of its task.
use Rattle.std.proofs.Common.{◌≡◌, ◌<◌, ◌∙◌, ℕ, List, length, ap, sym, subst, get_or, arith}
use Rattle.frame_table.specs.Tasks.{cells_after_number}
use Rattle.frame_table.proofs.CountLemmas.{as_long, row_counts, row_ran}
use Rattle.frame_table.proofs.programs.Programs.run_one.Goals as goal

-- a list that is an item of one list is that item of an equal one
same_item : (targets lent : List (List ℕ)) (number : ℕ) (item target : List ℕ) → lent ≡ targets → item ≡ get_or lent number item → target ≡ item → target ≡ get_or targets number target
same_item targets lent number item target same is here =
    subst (λ t. t ≡ get_or targets number t) (sym here) (is ∙ ap (λ ts. get_or ts number item) same)

pub run_code-requires-clause-count : goal.run_code-requires-clause-count
run_code-requires-clause-count c =
    row_counts c.self.inside.codes.items c.self.inside.targets c.args.number c.index.result.now c.as_slice-then-number-len.result.now
    c.self.invariant.2 (omega arith) c.index.ensures
    (same_item c.self.inside.targets c.as_slice.result.now c.args.number c.index-as_slice-number.result c.as_slice-then-number-len.result.now c.as_slice.ensures c.index-as_slice-number.is c.as_slice-then-number-len.ensures)

pub run_code-requires-clause-buffer : goal.run_code-requires-clause-buffer
run_code-requires-clause-buffer c =
    let is = same_item c.self.inside.targets c.as_slice.result.now c.args.number c.index-as_slice-number.result c.as_slice-then-number-len.result.now c.as_slice.ensures c.index-as_slice-number.is c.as_slice-then-number-len.ensures in
    let within : c.args.number < length c.self.inside.targets = omega (arith, as_long c.self.inside.codes.items c.self.inside.targets c.self.invariant.2) in
    omega (arith, ap length is, ap length c.as_mut_slice.ensures.value, c.self.invariant.1 c.args.number c.as_slice-then-number-len.result.now within)

pub returns-then-number-len-clause-cells : goal.returns-then-number-len-clause-cells
returns-then-number-len-clause-cells c =
    row_ran c.self.inside.codes.items c.self.inside.targets c.args.number c.index.result.now c.as_slice-then-number-len.result.now
    c.args.sensors.now c.args.cells.now c.run_code.new.cells c.self.invariant.2 (omega arith) c.index.ensures
    (same_item c.self.inside.targets c.as_slice.result.now c.args.number c.index-as_slice-number.result c.as_slice-then-number-len.result.now c.as_slice.ensures c.index-as_slice-number.is c.as_slice-then-number-len.ensures)
    c.run_code.ensures.cells
    ∙ ap (λ programs. cells_after_number programs c.args.number c.args.sensors.now c.args.cells.now) c.self.view_is
