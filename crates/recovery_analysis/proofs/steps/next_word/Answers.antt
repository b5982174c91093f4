use Rattle.std.proofs.Common.{◌+◌, ℕ, Bool, sym, ◌∙◌, subst, arith}
use Rattle.recovery_analysis.specs.Graphs.{graph_of}
use Rattle.recovery_analysis.specs.Steps.{is_fed}
use Rattle.recovery_analysis.proofs.StepLemmas.{ArePassing, fed_if_common, none_passing, one_put_in, one_left_out, fed_and_unvoted}
use Rattle.recovery_analysis.proofs.steps.next_word.Goals.{then-is_some, else-is_some}
use Rattle.recovery_analysis.proofs.steps.next_word.Goals as goal

pub loop-cell-init : goal.loop-cell-init
loop-cell-init c = none_passing (is_fed (graph_of c.args.rows.now c.args.pattern.now) c.args.word c.args.slot)

pub loop-cell-preserved : goal.loop-cell-preserved
loop-cell-preserved c =
    let test : ℕ → Bool = is_fed (graph_of c.args.rows.now c.args.pattern.now) c.args.word c.args.slot in
    let found = c.is_some.ensures
    ∙ fed_if_common c.args.rows.now c.args.pattern.now c.args.word c.args.slot c.loop-cell.cell c.word.result
    c.first_bit-feeding.result c.word.ensures c.first_bit-feeding.ensures in
    elim c.if-is_some.branch [
      | then-is_some w ↦ subst (ArePassing test (c.loop-cell.cell + 1)) (sym w.fed-is)
          (one_put_in test c.loop-cell.cell c.loop-cell.fed w.with_bit-fed.result c.loop-cell.invariant w.with_bit-fed.ensures
          (sym found ∙ w.if-is_some.true))
      | else-is_some w ↦ subst (ArePassing test (c.loop-cell.cell + 1)) (sym w.fed-is)
          (one_left_out test c.loop-cell.cell c.loop-cell.fed c.loop-cell.invariant (sym found ∙ w.if-is_some.false))
    ]

pub returns : goal.returns
returns c =
    let test : ℕ → Bool = is_fed (graph_of c.args.rows.now c.args.pattern.now) c.args.word c.args.slot in
    fed_and_unvoted c.args.rows.now c.args.pattern.now c.args.word c.args.slot c.loop-cell.fed c.unvoted.result
    c.requires.size c.requires.slot
    (subst (λ (n : ℕ). ArePassing test n c.loop-cell.fed) (omega arith) c.loop-cell.invariant) c.unvoted.ensures
