use Rattle.std.proofs.Common.{◌≡◌, ℕ, sym, ◌∙◌, ap, arith}
use Rattle.rcp_base.specs.Bits.{has_bit}
use Rattle.rcp_base.proofs.BitLaws.{has_bit_zero}
use Rattle.recovery_analysis.specs.Graphs.{graph_of}
use Rattle.pattern_thinning.specs.inner.Reach.{feeds_below}
use Rattle.pattern_thinning.proofs.FrontierLemmas.{feeds_more, feeds_no_more, previous_of}
use Rattle.pattern_thinning.proofs.reach.previous_word.Goals.{then-has_bit, else-has_bit}
use Rattle.pattern_thinning.proofs.reach.previous_word.Goals as goal

pub loop-cell-init : goal.loop-cell-init
loop-cell-init c = has_bit_zero

pub loop-cell-preserved : goal.loop-cell-preserved
loop-cell-preserved c =
    let rows = c.args.rows.now in
    let votes = c.args.pattern.now in
    let k : ℕ = c.loop-cell.cell in
    elim c.if-has_bit.branch [
      | then-has_bit w ↦ λ i. ap (λ (x : ℕ). has_bit x i) w.feeding-is
          ∙ feeds_more rows votes c.args.word c.args.slot k c.loop-cell.feeding c.loop-cell.invariant w.word-feeding.result (sym c.has_bit.ensures ∙ w.if-has_bit.true) w.word-feeding.ensures i
      | else-has_bit w ↦ λ i. ap (λ (x : ℕ). has_bit x i) w.feeding-is
          ∙ feeds_no_more rows votes c.args.word c.args.slot k c.loop-cell.feeding c.loop-cell.invariant (sym c.has_bit.ensures ∙ w.if-has_bit.false) i
    ]

pub returns : goal.returns
returns c =
    let g = graph_of c.args.rows.now c.args.pattern.now in
    let all : c.loop-cell.cell ≡ c.args.rows.now.cells = omega arith in
    previous_of c.args.rows.now c.args.pattern.now c.args.word c.args.before c.args.slot c.loop-cell.feeding c.unvoted.result c.requires.size c.requires.before c.unvoted.ensures
    (λ i. c.loop-cell.invariant i ∙ ap (λ (k : ℕ). feeds_below k g c.args.word c.args.slot i) all)
