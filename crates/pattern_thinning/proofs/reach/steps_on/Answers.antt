use Rattle.std.proofs.Common.{◌≡◌, ℕ, suc, not, refl, ap, sym, ◌∙◌, subst, arith}
use Rattle.rcp_model.specs.Node.{make_node}
use Rattle.recovery_analysis.specs.Graphs.{graph_of}
use Rattle.pattern_thinning.specs.inner.Reach.{Reaches}
use Rattle.pattern_thinning.proofs.FrontierLemmas.{frontier_begin, next_reached, reached_more, reached_no_more}
use Rattle.pattern_thinning.proofs.reach.steps_on.Goals as goal

pub loop-step-init : goal.loop-step-init
loop-step-init c u = record {
  low = u.slot_in;
  frontier = frontier_begin c.args.node c.with_bit-frontier.result c.with_bit-frontier.ensures;
  some = (c.args.node, refl);
}

pub slot_after-slot-requires : goal.slot_after-slot-requires
slot_after-slot-requires c = (c.loop-step.invariant c.requires.node).low

pub returns-then-is_none : goal.returns-then-is_none
returns-then-is_none c =
    reached_no_more c.args.rows.now c.args.pattern.now c.args.node c.requires.node c.args.most c.loop-step.step c.loop-step.slot c.slot_after-slot.result c.loop-step.frontier
    c.next_word-frontier.result c.first_bit.result (omega arith) (c.loop-step.invariant c.requires.node) c.slot_after-slot.ensures.value c.next_word-frontier.ensures
    c.first_bit.ensures (c.is_none.ensures ∙ ap not c.if-is_none.true)

pub returns-then-has_bit : goal.returns-then-has_bit
returns-then-has_bit c =
    let k : ℕ = c.loop-step.step in
    let x = c.args.node in
    let w = next_reached c.args.rows.now c.args.pattern.now x c.requires.node k c.loop-step.slot c.slot_after-slot.result c.loop-step.frontier c.next_word-frontier.result
    (c.loop-step.invariant c.requires.node).frontier c.slot_after-slot.ensures.value c.next_word-frontier.ensures in (
      suc k,
      omega arith,
      subst (Reaches (graph_of c.args.rows.now c.args.pattern.now) (suc k) x) (ap (λ (s : ℕ). make_node s x.cell) c.if-slot-node.true)
          (w.holds x.cell (sym c.has_bit.ensures ∙ c.if-has_bit.true)),
    )

pub loop-step-preserved : goal.loop-step-preserved
loop-step-preserved c u =
    reached_more c.args.rows.now c.args.pattern.now c.args.node u c.loop-step.step c.loop-step.slot c.slot_after-slot.result c.loop-step.frontier
    c.next_word-frontier.result c.first_bit.result (c.loop-step.invariant u) c.slot_after-slot.ensures.within c.slot_after-slot.ensures.value c.next_word-frontier.ensures
    c.first_bit.ensures (c.is_none.ensures ∙ ap not c.if-is_none.false)

pub returns : goal.returns
returns c =
    let all : c.loop-step.step ≡ c.args.most = omega arith in
    let some = (c.loop-step.invariant c.requires.node).some in
    record {
      within = omega arith;
      reached = (some.0, subst (λ (i : ℕ). Reaches (graph_of c.args.rows.now c.args.pattern.now) i c.args.node some.0) all some.1);
      ends = λ less last r. absurd (omega arith);
    }
