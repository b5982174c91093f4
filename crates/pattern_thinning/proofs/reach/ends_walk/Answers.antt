use Rattle.std.proofs.Common.{not, refl, ap, sym, ◌∙◌, arith}
use Rattle.pattern_thinning.proofs.FrontierLemmas.{here_begin, led_more, led_no_more, led_is_level}
use Rattle.pattern_thinning.proofs.reach.ends_walk.Goals as goal

pub loop-step-init : goal.loop-step-init
loop-step-init c u = record {
  low = u.slot_in;
  frontier = here_begin c.args.rows.now c.args.pattern.now c.args.node u c.with_bit-frontier.result c.with_bit-frontier.ensures;
  some = (c.args.node, u, refl);
}

pub slot_before-before-requires : goal.slot_before-before-requires
slot_before-before-requires c = (c.loop-step.invariant c.requires.node).low

pub previous_word-frontier-requires-clause-slot : goal.previous_word-frontier-requires-clause-slot
previous_word-frontier-requires-clause-slot c = (c.loop-step.invariant c.requires.node).low

pub returns-then-is_none : goal.returns-then-is_none
returns-then-is_none c =
    sym (led_no_more c.args.rows.now c.args.pattern.now c.args.node c.requires.node c.args.steps c.loop-step._step c.loop-step.slot c.slot_before-before.result c.loop-step.frontier
    c.previous_word-frontier.result c.first_bit.result (omega arith) (c.loop-step.invariant c.requires.node) c.slot_before-before.ensures.within c.slot_before-before.ensures.turn
    c.previous_word-frontier.ensures c.first_bit.ensures (c.is_none.ensures ∙ ap not c.if-is_none.true))

pub loop-step-preserved : goal.loop-step-preserved
loop-step-preserved c u =
    led_more c.args.rows.now c.args.pattern.now c.args.node u c.loop-step._step c.loop-step.slot c.slot_before-before.result c.loop-step.frontier
    c.previous_word-frontier.result c.first_bit.result (c.loop-step.invariant u) c.slot_before-before.ensures.within c.slot_before-before.ensures.turn
    c.previous_word-frontier.ensures c.first_bit.ensures (c.is_none.ensures ∙ ap not c.if-is_none.false)

pub returns : goal.returns
returns c =
    sym (led_is_level c.args.rows.now c.args.pattern.now c.args.node c.requires.node c.args.steps c.loop-step._step c.loop-step.slot c.loop-step.frontier (omega arith)
    (c.loop-step.invariant c.requires.node))
