use Rattle.std.proofs.Common.{◌<◌, ℕ, length, get_or, ap, ◌∙◌, arith}
use Rattle.std.proofs.lemmas.Bool.{both_ways}
use Rattle.rcp_base.specs.Search.{any_below}
use Rattle.rcp_model.specs.Node.{make_node}
use Rattle.rcp_model.specs.Walk.{node_count}
use Rattle.rcp_model.specs.Levels.{goes, node_before}
use Rattle.recovery_analysis.specs.inner.Levels.{Levels, graph_in}
use Rattle.recovery_analysis.specs.inner.LevelFields.{levels_in}
use Rattle.recovery_analysis.proofs.MarkLemmas.{marked, placed, node_of_level, some_before, first_before_is, none_before_is}
use Rattle.recovery_analysis.proofs.levels.Levels.back.Goals as goal

pub slot_before-slot-requires : goal.slot_before-slot-requires
slot_before-slot-requires c =
    let held = levels_in c.self.inside in
    let h = marked held c.args.self.now c.args.depth c.args.node c.self.view_is c.requires.node in
    (node_of_level (graph_in held) c.args.depth c.args.node h).slot_in

pub word-requires-clause-slot : goal.word-requires-clause-slot
word-requires-clause-slot c =
    let held = levels_in c.self.inside in
    let h = marked held c.args.self.now c.args.depth c.args.node c.self.view_is c.requires.node in
    (node_of_level (graph_in held) c.args.depth c.args.node h).slot_in

pub word-requires-clause-cell : goal.word-requires-clause-cell
word-requires-clause-cell c =
    let held = levels_in c.self.inside in
    let h = marked held c.args.self.now c.args.depth c.args.node c.self.view_is c.requires.node in
    (node_of_level (graph_in held) c.args.depth c.args.node h).cell_in

pub unreachable-requires : goal.unreachable-requires
unreachable-requires c =
    let held = levels_in c.self.inside in
    let g = graph_in held in
    let n = c.args.node in
    let h = marked held c.args.self.now c.args.depth n c.self.view_is c.requires.node in
    let node = node_of_level g c.args.depth n h in
    let few : c.args.depth < length c.self.inside.words.items = omega (arith, c.requires.depth, ap (λ (x : Levels). x.count) c.self.view_is) in
    both_ways (any_below (node_count g) (goes g c.args.depth n))
    (none_before_is g c.args.depth n c.word.result (get_or c.index.result.now c.slot_before-slot.result 0) node c.word.ensures
    (placed g c.self.inside.words.items c.index.result.now c.args.depth n.slot c.slot_before-slot.result c.self.invariant.each few
    c.index.ensures node.slot_in c.slot_before-slot.ensures.value) c.in-None.ensures)
    (some_before g c.args.depth n h)

pub returns : goal.returns
returns c =
    let held = levels_in c.self.inside in
    let g = graph_in held in
    let n = c.args.node in
    let h = marked held c.args.self.now c.args.depth n c.self.view_is c.requires.node in
    let node = node_of_level g c.args.depth n h in
    let few : c.args.depth < length c.self.inside.words.items = omega (arith, c.requires.depth, ap (λ (x : Levels). x.count) c.self.view_is) in
    ap (λ (s : ℕ). make_node s c.in-Some.cell) c.slot_before-slot.ensures.value
    ∙ first_before_is g c.args.depth n c.word.result (get_or c.index.result.now c.slot_before-slot.result 0) c.in-Some.cell node c.word.ensures
    (placed g c.self.inside.words.items c.index.result.now c.args.depth n.slot c.slot_before-slot.result c.self.invariant.each few
    c.index.ensures node.slot_in c.slot_before-slot.ensures.value) c.in-Some.ensures
    ∙ ap (λ (x : Levels). node_before (graph_in x) c.args.depth n) c.self.view_is
