use Rattle.std.proofs.Common.{sym, subst}
use Rattle.frame_table.specs.Plan.{IsOf}
use Rattle.distributed_layer.specs.Together.{filled_together, letters_together}
use Rattle.distributed_layer.proofs.AmidLemmas.{amid_after, amid_shows, have_told}
use Rattle.distributed_layer.proofs.frames.vote_together.Goals as goal

pub all_vote-requires : goal.all_vote-requires
all_vote-requires c =
    let plan = c.requires.0 in
    let state = c.requires.1 in
    let boxes = c.requires.2 in
    let h = c.requires.3 in
    let layer = c.args.layer.now in
    let rows = c.args.input.now in
    let pattern = c.votes_of_a_pattern_are_the_plans.ensures in
    record {
      can = (
        plan,
        filled_together plan state rows boxes,
        h.of_plan.code,
        pattern plan layer.votes h.of_plan.setting.rules h.of_plan.votes,
        have_told plan state rows boxes,
        amid_shows layer plan state rows (letters_together plan state rows boxes) _ h,
      );
    }

pub returns : goal.returns
returns c = λ plan state boxes h.
    let layer = c.args.layer.now in
    let rows = c.args.input.now in
    let fresh = letters_together plan state rows boxes in
    let filled = filled_together plan state rows boxes in
    let pattern = c.votes_of_a_pattern_are_the_plans.ensures in
    amid_after layer c.all_vote.new.table c.all_vote.new.phases plan state rows fresh filled _ h
    (subst (IsOf plan) (sym c.all_vote.ensures.table) h.of_plan.code)
    (c.all_vote.ensures.seats plan filled h.of_plan.code
    (pattern plan layer.votes h.of_plan.setting.rules h.of_plan.votes)
    (have_told plan state rows boxes) (amid_shows layer plan state rows fresh filled h))
