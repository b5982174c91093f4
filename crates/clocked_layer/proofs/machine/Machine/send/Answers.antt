use Rattle.std.proofs.Common.{ap, ap₂, length, sym, ℕ, Option, ◌∙◌}
use Rattle.clocked_layer.proofs.MachineLemmas.{own_cells}
use Rattle.clocked_layer.specs.Block.{put_column}
use Rattle.rcp_base.specs.Message.{Content}
use Rattle.rcp_model.specs.Messages.{Letter, letter_to}
use Rattle.clocked_layer.proofs.machine.Machine.send.Goals as goal

pub returns : goal.returns
returns c plan block left shows stage =
    let of = shows.of_plan in
    let votes = c.votes_of_a_pattern_are_the_plans.ensures plan c.args.self.now.votes
    of.setting.rules of.votes in
    let out = c.send_at.ensures.out plan c.args.input.now block.seats shows.seats stage votes in
    let letter : ℕ → Content → ℕ → Option Letter =
    λ n m. letter_to plan n c.args.input.now m c.args.replica in
    record {
      of_plan = record {
        setting = of.setting;
        timing = of.timing;
        votes = of.votes;
        code = of.code;
        phases = c.send_at.ensures.size ∙ of.phases;
        own = ap (λ (m : Content). length m.values) out
            ∙ own_cells plan (block.seats c.args.replica) ∙ sym of.setting.cells;
        fresh = c.post.ensures.room;
        late = of.late;
      };
      frame = shows.frame;
      done = shows.done;
      more = shows.more;
      seats = c.send_at.ensures.show plan c.args.input.now block.seats shows.seats stage votes;
      fresh = c.post.ensures.letters plan of.setting
          ∙ ap₂ (λ (f : ℕ → ℕ → Option Letter) n.
          put_column f c.args.replica (letter n c.send_at.new.out))
          shows.fresh (sym shows.done)
          ∙ ap (λ m. put_column block.fresh c.args.replica (letter block.done m)) out;
      late = shows.late;
    }

pub send_at-requires-clause-show : goal.send_at-requires-clause-show
send_at-requires-clause-show c =
    let r = c.requires.shows in
    let of = r.2.of_plan in
    (r.0, c.args.input.now, r.1.seats, r.2.seats, of.own ∙ of.setting.cells)

pub post-requires-clause-own : goal.post-requires-clause-own
post-requires-clause-own c =
    let r = c.requires.shows in
    let of = r.2.of_plan in
    let votes = c.votes_of_a_pattern_are_the_plans.ensures r.0 c.args.self.now.votes
    of.setting.rules of.votes in
    ap (λ (m : Content). length m.values)
    (c.send_at.ensures.out r.0 c.args.input.now r.1.seats r.2.seats r.3 votes)
    ∙ own_cells r.0 (r.1.seats c.args.replica) ∙ sym of.setting.cells
