use Rattle.std.proofs.Common.{ℕ, List, get_or, ap, ◌∙◌}
use Rattle.rcp_base.specs.Message.{Content}
use Rattle.rcp_base.specs.Tables.{table}
use Rattle.rcp_model.specs.Messages.{letter_to}
use Rattle.replica_parts.specs.Places.{post_at}
use Rattle.replica_parts.specs.States.{no_content}
use Rattle.distributed_layer.specs.Together.{begun_together}
use Rattle.distributed_layer.proofs.AmidLemmas.{amid_shows, have_computed, written_letters}
use Rattle.distributed_layer.proofs.frames.send_together.Goals as goal

pub all_send-requires-clause-can : goal.all_send-requires-clause-can
all_send-requires-clause-can c =
    let plan = c.requires.0 in
    let state = c.requires.1 in
    let boxes = c.requires.2 in
    let h = c.requires.3 in
    let layer = c.args.layer.now in
    let rows = c.args.input.now in
    let pattern = c.votes_of_a_pattern_are_the_plans.ensures in (
      plan,
      begun_together plan state rows boxes,
      pattern plan layer.votes h.of_plan.setting.rules h.of_plan.votes,
      have_computed plan state rows boxes,
      amid_shows layer plan state rows (post_at layer.fresh.items) _ h,
    )

pub returns : goal.returns
returns c = λ plan state boxes h.
    let layer = c.args.layer.now in
    let rows = c.args.input.now in
    let own = c.all_send.new.own.items in
    let pattern = c.votes_of_a_pattern_are_the_plans.ensures in
    let votes = pattern plan layer.votes h.of_plan.setting.rules h.of_plan.votes in
    let computed = have_computed plan state rows boxes in
    let begun = begun_together plan state rows boxes in
    let shows = amid_shows layer plan state rows (post_at layer.fresh.items) begun h in
    let sends = c.all_send.ensures.seats plan begun votes computed shows in
    record {
      of_plan = record {
        setting = h.of_plan.setting;
        votes = h.of_plan.votes;
        code = h.of_plan.code;
        phases = sends.size;
        letters = h.of_plan.letters;
        own = c.all_send.ensures.room;
        fresh = c.write_rows.ensures.room;
      };
      frame = h.frame;
      limit = h.limit;
      done = h.done;
      late_letters = h.late_letters;
      fresh_letters = written_letters plan state rows boxes c.write_rows.new.rows.items own
          (c.all_send.ensures.own plan begun votes computed shows)
          (c.write_rows.ensures.letters plan h.of_plan.setting
          ∙ ap (λ (xs : List Content). table plan.replicas (λ q. table plan.replicas (λ p.
          letter_to plan layer.done rows (get_or xs p no_content) p q))) c.as_slice.ensures.value
          ∙ ap (λ (n : ℕ). table plan.replicas (λ q. table plan.replicas (λ p.
          letter_to plan n rows (get_or own p no_content) p q))) h.done);
      replicas = sends.show;
    }
