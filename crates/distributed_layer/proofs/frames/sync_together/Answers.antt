use Rattle.std.proofs.Common.{◌∙◌, arith}
use Rattle.rcp_model.specs.System.{still_on_its_way}
use Rattle.distributed_layer.specs.Together.{letters_together, synced_together, voted_together}
use Rattle.distributed_layer.proofs.AmidLemmas.{amid_shows, have_decided}
use Rattle.distributed_layer.proofs.TogetherLemmas.{ended_at}
use Rattle.distributed_layer.proofs.frames.sync_together.Goals as goal

pub all_sync-requires : goal.all_sync-requires
all_sync-requires c =
    let plan = c.requires.0 in
    let state = c.requires.1 in
    let boxes = c.requires.2 in
    let rows = c.args.input.now in
    let voted = voted_together plan state rows boxes in
    let shows = amid_shows c.args.layer.now plan state rows _ voted c.requires.3 in
    record { can = (plan, voted, have_decided plan state rows boxes, shows) }

pub finish_all-requires : goal.finish_all-requires
finish_all-requires c =
    let plan = c.requires.0 in
    let state = c.requires.1 in
    let boxes = c.requires.2 in
    let h = c.requires.3 in
    let rows = c.args.input.now in
    let synced = c.all_sync.ensures plan _ (have_decided plan state rows boxes)
    (amid_shows c.args.layer.now plan state rows _ _ h) in
    let size = synced.size in
    record {
      size = omega (arith, size, h.frame.tables.replicas);
      few = omega (arith, size, h.of_plan.setting.rules.few_replicas);
      show = (plan, _, synced.show, h.frame);
    }

pub returns : goal.returns
returns c = λ plan state boxes h.
    let rows = c.args.input.now in
    let seats = synced_together plan state rows boxes in
    let synced = c.all_sync.ensures plan _ (have_decided plan state rows boxes)
    (amid_shows c.args.layer.now plan state rows _ _ h) in
    let rest = c.finish_all.ensures.rest plan seats state.done
    (λ q p. still_on_its_way plan state.done (letters_together plan state rows boxes q p))
    synced.show h.frame (ended_at plan state rows boxes) in
    record {
      of_plan = record {
        setting = h.of_plan.setting;
        votes = h.of_plan.votes;
        code = h.of_plan.code;
        phases = c.finish_all.ensures.size ∙ synced.size;
        letters = h.of_plan.letters;
        own = h.of_plan.own;
        fresh = h.of_plan.fresh;
      };
      limit = h.limit;
      done = h.done;
      fresh_letters = h.fresh_letters;
      replicas = ((λ replica. (seats replica).boxes), rest);
    }
