use Rattle.std.proofs.Common.{ℕ, Option, Vec, sym, ap, subst, ◌∙◌, arith, rules}
use Rattle.std.specs.Global.{Global}
use Rattle.rcp_model.specs.Messages.{Letter}
use Rattle.rcp_model.specs.System.{still_on_its_way}
use Rattle.replica_parts.specs.declared.post.Post.{Post}
use Rattle.replica_parts.specs.Places.{post_at}
use Rattle.replica_parts.specs.Rooms.{ArePostRows}
use Rattle.distributed_layer.proofs.AmidLemmas.{at_end, kept_letters}
use Rattle.distributed_layer.proofs.frames.keep_together.Goals as goal

pub keep_all-requires : goal.keep_all-requires
keep_all-requires c =
    let h = c.requires.4 in
    record {
      of = (c.requires.0, h.of_plan.setting);
      frame = h.limit;
      room = h.of_plan.fresh;
    }

pub overflow_add-layer : goal.overflow_add-layer
overflow_add-layer c =
    let limit = c.requires.4.limit in
    search (rules, limit)

pub returns : goal.returns
returns c = λ plan state rows boxes h.
    let layer = c.args.layer.now in
    let Room : Vec (Vec Post Global) Global → Type 0 = λ v. ArePostRows layer.setting v.items in
    let Posts : Vec (Vec Post Global) Global → ℕ → ℕ → Option Letter = λ v. post_at v.items in
    let OnWay : ℕ → ℕ → ℕ → Option Letter = λ n q p.
    still_on_its_way plan n (post_at layer.fresh.items q p) in
    let Kept : (ℕ → ℕ → Option Letter) → ℕ → ℕ → Option Letter = λ letters q p.
    still_on_its_way plan state.done (letters q p) in
    let done = h.done in
    at_end _ plan state rows boxes h.replicas.0
    (record {
      setting = h.of_plan.setting;
      votes = h.of_plan.votes;
      code = h.of_plan.code;
      phases = h.of_plan.phases;
      letters = subst Room (sym c.swap.ensures.x_after) c.keep_all.ensures.room;
      own = h.of_plan.own;
      fresh = subst Room (sym c.swap.ensures.y_after) h.of_plan.letters;
    })
    (omega (arith, done)) h.replicas.1
    (ap Posts c.swap.ensures.x_after
    ∙ kept_letters plan layer.done layer.fresh.items c.keep_all.new.rows.items
    (c.keep_all.ensures.letters plan h.of_plan.setting)
    ∙ ap OnWay h.done ∙ ap Kept h.fresh_letters)
