use Rattle.rcp_base.specs.Tables.{table}
use Rattle.rcp_model.specs.Messages.{Letter}
use Rattle.replica_parts.proofs.RoomLemmas.{each_none, each_more, none_seen, seen}
use Rattle.replica_parts.specs.Places.{letters_in}
use Rattle.replica_parts.specs.declared.post.Post.{Post}
use Rattle.std.proofs.Common.{Vec, ap, None, ℕ, rules, Option, ◌≡◌, ◌∙◌}
use Rattle.std.specs.Global.{Global}
use Rattle.replica_parts.proofs.making.post_rows.Goals as goal

abbrev no_letter : Option Letter
no_letter = None

pub loop-receiver-init : goal.loop-receiver-init
loop-receiver-init c = record { none = none_seen (λ (row : Vec Post Global). letters_in row.items) _ _ c.new-rows.ensures.items; room = each_none _ _ c.new-rows.ensures.items }

pub loop-receiver-preserved : goal.loop-receiver-preserved
loop-receiver-preserved c = record {
  none = seen (λ (row : Vec Post Global). letters_in row.items) _ _ _ _ _ c.loop-receiver.invariant.none c.in_ok-post_row.ensures.none c.in_ok-push.ensures.items;
  room = each_more _ _ _ _ _ c.loop-receiver.invariant.room c.in_ok-post_row.ensures.room c.in_ok-push.ensures.items;
}

pub returns-clause-none : goal.returns-clause-none
returns-clause-none c = λ plan s.
    let e : c.loop-receiver._receiver ≡ c.args.setting.now.replicas = search rules in
    c.loop-receiver.invariant.none
    ∙ ap (λ (n : ℕ). table n (λ (receiver : ℕ). table c.args.setting.now.replicas (λ (sender : ℕ). no_letter))) e
    ∙ ap (λ (n : ℕ). table n (λ (receiver : ℕ). table n (λ (sender : ℕ). no_letter))) s.replicas
