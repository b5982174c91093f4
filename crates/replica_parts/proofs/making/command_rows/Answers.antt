use Rattle.rcp_base.specs.Tables.{table}
use Rattle.replica_parts.proofs.RoomLemmas.{each_none, each_more, none_seen, seen, replicate_table}
use Rattle.std.proofs.Common.{ap, ℤ, Vec, length, Option, ◌∙◌, None, ℕ, rules, ◌≡◌}
use Rattle.std.proofs.lemmas.List.{length-replicate}
use Rattle.std.specs.Global.{Global}
use Rattle.replica_parts.proofs.making.command_rows.Goals as goal

abbrev no_command : Option ℤ
no_command = None

pub loop-replica-init : goal.loop-replica-init
loop-replica-init c = record { none = none_seen (λ (row : Vec (Option ℤ) Global). row.items) _ _ c.new-rows.ensures.items; room = each_none _ _ c.new-rows.ensures.items }

pub loop-replica-preserved : goal.loop-replica-preserved
loop-replica-preserved c = record {
  none = seen (λ (row : Vec (Option ℤ) Global). row.items) _ _ _ _ _ c.loop-replica.invariant.none (c.in_ok-command_row.ensures ∙ replicate_table _ _) c.in_ok-push.ensures.items;
  room = each_more _ _ _ _ _ c.loop-replica.invariant.room (ap length c.in_ok-command_row.ensures ∙ length-replicate _ _) c.in_ok-push.ensures.items;
}

pub returns-clause-none : goal.returns-clause-none
returns-clause-none c = λ plan s.
    let e : c.loop-replica._replica ≡ c.args.setting.now.replicas = search rules in
    c.loop-replica.invariant.none
    ∙ ap (λ (n : ℕ). table n (λ (replica : ℕ). table c.args.setting.now.actuators (λ (actuator : ℕ). no_command))) (e ∙ s.replicas)
    ∙ ap (λ (n : ℕ). table plan.replicas (λ (replica : ℕ). table n (λ (actuator : ℕ). no_command))) s.actuators
