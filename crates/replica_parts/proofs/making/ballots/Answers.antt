use Rattle.std.proofs.lemmas.List.Elements.{All-nil}
use Rattle.std.proofs.Common.{false}
use Rattle.replica_parts.proofs.RoomLemmas.{each_none, each_more, all_more}
use Rattle.replica_parts.specs.declared.ballot.Ballot.{Ballot}
use Rattle.std.proofs.Common.{sym, subst, All, ◌≡◌}
use Rattle.replica_parts.proofs.making.ballots.Goals as goal

pub loop-replica-init : goal.loop-replica-init
loop-replica-init c = record { none = subst (All (λ (place : Ballot). place.up ≡ false)) (sym c.new-ballots.ensures.items) (All-nil _); room = each_none _ _ c.new-ballots.ensures.items }

pub loop-replica-preserved : goal.loop-replica-preserved
loop-replica-preserved c = record {
  none = all_more (λ (place : Ballot). place.up ≡ false) _ _ _ c.loop-replica.invariant.none c.in_ok-new.ensures.none c.in_ok-push.ensures.items;
  room = each_more _ _ _ _ _ c.loop-replica.invariant.room c.in_ok-new.ensures.room c.in_ok-push.ensures.items;
}
