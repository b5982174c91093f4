use Rattle.rcp_base.specs.Tables.{table}
use Rattle.replica_parts.specs.Places.{letters_in}
use Rattle.replica_parts.specs.Rooms.{AreEach, IsPost}
use Rattle.std.proofs.Common.{None, ℕ, ◌≡◌}
use Rattle.replica_parts.proofs.making.post_row.Given as goal

abbrev pub invariant-loop-sender : goal.invariant-loop-sender
invariant-loop-sender l = record {
  none : letters_in l.row.items ≡ table l._sender (λ (sender : ℕ). None);
  room : AreEach l._sender (IsPost l.setting) l.row.items;
}
