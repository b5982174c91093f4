use Rattle.rcp_base.specs.Tables.{table}
use Rattle.replica_parts.specs.Places.{letter_rows}
use Rattle.replica_parts.specs.Rooms.{AreEach, ArePosts}
use Rattle.replica_parts.specs.declared.post.Post.{Post}
use Rattle.std.proofs.Common.{None, ℕ, Vec, ◌≡◌}
use Rattle.std.specs.Global.{Global}
use Rattle.replica_parts.proofs.making.post_rows.Given as goal

abbrev pub invariant-loop-receiver : goal.invariant-loop-receiver
invariant-loop-receiver l = record {
  none : letter_rows l.rows.items ≡ table l._receiver (λ (receiver : ℕ). table l.setting.replicas (λ (sender : ℕ). None));
  room : AreEach l._receiver (λ (row : Vec Post Global). ArePosts l.setting row.items) l.rows.items;
}
