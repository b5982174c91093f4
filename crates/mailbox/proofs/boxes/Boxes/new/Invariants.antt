-- The mailboxes so far are empty, and have places for so many cells.
use Rattle.std.proofs.Common.{◌≡◌, map, length, replicate, None}
use Rattle.std.specs.List.{All}
use Rattle.mailbox.specs.Mailboxes.{mail_in}
use Rattle.mailbox.specs.declared.boxes.Mailbox.{Mailbox}
use Rattle.mailbox.proofs.boxes.Boxes.new.Given as goal

abbrev pub invariant-loop-replica : goal.invariant-loop-replica
invariant-loop-replica l = record {
  empty : map mail_in l.mailboxes.items ≡ replicate l._replica None;
  fit : All (λ (box : Mailbox). length box.message.values ≡ l.cells) l.mailboxes.items;
}
