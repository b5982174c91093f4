-- The mailboxes so far are empty, and each is as large as it was.
use Rattle.std.proofs.Common.{◌≡◌, take, map, length, replicate, None}
use Rattle.std.specs.List.{All}
use Rattle.mailbox.specs.Mailboxes.{mail_in}
use Rattle.mailbox.specs.declared.boxes.Mailbox.{Mailbox}
use Rattle.mailbox.proofs.boxes.Boxes.clear.Given as goal

abbrev pub invariant-loop-mailbox : goal.invariant-loop-mailbox
invariant-loop-mailbox l = record {
  empty : map mail_in (take l.mailbox-index l.mailbox-items) ≡ replicate l.mailbox-index None;
  fit : All (λ (box : Mailbox). length box.message.values ≡ l.fn.self.cells) l.mailbox-items;
}
