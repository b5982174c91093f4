use Rattle.std.proofs.Common.{◌≡◌, ℕ, ◌<◌, List, length, map, set, get_or, Option, Some, None, ap, ◌∙◌}
use Rattle.std.proofs.lemmas.List.{map-set}
use Rattle.rcp_base.specs.Message.{Content}
use Rattle.mailbox.specs.declared.boxes.Mailbox.{Mailbox}
use Rattle.mailbox.specs.Mailboxes.{Mailboxes, box_of, mail_in, put}
use Rattle.mailbox.proofs.PutLaws.{get_or-set}
use Rattle.mailbox.proofs.boxes.Boxes.put.Goals as goal

-- with another mailbox in place of one, another message lies there
mail_put : (messages : List (Option Content)) (boxes : List Mailbox) (place : ℕ) (box : Mailbox)
    (message : Content) → map mail_in boxes ≡ messages → place < length messages
    → mail_in box ≡ Some message
    → (λ number. get_or (map mail_in (set boxes place box)) number None)
    ≡ put (λ number. get_or messages number None) place (Some message)
mail_put messages boxes place box message are within is =
    ap (λ xs number. get_or xs number None)
    (map-set mail_in boxes place box ∙ ap (λ xs. set xs place (mail_in box)) are)
    ∙ get_or-set messages place (mail_in box) None within
    ∙ ap (put (λ number. get_or messages number None) place) is

pub returns-clause-boxes : goal.returns-clause-boxes
unfolding box_of
returns-clause-boxes c =
    mail_put c.args.self.now.messages c.self.inside.mailboxes.items c.args.from c.fill.new.self
    c.args.message.now (ap (λ (boxes : Mailboxes). boxes.messages) c.self.view_is)
    c.requires.from (ap mail_in c.fill.ensures)
