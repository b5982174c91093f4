-- Messages as the rows have them.
use Rattle.std.proofs.Common.{◌≡◌, ℕ, ◌≤◌, List, length, Option, None, unwrap_or, sym, ap, ◌∙◌, ℤ}
use Rattle.std.specs.Option.{option_or}
use Rattle.rcp_base.specs.Message.{Content, value_in}
use Rattle.rcp_base.specs.Tables.{table}
use Rattle.rcp_model.specs.FrameRows.{FrameRows, lie_row, lie_slot_row}
use Rattle.rcp_model.specs.Messages.{message_to}
use Rattle.rcp_base.proofs.FillLaws.{filled_all}
use Rattle.rcp_base.specs.Filling.{Filled}

pub same_content : (s t : ℕ) (v w : List (Option ℤ)) → s ≡ t → v ≡ w → ◌≡◌ {A = Content} (record { slot = s; values = v }) (record { slot = t; values = w })
same_content s t v w e f = cc

-- a message that begins as one's own with the slot of a row, and has each value of a row, is the message as the rows have it
pub is_message_to : (rows : FrameRows) (own : Content) (sender receiver : ℕ) (begun message : Content) (i : ℕ)
    → length own.values ≡ rows.cells → begun ≡ record own { slot = unwrap_or (lie_slot_row rows sender receiver) own.slot }
    → message.slot ≡ begun.slot
    → Filled rows.cells (λ (c : ℕ). option_or (lie_row rows sender receiver c) (value_in begun c)) None begun.values message.values i → rows.cells ≤ i
    → message ≡ message_to rows own sender receiver
unfolding message_to
is_message_to rows own sender receiver begun message i size begins slot filled le =
    same_content _ _ _ _ (slot ∙ ap (λ (m : Content). m.slot) begins)
    (filled_all _ _ None _ _ i filled le
    ∙ ap (λ (m : Content). table rows.cells (λ (c : ℕ). option_or (lie_row rows sender receiver c) (value_in m c))) begins
    ∙ ap (λ n. table n (λ (c : ℕ). option_or (lie_row rows sender receiver c) (value_in own c))) (sym size))
