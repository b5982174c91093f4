use Rattle.std.proofs.Common.{◌≡◌, ℕ, ◌∙◌, ap, ap₂, sym, nat_abs, SFits, w64, to_z-of_z, rules}
use Rattle.rcp_model.specs.Slot.{slot_count}
use Rattle.rcp_model.specs.RowWrites.{with_slot, with_lie_slot, with_rate, with_delay}
use Rattle.fault_journal.specs.declared.row.Kind.TheVariants as kind
use Rattle.fault_journal.proofs.PutLemmas.{put_row-of_kind, permitted-of_kind, natural-below}
use Rattle.fault_journal.proofs.journal.put.Goals as goal

ap₃ : {X Y : Type 0} (f : ℕ → ℕ → X → Y) {a b c d : ℕ} {x y : X} → a ≡ b → c ≡ d → x ≡ y → f a c x ≡ f b d y
ap₃ f {b = b} {c = c} {x = x} p q r = ap (λ (n : ℕ). f n c x) p ∙ ap₂ (f b) q r

pub returns-in-Slot : goal.returns-in-Slot
returns-in-Slot c =
    let input = c.args.input.now in
    let row = c.args.row.now in
    let plan = c.requires.ready.0 in
    let fits : SFits w64 row.value = search rules in
    let below = permitted-of_kind plan row kind.Slot c.requires.ready.2 c.in-Slot.is in
    c.set_slot.ensures.row
    ∙ ap₂ (with_slot input) c.from-replica.ensures (ap nat_abs (to_z-of_z fits) ∙ natural-below (slot_count plan) row.value below)
    ∙ sym (put_row-of_kind input row kind.Slot c.in-Slot.is)

pub returns-in-LieSlot : goal.returns-in-LieSlot
returns-in-LieSlot c =
    let input = c.args.input.now in
    let row = c.args.row.now in
    let plan = c.requires.ready.0 in
    let fits : SFits w64 row.value = search rules in
    let below = permitted-of_kind plan row kind.LieSlot c.requires.ready.2 c.in-LieSlot.is in
    c.set_lieslot.ensures.row
    ∙ ap₃ (with_lie_slot input) c.from-replica.ensures c.from-receiver.ensures (ap nat_abs (to_z-of_z fits) ∙ natural-below (slot_count plan) row.value below)
    ∙ sym (put_row-of_kind input row kind.LieSlot c.in-LieSlot.is)

pub returns-in-Rate : goal.returns-in-Rate
returns-in-Rate c =
    let input = c.args.input.now in
    let row = c.args.row.now in
    let fits : SFits w64 row.value = search rules in
    c.set_rate.ensures.row ∙ ap₂ (with_rate input) c.from-replica.ensures (to_z-of_z fits) ∙ sym (put_row-of_kind input row kind.Rate c.in-Rate.is)

pub returns-in-Delay : goal.returns-in-Delay
returns-in-Delay c =
    let input = c.args.input.now in
    let row = c.args.row.now in
    let fits : SFits w64 row.value = search rules in
    c.set_delay.ensures.row
    ∙ ap₃ (with_delay input) c.from-replica.ensures c.from-receiver.ensures (to_z-of_z fits)
    ∙ sym (put_row-of_kind input row kind.Delay c.in-Delay.is)
