-- The messages that replicas send, one after the other.
use Rattle.std.proofs.Common.{◌≡◌, ◌≢◌, ◌⊎◌, ℕ, ◌+◌, ◌<◌, Bool, true, List, length, get_or, set, get_or-set_other, get_or-set_same, length-set, inl, inr, sym, ap, subst, ◌∙◌, arith}
use Rattle.std.proofs.lemmas.Bool.{cases_eq}
use Rattle.std.proofs.lemmas.List.Elements.{All-set}
use Rattle.rcp_base.proofs.TableLaws.{length-table}
use Rattle.rcp_base.specs.Message.{Content}
use Rattle.rcp_model.specs.declared.plan.PlanParts.{PlanParts}
use Rattle.rcp_model.specs.Messages.{own_message}
use Rattle.phase_machine.specs.Seats.{Seat, own_now}
use Rattle.replica_parts.specs.declared.setting.Setting.{Setting}
use Rattle.replica_parts.specs.Rooms.{AreMessages, HasRoom}
use Rattle.replica_parts.specs.Setting.{IsSettingOf}
use Rattle.replica_parts.specs.States.{no_content}

-- a message has a place for each cell of the plan
pub own_room : (plan : PlanParts) (setting : Setting) (seat : Seat) → IsSettingOf plan setting
    → HasRoom setting (own_now plan seat)
unfolding own_message
own_room plan setting seat s = length-table (length plan.cells) _ ∙ sym s.cells

-- messages among which one is written anew are as many, and have as many places
pub room_kept : (setting : Setting) (own : List Content) (n : ℕ) (out : Content)
    → AreMessages setting own → HasRoom setting out → AreMessages setting (set own n out)
room_kept setting own n out h room = record {
  size = length-set own n out ∙ h.size;
  each = All-set (HasRoom setting) own n out room h.each;
}

-- each of the first replicas that is up has its message
abbrev pub HaveSaid : (ℕ → Bool) → (ℕ → Content) → List Content → ℕ → Type 0
HaveSaid up said own n = (k : ℕ) → k < n → up k ≡ true → get_or own k no_content ≡ said k

-- so it is of one replica more, where its message is written if it is up
pub said_next : (up : ℕ → Bool) (said : ℕ → Content) (own : List Content) (n : ℕ) (out : Content)
    → n < length own → HaveSaid up said own n → (up n ≡ true → out ≡ said n)
    → HaveSaid up said (set own n out) (n + 1)
said_next up said own n out within before e k lt is = go (cases_eq k n)
  where
    go : (k ≡ n) ⊎ (k ≢ n) → get_or (set own n out) k no_content ≡ said k
    go (inl same) =
        ap (λ i. get_or (set own n out) i no_content) same
        ∙ get_or-set_same own n out no_content within
        ∙ e (subst (λ i. up i ≡ true) same is) ∙ ap said (sym same)
    go (inr other) =
        get_or-set_other own n k out no_content other
        ∙ before k (omega (arith, lt, other)) is
