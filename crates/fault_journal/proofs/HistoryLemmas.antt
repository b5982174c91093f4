-- The rows of a journal give a history of the plan.
use Rattle.std.proofs.Common.{◌≡◌, ℕ, Ok, All, sym, arith, subst}
use Rattle.rcp_base.specs.Tables.{table}
use Rattle.rcp_base.proofs.TableLaws.{length-table, get_or-table}
use Rattle.rcp_model.specs.declared.plan.PlanParts.{PlanParts}
use Rattle.rcp_model.specs.Plan.{IsPlan}
use Rattle.rcp_model.specs.FrameLimits.{IsFrameOf}
use Rattle.layer_stack.specs.Inputs.{IsHistoryOf}
use Rattle.fault_journal.specs.Journal.{JournalRows, journal_rows}
use Rattle.fault_journal.specs.History.{frame_of, history_of, journal_result}
use Rattle.fault_journal.proofs.Accepted.{AreJournalRows}
use Rattle.fault_journal.specs.Laws.{JournalsGiveHistories}
use Rattle.fault_journal.proofs.WithinLemmas.{frame_of-is_of_plan, frame_of-is_within_limits}
use Rattle.fault_journal.proofs.WrittenLemmas.{then-Ok}
use Rattle.fault_journal.proofs.AcceptedLemmas.{journal_rows-Ok}

All-table : {X : Type 0} (P : X → Type 0) (n : ℕ) (f : ℕ → X) → ((k : ℕ) → P (f k)) → All P (table n f)
All-table P n f each k d within =
    let lengths = length-table n f in
    subst P (sym (get_or-table n f k d (omega arith))) (each k)

pub history_of-is_of_plan : (plan : PlanParts) (journal : JournalRows) → IsPlan plan → AreJournalRows plan journal → IsHistoryOf plan (history_of plan journal)
unfolding history_of
history_of-is_of_plan plan journal is_plan rows =
    let f = frame_of plan journal.rows in
    let lengths = length-table journal.frames f in
    record {
      few = omega (arith, lengths, rows.few);
      frames =
          All-table (IsFrameOf plan) journal.frames f (λ frame. record {
            tables = frame_of-is_of_plan plan journal.rows frame;
            limits = frame_of-is_within_limits plan journal.rows frame is_plan rows.rows;
          });
    }

pub journals_give_histories : JournalsGiveHistories
unfolding journal_result
journals_give_histories plan bytes history is_plan is =
    let parts = then-Ok (journal_rows plan bytes) (λ (journal : JournalRows). Ok (history_of plan journal)) history is in
    let same : history_of plan parts.0 ≡ history = cc in
    subst (IsHistoryOf plan) same (history_of-is_of_plan plan parts.0 is_plan (journal_rows-Ok plan bytes parts.0 parts.1))
