-- What is read from the bytes of a journal.
use Rattle.std.proofs.Common.{◌≡◌, ℕ, ◌<◌, ◌≤◌, List, take, All, Ok, sym, refl, arith, subst, Result}
use Rattle.std.proofs.lemmas.List.Elements.{All-nil}
use Rattle.rcp_base.specs.Answers.{◌>>=◌, IsFaultOr}
use Rattle.fault_journal.specs.Fault.{is_journal_memory}
use Rattle.rcp_model.specs.declared.plan.PlanParts.{PlanParts}
use Rattle.rcp_model.specs.Plan.{IsPlan}
use Rattle.fault_journal.specs.declared.row.Row.{Row}
use Rattle.fault_journal.specs.declared.journal.Journal.{Journal}
use Rattle.fault_journal.specs.declared.fault.JournalFault.{JournalFault}
use Rattle.fault_journal.specs.declared.fault.JournalFault.TheVariants as fault
use Rattle.fault_journal.specs.Journal.{JournalRows, journal_rows}
use Rattle.fault_journal.specs.History.{history_of, journal_result}
use Rattle.fault_journal.specs.Filling.{IsRowOf}
use Rattle.fault_journal.specs.Telling.{IsPlaceAfter, told_by, history_in, IsJournalOf}
use Rattle.fault_journal.proofs.AcceptedLemmas.{journal_rows-Ok}
use Rattle.fault_journal.proofs.HistoryLemmas.{history_of-is_of_plan}
use Rattle.fault_journal.proofs.ReverseLemmas.{All-from_reverse, AllPairs-from_reverse}

-- no frame is done
starts : (journal : Journal) → journal.place ≡ 0 → journal.done ≡ 0 → IsPlaceAfter journal.done journal.rows.items journal.place
starts journal place done = record {
  within = omega arith;
  passed =
      subst (λ (n : ℕ). All (λ (r : Row). r.frame < journal.done) (take n journal.rows.items)) (sym place)
      (All-nil (λ (r : Row). r.frame < journal.done));
  ahead = λ k d within. omega arith;
}

-- what the bytes give where the rows are what the definitions say
pub read-Ok : (plan : PlanParts) (bytes : List ℕ) (journal : Journal) → journal_rows plan bytes ≡ Ok (told_by journal)
    → journal_result plan bytes ≡ Ok (history_in plan journal)
unfolding journal_result
read-Ok plan bytes journal read = rw read refl

-- and the journal is one of the plan
pub journal-Ok : (plan : PlanParts) (bytes : List ℕ) (journal : Journal) → IsPlan plan → journal_rows plan bytes ≡ Ok (told_by journal)
    → journal.place ≡ 0 → journal.done ≡ 0 → IsJournalOf plan journal
journal-Ok plan bytes journal is_plan read place done =
    let kept = journal_rows-Ok plan bytes (told_by journal) read in
    record {
      tells =
          record {
            over =
                record {
                  is_plan = is_plan;
                  rows = All-from_reverse (IsRowOf plan) journal.rows.items kept.rows;
                  order = AllPairs-from_reverse (λ (later earlier : Row). earlier.frame ≤ later.frame) journal.rows.items kept.order;
                  place = starts journal place done;
                };
            told = refl;
          };
      history_of_plan = history_of-is_of_plan plan (told_by journal) is_plan kept;
      start = done;
    }

-- a fault of the rows is one of the journal
fault-then : {A B : Type 0} (fault : JournalFault) (first : Result A JournalFault) (next : A → Result B JournalFault) → IsFaultOr (is_journal_memory fault) fault first → IsFaultOr (is_journal_memory fault) fault (first >>= next)
fault-then fault.TooLong first next is = rw is refl
fault-then (fault.Width row) first next is = rw is refl
fault-then fault.Header first next is = rw is refl
fault-then (fault.Kind row) first next is = rw is refl
fault-then (fault.Column row column) first next is = rw is refl
fault-then (fault.Order row) first next is = rw is refl
fault-then (fault.Limit row) first next is = rw is refl
fault-then (fault.Repeated row) first next is = rw is refl
fault-then (fault.End row) first next is = rw is refl
fault-then fault.Memory first next is = tt

pub read-Err : (plan : PlanParts) (bytes : List ℕ) (fault : JournalFault) → IsFaultOr (is_journal_memory fault) fault (journal_rows plan bytes) → IsFaultOr (is_journal_memory fault) fault (journal_result plan bytes)
unfolding journal_result
read-Err plan bytes fault is = fault-then fault (journal_rows plan bytes) (λ (journal : JournalRows). Ok (history_of plan journal)) is
