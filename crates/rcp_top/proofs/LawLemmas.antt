-- A call whose reads and writes did not fail.
use Rattle.std.proofs.Common.{◌≡◌, ◌⊎◌, ℕ, List, Option, Contains, inl, inr, subst}
use Rattle.std.specs.Io.KnownBytes.{Appends}
use Rattle.rcp_base.specs.Files.{Files, IfTold, Rises}
use Rattle.rcp_base.specs.States.{SinkState, HasFailed}
use Rattle.rcp_top.specs.declared.status.Status.{Status}
use Rattle.rcp_top.specs.declared.status.Status.TheVariants as status
use Rattle.rcp_top.specs.Outcome.{Outcome, Ends, outcome_of, words_read, unreadable}
use Rattle.rcp_top.specs.Laws.{NoFailedReadLeavesNoChoice, ARunThatCanFinishDoes}

pub read_in_full : NoFailedReadLeavesNoChoice
read_in_full old new files words ended from to told fine is = by_end (subst P told is)
  where
    P : Option Files → Type 0
    P told = IfTold told (λ files. Ends (outcome_of words files) ended from to ⊎ ((name : List ℕ) × HasFailed old new × Contains (words_read words files) name × Ends (unreadable name) ended from to))

    by_end : Ends (outcome_of words files) ended from to ⊎ ((name : List ℕ) × HasFailed old new × Contains (words_read words files) name × Ends (unreadable name) ended from to)
        → Ends (outcome_of words files) ended from to
    by_end (inl is) = is
    by_end (inr unread) = absurd (fine unread.1)

end_without_fault : (due : Outcome) (ended : Status) (from to : SinkState) → Ends due ended from to
    → ¬ (Rises from.faults to.faults) → ((ended ≡ due.status) × Appends from.written to.written due.text) ⊎ (ended ≡ status.Memory)
end_without_fault due ended from to (Ends.as_due is text) fine = inl (is, text)
end_without_fault due ended from to (Ends.sink_failed is rises text) fine = absurd (fine rises)
end_without_fault due ended from to (Ends.out_of_memory is text) fine = inr is

pub finished : ARunThatCanFinishDoes
finished old new files words ended from to told fine wrote is =
    end_without_fault (outcome_of words files) ended from to (read_in_full old new files words ended from to told fine is) wrote
