-- `summary FILE JOURNAL`: what a run of the replicated system amounts to.
-- After NASA TM-102716; the counts and the text are this project's own.
use Rattle.std.specs.Prelude.{ℕ, ◌+◌, ◌*◌, ◌%◌, ℤ, cond, List, [], ◌∷◌, ◌++◌, length, count_by, fold, Option, Some, None, is_some, is_none}
use Rattle.std.specs.Int.{w64, cast_unsigned}
use Rattle.std.specs.List.{range_with_len}
use Rattle.rcp_base.specs.Tables.{table}
use Rattle.rcp_model.specs.declared.plan.PlanParts.{PlanParts}
use Rattle.rcp_model.specs.FrameRows.{FrameRows}
use Rattle.rcp_model.specs.Health.{is_working}
use Rattle.rcp_model.specs.History.{History, past_of}
use Rattle.rcp_model.specs.System.{state_after, actuator_vote}
use Rattle.trace_text.specs.declared.label.Label.TheVariants as label
use Rattle.trace_text.specs.Lines.{count_line}
use Rattle.rcp_top.specs.declared.counts.Counts.{Counts}
use Rattle.rcp_top.specs.declared.counts.Tally.{Tally}
use Rattle.rcp_top.specs.declared.form.Summary.{Summary}
use Rattle.rcp_top.specs.Frames.{recovery_of_plan, run_of}
use Rattle.rcp_top.specs.Reading.{Reading}
use Rattle.rcp_top.specs.Replay.{meets_guard}

-- the votes on the actuators in the last of these frames
abbrev pub votes_in : PlanParts → List FrameRows → List (Option ℤ)
votes_in plan past = table (length plan.actuators) (actuator_vote plan (state_after plan past))

-- the votes in all these frames, in the order in which a replay prints them
abbrev pub all_votes : PlanParts → List FrameRows → List (Option ℤ)
all_votes plan [] = []
all_votes plan (rows ∷ past) = all_votes plan past ++ votes_in plan (rows ∷ past)

-- a vote as a number: its value modulo 2^64, or 0 for none
abbrev pub number_of_vote : Option ℤ → ℕ
number_of_vote (Some value) = cast_unsigned w64 value
number_of_vote None = 0

-- a digest with one vote more
abbrev pub digest_after : ℕ → Option ℤ → ℕ
digest_after digest vote = (digest * 31 + number_of_vote vote) % 18446744073709551616

-- how many votes have a value, how many have none, and the digest of all
unfoldable pub tally_of : List (Option ℤ) → Tally
tally_of votes = record {
  votes = count_by is_some votes;
  no_votes = count_by is_none votes;
  digest = fold digest_after 0 votes;
}

-- how many of these frames have the guard
abbrev pub guarded_count : PlanParts → ℕ → List FrameRows → ℕ
guarded_count plan recovery [] = 0
guarded_count plan recovery (rows ∷ past) =
    guarded_count plan recovery past + cond (meets_guard plan recovery (rows ∷ past)) 1 0

-- how many replicas are working after these frames
abbrev pub working_count : PlanParts → ℕ → List FrameRows → ℕ
working_count plan recovery past =
    count_by (is_working plan recovery past) (range_with_len 0 plan.replicas)

-- how many pairs of a replica and a frame there are in which the replica is working
abbrev pub working_pairs : PlanParts → ℕ → List FrameRows → ℕ
working_pairs plan recovery [] = 0
working_pairs plan recovery (rows ∷ past) =
    working_pairs plan recovery past + working_count plan recovery (rows ∷ past)

-- what these frames amount to
unfoldable pub counts_of : PlanParts → ℕ → List FrameRows → Counts
counts_of plan recovery past = record {
  guarded = guarded_count plan recovery past;
  tally = tally_of (all_votes plan past);
  working = working_pairs plan recovery past;
}

-- so many frames, and what they amount to
unfoldable pub counts_text : ℕ → Counts → List ℕ
counts_text frames counts =
    count_line label.Frames frames
    ++ (count_line label.Guarded counts.guarded
    ++ (count_line label.Votes counts.tally.votes
    ++ (count_line label.NoVote counts.tally.no_votes
    ++ (count_line label.Working counts.working
    ++ count_line label.Digest counts.tally.digest))))

-- what a history amounts to, all but the line of the recovery length
abbrev pub sum_text : PlanParts → ℕ → History → List ℕ
sum_text plan recovery history =
    counts_text (length history) (counts_of plan recovery (past_of history (length history)))

-- the summary of a history, with this recovery length
unfoldable pub summary_text : PlanParts → ℕ → History → List ℕ
summary_text plan recovery history =
    count_line label.Recovery recovery ++ sum_text plan recovery history

-- what is to be printed of a plan and a history
abbrev pub summary_for : Summary → PlanParts → History → List ℕ
summary_for asked plan = summary_text plan (recovery_of_plan plan)

-- what `summary FILE JOURNAL` reads, and the text that is then due
abbrev pub summary_of : List ℕ → List ℕ → Reading (List ℕ)
summary_of = run_of (λ plan. summary_text plan (recovery_of_plan plan))
