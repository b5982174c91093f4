-- What frames amount to, one vote and one replica at a time.
use Rattle.std.proofs.Common.{◌≡◌, ℕ, ◌+◌, ◌*◌, ◌%◌, ◌≤◌, ℤ, Bool, true, false, cond, List, [], ◌∷◌, ◌++◌, length, count_by, fold, Option, Some, None, is_some, is_none, ap, ap₂, sym, ◌∙◌, arith, refl, append_assoc}
use Rattle.std.proofs.lemmas.List.{length-append}
use Rattle.std.proofs.lemmas.List.FromFn.{length-range_with_len}
use Rattle.std.proofs.lemmas.List.Sums.{fold_push}
use Rattle.std.specs.Int.{w64, cast_unsigned, from_bool}
use Rattle.std.specs.List.{range_with_len}
use Rattle.rcp_base.proofs.CountLaws.{count_most}
use Rattle.rcp_base.proofs.TableLaws.{length-table, table_more}
use Rattle.rcp_base.specs.Tables.{table}
use Rattle.rcp_base.specs.declared.TheConstants.{MAX_ACTUATORS, MAX_REPLICAS}
use Rattle.rcp_model.specs.declared.plan.PlanParts.{PlanParts}
use Rattle.rcp_model.specs.FrameRows.{FrameRows}
use Rattle.rcp_model.specs.Health.{is_working}
use Rattle.rcp_model.specs.System.{actuator_vote, state_after}
use Rattle.rcp_top.specs.declared.counts.Counts.{Counts}
use Rattle.rcp_top.specs.declared.counts.Tally.{Tally}
use Rattle.rcp_top.specs.Replay.{meets_guard}
use Rattle.rcp_top.specs.Summary.{all_votes, counts_of, digest_after, guarded_count, tally_of, votes_in, working_count, working_pairs}
use Rattle.rcp_top.proofs.LineLemmas.{numbers_more}

-- a truth as a number
pub one_if : (b : Bool) → from_bool b ≡ cond b 1 0
one_if true = refl
one_if false = refl

pub one_at_most : (b : Bool) → from_bool b ≤ 1
one_at_most true = omega arith
one_at_most false = omega arith

abbrev tally_parts : (a b d : ℕ) → Tally
tally_parts a b d = record { votes = a; no_votes = b; digest = d }

-- a tally with one vote more
abbrev tally_with : Tally → Option ℤ → Tally
tally_with tally vote = tally_parts (tally.votes + cond (is_some vote) 1 0) (tally.no_votes + cond (is_none vote) 1 0) (digest_after tally.digest vote)

tally_more : (votes : List (Option ℤ)) (vote : Option ℤ) → tally_with (tally_of votes) vote ≡ tally_of (votes ++ vote ∷ [])
unfolding tally_of
tally_more votes vote =
    let with_value : ℕ → Option ℤ → ℕ = λ n x. n + cond (is_some x) 1 0 in
    let without : ℕ → Option ℤ → ℕ = λ n x. n + cond (is_none x) 1 0 in
    sym (ap (λ a. tally_parts a (fold without 0 (votes ++ vote ∷ [])) (fold digest_after 0 (votes ++ vote ∷ []))) (fold_push with_value 0 votes vote)
    ∙ ap₂ (λ b d. tally_parts (count_by is_some votes + cond (is_some vote) 1 0) b d) (fold_push without 0 votes vote) (fold_push digest_after 0 votes vote))

tally_now : (tally : Tally) (votes : List (Option ℤ)) (vote : Option ℤ) → tally ≡ tally_of votes → tally_with tally vote ≡ tally_of (votes ++ vote ∷ [])
tally_now tally votes vote is = ap (λ t. tally_with t vote) is ∙ tally_more votes vote

-- one vote more, with a value and without
pub tally_some : (tally : Tally) (votes : List (Option ℤ)) (value : ℤ) (digest : ℕ) → tally ≡ tally_of votes
    → digest ≡ (tally.digest * 31 % 18446744073709551616 + cast_unsigned w64 value) % 18446744073709551616
    → record { votes = tally.votes + 1; no_votes = tally.no_votes; digest = digest } ≡ tally_of (votes ++ Some value ∷ [])
tally_some tally votes value digest is told =
    let none : tally.no_votes ≡ tally.no_votes + 0 = omega arith in
    let same : digest ≡ (tally.digest * 31 + cast_unsigned w64 value) % 18446744073709551616 = omega (arith, told) in
    ap₂ (λ n d. tally_parts (tally.votes + 1) n d) none same ∙ tally_now tally votes (Some value) is

pub tally_none : (tally : Tally) (votes : List (Option ℤ)) → tally ≡ tally_of votes
    → record { votes = tally.votes; no_votes = tally.no_votes + 1; digest = tally.digest * 31 % 18446744073709551616 } ≡ tally_of (votes ++ None ∷ [])
tally_none tally votes is =
    let some : tally.votes ≡ tally.votes + 0 = omega arith in
    let same : tally.digest * 31 % 18446744073709551616 ≡ (tally.digest * 31 + 0) % 18446744073709551616 = omega arith in
    ap₂ (λ n d. tally_parts n (tally.no_votes + 1) d) some same ∙ tally_now tally votes None is

-- no more votes are tallied than there are
pub tally_most : (votes : List (Option ℤ)) → ((tally_of votes).votes ≤ length votes) × ((tally_of votes).no_votes ≤ length votes)
unfolding tally_of
tally_most votes = (count_most is_some votes, count_most is_none votes)

-- the votes of one actuator more
pub votes_more : (votes : List (Option ℤ)) (vote : ℕ → Option ℤ) (k : ℕ) → (votes ++ table k vote) ++ vote k ∷ [] ≡ votes ++ table (k + 1) vote
votes_more votes vote k = append_assoc votes (table k vote) (vote k ∷ []) ∙ ap (λ more. votes ++ more) (sym (table_more k vote))

-- one replica more
pub working_more : (works : ℕ → Bool) (k : ℕ) → count_by works (range_with_len 0 (k + 1)) ≡ count_by works (range_with_len 0 k) + cond (works k) 1 0
working_more works k = ap (count_by works) (numbers_more k) ∙ fold_push (λ n x. n + cond (works x) 1 0) 0 (range_with_len 0 k) k

-- what is counted over frames is little
pub all_votes_few : (plan : PlanParts) (past : List FrameRows) → length plan.actuators ≤ MAX_ACTUATORS → length (all_votes plan past) ≤ length past * MAX_ACTUATORS
all_votes_few plan [] few = omega arith
all_votes_few plan (rows ∷ past) few =
    let now = votes_in plan (rows ∷ past) in
    omega (arith, length-append (all_votes plan past) now, length-table (length plan.actuators) (actuator_vote plan (state_after plan (rows ∷ past))), few, all_votes_few plan past few)

pub guarded_few : (plan : PlanParts) (recovery : ℕ) (past : List FrameRows) → guarded_count plan recovery past ≤ length past
guarded_few plan recovery [] = omega arith
guarded_few plan recovery (rows ∷ past) =
    omega (arith, guarded_few plan recovery past, one_at_most (meets_guard plan recovery (rows ∷ past)), one_if (meets_guard plan recovery (rows ∷ past)))

pub working_few : (plan : PlanParts) (recovery : ℕ) (past : List FrameRows) → plan.replicas ≤ MAX_REPLICAS → working_pairs plan recovery past ≤ length past * MAX_REPLICAS
working_few plan recovery [] few = omega arith
working_few plan recovery (rows ∷ past) few =
    omega (arith, working_few plan recovery past few, few, count_most (is_working plan recovery (rows ∷ past)) (range_with_len 0 plan.replicas), length-range_with_len 0 plan.replicas)

-- what the frames before amount to, part by part
pub parts_of : (plan : PlanParts) (recovery : ℕ) (past : List FrameRows) (counts : Counts) → counts ≡ counts_of plan recovery past
    → (counts.guarded ≡ guarded_count plan recovery past) × (counts.tally ≡ tally_of (all_votes plan past)) × (counts.working ≡ working_pairs plan recovery past)
unfolding counts_of
parts_of plan recovery past counts is = (ap (λ c. c.guarded) is, ap (λ c. c.tally) is, ap (λ c. c.working) is)

-- one frame more
pub counts_more : (plan : PlanParts) (recovery : ℕ) (rows : FrameRows) (past : List FrameRows) (counts : Counts) (guard : ℕ) (tally : Tally) (working : ℕ)
    → counts ≡ counts_of plan recovery past → guard ≡ from_bool (meets_guard plan recovery (rows ∷ past))
    → tally ≡ tally_of (all_votes plan (rows ∷ past)) → working ≡ working_count plan recovery (rows ∷ past)
    → record { guarded = counts.guarded + guard; tally = tally; working = counts.working + working } ≡ counts_of plan recovery (rows ∷ past)
unfolding counts_of
counts_more plan recovery rows past counts guard tally working is guarded tallied works =
    let before = parts_of plan recovery past counts is in
    let now = meets_guard plan recovery (rows ∷ past) in
    let first : counts.guarded + guard ≡ guarded_count plan recovery past + cond now 1 0 = ap₂ (λ a b. a + b) before.0 (guarded ∙ one_if now) in
    let third : counts.working + working ≡ working_pairs plan recovery past + working_count plan recovery (rows ∷ past) = ap₂ (λ a b. a + b) before.2 works in
    let parts : ℕ → Tally → ℕ → Counts = λ a t w. record { guarded = a; tally = t; working = w } in
    ap (λ a. parts a tally (counts.working + working)) first ∙ ap₂ (λ t w. parts (guarded_count plan recovery past + cond now 1 0) t w) tallied third
