-- The text of a replay, one frame at a time, and what each of its lines is of.
use Rattle.std.proofs.Common.{◌≡◌, ◌↔◌, ℕ, ℤ, pos, ◌+◌, ◌<◌, ◌≤◌, Bool, IsTrue, List, [], ◌∷◌, length, take, get_or, Result, ap, sym, ◌∙◌, subst, arith}
use Rattle.std.proofs.lemmas.List.{length-take-le, length-map, get_or-take}
use Rattle.rcp_base.specs.declared.sink.WriteError.{WriteError}
use Rattle.rcp_base.specs.Adding.{Adds, IsHalfway}
use Rattle.rcp_base.specs.Filling.{Filled}
use Rattle.rcp_base.specs.States.{SinkState}
use Rattle.rcp_base.specs.Tables.{table}
use Rattle.rcp_base.proofs.FillLaws.{is_table}
use Rattle.rcp_base.proofs.TableLaws.{length-table, table_same}
use Rattle.rcp_model.specs.declared.plan.PlanParts.{PlanParts}
use Rattle.rcp_model.specs.FrameRows.{FrameRows, is_down}
use Rattle.rcp_model.specs.Health.{MeetsGuard, is_working}
use Rattle.rcp_model.specs.History.{History, past_of}
use Rattle.rcp_model.specs.System.{SystemState, initial_state, next_state, end_of_frame, state_after, state_after_rows}
use Rattle.layer_stack.specs.Layer.{cell_in}
use Rattle.layer_stack.specs.Run.{StandsFor}
use Rattle.layer_stack.specs.declared.run.Run.{Run}
use Rattle.trace_text.specs.Lines.{replica_line}
use Rattle.rcp_top.specs.Replay.{held_line, meets_guard, replay_frame_text}
use Rattle.rcp_top.proofs.GuardLemmas.{guard_is_tested}
use Rattle.rcp_top.proofs.RunLemmas.{frame_written, past_at, past_length, rest_of_run}

-- the first places of a list that was filled so far are a table
pub first_places : {X : Type 0} (n most : ℕ) (f : ℕ → X) (d : X) (old new : List X) (i : ℕ) → Filled most f d old new i → n ≤ i → n ≤ most → take n new ≡ table n f
first_places n most f d old new i h le few =
    is_table n f (take n new) d (length-take-le n new (omega (arith, h.size))) (λ k lt. get_or-take n new k d lt ∙ h.done k (omega arith))

-- each replica has as many cells as its plan
as_many_held : (plan : PlanParts) (past : List FrameRows) (replica : ℕ) → length ((state_after plan past).replicas replica).cells ≡ length plan.cells
unfolding initial_state next_state end_of_frame state_after_rows
as_many_held plan [] replica = length-map plan.cells _
as_many_held plan (rows ∷ past) replica = length-table (length plan.cells) _

-- and they are all that is told of it
held_cells : (plan : PlanParts) (past : List FrameRows) (replica : ℕ)
    → table (length plan.cells) (cell_in (state_after plan past) replica) ≡ ((state_after plan past).replicas replica).cells
held_cells plan past replica =
    let cells = ((state_after plan past).replicas replica).cells in
    ap (λ n. table n (cell_in (state_after plan past) replica)) (sym (as_many_held plan past replica)) ∙ table_same cells (pos 0)

-- as many of the cells that are told of it are what it holds
pub told_cells : (plan : PlanParts) (past : List FrameRows) (replica count : ℕ) (told : List ℤ) → count ≡ length plan.cells
    → told ≡ table count (cell_in (state_after plan past) replica) → told ≡ ((state_after plan past).replicas replica).cells
told_cells plan past replica count told many is =
    let P : ℕ → Type 0 = λ n. told ≡ table n (cell_in (state_after plan past) replica) in
    subst P many is ∙ held_cells plan past replica

-- a guard that is told is the one that is tested
pub guard_told : (plan : PlanParts) (recovery : ℕ) (past : List FrameRows) (told : Bool) → IsTrue told ↔ MeetsGuard plan recovery past → told ≡ meets_guard plan recovery past
guard_told plan recovery past told is =
    let tested = guard_is_tested plan recovery past in
    grind (arith, is, tested)

-- the lines of the frame for which it then stands were written
pub frame_replayed : {L T U : Type 0} {a b : SinkState} {r : Result T WriteError} {whole : List ℕ} (at : L → PlanParts → SystemState → Type 0)
    (plan : PlanParts) (run : Run L) (history : History) (t length_of_run recovery : ℕ) (d : FrameRows) (c : SinkState) (s : Result U WriteError)
    → length_of_run ≡ recovery → t < length history → StandsFor at run (past_of history (t + 1)) → IsHalfway a b r (rest_of_run (replay_frame_text plan recovery) history t) whole
    → ((rows : FrameRows) (past : List FrameRows) → StandsFor at run (rows ∷ past) → t ≡ length past → Adds b c r s (replay_frame_text plan length_of_run rows past))
    → IsHalfway a c s (rest_of_run (replay_frame_text plan recovery) history (t + 1)) whole
frame_replayed {U = U} {b = b} {r = r} at plan run history t length_of_run recovery d c s same more stands so_far adds =
    let rows = get_or history t d in
    let past = past_of history t in
    let Stands : List FrameRows → Type 0 = λ frames. StandsFor at run frames in
    let P : ℕ → Type 0 = λ k. Adds {U = U} b c r s (replay_frame_text plan k rows past) in
    frame_written (replay_frame_text plan recovery) history t d c s more so_far
    (subst P same (adds rows past (subst Stands (past_at history t d more) stands) (sym (past_length history t (omega (arith, more))))))

-- where the layer of a run of the plan is
pub at_of_run : {L : Type 0} (at : L → PlanParts → SystemState → Type 0) (plan : PlanParts) (run : Run L) (layer : L) (past : List FrameRows)
    → run.plan.now ≡ plan → layer ≡ run.layer → StandsFor at run past → at layer plan (state_after plan past)
at_of_run {L = L} at plan run layer past same is stands =
    let P : PlanParts → Type 0 = λ p. at run.layer p (state_after p past) in
    let Q : L → Type 0 = λ l. at l plan (state_after plan past) in
    subst Q (sym is) (subst P same stands.at)

-- the line of a replica, by what is told of it
pub held_line_is : (plan : PlanParts) (recovery : ℕ) (rows : FrameRows) (past : List FrameRows) (replica : ℕ) (down : Bool) (slot : ℕ) (cells : List ℤ) (working : Bool)
    → down ≡ is_down rows replica → slot ≡ ((state_after plan (rows ∷ past)).replicas replica).slot → cells ≡ ((state_after plan (rows ∷ past)).replicas replica).cells
    → working ≡ is_working plan recovery (rows ∷ past) replica
    → replica_line replica down slot cells working ≡ held_line plan recovery rows past replica
held_line_is plan recovery rows past replica down slot cells working d s x w =
    let held = (state_after plan (rows ∷ past)).replicas replica in
    let there = is_down rows replica in
    ap (λ b. replica_line replica b slot cells working) d
    ∙ ap (λ n. replica_line replica there n cells working) s
    ∙ ap (λ xs. replica_line replica there held.slot xs working) x
    ∙ ap (λ b. replica_line replica there held.slot held.cells b) w
