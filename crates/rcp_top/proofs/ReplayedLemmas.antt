-- What a replay that prints a text has read, and that it is ideal under the guard.
use Rattle.std.proofs.Common.{◌≡◌, ℕ, zero, suc, false, List, [], ◌∷◌, ◌++◌, codes, Option, None, Some, slice_get, Result, Ok, Err, refl, sym, ap, ◌∙◌, subst, inl, inr}
use Rattle.std.proofs.lemmas.Bool.{cases_Bool, cond-true, cond-false}
use Rattle.rcp_base.specs.Files.{Files}
use Rattle.rcp_model.specs.declared.plan.PlanParts.{PlanParts}
use Rattle.rcp_model.specs.History.{History}
use Rattle.rcp_model.specs.HistoryLaws.{HistoriesGoByFrames}
use Rattle.rcp_model.specs.Levels.{has_cycle}
use Rattle.rcp_model.specs.PlanGraph.{graph_of_plan}
use Rattle.rcp_model.specs.Shown.{witness_cycle}
use Rattle.rcp_model.proofs.ShownLaws.{recovery_is_right}
use Rattle.task_file.specs.declared.fault.FileFault.{FileFault}
use Rattle.task_file.specs.Laws.{AcceptedFilesArePlans}
use Rattle.task_file.specs.TaskFile.{task_file_result}
use Rattle.fault_journal.specs.declared.fault.JournalFault.{JournalFault}
use Rattle.fault_journal.specs.History.{journal_result}
use Rattle.layer_stack.specs.Recovery.{ReplicasRecover}
use Rattle.rcp_top.specs.declared.status.Status.TheVariants as status
use Rattle.rcp_top.specs.declared.stop.Refusal.{Refusal}
use Rattle.rcp_top.specs.declared.stop.Refusal.TheVariants as refusal
use Rattle.rcp_top.specs.Headline.{Prints, PrintsIdeal, PrintsReplay, AreGiven, IsIdealAt, IsIdealSoFarAt, ReplaysAreIdealUnderTheGuard, CutReplaysAreIdealUnderTheGuard}
use Rattle.rcp_top.specs.Ideal.{ideal_text, sensors_of_history}
use Rattle.rcp_top.specs.Outcome.{Outcome, outcome_at}
use Rattle.rcp_top.specs.Printed.{lines_of_frame}
use Rattle.rcp_top.specs.Read.{plan_at, history_at, good_plan, good_history, shown}
use Rattle.rcp_top.specs.Reading.{Reading, End, end_at, end_over, file_at, ◌>>=◌}
use Rattle.rcp_top.specs.Frames.{recovery_of_plan}
use Rattle.rcp_top.specs.Replay.{replay_of, replay_text}
use Rattle.rcp_top.proofs.HeadlineLemmas.{IsIdealFrame, ideal_frame}
use Rattle.rcp_top.proofs.LayerLemmas.{replay_due}
use Rattle.rcp_top.proofs.PrintedLemmas.{cut_front}

-- two readings in turn give what the second gives for what the first gave
record GaveInTurn {X Y : Type 0} (files : Files) (first : Reading X) (next : X → Reading Y) (y : Y) : Type 0 where
  found : X
  first_gave : end_over files first ≡ End.gave (Ok found)
  next_gave : end_over files (next found) ≡ End.gave (Ok y)

module _ {X Y : Type 0} (files : Files) (next : X → Reading Y) (y : Y) where
  abbrev gave_by : (bytes_end : List ℕ → End X) → (List ℕ → End Y) → List ℕ → Option (List ℕ) → Type 0
  gave_by first both name held =
      end_at name both held ≡ End.gave (Ok y)
      → (x : X) × (end_at name first held ≡ End.gave (Ok x)) × (end_over files (next x) ≡ End.gave (Ok y))

  gave_by_held : (name : List ℕ) (rest : List ℕ → Reading X)
      → ((bytes : List ℕ) → end_over files (rest bytes >>= next) ≡ End.gave (Ok y) → GaveInTurn files (rest bytes) next y)
      → (held : Option (List ℕ)) → gave_by (λ bytes. end_over files (rest bytes)) (λ bytes. end_over files (rest bytes >>= next)) name held
  gave_by_held name rest each None is = cc is
  gave_by_held name rest each (Some bytes) is = let turn = each bytes is in (turn.found, turn.first_gave, turn.next_gave)

  gave_in_turn : (first : Reading X) → end_over files (first >>= next) ≡ End.gave (Ok y) → GaveInTurn files first next y
  gave_in_turn (Reading.gives (Ok x)) is = record { found = x; first_gave = refl; next_gave = is }
  gave_in_turn (Reading.gives (Err why)) is = cc is
  gave_in_turn (Reading.reads name rest) is =
      let turn = gave_by_held name rest (λ bytes there. gave_in_turn (rest bytes) there) (files name) is in
      record { found = turn.0; first_gave = turn.1; next_gave = turn.2 }

module _ {X Y : Type 0} (files : Files) (next : X → Reading Y) (x : X) where
  go_on_by_held : (name : List ℕ) (rest : List ℕ → Reading X)
      → ((bytes : List ℕ) → end_over files (rest bytes) ≡ End.gave (Ok x) → end_over files (rest bytes >>= next) ≡ end_over files (next x))
      → (held : Option (List ℕ)) → end_at name (λ bytes. end_over files (rest bytes)) held ≡ End.gave (Ok x)
      → end_at name (λ bytes. end_over files (rest bytes >>= next)) held ≡ end_over files (next x)
  go_on_by_held name rest each None is = cc is
  go_on_by_held name rest each (Some bytes) is = each bytes is

  go_on : (first : Reading X) → end_over files first ≡ End.gave (Ok x) → end_over files (first >>= next) ≡ end_over files (next x)
  go_on (Reading.gives (Ok z)) is = let e : z ≡ x = cc is in ap (λ z. end_over files (next z)) e
  go_on (Reading.gives (Err why)) is = cc is
  go_on (Reading.reads name rest) is = go_on_by_held name rest (λ bytes there. go_on (rest bytes) there) (files name) is

-- the bytes that a file gave
held_is : (name bytes : List ℕ) (held : Option (List ℕ)) → end_at name (λ bs. End.gave (Ok bs)) held ≡ End.gave (Ok bytes) → held ≡ Some bytes
held_is name bytes None is = cc is
held_is name bytes (Some bs) is = let e : bs ≡ bytes = cc is in ap (λ (b : List ℕ). Some b) e

-- a plan that is not refused
plan_good : (given : Result PlanParts FileFault) (plan : PlanParts) → good_plan given ≡ Ok plan
    → (given ≡ Ok plan) × (has_cycle (graph_of_plan plan) ≡ false)
plan_good (Err fault) plan is = cc is
plan_good (Ok found) plan is =
    let g = graph_of_plan found in
    let refuse : Result PlanParts Refusal = Err (refusal.Pattern found (witness_cycle g)) in
    elim (cases_Bool (has_cycle g)) [
      | inl some ↦ let no : refuse ≡ Ok plan = sym (cond-true (has_cycle g) refuse (Ok found) some) ∙ is in cc no
      | inr none ↦
          let kept : Result PlanParts Refusal = Ok found in
          let yes : kept ≡ Ok plan = sym (cond-false (has_cycle g) refuse kept none) ∙ is in
          let e : found ≡ plan = cc yes in
          (ap (λ (p : PlanParts). Ok p) e, ap (λ p. has_cycle (graph_of_plan p)) (sym e) ∙ none)
    ]

history_good : (given : Result History JournalFault) (history : History) → good_history given ≡ Ok history → given ≡ Ok history
history_good (Err fault) history is = cc is
history_good (Ok found) history is = let e : found ≡ history = cc is in ap (λ (h : History). Ok h) e

-- a call that prints a text was given it
due_is_given : (end : End (List ℕ)) (text : List ℕ) → Prints (outcome_at end) text → end ≡ End.gave (Ok text)
due_is_given (End.gave (Ok found)) text is = let e : found ≡ text = ap (λ (due : Outcome). due.text) is in ap (λ (x : List ℕ). End.gave (Ok x)) e
due_is_given (End.gave (Err (refusal.TaskFile fault))) text is = absurd (not_done (ap (λ (due : Outcome). due.status) is))
  where
    not_done : status.TaskRefused ≡ status.Done → ⊥
    not_done is = cc is
due_is_given (End.gave (Err (refusal.Pattern plan cycle))) text is = absurd (not_done (ap (λ (due : Outcome). due.status) is))
  where
    not_done : status.PatternRefused ≡ status.Done → ⊥
    not_done is = cc is
due_is_given (End.gave (Err (refusal.Journal fault))) text is = absurd (not_done (ap (λ (due : Outcome). due.status) is))
  where
    not_done : status.JournalRefused ≡ status.Done → ⊥
    not_done is = cc is
due_is_given (End.unread word) text is = absurd (not_done (ap (λ (due : Outcome). due.status) is))
  where
    not_done : status.ReadFault ≡ status.Done → ⊥
    not_done is = cc is

-- what a replay that prints this text has read
record HasRead (files : Files) (file journal text : List ℕ) : Type 0 where
  plan : PlanParts
  history : History
  given : AreGiven files file journal plan history
  good : has_cycle (graph_of_plan plan) ≡ false
  plan_end : end_over files (plan_at file) ≡ End.gave (Ok plan)
  history_end : end_over files (history_at plan journal) ≡ End.gave (Ok history)
  text_is : replay_text plan (recovery_of_plan plan) history ≡ text

has_read : (files : Files) (file journal text : List ℕ) → end_over files (replay_of file journal) ≡ End.gave (Ok text)
    → HasRead files file journal text
has_read files file journal text is =
    let first = gave_in_turn files (λ plan. history_at plan journal >>= λ history. shown (replay_text plan (recovery_of_plan plan) history)) text (plan_at file) is in
    let plan = first.found in
    let second = gave_in_turn files (λ history. shown (replay_text plan (recovery_of_plan plan) history)) text (history_at plan journal) first.next_gave in
    let file_read = gave_in_turn files (λ bytes. Reading.gives (good_plan (task_file_result bytes))) plan (file_at file) first.first_gave in
    let journal_read = gave_in_turn files (λ bytes. Reading.gives (good_history (journal_result plan bytes))) second.found (file_at journal) second.first_gave in
    let good : good_plan (task_file_result file_read.found) ≡ Ok plan = cc file_read.next_gave in
    let told : good_history (journal_result plan journal_read.found) ≡ Ok second.found = cc journal_read.next_gave in
    let plan_is = plan_good (task_file_result file_read.found) plan good in
    record {
      plan = plan;
      history = second.found;
      given = record {
        file_bytes = file_read.found;
        file_held = held_is file file_read.found (files file) file_read.first_gave;
        plan_given = plan_is.0;
        journal_bytes = journal_read.found;
        journal_held = held_is journal journal_read.found (files journal) journal_read.first_gave;
        history_given = history_good (journal_result plan journal_read.found) second.found told;
      };
      good = plan_is.1;
      plan_end = first.first_gave;
      history_end = second.first_gave;
      text_is = cc second.next_gave;
    }

-- `ideal` then prints its text
prints_ideal : (files : Files) (file journal : List ℕ) (plan : PlanParts) (history : History)
    → end_over files (plan_at file) ≡ End.gave (Ok plan) → end_over files (history_at plan journal) ≡ End.gave (Ok history)
    → PrintsIdeal files file journal (ideal_text plan (sensors_of_history history))
prints_ideal files file journal plan history plan_end history_end =
    ap outcome_at
    (go_on files (λ plan. history_at plan journal >>= λ history. shown (ideal_text plan (sensors_of_history history))) plan (plan_at file) plan_end
    ∙ go_on files (λ history. shown (ideal_text plan (sensors_of_history history))) history (history_at plan journal) history_end)

-- so the call prints what is due for a replay
replay_prints : (files : Files) (file journal text : List ℕ) → PrintsReplay files file journal text
    → Prints (outcome_at (end_over files (replay_of file journal))) text
replay_prints files file journal text is = sym (replay_due files file journal is.0 is.1) ∙ is.2

pub headline : ReplicasRecover → HistoriesGoByFrames → AcceptedFilesArePlans → ReplaysAreIdealUnderTheGuard
headline recover by_frames accepted files file journal replayed is =
    let read = has_read files file journal replayed (due_is_given (end_over files (replay_of file journal)) replayed (replay_prints files file journal replayed is)) in
    let plan = read.plan in
    let history = read.history in
    let recovery = recovery_of_plan plan in
    let right = recovery_is_right (graph_of_plan plan) read.good in
    let rules = accepted read.given.file_bytes plan read.given.plan_given in
    let ideal = ideal_text plan (sensors_of_history history) in
    record {
      plan = plan;
      history = history;
      given = read.given;
      ideal = ideal;
      prints = prints_ideal files file journal plan history read.plan_end read.history_end;
      frames = λ t lt guard.
          let frame = ideal_frame recover by_frames plan recovery history t rules right.least.some right.least.none lt guard in
          let P : List ℕ → Type 0 = λ text. IsIdealFrame plan recovery history text ideal t in
          let frame_is = subst P read.text_is frame in
          record { votes = frame_is.votes; replicas = frame_is.replicas };
    }

-- what stands in a front stands in the whole
in_front : {X : Type 0} (front more : List X) (k : ℕ) (x : X) → slice_get front k ≡ Some x → slice_get (front ++ more) k ≡ slice_get front k
in_front [] more k x is = cc is
in_front (y ∷ front) more zero x is = refl
in_front (y ∷ front) more (suc k) x is = in_front front more k x is

-- a front of a text that is ideal is ideal so far
so_far : (written rest : List ℕ) (plan : PlanParts) (history : History) (ideal : List ℕ) (t : ℕ)
    → IsIdealAt (written ++ rest) plan history ideal t → IsIdealSoFarAt written plan history ideal t
so_far written rest plan history ideal t whole =
    let votes = cut_front (codes "vote ") t written rest in
    let lines = cut_front (codes "replica ") t written rest in
    record {
      more = votes.more;
      votes = sym whole.votes ∙ votes.front;
      replicas = λ replica line below works there.
          let holds = whole.replicas replica below works in
          record {
            state = holds.state;
            single = holds.single;
            held =
                sym (in_front (lines_of_frame (codes "replica ") t written) lines.more replica line there)
                ∙ ap (λ ls. slice_get ls replica) (sym lines.front) ∙ holds.held;
          };
    }

pub cut_headline : ReplaysAreIdealUnderTheGuard → CutReplaysAreIdealUnderTheGuard
cut_headline whole files file journal written rest is =
    let holds = whole files file journal (written ++ rest) is in
    record {
      plan = holds.plan;
      history = holds.history;
      given = holds.given;
      ideal = holds.ideal;
      prints = holds.prints;
      frames = λ t lt guard. so_far written rest holds.plan holds.history holds.ideal t (holds.frames t lt guard);
    }
