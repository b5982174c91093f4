-- The texts of `ideal` and `replay` as their lines, and which of them are those of a frame.
use Rattle.std.proofs.Common.{◌≡◌, ℕ, zero, suc, ◌+◌, ◌<◌, Bool, true, false, cond, List, [], ◌∷◌, ◌++◌, length, map, flat_map, codes, get_or, slice_get, take, drop, reverse, Some, refl, sym, ap, ◌∙◌, append_assoc, append-nil, arith}
use Rattle.std.specs.Prelude.{⊤, pos}
use Rattle.std.specs.List.{range_with_len, list_all}
use Rattle.std.proofs.lemmas.List.{reverse-append, length-take-le, drop_more, take-append-drop}
use Rattle.rcp_base.specs.Name.{is_name}
use Rattle.rcp_model.specs.declared.plan.ActuatorRow.{ActuatorRow}
use Rattle.rcp_model.specs.declared.plan.PlanParts.{PlanParts}
use Rattle.rcp_model.specs.FrameRows.{FrameRows, quiet_rows}
use Rattle.rcp_model.specs.History.{History, past_of, sensors_of}
use Rattle.rcp_model.specs.AtFrame.{rows_at}
use Rattle.rcp_model.specs.Plan.{actuator_names}
use Rattle.rcp_model.specs.Slot.{no_actuator}
use Rattle.rcp_model.specs.Uniprocessor.{ideal_slot, ideal_cells, ideal_command}
use Rattle.trace_text.specs.declared.label.Label.TheVariants as label
use Rattle.trace_text.specs.Lines.{count_line, frame_line, frame_guard_line, vote_line, ideal_line}
use Rattle.rcp_top.specs.Ideal.{frame_text, frames_text, ideal_text, sensors_of_history}
use Rattle.rcp_top.specs.Printed.{frame_lines, lines_with, lines_in, begins_with, is_frame_line, lines_after, lines_of_frame}
use Rattle.rcp_top.specs.Frames.{texts_from}
use Rattle.rcp_top.specs.Replay.{meets_guard, voted_line, held_line, voted_lines, held_lines, replay_frame_text, replay_text}
use Rattle.rcp_top.proofs.LineShapes.{both_true, free_name, frame_is_line, frame_guard_is_line, vote_is_line, ideal_is_line, replica_is_line, recovery_is_line, end_is_line, frame_begins, frame_guard_begins, vote_is_no_frame, replica_is_no_frame, ideal_is_no_frame}
use Rattle.rcp_top.proofs.PrintedLemmas.{HasNoFeed, IsLine, AreLines, HasNoFrame, joined, joined_more, lines_joined, joined_lines, no_frame_joined, passed_over, taken_here}

-- these frames and those past, the newest first
abbrev pub newest_first : List FrameRows → History → List FrameRows
newest_first past [] = past
newest_first past (rows ∷ frames) = newest_first (rows ∷ past) frames

newest_is_reverse : (past : List FrameRows) (frames : History) → newest_first past frames ≡ reverse frames ++ past
newest_is_reverse past [] = refl
newest_is_reverse past (rows ∷ frames) =
    newest_is_reverse (rows ∷ past) frames
    ∙ sym (append_assoc (reverse frames) (rows ∷ []) past)
    ∙ ap (λ xs. xs ++ past) (sym (reverse-append (rows ∷ []) frames))

newest_of : (frames : History) → newest_first [] frames ≡ reverse frames
newest_of frames = newest_is_reverse [] frames ∙ append-nil (reverse frames)

-- the lines of frames, each by its rows and the frames past: the first, and those behind it
abbrev pub frames_lines : (FrameRows → List FrameRows → List ℕ) → (FrameRows → List FrameRows → List (List ℕ))
    → List FrameRows → History → List (List ℕ)
frames_lines first rest past [] = []
frames_lines first rest past (rows ∷ frames) =
    first rows past ∷ (rest rows past ++ frames_lines first rest (rows ∷ past) frames)

-- of each frame the first line begins it, and no other does; all are lines
pub record AreFrameLines (first : FrameRows → List FrameRows → List ℕ) (rest : FrameRows → List FrameRows → List (List ℕ)) : Type 0 where
  pub begin : (rows : FrameRows) (past : List FrameRows) → is_frame_line (first rows past) ≡ true
  pub begun : (rows : FrameRows) (past : List FrameRows) → HasNoFrame (rest rows past)
  pub first_is : (rows : FrameRows) (past : List FrameRows) → IsLine (first rows past)
  pub rest_are : (rows : FrameRows) (past : List FrameRows) → AreLines (rest rows past)

module _ (first : FrameRows → List FrameRows → List ℕ) (rest : FrameRows → List FrameRows → List (List ℕ)) (are : AreFrameLines first rest) where
  pub all_are_lines : (past : List FrameRows) (frames : History) → AreLines (frames_lines first rest past frames)
  all_are_lines past [] = tt
  all_are_lines past (rows ∷ frames) = (
    are.first_is rows past,
    lines_joined (rest rows past) (frames_lines first rest (rows ∷ past) frames) (are.rest_are rows past) (all_are_lines (rows ∷ past) frames),
  )

  module _ (word : List ℕ) (tail : List (List ℕ)) (ends : lines_after word zero tail ≡ []) where
    -- behind a frame's lines the next frame or the end follows
    none_after : (past : List FrameRows) (later : History) → lines_after word zero (frames_lines first rest past later ++ tail) ≡ []
    none_after past [] = ends
    none_after past (rows ∷ later) =
        let more : List (List ℕ) = lines_after word zero ((rest rows past ++ frames_lines first rest (rows ∷ past) later) ++ tail) in
        ap (λ (t : Bool). cond t [] (cond (begins_with word (first rows past)) (first rows past ∷ more) more)) (are.begin rows past)

    -- the lines of a frame are those of its rows and of the frames before it
    pub at_frame : (past : List FrameRows) (earlier : History) (rows : FrameRows) (later : History)
        → lines_after word (suc (length earlier)) (frames_lines first rest past (earlier ++ rows ∷ later) ++ tail)
        ≡ lines_with word (rest rows (newest_first past earlier))
    at_frame past [] rows later =
        let behind = frames_lines first rest (rows ∷ past) later in
        let all : List (List ℕ) = (rest rows past ++ behind) ++ tail in
        ap (λ (t : Bool). cond t (lines_after word zero all) (lines_after word (suc zero) all)) (are.begin rows past)
        ∙ ap (lines_after word zero) (append_assoc (rest rows past) behind tail)
        ∙ taken_here word (rest rows past) (behind ++ tail) (are.begun rows past)
        ∙ ap (λ ls. lines_with word (rest rows past) ++ ls) (none_after (rows ∷ past) later)
        ∙ append-nil (lines_with word (rest rows past))
    at_frame past (e ∷ earlier) rows later =
        let behind = frames_lines first rest (e ∷ past) (earlier ++ rows ∷ later) in
        let all : List (List ℕ) = (rest e past ++ behind) ++ tail in
        let n : ℕ = suc (length earlier) in
        ap (λ (t : Bool). cond t (lines_after word n all) (lines_after word (suc n) all)) (are.begin e past)
        ∙ ap (lines_after word n) (append_assoc (rest e past) behind tail)
        ∙ passed_over word (length earlier) (rest e past) (behind ++ tail) (are.begun e past)
        ∙ at_frame (e ∷ past) earlier rows later

-- no line of a frame but the first begins one
no_heads : (lines more : List (List ℕ)) → HasNoFrame lines → lines_with (codes "frame ") (lines ++ more) ≡ lines_with (codes "frame ") more
no_heads [] more none = refl
no_heads (line ∷ lines) more none =
    let all = lines_with (codes "frame ") (lines ++ more) in
    ap (λ (t : Bool). cond t (line ∷ all) all) none.0 ∙ no_heads lines more none.1

module _ (first : FrameRows → List FrameRows → List ℕ) (rest : FrameRows → List FrameRows → List (List ℕ)) (are : AreFrameLines first rest) (tail : List (List ℕ)) where
  -- the line that begins a frame is that of its rows and of the frames before it
  head_at : (past : List FrameRows) (earlier : History) (rows : FrameRows) (later : History)
      → slice_get (lines_with (codes "frame ") (frames_lines first rest past (earlier ++ rows ∷ later) ++ tail)) (length earlier)
      ≡ Some (first rows (newest_first past earlier))
  head_at past [] rows later =
      let all = lines_with (codes "frame ") ((rest rows past ++ frames_lines first rest (rows ∷ past) later) ++ tail) in
      ap (λ (t : Bool). slice_get (cond t (first rows past ∷ all) all) 0) (are.begin rows past)
  head_at past (e ∷ earlier) rows later =
      let behind = frames_lines first rest (e ∷ past) (earlier ++ rows ∷ later) in
      let all = lines_with (codes "frame ") ((rest e past ++ behind) ++ tail) in
      let n : ℕ = length earlier in
      ap (λ (t : Bool). slice_get (cond t (first e past ∷ all) all) (suc n)) (are.begin e past)
      ∙ ap (λ ls. slice_get (lines_with (codes "frame ") ls) n) (append_assoc (rest e past) behind tail)
      ∙ ap (λ ls. slice_get ls n) (no_heads (rest e past) (behind ++ tail) (are.begun e past))
      ∙ head_at (e ∷ past) earlier rows later

-- lines that a function gives
pub flat_is_joined : {X : Type 0} (line : X → List ℕ) (xs : List X) → flat_map line xs ≡ joined (map line xs)
flat_is_joined line [] = refl
flat_is_joined line (x ∷ xs) = ap (λ ls. line x ++ ls) (flat_is_joined line xs)

pub mapped_lines : {X : Type 0} (line : X → List ℕ) (xs : List X) → ((x : X) → IsLine (line x)) → AreLines (map line xs)
mapped_lines line [] are = tt
mapped_lines line (x ∷ xs) are = (are x, mapped_lines line xs are)

pub mapped_frames : {X : Type 0} (line : X → List ℕ) (xs : List X) → ((x : X) → is_frame_line (line x) ≡ false) → HasNoFrame (map line xs)
mapped_frames line [] are = tt
mapped_frames line (x ∷ xs) are = (are x, mapped_frames line xs are)

-- the names of actuators have no line feed
abbrev pub AreNamed : List ActuatorRow → Type 0
AreNamed [] = ⊤
AreNamed (actuator ∷ actuators) = HasNoFeed actuator.name × AreNamed actuators

pub are_named : (actuators : List ActuatorRow) → list_all is_name (actuator_names actuators) ≡ true → AreNamed actuators
are_named [] is = tt
are_named (actuator ∷ actuators) is =
    let two = both_true (is_name actuator.name) (list_all is_name (actuator_names actuators)) is in
    (free_name actuator.name two.0, are_named actuators two.1)

named_at : (actuators : List ActuatorRow) → AreNamed actuators → (k : ℕ) → HasNoFeed (get_or actuators k no_actuator).name
named_at [] are k = tt
named_at (actuator ∷ actuators) are zero = are.0
named_at (actuator ∷ actuators) are (suc k) = named_at actuators are.1 k

-- the lines of a frame of `ideal`
abbrev pub ideal_vote : PlanParts → FrameRows → List FrameRows → ActuatorRow → List ℕ
ideal_vote plan rows past actuator = vote_line actuator.name (Some (ideal_command plan actuator rows.sensors (sensors_of past)))

abbrev pub ideal_held : PlanParts → FrameRows → List FrameRows → List ℕ
ideal_held plan rows past = ideal_line (ideal_slot plan (sensors_of (rows ∷ past))) (ideal_cells plan (sensors_of (rows ∷ past)))

abbrev ideal_first : FrameRows → List FrameRows → List ℕ
ideal_first rows past = frame_line (length (sensors_of past))

abbrev pub ideal_rest : PlanParts → FrameRows → List FrameRows → List (List ℕ)
ideal_rest plan rows past = map (ideal_vote plan rows past) plan.actuators ++ ideal_held plan rows past ∷ []

ideal_vote_lines : (plan : PlanParts) (rows : FrameRows) (past : List FrameRows) (actuators : List ActuatorRow) → AreNamed actuators
    → AreLines (map (ideal_vote plan rows past) actuators)
ideal_vote_lines plan rows past [] named = tt
ideal_vote_lines plan rows past (a ∷ others) named = (vote_is_line a.name _ named.0, ideal_vote_lines plan rows past others named.1)

ideal_frames : (plan : PlanParts) → AreNamed plan.actuators → AreFrameLines ideal_first (ideal_rest plan)
ideal_frames plan named = record {
  begin = λ rows past. frame_begins _;
  begun = λ rows past.
      no_frame_joined (map (ideal_vote plan rows past) plan.actuators) _
      (mapped_frames (ideal_vote plan rows past) plan.actuators (λ a. vote_is_no_frame a.name _)) (ideal_is_no_frame _ _, tt);
  first_is = λ rows past. frame_is_line _;
  rest_are = λ rows past.
      lines_joined (map (ideal_vote plan rows past) plan.actuators) _
      (ideal_vote_lines plan rows past plan.actuators named) (ideal_is_line _ _, tt);
}

ideal_text_lines : (plan : PlanParts) (past : List FrameRows) (frames : History)
    → frames_text plan (sensors_of past) (sensors_of_history frames) ≡ joined (frames_lines ideal_first (ideal_rest plan) past frames)
unfolding frames_text frame_text
ideal_text_lines plan past [] = refl
ideal_text_lines plan past (rows ∷ frames) =
    let first = ideal_first rows past in
    let votes = map (ideal_vote plan rows past) plan.actuators in
    let held = ideal_held plan rows past in
    let body : List ℕ = flat_map (ideal_vote plan rows past) plan.actuators ++ held in
    let more = frames_lines ideal_first (ideal_rest plan) (rows ∷ past) frames in
    let body_is : body ≡ joined (ideal_rest plan rows past) =
    ap (λ vs. vs ++ held) (flat_is_joined (ideal_vote plan rows past) plan.actuators)
    ∙ ap (λ l. joined votes ++ l) (sym (append-nil held))
    ∙ sym (joined_more votes (held ∷ [])) in
    append_assoc first body (frames_text plan (sensors_of (rows ∷ past)) (sensors_of_history frames))
    ∙ ap (λ ls. first ++ (body ++ ls)) (ideal_text_lines plan (rows ∷ past) frames)
    ∙ ap (λ ls. first ++ (ls ++ joined more)) body_is
    ∙ ap (λ ls. first ++ ls) (sym (joined_more (ideal_rest plan rows past) more))

-- the lines of a frame of `replay`
abbrev pub replay_first : PlanParts → ℕ → FrameRows → List FrameRows → List ℕ
replay_first plan recovery rows past = frame_guard_line (length past) (meets_guard plan recovery (rows ∷ past))

abbrev pub actuator_numbers : PlanParts → List ℕ
actuator_numbers plan = range_with_len 0 (length plan.actuators)

abbrev pub replay_rest : PlanParts → ℕ → FrameRows → List FrameRows → List (List ℕ)
replay_rest plan recovery rows past =
    map (voted_line plan (rows ∷ past)) (actuator_numbers plan) ++ map (held_line plan recovery rows past) (range_with_len 0 plan.replicas)

replay_frames : (plan : PlanParts) (recovery : ℕ) → AreNamed plan.actuators → AreFrameLines (replay_first plan recovery) (replay_rest plan recovery)
replay_frames plan recovery named = record {
  begin = λ rows past. frame_guard_begins _ _;
  begun = λ rows past.
      no_frame_joined (map (voted_line plan (rows ∷ past)) (actuator_numbers plan)) _
      (mapped_frames (voted_line plan (rows ∷ past)) (actuator_numbers plan) (λ a. vote_is_no_frame _ _))
      (mapped_frames (held_line plan recovery rows past) (range_with_len 0 plan.replicas) (λ p. replica_is_no_frame p _ _ _ _));
  first_is = λ rows past. frame_guard_is_line _ _;
  rest_are = λ rows past.
      lines_joined (map (voted_line plan (rows ∷ past)) (actuator_numbers plan)) _
      (mapped_lines (voted_line plan (rows ∷ past)) (actuator_numbers plan) (λ a. vote_is_line _ _ (named_at plan.actuators named a)))
      (mapped_lines (held_line plan recovery rows past) (range_with_len 0 plan.replicas) (λ p. replica_is_line p _ _ _ _));
}

replay_text_lines : (plan : PlanParts) (recovery : ℕ) (past : List FrameRows) (frames : History)
    → texts_from (replay_frame_text plan recovery) past frames ≡ joined (frames_lines (replay_first plan recovery) (replay_rest plan recovery) past frames)
unfolding texts_from replay_frame_text
replay_text_lines plan recovery past [] = refl
replay_text_lines plan recovery past (rows ∷ frames) =
    let first = replay_first plan recovery rows past in
    let votes = map (voted_line plan (rows ∷ past)) (actuator_numbers plan) in
    let held = map (held_line plan recovery rows past) (range_with_len 0 plan.replicas) in
    let body : List ℕ = voted_lines plan (rows ∷ past) ++ held_lines plan recovery rows past in
    let more = frames_lines (replay_first plan recovery) (replay_rest plan recovery) (rows ∷ past) frames in
    let body_is : body ≡ joined (replay_rest plan recovery rows past) =
    ap (λ vs. vs ++ held_lines plan recovery rows past) (flat_is_joined (voted_line plan (rows ∷ past)) (actuator_numbers plan))
    ∙ ap (λ ls. joined votes ++ ls) (flat_is_joined (held_line plan recovery rows past) (range_with_len 0 plan.replicas))
    ∙ sym (joined_more votes held) in
    append_assoc first body (texts_from (replay_frame_text plan recovery) (rows ∷ past) frames)
    ∙ ap (λ ls. first ++ (body ++ ls)) (replay_text_lines plan recovery (rows ∷ past) frames)
    ∙ ap (λ ls. first ++ (ls ++ joined more)) body_is
    ∙ ap (λ ls. first ++ ls) (sym (joined_more (replay_rest plan recovery rows past) more))

-- the end is no line of a frame
pub record IsOfFrames (word : List ℕ) : Type 0 where
  pub recovery : (n : ℕ) → is_frame_line (count_line label.Recovery n) ≡ false
  pub end : (n : ℕ) → lines_after word zero (count_line label.End n ∷ []) ≡ []

pub votes_are_of_frames : IsOfFrames (codes "vote ")
unfolding count_line
votes_are_of_frames = record { recovery = λ n. refl; end = λ n. refl }

pub replicas_are_of_frames : IsOfFrames (codes "replica ")
unfolding count_line
replicas_are_of_frames = record { recovery = λ n. refl; end = λ n. refl }

pub ideals_are_of_frames : IsOfFrames (codes "ideal ")
unfolding count_line
ideals_are_of_frames = record { recovery = λ n. refl; end = λ n. refl }

-- lines and one more behind them
one_behind : (lines : List (List ℕ)) (line : List ℕ) → joined lines ++ line ≡ joined (lines ++ line ∷ [])
one_behind lines line = ap (λ l. joined lines ++ l) (sym (append-nil line)) ∙ sym (joined_more lines (line ∷ []))

module _ (plan : PlanParts) (named : AreNamed plan.actuators) where
  ideal_lines_in : (history : History)
      → lines_in (ideal_text plan (sensors_of_history history))
      ≡ frames_lines ideal_first (ideal_rest plan) [] history ++ count_line label.End (length (sensors_of_history history)) ∷ []
  unfolding ideal_text
  ideal_lines_in history =
      let end = count_line label.End (length (sensors_of_history history)) in
      let lines = frames_lines ideal_first (ideal_rest plan) [] history in
      ap (λ text. lines_in (text ++ end)) (ideal_text_lines plan [] history)
      ∙ ap lines_in (one_behind lines end)
      ∙ joined_lines (lines ++ end ∷ [])
      (lines_joined lines (end ∷ []) (all_are_lines ideal_first (ideal_rest plan) (ideal_frames plan named) [] history) (end_is_line _, tt))

  replay_lines_in : (recovery : ℕ) (history : History)
      → lines_in (replay_text plan recovery history)
      ≡ count_line label.Recovery recovery
      ∷ (frames_lines (replay_first plan recovery) (replay_rest plan recovery) [] history ++ count_line label.End (length history) ∷ [])
  unfolding replay_text
  replay_lines_in recovery history =
      let head = count_line label.Recovery recovery in
      let end = count_line label.End (length history) in
      let lines = frames_lines (replay_first plan recovery) (replay_rest plan recovery) [] history in
      let are = all_are_lines (replay_first plan recovery) (replay_rest plan recovery) (replay_frames plan recovery named) [] history in
      ap (λ text. lines_in (head ++ (text ++ end))) (replay_text_lines plan recovery [] history)
      ∙ ap (λ text. lines_in (head ++ text)) (one_behind lines end)
      ∙ joined_lines (head ∷ (lines ++ end ∷ [])) (recovery_is_line recovery, lines_joined lines (end ∷ []) are (end_is_line _, tt))

  module _ (word : List ℕ) (of_frames : IsOfFrames word) where
    pub ideal_split : (earlier : History) (rows : FrameRows) (later : History)
        → lines_of_frame word (length earlier) (ideal_text plan (sensors_of_history (earlier ++ rows ∷ later)))
        ≡ lines_with word (ideal_rest plan rows (newest_first [] earlier))
    ideal_split earlier rows later =
        ap (lines_after word (suc (length earlier))) (ideal_lines_in (earlier ++ rows ∷ later))
        ∙ at_frame ideal_first (ideal_rest plan) (ideal_frames plan named) word _ (of_frames.end _) [] earlier rows later

    pub replay_split : (recovery : ℕ) (earlier : History) (rows : FrameRows) (later : History)
        → lines_of_frame word (length earlier) (replay_text plan recovery (earlier ++ rows ∷ later))
        ≡ lines_with word (replay_rest plan recovery rows (newest_first [] earlier))
    replay_split recovery earlier rows later =
        let history : History = earlier ++ rows ∷ later in
        let lines : List (List ℕ) =
        frames_lines (replay_first plan recovery) (replay_rest plan recovery) [] history ++ count_line label.End (length history) ∷ [] in
        let n : ℕ = suc (length earlier) in
        ap (lines_after word n) (replay_lines_in recovery history)
        ∙ ap (λ (t : Bool). cond t (lines_after word (length earlier) lines) (lines_after word n lines)) (of_frames.recovery recovery)
        ∙ at_frame (replay_first plan recovery) (replay_rest plan recovery) (replay_frames plan recovery named) word _ (of_frames.end _) [] earlier rows later

  pub head_split : (recovery : ℕ) (earlier : History) (rows : FrameRows) (later : History)
      → slice_get (frame_lines (replay_text plan recovery (earlier ++ rows ∷ later))) (length earlier)
      ≡ Some (replay_first plan recovery rows (newest_first [] earlier))
  head_split recovery earlier rows later =
      let history : History = earlier ++ rows ∷ later in
      let lines : List (List ℕ) =
      frames_lines (replay_first plan recovery) (replay_rest plan recovery) [] history ++ count_line label.End (length history) ∷ [] in
      let all = lines_with (codes "frame ") lines in
      let n : ℕ = length earlier in
      ap (λ ls. slice_get (lines_with (codes "frame ") ls) n) (replay_lines_in recovery history)
      ∙ ap (λ (t : Bool). slice_get (cond t (count_line label.Recovery recovery ∷ all) all) n) (votes_are_of_frames.recovery recovery)
      ∙ head_at (replay_first plan recovery) (replay_rest plan recovery) (replay_frames plan recovery named) _ [] earlier rows later

-- a history from frame t on
split : (history : History) (t : ℕ) → t < length history → history ≡ take t history ++ rows_at history t ∷ drop (t + 1) history
split history t lt =
    sym (take-append-drop t history) ∙ ap (λ later. take t history ++ later) (drop_more history t (quiet_rows 0 0 0 (pos 0) []) lt)

-- what is so of the texts of histories at each split of frames is so at frame t
pub at_t : {Y : Type 0} (look : ℕ → List ℕ → Y) (texts : History → List ℕ) (of : FrameRows → List FrameRows → Y)
    → ((earlier : History) (rows : FrameRows) (later : History)
    → look (length earlier) (texts (earlier ++ rows ∷ later)) ≡ of rows (newest_first [] earlier))
    → (history : History) (t : ℕ) → t < length history → look t (texts history) ≡ of (rows_at history t) (past_of history t)
at_t look texts of each history t lt =
    let rows = rows_at history t in
    let many : length (take t history) ≡ t = length-take-le t history (omega arith) in
    ap (λ h. look t (texts h)) (split history t lt)
    ∙ ap (λ n. look n (texts (take t history ++ rows ∷ drop (t + 1) history))) (sym many)
    ∙ each (take t history) rows (drop (t + 1) history)
    ∙ ap (of rows) (newest_of (take t history))
