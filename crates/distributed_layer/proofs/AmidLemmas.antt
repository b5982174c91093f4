-- A layer amid a frame: what its replicas show, and which letters are out.
use Rattle.std.proofs.Math.Path.{fun_ext}
use Rattle.std.proofs.Math.ListN.{get_or-map}
use Rattle.std.proofs.Common.{◌≡◌, ℕ, suc, ◌<◌, ◌≤◌, ◌⊎◌, inl, inr, nat_lt, Bool, true, false, not, ◌&&◌, ◌==◌, List, [], map, get_or, Option, None, Vec, refl, sym, ap, ◌∙◌, arith}
use Rattle.std.proofs.lemmas.Bool.{cases_Bool, cases_lt, cond-false, cond-true, le-ltb}
use Rattle.std.proofs.lemmas.List.{get_or_past}
use Rattle.std.specs.Global.{Global}
use Rattle.rcp_base.proofs.TableLaws.{get_or-table, length-table}
use Rattle.rcp_base.specs.Message.{Content}
use Rattle.rcp_base.specs.Tables.{table}
use Rattle.rcp_model.specs.declared.plan.PlanParts.{PlanParts}
use Rattle.rcp_model.specs.FrameLimits.{IsFrameOf}
use Rattle.rcp_model.specs.FrameRows.{FrameRows, is_down, is_dropped}
use Rattle.rcp_model.specs.Messages.{Letter, goes_out, is_up, letter_to}
use Rattle.rcp_model.specs.System.{SystemState, end_of_frame, fresh_letter, still_on_its_way}
use Rattle.frame_table.specs.Plan.{IsOf}
use Rattle.frame_table.specs.declared.table.Table.{Table}
use Rattle.phase_machine.specs.Phase.{AllRest}
use Rattle.phase_machine.specs.declared.phase.Phase.{Phase}
use Rattle.phase_machine.specs.Laws.{RestingReplicasWait}
use Rattle.phase_machine.specs.Seats.{Computed, Decided, Seat, Stage, Told, begun_seat, own_now, sent_seat, voted_seat, waiting_seat}
use Rattle.replica_parts.specs.declared.post.Post.{Post}
use Rattle.replica_parts.specs.Places.{letter_rows, post_at}
use Rattle.replica_parts.specs.States.{no_content}
use Rattle.distributed_layer.specs.declared.distributed.Distributed.{Distributed}
use Rattle.distributed_layer.specs.inner.Amid.{AreUpAt, IsAmid, ShowSeats}
use Rattle.distributed_layer.specs.State.{IsAt, IsLayerOf}
use Rattle.distributed_layer.specs.Together.{all_up, begun_together, filled_together, letters_together, state_together}
use Rattle.distributed_layer.proofs.TogetherLemmas.{letters_are, said}

-- what a layer shows amid a frame
pub amid_shows : (layer : Distributed) (plan : PlanParts) (state : SystemState) (rows : FrameRows)
    (fresh : ℕ → ℕ → Option Letter) (seats : ℕ → Seat) → IsAmid layer plan state rows fresh seats
    → ShowSeats plan layer.setting rows layer.phases.items seats
amid_shows layer plan state rows fresh seats h = record {
  of_plan = h.of_plan.setting;
  frame = h.frame;
  size = h.of_plan.phases;
  show = h.replicas;
}

-- another step of its replicas, and the code as it was
pub amid_after : (layer : Distributed) (table : Table) (phases : Vec Phase Global)
    (plan : PlanParts) (state : SystemState) (rows : FrameRows) (fresh : ℕ → ℕ → Option Letter)
    (before after : ℕ → Seat) → IsAmid layer plan state rows fresh before → IsOf plan table
    → ShowSeats plan layer.setting rows phases.items after
    → IsAmid (record layer { table = table; phases = phases }) plan state rows fresh after
amid_after layer table phases plan state rows fresh before after h code shows = record {
  of_plan = record {
    setting = h.of_plan.setting;
    votes = h.of_plan.votes;
    code = code;
    phases = shows.size;
    letters = h.of_plan.letters;
    own = h.of_plan.own;
    fresh = h.of_plan.fresh;
  };
  frame = h.frame;
  limit = h.limit;
  done = h.done;
  late_letters = h.late_letters;
  fresh_letters = h.fresh_letters;
  replicas = shows.show;
}

-- before the frame each replica waits
abbrev pub waiting : SystemState → (ℕ → ℕ → Option Content) → ℕ → Seat
waiting state boxes replica = waiting_seat state replica (boxes replica)

pub waits : RestingReplicasWait → (layer : Distributed) (plan : PlanParts) (state : SystemState)
    (rows : FrameRows) (at : IsAt layer plan state) → IsFrameOf plan rows
    → ShowSeats plan layer.setting rows layer.phases.items (waiting state at.replicas.0)
waits law layer plan state rows at frame = record {
  of_plan = at.of_plan.setting;
  frame = frame;
  size = at.of_plan.phases;
  show = law plan rows layer.phases.items state at.replicas.0 at.replicas.1;
}

-- those that are up come to a stage by a step that leads to it
pub stage_after : (plan : PlanParts) (rows : FrameRows) (step : ℕ → Seat → Seat)
    (seats : ℕ → Seat) (stage : Stage) → ((q : ℕ) → (step q (seats q)).stage ≡ stage)
    → AreUpAt plan rows stage (all_up plan rows step seats)
stage_after plan rows step seats stage h q up =
    ap (λ (seat : Seat). seat.stage) (cond-true _ _ _ up) ∙ h q

module _ (plan : PlanParts) (state : SystemState) (rows : FrameRows)
    (boxes : ℕ → ℕ → Option Content) where
  pub have_computed : AreUpAt plan rows Computed (begun_together plan state rows boxes)
  have_computed =
      stage_after plan rows (λ replica. begun_seat plan rows) (waiting state boxes) Computed
      (λ q. refl)

  pub have_told : AreUpAt plan rows Told (filled_together plan state rows boxes)
  have_told =
      stage_after plan rows (λ replica. sent_seat plan) (begun_together plan state rows boxes)
      Told (λ q. refl)

  pub have_decided : AreUpAt plan rows Decided
      (all_up plan rows (voted_seat plan) (filled_together plan state rows boxes))
  have_decided =
      stage_after plan rows (voted_seat plan) (filled_together plan state rows boxes) Decided
      (λ q. refl)

-- a message to or from a number that no replica has does not go out
module _ (plan : PlanParts) (rows : FrameRows) (p q : ℕ) where
  abbrev out : Bool → Bool → Bool
  out up there = up && there && not (p == q) && not (is_dropped rows p q)

  pub no_receiver : plan.replicas ≤ q → goes_out plan rows p q ≡ false
  unfolding goes_out
  no_receiver le = ap (out (is_up plan rows p)) (le-ltb q plan.replicas le) ∙ go (is_up plan rows p)
    where
      go : (up : Bool) → out up false ≡ false
      go true = refl
      go false = refl

  pub no_sender : is_up plan rows p ≡ false → goes_out plan rows p q ≡ false
  unfolding goes_out
  no_sender down = ap (λ up. out up (nat_lt q plan.replicas)) down

  pub none_out : (frame : ℕ) (own : Content) → goes_out plan rows p q ≡ false
      → letter_to plan frame rows own p q ≡ None
  unfolding letter_to
  none_out frame own e = cond-false _ _ _ e

-- the letters of rows that are a table, where none stands past it
pub post_table : (posts : List (Vec Post Global)) (n : ℕ) (written f : ℕ → ℕ → Option Letter)
    → letter_rows posts ≡ table n (λ q. table n (written q))
    → ((q p : ℕ) → p < n → written q p ≡ f q p)
    → ((q p : ℕ) → n ≤ q → f q p ≡ None) → ((q p : ℕ) → n ≤ p → f q p ≡ None)
    → post_at posts ≡ f
post_table posts n written f e same no_row no_place =
    fun_ext (λ q. fun_ext (λ p.
    ap (λ (xs : List (List (Option Letter))). get_or (get_or xs q []) p None) e
    ∙ at_row q p (cases_lt q n)))
  where
    here : ℕ → ℕ → Option Letter
    here q p = get_or (get_or (table n (λ r. table n (written r))) q []) p None

    at_place : (q p : ℕ) → (p < n) ⊎ (n ≤ p) → get_or (table n (written q)) p None ≡ f q p
    at_place q p (inl lt) = get_or-table n (written q) p None lt ∙ same q p lt
    at_place q p (inr le) =
        get_or_past (table n (written q)) p None (omega (arith, le, length-table n (written q)))
        ∙ sym (no_place q p le)

    at_row : (q p : ℕ) → (q < n) ⊎ (n ≤ q)
        → get_or (get_or (table n (λ r. table n (written r))) q []) p None ≡ f q p
    at_row q p (inl lt) =
        ap (λ (xs : List (Option Letter)). get_or xs p None)
        (get_or-table n (λ r. table n (written r)) q [] lt)
        ∙ at_place q p (cases_lt p n)
    at_row q p (inr le) =
        ap (λ (xs : List (Option Letter)). get_or xs p None)
        (get_or_past (table n (λ r. table n (written r))) q []
        (omega (arith, le, length-table n (λ r. table n (written r)))))
        ∙ sym (no_row q p le)

-- what is written of the messages of those that are up are the letters of the frame
pub written_letters : (plan : PlanParts) (state : SystemState) (rows : FrameRows)
    (boxes : ℕ → ℕ → Option Content) (posts : List (Vec Post Global)) (own : List Content)
    → ((p : ℕ) → is_up plan rows p ≡ true
    → get_or own p no_content ≡ own_now plan (begun_together plan state rows boxes p))
    → letter_rows posts ≡ table plan.replicas (λ q. table plan.replicas (λ p.
    letter_to plan state.done rows (get_or own p no_content) p q))
    → post_at posts ≡ letters_together plan state rows boxes
unfolding fresh_letter
written_letters plan state rows boxes posts own says e =
    post_table posts plan.replicas
    (λ q p. letter_to plan state.done rows (get_or own p no_content) p q)
    (fresh_letter plan state rows) e
    (λ q p lt. go q p (cases_Bool (is_up plan rows p)))
    (λ q p le. none_out plan rows p q state.done _ (no_receiver plan rows p q le))
    (λ q p le. none_out plan rows p q state.done _ (no_sender plan rows p q
    (ap (λ there. there && not (is_down rows p)) (le-ltb p plan.replicas le))))
    ∙ fun_ext (λ q. fun_ext (λ p. sym (letters_are plan state rows boxes q p)))
  where
    go : (q p : ℕ) → (is_up plan rows p ≡ true) ⊎ (is_up plan rows p ≡ false)
        → letter_to plan state.done rows (get_or own p no_content) p q
        ≡ letter_to plan state.done rows (said plan state rows boxes p) p q
    go q p (inl up) =
        ap (λ (m : Content). letter_to plan state.done rows m p q)
        (says p up ∙ ap (own_now plan) (cond-true _ _ _ up))
    go q p (inr down) =
        none_out plan rows p q state.done _ (no_sender plan rows p q down)
        ∙ sym (none_out plan rows p q state.done _ (no_sender plan rows p q down))

-- the letters of rows of which those are left that are still on their way
pub kept_letters : (plan : PlanParts) (frame : ℕ) (old new : List (Vec Post Global))
    → letter_rows new ≡ map (map (still_on_its_way plan frame)) (letter_rows old)
    → post_at new ≡ (λ q p. still_on_its_way plan frame (post_at old q p))
unfolding still_on_its_way
kept_letters plan frame old new e =
    fun_ext (λ q. fun_ext (λ p.
    ap (λ (xs : List (List (Option Letter))). get_or (get_or xs q []) p None) e
    ∙ ap (λ (xs : List (Option Letter)). get_or xs p None)
    (get_or-map (map (still_on_its_way plan frame)) (letter_rows old) q [])
    ∙ get_or-map (still_on_its_way plan frame) (get_or (letter_rows old) q []) p None))

-- where one more frame is done, and the letters that are kept are those still on their way
pub at_end : (layer : Distributed) (plan : PlanParts) (state : SystemState) (rows : FrameRows)
    (boxes after : ℕ → ℕ → Option Content) → IsLayerOf plan layer → layer.done ≡ suc state.done
    → AllRest plan layer.phases.items (state_together plan state rows boxes) after
    → post_at layer.letters.items
    ≡ (λ q p. still_on_its_way plan state.done (letters_together plan state rows boxes q p))
    → IsAt layer plan (state_together plan state rows boxes)
unfolding end_of_frame
at_end layer plan state rows boxes after of_plan done rest letters = record {
  of_plan = of_plan;
  done = done;
  replicas = (after, rest);
  letters = letters;
}
