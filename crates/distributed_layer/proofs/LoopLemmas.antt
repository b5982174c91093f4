-- Loops in which replicas take a step one after the other.
use Rattle.std.proofs.Common.{◌≡◌, ◌≢◌, ◌⊎◌, ℕ, ◌+◌, ◌<◌, ◌≤◌, true, false, cond, not, ◌&&◌, nat_lt, List, length, get_or, inl, inr, sym, ap, ap₂, subst, ◌∙◌, arith}
use Rattle.std.proofs.Math.Bool.{and-false}
use Rattle.std.proofs.lemmas.Bool.{and_parts, cases_Bool, cases_eq, cond-false, cond-true, le-ltb, lt-ltb, ltb-false, ltb-true}
use Rattle.mailbox.proofs.PutLaws.{put_other, put_same}
use Rattle.mailbox.specs.Mailboxes.{put}
use Rattle.rcp_model.specs.declared.plan.PlanParts.{PlanParts}
use Rattle.rcp_model.specs.FrameRows.{FrameRows, is_down}
use Rattle.rcp_model.specs.Messages.{is_up}
use Rattle.phase_machine.specs.Phase.{AllShow, ShowsSeat}
use Rattle.phase_machine.specs.Seats.{Seat, Stage}
use Rattle.phase_machine.specs.declared.phase.Phase.{Phase}
use Rattle.phase_machine.specs.declared.phase.Phase.TheVariants.{Moving}
use Rattle.replica_parts.specs.declared.setting.Setting.{Setting}
use Rattle.distributed_layer.specs.inner.Amid.{AreUpAt, IsUpAt, ShowSeats}
use Rattle.distributed_layer.specs.Together.{all_up}

-- a table that is new at its first numbers
abbrev pub below : {A : Type 0} → ℕ → (ℕ → A) → (ℕ → A) → ℕ → A
below n new old k = cond (nat_lt k n) (new k) (old k)

module _ {A : Type 0} (n : ℕ) (new old : ℕ → A) where
  pub below_new : (k : ℕ) → k < n → below n new old k ≡ new k
  below_new k lt = cond-true _ _ _ (lt-ltb k n lt)

  pub below_old : (k : ℕ) → n ≤ k → below n new old k ≡ old k
  below_old k le = cond-false _ _ _ (le-ltb k n le)

-- one number more
pub below_more : {A : Type 0} (n : ℕ) (new old : ℕ → A) (k : ℕ)
    → put (below n new old) n (new n) k ≡ below (n + 1) new old k
below_more {A = A} n new old k = go (cases_eq k n)
  where
    go : (k ≡ n) ⊎ (k ≢ n) → put (below n new old) n (new n) k ≡ below (n + 1) new old k
    go (inl e) =
        subst (λ i. put (below n new old) n (new n) i ≡ below (n + 1) new old i) (sym e)
        (put_same (below n new old) n (new n) ∙ sym (below_new (n + 1) new old n (omega arith)))
    go (inr other) =
        put_other (below n new old) n (new n) k other
        ∙ ap (λ test. cond test (new k) (old k)) (elim (cases_Bool (nat_lt k n)) [
          | inl t ↦ t ∙ sym (lt-ltb k (n + 1) (omega (arith, ltb-true k n t)))
          | inr f ↦ f ∙ sym (le-ltb k (n + 1) (omega (arith, ltb-false k n f, other)))
        ])

-- what stands there, put there again, changes nothing
pub put_nothing : {A : Type 0} (values : ℕ → A) (place k : ℕ)
    → put values place (values place) k ≡ values k
put_nothing values place k = go (cases_eq k place)
  where
    go : (k ≡ place) ⊎ (k ≢ place) → put values place (values place) k ≡ values k
    go (inl e) =
        ap (put values place (values place)) e ∙ put_same values place (values place)
        ∙ ap values (sym e)
    go (inr other) = put_other values place (values place) k other

-- phases show what agrees with what they show
pub seats_agree : (plan : PlanParts) (setting : Setting) (rows : FrameRows) (phases : List Phase)
    (old new : ℕ → Seat) → ((k : ℕ) → k < plan.replicas → old k ≡ new k)
    → ShowSeats plan setting rows phases old → ShowSeats plan setting rows phases new
seats_agree plan setting rows phases old new same h = record {
  of_plan = h.of_plan;
  frame = h.frame;
  size = h.size;
  show = λ k lt.
      subst (ShowsSeat plan rows k (get_or phases k Moving))
      (same k (omega (arith, lt, h.size))) (h.show k lt);
}

-- phases that show other seats after a step are as many as before
pub shown_after : (plan : PlanParts) (setting : Setting) (rows : FrameRows)
    (old new : List Phase) (before now : ℕ → Seat) → ShowSeats plan setting rows old before
    → length new ≡ length old → AllShow plan rows new now → ShowSeats plan setting rows new now
shown_after plan setting rows old new before now h size show = record {
  of_plan = h.of_plan;
  frame = h.frame;
  size = size ∙ h.size;
  show = show;
}

module _ (plan : PlanParts) (rows : FrameRows) (n : ℕ) where
  -- a replica of the plan is up where no row takes it down
  pub up_is : n < plan.replicas → is_down rows n ≡ false → is_up plan rows n ≡ true
  up_is lt e = ap₂ (λ a b. a && not b) (lt-ltb n plan.replicas lt) e

  -- one that is up is a replica of the plan
  pub up_below : is_up plan rows n ≡ true → n < plan.replicas
  up_below up = ltb-true n plan.replicas (and_parts _ _ up).0

  -- and not where one does
  pub down_is : is_down rows n ≡ true → is_up plan rows n ≡ false
  down_is e =
      ap (λ b. nat_lt n plan.replicas && not b) e ∙ and-false (nat_lt n plan.replicas)

module _ (plan : PlanParts) (setting : Setting) (rows : FrameRows)
    (step : ℕ → Seat → Seat) (seats : ℕ → Seat) where
  abbrev after : ℕ → Seat
  after = all_up plan rows step seats

  module _ (n : ℕ) (old : List Phase) (before : ShowSeats plan setting rows old seats) where
    -- one replica is up and takes the step
    pub taken : (new : List Phase) → is_up plan rows n ≡ true → length new ≡ length old
        → AllShow plan rows new (put seats n (step n (seats n)))
        → ShowSeats plan setting rows new (put seats n (after n))
    taken new up size show =
        seats_agree plan setting rows new _ _
        (λ k _. ap (λ seat. put seats n seat k) (sym (cond-true _ _ _ up)))
        (shown_after plan setting rows old new seats _ before size show)

    -- one is down and does not
    pub not_taken : is_up plan rows n ≡ false
        → ShowSeats plan setting rows old (put seats n (after n))
    not_taken down =
        seats_agree plan setting rows old _ _ (λ k _.
        sym (put_nothing seats n k)
        ∙ ap (λ seat. put seats n seat k) (sym (cond-false _ _ _ down))) before

  -- the seats when the first replicas have taken the step
  abbrev pub so_far : ℕ → ℕ → Seat
  so_far n = below n after seats

  pub here : (n : ℕ) → so_far n n ≡ seats n
  here n = below_old n after seats n (omega arith)

  -- the next replica, if it is up, has come to the stage at which the step finds it
  pub stage_here : (stage : Stage) (n : ℕ) → AreUpAt plan rows stage seats
      → IsUpAt plan rows stage (so_far n) n
  stage_here stage n at up = ap (λ (seat : Seat). seat.stage) (here n) ∙ at n up

  -- it has had its turn
  pub next : (phases : List Phase) (n : ℕ)
      → ShowSeats plan setting rows phases (put (so_far n) n (all_up plan rows step (so_far n) n))
      → ShowSeats plan setting rows phases (so_far (n + 1))
  next phases n =
      seats_agree plan setting rows phases _ _ (λ k _.
      ap (λ (seat : Seat). put (so_far n) n
      (cond (is_up plan rows n) (step n seat) seat) k) (here n)
      ∙ below_more n after seats k)

  -- all have
  pub all_done : (phases : List Phase) (n : ℕ) → plan.replicas ≤ n
      → ShowSeats plan setting rows phases (so_far n) → ShowSeats plan setting rows phases after
  all_done phases n le =
      seats_agree plan setting rows phases _ _
      (λ k lt. below_new n after seats k (omega (arith, lt, le)))
