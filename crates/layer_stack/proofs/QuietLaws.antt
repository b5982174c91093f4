-- Where only sensors were written, no row touches a replica or its messages.
use Rattle.std.proofs.Common.{◌≡◌, ℕ, ◌+◌, ◌*◌, nat_lt, get_or, length, replicate, true, false, None, refl, ap, ◌∙◌, inl, inr, ◌&&◌, arith}
use Rattle.std.proofs.lemmas.Bool.{cases_Bool, cases_lt, cond-true, cond-false}
use Rattle.std.proofs.lemmas.List.{get_or-replicate, get_or_past, length-replicate}
use Rattle.std.specs.Option.{is_none}
use Rattle.rcp_base.specs.Search.{all_below}
use Rattle.rcp_base.proofs.SearchLaws.{all_pass}
use Rattle.rcp_model.specs.declared.plan.PlanParts.{PlanParts}
use Rattle.rcp_model.specs.FrameRows.{FrameRows, entry_at, is_down, slot_row, cell_row, act_row, lie_row, lie_slot_row, is_dropped}
use Rattle.rcp_model.specs.Health.{is_untouched, is_faithful}
use Rattle.rcp_model.specs.RowWrites.{cleared}

-- what stands everywhere stands past the last place too
pub same_everywhere : {X : Type 0} (n i : ℕ) (x : X) → get_or (replicate n x) i x ≡ x
same_everywhere n i x = elim (cases_lt i n) [
  | inl lt ↦ get_or-replicate n i x x lt
  | inr past ↦ get_or_past (replicate n x) i x (omega (arith, past, length-replicate n x))
]

pub same_entry : {X : Type 0} (columns n row column : ℕ) (x : X) → entry_at columns (replicate n x) row column x ≡ x
unfolding entry_at
same_entry columns n row column x = elim (cases_Bool (nat_lt column columns)) [
  | inl t ↦ cond-true _ _ _ t ∙ same_everywhere n (row * columns + column) x
  | inr f ↦ cond-false _ _ _ f
]

module _ (rows : FrameRows) (quiet : rows ≡ cleared rows) where
  pub no_slot : (replica : ℕ) → slot_row rows replica ≡ None
  unfolding slot_row cleared
  no_slot replica = ap (λ (r : FrameRows). slot_row r replica) quiet ∙ same_everywhere rows.replicas replica None

  pub no_cell : (replica cell : ℕ) → cell_row rows replica cell ≡ None
  unfolding cell_row cleared
  no_cell replica cell = ap (λ (r : FrameRows). cell_row r replica cell) quiet ∙ same_entry rows.cells (rows.replicas * rows.cells) replica cell None

  pub no_lie_slot : (sender receiver : ℕ) → lie_slot_row rows sender receiver ≡ None
  unfolding lie_slot_row cleared
  no_lie_slot sender receiver = ap (λ (r : FrameRows). lie_slot_row r sender receiver) quiet ∙ same_entry rows.replicas (rows.replicas * rows.replicas) sender receiver None

  pub no_lie : (sender receiver cell : ℕ) → lie_row rows sender receiver cell ≡ None
  unfolding lie_row cleared
  no_lie sender receiver cell = ap (λ (r : FrameRows). lie_row r sender receiver cell) quiet ∙ elim (cases_Bool (nat_lt receiver rows.replicas)) [
    | inl t ↦ cond-true _ _ _ t ∙ same_entry rows.cells (rows.replicas * rows.replicas * rows.cells) (sender * rows.replicas + receiver) cell None
    | inr f ↦ cond-false _ _ _ f
  ]

  pub no_down : (replica : ℕ) → is_down rows replica ≡ false
  unfolding is_down cleared
  no_down replica = ap (λ (r : FrameRows). is_down r replica) quiet ∙ same_everywhere rows.replicas replica false

  pub no_drop : (sender receiver : ℕ) → is_dropped rows sender receiver ≡ false
  unfolding is_dropped cleared
  no_drop sender receiver = ap (λ (r : FrameRows). is_dropped r sender receiver) quiet ∙ same_entry rows.replicas (rows.replicas * rows.replicas) sender receiver false

  pub no_act : (replica actuator : ℕ) → act_row rows replica actuator ≡ None
  unfolding act_row cleared
  no_act replica actuator = ap (λ (r : FrameRows). act_row r replica actuator) quiet ∙ same_entry rows.actuators (rows.replicas * rows.actuators) replica actuator None

  untouched : (plan : PlanParts) (replica : ℕ) → is_untouched plan rows replica ≡ true
  unfolding is_untouched
  untouched plan replica = rw (
    no_down replica,
    no_slot replica,
    all_pass (length plan.cells) (λ cell. is_none (cell_row rows replica cell)) (λ cell lt. ap is_none (no_cell replica cell)),
    all_pass (length plan.actuators) (λ actuator. is_none (act_row rows replica actuator)) (λ actuator lt. ap is_none (no_act replica actuator)),
  ) refl

  faithful : (plan : PlanParts) (sender receiver : ℕ) → is_faithful plan rows sender receiver ≡ true
  unfolding is_faithful
  faithful plan sender receiver = rw (
    no_drop sender receiver,
    no_lie_slot sender receiver,
    all_pass (length plan.cells) (λ cell. is_none (lie_row rows sender receiver cell)) (λ cell lt. ap is_none (no_lie sender receiver cell)),
  ) refl

  -- no row touches a replica or its messages
  pub unharmed : (plan : PlanParts) (replica : ℕ)
      → (is_untouched plan rows replica && all_below plan.replicas (is_faithful plan rows replica)) ≡ true
  unharmed plan replica = rw (
    untouched plan replica,
    all_pass plan.replicas (is_faithful plan rows replica) (λ receiver lt. faithful plan replica receiver),
  ) refl
