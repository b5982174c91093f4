-- A vote over places that name nothing but one's own value chooses it.
use Rattle.std.proofs.Common.{◌≡◌, ◌<◌, ℕ, suc, zero, Bool, true, false, List, [], ◌∷◌, length, get_or, Option, Some, None, option_map, unwrap_or, refl, sym, subst, ap, ◌∙◌, arith, ℤ, pos, nat_eq, inl, inr}
use Rattle.std.specs.Option.{option_and_then}
use Rattle.std.specs.Prelude.{Contains, IfSome}
use Rattle.std.specs.Ordering.{int_eq}
use Rattle.std.proofs.lemmas.Bool.{cases_Bool, cond-true, cond-false}
use Rattle.rcp_base.specs.Majority.{majority_of, voted_value}
use Rattle.rcp_base.specs.Median.{chosen_value, median_of, values_named}
use Rattle.rcp_base.specs.Message.{Content, value_in}
use Rattle.rcp_base.specs.Tables.{table}
use Rattle.rcp_base.proofs.FillLaws.{is_table}
use Rattle.rcp_base.proofs.MajorityLaws.{majority_within}
use Rattle.rcp_base.proofs.MedianLaws.{median_tells}
use Rattle.rcp_base.proofs.TableLaws.{get_or-table, length-table}
use Rattle.rcp_model.specs.declared.plan.PlanParts.{PlanParts}
use Rattle.rcp_model.specs.Ballot.{slots_heard, values_heard, taken_slot, is_median, voted_cell, voted_cells, ballot_of}
use Rattle.replica_parts.specs.declared.ballot.Ballot.{Ballot}
use Rattle.replica_parts.specs.declared.ballot.Heard.{Heard}
use Rattle.replica_parts.specs.Ballots.{IsBallot}
use Rattle.replica_parts.specs.inner.Agreement.{Agrees}
use Rattle.replica_parts.specs.Places.{message_at}
use Rattle.replica_parts.proofs.BallotLemmas.{ballot_over}

-- each place names this value or none
abbrev AreOwn : {X : Type 0} → X → List (Option X) → Type 0
AreOwn {X} own places = (k : ℕ) → k < length places → IfSome (get_or places k None) (λ (x : X). x ≡ own)

-- what was found is one's own, and so is what stands in for nothing
own_or : {X : Type 0} (own : X) (found : Option X) → ((x : X) → found ≡ Some x → x ≡ own) → unwrap_or found own ≡ own
own_or own None is = refl
own_or own (Some x) is = is x refl

-- the majority's value, else one's own
pub voted_own : {X : Type 0} (same : X → X → Bool) (own : X) (places : List (Option X)) → AreOwn own places → voted_value same places own ≡ own
unfolding voted_value
voted_own {X} same own places all = own_or own (majority_of same places) (λ x e. majority_within (λ (y : X). y ≡ own) same places x all e)

named_own : (own v : ℤ) (places : List (Option ℤ)) → AreOwn own places → Contains (values_named places) v → v ≡ own
named_own own v [] all (k, below, at) = absurd (omega (arith, below))
named_own own v (None ∷ places) all c = named_own own v places (λ k lt. all (suc k) (omega arith)) c
named_own own v (Some w ∷ places) all (zero, below, at) = sym at ∙ all 0 (omega arith)
named_own own v (Some w ∷ places) all (suc k, below, at) = named_own own v places (λ j lt. all (suc j) (omega arith)) (k, omega arith, at)

-- the median, else one's own
median_own : (own : ℤ) (places : List (Option ℤ)) → AreOwn own places → unwrap_or (median_of places) own ≡ own
median_own own places all = own_or own (median_of places) (λ x e. named_own own x places all (median_tells places x e).named)

-- what a vote of either kind chooses
pub chosen_own : (median : Bool) (own : ℤ) (places : List (Option ℤ)) → AreOwn own places → chosen_value median places own ≡ own
unfolding chosen_value
chosen_own true own places all = median_own own places all
chosen_own false own places all = voted_own int_eq own places all

-- where each message that is heard agrees with a replica, it takes its own slot and keeps what it computed
module _ (plan : PlanParts) (heard : ℕ → Option Content) (slot : ℕ) (computed : List ℤ) (size : length computed ≡ length plan.cells)
    (agree : (sender : ℕ) → sender < plan.replicas → IfSome (heard sender) (Agrees slot computed)) where
  slot_own : (o : Option Content) → IfSome o (Agrees slot computed) → IfSome (option_map (λ (message : Content). message.slot) o) (λ (x : ℕ). x ≡ slot)
  slot_own None a = tt
  slot_own (Some message) a = a.0

  value_own : (cell : ℕ) → cell < length computed → (o : Option Content) → IfSome o (Agrees slot computed) → IfSome (option_and_then (λ message. value_in message cell) o) (λ (x : ℤ). x ≡ get_or computed cell (pos 0))
  value_own cell lt None a = tt
  value_own cell lt (Some message) a = a.1 cell lt

  table_own : {X : Type 0} (own : X) (f : ℕ → Option X) → ((k : ℕ) → k < plan.replicas → IfSome (f k) (λ (x : X). x ≡ own)) → AreOwn own (table plan.replicas f)
  table_own {X} own f each k below =
      let lt : k < plan.replicas = omega (arith, below, length-table plan.replicas f) in
      subst (λ (o : Option X). IfSome o (λ (x : X). x ≡ own)) (sym (get_or-table plan.replicas f k None lt)) (each k lt)

  pub taken_own : slot ≡ taken_slot plan slot heard
  unfolding taken_slot
  taken_own = sym (voted_own nat_eq slot (slots_heard plan heard) (table_own slot (λ sender. option_map (λ (message : Content). message.slot) (heard sender)) (λ k lt. slot_own (heard k) (agree k lt))))

  cell_own : (votes : ℕ → ℕ → Bool) (taken cell : ℕ) → cell < length computed → get_or computed cell (pos 0) ≡ voted_cell plan votes taken heard cell (get_or computed cell (pos 0))
  unfolding voted_cell
  cell_own votes taken cell lt = elim (cases_Bool (votes taken cell)) [
    | inl t ↦ sym (cond-true _ _ _ t ∙ chosen_own (is_median plan cell) (get_or computed cell (pos 0)) (values_heard plan heard cell)
        (table_own (get_or computed cell (pos 0)) (λ sender. option_and_then (λ message. value_in message cell) (heard sender)) (λ k less. value_own cell lt (heard k) (agree k less))))
    | inr f ↦ sym (cond-false _ _ _ f)
  ]

  pub cells_own : (votes : ℕ → ℕ → Bool) (taken : ℕ) → computed ≡ voted_cells plan votes taken heard computed
  unfolding voted_cells
  cells_own votes taken = is_table (length plan.cells) _ computed (pos 0) size (λ cell lt. cell_own votes taken cell (omega (arith, lt, size)))

-- a ballot that keeps them is the vote over what stands heard
pub own_ballot : (plan : PlanParts) (votes : ℕ → ℕ → Bool) (slot : ℕ) (computed : List ℤ) (place : Ballot) (heard : List Heard) (n : ℕ)
    → n ≡ plan.replicas → length heard ≡ n → heard ≡ place.heard.items → length computed ≡ length plan.cells
    → ((sender : ℕ) → sender < n → IfSome (message_at heard sender) (Agrees slot computed))
    → place.taken ≡ slot → place.cells.items ≡ computed
    → IsBallot plan.replicas place (ballot_of plan votes slot computed (message_at heard))
own_ballot plan votes slot computed place heard n e l h size agree t v =
    let each : (sender : ℕ) → sender < plan.replicas → IfSome (message_at heard sender) (Agrees slot computed) = λ k lt. agree k (omega (arith, lt, e)) in
    subst (λ (xs : List Heard). IsBallot plan.replicas place (ballot_of plan votes slot computed (message_at xs))) (sym h)
    (ballot_over plan votes slot computed place n e (ap length (sym h) ∙ l)
    (t ∙ taken_own plan (message_at heard) slot computed size each ∙ ap (λ (xs : List Heard). taken_slot plan slot (message_at xs)) h)
    (v ∙ cells_own plan (message_at heard) slot computed size each votes place.taken ∙ ap (λ (xs : List Heard). voted_cells plan votes place.taken (message_at xs) computed) h))
