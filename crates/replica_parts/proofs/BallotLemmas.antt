-- The vote of one replica, place by place.
use Rattle.std.proofs.Common.{◌≡◌, ℕ, ◌≤◌, ◌<◌, List, map, length, get_or, Option, Some, None, unwrap_or, option_map, refl, sym, ap, ◌∙◌, ℤ, pos, nat_eq, nat_abs, Bool, arith}
use Rattle.std.specs.Ordering.{int_eq}
use Rattle.std.specs.Option.{option_and_then}
use Rattle.std.proofs.lemmas.Option.{none-some, same_Some}
use Rattle.std.proofs.lemmas.List.{get_or-map, length-map, ext_get_or}
use Rattle.rcp_base.specs.Majority.{majority_of, voted_value}
use Rattle.rcp_base.specs.Message.{Content}
use Rattle.rcp_base.specs.Tables.{table}
use Rattle.rcp_base.proofs.TableLaws.{get_or-table, length-table}
use Rattle.rcp_model.specs.declared.plan.PlanParts.{PlanParts}
use Rattle.std.specs.Global.{Global}
use Rattle.std.proofs.Common.{Vec, [], true, false, not, nat_lt, subst, set, ◌+◌, ◌≢◌, inl, inr, get_or-set_same, get_or-set_other}
use Rattle.std.proofs.lemmas.Bool.{cases_lt}
use Rattle.rcp_model.specs.Ballot as model
use Rattle.std.proofs.lemmas.Bool.{true≢false, and_right, and_from, cond-true, cond-false, lt-ltb}
use Rattle.rcp_model.specs.FrameRows.{FrameRows, is_down}
use Rattle.rcp_model.specs.Messages.{Letter}
use Rattle.rcp_model.specs.Uniprocessor.{ProcessorState}
use Rattle.rcp_model.specs.Ballot.{slots_heard, values_heard, taken_slot, is_median, voted_cell, voted_cells, ballot_of}
use Rattle.rcp_base.proofs.MajorityLaws.{majority_pos}
use Rattle.rcp_base.specs.Filling.{Filled}
use Rattle.rcp_base.proofs.FillLaws.{is_table}
use Rattle.replica_parts.specs.declared.post.Post.{Post}
use Rattle.replica_parts.specs.declared.ballot.Heard.{Heard}
use Rattle.replica_parts.specs.declared.ballot.Ballot.{Ballot}
use Rattle.replica_parts.specs.Places.{letter_in, message_in, letter_at, message_at, letters_in, messages_in}
use Rattle.replica_parts.specs.Ballots.{IsBallot, IsBallotOrNone, ballot_now, heard_by}

pub letter_at-is : (places : List Post) (i : ℕ) (d : Post) → i < length places → letter_at places i ≡ letter_in (get_or places i d)
letter_at-is places i d lt = get_or-map letter_in places i d None lt

pub message_at-is : (places : List Heard) (i : ℕ) (d : Heard) → i < length places → message_at places i ≡ message_in (get_or places i d)
message_at-is places i d lt = get_or-map message_in places i d None lt

-- what stands at a place that is read
pub heard_here : (places : List Heard) (i : ℕ) (place : Heard) → i < length places → place ≡ get_or places i place → message_at places i ≡ message_in place
heard_here places i place lt is = message_at-is places i place lt ∙ sym (ap message_in is)

abs_of_pos : (o : Option ℕ) (own : ℕ) (x : ℤ) → option_map pos o ≡ Some x → nat_abs x ≡ unwrap_or o own
abs_of_pos None own x e = absurd (none-some x e)
abs_of_pos (Some n) own x e = ap nat_abs (sym (same_Some (pos n) x e))

none_of_pos : (o : Option ℕ) (own : ℕ) → option_map pos o ≡ None → own ≡ unwrap_or o own
none_of_pos None own e = refl
none_of_pos (Some n) own e = absurd (none-some (pos n) (sym e))

pub voted_some : (places : List (Option ℤ)) (slots : List (Option ℕ)) (own : ℕ) (x : ℤ) → places ≡ map (option_map pos) slots → majority_of int_eq places ≡ Some x → nat_abs x ≡ voted_value nat_eq slots own
unfolding voted_value
voted_some places slots own x e m = abs_of_pos (majority_of nat_eq slots) own x (sym (majority_pos slots) ∙ ap (majority_of int_eq) (sym e) ∙ m)

pub voted_none : (places : List (Option ℤ)) (slots : List (Option ℕ)) (own : ℕ) → places ≡ map (option_map pos) slots → majority_of int_eq places ≡ None → own ≡ voted_value nat_eq slots own
unfolding voted_value
voted_none places slots own e m = none_of_pos (majority_of nat_eq slots) own (sym (majority_pos slots) ∙ ap (majority_of int_eq) (sym e) ∙ m)

pos_of : (o : Option Content) → option_map (λ (message : Content). pos message.slot) o ≡ option_map pos (option_map (λ (message : Content). message.slot) o)
pos_of None = refl
pos_of (Some m) = refl

-- places filled with slots are those that are heard
pub slots_are : (plan : PlanParts) (heard : ℕ → Option Content) (old places : List (Option ℤ)) (n i : ℕ) → n ≡ plan.replicas → Filled n (λ (sender : ℕ). option_map (λ (message : Content). pos message.slot) (heard sender)) None old places i → n ≤ i → places ≡ map (option_map pos) (slots_heard plan heard)
slots_are plan heard old places n i e filled le =
    ext_get_or None _ _ (filled.size ∙ e ∙ sym (length-map (slots_heard plan heard) (option_map pos) ∙ length-table _ _))
    (λ k below. let lt : k < plan.replicas = omega (arith, below, filled.size, e) in
    filled.done k (omega (arith, lt, e, le)) ∙ pos_of (heard k)
    ∙ sym (get_or-map (option_map pos) (slots_heard plan heard) k None None (omega (arith, lt, length-table plan.replicas (λ sender. option_map (λ (message : Content). message.slot) (heard sender)))) ∙ ap (option_map pos) (get_or-table plan.replicas (λ sender. option_map (λ (message : Content). message.slot) (heard sender)) k None lt)))

-- what a replica that is down or up does
module _ (plan : PlanParts) (votes : ℕ → ℕ → Bool) (rows : FrameRows) (receiver : ℕ) (computed : ProcessorState) (heard : ℕ → Option Content) (place : Ballot) where
  pub none_now : is_down rows receiver ≡ true → place.up ≡ false → IsBallotOrNone plan.replicas place (ballot_now plan votes rows receiver computed heard)
  unfolding ballot_now
  none_now d u = subst (IsBallotOrNone plan.replicas place) (sym (cond-false _ _ _ (and_right (nat_lt receiver plan.replicas) (not (is_down rows receiver)) (ap not d)))) u

  pub some_now : receiver < plan.replicas → is_down rows receiver ≡ false → place.up ≡ true
      → IsBallot plan.replicas place (ballot_of plan votes computed.slot computed.cells heard)
      → IsBallotOrNone plan.replicas place (ballot_now plan votes rows receiver computed heard)
  unfolding ballot_now
  some_now lt d u h = subst (IsBallotOrNone plan.replicas place) (sym (cond-true _ _ _ (and_from _ _ (lt-ltb _ _ lt) (ap not d)))) (u, h)

-- one ballot more
pub ballot_set : (replicas : ℕ) (places : List Ballot) (i : ℕ) (place : Ballot) (voted : ℕ → Option model.Ballot) → i < length places
    → ((p : ℕ) (d : Ballot) → p < i → IsBallotOrNone replicas (get_or places p d) (voted p))
    → IsBallotOrNone replicas place (voted i)
    → (p : ℕ) (d : Ballot) → p < i + 1 → IsBallotOrNone replicas (get_or (set places i place) p d) (voted p)
ballot_set replicas places i place voted lt before here p d less = elim (cases_lt p i) [
  | inl a ↦ let ne : p ≢ i = omega (arith, a) in subst (λ (x : Ballot). IsBallotOrNone replicas x (voted p)) (sym (get_or-set_other places i p place d ne)) (before p d a)
  | inr a ↦ let e : p ≡ i = omega (arith, a, less) in
      subst (λ (q : ℕ). IsBallotOrNone replicas (get_or (set places i place) q d) (voted q)) (sym e)
      (subst (λ (x : Ballot). IsBallotOrNone replicas x (voted i)) (sym (get_or-set_same places i place d lt)) here)
]

-- the letters of the row that is read
pub row_read : (rows : List (Vec Post Global)) (i : ℕ) (row : Vec Post Global) (slice : List Post) → i < length rows → row ≡ get_or rows i row → slice ≡ row.items
    → letters_in slice ≡ get_or (map (λ (r : Vec Post Global). letters_in r.items) rows) i []
row_read rows i row slice lt is e =
    ap letters_in e ∙ ap (λ (r : Vec Post Global). letters_in r.items) is ∙ sym (get_or-map (λ (r : Vec Post Global). letters_in r.items) rows i row [] lt)

-- a ballot over what is read is one over what stands there
pub ballot_read : (plan : PlanParts) (votes : ℕ → ℕ → Bool) (frame : ℕ) (rows : FrameRows) (receiver : ℕ) (place : Ballot) (a b : ProcessorState) (m n : Content) (xs ys us vs : List (Option Letter))
    → a ≡ b → m ≡ n → xs ≡ ys → us ≡ vs
    → IsBallotOrNone plan.replicas place (ballot_now plan votes rows receiver a (heard_by plan frame rows receiver m (λ k. get_or xs k None) (λ k. get_or us k None)))
    → IsBallotOrNone plan.replicas place (ballot_now plan votes rows receiver b (heard_by plan frame rows receiver n (λ k. get_or ys k None) (λ k. get_or vs k None)))
ballot_read plan votes frame rows receiver place a b m n xs ys us vs e f g h t =
    subst (λ (z : List (Option Letter)). IsBallotOrNone plan.replicas place (ballot_now plan votes rows receiver b (heard_by plan frame rows receiver n (λ k. get_or ys k None) (λ k. get_or z k None)))) h
    (subst (λ (z : List (Option Letter)). IsBallotOrNone plan.replicas place (ballot_now plan votes rows receiver b (heard_by plan frame rows receiver n (λ k. get_or z k None) (λ k. get_or us k None)))) g
    (subst (λ (z : Content). IsBallotOrNone plan.replicas place (ballot_now plan votes rows receiver b (heard_by plan frame rows receiver z (λ k. get_or xs k None) (λ k. get_or us k None)))) f
    (subst (λ (z : ProcessorState). IsBallotOrNone plan.replicas place (ballot_now plan votes rows receiver z (heard_by plan frame rows receiver m (λ k. get_or xs k None) (λ k. get_or us k None)))) e t)))

-- what is heard stands at its places
pub heard_at : (n : ℕ) (places : List Heard) (heard : ℕ → Option Content) → messages_in places ≡ table n heard → (sender : ℕ) → sender < n → message_at places sender ≡ heard sender
heard_at n places heard e sender lt = ap (λ xs. get_or xs sender None) e ∙ get_or-table n heard sender None lt

-- so many places are a table of what stands there
pub messages_table : (n : ℕ) (places : List Heard) → length places ≡ n → messages_in places ≡ table n (message_at places)
messages_table n places e = is_table n (message_at places) (messages_in places) None (length-map places message_in ∙ e) (λ k lt. refl)

-- a ballot over what stands heard
pub ballot_over : (plan : PlanParts) (votes : ℕ → ℕ → Bool) (slot : ℕ) (computed : List ℤ) (place : Ballot) (n : ℕ)
    → n ≡ plan.replicas → length place.heard.items ≡ n
    → place.taken ≡ taken_slot plan slot (message_at place.heard.items)
    → place.cells.items ≡ voted_cells plan votes place.taken (message_at place.heard.items) computed
    → IsBallot plan.replicas place (ballot_of plan votes slot computed (message_at place.heard.items))
unfolding ballot_of
ballot_over plan votes slot computed place n e l t v = record {
  heard = messages_table plan.replicas place.heard.items (l ∙ e);
  taken = t;
  cells = v ∙ ap (λ s. voted_cells plan votes s (message_at place.heard.items) computed) t;
}

-- what stands at a place of a ballot is what was heard
pub heard_read : (replicas : ℕ) (place : Ballot) (voted : Option model.Ballot) (from : ℕ) (r : Heard) → IsBallotOrNone replicas place voted → place.up ≡ true
    → from < replicas → r ≡ get_or place.heard.items from r → message_in r ≡ option_and_then (λ (ballot : model.Ballot). ballot.heard from) voted
heard_read replicas place None from r b up lt is = absurd (true≢false (sym up ∙ b))
heard_read replicas place (Some ballot) from r b up lt is =
    let size : length place.heard.items ≡ replicas = sym (length-map place.heard.items message_in) ∙ ap length b.1.heard ∙ length-table replicas ballot.heard in
    ap message_in is ∙ sym (message_at-is place.heard.items from r (omega (arith, lt, size))) ∙ heard_at replicas place.heard.items ballot.heard b.1.heard from lt
