-- Good patterns: the test, and graphs that differ in their votes alone.
use Rattle.std.proofs.Common.{◌≡◌, ◌↔◌, Option, Some, None, Result, Ok, Err, IfOk, ℕ, ◌+◌, ◌-◌, ◌*◌, ◌<◌, ◌≤◌, zero, suc, Bool, true, false, not, ◌&&◌, ltb, leb, List, inl, inr, refl, sym, ◌∙◌, ap, subst, arith}
use Rattle.std.proofs.lemmas.Bool.{cases_lt, cases_Bool, both_ways, false_from_ne_true, not-true, not_from_false, and_parts, and_from, lt-ltb, le-leb, ltb-true, leb-true, cond-true, cond-false}
use Rattle.rcp_base.proofs.SearchLaws.{both_or_none, any_found, any_of}
use Rattle.rcp_model.specs.declared.node.Node.{Node}
use Rattle.rcp_model.specs.Walk.{Graph, node_count, IsUnvoted, EndsWalk, IsUnvotedCycle}
use Rattle.rcp_model.specs.Levels.{number, node_of, level, has_level_node, has_cycle}
use Rattle.rcp_model.specs.Thinning.{IsGood, is_good, has_walk}
use Rattle.rcp_model.proofs.LevelLaws.{node_of-number, number-lt, level_zero, level_unvoted, level_step, level_back, level_down, level_of_ends, ends_of_level}
use Rattle.rcp_model.proofs.ShownLaws.{cycle_found, none_found}
use Rattle.rcp_model.proofs.AlikeLaws.{IsAlike, alike_turned, steps_alike, unvoted_alike, HasNoMoreVotes, HasSameVotes}
use Rattle.recovery_analysis.specs.Verdict.{TellsWithin}
use Rattle.pattern_thinning.specs.inner.Reach.{step_limit}
use Rattle.pattern_thinning.specs.Thinned.{voting}

-- a node of a level is found, at this level and at those below
pub level_found : (g : Graph) (k : ℕ) (n : Node) → level g k n ≡ true → has_level_node g k ≡ true
level_found g k n h =
    let u = level_unvoted g k n h in
    any_of (node_count g) (λ v. level g k (node_of g v)) (number g n) (number-lt g n u) (ap (level g k) (node_of-number g n u.cell_in) ∙ h)

level_below : (g : Graph) (j k : ℕ) → j ≤ k → has_level_node g k ≡ true → has_level_node g j ≡ true
level_below g j k l h =
    let f = any_found (node_count g) (λ v. level g k (node_of g v)) h in
    level_found g j (node_of g f.v) (level_down g j (k - j) (node_of g f.v) (subst (λ (x : ℕ). level g x (node_of g f.v) ≡ true) (let e : k ≡ (k - j) + j = omega arith in e) f.passes))

-- the test is right
walk_found : (g : Graph) (k : ℕ) (n : Node) → EndsWalk g k n → has_walk g k ≡ true
walk_found g k n e =
    let some : 0 < k = e.some in
    and_from (ltb 0 k) (has_level_node g (k - 1)) (lt-ltb 0 k some)
    (level_found g (k - 1) n (level_of_ends g (k - 1) n (subst (λ (x : ℕ). EndsWalk g x n) (let e : k ≡ suc (k - 1) = omega arith in e) e)))

walk_from : (g : Graph) (k : ℕ) → has_walk g k ≡ true → (n : Node) × EndsWalk g k n
walk_from g k h =
    let p = and_parts (ltb 0 k) (has_level_node g (k - 1)) h in
    let some : 0 < k = ltb-true 0 k p.0 in
    let f = any_found (node_count g) (λ v. level g (k - 1) (node_of g v)) p.1 in
    (node_of g f.v, subst (λ (x : ℕ). EndsWalk g x (node_of g f.v)) (let e : suc (k - 1) ≡ k = omega arith in e) (ends_of_level g (k - 1) (node_of g f.v) f.passes))

no_cycle_from : (g : Graph) → not (has_cycle g) ≡ true → (nodes : List Node) → IsUnvotedCycle g nodes → ⊥
no_cycle_from g h nodes c = both_ways (has_cycle g) (not-true (has_cycle g) h) (cycle_found g nodes c)

pub good_test : (limit : Option ℕ) (g : Graph) → (is_good limit g ≡ true) ↔ IsGood limit g
good_test None g = (
  λ h. record { no_cycle = no_cycle_from g h; no_long_walk = tt },
  λ good. not_from_false (has_cycle g) (none_found g good.no_cycle),
)
good_test (Some k) g = (
  λ h.
      let p = and_parts (not (has_cycle g)) (not (has_walk g k)) h in
      record {
        no_cycle = no_cycle_from g p.0;
        no_long_walk = λ n e. both_ways (has_walk g k) (not-true (has_walk g k) p.1) (walk_found g k n e);
      },
  λ good. and_from (not (has_cycle g)) (not (has_walk g k)) (not_from_false (has_cycle g) (none_found g good.no_cycle))
      (not_from_false (has_walk g k) (false_from_ne_true (has_walk g k) (λ h. let w = walk_from g k h in good.no_long_walk w.0 w.1))),
)

-- so without an unvoted cycle the limit alone decides
pub good_without_limit : (limit : Option ℕ) (g : Graph) → limit ≡ None → ((nodes : List Node) → IsUnvotedCycle g nodes → ⊥) → is_good limit g ≡ true
good_without_limit limit g e none = ap (λ (l : Option ℕ). is_good l g) e ∙ not_from_false (has_cycle g) (none_found g none)

good_within : (limit : Option ℕ) (g : Graph) (k : ℕ) (answer : Bool) → limit ≡ Some k → ((nodes : List Node) → IsUnvotedCycle g nodes → ⊥)
    → TellsWithin k g answer → answer ≡ is_good limit g
good_within limit g k answer e none decides =
    both_or_none answer (is_good (Some k) g)
    (λ t. (good_test (Some k) g).1 (record { no_cycle = none; no_long_walk = decides.0 t }))
    (λ t. decides.1 ((good_test (Some k) g).0 t).no_long_walk)
    ∙ ap (λ (l : Option ℕ). is_good l g) (sym e)

pub good_if_within : {E : Type 0} (limit : Option ℕ) (g : Graph) (k : ℕ) (result : Result Bool E) → limit ≡ Some k → ((nodes : List Node) → IsUnvotedCycle g nodes → ⊥)
    → IfOk result (TellsWithin k g) → IfOk result (λ good. good ≡ is_good limit g)
good_if_within limit g k (Ok answer) e none decides = good_within limit g k answer e none decides
good_if_within limit g k (Err fault) e none decides = tt

-- of two faults the one that comes with the other decides
first_decides : (a b : Bool) → (b ≡ true → a ≡ true) → (not a && not b) ≡ not a
first_decides true b h = refl
first_decides false true h = absurd (both_ways true (sym (h refl)) refl)
first_decides false false h = refl

second_decides : (a b : Bool) → (a ≡ true → b ≡ true) → (not a && not b) ≡ not b
second_decides true b h = sym (ap not (h refl))
second_decides false b h = refl

-- a pattern is good exactly where no unvoted walk has as many steps as the limit on steps
pub good_by_steps : (limit : Option ℕ) (g : Graph) → is_good limit g ≡ not (has_level_node g (step_limit limit (node_count g)))
good_by_steps None g = refl
good_by_steps (Some k) g =
    let test = ltb 0 k && leb k (node_count g) in
    elim (cases_Bool test) [
      | inl short ↦
          let p = and_parts (ltb 0 k) (leb k (node_count g)) short in
          let some : 0 < k = ltb-true _ _ p.0 in
          let low : k ≤ node_count g = leb-true _ _ p.1 in
          second_decides (has_cycle g) (has_walk g k) (λ h. and_from (ltb 0 k) (has_level_node g (k - 1)) p.0 (level_below g (k - 1) (node_count g) (omega arith) h))
          ∙ ap (λ (b : Bool). not (b && has_level_node g (k - 1))) p.0
          ∙ ap (λ (i : ℕ). not (has_level_node g i)) (sym (cond-true test (k - 1) (node_count g) short))
      | inr long ↦
          first_decides (has_cycle g) (has_walk g k)
          (λ h.
          let p = and_parts (ltb 0 k) (has_level_node g (k - 1)) h in
          let some : 0 < k = ltb-true _ _ p.0 in
          elim (cases_lt (node_count g) k) [
            | inl more ↦ level_below g (node_count g) (k - 1) (omega arith) p.1
            | inr low ↦ absurd (both_ways test long (and_from (ltb 0 k) (leb k (node_count g)) p.0 (le-leb _ _ low)))
          ])
          ∙ ap (λ (i : ℕ). not (has_level_node g i)) (sym (cond-false test (k - 1) (node_count g) long))
    ]

-- the graph with other votes is alike
pub alike_voting : (g : Graph) (votes : ℕ → ℕ → Bool) → IsAlike g (voting g votes)
alike_voting g votes = record { slots = refl; cells = refl; feeds = λ s d c p q r. refl }

unvoted_still : (g h : Graph) → IsAlike g h → HasNoMoreVotes g h → (n : Node) → IsUnvoted g n → IsUnvoted h n
unvoted_still g h a fewer n u = unvoted_alike g h a n u (fewer n.slot n.cell u.slot_in u.cell_in u.unvoted)

-- taking votes away never takes an unvoted walk away
level_still : (g h : Graph) → IsAlike g h → HasNoMoreVotes g h → (k : ℕ) (n : Node) → level g k n ≡ true → level h k n ≡ true
level_still g h a fewer zero n e = level_zero h n (unvoted_still g h a fewer n (level_unvoted g 0 n e))
level_still g h a fewer (suc k) n e =
    let b = level_back g k n e in
    let u = level_unvoted g (suc k) n e in
    level_step h k b.m n (level_still g h a fewer k b.m b.level) (steps_alike g h a b.m n (level_unvoted g k b.m b.level) u b.steps) (unvoted_still g h a fewer n u)

-- so that a pattern with more votes than a good one is good
pub good_still : (limit : Option ℕ) (g h : Graph) → IsAlike g h → HasNoMoreVotes g h → is_good limit h ≡ true → is_good limit g ≡ true
good_still limit g h a fewer good =
    let k = step_limit limit (node_count g) in
    let same : node_count h ≡ node_count g = ap (λ (x : ℕ). x * h.cells) a.slots ∙ ap (λ (x : ℕ). g.slots * x) a.cells in
    let none : has_level_node h k ≡ false =
    ap (λ (x : ℕ). has_level_node h (step_limit limit x)) (sym same) ∙ not-true _ (sym (good_by_steps limit h) ∙ good) in
    good_by_steps limit g ∙ not_from_false _ (false_from_ne_true (has_level_node g k) (λ t.
    let f = any_found (node_count g) (λ v. level g k (node_of g v)) t in
    both_ways (has_level_node h k) none (level_found h k (node_of g f.v) (level_still g h a fewer k (node_of g f.v) f.passes))))

pub same_good : (limit : Option ℕ) (g h : Graph) → IsAlike g h → HasSameVotes g h → is_good limit g ≡ is_good limit h
same_good limit g h a same =
    let slots : h.slots ≡ g.slots = a.slots in
    let cells : h.cells ≡ g.cells = a.cells in
    both_or_none (is_good limit g) (is_good limit h)
    (good_still limit h g (alike_turned g h a) (λ s c p q e. sym (same s c (omega arith) (omega arith)) ∙ e))
    (good_still limit g h a (λ s c p q e. same s c p q ∙ e))
