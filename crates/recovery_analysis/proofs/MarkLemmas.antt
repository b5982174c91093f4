-- Levels as words, and the least node from which a node of a level steps to a node.
use Rattle.std.proofs.Common.{◌≡◌, ℕ, ◌+◌, ◌*◌, ◌/◌, ◌%◌, ◌<◌, ◌≤◌, suc, Bool, true, false, ◌&&◌, eqb, List, [], length, get_or, inl, inr, sym, ◌∙◌, ap, subst, arith, refl}
use Rattle.std.proofs.lemmas.Bool.{cases_lt, cases_eq, cases_Bool, both_ways, and_parts, eq-eqb, ne_eqb, cond-true, cond-false, false_from_ne_true}
use Rattle.std.proofs.lemmas.Nat.{mul-add-lt, div_below}
use Rattle.std.proofs.Math.Bool.{and_comm}
use Rattle.std.proofs.Math.Nat.{mul-le-mul_right, mod-lt, mod-eq_of_lt, mod_self}
use Rattle.std.proofs.lemmas.List.{get_or_read}
use Rattle.std.specs.Prelude.{bit_and}
use Rattle.rcp_base.specs.Bits.{has_bit}
use Rattle.rcp_base.specs.Search.{any_below, first_below, IsFirst}
use Rattle.rcp_base.proofs.SearchLaws.{both_or_none, any_of, any_found, any_same, none_any, first_is_one}
use Rattle.rcp_base.proofs.BitLaws.{has_bit_and}
use Rattle.rcp_model.specs.declared.node.Node.{Node}
use Rattle.rcp_model.specs.Node.{make_node}
use Rattle.rcp_model.specs.Walk.{Graph, IsNode, node_count}
use Rattle.rcp_model.specs.Levels.{node_of, is_unvoted, steps_to, level, goes, has_level_node}
use Rattle.rcp_model.proofs.LevelLaws.{node_of-number, level_unvoted, is_unvoted_parts, steps_to_parts}
use Rattle.rcp_model.proofs.CoreLaws.{number-node_of}
use Rattle.rcp_model.proofs.WalkLaws.{goes_some}
use Rattle.vote_pattern.specs.Votes.{Votes, AreUnvoted}
use Rattle.task_graph.specs.Rows.{Rows}
use Rattle.recovery_analysis.specs.Graphs.{graph_of, IsOneSize}
use Rattle.recovery_analysis.specs.Steps.{is_fed, is_next, AreNext}
use Rattle.recovery_analysis.specs.inner.Levels.{Levels, graph_in, slot_before, enters, IsLevel, IsLevelAfter, IsLeastAt}
use Rattle.recovery_analysis.specs.inner.LevelFields.{AreLevels}
use Rattle.recovery_analysis.proofs.StepLemmas.{unvoted_bits}

row_place : (s c M C : ℕ) → s < M → c < C → s * C + c < M * C
row_place s c M C h k = let l = mul-add-lt s C c M h k in omega arith

-- the slot before is the only one after which the slot is the next
pub slot_before-lt : (g : Graph) (s : ℕ) → s < g.slots → slot_before g s < g.slots
slot_before-lt g s h = elim (cases_eq s 0) [
  | inl a ↦ subst (λ (x : ℕ). x < g.slots) (sym (cond-true (eqb s 0) _ _ (eq-eqb _ _ a))) (omega arith)
  | inr a ↦ subst (λ (x : ℕ). x < g.slots) (sym (cond-false (eqb s 0) _ _ (ne_eqb _ _ a))) (omega arith)
]

pub slot_before-next : (g : Graph) (s : ℕ) → s < g.slots → s ≡ (slot_before g s + 1) % g.slots
slot_before-next g s h = elim (cases_eq s 0) [
  | inl a ↦
      let e : slot_before g s + 1 ≡ g.slots = ap (λ (x : ℕ). x + 1) (cond-true (eqb s 0) _ _ (eq-eqb _ _ a)) ∙ omega arith in
      a ∙ sym (ap (λ (x : ℕ). x % g.slots) e ∙ mod_self g.slots)
  | inr a ↦
      let e : slot_before g s + 1 ≡ s = ap (λ (x : ℕ). x + 1) (cond-false (eqb s 0) _ _ (ne_eqb _ _ a)) ∙ omega arith in
      sym (ap (λ (x : ℕ). x % g.slots) e ∙ mod-eq_of_lt h)
]

pub slot_before-only : (g : Graph) (r s : ℕ) → r < g.slots → s < g.slots → s ≡ (r + 1) % g.slots → r ≡ slot_before g s
slot_before-only g r s l h e = elim (cases_lt (r + 1) g.slots) [
  | inl a ↦
      let q : s ≡ r + 1 = e ∙ mod-eq_of_lt a in
      let ne : s ≡ 0 → ⊥ = λ z. omega arith in
      sym (cond-false (eqb s 0) _ _ (ne_eqb _ _ ne) ∙ omega arith)
  | inr a ↦
      let full : r + 1 ≡ g.slots = omega arith in
      let q : s ≡ 0 = e ∙ ap (λ (x : ℕ). x % g.slots) full ∙ mod_self g.slots in
      sym (cond-true (eqb s 0) _ _ (eq-eqb _ _ q) ∙ omega arith)
]

and-true : (x y : Bool) → x ≡ true → (x && y) ≡ y
and-true x y e = ap (λ (b : Bool). b && y) e

pub enters_is : (g : Graph) (k : ℕ) (n : Node) (d : ℕ) → IsNode g n → d < g.cells → enters g k n d ≡ goes g k n (slot_before g n.slot * g.cells + d)
enters_is g k n d node l =
    let v : ℕ = slot_before g n.slot * g.cells + d in
    let m : Node = make_node (slot_before g n.slot) d in
    let e : node_of g v ≡ m = node_of-number g m l in
    let turn : eqb n.slot ((m.slot + 1) % g.slots) ≡ true = eq-eqb _ _ (slot_before-next g n.slot node.slot_in) in
    let feeds : g.feeds n.slot d n.cell ≡ steps_to g (node_of g v) n =
    sym (ap (λ (x : Node). steps_to g x n) e ∙ and-true (eqb n.slot ((m.slot + 1) % g.slots)) (g.feeds n.slot d n.cell) turn) in
    ap (λ (x : Bool). x && level g k m) feeds
    ∙ ap (λ (x : Node). steps_to g (node_of g v) n && level g k x) (sym e)

-- a node that steps to the node is of the slot before
pub record IsBefore (g : Graph) (n : Node) (w : ℕ) : Type 0 where
  pub cell_in : w % g.cells < g.cells
  pub place : w ≡ slot_before g n.slot * g.cells + w % g.cells

pub before_is : (g : Graph) (k : ℕ) (n : Node) (w : ℕ) → IsNode g n → goes g k n w ≡ true → IsBefore g n w
before_is g k n w node h =
    let p = and_parts (steps_to g (node_of g w) n) (level g k (node_of g w)) h in
    let s = steps_to_parts g (node_of g w) n p.0 in
    let u = level_unvoted g k (node_of g w) p.1 in
    let e : w / g.cells ≡ slot_before g n.slot = slot_before-only g (w / g.cells) n.slot u.slot_in node.slot_in s.turn in
    record { cell_in = u.cell_in; place = sym (number-node_of g w) ∙ ap (λ (x : ℕ). x * g.cells + w % g.cells) e }

pub first_before : (g : Graph) (k : ℕ) (n : Node) (d : ℕ) → IsNode g n → IsFirst g.cells (enters g k n) d → IsFirst (node_count g) (goes g k n) (slot_before g n.slot * g.cells + d)
first_before g k n d node r =
    let b = slot_before-lt g n.slot node.slot_in in
    record {
      below = row_place (slot_before g n.slot) d g.slots g.cells b r.below;
      passes = sym (enters_is g k n d node r.below) ∙ r.passes;
      none = λ w l. false_from_ne_true (goes g k n w) (λ t.
          let q = before_is g k n w node t in
          let place : w ≡ slot_before g n.slot * g.cells + w % g.cells = q.place in
          both_ways (goes g k n w)
          (ap (goes g k n) place ∙ sym (enters_is g k n (w % g.cells) node q.cell_in) ∙ r.none (w % g.cells) (omega arith)) t);
    }

pub none_before : (g : Graph) (k : ℕ) (n : Node) → IsNode g n → ((d : ℕ) → d < g.cells → enters g k n d ≡ false) → any_below (node_count g) (goes g k n) ≡ false
none_before g k n node r =
    none_any (node_count g) (goes g k n) (λ w l. false_from_ne_true (goes g k n w) (λ t.
    let q = before_is g k n w node t in
    both_ways (goes g k n w)
    (ap (goes g k n) q.place ∙ sym (enters_is g k n (w % g.cells) node q.cell_in) ∙ r (w % g.cells) q.cell_in) t))

pub node_in : (g : Graph) (v : ℕ) → v < node_count g → IsNode g (node_of g v)
node_in g v h = elim (cases_eq g.cells 0) [
  | inl a ↦ let e : g.slots * g.cells ≡ 0 = ap (λ (x : ℕ). g.slots * x) a ∙ omega arith in absurd (omega arith)
  | inr a ↦ record { slot_in = div_below v g.cells g.slots (omega arith) h; cell_in = mod-lt v (omega arith) }
]

-- the first of the cells is the first of the nodes
pub back_found : (g : Graph) (k : ℕ) (n : Node) (d : ℕ) → IsNode g n → IsFirst g.cells (enters g k n) d → make_node (slot_before g n.slot) d ≡ node_of g (first_below (node_count g) (goes g k n))
back_found g k n d node r =
    sym (node_of-number g (make_node (slot_before g n.slot) d) r.below)
    ∙ ap (node_of g) (first_is_one (node_count g) (goes g k n) (slot_before g n.slot * g.cells + d) (first_before g k n d node r))

-- the first cell of the first slot is the first node
pub first_node : (g : Graph) (k s c : ℕ) → ((r d : ℕ) → r < s → level g k (make_node r d) ≡ false) → level g k (make_node s c) ≡ true → ((d : ℕ) → d < c → level g k (make_node s d) ≡ false) → IsFirst (node_count g) (λ v. level g k (node_of g v)) (s * g.cells + c)
first_node g k s c slots here cells =
    let u = level_unvoted g k (make_node s c) here in
    let in_row : c < g.cells = u.cell_in in
    record {
      below = row_place s c g.slots g.cells u.slot_in u.cell_in;
      passes = ap (level g k) (node_of-number g (make_node s c) u.cell_in) ∙ here;
      none = λ w l.
          let place : w / g.cells * g.cells + w % g.cells ≡ w = number-node_of g w in
          elim (cases_lt (w / g.cells) s) [
            | inl a ↦ slots (w / g.cells) (w % g.cells) a
            | inr a ↦ elim (cases_eq (w / g.cells) s) [
              | inl e ↦
                  let p : s * g.cells + w % g.cells ≡ w = ap (λ (x : ℕ). x * g.cells + w % g.cells) (sym e) ∙ place in
                  ap (λ (x : ℕ). level g k (make_node x (w % g.cells))) e ∙ cells (w % g.cells) (omega arith)
              | inr e ↦
                  let more : s + 1 ≤ w / g.cells = omega arith in
                  let p : (s + 1) * g.cells ≤ w / g.cells * g.cells = mul-le-mul_right g.cells more in
                  absurd (omega arith)
            ]
          ];
    }

pub no_node_marked : (g : Graph) (k : ℕ) → ((r d : ℕ) → r < g.slots → level g k (make_node r d) ≡ false) → any_below (node_count g) (λ v. level g k (node_of g v)) ≡ false
no_node_marked g k h = none_any (node_count g) (λ v. level g k (node_of g v)) (λ w l. let n = node_in g w l in h (w / g.cells) (w % g.cells) n.slot_in)

-- some cell at the slot before is such exactly where some node is
any_enters : (g : Graph) (k : ℕ) (n : Node) → IsNode g n → any_below g.cells (enters g k n) ≡ any_below (node_count g) (goes g k n)
any_enters g k n node = both_or_none (any_below g.cells (enters g k n)) (any_below (node_count g) (goes g k n))
    (λ h.
    let f = any_found g.cells (enters g k n) h in
    any_of (node_count g) (goes g k n) (slot_before g n.slot * g.cells + f.v)
    (row_place (slot_before g n.slot) f.v g.slots g.cells (slot_before-lt g n.slot node.slot_in) f.below)
    (sym (enters_is g k n f.v node f.below) ∙ f.passes))
    (λ h.
    let f = any_found (node_count g) (goes g k n) h in
    let b = before_is g k n f.v node f.passes in
    any_of g.cells (enters g k n) (f.v % g.cells) b.cell_in
    (enters_is g k n (f.v % g.cells) node b.cell_in ∙ ap (goes g k n) (sym b.place) ∙ f.passes))

-- the cells of the word end an unvoted walk of k + 1 nodes at the slot before
abbrev pub ArePlaced : Graph → ℕ → ℕ → ℕ → Type 0
ArePlaced g k s word = (d : ℕ) → has_bit word d ≡ level g k (make_node (slot_before g s) d)

-- a step from a level leads to the next
step_is_level : (g : Graph) (k s c word : ℕ) → ArePlaced g k s word → is_next g word s c ≡ level g (suc k) (make_node s c)
unfolding level
step_is_level g k s c word placed =
    let n : Node = make_node s c in
    let free = is_unvoted g n in
    let some = any_below (node_count g) (goes g k n) in
    elim (cases_Bool (is_unvoted g n)) [
      | inl t ↦
          let u = is_unvoted_parts g n t in
          let same : is_fed g word s c ≡ any_below g.cells (enters g k n) =
          any_same g.cells (λ d. has_bit word d && g.feeds s d c) (enters g k n)
          (λ d l. ap (λ (b : Bool). b && g.feeds s d c) (placed d) ∙ and_comm (level g k (make_node (slot_before g s) d)) (g.feeds s d c)) in
          ap (λ (b : Bool). free && b) (same ∙ any_enters g k n (record { slot_in = u.slot_in; cell_in = u.cell_in }))
      | inr f ↦ ap (λ (b : Bool). b && is_fed g word s c) f ∙ sym (ap (λ (b : Bool). b && some) f)
    ]

pub next_is_level : (g : Graph) (words next : List ℕ)
    → ((s : ℕ) → s < g.slots → AreNext g (get_or words (slot_before g s) 0) s (get_or next s 0)) → IsLevelAfter g words next
next_is_level g words next are k is s c l =
    are s l c
    ∙ step_is_level g k s c (get_or words (slot_before g s) 0) (λ d. is (slot_before g s) d (slot_before-lt g s l))
    ∙ ap (λ (x : ℕ). level g x (make_node s c)) (omega arith)

level_of_one : (g : Graph) (n : Node) → is_unvoted g n ≡ level g 0 n
unfolding level
level_of_one g n = refl

pub first_is_level : (rows : Rows) (votes : Votes) (words : List ℕ) → IsOneSize rows votes
    → ((s : ℕ) → s < rows.slots → AreUnvoted votes s (get_or words s 0)) → IsLevel (graph_of rows votes) 0 words
first_is_level rows votes words size are s c l =
    unvoted_bits rows votes s (get_or words s 0) c size l (are s l) ∙ level_of_one (graph_of rows votes) (make_node s c)

-- the slots below have no cell
abbrev pub AreEmptyBelow : ℕ → List ℕ → Type 0
AreEmptyBelow slot words = (s c : ℕ) → s < slot → has_bit (get_or words s 0) c ≡ false

pub least_found : (g : Graph) (k s c : ℕ) (words : List ℕ) → s < g.slots → AreEmptyBelow s words → IsFirst 64 (has_bit (get_or words s 0)) c
    → IsLevel g k words → IsLeastAt g k (make_node s c)
least_found g k s c words l empty first is =
    let test : ℕ → Bool = λ v. level g k (node_of g v) in
    let here : level g k (make_node s c) ≡ true = sym (is s c l) ∙ first.passes in
    let below : (r d : ℕ) → r < s → level g k (make_node r d) ≡ false = λ r d m. sym (is r d (omega arith)) ∙ empty r d m in
    let r = first_node g k s c below here (λ d m. sym (is s d l) ∙ first.none d m) in
    let u = level_unvoted g k (make_node s c) here in
    record {
      some = any_of (node_count g) test (s * g.cells + c) r.below r.passes;
      is = sym (node_of-number g (make_node s c) u.cell_in) ∙ ap (node_of g) (first_is_one (node_count g) test (s * g.cells + c) r);
    }

pub none_found_at : (g : Graph) (k slots : ℕ) (words : List ℕ) → g.slots ≡ slots → AreEmptyBelow slots words → IsLevel g k words
    → has_level_node g k ≡ false
none_found_at g k slots words same empty is = no_node_marked g k (λ s c l. sym (is s c l) ∙ empty s c (omega arith))

-- the bits of a word are the cells that feed the node's cell
abbrev AreFeeding : Graph → Node → ℕ → Type 0
AreFeeding g n a = (d : ℕ) → has_bit a d ≡ g.feeds n.slot d n.cell

both_bits : (g : Graph) (k : ℕ) (n : Node) (a w : ℕ) → AreFeeding g n a → ArePlaced g k n.slot w → (d : ℕ) → has_bit (bit_and a w) d ≡ enters g k n d
both_bits g k n a w f h d =
    has_bit_and a w d ∙ ap (λ (x : Bool). x && has_bit w d) (f d) ∙ ap (λ (x : Bool). g.feeds n.slot d n.cell && x) (h d)

-- the first common bit of a row and a level is the node before
pub first_before_is : (g : Graph) (k : ℕ) (n : Node) (a w d : ℕ) → IsNode g n → AreFeeding g n a → ArePlaced g k n.slot w
    → IsFirst 64 (has_bit (bit_and a w)) d → make_node (slot_before g n.slot) d ≡ node_of g (first_below (node_count g) (goes g k n))
first_before_is g k n a w d node f h r =
    let both = and_parts (has_bit a d) (has_bit w d) (sym (has_bit_and a w d) ∙ r.passes) in
    let u = level_unvoted g k (make_node (slot_before g n.slot) d) (sym (h d) ∙ both.1) in
    back_found g k n d node (record {
      below = u.cell_in;
      passes = sym (both_bits g k n a w f h d) ∙ r.passes;
      none = λ e l. sym (both_bits g k n a w f h e) ∙ r.none e l;
    })

-- and where there is none, no node steps to it
pub none_before_is : (g : Graph) (k : ℕ) (n : Node) (a w : ℕ) → IsNode g n → AreFeeding g n a → ArePlaced g k n.slot w
    → ((d : ℕ) → has_bit (bit_and a w) d ≡ false) → any_below (node_count g) (goes g k n) ≡ false
none_before_is g k n a w node f h r = none_before g k n node (λ d l. sym (both_bits g k n a w f h d) ∙ r d)

-- a node of the level after is one of the graph
pub node_of_level : (g : Graph) (k : ℕ) (n : Node) → level g (k + 1) n ≡ true → IsNode g n
node_of_level g k n h = let u = level_unvoted g (k + 1) n h in record { slot_in = u.slot_in; cell_in = u.cell_in }

-- and some node of the level steps to it
pub some_before : (g : Graph) (k : ℕ) (n : Node) → level g (k + 1) n ≡ true → any_below (node_count g) (goes g k n) ≡ true
some_before g k n h = goes_some g k n (ap (λ (x : ℕ). level g x n) (omega arith) ∙ h)

-- the same over the fields that hold the levels
pub marked : (held levels : Levels) (k : ℕ) (n : Node) → held ≡ levels → level (graph_in levels) (k + 1) n ≡ true → level (graph_in held) (k + 1) n ≡ true
marked held levels k n same h = subst (λ (x : Levels). level (graph_in x) (k + 1) n ≡ true) (sym same) h

-- a word that is read of a level
pub placed : (g : Graph) (words : List (List ℕ)) (read : List ℕ) (k s b : ℕ) → AreLevels g words → k < length words → read ≡ get_or words k read
    → s < g.slots → b ≡ slot_before g s → ArePlaced g k s (get_or read b 0)
placed g words read k s b are l is s_in e d =
    ap (λ (x : ℕ). has_bit (get_or read x 0) d) e
    ∙ ap (λ (xs : List ℕ). has_bit (get_or xs (slot_before g s) 0) d) (get_or_read words k read l is [])
    ∙ are k l (slot_before g s) d (slot_before-lt g s s_in)
