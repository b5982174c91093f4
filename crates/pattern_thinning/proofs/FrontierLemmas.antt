-- One word has all cells that are reached in so many steps, and one all from which so many steps lead to a node.
use Rattle.std.proofs.Common.{◌≡◌, Option, Some, None, ℕ, ◌+◌, ◌-◌, ◌%◌, ◌<◌, zero, suc, Bool, true, false, not, ◌&&◌, ltb, is_some, bit_and, bit_or, inl, inr, sym, ◌∙◌, ap, ap₂, subst, arith}
use Rattle.std.specs.Prelude.{◌||◌}
use Rattle.std.proofs.lemmas.Bool.{cases_lt, cases_eq, both_ways, and_parts, and_from, and_left, false_from_ne_true, lt-ltb, false≢true}
use Rattle.std.proofs.Math.Bool.{or-false, and_comm}
use Rattle.std.proofs.Math.Nat.{mod-eq_of_lt, mod_self}
use Rattle.rcp_base.specs.Bits.{has_bit, WritesBit, IsFirstBit}
use Rattle.rcp_base.proofs.BitLaws.{has_bit_and, has_bit_or, has_bit_zero}
use Rattle.rcp_base.proofs.SearchLaws.{any_found, any_of, any_more}
use Rattle.rcp_model.specs.declared.node.Node.{Node}
use Rattle.rcp_model.specs.Walk.{Graph, IsUnvoted, StepsTo}
use Rattle.rcp_model.specs.Levels.{is_unvoted, level}
use Rattle.rcp_model.specs.Node.{make_node}
use Rattle.rcp_model.proofs.LevelLaws.{is_unvoted_parts, is_unvoted_from, level_down}
use Rattle.task_graph.specs.Rows.{Rows, needs_in, AreNeeds}
use Rattle.vote_pattern.specs.Votes.{Votes, AreUnvoted, is_in}
use Rattle.recovery_analysis.specs.Graphs.{graph_of, IsOneSize}
use Rattle.pattern_thinning.specs.inner.Reach.{Reaches, IsFarthest, feeds_below, ArePrevious}
use Rattle.recovery_analysis.specs.Steps.{is_fed, AreNext}
use Rattle.pattern_thinning.proofs.ReachLemmas.{reaches_first, first_step, source_of, level_of_source}

-- whether a word has a number
pub empty_of : (word : ℕ) (found : Option ℕ) → IsFirstBit word found → is_some found ≡ false → (i : ℕ) → has_bit word i ≡ false
empty_of word None r e = r
empty_of word (Some i) r e = absurd (false≢true (sym e))

pub some_of : (word : ℕ) (found : Option ℕ) → IsFirstBit word found → is_some found ≡ true → (i : ℕ) × (has_bit word i ≡ true)
some_of word None r e = absurd (false≢true e)
some_of word (Some i) r e = (i, r.passes)

-- one cell more whose needs are added, or that is not in the word
module _ (rows : Rows) (votes : Votes) (word slot i feeding : ℕ) (so_far : (c : ℕ) → has_bit feeding c ≡ feeds_below i (graph_of rows votes) word slot c) where
  one_more : (c : ℕ) → (feeds_below i (graph_of rows votes) word slot c || (has_bit word i && needs_in rows slot i c)) ≡ feeds_below (i + 1) (graph_of rows votes) word slot c
  one_more c =
      sym (any_more i (λ to. has_bit word to && needs_in rows slot to c))
      ∙ ap (λ (k : ℕ). feeds_below k (graph_of rows votes) word slot c) (let e : suc i ≡ i + 1 = omega arith in e)

  pub feeds_more : (needs : ℕ) → has_bit word i ≡ true → AreNeeds rows slot i needs → (c : ℕ) → has_bit (bit_or feeding needs) c ≡ feeds_below (i + 1) (graph_of rows votes) word slot c
  feeds_more needs here are c =
      has_bit_or feeding needs c
      ∙ ap₂ (λ (a b : Bool). a || b) (so_far c) (are c ∙ sym (ap (λ (b : Bool). b && needs_in rows slot i c) here))
      ∙ one_more c

  pub feeds_no_more : has_bit word i ≡ false → (c : ℕ) → has_bit feeding c ≡ feeds_below (i + 1) (graph_of rows votes) word slot c
  feeds_no_more none c =
      so_far c
      ∙ sym (or-false (feeds_below i (graph_of rows votes) word slot c))
      ∙ ap (λ (b : Bool). feeds_below i (graph_of rows votes) word slot c || b) (sym (and_left (has_bit word i) (needs_in rows slot i c) none))
      ∙ one_more c

-- those of them that are unvoted
pub previous_of : (rows : Rows) (votes : Votes) (word before slot feeding unvoted : ℕ) → IsOneSize rows votes → before < rows.slots → AreUnvoted votes before unvoted
    → ((c : ℕ) → has_bit feeding c ≡ feeds_below rows.cells (graph_of rows votes) word slot c) → ArePrevious (graph_of rows votes) word before slot (bit_and feeding unvoted)
previous_of rows votes word before slot feeding unvoted size low are feeds cell =
    let g = graph_of rows votes in
    let free = is_unvoted g (make_node before cell) in
    let one : has_bit unvoted cell ≡ free =
    are cell ∙ ap (λ (k : ℕ). ltb cell k && not (is_in votes before cell)) (sym size.cells)
    ∙ sym (ap (λ (b : Bool). b && (ltb cell rows.cells && not (is_in votes before cell))) (lt-ltb before rows.slots low)) in
    has_bit_and feeding unvoted cell ∙ ap₂ (λ (a b : Bool). a && b) (feeds cell) one ∙ and_comm (feeds_below rows.cells g word slot cell) free

-- the nodes with a property are those of one slot whose cells are in the word
pub record IsFrontier (P : Node → Type 0) (at_slot word : ℕ) : Type 0 where
  pub holds : (c : ℕ) → has_bit word c ≡ true → P (make_node at_slot c)
  pub slot : (n : Node) → P n → n.slot ≡ at_slot
  pub bit : (n : Node) → P n → has_bit word n.cell ≡ true

pub frontier_none : (P : Node → Type 0) (slot word : ℕ) → IsFrontier P slot word → ((i : ℕ) → has_bit word i ≡ false) → (n : Node) → P n → ⊥
frontier_none P slot word w none n p = both_ways (has_bit word n.cell) (none n.cell) (w.bit n p)

pub frontier_begin : (x : Node) (word : ℕ) → WritesBit 0 word x.cell true → IsFrontier (λ n. n ≡ x) x.slot word
frontier_begin x word b = record {
  holds = λ c h. elim (cases_eq c x.cell) [
    | inl e ↦ ap (make_node x.slot) e
    | inr e ↦ absurd (both_ways (has_bit word c) (b.others c e ∙ has_bit_zero c) h)
  ];
  slot = λ n e. ap (λ (m : Node). m.slot) e;
  bit = λ n e. ap (λ (m : Node). has_bit word m.cell) e ∙ b.here;
}

-- a slot has one slot before it
same_turn : (a b n : ℕ) → a < n → b < n → (a + 1) % n ≡ (b + 1) % n → a ≡ b
same_turn a b n p q e = elim (cases_lt (a + 1) n) [
  | inl al ↦ elim (cases_lt (b + 1) n) [
    | inl bl ↦ let f : a + 1 ≡ b + 1 = sym (mod-eq_of_lt al) ∙ e ∙ mod-eq_of_lt bl in omega arith
    | inr bl ↦
        let full : b + 1 ≡ n = omega arith in
        let f : a + 1 ≡ 0 = sym (mod-eq_of_lt al) ∙ e ∙ ap (λ (x : ℕ). x % n) full ∙ mod_self n in omega arith
  ]
  | inr al ↦ elim (cases_lt (b + 1) n) [
    | inl bl ↦
        let full : a + 1 ≡ n = omega arith in
        let f : b + 1 ≡ 0 = sym (mod-eq_of_lt bl) ∙ sym e ∙ ap (λ (x : ℕ). x % n) full ∙ mod_self n in omega arith
    | inr bl ↦ omega arith
  ]
]

module _ (rows : Rows) (votes : Votes) (x : Node) (u : IsUnvoted (graph_of rows votes) x) where
  abbrev graph : Graph
  graph = graph_of rows votes

  -- so many steps lead from an unvoted node to the one
  abbrev pub LeadsHere : ℕ → Node → Type 0
  LeadsHere k m = IsUnvoted graph m × Reaches graph k m x

  pub here_begin : (word : ℕ) → WritesBit 0 word x.cell true → IsFrontier (LeadsHere 0) x.slot word
  here_begin word b =
      let w = frontier_begin x word b in
      record {
        holds = λ c h. let e = w.holds c h in (subst (IsUnvoted graph) (sym e) u, sym e);
        slot = λ n p. w.slot n (sym p.1);
        bit = λ n p. w.bit n (sym p.1);
      }

  reached_unvoted : (k : ℕ) (n : Node) → Reaches graph k x n → IsUnvoted graph n
  reached_unvoted zero n e = subst (IsUnvoted graph) (sym e) u
  reached_unvoted (suc k) n r = r.3

  pub next_reached : (k slot next old new : ℕ) → IsFrontier (Reaches graph k x) slot old → next ≡ (slot + 1) % rows.slots → AreNext graph old next new → IsFrontier (Reaches graph (suc k) x) next new
  next_reached k slot next old new w turn are =
      let turns : (n : Node) → Reaches graph (suc k) x n → n.slot ≡ next = λ n r.
      r.2.turn ∙ ap (λ (y : ℕ). (y + 1) % rows.slots) (w.slot r.0 r.1) ∙ sym turn in
      record {
        holds = λ c h.
            let p = and_parts (is_unvoted graph (make_node next c)) (is_fed graph old next c) (sym (are c) ∙ h) in
            let f = any_found rows.cells (λ from. has_bit old from && needs_in rows next c from) p.1 in
            let q = and_parts (has_bit old f.v) (needs_in rows next c f.v) f.passes in
            (make_node slot f.v, w.holds f.v q.0, record { turn = turn; feeds = q.1 }, is_unvoted_parts graph (make_node next c) p.0);
        slot = turns;
        bit = λ n r.
            let e : n ≡ make_node next n.cell = ap (λ (s : ℕ). make_node s n.cell) (turns n r) in
            are n.cell
            ∙ and_from (is_unvoted graph (make_node next n.cell)) (is_fed graph old next n.cell)
            (is_unvoted_from graph (make_node next n.cell) (subst (IsUnvoted graph) e r.3))
            (any_of rows.cells (λ from. has_bit old from && needs_in rows next n.cell from) r.0.cell (reached_unvoted k r.0 r.1).cell_in
            (and_from (has_bit old r.0.cell) (needs_in rows next n.cell r.0.cell) (w.bit r.0 r.1) (subst (StepsTo graph r.0) e r.2).feeds));
      }

  -- after so many steps: the word of what is reached, and one node that is
  pub record IsReachedBy (k slot word : ℕ) : Type 0 where
    pub low : slot < rows.slots
    pub frontier : IsFrontier (Reaches graph k x) slot word
    pub some : (last : Node) × Reaches graph k x last

  pub reached_more : (k slot next old new : ℕ) (found : Option ℕ) → IsReachedBy k slot old → next < rows.slots → next ≡ (slot + 1) % rows.slots → AreNext graph old next new
      → IsFirstBit new found → is_some found ≡ true → IsReachedBy (k + 1) next new
  reached_more k slot next old new found before low turn are first there =
      let w = next_reached k slot next old new before.frontier turn are in
      let bit = some_of new found first there in
      subst (λ (i : ℕ). IsReachedBy i next new) (let one : suc k ≡ k + 1 = omega arith in one)
      (record { low = low; frontier = w; some = (make_node next bit.0, w.holds bit.0 bit.1) })

  pub reached_no_more : (most k slot next old new : ℕ) (found : Option ℕ) → k < most → IsReachedBy k slot old → next ≡ (slot + 1) % rows.slots → AreNext graph old next new
      → IsFirstBit new found → is_some found ≡ false → IsFarthest graph x most k
  reached_no_more most k slot next old new found less before turn are first none = record {
    within = omega arith;
    reached = before.some;
    ends = λ l last r. frontier_none (Reaches graph (suc k) x) next new (next_reached k slot next old new before.frontier turn are) (empty_of new found first none) last r;
  }

  pub before_here : (k slot before old new : ℕ) → IsFrontier (LeadsHere k) slot old → before < rows.slots → slot ≡ (before + 1) % rows.slots
      → ArePrevious graph old before slot new → IsFrontier (LeadsHere (suc k)) before new
  before_here k slot before old new w low turn are =
      let turns : (m : Node) → LeadsHere (suc k) m → m.slot ≡ before = λ m p.
      let f = first_step graph k m x p.1 in
      same_turn m.slot before rows.slots p.0.slot_in low (sym f.steps.turn ∙ w.slot f.n (f.unvoted, f.reached) ∙ turn) in
      record {
        holds = λ c h.
            let p = and_parts (is_unvoted graph (make_node before c)) (feeds_below rows.cells graph old slot c) (sym (are c) ∙ h) in
            let f = any_found rows.cells (λ to. has_bit old to && needs_in rows slot to c) p.1 in
            let q = and_parts (has_bit old f.v) (needs_in rows slot f.v c) f.passes in
            let next = w.holds f.v q.0 in (
              is_unvoted_parts graph (make_node before c) p.0,
              reaches_first graph k (make_node before c) (make_node slot f.v) x (record { turn = turn; feeds = q.1 }) next.0 next.1,
            );
        slot = turns;
        bit = λ m p.
            let f = first_step graph k m x p.1 in
            let n : Node = f.n in
            let at_slot : n.slot ≡ slot = w.slot n (f.unvoted, f.reached) in
            let e : n ≡ make_node slot n.cell = ap (λ (s : ℕ). make_node s n.cell) at_slot in
            let d : m ≡ make_node before m.cell = ap (λ (s : ℕ). make_node s m.cell) (turns m p) in
            are m.cell
            ∙ and_from (is_unvoted graph (make_node before m.cell)) (feeds_below rows.cells graph old slot m.cell)
            (is_unvoted_from graph (make_node before m.cell) (subst (IsUnvoted graph) d p.0))
            (any_of rows.cells (λ to. has_bit old to && needs_in rows slot to m.cell) n.cell f.unvoted.cell_in
            (and_from (has_bit old n.cell) (needs_in rows slot n.cell m.cell) (w.bit n (f.unvoted, f.reached)) (subst (StepsTo graph m) e f.steps).feeds));
      }

  -- so many steps back: the word of what leads here, and one node that does
  pub record IsLedBy (k slot word : ℕ) : Type 0 where
    pub low : slot < rows.slots
    pub frontier : IsFrontier (LeadsHere k) slot word
    pub some : (m : Node) × IsUnvoted graph m × Reaches graph k m x

  pub led_more : (k slot before old new : ℕ) (found : Option ℕ) → IsLedBy k slot old → before < rows.slots → slot ≡ (before + 1) % rows.slots
      → ArePrevious graph old before slot new → IsFirstBit new found → is_some found ≡ true → IsLedBy (k + 1) before new
  led_more k slot before old new found led low turn are first there =
      let w = before_here k slot before old new led.frontier low turn are in
      let bit = some_of new found first there in
      let p = w.holds bit.0 bit.1 in
      subst (λ (i : ℕ). IsLedBy i before new) (let one : suc k ≡ k + 1 = omega arith in one)
      (record { low = low; frontier = w; some = (make_node before bit.0, p.0, p.1) })

  -- where no node leads here by so many steps, no walk of as many or more ends here
  pub led_no_more : (steps k slot before old new : ℕ) (found : Option ℕ) → k < steps → IsLedBy k slot old → before < rows.slots → slot ≡ (before + 1) % rows.slots
      → ArePrevious graph old before slot new → IsFirstBit new found → is_some found ≡ false → level graph steps x ≡ false
  led_no_more steps k slot before old new found less led low turn are first none =
      let w = before_here k slot before old new led.frontier low turn are in
      false_from_ne_true (level graph steps x) (λ t.
      let s = source_of graph (suc k) x (level_down graph (suc k) (steps - suc k) x (subst (λ (i : ℕ). level graph i x ≡ true) (let e : steps ≡ (steps - suc k) + suc k = omega arith in e) t)) in
      frontier_none (LeadsHere (suc k)) before new w (empty_of new found first none) s.m (s.unvoted, s.reached))

  pub led_is_level : (steps k slot word : ℕ) → k ≡ steps → IsLedBy k slot word → level graph steps x ≡ true
  led_is_level steps k slot word e led = ap (λ (i : ℕ). level graph i x) (sym e) ∙ level_of_source graph k led.some.0 x led.some.1 led.some.2
