-- One step from the cells of a word.
use Rattle.std.proofs.Common.{◌≡◌, ◌≢◌, Option, Some, None, ℕ, ◌+◌, ◌*◌, ◌<◌, ◌≤◌, Bool, true, false, not, ◌&&◌, ltb, get_or, inl, inr, sym, ◌∙◌, ap, arith}
use Rattle.std.proofs.lemmas.Bool.{cases_lt, cases_eq, both_ways, and_parts, and_from, false_from_ne_true, lt-ltb, le-ltb, ltb-true}
use Rattle.std.proofs.Math.Bool.{and_comm}
use Rattle.std.specs.Prelude.{bit_and}
use Rattle.std.specs.Option.{is_some}
use Rattle.rcp_base.specs.Bits.{has_bit, WritesBit, IsFirstBit}
use Rattle.rcp_base.proofs.BitLaws.{has_bit_and, has_bit_zero}
use Rattle.rcp_base.proofs.SearchLaws.{any_of, none_any}
use Rattle.rcp_model.specs.Node.{make_node}
use Rattle.rcp_model.specs.Levels.{is_unvoted}
use Rattle.task_graph.specs.Rows.{Rows, needs_in, AreNeeds}
use Rattle.vote_pattern.specs.Votes.{Votes, is_in, AreUnvoted}
use Rattle.recovery_analysis.specs.Graphs.{graph_of, IsOneSize}
use Rattle.recovery_analysis.specs.Steps.{is_fed, AreNext}

-- no cell past the last is needed
pub needed_in : (rows : Rows) (slot cell from : ℕ) → needs_in rows slot cell from ≡ true → from < rows.cells
unfolding needs_in
needed_in rows slot cell from h =
    let sized : Bool = ltb slot rows.slots && ltb cell rows.cells in
    let first = and_parts (sized && ltb from rows.cells) (has_bit (get_or rows.words (slot * rows.cells + cell) 0) from) h in
    ltb-true from rows.cells (and_parts sized (ltb from rows.cells) first.0).1

-- the first common number of the word and of the cells that feed says whether there is one
pub fed_if_common : (rows : Rows) (votes : Votes) (word slot cell row : ℕ) (first : Option ℕ) → AreNeeds rows slot cell row
    → IsFirstBit (bit_and row word) first → is_some first ≡ is_fed (graph_of rows votes) word slot cell
fed_if_common rows votes word slot cell row None needs r =
    sym (none_any rows.cells (λ from. has_bit word from && needs_in rows slot cell from) (λ from l.
    false_from_ne_true (has_bit word from && needs_in rows slot cell from) (λ t.
    let p = and_parts (has_bit word from) (needs_in rows slot cell from) t in
    both_ways (has_bit (bit_and row word) from) (r from)
    (has_bit_and row word from ∙ and_from (has_bit row from) (has_bit word from) (needs from ∙ p.1) p.0))))
fed_if_common rows votes word slot cell row (Some i) needs r =
    let p = and_parts (has_bit row i) (has_bit word i) (sym (has_bit_and row word i) ∙ r.passes) in
    let feeds : needs_in rows slot cell i ≡ true = sym (needs i) ∙ p.0 in
    sym (any_of rows.cells (λ from. has_bit word from && needs_in rows slot cell from) i (needed_in rows slot cell i feeds)
    (and_from (has_bit word i) (needs_in rows slot cell i) p.1 feeds))

-- the numbers below another that pass are in the word, and no other
pub record ArePassing (test : ℕ → Bool) (n word : ℕ) : Type 0 where
  pub below : (i : ℕ) → i < n → has_bit word i ≡ test i
  pub none : (i : ℕ) → n ≤ i → has_bit word i ≡ false

pub none_passing : (test : ℕ → Bool) → ArePassing test 0 0
none_passing test = record { below = λ i l. absurd (omega arith); none = λ i l. has_bit_zero i }

pub one_put_in : (test : ℕ → Bool) (n word new : ℕ) → ArePassing test n word → WritesBit word new n true → test n ≡ true → ArePassing test (n + 1) new
one_put_in test n word new r puts t = record {
  below = λ i l. elim (cases_eq i n) [
    | inl a ↦ ap (has_bit new) a ∙ puts.here ∙ sym t ∙ ap test (sym a)
    | inr a ↦ puts.others i a ∙ r.below i (omega arith)
  ];
  none = λ i l. let ne : i ≢ n = λ e. omega arith in puts.others i ne ∙ r.none i (omega arith);
}

pub one_left_out : (test : ℕ → Bool) (n word : ℕ) → ArePassing test n word → test n ≡ false → ArePassing test (n + 1) word
one_left_out test n word r t = record {
  below = λ i l. elim (cases_eq i n) [
    | inl a ↦ r.none i (omega arith) ∙ sym t ∙ ap test (sym a)
    | inr a ↦ r.below i (omega arith)
  ];
  none = λ i l. r.none i (omega arith);
}

-- the cells that a slot does not vote are its unvoted nodes
pub unvoted_bits : (rows : Rows) (votes : Votes) (slot word cell : ℕ) → IsOneSize rows votes → slot < rows.slots → AreUnvoted votes slot word
    → has_bit word cell ≡ is_unvoted (graph_of rows votes) (make_node slot cell)
unvoted_bits rows votes slot word cell size s are =
    are cell ∙ ap (λ (n : ℕ). ltb cell n && not (is_in votes slot cell)) (sym size.cells)
    ∙ sym (ap (λ (b : Bool). b && (ltb cell rows.cells && not (is_in votes slot cell))) (lt-ltb slot rows.slots s))

-- those that are fed and unvoted
pub fed_and_unvoted : (rows : Rows) (votes : Votes) (word slot fed unvoted : ℕ) → IsOneSize rows votes → slot < rows.slots
    → ArePassing (is_fed (graph_of rows votes) word slot) rows.cells fed → AreUnvoted votes slot unvoted
    → AreNext (graph_of rows votes) word slot (bit_and fed unvoted)
fed_and_unvoted rows votes word slot fed unvoted size s passing are cell =
    let g = graph_of rows votes in
    let test = is_fed g word slot cell in
    let free = is_unvoted g (make_node slot cell) in
    let both : has_bit (bit_and fed unvoted) cell ≡ (has_bit fed cell && free) =
    has_bit_and fed unvoted cell ∙ ap (λ (b : Bool). has_bit fed cell && b) (unvoted_bits rows votes slot unvoted cell size s are) in
    elim (cases_lt cell rows.cells) [
      | inl inside ↦ both ∙ ap (λ (b : Bool). b && free) (passing.below cell inside) ∙ and_comm test free
      | inr past ↦
          let none : free ≡ false =
          ap (λ (b : Bool). b && (ltb cell rows.cells && not (is_in votes slot cell))) (lt-ltb slot rows.slots s)
          ∙ ap (λ (b : Bool). b && not (is_in votes slot cell)) (le-ltb cell rows.cells past) in
          both ∙ ap (λ (b : Bool). b && free) (passing.none cell past) ∙ sym (ap (λ (b : Bool). b && test) none)
    ]
