-- Votes as words: what a slot votes, one vote more or less, how many there are, and the votes of a plan.
use Rattle.std.proofs.Common.{◌≡◌, ◌≢◌, ◌==◌, ℕ, zero, suc, ◌+◌, cond, ◌<◌, ◌≤◌, Bool, true, false, not, ◌&&◌, ltb, List, length, get_or, set, take, replicate, inl, inr, refl, sym, ◌∙◌, ap, ap₂, subst, arith, add-one}
use Rattle.std.proofs.lemmas.Bool.{cases_lt, cases_eq, lt-ltb, le-ltb, ne_eqb}
use Rattle.std.proofs.lemmas.List.{get_or_read, get_or-replicate, get_or_past, get_or-set_same, get_or-set_other, length-set, length-replicate, take_all}
use Rattle.std.proofs.lemmas.List.Sums.{length-filter, sum_by_more}
use Rattle.std.proofs.lemmas.List.Folds.{list_any_none}
use Rattle.std.specs.List.{range_with_len, sum_by, list_any}
use Rattle.rcp_model.specs.declared.plan.SlotRow.{SlotRow}
use Rattle.rcp_model.specs.declared.plan.PlanParts.{PlanParts}
use Rattle.rcp_model.specs.Slot.{no_slot}
use Rattle.rcp_model.specs.Messages.{is_voted}
use Rattle.rcp_base.specs.Bits.{has_bit, WritesBit, AreOthers}
use Rattle.vote_pattern.specs.inner.Numbers.{number_count, AreBitsOf}
use Rattle.vote_pattern.specs.Votes.{Votes, word_at, is_in, AreUnvoted, votes_at, vote_count, no_votes, ChangesVote, IsPatternOf, AreVotesOver}
use Rattle.vote_pattern.specs.inner.PatternFields.{AreSlotWords}
use Rattle.rcp_base.proofs.BitLaws.{has_bit_zero}
use Rattle.vote_pattern.proofs.BitLemmas.{none_past, same_sums, sum_more}

-- within the sizes a vote is a bit
pub is_bit : (votes : Votes) (slot cell : ℕ) → slot < votes.slots → cell < votes.cells → is_in votes slot cell ≡ has_bit (word_at votes slot) cell
unfolding is_in
is_bit votes slot cell s c = rw (lt-ltb slot votes.slots s, lt-ltb cell votes.cells c) refl

and_false : (a b : Bool) → (a && b && false) ≡ false
and_false true true = refl
and_false true false = refl
and_false false true = refl
and_false false false = refl

abbrev zeros : ℕ → List ℕ
zeros slots = replicate slots 0

zero_word : (slots slot : ℕ) → get_or (zeros slots) slot 0 ≡ 0
zero_word slots slot = elim (cases_lt slot slots) [
  | inl a ↦ get_or-replicate slots slot 0 0 a
  | inr a ↦ let long : length (zeros slots) ≡ slots = length-replicate slots 0 in get_or_past (zeros slots) slot 0 (omega arith)
]

-- where there are no votes, none is in it
pub none_in : (slots cells slot cell : ℕ) → is_in (no_votes slots cells) slot cell ≡ false
unfolding is_in
none_in slots cells slot cell =
    let empty : has_bit (get_or (zeros slots) slot 0) cell ≡ false = ap (λ (w : ℕ). has_bit w cell) (zero_word slots slot) ∙ has_bit_zero cell in
    rw empty (and_false (ltb slot slots) (ltb cell cells))

-- the votes with another word at a slot
abbrev pub with_word : Votes → ℕ → ℕ → Votes
with_word votes slot word = record votes { words = set votes.words slot word }

same_word : (votes : Votes) (slot word : ℕ) → AreSlotWords votes → slot < votes.slots → word_at (with_word votes slot word) slot ≡ word
same_word votes slot word are s = let long = are.words in get_or-set_same votes.words slot word 0 (omega arith)

other_word : (votes : Votes) (slot word other : ℕ) → other ≢ slot → word_at (with_word votes slot word) other ≡ word_at votes other
other_word votes slot word other ne = get_or-set_other votes.words slot other word 0 ne

-- one bit written is one vote written
pub bit_is_vote : (votes : Votes) (slot cell word : ℕ) (value : Bool) → AreSlotWords votes → slot < votes.slots → cell < votes.cells
    → WritesBit (word_at votes slot) word cell value → ChangesVote votes (with_word votes slot word) slot cell value
unfolding is_in
bit_is_vote votes slot cell word value are s c bit = record {
  slots = refl;
  cells = refl;
  here = is_bit (with_word votes slot word) slot cell s c ∙ ap (λ (w : ℕ). has_bit w cell) (same_word votes slot word are s) ∙ bit.here;
  other_cells = λ other ne. ap (λ (b : Bool). ltb slot votes.slots && ltb other votes.cells && b)
      (ap (λ (w : ℕ). has_bit w other) (same_word votes slot word are s) ∙ bit.others other ne);
  other_slots = λ other some ne. ap (λ (w : ℕ). ltb other votes.slots && ltb some votes.cells && has_bit w some) (other_word votes slot word other ne);
}

-- and leaves no cell past the last
pub still_words : (votes : Votes) (slot cell word : ℕ) (value : Bool) → AreSlotWords votes → slot < votes.slots → cell < votes.cells
    → WritesBit (word_at votes slot) word cell value → AreSlotWords (with_word votes slot word)
still_words votes slot cell word value are s c bit = record {
  few_slots = are.few_slots;
  few_cells = are.few_cells;
  words = length-set votes.words slot word ∙ are.words;
  none_past = λ other past h. elim (cases_eq other slot) [
    | inl a ↦
        let ne : past ≢ cell = λ e. omega arith in
        ap (λ (x : ℕ). has_bit (word_at (with_word votes slot word) x) past) a
        ∙ ap (λ (w : ℕ). has_bit w past) (same_word votes slot word are s) ∙ bit.others past ne ∙ are.none_past slot past h
    | inr a ↦ ap (λ (w : ℕ). has_bit w past) (other_word votes slot word other a) ∙ are.none_past other past h
  ];
}

-- the same of a word as it was read
read_bit : (votes : Votes) (slot cell read word : ℕ) (value : Bool) → AreSlotWords votes → slot < votes.slots
    → read ≡ get_or votes.words slot read → WritesBit read word cell value → WritesBit (word_at votes slot) word cell value
read_bit votes slot cell read word value are s is bit =
    let long = are.words in
    subst (λ (old : ℕ). WritesBit old word cell value) (get_or_read votes.words slot read (omega arith) is 0) bit

pub read_is_vote : (votes now : Votes) (slot cell read word : ℕ) (value : Bool) → AreSlotWords votes → votes ≡ now → slot < now.slots → cell < now.cells
    → read ≡ get_or votes.words slot read → WritesBit read word cell value → ChangesVote now (with_word votes slot word) slot cell value
read_is_vote votes now slot cell read word value are same s c is bit =
    let s' : slot < votes.slots = omega (arith, ap (λ (v : Votes). v.slots) same) in
    let c' : cell < votes.cells = omega (arith, ap (λ (v : Votes). v.cells) same) in
    subst (λ (old : Votes). ChangesVote old (with_word votes slot word) slot cell value) same
    (bit_is_vote votes slot cell word value are s' c' (read_bit votes slot cell read word value are s' is bit))

pub read_keeps_words : (votes now : Votes) (slot cell read word : ℕ) (value : Bool) → AreSlotWords votes → votes ≡ now → slot < now.slots → cell < now.cells
    → read ≡ get_or votes.words slot read → WritesBit read word cell value → AreSlotWords (with_word votes slot word)
read_keeps_words votes now slot cell read word value are same s c is bit =
    let s' : slot < votes.slots = omega (arith, ap (λ (v : Votes). v.slots) same) in
    let c' : cell < votes.cells = omega (arith, ap (λ (v : Votes). v.cells) same) in
    still_words votes slot cell word value are s' c' (read_bit votes slot cell read word value are s' is bit)

-- a slot votes as many cells as its word has numbers
slot_numbers : (votes : Votes) (slot : ℕ) → AreSlotWords votes → slot < votes.slots → length (votes_at votes slot) ≡ number_count (word_at votes slot)
unfolding votes_at number_count
slot_numbers votes slot are s =
    length-filter (is_in votes slot) (range_with_len 0 votes.cells)
    ∙ same_sums _ _ votes.cells (λ cell h. ap (λ (b : Bool). cond b 1 0) (is_bit votes slot cell s h))
    ∙ sym (none_past (has_bit (word_at votes slot)) votes.cells 64 are.few_cells (are.none_past slot))

numbers_to : (words : List ℕ) (n : ℕ) → n ≤ length words
    → sum_by (λ (slot : ℕ). number_count (get_or words slot 0)) (range_with_len 0 n) ≡ sum_by number_count (take n words)
numbers_to words zero h = refl
numbers_to words (suc n) h =
    ap (λ (k : ℕ). sum_by (λ (slot : ℕ). number_count (get_or words slot 0)) (range_with_len 0 k)) (sym (add-one n))
    ∙ sum_more (λ (slot : ℕ). number_count (get_or words slot 0)) n
    ∙ ap (λ (x : ℕ). x + number_count (get_or words n 0)) (numbers_to words n (omega arith))
    ∙ sym (sum_by_more number_count words n 0 (omega arith))
    ∙ ap (λ (k : ℕ). sum_by number_count (take k words)) (add-one n)

-- there are as many votes as numbers
pub numbers_are_votes : (votes : Votes) → AreSlotWords votes → sum_by number_count votes.words ≡ vote_count votes
unfolding vote_count
numbers_are_votes votes are =
    let long = are.words in
    ap (sum_by number_count) (sym (take_all votes.slots votes.words (omega arith)))
    ∙ sym (numbers_to votes.words votes.slots (omega arith))
    ∙ sym (same_sums _ _ votes.slots (λ slot h. slot_numbers votes slot are h))

-- the words of the votes of a plan's slots
pub record AreWordsOf (rows : List SlotRow) (words : List ℕ) : Type 0 where
  pub long : length words ≡ length rows
  pub bits : (slot : ℕ) → slot < length rows → AreBitsOf (get_or rows slot no_slot).votes (get_or words slot 0)

none_of_row : (rows : List SlotRow) (cells slot cell : ℕ) → AreVotesOver cells rows → slot < length rows → cells ≤ cell
    → list_any (λ voted. voted == cell) (get_or rows slot no_slot).votes ≡ false
none_of_row rows cells slot cell over s h = list_any_none _ _ (λ k d l.
    let below = over slot no_slot s k d l in
    ne_eqb _ cell (λ e. omega arith))

-- they are the pattern of the plan
pub words_of_plan : (plan : PlanParts) (words : List ℕ) → length plan.slots ≤ 32 → length plan.cells ≤ 64
    → AreVotesOver (length plan.cells) plan.slots → AreWordsOf plan.slots words
    → AreSlotWords (record { slots = length plan.slots; cells = length plan.cells; words = words })
words_of_plan plan words s c over are = record {
  few_slots = s;
  few_cells = c;
  words = are.long;
  none_past = λ slot cell h. elim (cases_lt slot (length plan.slots)) [
    | inl a ↦ (are.bits slot a).bits cell ∙ none_of_row plan.slots (length plan.cells) slot cell over a h
    | inr a ↦ let long = are.long in ap (λ (w : ℕ). has_bit w cell) (get_or_past words slot 0 (omega arith)) ∙ has_bit_zero cell
  ];
}

pub pattern_of_plan : (plan : PlanParts) (words : List ℕ) → AreWordsOf plan.slots words
    → IsPatternOf plan (record { slots = length plan.slots; cells = length plan.cells; words = words })
unfolding is_voted
pattern_of_plan plan words are = record {
  slots = refl;
  cells = refl;
  each = λ slot cell s c. is_bit _ slot cell s c ∙ (are.bits slot s).bits cell;
}

-- a bit of a word as it was read is a vote
pub read_is_in : (votes now : Votes) (slot cell read : ℕ) → AreSlotWords votes → votes ≡ now → slot < now.slots → cell < now.cells
    → read ≡ get_or votes.words slot read → has_bit read cell ≡ is_in now slot cell
read_is_in votes now slot cell read are same s c is =
    let long = are.words in
    let s' : slot < votes.slots = omega (arith, ap (λ (v : Votes). v.slots) same) in
    let c' : cell < votes.cells = omega (arith, ap (λ (v : Votes). v.cells) same) in
    ap (λ (w : ℕ). has_bit w cell) (get_or_read votes.words slot read (omega arith) is 0)
    ∙ sym (is_bit votes slot cell s' c') ∙ ap (λ (v : Votes). is_in v slot cell) same

-- the other cells are those that the slot does not vote
pub others_unvoted : (votes now : Votes) (slot word other : ℕ) → AreSlotWords votes → votes ≡ now → slot < now.slots
    → word ≡ get_or votes.words slot word → AreOthers word other votes.cells → AreUnvoted now slot other
others_unvoted votes now slot word other are same s is others cell =
    let cells : ltb cell votes.cells ≡ ltb cell now.cells = ap (λ (v : Votes). ltb cell v.cells) same in
    elim (cases_lt cell now.cells) [
      | inl inside ↦
          let bit : has_bit word cell ≡ is_in now slot cell = read_is_in votes now slot cell word are same s inside is in
          others cell ∙ ap₂ (λ (a b : Bool). a && not b) cells bit
      | inr past ↦
          let none : ltb cell now.cells ≡ false = le-ltb cell now.cells past in
          others cell ∙ ap (λ (a : Bool). a && not (has_bit word cell)) (cells ∙ none)
          ∙ sym (ap (λ (b : Bool). b && not (is_in now slot cell)) none)
    ]
