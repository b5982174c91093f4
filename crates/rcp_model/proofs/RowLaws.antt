-- A row that is written reads back at its place, and all else is as before.
use Rattle.std.proofs.Common.{◌≡◌, ◌≢◌, ℕ, ◌+◌, ◌*◌, ◌<◌, ◌==◌, Bool, true, false, ℤ, pos, List, length, set, get_or, None, Some, refl, sym, ap, ◌∙◌, arith, inl, inr, get_or-set_same, get_or-set_other}
use Rattle.std.specs.Prelude.{◌&&◌, nat_lt, if◌then◌else◌}
use Rattle.std.proofs.lemmas.Bool.{cases_eq, cases_lt, cond-true, cond-false, eq-eqb, ne_eqb, lt-ltb, le-ltb, and_from, cases_Bool, true≢false}
use Rattle.std.proofs.lemmas.Nat.{mul-add-lt}
use Rattle.rcp_model.specs.FrameRows.{FrameRows, AreTables, entry_at, is_down, slot_row, cell_row, act_row, lie_row, lie_slot_row, is_dropped, skew_of, rate_of, delay_of}
use Rattle.rcp_model.specs.RowWrites.{with_sensor, with_down, with_slot, with_cell, with_act, with_lie_slot, with_drop, with_skew, with_rate, with_delay, with_lie}
use Rattle.rcp_model.specs.RowLaws.{told_of, at_one, at_pair, at_triple, RowsReadBack}

-- one place of a list
pub read_one : {X : Type 0} (xs : List X) (place : ℕ) (x none : X) (k : ℕ) → place < length xs
    → get_or (set xs place x) k none ≡ at_one (λ i. get_or xs i none) place x k
read_one xs place x none k lt =
    elim (cases_eq k place) [
      | inl e ↦
          ap (λ i. get_or (set xs place x) i none) e ∙ get_or-set_same xs place x none lt
          ∙ sym (cond-true (k == place) x (get_or xs k none) (eq-eqb k place e))
      | inr ne ↦ get_or-set_other xs place k x none ne ∙ sym (cond-false (k == place) x (get_or xs k none) (ne_eqb k place ne))
    ]

-- two places in rows of so many columns are the same only in one row and one column
one_place : (columns row column r c : ℕ) → column < columns → c < columns → r * columns + c ≡ row * columns + column → (r ≡ row) × (c ≡ column)
one_place columns row column r c h k e =
    elim (cases_lt r row) [
      | inl less ↦ absurd (let more = mul-add-lt r columns c row less k in omega (arith, more, e))
      | inr no_less ↦
          elim (cases_lt row r) [
            | inl less ↦ absurd (let more = mul-add-lt row columns column r less h in omega (arith, more, e))
            | inr no_more ↦
                let same : r ≡ row = omega arith in
                (same, omega (arith, e, ap (λ (n : ℕ). n * columns) same))
          ]
    ]

-- one entry of a table
pub read_entry : {X : Type 0} (columns : ℕ) (xs : List X) (row column : ℕ) (x none : X) (r c : ℕ)
    → column < columns → row * columns + column < length xs
    → entry_at columns (set xs (row * columns + column) x) r c none ≡ at_pair (λ i j. entry_at columns xs i j none) row column x r c
unfolding entry_at
read_entry columns xs row column x none r c within lt =
    elim (cases_lt c columns) [
      | inr past ↦
          let ne : c ≢ column = λ e. omega arith in
          cond-false (nat_lt c columns) _ _ (le-ltb c columns past)
          ∙ sym (cond-false ((r == row) && (c == column)) x _ (not_both (r == row) (c == column) (ne_eqb c column ne)) ∙ cond-false (nat_lt c columns) _ _ (le-ltb c columns past))
      | inl inside ↦
          cond-true (nat_lt c columns) _ _ (lt-ltb c columns inside)
          ∙ (elim (cases_eq (r * columns + c) (row * columns + column)) [
            | inl e ↦
                let same = one_place columns row column r c within inside e in
                ap (λ i. get_or (set xs (row * columns + column) x) i none) e
                ∙ get_or-set_same xs (row * columns + column) x none lt
                ∙ sym (cond-true ((r == row) && (c == column)) x _ (and_from (r == row) (c == column) (eq-eqb r row same.0) (eq-eqb c column same.1)))
            | inr ne ↦
                get_or-set_other xs (row * columns + column) (r * columns + c) x none ne
                ∙ sym (cond-false ((r == row) && (c == column)) x _ (apart r c ne) ∙ cond-true (nat_lt c columns) _ _ (lt-ltb c columns inside))
          ])
    ]
  where
    not_both : (a b : Bool) → b ≡ false → (a && b) ≡ false
    not_both true b e = e
    not_both false b e = refl

    apart : (r c : ℕ) → r * columns + c ≢ row * columns + column → ((r == row) && (c == column)) ≡ false
    apart r c ne = elim (cases_eq r row) [
      | inl e ↦ not_both (r == row) (c == column) (ne_eqb c column (λ k. ne (ap (λ (n : ℕ). n * columns + c) e ∙ ap (λ (n : ℕ). row * columns + n) k)))
      | inr other ↦ ap (λ b. b && (c == column)) (ne_eqb r row other)
    ]

module _ (rows : FrameRows) (tables : AreTables rows) where
  pair_within : (p q : ℕ) → p < rows.replicas → q < rows.replicas → p * rows.replicas + q < rows.replicas * rows.replicas
  pair_within p q a b = mul-add-lt p rows.replicas q rows.replicas a b

  read_lie : (p q c : ℕ) (x : ℤ) → p < rows.replicas → q < rows.replicas → c < rows.cells
      → (r s k : ℕ) → lie_row (with_lie rows p q c x) r s k ≡ at_triple (lie_row rows) p q c (Some x) r s k
  unfolding lie_row with_lie
  read_lie p q c x a b d r s k =
      elim (cases_lt s rows.replicas) [
        | inr past ↦
            let ne : s ≢ q = λ e. omega arith in
            cond-false (nat_lt s rows.replicas) _ _ (le-ltb s rows.replicas past)
            ∙ sym (cond-false ((r == p) && (s == q) && (k == c)) _ _ (middle_fails (r == p) (s == q) (k == c) (ne_eqb s q ne))
            ∙ cond-false (nat_lt s rows.replicas) _ _ (le-ltb s rows.replicas past))
        | inl inside ↦
            cond-true (nat_lt s rows.replicas) _ _ (lt-ltb s rows.replicas inside)
            ∙ read_entry rows.cells rows.lies (p * rows.replicas + q) c (Some x) None (r * rows.replicas + s) k d
            (let within = mul-add-lt (p * rows.replicas + q) rows.cells c (rows.replicas * rows.replicas) (pair_within p q a b) d in omega (arith, within, tables.lies))
            ∙ ap (λ b. if b && (k == c) then Some x else entry_at rows.cells rows.lies (r * rows.replicas + s) k None) (same_pair inside)
            ∙ sym (elim (cases_Bool ((r == p) && (s == q) && (k == c))) [
              | inl t ↦ cond-true _ _ _ t ∙ sym (cond-true _ _ _ t)
              | inr f ↦ cond-false _ _ _ f ∙ cond-true (nat_lt s rows.replicas) _ _ (lt-ltb s rows.replicas inside) ∙ sym (cond-false _ _ _ f)
            ])
      ]
    where
      middle_fails : (a b c : Bool) → b ≡ false → (a && b && c) ≡ false
      middle_fails true true c e = absurd (true≢false e)
      middle_fails true false c e = refl
      middle_fails false b c e = refl

      same_pair : s < rows.replicas → (r * rows.replicas + s == p * rows.replicas + q) ≡ ((r == p) && (s == q))
      same_pair inside = elim (cases_eq (r * rows.replicas + s) (p * rows.replicas + q)) [
        | inl e ↦
            let same = one_place rows.replicas p q r s b inside e in
            eq-eqb _ _ e ∙ sym (and_from (r == p) (s == q) (eq-eqb r p same.0) (eq-eqb s q same.1))
        | inr ne ↦ ne_eqb _ _ ne ∙ sym (not_and r s ne)
      ]
        where
          not_and : (r s : ℕ) → r * rows.replicas + s ≢ p * rows.replicas + q → ((r == p) && (s == q)) ≡ false
          not_and r s ne = elim (cases_eq r p) [
            | inl e ↦ ap (λ b. (r == p) && b) (ne_eqb s q (λ k. ne (ap (λ (n : ℕ). n * rows.replicas + s) e ∙ ap (λ (n : ℕ). p * rows.replicas + n) k))) ∙ and_false (r == p)
            | inr other ↦ ap (λ b. b && (s == q)) (ne_eqb r p other)
          ]
            where
              and_false : (a : Bool) → (a && false) ≡ false
              and_false true = refl
              and_false false = refl

  pub each_row : RowsReadBack rows
  unfolding is_down slot_row cell_row act_row lie_slot_row is_dropped skew_of rate_of delay_of lie_row entry_at with_sensor with_down with_slot with_cell with_act with_lie_slot with_drop with_skew with_rate with_delay with_lie
  each_row = record {
    sensor = λ sensor value. refl;
    down = λ p a. ap (λ f. record (told_of rows) { down = f }) (λ i k. read_one rows.downs p true false k (omega (arith, tables.downs)) i);
    slot = λ p slot a. ap (λ f. record (told_of rows) { slot = f }) (λ i k. read_one rows.slots p (Some slot) None k (omega (arith, tables.slots)) i);
    skew = λ p x a. ap (λ f. record (told_of rows) { skew = f }) (λ i k. read_one rows.skews p x (pos 0) k (omega (arith, tables.skews)) i);
    rate = λ p x a. ap (λ f. record (told_of rows) { rate = f }) (λ i k. read_one rows.rates p x (pos 0) k (omega (arith, tables.rates)) i);
    cell = λ p c x a b. ap (λ f. record (told_of rows) { cell = f })
        (λ i r k. read_entry rows.cells rows.cell_values p c (Some x) None r k b (let within = mul-add-lt p rows.cells c rows.replicas a b in omega (arith, within, tables.cell_values)) i);
    act = λ p n x a b. ap (λ f. record (told_of rows) { act = f })
        (λ i r k. read_entry rows.actuators rows.acts p n (Some x) None r k b (let within = mul-add-lt p rows.actuators n rows.replicas a b in omega (arith, within, tables.acts)) i);
    lie_slot = λ p q slot a b. ap (λ f. record (told_of rows) { lie_slot = f })
        (λ i r k. read_entry rows.replicas rows.lie_slots p q (Some slot) None r k b (let within = pair_within p q a b in omega (arith, within, tables.lie_slots)) i);
    dropped = λ p q a b. ap (λ f. record (told_of rows) { dropped = f })
        (λ i r k. read_entry rows.replicas rows.drops p q true false r k b (let within = pair_within p q a b in omega (arith, within, tables.drops)) i);
    delay = λ p q x a b. ap (λ f. record (told_of rows) { delay = f })
        (λ i r k. read_entry rows.replicas rows.delays p q x rows.delay_min r k b (let within = pair_within p q a b in omega (arith, within, tables.delays)) i);
    lie = λ p q c x a b d. ap (λ f. record (told_of rows) { lie = f }) (λ i r s k. read_lie p q c x a b d r s k i);
  }
