-- Tables of which one entry is another one, and those of which all entries are one.
use Rattle.std.proofs.Common.{◌≡◌, ◌≢◌, ℕ, ◌+◌, ◌*◌, ◌/◌, ◌%◌, ◌<◌, length, get_or, set, replicate, sym, ap, ◌∙◌, inl, inr, arith, length-set, get_or-set_same, get_or-set_other, ext_get_or, div-add-mod', mul_comm, subst, Bool, true, false, nat_lt, if◌then◌else◌, Option, None}
use Rattle.std.proofs.lemmas.List.{length-replicate, get_or-replicate, get_or_past}
use Rattle.std.proofs.lemmas.Nat.{mul-add-lt, div-mul-add, mod-mul-add}
use Rattle.std.proofs.lemmas.Bool.{cases_eq, cases_lt, cond-true, cond-false, lt-ltb, le-ltb}
use Rattle.rcp_base.specs.Tables.{table}
use Rattle.rcp_base.proofs.TableLaws.{length-table, get_or-table}
use Rattle.rcp_model.specs.FrameRows.{entry_at}
use Rattle.fault_journal.specs.History.{grid}

-- a table of which one entry is another one
pub table_set : {X : Type 0} (n : ℕ) (f g : ℕ → X) (k : ℕ) (x : X) → k < n → f k ≡ x → ((i : ℕ) → i ≢ k → f i ≡ g i)
    → table n f ≡ set (table n g) k x
table_set n f g k x below here other =
    let lengths = length-set (table n g) k x in
    ext_get_or x (table n f) (set (table n g) k x) (omega (arith, length-table n f, length-table n g, lengths))
    (λ i within.
    let lt : i < n = omega (arith, within, length-table n f) in
    let short : k < length (table n g) = omega (arith, length-table n g) in
    elim (cases_eq i k) [
      | inl same ↦
          get_or-table n f i x lt ∙ ap f same ∙ here ∙ sym (get_or-set_same (table n g) k x x short) ∙ ap (λ (j : ℕ). get_or (set (table n g) k x) j x) (sym same)
      | inr not ↦ get_or-table n f i x lt ∙ other i not ∙ sym (get_or-table n g i x lt) ∙ sym (get_or-set_other (table n g) k i x x not)
    ])

-- a grid of which one entry is another one
pub grid_set : {X : Type 0} (rows columns : ℕ) (f g : ℕ → ℕ → X) (r c : ℕ) (x : X) → r < rows → c < columns → f r c ≡ x
    → ((a b : ℕ) → (¬ ((a ≡ r) × (b ≡ c))) → f a b ≡ g a b)
    → grid rows columns f ≡ set (grid rows columns g) (r * columns + c) x
grid_set rows columns f g r c x row column here other =
    table_set (rows * columns) _ _ (r * columns + c) x
    (rw (mul_comm rows columns) (mul-add-lt r columns c rows row column))
    (rw (div-mul-add r columns c column, mod-mul-add r columns c column) here)
    (λ i not. other (i / columns) (i % columns) (λ both.
    let parts = div-add-mod' i columns in
    let rows_same : i / columns * columns ≡ r * columns = ap (λ (a : ℕ). a * columns) both.0 in
    not (omega (arith, parts, rows_same, both.1))))

-- a table whose entries are all the same
pub table_constant : {X : Type 0} (n : ℕ) (x : X) → table n (λ (i : ℕ). x) ≡ replicate n x
table_constant n x =
    let f : ℕ → _ = λ i. x in
    ext_get_or x (table n f) (replicate n x) (length-table n f ∙ sym (length-replicate n x))
    (λ i within.
    let lt : i < n = omega (arith, within, length-table n f) in
    get_or-table n f i x lt ∙ sym (get_or-replicate n i x x lt))

-- what holds of each value of a table, and of the value that stands past its end
pub at_table : {X : Type 0} (P : X → Type 0) (n : ℕ) (f : ℕ → X) (i : ℕ) (d : X) → ((k : ℕ) → P (f k)) → P d → P (get_or (table n f) i d)
at_table P n f i d each none = elim (cases_lt i n) [
  | inl below ↦ subst P (sym (get_or-table n f i d below)) (each i)
  | inr past ↦ subst P (sym (get_or_past (table n f) i d (omega (arith, past, length-table n f)))) none
]

pub at_grid : {X : Type 0} (P : X → Type 0) (rows columns : ℕ) (f : ℕ → ℕ → X) (r c : ℕ) (d : X) → ((a b : ℕ) → P (f a b)) → P d
    → P (entry_at columns (grid rows columns f) r c d)
unfolding entry_at
at_grid P rows columns f r c d each none = elim (nat_lt c columns) as (λ (b : Bool). P (if b then get_or (grid rows columns f) (r * columns + c) d else d)) [
  | true ↦ at_table P (rows * columns) (λ place. f (place / columns) (place % columns)) (r * columns + c) d (λ place. each (place / columns) (place % columns)) none
  | false ↦ none
]

-- the entry of a grid at its own place, where that is what stands where there is none
pub at_own : {X : Type 0} (f : ℕ → ℕ → X) (n p : ℕ) (d : X) → f p p ≡ d → entry_at n (grid n n f) p p d ≡ d
unfolding entry_at
at_own f n p d own =
    elim (cases_lt p n) [
      | inl inside ↦
          cond-true (nat_lt p n) _ d (lt-ltb p n inside)
          ∙ get_or-table (n * n) (λ place. f (place / n) (place % n)) (p * n + p) d (mul-add-lt p n p n inside inside)
          ∙ rw (div-mul-add p n p inside, mod-mul-add p n p inside) own
      | inr past ↦ cond-false (nat_lt p n) _ d (le-ltb p n past)
    ]

-- the same of a grid by pairs and cells
pub at_own_lie : {X : Type 0} (n cells : ℕ) (f : ℕ → ℕ → ℕ → Option X) (p cell : ℕ) → f p p cell ≡ None
    → (if nat_lt p n then entry_at cells (grid (n * n) cells (λ pair c. f (pair / n) (pair % n) c)) (p * n + p) cell None else None) ≡ None
unfolding entry_at
at_own_lie n cells f p cell own =
    elim (cases_lt p n) [
      | inr past ↦ cond-false (nat_lt p n) _ None (le-ltb p n past)
      | inl inside ↦
          cond-true (nat_lt p n) _ None (lt-ltb p n inside)
          ∙ elim (cases_lt cell cells) [
            | inr past ↦ cond-false (nat_lt cell cells) _ None (le-ltb cell cells past)
            | inl within ↦
                let pair : p * n + p < n * n = mul-add-lt p n p n inside inside in
                cond-true (nat_lt cell cells) _ None (lt-ltb cell cells within)
                ∙ get_or-table (n * n * cells) (λ place. f (place / cells / n) (place / cells % n) (place % cells)) ((p * n + p) * cells + cell) None
                (rw (mul_comm (n * n) cells) (mul-add-lt (p * n + p) cells cell (n * n) pair within))
                ∙ rw (div-mul-add (p * n + p) cells cell within, mod-mul-add (p * n + p) cells cell within) (rw (div-mul-add p n p inside, mod-mul-add p n p inside) own)
          ]
    ]
