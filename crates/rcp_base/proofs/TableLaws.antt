-- What a table has at its places, and how it grows.
use Rattle.std.proofs.Common.{◌≡◌, ℕ, ◌+◌, ◌<◌, List, [], ◌∷◌, ◌++◌, length, get_or, refl, arith}
use Rattle.std.proofs.lemmas.List.{ext_get_or}
use Rattle.std.proofs.lemmas.List.FromFn.{get_or-map-range_with_len, length-map-range_with_len, map-range_with_len_more}
use Rattle.rcp_base.specs.Tables.{table}

pub length-table : {X : Type 0} (n : ℕ) (f : ℕ → X) → length (table n f) ≡ n
unfolding table
length-table n f = length-map-range_with_len f 0 n

pub get_or-table : {X : Type 0} (n : ℕ) (f : ℕ → X) (i : ℕ) (d : X) → i < n → get_or (table n f) i d ≡ f i
unfolding table
get_or-table n f i d lt = get_or-map-range_with_len f 0 n i i d lt (omega arith)

-- an empty table
pub table_none : {X : Type 0} (f : ℕ → X) → table 0 f ≡ []
unfolding table
table_none f = refl

-- one place more
pub table_more : {X : Type 0} (n : ℕ) (f : ℕ → X) → table (n + 1) f ≡ table n f ++ f n ∷ []
unfolding table
table_more n f = map-range_with_len_more f 0 n n (omega arith)

-- the table of what a list has is that list
pub table_same : {X : Type 0} (xs : List X) (d : X) → table (length xs) (λ i. get_or xs i d) ≡ xs
table_same {X = X} xs d =
    let f : ℕ → X = λ i. get_or xs i d in
    ext_get_or d (table (length xs) f) xs (length-table (length xs) f)
    (λ i below.
    let lt : i < length xs = omega (arith, below, length-table (length xs) f) in
    get_or-table (length xs) f i d lt)
