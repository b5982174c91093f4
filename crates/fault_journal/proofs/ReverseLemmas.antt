-- Lists from their end.
use Rattle.std.proofs.Common.{◌≡◌, ℕ, ◌-◌, List, ◌++◌, length, get_or, take, drop, reverse, All, AllPairs, sym, ap, ◌∙◌, arith, subst, take-append-drop}
use Rattle.std.proofs.lemmas.List.{reverse-append, reverse-reverse, get_or-reverse, length-reverse}
use Rattle.fault_journal.specs.declared.row.Row.{Row}

pub All-from_reverse : {X : Type 0} (P : X → Type 0) (xs : List X) → All P (reverse xs) → All P xs
All-from_reverse P xs all k d within =
    let last = length xs - 1 in
    let lengths = length-reverse xs in
    let back : last - (last - k) ≡ k = omega arith in
    let there = get_or-reverse xs (last - k) d (omega arith) in
    subst (λ (i : ℕ). P (get_or xs i d)) back (subst P there (all (last - k) d (omega arith)))

pub All-reverse : {X : Type 0} (P : X → Type 0) (xs : List X) → All P xs → All P (reverse xs)
All-reverse P xs all = All-from_reverse P (reverse xs) (subst (All P) (sym (reverse-reverse xs)) all)

pub AllPairs-from_reverse : {X : Type 0} (R : X → X → Type 0) (xs : List X) → AllPairs R (reverse xs) → AllPairs (λ a b. R b a) xs
AllPairs-from_reverse R xs pairs i j d before within =
    let last = length xs - 1 in
    let lengths = length-reverse xs in
    let i_back : last - (last - i) ≡ i = omega arith in
    let j_back : last - (last - j) ≡ j = omega arith in
    let i_there = get_or-reverse xs (last - i) d (omega arith) ∙ ap (λ (k : ℕ). get_or xs k d) i_back in
    let j_there = get_or-reverse xs (last - j) d (omega arith) ∙ ap (λ (k : ℕ). get_or xs k d) j_back in
    subst (λ (b : _). R b (get_or xs i d)) j_there (subst (λ (a : _). R (get_or (reverse xs) (last - j) d) a) i_there (pairs (last - j) (last - i) d (omega arith) (omega arith)))

-- all rows, those of the frames that are done first
pub split_rows : (rows : List Row) (place : ℕ) → reverse rows ≡ reverse (drop place rows) ++ reverse (take place rows)
split_rows rows place = ap reverse (sym (take-append-drop place rows)) ∙ reverse-append (take place rows) (drop place rows)
