-- Lines of the items of a list, one item at a time.
use Rattle.std.proofs.lemmas.Grind.{flat_map-append}
use Rattle.std.proofs.lemmas.List.{take_more}
use Rattle.std.specs.List.{range_with_len}
use Rattle.std.proofs.Common.{append-nil, [], take, ◌≡◌, ℕ, zero, suc, ◌+◌, ◌<◌, List, ◌∷◌, ◌++◌, length, get_or, flat_map, ap, sym, ◌∙◌, arith}

-- the lines of one item more
pub lines_more : {X : Type 0} (lines : X → List ℕ) (items : List X) (k : ℕ) (d : X) → k < length items
    → flat_map lines (take k items) ++ lines (get_or items k d) ≡ flat_map lines (take (k + 1) items)
lines_more lines items k d lt =
    sym (ap (flat_map lines) (take_more items k d lt) ∙ flat_map-append lines (take k items) (get_or items k d ∷ [])
    ∙ ap (λ ls. flat_map lines (take k items) ++ ls) (append-nil (lines (get_or items k d))))

-- one number more
pub numbers_more : (k : ℕ) → range_with_len 0 (k + 1) ≡ range_with_len 0 k ++ k ∷ []
numbers_more k =
    let one : k + 1 ≡ suc k = omega arith in
    let last : 0 + k ≡ k = omega arith in
    ap (range_with_len 0) one ∙ range_longer 0 k ∙ ap (λ x. range_with_len 0 k ++ x ∷ []) last
  where
    range_longer : (a n : ℕ) → range_with_len a (suc n) ≡ range_with_len a n ++ (a + n) ∷ []
    range_longer a zero = let e : a ≡ a + 0 = omega arith in ap (λ x. x ∷ []) e
    range_longer a (suc n) =
        let e : a + 1 + n ≡ a + suc n = omega arith in
        ap (λ xs. a ∷ xs) (range_longer (a + 1) n ∙ ap (λ x. range_with_len (a + 1) n ++ x ∷ []) e)

-- the lines of one number more
pub numbered_more : (line : ℕ → List ℕ) (k : ℕ) → flat_map line (range_with_len 0 k) ++ line k ≡ flat_map line (range_with_len 0 (k + 1))
numbered_more line k =
    sym (ap (flat_map line) (numbers_more k) ∙ flat_map-append line (range_with_len 0 k) (k ∷ [])
    ∙ ap (λ ls. flat_map line (range_with_len 0 k) ++ ls) (append-nil (line k)))
