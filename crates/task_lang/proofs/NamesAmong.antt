-- A name that is among others, and one that is not.
use Rattle.std.proofs.Common.{◌≡◌, ◌≢◌, ℕ, ◌<◌, List, length, Bool, true, false, cond, Option, Some, None, refl, sym, arith}
use Rattle.std.specs.Prelude.{is_some, unwrap_or, not, nat_lt, slice_index_or, All}
use Rattle.std.specs.List.{prefix_len}
use Rattle.std.specs.Str.{bytes_eq}
use Rattle.std.proofs.lemmas.Bool.{ltb-false}
use Rattle.std.proofs.lemmas.List.Sums.{prefix_len_passes}
use Rattle.std.proofs.lemmas.Slice.Eq.{bytes_eq-Decides}
use Rattle.rcp_base.specs.Answers.{place_in}
use Rattle.task_lang.specs.NameFaults.{has_name}
use Rattle.task_lang.specs.Printing.{name_at}
use Rattle.task_lang.proofs.NamingLemmas.{name_at_place, place_within}

-- a name that is among none is another than each
pub none_among : (names : List (List ℕ)) (name : List ℕ) → has_name names name ≡ false → All (λ other. other ≢ name) names
none_among names name none k d below same = by_case (nat_lt (prefix_len test names) (length names)) refl none
  where
    test : List ℕ → Bool
    test other = not (bytes_eq name other)

    by_case : (b : Bool) → nat_lt (prefix_len test names) (length names) ≡ b → is_some (cond b (Some (prefix_len test names)) None) ≡ false → ⊥
    by_case true less none = cc
    by_case false less none =
        let passes : test (slice_index_or names k d) ≡ true = prefix_len_passes test names k d (omega (arith, ltb-false (prefix_len test names) (length names) less)) in
        let equal : bytes_eq name (slice_index_or names k d) ≡ true = (bytes_eq-Decides name (slice_index_or names k d)).1 (sym same) in
        cc

-- a cell by its name
pub record IsCellOf (cells : List (List ℕ)) (name : List ℕ) (cell : ℕ) : Type 0 where
  pub there : cell < length cells
  pub named : name_at cells cell ≡ name

pub cell_of_name : (cells : List (List ℕ)) (name : List ℕ) → has_name cells name ≡ true → IsCellOf cells name (unwrap_or (place_in cells name) 0)
cell_of_name cells name among = by_place (place_in cells name) refl among
  where
    by_place : (found : Option ℕ) → place_in cells name ≡ found → is_some found ≡ true → IsCellOf cells name (unwrap_or found 0)
    by_place (Some i) is some = record { there = place_within cells name i is; named = name_at_place cells name i is }
    by_place None is some = cc
