-- The items of a list and the keys of a table, beside the data that they stand for.
-- This project's own.
use Rattle.std.specs.List.{list_all, list_any}
use Rattle.std.specs.Map.{keys_of}
use Rattle.std.specs.Str.{bytes_eq}
use Rattle.std.proofs.Common.{◌≡◌, ℕ, suc, List, [], ◌∷◌, length, map, Bool, ◌||◌, refl, ap, String, Global, string_bytes}
use Rattle.toml.specs.declared.value.Value.{Value}
use Rattle.toml.specs.View.{view, items_view, members_view}
use Rattle.task_file.specs.Document.{items_of, has_only}

pub items_viewed : (values : List Value) → items_of (items_view values) ≡ map view values
items_viewed [] = refl
items_viewed (v ∷ values) = ap (λ list. view v ∷ list) (items_viewed values)

pub count_viewed : (values : List Value) → length (map view values) ≡ length values
count_viewed [] = refl
count_viewed (v ∷ values) = ap suc (count_viewed values)

-- a test of each of the mapped items
pub any_mapped : {A B : Type 0} (f : A → B) (test : B → Bool) (xs : List A) → list_any (λ x. test (f x)) xs ≡ list_any test (map f xs)
any_mapped f test [] = refl
any_mapped f test (x ∷ xs) = ap (λ b. test (f x) || b) (any_mapped f test xs)

pub each_key_passes : {A : Type 0} (bytes_of : A → List ℕ) (keys : List A) (entries : List (String Global × Value))
    → list_all (λ key. list_any (λ k. bytes_eq (bytes_of k) (string_bytes key)) keys) (keys_of entries) ≡ has_only (map bytes_of keys) (members_view entries)
each_key_passes bytes_of keys [] = refl
each_key_passes bytes_of keys (entry ∷ entries) =
    rw (any_mapped bytes_of (λ k. bytes_eq k (string_bytes entry.0)) keys, each_key_passes bytes_of keys entries)
