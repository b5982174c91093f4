-- What a document has at a key, and of what type.
-- This project's own.
use Rattle.std.specs.Prelude.{ℕ, ℤ, Bool, true, ◌&&◌, nat_le, List, [], ◌∷◌, length, int_le, Option, Some, None, option_and_then, if◌then◌else◌}
use Rattle.toml.specs.Data.{Data, Items, no_items, item, Members, no_members, member, get_member, as_str, as_integer, as_array, as_table}
use Rattle.rcp_base.specs.Answers.{has_text}

-- the items as a list
abbrev pub items_of : Items → List Data
items_of no_items = []
items_of (item value items) = value ∷ items_of items

-- the value, where it passes a test
abbrev pub where_is : {A : Type 0} → (A → Bool) → A → Option A
where_is passes x = if passes x then Some x else None

-- the list, where it has from the least to the greatest number of items
abbrev pub where_has : {A : Type 0} → ℕ → ℕ → List A → Option (List A)
where_has least greatest list = where_is (λ list. nat_le least (length list) && nat_le (length list) greatest) list

-- the integer at a key
abbrev pub any_integer_at : List ℕ → Members → Option ℤ
any_integer_at key members = option_and_then as_integer (get_member key members)

-- the integer at a key, from the least to the greatest
unfoldable pub integer_at : ℤ → ℤ → List ℕ → Members → Option ℤ
integer_at least greatest key members =
    option_and_then (where_is (λ n. int_le least n && int_le n greatest)) (any_integer_at key members)

-- the text at a key
abbrev pub text_at : List ℕ → Members → Option (List ℕ)
text_at key members = option_and_then as_str (get_member key members)

-- the text at a key, of at most so many bytes
abbrev pub short_text_at : ℕ → List ℕ → Members → Option (List ℕ)
short_text_at most key members = option_and_then (where_is (λ text. nat_le (length text) most)) (text_at key members)

-- the list at a key, with from the least to the greatest number of items
abbrev pub list_at : ℕ → ℕ → List ℕ → Members → Option (List Data)
list_at least greatest key members =
    option_and_then (λ items. where_has least greatest (items_of items)) (option_and_then as_array (get_member key members))

-- the table at a key
abbrev pub table_at : List ℕ → Members → Option Members
table_at key members = option_and_then as_table (get_member key members)

-- each key is one of these
abbrev pub has_only : List (List ℕ) → Members → Bool
has_only keys no_members = true
has_only keys (member key value members) = has_text keys key && has_only keys members
