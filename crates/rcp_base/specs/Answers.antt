-- The words that readers share: tests in their order, of which the first that fails is the answer.
-- This project's own.
use Rattle.std.specs.Prelude.{ℕ, ◌+◌, ◌==◌, ℤ, pos, negsuc, ◌≡◌, ⊤, List, [], ◌∷◌, position, Bool, true, false, Option, Some, None, Result, Ok, Err, if◌then◌else◌}
use Rattle.std.specs.List.{list_any}
use Rattle.std.specs.Str.{bytes_eq}

infixl 10 ◌>>=◌
-- goes on with what was read
abbrev pub ◌>>=◌ : {A B F : Type 0} → Result A F → (A → Result B F) → Result B F
(Ok x) >>= next = next x
(Err fault) >>= next = Err fault

-- what there is, or a fault
abbrev pub found_or : {A F : Type 0} → F → Option A → Result A F
found_or fault (Some x) = Ok x
found_or fault None = Err fault

-- the value where a test passes, or a fault
abbrev pub where_passes : {A F : Type 0} → F → Bool → A → Result A F
where_passes fault passes x = if passes then Ok x else Err fault

-- nothing, or the fault that there is
abbrev pub unless_fault : {F : Type 0} → Option F → Result (List ℕ) F
unless_fault None = Ok []
unless_fault (Some fault) = Err fault

-- the first fault of two
abbrev pub first_fault : {F : Type 0} → Option F → Option F → Option F
first_fault (Some fault) later = Some fault
first_fault None later = later

-- each item of a list in order, by its number
abbrev pub each_from : {A B F : Type 0} → (ℕ → A → Result B F) → ℕ → List A → Result (List B) F
each_from read i [] = Ok []
each_from read i (x ∷ xs) = do
  y ← read i x
  ys ← each_from read (i + 1) xs
  Ok (y ∷ ys)

-- the fault is the definition's, or it is that memory ran out
abbrev pub IsFaultOr : {A F : Type 0} → Bool → F → Result A F → Type 0
IsFaultOr true fault said = ⊤
IsFaultOr false fault said = said ≡ Err fault

-- a reader answered what the definition says, seen by view, or that memory ran out, as the test tells of a fault
abbrev pub Gives : {A B F : Type 0} → (F → Bool) → (A → B) → Result A F → Result B F → Type 0
Gives is_memory view (Ok x) said = said ≡ Ok (view x)
Gives is_memory view (Err fault) said = IsFaultOr (is_memory fault) fault said

-- a whole number that is not below 0
abbrev pub natural_of : ℤ → ℕ
natural_of (pos n) = n
natural_of (negsuc n) = 0

-- the number stands in a list
abbrev pub has_number : List ℕ → ℕ → Bool
has_number numbers number = list_any (λ n. n == number) numbers

-- the text stands in a list
abbrev pub has_text : List (List ℕ) → List ℕ → Bool
has_text texts text = list_any (λ other. bytes_eq other text) texts

-- the place of the first text in a list that is this one
abbrev pub place_in : List (List ℕ) → List ℕ → Option ℕ
place_in texts text = position (bytes_eq text) texts
