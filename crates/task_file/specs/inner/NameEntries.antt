-- The entries of a list of names: a text, and the name that it is.
-- This project's own.
use Rattle.std.specs.Prelude.{ℕ, ◌≡◌, List, map}
use Rattle.std.specs.Borrow.{Bor}
use Rattle.std.specs.Map.{values_of}

-- a text beside a name
abbrev pub Entry : Type 0
Entry = Bor (List ℕ) × List ℕ

-- the texts
abbrev pub entry_texts : List Entry → List (List ℕ)
entry_texts entries = map (λ entry. entry.0.now) entries

-- each name is its text
abbrev pub AreTheirTexts : List Entry → Type 0
AreTheirTexts entries = values_of entries ≡ entry_texts entries
