-- Slots that are voted as whole numbers. This project's own.
use Rattle.std.specs.Prelude.{◌<◌, ℕ, ℤ, pos, ◌≤ℤ◌, IfSome, length, List, slice_index_or, Option, None}

-- a number that a message may name as a slot
abbrev pub IsSlotNumber : ℤ → Type 0
IsSlotNumber x = (pos 0 ≤ℤ x) × (x ≤ℤ pos 4_294_967_295)

-- each place names such a number or none
abbrev pub AreSlotNumbers : List (Option ℤ) → Type 0
AreSlotNumbers places =
    (k : ℕ) → k < length places → IfSome (slice_index_or places k None) IsSlotNumber
