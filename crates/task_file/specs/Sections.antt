-- What the sections of a document give, before names, texts and slots are looked at.
-- This project's own.
use Rattle.std.specs.Prelude.{ℕ, ℤ, Bool, List, Option}
use Rattle.rcp_model.specs.declared.plan.Timing.{Timing}

-- a text for a name, an initial value, and whether the median votes it
pub record RawVariable : Type 0 where
  pub name : List ℕ
  pub initial : ℤ
  pub median : Bool

-- a text for a name, and a text of the task language
pub record RawText : Type 0 where
  pub name : List ℕ
  pub text : List ℕ

-- texts for the names of a slot's tasks and votes
pub record RawSlot : Type 0 where
  pub tasks : List (List ℕ)
  pub votes : List (List ℕ)

-- what the sections of a document give
pub record Sections : Type 0 where
  pub replicas : ℤ
  pub limit : Option ℤ
  pub timing : Timing
  pub sensors : List RawVariable
  pub cells : List RawVariable
  pub tasks : List RawText
  pub slots : List RawSlot
  pub actuators : List RawText
