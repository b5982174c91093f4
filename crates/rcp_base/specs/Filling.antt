-- Lists that a loop fills, place by place. This project's own.
use Rattle.std.specs.Prelude.{◌≡◌, ◌<◌, ◌≤◌, ℕ, List, length, slice_index_or}

-- of n places the first i have the values of a function, and the others are as they were
pub record Filled {X : Type 0} (n : ℕ) (f : ℕ → X) (d : X) (old new : List X) (i : ℕ) : Type 0 where
  pub size : length new ≡ n
  pub done : (k : ℕ) → k < i → slice_index_or new k d ≡ f k
  pub rest : (k : ℕ) → i ≤ k → slice_index_or new k d ≡ slice_index_or old k d
