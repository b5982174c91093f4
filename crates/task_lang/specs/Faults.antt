-- Where a text goes wrong, by what the grammar permits alone.
-- This project's own.
use Rattle.std.specs.Prelude.{ℕ, ◌+◌, ◌-◌, ◌<◌, ◌≤◌, ◌≡◌, List, ◌++◌, length, take, slice_index_or, Result, Ok, Err}
use Rattle.task_lang.specs.declared.token.Token.{Token}
use Rattle.task_lang.specs.Tokens.{tokens_of, lefts_of}

-- the tokens are the front of permitted ones
abbrev pub Begins : {X : Type 0} → (List Token → X → Type 0) → List Token → Type 0
Begins {X} Permits tokens = (more : List Token) × (x : X) × Permits (tokens ++ more) x

-- the tokens are not permitted, and the token behind the first n is the first with which no permitted list goes on;
-- or all of them are the front of a permitted list, and n is how many they are
pub record IsFaultAt {X : Type 0} (Permits : List Token → X → Type 0) (tokens : List Token) (n : ℕ) : Type 0 where
  pub within : n ≤ length tokens
  pub before : Begins Permits (take n tokens)
  pub there : n < length tokens → Begins Permits (take (n + 1) tokens) → ⊥
  pub unread : (x : X) → Permits tokens x → ⊥

-- the one tree of the tokens, or how many tokens are left at the fault
abbrev pub Answers : {X : Type 0} → (List Token → X → Type 0) → List Token → Result X ℕ → Type 0
Answers {X} Permits tokens (Ok x) = Permits tokens x × ((y : X) → Permits tokens y → y ≡ x)
Answers Permits tokens (Err left) = (left ≤ length tokens) × IsFaultAt Permits tokens (length tokens - left)

-- the byte where the token at the fault begins, or the text's length where no token stands there
abbrev pub IsFaultAtByte : {X : Type 0} → (List Token → X → Type 0) → List ℕ → ℕ → Type 0
IsFaultAtByte Permits text byte =
    (n : ℕ) × IsFaultAt Permits (tokens_of text) n × (byte + slice_index_or (lefts_of text) n 0 ≡ length text)
