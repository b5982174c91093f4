-- Calls that are counted from 1, and those of them that are to fail. This project's own.
use Rattle.std.specs.Prelude.{ℕ, ◌+◌, ◌-◌, ◌^◌, ◌==◌, min, nat_lt, List, [], ◌∷◌, ◌++◌, Option, None, option_map, is_some, if◌then◌else◌}
use Rattle.std.specs.List.{find}
use Rattle.rcp_base.specs.declared.calls.Failure.{Failure}

-- how many calls there were, the failures that are listed, and how many of the calls have failed by them
pub record CallState : Type 0 where
  pub done : ℕ
  pub failures : List Failure
  pub faults : ℕ

-- before the first call, with no failure listed
abbrev pub no_calls : CallState
no_calls = record { done = 0; failures = []; faults = 0 }

-- with one failure more: of this call, after this many bytes
abbrev pub with_failure : CallState → ℕ → ℕ → CallState
with_failure calls call after = record calls { failures = calls.failures ++ (record { call = call; after = after }) ∷ [] }

-- one more, up to the last u64
abbrev pub one_more : ℕ → ℕ
one_more n = min (n + 1) (2 ^ 64 - 1)

-- after how many bytes a call fails by the failure that is listed first for it, if there is one
abbrev pub first_failure : List Failure → ℕ → Option ℕ
first_failure failures call = option_map (λ failure. failure.after) (find (λ failure. failure.call == call) failures)

-- the same, where no call past the last u32 fails
abbrev pub failure_at : List Failure → ℕ → Option ℕ
failure_at failures call = if nat_lt call (2 ^ 32) then first_failure failures call else None

-- after how many bytes the next call fails, if it does
abbrev pub next_failure : CallState → Option ℕ
next_failure calls = failure_at calls.failures (one_more calls.done)

-- after one more call: the count of faults rises where that call fails, and nowhere else
abbrev pub after_call : CallState → CallState
after_call calls =
    record calls {
      done = one_more calls.done;
      faults = if is_some (next_failure calls) then one_more calls.faults else calls.faults;
    }
