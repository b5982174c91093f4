-- The numbers of the cells that the median votes.
-- This project's own.
use Rattle.std.proofs.Common.{◌≡◌, ℕ, ◌+◌, ◌<◌, ◌≤◌, Bool, true, false, List, [], ◌∷◌, length, arith}
use Rattle.std.specs.Prelude.{All, AllPairs, if◌then◌else◌}
use Rattle.std.proofs.lemmas.List.Elements.{All-nil, All-cons, All-weaker}
use Rattle.std.proofs.lemmas.List.Kept.{AllPairs-cons}
use Rattle.rcp_model.specs.Plan.{AreMedians}
use Rattle.task_file.specs.declared.sections.RawVariable as code
use Rattle.task_file.specs.Sections.{RawVariable}
use Rattle.task_file.specs.TaskFile.{medians_from}

-- numbers from i on, below n, that rise
record RiseFrom (i n : ℕ) (numbers : List ℕ) : Type 0 where
  above : All (λ number. i ≤ number) numbers
  below : All (λ number. number < n) numbers
  rising : AllPairs (λ a b. a < b) numbers

rise_none : (i n : ℕ) → RiseFrom i n []
rise_none i n = record {
  above = All-nil (λ number. i ≤ number);
  below = All-nil (λ number. number < n);
  rising = λ j k d order within. omega arith;
}

rise_sooner : (i n : ℕ) (numbers : List ℕ) → RiseFrom (i + 1) n numbers → RiseFrom i n numbers
rise_sooner i n numbers rise = record {
  above = All-weaker (λ number. i + 1 ≤ number) (λ number. i ≤ number) (λ x later. omega arith) numbers rise.above;
  below = rise.below;
  rising = rise.rising;
}

rise_more : (i n : ℕ) (numbers : List ℕ) → i < n → RiseFrom (i + 1) n numbers → RiseFrom i n (i ∷ numbers)
rise_more i n numbers within rise =
    let sooner = rise_sooner i n numbers rise in
    record {
      above = All-cons (λ number. i ≤ number) i numbers (omega arith) sooner.above;
      below = All-cons (λ number. number < n) i numbers within rise.below;
      rising = AllPairs-cons (λ a b. a < b) i numbers
          (All-weaker (λ number. i + 1 ≤ number) (λ number. i < number) (λ x later. omega arith) numbers rise.above) rise.rising;
    }

medians_rise : (i n : ℕ) (raws : List RawVariable) → i + length raws ≤ n → RiseFrom i n (medians_from i raws)
medians_rise i n [] within = rise_none i n
medians_rise i n (raw ∷ raws) within = by_case raw.median (medians_rise (i + 1) n raws (omega arith))
  where
    by_case : (median : Bool) → RiseFrom (i + 1) n (medians_from (i + 1) raws)
        → RiseFrom i n (if median then i ∷ medians_from (i + 1) raws else medians_from (i + 1) raws)
    by_case true later = rise_more i n (medians_from (i + 1) raws) (omega arith) later
    by_case false later = rise_sooner i n (medians_from (i + 1) raws) later

-- the cells of a file give rising numbers of its cells
pub are_medians : (raws : List RawVariable) (cells : ℕ) → length raws ≡ cells → AreMedians cells (medians_from 0 raws)
are_medians raws cells counted =
    let rise = medians_rise 0 cells raws (omega arith) in
    record { there = rise.below; rising = rise.rising }
