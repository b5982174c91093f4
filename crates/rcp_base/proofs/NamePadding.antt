-- Bytes that were copied to the front of 32 zeros are padded with zeros.
use Rattle.std.proofs.Common.{◌≡◌, ℕ, ◌≤◌, ◌+◌, ◌-◌, List, ◌++◌, length, take, drop, replicate, sym, ap, ◌∙◌, arith, length-append}
use Rattle.std.proofs.Math.Seq.{take-append_seam}
use Rattle.std.proofs.lemmas.List.{length-replicate, drop-replicate}
use Rattle.rcp_base.specs.NameFields.{IsPadded}

-- the same at any size, since a numeral would compute
padded_to : (n size : ℕ) (bytes : List ℕ) → length bytes ≡ n → n ≤ size
    → (bytes ++ drop n (replicate size 0) ≡ take n (bytes ++ drop n (replicate size 0)) ++ replicate (size - length (take n (bytes ++ drop n (replicate size 0)))) 0)
    × (length (bytes ++ drop n (replicate size 0)) ≡ size)
padded_to n size bytes is short =
    let zeros : List ℕ = drop n (replicate size 0) in
    let front : take n (bytes ++ zeros) ≡ bytes = ap (λ k. take k (bytes ++ zeros)) (sym is) ∙ take-append_seam bytes zeros in
    let left : zeros ≡ replicate (size - n) 0 = drop-replicate n size 0 in
    let pad : List ℕ → List ℕ = λ text. text ++ replicate (size - length text) 0 in (
      ap (λ rest. bytes ++ rest) (left ∙ ap (λ k. replicate (size - k) 0) (sym is)) ∙ ap pad (sym front),
      length-append bytes zeros ∙ (ap (λ rest. length bytes + length rest) left ∙ (ap (λ k. length bytes + k) (length-replicate (size - n) 0) ∙ omega arith)),
    )

pub copied_is_padded : (n : ℕ) (bytes : List ℕ) → length bytes ≡ n → n ≤ 32 → IsPadded (record { padded = bytes ++ drop n (replicate 32 0); len = n })
copied_is_padded n bytes is short =
    let padded = padded_to n 32 bytes is short in
    record { short = short; zeros = padded.0; size = padded.1 }
