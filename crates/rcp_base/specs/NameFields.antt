-- How a name is kept: its bytes, and zeros up to 32. This project's own.
use Rattle.std.specs.Prelude.{ℕ, ◌≡◌, ◌≤◌, ◌-◌, List, ◌++◌, take, length, replicate}
use Rattle.std.proofs.Common.{sym, ap, ◌∙◌, arith}
use Rattle.std.proofs.lemmas.List.{length-take-le}
use Rattle.rcp_base.specs.declared.name.Name.TheInside.{Inside}

abbrev pub padded_with_zeros : List ℕ → List ℕ
padded_with_zeros bytes = bytes ++ replicate (32 - length bytes) 0

-- the fields of a name
pub record IsPadded (fields : Inside) : Type 0 where
  pub short : fields.len ≤ 32
  pub zeros : fields.padded ≡ padded_with_zeros (take fields.len fields.padded)
  pub size : length fields.padded ≡ 32

pub fields_come_back : (fields : Inside) → IsPadded fields
    → record { padded = padded_with_zeros (take fields.len fields.padded); len = length (take fields.len fields.padded) } ≡ fields
fields_come_back fields is =
    let make : List ℕ → ℕ → Inside = λ bytes n. record { padded = bytes; len = n } in
    let fits : fields.len ≤ length fields.padded = omega (arith, is.short, is.size) in
    ap (λ bytes. make bytes (length (take fields.len fields.padded))) (sym is.zeros)
    ∙ ap (λ n. make fields.padded n) (length-take-le fields.len fields.padded fits)
