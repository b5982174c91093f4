-- A table that grows by a place.
use Rattle.std.proofs.Common.{◌≡◌, ℕ, ◌+◌, List, [], ◌∷◌, ◌++◌, sym, ◌∙◌, ap}
use Rattle.rcp_base.specs.Tables.{table}
use Rattle.rcp_base.proofs.TableLaws.{table_more}

pub grown : {X : Type 0} (new old : List X) (n : ℕ) (f : ℕ → X) → old ≡ table n f → new ≡ old ++ f n ∷ [] → new ≡ table (n + 1) f
grown new old n f so_far more = more ∙ ap (λ xs. xs ++ f n ∷ []) so_far ∙ sym (table_more n f)
