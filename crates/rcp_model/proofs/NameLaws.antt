-- Names with one more among them.
use Rattle.std.proofs.Common.{◌≡◌, ◌≢◌, ℕ, List, [], ◌∷◌, ◌++◌, true, refl, ap, ◌∙◌, arith}
use Rattle.std.specs.Prelude.{All, ◌&&◌}
use Rattle.std.proofs.lemmas.List.Folds.{list_all-append}
use Rattle.std.proofs.lemmas.List.Quantifiers.{all_pairs_push}
use Rattle.rcp_base.specs.Name.{is_name}
use Rattle.rcp_model.specs.Plan.{AreNames}

pub no_names : AreNames []
no_names = record { each = refl; distinct = λ i j d less below. absurd (omega arith) }

-- a new name behind them
pub names_more : (names : List (List ℕ)) (name : List ℕ) → AreNames names → is_name name ≡ true → All (λ other. other ≢ name) names → AreNames (names ++ name ∷ [])
names_more names name are is new = record {
  each = list_all-append is_name names (name ∷ []) ∙ (ap (λ b. b && (is_name name && true)) are.each ∙ ap (λ b. b && true) is);
  distinct = all_pairs_push (λ a b. a ≢ b) names name are.distinct new;
}
