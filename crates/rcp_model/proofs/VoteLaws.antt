-- What is told of majorities and medians is what their definitions as statements say.
use Rattle.std.proofs.Common.{◌≡◌, nat_eq, Bool, List, Option, Decides, sym, ◌∙◌}
use Rattle.std.specs.Ordering.{int_eq}
use Rattle.std.proofs.lemmas.Bool.Decides.{Decides-eqb, Decides-int_eq}
use Rattle.std.proofs.lemmas.Option.{none-some}
use Rattle.rcp_base.proofs.MajorityLaws.{majority_is, majority_none, voted_has_majority}
use Rattle.rcp_base.proofs.MedianLaws.{median_is, median_tells, median_none, none_median}
use Rattle.rcp_model.specs.VoteLaws.{TellsMajority, MajoritiesAreTold, MediansAreTold}

tells_majority : {X : Type 0} (same : X → X → Bool) → ((x y : X) → Decides (same x y) (x ≡ y)) → (places : List (Option X)) → TellsMajority same places
tells_majority same decides places = record {
  some = λ value. (voted_has_majority same places value, majority_is same decides places value);
  none = (
    λ none value many. none-some value (sym none ∙ majority_is same decides places value many),
    majority_none same places,
  );
}

pub majorities_told : MajoritiesAreTold
majorities_told = (tells_majority int_eq Decides-int_eq, tells_majority nat_eq Decides-eqb)

pub medians_told : MediansAreTold
medians_told places = record {
  some = λ value. (median_tells places value, median_is places value);
  none = (median_none places, none_median places);
}
