-- What the crates above may cite of the thinned graph.
use Rattle.std.proofs.Common.{◌≡◌, Option, ℕ, false, ◌∙◌, sym, arith}
use Rattle.std.proofs.lemmas.Bool.{both_ways}
use Rattle.rcp_model.specs.Levels.{has_cycle}
use Rattle.rcp_model.specs.Walk.{Graph}
use Rattle.rcp_model.specs.Thinning.{thinned}
use Rattle.task_graph.specs.Rows.{Rows, AreFeedsOf}
use Rattle.rcp_model.proofs.ShownLaws.{cycle_found, none_found}
use Rattle.pattern_thinning.proofs.AfterLemmas.{thinned_alike}
use Rattle.pattern_thinning.proofs.NeedLemmas.{thinned_is_lean}

-- the same cells feed the same cells as before
pub thinned_feeds : (limit : Option ℕ) (g : Graph) (rows : Rows) → AreFeedsOf g rows → AreFeedsOf (thinned limit g) rows
thinned_feeds limit g rows are =
    let alike = thinned_alike limit g in
    record {
      slots = are.slots ∙ sym alike.slots;
      cells = are.cells ∙ sym alike.cells;
      needs = λ slot cell from p q r.
          are.needs slot cell from (omega (arith, p, alike.slots)) (omega (arith, q, alike.cells)) (omega (arith, r, alike.cells))
          ∙ sym (alike.feeds slot from cell (omega (arith, p, alike.slots)) (omega (arith, r, alike.cells)) (omega (arith, q, alike.cells)));
    }

-- where there is no unvoted cycle, thinning leaves none
pub thinned_none : (limit : Option ℕ) (g : Graph) → has_cycle g ≡ false → has_cycle (thinned limit g) ≡ false
thinned_none limit g none =
    none_found (thinned limit g) (thinned_is_lean limit g (λ nodes cycle. both_ways (has_cycle g) none (cycle_found g nodes cycle))).no_cycle
