use Rattle.std.proofs.Common.{◌≡◌, refl, replicate, rules}
use Rattle.std.proofs.lemmas.List.{get_or-replicate}
use Rattle.fault_journal.proofs.seen.Seen.new.Goals as goal

pub returns : goal.returns
returns c =
    let fresh : c.in_ok-vec.field-0.items ≡ replicate 62_208 0 = c.in_ok-vec.ensures.items_if_clones_equal (λ other is. search rules) in
    record {
      last = refl;
      falls = tt;
      places = search rules;
      stamps = λ place below. rw fresh (get_or-replicate 62_208 place 0 0 below);
    }
