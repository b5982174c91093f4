-- A loop that fills a list, place by place, with the values of a function.
use Rattle.std.proofs.Common.{◌≡◌, ◌≢◌, ℕ, ◌+◌, ◌<◌, ◌≤◌, List, map, length, get_or, set, length-set, below_more, get_or-set_other, get_or-set_same, refl, ap, ◌∙◌, arith}
use Rattle.std.proofs.lemmas.List.{map-set, length-map, get_or-map}
use Rattle.std.proofs.lemmas.List.FromFn.{fill_by_all}
use Rattle.rcp_base.specs.Filling.{Filled}
use Rattle.rcp_base.specs.Tables.{table}
use Rattle.rcp_base.proofs.TableLaws.{get_or-table, length-table}

-- a list with f of each place is the table of f
pub is_table : {X : Type 0} (n : ℕ) (f : ℕ → X) (xs : List X) (d : X) → length xs ≡ n → ((k : ℕ) → k < n → get_or xs k d ≡ f k) → xs ≡ table n f
unfolding table
is_table n f xs d l each = fill_by_all f xs n d l each

pub filled_more : {X : Type 0} (n : ℕ) (f : ℕ → X) (d : X) (old new : List X) (i : ℕ) (x : X) → Filled n f d old new i → i < n → x ≡ f i → Filled n f d old (set new i x) (i + 1)
filled_more n f d old new i x h lt e = record {
  size = length-set new i x ∙ h.size;
  done = below_more (λ k. get_or (set new i x) k d ≡ f k) i (λ k l. let ne : k ≢ i = omega arith in get_or-set_other new i k x d ne ∙ h.done k l) (get_or-set_same new i x d (omega (arith, h.size)) ∙ e);
  rest = λ k l. let ne : k ≢ i = omega arith in get_or-set_other new i k x d ne ∙ h.rest k (omega arith);
}

pub filled_all : {X : Type 0} (n : ℕ) (f : ℕ → X) (d : X) (old new : List X) (i : ℕ) → Filled n f d old new i → n ≤ i → new ≡ table n f
filled_all n f d old new i h le = is_table n f new d h.size (λ k lt. h.done k (omega arith))

-- the same where places are seen through a function
pub filled_seen : {A X : Type 0} (see : A → X) (n : ℕ) (f : ℕ → X) (d : X) (old : List X) (new : List A) (i : ℕ) (a : A) → Filled n f d old (map see new) i → i < n → see a ≡ f i → Filled n f d old (map see (set new i a)) (i + 1)
filled_seen see n f d old new i a h lt e = rw (map-set see new i a) (filled_more n f d old (map see new) i (see a) h lt e)

-- two tables are the same whose functions agree
pub table_agree : {X : Type 0} (n : ℕ) (f g : ℕ → X) (d : X) → ((k : ℕ) → k < n → f k ≡ g k) → table n f ≡ table n g
table_agree n f g d h = is_table n g (table n f) d (length-table n f) (λ k lt. get_or-table n f k d lt ∙ h k lt)

-- a function over a table is a table
pub map-table : {X Y : Type 0} (g : X → Y) (n : ℕ) (f : ℕ → X) (d : X) (e : Y) → map g (table n f) ≡ table n (λ k. g (f k))
map-table g n f d e = is_table n (λ k. g (f k)) (map g (table n f)) e (length-map (table n f) g ∙ length-table n f)
    (λ k lt. get_or-map g (table n f) k d e (omega (arith, lt, length-table n f)) ∙ ap g (get_or-table n f k d lt))
