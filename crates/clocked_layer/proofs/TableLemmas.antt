-- Tables with one place changed, and what a test chooses.
use Rattle.std.proofs.Common.{◌≡◌, ℕ, Bool, true, false, cond, ◌&&◌, not, Option, Some, None, ◌==◌, refl, sym}
use Rattle.clocked_layer.specs.Block.{put_pair}
use Rattle.mailbox.proofs.PutLaws.{by_place}
use Rattle.rcp_base.specs.Tables.{table}

-- by whether two pairs of numbers are one
pub by_both_places : (P : Bool → Type 0) (a i b j : ℕ) → (a ≡ i → b ≡ j → P true) → P false
    → P ((a == i) && (b == j))
by_both_places P a i b j here there =
    by_place (λ t. P (t && (b == j))) a i (λ e. by_place P b j (here e) there) there

-- a table that is empty where it is marked stays so where both change at one pair
pub pair_emptied : {A : Type 0} (table old : ℕ → ℕ → Option A) (marks : ℕ → ℕ → Bool) (i j : ℕ)
    → ((a b : ℕ) → table a b ≡ cond (marks a b) None (old a b))
    → (a b : ℕ) → put_pair table i j None a b ≡ cond (put_pair marks i j true a b) None (old a b)
pair_emptied table old marks i j kept a b =
    by_both_places (λ t. cond t None (table a b) ≡ cond (cond t true (marks a b)) None (old a b))
    a i b j (λ _ _. refl) (kept a b)

-- nothing, where there is nothing to choose
pub none_where : {A : Type 0} (t : Bool) (x : Option A) → (t ≡ true → x ≡ None)
    → cond t x None ≡ None
none_where true x h = h refl
none_where false x h = refl

pub some_when : {A : Type 0} (t : Bool) (x y : A) → cond t (Some x) None ≡ Some y
    → (t ≡ true) × (x ≡ y)
some_when true x y h = (refl, cc)
some_when false x y h = (cc, cc)

-- two tests, one in the other
pub cond_and : {A : Type 0} (a b : Bool) (x : Option A)
    → cond b (cond a x None) None ≡ cond (a && b) x None
cond_and true b x = refl
cond_and false b x = none_where b None (λ _. refl)

-- one test twice
pub cond_twice : {A : Type 0} (t : Bool) (x y z : A) → cond t (cond t x y) z ≡ cond t x z
cond_twice true x y z = refl
cond_twice false x y z = refl

pub cond_not : {A : Type 0} (t : Bool) (x : Option A) → cond (not t) None x ≡ cond t x None
cond_not true x = refl
cond_not false x = refl

-- nothing, whatever the tests say
pub none_both : {A : Type 0} (t u : Bool) → cond t None (cond {A = Option A} u None None) ≡ None
none_both true u = refl
none_both false u = none_where u None (λ _. refl)

-- two tests that hold together
pub tests_agree : (t u : Bool) → (u ≡ true → t ≡ true) → (t ≡ true → u ≡ true) → t ≡ u
tests_agree true u there back = sym (back refl)
tests_agree false true there back = there refl
tests_agree false false there back = refl
