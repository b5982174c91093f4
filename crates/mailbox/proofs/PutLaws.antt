-- What a table by number has at its numbers, once another value is put at one of them.
use Rattle.std.proofs.Common.{◌≡◌, ◌≢◌, ℕ, ◌<◌, ◌==◌, ◌⊎◌, inl, inr, Bool, true, false, cond, List, length, get_or, set, get_or-set_same, get_or-set_other, refl, sym, ap, ◌∙◌}
use Rattle.std.proofs.Math.Path.{fun_ext}
use Rattle.std.proofs.lemmas.Bool.{cases_eq, eqb-true, eq-eqb, ne_eqb}
use Rattle.mailbox.specs.Mailboxes.{put}

-- what holds of true where two numbers are equal, and of false, holds of the test whether they are
pub by_place : (P : Bool → Type 0) (number place : ℕ)
    → (number ≡ place → P true) → P false → P (number == place)
by_place P number place here there = go (number == place) refl
  where
    go : (test : Bool) → (number == place) ≡ test → P test
    go true e = here (eqb-true number place e)
    go false e = there

pub put_same : {A : Type 0} (values : ℕ → A) (place : ℕ) (value : A)
    → put values place value place ≡ value
put_same values place value =
    ap (λ test. cond test value (values place)) (eq-eqb place place refl)

pub put_other : {A : Type 0} (values : ℕ → A) (place : ℕ) (value : A) (number : ℕ)
    → number ≢ place → put values place value number ≡ values number
put_other values place value number other =
    ap (λ test. cond test value (values number)) (ne_eqb number place other)

-- a list with another item at one place, read by number
pub get_or-set : {A : Type 0} (items : List A) (place : ℕ) (item d : A) → place < length items
    → (λ number. get_or (set items place item) number d)
    ≡ put (λ number. get_or items number d) place item
get_or-set {A = A} items place item d within = fun_ext (λ number. go number (cases_eq number place))
  where
    seen : ℕ → A
    seen number = get_or items number d

    go : (number : ℕ) → (number ≡ place) ⊎ (number ≢ place)
        → get_or (set items place item) number d ≡ put seen place item number
    go number (inl e) =
        ap (λ k. get_or (set items place item) k d) e ∙ get_or-set_same items place item d within
        ∙ sym (put_same seen place item) ∙ ap (put seen place item) (sym e)
    go number (inr other) =
        get_or-set_other items place number item d other
        ∙ sym (put_other seen place item number other)
