-- What an answer without a fault says of the steps that it is made of.
-- This project's own.
use Rattle.std.proofs.Common.{◌≡◌, ℕ, suc, ◌+◌, Bool, true, false, List, [], ◌∷◌, length, map, Option, Some, None, Result, Ok, Err, refl, sym, ap, ◌∙◌, subst}
use Rattle.std.specs.Prelude.{All}
use Rattle.std.proofs.lemmas.List.Elements.{All-nil, All-cons, All-head, All-tail}
use Rattle.rcp_base.specs.Answers.{◌>>=◌, found_or, where_passes, unless_fault, first_fault, each_from}

-- the parts of a step that went well
pub then_ok : {A B F : Type 0} (said : Result A F) (next : A → Result B F) (y : B)
    → (said >>= next) ≡ Ok y → (x : A) × (said ≡ Ok x) × (next x ≡ Ok y)
then_ok (Ok x) next y is = (x, refl, is)
then_ok (Err fault) next y is = cc

pub passes_ok : {A F : Type 0} (fault : F) (passes : Bool) (x y : A) → where_passes fault passes x ≡ Ok y → x ≡ y
passes_ok fault true x y is = cc
passes_ok fault false x y is = cc

pub found_ok : {A F : Type 0} (fault : F) (found : Option A) (x : A) → found_or fault found ≡ Ok x → found ≡ Some x
found_ok fault (Some y) x is = cc
found_ok fault None x is = cc

-- no fault was found
pub none_found : {F : Type 0} (found : Option F) (x : List ℕ) → unless_fault found ≡ Ok x → found ≡ None
none_found None x is = refl
none_found (Some fault) x is = cc

pub neither_found : {F : Type 0} (first second : Option F) → first_fault first second ≡ None → (first ≡ None) × (second ≡ None)
neither_found None second is = (refl, is)
neither_found (Some fault) second is = cc

module _ {A B F : Type 0} (read : ℕ → A → Result B F) where
  -- one item, and those after it
  record IsCut (i : ℕ) (x : A) (xs : List A) (ys : List B) : Type 0 where
    first : B
    others : List B
    first_read : read i x ≡ Ok first
    others_read : each_from read (i + 1) xs ≡ Ok others
    all : ys ≡ first ∷ others

  cut_off : (i : ℕ) (x : A) (xs : List A) (ys : List B) → each_from read i (x ∷ xs) ≡ Ok ys → IsCut i x xs ys
  cut_off i x xs ys is =
      let (y, first, left) = then_ok (read i x) _ ys is in
      let (rest, others, end) = then_ok (each_from read (i + 1) xs) _ ys left in
      record { first = y; others = rest; first_read = first; others_read = others; all = cc }

  none_read : (i : ℕ) (ys : List B) → each_from read i [] ≡ Ok ys → ys ≡ []
  none_read i ys is = cc

  -- as many are read as there are
  pub as_many_read : (i : ℕ) (xs : List A) (ys : List B) → each_from read i xs ≡ Ok ys → length ys ≡ length xs
  as_many_read i [] ys is = ap length (none_read i ys is)
  as_many_read i (x ∷ xs) ys is =
      let cut = cut_off i x xs ys is in
      ap length cut.all ∙ ap suc (as_many_read (i + 1) xs cut.others cut.others_read)

  -- what is the same of each item that is read is the same of all
  pub same_read : {N : Type 0} (old : A → N) (new : B → N) → ((i : ℕ) (x : A) (y : B) → read i x ≡ Ok y → new y ≡ old x)
      → (i : ℕ) (xs : List A) (ys : List B) → each_from read i xs ≡ Ok ys → map new ys ≡ map old xs
  same_read old new same i [] ys is = ap (map new) (none_read i ys is)
  same_read old new same i (x ∷ xs) ys is =
      let cut = cut_off i x xs ys is in
      ap (map new) cut.all
      ∙ (ap (λ n. n ∷ map new cut.others) (same i x cut.first cut.first_read)
      ∙ ap (λ list. old x ∷ list) (same_read old new same (i + 1) xs cut.others cut.others_read))

  -- what follows for each item that is read follows for all
  pub all_follow : (P : A → Type 0) (Q : B → Type 0) → ((i : ℕ) (x : A) (y : B) → P x → read i x ≡ Ok y → Q y)
      → (i : ℕ) (xs : List A) (ys : List B) → All P xs → each_from read i xs ≡ Ok ys → All Q ys
  all_follow P Q follows i [] ys all is = subst (All Q) (sym (none_read i ys is)) (All-nil Q)
  all_follow P Q follows i (x ∷ xs) ys all is =
      let cut = cut_off i x xs ys is in
      subst (All Q) (sym cut.all)
      (All-cons Q cut.first cut.others (follows i x cut.first (All-head P x xs all) cut.first_read)
      (all_follow P Q follows (i + 1) xs cut.others (All-tail P x xs all) cut.others_read))

  -- what holds of each that is read holds of all
  pub all_read : (Q : B → Type 0) → ((i : ℕ) (x : A) (y : B) → read i x ≡ Ok y → Q y)
      → (i : ℕ) (xs : List A) (ys : List B) → each_from read i xs ≡ Ok ys → All Q ys
  all_read Q each i [] ys is = subst (All Q) (sym (none_read i ys is)) (All-nil Q)
  all_read Q each i (x ∷ xs) ys is =
      let cut = cut_off i x xs ys is in
      subst (All Q) (sym cut.all)
      (All-cons Q cut.first cut.others (each i x cut.first cut.first_read) (all_read Q each (i + 1) xs cut.others cut.others_read))
