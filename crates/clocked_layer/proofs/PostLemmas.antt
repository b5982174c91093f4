-- Places for letters, read as a table by receiver and sender.
use Rattle.std.proofs.Common.{◌≡◌, ◌≢◌, ℕ, ◌+◌, ◌<◌, ◌≤◌, Bool, true, false, cond, ◌&&◌, not, ◌==◌, nat_lt, List, [], length, get_or, set, length-set, Option, None, ◌⊎◌, inl, inr, Vec, refl, sym, ap, ap₂, ◌∙◌, subst, arith, ltb-true, ltb-false, lt-ltb, eq-eqb, eqb-true, ne_eqb}
use Rattle.std.proofs.Math.Path.{fun_ext}
use Rattle.std.proofs.lemmas.Bool.{cases_eq, cases_lt, and_from, and_parts, both_ways, cond-false}
use Rattle.std.proofs.lemmas.List.{get_or-map, get_or_past, length-map, map-set}
use Rattle.std.proofs.lemmas.List.Elements.{All-set}
use Rattle.std.specs.Global.{Global}
use Rattle.std.specs.Vec.{with_item}
use Rattle.clocked_layer.proofs.TableLemmas.{tests_agree}
use Rattle.clocked_layer.specs.Block.{put_column, put_pair}
use Rattle.mailbox.proofs.PutLaws.{by_place, get_or-set}
use Rattle.rcp_base.proofs.TableLaws.{get_or-table, length-table}
use Rattle.rcp_base.specs.Message.{Content}
use Rattle.rcp_base.specs.Tables.{table}
use Rattle.rcp_model.specs.FrameRows.{FrameRows, is_dropped}
use Rattle.rcp_model.specs.Messages.{Letter, goes_out, is_up, letter_to}
use Rattle.rcp_model.specs.declared.plan.PlanParts.{PlanParts}
use Rattle.replica_parts.specs.Places.{letter_in, letter_rows, letters_in, post_at}
use Rattle.replica_parts.specs.Rooms.{AreEach, ArePostRows, ArePosts, IsPost}
use Rattle.replica_parts.specs.declared.post.Post.{Post}
use Rattle.replica_parts.specs.declared.setting.Setting.{Setting}

abbrev Row : Type 0
Row = Vec Post Global

abbrev row_letters : Row → List (Option Letter)
row_letters row = letters_in row.items

-- Places that stay places.

pub each_set : {X : Type 0} (n : ℕ) (P : X → Type 0) (xs : List X) (i : ℕ) (x : X)
    → AreEach n P xs → P x → AreEach n P (set xs i x)
each_set n P xs i x h p =
    record { size = length-set xs i x ∙ h.size; each = All-set P xs i x p h.each }

pub each_at : {X : Type 0} (n : ℕ) (P : X → Type 0) (xs : List X) (i : ℕ) (x : X)
    → AreEach n P xs → i < n → x ≡ get_or xs i x → P x
each_at n P xs i x h lt is = subst P (sym is) (h.each i x (omega (arith, lt, h.size)))

pub row_at : (setting : Setting) (rows : List Row) (q : ℕ) (row : Row)
    → ArePostRows setting rows → q < setting.replicas → row ≡ get_or rows q row
    → ArePosts setting row.items
row_at setting rows q row h lt is =
    each_at setting.replicas (λ (r : Row). ArePosts setting r.items) rows q row h lt is

pub rows_set : (setting : Setting) (rows : List Row) (q p : ℕ) (row : Row) (place : Post)
    → ArePostRows setting rows → q < setting.replicas → row ≡ get_or rows q row
    → IsPost setting place → ArePostRows setting (set rows q (with_item row p place))
rows_set setting rows q p row place h lt is ok =
    each_set setting.replicas (λ (r : Row). ArePosts setting r.items) rows q
    (with_item row p place) h
    (each_set setting.replicas (IsPost setting) row.items p place
    (row_at setting rows q row h lt is) ok)

-- One place of a table of lists.

entry_set : {X : Type 0} (xs : List (List (Option X))) (q p : ℕ) (ys : List (Option X))
    (v : Option X)
    → q < length xs → p < length ys → ys ≡ get_or xs q [] → (a b : ℕ)
    → get_or (get_or (set xs q (set ys p v)) a []) b None
    ≡ put_pair (λ i j. get_or (get_or xs i []) j None) q p v a b
entry_set xs q p ys v far near is a b =
    ap (λ f. get_or (f a) b None) (get_or-set xs q (set ys p v) [] far)
    ∙ by_place
    (λ t. get_or (cond t (set ys p v) (get_or xs a [])) b None
    ≡ cond (t && (b == p)) v (get_or (get_or xs a []) b None))
    a q
    (λ e. ap (λ f. f b) (get_or-set ys p v None near)
    ∙ ap (λ zs. cond (b == p) v (get_or zs b None)) (is ∙ ap (λ i. get_or xs i []) (sym e)))
    refl

pub posted : (setting : Setting) (rows : List Row) (q p : ℕ) (row : Row) (place : Post)
    → ArePostRows setting rows → q < setting.replicas → p < setting.replicas
    → row ≡ get_or rows q row
    → post_at (set rows q (with_item row p place)) ≡ put_pair (post_at rows) q p (letter_in place)
posted setting rows q p row place h far near is = fun_ext (λ a. fun_ext (λ b.
    ap (λ xs. get_or (get_or xs a []) b None)
    (map-set row_letters rows q (with_item row p place)
    ∙ ap (set (letter_rows rows) q) (map-set letter_in row.items p place))
    ∙ entry_set (letter_rows rows) q p (row_letters row) (letter_in place)
    (omega (arith, far, h.size, length-map rows row_letters))
    (omega (arith, near, (row_at setting rows q row h far is).size, length-map row.items letter_in))
    (ap row_letters is ∙ sym (get_or-map row_letters rows q row [] (omega (arith, far, h.size))))
    a b))

-- what is read at one place
pub post_read : (setting : Setting) (rows : List Row) (q p : ℕ) (row : Row) (place : Post)
    → ArePostRows setting rows → q < setting.replicas → p < setting.replicas
    → row ≡ get_or rows q row → place ≡ get_or row.items p place
    → letter_in place ≡ post_at rows q p
post_read setting rows q p row place h far near is here =
    ap letter_in here
    ∙ sym (get_or-map letter_in row.items p place None
    (omega (arith, near, (row_at setting rows q row h far is).size)))
    ∙ ap (λ (r : Row). get_or (letters_in r.items) p None) is
    ∙ sym (ap (λ ls. get_or ls p None)
    (get_or-map row_letters rows q row [] (omega (arith, far, h.size))))

-- no letter comes to a receiver that is not there
post_past : (setting : Setting) (rows : List Row) (q p : ℕ) → ArePostRows setting rows
    → setting.replicas ≤ q → post_at rows q p ≡ None
post_past setting rows q p h far =
    ap (λ ls. get_or ls p None)
    (get_or_past (letter_rows rows) q [] (omega (arith, far, h.size, length-map rows row_letters)))
    ∙ get_or_past [] p None (omega arith)

-- Letters that are not there.

no_entry : {X : Type 0} (n k : ℕ) (d : X) → get_or (table n (λ i. d)) k d ≡ d
no_entry n k d = elim (cases_lt k n) [
  | inl lt ↦ get_or-table n (λ i. d) k d lt
  | inr past ↦ get_or_past (table n (λ i. d)) k d (omega (arith, past, length-table n (λ i. d)))
]

no_row : {X : Type 0} (n m k j : ℕ)
    → get_or (get_or (table n (λ i. table m (λ i. let none : Option X = None in none))) k []) j None
    ≡ None
no_row {X = X} n m k j = elim (cases_lt k n) [
  | inl lt ↦ ap (λ xs. get_or xs j None) (get_or-table n (λ i. table m (λ i. none)) k [] lt)
      ∙ no_entry m j none
  | inr past ↦
      ap (λ xs. get_or xs j None)
      (get_or_past (table n (λ i. table m (λ i. none))) k []
      (omega (arith, past, length-table n (λ i. table m (λ i. none)))))
      ∙ get_or_past [] j None (omega arith)
]
  where
    none : Option X
    none = None

pub none_posted : (rows : List Row) (n m : ℕ)
    → letter_rows rows ≡ table n (λ receiver. table m (λ sender. None))
    → post_at rows ≡ (λ receiver sender. None)
none_posted rows n m is = fun_ext (λ q. fun_ext (λ p.
    ap (λ xs. get_or (get_or xs q []) p None) is ∙ no_row n m q p))

-- A column, place by place.

not_true : (t : Bool) → (t ≡ true → ⊥) → t ≡ false
not_true true f = absurd (f refl)
not_true false f = refl

none_to : (plan : PlanParts) (frame : ℕ) (rows : FrameRows) (own : Content) (sender q : ℕ)
    → plan.replicas ≤ q → letter_to plan frame rows own sender q ≡ None
unfolding letter_to goes_out
none_to plan frame rows own sender q past =
    cond-false _ _ _ (past_up (is_up plan rows sender) (nat_lt q plan.replicas)
    (not (sender == q)) (not (is_dropped rows sender q))
    (not_true _ (λ t. absurd (omega (arith, past, ltb-true q plan.replicas t)))))
  where
    past_up : (t u v w : Bool) → u ≡ false → (t && u && v && w) ≡ false
    past_up true false v w e = refl
    past_up false u v w e = refl
    past_up true true v w e = absurd (both_ways true e refl)

-- one place more
pub column_more : (sender receiver q p : ℕ) (new : ℕ → Option Letter)
    (start now : ℕ → ℕ → Option Letter)
    → ((q p : ℕ) → now q p ≡ cond ((p == sender) && nat_lt q receiver) (new q) (start q p))
    → put_pair now receiver sender (new receiver) q p
    ≡ cond ((p == sender) && nat_lt q (receiver + 1)) (new q) (start q p)
column_more sender receiver q p new start now h = go (cases_eq q receiver) (cases_eq p sender)
  where
    kept : ((q == receiver) && (p == sender)) ≡ false
        → ((p == sender) && nat_lt q receiver) ≡ ((p == sender) && nat_lt q (receiver + 1))
        → put_pair now receiver sender (new receiver) q p
        ≡ cond ((p == sender) && nat_lt q (receiver + 1)) (new q) (start q p)
    kept apart same =
        ap (λ t. cond t (new receiver) (now q p)) apart ∙ h q p
        ∙ ap (λ t. cond t (new q) (start q p)) same

    go : (q ≡ receiver) ⊎ (q ≢ receiver) → (p ≡ sender) ⊎ (p ≢ sender)
        → put_pair now receiver sender (new receiver) q p
        ≡ cond ((p == sender) && nat_lt q (receiver + 1)) (new q) (start q p)
    go (inl e) (inl i) =
        ap (λ t. cond t (new receiver) (now q p))
        (and_from _ _ (eq-eqb q receiver e) (eq-eqb p sender i))
        ∙ ap new (sym e)
        ∙ sym (ap (λ t. cond t (new q) (start q p))
        (and_from _ _ (eq-eqb p sender i) (lt-ltb q (receiver + 1) (omega arith))))
    go (inl e) (inr other) =
        kept
        (not_true _ (λ t. other (eqb-true _ _ (and_parts _ _ t).1)))
        (ap₂ (λ t u. t && u) (ne_eqb p sender other) refl
        ∙ sym (ap₂ (λ t u. t && u) (ne_eqb p sender other) refl))
    go (inr other) i =
        kept
        (not_true _ (λ t. other (eqb-true _ _ (and_parts _ _ t).0)))
        (ap (λ t. (p == sender) && t)
        (tests_agree _ _
        (λ t. lt-ltb q receiver (omega (arith, other, ltb-true q (receiver + 1) t)))
        (λ t. lt-ltb q (receiver + 1) (omega (arith, ltb-true q receiver t)))))

-- a whole column
pub column_all : (setting : Setting) (plan : PlanParts) (frame : ℕ) (input : FrameRows)
    (own : Content) (sender n : ℕ) (rows : List Row) (now : ℕ → ℕ → Option Letter)
    → ArePostRows setting rows → setting.replicas ≡ plan.replicas → plan.replicas ≤ n
    → ((q p : ℕ) → now q p ≡ cond ((p == sender) && nat_lt q n)
    (letter_to plan frame input own sender q) (post_at rows q p))
    → now ≡ put_column (post_at rows) sender (letter_to plan frame input own sender)
column_all setting plan frame input own sender n rows now room same many h =
    fun_ext (λ q. fun_ext (λ p. h q p ∙ go q p (cases_eq p sender) (nat_lt q n) refl))
  where
    new : ℕ → Option Letter
    new q = letter_to plan frame input own sender q

    none : (q : ℕ) → nat_lt q n ≡ false → post_at rows q sender ≡ new q
    none q e =
        let far = ltb-false q n e in
        post_past setting rows q sender room (omega (arith, far, many, same))
        ∙ sym (none_to plan frame input own sender q (omega (arith, far, many)))

    go : (q p : ℕ) → (p ≡ sender) ⊎ (p ≢ sender) → (t : Bool) → nat_lt q n ≡ t
        → cond ((p == sender) && t) (new q) (post_at rows q p)
        ≡ cond (p == sender) (new q) (post_at rows q p)
    go q p (inr other) t e =
        ap (λ u. cond (u && t) (new q) (post_at rows q p)) (ne_eqb p sender other)
        ∙ sym (ap (λ u. cond u (new q) (post_at rows q p)) (ne_eqb p sender other))
    go q p (inl i) true e =
        ap (λ u. cond (u && true) (new q) (post_at rows q p)) (eq-eqb p sender i)
        ∙ sym (ap (λ u. cond u (new q) (post_at rows q p)) (eq-eqb p sender i))
    go q p (inl i) false e =
        ap (λ u. cond (u && false) (new q) (post_at rows q p)) (eq-eqb p sender i)
        ∙ ap (post_at rows q) i ∙ none q e
        ∙ sym (ap (λ u. cond u (new q) (post_at rows q p)) (eq-eqb p sender i))
