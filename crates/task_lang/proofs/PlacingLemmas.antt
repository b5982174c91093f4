-- Where brackets stand, and spaces between statements.
use Rattle.std.proofs.Common.{◌≡◌, ℕ, suc, ◌<◌, ◌≤◌, List, [], ◌∷◌, ◌++◌, refl, sym, ap, ◌∙◌, arith, flat_map, append-nil, length, length-append, drop, ◌+◌}
use Rattle.std.proofs.lemmas.List.{append_assoc}
use Rattle.std.specs.Prelude.{MatchOption, Option, Some, None, nat_lt, codes, map, slice_index_or, if◌then◌else◌}
use Rattle.std.proofs.lemmas.Bool.{lt-ltb, le-ltb}
use Rattle.task_lang.specs.Words.{Scope}
use Rattle.rcp_model.specs.declared.task.LetRow.{LetRow}
use Rattle.rcp_model.specs.declared.task.SetRow.{SetRow}
use Rattle.task_lang.specs.Printing.{placed, printed, with_spaces, let_text, set_text}
use Rattle.rcp_model.specs.declared.expr.Expr.{Expr}

-- a tree whose level is below its place
pub placed_below : (scope : Scope) (e : Expr) (level least : ℕ) → ((any : Scope) → level ≡ (printed any e).level) → level < least
    → placed least (printed scope e) ≡ codes "(" ++ (printed scope e).text ++ codes ")"
placed_below scope e level least same less =
    ap (λ l. if nat_lt l least then codes "(" ++ (printed scope e).text ++ codes ")" else (printed scope e).text) (sym (same scope))
    ∙ ap (λ b. if b then codes "(" ++ (printed scope e).text ++ codes ")" else (printed scope e).text) (lt-ltb level least less)

-- and one whose level is not
pub placed_above : (scope : Scope) (e : Expr) (level least : ℕ) → ((any : Scope) → level ≡ (printed any e).level) → least ≤ level
    → placed least (printed scope e) ≡ (printed scope e).text
placed_above scope e level least same more =
    ap (λ l. if nat_lt l least then codes "(" ++ (printed scope e).text ++ codes ")" else (printed scope e).text) (sym (same scope))
    ∙ ap (λ b. if b then codes "(" ++ (printed scope e).text ++ codes ")" else (printed scope e).text) (le-ltb level least more)

-- lists that end in one item are the same without it
front_same : (front other : List ℕ) (last byte : ℕ) → other ++ byte ∷ [] ≡ front ++ last ∷ [] → front ≡ other
front_same [] [] last byte is = refl
front_same [] (y ∷ other) last byte is =
    let size : suc (length (other ++ byte ∷ [])) ≡ 1 = ap length is in
    let more : length (other ++ byte ∷ []) ≡ length other + 1 = length-append other (byte ∷ []) in
    absurd (omega (arith, size, more))
front_same (x ∷ front) [] last byte is =
    let size : 1 ≡ suc (length (front ++ last ∷ [])) = ap length is in
    let more : length (front ++ last ∷ []) ≡ length front + 1 = length-append front (last ∷ []) in
    absurd (omega (arith, size, more))
front_same (x ∷ front) (y ∷ other) last byte is =
    let first : y ≡ x = ap (λ list. slice_index_or list 0 0) is in
    let rest : front ≡ other = front_same front other last byte (ap (drop 1) is) in
    ap (λ b. b ∷ front) (sym first) ∙ ap (λ list. y ∷ list) rest

-- statements with a space behind each are those with a space between them, and one more
one_more_space : (text : List ℕ) (texts : List (List ℕ)) → flat_map (λ text. text ++ codes " ") (text ∷ texts) ≡ with_spaces (text ∷ texts) ++ codes " "
one_more_space text [] = append-nil (text ++ codes " ")
one_more_space text (other ∷ texts) =
    ap (λ list. (text ++ codes " ") ++ list) (one_more_space other texts)
    ∙ sym (append_assoc (text ++ codes " ") (with_spaces (other ∷ texts)) (codes " "))

-- statements with a space behind each, without the last space
last_space_dropped : (texts : List (List ℕ)) (last : ℕ) (front : List ℕ) → flat_map (λ text. text ++ codes " ") texts ≡ front ++ last ∷ []
    → front ≡ with_spaces texts
last_space_dropped [] last front is =
    let size : 0 ≡ length (front ++ last ∷ []) = ap length is in
    let more : length (front ++ last ∷ []) ≡ length front + 1 = length-append front (last ∷ []) in
    absurd (omega (arith, size, more))
last_space_dropped (text ∷ texts) last front is = front_same front (with_spaces (text ∷ texts)) last 32 (sym (one_more_space text texts) ∙ is)

-- rows of two kinds, each with a space behind it
pub rows_spaced : {A B : Type 0} (f : A → List ℕ) (g : B → List ℕ) (xs : List A) (ys : List B)
    → flat_map (λ x. f x ++ codes " ") xs ++ flat_map (λ y. g y ++ codes " ") ys ≡ flat_map (λ text. text ++ codes " ") (map f xs ++ map g ys)
rows_spaced f g [] [] = refl
rows_spaced f g [] (y ∷ ys) = ap (λ list. (g y ++ codes " ") ++ list) (rows_spaced f g [] ys)
rows_spaced f g (x ∷ xs) ys =
    append_assoc (f x ++ codes " ") (flat_map (λ x. f x ++ codes " ") xs) (flat_map (λ y. g y ++ codes " ") ys)
    ∙ ap (λ list. (f x ++ codes " ") ++ list) (rows_spaced f g xs ys)

-- what is left when the last byte was taken away
pub last_taken : (result : Option ℕ) (old new : List ℕ) (texts : List (List ℕ)) → old ≡ flat_map (λ text. text ++ codes " ") texts
    → MatchOption result ((old ≡ []) × (new ≡ [])) (λ last. old ≡ new ++ last ∷ []) → new ≡ with_spaces texts
last_taken None old new [] is gone = gone.1
last_taken None old new (text ∷ texts) is gone =
    let none : length (with_spaces (text ∷ texts) ++ codes " ") ≡ 0 = ap length (sym (one_more_space text texts) ∙ (sym is ∙ gone.0)) in
    let more : length (with_spaces (text ∷ texts) ++ codes " ") ≡ length (with_spaces (text ∷ texts)) + 1 = length-append (with_spaces (text ∷ texts)) (codes " ") in
    absurd (omega (arith, none, more))
last_taken (Some last) old new texts is gone = last_space_dropped texts last new (sym is ∙ gone)

-- lets and sets were added, and the last space was taken away
pub body_added : (labels scope : Scope) → labels ≡ scope → (lets : List LetRow) (sets : List SetRow) (result : Option ℕ) (start then_lets then_sets new : List ℕ) → start ≡ []
    → then_lets ≡ start ++ flat_map (λ row. let_text labels row ++ codes " ") lets
    → then_sets ≡ then_lets ++ flat_map (λ row. set_text labels row ++ codes " ") sets
    → MatchOption result ((then_sets ≡ []) × (new ≡ [])) (λ last. then_sets ≡ new ++ last ∷ [])
    → new ≡ with_spaces (map (let_text scope) lets ++ map (set_text scope) sets)
body_added labels scope same lets sets result start then_lets then_sets new empty first second gone =
    let rows : Scope → List (List ℕ) = λ s. map (let_text s) lets ++ map (set_text s) sets in
    let all : then_sets ≡ flat_map (λ text. text ++ codes " ") (rows labels) =
    second
    ∙ (ap (λ list. list ++ flat_map (λ row. set_text labels row ++ codes " ") sets) (first ∙ ap (λ list. list ++ flat_map (λ row. let_text labels row ++ codes " ") lets) empty)
    ∙ rows_spaced (let_text labels) (set_text labels) lets sets) in
    last_taken result then_sets new (rows labels) all gone ∙ ap (λ s. with_spaces (rows s)) same
