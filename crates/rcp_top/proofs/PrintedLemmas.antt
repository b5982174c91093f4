-- Whole lines of joined lines, and the lines of a frame.
use Rattle.std.proofs.Common.{◌≡◌, ℕ, zero, suc, ◌==◌, Bool, false, cond, List, [], ◌∷◌, ◌++◌, refl, sym, ap, ◌∙◌, append_assoc, inl, inr}
use Rattle.std.specs.Prelude.{⊤}
use Rattle.std.proofs.lemmas.Bool.{cases_Bool}
use Rattle.rcp_top.specs.Printed.{lines_with, lines_behind, lines_in, begins_with, is_frame_line, lines_after, lines_of_frame}

-- no line feed stands among these bytes
abbrev pub HasNoFeed : List ℕ → Type 0
HasNoFeed [] = ⊤
HasNoFeed (byte ∷ bytes) = ((byte == 10) ≡ false) × HasNoFeed bytes

-- lines one behind the other
abbrev pub joined : List (List ℕ) → List ℕ
joined [] = []
joined (line ∷ lines) = line ++ joined lines

pub joined_more : (lines more : List (List ℕ)) → joined (lines ++ more) ≡ joined lines ++ joined more
joined_more [] more = refl
joined_more (line ∷ lines) more = ap (λ l. line ++ l) (joined_more lines more) ∙ sym (append_assoc line (joined lines) (joined more))

-- bytes and a line feed behind them
pub record IsLine (line : List ℕ) : Type 0 where
  pub body : List ℕ
  pub free : HasNoFeed body
  pub is : line ≡ body ++ 10 ∷ []

abbrev pub AreLines : List (List ℕ) → Type 0
AreLines [] = ⊤
AreLines (line ∷ lines) = IsLine line × AreLines lines

pub lines_joined : (lines more : List (List ℕ)) → AreLines lines → AreLines more → AreLines (lines ++ more)
lines_joined [] more are and = and
lines_joined (line ∷ lines) more are and = (are.0, lines_joined lines more are.1 and)

-- a line ends at its line feed
one_line : (begun body rest : List ℕ) → HasNoFeed body → lines_behind begun (body ++ (10 ∷ rest)) ≡ (begun ++ (body ++ 10 ∷ [])) ∷ lines_behind [] rest
one_line begun [] rest free = refl
one_line begun (b ∷ body) rest free =
    let next : List ℕ = begun ++ b ∷ [] in
    ap (λ (t : Bool). cond t (next ∷ lines_behind [] (body ++ (10 ∷ rest))) (lines_behind next (body ++ (10 ∷ rest)))) free.0
    ∙ one_line next body rest free.1
    ∙ ap (λ line. line ∷ lines_behind [] rest) (append_assoc begun (b ∷ []) (body ++ 10 ∷ []))

-- the whole lines of lines that are joined
pub joined_lines : (lines : List (List ℕ)) → AreLines lines → lines_in (joined lines) ≡ lines
joined_lines [] are = refl
joined_lines (line ∷ lines) are =
    let first = are.0 in
    ap (λ l. lines_in (l ++ joined lines)) first.is
    ∙ ap lines_in (append_assoc first.body (10 ∷ []) (joined lines))
    ∙ one_line [] first.body (joined lines) first.free
    ∙ ap (λ rest. (first.body ++ 10 ∷ []) ∷ rest) (joined_lines lines are.1)
    ∙ ap (λ l. l ∷ lines) (sym first.is)

-- no `frame` line stands among these
abbrev pub HasNoFrame : List (List ℕ) → Type 0
HasNoFrame [] = ⊤
HasNoFrame (line ∷ lines) = (is_frame_line line ≡ false) × HasNoFrame lines

pub no_frame_joined : (lines more : List (List ℕ)) → HasNoFrame lines → HasNoFrame more → HasNoFrame (lines ++ more)
no_frame_joined [] more none and = and
no_frame_joined (line ∷ lines) more none and = (none.0, no_frame_joined lines more none.1 and)

-- lines before the frame are passed over
pub passed_over : (word : List ℕ) (n : ℕ) (lines rest : List (List ℕ)) → HasNoFrame lines → lines_after word (suc n) (lines ++ rest) ≡ lines_after word (suc n) rest
passed_over word n [] rest none = refl
passed_over word n (line ∷ lines) rest none =
    ap (λ (t : Bool). cond t (lines_after word n (lines ++ rest)) (lines_after word (suc n) (lines ++ rest))) none.0 ∙ passed_over word n lines rest none.1

-- lines of the frame are taken
pub taken_here : (word : List ℕ) (lines rest : List (List ℕ)) → HasNoFrame lines → lines_after word zero (lines ++ rest) ≡ lines_with word lines ++ lines_after word zero rest
taken_here word [] rest none = refl
taken_here word (line ∷ lines) rest none =
    let here : List (List ℕ) = lines_after word zero (lines ++ rest) in
    let tail = taken_here word lines rest none.1 in
    ap (λ (t : Bool). cond t [] (cond (begins_with word line) (line ∷ here) here)) none.0
    ∙ elim (cases_Bool (begins_with word line)) [
      | inl there ↦
          ap (λ (t : Bool). cond t (line ∷ here) here) there ∙ ap (λ ls. line ∷ ls) tail
          ∙ sym (ap (λ (t : Bool). cond t (line ∷ lines_with word lines) (lines_with word lines) ++ lines_after word zero rest) there)
      | inr none ↦
          ap (λ (t : Bool). cond t (line ∷ here) here) none ∙ tail
          ∙ sym (ap (λ (t : Bool). cond t (line ∷ lines_with word lines) (lines_with word lines) ++ lines_after word zero rest) none)
    ]

-- what was written of a text gives a front of its lines
front_of_lines : (begun written rest : List ℕ) → (more : List (List ℕ)) × (lines_behind begun (written ++ rest) ≡ lines_behind begun written ++ more)
front_of_lines begun [] rest = (lines_behind begun rest, refl)
front_of_lines begun (b ∷ written) rest =
    let next : List ℕ = begun ++ b ∷ [] in
    let fed = front_of_lines [] written rest in
    let on = front_of_lines next written rest in
    elim (cases_Bool (b == 10)) [
      | inl there ↦ (
        fed.0,
        ap (λ (t : Bool). cond t (next ∷ lines_behind [] (written ++ rest)) (lines_behind next (written ++ rest))) there
            ∙ ap (λ ls. next ∷ ls) fed.1
            ∙ sym (ap (λ (t : Bool). cond t (next ∷ lines_behind [] written) (lines_behind next written) ++ fed.0) there),
      )
      | inr none ↦ (
        on.0,
        ap (λ (t : Bool). cond t (next ∷ lines_behind [] (written ++ rest)) (lines_behind next (written ++ rest))) none
            ∙ on.1
            ∙ sym (ap (λ (t : Bool). cond t (next ∷ lines_behind [] written) (lines_behind next written) ++ on.0) none),
      )
    ]

front_of_taken : (word : List ℕ) (n : ℕ) (lines rest : List (List ℕ)) → (more : List (List ℕ)) × (lines_after word n (lines ++ rest) ≡ lines_after word n lines ++ more)
front_of_taken word n [] rest = (lines_after word n rest, refl)
front_of_taken word zero (line ∷ lines) rest =
    let here = front_of_taken word zero lines rest in
    let all : List (List ℕ) = lines_after word zero (lines ++ rest) in
    let some : List (List ℕ) = lines_after word zero lines in
    elim (cases_Bool (is_frame_line line)) [
      | inl there ↦ (
        [],
        ap (λ (t : Bool). cond t [] (cond (begins_with word line) (line ∷ all) all)) there
            ∙ sym (ap (λ (t : Bool). cond t [] (cond (begins_with word line) (line ∷ some) some) ++ []) there),
      )
      | inr none ↦ (
        here.0,
        ap (λ (t : Bool). cond t [] (cond (begins_with word line) (line ∷ all) all)) none
            ∙ elim (cases_Bool (begins_with word line)) [
              | inl is ↦ ap (λ (t : Bool). cond t (line ∷ all) all) is ∙ ap (λ ls. line ∷ ls) here.1
                  ∙ sym (ap (λ (t : Bool). cond t (line ∷ some) some ++ here.0) is)
              | inr not ↦ ap (λ (t : Bool). cond t (line ∷ all) all) not ∙ here.1
                  ∙ sym (ap (λ (t : Bool). cond t (line ∷ some) some ++ here.0) not)
            ]
            ∙ sym (ap (λ (t : Bool). cond t [] (cond (begins_with word line) (line ∷ some) some) ++ here.0) none),
      )
    ]
front_of_taken word (suc n) (line ∷ lines) rest =
    let in_frame = front_of_taken word n lines rest in
    let before = front_of_taken word (suc n) lines rest in
    elim (cases_Bool (is_frame_line line)) [
      | inl there ↦ (
        in_frame.0,
        ap (λ (t : Bool). cond t (lines_after word n (lines ++ rest)) (lines_after word (suc n) (lines ++ rest))) there ∙ in_frame.1
            ∙ sym (ap (λ (t : Bool). cond t (lines_after word n lines) (lines_after word (suc n) lines) ++ in_frame.0) there),
      )
      | inr none ↦ (
        before.0,
        ap (λ (t : Bool). cond t (lines_after word n (lines ++ rest)) (lines_after word (suc n) (lines ++ rest))) none ∙ before.1
            ∙ sym (ap (λ (t : Bool). cond t (lines_after word n lines) (lines_after word (suc n) lines) ++ before.0) none),
      )
    ]

-- of a text that was cut short, the lines of a frame are a front of those of the whole
pub record IsFrontAt (word : List ℕ) (t : ℕ) (written whole : List ℕ) : Type 0 where
  pub more : List (List ℕ)
  pub front : lines_of_frame word t whole ≡ lines_of_frame word t written ++ more

pub cut_front : (word : List ℕ) (t : ℕ) (written rest : List ℕ) → IsFrontAt word t written (written ++ rest)
cut_front word t written rest =
    let lines = front_of_lines [] written rest in
    let theirs = front_of_taken word (suc t) (lines_in written) lines.0 in
    record { more = theirs.0; front = ap (lines_after word (suc t)) lines.1 ∙ theirs.1 }
