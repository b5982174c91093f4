-- A replica's line, with the words around what is one of two joined.
use Rattle.std.proofs.Common.{◌≡◌, ℕ, ℤ, Bool, true, false, List, ◌++◌, codes, if◌then◌else◌, ap₂, ◌∙◌, refl, append_assoc}
use Rattle.std.specs.Fmt.{decimal}
use Rattle.trace_text.specs.Lines.{down_or_up, yes_or_no, numbers_text, replica_line}

down_text : (down : Bool)
    → (if down then codes " down slot " else codes " up slot ") ≡ codes " " ++ down_or_up down ++ codes " " ++ codes "slot "
down_text true = refl
down_text false = refl

working_text : (working : Bool)
    → (if working then codes " working yes\n" else codes " working no\n") ≡ codes " working " ++ yes_or_no working ++ codes "\n"
working_text true = refl
working_text false = refl

-- texts that are joined in another way
regrouped : (name replica space down word slot cells values label working end : List ℕ)
    → name ++ replica ++ (space ++ down ++ space ++ word) ++ slot ++ cells ++ values ++ (label ++ working ++ end)
    ≡ name ++ replica ++ space ++ down ++ space ++ (word ++ slot ++ cells ++ values) ++ label ++ working ++ end
regrouped name replica space down word slot cells values label working end = simp append_assoc refl

pub replica_text : (replica : ℕ) (down : Bool) (slot : ℕ) (cells : List ℤ) (working : Bool)
    → codes "replica " ++ decimal replica ++ (if down then codes " down slot " else codes " up slot ")
    ++ decimal slot ++ codes " cells" ++ numbers_text cells
    ++ (if working then codes " working yes\n" else codes " working no\n")
    ≡ replica_line replica down slot cells working
unfolding replica_line
replica_text replica down slot cells working =
    ap₂
    (λ first last. codes "replica " ++ decimal replica ++ first ++ decimal slot ++ codes " cells" ++ numbers_text cells ++ last)
    (down_text down) (working_text working)
    ∙ regrouped (codes "replica ") (decimal replica) (codes " ") (down_or_up down) (codes "slot ") (decimal slot) (codes " cells")
    (numbers_text cells) (codes " working ") (yes_or_no working) (codes "\n")
