-- One turn writes a front of the rest.
use Rattle.std.proofs.Common.{◌≡◌, ℕ, ◌-◌, List, ◌++◌, length, take, drop, sym, ap, ◌∙◌, append_assoc, take-append-drop}
use Rattle.std.proofs.lemmas.List.{take_rest}
use Rattle.std.proofs.KnownBytes.{Appends-trans}
use Rattle.rcp_cli.proofs.sink.write_pieces.Goals as goal

-- the first n bytes of the rest move to what is done
moves_front : (whole done rest : List ℕ) (n : ℕ) → whole ≡ done ++ rest → whole ≡ (done ++ take n rest) ++ take (length rest - n) (drop n rest)
moves_front whole done rest n parts =
    parts
    ∙ ap (λ l. done ++ l) (sym (take-append-drop n rest))
    ∙ sym (append_assoc done (take n rest) (drop n rest))
    ∙ ap (λ l. (done ++ take n rest) ++ l) (sym (take_rest rest n))

pub writing-preserved : goal.writing-preserved
writing-preserved g c =
    let (done, parts, wrote) = c.writing.invariant in
    let rest = c.writing.rest.now in
    let count = c.in-Ok.count in
    (done ++ take count rest, moves_front _ done rest count parts, Appends-trans _ _ _ _ _ wrote c.in-Ok.ensures.bytes)
