-- What stands in rows of commands that are a table.
use Rattle.std.proofs.Common.{◌≡◌, ℕ, ℤ, ◌<◌, [], List, Option, Vec, length, get_or, sym, ap, ◌∙◌, arith}
use Rattle.std.proofs.lemmas.List.{get_or-map, length-map}
use Rattle.std.specs.Global.{Global}
use Rattle.rcp_base.specs.Tables.{table}
use Rattle.rcp_base.proofs.TableLaws.{get_or-table, length-table}
use Rattle.replica_parts.specs.Places.{command_rows}

-- a command that is read
pub command_read : (rows : List (Vec (Option ℤ) Global)) (replicas actuators : ℕ) (commands : ℕ → ℕ → Option ℤ) (p a : ℕ) (row : Vec (Option ℤ) Global) (x : Option ℤ)
    → command_rows rows ≡ table replicas (λ q. table actuators (commands q)) → p < replicas → a < actuators
    → row ≡ get_or rows p row → x ≡ get_or row.items a x → x ≡ commands p a
command_read rows replicas actuators commands p a row x e lt less is read =
    let seen : Vec (Option ℤ) Global → List (Option ℤ) = λ r. r.items in
    let f : ℕ → List (Option ℤ) = λ q. table actuators (commands q) in
    let size : length rows ≡ replicas = sym (length-map rows seen) ∙ ap length e ∙ length-table replicas f in
    let items : row.items ≡ table actuators (commands p) =
    ap seen is ∙ sym (get_or-map seen rows p row [] (omega (arith, lt, size))) ∙ ap (λ xs. get_or xs p []) e ∙ get_or-table replicas f p [] lt in
    read ∙ ap (λ xs. get_or xs a x) items ∙ get_or-table actuators (commands p) a x less
