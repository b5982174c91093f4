-- One more sensor or cell, under its name.
use Rattle.std.proofs.Common.{◌≡◌, ℕ, zero, suc, ◌+◌, ◌<◌, List, [], ◌∷◌, ◌++◌, length, get_or, map, take, refl, ap, sym, ◌∙◌, arith}
use Rattle.std.proofs.lemmas.List.{take_more}
use Rattle.rcp_model.specs.declared.plan.Variable.{Variable}
use Rattle.task_file.specs.Names.{raw_names}
use Rattle.task_file.specs.inner.SectionViews.{variable_view}
use Rattle.task_file.specs.TaskFile.{variables_of}
use Rattle.task_file.specs.declared.sections.RawVariable as code

name_at : (raws : List code.RawVariable) (i : ℕ) (e : List ℕ) (d : code.RawVariable) → i < length raws
    → get_or (raw_names (map variable_view raws)) i e ≡ (get_or raws i d).name.now
name_at [] i e d within = absurd (omega arith)
name_at (raw ∷ raws) zero e d within = refl
name_at (raw ∷ raws) (suc i) e d within = name_at raws i e d (omega arith)

one_more : (raws : List code.RawVariable) (raw : code.RawVariable)
    → variables_of (map variable_view (raws ++ raw ∷ [])) ≡ variables_of (map variable_view raws) ++ record { name = raw.name.now; initial = raw.initial } ∷ []
one_more [] raw = refl
one_more (r ∷ raws) raw =
    let first : Variable = record { name = r.name.now; initial = r.initial } in
    ap (λ variables. first ∷ variables) (one_more raws raw)

pub variable_more :
    (raws : List code.RawVariable) (names : List (List ℕ)) (i : ℕ) (d : code.RawVariable) (name : List ℕ) (variables : List Variable) →
    i < length raws → names ≡ raw_names (map variable_view raws) → name ≡ get_or names i name →
    variables ≡ variables_of (map variable_view (take i raws)) →
    variables ++ record { name = name; initial = (get_or raws i d).initial } ∷ [] ≡ variables_of (map variable_view (take (i + 1) raws))
variable_more raws names i d name variables within are is so_far =
    let same : name ≡ (get_or raws i d).name.now = is ∙ (ap (λ n. get_or n i name) are ∙ name_at raws i name d within) in
    let variable : List ℕ → Variable = λ n. record { name = n; initial = (get_or raws i d).initial } in
    ap (λ v. v ++ variable name ∷ []) so_far
    ∙ (ap (λ n. variables_of (map variable_view (take i raws)) ++ variable n ∷ []) same
    ∙ (sym (one_more (take i raws) (get_or raws i d)) ∙ ap (λ r. variables_of (map variable_view r)) (sym (take_more raws i d within))))
