-- One more text, under its name.
use Rattle.std.proofs.Common.{◌≡◌, ℕ, zero, suc, ◌+◌, ◌<◌, ◌≤◌, List, [], ◌∷◌, ◌++◌, length, get_or, map, drop, Ok, refl, ap, subst, sym, ◌∙◌, arith, Result}
use Rattle.rcp_base.specs.Answers.{each_from, IsFaultOr}
use Rattle.rcp_base.proofs.ReaderLaws.{after, each_more, each_stops, all_seen}
use Rattle.task_file.specs.Fault.{is_file_memory}
use Rattle.task_file.specs.declared.fault.FileFault.{FileFault}
use Rattle.task_file.specs.inner.Limits.{AreShort}
use Rattle.task_file.specs.Names.{text_names}
use Rattle.task_file.specs.inner.SectionViews.{text_view}
use Rattle.task_file.specs.Sections.{RawText}
use Rattle.task_file.specs.declared.sections.RawText as code

name_at : (texts : List code.RawText) (i : ℕ) (e : List ℕ) (d : code.RawText) → i < length texts
    → get_or (text_names (map text_view texts)) i e ≡ (get_or texts i d).name.now
name_at [] i e d within = absurd (omega arith)
name_at (text ∷ texts) zero e d within = refl
name_at (text ∷ texts) (suc i) e d within = name_at texts i e d (omega arith)

-- a text under the name at its place
named_text : (texts : List code.RawText) (names : List (List ℕ)) (i : ℕ) (d : code.RawText) (name : List ℕ) → i < length texts
    → names ≡ text_names (map text_view texts) → name ≡ get_or names i name
    → (let raw : RawText = record { name = name; text = (get_or texts i d).text.now } in raw ≡ text_view (get_or texts i d))
named_text texts names i d name within are is =
    let P : List ℕ → Type 0 = λ n. ◌≡◌ {A = RawText} (record { name = n; text = (get_or texts i d).text.now }) (text_view (get_or texts i d)) in
    subst P (sym (is ∙ (ap (λ n. get_or n i name) are ∙ name_at texts i name d within))) refl

pub text_is_short : (texts : List code.RawText) (i : ℕ) (d : code.RawText) → i < length texts → AreShort (map text_view texts) → length (get_or texts i d).text.now ≤ 4096
text_is_short texts i d within short = all_seen (λ raw. length raw.text ≤ 4096) text_view texts i d within short

pub text_stops :
    {B : Type 0} (read : ℕ → RawText → Result B FileFault) (texts : List code.RawText) (names : List (List ℕ)) (done : List B) (i : ℕ) (d : code.RawText)
    (name : List ℕ) (fault : FileFault) (whole : Result (List B) FileFault) →
    i < length texts → names ≡ text_names (map text_view texts) → name ≡ get_or names i name →
    whole ≡ after done (each_from read i (map text_view (drop i texts))) →
    IsFaultOr (is_file_memory fault) fault (read i (record { name = name; text = (get_or texts i d).text.now })) →
    IsFaultOr (is_file_memory fault) fault whole
text_stops read texts names done i d name fault whole within are is left stops =
    let P : RawText → Type 0 = λ raw. IsFaultOr (is_file_memory fault) fault (read i raw) in
    each_stops text_view read texts done i d (is_file_memory fault) fault whole within left (subst P (named_text texts names i d name within are is) stops)

pub text_more :
    {B : Type 0} (read : ℕ → RawText → Result B FileFault) (texts : List code.RawText) (names : List (List ℕ)) (done : List B) (i : ℕ) (d : code.RawText)
    (name : List ℕ) (y : B) (whole : Result (List B) FileFault) →
    i < length texts → names ≡ text_names (map text_view texts) → name ≡ get_or names i name →
    whole ≡ after done (each_from read i (map text_view (drop i texts))) →
    read i (record { name = name; text = (get_or texts i d).text.now }) ≡ Ok y →
    whole ≡ after (done ++ y ∷ []) (each_from read (i + 1) (map text_view (drop (i + 1) texts)))
text_more read texts names done i d name y whole within are is left reads =
    each_more text_view read texts done i d y whole within left (ap (read i) (sym (named_text texts names i d name within are is)) ∙ reads)
