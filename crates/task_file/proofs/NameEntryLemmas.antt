-- A name that is inserted goes last, or changes nothing where it is known; and its index is its place among the texts.
-- This project's own.
use Rattle.std.specs.Borrow.{Bor}
use Rattle.std.specs.Cmp.Lexicographic.{nat_list_eq_equiv}
use Rattle.std.specs.List.{position_or_len}
use Rattle.std.specs.Map.{keys_of, lookup}
use Rattle.std.specs.Str.{bytes_eq}
use Rattle.std.proofs.Common.{◌≡◌, ℕ, suc, ◌+◌, List, [], ◌∷◌, ◌++◌, length, position, Bool, true, false, ◌||◌, ◌&&◌, true≢false, cond, not, nat_lt, Option, Some, None, is_some, if◌then◌else◌, refl, ap, sym, ◌∙◌}
use Rattle.std.proofs.lemmas.Slice.Eq.{bytes_eq-Decides}
use Rattle.indexmap.specs.IndexMap.{insert_entry}
use Rattle.rcp_base.specs.Name.{is_name, name_of}
use Rattle.rcp_base.specs.Answers.{has_text}
use Rattle.task_file.specs.inner.NameLists.{is_new_name}
use Rattle.task_file.specs.inner.NameEntries.{Entry, entry_texts, AreTheirTexts}

abbrev same_text : Bor (List ℕ) → Bor (List ℕ) → Bool
same_text a b = bytes_eq a.now b.now

same_either_way : (xs ys : List ℕ) → bytes_eq xs ys ≡ bytes_eq ys xs
same_either_way xs ys = nat_list_eq_equiv.symm xs ys

either : {X : Type 0} (here same : Bool) (x : X) (later : Option X) (rest : Bool)
    → here ≡ same → is_some later ≡ rest → is_some (cond here (Some x) later) ≡ (same || rest)
either true same x later rest is later_is = ap (λ b. b || rest) is
either false same x later rest is later_is = later_is ∙ ap (λ b. b || rest) is

-- a text is known where it is among the texts
pub known_by_text : (entries : List Entry) (text : List ℕ) → is_some (lookup (λ key. bytes_eq text key.now) entries) ≡ has_text (entry_texts entries) text
known_by_text [] text = refl
known_by_text (entry ∷ entries) text =
    either (bytes_eq text entry.0.now) (bytes_eq entry.0.now text) entry.1 _ _ (same_either_way text entry.0.now) (known_by_text entries text)

added_behind : (here same among : Bool) (entry : Entry) (key : Bor (List ℕ)) (name : List ℕ) (entries later : List Entry) → here ≡ same
    → entry_texts later ≡ (if among then entry_texts entries else entry_texts entries ++ key.now ∷ [])
    → entry_texts (if here then (entry.0, name) ∷ entries else entry ∷ later)
    ≡ (if same || among then entry_texts (entry ∷ entries) else entry_texts (entry ∷ entries) ++ key.now ∷ [])
added_behind true same among entry key name entries later is added =
    ap (λ b. if b || among then entry_texts (entry ∷ entries) else entry_texts (entry ∷ entries) ++ key.now ∷ []) is
added_behind false same true entry key name entries later is added =
    ap (λ texts. entry.0.now ∷ texts) added ∙ ap (λ b. if b || true then entry_texts (entry ∷ entries) else entry_texts (entry ∷ entries) ++ key.now ∷ []) is
added_behind false same false entry key name entries later is added =
    ap (λ texts. entry.0.now ∷ texts) added ∙ ap (λ b. if b || false then entry_texts (entry ∷ entries) else entry_texts (entry ∷ entries) ++ key.now ∷ []) is

-- a name that is inserted goes last, or changes no text where it is known
added_last : (entries : List Entry) (key : Bor (List ℕ)) (name : List ℕ)
    → entry_texts (insert_entry same_text entries key name)
    ≡ (if has_text (entry_texts entries) key.now then entry_texts entries else entry_texts entries ++ key.now ∷ [])
added_last [] key name = refl
added_last (entry ∷ entries) key name =
    added_behind (bytes_eq key.now entry.0.now) (bytes_eq entry.0.now key.now) (has_text (entry_texts entries) key.now) entry key name entries (insert_entry same_text entries key name)
    (same_either_way key.now entry.0.now) (added_last entries key name)

texts_behind : (here : Bool) (entry : Entry) (key : Bor (List ℕ)) (name : List ℕ) (entries later : List Entry) → bytes_eq key.now entry.0.now ≡ here
    → name ≡ key.now → AreTheirTexts (entry ∷ entries) → AreTheirTexts later → AreTheirTexts (if here then (entry.0, name) ∷ entries else entry ∷ later)
texts_behind true entry key name entries later same is are later_are =
    let here : name ≡ entry.0.now = is ∙ (bytes_eq-Decides key.now entry.0.now).0 same in
    let rest : AreTheirTexts entries = cc in
    λ j. here j ∷ rest j
texts_behind false entry key name entries later other is are later_are =
    let here : entry.1 ≡ entry.0.now = cc in
    λ j. here j ∷ later_are j

-- and is its text, as those before it are
pub texts_added : (entries : List Entry) (key : Bor (List ℕ)) (name : List ℕ) → name ≡ key.now → AreTheirTexts entries
    → AreTheirTexts (insert_entry same_text entries key name)
texts_added [] key name is are = ap (λ text. text ∷ []) is
texts_added (entry ∷ entries) key name is are =
    let rest : AreTheirTexts entries = cc in
    texts_behind (bytes_eq key.now entry.0.now) entry key name entries (insert_entry same_text entries key name) refl is are (texts_added entries key name is rest)

name_where : (good : Bool) (text name : List ℕ) → (if good then Some text else None) ≡ Some name → (good ≡ true) × (name ≡ text)
name_where true text name some = (refl, cc)
name_where false text name some = cc

-- a text that is read as a name is one
pub read_is_name : (text name : List ℕ) → name_of text ≡ Some name → (is_name text ≡ true) × (name ≡ text)
read_is_name text name some = name_where (is_name text) text name some

new_where : (good among new known : Bool) → good ≡ true → known ≡ among → known ≡ not new → new ≡ (good && not among)
new_where true among true false is same other = ap not same
new_where true among false true is same other = ap not same
new_where good among true true is same other = cc
new_where good among false false is same other = cc
new_where false among true false is same other = cc
new_where false among false true is same other = cc

where_new : {X : Type 0} (among new known : Bool) (x y : X) → known ≡ among → known ≡ not new → (if among then x else y) ≡ (if new then y else x)
where_new true true known x y same other = absurd (true≢false (sym same ∙ other))
where_new true false known x y same other = refl
where_new false true known x y same other = refl
where_new false false known x y same other = absurd (true≢false (sym other ∙ same))

-- what inserting the name of a text does, and tells
pub record IsInserted (entries later : List Entry) (text : List ℕ) (is_new : Bool) : Type 0 where
  pub told : is_new ≡ is_new_name (entry_texts entries) text
  pub names : entry_texts later ≡ (if is_new then entry_texts entries ++ text ∷ [] else entry_texts entries)

pub is_inserted : (entries : List Entry) (key : Bor (List ℕ)) (name : List ℕ) (new : Bool) (known : Option (List ℕ)) → is_name key.now ≡ true
    → known ≡ lookup (same_text key) entries → is_some known ≡ not new → IsInserted entries (insert_entry same_text entries key name) key.now new
is_inserted entries key name new known is found told =
    let among : is_some known ≡ has_text (entry_texts entries) key.now = ap is_some found ∙ known_by_text entries key.now in
    record {
      told = new_where (is_name key.now) (has_text (entry_texts entries) key.now) new (is_some known) is among told;
      names = added_last entries key name ∙ where_new (has_text (entry_texts entries) key.now) new (is_some known) (entry_texts entries) (entry_texts entries ++ key.now ∷ []) among told;
    }

place_by_text : (entries : List Entry) (text : List ℕ) → position_or_len (λ key. bytes_eq text key.now) (keys_of entries) ≡ position_or_len (bytes_eq text) (entry_texts entries)
place_by_text [] text = refl
place_by_text (entry ∷ entries) text = ap (λ n. cond (not (bytes_eq text entry.0.now)) (1 + n) 0) (place_by_text entries text)

as_many_texts : (entries : List Entry) → length (keys_of entries) ≡ length (entry_texts entries)
as_many_texts [] = refl
as_many_texts (entry ∷ entries) = ap suc (as_many_texts entries)

-- the index of a text is its place among the texts
pub number_by_text : (entries : List Entry) (text : List ℕ) → position (λ key. bytes_eq text key.now) (keys_of entries) ≡ position (bytes_eq text) (entry_texts entries)
number_by_text entries text =
    let place = place_by_text entries text in
    λ j. cond (nat_lt (place j) (as_many_texts entries j)) (Some (place j)) None
