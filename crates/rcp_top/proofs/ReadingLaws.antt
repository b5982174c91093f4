-- Readings one after the other, over any folder.
use Rattle.std.specs.Result.{ForOk}
use Rattle.std.proofs.Common.{◌≡◌, ℕ, List, [], Option, None, Some, Result, Ok, Err, refl, inl, inr, sym, subst, arith}
use Rattle.rcp_base.specs.Files.{Files, IfTold, IsMissing}
use Rattle.rcp_base.specs.States.{FolderState, IsLater}
use Rattle.rcp_base.proofs.StateLaws.{read_since, unread_since, unread_until}
use Rattle.rcp_top.specs.declared.stop.Refusal.{Refusal}
use Rattle.rcp_top.specs.declared.stop.Stop.{Stop}
use Rattle.rcp_top.specs.declared.stop.Stop.TheVariants as stop
use Rattle.rcp_top.specs.Finds.{Finds, TellsEnd}
use Rattle.rcp_top.specs.Reading.{Reading, End, Does, ◌>>=◌}

-- another fact of each end
pub does_also : {X : Type 0} (a b : FolderState) (reading : Reading X) (P Q : End X → Type 0) → ((end : End X) → P end → Q end)
    → Does a b reading P → Does a b reading Q
does_also a b (Reading.gives found) P Q also is = also (End.gave found) is
does_also a b (Reading.reads name next) P Q also (inl unread) = inl (unread.0, also (End.unread name) unread.1)
does_also a b (Reading.reads name next) P Q also (inr read) = inr (read.0, read.1, does_also a b (next read.0) P Q also read.2)

-- a read has some end, where it has one after each content
end_by_held : {X : Type 0} (a b : FolderState) (name : List ℕ) (next : List ℕ → Reading X) (P : End X → Type 0) (all : (end : End X) → P end)
    (each_next : (bytes : List ℕ) → Does a b (next bytes) P) (files : Files) (held : Option (List ℕ)) → a.files ≡ Some files → files name ≡ held
    → Does a b (Reading.reads name next) P
end_by_held a b name next P all each_next files None told is =
    let Q : Option Files → Type 0 = λ told. IsMissing told name in
    inl (inr (subst Q (sym told) is), all (End.unread name))
end_by_held a b name next P all each_next files (Some bytes) told is =
    let Q : Option Files → Type 0 = λ told. IfTold told (λ held. held name ≡ Some bytes) in
    inr (bytes, subst Q (sym told) is, each_next bytes)

end_by_files : {X : Type 0} (a b : FolderState) (name : List ℕ) (next : List ℕ → Reading X) (P : End X → Type 0) (all : (end : End X) → P end)
    (each_next : (bytes : List ℕ) → Does a b (next bytes) P) (told : Option Files) → a.files ≡ told → Does a b (Reading.reads name next) P
end_by_files a b name next P all each_next None is =
    let Q : Option Files → Type 0 = λ told. IfTold told (λ held. held name ≡ Some []) in
    inr ([], subst Q (sym is) tt, each_next [])
end_by_files a b name next P all each_next (Some files) is = end_by_held a b name next P all each_next files (files name) is refl

-- each reading has some end
pub some_end : {X : Type 0} (a b : FolderState) (reading : Reading X) (P : End X → Type 0) → ((end : End X) → P end) → Does a b reading P
some_end a b (Reading.gives found) P all = all (End.gave found)
some_end a b (Reading.reads name next) P all =
    end_by_files a b name next P all (λ bytes. some_end a b (next bytes) P all) a.files refl

-- what was read later
does_since : {X : Type 0} (a b c : FolderState) (reading : Reading X) (P : End X → Type 0) → IsLater a b → Does b c reading P → Does a c reading P
does_since a b c (Reading.gives found) P later is = is
does_since a b c (Reading.reads name next) P later (inl unread) = inl (unread_since c name later unread.0, unread.1)
does_since a b c (Reading.reads name next) P later (inr read) = inr (read.0, read_since name read.0 later read.1, does_since a b c (next read.0) P later read.2)

-- one reading, and then another from where it left the folder
pub does_then : {X Y : Type 0} (a b c : FolderState) (first : Reading X) (next : X → Reading Y) (P : End X → Type 0) (Q : End Y → Type 0)
    → IsLater a b → IsLater b c
    → ((x : X) → P (End.gave (Ok x)) → Does b c (next x) Q)
    → ((why : Refusal) → P (End.gave (Err why)) → Q (End.gave (Err why)))
    → ((name : List ℕ) → P (End.unread name) → Q (End.unread name))
    → Does a b first P → Does a c (first >>= next) Q
does_then a b c (Reading.gives (Ok x)) next P Q one two good bad none is = does_since a b c (next x) Q one (good x is)
does_then a b c (Reading.gives (Err why)) next P Q one two good bad none is = bad why is
does_then a b c (Reading.reads name rest) next P Q one two good bad none (inl unread) = inl (unread_until a name two unread.0, none name unread.1)
does_then a b c (Reading.reads name rest) next P Q one two good bad none (inr read) =
    inr (read.0, read.1, does_then a b c (rest read.0) next P Q one two good bad none read.2)

-- what a find tells of each end is a fact of some end
pub ends_of : {X Y : Type 0} (is : Y → X → Type 0) (a b : FolderState) (reading : Reading X) (answer : Result Y Stop) (P : End X → Type 0)
    → Finds is a b reading answer → ((end : End X) → TellsEnd is answer end → P end) → Does a b reading P
ends_of is a b reading (Err stop.Memory) P found all = some_end a b reading P (λ end. all end tt)
ends_of is a b reading (Ok y) P found all = does_also a b reading (TellsEnd is (Ok y)) P all found
ends_of is a b reading (Err (stop.Refused why)) P found all = does_also a b reading (TellsEnd is (Err (stop.Refused why))) P all found
ends_of is a b reading (Err (stop.Unreadable word)) P found all = does_also a b reading (TellsEnd is (Err (stop.Unreadable word))) P all found

-- after a find the next reading goes on
pub finds_then : {X Y X' Y' : Type 0} (is : Y → X → Type 0) (js : Y' → X' → Type 0) (a b c : FolderState)
    (first : Reading X) (next : X → Reading X') (y : Y) (answer : Result Y' Stop)
    → IsLater a b → IsLater b c → Finds is a b first (Ok y)
    → ((x : X) → is y x → Finds js b c (next x) answer) → Finds js a c (first >>= next) answer
finds_then is js a b c first next y (Err stop.Memory) one two found good = tt
finds_then is js a b c first next y (Ok y') one two found good =
    does_then a b c first next (TellsEnd is (Ok y)) (TellsEnd js (Ok y')) one two good (λ why none. absurd none) (λ name none. absurd none) found
finds_then is js a b c first next y (Err (stop.Refused why)) one two found good =
    does_then a b c first next (TellsEnd is (Ok y)) (TellsEnd js (Err (stop.Refused why))) one two good (λ why none. absurd none) (λ name none. absurd none) found
finds_then is js a b c first next y (Err (stop.Unreadable word)) one two found good =
    does_then a b c first next (TellsEnd is (Ok y)) (TellsEnd js (Err (stop.Unreadable word))) one two good (λ why none. absurd none) (λ name none. absurd none) found

pub later_self : (a : FolderState) → IsLater a a
later_self a = record { files = refl; faults = omega arith }

-- after a stop there is no next reading
pub finds_stop : {X Y X' Y' : Type 0} (is : Y → X → Type 0) (js : Y' → X' → Type 0) (a b : FolderState)
    (first : Reading X) (next : X → Reading X') (why : Stop)
    → IsLater a b → Finds is a b first (Err why) → Finds js a b (first >>= next) (Err why)
finds_stop is js a b first next stop.Memory one found = tt
finds_stop is js a b first next (stop.Refused why) one found =
    does_then a b b first next (TellsEnd is (Err (stop.Refused why))) (TellsEnd js (Err (stop.Refused why))) one (later_self b)
    (λ x none. absurd none) (λ other same. same) (λ name none. absurd none) found
finds_stop is js a b first next (stop.Unreadable word) one found =
    does_then a b b first next (TellsEnd is (Err (stop.Unreadable word))) (TellsEnd js (Err (stop.Unreadable word))) one (later_self b)
    (λ x none. absurd none) (λ other none. absurd none) (λ name same. same) found

-- a reading that reads nothing more
pub finds_here : {X Y : Type 0} (is : Y → X → Type 0) (a b : FolderState) (said : Result X Refusal) (answer : Result Y Stop)
    → TellsEnd is answer (End.gave said) → Finds is a b (Reading.gives said) answer
finds_here is a b said (Err stop.Memory) tells = tt
finds_here is a b said (Ok y) tells = tells
finds_here is a b said (Err (stop.Refused why)) tells = tells
finds_here is a b said (Err (stop.Unreadable word)) tells = tells

-- what was found stands for something
does_stand_for : {X Y : Type 0} (is : Y → X → Type 0) (a b : FolderState) (reading : Reading X) (y : Y) → Does a b reading (TellsEnd is (Ok y)) → (x : X) × is y x
does_stand_for is a b (Reading.gives (Ok x)) y tells = (x, tells)
does_stand_for is a b (Reading.gives (Err why)) y tells = absurd tells
does_stand_for is a b (Reading.reads name next) y (inl unread) = absurd unread.1
does_stand_for is a b (Reading.reads name next) y (inr read) = does_stand_for is a b (next read.0) y read.2

pub finds_stand_for : {X Y : Type 0} (is : Y → X → Type 0) (a b : FolderState) (reading : Reading X) (answer : Result Y Stop) → Finds is a b reading answer
    → ForOk answer (λ y. (x : X) × is y x)
finds_stand_for {Y = Y} is a b reading answer found y ok =
    let P : Result Y Stop → Type 0 = λ said. Finds is a b reading said in
    does_stand_for is a b reading y (subst P ok found)
