-- Folders one call after another.
use Rattle.std.proofs.Common.{◌≡◌, ℕ, List, Option, Some, inl, inr, subst, arith}
use Rattle.rcp_base.specs.Files.{Files, IsMissing, IfTold}
use Rattle.rcp_base.specs.States.{FolderState, IsLater, IsRead, IsUnread}

-- what was read later was read
pub read_since : {a b : FolderState} (name bytes : List ℕ) → IsLater a b → IsRead b name bytes → IsRead a name bytes
read_since {a} {b} name bytes later is = let P : Option Files → Type 0 = λ files. IfTold files (λ f. f name ≡ Some bytes) in subst P later.files is

-- what was not read later was not read
pub unread_since : {a b : FolderState} (c : FolderState) (name : List ℕ) → IsLater a b → IsUnread b c name → IsUnread a c name
unread_since {a} {b} c name later (inl rises) = inl (omega (arith, later.faults, rises))
unread_since {a} {b} c name later (inr missing) = let P : Option Files → Type 0 = λ files. IsMissing files name in inr (subst P later.files missing)

-- nor was it read up to a still later call
pub unread_until : (a : FolderState) {b c : FolderState} (name : List ℕ) → IsLater b c → IsUnread a b name → IsUnread a c name
unread_until a {b} {c} name later (inl rises) = inl (omega (arith, later.faults, rises))
unread_until a {b} {c} name later (inr missing) = inr missing
