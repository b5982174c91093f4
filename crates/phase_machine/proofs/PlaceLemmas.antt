-- Places that stay places, and places without a command.
use Rattle.std.proofs.Common.{◌≡◌, ℕ, ◌<◌, List, length, get_or, set, length-set, replicate, Option, Some, None, ℤ, ap, subst, sym, arith, ◌∙◌, refl}
use Rattle.std.proofs.lemmas.List.{get_or-replicate, length-replicate}
use Rattle.std.proofs.lemmas.List.Elements.{All-set}
use Rattle.std.specs.Option.{option_or}
use Rattle.std.specs.Prelude.{IfSome}
use Rattle.rcp_base.specs.Filling.{Filled}
use Rattle.rcp_base.specs.Tables.{table}
use Rattle.rcp_base.proofs.FillLaws.{is_table}
use Rattle.rcp_base.proofs.TableLaws.{get_or-table}
use Rattle.replica_parts.specs.Rooms.{AreEach}

pub each_set : {X : Type 0} (n : ℕ) (P : X → Type 0) (xs : List X) (i : ℕ) (x : X)
    → AreEach n P xs → P x → AreEach n P (set xs i x)
each_set n P xs i x h p =
    record { size = length-set xs i x ∙ h.size; each = All-set P xs i x p h.each }

pub each_at : {X : Type 0} (n : ℕ) (P : X → Type 0) (xs : List X) (i : ℕ) (x : X)
    → AreEach n P xs → i < n → x ≡ get_or xs i x → P x
each_at n P xs i x h lt is = subst P (sym is) (h.each i x (omega (arith, lt, h.size)))

-- what holds of an item, if there is one, has what follows of it
pub some_then : {X : Type 0} (o : Option X) (P Q : X → Type 0)
    → ((x : X) → P x → Q x) → IfSome o P → IfSome o Q
some_then None P Q then h = h
some_then (Some x) P Q then h = then x h

-- a row's command, or none
pub or_none : (o : Option ℤ) → o ≡ option_or o None
or_none None = refl
or_none (Some x) = refl

abbrev pub no_command : Option ℤ
no_command = None

pub none_table : (n : ℕ) → replicate n no_command ≡ table n (λ k. no_command)
none_table n = is_table n (λ k. no_command) (replicate n no_command) no_command
    (length-replicate n no_command) (λ k lt. get_or-replicate n k no_command no_command lt)

-- an item that is read of a table
pub table_read : {X : Type 0} (xs : List X) (n : ℕ) (f : ℕ → X) (i : ℕ) (x : X)
    → xs ≡ table n f → i < n → x ≡ get_or xs i x → x ≡ f i
table_read {X = X} xs n f i x e lt is =
    is ∙ ap (λ (ys : List X). get_or ys i x) e ∙ get_or-table n f i x lt

-- a loop that has filled no place yet
pub filled_none : {X : Type 0} (n : ℕ) (f : ℕ → X) (d : X) (xs : List X) → length xs ≡ n
    → Filled n f d xs xs 0
filled_none n f d xs size =
    record { size = size; done = λ k lt. absurd (omega (arith, lt)); rest = λ k le. refl }
