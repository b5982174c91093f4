-- How a call ends, by what was written and what was read.
use Rattle.std.proofs.Common.{ℕ, List, ◌∷◌, suc, ◌≡◌, ◌⊎◌, Option, Some, None, Result, Ok, Err, Contains, refl, inl, inr, sym, subst, arith}
use Rattle.rcp_base.specs.Files.{Files, IfTold, IsMissing}
use Rattle.rcp_base.specs.declared.sink.WriteError.{WriteError}
use Rattle.rcp_base.specs.declared.sink.WriteError.TheVariants as write
use Rattle.rcp_base.specs.States.{FolderState, SinkState, HasFailed, IsUnread}
use Rattle.rcp_base.specs.Writing.{Writes}
use Rattle.rcp_base.proofs.WritingLaws.{no_front}
use Rattle.rcp_top.specs.declared.status.Status.{Status}
use Rattle.rcp_top.specs.declared.status.Status.TheVariants as status
use Rattle.rcp_top.specs.declared.stop.Refusal.TheVariants as refusal
use Rattle.rcp_top.specs.declared.stop.Stop.{Stop}
use Rattle.rcp_top.specs.declared.stop.Stop.TheVariants as stop
use Rattle.rcp_top.specs.Finds.{TellsEnd}
use Rattle.trace_text.specs.Refusals.{unreadable_line}
use Rattle.rcp_top.specs.Forms.{Form, form_of, work_of}
use Rattle.rcp_top.proofs.ReadingLaws.{does_also}
use Rattle.rcp_top.specs.Outcome.{Outcome, Ends, EndsOver, HasUnread, outcome_at, outcome_by, outcome_of, words_read, words_read_by, unreadable, status_after}
use Rattle.rcp_top.specs.Reading.{Reading, End, Does, end_at, end_over, names_after, names_read}

-- the end of a call whose whole text was given to the sink
pub ends_after_write : {T : Type 0} (due : Status) (text : List ℕ) (old new : SinkState) (result : Result T WriteError)
    → Writes old new result text → Ends (record { status = due; text = text }) (status_after due result) old new
ends_after_write due text old new (Ok u) wrote = Ends.as_due refl wrote.ok
ends_after_write due text old new (Err write.Failed) wrote = Ends.sink_failed refl (wrote.failed refl) wrote.err
ends_after_write due text old new (Err write.Memory) wrote = Ends.out_of_memory refl wrote.err

-- the end of a call that answers that a word was not read
pub ends_unreadable : {T : Type 0} {Y : Type 0} (is : Y → List ℕ → Type 0) (answer : Result Y Stop) (word : _) (old new : SinkState) (result : Result T WriteError)
    → answer ≡ Err (stop.Unreadable word) → Writes old new result (unreadable_line word.now)
    → (end : End (List ℕ)) → TellsEnd is answer end → Ends (outcome_at end) (status_after status.ReadFault result) old new
ends_unreadable is answer word old new result same wrote end tells = by_end end (rw same at tells)
  where
    by_end : (end : End (List ℕ)) → TellsEnd is (Err (stop.Unreadable word)) end → Ends (outcome_at end) (status_after status.ReadFault result) old new
    by_end (End.unread name) is =
        let P : List ℕ → Type 0 = λ name. Ends (unreadable name) (status_after status.ReadFault result) old new in
        subst P (sym is) (ends_after_write status.ReadFault (unreadable_line word.now) old new result wrote)
    by_end (End.gave (Ok x)) is = absurd is
    by_end (End.gave (Err why)) is = absurd is

-- what a call is to answer where it did not read a file is never due for another reason
unread_alone : (old new : SinkState) (end : End (List ℕ)) → Ends (outcome_at end) status.ReadFault old new → (name : List ℕ) × (end ≡ End.unread name)
unread_alone old new (End.unread name) is = (name, refl)
unread_alone old new (End.gave (Ok text)) (Ends.as_due is text') = cc is
unread_alone old new (End.gave (Err (refusal.TaskFile fault))) (Ends.as_due is text') = cc is
unread_alone old new (End.gave (Err (refusal.Pattern plan cycle))) (Ends.as_due is text') = cc is
unread_alone old new (End.gave (Err (refusal.Journal fault))) (Ends.as_due is text') = cc is
unread_alone old new (End.gave found) (Ends.sink_failed is rises text') = cc is
unread_alone old new (End.gave found) (Ends.out_of_memory is text') = cc is

contains_first : (x : List ℕ) (xs : List (List ℕ)) → Contains (x ∷ xs) x
contains_first x xs = (0, omega arith, refl)

contains_later : (x : List ℕ) (xs : List (List ℕ)) (y : List ℕ) → Contains xs y → Contains (x ∷ xs) y
contains_later x xs y there = (suc there.0, (let below = there.1 in omega (arith, below)), there.2)

-- a reading over the files that a folder tells: its end over them, or a read that the folder failed
pub over_files : {X : Type 0} (a b : FolderState) (files : Files) (reading : Reading X) (P : End X → Type 0) → a.files ≡ Some files → Does a b reading P
    → P (end_over files reading) ⊎ ((name : List ℕ) × HasFailed a b × Contains (names_read files reading) name × P (End.unread name))
over_files a b files (Reading.gives found) P told is = inl is
over_files a b files (Reading.reads name next) P told (inl unread) = by_cause unread.0
  where
    by_cause : IsUnread a b name → P (end_over files (Reading.reads name next)) ⊎ ((name' : List ℕ) × HasFailed a b × Contains (names_read files (Reading.reads name next)) name' × P (End.unread name'))
    by_cause (inl failed) = inr (name, failed, contains_first name _, unread.1)
    by_cause (inr missing) =
        let Q : Option Files → Type 0 = λ told. IsMissing told name in
        let none : files name ≡ None = subst Q told missing in
        let R : Option (List ℕ) → Type 0 = λ held. P (end_at name (λ bytes. end_over files (next bytes)) held) in
        inl (subst R (sym none) unread.1)
over_files a b files (Reading.reads name next) P told (inr read) = by_rest (over_files a b files (next read.0) P told read.2)
  where
    Q : Option Files → Type 0
    Q told = IfTold told (λ files. files name ≡ Some read.0)

    held : files name ≡ Some read.0
    held = subst Q told read.1

    by_rest : P (end_over files (next read.0)) ⊎ ((other : List ℕ) × HasFailed a b × Contains (names_read files (next read.0)) other × P (End.unread other))
        → P (end_over files (Reading.reads name next)) ⊎ ((other : List ℕ) × HasFailed a b × Contains (names_read files (Reading.reads name next)) other × P (End.unread other))
    by_rest (inl is) =
        let R : Option (List ℕ) → Type 0 = λ held. P (end_at name (λ bytes. end_over files (next bytes)) held) in
        inl (subst R (sym held) is)
    by_rest (inr there) =
        let S : Option (List ℕ) → Type 0 = λ held. Contains (names_after (λ bytes. names_read files (next bytes)) held) there.0 in
        inr (there.0, there.1, contains_later name _ there.0 (subst S (sym held) there.2), there.3)

-- a call ends as is due over the files that the folder tells
pub ends_over : (a b : FolderState) (words : List (List ℕ)) (form : Form) (P : Outcome → Type 0) → form_of words ≡ Some form
    → Does a b (work_of form) (λ end. P (outcome_at end)) → EndsOver a b words P
ends_over a b words form P asked does = by_told a.files refl
  where
    by_told : (told : Option Files) → a.files ≡ told
        → IfTold told (λ files. P (outcome_of words files) ⊎ ((name : List ℕ) × HasFailed a b × Contains (words_read words files) name × P (unreadable name)))
    by_told None is = tt
    by_told (Some files) is =
        let Q : Option Form → Type 0 = λ asked. P (outcome_by asked files) ⊎ ((name : List ℕ) × HasFailed a b × Contains (words_read_by asked files) name × P (unreadable name)) in
        subst Q (sym asked) (over_files a b files (work_of form) (λ end. P (outcome_at end)) is does)

-- a fact of the files that are told, by another that is told of them
told_also : (told : Option Files) (P Q R : Files → Type 0) → ((files : Files) → P files → Q files → R files) → IfTold told P → IfTold told Q → IfTold told R
told_also None P Q R all p q = tt
told_also (Some files) P Q R all p q = all files p q

told_always : (told : Option Files) (P : Files → Type 0) → ((files : Files) → P files) → IfTold told P
told_always None P all = tt
told_always (Some files) P all = all files

-- a call that had no memory to begin with
pub ends_memory : (a : FolderState) (words : List (List ℕ)) (old : SinkState) → EndsOver a a words (λ due. Ends due status.Memory old old)
ends_memory a words old =
    told_always a.files (λ files. Ends (outcome_of words files) status.Memory old old
    ⊎ ((name : List ℕ) × HasFailed a a × Contains (words_read words files) name × Ends (unreadable name) status.Memory old old))
    (λ files. inl (Ends.out_of_memory refl (no_front old.written (outcome_of words files).text)))

-- a reading that ended at a file that was not read
pub unread_in : {X : Type 0} (a b : FolderState) (reading : Reading X) → Does a b reading (λ end. (name : List ℕ) × (end ≡ End.unread name))
    → (name : List ℕ) × IsUnread a b name × IfTold a.files (λ files. Contains (names_read files reading) name)
unread_in a b (Reading.gives found) is = let never = is.1 in absurd (cc never)
unread_in a b (Reading.reads name next) (inl unread) =
    (name, unread.0, told_always a.files (λ files. Contains (names_read files (Reading.reads name next)) name) (λ files. contains_first name _))
unread_in a b (Reading.reads name next) (inr read) =
    let rest = unread_in a b (next read.0) read.2 in (
      rest.0,
      rest.1,
      told_also a.files (λ files. files name ≡ Some read.0) (λ files. Contains (names_read files (next read.0)) rest.0)
          (λ files. Contains (names_read files (Reading.reads name next)) rest.0)
          (λ files held there.
          let S : Option (List ℕ) → Type 0 = λ held. Contains (names_after (λ bytes. names_read files (next bytes)) held) rest.0 in
          contains_later name _ rest.0 (subst S (sym held) there))
          read.1 rest.2,
    )

-- a call that ends with the status of a read fault did not read a file that it was to read
pub read_fault_in : (a b : FolderState) (words : List (List ℕ)) (form : Form) (ended : Status) (old new : SinkState) → form_of words ≡ Some form
    → Does a b (work_of form) (λ end. Ends (outcome_at end) ended old new) → ended ≡ status.ReadFault → (name : List ℕ) × HasUnread a b words name
read_fault_in a b words form ended old new asked does is =
    let P : Status → Type 0 = λ ended. Does a b (work_of form) (λ end. Ends (outcome_at end) ended old new) in
    let found = unread_in a b (work_of form) (does_also a b (work_of form) _ _ (unread_alone old new) (subst P is does)) in
    let Q : Option Form → Type 0 = λ asked. IfTold a.files (λ files. Contains (words_read_by asked files) found.0) in
    (found.0, record { unread = found.1; wanted = subst Q (sym asked) found.2 })
