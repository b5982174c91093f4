-- The phases of all replicas, of which one goes a step.
use Rattle.std.proofs.Common.{◌≡◌, ◌≢◌, ◌<◌, ◌+◌, ◌++◌, ◌∷◌, [], ℕ, List, length, length-set, get_or, get_or-set_same, get_or-set_other, set, ap, sym, subst, inl, inr, arith, ◌∙◌}
use Rattle.std.proofs.lemmas.Bool.{cases_eq}
use Rattle.std.proofs.lemmas.List.{get_or_append_left, get_or_read, set-set}
use Rattle.std.proofs.Math.Seq.{get_or-append_seam}
use Rattle.mailbox.proofs.PutLaws.{put_other, put_same}
use Rattle.mailbox.specs.Mailboxes.{put}
use Rattle.rcp_model.specs.declared.plan.PlanParts.{PlanParts}
use Rattle.rcp_model.specs.FrameRows.{FrameRows}
use Rattle.phase_machine.specs.Phase.{AllShow, ShowsSeat}
use Rattle.phase_machine.specs.Seats.{Seat}
use Rattle.phase_machine.specs.declared.phase.Phase.{Phase}
use Rattle.phase_machine.specs.declared.phase.Phase.TheVariants.{Moving}

module _ (plan : PlanParts) (rows : FrameRows) (seats : ℕ → Seat) (replica : ℕ) (seat : Seat) where
  -- the phase at a number shows its seat, where one replica has another
  abbrev Shows : List Phase → ℕ → Type 0
  Shows phases k = ShowsSeat plan rows k (get_or phases k Moving) (put seats replica seat k)

  shows_here : (old : List Phase) (one : Phase) → replica < length old
      → ShowsSeat plan rows replica one seat → Shows (set old replica one) replica
  shows_here old one lt h =
      subst (λ (x : Phase). ShowsSeat plan rows replica x (put seats replica seat replica))
      (sym (get_or-set_same old replica one Moving lt))
      (subst (λ (s : Seat). ShowsSeat plan rows replica one s)
      (sym (put_same seats replica seat)) h)

  shows_there : (old : List Phase) (one : Phase) (k : ℕ) → k ≢ replica
      → ShowsSeat plan rows k (get_or old k Moving) (seats k) → Shows (set old replica one) k
  shows_there old one k ne h =
      subst (λ (x : Phase). ShowsSeat plan rows k x (put seats replica seat k))
      (sym (get_or-set_other old replica k one Moving ne))
      (subst (λ (s : Seat). ShowsSeat plan rows k (get_or old k Moving) s)
      (sym (put_other seats replica seat k ne)) h)

  -- one replica has another phase
  pub one_shows : (old : List Phase) (one : Phase) → AllShow plan rows old seats
      → replica < length old → ShowsSeat plan rows replica one seat
      → AllShow plan rows (set old replica one) (put seats replica seat)
  one_shows old one all lt h = λ k below. elim (cases_eq k replica) [
    | inl e ↦ subst (Shows (set old replica one)) (sym e) (shows_here old one lt h)
    | inr ne ↦ shows_there old one k ne (all k (omega (arith, below, length-set old replica one)))
  ]

-- a place that was empty for the time of a step
pub stepped : (old mid new : List Phase) (i : ℕ) (moving one : Phase)
    → mid ≡ set old i moving → new ≡ set mid i one → new ≡ set old i one
stepped old mid new i moving one out back =
    back ∙ ap (λ (xs : List Phase). set xs i one) out ∙ set-set old i moving one

-- a replica's phase is taken out, goes a step and is put back
pub stepped_show : (plan : PlanParts) (rows : FrameRows) (seats : ℕ → Seat) (replica : ℕ)
    (seat : Seat) (old mid new : List Phase) (taken moving one : Phase)
    → AllShow plan rows old seats → replica < length old → taken ≡ get_or old replica Moving
    → mid ≡ set old replica moving → new ≡ set mid replica one
    → (ShowsSeat plan rows replica taken (seats replica) → ShowsSeat plan rows replica one seat)
    → AllShow plan rows new (put seats replica seat)
stepped_show plan rows seats replica seat old mid new taken moving one all lt is out back step =
    let at = subst (λ (x : Phase). ShowsSeat plan rows replica x (seats replica)) (sym is)
    (all replica lt) in
    subst (λ (xs : List Phase). AllShow plan rows xs (put seats replica seat))
    (sym (stepped old mid new replica moving one out back))
    (one_shows plan rows seats replica seat old one all lt (step at))

-- a phase that is read
pub phase_read : (phases : List Phase) (i : ℕ) (one : Phase) → i < length phases
    → one ≡ get_or phases i one → one ≡ get_or phases i Moving
phase_read phases i one lt is = get_or_read phases i one lt is Moving

-- the phase of a replica that went a step, and those of the others
pub stepped_here : (old mid new : List Phase) (i : ℕ) (moving one : Phase) → i < length old
    → mid ≡ set old i moving → new ≡ set mid i one → get_or new i Moving ≡ one
stepped_here old mid new i moving one lt out back =
    ap (λ (xs : List Phase). get_or xs i Moving) (stepped old mid new i moving one out back)
    ∙ get_or-set_same old i one Moving lt

pub stepped_there : (old mid new : List Phase) (i : ℕ) (moving one : Phase) (k : ℕ) → k ≢ i
    → mid ≡ set old i moving → new ≡ set mid i one → get_or new k Moving ≡ get_or old k Moving
stepped_there old mid new i moving one k ne out back =
    ap (λ (xs : List Phase). get_or xs k Moving) (stepped old mid new i moving one out back)
    ∙ get_or-set_other old i k one Moving ne

-- what holds of a number and of all before it
pub by_last : (P : ℕ → Type 0) (n : ℕ) → P n → ((k : ℕ) → k < n → P k)
    → (k : ℕ) → k < n + 1 → P k
by_last P n here before k below = elim (cases_eq k n) [
  | inl e ↦ subst P (sym e) here
  | inr ne ↦ before k (omega (arith, ne, below))
]

-- what holds of each phase, and of one more
pub one_more : (P : ℕ → Phase → Type 0) (old new : List Phase) (one : Phase)
    → ((k : ℕ) → k < length old → P k (get_or old k Moving)) → P (length old) one
    → new ≡ old ++ one ∷ [] → (k : ℕ) → k < length old + 1 → P k (get_or new k Moving)
one_more P old new one all here is =
    by_last (λ k. P k (get_or new k Moving)) (length old)
    (subst (P (length old)) (sym (ap (λ (xs : List Phase). get_or xs (length old) Moving) is
    ∙ get_or-append_seam old one [] Moving)) here)
    (λ k lt. subst (P k) (sym (ap (λ (xs : List Phase). get_or xs k Moving) is
    ∙ get_or_append_left old (one ∷ []) Moving k lt)) (all k lt))
