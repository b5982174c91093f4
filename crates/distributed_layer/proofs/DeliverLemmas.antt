-- Mailboxes that are filled sender by sender.
use Rattle.std.proofs.Math.Path.{fun_ext}
use Rattle.std.proofs.Common.{◌≡◌, ◌≢◌, ◌⊎◌, ℕ, ◌+◌, ◌<◌, ◌≤◌, List, [], length, map, get_or, Option, Some, None, Vec, inl, inr, sym, ap, ◌∙◌, arith}
use Rattle.std.proofs.lemmas.Bool.{cases_eq, cases_lt}
use Rattle.std.proofs.lemmas.List.{get_or-map, get_or_past, length-map}
use Rattle.std.specs.Global.{Global}
use Rattle.std.specs.Option.{option_or}
use Rattle.mailbox.proofs.PutLaws.{put_other, put_same}
use Rattle.mailbox.specs.Mailboxes.{put}
use Rattle.rcp_base.specs.Message.{Content}
use Rattle.rcp_model.specs.declared.plan.PlanParts.{PlanParts}
use Rattle.rcp_model.specs.FrameRows.{FrameRows}
use Rattle.rcp_model.specs.Messages.{Letter, in_time}
use Rattle.phase_machine.specs.Seats.{Seat, got_seat}
use Rattle.phase_machine.specs.declared.phase.Phase.{Phase}
use Rattle.replica_parts.specs.Places.{letter_at, letter_in, letters_in, post_at}
use Rattle.replica_parts.specs.declared.post.Post.{Post}
use Rattle.replica_parts.specs.declared.setting.Setting.{Setting}
use Rattle.distributed_layer.specs.inner.Amid.{ShowSeats, filled_by}
use Rattle.distributed_layer.specs.Together.{boxes_after, filled_seat}
use Rattle.distributed_layer.proofs.LoopLemmas.{below, below_more, below_new, below_old, put_nothing, seats_agree}

-- what lies in a table that is put twice at one number is what was put last
pub put_twice : {A : Type 0} (values : ℕ → A) (place : ℕ) (first last : A) (k : ℕ)
    → put (put values place first) place last k ≡ put values place last k
put_twice {A = A} values place first last k = go (cases_eq k place)
  where
    go : (k ≡ place) ⊎ (k ≢ place)
        → put (put values place first) place last k ≡ put values place last k
    go (inl e) =
        ap (put (put values place first) place last) e
        ∙ put_same (put values place first) place last
        ∙ sym (put_same values place last) ∙ ap (put values place last) (sym e)
    go (inr other) =
        put_other (put values place first) place last k other
        ∙ put_other values place first k other ∙ sym (put_other values place last k other)

module _ (plan : PlanParts) (frame : ℕ) (rows : FrameRows) (receiver : ℕ)
    (letters : ℕ → Option Letter) (seat : Seat) where
  abbrev full : ℕ → Option Content
  full = boxes_after plan frame rows receiver letters seat.boxes

  -- a receiver's seat when the letters of the first senders have come
  abbrev pub filled_so_far : ℕ → Seat
  filled_so_far n = record seat { boxes = below n full seat.boxes }

  -- none has come
  pub filled_none : seat ≡ filled_so_far 0
  filled_none =
      ap (λ boxes. record seat { boxes = boxes })
      (fun_ext (λ k. sym (below_old 0 full seat.boxes k (omega arith))))

  -- one more has
  pub filled_more : (n : ℕ)
      → filled_by plan frame rows receiver n (letters n) (filled_so_far n) ≡ filled_so_far (n + 1)
  filled_more n =
      ap (λ boxes. record seat { boxes = boxes })
      (fun_ext (λ k.
      ap (λ (old : Option Content). put (below n full seat.boxes) n
      (option_or (in_time plan frame rows receiver (letters n)) old) k)
      (below_old n full seat.boxes n (omega arith))
      ∙ below_more n full seat.boxes k))

  -- all have, where none comes of a sender that is not there
  pub filled_all : (n : ℕ) → ((k : ℕ) → n ≤ k → letters k ≡ None)
      → filled_so_far n ≡ filled_seat plan frame rows receiver letters seat
  filled_all n none =
      ap (λ boxes. record seat { boxes = boxes }) (fun_ext (λ k. go k (cases_lt k n)))
    where
      go : (k : ℕ) → (k < n) ⊎ (n ≤ k) → below n full seat.boxes k ≡ full k
      go k (inl lt) = below_new n full seat.boxes k lt
      go k (inr le) =
          below_old n full seat.boxes k le
          ∙ ap (λ (letter : Option Letter).
          option_or (in_time plan frame rows receiver letter) (seat.boxes k)) (sym (none k le))

-- the letter in a place that is read
pub letter_here : (places : List Post) (k : ℕ) (place : Post) → k < length places
    → place ≡ get_or places k place → letter_in place ≡ letter_at places k
letter_here places k place lt is =
    ap letter_in is ∙ sym (get_or-map letter_in places k place None lt)

-- the letters to a receiver whose row is read
pub row_here : (rows : List (Vec Post Global)) (k : ℕ) (row : Vec Post Global) (places : List Post)
    → k < length rows → row ≡ get_or rows k row → places ≡ row.items
    → letter_at places ≡ post_at rows k
row_here rows k row places lt is e =
    let Letters : Vec Post Global → List (Option Letter) = λ v. letters_in v.items in
    ap (λ letters sender. get_or letters sender None)
    (ap letters_in e ∙ ap Letters is ∙ sym (get_or-map Letters rows k row [] lt))

-- none stands past the last place
pub none_past : (places : List Post) (k : ℕ) → length places ≤ k → letter_at places k ≡ None
none_past places k le =
    get_or_past (map letter_in places) k None (omega (arith, le, length-map places letter_in))

module _ (plan : PlanParts) (setting : Setting) (rows : FrameRows) (phases : List Phase)
    (frame receiver sender : ℕ) (seats : ℕ → Seat) where
  -- a letter in the window has come
  pub one_came : (letter : Option Letter) (sent : Letter)
      → in_time plan frame rows receiver letter ≡ Some sent.message
      → ShowSeats plan setting rows phases
      (put seats receiver (got_seat sender (Some sent) (seats receiver)))
      → ShowSeats plan setting rows phases
      (put seats receiver (filled_by plan frame rows receiver sender letter (seats receiver)))
  one_came letter sent e =
      seats_agree plan setting rows phases _ _ (λ k _.
      ap (λ (came : Option Content). put seats receiver (record (seats receiver) {
        boxes = put (seats receiver).boxes sender
            (option_or came ((seats receiver).boxes sender));
      }) k) (sym e))

  -- where none lies in it nothing has
  pub none_came : (letter : Option Letter) → in_time plan frame rows receiver letter ≡ None
      → ShowSeats plan setting rows phases seats
      → ShowSeats plan setting rows phases
      (put seats receiver (filled_by plan frame rows receiver sender letter (seats receiver)))
  none_came letter e =
      seats_agree plan setting rows phases _ _ (λ k _.
      sym (put_nothing seats receiver k)
      ∙ ap (λ boxes. put seats receiver (record (seats receiver) { boxes = boxes }) k)
      (fun_ext (λ from. sym (put_nothing (seats receiver).boxes sender from))
      ∙ ap (λ (came : Option Content). put (seats receiver).boxes sender
      (option_or came ((seats receiver).boxes sender))) (sym e)))

  -- what came to a receiver after what came before
  pub more_came : (letters : ℕ → Option Letter) (n : ℕ) (letter : Option Letter)
      → letter ≡ letters n
      → let so_far = filled_so_far plan frame rows receiver letters (seats receiver) in
      let now = put seats receiver (so_far n) in
      ShowSeats plan setting rows phases
      (put now receiver (filled_by plan frame rows receiver n letter (now receiver)))
      → ShowSeats plan setting rows phases (put seats receiver (so_far (n + 1)))
  more_came letters n letter e =
      let so_far = filled_so_far plan frame rows receiver letters (seats receiver) in
      seats_agree plan setting rows phases _ _ (λ k _.
      put_twice seats receiver (so_far n) _ k
      ∙ ap (λ seat. put seats receiver seat k)
      (ap (filled_by plan frame rows receiver n letter) (put_same seats receiver (so_far n))
      ∙ ap (λ (one : Option Letter). filled_by plan frame rows receiver n one (so_far n)) e
      ∙ filled_more plan frame rows receiver letters (seats receiver) n))
