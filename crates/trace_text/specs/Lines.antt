-- The lines of a run, each with its line feed. This project's own.
use Rattle.std.specs.Prelude.{ℕ, ℤ, Bool, List, ◌∷◌, ◌++◌, codes, flat_map, Option, Some, None, if◌then◌else◌}
use Rattle.std.specs.Fmt.{decimal, signed_decimal}
use Rattle.event_queue.specs.declared.event.Event.{Event}
use Rattle.event_queue.specs.declared.event.EventKind.{EventKind}
use Rattle.event_queue.specs.declared.event.EventKind.TheVariants as event
use Rattle.trace_text.specs.declared.label.Label.{Label}
use Rattle.trace_text.specs.declared.label.Label.TheVariants as label

-- each number after a space
abbrev pub numbers_text : List ℤ → List ℕ
numbers_text numbers = flat_map (λ n. 32 ∷ signed_decimal n) numbers

-- `yes` or `no`
abbrev pub yes_or_no : Bool → List ℕ
yes_or_no test = if test then codes "yes" else codes "no"

-- `down` or `up`
abbrev pub down_or_up : Bool → List ℕ
down_or_up down = if down then codes "down" else codes "up"

-- a value, or `none`
abbrev pub value_or_none : Option ℤ → List ℕ
value_or_none (Some value) = signed_decimal value
value_or_none None = codes "none"

-- `slot S cells V V ..`
abbrev pub state_text : ℕ → List ℤ → List ℕ
state_text slot cells = codes "slot " ++ decimal slot ++ codes " cells" ++ numbers_text cells

-- `frame T`
unfoldable pub frame_line : ℕ → List ℕ
frame_line t = codes "frame " ++ decimal t ++ codes "\n"

-- `frame T guard G`
unfoldable pub frame_guard_line : ℕ → Bool → List ℕ
frame_guard_line t guard =
    codes "frame " ++ decimal t ++ codes " guard " ++ yes_or_no guard ++ codes "\n"

-- `vote NAME VALUE`, or `vote NAME none`
unfoldable pub vote_line : List ℕ → Option ℤ → List ℕ
vote_line name value = codes "vote " ++ name ++ codes " " ++ value_or_none value ++ codes "\n"

-- `ideal slot S cells V V ..`
unfoldable pub ideal_line : ℕ → List ℤ → List ℕ
ideal_line slot cells = codes "ideal " ++ state_text slot cells ++ codes "\n"

-- `replica P up slot S cells V V .. working G`
unfoldable pub replica_line : ℕ → Bool → ℕ → List ℤ → Bool → List ℕ
replica_line replica down slot cells working =
    codes "replica " ++ decimal replica ++ codes " " ++ down_or_up down ++ codes " "
    ++ state_text slot cells ++ codes " working " ++ yes_or_no working ++ codes "\n"

-- the word before a count
abbrev pub label_word : Label → List ℕ
label_word label.Recovery = codes "recovery"
label_word label.Votes = codes "votes"
label_word label.Spared = codes "spared"
label_word label.Frames = codes "frames"
label_word label.Guarded = codes "guarded"
label_word label.NoVote = codes "none"
label_word label.Working = codes "working"
label_word label.Digest = codes "digest"
label_word label.End = codes "end"

-- `recovery L`, `votes COUNT`, `end FRAMES` and their like
unfoldable pub count_line : Label → ℕ → List ℕ
count_line label value = label_word label ++ codes " " ++ decimal value ++ codes "\n"

-- the word of a kind of event
abbrev pub kind_word : EventKind → List ℕ
kind_word event.Begin = codes "begin"
kind_word event.Send = codes "send"
kind_word event.Deliver = codes "deliver"
kind_word event.Vote = codes "vote"
kind_word event.Sync = codes "sync"

-- whose an event of a kind is: `P`, or `FROM to TO of FRAME`
abbrev pub whose_text : EventKind → Event → List ℕ
whose_text event.Deliver it =
    decimal it.other ++ codes " to " ++ decimal it.replica ++ codes " of " ++ decimal it.frame
whose_text kind it = decimal it.replica

-- `TICK begin P`, `TICK send P`, `TICK deliver FROM to TO of FRAME`, `TICK vote P`, `TICK sync P`
unfoldable pub event_line : Event → List ℕ
event_line it =
    signed_decimal it.tick ++ codes " " ++ kind_word it.kind ++ codes " "
    ++ whose_text it.kind it ++ codes "\n"
