-- What the places for letters, messages and commands say. This project's own.
use Rattle.std.specs.Prelude.{ℕ, ℤ, List, [], map, slice_index_or, Option, Some, None, if◌then◌else◌, Vec}
use Rattle.std.specs.Global.{Global}
use Rattle.rcp_base.specs.Message.{Content}
use Rattle.rcp_model.specs.Messages.{Letter}
use Rattle.replica_parts.specs.declared.post.Post.{Post}
use Rattle.replica_parts.specs.declared.ballot.Heard.{Heard}

-- the letter that stands in a place, if one does
abbrev pub letter_in : Post → Option Letter
letter_in place =
    if place.present
    then Some (record { arrival = place.arrival; message = place.message })
    else None

-- the message that stands in a place, if one does
abbrev pub message_in : Heard → Option Content
message_in place = if place.present then Some place.message else None

-- the letters of these places
abbrev pub letters_in : List Post → List (Option Letter)
letters_in places = map letter_in places

-- the messages of these places
abbrev pub messages_in : List Heard → List (Option Content)
messages_in places = map message_in places

-- the letter of a place by its number
abbrev pub letter_at : List Post → ℕ → Option Letter
letter_at places number = slice_index_or (letters_in places) number None

-- the message of a place by its number
abbrev pub message_at : List Heard → ℕ → Option Content
message_at places number = slice_index_or (messages_in places) number None

-- the letters of these rows, by receiver and sender
abbrev pub letter_rows : List (Vec Post Global) → List (List (Option Letter))
letter_rows rows = map (λ (row : Vec Post Global). letters_in row.items) rows

-- the letter to a receiver from a sender
abbrev pub post_at : List (Vec Post Global) → ℕ → ℕ → Option Letter
post_at rows receiver sender =
    slice_index_or (slice_index_or (letter_rows rows) receiver []) sender None

-- the commands of these rows, by replica and actuator
abbrev pub command_rows : List (Vec (Option ℤ) Global) → List (List (Option ℤ))
command_rows rows = map (λ (row : Vec (Option ℤ) Global). row.items) rows
