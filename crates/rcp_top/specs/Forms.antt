-- The forms of words, as far as they are built. This project's own.
use Rattle.std.specs.Prelude.{ℕ, ◌||◌, Bool, List, [], ◌∷◌, codes, map, string_bytes, Option, Some, None, option_map, if◌then◌else◌}
use Rattle.std.specs.Str.{bytes_eq}
use Rattle.std.proofs.Common.{String, Global}
use Rattle.rcp_top.specs.declared.form.Form as asked
use Rattle.rcp_top.specs.declared.form.Form.TheVariants as asked_variant
use Rattle.rcp_top.specs.declared.form.EventOrder.{EventOrder}
use Rattle.rcp_top.specs.declared.form.EventOrder.TheVariants as order
use Rattle.rcp_top.specs.Check.{check_of}
use Rattle.rcp_top.specs.Events.{events_of}
use Rattle.rcp_top.specs.Generated.{gen_of}
use Rattle.rcp_top.specs.Ideal.{ideal_of}
use Rattle.rcp_top.specs.Number.{frames_of, number_of}
use Rattle.rcp_top.specs.Reading.{Reading}
use Rattle.rcp_top.specs.Replay.{replay_of}
use Rattle.rcp_top.specs.Summary.{summary_of}
use Rattle.rcp_top.specs.Thin.{thin_of}

-- a form of words, with the words that name files
pub data Form : Type 0 where
  check : (file : List ℕ) → Form
  thin : (file : List ℕ) → Form
  ideal : (file journal : List ℕ) → Form
  replay : (file journal : List ℕ) → Form
  events : (file journal : List ℕ) (order : EventOrder) → Form
  summary : (file journal : List ℕ) → Form
  gen : (file : List ℕ) (number frames : ℕ) → Form

-- the words, as their bytes
abbrev pub bytes_of_words : List (String Global) → List (List ℕ)
bytes_of_words words = map (λ word. string_bytes word) words

-- the word names a layer: the replicas in one step, in phases, or on clocks
abbrev pub names_layer : List ℕ → Bool
names_layer word =
    bytes_eq word (codes "rs") || bytes_eq word (codes "ds") || bytes_eq word (codes "da")

-- the order that the word names, if it names one
abbrev pub order_named : List ℕ → Option EventOrder
order_named word =
    if bytes_eq word (codes "first") then Some order.First
    else if bytes_eq word (codes "last") then Some order.Last
    else None

-- the form of a word and a task file
abbrev pub form_of_file : List ℕ → List ℕ → Option Form
form_of_file word file =
    if bytes_eq word (codes "check") then Some (Form.check file)
    else if bytes_eq word (codes "thin") then Some (Form.thin file)
    else None

-- the form of a word, a task file and a journal
abbrev pub form_of_journal : List ℕ → List ℕ → List ℕ → Option Form
form_of_journal word file journal =
    if bytes_eq word (codes "ideal") then Some (Form.ideal file journal)
    else if bytes_eq word (codes "replay") then Some (Form.replay file journal)
    else if bytes_eq word (codes "summary") then Some (Form.summary file journal)
    else None

-- the form that asks for a journal of a task file, if these are a number and a number of frames
abbrev pub gen_form : List ℕ → Option ℕ → Option ℕ → Option Form
gen_form file (Some number) (Some frames) = Some (Form.gen file number frames)
gen_form file _ _ = None

-- the form of a word, a task file and two words more
abbrev pub form_with_last : List ℕ → List ℕ → List ℕ → List ℕ → Option Form
form_with_last word file journal last =
    if bytes_eq word (codes "replay")
    then if names_layer last then Some (Form.replay file journal) else None
    else if bytes_eq word (codes "events")
    then option_map (Form.events file journal) (order_named last)
    else if bytes_eq word (codes "gen")
    then gen_form file (number_of journal) (frames_of last)
    else None

-- the form that the words are, if they are one
abbrev pub form_of : List (List ℕ) → Option Form
form_of (word ∷ file ∷ []) = form_of_file word file
form_of (word ∷ file ∷ journal ∷ []) = form_of_journal word file journal
form_of (word ∷ file ∷ journal ∷ last ∷ []) = form_with_last word file journal last
form_of _ = None

-- the form that the code's value is
abbrev pub form_in : asked.Form → Form
form_in (asked_variant.Check file) = Form.check file.now
form_in (asked_variant.Thin file) = Form.thin file.now
form_in (asked_variant.Ideal file journal) = Form.ideal file.now journal.now
form_in (asked_variant.Replay file journal layer) = Form.replay file.now journal.now
form_in (asked_variant.Events file journal order) = Form.events file.now journal.now order
form_in (asked_variant.Summary file journal) = Form.summary file.now journal.now
form_in (asked_variant.Gen file request) = Form.gen file.now request.number request.frames

-- what is read for a form, and the text that is then due
abbrev pub work_of : Form → Reading (List ℕ)
work_of (Form.check file) = check_of file
work_of (Form.thin file) = thin_of file
work_of (Form.ideal file journal) = ideal_of file journal
work_of (Form.replay file journal) = replay_of file journal
work_of (Form.events file journal order) = events_of file journal order
work_of (Form.summary file journal) = summary_of file journal
work_of (Form.gen file number frames) = gen_of file number frames
