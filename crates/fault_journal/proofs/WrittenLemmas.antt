-- What the tests of a row say of a row that passes them.
use Rattle.std.proofs.Common.{◌≡◌, ℕ, ◌+◌, ◌<◌, ◌≤◌, List, [], ◌∷◌, length, Option, Some, None, option_map, Ok, Err, ℤ, pos, Bool, true, false, ◌||◌, if◌then◌else◌, MatchOption, nat_eq, sym, refl, ap, ◌∙◌, arith, subst, Result}
use Rattle.std.proofs.lemmas.Bool.{or_parts}
use Rattle.std.specs.Option.{option_or}
use Rattle.std.proofs.lemmas.List.{length-map}
use Rattle.std.proofs.lemmas.List.Quantifiers.{position-Some}
use Rattle.std.specs.Str.{bytes_eq}
use Rattle.rcp_base.specs.Answers.{◌>>=◌, found_or, where_passes, place_in}
use Rattle.rcp_model.specs.declared.plan.Variable.{Variable}
use Rattle.rcp_model.specs.declared.plan.ActuatorRow.{ActuatorRow}
use Rattle.rcp_model.specs.declared.plan.PlanParts.{PlanParts}
use Rattle.rcp_model.specs.Plan.{variable_names, actuator_names}
use Rattle.fault_journal.specs.declared.fault.JournalFault.{JournalFault}
use Rattle.fault_journal.specs.declared.fault.JournalFault.TheVariants as fault
use Rattle.fault_journal.specs.declared.row.Kind.{Kind}
use Rattle.fault_journal.specs.declared.row.Kind.TheVariants as kind
use Rattle.fault_journal.specs.declared.row.Column.{Column}
use Rattle.fault_journal.specs.declared.row.Column.TheVariants as column
use Rattle.fault_journal.specs.declared.row.WrittenRow.{WrittenRow}
use Rattle.fault_journal.specs.Number.{integer_of}
use Rattle.fault_journal.specs.Columns.{columns_of, with_column, with_columns, bare_row, written_row}
use Rattle.fault_journal.specs.Limits.{is_on_a_message}
use Rattle.fault_journal.specs.Filling.{item_count}

-- what was read first, where what follows gave something
pub then-Ok : {A B : Type 0} (first : Result A JournalFault) (next : A → Result B JournalFault) (b : B) → (first >>= next) ≡ Ok b → (a : A) × (first ≡ Ok a) × (next a ≡ Ok b)
then-Ok (Ok a) next b is = (a, refl, is)
then-Ok (Err fault) next b is = cc

-- a test passed, where it gave something
pub passes-Ok : {A : Type 0} (fault : JournalFault) (test : Bool) (x y : A) → where_passes fault test x ≡ Ok y → (test ≡ true) × (x ≡ y)
passes-Ok fault true x y is = (refl, cc)
passes-Ok fault false x y is = cc

pub found-Ok : {A : Type 0} (fault : JournalFault) (found : Option A) (x : A) → found_or fault found ≡ Ok x → found ≡ Some x
found-Ok fault (Some a) x is = cc
found-Ok fault None x is = cc

map-Some : {A B : Type 0} (f : A → B) (o : Option A) (b : B) → option_map f o ≡ Some b → (a : A) × (o ≡ Some a) × (f a ≡ b)
map-Some f (Some a) b is = (a, refl, cc)
map-Some f None b is = cc

-- how many names a column chooses from, if it is one of a name
names_in : PlanParts → Column → Option ℕ
names_in plan column.SensorName = Some (length plan.sensors)
names_in plan column.CellName = Some (length plan.cells)
names_in plan column.ActuatorName = Some (length plan.actuators)
names_in plan _ = None

is_receiver : Column → Bool
is_receiver column.Receiver = true
is_receiver _ = false

-- what a column leaves as it was, and what it bounds
record Reads (names : Option ℕ) (receives : Bool) (row next : WrittenRow) : Type 0 where
  frame : next.frame ≡ row.frame
  kind : next.kind ≡ row.kind
  receiver : receives ≡ false → next.receiver ≡ row.receiver
  item : MatchOption names (next.item ≡ row.item) (λ count. next.item < count)

-- so with what a column gives, whatever it is
reads_given : {X : Type 0} (names : Option ℕ) (receives : Bool) (row next : WrittenRow) (put : X → WrittenRow) (given : Option X)
    → ((x : X) → given ≡ Some x → Reads names receives row (put x)) → option_map put given ≡ Some next → Reads names receives row next
reads_given names receives row next put given each is =
    let found = map-Some put given next is in
    subst (Reads names receives row) found.2 (each found.0 found.1)

reads_name : (names : List (List ℕ)) (count : ℕ) (row next : WrittenRow) (text : List ℕ) → length names ≡ count
    → option_map (λ (place : ℕ). record row { item = place }) (place_in names text) ≡ Some next → Reads (Some count) false row next
reads_name names count row next text lengths is =
    reads_given (Some count) false row next (λ (place : ℕ). record row { item = place }) (place_in names text)
    (λ place given.
    let below : place < length names = (position-Some (bytes_eq text) names place [] given).0 in
    record { frame = refl; kind = refl; receiver = λ no. refl; item = omega arith })
    is

reads_nothing : (empty : Bool) (row next : WrittenRow) → (if empty then Some row else None) ≡ Some next → Reads None false row next
reads_nothing true row next is =
    let same : row ≡ next = cc in
    subst (Reads None false row) same (record { frame = refl; kind = refl; receiver = λ no. refl; item = refl })
reads_nothing false row next is = cc

with_column-reads : (plan : PlanParts) (row next : WrittenRow) (column : Column) (text : List ℕ) → with_column plan row column text ≡ Some next
    → Reads (names_in plan column) (is_receiver column) row next
unfolding with_column names_in is_receiver
with_column-reads plan row next column.Replica text is =
    reads_given None false row next (λ (number : ℤ). record row { replica = number }) (integer_of text)
    (λ number given. record { frame = refl; kind = refl; receiver = λ no. refl; item = refl }) is
with_column-reads plan row next column.Receiver text is =
    reads_given None true row next (λ (number : ℤ). record row { receiver = number }) (integer_of text)
    (λ number given. record { frame = refl; kind = refl; receiver = λ no. cc; item = refl }) is
with_column-reads plan row next column.SensorName text is =
    reads_name (variable_names plan.sensors) (length plan.sensors) row next text (length-map plan.sensors (λ (v : Variable). v.name)) is
with_column-reads plan row next column.CellName text is =
    reads_name (variable_names plan.cells) (length plan.cells) row next text (length-map plan.cells (λ (v : Variable). v.name)) is
with_column-reads plan row next column.ActuatorName text is =
    reads_name (actuator_names plan.actuators) (length plan.actuators) row next text (length-map plan.actuators (λ (a : ActuatorRow). a.name)) is
with_column-reads plan row next column.Value text is =
    reads_given None false row next (λ (number : ℤ). record row { value = number }) (integer_of text)
    (λ number given. record { frame = refl; kind = refl; receiver = λ no. refl; item = refl }) is
with_column-reads plan row next column.Nothing text is = reads_nothing (nat_eq (length text) 0) row next is

-- what several columns choose from together: the last of a name decides
names_of : PlanParts → List Column → Option ℕ
names_of plan [] = None
names_of plan (column ∷ columns) = option_or (names_of plan columns) (names_in plan column)

has_receiver : List Column → Bool
has_receiver [] = false
has_receiver (column ∷ columns) = is_receiver column || has_receiver columns

item_then : (first rest : Option ℕ) (a b c : ℕ) → MatchOption first (b ≡ a) (λ count. b < count) → MatchOption rest (c ≡ b) (λ count. c < count)
    → MatchOption (option_or rest first) (c ≡ a) (λ count. c < count)
item_then first (Some n) a b c step steps = steps
item_then (Some n) None a b c step steps = omega arith
item_then None None a b c step steps = steps ∙ step

reads_then : (first rest : Option ℕ) (one more : Bool) (row mid next : WrittenRow) → Reads first one row mid → Reads rest more mid next
    → Reads (option_or rest first) (one || more) row next
reads_then first rest one more row mid next step steps = record {
  frame = steps.frame ∙ step.frame;
  kind = steps.kind ∙ step.kind;
  receiver = λ none. steps.receiver (or_parts one more none).1 ∙ step.receiver (or_parts one more none).0;
  item = item_then first rest row.item mid.item next.item step.item steps.item;
}

with_columns-reads : (plan : PlanParts) (number at : ℕ) (row next : WrittenRow) (columns : List Column) (texts : List (List ℕ)) → length columns ≤ length texts
    → with_columns plan number at row columns texts ≡ Ok next → Reads (names_of plan columns) (has_receiver columns) row next
unfolding names_of has_receiver
with_columns-reads plan number at row next [] texts enough is =
    let same : row ≡ next = cc in
    record {
      frame = sym (ap (λ (r : WrittenRow). r.frame) same);
      kind = sym (ap (λ (r : WrittenRow). r.kind) same);
      receiver = λ no. sym (ap (λ (r : WrittenRow). r.receiver) same);
      item = sym (ap (λ (r : WrittenRow). r.item) same);
    }
with_columns-reads plan number at row next (column ∷ columns) [] enough is = absurd (omega arith)
with_columns-reads plan number at row next (column ∷ columns) (text ∷ texts) enough is =
    let parts = then-Ok (found_or (fault.Column number at) (with_column plan row column text)) (λ mid. with_columns plan number (at + 1) mid columns texts) next is in
    reads_then (names_in plan column) (names_of plan columns) (is_receiver column) (has_receiver columns) row parts.0 next
    (with_column-reads plan row parts.0 column text (found-Ok (fault.Column number at) (with_column plan row column text) parts.0 parts.1))
    (with_columns-reads plan number (at + 1) parts.0 next columns texts (omega arith) parts.2)

-- the columns of a kind
item_of_kind : (plan : PlanParts) (kind : Kind) (item : ℕ) → MatchOption (names_of plan (columns_of kind)) (item ≡ 0) (λ count. item < count) → item < item_count plan kind
unfolding names_of names_in
item_of_kind plan kind.Sensor item fact = fact
item_of_kind plan kind.Cell item fact = fact
item_of_kind plan kind.Lie item fact = fact
item_of_kind plan kind.Act item fact = fact
item_of_kind plan _ item fact = omega arith

receiver_of_kind : (kind : Kind) → has_receiver (columns_of kind) ≡ is_on_a_message kind
unfolding has_receiver is_receiver
receiver_of_kind kind.Lie = refl
receiver_of_kind kind.LieSlot = refl
receiver_of_kind kind.Drop = refl
receiver_of_kind kind.Delay = refl
receiver_of_kind _ = refl

four_columns : (kind : Kind) → length (columns_of kind) ≤ 4
four_columns kind.Sensor = omega arith
four_columns _ = omega arith

-- a row as it is written is of its kind, and names what there is
pub record IsWritten (plan : PlanParts) (of : Kind) (row : WrittenRow) : Type 0 where
  pub kind : row.kind ≡ of
  pub receiver : is_on_a_message of ≡ false → row.receiver ≡ pos 0
  pub item : row.item < item_count plan of

pub written_row-Ok : (plan : PlanParts) (number : ℕ) (frame : List ℕ) (kind : Kind) (texts : List (List ℕ)) (row : WrittenRow) → length texts ≡ 4
    → written_row plan number frame kind texts ≡ Ok row → IsWritten plan kind row
unfolding written_row
written_row-Ok plan number frame kind texts row four is =
    let parts = then-Ok (found_or (fault.Column number 1) (integer_of frame)) (λ at. with_columns plan number 3 (bare_row at kind) (columns_of kind) texts) row is in
    let few = four_columns kind in
    let reads = with_columns-reads plan number 3 (bare_row parts.0 kind) row (columns_of kind) texts (omega arith) parts.2 in
    record {
      kind = reads.kind;
      receiver = λ no. reads.receiver (receiver_of_kind kind ∙ no);
      item = item_of_kind plan kind row.item reads.item;
    }
