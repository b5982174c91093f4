-- What the limits of a row say of its numbers.
use Rattle.std.proofs.Common.{◌≡◌, ℕ, ◌+◌, ◌<◌, ◌≤◌, Bool, true, ◌&&◌, ℤ, pos, negsuc, int_le, int_lt, not, to_z, of_z, refl, arith}
use Rattle.std.proofs.lemmas.Bool.{and_parts, ltb-true, leb-true}
use Rattle.std.proofs.lemmas.Int.{to_z_pos}
use Rattle.std.specs.Ordering.{int_eq}
use Rattle.rcp_base.specs.Answers.{natural_of}
use Rattle.rcp_model.specs.declared.plan.PlanParts.{PlanParts}
use Rattle.fault_journal.specs.declared.row.Kind.{Kind}
use Rattle.fault_journal.specs.declared.row.Kind.TheVariants as kind
use Rattle.fault_journal.specs.declared.row.WrittenRow.{WrittenRow}
use Rattle.fault_journal.specs.Limits.{is_below, frame_is_there, is_on_a_message, value_is_permitted, is_within_limits}
use mir.Syntax.{w64}

-- a number from 0 to so many
pub record IsUpTo (most : ℕ) (x : ℤ) : Type 0 where
  pub is_natural : x ≡ pos (natural_of x)
  pub few : natural_of x ≤ most

-- a cast keeps it
pub kept : (most : ℕ) (x : ℤ) → most ≤ 1_000_000 → IsUpTo most x → to_z w64 (of_z w64 x) ≡ pos (natural_of x)
kept most (pos n) small is = to_z_pos w64 n (omega (arith, is.few, small))
kept most (negsuc n) small is = absurd (cc is.is_natural)

up_to_below : (most count : ℕ) (x : ℤ) → count ≤ most + 1 → is_below count x ≡ true → IsUpTo most x
up_to_below most count (pos n) few is =
    let less : n < count = ltb-true n count (and_parts (int_le (pos 0) (pos n)) (int_lt (pos n) (pos count)) is).1 in
    record { is_natural = refl; few = omega (arith, less, few) }
up_to_below most count (negsuc n) few is = cc is

frame_up_to : (kind : Kind) (x : ℤ) → frame_is_there kind x ≡ true → IsUpTo 1_000_000 x
frame_up_to kind.End (pos n) is =
    record { is_natural = refl; few = leb-true n 1_000_000 (and_parts (int_le (pos 1) (pos n)) (int_le (pos n) (pos 1_000_000)) is).1 }
frame_up_to kind.End (negsuc n) is = cc is
frame_up_to _ x is = up_to_below 1_000_000 1_000_000 x (omega arith) is

-- the numbers of a row that are within their limits
pub record AreLimited (row : WrittenRow) : Type 0 where
  pub frame : IsUpTo 1_000_000 row.frame
  pub replica : IsUpTo 8 row.replica
  pub receiver : IsUpTo 8 row.receiver

pub are_limited : (plan : PlanParts) (row : WrittenRow) → plan.replicas ≤ 9 → is_within_limits plan row ≡ true → AreLimited row
unfolding is_within_limits
are_limited plan row few is =
    let there : Bool = frame_is_there row.kind row.frame in
    let sender : Bool = is_below plan.replicas row.replica in
    let receiver : Bool = is_below plan.replicas row.receiver in
    let apart : Bool = not (is_on_a_message row.kind && int_eq row.replica row.receiver) in
    let four = and_parts (there && sender && receiver && apart) (value_is_permitted plan row.kind row.value) is in
    let three = and_parts (there && sender && receiver) apart four.0 in
    let two = and_parts (there && sender) receiver three.0 in
    let one = and_parts there sender two.0 in
    record {
      frame = frame_up_to row.kind row.frame one.0;
      replica = up_to_below 8 plan.replicas row.replica few one.1;
      receiver = up_to_below 8 plan.replicas row.receiver few two.1;
    }
