-- Writes one after the other: what a run of writes says of the whole text.
use Rattle.std.proofs.Common.{◌≡◌, ℕ, List, [], ◌++◌, Option, Result, Ok, Err, append_assoc, sym, refl, ap, ◌∙◌, arith}
use Rattle.std.proofs.KnownBytes.{Appends-nil, Appends-trans}
use Rattle.rcp_base.specs.declared.sink.WriteError.{WriteError}
use Rattle.rcp_base.specs.declared.sink.WriteError.TheVariants as write
use Rattle.rcp_base.specs.States.{SinkState}
use Rattle.rcp_base.specs.Writing.{AppendsFront, Writes}

-- nothing is a front of each text
pub no_front : (old : Option (List ℕ)) (text : List ℕ) → AppendsFront old old text
no_front old text = record { front = []; rest = text; parts = refl; appended = Appends-nil old }

-- nothing was written where memory ran out
pub writes_nothing : {T : Type 0} (old : SinkState) (text : List ℕ) → Writes {T = T} old old (Err write.Memory) text
writes_nothing old text = record { ok = tt; err = no_front old.written text; failed = λ is. cc is; later = omega arith }

-- a second write after a first that went well
pub writes_then : {T U : Type 0} (a b c : SinkState) (u : T) (result : Result U WriteError) (first second : List ℕ)
    → Writes a b (Ok u) first → Writes b c result second → Writes a c result (first ++ second)
writes_then a b c u (Ok v) first second one two = record {
  ok = Appends-trans a.written b.written c.written first second one.ok two.ok;
  err = tt;
  failed = λ is. cc is;
  later = omega (arith, one.later, two.later);
}
writes_then a b c u (Err e) first second one two = record {
  ok = tt;
  err =
      record {
        front = first ++ two.err.front;
        rest = two.err.rest;
        parts = ap (λ t. first ++ t) two.err.parts ∙ sym (append_assoc first two.err.front two.err.rest);
        appended = Appends-trans a.written b.written c.written first two.err.front one.ok two.err.appended;
      };
  failed = λ is. omega (arith, one.later, two.failed is);
  later = omega (arith, one.later, two.later);
}

-- a write that went wrong, seen as one of a longer text
pub writes_less : {T U : Type 0} (a b : SinkState) (e : WriteError) (first second : List ℕ)
    → Writes {T = T} a b (Err e) first → Writes {T = U} a b (Err e) (first ++ second)
writes_less a b e first second one = record {
  ok = tt;
  err =
      record {
        front = one.err.front;
        rest = one.err.rest ++ second;
        parts = ap (λ t. t ++ second) one.err.parts ∙ append_assoc one.err.front one.err.rest second;
        appended = one.err.appended;
      };
  failed = λ is. one.failed (ap (λ v. Err v) (error_is is));
  later = one.later;
}
  where
    error_is : {U : Type 0} {e d : WriteError} → ◌≡◌ {A = Result U WriteError} (Err e) (Err d) → e ≡ d
    error_is is = cc is
