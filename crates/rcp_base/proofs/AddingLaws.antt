-- Texts that are added one after the other.
use Rattle.std.proofs.Common.{◌≡◌, ℕ, List, [], ◌++◌, Result, Ok, Err, append_assoc, ap, ◌∙◌, subst, refl, arith}
use Rattle.rcp_base.specs.declared.sink.WriteError.{WriteError}
use Rattle.rcp_base.specs.declared.sink.WriteError.TheVariants as write
use Rattle.rcp_base.specs.States.{SinkState}
use Rattle.rcp_base.specs.Writing.{Writes}
use Rattle.rcp_base.proofs.WritingLaws.{writes_less}
use Rattle.std.specs.Prelude.{is_err, true}
use Rattle.std.proofs.KnownBytes.{Appends-nil}
use Rattle.rcp_base.specs.Adding.{Adds, IsHalfway}

pub adds_then : {T U V : Type 0} (a b c : SinkState) (r : Result T WriteError) (s : Result U WriteError) (t : Result V WriteError) (one two : List ℕ)
    → Adds a b r s one → Adds b c s t two → Adds a c r t (one ++ two)
adds_then {V = V} a b c r s t one two first second start before wrote =
    let P : List ℕ → Type 0 = λ text. Writes {T = V} start c t text in
    subst P (append_assoc before one two) (second start (before ++ one) (first start before wrote))

-- a text that was added to nothing was written
pub adds_all : {T U : Type 0} (a b : SinkState) (u : T) (result : Result U WriteError) (text : List ℕ) → Adds a b (Ok u) result text → Writes a b result text
adds_all a b u result text adds = adds a [] (record { ok = Appends-nil a.written; err = tt; failed = λ is. cc is; later = omega arith })

-- memory ran out before anything was added
pub adds_memory : {T U : Type 0} (a : SinkState) (r : Result T WriteError) (text : List ℕ) → Adds {U = U} a a r (Err write.Memory) text
adds_memory a (Ok u) text start before wrote = record {
  ok = tt;
  err = record { front = before; rest = text; parts = refl; appended = wrote.ok };
  failed = λ is. cc is;
  later = wrote.later;
}
adds_memory a (Err e) text start before wrote = record {
  ok = tt;
  err =
      record {
        front = wrote.err.front;
        rest = wrote.err.rest ++ text;
        parts = ap (λ t. t ++ text) wrote.err.parts ∙ append_assoc wrote.err.front wrote.err.rest text;
        appended = wrote.err.appended;
      };
  failed = λ is. cc is;
  later = wrote.later;
}

pub halfway_start : (a : SinkState) (whole : List ℕ) → IsHalfway {T = Unit {0}} a a (Ok tt) whole whole
halfway_start a whole = record {
  done = [];
  wrote = record { ok = Appends-nil a.written; err = tt; failed = λ is. cc is; later = omega arith };
  joined = refl;
}

pub halfway_as : {T : Type 0} {a b : SinkState} {r : Result T WriteError} {whole : List ℕ} (one other : List ℕ) → one ≡ other → IsHalfway a b r one whole → IsHalfway a b r other whole
halfway_as {T} {a} {b} {r} {whole} one other same so_far = let P : List ℕ → Type 0 = λ rest. IsHalfway a b r rest whole in subst P same so_far

-- one part more
pub halfway_more : {T U : Type 0} {a b : SinkState} {r : Result T WriteError} {whole : List ℕ} (c : SinkState) (s : Result U WriteError) (part rest : List ℕ)
    → IsHalfway a b r (part ++ rest) whole → Adds b c r s part → IsHalfway a c s rest whole
halfway_more {a = a} c s part rest so_far adds = record {
  done = so_far.done ++ part;
  wrote = adds a so_far.done so_far.wrote;
  joined = append_assoc so_far.done part rest ∙ so_far.joined;
}

-- a failure on the way
pub halfway_stop : {T : Type 0} {a b : SinkState} {rest whole : List ℕ} (r : Result T WriteError) → is_err r ≡ true → IsHalfway a b r rest whole → Writes a b r whole
halfway_stop (Ok u) failed so_far = cc failed
halfway_stop {T} {a} {b} {rest} {whole} (Err e) failed so_far =
    let P : List ℕ → Type 0 = λ text. Writes {T = T} a b (Err e) text in
    subst P so_far.joined (writes_less {T = T} {U = T} a b e so_far.done rest so_far.wrote)

-- the last part
pub halfway_last : {T U : Type 0} {a b : SinkState} {r : Result T WriteError} {whole : List ℕ} (c : SinkState) (s : Result U WriteError) (part : List ℕ)
    → IsHalfway a b r part whole → Adds b c r s part → Writes a c s whole
halfway_last {U = U} {a = a} c s part so_far adds =
    let P : List ℕ → Type 0 = λ text. Writes {T = U} a c s text in subst P so_far.joined (adds a so_far.done so_far.wrote)
