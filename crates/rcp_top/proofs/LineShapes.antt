-- Each line of a run has one line feed, at its end; and with which word it begins.
use Rattle.std.proofs.Common.{◌≡◌, ℕ, ℤ, pos, negsuc, zero, suc, ◌+◌, ◌%◌, ◌/◌, ◌==◌, ◌&&◌, not, Bool, true, false, cond, List, [], ◌∷◌, ◌++◌, codes, Option, None, Some, refl, sym, ap, ◌∙◌, subst, append_assoc, inl, inr, arith}
use Rattle.std.specs.Prelude.{nat_lt}
use Rattle.std.specs.Char.{is_ascii_lowercase}
use Rattle.std.specs.Fmt.{decimal, digits, digits_onto, digit_glyph, signed_decimal}
use Rattle.std.specs.List.{list_all}
use Rattle.std.proofs.lemmas.Bool.{cases_Bool, cases_eq, ne_eqb}
use Rattle.rcp_base.specs.Name.{is_name, is_name_byte, is_word}
use Rattle.trace_text.specs.declared.label.Label.TheVariants as label
use Rattle.trace_text.specs.Lines.{numbers_text, yes_or_no, down_or_up, value_or_none, state_text, frame_line, frame_guard_line, vote_line, ideal_line, replica_line, count_line}
use Rattle.rcp_top.specs.Printed.{begins_with, is_frame_line}
use Rattle.rcp_top.proofs.PrintedLemmas.{HasNoFeed, IsLine}

-- tests that pass
pub not_true : (t : Bool) → not t ≡ true → t ≡ false
not_true false is = refl
not_true true is = cc is

pub both_true : (a b : Bool) → (a && b) ≡ true → (a ≡ true) × (b ≡ true)
both_true true b is = (refl, is)
both_true false b is = cc is

-- bytes without a line feed
abbrev has_no_feed : List ℕ → Bool
has_no_feed [] = true
has_no_feed (b ∷ bs) = not (b == 10) && has_no_feed bs

free : (bs : List ℕ) → has_no_feed bs ≡ true → HasNoFeed bs
free [] is = tt
free (b ∷ bs) is = let two = both_true (not (b == 10)) (has_no_feed bs) is in (not_true (b == 10) two.0, free bs two.1)

free_joined : (a b : List ℕ) → HasNoFeed a → HasNoFeed b → HasNoFeed (a ++ b)
free_joined [] b fa fb = fb
free_joined (x ∷ a) b fa fb = (fa.0, free_joined a b fa.1 fb)

free_glyph : (d : ℕ) → (digit_glyph false d == 10) ≡ false
free_glyph d = elim (cases_Bool (nat_lt d 10)) [
  | inl low ↦ ap (λ (t : Bool). cond t (48 + d) (87 + d) == 10) low ∙ ne_eqb (48 + d) 10 (λ e. omega (arith, e))
  | inr high ↦ ap (λ (t : Bool). cond t (48 + d) (87 + d) == 10) high ∙ ne_eqb (87 + d) 10 (λ e. omega (arith, e))
]

free_digits : (k n : ℕ) (acc : List ℕ) → HasNoFeed acc → HasNoFeed (digits_onto k 10 false n acc)
free_digits zero n acc fed = fed
free_digits (suc k) n acc fed =
    let glyph : List ℕ = digit_glyph false (n % 10) ∷ acc in
    let more : HasNoFeed glyph = (free_glyph (n % 10), fed) in
    let rest : List ℕ = digits_onto k 10 false (n / 10) glyph in
    elim (cases_Bool (n / 10 == 0)) [
      | inl there ↦ subst HasNoFeed (sym (ap (λ (t : Bool). cond t glyph rest) there)) more
      | inr none ↦ subst HasNoFeed (sym (ap (λ (t : Bool). cond t glyph rest) none)) (free_digits k (n / 10) glyph more)
    ]

free_decimal : (n : ℕ) → HasNoFeed (decimal n)
unfolding digits
free_decimal n = free_digits 64 n [] tt

free_signed : (z : ℤ) → HasNoFeed (signed_decimal z)
free_signed (pos n) = free_decimal n
free_signed (negsuc n) = (refl, free_decimal (suc n))

free_numbers : (zs : List ℤ) → HasNoFeed (numbers_text zs)
free_numbers [] = tt
free_numbers (z ∷ zs) = (refl, free_joined (signed_decimal z) (numbers_text zs) (free_signed z) (free_numbers zs))

free_value : (v : Option ℤ) → HasNoFeed (value_or_none v)
free_value None = free (codes "none") refl
free_value (Some z) = free_signed z

free_answer : (t : Bool) → HasNoFeed (yes_or_no t)
free_answer true = free (codes "yes") refl
free_answer false = free (codes "no") refl

free_down : (t : Bool) → HasNoFeed (down_or_up t)
free_down true = free (codes "down") refl
free_down false = free (codes "up") refl

free_state : (slot : ℕ) (cells : List ℤ) → HasNoFeed (state_text slot cells)
free_state slot cells =
    free_joined (codes "slot " ++ decimal slot ++ codes " cells") (numbers_text cells)
    (free_joined (codes "slot " ++ decimal slot) (codes " cells")
    (free_joined (codes "slot ") (decimal slot) (free (codes "slot ") refl) (free_decimal slot)) (free (codes " cells") refl))
    (free_numbers cells)

-- names have none
free_small : (b : ℕ) → is_ascii_lowercase b ≡ true → (b == 10) ≡ false
free_small b is = elim (cases_eq b 10) [
  | inl e ↦ let P : ℕ → Type 0 = λ x. is_ascii_lowercase x ≡ true in absurd (no_feed (subst P e is))
  | inr ne ↦ ne_eqb b 10 ne
]
  where
    no_feed : is_ascii_lowercase 10 ≡ true → ⊥
    no_feed is = cc is

free_byte : (b : ℕ) → is_name_byte b ≡ true → (b == 10) ≡ false
free_byte b is = elim (cases_eq b 10) [
  | inl e ↦ let P : ℕ → Type 0 = λ x. is_name_byte x ≡ true in absurd (no_feed (subst P e is))
  | inr ne ↦ ne_eqb b 10 ne
]
  where
    no_feed : is_name_byte 10 ≡ true → ⊥
    no_feed is = cc is

free_bytes : (bs : List ℕ) → list_all is_name_byte bs ≡ true → HasNoFeed bs
free_bytes [] is = tt
free_bytes (b ∷ bs) is = let two = both_true (is_name_byte b) (list_all is_name_byte bs) is in (free_byte b two.0, free_bytes bs two.1)

free_word : (text : List ℕ) → is_word text ≡ true → HasNoFeed text
free_word [] is = tt
free_word (b ∷ bs) is =
    let two = both_true (is_ascii_lowercase b) (list_all is_name_byte bs) is in (free_small b two.0, free_bytes bs two.1)

pub free_name : (text : List ℕ) → is_name text ≡ true → HasNoFeed text
unfolding is_name
free_name text is = free_word text (both_true (is_word text) _ (both_true (is_word text && _) _ is).0).0

-- the lines of a run are lines
pub frame_is_line : (t : ℕ) → IsLine (frame_line t)
unfolding frame_line
frame_is_line t = record {
  body = codes "frame " ++ decimal t;
  free = free_joined (codes "frame ") (decimal t) (free (codes "frame ") refl) (free_decimal t);
  is = refl;
}

pub frame_guard_is_line : (t : ℕ) (guard : Bool) → IsLine (frame_guard_line t guard)
unfolding frame_guard_line
frame_guard_is_line t guard = record {
  body = codes "frame " ++ decimal t ++ codes " guard " ++ yes_or_no guard;
  free =
      free_joined (codes "frame " ++ decimal t ++ codes " guard ") (yes_or_no guard)
      (free_joined (codes "frame " ++ decimal t) (codes " guard ")
      (free_joined (codes "frame ") (decimal t) (free (codes "frame ") refl) (free_decimal t)) (free (codes " guard ") refl))
      (free_answer guard);
  is = refl;
}

pub vote_is_line : (name : List ℕ) (value : Option ℤ) → HasNoFeed name → IsLine (vote_line name value)
unfolding vote_line
vote_is_line name value named = record {
  body = codes "vote " ++ name ++ codes " " ++ value_or_none value;
  free =
      free_joined (codes "vote " ++ name ++ codes " ") (value_or_none value)
      (free_joined (codes "vote " ++ name) (codes " ")
      (free_joined (codes "vote ") name (free (codes "vote ") refl) named) (free (codes " ") refl)) (free_value value);
  is = refl;
}

pub ideal_is_line : (slot : ℕ) (cells : List ℤ) → IsLine (ideal_line slot cells)
unfolding ideal_line
ideal_is_line slot cells = record {
  body = codes "ideal " ++ state_text slot cells;
  free = free_joined (codes "ideal ") (state_text slot cells) (free (codes "ideal ") refl) (free_state slot cells);
  is = refl;
}

pub replica_is_line : (replica : ℕ) (down : Bool) (slot : ℕ) (cells : List ℤ) (working : Bool)
    → IsLine (replica_line replica down slot cells working)
unfolding replica_line
replica_is_line replica down slot cells working =
    let number : List ℕ = codes "replica " ++ decimal replica in
    let up : List ℕ = number ++ codes " " ++ down_or_up down ++ codes " " in
    let held : List ℕ = up ++ state_text slot cells ++ codes " working " in
    record {
      body = held ++ yes_or_no working;
      free =
          free_joined held (yes_or_no working)
          (free_joined (up ++ state_text slot cells) (codes " working ")
          (free_joined up (state_text slot cells)
          (free_joined (number ++ codes " " ++ down_or_up down) (codes " ")
          (free_joined (number ++ codes " ") (down_or_up down)
          (free_joined number (codes " ")
          (free_joined (codes "replica ") (decimal replica) (free (codes "replica ") refl) (free_decimal replica))
          (free (codes " ") refl)) (free_down down)) (free (codes " ") refl)) (free_state slot cells))
          (free (codes " working ") refl)) (free_answer working);
      is = refl;
    }

pub recovery_is_line : (n : ℕ) → IsLine (count_line label.Recovery n)
unfolding count_line
recovery_is_line n = record {
  body = codes "recovery" ++ codes " " ++ decimal n;
  free =
      free_joined (codes "recovery" ++ codes " ") (decimal n)
      (free (codes "recovery" ++ codes " ") refl) (free_decimal n);
  is = refl;
}

pub end_is_line : (n : ℕ) → IsLine (count_line label.End n)
unfolding count_line
end_is_line n = record {
  body = codes "end" ++ codes " " ++ decimal n;
  free = free_joined (codes "end" ++ codes " ") (decimal n) (free (codes "end" ++ codes " ") refl) (free_decimal n);
  is = refl;
}

-- the first words of the lines
pub frame_begins : (t : ℕ) → is_frame_line (frame_line t) ≡ true
unfolding frame_line
frame_begins t = refl

pub frame_guard_begins : (t : ℕ) (guard : Bool) → is_frame_line (frame_guard_line t guard) ≡ true
unfolding frame_guard_line
frame_guard_begins t guard = refl

pub vote_begins : (name : List ℕ) (value : Option ℤ) → begins_with (codes "vote ") (vote_line name value) ≡ true
unfolding vote_line
vote_begins name value = refl

pub vote_is_no_frame : (name : List ℕ) (value : Option ℤ) → is_frame_line (vote_line name value) ≡ false
unfolding vote_line
vote_is_no_frame name value = refl

pub vote_is_no_replica : (name : List ℕ) (value : Option ℤ) → begins_with (codes "replica ") (vote_line name value) ≡ false
unfolding vote_line
vote_is_no_replica name value = refl

pub vote_is_no_ideal : (name : List ℕ) (value : Option ℤ) → begins_with (codes "ideal ") (vote_line name value) ≡ false
unfolding vote_line
vote_is_no_ideal name value = refl

pub replica_begins : (replica : ℕ) (down : Bool) (slot : ℕ) (cells : List ℤ) (working : Bool)
    → begins_with (codes "replica ") (replica_line replica down slot cells working) ≡ true
unfolding replica_line
replica_begins replica down slot cells working = refl

pub replica_is_no_frame : (replica : ℕ) (down : Bool) (slot : ℕ) (cells : List ℤ) (working : Bool)
    → is_frame_line (replica_line replica down slot cells working) ≡ false
unfolding replica_line
replica_is_no_frame replica down slot cells working = refl

pub replica_is_no_vote : (replica : ℕ) (down : Bool) (slot : ℕ) (cells : List ℤ) (working : Bool)
    → begins_with (codes "vote ") (replica_line replica down slot cells working) ≡ false
unfolding replica_line
replica_is_no_vote replica down slot cells working = refl

pub ideal_begins : (slot : ℕ) (cells : List ℤ) → begins_with (codes "ideal ") (ideal_line slot cells) ≡ true
unfolding ideal_line
ideal_begins slot cells = refl

pub ideal_is_no_frame : (slot : ℕ) (cells : List ℤ) → is_frame_line (ideal_line slot cells) ≡ false
unfolding ideal_line
ideal_is_no_frame slot cells = refl

pub ideal_is_no_vote : (slot : ℕ) (cells : List ℤ) → begins_with (codes "vote ") (ideal_line slot cells) ≡ false
unfolding ideal_line
ideal_is_no_vote slot cells = refl

-- the line of a working replica that is up, by the bytes of what it holds
pub working_line : (replica slot : ℕ) (cells : List ℤ)
    → replica_line replica false slot cells true
    ≡ codes "replica " ++ decimal replica ++ codes " up " ++ state_text slot cells ++ codes " working yes\n"
unfolding replica_line
working_line replica slot cells =
    let number : List ℕ = codes "replica " ++ decimal replica in
    let front : List ℕ → List ℕ = λ up. up ++ state_text slot cells ++ codes " working " ++ codes "yes" ++ codes "\n" in
    let held : List ℕ = number ++ codes " up " ++ state_text slot cells in
    ap front (append_assoc (number ++ codes " ") (codes "up") (codes " ") ∙ append_assoc number (codes " ") (codes "up" ++ codes " "))
    ∙ append_assoc (held ++ codes " working ") (codes "yes") (codes "\n")
    ∙ append_assoc held (codes " working ") (codes "yes" ++ codes "\n")

-- the line of the single processor, by the bytes of what it holds
pub ideal_state : (slot : ℕ) (cells : List ℤ) → ideal_line slot cells ≡ codes "ideal " ++ state_text slot cells ++ codes "\n"
unfolding ideal_line
ideal_state slot cells = refl
