-- One pass leaves the only value that may have a majority.
use Rattle.std.proofs.Common.{◌≡◌, ◌≢◌, ℕ, ◌+◌, ◌-◌, ◌*◌, ◌<◌, ◌≤◌, Bool, true, false, List, length, take, get_or, Option, Some, None, count_by, refl, sym, subst, ap, ◌∙◌, arith, inl, inr, ℤ}
use Rattle.std.specs.Prelude.{MatchOption}
use Rattle.std.specs.Option.{option_eq}
use Rattle.std.specs.Ordering.{int_eq}
use Rattle.std.proofs.lemmas.Bool.{cases_Bool, true≢false, lt-ltb, ltb-true}
use Rattle.std.proofs.lemmas.Bool.Decides.{Decides-int_eq}
use Rattle.std.proofs.Math.Seq.{take-length}
use Rattle.std.proofs.lemmas.Option.{none-some, same_Some}
use Rattle.std.proofs.lemmas.List.Sums.{count_by_more_yes, count_by_more_no}
use Rattle.rcp_base.specs.Majority.{names_value, has_majority, IsMajority, majority_of}
use Rattle.majority_vote.specs.Candidate.{IsCandidate}
use Rattle.rcp_base.proofs.MajorityLaws.{majority_is, majority_none}

-- after some places: twice the count of the leader is within the places and the lead, and with the lead any other's is within the places
pub record Leads (places : List (Option ℤ)) (seen : ℕ) (leader : Option ℤ) (lead : ℕ) : Type 0 where
  pub within : lead ≤ seen
  pub own : (w : ℤ) → leader ≡ Some w → 2 * count_by (names_value int_eq w) (take seen places) ≤ seen + lead
  pub other : (w : ℤ) → leader ≢ Some w → 2 * count_by (names_value int_eq w) (take seen places) + lead ≤ seen

names : (w : ℤ) (place : Option ℤ) → place ≡ Some w → names_value int_eq w place ≡ true
names w place e = rw e ((Decides-int_eq w w).1 refl)

names_not : (w : ℤ) (place : Option ℤ) → place ≢ Some w → names_value int_eq w place ≡ false
names_not w None ne = refl
names_not w (Some x) ne = go (int_eq w x) refl
  where
    go : (b : Bool) → int_eq w x ≡ b → b ≡ false
    go true e = absurd (ne (ap Some (sym ((Decides-int_eq w x).0 e))))
    go false e = refl

module _ (places : List (Option ℤ)) where
  counted : ℕ → ℤ → ℕ
  counted seen w = count_by (names_value int_eq w) (take seen places)

  -- one place more that names a value, or not
  more_yes : (seen : ℕ) (w : ℤ) → seen < length places → get_or places seen None ≡ Some w → count_by (names_value int_eq w) (take (seen + 1) places) ≡ count_by (names_value int_eq w) (take seen places) + 1
  more_yes seen w lt e = count_by_more_yes (names_value int_eq w) places seen None lt (names w (get_or places seen None) e)

  more_no : (seen : ℕ) (w : ℤ) → seen < length places → get_or places seen None ≢ Some w → count_by (names_value int_eq w) (take (seen + 1) places) ≡ count_by (names_value int_eq w) (take seen places)
  more_no seen w lt ne = count_by_more_no (names_value int_eq w) places seen None lt (names_not w (get_or places seen None) ne)

  pub leads_none : Leads places 0 None 0
  leads_none = record { within = omega arith; own = λ w e. omega arith; other = λ w ne. omega arith }

  -- without a lead the place leads
  pub leads_anew : (seen : ℕ) (leader place : Option ℤ) → seen < length places → get_or places seen None ≡ place → Leads places seen leader 0 → Leads places (seen + 1) place 1
  leads_anew seen leader place lt e h = record {
    within = omega arith;
    own = λ w is. let m = more_yes seen w lt (e ∙ is) in omega (arith, m, any w);
    other = λ w ne. let m = more_no seen w lt (λ p. ne (sym e ∙ p)) in omega (arith, m, any w);
  }
    where
      any : (w : ℤ) → 2 * count_by (names_value int_eq w) (take seen places) ≤ seen
      any w = go leader h
        where
          go : (o : Option ℤ) → Leads places seen o 0 → 2 * count_by (names_value int_eq w) (take seen places) ≤ seen
          go None l = let p = l.other w (none-some w) in omega (arith, p)
          go (Some v) l = elim (cases_Bool (int_eq v w)) [
            | inl e ↦ let p = l.own w (ap Some ((Decides-int_eq v w).0 e)) in omega (arith, p)
            | inr e ↦ let p = l.other w (λ q. true≢false (sym ((Decides-int_eq v w).1 (same_Some v w q)) ∙ e)) in omega (arith, p)
          ]

  -- the leader once more
  pub leads_more : (seen : ℕ) (leader : Option ℤ) (lead : ℕ) → seen < length places → get_or places seen None ≡ leader → Leads places seen leader lead → Leads places (seen + 1) leader (lead + 1)
  leads_more seen leader lead lt e h = record {
    within = let k = h.within in omega (arith, k);
    own = λ w is. let m = more_yes seen w lt (e ∙ is) in let p = h.own w is in omega (arith, m, p);
    other = λ w ne. let m = more_no seen w lt (λ q. ne (sym e ∙ q)) in let p = h.other w ne in omega (arith, m, p);
  }

  -- another place
  pub leads_less : (seen : ℕ) (leader : Option ℤ) (lead : ℕ) → seen < length places → get_or places seen None ≢ leader → lead ≢ 0 → Leads places seen leader lead → Leads places (seen + 1) leader (lead - 1)
  leads_less seen leader lead lt ne some h = record {
    within = let k = h.within in omega (arith, k);
    own = λ w is. let m = more_no seen w lt (λ q. ne (q ∙ sym is)) in let p = h.own w is in omega (arith, m, p, some);
    other = λ w no_leader. let p = h.other w no_leader in elim (cases_Bool (names_value int_eq w (get_or places seen None))) [
      | inl t ↦ let m = count_by_more_yes (names_value int_eq w) places seen None lt t in omega (arith, m, p, some)
      | inr f ↦ let m = count_by_more_no (names_value int_eq w) places seen None lt f in omega (arith, m, p, some)
    ];
  }

  -- after all places the leader is the only one that may have a majority
  pub candidate_is : (leader : Option ℤ) (lead : ℕ) → Leads places (length places) leader lead → IsCandidate places leader
  candidate_is leader lead h w many = go leader h
    where
      all : count_by (names_value int_eq w) (take (length places) places) ≡ count_by (names_value int_eq w) places
      all = ap (count_by (names_value int_eq w)) (take-length places)

      go : (o : Option ℤ) → Leads places (length places) o lead → o ≡ Some w
      go None l = let p = l.other w (none-some w) in absurd (omega (arith, p, all, many))
      go (Some v) l = elim (cases_Bool (int_eq v w)) [
        | inl e ↦ ap Some ((Decides-int_eq v w).0 e)
        | inr e ↦ let p = l.other w (λ q. true≢false (sym ((Decides-int_eq v w).1 (same_Some v w q)) ∙ e)) in absurd (omega (arith, p, all, many))
      ]

-- what the test says of the leader is what is voted
pub voted_leader : (places : List (Option ℤ)) (leader : Option ℤ) (test : Bool) → MatchOption leader (test ≡ false) (λ value. test ≡ has_majority int_eq places value) → test ≡ true → leader ≡ majority_of int_eq places
voted_leader places None test m t = absurd (true≢false (sym t ∙ m))
voted_leader places (Some v) test m t = sym (majority_is int_eq Decides-int_eq places v (ltb-true _ _ (sym m ∙ t)))

pub voted_no_leader : (places : List (Option ℤ)) (leader : Option ℤ) (test : Bool) → MatchOption leader (test ≡ false) (λ value. test ≡ has_majority int_eq places value) → IsCandidate places leader → test ≡ false → None ≡ majority_of int_eq places
voted_no_leader places None test m h t = sym (majority_none int_eq places (λ v many. none-some v (h v many)))
voted_no_leader places (Some v) test m h t =
    sym (majority_none int_eq places (λ w many. true≢false (sym (lt-ltb _ _ (subst (IsMajority int_eq places) (sym (same_Some v w (h w many))) many)) ∙ sym m ∙ t)))

-- what a test of two places says
pub same_places : (a b : Option ℤ) → option_eq int_eq a b ≡ true → a ≡ b
same_places None None e = refl
same_places None (Some y) e = absurd (true≢false (sym e))
same_places (Some x) None e = absurd (true≢false (sym e))
same_places (Some x) (Some y) e = ap Some ((Decides-int_eq x y).0 e)

pub other_places : (a b : Option ℤ) → option_eq int_eq a b ≡ false → a ≢ b
other_places None None e q = true≢false e
other_places None (Some y) e q = none-some y q
other_places (Some x) None e q = none-some x (sym q)
other_places (Some x) (Some y) e q = true≢false (sym ((Decides-int_eq x y).1 (same_Some x y q)) ∙ e)
