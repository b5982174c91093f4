-- Where one vote is taken away, each new unvoted walk passes through its node.
use Rattle.std.proofs.Common.{◌≡◌, ◌≢◌, ◌⊎◌, ℕ, ◌+◌, ◌-◌, ◌<◌, ◌≤◌, zero, suc, true, false, ◌&&◌, eqb, inl, inr, refl, sym, ◌∙◌, ap, subst, arith}
use Rattle.std.proofs.lemmas.Bool.{cases_Bool, cases_lt, both_ways}
use Rattle.rcp_base.proofs.SearchLaws.{any_found}
use Rattle.rcp_model.specs.declared.node.Node.{Node}
use Rattle.rcp_model.specs.Walk.{Graph, node_count, IsUnvoted, StepsTo}
use Rattle.rcp_model.specs.Levels.{node_of, level, has_level_node}
use Rattle.rcp_model.proofs.LevelLaws.{level_zero, level_unvoted, level_step, level_back, level_down}
use Rattle.rcp_model.proofs.OrderLaws.{same_node, other_node}
use Rattle.pattern_thinning.specs.inner.Reach.{Reaches, ComesBack, IsFarthest, IsOnWalk}
use Rattle.rcp_model.proofs.AlikeLaws.{IsAlike, steps_alike, unvoted_alike}
use Rattle.pattern_thinning.proofs.GoodLemmas.{level_found}

-- steps as they come first
pub reaches_first : (g : Graph) (k : ℕ) (m n x : Node) → StepsTo g m n → IsUnvoted g n → Reaches g k n x → Reaches g (suc k) m x
reaches_first g zero m n x s u e = (m, refl, subst (StepsTo g m) (sym e) s, subst (IsUnvoted g) (sym e) u)
reaches_first g (suc k) m n x s u r = (r.0, reaches_first g k m n r.0 s u r.1, r.2, r.3)

pub record FirstStep (g : Graph) (k : ℕ) (m x : Node) : Type 0 where
  pub n : Node
  pub steps : StepsTo g m n
  pub unvoted : IsUnvoted g n
  pub reached : Reaches g k n x

pub first_step : (g : Graph) (k : ℕ) (m x : Node) → Reaches g (suc k) m x → FirstStep g k m x
first_step g zero m x r = record { n = x; steps = subst (λ (y : Node). StepsTo g y x) r.1 r.2; unvoted = r.3; reached = refl }
first_step g (suc k) m x r =
    let f = first_step g k m r.0 r.1 in
    record { n = f.n; steps = f.steps; unvoted = f.unvoted; reached = (r.0, f.reached, r.2, r.3) }

-- what more steps reach, fewer do
pub reaches_fewer : (g : Graph) (k d : ℕ) (m x : Node) → Reaches g (d + k) m x → (n : Node) × Reaches g k m n
reaches_fewer g k zero m x r = (x, subst (λ (i : ℕ). Reaches g i m x) (let e : 0 + k ≡ k = omega arith in e) r)
reaches_fewer g k (suc d) m x r =
    let s : Reaches g (suc (d + k)) m x = subst (λ (i : ℕ). Reaches g i m x) (let e : suc d + k ≡ suc (d + k) = omega arith in e) r in
    reaches_fewer g k d m s.0 s.1

-- what a node of a level reaches is of higher levels
level_on : (g : Graph) (j k : ℕ) (m n : Node) → level g j m ≡ true → Reaches g k m n → level g (k + j) n ≡ true
level_on g j zero m n l e = subst (λ (i : ℕ). level g i n ≡ true) (let e : j ≡ 0 + j = omega arith in e) (ap (level g j) e ∙ l)
level_on g j (suc k) m n l r =
    subst (λ (i : ℕ). level g i n ≡ true) (let e : suc (k + j) ≡ suc k + j = omega arith in e) (level_step g (k + j) r.0 n (level_on g j k m r.0 l r.1) r.2 r.3)

-- a node of a level is reached from one that is unvoted
pub record Source (g : Graph) (k : ℕ) (n : Node) : Type 0 where
  pub m : Node
  pub unvoted : IsUnvoted g m
  pub reached : Reaches g k m n

pub source_of : (g : Graph) (k : ℕ) (n : Node) → level g k n ≡ true → Source g k n
source_of g zero n l = record { m = n; unvoted = level_unvoted g 0 n l; reached = refl }
source_of g (suc k) n l =
    let b = level_back g k n l in
    let s = source_of g k b.m b.level in
    record { m = s.m; unvoted = s.unvoted; reached = (b.m, s.reached, b.steps, level_unvoted g (suc k) n l) }

pub level_of_source : (g : Graph) (k : ℕ) (m n : Node) → IsUnvoted g m → Reaches g k m n → level g k n ≡ true
level_of_source g k m n u r = subst (λ (i : ℕ). level g i n ≡ true) (let e : k + 0 ≡ k = omega arith in e) (level_on g 0 k m n (level_zero g m u) r)

-- a node to which steps lead back is of each level
again_level : (g : Graph) (x : Node) → IsUnvoted g x → ComesBack g x → (t : ℕ) → level g t x ≡ true
again_level g x u c zero = level_zero g x u
again_level g x u c (suc t) =
    let some : 0 < c.0 = c.1 in
    level_down g (suc t) (c.0 - 1) x
    (subst (λ (i : ℕ). level g i x ≡ true) (let e : c.0 + t ≡ (c.0 - 1) + suc t = omega arith in e) (level_on g t c.0 x x (again_level g x u c t) c.2))

pub back_is_on_walk : (g : Graph) (x : Node) (steps : ℕ) → IsUnvoted g x → ComesBack g x → IsOnWalk g steps x
back_is_on_walk g x steps u c = record { into = steps; onward = 0; all = omega arith; ends = again_level g x u c steps; last = x; leads = refl }

-- the longest walk on says how long a walk to the node must be
pub far_is_on_walk : (g : Graph) (x : Node) (steps on : ℕ) → IsFarthest g x steps on → level g (steps - on) x ≡ true → IsOnWalk g steps x
far_is_on_walk g x steps on f l =
    let within : on ≤ steps = f.within in
    record { into = steps - on; onward = on; all = omega arith; ends = l; last = f.reached.0; leads = f.reached.1 }

pub on_walk_is_far : (g : Graph) (x : Node) (steps on : ℕ) → IsFarthest g x steps on → IsOnWalk g steps x → level g (steps - on) x ≡ true
on_walk_is_far g x steps on f w =
    let within : on ≤ steps = f.within in
    let all : w.into + w.onward ≡ steps = w.all in
    elim (cases_lt on w.onward) [
      | inl more ↦
          let r = reaches_fewer g (suc on) (w.onward - suc on) x w.last (subst (λ (i : ℕ). Reaches g i x w.last) (let e : w.onward ≡ (w.onward - suc on) + suc on = omega arith in e) w.leads) in
          absurd (f.ends (omega arith) r.0 r.1)
      | inr enough ↦
          level_down g (steps - on) (on - w.onward) x
          (subst (λ (i : ℕ). level g i x ≡ true) (let e : w.into ≡ (on - w.onward) + (steps - on) = omega arith in e) w.ends)
    ]

-- where the other graph leaves but one node more unvoted, a walk of its own passes through that node
abbrev pub HasOtherVotes : Graph → Graph → Node → Type 0
HasOtherVotes g h x = (n : Node) → n ≢ x → h.votes n.slot n.cell ≡ false → g.votes n.slot n.cell ≡ false

-- a walk to the node that passes through the other
record Through (g : Graph) (x : Node) (k : ℕ) (n : Node) : Type 0 where
  into : ℕ
  onward : ℕ
  all : into + onward ≡ k
  ends : level g into x ≡ true
  leads : Reaches g onward x n

through_here : (h : Graph) (x : Node) (k : ℕ) (n : Node) → level h k n ≡ true → n ≡ x → Through h x k n
through_here h x k n l e = record { into = k; onward = 0; all = omega arith; ends = ap (level h k) (sym e) ∙ l; leads = e }

kept_or_through : (g h : Graph) (x : Node) → IsAlike h g → HasOtherVotes g h x → (k : ℕ) (n : Node) → level h k n ≡ true → (level g k n ≡ true) ⊎ Through h x k n
kept_or_through g h x a others zero n l = elim (cases_Bool (eqb n.slot x.slot && eqb n.cell x.cell)) [
  | inl is ↦ inr (through_here h x 0 n l (same_node n x is))
  | inr is_not ↦ let u = level_unvoted h 0 n l in inl (level_zero g n (unvoted_alike h g a n u (others n (other_node n x is_not) u.unvoted)))
]
kept_or_through g h x a others (suc k) n l = elim (cases_Bool (eqb n.slot x.slot && eqb n.cell x.cell)) [
  | inl is ↦ inr (through_here h x (suc k) n l (same_node n x is))
  | inr is_not ↦
      let u = level_unvoted h (suc k) n l in
      let b = level_back h k n l in
      elim (kept_or_through g h x a others k b.m b.level) [
        | inl kept ↦ inl (level_step g k b.m n kept (steps_alike h g a b.m n (level_unvoted h k b.m b.level) u b.steps)
            (unvoted_alike h g a n u (others n (other_node n x is_not) u.unvoted)))
        | inr t ↦ inr (record {
          into = t.into;
          onward = suc t.onward;
          all = let e : t.into + t.onward ≡ k = t.all in omega arith;
          ends = t.ends;
          leads = (b.m, t.leads, b.steps, u);
        })
      ]
]

pub new_walk_is_through : (g h : Graph) (x : Node) (k : ℕ) → IsAlike h g → HasOtherVotes g h x → has_level_node g k ≡ false → has_level_node h k ≡ true → IsOnWalk h k x
new_walk_is_through g h x k a others none some =
    let f = any_found (node_count h) (λ v. level h k (node_of h v)) some in
    elim (kept_or_through g h x a others k (node_of h f.v) f.passes) [
      | inl kept ↦ absurd (both_ways (has_level_node g k) none (level_found g k (node_of h f.v) kept))
      | inr t ↦ record { into = t.into; onward = t.onward; all = t.all; ends = t.ends; last = node_of h f.v; leads = t.leads }
    ]

pub walk_through : (h : Graph) (x : Node) (k : ℕ) → IsOnWalk h k x → has_level_node h k ≡ true
walk_through h x k w =
    let all : w.into + w.onward ≡ k = w.all in
    level_found h k w.last (subst (λ (i : ℕ). level h i w.last ≡ true) (let e : w.onward + w.into ≡ k = omega arith in e) (level_on h w.into w.onward x w.last w.ends w.leads))
