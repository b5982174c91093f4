-- Places that are made one after the other, and places that stay places.
use Rattle.std.proofs.Common.{◌≡◌, ℕ, zero, suc, ◌+◌, ◌<◌, ◌++◌, ◌∷◌, [], List, length, map, get_or, set, length-set, replicate, All, subst, sym, ap, ap₂, ◌∙◌, arith}
use Rattle.std.proofs.lemmas.List.{get_or-replicate, length-append, length-map, length-replicate, map-append}
use Rattle.std.proofs.lemmas.List.Elements.{All-append, All-nil, All-set}
use Rattle.rcp_base.specs.Tables.{table}
use Rattle.rcp_base.proofs.FillLaws.{is_table}
use Rattle.rcp_base.proofs.TableLaws.{get_or-table, length-table, table_more, table_none}
use Rattle.rcp_model.specs.declared.plan.PlanParts.{PlanParts}
use Rattle.rcp_model.specs.System.{initial_state}
use Rattle.rcp_model.specs.Uniprocessor.{ProcessorState}
use Rattle.replica_parts.specs.declared.setting.Setting.{Setting}
use Rattle.replica_parts.specs.Rooms.{AreEach, AreStates}
use Rattle.replica_parts.specs.Setting.{IsSettingOf}

pub each_set : {X : Type 0} (n : ℕ) (P : X → Type 0) (xs : List X) (i : ℕ) (x : X) → AreEach n P xs → P x → AreEach n P (set xs i x)
each_set n P xs i x h p = record { size = length-set xs i x ∙ h.size; each = All-set P xs i x p h.each }

pub each_at : {X : Type 0} (n : ℕ) (P : X → Type 0) (xs : List X) (i : ℕ) (x : X) → AreEach n P xs → i < n → x ≡ get_or xs i x → P x
each_at n P xs i x h lt is = subst P (sym is) (h.each i x (omega (arith, lt, h.size)))

pub each_none : {X : Type 0} (P : X → Type 0) (xs : List X) → xs ≡ [] → AreEach 0 P xs
each_none P xs e = record { size = ap length e; each = subst (All P) (sym e) (All-nil P) }

-- one more
all_one : {X : Type 0} (P : X → Type 0) (x : X) → P x → All P (x ∷ [])
all_one P x p zero d lt = p
all_one P x p (suc i) d lt = absurd (omega (arith, lt))

pub all_more : {X : Type 0} (P : X → Type 0) (old new : List X) (x : X) → All P old → P x → new ≡ old ++ x ∷ [] → All P new
all_more P old new x h p e = subst (All P) (sym e) (All-append P old (x ∷ []) h (all_one P x p))

pub each_more : {X : Type 0} (n : ℕ) (P : X → Type 0) (old new : List X) (x : X) → AreEach n P old → P x → new ≡ old ++ x ∷ [] → AreEach (n + 1) P new
each_more n P old new x h p e = record {
  size = ap length e ∙ length-append old (x ∷ []) ∙ ap (λ m. m + 1) h.size;
  each = all_more P old new x h.each p e;
}

-- a table that grows by a place, and places that are seen through a function
pub none_grown : {X : Type 0} (xs : List X) (f : ℕ → X) → xs ≡ [] → xs ≡ table 0 f
none_grown xs f e = e ∙ sym (table_none f)

pub grown : {X : Type 0} (n : ℕ) (f : ℕ → X) (old new : List X) (x : X) → old ≡ table n f → x ≡ f n → new ≡ old ++ x ∷ [] → new ≡ table (n + 1) f
grown n f old new x h is e = e ∙ ap₂ (λ xs y. xs ++ y ∷ []) h is ∙ sym (table_more n f)

pub none_seen : {A X : Type 0} (see : A → X) (f : ℕ → X) (xs : List A) → xs ≡ [] → map see xs ≡ table 0 f
none_seen see f xs e = none_grown (map see xs) f (ap (map see) e)

pub seen : {A X : Type 0} (see : A → X) (n : ℕ) (f : ℕ → X) (old new : List A) (a : A) → map see old ≡ table n f → see a ≡ f n → new ≡ old ++ a ∷ [] → map see new ≡ table (n + 1) f
seen see n f old new a h is e = grown n f (map see old) (map see new) (see a) h is (ap (map see) e ∙ map-append see old (a ∷ []))

pub replicate_table : {X : Type 0} (n : ℕ) (x : X) → replicate n x ≡ table n (λ k. x)
replicate_table n x = is_table n (λ k. x) (replicate n x) x (length-replicate n x) (λ k lt. get_or-replicate n k x x lt)

-- what the replicas hold before the first frame has the plan's sizes
pub initial_room : (plan : PlanParts) (setting : Setting) → IsSettingOf plan setting → AreStates setting (table plan.replicas (initial_state plan).replicas)
unfolding initial_state
initial_room plan setting s =
    let f : ℕ → ProcessorState = (initial_state plan).replicas in
    record {
      size = length-table plan.replicas f ∙ sym s.replicas;
      each = λ i d lt.
          ap (λ (h : ProcessorState). length h.cells) (get_or-table plan.replicas f i d (omega (arith, lt, length-table plan.replicas f)))
          ∙ length-map plan.cells _ ∙ sym s.cells;
    }
