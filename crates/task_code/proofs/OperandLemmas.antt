-- An operator after the code of its right operand.
use Rattle.std.proofs.Common.{◌≡◌, ◌≤◌, ◌+◌, ℤ, List, [], ◌∷◌, ◌++◌, length, refl, ap, subst, append_assoc, length-append, arith}
use Rattle.rcp_model.specs.declared.expr.Op.{Op}
use Rattle.task_code.specs.declared.instruction.Instruction.{Instruction}
use Rattle.task_code.specs.declared.instruction.Instruction.TheVariants.{Number, Sensor, Cell, Let, Neg, Not, Abs, Two, WithNumber, WithSensor, WithCell, WithLet, Clamp, If, Keep, Give}
use Rattle.task_code.specs.Machine.{State, run, result_count}
use Rattle.task_code.specs.Compiler.{with_one, with_operand}

-- the operator's own instruction comes last
abbrev pub Whole : Op → List Instruction → Type 0
Whole op code = with_operand op code ≡ code ++ Two op ∷ []

long : (op : Op) (a : List Instruction) (i j : Instruction) (code : List Instruction) → Whole op (a ++ i ∷ j ∷ code)
long op [] i j code = refl
long op (x ∷ []) i j code = refl
long op (x ∷ y ∷ a) i j code = refl

last : (op : Op) (a : List Instruction) (i : Instruction) → with_one op i ≡ i ∷ Two op ∷ [] → Whole op (a ++ i ∷ [])
last op [] i is = is
last op (x ∷ []) i is = refl
last op (x ∷ y ∷ a) i is = refl

pub after_neg : (op : Op) (x : List Instruction) → with_operand op (x ++ Neg ∷ []) ≡ (x ++ Neg ∷ []) ++ Two op ∷ []
after_neg op x = last op x Neg refl

pub after_not : (op : Op) (x : List Instruction) → with_operand op (x ++ Not ∷ []) ≡ (x ++ Not ∷ []) ++ Two op ∷ []
after_not op x = last op x Not refl

pub after_abs : (op : Op) (x : List Instruction) → with_operand op (x ++ Abs ∷ []) ≡ (x ++ Abs ∷ []) ++ Two op ∷ []
after_abs op x = last op x Abs refl

three : (x a b : List Instruction) (i : Instruction) → ((x ++ a) ++ b) ++ i ∷ [] ≡ x ++ (a ++ (b ++ i ∷ []))
three x a b i = simp append_assoc

pub after_clamp : (op : Op) (x a b : List Instruction) → with_operand op (x ++ (a ++ (b ++ Clamp ∷ []))) ≡ (x ++ (a ++ (b ++ Clamp ∷ []))) ++ Two op ∷ []
after_clamp op x a b = subst (λ c. Whole op c) (three x a b Clamp) (last op ((x ++ a) ++ b) Clamp refl)

pub after_if : (op : Op) (x a b : List Instruction) → with_operand op (x ++ (a ++ (b ++ If ∷ []))) ≡ (x ++ (a ++ (b ++ If ∷ []))) ++ Two op ∷ []
after_if op x a b = subst (λ c. Whole op c) (three x a b If) (last op ((x ++ a) ++ b) If refl)

pub after_two : (op inner : Op) (a b : List Instruction) → with_operand op (a ++ with_operand inner b) ≡ (a ++ with_operand inner b) ++ Two op ∷ []
after_two op inner a [] = last op a (Two inner) refl
after_two op inner a (Number n ∷ []) = last op a (WithNumber inner n) refl
after_two op inner a (Sensor n ∷ []) = last op a (WithSensor inner n) refl
after_two op inner a (Cell n ∷ []) = last op a (WithCell inner n) refl
after_two op inner a (Let n ∷ []) = last op a (WithLet inner n) refl
after_two op inner a (Neg ∷ []) = long op a Neg (Two inner) []
after_two op inner a (Not ∷ []) = long op a Not (Two inner) []
after_two op inner a (Abs ∷ []) = long op a Abs (Two inner) []
after_two op inner a (Two p ∷ []) = long op a (Two p) (Two inner) []
after_two op inner a (WithNumber p n ∷ []) = long op a (WithNumber p n) (Two inner) []
after_two op inner a (WithSensor p n ∷ []) = long op a (WithSensor p n) (Two inner) []
after_two op inner a (WithCell p n ∷ []) = long op a (WithCell p n) (Two inner) []
after_two op inner a (WithLet p n ∷ []) = long op a (WithLet p n) (Two inner) []
after_two op inner a (Clamp ∷ []) = long op a Clamp (Two inner) []
after_two op inner a (If ∷ []) = long op a If (Two inner) []
after_two op inner a (Keep ∷ []) = long op a Keep (Two inner) []
after_two op inner a (Give ∷ []) = long op a Give (Two inner) []
after_two op inner a (i ∷ j ∷ b) = long op a i j (b ++ Two inner ∷ [])

-- an operator with its right operand in it does what the two do one after the other
pub runs_operand :
    (sensors cells : List ℤ) (op : Op) (b rest : List Instruction) (s : State) →
    run sensors cells (with_operand op b ++ rest) s ≡ run sensors cells (b ++ Two op ∷ rest) s
runs_operand sensors cells op [] rest s = refl
runs_operand sensors cells op (Number n ∷ []) rest s = refl
runs_operand sensors cells op (Sensor n ∷ []) rest s = refl
runs_operand sensors cells op (Cell n ∷ []) rest s = refl
runs_operand sensors cells op (Let n ∷ []) rest s = refl
runs_operand sensors cells op (Neg ∷ []) rest s = refl
runs_operand sensors cells op (Not ∷ []) rest s = refl
runs_operand sensors cells op (Abs ∷ []) rest s = refl
runs_operand sensors cells op (Two p ∷ []) rest s = refl
runs_operand sensors cells op (WithNumber p n ∷ []) rest s = refl
runs_operand sensors cells op (WithSensor p n ∷ []) rest s = refl
runs_operand sensors cells op (WithCell p n ∷ []) rest s = refl
runs_operand sensors cells op (WithLet p n ∷ []) rest s = refl
runs_operand sensors cells op (Clamp ∷ []) rest s = refl
runs_operand sensors cells op (If ∷ []) rest s = refl
runs_operand sensors cells op (Keep ∷ []) rest s = refl
runs_operand sensors cells op (Give ∷ []) rest s = refl
runs_operand sensors cells op (i ∷ j ∷ b) rest s =
    ap (λ code. run sensors cells (i ∷ j ∷ code) s) (append_assoc b (Two op ∷ []) rest)

-- an operator adds one instruction at most
pub length_operand : (op : Op) (b : List Instruction) → length (with_operand op b) ≤ length b + 1
length_operand op [] = omega arith
length_operand op (Number n ∷ []) = omega arith
length_operand op (Sensor n ∷ []) = omega arith
length_operand op (Cell n ∷ []) = omega arith
length_operand op (Let n ∷ []) = omega arith
length_operand op (Neg ∷ []) = omega arith
length_operand op (Not ∷ []) = omega arith
length_operand op (Abs ∷ []) = omega arith
length_operand op (Two p ∷ []) = omega arith
length_operand op (WithNumber p n ∷ []) = omega arith
length_operand op (WithSensor p n ∷ []) = omega arith
length_operand op (WithCell p n ∷ []) = omega arith
length_operand op (WithLet p n ∷ []) = omega arith
length_operand op (Clamp ∷ []) = omega arith
length_operand op (If ∷ []) = omega arith
length_operand op (Keep ∷ []) = omega arith
length_operand op (Give ∷ []) = omega arith
length_operand op (i ∷ j ∷ b) = omega (arith, length-append b (Two op ∷ []))

pub result_count-append : (a b : List Instruction) → result_count (a ++ b) ≡ result_count a + result_count b
result_count-append [] b = omega arith
result_count-append (i ∷ a) b = omega (arith, result_count-append a b)

-- an operator adds no result
pub count_operand : (op : Op) (b : List Instruction) → result_count (with_operand op b) ≡ result_count b
count_operand op [] = refl
count_operand op (Number n ∷ []) = refl
count_operand op (Sensor n ∷ []) = refl
count_operand op (Cell n ∷ []) = refl
count_operand op (Let n ∷ []) = refl
count_operand op (Neg ∷ []) = refl
count_operand op (Not ∷ []) = refl
count_operand op (Abs ∷ []) = refl
count_operand op (Two p ∷ []) = refl
count_operand op (WithNumber p n ∷ []) = refl
count_operand op (WithSensor p n ∷ []) = refl
count_operand op (WithCell p n ∷ []) = refl
count_operand op (WithLet p n ∷ []) = refl
count_operand op (Clamp ∷ []) = refl
count_operand op (If ∷ []) = refl
count_operand op (Keep ∷ []) = refl
count_operand op (Give ∷ []) = refl
count_operand op (i ∷ j ∷ b) = omega (arith, result_count-append b (Two op ∷ []))
