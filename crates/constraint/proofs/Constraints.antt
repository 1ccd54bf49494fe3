-- A good constraint list gives each variable one constraint, read off its two numbers.
use Prim.Native.Nat.{ℕ, zero, suc, ◌+◌}
use mathlib.Core.Path.{◌≡◌, refl, ap, ap₂}
use mathlib.Core.List.{List, [], ◌∷◌}
use lib.ListN.{length, get_or}
use native.Mathlib.Omega.{arith}
use Rattle.meaning.specs.Pattern.{Kind, Look, old, look}
use Rattle.meaning.proofs.Lists.{look_old}
use Rattle.expression.specs.Expression.{Expression}
use Rattle.expression.proofs.Places.{one_start}
use Rattle.constraint.specs.Obeys.{Constraint, free, bound}
use Rattle.constraint.specs.Good.{GoodConstraints, all_given, none_given, one_given}
use Rattle.constraint.specs.Pair.{Pair, no_pair, a_pair}

-- the list has the constraints of one list of them only
pub one_constraints : {es : List Expression} {Q : List Kind} {list : List ℕ} {cs ds : List Constraint} → GoodConstraints es Q list cs → GoodConstraints es Q list ds → cs ≡ ds
one_constraints all_given all_given = refl
one_constraints (none_given g) (none_given h) = ap (λ (cs : List Constraint). free ∷ cs) (one_constraints g h)
one_constraints (one_given {flag = flag} m s f g) (one_given n t i h) = ap₂ (λ (e : Expression) (cs : List Constraint). bound e flag ∷ cs) (one_start s t) (one_constraints g h)

-- two numbers for each variable, and one constraint
pub numbers_many : {es : List Expression} {Q : List Kind} {list : List ℕ} {cs : List Constraint} → GoodConstraints es Q list cs → length list ≡ length Q + length Q
numbers_many all_given = refl
numbers_many (none_given g) = omega (arith, numbers_many g)
numbers_many (one_given m s f g) = omega (arith, numbers_many g)

-- the two numbers of a variable, behind those of the first
behind_first : (a b : ℕ) (list : List ℕ) (x : ℕ) → (get_or (a ∷ b ∷ list) (suc x + suc x) 0 ≡ get_or list (x + x) 0) × (get_or (a ∷ b ∷ list) (suc x + suc x + 1) 0 ≡ get_or list (x + x + 1) 0)
behind_first a b list x =
    let p : suc x + suc x ≡ suc (suc (x + x)) = omega arith in
    let q : suc (suc (x + x)) + 1 ≡ suc (suc (x + x + 1)) = omega arith in
    rw (p, q) (refl, refl)

abbrev pub PairAt : List Expression → List ℕ → Kind → ℕ → Constraint → Type 0
PairAt es list k x c = Pair es k (get_or list (x + x) 0) (get_or list (x + x + 1) 0) c

pair_on : {es : List Expression} {k : Kind} {c : Constraint} (a b : ℕ) (list : List ℕ) (x : ℕ) → PairAt es list k x c → PairAt es (a ∷ b ∷ list) k (suc x) c
pair_on a b list x p = rw ((behind_first a b list x).0, (behind_first a b list x).1) p

the_old : {A : Type 0} {a b : A} → ◌≡◌ {A = Look A} (old a) (old b) → a ≡ b
the_old e = cc

-- the variable's constraint is that of its two numbers
pub pair_at : {es : List Expression} {Q : List Kind} {list : List ℕ} {cs : List Constraint} {k : Kind} (x : ℕ) → GoodConstraints es Q list cs → look Q x ≡ old k → PairAt es list k x (get_or cs x free)
pair_at {k = k} x all_given e = absurd (omega (arith, look_old [] x k e))
pair_at zero (none_given g) e = no_pair
pair_at zero (one_given m s f g) e = a_pair (rw (the_old e) at m) s f
pair_at (suc x) (none_given {list = list} g) e = pair_on 0 0 list x (pair_at x g e)
pair_at (suc x) (one_given {list = list} {row = row} {flag = flag} m s f g) e = pair_on (suc row) flag list x (pair_at x g e)

one_more : {es : List Expression} {k : Kind} {Q : List Kind} {a b : ℕ} {list : List ℕ} {cs : List Constraint} {c : Constraint} → Pair es k a b c → GoodConstraints es Q list cs → GoodConstraints es (k ∷ Q) (a ∷ b ∷ list) (c ∷ cs)
one_more no_pair g = none_given g
one_more (a_pair m s f) g = one_given m s f g

pair_off : {es : List Expression} {k : Kind} {c : Constraint} (a b : ℕ) (list : List ℕ) (x : ℕ) → PairAt es (a ∷ b ∷ list) k (suc x) c → PairAt es list k x c
pair_off a b list x p = rw ((behind_first a b list x).0, (behind_first a b list x).1) at p

-- numbers that give each variable a constraint are a good list
pub all_pairs : {es : List Expression} (Q : List Kind) (list : List ℕ) → length list ≡ length Q + length Q
    → ((x : ℕ) (k : Kind) → look Q x ≡ old k → (c : Constraint) × PairAt es list k x c) → (cs : List Constraint) × GoodConstraints es Q list cs
all_pairs [] [] h f = ([], all_given)
all_pairs [] (a ∷ list) h f = absurd (omega arith)
all_pairs (k ∷ Q) [] h f = absurd (omega arith)
all_pairs (k ∷ Q) (a ∷ []) h f = absurd (omega arith)
all_pairs {es} (k ∷ Q) (a ∷ b ∷ list) h f =
    let p = f 0 k refl in
    let r = all_pairs {es = es} Q list (omega arith) (λ x j e. ((f (suc x) j e).0, pair_off a b list x (f (suc x) j e).1)) in
    (p.0 ∷ r.0, one_more p.1 r.1)
