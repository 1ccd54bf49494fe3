-- The kinds of a good pattern are read off it: there is one list of them.
use Prim.Native.Nat.{ℕ}
use mathlib.Core.Path.{◌≡◌, refl, ◌∙◌}
use mathlib.Core.Path.{sym as flip}
use mathlib.Core.List.{List, [], ◌∷◌, ◌++◌}
use lib.ListN.{length, length-append}
use native.Mathlib.Omega.{arith}
use Rattle.meaning.specs.Pattern.{Pattern, symbol, individual, function, context, Patterns, nil, cons, sequence, Kind, an_individual, a_sequence, a_function, a_context, Look, old, new, wrong, look, Comes, after, after_t, after_f, GoodT, GoodF, Numbered}
use Rattle.meaning.specs.Reached.{Begins}
use Rattle.meaning.proofs.Lists.{look_new, look_old, look_wrong, pre_more, pre_same}

abbrev add_as : Look Kind → Kind → List Kind → List Kind
add_as (old j) k K = K
add_as new k K = K ++ (k ∷ [])
add_as wrong k K = K

abbrev pub add : ℕ → Kind → List Kind → List Kind
add x k K = add_as (look K x) k K

unfoldable mutual
  pub kinds_t : Pattern → List Kind → List Kind
  kinds_t (symbol f ps) K = kinds_f ps K
  kinds_t (individual x) K = add x an_individual K
  kinds_t (function x ps) K = kinds_f ps (add x a_function K)
  kinds_t (context x q) K = kinds_t q (add x a_context K)

  pub kinds_f : Patterns → List Kind → List Kind
  kinds_f nil K = K
  kinds_f (cons q ps) K = kinds_f ps (kinds_t q K)
  kinds_f (sequence x ps) K = kinds_f ps (add x a_sequence K)

module _ (Q : List Kind) where
  record So (n : ℕ) (K : List Kind) : Type 0 where
    many : length K ≡ n
    pre : Begins K Q

  so_add : {x : ℕ} {k : Kind} {n : ℕ} {K : List Kind} → Comes Q x k n → So n K → So (after x n) (add x k K)
  so_add {x} {k} {n} {K} c s = go (look K x) refl
    where
      go : (l : Look Kind) → look K x ≡ l → So (after x n) (add_as l k K)
      go (old j) h = record { many = omega (arith, look_old K x j h, s.many); pre = s.pre }
      go new h = record { many = omega (arith, look_new K x h, s.many, length-append K (k ∷ [])); pre = pre_more x k s.pre h c.kept }
      go wrong h = absurd (omega (arith, look_wrong K x h, s.many, c.near))

  mutual
    unfolding kinds_t after_t GoodT

    so_t : (q : Pattern) (n : ℕ) (K : List Kind) → GoodT Q q n → So n K → So (after_t q n) (kinds_t q K)
    so_t (symbol f ps) n K g s = so_f ps n K g s
    so_t (individual x) n K g s = so_add g s
    so_t (function x ps) n K g s = so_f ps (after x n) (add x a_function K) g.1 (so_add g.0 s)
    so_t (context x q) n K g s = so_t q (after x n) (add x a_context K) g.1 (so_add g.0 s)

    so_f : (ps : Patterns) (n : ℕ) (K : List Kind) → GoodF Q ps n → So n K → So (after_f ps n) (kinds_f ps K)
    so_f nil n K g s = s
    so_f (cons q ps) n K g s = so_f ps (after_t q n) (kinds_t q K) g.1 (so_t q n K g.0 s)
    so_f (sequence x ps) n K g s = so_f ps (after x n) (add x a_sequence K) g.1 (so_add g.0 s)

pub kinds_are : {P : Pattern} {Q : List Kind} → Numbered P Q → kinds_t P [] ≡ Q
kinds_are {P} {Q} g =
    let s = so_t Q P 0 [] g.numbered (record { many = refl; pre = record { rest = Q; is = refl } }) in
    pre_same s.pre (omega (arith, s.many, g.all))

pub one_kinds : {P : Pattern} {Q R : List Kind} → Numbered P Q → Numbered P R → Q ≡ R
one_kinds g h = flip (kinds_are g) ∙ kinds_are h
