-- Every matcher is found: the walk of a pattern on its own instance, with some choices, ends with the matcher's first appearances.
use Prim.Native.Nat.{ℕ, ◌+◌, ◌<◌, ◌≤◌, max}
use mathlib.Core.Path.{◌≡◌, refl, ap, ◌∙◌}
use mathlib.Core.List.{List}
use lib.ListN.{length}
use native.Mathlib.Omega.{arith}
use native.Mathlib.Decide.{ℕ_discrete}
use Rattle.meaning.specs.Forest.{Forest, Term, rows, terms, ◌⊕◌, plug, hole_row, size}
use Rattle.meaning.specs.Read.{take_t, cut, span}
use Rattle.meaning.proofs.Laws.{drop_t, take_of, drop_of, terms_of, hole_in, plug_cut}
use Rattle.meaning.specs.Pattern.{Pattern, symbol, individual, function, context, Patterns, nil, cons, sequence, Kind, an_individual, a_sequence, a_function, a_context, old, look, Comes, after, after_t, after_f, GoodT, GoodF}
use Rattle.meaning.specs.Matcher.{Value, of_individual, of_sequence, of_function, of_context, kind, kinds, at, as_term, as_forest, as_symbol, as_context, apply, apply_all}
use Rattle.meaning.specs.Record.{Entry, note, firsts_t, firsts_f}
use Rattle.meaning.proofs.Walk.{ok, walk_t, walk_f}
use Rattle.meaning.specs.Reached.{Begins}
use Rattle.meaning.proofs.Lists.{at_old, look_less}
use Rattle.meaning.proofs.Steps.{when_yes, kinds_old, kinds_length, Stands, On, on_stands, meet_does, choose_does}

-- a value of a known kind
pub tree_of : (v : Value) → kind v ≡ an_individual → of_individual (as_term v).label (as_term v).args ≡ v
tree_of (of_individual l us) h = refl
tree_of (of_sequence f) h = cc
tree_of (of_function l) h = cc
tree_of (of_context c) h = cc

pub forest_of : (v : Value) → kind v ≡ a_sequence → of_sequence (as_forest v) ≡ v
forest_of (of_individual l us) h = cc
forest_of (of_sequence f) h = refl
forest_of (of_function l) h = cc
forest_of (of_context c) h = cc

pub symbol_of : (v : Value) → kind v ≡ a_function → of_function (as_symbol v) ≡ v
symbol_of (of_individual l us) h = cc
symbol_of (of_sequence f) h = cc
symbol_of (of_function l) h = refl
symbol_of (of_context c) h = cc

pub context_of : (v : Value) → kind v ≡ a_context → of_context (as_context v) ≡ v
context_of (of_individual l us) h = cc
context_of (of_sequence f) h = cc
context_of (of_function l) h = cc
context_of (of_context c) h = refl

-- variables are only added
mutual
  unfolding after_t

  pub after_ge_t : (q : Pattern) (n : ℕ) → n ≤ after_t q n
  after_ge_t (symbol f ps) n = after_ge_f ps n
  after_ge_t (individual x) n = omega arith
  after_ge_t (function x ps) n = omega (arith, after_ge_f ps (after x n))
  after_ge_t (context x q) n = omega (arith, after_ge_t q (after x n))

  pub after_ge_f : (ps : Patterns) (n : ℕ) → n ≤ after_f ps n
  after_ge_f nil n = omega arith
  after_ge_f (cons q ps) n = omega (arith, after_ge_t q n, after_ge_f ps (after_t q n))
  after_ge_f (sequence x ps) n = omega (arith, after_ge_f ps (after x n))

mutual
  unfolding after_t

  pub after_to_t : (q : Pattern) (n m : ℕ) → n ≤ m → after_t q m ≡ max (after_t q n) m
  after_to_t (symbol f ps) n m h = after_to_f ps n m h
  after_to_t (individual x) n m h = omega arith
  after_to_t (function x ps) n m h = omega (arith, after_to_f ps (after x n) (after x m) (omega arith), after_ge_f ps (after x n))
  after_to_t (context x q) n m h = omega (arith, after_to_t q (after x n) (after x m) (omega arith), after_ge_t q (after x n))

  pub after_to_f : (ps : Patterns) (n m : ℕ) → n ≤ m → after_f ps m ≡ max (after_f ps n) m
  after_to_f nil n m h = omega arith
  after_to_f (cons q ps) n m h =
      let e = after_to_t q n m h in
      omega (arith, after_to_f ps (after_t q n) (after_t q m) (omega arith), after_ge_f ps (after_t q n))
  after_to_f (sequence x ps) n m h = omega (arith, after_to_f ps (after x n) (after x m) (omega arith), after_ge_f ps (after x n))

module _ (Allowed : ℕ → Value → Type 0) (allowed? : (x : ℕ) (v : Value) → Dec (Allowed x v)) (Q : List Kind)
    (σ : List Value) (right : Begins (kinds σ) Q) (held : (x : ℕ) (v : Value) → look σ x ≡ old v → Allowed x v) where
  has : {x : ℕ} {k : Kind} {n : ℕ} → x < length σ → Comes Q x k n → (look σ x ≡ old (at σ x)) × (kind (at σ x) ≡ k)
  has {x} {k} b c =
      let m = kinds_length σ in
      let f = kinds_old σ x k (look_less (kinds σ) right.rest x k (omega arith) (rw right.is at c.kept)) in
      let e : at σ x ≡ f.0 = at_old σ x f.1 in
      (rw e f.1, rw e f.2)

  comes : {x : ℕ} {k : Kind} {n : ℕ} {B : List Entry} (t : ℕ) → x < length σ → Comes Q x k n → On Allowed σ n B
      → Stands Allowed B x (at σ x) × On Allowed σ (after x n) (note x (at σ x) t B)
  comes {x} t b c o = let h = has b c in on_stands Allowed t o c.near h.0 (held x (at σ x) h.0)

  mutual
    unfolding walk_t apply after_t GoodT firsts_t

    pub complete_t : (q : Pattern) {n : ℕ} → GoodT Q q n → (t : ℕ) (B : List Entry) → On Allowed σ n B → after_t q n ≤ length σ
        → On Allowed σ (after_t q n) (firsts_t σ q t B) × ((cs : List ℕ) → (cs₀ : List ℕ) × (walk_t Allowed allowed? q (apply σ q) t B cs₀ ≡ ok (firsts_t σ q t B) cs))
    complete_t (symbol f ps) g t B o b =
        let r = complete_f ps g (t + 1) B o b in
        (r.0, λ cs. let s = r.1 cs in (s.0, when_yes (ℕ_discrete f f) (walk_f Allowed allowed? ps (apply_all σ ps) (t + 1) B s.0) refl ∙ s.1))
    complete_t (individual x) g t B o b =
        let h = has (omega arith) g in
        let s = comes t (omega arith) g o in
        (s.1, λ cs. (cs, rw (tree_of (at σ x) h.1) (meet_does Allowed allowed? t cs s.0)))
    complete_t (function x ps) {n} g t B o b =
        let v : Value = at σ x in
        let z : x < length σ = omega (arith, after_ge_f ps (after x n)) in
        let s = comes t z g.0 o in
        let r = complete_f ps g.1 (t + 1) (note x v t B) s.1 b in
        (r.0, λ cs. let c = r.1 cs in (c.0, rw (symbol_of v (has z g.0).1, meet_does Allowed allowed? t c.0 s.0) c.1))
    complete_t (context x q) {n} g t B o b =
        let v : Value = at σ x in
        let T : Term = apply σ q in
        let U : Term = plug (as_context v) T in
        let z : x < length σ = omega (arith, after_ge_t q (after x n)) in
        let s = comes t z g.0 o in
        let e : of_context (as_context v) ≡ v = context_of v (has z g.0).1 in
        let d : hole_row (as_context v) ≡ span v = ap span e in
        let p : cut U (span v) ≡ record { around = as_context v; at = T } = rw (← d) (plug_cut (as_context v) T) in
        let h : t + span v ≤ t + rows U.args = omega (arith, hole_in (as_context v) T) in
        let r = complete_t q g.1 (t + hole_row (as_context v)) (note x v t B) s.1 b in (
          r.0,
          λ cs.
              let c = r.1 cs in
              let k = choose_does Allowed allowed? t (t + rows U.args) t (λ d. of_context (cut U d).around) c.0 (λ d B₁ cs₁. walk_t Allowed allowed? q (cut U d).at (t + d) B₁ cs₁)
              s.0 (rw p e) h in
              (k.0, k.1 ∙ rw (p, ← d) c.1),
        )

    pub complete_f : (ps : Patterns) {n : ℕ} → GoodF Q ps n → (t : ℕ) (B : List Entry) → On Allowed σ n B → after_f ps n ≤ length σ
        → On Allowed σ (after_f ps n) (firsts_f σ ps t B) × ((cs : List ℕ) → (cs₀ : List ℕ) × (walk_f Allowed allowed? ps (apply_all σ ps) t B cs₀ ≡ ok (firsts_f σ ps t B) cs))
    complete_f nil g t B o b = (o, λ cs. (cs, refl))
    complete_f (cons q ps) {n} g t B o b =
        let r = complete_t q g.0 t B o (omega (arith, after_ge_f ps (after_t q n))) in
        let s = complete_f ps g.1 (t + size (apply σ q)) (firsts_t σ q t B) r.0 b in
        (s.0, λ cs. let c = s.1 cs in let b = r.1 c.0 in (b.0, rw b.1 c.1))
    complete_f (sequence x ps) {n} g t B o b =
        let v : Value = at σ x in
        let f : Forest = as_forest v in
        let us : Forest = f ⊕ apply_all σ ps in
        let z : x < length σ = omega (arith, after_ge_f ps (after x n)) in
        let s = comes t z g.0 o in
        let e : of_sequence f ≡ v = forest_of v (has z g.0).1 in
        let d : terms f ≡ span v = ap span e in
        let p : take_t (span v) us ≡ f = rw (← d) (take_of f (apply_all σ ps)) in
        let u : drop_t (span v) us ≡ apply_all σ ps = rw (← d) (drop_of f (apply_all σ ps)) in
        let h : 0 + span v ≤ terms us = omega (arith, terms_of f (apply_all σ ps)) in
        let r = complete_f ps g.1 (t + rows f) (note x v t B) s.1 b in (
          r.0,
          λ cs.
              let c = r.1 cs in
              let k = choose_does Allowed allowed? 0 (terms us) t (λ d. of_sequence (take_t d us)) c.0 (λ d B₁ cs₁. walk_f Allowed allowed? ps (drop_t d us) (t + rows (take_t d us)) B₁ cs₁)
              s.0 (rw p e) h in
              (k.0, k.1 ∙ rw (p, u) c.1),
        )
