-- Rows that keep the rules, and whose sizes are a tree's, are those of a pattern.
use Prim.Native.Nat.{ℕ, suc, ◌<◌}
use mathlib.Core.Path.{◌≡◌, refl, ap, ◌∙◌}
use mathlib.Core.List.{List, ◌∷◌, ◌++◌, append_assoc}
use lib.ListN.{get_or}
use native.Mathlib.Omega.{arith}
use Rattle.meaning.specs.Forest.{Forest, none, some, Term, term, ◌◂◌, rows}
use Rattle.meaning.specs.Pattern.{Pattern, symbol, individual, function, context, Patterns, nil, cons, sequence, Kind, an_individual, a_sequence, a_function, a_context, Comes, after, after_t, after_f, GoodT, GoodF}
use Rattle.tree.specs.Rows.{labels, sizes}
use Rattle.pattern.specs.Rows.{code, tree_t, tree_f, the_kind, the_name}
use Rattle.pattern.proofs.Small.{SmallT, SmallF}
use Rattle.pattern.specs.Scan.{OneArgument, Scan, symbol_row, variable_row}

-- the rows of the sequence f are those of a pattern's arguments; K are the kinds from there on, N and S the names and sizes behind
pub record Built (Q : List Kind) (f : Forest) (n : ℕ) (K N S : List ℕ) : Type 0 where
  pub patterns : Patterns
  pub named : tree_f the_name patterns ≡ f
  pub behind : List ℕ
  pub kinds : K ≡ labels (tree_f the_kind patterns) ++ behind
  pub good : GoodF Q patterns n
  pub small : SmallF patterns
  pub rest : Scan Q (after_f patterns n) behind N S

-- the same of one term
pub record BuiltTerm (Q : List Kind) (f : Forest) (n : ℕ) (K N S : List ℕ) : Type 0 where
  pub pattern : Pattern
  pub named : tree_t the_name pattern ◂ none ≡ f
  pub behind : List ℕ
  pub kinds : K ≡ labels (tree_t the_kind pattern ◂ none) ++ behind
  pub good : GoodT Q pattern n
  pub small : SmallT pattern
  pub rest : Scan Q (after_t pattern n) behind N S

-- one argument that is no sequence variable is a term
pub single : {Q : List Kind} {n l : ℕ} {us : Forest} {K N S : List ℕ} → Built Q (some l us none) n K N S → (get_or K 0 0 ≡ code a_sequence → ⊥)
    → BuiltTerm Q (some l us none) n K N S
unfolding tree_f labels GoodF SmallF after_f
single {Q} {n} {l} {us} {K} {N} {S} b h = go b.patterns b.named b.kinds b.good b.small b.rest
  where
    go : (ps : Patterns) → tree_f the_name ps ≡ some l us none → K ≡ labels (tree_f the_kind ps) ++ b.behind → GoodF Q ps n → SmallF ps
        → Scan Q (after_f ps n) b.behind N S → BuiltTerm Q (some l us none) n K N S
    go nil e k g m r = let z : ◌≡◌ {A = ℕ} 0 1 = cc in absurd (omega arith)
    go (sequence x ps) e k g m r = absurd (h (ap (λ (j : List ℕ). get_or j 0 0) k))
    go (cons q nil) e k g m r = record { pattern = q; named = e; behind = b.behind; kinds = k; good = g.0; small = m.0; rest = r }
    go (cons q (cons p ps)) e k g m r = let z : ◌≡◌ {A = ℕ} 0 1 = cc in absurd (omega arith)
    go (cons q (sequence x ps)) e k g m r = let z : ◌≡◌ {A = ℕ} 0 1 = cc in absurd (omega arith)

-- the rows behind a term's own, cut where its arguments end
split : (Q : List Kind) {n : ℕ} {K : List ℕ} (us rest : Forest) (N S : List ℕ) → Scan Q n K ((labels us ++ labels rest) ++ N) ((sizes us ++ sizes rest) ++ S)
    → Scan Q n K (labels us ++ (labels rest ++ N)) (sizes us ++ (sizes rest ++ S))
split Q us rest N S s = rw (append_assoc (labels us) (labels rest) N, append_assoc (sizes us) (sizes rest) S) at s

module _ (Q : List Kind) where
  -- a term in front of a sequence
  front : {l n : ℕ} {us rest : Forest} {K N S : List ℕ} (B : List ℕ) (q : Pattern) → tree_t the_name q ≡ term l us
      → K ≡ (tree_t the_kind q).label ∷ (labels (tree_t the_kind q).args ++ B) → GoodT Q q n → SmallT q → Built Q rest (after_t q n) B N S
      → Built Q (some l us rest) n K N S
  unfolding tree_f labels SmallF GoodF after_f
  front {l} {n} {us} {rest} B q e k g h b =
      let T = tree_t the_kind q in
      record {
        patterns = cons q b.patterns;
        named = rw (e, b.named);
        behind = b.behind;
        kinds = rw (append_assoc (labels T.args) (labels (tree_f the_kind b.patterns)) b.behind, ← b.kinds) k;
        good = (g, b.good);
        small = (h, b.small);
        rest = b.rest;
      }

  -- a variable without arguments
  leaf : {l n : ℕ} {K : List ℕ} (us rest : Forest) (N S : List ℕ) → suc (rows us) ≡ 1
      → Scan Q n K ((labels us ++ labels rest) ++ N) ((sizes us ++ sizes rest) ++ S)
      → (term l none ≡ term l us) × Scan Q n K (labels rest ++ N) (sizes rest ++ S)
  unfolding rows labels sizes
  leaf none rest N S e s = (refl, s)
  leaf (some l us more) rest N S e s = absurd (omega arith)

  -- a context variable's argument
  argument : {n : ℕ} {K N S : List ℕ} (us : Forest) (R : List ℕ) → Built Q us n K N S → OneArgument (suc (rows us)) K (sizes us ++ R) → BuiltTerm Q us n K N S
  unfolding rows sizes
  argument none R b o = absurd (omega (arith, o.some))
  argument (some l us none) R b o = single b o.term
  argument (some l us (some m vs rest)) R b o = absurd (omega (arith, o.one))

  abbrev Builds : Forest → Type 0
  Builds f = (n : ℕ) (K N S : List ℕ) → Scan Q n K (labels f ++ N) (sizes f ++ S) → Built Q f n K N S

  -- each kind of row, where its arguments and the terms to its right are built
  module _ (l : ℕ) (us rest : Forest) (inner : Builds us) (outer : Builds rest) (n k : ℕ) (K N S : List ℕ) where
    abbrev Here : Type 0
    Here = Built Q (some l us rest) n (k ∷ K) N S

    abbrev Rest : ℕ → Type 0
    Rest m = Scan Q m K ((labels us ++ labels rest) ++ N) ((sizes us ++ sizes rest) ++ S)

    at_symbol : k ≡ 0 → l < 65536 → Rest n → Here
    unfolding tree_t SmallT GoodT after_t
    at_symbol e h s =
        let a = inner n K (labels rest ++ N) (sizes rest ++ S) (split Q us rest N S s) in
        let b = outer (after_f a.patterns n) a.behind N S a.rest in
        front a.behind (symbol l a.patterns) (rw a.named) (rw (e, ← a.kinds)) a.good (h, a.small) b

    at_individual : k ≡ 1 → suc (rows us) ≡ 1 → Comes Q l an_individual n → Rest (after l n) → Here
    unfolding tree_t labels SmallT GoodT after_t
    at_individual e z c s =
        let t = leaf us rest N S z s in
        front K (individual l) t.0 (rw e) c tt (outer (after l n) K N S t.1)

    at_sequence : k ≡ 2 → suc (rows us) ≡ 1 → Comes Q l a_sequence n → Rest (after l n) → Here
    unfolding tree_t labels SmallT GoodT after_t
    at_sequence e z c s =
        let t = leaf us rest N S z s in
        let b = outer (after l n) K N S t.1 in
        record {
          patterns = sequence l b.patterns;
          named = ap (λ (T : Term). T ◂ tree_f the_name b.patterns) t.0 ∙ ap (λ (f : Forest). some l us f) b.named;
          behind = b.behind;
          kinds = rw (e, ← b.kinds);
          good = (c, b.good);
          small = b.small;
          rest = b.rest;
        }

    at_function : k ≡ 3 → Comes Q l a_function n → Rest (after l n) → Here
    unfolding tree_t SmallT GoodT after_t
    at_function e c s =
        let a = inner (after l n) K (labels rest ++ N) (sizes rest ++ S) (split Q us rest N S s) in
        let b = outer (after_f a.patterns (after l n)) a.behind N S a.rest in
        front a.behind (function l a.patterns) (rw a.named) (rw (e, ← a.kinds)) (c, a.good) a.small b

    at_context : k ≡ 4 → OneArgument (suc (rows us)) K ((sizes us ++ sizes rest) ++ S) → Comes Q l a_context n → Rest (after l n) → Here
    unfolding tree_t SmallT GoodT after_t
    at_context e z c s =
        let a = inner (after l n) K (labels rest ++ N) (sizes rest ++ S) (split Q us rest N S s) in
        let t = argument us (sizes rest ++ S) a (rw append_assoc at z) in
        let b = outer (after_t t.pattern (after l n)) t.behind N S t.rest in
        front t.behind (context l t.pattern) (rw t.named) (rw (e, ← t.kinds)) (c, t.good) t.small b

  pub build : (f : Forest) (n : ℕ) (K N S : List ℕ) → Scan Q n K (labels f ++ N) (sizes f ++ S) → Built Q f n K N S
  unfolding tree_f labels sizes SmallF GoodF after_f
  build none n K N S s = record { patterns = nil; named = refl; behind = K; kinds = refl; good = tt; small = tt; rest = s }
  build (some l us rest) n K N S (symbol_row {k = k} {K = M} e h s) = at_symbol l us rest (build us) (build rest) n k M N S e h s
  build (some l us rest) n K N S (variable_row {k = k} {K = M} an_individual e z c s) = at_individual l us rest (build us) (build rest) n k M N S e z c s
  build (some l us rest) n K N S (variable_row {k = k} {K = M} a_sequence e z c s) = at_sequence l us rest (build us) (build rest) n k M N S e z c s
  build (some l us rest) n K N S (variable_row {k = k} {K = M} a_function e z c s) = at_function l us rest (build us) (build rest) n k M N S e c s
  build (some l us rest) n K N S (variable_row {k = k} {K = M} a_context e z c s) = at_context l us rest (build us) (build rest) n k M N S e z c s
