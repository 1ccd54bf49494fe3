-- The deterministic walk.
use Prim.Native.Nat.{ℕ, ◌+◌, ◌-◌}
use mathlib.Core.List.{List, [], ◌∷◌, ◌++◌}
use native.Mathlib.Decide.{ℕ_discrete, dec_le}
use Rattle.meaning.specs.Forest.{Forest, none, some, Forest-discrete, Term, term, rows, terms, size, Context-discrete}
use Rattle.meaning.specs.Read.{take_t, cut, values, span}
use Rattle.meaning.proofs.Laws.{drop_t}
use Rattle.meaning.specs.Pattern.{Pattern, symbol, individual, function, context, Patterns, nil, cons, sequence, Look, old, new, wrong, look}
use Rattle.meaning.specs.Matcher.{Value, of_individual, of_sequence, of_function, of_context, Value-discrete}
use Rattle.meaning.specs.Record.{Entry, entry}

-- whether two values are one, by structure
abbrev pub same? : Discrete Value
same? = Value-discrete ℕ_discrete (Forest-discrete ℕ_discrete) (Context-discrete ℕ_discrete (Forest-discrete ℕ_discrete))

pub data Res : Type 0 where
  fail : Res
  need : (bound : List Entry) (start lo hi : ℕ) → Res
  ok : (bound : List Entry) (left : List ℕ) → Res

abbrev pub when : {A : Type 0} → Dec A → Res → Res
when (yes a) r = r
when (no n) r = fail

abbrev pub and_then : Res → (List Entry → List ℕ → Res) → Res
and_then fail k = fail
and_then (need B s lo hi) k = need B s lo hi
and_then (ok B cs) k = k B cs

-- at the root: choices that are not asked for are too many
abbrev pub over : Res → Res
over fail = fail
over (need B s lo hi) = need B s lo hi
over (ok B []) = ok B []
over (ok B (c ∷ cs)) = fail

module _ (Allowed : ℕ → Value → Type 0) (allowed? : (x : ℕ) (v : Value) → Dec (Allowed x v)) where
  -- the variable x comes to stand for v, at the row t
  abbrev pub met : Look Value → ℕ → Value → ℕ → List Entry → List ℕ → Res
  met (old w) x v t B cs = when (same? w v) (ok B cs)
  met new x v t B cs = when (allowed? x v) (ok (B ++ (entry v t ∷ [])) cs)
  met wrong x v t B cs = fail

  abbrev pub meet : ℕ → Value → ℕ → List Entry → List ℕ → Res
  meet x v t B cs = met (look (values B) x) x v t B cs

  -- the variable x comes to stand for one of the values g d, lo + d ≤ hi: at first a choice says for which, later its value does
  abbrev pub chosen : Look Value → List ℕ → ℕ → ℕ → ℕ → ℕ → (ℕ → Value) → List Entry → (ℕ → List Entry → List ℕ → Res) → Res
  chosen (old w) cs x lo hi t g B k = when (same? w (g (span w))) (k (span w) B cs)
  chosen new [] x lo hi t g B k = need B t lo hi
  chosen new (c ∷ cs) x lo hi t g B k =
      when (dec_le lo c) (when (dec_le c hi) (when (allowed? x (g (c - lo))) (k (c - lo) (B ++ (entry (g (c - lo)) t ∷ [])) cs)))
  chosen wrong cs x lo hi t g B k = fail

  abbrev pub choose : ℕ → ℕ → ℕ → ℕ → (ℕ → Value) → List Entry → List ℕ → (ℕ → List Entry → List ℕ → Res) → Res
  choose x lo hi t g B cs k = chosen (look (values B) x) cs x lo hi t g B k

  unfoldable mutual
    pub walk_t : Pattern → Term → ℕ → List Entry → List ℕ → Res
    walk_t (symbol f ps) T t B cs = when (ℕ_discrete f T.label) (walk_f ps T.args (t + 1) B cs)
    walk_t (individual x) T t B cs = meet x (of_individual T.label T.args) t B cs
    walk_t (function x ps) T t B cs = and_then (meet x (of_function T.label) t B cs) (λ B' cs'. walk_f ps T.args (t + 1) B' cs')
    walk_t (context x q) T t B cs =
        choose x t (t + rows T.args) t (λ d. of_context (cut T d).around) B cs (λ d B' cs'. walk_t q (cut T d).at (t + d) B' cs')

    pub walk_f : Patterns → Forest → ℕ → List Entry → List ℕ → Res
    walk_f nil none t B cs = ok B cs
    walk_f nil (some l us rest) t B cs = fail
    walk_f (cons q ps) none t B cs = fail
    walk_f (cons q ps) (some l us rest) t B cs =
        and_then (walk_t q (term l us) t B cs) (λ B' cs'. walk_f ps rest (t + size (term l us)) B' cs')
    walk_f (sequence x ps) us t B cs =
        choose x 0 (terms us) t (λ d. of_sequence (take_t d us)) B cs (λ d B' cs'. walk_f ps (drop_t d us) (t + rows (take_t d us)) B' cs')

  abbrev pub walk : Pattern → Term → List ℕ → Res
  walk P T cs = over (walk_t P T 0 [] cs)
