-- What the lists of the examples mean: their trees, patterns, expressions and constraints.
use Prim.Native.Nat.{ℕ, zero, suc, ◌≤◌, ◌<◌}
use mathlib.Core.Path.{◌≡◌, refl}
use mathlib.Core.List.{List, [], ◌∷◌}
use lib.ListN.{length, get_or}
use native.Mathlib.Omega.{arith}
use Rattle.meaning.specs.Forest.{none, some, Term, term, ◌◂◌, rows}
use Rattle.meaning.proofs.Lists.{Each, each_at}
use Rattle.meaning.specs.Pattern.{Pattern, symbol, individual, function, context, nil, cons, sequence, Kind, an_individual, a_sequence, a_function, a_context, old, look, Comes, GoodT, GoodF, after_t, after_f}
use Rattle.tree.specs.Rows.{labels, sizes, depth, Below, GoodTree}
use Rattle.pattern.specs.Rows.{tree_t, tree_f, GoodPattern}
use Rattle.pattern.specs.Lists.{kind_rows, name_rows, size_rows, name_tree}
use Rattle.expression.specs.Expression.{Expression, choice, repetition}
use Rattle.expression.specs.Expression as E
use Rattle.expression.specs.Rows.{GoodTable}
use Rattle.constraint.specs.Obeys.{Constraint, free, bound}
use Rattle.constraint.specs.Good.{GoodConstraints, all_given, none_given, one_given}
use Rattle.constraint.proofs.Names.{none_forgotten, one_named}
use Rattle.problem.specs.Problem.{Poses}
use Rattle.promises.specs.Table.{query_on_tree, two_sequences, in_choice, same_sequence, in_repetition, same_context, no_term_left, function_over_individual, ground}

no_label : Below 65536 []
no_label = record { each = λ i h. absurd (omega arith) }

one_label : {x : ℕ} {xs : List ℕ} → x < 65536 → Below 65536 xs → Below 65536 (x ∷ xs)
one_label {x} {xs} h b = record { each = go }
  where
    go : (i : ℕ) → i < length (x ∷ xs) → get_or (x ∷ xs) i 0 < 65536
    go zero l = h
    go (suc i) l = b.each i (omega arith)

-- the examples' trees have at most five rows
good_tree_lem : {L S : List ℕ} {T : Term} → L ≡ labels (T ◂ none) → S ≡ sizes (T ◂ none) → length L ≤ 5 → depth (T ◂ none) ≤ 5 → Below 65536 L → GoodTree L S T
good_tree_lem p q h d b = record { labelled = p; sized = q; few = omega arith; shallow = omega arith; small = b }

-- .. and their patterns at most three, with at most two variables
good_pattern_lem : {K N Z : List ℕ} {P : Pattern} {Q : List Kind} → K ≡ kind_rows P → N ≡ name_rows P → Z ≡ size_rows P → length K ≤ 3 → depth (name_tree P) ≤ 3
    → Each 65536 N → GoodT Q P 0 → after_t P 0 ≡ length Q → length Q ≤ 2 → GoodPattern K N Z P Q
good_pattern_lem {N = N} p q r h d s g e b = record { kinds = p; names = q; sized = r; few = omega arith; shallow = omega arith; small = record { each = each_at 65536 N s }; numbered = record { numbered = g; all = e }; bounded = omega arith }

comes : {Q : List Kind} {x : ℕ} {k : Kind} {n : ℕ} → x ≤ n → look Q x ≡ old k → Comes Q x k n
comes h e = record { near = h; kept = e }

no_table : GoodTable [] [] [] []
no_table = record { kinds = refl; names = refl; sizes = refl; most = omega arith; small = λ i h. absurd (omega arith) }

-- without expressions no variable is constrained
poses : {L S K N Z C : List ℕ} {T : Term} {P : Pattern} {Q : List Kind} {cs : List Constraint} → GoodTree L S T → GoodPattern K N Z P Q → GoodConstraints [] Q C cs
    → Poses (record { label = L; size = S; kind = K; name = N; pattern_size = Z; expression_kind = []; expression_name = []; expression_size = []; constraint = C }) T P Q [] cs
poses {C = C} t p c = record { tree = t; rest = record { pattern = p; table = no_table; constraints = c }; named = none_forgotten C }

-- g(f(a), f, a), and Q
abbrev pub tree : Term
tree = term 0 (some 2 (some 7 none none) (some 2 none (some 7 none none)))

abbrev pub query : Pattern
query = context 0 (symbol 2 (sequence 1 nil))

pub query_on_tree_lem : Poses query_on_tree tree query (a_context ∷ a_sequence ∷ []) [] (free ∷ free ∷ [])
unfolding labels sizes rows depth tree_t tree_f GoodT GoodF after_t after_f
query_on_tree_lem =
    poses
    (good_tree_lem refl refl (omega arith) (omega arith)
    (one_label (omega arith) (one_label (omega arith) (one_label (omega arith) (one_label (omega arith) (one_label (omega arith) no_label))))))
    (good_pattern_lem refl refl refl (omega arith) (omega arith) (omega arith, (omega arith, (omega arith, tt))) (comes (omega arith) refl, (comes (omega arith) refl, tt)) refl (omega arith))
    (none_given (none_given all_given))

-- f(a, a)
abbrev pub two_leaves : Term
two_leaves = term 2 (some 7 none (some 7 none none))

pub two_leaves_lem : GoodTree (2 ∷ 7 ∷ 7 ∷ []) (3 ∷ 1 ∷ 1 ∷ []) two_leaves
unfolding labels sizes rows depth
two_leaves_lem = good_tree_lem refl refl (omega arith) (omega arith) (one_label (omega arith) (one_label (omega arith) (one_label (omega arith) no_label)))

-- f(s0, s1), f(s0, s0) and f(s0)
abbrev pub both : Pattern
both = symbol 2 (sequence 0 (sequence 1 nil))

good_both : GoodPattern (0 ∷ 2 ∷ 2 ∷ []) (2 ∷ 0 ∷ 1 ∷ []) (3 ∷ 1 ∷ 1 ∷ []) both (a_sequence ∷ a_sequence ∷ [])
unfolding labels sizes rows depth tree_t tree_f GoodT GoodF after_t after_f
good_both = good_pattern_lem refl refl refl (omega arith) (omega arith) (omega arith, (omega arith, (omega arith, tt))) (comes (omega arith) refl, (comes (omega arith) refl, tt)) refl (omega arith)

pub two_sequences_lem : Poses two_sequences two_leaves both (a_sequence ∷ a_sequence ∷ []) [] (free ∷ free ∷ [])
two_sequences_lem = poses two_leaves_lem good_both (none_given (none_given all_given))

abbrev pub letter : Expression
letter = choice (E.symbol 7) (E.symbol 7)

pub in_choice_lem : Poses in_choice two_leaves both (a_sequence ∷ a_sequence ∷ []) (letter ∷ []) (bound letter 0 ∷ free ∷ [])
in_choice_lem =
    record {
      tree = two_leaves_lem;
      rest =
          record {
            pattern = good_both;
            table = record { kinds = refl; names = refl; sizes = refl; most = omega arith; small = each_at 65536 (0 ∷ 7 ∷ 7 ∷ []) (omega arith, (omega arith, (omega arith, tt))) };
            constraints = one_given {flag = 0} tt (record { before = []; behind = []; among = refl; place = refl }) (omega arith) (none_given all_given);
          };
      named = one_named letter (1 ∷ 0 ∷ 0 ∷ 0 ∷ []) 0 refl;
    }

abbrev pub twice : Pattern
twice = symbol 2 (sequence 0 (sequence 0 nil))

pub same_sequence_lem : Poses same_sequence two_leaves twice (a_sequence ∷ []) [] (free ∷ [])
unfolding labels sizes rows depth tree_t tree_f GoodT GoodF after_t after_f
same_sequence_lem =
    poses two_leaves_lem
    (good_pattern_lem refl refl refl (omega arith) (omega arith) (omega arith, (omega arith, (omega arith, tt))) (comes (omega arith) refl, (comes (omega arith) refl, tt)) refl (omega arith))
    (none_given all_given)

abbrev pub once : Pattern
once = symbol 2 (sequence 0 nil)

pub good_once : GoodPattern (0 ∷ 2 ∷ []) (2 ∷ 0 ∷ []) (2 ∷ 1 ∷ []) once (a_sequence ∷ [])
unfolding labels sizes rows depth tree_t tree_f GoodT GoodF after_t after_f
good_once = good_pattern_lem refl refl refl (omega arith) (omega arith) (omega arith, (omega arith, tt)) (comes (omega arith) refl, tt) refl (omega arith)

abbrev pub nothing : Expression
nothing = repetition E.empty

pub in_repetition_lem : Poses in_repetition two_leaves once (a_sequence ∷ []) (nothing ∷ []) (bound nothing 1 ∷ [])
in_repetition_lem =
    record {
      tree = two_leaves_lem;
      rest =
          record {
            pattern = good_once;
            table = record { kinds = refl; names = refl; sizes = refl; most = omega arith; small = each_at 65536 (0 ∷ 0 ∷ []) (omega arith, (omega arith, tt)) };
            constraints = one_given {flag = 1} tt (record { before = []; behind = []; among = refl; place = refl }) (omega arith) all_given;
          };
      named = one_named nothing (1 ∷ 1 ∷ []) 0 refl;
    }

-- f(f(a)), and context 0 over (context 0 over a)
abbrev pub nested : Term
nested = term 2 (some 2 (some 7 none none) none)

abbrev pub twice_around : Pattern
twice_around = context 0 (context 0 (symbol 7 nil))

pub same_context_lem : Poses same_context nested twice_around (a_context ∷ []) [] (free ∷ [])
unfolding labels sizes rows depth tree_t tree_f GoodT GoodF after_t after_f
same_context_lem =
    poses (good_tree_lem refl refl (omega arith) (omega arith) (one_label (omega arith) (one_label (omega arith) (one_label (omega arith) no_label))))
    (good_pattern_lem refl refl refl (omega arith) (omega arith) (omega arith, (omega arith, (omega arith, tt))) (comes (omega arith) refl, (comes (omega arith) refl, tt)) refl (omega arith))
    (none_given all_given)

-- f, and f(a, s0)
abbrev pub leaf : Term
leaf = term 2 none

abbrev pub behind : Pattern
behind = symbol 2 (cons (symbol 7 nil) (sequence 0 nil))

pub no_term_left_lem : Poses no_term_left leaf behind (a_sequence ∷ []) [] (free ∷ [])
unfolding labels sizes rows depth tree_t tree_f GoodT GoodF after_t after_f
no_term_left_lem =
    poses (good_tree_lem refl refl (omega arith) (omega arith) (one_label (omega arith) no_label))
    (good_pattern_lem refl refl refl (omega arith) (omega arith) (omega arith, (omega arith, (omega arith, tt))) (tt, (comes (omega arith) refl, tt)) refl (omega arith))
    (none_given all_given)

-- f(a), and function 0 over individual 1
abbrev pub applied : Term
applied = term 2 (some 7 none none)

abbrev pub any_applied : Pattern
any_applied = function 0 (cons (individual 1) nil)

pub function_over_individual_lem : Poses function_over_individual applied any_applied (a_function ∷ an_individual ∷ []) [] (free ∷ free ∷ [])
unfolding labels sizes rows depth tree_t tree_f GoodT GoodF after_t after_f
function_over_individual_lem =
    poses (good_tree_lem refl refl (omega arith) (omega arith) (one_label (omega arith) (one_label (omega arith) no_label)))
    (good_pattern_lem refl refl refl (omega arith) (omega arith) (omega arith, (omega arith, tt)) (comes (omega arith) refl, (comes (omega arith) refl, tt)) refl (omega arith))
    (none_given (none_given all_given))

-- a
abbrev pub letter_a : Term
letter_a = term 7 none

pub is_ground : Poses ground letter_a (symbol 7 nil) [] [] []
unfolding labels sizes rows depth tree_t tree_f GoodT GoodF after_t after_f
is_ground =
    poses (good_tree_lem refl refl (omega arith) (omega arith) (one_label (omega arith) no_label))
    (good_pattern_lem refl refl refl (omega arith) (omega arith) (omega arith, tt) tt refl (omega arith)) all_given
