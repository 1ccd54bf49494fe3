-- 01, "Patterns and constraints": "A pattern is three lists: kind (0 symbol, 1 individual, 2 sequence, 3 function variable, 4
-- context variable), name, size." They are the rows of a tree whose every row has a kind and a name.
use Rattle.std.specs.Prelude.{ℕ, ◌≤◌, List, ◌≡◌, length}
use Rattle.meaning.specs.Forest.{Forest, none, some, Term, term, ◌◂◌}
use Rattle.meaning.specs.Pattern.{Pattern, symbol, individual, function, context, Patterns, nil, cons, sequence, Kind, an_individual, a_sequence, a_function, a_context, Numbered}
use Rattle.tree.specs.Rows.{labels, sizes, depth, Below}

-- the number of each kind of variable; that of a symbol is 0
abbrev pub code : Kind → ℕ
code an_individual = 1
code a_sequence = 2
code a_function = 3
code a_context = 4

-- the tree of a pattern; w chooses what is written on a row, of its kind and its name
unfoldable mutual
  pub tree_t : (ℕ → ℕ → ℕ) → Pattern → Term
  tree_t w (symbol f ps) = term (w 0 f) (tree_f w ps)
  tree_t w (individual x) = term (w (code an_individual) x) none
  tree_t w (function x ps) = term (w (code a_function) x) (tree_f w ps)
  tree_t w (context x q) = term (w (code a_context) x) (tree_t w q ◂ none)

  pub tree_f : (ℕ → ℕ → ℕ) → Patterns → Forest
  tree_f w nil = none
  tree_f w (cons q ps) = tree_t w q ◂ tree_f w ps
  tree_f w (sequence x ps) = some (w (code a_sequence) x) none (tree_f w ps)

abbrev pub the_kind : ℕ → ℕ → ℕ
the_kind k x = k

abbrev pub the_name : ℕ → ℕ → ℕ
the_name k x = x

-- 01, "Numbers and order of checks": "Pattern: the same with 1 to 256 rows, at most 16 variables, symbols below 65,536." The rules
-- of "Patterns and constraints" on sizes, contexts and the root say: the rows of a pattern term; those on numbers: Numbered.
-- The lists are the rows of P, within the limits, and Q has the kinds of P's variables, by number. A variable's name is its number.
pub record GoodPattern (kind name size : List ℕ) (P : Pattern) (Q : List Kind) : Type 0 where
  pub kinds : kind ≡ labels (tree_t the_kind P ◂ none)
  pub names : name ≡ labels (tree_t the_name P ◂ none)
  pub sized : size ≡ sizes (tree_t the_name P ◂ none)
  pub few : length kind ≤ 256
  pub shallow : depth (tree_t the_name P ◂ none) ≤ 64
  pub small : Below 65536 name
  pub numbered : Numbered P Q
  pub bounded : length Q ≤ 16

-- the pattern is good: it is the rows of some pattern term within the limits
abbrev pub GoodPatternRows : List ℕ → List ℕ → List ℕ → Type 0
GoodPatternRows kind name size = (P : Pattern) × (Q : List Kind) × GoodPattern kind name size P Q
