-- 01, "Examples": "Those marked P are proved, all in a single table under one statement." The statement is `TableHolds`. The labels are those
-- of 02, #101: the elements g, f, h have 0, 2, 4, the texts a, b 7, 9.
use Rattle.std.specs.Prelude.{ℕ, zero, suc, ◌≤◌, ◌/◌, ◌≡◌, ◌↔◌, List, [], ◌∷◌, length}
use Rattle.meaning.specs.Calls.{Filled}
use Rattle.problem.specs.Problem.{Lists}
use Rattle.meaning.specs.Order.{Mem}
use Rattle.catalogue.specs.Listing.{joined}
use Rattle.lister.specs.Listed.{Listed, Settled}

-- a problem with budget and entries of the lent list, and the answer that 01 gives
pub record Row : Type 0 where
  pub lists : Lists
  pub budget : ℕ
  pub lent : ℕ
  pub ending : ℕ
  pub records : List (List ℕ)
  pub tries : ℕ

-- a list that ends complete is the same with any budget and lent list that are at least so large; one that is cut short is given for
-- this budget, and for every lent list with that room: its length divided by twice the variables, which the constraint list is long
abbrev pub Serves : (ending : ℕ) (row : Row) (budget lent : ℕ) → Type 0
Serves zero row budget lent = (row.budget ≤ budget) × (row.lent ≤ lent)
Serves (suc ending) row budget lent = (budget ≡ row.budget) × (lent / length row.lists.constraint ≡ row.lent / length row.lists.constraint)

-- the lister's promise holds of this answer and this list, and of no other
pub record RowHolds (row : Row) : Type 0 where
  pub exactly : (budget : ℕ) (before : List ℕ) → Serves row.ending row budget (length before)
      → (r : Listed) (after : List ℕ) → Settled row.lists budget before r after
      ↔ ((r ≡ record { code = 0; ending = row.ending; records = length row.records; tries = row.tries }) × Filled (joined row.records) before after)

-- tree, pattern, expressions and constraints of an example
abbrev pub lists : (label size kind name pattern_size expression_kind expression_name expression_size constraint : List ℕ) → Lists
lists L S K N Z E F G C =
    record { label = L; size = S; kind = K; name = N; pattern_size = Z; expression_kind = E; expression_name = F; expression_size = G; constraint = C }

abbrev pub row : (lists : Lists) (budget lent ending : ℕ) (records : List (List ℕ)) (tries : ℕ) → Row
row l b n e r t = record { lists = l; budget = b; lent = n; ending = e; records = r; tries = t }

-- Q, context 0 over f(sequence 1), on T, g(f(a), f, a)
abbrev pub query_on_tree : Lists
query_on_tree = lists (0 ∷ 2 ∷ 7 ∷ 2 ∷ 7 ∷ []) (5 ∷ 2 ∷ 1 ∷ 1 ∷ 1 ∷ []) (4 ∷ 0 ∷ 2 ∷ []) (0 ∷ 2 ∷ 1 ∷ []) (3 ∷ 2 ∷ 1 ∷ []) [] [] [] (0 ∷ 0 ∷ 0 ∷ 0 ∷ [])

-- f(s0, s1) on f(a, a)
abbrev pub two_sequences : Lists
two_sequences = lists (2 ∷ 7 ∷ 7 ∷ []) (3 ∷ 1 ∷ 1 ∷ []) (0 ∷ 2 ∷ 2 ∷ []) (2 ∷ 0 ∷ 1 ∷ []) (3 ∷ 1 ∷ 1 ∷ []) [] [] [] (0 ∷ 0 ∷ 0 ∷ 0 ∷ [])

-- the same, s0 in the choice of a and a
abbrev pub in_choice : Lists
in_choice =
    lists (2 ∷ 7 ∷ 7 ∷ []) (3 ∷ 1 ∷ 1 ∷ []) (0 ∷ 2 ∷ 2 ∷ []) (2 ∷ 0 ∷ 1 ∷ []) (3 ∷ 1 ∷ 1 ∷ []) (3 ∷ 0 ∷ 0 ∷ []) (0 ∷ 7 ∷ 7 ∷ []) (3 ∷ 1 ∷ 1 ∷ [])
    (1 ∷ 0 ∷ 0 ∷ 0 ∷ [])

-- f(s0, s0) on f(a, a)
abbrev pub same_sequence : Lists
same_sequence = lists (2 ∷ 7 ∷ 7 ∷ []) (3 ∷ 1 ∷ 1 ∷ []) (0 ∷ 2 ∷ 2 ∷ []) (2 ∷ 0 ∷ 0 ∷ []) (3 ∷ 1 ∷ 1 ∷ []) [] [] [] (0 ∷ 0 ∷ [])

-- f(s0) on f(a, a), s0 in repetition of empty, flag 1
abbrev pub in_repetition : Lists
in_repetition = lists (2 ∷ 7 ∷ 7 ∷ []) (3 ∷ 1 ∷ 1 ∷ []) (0 ∷ 2 ∷ []) (2 ∷ 0 ∷ []) (2 ∷ 1 ∷ []) (4 ∷ 1 ∷ []) (0 ∷ 0 ∷ []) (2 ∷ 1 ∷ []) (1 ∷ 1 ∷ [])

-- context 0 over (context 0 over a) on f(f(a))
abbrev pub same_context : Lists
same_context = lists (2 ∷ 2 ∷ 7 ∷ []) (3 ∷ 2 ∷ 1 ∷ []) (4 ∷ 4 ∷ 0 ∷ []) (0 ∷ 0 ∷ 7 ∷ []) (3 ∷ 2 ∷ 1 ∷ []) [] [] [] (0 ∷ 0 ∷ [])

-- f(a, s0) on f
abbrev pub no_term_left : Lists
no_term_left = lists (2 ∷ []) (1 ∷ []) (0 ∷ 0 ∷ 2 ∷ []) (2 ∷ 7 ∷ 0 ∷ []) (3 ∷ 1 ∷ 1 ∷ []) [] [] [] (0 ∷ 0 ∷ [])

-- function 0 over individual 1 on f(a)
abbrev pub function_over_individual : Lists
function_over_individual = lists (2 ∷ 7 ∷ []) (2 ∷ 1 ∷ []) (3 ∷ 1 ∷ []) (0 ∷ 1 ∷ []) (2 ∷ 1 ∷ []) [] [] [] (0 ∷ 0 ∷ 0 ∷ 0 ∷ [])

-- a on a
abbrev pub ground : Lists
ground = lists (7 ∷ []) (1 ∷ []) (0 ∷ []) (7 ∷ []) (1 ∷ []) [] [] [] []

-- the examples, in 01's order
abbrev pub table : List Row
table =
    row query_on_tree 8 8 0 ((0 ∷ 1 ∷ 2 ∷ 1 ∷ []) ∷ (0 ∷ 3 ∷ 4 ∷ 0 ∷ []) ∷ []) 8
    ∷ row query_on_tree 4 8 2 ((0 ∷ 1 ∷ 2 ∷ 1 ∷ []) ∷ []) 4
    ∷ row query_on_tree 3 8 2 [] 3
    ∷ row query_on_tree 7 8 2 ((0 ∷ 1 ∷ 2 ∷ 1 ∷ []) ∷ (0 ∷ 3 ∷ 4 ∷ 0 ∷ []) ∷ []) 7
    ∷ row query_on_tree 8 4 1 ((0 ∷ 1 ∷ 2 ∷ 1 ∷ []) ∷ []) 7
    ∷ row two_sequences 9 12 0 ((1 ∷ 0 ∷ 1 ∷ 2 ∷ []) ∷ (1 ∷ 1 ∷ 2 ∷ 1 ∷ []) ∷ (1 ∷ 2 ∷ 3 ∷ 0 ∷ []) ∷ []) 9
    ∷ row in_choice 5 4 0 ((1 ∷ 1 ∷ 2 ∷ 1 ∷ []) ∷ []) 5
    ∷ row same_sequence 3 2 0 ((1 ∷ 1 ∷ []) ∷ []) 3
    ∷ row in_repetition 3 0 0 [] 3
    ∷ row same_context 3 2 0 ((0 ∷ 1 ∷ []) ∷ []) 3
    ∷ row no_term_left 0 0 0 [] 0
    ∷ row function_over_individual 0 4 0 ((0 ∷ 0 ∷ 1 ∷ 0 ∷ []) ∷ []) 0
    ∷ row ground 0 0 0 ([] ∷ []) 0
    ∷ []

abbrev pub TableHolds : Type 0
TableHolds = (r : Row) → Mem r table → RowHolds r
