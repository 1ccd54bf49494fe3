-- 01, "Patterns and constraints": what a pattern is, and how its variables are numbered.
use Rattle.std.specs.Prelude.{ℕ, zero, suc, ◌≤◌, max, ◌≡◌, List, [], ◌∷◌, length}

-- a pattern term, and a list of arguments. That a context has one argument, that this is no sequence variable, and that the
-- root is none either, is built in: a sequence variable stands in argument lists alone.
mutual
  pub data Pattern : Type 0 where
    symbol : (f : ℕ) (ps : Patterns) → Pattern
    individual : (x : ℕ) → Pattern
    function : (x : ℕ) (ps : Patterns) → Pattern
    context : (x : ℕ) (q : Pattern) → Pattern

  pub data Patterns : Type 0 where
    nil : Patterns
    cons : (q : Pattern) (ps : Patterns) → Patterns
    sequence : (x : ℕ) (ps : Patterns) → Patterns

-- the kinds of variables
pub data Kind : Type 0 where
  an_individual a_sequence a_function a_context : Kind

-- the place x of a list: what stands there; or it is the place right behind the list; or it lies beyond
pub data Look (A : Type 0) : Type 0 where
  old : A → Look A
  new : Look A
  wrong : Look A

abbrev pub look : {A : Type 0} → List A → ℕ → Look A
look [] zero = new
look [] (suc x) = wrong
look (a ∷ l) zero = old a
look (a ∷ l) (suc x) = look l x

-- where n variables have appeared, x is one of them or the next, and Q gives it the kind k
pub record Comes (Q : List Kind) (x : ℕ) (k : Kind) (n : ℕ) : Type 0 where
  pub near : x ≤ n
  pub kept : look Q x ≡ old k

-- how many variables have appeared after x, and after a part of the pattern
abbrev pub after : ℕ → ℕ → ℕ
after x n = max n (suc x)

unfoldable mutual
  pub after_t : Pattern → ℕ → ℕ
  after_t (symbol f ps) n = after_f ps n
  after_t (individual x) n = after x n
  after_t (function x ps) n = after_f ps (after x n)
  after_t (context x q) n = after_t q (after x n)

  pub after_f : Patterns → ℕ → ℕ
  after_f nil n = n
  after_f (cons q ps) n = after_f ps (after_t q n)
  after_f (sequence x ps) n = after_f ps (after x n)

-- numbered 0, 1, .. by first appearance over all kinds, one kind a number, where n variables have appeared before
unfoldable mutual
  pub GoodT : List Kind → Pattern → ℕ → Type 0
  GoodT Q (symbol f ps) n = GoodF Q ps n
  GoodT Q (individual x) n = Comes Q x an_individual n
  GoodT Q (function x ps) n = Comes Q x a_function n × GoodF Q ps (after x n)
  GoodT Q (context x q) n = Comes Q x a_context n × GoodT Q q (after x n)

  pub GoodF : List Kind → Patterns → ℕ → Type 0
  GoodF Q nil n = Unit {0}
  GoodF Q (cons q ps) n = GoodT Q q n × GoodF Q ps (after_t q n)
  GoodF Q (sequence x ps) n = Comes Q x a_sequence n × GoodF Q ps (after x n)

-- the pattern is numbered so, and Q lists the kinds of its variables
pub record Numbered (P : Pattern) (Q : List Kind) : Type 0 where
  pub numbered : GoodT Q P 0
  pub all : after_t P 0 ≡ length Q
