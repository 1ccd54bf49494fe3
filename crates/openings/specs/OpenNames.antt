-- Not needed to believe the promise: which names of open elements are kept, and that walking back finds the others.
use Rattle.std.specs.Prelude.{◌≡◌, List, [], ◌∷◌, ℕ, zero, suc, ◌+◌, ◌-◌, ◌≤◌, ◌<◌, length, get_or}
use Rattle.grammar.specs.Grammar.{Bytes, less, greater, Content}
use Rattle.grammar.specs.Machine.{Open, in_run, At}
use Rattle.openings.specs.declared.back.Back.{Back}
use Rattle.openings.specs.declared.back.Back.TheVariants.{Start, Empty, End}
use Rattle.grammar.specs.Rows.{#}
use Rattle.tokens.specs.Tokens.{Span, bytes, name_at}

-- the name n stands at a, and a byte of no name behind it
pub record Named (w : List ℕ) (a : ℕ) (n : Bytes) : Type 0 where
  pub is : n ≡ bytes w a (# n)
  pub span : Span (name_at w) w a (a + # n)
  pub behind : a + # n < length w

abbrev pub opened : Content → Bytes → Bytes → Bytes → Open
opened f t n g = record { before = f; run = t; name = n; space = g }

-- WALKING BACK
-- at q the elements o are open
abbrev pub OpenAt : List ℕ → ℕ → List Open → Type 0
OpenAt w q o = (f : Content) × (t : Bytes) × At w q (in_run o f t)

-- .. and there is one
abbrev pub SomeOpen : List ℕ → ℕ → Type 0
SomeOpen w q = (p : Open) × (o : List Open) × OpenAt w q (p ∷ o)

-- p is where the last < before q stands, and s where the first > behind it does, or q
pub record LastMarkup (w : List ℕ) (q p s : ℕ) : Type 0 where
  pub before : p < q
  pub less_there : get_or w p 0 ≡ less
  pub no_less : (k : ℕ) → p < k → k < q → get_or w k 0 ≡ less → ⊥
  pub behind : p < s
  pub up_to : s ≤ q
  pub greater_there : s < q → get_or w s 0 ≡ greater
  pub no_greater : (k : ℕ) → p < k → k < s → get_or w k 0 ≡ greater → ⊥

-- the start tag of p, which the elements o hold, stands at a
abbrev pub TagAt : List ℕ → ℕ → Open → List Open → Type 0
TagAt w a p o = At w a (in_run o p.before p.run)

-- the last tag before q, where the elements o are open, has its < at p: it opened the innermost of them; or was a whole element; or
-- ended one more
pub data TagBefore (w : List ℕ) (q : ℕ) : List Open → Back → Type 0 where
  starts : {x : Open} {o : List Open} {p : ℕ} → p < q → TagAt w p x o → TagBefore w q (x ∷ o) (Start p)
  empty : {o : List Open} {p : ℕ} → p < q → OpenAt w p o → TagBefore w q o (Empty p)
  ends : {o : List Open} {p : ℕ} (x : Open) → p < q → OpenAt w p (x ∷ o) → TagBefore w q o (End p)

-- THE NAMES THAT ARE KEPT
-- the name of p, which the elements o hold, starts at x, directly behind its <
pub record NameFrom (w : List ℕ) (p : Open) (o : List Open) (x : ℕ) : Type 0 where
  pub some : 0 < x
  pub tag : TagAt w (x - 1) p o
  pub named : Named w x p.name

-- each open element has its name somewhere
pub data AllFrom (w : List ℕ) : List Open → Type 0 where
  none_open : AllFrom w []
  one_more : {p : Open} {o : List Open} (x : ℕ) → NameFrom w p o x → AllFrom w o → AllFrom w (p ∷ o)

-- from m up to n names has names of elements that are open in o' and not in o, the outer ones first, some forgotten; and levels, by how
-- many elements each of them is held
pub data Between (w names levels : List ℕ) (o : List Open) (m : ℕ) : List Open → ℕ → Type 0 where
  none_kept : Between w names levels o m o m
  forgotten : {p : Open} {o' : List Open} {n : ℕ} → Between w names levels o m o' n → Between w names levels o m (p ∷ o') n
  kept : {p : Open} {o' : List Open} {n : ℕ} → NameFrom w p o' (get_or names n 0) → get_or levels n 0 ≡ length o' →
      Between w names levels o m o' n → Between w names levels o m (p ∷ o') (suc n)

-- n names of open elements are kept
abbrev pub SomeKept : List ℕ → List ℕ → List ℕ → List Open → ℕ → Type 0
SomeKept w names levels o n = Between w names levels [] 0 o n

-- .. the innermost among them
pub data InnermostKept (w names levels : List ℕ) : List Open → ℕ → Type 0 where
  all_closed : InnermostKept w names levels [] 0
  innermost : {p : Open} {o : List Open} {n : ℕ} → NameFrom w p o (get_or names n 0) → get_or levels n 0 ≡ length o →
      SomeKept w names levels o n → InnermostKept w names levels (p ∷ o) (suc n)

-- THE LISTS THEY ARE KEPT IN
pub record Keeping (names levels : List ℕ) (kept : ℕ) : Type 0 where
  pub names_long : length names ≡ 64
  pub levels_long : length levels ≡ 64
  pub few : kept ≤ 64

-- all are places of a document
pub record LowNames (names : List ℕ) : Type 0 where
  pub low : (k : ℕ) → k < 64 → get_or names k 0 ≤ 32768

-- of the first 48 names one stays for each block, the others stay
pub record Stays (j block count block' : ℕ) : Type 0 where
  pub few : count ≤ 1
  pub low : block' ≤ 32
  pub outer : j < 48 → count + block ≤ block'
  pub inner : 48 ≤ j → block' ≡ block

-- some are still kept, so that there is room for one more
pub record Spared (names levels : List ℕ) (kept : ℕ) (names' levels' : List ℕ) (r : ℕ) : Type 0 where
  pub keeping : Keeping names' levels' r
  pub room : r < 64
  pub still : (w : List ℕ) (o : List Open) → SomeKept w names levels o kept → SomeKept w names' levels' o r

-- AN ELEMENT OPENS, which depth others hold
pub record OpenedOne (names levels : List ℕ) (kept depth name : ℕ) (names' levels' : List ℕ) (r : ℕ) : Type 0 where
  pub keeping : Keeping names' levels' r
  pub it : (w : List ℕ) (p : Open) (o : List Open) → SomeKept w names levels o kept → NameFrom w p o name → depth ≡ length o →
      InnermostKept w names' levels' (p ∷ o) r

-- FINDING NAMES AGAIN
-- the elements o are open at q, so many, each with its name
pub record AllOpen (w : List ℕ) (q depth : ℕ) (o : List Open) : Type 0 where
  pub here : OpenAt w q o
  pub deep : length o ≡ depth
  pub all : AllFrom w o

-- names may be put below top, down to bottom, and there are as many
pub record MayFind (w names levels : List ℕ) (from depth bottom top : ℕ) : Type 0 where
  pub keeping : Keeping names levels top
  pub near : from ≤ 32768
  pub shallow : depth < 65536
  pub ordered : bottom ≤ top
  pub enough : top ≤ depth + bottom
  pub o : List Open
  pub all_open : AllOpen w from depth o

-- from bottom up to top stand the names of the innermost open elements, of which r are the others; those below are as they were
pub record FoundAgain (w names levels : List ℕ) (bottom top depth : ℕ) (o : List Open) (names' levels' : List ℕ) : Type 0 where
  pub r : List Open
  pub many : length r + top ≡ depth + bottom
  pub found : Between w names' levels' r bottom o top
  pub same : (k : ℕ) → k < bottom → (get_or names' k 0 ≡ get_or names k 0) × (get_or levels' k 0 ≡ get_or levels k 0)

pub record Finds (w names levels : List ℕ) (from depth bottom top : ℕ) (names' levels' : List ℕ) : Type 0 where
  pub keeping : Keeping names' levels' top
  pub each : (o : List Open) → AllOpen w from depth o → FoundAgain w names levels bottom top depth o names' levels'

-- so many elements there are up to the innermost whose name is kept, and with it
abbrev pub reaches : List ℕ → ℕ → ℕ
reaches levels zero = 0
reaches levels (suc n) = get_or levels n 0 + 1

-- AN ELEMENT ENDS, p, so that the elements o are open
pub record ElementEnds (w names levels : List ℕ) (n depth : ℕ) (p : Open) (o : List Open) : Type 0 where
  pub kept : InnermostKept w names levels (p ∷ o) n
  pub all : AllFrom w o
  pub deep : length o ≡ depth

pub record MayClose (w names levels : List ℕ) (kept depth : ℕ) : Type 0 where
  pub keeping : Keeping names levels kept
  pub shallow : depth < 65536
  pub short : length w ≤ 32768
  pub p : Open
  pub o : List Open
  pub ending : ElementEnds w names levels kept depth p o

pub record ClosedOne (w names levels : List ℕ) (kept depth : ℕ) (names' levels' : List ℕ) (r : ℕ) : Type 0 where
  pub keeping : Keeping names' levels' r
  pub it : (p : Open) (o : List Open) → ElementEnds w names levels kept depth p o → InnermostKept w names' levels' o r
