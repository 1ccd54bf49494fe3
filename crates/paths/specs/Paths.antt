-- Not needed to believe the promise: what is remembered of the path of a context variable, so that the next hole reads only the labels
-- that are new to it.
use Rattle.std.specs.Prelude.{ℕ, ◌+◌, ◌<◌, ◌≤◌, ◌≡◌, Bool, false, List, ◌++◌, Some, length, get_or}
use Rattle.meaning.specs.Forest.{Context}
use Rattle.tree.specs.Places.{ContextAt}
use Rattle.tree.specs.Helpers.{ChildPre, Ahead}
use Rattle.constraint.specs.Obeys.{path}
use Rattle.constraint.specs.Reading.{PathPre, After}
use Rattle.paths.specs.declared.Place.{Place}
use Rattle.paths.specs.declared.Path.{Path}
use Rattle.letters.specs.declared.Tables.{Tables}

-- every path from the row a into the term at the row r goes by the word to r
pub record Through (L S : List ℕ) (a r : ℕ) (word : List ℕ) : Type 0 where
  pub is : (b : ℕ) (c : Context) → r ≤ b → b < r + get_or S r 0 → ContextAt L S a b c → (d : Context) × ContextAt L S r b d × (path c ≡ word ++ path d)

-- the child of r that holds a row from u on is not before u
pub record From (S : List ℕ) (r u : ℕ) : Type 0 where
  pub is : (b : ℕ) → u ≤ b → Ahead S r b u

-- a place of the path: its row, the state before its label is read, and the child from which on the next row is looked for
pub record Entry (L S : List ℕ) (tables : Tables) (root a : ℕ) (here : Place) : Type 0 where
  pub word : List ℕ
  pub through : Through L S a here.row word
  pub after : After tables root word here.state.next here.state.end
  pub from : From S here.row here.child
  pub inside : here.row < length S

-- the place i of a path
abbrev pub place_in : Path → ℕ → Place
place_in P i = get_or P.places i (record { row = 0; state = record { next = 0; end = false }; child = 0 })

-- the places up to m are those of a path from the row a
pub record Places (L S : List ℕ) (tables : Tables) (root a : ℕ) (P : Path) (m : ℕ) : Type 0 where
  pub long : length P.places ≡ 64
  pub few : m < 64
  pub starts : (place_in P 0).row ≡ a
  pub each : (i : ℕ) → i ≤ m → Entry L S tables root a (place_in P i)

-- roots has the row of each choice's expression
pub record Remembers (L S : List ℕ) (tables : Tables) (roots : ℕ → ℕ) (P : Path) : Type 0 where
  pub long : length P.places ≡ 64
  pub is : (x : ℕ) → P.choice ≡ Some x → Places L S tables (roots x) P.start P P.depth

-- Place::new: no child is looked at yet
abbrev pub new_place : (row next : ℕ) → Bool → Place
new_place row next end = record { row = row; state = record { next = next; end = end }; child = row + 1 }

-- child: the child of the row that holds b, not before from
pub record ChildFromPre (S : List ℕ) (row from b : ℕ) : Type 0 where
  pub below : ChildPre S row b
  pub ahead : From S row from

pub record ChildFromPost (S : List ℕ) (row b u : ℕ) : Type 0 where
  pub ahead : From S row u
  pub low : u ≤ b
  pub high : b < u + get_or S u 0
  pub later : row < u
  pub ends : u + get_or S u 0 ≤ row + get_or S row 0

-- holding: the last place whose row's term has the row b; the first has it
pub record HoldingPre (S : List ℕ) (P : Path) (m : ℕ) : Type 0 where
  pub long : length P.places ≡ 64
  pub few : m < 64
  pub rows : (i : ℕ) → i ≤ m → (place_in P i).row < length S

pub record HoldingPost (S : List ℕ) (P : Path) (m b i : ℕ) : Type 0 where
  pub few : i ≤ m
  pub holds : 0 < i → ((place_in P i).row ≤ b) × (b < (place_in P i).row + get_or S ((place_in P i).row) 0)

-- the place i is on the path to the row b
pub record Standing (L S : List ℕ) (tables : Tables) (root x a b : ℕ) (P : Path) (i : ℕ) : Type 0 where
  pub places : Places L S tables root a P i
  pub its : P.choice ≡ Some x
  pub start : P.start ≡ a
  pub low : (place_in P i).row ≤ b
  pub high : b < (place_in P i).row + get_or S ((place_in P i).row) 0

-- recall: the place from which on the path to the row b is read
pub record RecallPre (S : List ℕ) (tables : Tables) (root x a b : ℕ) (P : Path) : Type 0 where
  pub few : x < 256
  pub small : a < 4294967296
  pub some : (L : List ℕ) × (roots : ℕ → ℕ) × PathPre L S root a b × (root ≡ roots x) × Remembers L S tables roots P

pub record RecallPost (S : List ℕ) (tables : Tables) (root x a b : ℕ) (P : Path) (i : ℕ) (P' : Path) : Type 0 where
  pub is : (L : List ℕ) (roots : ℕ → ℕ) → PathPre L S root a b → root ≡ roots x → Remembers L S tables roots P
      → Standing L S tables root x a b P' i

-- accepted: whether the labels on the path from the row a to the row b are a word of the expression at the row root
pub record AcceptedPre (L S : List ℕ) (tables : Tables) (root x a b : ℕ) (P : Path) : Type 0 where
  pub path : PathPre L S root a b
  pub few : x < 256
  pub small : length L < 4294967296
  pub some : (roots : ℕ → ℕ) × (root ≡ roots x) × Remembers L S tables roots P

pub record AcceptedPost (L S : List ℕ) (tables : Tables) (root x a b : ℕ) (end : Bool) (P : Path) : Type 0 where
  pub next : ℕ
  pub after : (c : Context) → ContextAt L S a b c → After tables root (path c) next end
  pub remembers : (roots : ℕ → ℕ) → root ≡ roots x → Remembers L S tables roots P
