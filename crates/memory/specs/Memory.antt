-- Not needed to believe the promise: what is remembered of the readings of the choices' sequences, so that a choice that grows by
-- one term reads one more letter; and of the last context's path.
use Rattle.std.specs.Prelude.{ℕ, ◌+◌, ◌*◌, ◌<◌, ◌≤◌, ◌≡◌, Bool, List, Option, Some, None, length, get_or, set}
use Rattle.constraint.specs.Reading.{HeadsPre, ReadTo, ObeysPre, ObeysPost}
use Rattle.paths.specs.Paths as paths
use Rattle.paths.specs.declared.Path.{Path}
use Rattle.walk.specs.Packed.{root_of}
use Rattle.memory.specs.declared.Kept.{Kept}
use Rattle.memory.specs.declared.Memory.{Memory}
use Rattle.letters.specs.declared.Tables.{Tables}

-- what is kept of the choice x
abbrev pub kept_of : Memory → ℕ → Option Kept
kept_of memory x = get_or memory.kept x None

-- .. is a reading from the row where it began on
pub record Read (L S : List ℕ) (tables : Tables) (root : ℕ) (memory : Memory) (x : ℕ) : Type 0 where
  pub is : (k : Kept) → kept_of memory x ≡ Some k → ReadTo L S tables root k.start k.count k.row k.state.next k.state.end

-- roots has the row of each choice's expression
pub record Remembers (L S : List ℕ) (tables : Tables) (roots : ℕ → ℕ) (memory : Memory) : Type 0 where
  pub long : length memory.kept ≡ 256
  pub each : (x : ℕ) → x < 256 → Read L S tables (roots x) memory x

-- what is remembered of sequences and of a path
pub record Both (L S : List ℕ) (tables : Tables) (roots : ℕ → ℕ) (memory : Memory) (path : Path) : Type 0 where
  pub sequences : Remembers L S tables roots memory
  pub contexts : paths.Remembers L S tables roots path

-- the reading of x is replaced
abbrev pub kept : Memory → (x row a count next : ℕ) → Bool → Memory
kept memory x row a count next end =
    record { kept = set memory.kept x (Some (record { start = a; count = count; row = row; state = record { next = next; end = end } })) }

pub record RecallPre (root : ℕ) (memory : Memory) (x : ℕ) : Type 0 where
  pub low : root < 64
  pub few : x < 256
  pub long : length memory.kept ≡ 256

-- a reading of at most b heads from the row a on: the one that is remembered, or none yet
pub record RecallPost (tables : Tables) (root : ℕ) (memory : Memory) (x a b row next count : ℕ) (end : Bool) : Type 0 where
  pub most : count ≤ b
  pub is : (L S : List ℕ) → Read L S tables root memory x → ReadTo L S tables root a count row next end

-- the choice x, whose expression starts at the row root, has so many neighbours from the row a on
pub record GrownPre (L S : List ℕ) (tables : Tables) (root x a b : ℕ) (memory : Memory) : Type 0 where
  pub heads : HeadsPre L S root a b
  pub few : x < 256
  pub some : (roots : ℕ → ℕ) × (root ≡ roots x) × Remembers L S tables roots memory

pub record GrownPost (L S : List ℕ) (tables : Tables) (root x a b : ℕ) (before : Memory) (end : Bool) (memory : Memory) : Type 0 where
  pub row : ℕ
  pub next : ℕ
  pub read : (roots : ℕ → ℕ) → root ≡ roots x → Remembers L S tables roots before → ReadTo L S tables root a b row next end
  pub remembers : (roots : ℕ → ℕ) → root ≡ roots x → Remembers L S tables roots before → Remembers L S tables roots memory

-- the value that the numbers a and b mean is judged by the constraint of the choice p
pub record GrowPre (L S M : List ℕ) (tables : Tables) (p a b : ℕ) (memory : Memory) (path : Path) : Type 0 where
  pub asked : ObeysPre L S (get_or M (6 * p + 4) 0) (get_or M (6 * p + 5) 0) (get_or M (6 * p) 0) a b
  pub few : p < 256
  pub small : length L < 4294967296
  pub remembers : Both L S tables (root_of M) memory path

-- the answer of `constraint::obeys`
pub record GrowPost (L S M : List ℕ) (tables : Tables) (p a b : ℕ) (r : Bool) (memory : Memory) (path : Path) : Type 0 where
  pub judged : ObeysPost L S tables (get_or M (6 * p + 4) 0) (get_or M (6 * p + 5) 0) (get_or M (6 * p) 0) a b r
  pub remembers : Both L S tables (root_of M) memory path
