-- Not needed to believe the promise: what a turn of the pass does, and what it does to the three lists.
use Rattle.std.specs.Prelude.{◌≡◌, List, ℕ, ◌+◌, ◌-◌, ◌≤◌, ◌<◌, length, get_or, Result, Ok, Err}
use Rattle.grammar.specs.Grammar.{Bytes, less, Content, OutsideAt}
use Rattle.grammar.specs.Machine.{Open}
use Rattle.tokens.specs.Tokens.{Span, bytes, name_at}
use Rattle.judge.specs.Tags.{RunTo, OpenedTo, EmptyTo, Closed, Tagging}
use Rattle.labels.specs.Lists.{Put}
use Rattle.rows.specs.declared.note.Unread.{Unread}
use Rattle.rows.specs.declared.note.Unread.TheVariants.{Outside, Beyond}
use Rattle.rows.specs.declared.note.Ran.{Ran}
use Rattle.rows.specs.declared.note.Ran.TheVariants.{Last, Tag}
use Rattle.rows.specs.declared.note.Turn.{Turn}
use Rattle.rows.specs.declared.note.Turn.TheVariants.{Ends, Opens, Empty, Closes}

-- a tag may be read at a: the innermost of the open elements o is at the row x
pub record MayTag (w S L : List ℕ) (x depth row a : ℕ) (o : List Open) (f : Content) (t : Bytes) : Type 0 where
  pub short : length w ≤ 32768
  pub low : x < 2052
  pub few : row ≤ 2049
  pub named : 0 < depth → Span (name_at w) w (get_or S x 0) (get_or S x 0 + get_or L x 0)
  pub tagging : Tagging w (get_or S x 0) depth row a o f t

-- what it does
pub data TagDone (w S L Z : List ℕ) (depth row a : ℕ) (o : List Open) (f : Content) (t : Bytes) : List ℕ → List ℕ → List ℕ → Result Turn Unread → Type 0 where
  refused : {p : ℕ} → OutsideAt w p → TagDone w S L Z depth row a o f t S L Z (Err (Outside p))
  deep_open : {e r : ℕ} → OpenedTo w (a + 1) e r o f t → 63 < depth → TagDone w S L Z depth row a o f t S L Z (Err Beyond)
  deep_empty : {e r : ℕ} → EmptyTo w (a + 1) e r o f t → 63 < depth → TagDone w S L Z depth row a o f t S L Z (Err Beyond)
  opens : {e r : ℕ} {S' L' Z' : List ℕ} → a + 1 < r → OpenedTo w (a + 1) e r o f t → depth ≤ 63 → Put row (a + 1) (e - (a + 1)) S L Z S' L' Z' →
      TagDone w S L Z depth row a o f t S' L' Z' (Ok (Opens row r))
  empty : {e r : ℕ} {S' L' Z' : List ℕ} → a + 1 < r → EmptyTo w (a + 1) e r o f t → depth ≤ 63 → Put row (a + 1) (e - (a + 1)) S L Z S' L' Z' →
      TagDone w S L Z depth row a o f t S' L' Z' (Ok (Empty row r))
  closes : {r : ℕ} → a + 1 < r → Closed w r o f t → TagDone w S L Z depth row a o f t S L Z (Ok (Closes row r))

-- the row of the run from i to a is put; or nothing is, where it makes no row
pub data RunPut (row i a m : ℕ) (S L Z : List ℕ) : List ℕ → List ℕ → List ℕ → Type 0 where
  noted : {S' L' Z' : List ℕ} → Put row i (a - i) S L Z S' L' Z' → RunPut row i a m S L Z S' L' Z'
  passed_over : m ≡ 0 → RunPut row i a m S L Z S L Z

-- what the run that starts at i comes to
pub data RunDone (w S L Z : List ℕ) (depth row i : ℕ) : List ℕ → List ℕ → List ℕ → Result Ran Unread → Type 0 where
  many : 2048 < row → RunDone w S L Z depth row i S L Z (Err Beyond)
  last_run : {a m : ℕ} {S' L' Z' : List ℕ} → row ≤ 2048 → RunTo w depth i a m → RunPut row i a m S L Z S' L' Z' → (get_or w a 0 ≡ less → ⊥) →
      (length w ≤ a) × (depth ≡ 0) × (0 < row + m) → RunDone w S L Z depth row i S' L' Z' (Ok (Last (row + m)))
  early_run : {a m : ℕ} {S' L' Z' : List ℕ} → row ≤ 2048 → RunTo w depth i a m → RunPut row i a m S L Z S' L' Z' → (get_or w a 0 ≡ less → ⊥) →
      ((length w ≤ a) × (depth ≡ 0) × (0 < row + m) → ⊥) → RunDone w S L Z depth row i S' L' Z' (Err (Outside a))
  deep_text : {a m : ℕ} {S' L' Z' : List ℕ} → row ≤ 2048 → RunTo w depth i a m → RunPut row i a m S L Z S' L' Z' → get_or w a 0 ≡ less →
      64 < depth + m → RunDone w S L Z depth row i S' L' Z' (Err Beyond)
  to_tag : {a m : ℕ} {S' L' Z' : List ℕ} → row ≤ 2048 → RunTo w depth i a m → RunPut row i a m S L Z S' L' Z' → get_or w a 0 ≡ less →
      depth + m ≤ 64 → RunDone w S L Z depth row i S' L' Z' (Ok (Tag (row + m) a))

-- a turn may begin at i: once the run is noted, a tag may be read
pub record MayTurn (w S L Z : List ℕ) (x depth row i : ℕ) (o : List Open) (f : Content) : Type 0 where
  pub short : length w ≤ 32768
  pub here : i ≤ length w
  pub shallow : depth ≤ 64
  pub tag : {a n : ℕ} {S' L' Z' : List ℕ} → RunDone w S L Z depth row i S' L' Z' (Ok (Tag n a)) → MayTag w S' L' x depth n a o f (bytes w i (a - i))

-- what it does
pub data TurnDone (w S L Z : List ℕ) (depth row i : ℕ) (o : List Open) (f : Content) : List ℕ → List ℕ → List ℕ → Result Turn Unread → Type 0 where
  stopped : {S' L' Z' : List ℕ} {e : Unread} → RunDone w S L Z depth row i S' L' Z' (Err e) → TurnDone w S L Z depth row i o f S' L' Z' (Err e)
  over : {n : ℕ} {S' L' Z' : List ℕ} → RunDone w S L Z depth row i S' L' Z' (Ok (Last n)) → TurnDone w S L Z depth row i o f S' L' Z' (Ok (Ends n))
  tagged : {a n : ℕ} {S' L' Z' S₂ L₂ Z₂ : List ℕ} {u : Result Turn Unread} → RunDone w S L Z depth row i S' L' Z' (Ok (Tag n a)) →
      TagDone w S' L' Z' depth n a o f (bytes w i (a - i)) S₂ L₂ Z₂ u → TurnDone w S L Z depth row i o f S₂ L₂ Z₂ u
