-- Not needed to believe the promise: a machine that reads the subset byte by byte; its state is what it has read.
use Rattle.std.specs.Prelude.{◌≡◌, Bool, false, cond, List, [], ◌∷◌, ℕ, ◌≤◌, eqb, length, take}
use Rattle.grammar.specs.Grammar.{Bytes, ε, ◌▸◌, ◌⊲◌, less, greater, slash, Content, nothing, empty_element, element}
use Rattle.grammar.specs.Tokens.{space_token, name_token, run_token, Level, outer, inner, no_element, may_open, after}

-- behind the bytes s of a run
abbrev pub may_follow : Level → Bytes → ℕ → Bool
may_follow k s b = (run_token k).goes (after (run_token k) s) b

-- the bytes of a text end with "]]"
abbrev pub brackets : Bytes → Bool
brackets s = eqb (after (run_token inner) s) 2

-- an open element: what stands before it at its level, and its start tag
pub record Open : Type 0 where
  pub before : Content
  pub run : Bytes
  pub name : Bytes
  pub space : Bytes

pub data State : Type 0 where
  dead : State
  -- in a run
  in_run : (o : List Open) (f : Content) (t : Bytes) → State
  -- after <
  after_less : (o : List Open) (f : Content) (t : Bytes) → State
  -- in the name of a start tag; in the white space after it; after its /
  in_name : (o : List Open) (f : Content) (t n : Bytes) → State
  in_space : (o : List Open) (f : Content) (t n g : Bytes) → State
  after_slash : (o : List Open) (f : Content) (t n g : Bytes) → State
  -- in the name of an end tag, m read and r to come; in the white space after it
  in_end_name : (p : Open) (o : List Open) (f : Content) (t m : Bytes) (r : List ℕ) → State
  in_end_space : (p : Open) (o : List Open) (f : Content) (t h : Bytes) → State

abbrev pub level : List Open → Level
level [] = outer
level (p ∷ o) = inner

abbrev pub end_tag_state : List Open → Content → Bytes → State
end_tag_state [] f t = dead
end_tag_state (p ∷ o) f t = in_end_name p o f t ε (p.name ⊲ [])

abbrev pub tag : List Open → Content → Bytes → Bytes → Bytes → ℕ → State
tag o f t n g b =
    cond (space_token.goes 0 b) (in_space o f t n (g ▸ b))
    (cond (eqb b greater) (in_run (record { before = f; run = t; name = n; space = g } ∷ o) nothing ε)
    (cond (eqb b slash) (after_slash o f t n g) dead))

abbrev pub tail : Open → List Open → Content → Bytes → Bytes → ℕ → State
tail p o f t h b =
    cond (space_token.goes 0 b) (in_end_space p o f t (h ▸ b))
    (cond (eqb b greater) (in_run o (element p.before p.run p.name p.space f t h) ε) dead)

abbrev pub step : State → ℕ → State
step dead b = dead
step (in_run o f t) b =
    cond (eqb b less) (cond (may_open (level o) f) (after_less o f t) dead)
    (cond (may_follow (level o) t b) (in_run o f (t ▸ b)) dead)
step (after_less o f t) b = cond (name_token.goes 0 b) (in_name o f t (ε ▸ b)) (cond (eqb b slash) (end_tag_state o f t) dead)
step (in_name o f t n) b = cond (name_token.goes 1 b) (in_name o f t (n ▸ b)) (tag o f t n ε b)
step (in_space o f t n g) b = tag o f t n g b
step (after_slash o f t n g) b = cond (eqb b greater) (in_run o (empty_element f t n g) ε) dead
step (in_end_name p o f t m []) b = tail p o f t ε b
step (in_end_name p o f t m (r ∷ rs)) b = cond (eqb b r) (in_end_name p o f t (m ▸ b) rs) dead
step (in_end_space p o f t h) b = tail p o f t h b

abbrev pub runs : State → List ℕ → State
runs s [] = s
runs s (b ∷ v) = runs (step s b) v

abbrev pub initial : State
initial = in_run [] nothing ε

-- the document ends here
abbrev pub Final : State → Type 0
Final dead = ⊥
Final (in_run [] f t) = no_element f ≡ false
Final (in_run (p ∷ o) f t) = ⊥
Final (after_less o f t) = ⊥
Final (in_name o f t n) = ⊥
Final (in_space o f t n g) = ⊥
Final (after_slash o f t n g) = ⊥
Final (in_end_name p o f t m r) = ⊥
Final (in_end_space p o f t h) = ⊥

-- after the first j bytes of w the machine is in the state z
pub record At (w : List ℕ) (j : ℕ) (z : State) : Type 0 where
  pub within : j ≤ length w
  pub is : runs initial (take j w) ≡ z
