-- Not needed to believe the promise: what a run and a tag of the document do to the byte machine.
use Rattle.std.specs.Prelude.{◌≡◌, true, cond, List, [], ◌∷◌, ℕ, ◌+◌, ◌-◌, ◌≤◌, ◌<◌, eqb, length, get_or, Result, Ok, Err}
use Rattle.grammar.specs.Classes.{name_start}
use Rattle.grammar.specs.Grammar.{Bytes, ε, ◌⊲◌, less, slash, Content, nothing, empty_element, element, OutsideAt}
use Rattle.grammar.specs.Tokens.{no_element}
use Rattle.grammar.specs.Rows.{inked, #}
use Rattle.grammar.specs.Machine.{Open, in_run, after_less, in_end_name, At}
use Rattle.judge.specs.declared.tags.Tag.{Tag}
use Rattle.judge.specs.declared.tags.Tag.TheVariants.{Opens, Empty, Closes}
use Rattle.judge.specs.declared.tags.Kind.{Kind}
use Rattle.judge.specs.declared.tags.Kind.TheVariants.{Nothing, Start, End}
use Rattle.tokens.specs.Tokens.{Span, bytes, name_at, level_of, run_at}
use Rattle.openings.specs.OpenNames.{Named, opened}

-- the run that starts at a ends at r, and makes so many rows
pub record RunTo (w : List ℕ) (depth a r n : ℕ) : Type 0 where
  pub span : Span (run_at (level_of depth) w a) w a r
  pub makes : n ≡ cond (inked (bytes w a (r - a))) 1 0
  pub outside : depth ≡ 0 → n ≡ 0
  pub few : n ≤ 1

-- the innermost open element ends, its end tag at e
pub data Closed (w : List ℕ) (e : ℕ) : List Open → Content → Bytes → Type 0 where
  closed : {p : Open} {o : List Open} {f : Content} {t : Bytes} (h : Bytes) →
      At w e (in_run o (element p.before p.run p.name p.space f t h) ε) → Closed w e (p ∷ o) f t

-- the start tag whose name stands from a to e ends at r, and leaves its element open
pub record OpenedTo (w : List ℕ) (a e r : ℕ) (o : List Open) (f : Content) (t : Bytes) : Type 0 where
  pub name : Bytes
  pub space : Bytes
  pub named : Named w a name
  pub long : e ≡ a + # name
  pub here : At w r (in_run (opened f t name space ∷ o) nothing ε)

-- .. or is its whole element
pub record EmptyTo (w : List ℕ) (a e r : ℕ) (o : List Open) (f : Content) (t : Bytes) : Type 0 where
  pub name : Bytes
  pub space : Bytes
  pub named : Named w a name
  pub long : e ≡ a + # name
  pub here : At w r (in_run o (empty_element f t name space) ε)

-- what the tag does whose < stands before a, in the open elements o, behind the content f and the run t
abbrev pub Does : List ℕ → ℕ → List Open → Content → Bytes → Result Tag ℕ → Type 0
Does w a o f t (Err p) = OutsideAt w p
Does w a o f t (Ok (Opens e r)) = (a < r) × OpenedTo w a e r o f t
Does w a o f t (Ok (Empty e r)) = (a < r) × EmptyTo w a e r o f t
Does w a o f t (Ok (Closes e)) = (a < e) × Closed w e o f t

-- what the tag does whose </ stands before a
abbrev pub Ends : List ℕ → ℕ → List Open → Content → Bytes → Result Tag ℕ → Type 0
Ends w a o f t (Err p) = OutsideAt w p
Ends w a o f t (Ok (Opens e r)) = ⊥
Ends w a o f t (Ok (Empty e r)) = ⊥
Ends w a o f t (Ok (Closes e)) = (a < e) × Closed w e o f t

-- the byte at a may be a / only where no element is open
abbrev pub Started : List ℕ → ℕ → Result Tag ℕ → Type 0
Started w a r =
    (o : List Open) (f : Content) (t : Bytes) → At w a (after_less o f t) → (get_or w a 0 ≡ slash → o ≡ []) → Does w a o f t r

-- .. whatever the name that ends at e, behind which it is looked on
abbrev pub Shut : List ℕ → ℕ → Result Tag ℕ → Type 0
Shut w e r = (a : ℕ) → name_start (get_or w a 0) ≡ true → Span (name_at w) w (a + 1) e → Started w a r

abbrev pub Ended : List ℕ → ℕ → ℕ → Result Tag ℕ → Type 0
Ended w name a r =
    (p : Open) (o : List Open) (f : Content) (t : Bytes) → At w a (in_end_name p o f t ε (p.name ⊲ [])) → Named w name p.name →
    Ends w a (p ∷ o) f t r

-- name is where the innermost open element's name starts
abbrev pub Top : List ℕ → ℕ → List Open → Type 0
Top w name [] = Unit {0}
Top w name (p ∷ o) = Named w name p.name

pub record Tagging (w : List ℕ) (name depth rows a : ℕ) (o : List Open) (f : Content) (t : Bytes) : Type 0 where
  pub here : At w a (in_run o f t)
  pub less : get_or w a 0 ≡ less
  pub depth_is : depth ≡ length o
  pub top : Top w name o
  pub none_yet : depth ≡ 0 → eqb rows 0 ≡ no_element f

-- what may stand at the < at a
pub data KindOf (w : List ℕ) (depth rows a : ℕ) : Kind → Type 0 where
  second_root : depth ≡ 0 → 0 < rows → KindOf w depth rows a Nothing
  root : depth ≡ 0 → rows ≡ 0 → KindOf w depth rows a Start
  inner_start : (depth ≡ 0 → ⊥) → (get_or w (a + 1) 0 ≡ slash → ⊥) → KindOf w depth rows a Start
  inner_end : (depth ≡ 0 → ⊥) → get_or w (a + 1) 0 ≡ slash → KindOf w depth rows a End

abbrev pub Tagged : List ℕ → ℕ → ℕ → ℕ → ℕ → Result Tag ℕ → Type 0
Tagged w name depth rows a r =
    (o : List Open) (f : Content) (t : Bytes) → Tagging w name depth rows a o f t → Does w (a + 1) o f t r

-- the answer for a document of so many rows and so deep
pub data Done (rows deep : ℕ) : ℕ → ℕ → ℕ → Type 0 where
  too_deep : 64 < deep → Done rows deep 4 0 0
  too_many : deep ≤ 64 → 2048 < rows → Done rows deep 5 0 0
  done : deep ≤ 64 → rows ≤ 2048 → Done rows deep 0 0 rows

-- the answer where no tag follows: at is where the last run ends
pub data Last (length at depth rows deep : ℕ) : ℕ → ℕ → ℕ → Type 0 where
  ended : {c p n : ℕ} → length ≤ at → depth ≡ 0 → 0 < rows → Done rows deep c p n → Last length at depth rows deep c p n
  early : (length ≤ at → depth ≡ 0 → 0 < rows → ⊥) → Last length at depth rows deep 3 at 0
