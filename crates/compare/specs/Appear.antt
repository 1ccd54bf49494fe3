-- Not needed to believe the promise: what the comparisons of later appearances ask of the rows, and what they answer.
use Rattle.std.specs.Prelude.{ℕ, ◌+◌, ◌<◌, ◌≤◌, ◌≡◌, Bool, List, ◌≢◌, get_or, Option, Some, None}
use Rattle.meaning.specs.Calls.{Says}
use Rattle.meaning.specs.Forest.{Forest, Term, term, terms, Context, hole, node, plug, hole_row}
use Rattle.meaning.specs.Read.{take_t}
use Rattle.meaning.proofs.Laws.{drop_t}
use Rattle.tree.specs.Places.{TermsAt, TermAt, Next, Level, ContextAt}

-- alike: both stretches of rows are sequences; whether they are equal
pub record AlikePre (L S : List ℕ) (a b t u : ℕ) : Type 0 where
  pub here : (f : Forest) × TermsAt L S a b f
  pub there : (g : Forest) × TermsAt L S t u g

pub record AlikePost (L S : List ℕ) (a b t u : ℕ) (r : Bool) : Type 0 where
  pub is : (f g : Forest) → TermsAt L S a b f → TermsAt L S t u g → Says r (f ≡ g)

-- the sequence f, compared whole with the first terms of us, which start at row t: they are others, or the same up to the row u
pub data Again (L S : List ℕ) (t e : ℕ) (f us : Forest) : Option ℕ → Type 0 where
  another : f ≢ take_t (terms f) us → Again L S t e f us None
  again : {u : ℕ} → f ≡ take_t (terms f) us → TermsAt L S t u (take_t (terms f) us) → TermsAt L S u e (drop_t (terms f) us) → Again L S t e f us (Some u)

-- again: a sequence of c terms from row a on
pub record AgainPre (L S : List ℕ) (a c t e : ℕ) : Type 0 where
  pub earlier : (b : ℕ) × (f : Forest) × TermsAt L S a b f × (terms f ≡ c)
  pub tree : (us : Forest) × TermsAt L S t e us

pub record AgainPost (L S : List ℕ) (a c t e : ℕ) (o : Option ℕ) : Type 0 where
  pub is : (b : ℕ) (f us : Forest) → TermsAt L S a b f → terms f ≡ c → TermsAt L S t e us → Again L S t e f us o

-- the context c, compared whole with the term T at row t: nothing fills its hole so that it is T, or what stands at the row h does
pub data Fits (L S : List ℕ) (t : ℕ) (c : Context) (T : Term) : Option ℕ → Type 0 where
  misfit : ((U : Term) → plug c U ≢ T) → Fits L S t c T None
  fitting : {h : ℕ} (U : Term) → plug c U ≡ T → h ≡ t + hole_row c → TermAt L S h U.label U.args → Fits L S t c T (Some h)

-- left: the terms from row a on, before the one at row u that holds the row b
pub record Before (L S : List ℕ) (a u b : ℕ) (left : Forest) : Type 0 where
  pub before : TermsAt L S a u left
  pub there : Next L S u
  pub low : u ≤ b
  pub high : b < u + get_or S u 0

pub record LeftPre (L S : List ℕ) (a b t e : ℕ) : Type 0 where
  pub here : (u : ℕ) × (left : Forest) × Before L S a u b left
  pub tree : (us : Forest) × TermsAt L S t e us

pub record LeftPost (L S : List ℕ) (a b t e : ℕ) (o : Option ℕ) : Type 0 where
  pub is : (u : ℕ) (left us : Forest) → Before L S a u b left → TermsAt L S t e us → Again L S t e left us o

-- level: one level of a context whose hole is at row b, the child at row u that holds it left out; the labels are the same
pub record LevelAt (L S : List ℕ) (a u b l : ℕ) (left right : Forest) : Type 0 where
  pub level : Level L S a u l left right
  pub low : u ≤ b
  pub high : b < u + get_or S u 0

pub record LevelPre (L S : List ℕ) (a b t : ℕ) : Type 0 where
  pub label : get_or L a 0 ≡ get_or L t 0
  pub here : (u : ℕ) × (l : ℕ) × (left : Forest) × (right : Forest) × LevelAt L S a u b l left right
  pub there : (m : ℕ) × (us : Forest) × TermAt L S t m us

pub record LevelPost (L S : List ℕ) (a b t : ℕ) (o : Option ℕ) : Type 0 where
  pub is : (u l : ℕ) (left right : Forest) (m : ℕ) (us : Forest) → LevelAt L S a u b l left right → TermAt L S t m us → Fits L S t (node l left hole right) (term m us) o

-- fits: a whole context
pub record FitsPre (L S : List ℕ) (a b t : ℕ) : Type 0 where
  pub here : (c : Context) × ContextAt L S a b c
  pub there : (m : ℕ) × (us : Forest) × TermAt L S t m us

pub record FitsPost (L S : List ℕ) (a b t : ℕ) (o : Option ℕ) : Type 0 where
  pub is : (c : Context) (m : ℕ) (us : Forest) → ContextAt L S a b c → TermAt L S t m us → Fits L S t c (term m us) o
