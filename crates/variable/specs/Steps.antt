-- Not needed to believe the promise: what the steps of a walk at a symbol or a variable ask and answer.
use Rattle.std.specs.Prelude.{ℕ, ◌+◌, ◌<◌, ◌≡◌, ◌≢◌, List, length, get_or, Option, Some, None}
use Rattle.std.proofs.Math.Decide.{ℕ_discrete}
use Rattle.meaning.specs.Forest.{Forest, Term, rows, terms}
use Rattle.meaning.specs.Read.{take_t, cut}
use Rattle.meaning.specs.Pattern.{Kind, an_individual, a_sequence, a_function, a_context, Comes, after}
use Rattle.meaning.specs.Matcher.{Value, of_individual, of_sequence, of_function, of_context}
use Rattle.meaning.specs.Record.{Entry}
use Rattle.meaning.proofs.Laws.{drop_t}
use Rattle.meaning.proofs.Walk.{Res, fail, ok, when, meet, choose}
use Rattle.meaning.proofs.Next.{Any, any?}
use Rattle.tree.specs.Places.{TermsAt, TermAt}
use Rattle.variable.specs.State.{State, Kept}
use Rattle.variable.specs.declared.Step.{Step}
use Rattle.variable.specs.declared.Step.TheVariants as step

-- the answer at a symbol or a variable without choices, with the record R, is the walk's, which f says for each list of choices;
-- where it goes on, m variables are bound
pub data Meets (L S R : List ℕ) (Q : List Kind) (m : ℕ) (f : List ℕ → Res) : Option ℕ → Type 0 where
  meets_fail : ((cs : List ℕ) → f cs ≡ fail) → Meets L S R Q m f None
  meets_ok : {B : List Entry} {k : ℕ} → k ≡ m → State L S R Q k B → ((cs : List ℕ) → f cs ≡ ok B cs) → Meets L S R Q m f (Some k)

-- the answer at a variable that has choices lo .. hi is the walk's, however it goes on; There says what stands at the row where it does.
-- Where x comes first, it has to be chosen.
pub data Chose (n x lo hi t : ℕ) (g : ℕ → Value) (B : List Entry) (There : ℕ → ℕ → Type 0) : Step → Type 0 where
  chose_fail : ((cs : List ℕ) (k : ℕ → List Entry → List ℕ → Res) → choose Any any? x lo hi t g B cs k ≡ fail) → Chose n x lo hi t g B There step.Fail
  chose_need : x ≡ n → Chose n x lo hi t g B There step.Need
  chose_go : {u : ℕ} (d : ℕ) → ((cs : List ℕ) (k : ℕ → List Entry → List ℕ → Res) → choose Any any? x lo hi t g B cs k ≡ k d B cs) → x < n → There u d
      → Chose n x lo hi t g B There (step.Go u)

-- the first d terms of a sequence, as a value; and the others, from row u up to e, where all start at row t
abbrev pub first_terms : Forest → ℕ → Value
first_terms us d = of_sequence (take_t d us)

abbrev pub Behind : List ℕ → List ℕ → ℕ → ℕ → Forest → ℕ → ℕ → Type 0
Behind L S t e us u d = TermsAt L S u e (drop_t d us) × (t + rows (take_t d us) ≡ u)

-- the context of a term with the hole at its row d, as a value; and what fills the hole, at row h, where the term starts at row t
abbrev pub context_to : Term → ℕ → Value
context_to T d = of_context (cut T d).around

abbrev pub InHole : List ℕ → List ℕ → ℕ → Term → ℕ → ℕ → Type 0
InHole L S t T h d = (t + d ≡ h) × TermAt L S h (cut T d).at.label (cut T d).at.args

-- a variable x of the kind k, where n variables are bound
pub record VariablePre (L S R : List ℕ) (n : ℕ) (k : Kind) (x : ℕ) : Type 0 where
  pub some : (Q : List Kind) × (B : List Entry) × State L S R Q n B × Comes Q x k n

-- individual: at the term at row t
pub record IndividualPre (L S R : List ℕ) (x t n : ℕ) : Type 0 where
  pub variable : VariablePre L S R n an_individual x
  pub tree : (l : ℕ) × (us : Forest) × TermAt L S t l us

pub record IndividualPost (L S R : List ℕ) (x t n : ℕ) (o : Option ℕ) (R' : List ℕ) : Type 0 where
  pub is : (Q : List Kind) (l : ℕ) (us : Forest) (B : List Entry) → TermAt L S t l us → Comes Q x an_individual n → State L S R Q n B
      → Meets L S R' Q (after x n) (meet Any any? x (of_individual l us) t B) o × Kept Q n R R'

-- head: a symbol, where the kind is 0, or a function variable
pub record HeadPre (L R : List ℕ) (kind x t n : ℕ) : Type 0 where
  pub row : t < length L
  pub variable : kind ≢ 0 → (S : List ℕ) × VariablePre L S R n a_function x

pub record HeadPost (L R : List ℕ) (kind x t n : ℕ) (o : Option ℕ) (R' : List ℕ) : Type 0 where
  pub symbol : kind ≡ 0 → (S : List ℕ) (Q : List Kind) (B : List Entry) → State L S R Q n B
      → Meets L S R' Q n (λ cs. when (ℕ_discrete x (get_or L t 0)) (ok B cs)) o × Kept Q n R R'
  pub function : kind ≢ 0 → (S : List ℕ) (Q : List Kind) (B : List Entry) → Comes Q x a_function n → State L S R Q n B
      → Meets L S R' Q (after x n) (meet Any any? x (of_function (get_or L t 0)) t B) o × Kept Q n R R'

-- sequence: before row t of a list that ends at e
pub record SequencePre (L S R : List ℕ) (x t e n : ℕ) : Type 0 where
  pub variable : VariablePre L S R n a_sequence x
  pub tree : (us : Forest) × TermsAt L S t e us

pub record SequencePost (L S R : List ℕ) (x t e n : ℕ) (o : Step) : Type 0 where
  pub is : (Q : List Kind) (us : Forest) (B : List Entry) → TermsAt L S t e us → Comes Q x a_sequence n → State L S R Q n B
      → Chose n x 0 (terms us) t (first_terms us) B (Behind L S t e us) o

-- context: at the term at row t
pub record ContextPre (L S R : List ℕ) (x t n : ℕ) : Type 0 where
  pub variable : VariablePre L S R n a_context x
  pub tree : (l : ℕ) × (us : Forest) × TermAt L S t l us

pub record ContextPost (L S R : List ℕ) (x t n : ℕ) (o : Step) : Type 0 where
  pub is : (Q : List Kind) (T : Term) (B : List Entry) → TermAt L S t T.label T.args → Comes Q x a_context n → State L S R Q n B
      → Chose n x t (t + rows T.args) t (context_to T) B (InHole L S t T) o
