-- The walk goes on where it stopped. What is left then is a stack of argument lists: the rest of the list that the variable
-- stands in, the rest of the list that its holder stands in, and so on up to the root.
use Prim.Native.Nat.{ℕ, ◌+◌, ◌-◌}
use mathlib.Core.Path.{◌≡◌, refl, ap, ◌∙◌, sym}
use mathlib.Core.List.{List, [], ◌∷◌, ◌++◌}
use native.Mathlib.Decide.{ℕ_discrete, dec_le}
use Rattle.meaning.specs.Forest.{Forest, none, some, Term, term, rows, terms, size}
use Rattle.meaning.specs.Read.{take_t, cut, values, span}
use Rattle.meaning.specs.Pattern.{Pattern, symbol, individual, function, context, Patterns, nil, cons, sequence, Look, old, new, wrong, look}
use Rattle.meaning.specs.Matcher.{Value, of_individual, of_sequence, of_function, of_context}
use Rattle.meaning.proofs.Walk.{same?, Res, fail, need, ok, when, and_then, over, met, meet, chosen, walk_t, walk_f, walk}
use Rattle.meaning.specs.Record.{Entry, entry}
use Rattle.meaning.proofs.Laws.{drop_t}
use Rattle.meaning.proofs.Asked.{over_need}

-- the rest of an argument list: the patterns and the terms that are left, and the row at which the terms start
pub record Frame : Type 0 where
  pub patterns : Patterns
  pub forest : Forest
  pub row : ℕ

abbrev pub frame : Patterns → Forest → ℕ → Frame
frame ps us t = record { patterns = ps; forest = us; row = t }

-- where a walk stops: at a sequence variable, with the arguments behind it, before the terms us; or at a context variable over
-- the pattern q, at the term T
pub data Stop : Type 0 where
  at_sequence : (ps : Patterns) (us : Forest) → Stop
  at_context : (q : Pattern) (T : Term) → Stop

-- the least and the largest value of the variable there, which starts at the row s, and what it stands for d above the least
abbrev pub least : Stop → ℕ → ℕ
least (at_sequence ps us) s = 0
least (at_context q T) s = s

abbrev pub largest : Stop → ℕ → ℕ
largest (at_sequence ps us) s = terms us
largest (at_context q T) s = s + rows T.args

abbrev pub taken : Stop → ℕ → Value
taken (at_sequence ps us) d = of_sequence (take_t d us)
taken (at_context q T) d = of_context (cut T d).around

-- two steps after one
pub then_when : {A : Type 0} (d : Dec A) (r : Res) (k : List Entry → List ℕ → Res) → and_then (when d r) k ≡ when d (and_then r k)
then_when (yes a) r k = refl
then_when (no n) r k = refl

pub then_then : (r : Res) (j k : List Entry → List ℕ → Res) → and_then (and_then r j) k ≡ and_then r (λ B cs. and_then (j B cs) k)
then_then fail j k = refl
then_then (need B s lo hi) j k = refl
then_then (ok B cs) j k = refl

module _ (Allowed : ℕ → Value → Type 0) (allowed? : (x : ℕ) (v : Value) → Dec (Allowed x v)) where
  -- walks the lists that are left, one after the other
  unfoldable pub run : List Frame → List Entry → List ℕ → Res
  run [] B cs = ok B cs
  run (f ∷ fs) B cs = and_then (walk_f Allowed allowed? f.patterns f.forest f.row B cs) (run fs)

  -- the walk from a stop on, d above the least value, and then what is left
  abbrev pub onward : Stop → ℕ → List Frame → ℕ → List Entry → List ℕ → Res
  onward (at_sequence ps us) s fs d B cs = and_then (walk_f Allowed allowed? ps (drop_t d us) (s + rows (take_t d us)) B cs) (run fs)
  onward (at_context q T) s fs d B cs = and_then (walk_t Allowed allowed? q (cut T d).at (s + d) B cs) (run fs)

  -- the stop is entered with the value v for its variable x: out of range, or not allowed, it fails
  abbrev pub enter : Stop → ℕ → ℕ → List Frame → List Entry → ℕ → List ℕ → Res
  enter w x s fs B v cs = chosen Allowed allowed? new (v ∷ cs) x (least w s) (largest w s) s (taken w) B (onward w s fs)

  pub then_chosen : (l : Look Value) (cs : List ℕ) (x lo hi t : ℕ) (g : ℕ → Value) (B : List Entry) (j : ℕ → List Entry → List ℕ → Res) (k : List Entry → List ℕ → Res)
      → and_then (chosen Allowed allowed? l cs x lo hi t g B j) k ≡ chosen Allowed allowed? l cs x lo hi t g B (λ d C ds. and_then (j d C ds) k)
  then_chosen (old w) cs x lo hi t g B j k = then_when (same? w (g (span w))) (j (span w) B cs) k
  then_chosen new [] x lo hi t g B j k = refl
  then_chosen new (c ∷ cs) x lo hi t g B j k = go (dec_le lo c) (dec_le c hi) (allowed? x (g (c - lo)))
    where
      r : Res
      r = j (c - lo) (B ++ (entry (g (c - lo)) t ∷ [])) cs

      go : {X Y Z : Type 0} (a : Dec X) (b : Dec Y) (d : Dec Z) → and_then (when a (when b (when d r))) k ≡ when a (when b (when d (and_then r k)))
      go (yes a) (yes b) d = then_when d r k
      go (yes a) (no b) d = refl
      go (no a) b d = refl
  then_chosen wrong cs x lo hi t g B j k = refl

  -- f says what a walk comes to with more choices. It asks for a variable at the row s, and the frames are left behind it:
  -- with one choice more it goes on from there, and then through fs.
  pub record Stopped (fs : List Frame) (B : List Entry) (s lo hi : ℕ) (f : List ℕ → Res) : Type 0 where
    pub stop : Stop
    pub variable : ℕ
    pub frames : List Frame
    pub low : lo ≡ least stop s
    pub high : hi ≡ largest stop s
    pub goes : (v : ℕ) (cs : List ℕ) → and_then (f (v ∷ cs)) (run fs) ≡ enter stop variable s frames B v cs

  -- what a walk comes to with some choices, and with more
  abbrev MoreIs : List Frame → Res → (List ℕ → Res) → Type 0
  MoreIs fs fail f = (cs : List ℕ) → f cs ≡ fail
  MoreIs fs (need B s lo hi) f = Stopped fs B s lo hi f
  MoreIs fs (ok B ds) f = (cs : List ℕ) → f cs ≡ ok B (ds ++ cs)

  record More (fs : List Frame) (r : Res) (f : List ℕ → Res) : Type 0 where
    is : MoreIs fs r f

  more_same : {fs : List Frame} (r : Res) (f g : List ℕ → Res) → ((cs : List ℕ) → g cs ≡ f cs) → More fs r f → More fs r g
  more_same fail f g e m = record { is = λ cs. e cs ∙ m.is cs }
  more_same (need B s lo hi) f g e m =
      let w = m.is in
      record { is = record { stop = w.stop; variable = w.variable; frames = w.frames; low = w.low; high = w.high; goes = λ v cs. rw (e (v ∷ cs)) (w.goes v cs) } }
  more_same (ok B ds) f g e m = record { is = λ cs. e cs ∙ m.is cs }

  more_when : {A : Type 0} (d : Dec A) {fs : List Frame} (r : Res) (f : List ℕ → Res) → More fs r f → More fs (when d r) (λ cs. when d (f cs))
  more_when (yes a) r f m = m
  more_when (no n) r f m = record { is = λ cs. refl }

  -- a list is walked behind
  more_then : {fs : List Frame} (ps : Patterns) (us : Forest) (t : ℕ) (r : Res) (f : List ℕ → Res) → More (frame ps us t ∷ fs) r f
      → ((B : List Entry) (ds : List ℕ) → More fs (walk_f Allowed allowed? ps us t B ds) (λ cs. walk_f Allowed allowed? ps us t B (ds ++ cs)))
      → More fs (and_then r (walk_f Allowed allowed? ps us t)) (λ cs. and_then (f cs) (walk_f Allowed allowed? ps us t))
  unfolding run
  more_then ps us t fail f m h = record { is = λ cs. rw (m.is cs) }
  more_then {fs} ps us t (need B s lo hi) f m h =
      let w = m.is in
      record {
        is =
            record {
              stop = w.stop;
              variable = w.variable;
              frames = w.frames;
              low = w.low;
              high = w.high;
              goes = λ v cs. then_then (f (v ∷ cs)) (walk_f Allowed allowed? ps us t) (run fs) ∙ w.goes v cs;
            };
      }
  more_then ps us t (ok B ds) f m h =
      more_same (walk_f Allowed allowed? ps us t B ds) (λ cs. walk_f Allowed allowed? ps us t B (ds ++ cs)) (λ cs. and_then (f cs) (walk_f Allowed allowed? ps us t)) (λ cs. rw (m.is cs)) (h B ds)

  more_met : {fs : List Frame} (l : Look Value) (x : ℕ) (v : Value) (t : ℕ) (B : List Entry) (ds : List ℕ)
      → More fs (met Allowed allowed? l x v t B ds) (λ cs. met Allowed allowed? l x v t B (ds ++ cs))
  more_met (old w) x v t B ds = more_when (same? w v) (ok B ds) (λ cs. ok B (ds ++ cs)) (record { is = λ cs. refl })
  more_met new x v t B ds = more_when (allowed? x v) (ok (B ++ (entry v t ∷ [])) ds) (λ cs. ok (B ++ (entry v t ∷ [])) (ds ++ cs)) (record { is = λ cs. refl })
  more_met wrong x v t B ds = record { is = λ cs. refl }

  -- at a variable that has choices; the stop says what it would go on with
  more_chosen : {fs : List Frame} (w : Stop) (l : Look Value) (ds : List ℕ) (x t : ℕ) (B : List Entry) (k : ℕ → List Entry → List ℕ → Res)
      → ((d : ℕ) (C : List Entry) (es : List ℕ) → and_then (k d C es) (run fs) ≡ onward w t fs d C es)
      → ((d : ℕ) (C : List Entry) (es : List ℕ) → More fs (k d C es) (λ cs. k d C (es ++ cs)))
      → More fs (chosen Allowed allowed? l ds x (least w t) (largest w t) t (taken w) B k) (λ cs. chosen Allowed allowed? l (ds ++ cs) x (least w t) (largest w t) t (taken w) B k)
  more_chosen w (old v) ds x t B k o h = more_when (same? v (taken w (span v))) (k (span v) B ds) (λ cs. k (span v) B (ds ++ cs)) (h (span v) B ds)
  more_chosen {fs} w new [] x t B k o h =
      record {
        is =
            record {
              stop = w;
              variable = x;
              frames = fs;
              low = refl;
              high = refl;
              goes = λ v cs.
                  then_chosen new (v ∷ cs) x (least w t) (largest w t) t (taken w) B k (run fs)
                  ∙ rw (o (v - least w t) (B ++ (entry (taken w (v - least w t)) t ∷ [])) cs);
            };
      }
  more_chosen w new (c ∷ ds) x t B k o h =
      more_when (dec_le (least w t) c) _ _
      (more_when (dec_le c (largest w t)) _ _
      (more_when (allowed? x (taken w (c - least w t))) (k (c - least w t) (B ++ (entry (taken w (c - least w t)) t ∷ [])) ds)
      (λ cs. k (c - least w t) (B ++ (entry (taken w (c - least w t)) t ∷ [])) (ds ++ cs))
      (h (c - least w t) (B ++ (entry (taken w (c - least w t)) t ∷ [])) ds)))
  more_chosen w wrong ds x t B k o h = record { is = λ cs. refl }

  mutual
    unfolding walk_t

    more_t : (q : Pattern) (T : Term) (t : ℕ) (fs : List Frame) (B : List Entry) (ds : List ℕ) → More fs (walk_t Allowed allowed? q T t B ds) (λ cs. walk_t Allowed allowed? q T t B (ds ++ cs))
    more_t (symbol f ps) T t fs B ds = more_when (ℕ_discrete f T.label) _ (λ cs. walk_f Allowed allowed? ps T.args (t + 1) B (ds ++ cs)) (more_f ps T.args (t + 1) fs B ds)
    more_t (individual x) T t fs B ds = more_met (look (values B) x) x (of_individual T.label T.args) t B ds
    more_t (function x ps) T t fs B ds =
        more_then ps T.args (t + 1) _ (λ cs. meet Allowed allowed? x (of_function T.label) t B (ds ++ cs)) (more_met (look (values B) x) x (of_function T.label) t B ds)
        (λ C es. more_f ps T.args (t + 1) fs C es)
    more_t (context x q) T t fs B ds =
        more_chosen (at_context q T) (look (values B) x) ds x t B (λ d C es. walk_t Allowed allowed? q (cut T d).at (t + d) C es) (λ d C es. refl)
        (λ d C es. more_t q (cut T d).at (t + d) fs C es)

    more_f : (ps : Patterns) (us : Forest) (t : ℕ) (fs : List Frame) (B : List Entry) (ds : List ℕ) → More fs (walk_f Allowed allowed? ps us t B ds) (λ cs. walk_f Allowed allowed? ps us t B (ds ++ cs))
    more_f nil none t fs B ds = record { is = λ cs. refl }
    more_f nil (some l us rest) t fs B ds = record { is = λ cs. refl }
    more_f (cons q ps) none t fs B ds = record { is = λ cs. refl }
    more_f (cons q ps) (some l us rest) t fs B ds =
        more_then ps rest (t + size (term l us)) _ (λ cs. walk_t Allowed allowed? q (term l us) t B (ds ++ cs)) (more_t q (term l us) t (frame ps rest (t + size (term l us)) ∷ fs) B ds)
        (λ C es. more_f ps rest (t + size (term l us)) fs C es)
    more_f (sequence x ps) us t fs B ds =
        more_chosen (at_sequence ps us) (look (values B) x) ds x t B (λ d C es. walk_f Allowed allowed? ps (drop_t d us) (t + rows (take_t d us)) C es) (λ d C es. refl)
        (λ d C es. more_f ps (drop_t d us) (t + rows (take_t d us)) fs C es)

  -- where the walk with the choices cs asks for a variable, the walk with one choice more, v, is the stop entered with v
  pub resumed : (P : Pattern) (T : Term) (cs : List ℕ) {B : List Entry} {s lo hi : ℕ} → walk Allowed allowed? P T cs ≡ need B s lo hi
      → Stopped [] B s lo hi (λ es. walk_t Allowed allowed? P T 0 [] (cs ++ es))
  resumed P T cs e = rw (over_need (walk_t Allowed allowed? P T 0 [] cs) e) at (more_t P T 0 [] [] cs).is

  -- nothing is left behind the root
  pub then_done : (r : Res) → and_then r (run []) ≡ r
  unfolding run
  then_done fail = refl
  then_done (need B s lo hi) = refl
  then_done (ok B cs) = refl

  pub resumed_walk : (P : Pattern) (T : Term) (cs : List ℕ) {B : List Entry} {s lo hi : ℕ} (e : walk Allowed allowed? P T cs ≡ need B s lo hi) (v : ℕ)
      → let w = resumed P T cs e in
      walk Allowed allowed? P T (cs ++ (v ∷ [])) ≡ over (enter w.stop w.variable s w.frames B v [])
  resumed_walk P T cs e v = ap over (sym (then_done (walk_t Allowed allowed? P T 0 [] (cs ++ (v ∷ [])))) ∙ (resumed P T cs e).goes v [])
