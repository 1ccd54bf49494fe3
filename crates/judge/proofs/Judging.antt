-- What the pass over a document keeps, and what it ends with.
use mathlib.Core.Path.{◌≡◌, refl, sym, ap, subst, ◌∙◌}
use mathlib.Core.Bool.{false, true≢false}
use mathlib.Core.List.{List, [], ◌∷◌}
use Prim.Native.Nat.{ℕ, zero, suc, ◌+◌, ◌*◌, ◌-◌, ◌≤◌, ◌<◌, max}
use native.Mathlib.Omega.{arith}
use lib.Dec.{eqb}
use lib.ListN.{length, get_or}
use lib.Seq.{take_all}
use borrow.Author.Tests.{ne_eqb}
use Rattle.meaning.specs.Forest.{rows}
use Rattle.tree.specs.Rows.{depth}
use Rattle.grammar.specs.Grammar.{Bytes, ε, Content, nothing, empty_element, element, Document, OutsideAt}
use Rattle.grammar.specs.Tokens.{no_element}
use Rattle.grammar.specs.Rows.{shape}
use Rattle.grammar.specs.Machine.{Open, in_run, level, runs, initial, Final, At}
use Rattle.grammar.proofs.Theory.{accepted, accepts}
use Rattle.grammar.proofs.Trees.{leaf_rows, content_rows, content_depth, one_leaf, shape_rows, shape_depth}
use Rattle.grammar.proofs.Positions.{pos_s, at_good, at_place, three}
use Rattle.tokens.specs.Tokens.{Span, bytes, level_of, run_at}
use Rattle.std.specs.Prelude.{Result, Ok, Err, IsErrAnd, MatchResult}
use Rattle.judge.specs.declared.tags.Tag.{Tag}
use Rattle.judge.specs.declared.refusal.Refusal.{Refusal}
use Rattle.judge.specs.declared.refusal.Refusal.TheVariants.{Outside}
use Rattle.judge.specs.Answer.{code_of, place_of, rows_of}
use Rattle.judge.specs.Tags.{RunTo, Closed, closed, OpenedTo, EmptyTo, Does, Top, Tagging, Tagged, Done, too_deep, too_many, done, Last, ended, early}
use Rattle.judge.specs.Verdict.{Verdict, outside, deep, many, read}
use Rattle.openings.specs.OpenNames.{opened, NameFrom, AllFrom, none_open, one_more, InnermostKept, all_closed, innermost, Keeping, LowNames, OpenedOne, MayClose, ClosedOne}
use Rattle.judge.proofs.Machine.{run_walk, run_refused}
use Rattle.openings.proofs.OpenNames.{some_kept, kept_low_names}

-- THE LAST RUN
pub early_is : {length at depth rows deep : ℕ} {r : Refusal} → r ≡ Outside at → ((length ≤ at) × (depth ≡ 0) × (0 < rows) → ⊥) →
    Last length at depth rows deep (code_of (Err r)) (place_of (Err r)) (rows_of (Err r))
early_is h k = rw h (early (λ p q r. k (p, q, r)))

-- WHAT THE OPEN ELEMENTS HAVE MADE
unfoldable pub rows_o : List Open → ℕ
rows_o [] = 0
rows_o (p ∷ o) = rows_o o + content_rows p.before + leaf_rows p.run + 1

unfoldable pub deep_o : List Open → ℕ
deep_o [] = 0
deep_o (p ∷ o) = max (max (deep_o o) (length o + content_depth p.before)) (length o + 1)

-- WHERE A PASS STANDS: behind the content f of the innermost of the open elements o
pub record Walked (w : List ℕ) (i depth rows : ℕ) : Type 0 where
  pub o : List Open
  pub f : Content
  pub here : At w i (in_run o f ε)
  pub depth_is : depth ≡ length o
  pub rows_are : rows ≡ rows_o o + content_rows f

pub level_is : (o : List Open) → level_of (length o) ≡ level o
level_is [] = refl
level_is (p ∷ o) = refl

some_rows : (f : Content) (n : ℕ) → n ≡ 0 → eqb (content_rows f + n) 0 ≡ no_element f
unfolding content_rows
some_rows nothing n h = rw h refl
some_rows (empty_element f t m g) n h = ne_eqb (content_rows (empty_element f t m g) + n) 0 (λ e. omega arith)
some_rows (element f t m g i l k) n h = ne_eqb (content_rows (element f t m g i l k) + n) 0 (λ e. omega arith)

-- a document of so many rows, of which f is the content
pub record Finished (w : List ℕ) (f : Content) (rows_read : ℕ) : Type 0 where
  pub t : Bytes
  pub document : Document w f t
  pub rows_are : rows_read ≡ rows (shape f)

-- the run that starts at i ends at a, and makes n rows
module _ {w : List ℕ} {i depth rows : ℕ} (k : Walked w i depth rows) {a n : ℕ} (run : RunTo w depth i a n) where
  abbrev its_bytes : Bytes
  its_bytes = bytes w i (a - i)

  span : Span (run_at (level k.o) w i) w i a
  span = rw (← (level_is k.o), ← k.depth_is) run.span

  pub at_run_lem : At w a (in_run k.o k.f its_bytes)
  at_run_lem = run_walk k.o k.f span.passed k.here

  pub made : n ≡ leaf_rows its_bytes
  unfolding leaf_rows
  made = run.makes

  outer_rows : depth ≡ 0 → rows + n ≡ content_rows k.f + n
  unfolding rows_o
  outer_rows d = go k.o k.depth_is k.rows_are
    where
      go : (o : List Open) → depth ≡ length o → rows ≡ rows_o o + content_rows k.f → rows + n ≡ content_rows k.f + n
      go [] e r = omega (arith, r)
      go (p ∷ o) e r = absurd (omega (arith, d, e))

  pub to_tag : {x : ℕ} → Top w x k.o → get_or w a 0 ≡ 60 → Tagging w x depth (rows + n) a k.o k.f its_bytes
  to_tag top h = record {
    here = at_run_lem;
    less = h;
    depth_is = k.depth_is;
    top = top;
    none_yet = λ d. rw (outer_rows d) (some_rows k.f n (run.outside d));
  }

  pub refused : (get_or w a 0 ≡ 60 → ⊥) → (length w ≤ a → depth ≡ 0 → 0 < rows + n → ⊥) → OutsideAt w a
  unfolding run_at
  refused b h = run_refused k.o k.f its_bytes at_run_lem (λ q. final q k.o k.depth_is) span.stop (ne_eqb (get_or w a 0) 60 b)
    where
      final : length w ≤ a → (o : List Open) → depth ≡ length o → Final (in_run o k.f its_bytes) → ⊥
      final q [] d y =
          let z : eqb (rows + n) 0 ≡ false = rw (outer_rows d) (some_rows k.f n (run.outside d) ∙ y) in
          h q d (positive (rows + n) z)
        where
          positive : (m : ℕ) → eqb m 0 ≡ false → 0 < m
          positive zero e = absurd (true≢false e)
          positive (suc m) e = omega arith
      final q (p ∷ o) d y = y

  pub finished : length w ≤ a → depth ≡ 0 → 0 < rows + n → Finished w k.f (rows + n)
  finished q d r = go k.o k.depth_is (ap (runs initial) (sym (take_all a w q)) ∙ at_run_lem.is)
    where
      has : no_element k.f ≡ false
      has = sym (some_rows k.f n (run.outside d)) ∙ ne_eqb (content_rows k.f + n) 0 (λ e. omega (arith, outer_rows d, r, e))

      go : (o : List Open) → depth ≡ length o → runs initial w ≡ in_run o k.f its_bytes → Finished w k.f (rows + n)
      go [] e s =
          let D : (f : Content) × (t : Bytes) × Document w f t = accepted w (rw s has) in
          let same : in_run [] k.f its_bytes ≡ in_run [] D.0 D.1 = sym s ∙ accepts D.2 in
          let f_is : D.0 ≡ k.f = cc in
          record {
            t = D.1;
            document = rw f_is at D.2;
            rows_are = outer_rows d ∙ rw (run.outside d) (omega arith) ∙ sym (shape_rows k.f);
          }
      go (p ∷ o) e s = absurd (omega (arith, d, e))

-- the innermost one's name is the last that is kept
pub top_kept : {w K L : List ℕ} {o : List Open} {n x : ℕ} → InnermostKept w K L o n → (0 < n → x ≡ get_or K (n - 1) 0) → Top w x o
top_kept all_closed h = tt
top_kept {w} {K} {x = x} (innermost {p} {n = n} from l b) h =
    let e : x ≡ get_or K n 0 = (let z : suc n - 1 ≡ n = omega arith in rw z at (h (omega arith))) in
    rw e from.named

-- the loop's invariant
pub record Scanned (w K L : List ℕ) (i kept depth rows deep : ℕ) : Type 0 where
  pub o : List Open
  pub f : Content
  pub here : At w i (in_run o f ε)
  pub depth_is : depth ≡ length o
  pub held : InnermostKept w K L o kept
  pub all : AllFrom w o
  pub keeping : Keeping K L kept
  pub rows_are : rows ≡ rows_o o + content_rows f
  pub deep_is : deep ≡ max (deep_o o) (length o + content_depth f)
  pub few : rows ≤ 2 * i

pub begins : (w K L : List ℕ) → Keeping K L 0 → Scanned w K L 0 0 0 0 0
unfolding rows_o deep_o content_rows content_depth
begins w K L h = record {
  o = [];
  f = nothing;
  here = record { within = omega arith; is = refl };
  depth_is = refl;
  held = all_closed;
  all = none_open;
  keeping = h;
  rows_are = refl;
  deep_is = refl;
  few = omega arith;
}

-- sums of depths
max_open : (a l c r : ℕ) → r ≤ 1 → max (max (max a (l + c)) (l + r)) (l + 1) ≡ max (max (max a (l + c)) (l + 1)) (suc l + 0)
max_open a l c r h = go (max a (l + c))
  where
    go : (m : ℕ) → max (max m (l + r)) (l + 1) ≡ max (max m (l + 1)) (suc l + 0)
    go m = omega arith

max_empty : (a l c r : ℕ) → r ≤ 1 → max (max (max a (l + c)) (l + r)) (l + 1) ≡ max a (l + max c 1)
max_empty a l c r h = omega arith

max_close : (a l b c r : ℕ) →
    max (max (max (max a (l + b)) (l + 1)) (suc l + c)) (suc l + r) ≡ max a (l + max b (suc (max c r)))
max_close a l b c r = left (max (max a (l + b)) (l + 1)) ∙ right (max c r)
  where
    left : (m : ℕ) → max (max m (suc l + c)) (suc l + r) ≡ max m (suc l + max c r)
    left m = omega arith

    right : (m : ℕ) → max (max (max a (l + b)) (l + 1)) (suc l + m) ≡ max a (l + max b (suc m))
    right m = omega arith

pub closed_within : (w : List ℕ) (e : ℕ) (o : List Open) (f : Content) (t : Bytes) → Closed w e o f t → e ≤ length w
closed_within w e [] f t x = elim x [ ]
closed_within w e (p ∷ o) f t (closed h k) = k.within

-- three bytes or more for each open element
few_open : {w : List ℕ} {i : ℕ} {o : List Open} {f : Content} → At w i (in_run o f ε) → length w ≤ 32768 → length o ≤ 10922
unfolding pos_s
few_open {w} {i} {o} {f} h s = omega (arith, three o (at_good h tt).0, at_place h tt, h.within)

-- a document's answer
verdict : {w : List ℕ} {f : Content} {t : Bytes} {m d c p n : ℕ} → length w ≤ 32768 → Document w f t → m ≡ rows (shape f) → d ≡ depth (shape f) →
    Done m d c p n → Verdict w c p n
verdict short k is_m is_d (too_deep h) = deep short k (omega (arith, is_d))
verdict short k is_m is_d (too_many h j) = many short k (omega (arith, is_d)) (omega (arith, is_m))
verdict short k is_m is_d (done h j) = rw is_m (read short k (omega (arith, is_d)) (omega (arith, is_m)))

-- WHAT `map_err` MAKES of a tag's answer: a refusal in the place's stead
abbrev Mapped : Result Tag ℕ → Result Tag Refusal → Type 0
Mapped r m = MatchResult r (λ x. m ≡ Ok x) (λ q. IsErrAnd m (λ e. e ≡ Outside q))

-- A TURN: the run that starts at i ends at a, and makes n rows
module _ {w K L : List ℕ} {i kept depth rows deep : ℕ} (k : Scanned w K L i kept depth rows deep) {a n : ℕ} (run : RunTo w depth i a n) (short : length w ≤ 32768) where
  abbrev T : Bytes
  T = bytes w i (a - i)

  -- bounds, where the tag ends at e
  pub room_open : {n_end : ℕ} (e : ℕ) → OpenedTo w (a + 1) n_end e k.o k.f T → depth < 10922
  room_open e h = omega (arith, few_open h.here short, k.depth_is)

  pub room_close : depth ≤ 10922
  room_close = omega (arith, few_open k.here short, k.depth_is)

  pub bound : rows ≤ 65536
  bound = omega (arith, k.few, k.here.within, short)

  pub some_open : {e : ℕ} → Closed w e k.o k.f T → 0 < depth
  some_open {e} h = go k.o k.depth_is h
    where
      go : (o : List Open) → depth ≡ length o → Closed w e o k.f T → 0 < depth
      go [] d x = elim x [ ]
      go (p ∷ o) d (closed h q) = omega (arith, d)

  -- the names that are kept are places, and one more is in a document
  pub may_open_lem : (kept ≡ 64 → LowNames K) × (a + 1 < 65536)
  may_open_lem = (λ e. kept_low_names (some_kept k.held) e short, omega (arith, run.span.passed.within, short))

  -- an element ends
  pub may_close : {e : ℕ} → Closed w e k.o k.f T → MayClose w K L kept (depth - 1)
  may_close {e} h = go k.o h k.depth_is k.held k.all
    where
      go : (o : List Open) → Closed w e o k.f T → depth ≡ length o → InnermostKept w K L o kept → AllFrom w o → MayClose w K L kept (depth - 1)
      go [] x d held a = elim x [ ]
      go (p ∷ o) (closed h q) d held (one_more x from all) = record {
        keeping = k.keeping;
        shallow = omega (arith, room_close);
        short = short;
        p = p;
        o = o;
        ending = record { kept = held; all = all; deep = omega (arith, d) };
      }

  -- .. and there are m₁ rows then, the deepest at d₁
  module _ {m₁ d₁ : ℕ} (seen : (m₁ ≡ rows + n) × (d₁ ≡ max deep (depth + n))) where
    from : i ≤ a
    from = run.span.passed.from

    abbrev walked : Walked w i depth rows
    walked = record { o = k.o; f = k.f; here = k.here; depth_is = k.depth_is; rows_are = k.rows_are }

    made_leaf : n ≡ leaf_rows T
    made_leaf = made walked run

    made_few : n ≤ 1
    made_few = run.few

    -- x is read off the kept names
    pub tagging : {x : ℕ} → (0 < kept → x ≡ get_or K (kept - 1) 0) → get_or w a 0 ≡ 60 → Tagging w x depth m₁ a k.o k.f T
    tagging is_x h = rw seen.0 (to_tag walked run (top_kept k.held is_x) h)

    -- what is read of the tag, and what `map_err` made of that
    module _ {x : ℕ} (is_x : 0 < kept → x ≡ get_or K (kept - 1) 0) (h : get_or w a 0 ≡ 60) (r : Result Tag ℕ) (tagged : Tagged w x depth m₁ a r) where
      told : Does w (a + 1) k.o k.f T r
      told = tagged _ _ _ (tagging is_x h)

      pub place_short : (q : ℕ) → r ≡ Err q → q ≤ 32768
      place_short q e = let z : OutsideAt w q = subst (Does w (a + 1) k.o k.f T) e told in omega (arith, z.within)

      pub refused_at : {e : Refusal} → Mapped r (Err e) → (q : ℕ) × OutsideAt w q × (e ≡ Outside q)
      refused_at {e} = go r told
        where
          go : (r : Result Tag ℕ) → Does w (a + 1) k.o k.f T r → Mapped r (Err e) → (q : ℕ) × OutsideAt w q × (e ≡ Outside q)
          go (Ok y) d m = absurd (cc)
          go (Err q) d m = (q, d, m)

      pub tag_at : {y z : Tag} → Mapped r (Ok y) → y ≡ z → Does w (a + 1) k.o k.f T (Ok z)
      tag_at {y} {z} = go r told
        where
          go : (r : Result Tag ℕ) → Does w (a + 1) k.o k.f T r → Mapped r (Ok y) → y ≡ z → Does w (a + 1) k.o k.f T (Ok z)
          go (Ok v) d m is = let e : v ≡ z = cc in subst (λ (u : Tag). Does w (a + 1) k.o k.f T (Ok u)) e d
          go (Err q) d m is = absurd m

    pub bound_now : m₁ ≤ 65537
    bound_now = omega (arith, seen.0, k.few, from, run.span.passed.within, made_few, short)

    -- what is kept
    pub opens : {n_end : ℕ} (e : ℕ) → a + 1 < e → OpenedTo w (a + 1) n_end e k.o k.f T → {m₂ d₂ : ℕ} → (m₂ ≡ m₁ + 1) × (d₂ ≡ max d₁ (depth + 1)) →
        {K' L' : List ℕ} {kept' : ℕ} → OpenedOne K L kept depth (a + 1) K' L' kept' → Scanned w K' L' e kept' (depth + 1) m₂ d₂
    unfolding rows_o deep_o content_rows content_depth
    opens e l h more one = record {
      o = its_open ∷ k.o;
      f = nothing;
      here = h.here;
      depth_is = omega (arith, k.depth_is);
      held = one.it w its_open k.o (some_kept k.held) its_name k.depth_is;
      all = one_more (a + 1) its_name k.all;
      keeping = one.keeping;
      rows_are = omega (arith, more.0, seen.0, made_leaf, k.rows_are);
      deep_is = more.1 ∙ rw (seen.1, k.deep_is, k.depth_is, made_leaf) (max_open (deep_o k.o) (length k.o) (content_depth k.f) (leaf_rows T) (one_leaf T));
      few = omega (arith, more.0, seen.0, k.few, from, made_few);
    }
      where
        its_open : Open
        its_open = opened k.f T h.name h.space

        its_name : NameFrom w its_open k.o (a + 1)
        its_name = let z : a + 1 - 1 ≡ a = omega arith in record { some = omega arith; tag = rw z (at_run_lem walked run); named = h.named }

    pub empties : {n_end : ℕ} (e : ℕ) → a + 1 < e → EmptyTo w (a + 1) n_end e k.o k.f T → {m₂ d₂ : ℕ} → (m₂ ≡ m₁ + 1) × (d₂ ≡ max d₁ (depth + 1)) →
        Scanned w K L e kept depth m₂ d₂
    unfolding content_rows content_depth
    empties e l h more = record {
      o = k.o;
      f = empty_element k.f T h.name h.space;
      here = h.here;
      depth_is = k.depth_is;
      held = k.held;
      all = k.all;
      keeping = k.keeping;
      rows_are = omega (arith, more.0, seen.0, made_leaf, k.rows_are);
      deep_is = more.1 ∙ rw (seen.1, k.deep_is, k.depth_is, made_leaf) (max_empty (deep_o k.o) (length k.o) (content_depth k.f) (leaf_rows T) (one_leaf T));
      few = omega (arith, more.0, seen.0, k.few, from, made_few);
    }

    pub closes : (e : ℕ) → a + 1 < e → Closed w e k.o k.f T → {K' L' : List ℕ} {kept' : ℕ} → ClosedOne w K L kept (depth - 1) K' L' kept' →
        Scanned w K' L' e kept' (depth - 1) m₁ d₁
    unfolding rows_o deep_o content_rows content_depth
    closes e l h {K'} {L'} {kept'} one = go k.o h k.depth_is k.held k.all k.rows_are k.deep_is
      where
        go : (o : List Open) → Closed w e o k.f T → depth ≡ length o → InnermostKept w K L o kept → AllFrom w o → rows ≡ rows_o o + content_rows k.f →
            deep ≡ max (deep_o o) (length o + content_depth k.f) → Scanned w K' L' e kept' (depth - 1) m₁ d₁
        go [] x d held a r m = elim x [ ]
        go (p ∷ o) (closed h q) d held (one_more x from_x all) r m =
            let z : length o ≡ depth - 1 = omega (arith, d) in
            record {
              o = o;
              f = element p.before p.run p.name p.space k.f T h;
              here = q;
              depth_is = sym z;
              held = one.it p o (record { kept = held; all = all; deep = z });
              all = all;
              keeping = one.keeping;
              rows_are = omega (arith, seen.0, made_leaf, r);
              deep_is = seen.1 ∙ rw (m, d, made_leaf) (max_close (deep_o o) (length o) (content_depth p.before) (content_depth k.f) (leaf_rows T));
              few = omega (arith, seen.0, k.few, from, made_few);
            }

    -- WHAT IT ENDS WITH
    whole : length w ≤ a → depth ≡ 0 → 0 < rows + n → {c p m : ℕ} → Done m₁ d₁ c p m → Verdict w c p m
    unfolding deep_o
    whole q d r h =
        let D : Finished w k.f (rows + n) = finished walked run q d r in
        verdict short D.document (seen.0 ∙ D.rows_are) (seen.1 ∙ level k.o k.depth_is (run.outside d) k.deep_is ∙ sym (shape_depth k.f)) h
      where
        level : (o : List Open) → depth ≡ length o → n ≡ 0 → deep ≡ max (deep_o o) (length o + content_depth k.f) → max deep (depth + n) ≡ content_depth k.f
        level [] e y z = omega (arith, y, z, d)
        level (p ∷ o) e y z = absurd (omega (arith, d, e))

    pub ends : (get_or w a 0 ≡ 60 → ⊥) → {c p m : ℕ} → Last (length w) a depth m₁ d₁ c p m → Verdict w c p m
    ends b (ended q d r h) = whole q d (omega (arith, r, seen.0)) h
    ends b (early h) = outside short (refused walked run b (λ q d r. h q d (omega (arith, r, seen.0))))

-- code 3
pub outside_is : {w : List ℕ} {q : ℕ} {e : Refusal} (r : Result ℕ Refusal) → IsErrAnd r (λ x. x ≡ e) → length w ≤ 32768 → OutsideAt w q → e ≡ Outside q →
    Verdict w (code_of r) (place_of r) (rows_of r)
outside_is (Ok n) h short o e = absurd h
outside_is (Err x) h short o e = rw (h, e) (outside short o)
