-- What the pass that notes the rows keeps, and what it ends with.
use mathlib.Core.Path.{◌≡◌, refl, sym, ap, ◌∙◌}
use mathlib.Core.Bool.{Bool, true, false, cond}
use mathlib.Core.List.{List, [], ◌∷◌, ◌++◌, map, map-append}
use Prim.Native.Nat.{ℕ, suc, ◌+◌, ◌-◌, ◌≤◌, ◌<◌, max}
use native.Mathlib.Omega.{arith}
use lib.ListN.{length, get_or, set, length-set, length-map, length-append}
use lib.Seq.{get_or-set_same, get_or-set_other}
use Rattle.grammar.specs.Grammar.{Bytes, Content, nothing, empty_element, element, OutsideAt}
use Rattle.grammar.specs.Rows.{inked, #, width, Row, row, of_text}
use Rattle.grammar.specs.Machine.{Open, after_less, At}
use Rattle.grammar.proofs.Trees.{leaf_rows, content_rows, content_depth, shape_depth}
use Rattle.grammar.proofs.Positions.{off_o, pos_s, at_place}
use Rattle.grammar.proofs.Emitted.{leaf_on, named_on, rows_on, rows_o, at_run, at_tag, at_name, rows_s, rows_same}
use Rattle.tokens.specs.Tokens.{Span, bytes, name_at}
use Rattle.judge.specs.Tags.{RunTo, Closed, closed, OpenedTo, EmptyTo, Top, Tagging}
use Rattle.openings.specs.OpenNames.{Named, opened}
use Rattle.judge.proofs.Turns.{count, less}
use Rattle.judge.proofs.Judging.{rows_o as count_o, deep_o, Walked, Finished, made, to_tag, refused, finished}
use Rattle.labels.specs.Lists.{Holds, Long, Put}
use Rattle.rows.specs.Notes.{RowsNoted, TooLarge}
use Rattle.rows.specs.Turns.{RunPut, noted, passed_over}
use Rattle.labels.proofs.Holding.{holds_beside, holds_more, holds_again}
use Rattle.rows.proofs.Sizes.{leaf_sizes, sizes_on, sizes_o, before_o, sizes_long, open_long, before_long, own_size, sizes_tree}
use Rattle.rows.proofs.Large.{leaf_count, run_count, too_many, too_deep}

abbrev start_of : Row → ℕ
start_of x = x.start

abbrev length_of : Row → ℕ
length_of x = # x.spelling

-- THE OPEN ELEMENTS
-- x is the row of the innermost open element p
pub record Topmost (w S L : List ℕ) (x : ℕ) (p : Open) (o : List Open) : Type 0 where
  pub place : suc x ≡ count_o (p ∷ o)
  pub named : Named w (get_or S x 0) p.name
  pub long : get_or L x 0 ≡ # p.name

-- .. and H has at k the row of the element that k others hold
abbrev pub Held : (w S L H : List ℕ) → ℕ → List Open → Type 0
Held w S L H x [] = x < 2052
Held w S L H x (p ∷ o) = Topmost w S L x p o × Held w S L H (get_or H (length o) 0) o

fewer : (p : Open) (o : List Open) → count_o o ≤ count_o (p ∷ o)
unfolding count_o
fewer p o = omega arith

held_put : (w S L H : List ℕ) (x k u v : ℕ) (o : List Open) → count_o o ≤ k → Held w S L H x o → Held w (set S k u) (set L k v) H x o
held_put w S L H x k u v [] h q = q
held_put w S L H x k u v (p ∷ o) h q =
    let l : x < k = omega (arith, q.0.place) in
    let below : count_o o ≤ k = omega (arith, fewer p o) in (
      record {
        place = q.0.place;
        named = rw (get_or-set_other S k x u 0 (λ e. omega (arith, l, e))) q.0.named;
        long = get_or-set_other L k x v 0 (λ e. omega (arith, l, e)) ∙ q.0.long;
      },
      held_put w S L H (get_or H (length o) 0) k u v o below q.1,
    )

held_open : (w S L H : List ℕ) (x k v : ℕ) (o : List Open) → length o ≤ k → Held w S L H x o → Held w S L (set H k v) x o
held_open w S L H x k v [] h q = q
held_open w S L H x k v (p ∷ o) h q =
    (q.0, rw (get_or-set_other H k (length o) v 0 (λ e. omega arith)) (held_open w S L H (get_or H (length o) 0) k v o (omega arith) q.1))

held_low : (w S L H : List ℕ) (x n : ℕ) (o : List Open) → count_o o ≤ n → n ≤ 2051 → Held w S L H x o → x < 2052
held_low w S L H x n [] h l q = q
held_low w S L H x n (p ∷ o) h l q = omega (arith, q.0.place)

-- THE LOOP'S INVARIANT
pub record Noting (w S L Z H : List ℕ) (i x depth n : ℕ) : Type 0 where
  pub walked : Walked w i depth n
  pub shallow : max (deep_o walked.o) (length walked.o + content_depth walked.f) ≤ 64
  pub long : Long S L Z
  pub room : length H ≡ 64
  pub starts_are : Holds (map start_of (at_run walked.o walked.f)) S
  pub lengths_are : Holds (map length_of (at_run walked.o walked.f)) L
  pub sizes_are : Holds (sizes_on (sizes_o walked.o) walked.f) Z
  pub held : Held w S L H x walked.o

pub begins : (w S L Z H : List ℕ) → Long S L Z → length H ≡ 64 → Noting w S L Z H 0 0 0 0
unfolding count_o deep_o content_rows content_depth rows_on rows_o sizes_on sizes_o
begins w S L Z H long h = record {
  walked = record { o = []; f = nothing; here = record { within = omega arith; is = refl }; depth_is = refl; rows_are = refl };
  shallow = omega arith;
  long = long;
  room = h;
  starts_are = record { rest = S; is = refl };
  lengths_are = record { rest = L; is = refl };
  sizes_are = record { rest = Z; is = refl };
  held = omega arith;
}

row_more : (g : Row → ℕ) (R : List Row) (x : Row) (l : List ℕ) (n : ℕ) → length (map g R) ≡ n → n < length l → Holds (map g R) l →
    Holds (map g (R ++ (x ∷ []))) (set l n (g x))
row_more g R x l n e h k = rw (map-append g R (x ∷ [])) (holds_more (map g R) l n (g x) e h k)

-- a row is put behind those that are noted, and may count
row_put : (g : Row → ℕ) (y : Bool) (R : List Row) (x : Row) (l l' : List ℕ) (n v : ℕ) → length R ≡ n → n < length l → Holds (map g R) l → g x ≡ v → l' ≡ set l n v →
    Holds (map g (cond y (R ++ (x ∷ [])) R)) l'
row_put g true R x l l' n v e h k p q = rw (q, ← p) (row_more g R x l n (length-map R g ∙ e) h k)
row_put g false R x l l' n v e h k p q = rw q (holds_beside (map g R) l n v (length-map R g ∙ e) h k)

size_put : (y : Bool) (xs l l' : List ℕ) (n v : ℕ) → length xs ≡ n → n < length l → Holds xs l → l' ≡ set l n v → Holds (cond y (xs ++ (v ∷ [])) xs) l'
size_put true xs l l' n v e h k q = rw q (holds_more xs l n v e h k)
size_put false xs l l' n v e h k q = rw q (holds_beside xs l n v e h k)

long_put : {n u v : ℕ} {S L Z S' L' Z' : List ℕ} → Long S L Z → Put n u v S L Z S' L' Z' → Long S' L' Z'
long_put {n} {u} {v} {S} {L} {Z} h p = record {
  starts_long = ap length p.start_put ∙ length-set S n u ∙ h.starts_long;
  lengths_long = ap length p.length_put ∙ length-set L n v ∙ h.lengths_long;
  sizes_long = ap length p.size_put ∙ length-set Z n 1 ∙ h.sizes_long;
}

left_few : (x y : ℕ) → max x y ≤ 64 → x ≤ 64
left_few x y h = omega arith

both_few : (x y : ℕ) → x ≤ 64 → y ≤ 64 → max x y ≤ 64
both_few x y h k = omega arith

-- an element that ends is no deeper than what was open
shallow_close : (a l b c r : ℕ) → max (max (max a (l + b)) (l + 1)) (suc l + c) ≤ 64 → suc l + r ≤ 64 → max a (l + max b (suc (max c r))) ≤ 64
shallow_close a l b c r h k =
    let u : max a (l + b) ≤ 64 = left_few (max a (l + b)) (l + 1) (left_few (max (max a (l + b)) (l + 1)) (suc l + c) h) in
    let v : suc l + c ≤ 64 = right (max (max a (l + b)) (l + 1)) (suc l + c) h in
    both_few a (l + max b (suc (max c r))) (left_few a (l + b) u) (inner (right a (l + b) u) v)
  where
    right : (x y : ℕ) → max x y ≤ 64 → y ≤ 64
    right x y h = omega arith

    inner : l + b ≤ 64 → suc l + c ≤ 64 → l + max b (suc (max c r)) ≤ 64
    inner p q = omega arith

pub few_open : {w S L Z H : List ℕ} {i x depth n : ℕ} → Noting w S L Z H i x depth n → depth ≤ 64
unfolding deep_o
few_open {w} {S} {L} {Z} {H} {i} {x} {depth} k = go k.walked.o k.walked.depth_is k.shallow
  where
    go : (o : List Open) → depth ≡ length o → max (deep_o o) (length o + content_depth k.walked.f) ≤ 64 → depth ≤ 64
    go [] d s = omega (arith, d)
    go (p ∷ o) d s = omega (arith, d, s)

-- A TURN: the run that starts at i ends at a, and makes m rows
module _ {w S L Z H : List ℕ} {i x depth n : ℕ} (k : Noting w S L Z H i x depth n) (few : n ≤ 2048) {a m : ℕ} (run : RunTo w depth i a m) where
  abbrev O : List Open
  O = k.walked.o

  abbrev F : Content
  F = k.walked.f

  abbrev T : Bytes
  T = bytes w i (a - i)

  start_is : off_o O + width F ≡ i
  unfolding pos_s
  start_is = omega (arith, at_place k.walked.here tt)

  made_is : m ≡ leaf_rows T
  made_is = made k.walked run

  pub few_made : m ≤ 1
  few_made = run.few

  rows_run : length (at_run O F) ≡ n
  rows_run = run_count O F ∙ sym k.walked.rows_are

  -- what is noted once the run is behind
  record Leaf (S' L' Z' : List ℕ) : Type 0 where
    pub long : Long S' L' Z'
    pub starts : Holds (map start_of (at_tag O F T)) S'
    pub lengths : Holds (map length_of (at_tag O F T)) L'
    pub sizes : Holds (leaf_sizes (sizes_on (sizes_o O) F) T) Z'
    pub held : Held w S' L' H x O

  leaf_put : {S' L' Z' : List ℕ} → Put n i (a - i) S L Z S' L' Z' → Leaf S' L' Z'
  unfolding leaf_on leaf_sizes
  leaf_put {S'} {L'} {Z'} put = record {
    long = long_put k.long put;
    starts = row_put start_of (inked T) (at_run O F) _ S S' n i rows_run (omega (arith, few, k.long.starts_long)) k.starts_are start_is put.start_put;
    lengths = row_put length_of (inked T) (at_run O F) _ L L' n (a - i) rows_run (omega (arith, few, k.long.lengths_long)) k.lengths_are (count w i (a - i)) put.length_put;
    sizes = size_put (inked T) (sizes_on (sizes_o O) F) Z Z' n 1 (sizes_long (sizes_o O) F ∙ omega (arith, open_long O, k.walked.rows_are))
        (omega (arith, few, k.long.sizes_long)) k.sizes_are put.size_put;
    held = rw (put.start_put, put.length_put) (held_put w S L H x n i (a - i) O (omega (arith, k.walked.rows_are)) k.held);
  }

  -- a run that makes no row
  blank : m ≡ 0 → inked T ≡ false
  blank e = go (inked T) run.makes
    where
      go : (y : Bool) → m ≡ cond y 1 0 → y ≡ false
      go true q = absurd (omega (arith, e, q))
      go false q = refl

  leaf_none : m ≡ 0 → Leaf S L Z
  unfolding leaf_on leaf_sizes
  leaf_none e = record { long = k.long; starts = rw (blank e) k.starts_are; lengths = rw (blank e) k.lengths_are; sizes = rw (blank e) k.sizes_are; held = k.held }

  leaf : {S' L' Z' : List ℕ} → RunPut n i a m S L Z S' L' Z' → Leaf S' L' Z'
  leaf (noted put) = leaf_put put
  leaf (passed_over e) = leaf_none e

  -- its row is put, if it makes one
  module _ {S' L' Z' : List ℕ} (put : RunPut n i a m S L Z S' L' Z') where
    leaf_long : Long S' L' Z'
    leaf_long = (leaf put).long

    leaf_starts : Holds (map start_of (at_tag O F T)) S'
    leaf_starts = (leaf put).starts

    leaf_lengths : Holds (map length_of (at_tag O F T)) L'
    leaf_lengths = (leaf put).lengths

    leaf_sizes_are : Holds (leaf_sizes (sizes_on (sizes_o O) F) T) Z'
    leaf_sizes_are = (leaf put).sizes

    leaf_held : Held w S' L' H x O
    leaf_held = (leaf put).held

    pub low_top : x < 2052
    low_top = held_low w S' L' H x n O (omega (arith, k.walked.rows_are)) (omega (arith, few)) leaf_held

    -- THE TAG
    module _ {name size : ℕ} (is_name : name ≡ get_or S' x 0) (is_size : size ≡ get_or L' x 0) where
      pub name_span : 0 < depth → Span (name_at w) w name (name + size)
      name_span d = go O k.walked.depth_is leaf_held
        where
          go : (o : List Open) → depth ≡ length o → Held w S' L' H x o → Span (name_at w) w name (name + size)
          go [] e h = absurd (omega (arith, d, e))
          go (p ∷ o) e h = rw (is_name, is_size, h.0.long) h.0.named.span

      pub tagging : get_or w a 0 ≡ 60 → Tagging w name depth (n + m) a O F T
      tagging h = to_tag k.walked run (go O leaf_held) h
        where
          go : (o : List Open) → Held w S' L' H x o → Top w name o
          go [] h = tt
          go (p ∷ o) h = rw is_name h.0.named

    tag_count : length (at_tag O F T) ≡ n + m
    tag_count = leaf_count (at_run O F) (suc (length O)) (off_o O + width F) T ∙ omega (arith, rows_run, made_is)

    size_count : length (leaf_sizes (sizes_on (sizes_o O) F) T) ≡ n + m
    unfolding leaf_sizes leaf_rows
    size_count = go (inked T) run.makes
      where
        own : length (sizes_on (sizes_o O) F) ≡ n
        own = sizes_long (sizes_o O) F ∙ omega (arith, open_long O, k.walked.rows_are)

        go : (y : Bool) → m ≡ cond y 1 0 → length (cond y (sizes_on (sizes_o O) F ++ (1 ∷ [])) (sizes_on (sizes_o O) F)) ≡ n + m
        go true e = length-append (sizes_on (sizes_o O) F) (1 ∷ []) ∙ omega (arith, own, e)
        go false e = omega (arith, own, e)

    -- a start tag's row is put behind it
    module _ {S₂ L₂ Z₂ : List ℕ} {e : ℕ} (again : Put (n + m) (a + 1) (e - (a + 1)) S' L' Z' S₂ L₂ Z₂) (N : Bytes) (ends : e ≡ a + 1 + # N) where
      name_starts : Holds (map start_of (at_name O F T N)) S₂
      unfolding named_on
      name_starts =
          row_put start_of true (at_tag O F T) _ S' S₂ (n + m) (a + 1) tag_count (omega (arith, few, few_made, leaf_long.starts_long)) leaf_starts
          (omega (arith, start_is, count w i (a - i), run.span.passed.from)) again.start_put

      name_lengths : Holds (map length_of (at_name O F T N)) L₂
      unfolding named_on
      name_lengths =
          row_put length_of true (at_tag O F T) _ L' L₂ (n + m) (e - (a + 1)) tag_count (omega (arith, few, few_made, leaf_long.lengths_long)) leaf_lengths
          (omega (arith, ends)) again.length_put

      name_sizes : Holds (leaf_sizes (sizes_on (sizes_o O) F) T ++ (1 ∷ [])) Z₂
      name_sizes = size_put true (leaf_sizes (sizes_on (sizes_o O) F) T) Z' Z₂ (n + m) 1 size_count (omega (arith, few, few_made, leaf_long.sizes_long)) leaf_sizes_are again.size_put

      name_held : Held w S₂ L₂ H x O
      name_held =
          rw (again.start_put, again.length_put)
          (held_put w S' L' H x (n + m) (a + 1) (e - (a + 1)) O (omega (arith, k.walked.rows_are)) leaf_held)

    pub opens : {S₂ L₂ Z₂ : List ℕ} {e r : ℕ} → Put (n + m) (a + 1) (e - (a + 1)) S' L' Z' S₂ L₂ Z₂ → OpenedTo w (a + 1) e r O F T → depth ≤ 63 →
        Noting w S₂ L₂ Z₂ (set H depth x) r (n + m) (depth + 1) (n + m + 1)
    unfolding count_o deep_o content_rows content_depth rows_on rows_o sizes_on sizes_o
    opens {S₂} {L₂} {Z₂} {e} {r} again h d = record {
      walked = record {
        o = opened F T h.name h.space ∷ O;
        f = nothing;
        here = h.here;
        depth_is = omega (arith, k.walked.depth_is);
        rows_are = omega (arith, k.walked.rows_are, made_is);
      };
      shallow = omega (arith, k.shallow, k.walked.depth_is, d);
      long = long_put leaf_long again;
      room = length-set H depth x ∙ k.room;
      starts_are = name_starts again h.name h.long;
      lengths_are = name_lengths again h.name h.long;
      sizes_are = name_sizes again h.name h.long;
      held = (
        record {
          place = omega (arith, k.walked.rows_are, made_is);
          named = rw (again.start_put, get_or-set_same S' (n + m) (a + 1) 0 (omega (arith, few, few_made, leaf_long.starts_long))) h.named;
          long = rw again.length_put (get_or-set_same L' (n + m) (e - (a + 1)) 0 (omega (arith, few, few_made, leaf_long.lengths_long)) ∙ omega (arith, h.long));
        },
        rw (← k.walked.depth_is, get_or-set_same H depth x 0 (omega (arith, k.room, d)))
            (held_open w S₂ L₂ H x depth x O (omega (arith, k.walked.depth_is)) (name_held again h.name h.long)),
      );
    }

    pub empties : {S₂ L₂ Z₂ : List ℕ} {e r : ℕ} → Put (n + m) (a + 1) (e - (a + 1)) S' L' Z' S₂ L₂ Z₂ → EmptyTo w (a + 1) e r O F T → depth ≤ 63 →
        Noting w S₂ L₂ Z₂ H r x depth (n + m + 1)
    unfolding content_rows content_depth rows_on sizes_on
    empties {S₂} {L₂} {Z₂} {e} {r} again h d = record {
      walked = record {
        o = O;
        f = empty_element F T h.name h.space;
        here = h.here;
        depth_is = k.walked.depth_is;
        rows_are = omega (arith, k.walked.rows_are, made_is);
      };
      shallow = omega (arith, k.shallow, k.walked.depth_is, d);
      long = long_put leaf_long again;
      room = k.room;
      starts_are = name_starts again h.name h.long;
      lengths_are = name_lengths again h.name h.long;
      sizes_are = name_sizes again h.name h.long;
      held = name_held again h.name h.long;
    }

    -- an end tag
    pub some_open : {r : ℕ} → Closed w r O F T → 0 < depth
    some_open {r} h = go O k.walked.depth_is h
      where
        go : (o : List Open) → depth ≡ length o → Closed w r o F T → 0 < depth
        go [] d x = elim x [ ]
        go (p ∷ o) d (closed h q) = omega (arith, d)

    pub top_before : {r : ℕ} → Closed w r O F T → x ≤ n + m
    top_before {r} h = go O k.walked.rows_are leaf_held h
      where
        go : (o : List Open) → n ≡ count_o o + content_rows F → Held w S' L' H x o → Closed w r o F T → x ≤ n + m
        go [] c q x = elim x [ ]
        go (p ∷ o) c q (closed h z) = omega (arith, c, q.0.place)

    pub closes : {r y : ℕ} → Closed w r O F T → depth + m ≤ 64 → y ≡ get_or H (depth - 1) 0 →
        Noting w S' L' (set Z' x (n + m - x)) H r y (depth - 1) (n + m)
    unfolding count_o deep_o content_rows content_depth rows_on rows_o off_o sizes_on sizes_o
    closes {r} {y} h l is_y = go O h k.walked.depth_is k.walked.rows_are k.shallow leaf_starts leaf_lengths leaf_sizes_are leaf_held
      where
        go : (o : List Open) → Closed w r o F T → depth ≡ length o → n ≡ count_o o + content_rows F → max (deep_o o) (length o + content_depth F) ≤ 64 →
            Holds (map start_of (at_tag o F T)) S' → Holds (map length_of (at_tag o F T)) L' → Holds (leaf_sizes (sizes_on (sizes_o o) F) T) Z' → Held w S' L' H x o →
            Noting w S' L' (set Z' x (n + m - x)) H r y (depth - 1) (n + m)
        go [] x d c s starts lengths sizes held = elim x [ ]
        go (p ∷ o) (closed g q) d c s starts lengths sizes held =
            let size : n + m - x ≡ suc (content_rows F + leaf_rows T) = omega (arith, c, made_is, held.0.place) in
            let last : length o ≡ depth - 1 = omega (arith, d) in
            record {
              walked = record {
                o = o;
                f = element p.before p.run p.name p.space F T g;
                here = q;
                depth_is = sym last;
                rows_are = omega (arith, c, made_is);
              };
              shallow = shallow_close (deep_o o) (length o) (content_depth p.before) (content_depth F) (leaf_rows T) s (omega (arith, l, d, made_is));
              long = record {
                starts_long = leaf_long.starts_long;
                lengths_long = leaf_long.lengths_long;
                sizes_long = length-set Z' x (n + m - x) ∙ leaf_long.sizes_long;
              };
              room = k.room;
              starts_are = starts;
              lengths_are = lengths;
              sizes_are = rw (own_size (before_o p o) (suc (content_rows F + leaf_rows T)) F T, size)
                  (holds_again (before_o p o) (leaf_sizes (sizes_on [] F) T) Z' 1 x (suc (content_rows F + leaf_rows T)) (omega (arith, before_long p o, held.0.place)) (rw (own_size (before_o p o) 1 F T) at sizes));
              held = rw (is_y, ← last) held.1;
            }

    -- THE END
    pub finish : length w ≤ a → depth ≡ 0 → 0 < n + m → RowsNoted w S' L' Z' (n + m)
    unfolding deep_o rows_o off_o sizes_o leaf_on leaf_sizes
    finish q d r =
        let none : inked T ≡ false = blank (run.outside d) in
        go O k.walked.depth_is k.shallow (rw none at leaf_starts) (rw none at leaf_lengths) (rw none at leaf_sizes_are) (finished k.walked run q d r)
      where
        go : (o : List Open) → depth ≡ length o → max (deep_o o) (length o + content_depth F) ≤ 64 → Holds (map start_of (at_run o F)) S' → Holds (map length_of (at_run o F)) L' →
            Holds (sizes_on (sizes_o o) F) Z' → Finished w F (n + m) → RowsNoted w S' L' Z' (n + m)
        go [] z s starts lengths sizes D = record {
          long = leaf_long;
          f = F;
          t = D.t;
          document = D.document;
          shallow = omega (arith, s, shape_depth F);
          rows_are = sym D.rows_are;
          few = omega (arith, few, run.outside d);
          starts_are = rw (rows_same F) at starts;
          lengths_are = rw (rows_same F) at lengths;
          sizes_are = rw (sizes_tree (λ q s. 0) F) at sizes;
        }
        go (p ∷ o) z s starts lengths sizes D = absurd (omega (arith, d, z))

    pub early : (get_or w a 0 ≡ 60 → ⊥) → ((length w ≤ a) × (depth ≡ 0) × (0 < n + m) → ⊥) → OutsideAt w a
    early b h = refused k.walked run b (λ q d l. h (q, d, l))

    -- BEYOND THE LIMITS
    pub deep_text : get_or w a 0 ≡ 60 → 64 < depth + m → TooLarge w
    unfolding rows_s leaf_on
    deep_text b h = go (inked T) run.makes refl
      where
        there : At w (a + 1) (after_less O F T)
        there = less (tagging refl refl b) (λ d. absurd (omega (arith, d, h, few_made)))

        go : (y : Bool) → m ≡ cond y 1 0 → inked T ≡ y → TooLarge w
        go true e q = too_deep there (at_run O F) (row of_text (suc (length O)) (off_o O + width F) T) (simp q) (omega (arith, h, few_made, k.walked.depth_is))
        go false e q = absurd (omega (arith, h, e, few_open k))

    pub deep_open : {e r : ℕ} → OpenedTo w (a + 1) e r O F T → 63 < depth → TooLarge w
    unfolding rows_s rows_on rows_o named_on
    deep_open h d = too_deep h.here (at_tag O F T) _ refl (omega (arith, d, k.walked.depth_is))

    pub deep_empty : {e r : ℕ} → EmptyTo w (a + 1) e r O F T → 63 < depth → TooLarge w
    unfolding rows_s rows_on named_on
    deep_empty h d = too_deep h.here (at_tag O F T) _ refl (omega (arith, d, k.walked.depth_is))

pub many_rows : {w S L Z H : List ℕ} {i x depth n : ℕ} → Noting w S L Z H i x depth n → 2048 < n → TooLarge w
unfolding rows_s
many_rows k h = too_many k.walked.here (omega (arith, h, run_count k.walked.o k.walked.f, k.walked.rows_are))
