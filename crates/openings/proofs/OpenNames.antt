-- The names that are kept, and those that are found again, are the open names.
use mathlib.Core.Path.{◌≡◌, refl, sym, ◌∙◌}
use mathlib.Core.Bool.{Bool, true, false}
use mathlib.Core.List.{List, [], ◌∷◌}
use Prim.Native.Nat.{ℕ, zero, suc, ◌+◌, ◌-◌, ◌≤◌, ◌<◌}
use native.Mathlib.Omega.{arith}
use native.Mathlib.Numerals.{add-one}
use native.Mathlib.Decide.{ℕ_discrete}
use lib.Dec.{ltb}
use lib.ListN.{length, get_or, set, length-set}
use lib.Seq.{get_or-set_same, get_or-set_other}
use borrow.Author.Tests.{ltb-true, ltb-false}
use Rattle.grammar.specs.Machine.{Open}
use Rattle.grammar.proofs.Positions.{at_place}
use Rattle.openings.specs.OpenNames.{TagAt, NameFrom, AllFrom, one_more, Between, none_kept, forgotten, kept, SomeKept, InnermostKept, all_closed, innermost, Keeping, LowNames, Stays, Spared, OpenedOne, OpenAt, SomeOpen, AllOpen, MayFind, FoundAgain, Finds, reaches, ElementEnds, MayClose, ClosedOne}

-- WHAT IS KEPT BETWEEN
-- there are no fewer
between_more : {w K L : List ℕ} {o : List Open} {m : ℕ} {o' : List Open} {n : ℕ} → Between w K L o m o' n → m ≤ n
between_more none_kept = omega arith
between_more (forgotten b) = between_more b
between_more (kept x l b) = omega (arith, between_more b)

-- as many more are open as are kept, or more
between_open : {w K L : List ℕ} {o : List Open} {m : ℕ} {o' : List Open} {n : ℕ} → Between w K L o m o' n → length o + n ≤ length o' + m
between_open none_kept = omega arith
between_open (forgotten b) = omega (arith, between_open b)
between_open (kept x l b) = omega (arith, between_open b)

-- it stays where the places between stay
between_same : {w K L K' L' : List ℕ} {o : List Open} {m : ℕ} {o' : List Open} {n : ℕ} → Between w K L o m o' n →
    ((k : ℕ) → m ≤ k → k < n → (get_or K' k 0 ≡ get_or K k 0) × (get_or L' k 0 ≡ get_or L k 0)) → Between w K' L' o m o' n
between_same none_kept s = none_kept
between_same (forgotten b) s = forgotten (between_same b s)
between_same {w} {K' = K'} (kept {p} {o' = r} {n} x l b) s =
    let e = s n (between_more b) (omega arith) in
    let x' : NameFrom w p r (get_or K' n 0) = rw e.0 x in
    kept x' (e.1 ∙ l) (between_same b (λ k u v. s k u (omega arith)))

-- two parts make one
joined : {w K L : List ℕ} {o o' : List Open} {m n : ℕ} {o'' : List Open} {l : ℕ} → Between w K L o m o' n → Between w K L o' n o'' l → Between w K L o m o'' l
joined a none_kept = a
joined a (forgotten b) = forgotten (joined a b)
joined a (kept x l b) = kept x l (joined a b)

-- the levels are those of open elements
level_low : {w K L : List ℕ} {o : List Open} {m : ℕ} {o' : List Open} {n : ℕ} → Between w K L o m o' n → (k : ℕ) → m ≤ k → k < n → get_or L k 0 < length o'
level_low none_kept k u v = absurd (omega arith)
level_low (forgotten b) k u v = omega (arith, level_low b k u v)
level_low {L = L} (kept {o' = r} {n = n} x l b) k u v = go (ltb k n) refl (level_low b k u)
  where
    go : (y : Bool) → ltb k n ≡ y → (k < n → get_or L k 0 < length r) → get_or L k 0 < suc (length r)
    go true e again = omega (arith, again (ltb-true k n e))
    go false e again = let z : k ≡ n = omega (arith, ltb-false k n e) in rw z (omega (arith, l))

-- A NAME AND ITS LEVEL ARE PUT at k
module _ {K L : List ℕ} {n : ℕ} (h : Keeping K L n) (k x level : ℕ) where
  put_long : {m : ℕ} → m ≤ 64 → Keeping (set K k x) (set L k level) m
  put_long low =
      record { names_long = length-set K k x ∙ h.names_long; levels_long = length-set L k level ∙ h.levels_long; few = low }

  put_other : (j : ℕ) → (j ≡ k → ⊥) → (get_or (set K k x) j 0 ≡ get_or K j 0) × (get_or (set L k level) j 0 ≡ get_or L j 0)
  put_other j d = (get_or-set_other K k j x 0 d, get_or-set_other L k j level 0 d)

  put_there : {w : List ℕ} {p : Open} {o : List Open} → k < 64 → NameFrom w p o x → level ≡ length o →
      NameFrom w p o (get_or (set K k x) k 0) × (get_or (set L k level) k 0 ≡ length o)
  put_there low from deep = (
    rw (get_or-set_same K k x 0 (omega (arith, h.names_long))) from,
    get_or-set_same L k level 0 (omega (arith, h.levels_long)) ∙ deep,
  )

-- ONE MORE IS OPEN
pub opens_one : {K L : List ℕ} {kept depth name : ℕ} {K' L' : List ℕ} {k : ℕ} → Spared K L kept K' L' k → OpenedOne K L kept depth name (set K' k name) (set L' k depth) (k + 1)
opens_one {depth = depth} {name} {K'} {L'} {k} h = record {
  keeping = put_long h.keeping k name depth (omega (arith, h.room));
  it = λ w p o s from deep.
      let x = put_there h.keeping k name depth h.room from deep in
      rw (add-one k) (innermost x.0 x.1 (between_same (h.still w o s) (λ j u v. put_other h.keeping k name depth j (λ e. omega arith))));
}

pub some_kept : {w K L : List ℕ} {o : List Open} {n : ℕ} → InnermostKept w K L o n → SomeKept w K L o n
some_kept all_closed = none_kept
some_kept (innermost x l b) = kept x l b

-- THE INNERMOST ENDS
pub reaches_is : (L : List ℕ) (n : ℕ) → (n ≡ 0 → ⊥) → get_or L (n - 1) 0 + 1 ≡ reaches L n
reaches_is L zero h = absurd (h refl)
reaches_is L (suc n) h = let z : suc n - 1 ≡ n = omega arith in rw z refl

pub reaches_low : {w K L : List ℕ} {o : List Open} (n : ℕ) → SomeKept w K L o n → reaches L n ≤ length o
reaches_low zero b = omega arith
reaches_low (suc n) b = omega (arith, level_low b n (omega arith) (omega arith))

-- the innermost open one is kept
pub reaches_all : {w K L : List ℕ} {o : List Open} {n : ℕ} → SomeKept w K L o n → reaches L n ≡ length o → InnermostKept w K L o n
reaches_all none_kept e = all_closed
reaches_all {n = n} (forgotten b) e = absurd (omega (arith, e, reaches_low n b))
reaches_all (kept x l b) e = innermost x l b

-- or none of those from r on
under_one : {w K L : List ℕ} {p : Open} {o : List Open} (n : ℕ) → SomeKept w K L (p ∷ o) n → reaches L n ≤ length o → SomeKept w K L o n
under_one n (forgotten b) h = b
under_one (suc n) (kept x l b) h = absurd (omega (arith, l, h))

under : {w K L K' L' : List ℕ} {r : List Open} {m : ℕ} {o : List Open} {l n : ℕ} → Between w K' L' r m o l → SomeKept w K L o n → reaches L n ≤ length r → SomeKept w K L r n
under none_kept b h = b
under {n = n} (forgotten a) b h = under a (under_one n b (omega (arith, h, between_open a, between_more a))) h
under {n = n} (kept x l a) b h = under a (under_one n b (omega (arith, h, between_open a, between_more a))) h

-- where as many are kept as are open, the innermost is
all_kept : {w K L : List ℕ} {r o : List Open} {m n : ℕ} → Between w K L r m o n → m < n → length r + n ≡ length o + m → SomeKept w K L r m → InnermostKept w K L o n
all_kept none_kept h e s = absurd (omega arith)
all_kept (forgotten b) h e s = absurd (omega (arith, e, between_open b))
all_kept (kept x l b) h e s = innermost x l (joined s b)

-- THE OUTER ONES ARE THINNED OUT
-- from the first j names, of elements that are open in q, to the next: it is p's, which o' hold
record NextKept (w K L : List ℕ) (q : List Open) (j : ℕ) (o : List Open) (n : ℕ) : Type 0 where
  p : Open
  o' : List Open
  from : NameFrom w p o' (get_or K j 0)
  at_level : get_or L j 0 ≡ length o'
  past : {K' L' : List ℕ} {t : ℕ} → SomeKept w K' L' q t → SomeKept w K' L' o' t
  rest : Between w K L (p ∷ o') (suc j) o n

none_between : {w K L K' L' : List ℕ} {q : List Open} {j : ℕ} {o : List Open} {n t : ℕ} → Between w K L q j o n → n ≡ j → SomeKept w K' L' q t → SomeKept w K' L' o t
none_between none_kept e s = s
none_between (forgotten b) e s = forgotten (none_between b e s)
none_between (kept x l b) e s = absurd (omega (arith, e, between_more b))

next_kept : {w K L : List ℕ} {q : List Open} {j : ℕ} {o : List Open} {n : ℕ} → Between w K L q j o n → j < n → NextKept w K L q j o n
next_kept none_kept h = absurd (omega arith)
next_kept (forgotten b) h = let r = next_kept b h in record { p = r.p; o' = r.o'; from = r.from; at_level = r.at_level; past = r.past; rest = forgotten r.rest }
next_kept {w} {K} {L} {q} {j = j} (kept {p} {o' = o'} {n} x l b) h = go (ltb j n) refl (next_kept b)
  where
    go : (y : Bool) → ltb j n ≡ y → (j < n → NextKept w K L q j o' n) → NextKept w K L q j (p ∷ o') (suc n)
    go true e again =
        let r = again (ltb-true j n e) in
        record { p = r.p; o' = r.o'; from = r.from; at_level = r.at_level; past = r.past; rest = kept x l r.rest }
    go false e again =
        let z : j ≡ n = omega (arith, ltb-false j n e) in
        record { p = p; o' = o'; from = rw z x; at_level = rw z l; past = none_between b (sym z); rest = rw z none_kept }

-- the names so far, and those still to be looked at
pub record Thinning (K₀ L₀ K L : List ℕ) (t block j : ℕ) : Type 0 where
  pub keeping : Keeping K L t
  pub places : LowNames K
  pub behind : t ≤ j
  pub up_to : j ≤ 64
  pub low : block ≤ 32
  pub few : t ≤ block + (j - 48)
  pub parts : (w : List ℕ) (o : List Open) → SomeKept w K₀ L₀ o 64 → (q : List Open) × SomeKept w K L q t × Between w K L q j o 64

pub thin_begins : {K L : List ℕ} → Keeping K L 64 → LowNames K → Thinning K L K L 0 0 0
thin_begins k p = record {
  keeping = record { names_long = k.names_long; levels_long = k.levels_long; few = omega arith };
  places = p;
  behind = omega arith;
  up_to = omega arith;
  low = omega arith;
  few = omega arith;
  parts = λ w o s. ([], none_kept, s);
}

module _ {K₀ L₀ K L : List ℕ} {t block j : ℕ} (h : Thinning K₀ L₀ K L t block j) (more : j < 64) where
  set_low : (k : ℕ) → k < 64 → get_or (set K t (get_or K j 0)) k 0 ≤ 32768
  set_low k l = go (ℕ_discrete k t)
    where
      go : Dec (k ≡ t) → get_or (set K t (get_or K j 0)) k 0 ≤ 32768
      go (yes e) = rw (e, get_or-set_same K t (get_or K j 0) 0 (omega (arith, h.behind, h.keeping.names_long))) (h.places.low j more)
      go (no d) = rw (get_or-set_other K t k (get_or K j 0) 0 d) (h.places.low k l)

  pub thin_on : {count block' : ℕ} → Stays j block count block' → Thinning K₀ L₀ (set K t (get_or K j 0)) (set L t (get_or L j 0)) (t + count) block' (j + 1)
  thin_on {count} {block'} s = record {
    keeping = put_long h.keeping t (get_or K j 0) (get_or L j 0) (omega (arith, h.behind, s.few));
    places = record { low = set_low };
    behind = omega (arith, h.behind, s.few);
    up_to = omega arith;
    low = s.low;
    few = go (ltb j 48) refl;
    parts = λ w o k. part w o (h.parts w o k);
  }
    where
      go : (y : Bool) → ltb j 48 ≡ y → t + count ≤ block' + (j + 1 - 48)
      go true e = omega (arith, ltb-true j 48 e, s.outer (ltb-true j 48 e), h.few)
      go false e = omega (arith, ltb-false j 48 e, s.inner (ltb-false j 48 e), s.few, h.few)

      K' : List ℕ
      K' = set K t (get_or K j 0)

      L' : List ℕ
      L' = set L t (get_or L j 0)

      part : (w : List ℕ) (o : List Open) → (q : List Open) × SomeKept w K L q t × Between w K L q j o 64 → (q : List Open) × SomeKept w K' L' q (t + count) × Between w K' L' q (j + 1) o 64
      part w o (q, kept_so_far, to_come) =
          let r = next_kept to_come more in
          let moved : SomeKept w K' L' r.o' t = r.past (between_same kept_so_far (λ k u v. other k (λ e. omega arith))) in
          let there = put_there h.keeping t (get_or K j 0) (get_or L j 0) (omega (arith, h.behind)) r.from r.at_level in
          let z : j + 1 ≡ suc j = omega arith in
          (r.p ∷ r.o', counted count s.few (forgotten moved) (kept there.0 there.1 moved), rw z (between_same r.rest (λ k u v. other k (λ e. omega (arith, h.behind)))))
        where
          other : (k : ℕ) → (k ≡ t → ⊥) → (get_or K' k 0 ≡ get_or K k 0) × (get_or L' k 0 ≡ get_or L k 0)
          other = put_other h.keeping t (get_or K j 0) (get_or L j 0)

          counted : {x : List Open} (c : ℕ) → c ≤ 1 → SomeKept w K' L' x t → SomeKept w K' L' x (suc t) → SomeKept w K' L' x (t + c)
          counted zero l a b = let y : t + 0 ≡ t = omega arith in rw y a
          counted (suc zero) l a b = let y : t + 1 ≡ suc t = omega arith in rw y b
          counted (suc (suc c)) l a b = absurd (omega arith)

pub thinned : {K₀ L₀ K L : List ℕ} {t block j : ℕ} → Thinning K₀ L₀ K L t block j → 64 ≤ j → Spared K₀ L₀ 64 K L t
thinned h e = record {
  keeping = h.keeping;
  room = omega (arith, h.low, h.few, h.up_to);
  still = λ w o s. let r = h.parts w o s in none_between r.2 (omega (arith, e, h.up_to)) r.1;
}

pub spared_full : {K L K' L' : List ℕ} {kept r : ℕ} → kept ≡ 64 → Spared K L 64 K' L' r → Spared K L kept K' L' r
spared_full e h = rw e h

pub spared_some : {K L : List ℕ} {kept : ℕ} → Keeping K L kept → kept < 64 → Spared K L kept K L kept
spared_some k h = record { keeping = k; room = h; still = λ w o s. s }

-- NAMES ARE FOUND AGAIN
-- a start tag stands in one place
one_place : {w : List ℕ} {p : Open} {o : List Open} {a x : ℕ} → TagAt w a p o → NameFrom w p o x → NameFrom w p o (a + 1)
one_place {w} {p} {o} {a} {x} t n =
    let e : x ≡ a + 1 = omega (arith, sym (at_place t tt) ∙ at_place n.tag tt, n.some) in
    rw (← e) n

-- the walk has come to at, where the elements r are open
pub record Finding (w K L : List ℕ) (o : List Open) (top at level k : ℕ) : Type 0 where
  pub r : List Open
  pub still : AllOpen w at level r
  pub found : Between w K L r k o top

pub find_begins : {w K L : List ℕ} {o : List Open} {top at level : ℕ} → AllOpen w at level o → Finding w K L o top at level top
find_begins h = record { r = _; still = h; found = none_kept }

module _ {w K L : List ℕ} {o : List Open} {top at level k : ℕ} (h : Finding w K L o top at level k) (some : 0 < level) where
  pub find_some : SomeOpen w at
  find_some = go h.r h.still.here h.still.deep
    where
      go : (r : List Open) → OpenAt w at r → length r ≡ level → SomeOpen w at
      go [] a e = absurd (omega (arith, e))
      go (p ∷ r) a e = (p, r, a)

  pub find_on : {less : ℕ} → ((p : Open) (r : List Open) → OpenAt w at (p ∷ r) → (less < at) × TagAt w less p r) → 0 < k → k ≤ 64 → Keeping K L top →
      Finding w (set K (k - 1) (less + 1)) (set L (k - 1) (level - 1)) o top less (level - 1) (k - 1)
  find_on {less} met some_k low keeping = go h.r h.still.here h.still.deep h.still.all h.found
    where
      K' : List ℕ
      K' = set K (k - 1) (less + 1)

      L' : List ℕ
      L' = set L (k - 1) (level - 1)

      go : (r : List Open) → OpenAt w at r → length r ≡ level → AllFrom w r → Between w K L r k o top → Finding w K' L' o top less (level - 1) (k - 1)
      go [] a e f b = absurd (omega (arith, e))
      go (p ∷ r) a e (one_more x n f) b =
          let t = (met p r a).1 in
          let there = put_there keeping (k - 1) (less + 1) (level - 1) (omega arith) (one_place t n) (omega (arith, e)) in
          let z : suc (k - 1) ≡ k = omega arith in
          let first : Between w K' L' r (k - 1) (p ∷ r) (suc (k - 1)) = kept there.0 there.1 none_kept in
          let one : Between w K' L' r (k - 1) (p ∷ r) k = rw z at first in
          record {
            r = r;
            still = record { here = (p.before, p.run, t); deep = omega (arith, e); all = f };
            found = joined one (between_same b (λ j u v. put_other keeping (k - 1) (less + 1) (level - 1) j (λ q. omega arith)));
          }

-- what the walk keeps, whatever is open
pub record FindingAgain (w K₀ L₀ K L : List ℕ) (from depth bottom top at level k : ℕ) : Type 0 where
  pub keeping : Keeping K L top
  pub low : at ≤ 32768
  pub above : bottom ≤ k
  pub below : k ≤ top
  pub deep : level + top ≡ depth + k
  pub same : (j : ℕ) → j < bottom → (get_or K j 0 ≡ get_or K₀ j 0) × (get_or L j 0 ≡ get_or L₀ j 0)
  pub each : (o : List Open) → AllOpen w from depth o → Finding w K L o top at level k

pub again_begins : {w K L : List ℕ} {from depth bottom top : ℕ} → MayFind w K L from depth bottom top → FindingAgain w K L K L from depth bottom top from depth top
again_begins m =
    record { keeping = m.keeping; low = m.near; above = m.ordered; below = omega arith; deep = omega arith; same = λ j u. (refl, refl); each = λ o a. find_begins a }

module _ {w K₀ L₀ K L : List ℕ} {from depth bottom top at level k : ℕ} (h : FindingAgain w K₀ L₀ K L from depth bottom top at level k) (more : bottom < k)
    (m : MayFind w K₀ L₀ from depth bottom top) where
  pub level_some : 0 < level
  level_some = omega (arith, h.deep, more, m.enough)

  pub again_some : SomeOpen w at
  again_some = find_some (h.each m.o m.all_open) level_some

  pub again_on : {less : ℕ} → ((p : Open) (r : List Open) → OpenAt w at (p ∷ r) → (less < at) × TagAt w less p r) → FindingAgain w K₀ L₀ (set K (k - 1) (less + 1)) (set L (k - 1) (level - 1)) from depth bottom top less (level - 1) (k - 1)
  again_on {less} met = record {
    keeping = put_long h.keeping (k - 1) (less + 1) (level - 1) h.keeping.few;
    low = let s = again_some in omega (arith, h.low, (met s.0 s.1 s.2).0);
    above = omega arith;
    below = omega (arith, h.below);
    deep = omega (arith, h.deep, level_some);
    same = λ j u. let other = put_other h.keeping (k - 1) (less + 1) (level - 1) j (λ e. omega arith) in (other.0 ∙ (h.same j u).0, other.1 ∙ (h.same j u).1);
    each = λ o a. find_on (h.each o a) level_some met (omega arith) (omega (arith, h.below, h.keeping.few)) h.keeping;
  }

pub again_found : {w K₀ L₀ K L : List ℕ} {from depth bottom top at level k : ℕ} → FindingAgain w K₀ L₀ K L from depth bottom top at level k → k ≤ bottom →
    Finds w K₀ L₀ from depth bottom top K L
again_found {w} {K = K} {L} {bottom = bottom} {top} {k = k} h e = record {
  keeping = h.keeping;
  each = λ o a.
      let f = h.each o a in
      let z : k ≡ bottom = omega (arith, e, h.above) in
      let b : Between w K L f.r bottom o top = rw z at f.found in
      record { r = f.r; many = omega (arith, f.still.deep, h.deep, z); found = b; same = h.same };
}

found_all : {w K L K' L' : List ℕ} {o : List Open} {n top depth : ℕ} → SomeKept w K L o n → length o ≡ depth → FoundAgain w K L n top depth o K' L' →
    n < top → reaches L n + top ≤ depth + n → InnermostKept w K' L' o top
found_all b deep f more room =
    all_kept f.found more (omega (arith, f.many, deep)) (between_same (under f.found b (omega (arith, f.many, room))) (λ k u v. f.same k v))

-- AN ELEMENT ENDS
record Gone (w K L : List ℕ) (n : ℕ) (p : Open) (o : List Open) : Type 0 where
  some : 0 < n
  from : NameFrom w p o (get_or K (n - 1) 0)
  left : SomeKept w K L o (n - 1)

gone_of : {w K L : List ℕ} {n : ℕ} {p : Open} {o : List Open} → InnermostKept w K L (p ∷ o) n → Gone w K L n p o
gone_of {w} {K} {L} {p = p} {o = o} (innermost {n = n} x l b) =
    let z : suc n - 1 ≡ n = omega arith in
    record { some = omega arith; from = rw z x; left = rw z b }

module _ {w K L : List ℕ} {n depth : ℕ} (m : MayClose w K L n depth) where
  abbrev gone : Gone w K L n m.p m.o
  gone = gone_of m.ending.kept

  pub close_some : 0 < n
  close_some = gone.some

  pub close_place : (0 < get_or K (n - 1) 0) × (get_or K (n - 1) 0 ≤ 32768)
  close_place = (gone.from.some, omega (arith, gone.from.named.behind, m.short))

  pub close_reaches : reaches L (n - 1) ≤ depth
  close_reaches = omega (arith, reaches_low (n - 1) gone.left, m.ending.deep)

  -- the next is kept
  pub close_kept : reaches L (n - 1) ≡ depth → ClosedOne w K L n depth K L (n - 1)
  close_kept e = record {
    keeping = record { names_long = m.keeping.names_long; levels_long = m.keeping.levels_long; few = omega (arith, m.keeping.few) };
    it = λ p o h. reaches_all (gone_of h.kept).left (e ∙ sym h.deep);
  }

  -- or was forgotten: where the start tag stands, what is open then was open
  module _ {from top : ℕ} (from_is : from ≡ get_or K (n - 1) 0 - 1) (more : n - 1 < top) (low : top ≤ 64) (room : reaches L (n - 1) + top ≤ depth + (n - 1)) where
    then_open : (p : Open) (o : List Open) → ElementEnds w K L n depth p o → AllOpen w from depth o
    then_open p o h = rw from_is (record { here = (p.before, p.run, (gone_of h.kept).from.tag); deep = h.deep; all = h.all })

    pub close_may : MayFind w K L from depth (n - 1) top
    close_may = record {
      keeping = record { names_long = m.keeping.names_long; levels_long = m.keeping.levels_long; few = low };
      near = omega (arith, from_is, close_place);
      shallow = m.shallow;
      ordered = omega arith;
      enough = omega (arith, room);
      o = m.o;
      all_open = then_open m.p m.o m.ending;
    }

    pub close_found : {K' L' : List ℕ} → Finds w K L from depth (n - 1) top K' L' → ClosedOne w K L n depth K' L' top
    close_found f = record {
      keeping = f.keeping;
      it = λ p o h. found_all (gone_of h.kept).left h.deep (f.each o (then_open p o h)) more room;
    }

-- where they start
kept_low : {w K L : List ℕ} {o : List Open} {n : ℕ} → SomeKept w K L o n → (k : ℕ) → k < n → get_or K k 0 ≤ length w
kept_low none_kept k h = absurd (omega arith)
kept_low (forgotten b) k h = kept_low b k h
kept_low {w} {K} (kept {n = n} x l b) k h = go (ltb k n) refl (kept_low b k)
  where
    go : (y : Bool) → ltb k n ≡ y → (k < n → get_or K k 0 ≤ length w) → get_or K k 0 ≤ length w
    go true e again = again (ltb-true k n e)
    go false e again = let z : k ≡ n = omega (arith, ltb-false k n e) in rw z (omega (arith, x.named.behind))

pub kept_low_names : {w K L : List ℕ} {o : List Open} {n : ℕ} → SomeKept w K L o n → n ≡ 64 → length w ≤ 32768 → LowNames K
kept_low_names b e short = record { low = λ k h. omega (arith, kept_low b k (omega (arith, e)), short) }
