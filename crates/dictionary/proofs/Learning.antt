-- The dictionary's names are learnt one by one: the loop of `learn_names`.
use mathlib.Core.Path.{◌≡◌, refl, sym, ap, ◌∙◌}
use mathlib.Core.Bool.{true, false}
use mathlib.Core.List.{List, [], ◌∷◌, ◌++◌}
use mathlib.Core.Logic.{⊎_elim}
use Prim.Native.Nat.{ℕ, ◌+◌, ◌≤◌, ◌<◌}
use native.Mathlib.Omega.{arith}
use native.Mathlib.Numerals.{add-one}
use lib.ListN.{length, get_or, take, drop, replicate, length-replicate, get_or-replicate}
use lib.Seq.{take-suc, take_all, get_or-take, length-take-le}
use Rattle.dictionary.specs.Names.{GoodDictionary}
use Rattle.dictionary.specs.Scan.{range, upto, pieces}
use Rattle.dictionary.specs.Numbers.{learn}
use Rattle.dictionary.specs.Index.{Indexed, MayNumber, Numbered, Fresh, NamesLearnt}
use Rattle.dictionary.proofs.Pieces.{unbroken, piece_length}
use Rattle.dictionary.proofs.Names.{Begins, begins, begins_end, begins_next, there, piece_is, good_pieces, checked_good, checked_bad, bad_end, bad_empty, bad_many, bad_twice}
use Rattle.dictionary.proofs.Numbers.{place_is, learn_new}
use Rattle.dictionary.proofs.Entries.{source_name, source_new}
use Rattle.dictionary.proofs.Insert.{last_two}

pub record Learning (d old index : List ℕ) (start names : ℕ) : Type 0 where
  pub begun : Begins d start names
  pub present : (j : ℕ) → j < names → 0 < length (get_or (pieces d) j [])
  pub few : names ≤ 1024
  pub short : length d ≤ 16384
  pub large : 5120 ≤ length old
  pub kept : length index ≡ length old
  pub indexed : Indexed d d 0 index (take names (pieces d))

-- a new list of zeros knows nothing
pub fresh : (n : ℕ) → 5120 ≤ n → Fresh (replicate n 0)
fresh n h = record { large = omega (arith, length-replicate {A = ℕ} n 0); clear = λ i p. get_or-replicate {A = ℕ} n i 0 0 (omega arith) }

nothing_indexed : (d index : List ℕ) → Fresh index → Indexed d d 0 index []
nothing_indexed d index f = record {
  room = omega (arith, f.large);
  different = λ i j p q e. omega arith;
  entry = λ j p. absurd (omega arith);
  head = λ h p. rw (f.clear h p) (record { below = omega arith; belongs = λ q. absurd (omega arith); last = λ i q e. absurd (omega arith) });
  before = λ j p. absurd (omega arith);
}

pub learning_begins : (d old : List ℕ) → Fresh old → length d ≤ 16384 → Learning d old old 0 0
learning_begins d old f h = record {
  begun = begins d;
  present = λ j p. absurd (omega arith);
  few = omega arith;
  short = h;
  large = f.large;
  kept = refl;
  indexed = nothing_indexed d old f;
}

-- a bad dictionary, whatever was learnt of it
pub refused : (d old index : List ℕ) → length index ≡ length old → ((ns : List (List ℕ)) → GoodDictionary d ns → ⊥) → NamesLearnt d false 0 old index
refused d old index e h = record { checked = checked_bad h; kept = e; indexed = λ ns g. absurd (h ns g) }

pub refused_long : (d old : List ℕ) → 16384 < length d → NamesLearnt d false 0 old old
refused_long d old h = refused d old old refl (λ ns g. omega (arith, g.short))

-- names that stand in the dictionary, whatever the document
indexed_names : (d document index : List ℕ) (known : List (List ℕ)) → Indexed d d 0 index known → Indexed d document (length known) index known
indexed_names d document index known x = record {
  room = x.room;
  different = x.different;
  entry = λ j p. rw (source_name d document (length known) j p) (rw (source_new d d 0 j (omega arith)) at (x.entry j p));
  head = x.head;
  before = x.before;
}

module _ (d old index : List ℕ) (start names : ℕ) (l : Learning d old index start names) where
  known_size : length (take names (pieces d)) ≡ names
  known_size = length-take-le names (pieces d) l.begun.counted

  -- THE END: all names are learnt, and all were good
  module _ (done : length d ≤ start) where
    all_names : take names (pieces d) ≡ pieces d
    all_names = take_all names (pieces d) (omega (arith, (begins_end l.begun done).1))

    good_names : GoodDictionary d (pieces d)
    good_names =
        let counted : length (pieces d) ≡ names = (begins_end l.begun done).1 in
        let x : Indexed d d 0 index (pieces d) = rw all_names at l.indexed in
        record {
          encoded = (begins_end l.begun done).0;
          each = λ j p. record { present = l.present j (omega arith); unbroken = unbroken d j };
          different = x.different;
          few = omega (arith, l.few);
          short = l.short;
        }

    pub learning_ends : NamesLearnt d true names old index
    learning_ends = record {
      checked = rw (← (begins_end l.begun done).1) (checked_good good_names);
      kept = l.kept;
      indexed = λ ns g document. rw (← good_pieces g) (indexed_names d document index (pieces d) (rw all_names at l.indexed));
    }

-- A TURN: the name from start to end
pub record Turn (d old index : List ℕ) (start names end : ℕ) : Type 0 where
  pub learning : Learning d old index start names
  pub here : start < length d
  pub is_end : end ≡ start + upto (drop start d)
  pub inside : end ≤ length d

pub turn_of : {d old index : List ℕ} {start names end : ℕ} → Learning d old index start names → start < length d → (end ≡ start + upto (drop start d)) × (end ≤ length d) →
    Turn d old index start names end
turn_of l h e = record { learning = l; here = h; is_end = e.0; inside = e.1 }

module _ {d old index : List ℕ} {start names end : ℕ} (t : Turn d old index start names end) where
  pub refused_end : end ≡ length d → NamesLearnt d false 0 old index
  refused_end h = refused d old index t.learning.kept (λ ns g. bad_end d start end names t.here t.is_end t.learning.begun ns g h)

  pub refused_empty : end ≤ start → NamesLearnt d false 0 old index
  refused_empty h = refused d old index t.learning.kept (λ ns g. bad_empty d start end names t.here t.is_end t.learning.begun ns g (omega (arith, t.is_end)))

  pub refused_many : 1023 < names → NamesLearnt d false 0 old index
  refused_many h = refused d old index t.learning.kept (λ ns g. bad_many d start end names t.here t.is_end t.learning.begun ns g (omega arith))

  pub may_learn : names ≤ 1023 → MayNumber d d 0 index names start end (take names (pieces d))
  may_learn few = record {
    indexed = t.learning.indexed;
    counted = known_size d old index start names t.learning;
    named = omega arith;
    room = omega (arith, t.learning.large, t.learning.kept);
    countable = omega arith;
    ordered = omega (arith, t.is_end);
    inside = t.inside;
    short = omega (arith, t.learning.short, t.inside);
  }

  module _ {new : List ℕ} {number : ℕ} (done : Numbered d d 0 index new (take names (pieces d)) (range d start end) number) where
    pub refused_twice : number < names → NamesLearnt d false 0 old new
    refused_twice below =
        let same : get_or (pieces d) number [] ≡ range d start end =
        sym (get_or-take names (pieces d) number [] below)
        ∙ ap (λ (i : ℕ). get_or (take names (pieces d)) i []) done.placed
        ∙ place_is (take names (pieces d)) (range d start end) (omega (arith, done.placed, known_size d old index start names t.learning)) in
        refused d old new (done.kept ∙ t.learning.kept) (λ ns g. bad_twice d start end names t.here t.is_end t.learning.begun ns g number below same)

    pub learning_next : (end ≡ length d → ⊥) → start < end → names ≤ 1023 → names ≤ number → Learning d old new (end + 1) (names + 1)
    learning_next other filled few fresh =
        let name : get_or (pieces d) names [] ≡ range d start end = piece_is d start end names t.here t.is_end t.learning.begun in
        let all : learn (take names (pieces d)) (range d start end) ≡ take (names + 1) (pieces d) =
        learn_new (take names (pieces d)) (range d start end) (omega (arith, done.placed, known_size d old index start names t.learning))
        ∙ ap (λ (w : List ℕ). take names (pieces d) ++ (w ∷ [])) (sym name)
        ∙ sym (take-suc (pieces d) names [] (there d start end names t.here t.is_end t.learning.begun))
        ∙ ap (λ (k : ℕ). take k (pieces d)) (sym (add-one names)) in
        let long : 0 < length (get_or (pieces d) names []) = omega (arith, piece_length d start end t.here t.is_end, ap length name) in
        record {
          begun = begins_next d start end names t.here t.is_end t.learning.begun (omega (arith, other, t.inside));
          present = λ j p. ⊎_elim (λ h. t.learning.present j h) (λ h. rw h long) (last_two j names p);
          few = omega arith;
          short = t.learning.short;
          large = t.learning.large;
          kept = done.kept ∙ t.learning.kept;
          indexed = rw all at done.indexed;
        }
