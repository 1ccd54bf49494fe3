-- The index stays right when a spelling is added.
use mathlib.Core.Path.{◌≡◌, refl, sym, ap, ◌∙◌}
use mathlib.Core.List.{List, [], ◌∷◌, ◌++◌}
use mathlib.Core.Logic.{◌⊎◌, inl, inr, ⊎_elim}
use Prim.Native.Nat.{ℕ, ◌+◌, ◌-◌, ◌*◌, ◌≤◌, ◌<◌}
use native.Mathlib.Omega.{arith}
use native.Mathlib.Decide.{ℕ_discrete}
use lib.ListN.{length, get_or, set, length-append, length-set, get_or-append}
use lib.Seq.{get_or-set_same, get_or-set_other, get_or_at}
use borrow.Author.Tests.{le-ltb}
use Rattle.dictionary.specs.Scan.{range}
use Rattle.dictionary.specs.Numbers.{place_of}
use Rattle.dictionary.specs.Index.{name_bucket, Link, source_of, Entry, Indexed, MayNumber, Numbered, inserted}
use Rattle.dictionary.proofs.Numbers.{place_le, place_some, learn_old, learn_new}
use Rattle.dictionary.proofs.Buckets.{bucket_below}

append_old : (known : List (List ℕ)) (w : List ℕ) (i : ℕ) → i < length known → get_or (known ++ (w ∷ [])) i [] ≡ get_or known i []
append_old known w i h = get_or-append known (w ∷ []) [] i h

append_new : (known : List (List ℕ)) (w : List ℕ) (i : ℕ) → length known ≡ i → get_or (known ++ (w ∷ [])) i [] ≡ w
append_new known w i h = get_or_at known w [] [] i h

link_append : {known : List (List ℕ)} (w : List ℕ) {bucket bound q : ℕ} → bound ≤ length known → Link known bucket bound q → Link (known ++ (w ∷ [])) bucket bound q
link_append {known} w {bucket} {bound} {q} h l = record {
  below = l.below;
  belongs = λ p. ap name_bucket (append_old known w (q - 1) (omega (arith, l.below))) ∙ l.belongs p;
  last = λ i p e. l.last i p (ap name_bucket (sym (append_old known w i (omega arith))) ∙ e);
}

pub last_two : (i n : ℕ) → i < n + 1 → (i < n) ⊎ (i ≡ n)
last_two i n h = elim (ℕ_discrete i n) [ yes e ↦ inr e | no e ↦ inl (omega arith) ]

-- the index after one, two and three of the four stores
abbrev stored1 : List ℕ → ℕ → ℕ → List ℕ
stored1 index count start = set index (2048 + 3 * count) start

abbrev stored2 : List ℕ → ℕ → ℕ → ℕ → List ℕ
stored2 index count start end = set (stored1 index count start) (2049 + 3 * count) end

abbrev stored3 : List ℕ → ℕ → ℕ → ℕ → ℕ → List ℕ
stored3 index count bucket start end = set (stored2 index count start end) (2050 + 3 * count) (get_or index bucket 0)

module _ (index : List ℕ) (count bucket start end : ℕ) (room : 2051 + 3 * count ≤ length index) (low : bucket < 2048) where
  pub inserted_length : length (inserted index count bucket start end) ≡ length index
  inserted_length = simp length-set

  past_head : (i : ℕ) → (i ≡ bucket → ⊥) → get_or (inserted index count bucket start end) i 0 ≡ get_or (stored3 index count bucket start end) i 0
  past_head i n = get_or-set_other (stored3 index count bucket start end) bucket i (count + 1) 0 n

  past_before : (i : ℕ) → (i ≡ 2050 + 3 * count → ⊥) → get_or (stored3 index count bucket start end) i 0 ≡ get_or (stored2 index count start end) i 0
  past_before i n = get_or-set_other (stored2 index count start end) (2050 + 3 * count) i (get_or index bucket 0) 0 n

  past_end : (i : ℕ) → (i ≡ 2049 + 3 * count → ⊥) → get_or (stored2 index count start end) i 0 ≡ get_or (stored1 index count start) i 0
  past_end i n = get_or-set_other (stored1 index count start) (2049 + 3 * count) i end 0 n

  at_head : get_or (inserted index count bucket start end) bucket 0 ≡ count + 1
  at_head = get_or-set_same (stored3 index count bucket start end) bucket (count + 1) 0 (simp length-set (omega arith))

  at_before : get_or (inserted index count bucket start end) (2050 + 3 * count) 0 ≡ get_or index bucket 0
  at_before =
      past_head (2050 + 3 * count) (λ e. omega arith)
      ∙ get_or-set_same (stored2 index count start end) (2050 + 3 * count) (get_or index bucket 0) 0 (simp length-set (omega arith))

  at_end : get_or (inserted index count bucket start end) (2049 + 3 * count) 0 ≡ end
  at_end =
      past_head (2049 + 3 * count) (λ e. omega arith)
      ∙ past_before (2049 + 3 * count) (λ e. omega arith)
      ∙ get_or-set_same (stored1 index count start) (2049 + 3 * count) end 0 (simp length-set (omega arith))

  at_start : get_or (inserted index count bucket start end) (2048 + 3 * count) 0 ≡ start
  at_start =
      past_head (2048 + 3 * count) (λ e. omega arith)
      ∙ past_before (2048 + 3 * count) (λ e. omega arith)
      ∙ past_end (2048 + 3 * count) (λ e. omega arith)
      ∙ get_or-set_same index (2048 + 3 * count) start 0 (omega arith)

  -- below the new entry only the bucket's own number changes
  at_old : (i : ℕ) → i < 2048 + 3 * count → (i ≡ bucket → ⊥) → get_or (inserted index count bucket start end) i 0 ≡ get_or index i 0
  at_old i h n =
      past_head i n
      ∙ past_before i (λ e. omega arith)
      ∙ past_end i (λ e. omega arith)
      ∙ get_or-set_other index (2048 + 3 * count) i start 0 (λ e. omega arith)

module _ (dictionary document : List ℕ) (names : ℕ) (index : List ℕ) (known : List (List ℕ)) (w : List ℕ) (start end : ℕ)
    (x : Indexed dictionary document names index known) (named : names ≤ length known) (room : 2051 + 3 * length known ≤ length index)
    (e : Entry document w start end) (fresh : place_of known w ≡ length known) where
  more : length (known ++ (w ∷ [])) ≡ length known + 1
  more = length-append known (w ∷ [])

  low : name_bucket w < 2048
  low = bucket_below w

  different : (i j : ℕ) → i < j → j < length (known ++ (w ∷ [])) → get_or (known ++ (w ∷ [])) i [] ≡ get_or (known ++ (w ∷ [])) j [] → ⊥
  different i j p q same = ⊎_elim old new (last_two j (length known) (omega (arith, more)))
    where
      first : i < length known → get_or known i [] ≡ get_or (known ++ (w ∷ [])) j []
      first h = sym (append_old known w i h) ∙ same

      old : j < length known → ⊥
      old h = x.different i j p h (first (omega arith) ∙ append_old known w j h)

      new : j ≡ length known → ⊥
      new h = omega (arith, place_some known w i (omega arith) (first (omega arith) ∙ append_new known w j (sym h)))

  entry : (j : ℕ) → j < length (known ++ (w ∷ [])) →
      Entry (source_of dictionary document names j) (get_or (known ++ (w ∷ [])) j [])
      (get_or (inserted index (length known) (name_bucket w) start end) (2048 + 3 * j) 0) (get_or (inserted index (length known) (name_bucket w) start end) (2049 + 3 * j) 0)
  entry j p = ⊎_elim old new (last_two j (length known) (omega (arith, more)))
    where
      Goal : Type 0
      Goal = Entry (source_of dictionary document names j) (get_or (known ++ (w ∷ [])) j [])
          (get_or (inserted index (length known) (name_bucket w) start end) (2048 + 3 * j) 0) (get_or (inserted index (length known) (name_bucket w) start end) (2049 + 3 * j) 0)

      old : j < length known → Goal
      old h = rw (
        append_old known w j h,
        at_old index (length known) (name_bucket w) start end room low (2048 + 3 * j) (omega arith) (λ z. omega (arith, low)),
        at_old index (length known) (name_bucket w) start end room low (2049 + 3 * j) (omega arith) (λ z. omega (arith, low)),
      )
          (x.entry j h)

      new : j ≡ length known → Goal
      new h = rw (
        h,
        append_new known w (length known) refl,
        le-ltb (length known) names named,
        at_start index (length known) (name_bucket w) start end room low,
        at_end index (length known) (name_bucket w) start end room low,
      )
          e

  head : (h : ℕ) → h < 2048 → Link (known ++ (w ∷ [])) h (length (known ++ (w ∷ []))) (get_or (inserted index (length known) (name_bucket w) start end) h 0)
  head h p = elim (ℕ_discrete h (name_bucket w)) [ yes z ↦ mine z | no z ↦ other z ]
    where
      Goal : Type 0
      Goal = Link (known ++ (w ∷ [])) h (length (known ++ (w ∷ []))) (get_or (inserted index (length known) (name_bucket w) start end) h 0)

      mine : h ≡ name_bucket w → Goal
      mine z = rw (z, at_head index (length known) (name_bucket w) start end room low) (record {
        below = omega (arith, more);
        belongs = λ q. ap name_bucket (append_new known w (length known + 1 - 1) (omega arith));
        last = λ i q s. omega (arith, more);
      })

      other : (h ≡ name_bucket w → ⊥) → Goal
      other z =
          let l : Link (known ++ (w ∷ [])) h (length known) (get_or index h 0) = link_append w (omega arith) (x.head h p) in
          rw (at_old index (length known) (name_bucket w) start end room low h (omega arith) z) (record {
            below = omega (arith, more, l.below);
            belongs = l.belongs;
            last = λ i q s. ⊎_elim (λ b. l.last i b s) (λ b. absurd (z (sym s ∙ ap name_bucket (append_new known w i (sym b))))) (last_two i (length known) (omega (arith, more)));
          })

  before : (j : ℕ) → j < length (known ++ (w ∷ [])) →
      Link (known ++ (w ∷ [])) (name_bucket (get_or (known ++ (w ∷ [])) j [])) j (get_or (inserted index (length known) (name_bucket w) start end) (2050 + 3 * j) 0)
  before j p = ⊎_elim old new (last_two j (length known) (omega (arith, more)))
    where
      Goal : Type 0
      Goal = Link (known ++ (w ∷ [])) (name_bucket (get_or (known ++ (w ∷ [])) j [])) j (get_or (inserted index (length known) (name_bucket w) start end) (2050 + 3 * j) 0)

      old : j < length known → Goal
      old h = rw
          (append_old known w j h, at_old index (length known) (name_bucket w) start end room low (2050 + 3 * j) (omega arith) (λ z. omega (arith, low)))
          (link_append w (omega arith) (x.before j h))

      new : j ≡ length known → Goal
      new h = rw
          (h, append_new known w (length known) refl, at_before index (length known) (name_bucket w) start end room low)
          (link_append w (omega arith) (x.head (name_bucket w) low))

  pub indexed_more : Indexed dictionary document names (inserted index (length known) (name_bucket w) start end) (known ++ (w ∷ []))
  indexed_more = record {
    room = omega (arith, more, inserted_length index (length known) (name_bucket w) start end room low);
    different = different;
    entry = entry;
    head = head;
    before = before;
  }

-- THE ANSWER OF `label`, for a spelling that is known and for one that is not
module _ {dictionary document : List ℕ} {names : ℕ} {index : List ℕ} {count start end : ℕ} {known : List (List ℕ)}
    (m : MayNumber dictionary document names index count start end known) where
  pub numbered_old : {place : ℕ} → place ≡ place_of known (range document start end) → place < count →
      Numbered dictionary document names index index known (range document start end) place
  numbered_old is h = record {
    placed = is;
    kept = refl;
    indexed = rw (learn_old known (range document start end) (omega (arith, m.counted))) m.indexed;
  }

  pub numbered_new : {place bucket : ℕ} → place ≡ place_of known (range document start end) → count ≤ place → bucket ≡ name_bucket (range document start end) → {new : List ℕ} →
      new ≡ inserted index count bucket start end → Numbered dictionary document names index new known (range document start end) count
  numbered_new {place} {bucket} is h at {new} done =
      let fresh : place_of known (range document start end) ≡ length known = omega (arith, place_le known (range document start end), m.counted) in
      let e : Entry document (range document start end) start end = record { ordered = m.ordered; inside = m.inside; spelled = refl } in
      let x : Indexed dictionary document names (inserted index (length known) (name_bucket (range document start end)) start end) (known ++ (range document start end ∷ [])) =
      indexed_more dictionary document names index known (range document start end) start end m.indexed (omega (arith, m.counted, m.named))
      (omega (arith, m.counted, m.room)) e fresh in
      let same : new ≡ inserted index (length known) (name_bucket (range document start end)) start end = rw (m.counted, ← at) done in
      record {
        placed = omega (arith, m.counted);
        kept = ap length done ∙ simp length-set;
        indexed = rw (learn_new known (range document start end) (omega arith), same) x;
      }
