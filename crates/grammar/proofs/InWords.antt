-- What the automata and the levels of the machine accept is what the grammar says in words.
use mathlib.Core.Path.{◌≡◌, refl, sym, ap, subst}
use mathlib.Core.Bool.{Bool, true, false, cond, ◌&&◌, true≢false}
use Prim.Native.Nat.{ℕ}
use lib.Dec.{eqb}
use borrow.Author.Tests.{eqb-true}
use Rattle.grammar.specs.Classes.{text}
use Rattle.grammar.specs.Grammar.{Bytes, ε, ◌▸◌, Content, nothing, empty_element, element, White, Name, Text, Inside, Root}
use Rattle.grammar.specs.Tokens.{after, texts, ReadsWhite, ReadsName, Run, outer, inner, no_element, WellFormed}
use Rattle.grammar.specs.Machine.{may_follow, brackets}

pub white_reads : (s : Bytes) → White s → ReadsWhite s
white_reads ε h = tt
white_reads (s ▸ b) h = (white_reads s h.0, h.1)

pub reads_white : (s : Bytes) → ReadsWhite s → White s
reads_white ε h = tt
reads_white (s ▸ b) h = (reads_white s h.0, h.1)

reads_name : (n : Bytes) → ReadsName n → Name n
reads_name ε h = true≢false (sym h.1)
reads_name (ε ▸ b) h = h.0.1
reads_name (s ▸ a ▸ b) h = (reads_name (s ▸ a) (h.0.0, refl), h.0.1)

name_reads : (n : Bytes) → Name n → ReadsName n
name_reads ε h = absurd h
name_reads (ε ▸ b) h = ((tt, h), refl)
name_reads (s ▸ a ▸ b) h = (((name_reads (s ▸ a) h.0).0, h.1), refl)

-- the state of a text tells whether it ends with "]]"
pub brackets_one : (b : ℕ) → brackets (ε ▸ b) ≡ false
brackets_one b = go (eqb b 93)
  where
    go : (y : Bool) → eqb (cond y 1 0) 2 ≡ false
    go true = refl
    go false = refl

pub brackets_last : (s : Bytes) (a b : ℕ) → brackets (s ▸ a ▸ b) ≡ eqb a 93 && eqb b 93
brackets_last s a b = go (eqb a 93) (eqb b 93) (eqb (after (texts text) s) 0)
  where
    go : (x y z : Bool) → eqb (cond y (cond (eqb (cond x (cond z 1 2) 0) 0) 1 2) 0) 2 ≡ x && y
    go true true true = refl
    go true true false = refl
    go true false true = refl
    go true false false = refl
    go false true z = refl
    go false false z = refl

-- a > may not follow exactly where it ends "]]>"
follows_text : (t : Bytes) (b : ℕ) → may_follow inner t b ≡ true → text b ≡ true
follows_text t b h = go (eqb b 62 && brackets t) h
  where
    go : (x : Bool) → cond x false (text b) ≡ true → text b ≡ true
    go true h = absurd (true≢false (sym h))
    go false h = h

no_mark : (s : Bytes) → Run inner (s ▸ 93 ▸ 93 ▸ 62) → ⊥
no_mark s h = true≢false (sym (rw (brackets_last s 93 93) at h.1))

and_false : (x : Bool) → x && false ≡ true → ⊥
and_false true h = true≢false (sym h)
and_false false h = true≢false (sym h)

mark : (t : Bytes) (b : ℕ) → eqb b 62 && brackets t ≡ true → (s : Bytes) × (t ▸ b ≡ s ▸ 93 ▸ 93 ▸ 62)
mark ε b h = absurd (and_false (eqb b 62) h)
mark (ε ▸ a) b h = absurd (and_false (eqb b 62) (rw (brackets_one a) at h))
mark (s ▸ c ▸ a) b h = go (eqb b 62) (eqb c 93) (eqb a 93) refl refl refl (rw (brackets_last s c a) at h)
  where
    go : (x y z : Bool) → eqb b 62 ≡ x → eqb c 93 ≡ y → eqb a 93 ≡ z → x && (y && z) ≡ true → (r : Bytes) × (s ▸ c ▸ a ▸ b ≡ r ▸ 93 ▸ 93 ▸ 62)
    go true true true p q r h = (s, cc (eqb-true b 62 p, eqb-true c 93 q, eqb-true a 93 r))
    go true true false p q r h = absurd (true≢false (sym h))
    go true false z p q r h = absurd (true≢false (sym h))
    go false y z p q r h = absurd (true≢false (sym h))

run_text : (t : Bytes) → Run inner t → Text t
run_text ε h = tt
run_text (t ▸ b) h = (run_text t h.0, follows_text t b h.1, λ u e. no_mark u (subst (λ (s : Bytes). Run inner s) e h))

text_run : (t : Bytes) → Text t → Run inner t
text_run ε h = tt
text_run (t ▸ b) h = (text_run t h.0, go (eqb b 62 && brackets t) refl)
  where
    go : (x : Bool) → eqb b 62 && brackets t ≡ x → cond x false (text b) ≡ true
    go true e = let m : (s : Bytes) × (t ▸ b ≡ s ▸ 93 ▸ 93 ▸ 62) = mark t b e in absurd (h.2 m.0 m.1)
    go false e = h.1

-- INSIDE AN ELEMENT
inside_formed : (f : Content) → Inside f → WellFormed inner f
inside_formed nothing h = tt
inside_formed (empty_element f t n g) h = (inside_formed f h.0, text_run t h.1, refl, name_reads n h.2, white_reads g h.3)
inside_formed (element f t n g i l k) h = (
  (inside_formed f h.0, text_run t h.1, refl, name_reads n h.2, white_reads g h.3),
  inside_formed i h.4,
  text_run l h.5,
  white_reads k h.6,
)

formed_inside : (f : Content) → WellFormed inner f → Inside f
formed_inside nothing h = tt
formed_inside (empty_element f t n g) h = (formed_inside f h.0, run_text t h.1, reads_name n h.3, reads_white g h.4)
formed_inside (element f t n g i l k) h = (
  formed_inside f h.0.0,
  run_text t h.0.1,
  reads_name n h.0.3,
  reads_white g h.0.4,
  formed_inside i h.1,
  run_text l h.2,
  reads_white k h.3,
)

-- WHITE SPACE AND ONE ELEMENT
no_content : (f : Content) → no_element f ≡ true → f ≡ nothing
no_content nothing e = refl
no_content (empty_element f t n g) e = absurd (true≢false (sym e))
no_content (element f t n g i l k) e = absurd (true≢false (sym e))

pub root_formed : (f : Content) → Root f → WellFormed outer f
root_formed nothing h = absurd h
root_formed (empty_element f s n g) h = (rw h.0 tt, white_reads s h.1, ap no_element h.0, name_reads n h.2, white_reads g h.3)
root_formed (element f s n g i l k) h = (
  (rw h.0 tt, white_reads s h.1, ap no_element h.0, name_reads n h.2, white_reads g h.3),
  inside_formed i h.4,
  text_run l h.5,
  white_reads k h.6,
)

pub root_one : (f : Content) → Root f → no_element f ≡ false
root_one nothing h = absurd h
root_one (empty_element f s n g) h = refl
root_one (element f s n g i l k) h = refl

pub formed_root : (f : Content) → WellFormed outer f → no_element f ≡ false → Root f
formed_root nothing h e = true≢false e
formed_root (empty_element f s n g) h e = (no_content f h.2, reads_white s h.1, reads_name n h.3, reads_white g h.4)
formed_root (element f s n g i l k) h e = (
  no_content f h.0.2,
  reads_white s h.0.1,
  reads_name n h.0.3,
  reads_white g h.0.4,
  formed_inside i h.1,
  run_text l h.2,
  reads_white k h.3,
)
