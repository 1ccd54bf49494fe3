-- How many bytes the machine has read, and the room that open elements take.
use mathlib.Core.Path.{◌≡◌, sym, ap, ◌∙◌}
use mathlib.Core.Bool.{true≢false}
use mathlib.Core.List.{List, [], ◌∷◌, ◌++◌, append-nil}
use Prim.Native.Nat.{ℕ, ◌+◌, ◌*◌, ◌≤◌}
use native.Mathlib.Omega.{arith}
use lib.ListN.{length, take, length-take}
use Rattle.grammar.specs.Grammar.{Bytes, ε, ◌▸◌, ◌⊲◌, Content, nothing, empty_element, element, print}
use Rattle.grammar.specs.Tokens.{ReadsName}
use Rattle.grammar.specs.Rows.{#, width}
use Rattle.grammar.specs.Machine.{Open, State, dead, in_run, after_less, in_name, in_space, after_slash, in_end_name, in_end_space, runs, initial, At}
use Rattle.grammar.proofs.Theory.{GoodS, GoodO, Live, print_s, print_o, reads}

-- where the inside of an element begins whose run begins at a
abbrev inside : ℕ → Bytes → Bytes → Bytes → ℕ
inside a t n g = a + # t + 1 + # n + # g + 1

-- where the inside of the innermost open element begins
unfoldable pub off_o : List Open → ℕ
off_o [] = 0
off_o (p ∷ o) = inside (off_o o + width p.before) p.run p.name p.space

-- how many bytes a state has read
unfoldable pub pos_s : State → ℕ
pos_s dead = 0
pos_s (in_run o f t) = off_o o + width f + # t
pos_s (after_less o f t) = off_o o + width f + # t + 1
pos_s (in_name o f t n) = off_o o + width f + # t + 1 + # n
pos_s (in_space o f t n g) = off_o o + width f + # t + 1 + # n + # g
pos_s (after_slash o f t n g) = off_o o + width f + # t + 1 + # n + # g + 1
pos_s (in_end_name p o f t m r) = off_o (p ∷ o) + width f + # t + 2 + # m
pos_s (in_end_space p o f t h) = off_o (p ∷ o) + width f + # t + 2 + # p.name + # h

pub len-⊲ : (s : Bytes) (v : List ℕ) → length (s ⊲ v) ≡ # s + length v
len-⊲ ε v = omega arith
len-⊲ (s ▸ b) v = omega (arith, len-⊲ s (b ∷ v))

pub len_print : (f : Content) (v : List ℕ) → length (print f v) ≡ width f + length v
unfolding width
len_print nothing v = omega arith
len_print (empty_element f t n g) v =
    len_print f (t ⊲ 60 ∷ (n ⊲ g ⊲ 47 ∷ 62 ∷ v)) ∙ simp len-⊲ (omega arith)
len_print (element f t n g i l h) v =
    len_print f (t ⊲ 60 ∷ (n ⊲ g ⊲ 62 ∷ print i (l ⊲ 60 ∷ 47 ∷ (n ⊲ h ⊲ 62 ∷ v)))) ∙ simp (len-⊲, len_print i (l ⊲ 60 ∷ 47 ∷ (n ⊲ h ⊲ 62 ∷ v))) (omega arith)

len_print_o : (o : List Open) (v : List ℕ) → length (print_o o v) ≡ off_o o + length v
unfolding off_o
len_print_o [] v = omega arith
len_print_o (p ∷ o) v =
    len_print_o o (print p.before (p.run ⊲ 60 ∷ (p.name ⊲ p.space ⊲ 62 ∷ v)))
    ∙ simp (len-⊲, len_print p.before (p.run ⊲ 60 ∷ (p.name ⊲ p.space ⊲ 62 ∷ v))) (omega arith)

-- a live state has read pos_s bytes
pub pos_is : (z : State) → Live z → length (print_s z []) ≡ pos_s z
unfolding pos_s off_o
pos_is dead l = absurd l
pos_is (in_run o f t) l = len_print_o o (print f (t ⊲ [])) ∙ simp (len-⊲, len_print f (t ⊲ [])) (omega arith)
pos_is (after_less o f t) l = len_print_o o (print f (t ⊲ 60 ∷ [])) ∙ simp (len-⊲, len_print f (t ⊲ 60 ∷ [])) (omega arith)
pos_is (in_name o f t n) l = len_print_o o (print f (t ⊲ 60 ∷ (n ⊲ []))) ∙ simp (len-⊲, len_print f (t ⊲ 60 ∷ (n ⊲ []))) (omega arith)
pos_is (in_space o f t n g) l = len_print_o o (print f (t ⊲ 60 ∷ (n ⊲ g ⊲ []))) ∙ simp (len-⊲, len_print f (t ⊲ 60 ∷ (n ⊲ g ⊲ []))) (omega arith)
pos_is (after_slash o f t n g) l = len_print_o o (print f (t ⊲ 60 ∷ (n ⊲ g ⊲ 47 ∷ []))) ∙ simp (len-⊲, len_print f (t ⊲ 60 ∷ (n ⊲ g ⊲ 47 ∷ []))) (omega arith)
pos_is (in_end_name p o f t m r) l = len_print_o (p ∷ o) (print f (t ⊲ 60 ∷ 47 ∷ (m ⊲ []))) ∙ simp (len-⊲, len_print f (t ⊲ 60 ∷ 47 ∷ (m ⊲ []))) (omega arith)
pos_is (in_end_space p o f t h) l =
    len_print_o (p ∷ o) (print f (t ⊲ 60 ∷ 47 ∷ (p.name ⊲ h ⊲ []))) ∙ simp (len-⊲, len_print f (t ⊲ 60 ∷ 47 ∷ (p.name ⊲ h ⊲ []))) (omega arith)

-- each open element took three bytes or more: so a stack for n bytes has n / 3 places
name_some : (n : Bytes) → ReadsName n → 1 ≤ # n
name_some ε h = absurd (true≢false (sym h.1))
name_some (s ▸ b) h = omega arith

pub three : (o : List Open) → GoodO o → 3 * length o ≤ off_o o
unfolding off_o
three [] g = omega arith
three (p ∷ o) g = omega (arith, three o g.0, name_some p.name g.1.3)

-- WHAT IS KNOWN OF A LIVE STATE: it is good, and has read as many bytes as it was given
module _ {w : List ℕ} {j : ℕ} {z : State} (a : At w j z) (l : Live z) where
  read_so : GoodS (runs initial (take j w)) × ((u : List ℕ) → print_s (runs initial (take j w)) u ≡ take j w ++ u)
  read_so = reads initial (take j w) (tt, tt, tt) (rw a.is l)

  pub at_good : GoodS z
  at_good = rw a.is at read_so.0

  pub at_printed : (u : List ℕ) → print_s z u ≡ take j w ++ u
  at_printed u = rw a.is at (read_so.1 u)

  pub at_place : pos_s z ≡ j
  at_place =
      let n : length (print_s z []) ≡ length (take j w) = ap length (at_printed [] ∙ append-nil (take j w)) in
      omega (arith, pos_is z l, n, length-take j w, a.within)
