-- Looking into a list, and the beginnings of a list.
use Prim.Native.Nat.{ℕ, zero, suc, ◌<◌, ◌≤◌}
use mathlib.Core.Path.{◌≡◌, refl, ap, ◌∙◌}
use mathlib.Core.Path.{sym as flip}
use mathlib.Core.List.{List, [], ◌∷◌, ◌++◌, append_assoc, append-nil}
use lib.ListN.{length, get_or, length-append}
use native.Mathlib.Omega.{arith}
use Rattle.meaning.specs.Pattern.{old, new, wrong, look}
use Rattle.meaning.specs.Matcher.{Value, at}
use Rattle.meaning.specs.Reached.{Begins}

module _ {A : Type 0} where
  pub look_new : (l : List A) (x : ℕ) → look l x ≡ new → x ≡ length l
  look_new [] zero h = refl
  look_new [] (suc x) h = cc
  look_new (a ∷ l) zero h = cc
  look_new (a ∷ l) (suc x) h = ap suc (look_new l x h)

  pub look_old : (l : List A) (x : ℕ) (a : A) → look l x ≡ old a → x < length l
  look_old [] zero b h = let z : ◌≡◌ {A = ℕ} 0 1 = cc in absurd (omega arith)
  look_old [] (suc x) b h = let z : ◌≡◌ {A = ℕ} 0 1 = cc in absurd (omega arith)
  look_old (a ∷ l) zero b h = omega arith
  look_old (a ∷ l) (suc x) b h = omega (arith, look_old l x b h)

  pub look_wrong : (l : List A) (x : ℕ) → look l x ≡ wrong → length l < x
  look_wrong [] zero h = let z : ◌≡◌ {A = ℕ} 0 1 = cc in absurd (omega arith)
  look_wrong [] (suc x) h = omega arith
  look_wrong (a ∷ l) zero h = let z : ◌≡◌ {A = ℕ} 0 1 = cc in absurd (omega arith)
  look_wrong (a ∷ l) (suc x) h = omega (arith, look_wrong l x h)

  pub look_some : (l : List A) (x : ℕ) → x < length l → (a : A) × (look l x ≡ old a)
  look_some [] x h = absurd (omega arith)
  look_some (a ∷ l) zero h = (a, refl)
  look_some (a ∷ l) (suc x) h = look_some l x (omega arith)

  -- one more at the end
  pub look_more : (l m : List A) (x : ℕ) (a : A) → look l x ≡ old a → look (l ++ m) x ≡ old a
  look_more [] m zero b h = cc
  look_more [] m (suc x) b h = cc
  look_more (a ∷ l) m zero b h = h
  look_more (a ∷ l) m (suc x) b h = look_more l m x b h

  pub look_last : (l m : List A) (x : ℕ) (a : A) → look l x ≡ new → look (l ++ (a ∷ m)) x ≡ old a
  look_last [] m zero b h = refl
  look_last [] m (suc x) b h = cc
  look_last (a ∷ l) m zero b h = cc
  look_last (a ∷ l) m (suc x) b h = look_last l m x b h

  pub look_less : (l m : List A) (x : ℕ) (a : A) → x < length l → look (l ++ m) x ≡ old a → look l x ≡ old a
  look_less [] m x b h e = absurd (omega arith)
  look_less (a ∷ l) m zero b h e = e
  look_less (a ∷ l) m (suc x) b h e = look_less l m x b (omega arith) e

  pub look_end : (l : List A) (x : ℕ) → x ≡ length l → look l x ≡ new
  look_end [] zero h = refl
  look_end [] (suc x) h = absurd (omega arith)
  look_end (a ∷ l) zero h = absurd (omega arith)
  look_end (a ∷ l) (suc x) h = look_end l x (omega arith)

  -- what follows a beginning
  pub next_is : (b r : List A) (x : ℕ) (a : A) → look b x ≡ new → look (b ++ r) x ≡ old a → (m : List A) × (r ≡ a ∷ m)
  next_is [] [] zero a h e = let z : ◌≡◌ {A = ℕ} 0 1 = cc in absurd (omega arith)
  next_is [] (c ∷ r) zero a h e = (r, cc)
  next_is [] r (suc x) a h e = let z : ◌≡◌ {A = ℕ} 0 1 = cc in absurd (omega arith)
  next_is (c ∷ b) r zero a h e = let z : ◌≡◌ {A = ℕ} 0 1 = cc in absurd (omega arith)
  next_is (c ∷ b) r (suc x) a h e = next_is b r x a h e

  pub pre_more : {b l : List A} (x : ℕ) (a : A) → Begins b l → look b x ≡ new → look l x ≡ old a → Begins (b ++ (a ∷ [])) l
  pre_more {b} {l} x a p h e =
      let n = next_is b p.rest x a h (rw p.is at e) in
      record { rest = n.0; is = rw (append_assoc b (a ∷ []) n.0, ← n.1) p.is }

  pub pre_less : (b : List A) {l : List A} (a : A) → Begins (b ++ (a ∷ [])) l → Begins b l
  pre_less b {l} a p = record { rest = a ∷ p.rest; is = p.is ∙ append_assoc b (a ∷ []) p.rest }

  pub pre_look : {b l : List A} (x : ℕ) (a : A) → Begins b l → look b x ≡ old a → look l x ≡ old a
  pre_look {b} x a p h = rw p.is (look_more b p.rest x a h)

  pub pre_last : (b : List A) {l : List A} (x : ℕ) (a : A) → Begins (b ++ (a ∷ [])) l → look b x ≡ new → look l x ≡ old a
  unfolding pre_less
  pre_last b x a p h = let q = pre_less b a p in rw q.is (look_last b p.rest x a h)

  -- as long as the list: all of it
  pub pre_all : (b r : List A) → length (b ++ r) ≡ length b → b ++ r ≡ b
  pre_all [] [] h = refl
  pre_all [] (a ∷ r) h = absurd (omega arith)
  pre_all (a ∷ b) r h = rw (pre_all b r (omega arith))

  pub pre_refl : {l : List A} → Begins l l
  pre_refl {l} = record { rest = []; is = flip (append-nil l) }

  pub pre_trans : {a b c : List A} → Begins a b → Begins b c → Begins a c
  pre_trans {a} p q = record { rest = p.rest ++ q.rest; is = q.is ∙ ap (λ (l : List A). l ++ q.rest) p.is ∙ append_assoc a p.rest q.rest }

  pub pre_length : {b l : List A} → Begins b l → length b ≤ length l
  pre_length {b} p = omega (arith, ap length p.is, length-append b p.rest)

  pub pre_same : {b l : List A} → Begins b l → length l ≤ length b → b ≡ l
  pre_same {b} p h = flip (p.is ∙ pre_all b p.rest (omega (arith, ap length p.is, pre_length p)))

  pub all_more : (P : ℕ → A → Type 0) (l : List A) (x : ℕ) (a : A) → look l x ≡ new → ((y : ℕ) (b : A) → look l y ≡ old b → P y b) → P x a
      → (y : ℕ) (b : A) → look (l ++ (a ∷ [])) y ≡ old b → P y b
  all_more P [] zero a h k p zero b e = let z : a ≡ b = cc in rw z at p
  all_more P [] zero a h k p (suc y) b e = absurd (omega (arith, look_old [] y b e))
  all_more P [] (suc x) a h k p y b e = let z : ◌≡◌ {A = ℕ} 0 1 = cc in absurd (omega arith)
  all_more P (c ∷ l) zero a h k p y b e = let z : ◌≡◌ {A = ℕ} 0 1 = cc in absurd (omega arith)
  all_more P (c ∷ l) (suc x) a h k p zero b e = k zero b e
  all_more P (c ∷ l) (suc x) a h k p (suc y) b e = all_more (λ z. P (suc z)) l x a h (λ z d f. k (suc z) d f) p y b e

-- the value of a variable that has one
pub at_old : (σ : List Value) (x : ℕ) {v : Value} → look σ x ≡ old v → at σ x ≡ v
at_old [] zero h = let z : ◌≡◌ {A = ℕ} 0 1 = cc in absurd (omega arith)
at_old [] (suc x) h = let z : ◌≡◌ {A = ℕ} 0 1 = cc in absurd (omega arith)
at_old (v ∷ σ) zero h = cc
at_old (v ∷ σ) (suc x) h = at_old σ x h

-- every number of the list is below n
abbrev pub Each : ℕ → List ℕ → Type 0
Each n [] = Unit {0}
Each n (x ∷ l) = (x < n) × Each n l

pub each_at : (n : ℕ) (l : List ℕ) → Each n l → (i : ℕ) → i < length l → get_or l i 0 < n
each_at n [] e i h = absurd (omega arith)
each_at n (x ∷ l) e zero h = e.0
each_at n (x ∷ l) e (suc i) h = each_at n l e.1 i (omega arith)

pub at_each : (n : ℕ) (l : List ℕ) → ((i : ℕ) → i < length l → get_or l i 0 < n) → Each n l
at_each n [] h = tt
at_each n (x ∷ l) h = (h 0 (omega arith), at_each n l (λ i k. h (suc i) (omega arith)))

pub each_append : (n : ℕ) (l m : List ℕ) → Each n l → Each n m → Each n (l ++ m)
each_append n [] m e f = f
each_append n (x ∷ l) m e f = (e.0, each_append n l m e.1 f)

pub each_parts : (n : ℕ) (l m : List ℕ) → Each n (l ++ m) → Each n l × Each n m
each_parts n [] m e = (tt, e)
each_parts n (x ∷ l) m e = let p = each_parts n l m e.1 in ((e.0, p.0), p.1)
