-- The state of a walk: what it says of a variable that has appeared, and how one more is bound.
use Prim.Native.Nat.{ℕ, suc, ◌+◌, ◌<◌, ◌≤◌}
use mathlib.Core.Path.{◌≡◌, refl, ap, ◌∙◌, sym, subst}
use mathlib.Core.Logic.{◌≢◌}
use mathlib.Core.List.{List, [], ◌∷◌, ◌++◌, append_assoc}
use lib.ListN.{length, get_or, take, set, length-set}
use lib.Seq.{get_or-take, get_or-set_same, get_or-set_other, take-suc}
use native.Mathlib.Omega.{arith}
use Rattle.meaning.specs.Pattern.{Kind, old, new, look, Comes, after}
use Rattle.meaning.specs.Matcher.{Value, kind}
use Rattle.meaning.specs.Record.{Entry, entry, second, numbers}
use Rattle.meaning.specs.Read.{values}
use Rattle.meaning.proofs.Lists.{look_old, look_some, look_end, pre_look, all_more}
use Rattle.meaning.proofs.Steps.{values_length, fresh, stands_inv, note_new}
use Rattle.meaning.proofs.Next.{Any}
use Rattle.variable.specs.State.{ValueAt, State, Written, row_of, zero_of_individual, zero_of_function, Kept}
use Rattle.variable.proofs.Lists.{kinds_look, values_look, numbers_more, numbers_at, same_before}

-- what a walk writes later, a walk writes
written_more : {Q : List Kind} {n m i : ℕ} → n ≤ m → Written Q m i → Written Q n i
written_more h (row_of x a b c) = row_of x (omega arith) b c
written_more h (zero_of_individual x a b c) = zero_of_individual x (omega arith) b c
written_more h (zero_of_function x a b c) = zero_of_function x (omega arith) b c

pub kept_same : {Q : List Kind} {n : ℕ} {R : List ℕ} → Kept Q n R R
kept_same = record { long = refl; rest = λ i h. refl }

pub kept_then : {Q : List Kind} {n m : ℕ} {R R₁ R₂ : List ℕ} → n ≤ m → Kept Q n R R₁ → Kept Q m R₁ R₂ → Kept Q n R R₂
kept_then h a b = record { long = b.long ∙ a.long; rest = λ i f. b.rest i (λ w. f (written_more h w)) ∙ a.rest i f }

-- the numbers t and d of the variable n are written into R, which then is R'
pub record Put (R R' : List ℕ) (n t d : ℕ) : Type 0 where
  pub long : length R' ≡ length R
  pub row : get_or R' (n + n) 0 ≡ t
  pub second : get_or R' (n + n + 1) 0 ≡ d
  pub rest : (i : ℕ) → i ≢ n + n → i ≢ n + n + 1 → get_or R' i 0 ≡ get_or R i 0

pub put_both : {R R' : List ℕ} {n t v : ℕ} → n + n + 1 < length R → R' ≡ set (set R (n + n) t) (n + n + 1) v → Put R R' n t v
put_both {R} {R'} {n} {t} {v} h e =
    let f : n + n + 1 < length (set R (n + n) t) = simp length-set h in
    let g : n + n < length R = omega arith in
    let o : n + n ≢ n + n + 1 = omega arith in
    rw e
    record {
      long = simp length-set;
      row = get_or-set_other (set R (n + n) t) (n + n + 1) (n + n) v 0 o ∙ get_or-set_same R (n + n) t 0 g;
      second = get_or-set_same (set R (n + n) t) (n + n + 1) v 0 f;
      rest = λ i a b. get_or-set_other (set R (n + n) t) (n + n + 1) i v 0 b ∙ get_or-set_other R (n + n) i t 0 a;
    }

-- a variable without choices is written with a 0
pub kept_both : {Q : List Kind} {R R' : List ℕ} {n t d : ℕ} → n < length Q → Written Q n (n + n + 1) → Put R R' n t d → Kept Q n R R'
kept_both {Q} {R} {R'} {n} few w p =
    record {
      long = p.long;
      rest = λ i f. p.rest i (λ e. f (row_of n (omega arith) few e)) (λ e. f (subst (λ (k : ℕ). Written Q n k) (sym e) w));
    }

module _ {L S R : List ℕ} {Q : List Kind} {n : ℕ} {B : List Entry} (state : State L S R Q n B) where
  pub count_bound : length B ≡ n
  count_bound = sym (values_length B) ∙ state.bound.many

  pub is_new : {x : ℕ} → x ≡ n → look (values B) x ≡ new
  is_new e = look_end (values B) _ (e ∙ sym state.bound.many)

  module _ {x : ℕ} {k : Kind} (comes : Comes Q x k n) where
    pub in_room : x + x + 1 < length R
    in_room = omega (arith, look_old Q x k comes.kept, state.room)

    -- a variable that has appeared
    pub record Earlier : Type 0 where
      pub value : Value
      pub is : look (values B) x ≡ old value
      pub its : kind value ≡ k
      pub stands : ValueAt L S (get_or R (x + x) 0) value
      pub second_is : second value (get_or R (x + x) 0) ≡ get_or R (x + x + 1) 0

    pub earlier : x ≢ n → Earlier
    earlier f =
        let lt : x < n = omega (arith, comes.near) in
        let w = look_some (values B) x (omega (arith, state.bound.many)) in
        let e = values_look B x w.0 w.1 in
        let m = numbers_at B x e.0 e.1 in
        let v : Value = e.0.value in
        let i : look (values B) x ≡ old v = w.1 ∙ ap old (sym e.2) in
        let q = pre_look x (kind v) state.bound.kept (kinds_look (values B) x v i) in
        let g = comes.kept in
        let a : get_or R (x + x) 0 ≡ e.0.row = sym (get_or-take (n + n) R (x + x) 0 (omega arith)) ∙ ap (λ (l : List ℕ). get_or l (x + x) 0) state.numbered ∙ m.0 in
        let b : get_or R (x + x + 1) 0 ≡ second v e.0.row = sym (get_or-take (n + n) R (x + x + 1) 0 (omega arith)) ∙ ap (λ (l : List ℕ). get_or l (x + x + 1) 0) state.numbered ∙ m.1 in
        record {
          value = v;
          is = i;
          its = cc;
          stands = subst (λ (r : ℕ). ValueAt L S r v) (sym a) (state.stand x e.0 e.1);
          second_is = ap (second v) a ∙ sym b;
        }

    -- one more variable
    module _ {t : ℕ} {v : Value} {R' : List ℕ} (next : x ≡ n) (its : kind v ≡ k) (here : ValueAt L S t v) (put : Put R R' n t (second v t)) where
      numbered_more : take (n + 1 + (n + 1)) R' ≡ numbers (B ++ (entry v t ∷ []))
      numbered_more =
          let r = in_room in
          let l = put.long in
          let b : n + n + 1 ≡ suc (n + n) = omega arith in
          let a : n + 1 + (n + 1) ≡ suc (suc (n + n)) = omega arith in
          let s = rw b at put.second in
          let same = same_before R' R put.long (n + n) (λ i h. put.rest i (omega arith) (omega arith)) in
          rw (a, take-suc R' (suc (n + n)) 0 (omega arith), take-suc R' (n + n) 0 (omega arith), same, state.numbered, put.row, s, numbers_more B v t)
          (append_assoc (numbers B) (t ∷ []) (second v t ∷ []))

      pub state_more : State L S R' Q (n + 1) (B ++ (entry v t ∷ []))
      state_more =
          let h = is_new next in
          let c : Comes Q x (kind v) n = rw its comes in
          let a : after x n ≡ n + 1 = omega arith in
          let i = rw (a, note_new B x v t h) at (stands_inv Any {v = v} t state.bound c (fresh h tt)) in
          record {
            small = state.small;
            room = omega (arith, state.room, put.long);
            bound = i;
            stand = all_more (λ y e. ValueAt L S e.row e.value) B x (entry v t) (look_end B x (next ∙ sym count_bound)) state.stand here;
            numbered = numbered_more;
          }
