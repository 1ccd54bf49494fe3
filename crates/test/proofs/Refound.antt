-- The walk with a record's own choices finds the record again exactly where it is that of a substitution.
use Prim.Native.Nat.{ℕ, ◌≤◌}
use mathlib.Core.Path.{◌≡◌, refl, ap, ◌∙◌, sym}
use mathlib.Core.Bool.{Bool, true, false}
use mathlib.Core.List.{List, []}
use lib.ListN.{length, take}
use native.Mathlib.Omega.{arith}
use Rattle.meaning.specs.Calls.{Says}
use Rattle.meaning.specs.Forest.{none, Term, ◌◂◌}
use Rattle.meaning.specs.Pattern.{Pattern, Kind}
use Rattle.meaning.specs.Record.{numbers, IsRecord}
use Rattle.meaning.specs.Order.{choices}
use Rattle.meaning.proofs.Walk.{Res, fail, ok}
use Rattle.meaning.proofs.Walk as meant
use Rattle.meaning.proofs.Next.{Any, any?}
use Rattle.meaning.proofs.Tame.{tame_ok}
use Rattle.meaning.proofs.Theorems.{test_yes, test_no}
use Rattle.meaning.proofs.Answers.{says_no}
use Rattle.record.proofs.Each.{good_long}
use Rattle.walk.specs.Packed.{Packed}
use Rattle.problem.specs.Problem.{Lists}
use Rattle.test.specs.Followed.{FollowPre, FollowPost, Followed, lost, found}
use Rattle.record.specs.Copied.{Copied}
use Rattle.test.specs.Inside.{Walkable, WalkablePre, PlacedPost}

module _ {l : Lists} {list : List ℕ} where
  pub list_short : WalkablePre l list → length list ≤ 32
  list_short p =
      let w = p.some.3 in
      omega (arith, good_long p.some.2 (p.some.0 ◂ none) list w.good, w.pattern.bounded)

  pub follow_asked : {M R : List ℕ} → WalkablePre l list → Packed l.kind l.name l.pattern_size M → length R ≡ 32 → FollowPre l.label l.size M list R
  follow_asked p m h = let s = p.some in record { long = h; some = (l.kind, l.name, l.pattern_size, s.0, s.1, s.2, s.3, m) }

  module _ {M after : List ℕ} (m : Packed l.kind l.name l.pattern_size M) where
    pub placed_lost : {r : Bool} → FollowPost l.label l.size M list r after → r ≡ false → PlacedPost l list false
    placed_lost post e = record { is = λ T P Q w. go w (rw e at (post.is l.kind l.name l.pattern_size T P Q w m)) refl }
      where
        go : {T : Term} {P : Pattern} {Q : List Kind} {r : Res} → Walkable l.label l.size l.kind l.name l.pattern_size list T P Q → Followed after false r → meant.walk Any any? P T (choices Q list) ≡ r → Says false (IsRecord Any Q P T list)
        go w lost q = says_no (λ i. let h = test_no Any any? w.pattern.numbered i in let y : fail ≡ ok h.0 [] = sym q ∙ h.1 in let z : ◌≡◌ {A = ℕ} 0 1 = cc in omega arith)

    pub placed_found : {a r : Bool} → FollowPost l.label l.size M list a after → a ≡ true → Says r (Copied list after) → PlacedPost l list r
    placed_found {r = r} post e s = record { is = λ T P Q w. go w (rw e at (post.is l.kind l.name l.pattern_size T P Q w m)) refl }
      where
        go : {T : Term} {P : Pattern} {Q : List Kind} {a : Res} → Walkable l.label l.size l.kind l.name l.pattern_size list T P Q → Followed after true a → meant.walk Any any? P T (choices Q list) ≡ a → Says r (IsRecord Any Q P T list)
        go {T} {P} {Q} w (found {B = B} k) q =
            let g = w.pattern.numbered in
            let b = (tame_ok Any any? T (choices Q list) g q).1 in
            let z : length (numbers B) ≡ length list = omega (arith, b, good_long Q (T ◂ none) list w.good) in
            let f : take (length list) after ≡ numbers B = rw z at k in (
              λ y. test_yes Any any? g q (sym f ∙ (s.0 y).same),
              λ i.
                  let t = test_no Any any? g i in
                  let u : ok B [] ≡ ok t.0 [] = sym q ∙ t.1 in
                  let v : B ≡ t.0 = cc in
                  s.1 (record { long = post.long; same = f ∙ ap numbers v ∙ t.2 }),
            )
