-- The values of a variable in their order: the row of the least, and of the next.
use Prim.Native.Nat.{ℕ, suc, ◌+◌, ◌-◌, ◌<◌}
use mathlib.Core.Path.{◌≡◌, sym, subst}
use mathlib.Core.Logic.{◌≢◌}
use mathlib.Core.List.{List}
use lib.ListN.{length, get_or}
use native.Mathlib.Omega.{arith}
use Rattle.meaning.specs.Forest.{rows}
use Rattle.meaning.specs.Read.{take_t, cut}
use Rattle.meaning.specs.Pattern.{Kind}
use Rattle.meaning.proofs.Laws.{drop_t}
use Rattle.meaning.proofs.Resume.{Frame, Stop, least, largest}
use Rattle.tree.specs.Places.{TermAt}
use Rattle.tree.proofs.Terms.{terms_le, terms_end, terms_rows, first_at, term_next}
use Rattle.tree.proofs.Cuts.{cut_at}
use Rattle.variable.specs.Steps.{Behind}
use Rattle.walk.specs.Above.{Stands, before_terms, over_term}
use Rattle.walk.specs.Onward.{Lands, at_terms, at_hole}
use Rattle.choice.proofs.Stops.{behind_more, one_behind, some_left, terms_left}

module _ {L S A K N Z : List ℕ} {Q : List Kind} {p x s : ℕ} where
  -- the least value
  pub lands_first : {w : Stop} {fs : List Frame} → Stands L S A K N Z Q p x s w fs → Lands L S s s 0 w
  unfolding take_t drop_t rows cut
  lands_first (before_terms c nm k e h pt g t hd) = at_terms (t, omega arith)
  lands_first (over_term c nm k z i g t m b) = at_hole (omega arith, t)

  -- the next
  pub lands_next : {w : Stop} {fs : List Frame} {u d r : ℕ} → Stands L S A K N Z Q p x s w fs → Lands L S s u d w → least w s + d < largest w s
      → (get_or K p 0 ≡ 2 → r ≡ u + get_or S u 0) → (get_or K p 0 ≢ 2 → r ≡ u + 1) → Lands L S s r (suc d) w
  lands_next {u = u} {d = d} {r = r} (before_terms {us = us} c nm k e h pt g t hd) (at_terms {e = f} y) l two hole =
      let o = some_left (drop_t d us) (omega (arith, terms_left d us (omega arith))) in
      let b = first_at y.0 (omega (arith, terms_rows y.0)) in
      let i : u + get_or S u 0 ≡ r = sym (two k) in
      let j : d + 1 ≡ suc d = omega arith in
      at_terms {e = f} {us = us} (rw (← j) (subst (λ (a : ℕ). Behind L S s f us a (d + 1)) i (behind_more s d 1 us y (one_behind b))))
  lands_next {u = u} {d = d} {r = r} (over_term {T = T} c nm k z i g t m b) (at_hole y) l two hole =
      let q = hole (omega arith) in
      let v = cut_at (s + suc d) t (omega arith) (omega (arith, t.row.size)) in
      let a : s + suc d ≡ r = omega (arith, y.0) in
      let f : s + suc d - s ≡ suc d = omega arith in
      let h : TermAt L S r (cut T (suc d)).at.label (cut T (suc d)).at.args = subst (λ (i : ℕ). TermAt L S i (cut T (suc d)).at.label (cut T (suc d)).at.args) a (rw f at v.1) in
      at_hole (a, h)

  -- where a sequence has one term more it stands there
  pub lands_inside : {w : Stop} {fs : List Frame} {u d : ℕ} → Stands L S A K N Z Q p x s w fs → Lands L S s u d w → least w s + d < largest w s → get_or K p 0 ≡ 2 → u < length S
  lands_inside {d = d} (before_terms {us = us} c nm k e h pt g t hd) (at_terms y) l two =
      let o = some_left (drop_t d us) (omega (arith, terms_left d us (omega arith))) in
      let b = first_at y.0 (omega (arith, terms_rows y.0)) in
      (term_next b.first).sized
  lands_inside (over_term c nm k z i g t m b) y l two = absurd (omega arith)

-- the row of a value is one of the tree's, or behind them
pub lands_small : {L S A K N Z : List ℕ} {Q : List Kind} {p x s u d : ℕ} {w : Stop} {fs : List Frame} → length L < 4294967296 → Stands L S A K N Z Q p x s w fs → Lands L S s u d w → u < 4294967296
lands_small small (before_terms c nm k e h pt g t hd) (at_terms y) = omega (arith, terms_le y.0, terms_end y.0)
lands_small small (over_term c nm k z i g t m b) (at_hole y) = omega (arith, (term_next y.1).labelled)
