use Prim.Native.Nat.{ℕ, suc, ◌+◌, ◌-◌, ◌<◌, ◌≤◌}
use mathlib.Core.Path.{◌≡◌, ◌∙◌}
use native.Mathlib.Omega.{arith}
use Rattle.page.specs.Page.{outside, value}
use Rattle.page.proofs.choose.Goals as goal

-- the values behind v, of n from lo on
behind : {lo n v : ℕ} → lo ≤ v → v - lo < n → v + suc (n - (v - lo) - 1) ≡ lo + n
behind l h = omega arith

pub overflow_add-x : goal.overflow_add-x
overflow_add-x c = omega (arith, c.requires.read, c.well_formed)

pub overflow_add-x-2 : goal.overflow_add-x-2
overflow_add-x-2 c = omega (arith, c.requires.read, c.well_formed)

pub at-v-requires : goal.at-v-requires
at-v-requires c = c.requires.read

pub least-least-requires : goal.least-least-requires
least-least-requires c = c.requires.room

pub values-values-requires : goal.values-values-requires
values-values-requires c = c.requires.stop

pub returns-then-v-least : goal.returns-then-v-least
returns-then-v-least c = outside c.least-least.ensures c.values-values.ensures (λ l h. omega (arith, c.at-v.ensures.0, c.if-v-least.true))

pub returns-then-values-v : goal.returns-then-values-v
returns-then-values-v c = outside c.least-least.ensures c.values-values.ensures (λ l h. omega (arith, c.at-v.ensures.0, c.if-values-v.true))

pub overflow_sub-left-2 : goal.overflow_sub-left-2
overflow_sub-left-2 c = omega (arith, c.if-values-v.false)

pub overflow_sub-left-3 : goal.overflow_sub-left-3
overflow_sub-left-3 c = omega (arith, c.if-values-v.false)

pub landing-u-requires : goal.landing-u-requires
landing-u-requires c = (c.requires.asked _ _ _ _ c.least-least.ensures c.values-values.ensures c.if-v-least.false (behind c.if-v-least.false c.if-values-v.false)).0

pub further-row-requires : goal.further-row-requires
further-row-requires c = (c.requires.asked _ _ _ _ c.least-least.ensures c.values-values.ensures c.if-v-least.false (behind c.if-v-least.false c.if-values-v.false)).1 _
    c.landing-u.ensures

pub enter-requires : goal.enter-requires
enter-requires c = c.requires.inside

pub overflow_add-v : goal.overflow_add-v
overflow_add-v c = omega (arith, c.at-v.ensures.1)

pub advance-requires : goal.advance-requires
advance-requires c = let i = c.requires.inside in
    record { long = c.enter.ensures.long ∙ i.long; few = i.few }

pub returns : goal.returns
returns c = value c.least-least.ensures c.values-values.ensures c.at-v.ensures.0 c.if-v-least.false (behind c.if-v-least.false c.if-values-v.false) c.landing-u.ensures
    c.further-row.ensures c.enter.ensures c.advance.ensures
