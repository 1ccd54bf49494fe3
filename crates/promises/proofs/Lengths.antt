-- From `Demands` alone: a panel of no problem is answered by 0, whatever the tree, and one of 33 is refused.
use Prim.Native.Nat.{ℕ}
use mathlib.Core.Path.{◌≡◌, refl, sym}
use mathlib.Core.List.{List, []}
use native.Mathlib.Omega.{arith}
use Rattle.panel.specs.Parts.{sum, first_parts}
use Rattle.panel.specs.Panel.{Panel, problems, PanelSettled}
use Rattle.promises.specs.Demands.{Demands}

-- nothing but rows, which need not be a tree
abbrev none : List ℕ → List ℕ → Panel
none label size =
    record {
      label = label;
      size = size;
      kind = [];
      name = [];
      pattern_size = [];
      expression_kind = [];
      expression_name = [];
      expression_size = [];
      constraint = [];
      pattern_length = [];
      expression_length = [];
      constraint_length = [];
      budget = [];
      share = [];
    }

pub panel_of_none : Demands → (label size out answer : List ℕ) (r : ℕ) → PanelSettled (none label size) [] [] r out answer → (r ≡ 0) × (out ≡ [])
unfolding sum first_parts
panel_of_none d label size out answer r s =
    let accepted : r ≡ 0 =
    (d.panels.accepted s).1 (
      record { patterns = refl; expressions = refl; constraints = refl; budgets = refl; answers = refl; few = omega arith },
      record { kind = refl; name = refl; pattern_size = refl; expression_kind = refl; expression_name = refl; expression_size = refl; constraint = refl; out = refl },
    ) in
    (accepted, sym (d.panels.shares_are_all s accepted).1)

pub panel_of_33 : Demands → {p : Panel} {out answer out' answer' : List ℕ} {r : ℕ} → problems p ≡ 33 → PanelSettled p out answer r out' answer' → (r ≡ 21) × (out' ≡ out) × (answer' ≡ answer)
panel_of_33 d {r = r} many s =
    let refused : r ≡ 21 = (d.panels.refused s).1 (λ g. omega (arith, many, g.0.few)) in
    let kept = d.refusals.nothing_written.panel s (λ z. omega arith) in
    (refused, kept.0, kept.1)
