-- What a panel promises, and what follows of it.
use Prim.Native.Nat.{ℕ, ◌<◌}
use mathlib.Core.Path.{◌≡◌, refl, ◌∙◌, sym}
use mathlib.Core.Logic.{◌↔◌, inl, inr}
use mathlib.Core.List.{List}
use lib.ListN.{get_or}
use native.Mathlib.Omega.{arith}
use Rattle.meaning.specs.Calls.{refuse, accept}
use Rattle.tree.specs.Rows.{GoodRows}
use Rattle.lister.specs.Listed.{Settled}
use Rattle.panel.specs.Parts.{part}
use Rattle.panel.specs.Panel.{Panel, problems, problem, answer_at, PanelSettled}
use Rattle.panel.proofs.Parts.{parts_joined}
use Rattle.panel.proofs.Unique.{adds_up, as_alone}
use Rattle.promises.specs.Panels.{Panels}

-- one of two codes is given
accepted : {Rule : Type 0} (r : ℕ) → refuse 21 Rule accept r → (r ≡ 0) ↔ Rule
accepted r (inl a) = (λ z. absurd (omega (arith, a.1)), λ g. absurd (a.0 g))
accepted r (inr a) = (λ z. a.0, λ g. a.1)

refused : {Rule : Type 0} (r : ℕ) → refuse 21 Rule accept r → (r ≡ 21) ↔ (Rule → ⊥)
refused r (inl a) = (λ z. a.0, λ g. a.1)
refused r (inr a) = (λ z. absurd (omega (arith, a.1)), λ n. absurd (n a.0))

-- the first rule is broken
no_tree : {p : Panel} {out answer out' answer' : List ℕ} {r : ℕ} → PanelSettled p out answer r out' answer' → r ≡ 0 → (GoodRows p.label p.size → ⊥) → (i : ℕ) → i < problems p
    → (answer_at i answer' ≡ record { code = 11; ending = 0; records = 0; tries = 0 }) × (part i p.share out' ≡ part i p.share out)
no_tree {p} {out} s z n i h =
    let own : Settled (problem p i) (get_or p.budget i 0) (part i p.share out) (record { code = 11; ending = 0; records = 0; tries = 0 }) (part i p.share out) = record {
      code = inl (n, refl);
      listed = λ e. absurd (omega arith);
      refused = λ e. (refl, refl, refl, refl);
    } in
    let o = as_alone s z i h own in
    (sym o.0, sym o.1)

pub panels : Panels
panels = record {
  as_alone = as_alone;
  accepted = λ {p} {out} {answer} {out'} {answer'} {r} s. accepted r s.code;
  refused = λ {p} {out} {answer} {out'} {answer'} {r} s. refused r s.code;
  shares_are_all = λ {p} {out} {answer} {out'} {answer'} s z. let a = adds_up s z in (parts_joined p.share out a.1.out, parts_joined p.share out' (a.1.out ∙ sym s.long.0));
  parts_joined = parts_joined;
  no_tree = no_tree;
}
