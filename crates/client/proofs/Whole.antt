-- One law for each return of the client.
use Prim.Native.Nat.{ℕ, ◌+◌, ◌≤◌}
use mathlib.Core.Path.{◌≡◌, refl, subst}
use mathlib.Core.Bool.{Bool, true, false}
use mathlib.Core.List.{List}
use lib.ListN.{length}
use native.Mathlib.Omega.{arith}
use Rattle.meaning.specs.Calls.{accept}
use Rattle.pattern.specs.Answer as Pattern
use Rattle.pattern.specs.declared.Checked.{Checked}
use Rattle.problem.specs.Problem.{Lists, Codes}
use Rattle.lister.specs.Listed as Lister
use Rattle.lister.specs.Listed.{Listed}
use Rattle.client.specs.Solvable.{Yes, No, Open, Settled}
use Rattle.client.specs.Promises.{ForOne}
use Rattle.client.proofs.Known.{for_one, found, unknown, absent, complete}

pub few_variables : {kind name size : List ℕ} {r : Checked} → Pattern.PatternSettled kind name size r → r.variables ≤ 16
few_variables {r = r} p = go r.good refl
  where
    go : (b : Bool) → r.good ≡ b → r.variables ≤ 16
    go true e = let g = p.judged.0 e in omega (arith, (p.found g.0 g.1 g.2).0, g.2.bounded)
    go false e = omega (arith, (p.refused e).0)

module _ {l : Lists} {budget : ℕ} {before : List ℕ} {r : Listed} {after : List ℕ} (s : Lister.Settled l budget before r after) (z : r.code ≡ 0) where
  accepted : Codes l accept 0
  accepted = subst (λ (c : ℕ). Codes l accept c) z s.code

  pub is_yes : (r.records ≡ 0 → ⊥) → Settled l budget Yes
  is_yes n = record { code = accepted; answered = λ e T P Q es cs w. found (s.listed z T P Q es cs w) n }

  pub is_open : r.records ≡ 0 → r.ending ≡ 2 → Settled l budget Open
  is_open n t = record { code = accepted; answered = λ e T P Q es cs w. unknown (s.listed z T P Q es cs w) n t }

  -- the lent list is twice the variables long
  pub is_no : {c : Checked} → Pattern.PatternSettled l.kind l.name l.pattern_size c → length before ≡ c.variables + c.variables → r.records ≡ 0 → (r.ending ≡ 2 → ⊥) → Settled l budget No
  is_no {c} p b n t =
      record {
        code = accepted;
        answered = λ e T P Q es cs w.
            let h = s.listed z T P Q es cs w in
            let o : ForOne (length before) (length Q) = rw (b, (p.found P Q w.rest.pattern).0) (for_one (length Q)) in
            absent h n (complete h o n t);
      }
