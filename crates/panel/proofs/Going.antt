-- The loop over the problems: what holds whenever it goes round, what its calls ask, and what each turn adds.
use Prim.Native.Nat.{ℕ, ◌+◌, ◌*◌, ◌≤◌, ◌<◌}
use mathlib.Core.Path.{◌≡◌, refl, ap, ◌∙◌, sym}
use mathlib.Core.Bool.{Bool, true, false}
use mathlib.Core.List.{List}
use lib.ListN.{length, get_or, take}
use native.Mathlib.Omega.{arith}
use Rattle.meaning.specs.Calls.{Says}
use Rattle.meaning.proofs.Answers.{said_no}
use Rattle.tree.specs.Rows.{GoodRows}
use Rattle.answer.specs.declared.Listing.{Listing}
use Rattle.panel.specs.Parts.{sum}
use Rattle.panel.specs.Panel.{Panel, problems, ListsAgree, LengthsAddUp, PanelSettled}
use Rattle.portion.specs.Portion.{most, EndsIn, PortionPre, PortionPost}
use Rattle.panel.specs.Inside.{AllReach, WithNextPre, reach, written}
use Rattle.portion.specs.declared.Reach.{Reach}
use Rattle.panel.proofs.Parts.{sum_next, sum_within}
use Rattle.panel.proofs.Upto.{Upto, upto_none, upto_next, tables, panel_done, panel_refused}

-- nothing is written in a refusal
pub lists_disagree : {p : Panel} {out answer : List ℕ} {r : Bool} → Says r (ListsAgree p (length answer)) → r ≡ false → PanelSettled p out answer 21 out answer
lists_disagree s e = panel_refused _ _ _ (λ g. said_no s e g.0)

pub do_not_add_up : {p : Panel} {out answer : List ℕ} {r : Bool} → Says r (LengthsAddUp p (length out)) → r ≡ false → PanelSettled p out answer 21 out answer
do_not_add_up s e = panel_refused _ _ _ (λ g. said_no s e g.1)

-- whenever the loop goes round: the first i problems are answered, and `from` is how far they reach
pub record Going (p : Panel) (tree : Bool) (out answer : List ℕ) (i : ℕ) (from : Reach) (out' answer' : List ℕ) : Type 0 where
  pub agree : ListsAgree p (length answer)
  pub add : LengthsAddUp p (length out)
  pub all : Reach
  pub small : AllReach p all
  pub judged : Says tree (GoodRows p.label p.size)
  pub is : from ≡ reach p i
  pub few : i ≤ problems p
  pub upto : Upto p out answer i out' answer'

pub begins : {p : Panel} {out answer : List ℕ} {tree : Bool} {all : Reach} → ListsAgree p (length answer) → AllReach p all → LengthsAddUp p (length out)
    → Says tree (GoodRows p.label p.size) → Going p tree out answer 0 (record { rows = 0; expressions = 0; numbers = 0; entries = 0 }) out answer
unfolding sum
begins {p} {out} {answer} {all = all} agree small add judged =
    record { agree = agree; add = add; all = all; small = small; judged = judged; is = refl; few = omega arith; upto = upto_none p out answer }

-- where one part of a list ends, by how far the problems reach
ends_within : (i : ℕ) (lengths list : List ℕ) → i < length lengths → sum lengths ≤ most → sum lengths ≡ length list → EndsIn (sum (take i lengths)) (sum (take (i + 1) lengths)) list
ends_within i lengths list h f e =
    let n = sum_next i lengths h in
    let w = sum_within i lengths h in
    record { start = omega (arith, n); end = omega (arith, n, w, e); fits = omega (arith, n, w, f) }

module _ {p : Panel} {tree : Bool} {out answer : List ℕ} {i : ℕ} {from : Reach} {out' answer' : List ℕ} (g : Going p tree out answer i from out' answer') (h : i < problems p) where
  in_patterns : i < length p.pattern_length
  in_patterns = omega (arith, g.agree.patterns)

  in_expressions : i < length p.expression_length
  in_expressions = omega (arith, g.agree.expressions)

  in_constraints : i < length p.constraint_length
  in_constraints = omega (arith, g.agree.constraints)

  pub budget_there : i < length p.budget
  budget_there = omega (arith, g.agree.budgets)

  pub next_asked : WithNextPre p i from
  next_asked =
      record {
        rows = record { is = ap (λ (r : Reach). r.rows) g.is; there = in_patterns; fits = g.small.rows };
        expression_rows_lem = record { is = ap (λ (r : Reach). r.expressions) g.is; there = in_expressions; fits = g.small.expression_rows_lem };
        numbers = record { is = ap (λ (r : Reach). r.numbers) g.is; there = in_constraints; fits = g.small.numbers };
        entries = record { is = ap (λ (r : Reach). r.entries) g.is; there = h; fits = g.small.entries };
      }

  pub answer_there : (i * 4 < length answer') × (i * 4 + 1 < length answer') × (i * 4 + 2 < length answer') × (i * 4 + 3 < length answer')
  answer_there =
      let n : length answer' ≡ problems p * 4 = g.upto.answer_long ∙ g.agree.answers in
      (omega (arith, n), omega (arith, n), omega (arith, n), omega (arith, n))

  module _ {to : Reach} (e : to ≡ reach p (i + 1)) where
    pub one_asked : PortionPre tree (tables p) from to out'
    one_asked =
        let a = g.add in
        rw (g.is, e)
        (record {
          judged = g.judged;
          kind = ends_within i p.pattern_length p.kind in_patterns g.small.rows a.kind;
          name = ends_within i p.pattern_length p.name in_patterns g.small.rows a.name;
          pattern_size = ends_within i p.pattern_length p.pattern_size in_patterns g.small.rows a.pattern_size;
          expression_kind = ends_within i p.expression_length p.expression_kind in_expressions g.small.expression_rows_lem a.expression_kind;
          expression_name = ends_within i p.expression_length p.expression_name in_expressions g.small.expression_rows_lem a.expression_name;
          expression_size = ends_within i p.expression_length p.expression_size in_expressions g.small.expression_rows_lem a.expression_size;
          constraint = ends_within i p.constraint_length p.constraint in_constraints g.small.numbers a.constraint;
          share = ends_within i p.share out' h g.small.entries (a.out ∙ sym g.upto.out_long);
        })

    pub again : {now : List ℕ} {x : Listing} → PortionPost (tables p) from to (get_or p.budget i 0) out' x now
        → Going p tree out answer (i + 1) to now (written answer' (i * 4) x)
    again post =
        record {
          agree = g.agree;
          add = g.add;
          all = g.all;
          small = g.small;
          judged = g.judged;
          is = e;
          few = omega arith;
          upto = upto_next p out answer g.agree g.add i h g.upto (rw (g.is, e) at post);
        }

pub panel_ends : {p : Panel} {tree : Bool} {out answer : List ℕ} {i : ℕ} {from : Reach} {out' answer' : List ℕ} → Going p tree out answer i from out' answer' → problems p ≤ i → PanelSettled p out answer 0 out' answer'
panel_ends {p} {out = out} {answer} {i} {out' = out'} {answer'} g h =
    let e : i ≡ problems p = omega (arith, g.few) in
    panel_done p g.agree g.add (rw e at g.upto)
