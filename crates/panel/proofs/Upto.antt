-- The problems answered one after another: what holds when the first i are, and what one more adds.
use Prim.Native.Nat.{ℕ, ◌+◌, ◌-◌, ◌*◌, ◌<◌}
use mathlib.Core.Path.{◌≡◌, refl, ap, ◌∙◌, sym}
use mathlib.Core.Logic.{inl, inr}
use mathlib.Core.List.{List}
use lib.ListN.{length, get_or, take, drop, set, length-set}
use lib.Seq.{drop-drop, get_or-set_same, get_or-set_other}
use native.Mathlib.Omega.{arith}
use borrow.Author.Count.{below_more}
use Rattle.problem.specs.Problem.{Lists}
use Rattle.lister.specs.Listed.{Settled}
use Rattle.answer.specs.declared.Listing.{Listing}
use Rattle.panel.specs.Parts.{sum, part}
use Rattle.panel.specs.Panel.{Panel, problems, problem, answer_at, ListsAgree, LengthsAddUp, PanelSettled}
use Rattle.portion.specs.Portion.{PortionPost}
use Rattle.panel.specs.Inside.{reach, written}
use Rattle.portion.specs.declared.Reach.{Reach}
use Rattle.panel.proofs.Parts.{sum_next, put, put_its, put_before, put_behind, put_long}

-- four numbers that are written, and the others
module _ (answer : List ℕ) (at : ℕ) (x : Listing) where
  abbrev one_written : List ℕ
  one_written = set answer at x.code

  abbrev two_written : List ℕ
  two_written = set one_written (at + 1) x.ending

  abbrev three_written : List ℕ
  three_written = set two_written (at + 2) x.records

  others : (k : ℕ) → (k < at) → get_or (written answer at x) k 0 ≡ get_or answer k 0
  others k h =
      get_or-set_other three_written (at + 3) k x.tries 0 (λ e. omega arith)
      ∙ get_or-set_other two_written (at + 2) k x.records 0 (λ e. omega arith)
      ∙ get_or-set_other one_written (at + 1) k x.ending 0 (λ e. omega arith)
      ∙ get_or-set_other answer at k x.code 0 (λ e. omega arith)

  written_long : length (written answer at x) ≡ length answer
  written_long =
      length-set three_written (at + 3) x.tries ∙ length-set two_written (at + 2) x.records ∙ length-set one_written (at + 1) x.ending ∙ length-set answer at x.code

  module _ (h : at + 3 < length answer) where
    first : get_or (written answer at x) at 0 ≡ x.code
    first =
        get_or-set_other three_written (at + 3) at x.tries 0 (λ e. omega arith)
        ∙ get_or-set_other two_written (at + 2) at x.records 0 (λ e. omega arith)
        ∙ get_or-set_other one_written (at + 1) at x.ending 0 (λ e. omega arith)
        ∙ get_or-set_same answer at x.code 0 (omega arith)

    second : get_or (written answer at x) (at + 1) 0 ≡ x.ending
    second =
        get_or-set_other three_written (at + 3) (at + 1) x.tries 0 (λ e. omega arith)
        ∙ get_or-set_other two_written (at + 2) (at + 1) x.records 0 (λ e. omega arith)
        ∙ get_or-set_same one_written (at + 1) x.ending 0 (omega (arith, length-set answer at x.code))

    third : get_or (written answer at x) (at + 2) 0 ≡ x.records
    third =
        get_or-set_other three_written (at + 3) (at + 2) x.tries 0 (λ e. omega arith)
        ∙ get_or-set_same two_written (at + 2) x.records 0 (omega (arith, length-set one_written (at + 1) x.ending, length-set answer at x.code))

    fourth : get_or (written answer at x) (at + 3) 0 ≡ x.tries
    fourth =
        get_or-set_same three_written (at + 3) x.tries 0
        (omega (arith, length-set two_written (at + 2) x.records, length-set one_written (at + 1) x.ending, length-set answer at x.code))

answer_same : (i : ℕ) (answer : List ℕ) (x : Listing) → i * 4 + 3 < length answer
    → answer_at i (written answer (i * 4) x) ≡ record { code = x.code; ending = x.ending; records = x.records; tries = x.tries }
answer_same i answer x h =
    rw (first answer (i * 4) x h, second answer (i * 4) x h, third answer (i * 4) x h, fourth answer (i * 4) x h)

answer_other : (j i : ℕ) (answer : List ℕ) (x : Listing) → j < i → answer_at j (written answer (i * 4) x) ≡ answer_at j answer
answer_other j i answer x h =
    let o = others answer (i * 4) x in
    rw (o (j * 4) (omega arith), o (j * 4 + 1) (omega arith), o (j * 4 + 2) (omega arith), o (j * 4 + 3) (omega arith))

-- the first i problems are answered, each as by a call of its own; the shares behind them are as they were
pub record Upto (p : Panel) (out answer : List ℕ) (i : ℕ) (out' answer' : List ℕ) : Type 0 where
  pub out_long : length out' ≡ length out
  pub answer_long : length answer' ≡ length answer
  pub each : (j : ℕ) → j < i → Settled (problem p j) (get_or p.budget j 0) (part j p.share out) (answer_at j answer') (part j p.share out')
  pub rest : drop (sum (take i p.share)) out' ≡ drop (sum (take i p.share)) out

pub upto_none : (p : Panel) (out answer : List ℕ) → Upto p out answer 0 out answer
upto_none p out answer = record { out_long = refl; answer_long = refl; each = λ j h. absurd (omega arith); rest = refl }

-- the tree and the tables whole, and how far the first i problems reach
abbrev pub tables : Panel → Lists
tables p =
    record {
      label = p.label;
      size = p.size;
      kind = p.kind;
      name = p.name;
      pattern_size = p.pattern_size;
      expression_kind = p.expression_kind;
      expression_name = p.expression_name;
      expression_size = p.expression_size;
      constraint = p.constraint;
    }

-- from one reach to the next there are as many as the length says
span : (i : ℕ) (lengths : List ℕ) → i < length lengths → sum (take (i + 1) lengths) - sum (take i lengths) ≡ get_or lengths i 0
span i lengths h = omega (arith, sum_next i lengths h)

-- one more problem is answered
module _ (p : Panel) (out answer : List ℕ) (agree : ListsAgree p (length answer)) (add : LengthsAddUp p (length out)) (i : ℕ) (h : i < problems p) where
  rows : sum (take (i + 1) p.pattern_length) - sum (take i p.pattern_length) ≡ get_or p.pattern_length i 0
  rows = span i p.pattern_length (omega (arith, agree.patterns))

  expression_rows_lem : sum (take (i + 1) p.expression_length) - sum (take i p.expression_length) ≡ get_or p.expression_length i 0
  expression_rows_lem = span i p.expression_length (omega (arith, agree.expressions))

  numbers : sum (take (i + 1) p.constraint_length) - sum (take i p.constraint_length) ≡ get_or p.constraint_length i 0
  numbers = span i p.constraint_length (omega (arith, agree.constraints))

  entries : sum (take (i + 1) p.share) - sum (take i p.share) ≡ get_or p.share i 0
  entries = span i p.share h

  pub upto_next : {now answers now' : List ℕ} {x : Listing} → Upto p out answer i now answers
      → PortionPost (tables p) (reach p i) (reach p (i + 1)) (get_or p.budget i 0) now x now' → Upto p out answer (i + 1) now' (written answers (i * 4) x)
  upto_next {now} {answers} {now'} {x} u post =
      record {
        out_long = ap length is ∙ put_long p.share now post.share i h filled long ∙ u.out_long;
        answer_long = written_long answers (i * 4) x ∙ u.answer_long;
        each = below_more (λ (j : ℕ). Settled (problem p j) (get_or p.budget j 0) (part j p.share out) (answer_at j (written answers (i * 4) x)) (part j p.share now')) i before last;
        rest = ap (λ (l : List ℕ). drop (sum (take (i + 1) p.share)) l) is ∙ put_behind p.share now post.share i h filled long ∙ behind;
      }
    where
      filled : sum p.share ≡ length now
      filled = add.out ∙ sym u.out_long

      long : length post.share ≡ get_or p.share i 0
      long = post.long ∙ entries

      is : now' ≡ put p.share now post.share i
      is = rw (← entries) post.is

      its : Settled (problem p i) (get_or p.budget i 0) (part i p.share out) (record { code = x.code; ending = x.ending; records = x.records; tries = x.tries }) post.share
      its = rw (rows, expression_rows_lem, numbers, entries, u.rest) at post.settled

      behind : drop (sum (take (i + 1) p.share)) now ≡ drop (sum (take (i + 1) p.share)) out
      behind =
          let n = sum_next i p.share h in
          let k = get_or p.share i 0 in
          ap (λ (m : ℕ). drop m now) n
          ∙ sym (drop-drop k (sum (take i p.share)) now)
          ∙ ap (λ (l : List ℕ). drop k l) u.rest
          ∙ drop-drop k (sum (take i p.share)) out
          ∙ ap (λ (m : ℕ). drop m out) (sym n)

      last : Settled (problem p i) (get_or p.budget i 0) (part i p.share out) (answer_at i (written answers (i * 4) x)) (part i p.share now')
      last =
          rw (answer_same i answers x (omega (arith, u.answer_long, agree.answers)), ap (λ (l : List ℕ). part i p.share l) is ∙ put_its p.share now post.share i h filled long) its

      before : (j : ℕ) → j < i → Settled (problem p j) (get_or p.budget j 0) (part j p.share out) (answer_at j (written answers (i * 4) x)) (part j p.share now')
      before j b = rw (answer_other j i answers x b, ap (λ (l : List ℕ). part j p.share l) is ∙ put_before p.share now post.share i h filled long j b) (u.each j b)

-- nothing is written where the lists do not agree or do not add up
pub panel_refused : (p : Panel) (out answer : List ℕ) → (ListsAgree p (length answer) × LengthsAddUp p (length out) → ⊥) → PanelSettled p out answer 21 out answer
panel_refused p out answer n = record { code = inl (n, refl); each = λ e. absurd (omega arith); long = (refl, refl); refused = λ e. (refl, refl) }

pub panel_done : (p : Panel) {out answer out' answer' : List ℕ} → ListsAgree p (length answer) → LengthsAddUp p (length out) → Upto p out answer (problems p) out' answer' → PanelSettled p out answer 0 out' answer'
panel_done p agree add u = record { code = inr ((agree, add), refl); each = λ e. u.each; long = (u.out_long, u.answer_long); refused = λ e. absurd (e refl) }
