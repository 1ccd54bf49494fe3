-- Demand 1 holds.
use mathlib.Core.Path.{◌≡◌, ◌∙◌, sym}
use native.Mathlib.Decide.{ℕ_discrete}
use Rattle.std.specs.Prelude.{Result}
use Rattle.meaning.specs.Calls.{accept}
use Rattle.meaning.specs.declared.refusal.Refusal.{Refusal}
use Rattle.meaning.proofs.OneCode.{one_accept}
use Rattle.meaning.proofs.Answers.{one_answer as one_yes}
use Rattle.pattern.proofs.Settle.{one_checked as one_pattern}
use Rattle.pattern.specs.declared.Variables.{Variables}
use Rattle.judge.proofs.OneVerdict.{one_verdict, one_judged}
use Rattle.dictionary.proofs.Names.{checked_unique, one_checked}
use Rattle.dictionary.proofs.Parts.{part_unique, one_part, spelling_unique}
use Rattle.document.proofs.Promises.{one_answer, one_read, one_check, check_is_read}
use Rattle.problem.specs.Problem.{Lists}
use Rattle.problem.specs.Answer.{Told, told, Answered}
use Rattle.problem.proofs.Posed.{the, one_codes}
use Rattle.problem.proofs.Unique.{one_told}
use Rattle.test.proofs.Unique.{one_tested}
use Rattle.lister.proofs.Unique.{one_listed, one_paged, are_one, one_list, one_list_after}
use Rattle.panel.proofs.Unique.{one_panel, one_panel_answer}
use Rattle.instance.proofs.Promises.{one_making}
use Rattle.promises.specs.Refusals.{Refusals}

one_problem_told : {l : Lists} {r r' : Told} → Answered l r → Answered l r' → r ≡ r'
one_problem_told {l} {r} {r'} a b = go (ℕ_discrete r.code 0)
  where
    code : r.code ≡ r'.code
    code = one_codes l accept one_accept r.code r'.code a.code b.code

    whole : r.variables ≡ r'.variables → r.kinds ≡ r'.kinds → r ≡ r'
    whole v t = λ i. record { code = code i; variables = v i; kinds = t i }

    go : Dec (r.code ≡ 0) → r ≡ r'
    go (yes z) =
        let w = the a z in
        let f = a.found z w.P w.Q w.poses.rest.pattern in
        let h = b.found (sym code ∙ z) w.P w.Q w.poses.rest.pattern in
        whole (f.0 ∙ sym h.0) (f.1 ∙ sym h.1)
    go (no z) =
        let f = a.refused z in
        let h = b.refused (λ e. z (code ∙ e)) in
        whole (f.0 ∙ sym h.0) (f.1 ∙ sym h.1)

one_problem : {l : Lists} {r r' : Result Variables Refusal} → Answered l (told r) → Answered l (told r') → r ≡ r'
one_problem {r = r} {r' = r'} a b = one_told r r' (one_problem_told a b)

pub refusals : Refusals
refusals = record {
  reader = record { read = λ x. x.answer; unchanged = λ x. x.kept; check = λ x. (x.code, x.place, x.rows, x.answer, x.is); check_is_read = check_is_read };
  matcher = record { list = λ s. s.code; list_after = λ s. s.code; test = λ s. s.code; instance = λ s. s.coded; panel = λ s. s.code };
  one =
      record {
        read = one_read;
        check = λ x y. one_check _ _ _ _ x y;
        judge = one_judged;
        dictionary = one_checked;
        part = λ {d} {w} {l} {b} {n} {row} {p} {q} x y. one_part d w l b n row p q x y;
        spelling = λ x y. spelling_unique _ _ _ _ _ _ _ _ _ _ _ _ x y;
        pattern = one_pattern;
        problem = one_problem;
        test = λ {l} {list} {r} {s} a b. one_tested r s a b;
        list = one_list;
        list_after = one_list_after;
        instance = λ x y. one_making _ _ _ _ _ _ _ _ _ x y;
        panel = one_panel_answer;
        yes_or_no = λ {a} {b} h k. one_yes a b h k;
      };
  one_told =
      record {
        read = λ x y. one_answer _ _ _ _ _ _ _ _ _ _ _ _ _ _ _ _ _ _ _ _ x y;
        judge = one_verdict;
        dictionary = λ x y. checked_unique _ _ _ _ _ x y;
        part = λ x y. part_unique _ _ _ _ _ _ _ _ _ _ _ _ x y;
        problem = one_problem_told;
        list = λ a b. are_one (one_listed a b);
        list_after = λ a b. are_one (one_paged a b);
        panel = one_panel;
      };
  nothing_written = record { list = λ s z. let f = s.refused z in (f.3, f.0, f.1, f.2); list_after = λ s z. let f = s.refused z in (f.3, f.0, f.1, f.2); instance = λ s z. let f = s.refused z in (f.1, f.2, f.0); panel = λ s. s.refused };
}
