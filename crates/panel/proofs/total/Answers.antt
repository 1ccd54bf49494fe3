use Rattle.std.proofs.Common.{◌≡◌, ℕ, suc, ◌+◌, ◌*◌, ◌<◌, ◌≤◌, List, [], ◌∷◌, length, get_or, sum, Fits, w32, refl, ap, ◌∙◌, arith}
use Rattle.std.proofs.lemmas.Grind.{common_steps}
use Rattle.std.proofs.lemmas.List.Sums.{sum_by-cons}
use Rattle.panel.specs.Parts.{sum as sum_of}
use Rattle.panel.proofs.total.Goals as goal

same_sum : (ns : List ℕ) → sum ns ≡ sum_of ns
unfolding sum_of
same_sum [] = refl
same_sum (n ∷ ns) = sum_by-cons (λ x. x) n ns ∙ ap (λ (x : ℕ). n + x) (same_sum ns)

most_sum : (ns : List ℕ) → ((i : ℕ) → Fits w32 (get_or ns i 0)) → sum_of ns ≤ length ns * 4294967296
unfolding sum_of
most_sum [] h = omega arith
most_sum (n ∷ ns) h = omega (arith, h 0, most_sum ns (λ i. h (suc i)))

pub returns : goal.returns
returns c =
    let lengths : List ℕ = c.args.lengths.now in
    let e : c.sum.result ≡ sum c.args.lengths.now = grind (arith, common_steps) in
    (e ∙ same_sum lengths, omega (arith, e, same_sum lengths, most_sum lengths c.type_inv.lengths))
