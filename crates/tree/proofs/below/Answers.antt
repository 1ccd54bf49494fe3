use Rattle.std.proofs.Common.{◌≡◌, refl, ℕ, zero, suc, ◌<◌, Bool, true, false, List, [], ◌∷◌, length, get_or, nat_lt, arith}
use Rattle.std.specs.Prelude.{◌&&◌, fold}
use Rattle.std.proofs.lemmas.Grind.{common_steps}
use Rattle.std.proofs.lemmas.List.Folds.{fold_stays}
use Rattle.meaning.specs.Calls.{Says}
use Rattle.meaning.proofs.Answers.{says_yes, says_no, says_less, said_no}
use Rattle.tree.specs.Rows.{Below}
use Rattle.tree.proofs.below.Goals as goal

module _ (n : ℕ) where
  abbrev and_less : Bool → ℕ → Bool
  and_less all x = all && nat_lt x n

  first_and_rest : {x : ℕ} {xs : List ℕ} → x < n → Below n xs → Below n (x ∷ xs)
  first_and_rest {x} {xs} h b = record { each = go }
    where
      go : (i : ℕ) → i < length (x ∷ xs) → get_or (x ∷ xs) i 0 < n
      go zero l = h
      go (suc i) l = b.each i (omega arith)

  folded : (xs : List ℕ) → Says (fold and_less true xs) (Below n xs)
  folded [] = says_yes (record { each = λ i h. absurd (omega arith) })
  folded (x ∷ xs) =
      elim (nat_lt x n) as (λ b. Says b (x < n) → Says (fold and_less b xs) (Below n (x ∷ xs))) [
        | true ↦ λ h. (λ e. first_and_rest (h.0 refl) ((folded xs).0 e), λ b. (folded xs).1 (record { each = λ i l. b.each (suc i) (omega arith) }))
        | false ↦ λ h. rw (fold_stays and_less false (λ y. refl) xs) (says_no (λ b. said_no h refl (b.each 0 (omega arith))))
      ] (says_less x n (λ h. h) (λ h. h))

pub returns : goal.returns
returns c =
    let h : c.fold.result ≡ fold (λ (all : Bool) x. all && nat_lt x c.args.limit) true c.args.s.now = grind (arith, common_steps) in
    rw h (folded c.args.limit c.args.s.now)
