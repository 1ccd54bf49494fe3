-- Blocks of bytes that all pass a test.
use Rattle.std.proofs.Common.{true≢false, ◌≡◌, refl, sym, ap, ◌∙◌, ℕ, zero, suc, ◌+◌, ◌-◌, ◌*◌, ◌/◌, ◌%◌, ◌≤◌, ◌<◌, Bool, true, false, not, ◌&&◌, List, [], ◌∷◌, length, get_or, take, drop, arith, length-drop, add-one}
use Rattle.std.specs.List.{fold, position, position_or_len}
use Rattle.std.specs.Option.{unwrap_or}
use Rattle.std.specs.Simd.{first_chunks}
use Rattle.std.proofs.lemmas.List.{get_or-take, get_or-drop, length-take-le}
use Rattle.std.proofs.lemmas.List.Sums.{fails_before_first}
use Rattle.tokens.specs.Tokens.{Passed}
use Rattle.tokens.proofs.Spans.{passed_none, passed_block}

both_left : (a b : Bool) → (a && b) ≡ true → a ≡ true
both_left true b h = refl
both_left false b h = h

both_right : (a b : Bool) → (a && b) ≡ true → b ≡ true
both_right true b h = h
both_right false b h = absurd (true≢false (sym h))

module _ (test : ℕ → Bool) where
  abbrev pub all_pass : List ℕ → Bool
  all_pass xs = fold (λ all b. all && test b) true xs

  each_from : (start : Bool) (xs : List ℕ) → fold (λ all b. all && test b) start xs ≡ true → (start ≡ true) × ((k : ℕ) → k < length xs → test (get_or xs k 0) ≡ true)
  each_from start [] e = (e, λ k h. absurd (omega arith))
  each_from start (x ∷ xs) e = let more = each_from (start && test x) xs e in (both_left start (test x) more.0, go more)
    where
      go : ((start && test x) ≡ true) × ((k : ℕ) → k < length xs → test (get_or xs k 0) ≡ true) → (k : ℕ) → k < suc (length xs) → test (get_or (x ∷ xs) k 0) ≡ true
      go more zero h = both_right start (test x) more.0
      go more (suc k) h = more.1 k (omega arith)

  pub passed_whole : {w : List ℕ} {a i : ℕ} → Passed (λ k. test (get_or w k 0)) w a i → i + 16 ≤ length w → true ≡ all_pass (take 16 (drop i w)) → Passed (λ k. test (get_or w k 0)) w a (i + 16)
  passed_whole {w} {a} {i} h room all =
      let long : length (take 16 (drop i w)) ≡ 16 = length-take-le 16 (drop i w) (omega (arith, length-drop i w)) in
      passed_block 16 h room (λ k l. ap test (sym (get_or-take 16 (drop i w) k 0 l ∙ get_or-drop i w k 0)) ∙ (each_from true _ (sym all)).1 k (omega arith))
