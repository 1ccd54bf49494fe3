-- The promises of `read` and `check` by cases, as the proofs go.
use Prim.Native.Nat.{ℕ, ◌+◌, ◌*◌, ◌≤◌, ◌<◌}
use mathlib.Core.Path.{◌≡◌, refl, sym, ◌∙◌}
use mathlib.Core.Logic.{inl, inr}
use mathlib.Core.Bool.{Bool, true, false}
use mathlib.Core.List.{List}
use lib.Dec.{ltb}
use lib.ListN.{length}
use native.Mathlib.Omega.{arith}
use borrow.Author.Tests.{ltb-true, ltb-false}
use Rattle.meaning.specs.Forest.{rows}
use Rattle.tree.specs.Rows.{depth}
use Rattle.grammar.specs.Grammar.{Bytes, Content, Document}
use Rattle.grammar.specs.Rows.{shape}
use Rattle.grammar.proofs.Unique.{one_reading}
use Rattle.judge.specs.Verdict.{Verdict, long, outside, deep, many}
use Rattle.judge.specs.Verdict as Judged
use Rattle.dictionary.specs.Names.{GoodDictionary}
use Rattle.dictionary.proofs.Names.{good_unique}
use Rattle.document.specs.Reading.{Unchanged, Written, shortest, Holds, ReaderCodes, ReaderAnswer, Read, DocumentChecked}

-- the dictionary is bad, the document is refused, there is no room, or all is well
pub data Cases (d w label size start width label' size' start' width' : List ℕ) : ℕ → ℕ → ℕ → Type 0 where
  bad_dictionary : ((names : List (List ℕ)) → GoodDictionary d names → ⊥) → Unchanged label size start width label' size' start' width' →
      Cases d w label size start width label' size' start' width' 1 0 0
  bad_document : {names : List (List ℕ)} {code place rows : ℕ} → GoodDictionary d names → Verdict w code place rows → (code ≡ 0 → ⊥) →
      Unchanged label size start width label' size' start' width' → Cases d w label size start width label' size' start' width' code place rows
  without_room : {names : List (List ℕ)} {rows : ℕ} → GoodDictionary d names → Verdict w 0 0 rows → shortest label size start width < rows →
      Unchanged label size start width label' size' start' width' → Cases d w label size start width label' size' start' width' 6 0 0
  filled : {names : List (List ℕ)} {f : Content} {t : Bytes} {rows : ℕ} → GoodDictionary d names → Verdict w 0 0 rows →
      rows ≤ shortest label size start width → Document w f t → Written names f label size start width label' size' start' width' →
      Cases d w label size start width label' size' start' width' 0 0 rows

pub data CheckCases (d w : List ℕ) : ℕ → Type 0 where
  bad : ((names : List (List ℕ)) → GoodDictionary d names → ⊥) → CheckCases d w (1 * 4294967296)
  judged : {names : List (List ℕ)} {code place rows : ℕ} → GoodDictionary d names → Verdict w code place rows →
      CheckCases d w (code * 4294967296 + (place + rows))

-- THE CASES KEEP THE PROMISE
-- a document holds one content
held : {w : List ℕ} {f : Content} {t : Bytes} {Is : Content → Type 0} → Document w f t → Holds w Is → Is f
held {f = f} {Is = Is} y h = let e : h.0 ≡ f = (one_reading h.2 y).0 in rw e at h.3

bad_dictionary_lem : {d w : List ℕ} (room : ℕ) → ((names : List (List ℕ)) → GoodDictionary d names → ⊥) → ReaderAnswer d w room 1 0 0
bad_dictionary_lem room h = record {
  lowest = inl (λ g. h g.0 g.1, refl);
  placed = λ e. absurd (omega (arith, e));
  no_place = λ z. refl;
  counted = λ e. absurd (omega (arith, e));
  no_rows = λ z. refl;
}

module _ {d w : List ℕ} {names : List (List ℕ)} (room : ℕ) (g : GoodDictionary d names) where
  refused : {code place number : ℕ} → Verdict w code place number → (code ≡ 0 → ⊥) → ReaderAnswer d w room code place number
  refused (long h) z = record {
    lowest = inr ((_, g), inl (λ k. omega arith, refl));
    placed = λ e. absurd (omega (arith, e));
    no_place = λ z. refl;
    counted = λ e. absurd (z e);
    no_rows = λ z. refl;
  }
  refused (outside h o) z = record {
    lowest = inr ((_, g), inr (h, inl (λ k. o.early k.0 k.1 k.2, refl)));
    placed = λ e. o;
    no_place = λ z. absurd (z refl);
    counted = λ e. absurd (z e);
    no_rows = λ z. refl;
  }
  refused (deep {f} {t} h y k) z = record {
    lowest = inr ((_, g), inr (h, inr ((f, t, y, tt), inl (λ x. absurd (omega (arith, held y x)), refl))));
    placed = λ e. absurd (omega (arith, e));
    no_place = λ z. refl;
    counted = λ e. absurd (z e);
    no_rows = λ z. refl;
  }
  refused (many {f} {t} h y k m) z = record {
    lowest = inr ((_, g), inr (h, inr ((f, t, y, tt), inr ((f, t, y, k), inl (λ x. absurd (omega (arith, held y x)), refl)))));
    placed = λ e. absurd (omega (arith, e));
    no_place = λ z. refl;
    counted = λ e. absurd (z e);
    no_rows = λ z. refl;
  }
  refused (Judged.read h y k m) z = absurd (z refl)

  no_room : {number code : ℕ} → Verdict w code 0 number → code ≡ 0 → room < number → ReaderAnswer d w room 6 0 0
  no_room (long h) e r = absurd (omega (arith, e))
  no_room (outside h o) e r = absurd (omega (arith, e))
  no_room (deep h y k) e r = absurd (omega (arith, e))
  no_room (many h y k m) e r = absurd (omega (arith, e))
  no_room (Judged.read {f} {t} h y k m) e r = record {
    lowest = inr ((_, g), inr (h, inr ((f, t, y, tt), inr ((f, t, y, k), inr ((f, t, y, m), inl (λ x. absurd (omega (arith, held y x)), refl))))));
    placed = λ e. absurd (omega (arith, e));
    no_place = λ z. refl;
    counted = λ e. absurd (omega (arith, e));
    no_rows = λ z. refl;
  }

  whole : {code place number : ℕ} → Verdict w code place number → code ≡ 0 → number ≤ room → ReaderAnswer d w room code place number
  whole (long h) e r = absurd (omega (arith, e))
  whole (outside h o) e r = absurd (omega (arith, e))
  whole (deep h y k) e r = absurd (omega (arith, e))
  whole (many h y k m) e r = absurd (omega (arith, e))
  whole (Judged.read {f} {t} h y k m) e r = record {
    lowest = inr ((_, g), inr (h, inr ((f, t, y, tt), inr ((f, t, y, k), inr ((f, t, y, m), inr ((f, t, y, r), refl))))));
    placed = λ e. absurd (omega (arith, e));
    no_place = λ z. refl;
    counted = λ e. (f, t, y, refl);
    no_rows = λ z. absurd (z refl);
  }

module _ {d w l s b n l' s' b' n' : List ℕ} where
  answered : {code place number : ℕ} → Cases d w l s b n l' s' b' n' code place number → ReaderAnswer d w (shortest l s b n) code place number
  answered (bad_dictionary h u) = bad_dictionary_lem (shortest l s b n) h
  answered (bad_document g v z u) = refused (shortest l s b n) g v z
  answered (without_room g v h u) = no_room (shortest l s b n) g v refl h
  answered (filled g v h y u) = whole (shortest l s b n) g v refl h

  wrote : {code place number : ℕ} → Cases d w l s b n l' s' b' n' code place number → code ≡ 0 → (names : List (List ℕ)) (f : Content) (t : Bytes) → GoodDictionary d names → Document w f t
      → Written names f l s b n l' s' b' n'
  wrote (bad_dictionary h u) e names f t g y = absurd (h names g)
  wrote (bad_document g' v z u) e names f t g y = absurd (z e)
  wrote (without_room g' v h u) e names f t g y = absurd (omega (arith, e))
  wrote (filled {names = ns} {f = h} g' v k y' u) e names f t g y =
      let a : ns ≡ names = good_unique g' g in
      let c : h ≡ f = (one_reading y' y).0 in
      rw (a, c) at u

  unchanged : {code place number : ℕ} → Cases d w l s b n l' s' b' n' code place number → (code ≡ 0 → ⊥) → Unchanged l s b n l' s' b' n'
  unchanged (bad_dictionary h u) z = u
  unchanged (bad_document g v z' u) z = u
  unchanged (without_room g v h u) z = u
  unchanged (filled g v h y u) z = absurd (z refl)

  pub told : {code place number : ℕ} → Cases d w l s b n l' s' b' n' code place number → Read d w l s b n l' s' b' n' code place number
  told c = record { answer = answered c; written = wrote c; kept = unchanged c }

-- 2,048 rows are room enough
pub judged_as : {d w : List ℕ} {names : List (List ℕ)} {code place number : ℕ} → GoodDictionary d names → Verdict w code place number → ReaderAnswer d w 2048 code place number
judged_as g (long h) = refused 2048 g (long h) (λ e. omega (arith, e))
judged_as g (outside h o) = refused 2048 g (outside h o) (λ e. omega (arith, e))
judged_as g (deep h y k) = refused 2048 g (deep h y k) (λ e. omega (arith, e))
judged_as g (many h y k m) = refused 2048 g (many h y k m) (λ e. omega (arith, e))
judged_as g (Judged.read h y k m) = whole 2048 g (Judged.read h y k m) refl m

-- WHAT KEEPS THE PROMISE IS ONE OF THE CASES
beyond : (x y : ℕ) → (y ≤ x → ⊥) → x < y
beyond x y h = go (ltb x y) refl
  where
    go : (t : Bool) → ltb x y ≡ t → x < y
    go true e = ltb-true x y e
    go false e = absurd (h (ltb-false x y e))

-- the verdict on a document, and the rows, where nothing is said of room
pub data Verdicts (d w : List ℕ) (room code place number : ℕ) : Type 0 where
  no_names : ((names : List (List ℕ)) → GoodDictionary d names → ⊥) → code ≡ 1 → place ≡ 0 → number ≡ 0 → Verdicts d w room code place number
  not_read : {names : List (List ℕ)} → GoodDictionary d names → Verdict w code place number → (code ≡ 0 → ⊥) → Verdicts d w room code place number
  too_many : {names : List (List ℕ)} {count : ℕ} → GoodDictionary d names → Verdict w 0 0 count → room < count → code ≡ 6 → place ≡ 0 → number ≡ 0 → Verdicts d w room code place number
  all_well : {names : List (List ℕ)} {f : Content} {t : Bytes} → GoodDictionary d names → Verdict w code place number → number ≤ room → Document w f t → code ≡ 0 → place ≡ 0
      → Verdicts d w room code place number

module _ {d w : List ℕ} {room code place number : ℕ} (a : ReaderAnswer d w room code place number) where
  -- but for 3 and 0 there is neither a place nor a row
  bare : (x : ℕ) → code ≡ x → (x ≡ 3 → ⊥) → (x ≡ 0 → ⊥) → Verdict w x 0 0 → Verdict w code place number
  bare x e h z v = rw (e, a.no_place (λ i. h (sym e ∙ i)), a.no_rows (λ i. z (sym e ∙ i))) v

  verdicts : Verdicts d w room code place number
  verdicts = go a.lowest
    where
      go : ReaderCodes d w room code → Verdicts d w room code place number
      go (inl (h, e)) = no_names (λ names g. h (names, g)) e (a.no_place (λ i. omega (arith, e, i))) (a.no_rows (λ i. omega (arith, e, i)))
      go (inr (g, inl (h, e))) = not_read g.1 (bare 2 e (λ i. omega (arith, i)) (λ i. omega (arith, i)) (long (beyond 32768 (length w) h))) (λ i. omega (arith, e, i))
      go (inr (g, inr (short, inl (h, e)))) = not_read g.1 (rw (e, a.no_rows (λ i. omega (arith, e, i))) (outside short (a.placed e))) (λ i. omega (arith, e, i))
      go (inr (g, inr (short, inr (y, inl (h, e))))) =
          not_read g.1
          (bare 4 e (λ i. omega (arith, i)) (λ i. omega (arith, i)) (deep short y.2 (beyond 64 (depth (shape y.0)) (λ k. h (y.0, y.1, y.2, k)))))
          (λ i. omega (arith, e, i))
      go (inr (g, inr (short, inr (_, inr (y, inl (h, e)))))) =
          not_read g.1
          (bare 5 e (λ i. omega (arith, i)) (λ i. omega (arith, i)) (many short y.2 y.3 (beyond 2048 (rows (shape y.0)) (λ k. h (y.0, y.1, y.2, k)))))
          (λ i. omega (arith, e, i))
      go (inr (g, inr (short, inr (_, inr (y, inr (m, inl (h, e))))))) =
          too_many g.1 (Judged.read short y.2 y.3 (held y.2 m)) (beyond room (rows (shape y.0)) (λ k. h (y.0, y.1, y.2, k))) e
          (a.no_place (λ i. omega (arith, e, i))) (a.no_rows (λ i. omega (arith, e, i)))
      go (inr (g, inr (short, inr (_, inr (y, inr (m, inr (r, e))))))) =
          let q : place ≡ 0 = a.no_place (λ i. omega (arith, e, i)) in
          let n : number ≡ rows (shape y.0) = held y.2 (a.counted e) in
          all_well g.1 (rw (e, q, n) (Judged.read short y.2 y.3 (held y.2 m))) (rw n (held y.2 r)) y.2 e q

module _ {d w l s b n l' s' b' n' : List ℕ} where
  pub cases : {code place number : ℕ} → Read d w l s b n l' s' b' n' code place number → Cases d w l s b n l' s' b' n' code place number
  cases {code} {place} {number} r = go (verdicts r.answer)
    where
      go : Verdicts d w (shortest l s b n) code place number → Cases d w l s b n l' s' b' n' code place number
      go (no_names h e p m) = let u = r.kept (λ i. omega (arith, e, i)) in rw (e, p, m) (bad_dictionary h u)
      go (not_read g v z) = bad_document g v z (r.kept z)
      go (too_many g v h e p m) = let u = r.kept (λ i. omega (arith, e, i)) in rw (e, p, m) (without_room g v h u)
      go (all_well {names = names} {f = f} {t = t} g v h y e p) =
          let u = r.written e names f t g y in
          let x : Verdict w 0 0 number = rw (e, p) at v in
          rw (e, p) (filled g x h y u)

few_rows : {w : List ℕ} {x y k : ℕ} → Verdict w x y k → x ≡ 0 → k ≤ 2048
few_rows (long h) e = absurd (omega (arith, e))
few_rows (outside h o) e = absurd (omega (arith, e))
few_rows (deep h y k) e = absurd (omega (arith, e))
few_rows (many h y k m) e = absurd (omega (arith, e))
few_rows (Judged.read h y k m) e = m

pub check_cases : {d w : List ℕ} {r : ℕ} → DocumentChecked d w r → CheckCases d w r
check_cases {d} {w} {r} c = rw c.is (go (verdicts c.answer))
  where
    go : Verdicts d w 2048 c.code c.place c.rows → CheckCases d w (c.code * 4294967296 + (c.place + c.rows))
    go (no_names h e p m) = rw (e, p, m) (bad h)
    go (not_read g v z) = judged g v
    go (too_many g v h e p m) = absurd (omega (arith, h, few_rows v refl))
    go (all_well g v h y e p) = judged g v
