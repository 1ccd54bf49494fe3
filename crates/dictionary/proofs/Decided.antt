-- Bytes always have the names that they are taken to have: whether a dictionary is good is decided.
use mathlib.Core.Path.{◌≡◌}
use mathlib.Core.List.{List, [], List-discrete}
use Prim.Native.Nat.{ℕ, zero, suc, ◌≤◌, ◌<◌}
use native.Mathlib.Omega.{arith}
use native.Mathlib.Decide.{ℕ_discrete, dec_le, dec_lt}
use lib.ListN.{length, get_or}
use Rattle.dictionary.specs.Names.{encoding, GoodDictionary, NamesOf}
use Rattle.dictionary.specs.Scan.{pieces}
use Rattle.dictionary.proofs.Pieces.{unbroken}
use Rattle.dictionary.proofs.Names.{good_pieces, names_good, names_bad}

each_below : (P : ℕ → Type 0) → ((j : ℕ) → Dec (P j)) → (n : ℕ) → Dec ((j : ℕ) → j < n → P j)
each_below P d zero = yes (λ j p. absurd (omega arith))
each_below P d (suc n) = both (each_below P d n) (d n)
  where
    both : Dec ((j : ℕ) → j < n → P j) → Dec (P n) → Dec ((j : ℕ) → j < suc n → P j)
    both (no h) e = no (λ k. h (λ j p. k j (omega arith)))
    both (yes h) (no e) = no (λ k. e (k n (omega arith)))
    both (yes h) (yes e) = yes (λ j p. last j p (ℕ_discrete j n))
      where
        last : (j : ℕ) → j < suc n → Dec (j ≡ n) → P j
        last j p (yes z) = rw z e
        last j p (no z) = h j (omega arith)

and_decided : {A B : Type 0} → Dec A → Dec B → Dec (A × B)
and_decided (no h) e = no (λ k. h k.0)
and_decided (yes h) (no e) = no (λ k. e k.1)
and_decided (yes h) (yes e) = yes (h, e)

not_decided : {A : Type 0} → Dec A → Dec (A → ⊥)
not_decided (yes h) = no (λ k. k h)
not_decided (no h) = yes h

module _ (d : List ℕ) where
  abbrev Rules : Type 0
  Rules =
      (d ≡ encoding (pieces d))
      × (((j : ℕ) → j < length (pieces d) → 0 < length (get_or (pieces d) j []))
      × (((j : ℕ) → j < length (pieces d) → (i : ℕ) → i < j → get_or (pieces d) i [] ≡ get_or (pieces d) j [] → ⊥)
      × ((length (pieces d) ≤ 1024) × (length d ≤ 16384))))

  rules_decided : Dec Rules
  rules_decided =
      and_decided (List-discrete ℕ_discrete d (encoding (pieces d)))
      (and_decided (each_below (λ j. 0 < length (get_or (pieces d) j [])) (λ j. dec_lt 0 (length (get_or (pieces d) j []))) (length (pieces d)))
      (and_decided
      (each_below (λ j. (i : ℕ) → i < j → get_or (pieces d) i [] ≡ get_or (pieces d) j [] → ⊥)
      (λ j. each_below (λ i. get_or (pieces d) i [] ≡ get_or (pieces d) j [] → ⊥) (λ i. not_decided (List-discrete ℕ_discrete (get_or (pieces d) i []) (get_or (pieces d) j []))) j)
      (length (pieces d)))
      (and_decided (dec_le (length (pieces d)) 1024) (dec_le (length d) 16384))))

  rules_good : Rules → GoodDictionary d (pieces d)
  rules_good r = record {
    encoded = r.0;
    each = λ j p. record { present = r.1.0 j p; unbroken = unbroken d j };
    different = λ i j p q. r.1.1.0 j q i p;
    few = r.1.1.1.0;
    short = r.1.1.1.1;
  }

  good_rules : GoodDictionary d (pieces d) → Rules
  good_rules g = (g.encoded, ((λ j p. (g.each j p).present), ((λ j q i p. g.different i j p q), (g.few, g.short))))

  pub decided : Dec ((ns : List (List ℕ)) × GoodDictionary d ns)
  decided = go rules_decided
    where
      go : Dec Rules → Dec ((ns : List (List ℕ)) × GoodDictionary d ns)
      go (yes r) = yes (pieces d, rules_good r)
      go (no r) = no (λ g. r (good_rules (rw (good_pieces g.1) g.1)))

  pub named : (names : List (List ℕ)) × NamesOf d names
  named = go decided
    where
      go : Dec ((ns : List (List ℕ)) × GoodDictionary d ns) → (names : List (List ℕ)) × NamesOf d names
      go (yes g) = (g.0, names_good g.1)
      go (no h) = ([], names_bad (λ ns g. h (ns, g)))
