-- 02, #106, "A panel of patterns": "Each is answered as by a call of its own, also where another is refused. Refusals: 21 before all others ..".
use Rattle.std.specs.Prelude.{ℕ, ◌<◌, ◌≡◌, ◌↔◌, List, length, get_or}
use Rattle.catalogue.specs.Listing.{joined}
use Rattle.tree.specs.Rows.{GoodRows}
use Rattle.lister.specs.Listed.{Listed, Settled}
use Rattle.panel.specs.Parts.{part, first_parts, PartsJoined}
use Rattle.panel.specs.Panel.{Panel, problems, problem, answer_at, ListsAgree, LengthsAddUp, PanelSettled}

-- of every answer that keeps a panel's promise, for any lists
pub record Panels : Type 0 where
  -- a problem's four numbers and its share of out are those of a call of its own, whoever makes it, whatever the other problems are
  pub as_alone : {p : Panel} {out answer out' answer' : List ℕ} {r : ℕ} → PanelSettled p out answer r out' answer' → r ≡ 0 → (i : ℕ) → i < problems p → {x : Listed} {after : List ℕ}
      → Settled (problem p i) (get_or p.budget i 0) (part i p.share out) x after → (x ≡ answer_at i answer') × (after ≡ part i p.share out')
  -- 0 is given exactly where the lists agree and add up, and 21 exactly where they do not
  pub accepted : {p : Panel} {out answer out' answer' : List ℕ} {r : ℕ} → PanelSettled p out answer r out' answer' → (r ≡ 0) ↔ (ListsAgree p (length answer) × LengthsAddUp p (length out))
  pub refused : {p : Panel} {out answer out' answer' : List ℕ} {r : ℕ} → PanelSettled p out answer r out' answer' → (r ≡ 21) ↔ (ListsAgree p (length answer) × LengthsAddUp p (length out) → ⊥)
  -- every entry of out belongs to one share: before and after, the shares joined are out. So it is with the tables and their lengths
  pub shares_are_all : {p : Panel} {out answer out' answer' : List ℕ} {r : ℕ} → PanelSettled p out answer r out' answer' → r ≡ 0
      → (joined (first_parts (problems p) p.share out) ≡ out) × (joined (first_parts (problems p) p.share out') ≡ out')
  pub parts_joined : PartsJoined
  -- rows that are no tree are no 21, but each answer's 11, and nothing is written in its share
  pub no_tree : {p : Panel} {out answer out' answer' : List ℕ} {r : ℕ} → PanelSettled p out answer r out' answer' → r ≡ 0 → (GoodRows p.label p.size → ⊥) → (i : ℕ) → i < problems p
      → (answer_at i answer' ≡ record { code = 11; ending = 0; records = 0; tries = 0 }) × (part i p.share out' ≡ part i p.share out)
