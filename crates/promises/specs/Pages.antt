-- 02, #105, "The next page": "The lister shall also take a record and give the matchers that come strictly after it. Its tries are those
-- that come after the last try leading to that record, from 1 up. Pages with room for at least one record, each taken from the last
-- record before it and none ended by the budget, up to the first complete one, joined, are all matchers in order. A page ended by the
-- budget is the leading part of what it would be with more."
use Rattle.std.specs.Prelude.{ℕ, ◌+◌, ◌≤◌, ◌≡◌, List, [], ◌∷◌, ◌++◌, length}
use Rattle.meaning.specs.Forest.{Term}
use Rattle.meaning.specs.Pattern.{Pattern, Kind}
use Rattle.meaning.specs.Record.{IsRecord}
use Rattle.meaning.specs.Order.{choices}
use Rattle.meaning.specs.Reached.{Begins}
use Rattle.expression.specs.Expression.{Expression}
use Rattle.constraint.specs.Obeys.{Constraint, Allowed}
use Rattle.problem.specs.Problem.{Lists, Poses}
use Rattle.catalogue.specs.Answer.{place}
use Rattle.catalogue.specs.Listing.{Solutions}
use Rattle.catalogue.specs.Page.{Page, tries_after}
use Rattle.lister.specs.Page.{PageSettled}
use Rattle.lister.specs.Listed.{Listed}
use Rattle.promises.specs.Lists.{ListIs}

-- what an answer of a page after the record s is, for the problem that the lists pose
pub record PageIs (Q : List Kind) (P : Pattern) (T : Term) (cs : List Constraint) (s : List ℕ) (budget : ℕ) (before : List ℕ) (r : Listed) (after : List ℕ) : Type 0 where
  pub accepted : r.code ≡ 0
  pub page : Page (Allowed cs) Q P T s budget before r.ending r.records r.tries after
  -- in the list of all solutions its records follow s directly; a complete page has all that follow
  pub earlier : List (List ℕ)
  pub further : List (List ℕ)
  pub follows : page.meant.solutions ≡ earlier ++ (s ∷ (page.result.records ++ further))
  pub every : r.ending ≡ 0 → further ≡ []
  -- in the list of all tries its tries follow the last that leads to s, the one with all choices of s; without choices there is no try.
  -- A complete page takes all of them, and counts no other
  pub tries_follow : (choices Q s ≡ [] → ⊥) → (tried : List (List ℕ)) × (page.meant.tries ≡ tried ++ (choices Q s ∷ tries_after Q s page.meant.tries))
  pub no_tries : choices Q s ≡ [] → page.meant.tries ≡ []
  pub all_tried : r.ending ≡ 0 → r.tries ≡ length (tries_after Q s page.meant.tries)
  pub within : r.tries ≤ budget

-- s is the last of the records
pub record LastIs (s : List ℕ) (records : List (List ℕ)) : Type 0 where
  pub front : List (List ℕ)
  pub is : records ≡ front ++ (s ∷ [])

-- pages taken from the record s on, each from the last record of the one before it and none ended by the budget, up to the first
-- complete one: all their records. Budget and lent list may be others for each.
pub data TurnedFrom (Q : List Kind) (P : Pattern) (T : Term) (cs : List Constraint) : List ℕ → List (List ℕ) → Type 0 where
  last_page : {s : List ℕ} {budget : ℕ} {before after : List ℕ} {r : Listed} (x : PageIs Q P T cs s budget before r after) → r.ending ≡ 0 → TurnedFrom Q P T cs s x.page.result.records
  next_page : {s last : List ℕ} {budget : ℕ} {before after : List ℕ} {r : Listed} {rs : List (List ℕ)} (x : PageIs Q P T cs s budget before r after) → r.ending ≡ 1
      → LastIs last x.page.result.records → TurnedFrom Q P T cs last rs → TurnedFrom Q P T cs s (x.page.result.records ++ rs)

-- the same with the first page, which is the lister's
pub data Turned (Q : List Kind) (P : Pattern) (T : Term) (cs : List Constraint) : List (List ℕ) → Type 0 where
  only_page : {budget : ℕ} {before after : List ℕ} {r : Listed} (x : ListIs Q P T cs budget before r after) → r.ending ≡ 0 → Turned Q P T cs x.listing.result.records
  first_page : {last : List ℕ} {budget : ℕ} {before after : List ℕ} {r : Listed} {rs : List (List ℕ)} (x : ListIs Q P T cs budget before r after) → r.ending ≡ 1
      → LastIs last x.listing.result.records → TurnedFrom Q P T cs last rs → Turned Q P T cs (x.listing.result.records ++ rs)

pub record Pages : Type 0 where
  -- of every answer that keeps a page's promise, for every problem that is well formed and every record of one of its matchers
  pub lists_after : (l : Lists) (s : List ℕ) (budget : ℕ) (before after : List ℕ) (r : Listed) (T : Term) (P : Pattern) (Q : List Kind) (es : List Expression) (cs : List Constraint)
      → PageSettled l s budget before r after → Poses l T P Q es cs → IsRecord (Allowed cs) Q P T s → PageIs Q P T cs s budget before r after
  -- the pages joined are all matchers, in order
  pub joined_are_all : {Q : List Kind} {P : Pattern} {T : Term} {cs : List Constraint} {rs : List (List ℕ)} → Turned Q P T cs rs → Solutions (Allowed cs) Q P T rs
  -- with room for at least one record, what ends by room has a last record, and a page can be taken from it
  pub first_goes_on : {Q : List Kind} {P : Pattern} {T : Term} {cs : List Constraint} {budget : ℕ} {before after : List ℕ} {r : Listed} (x : ListIs Q P T cs budget before r after)
      → length Q + length Q ≤ length before → r.ending ≡ 1 → (last : List ℕ) × LastIs last x.listing.result.records × IsRecord (Allowed cs) Q P T last
  pub goes_on : {Q : List Kind} {P : Pattern} {T : Term} {cs : List Constraint} {s : List ℕ} {budget : ℕ} {before after : List ℕ} {r : Listed} (x : PageIs Q P T cs s budget before r after)
      → length Q + length Q ≤ length before → r.ending ≡ 1 → (last : List ℕ) × LastIs last x.page.result.records × IsRecord (Allowed cs) Q P T last
  -- a page that is cut short is the leading part of what it is with more room or budget
  pub more_lengthens : {Q : List Kind} {P : Pattern} {T : Term} {cs : List Constraint} {s : List ℕ} {b c : ℕ} {before after before' after' : List ℕ} {r r' : Listed} → b ≤ c → length before ≤ length before'
      → (x : PageIs Q P T cs s b before r after) (y : PageIs Q P T cs s c before' r' after') → Begins x.page.result.records y.page.result.records
  -- the tries that lead to s and those of a complete page after it add up to those of a complete list
  pub tries_add_up : {Q : List Kind} {P : Pattern} {T : Term} {cs : List Constraint} {s : List ℕ} {b c : ℕ} {before after before' after' : List ℕ} {r r' : Listed}
      (x : ListIs Q P T cs b before r after) → r.ending ≡ 0 → PageIs Q P T cs s c before' r' after' → r'.ending ≡ 0 → place x.listing.meant.tries (choices Q s) + r'.tries ≡ r.tries
  -- after the last matcher a page is empty, and complete if the budget is enough for the tries that are left
  pub last_is_empty : {Q : List Kind} {P : Pattern} {T : Term} {cs : List Constraint} {s : List ℕ} {budget : ℕ} {before after : List ℕ} {r : Listed} (x : PageIs Q P T cs s budget before r after)
      → LastIs s x.page.meant.solutions → (r.records ≡ 0) × (length (tries_after Q s x.page.meant.tries) ≤ budget → r.ending ≡ 0)
