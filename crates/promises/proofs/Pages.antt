-- Demand 3 holds page by page.
use Prim.Native.Nat.{ℕ, zero, suc, ◌+◌, ◌/◌, ◌≤◌}
use mathlib.Core.Path.{◌≡◌, refl, ap, ◌∙◌, sym, subst}
use mathlib.Core.Logic.{inl, inr}
use mathlib.Core.List.{List, [], ◌∷◌, ◌++◌, append_assoc, append-nil}
use lib.ListN.{length, length-append}
use native.Mathlib.Omega.{arith}
use native.Mathlib.Nat.{le-div_iff_mul-le}
use Rattle.meaning.specs.Forest.{Term}
use Rattle.meaning.specs.Pattern.{Pattern, Kind}
use Rattle.meaning.specs.Record.{IsRecord}
use Rattle.meaning.specs.Order.{seconds, choices, Mem}
use Rattle.constraint.specs.Obeys.{Constraint, Allowed}
use Rattle.constraint.proofs.Allowed.{allowed?}
use Rattle.expression.specs.Expression.{Expression}
use Rattle.problem.specs.Problem.{Lists, Poses}
use Rattle.problem.proofs.Posed.{codes_high}
use Rattle.catalogue.specs.Answer.{Result, at_most, room_of, answer}
use Rattle.catalogue.specs.Listing.{Solutions}
use Rattle.catalogue.specs.Page.{solutions_after, tries_after}
use Rattle.catalogue.proofs.Events.{mem_left, mem_right}
use Rattle.catalogue.proofs.Cut.{answer_whole, answer_full, answer_none}
use Rattle.catalogue.proofs.Facts.{one_solutions, one_tries, whole}
use Rattle.catalogue.proofs.Beyond.{beyond_cut, place_beyond}
use Rattle.catalogue.proofs.Pages.{page_leading, page_whole, page_lengthens, page_tries_bound, solutions_follow, tries_follow, no_tries}
use Rattle.lister.specs.Page.{RecordCodes, PageCodes}
use Rattle.lister.specs.Listed.{Listed}
use Rattle.lister.proofs.Pages.{record_accepted}
use Rattle.lister.proofs.Unique.{one_page_code}
use Rattle.promises.specs.Pages.{PageIs, LastIs, TurnedFrom, last_page, next_page, Turned, only_page, first_page, Pages}
use Rattle.promises.proofs.Lists.{no_records}

-- the record of a matcher is not refused
accepted : {l : Lists} {T : Term} {P : Pattern} {Q : List Kind} {es : List Expression} {cs : List Constraint} {s : List ℕ} {c : ℕ} → Poses l T P Q es cs → IsRecord (Allowed cs) Q P T s → PageCodes l s c → c ≡ 0
accepted {l} {T} {P} {Q} {es} {cs} {s} {c} w m o =
    one_page_code l s c 0 o (codes_high l (RecordCodes l s) 0 (record { T = T; P = P; Q = Q; es = es; cs = cs; poses = w }) (record_accepted w m))

-- what is added to a list and leaves it as it is
nothing_added : (rs more : List (List ℕ)) → rs ≡ rs ++ more → more ≡ []
nothing_added rs more e = no_records more (omega (arith, simp length-append at (ap length e)))

-- a list that is not empty has a last element
last_of : (rs : List (List ℕ)) → 1 ≤ length rs → (last : List ℕ) × LastIs last rs
last_of [] h = absurd (omega arith)
last_of (r ∷ []) h = (r, record { front = []; is = refl })
last_of (r ∷ q ∷ rs) h = let i = last_of (q ∷ rs) (omega arith) in (i.0, record { front = r ∷ i.1.front; is = ap (λ l. r ∷ l) i.1.is })

last_in : {s : List ℕ} {rs : List (List ℕ)} → LastIs s rs → Mem s rs
last_in {s} l = rw l.is (mem_right s l.front (s ∷ []) (inl refl))

-- room for at least one record
some_room : (lent variables n : ℕ) → room_of lent variables ≡ at_most n → variables + variables ≤ lent → 1 ≤ n
some_room lent zero n e h = let z : ◌≡◌ {A = ℕ} 0 1 = cc in absurd (omega arith)
some_room lent (suc v) n e h =
    let f : lent / (suc v + suc v) ≡ n = cc in
    rw (← f) ((le-div_iff_mul-le {k = suc v + suc v} {x = 1} {y = lent} (omega arith)).1 (omega arith))

-- what ends by room has a last record
module _ (Q : List Kind) (rs ts : List (List ℕ)) (budget lent : ℕ) {x : Result} (e : x ≡ answer Q rs ts budget (room_of lent (length Q))) where
  ends_with : length Q + length Q ≤ lent → x.ending ≡ 1 → (last : List ℕ) × LastIs last x.records
  ends_with h z = last_of x.records (some_room lent (length Q) (length x.records) (answer_full Q rs ts budget (room_of lent (length Q)) e z).0 h)

module _ {Q : List Kind} {P : Pattern} {T : Term} {cs : List Constraint} where
  -- a page's records are among the solutions
  of_page : {s : List ℕ} {budget : ℕ} {before after : List ℕ} {r : Listed} (x : PageIs Q P T cs s budget before r after) {q : List ℕ} → Mem q x.page.result.records → IsRecord (Allowed cs) Q P T q
  of_page {s} x {q} m =
      (x.page.meant.solutions_are.all q).0 (rw x.follows (mem_right q x.earlier (s ∷ (x.page.result.records ++ x.further)) (inr (mem_left q x.page.result.records x.further m))))

  module _ {ss : List (List ℕ)} (S : Solutions (Allowed cs) Q P T ss) where
    -- what follows s is the page and what is further
    pub behind : {s : List ℕ} {budget : ℕ} {before after : List ℕ} {r : Listed} (x : PageIs Q P T cs s budget before r after) (earlier rest : List (List ℕ)) → ss ≡ earlier ++ (s ∷ rest)
        → rest ≡ x.page.result.records ++ x.further
    behind {s} x earlier rest e =
        sym (beyond_cut seconds ss earlier rest s S.ordered e)
        ∙ beyond_cut seconds ss x.earlier (x.page.result.records ++ x.further) s S.ordered (one_solutions S x.page.meant.solutions_are ∙ x.follows)

    -- the pages from s on are all that follows it
    turned_from : {s : List ℕ} {rs : List (List ℕ)} → TurnedFrom Q P T cs s rs → (earlier rest : List (List ℕ)) → ss ≡ earlier ++ (s ∷ rest) → rs ≡ rest
    turned_from (last_page x z) earlier rest e = sym (behind x earlier rest e ∙ rw (x.every z) (append-nil x.page.result.records))
    turned_from {s} (next_page {last = last} {rs = rs} x z l t) earlier rest e =
        let b = behind x earlier rest e in
        let f : ss ≡ (earlier ++ (s ∷ l.front)) ++ (last ∷ x.further) = e ∙ ap (λ k. earlier ++ (s ∷ k)) (b ∙ ap (λ k. k ++ x.further) l.is) ∙ simp append_assoc in
        ap (λ k. x.page.result.records ++ k) (turned_from t (earlier ++ (s ∷ l.front)) x.further f) ∙ sym b

  all_turned : {rs : List (List ℕ)} → Turned Q P T cs rs → Solutions (Allowed cs) Q P T rs
  all_turned (only_page x z) =
      let m = x.listing.meant in
      rw (whole m (sym x.listing.ends ∙ z)) m.solutions_are
  all_turned (first_page {last = last} {rs = rs} x z l t) =
      let m = x.listing.meant in
      let b = x.leading in
      let f : m.solutions ≡ l.front ++ (last ∷ b.rest) = b.is ∙ ap (λ k. k ++ b.rest) l.is ∙ simp append_assoc in
      let e : m.solutions ≡ x.listing.result.records ++ rs = b.is ∙ ap (λ k. x.listing.result.records ++ k) (sym (turned_from m.solutions_are t l.front b.rest f)) in
      subst (Solutions (Allowed cs) Q P T) e m.solutions_are

pub pages : Pages
pages = record {
  lists_after = λ l s budget before after r T P Q es cs c w m.
      let g = w.rest.pattern.numbered in
      let e = accepted w m c.code in
      let h = c.listed e T P Q es cs w in
      let p = h.meant in
      let f = solutions_follow m p.solutions_are in
      let b = page_leading p in
      record {
        accepted = e;
        page = h;
        earlier = f.0;
        further = b.rest;
        follows = f.1 ∙ ap (λ k. f.0 ++ (s ∷ k)) b.is;
        every = λ z. nothing_added h.result.records b.rest ((page_whole p (sym h.ends ∙ z)).0 ∙ b.is);
        tries_follow = tries_follow (Allowed cs) (allowed? cs) g T m p.tries_are;
        no_tries = no_tries (Allowed cs) (allowed? cs) g T m p.tries_are;
        all_tried = λ z. h.tried ∙ (page_whole p (sym h.ends ∙ z)).1;
        within = rw h.tried (page_tries_bound (Allowed cs) (allowed? cs) g T p);
      };
  joined_are_all = all_turned;
  first_goes_on = λ {Q} {budget = budget} {before = before} x h z.
      let m = x.listing.meant in
      let i = ends_with Q m.solutions m.tries budget (length before) m.result h (sym x.listing.ends ∙ z) in
      (i.0, i.1, x.only i.0 (last_in i.1));
  goes_on = λ {Q} {s = s} {budget = budget} {before = before} x h z.
      let m = x.page.meant in
      let i = ends_with Q (solutions_after s m.solutions) (tries_after Q s m.tries) budget (length before) m.result h (sym x.page.ends ∙ z) in
      (i.0, i.1, of_page x (last_in i.1));
  more_lengthens = λ {before = before} {before' = before'} h k x y. page_lengthens (length before) (length before') h k x.page.meant y.page.meant;
  tries_add_up = λ {Q} {s = s} {b = b} {before = before} {r = r} {r' = r'} x z y w.
      let m = x.listing.meant in
      let n = y.page.meant in
      let e : r.tries ≡ length m.tries = x.listing.tried ∙ (answer_whole Q m.solutions m.tries b (room_of (length before) (length Q)) m.result (sym x.listing.ends ∙ z)).1 in
      let f : r'.tries ≡ length (tries_after Q s m.tries) =
      y.all_tried w ∙ ap (λ (ts : List (List ℕ)). length (tries_after Q s ts)) (one_tries n.tries_are m.tries_are) in
      omega (arith, place_beyond m.tries (choices Q s));
  last_is_empty = λ {Q} {s = s} {budget = budget} {before = before} x l.
      let m = x.page.meant in
      let e : solutions_after s m.solutions ≡ [] = beyond_cut seconds m.solutions l.front [] s m.solutions_are.ordered l.is in
      let room = room_of (length before) (length Q) in (
        omega (arith, x.page.counts, simp length-append at (ap length (sym e ∙ (page_leading m).is))),
        λ h.
            x.page.ends
            ∙ ap (λ (y : Result). y.ending) (m.result ∙ ap (λ (k : List (List ℕ)). answer Q k (tries_after Q s m.tries) budget room) e)
            ∙ answer_none Q (tries_after Q s m.tries) budget room h,
      );
}
