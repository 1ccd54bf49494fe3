-- 01, "What the contracts have to decide": "A version that refuses all, or answers alike for all, contradicts demand 2". So it is, by
-- what `Demands` says alone: on these inputs one answer only is left. For the lister `examples` of `Demands` says so itself. A page that
-- begins with its own record, or counts its tries from the list's start, contradicts them too.
use Prim.Native.Nat.{ℕ, ◌+◌, ◌≤◌}
use mathlib.Core.Path.{◌≡◌, refl, sym, ap, ◌∙◌, subst}
use mathlib.Core.Bool.{true, true≢false}
use mathlib.Core.Logic.{inl, inr}
use mathlib.Core.List.{List, [], ◌∷◌, ◌++◌, append-nil}
use native.Mathlib.Omega.{arith}
use native.Mathlib.Decide.{ℕ_discrete, dec_le, dec_lt}
use lib.ListN.{length, drop, get_or}
use Rattle.meaning.specs.Calls.{Filled}
use Rattle.std.specs.Prelude.{Bool, Result as Answer, Ok, Err}
use Rattle.meaning.specs.declared.refusal.Refusal.{Refusal}
use Rattle.meaning.specs.Forest.{Term, rows, terms, hole_row}
use Rattle.meaning.specs.Pattern.{Pattern, symbol, nil, Kind, a_sequence, a_context}
use Rattle.meaning.specs.Matcher.{apply}
use Rattle.meaning.specs.Record.{firsts_t, IsRecord}
use Rattle.meaning.specs.Read.{take_t, cut, cut_f}
use Rattle.meaning.specs.Order.{seconds, ◌⊏◌, Mem, Ascending}
use Rattle.meaning.proofs.Laws.{drop_t}
use Rattle.meaning.proofs.Lists.{look_old}
use Rattle.meaning.proofs.Walk.{walk_t, walk_f}
use Rattle.tree.specs.Rows.{depth}
use Rattle.grammar.specs.Classes.{class_number, white, name_start, text}
use Rattle.grammar.specs.Grammar.{Bytes, ε, ◌▸◌, Content, nothing, empty_element, element, Document}
use Rattle.grammar.specs.Rows.{width, forest, rows_from}
use Rattle.dictionary.proofs.Names.{no_bytes}
use Rattle.document.specs.Reading.{ReaderCodes, Read, shortest}
use Rattle.expression.specs.Expression.{Expression}
use Rattle.constraint.specs.Obeys.{Constraint, free, Allowed}
use Rattle.constraint.proofs.Allowed.{flagged?, obeys?, allowed?}
use Rattle.problem.specs.Problem.{Lists, Poses}
use Rattle.catalogue.specs.Answer.{Result, place, places, room_of}
use Rattle.catalogue.specs.Listing.{Solutions, Tries, Meant}
use Rattle.catalogue.proofs.Events.{mem_left}
use Rattle.catalogue.proofs.Ascent.{⊏-irrefl}
use Rattle.catalogue.proofs.Cut.{answer_full}
use Rattle.catalogue.proofs.Facts.{one_solutions, one_tries, whole}
use Rattle.lister.specs.Page.{PageSettled}
use Rattle.lister.specs.Listed.{Listed}
use Rattle.test.specs.Tested.{yes_of, TestSettled}
use Rattle.promises.specs.Demands.{Demands}
use Rattle.promises.specs.Lists.{ListIs}
use Rattle.promises.specs.Pages.{PageIs}
use Rattle.promises.specs.Table.{query_on_tree, ground}
use Rattle.promises.proofs.Lists.{ran, ran_meant}
use Rattle.promises.proofs.Pages.{behind}
use Rattle.promises.proofs.Examples.{tree, query, query_on_tree_lem, letter_a, is_ground}

-- <g/>
abbrev small : List ℕ
small = 60 ∷ 103 ∷ 47 ∷ 62 ∷ []

abbrev held : Content
held = empty_element nothing ε (ε ▸ 103) ε

is_small : Document small held ε
unfolding name_start class_number
is_small = record { printed = refl; root = (refl, tt, refl, tt); after = tt }

-- <g>g</g>
abbrev two_sorts : List ℕ
two_sorts = 60 ∷ 103 ∷ 62 ∷ 103 ∷ 60 ∷ 47 ∷ 103 ∷ 62 ∷ []

abbrev held_two : Content
held_two = element nothing ε (ε ▸ 103) ε nothing (ε ▸ 103) ε

last_byte : Bytes → ℕ
last_byte ε = 0
last_byte (s ▸ b) = b

is_two : Document two_sorts held_two ε
unfolding name_start text class_number last_byte
is_two = record { printed = refl; root = (refl, tt, refl, tt, tt, (tt, refl, λ u e. omega (arith, ap last_byte e)), tt); after = tt }

-- the lister's answers for Q on T, with room for both records and with none
runs : (ran query_on_tree_lem.rest.pattern.numbered tree (free ∷ free ∷ []) 8 8 ≡ record { records = (0 ∷ 1 ∷ 2 ∷ 1 ∷ []) ∷ (0 ∷ 3 ∷ 4 ∷ 0 ∷ []) ∷ []; ending = 0; tries = 8 })
    × (ran query_on_tree_lem.rest.pattern.numbered tree (free ∷ free ∷ []) 8 0 ≡ record { records = []; ending = 1; tries = 4 })
unfolding walk_t walk_f rows terms take_t drop_t cut cut_f hole_row dec_le ℕ_discrete dec_lt flagged? obeys? allowed?
runs = (refl, refl)

abbrev MeantOnTree : ℕ → Result → Type 0
MeantOnTree lent = Meant (Allowed (free ∷ free ∷ [])) (a_context ∷ a_sequence ∷ []) query tree 8 (room_of lent 2)

two_records : MeantOnTree 8 (record { records = (0 ∷ 1 ∷ 2 ∷ 1 ∷ []) ∷ (0 ∷ 3 ∷ 4 ∷ 0 ∷ []) ∷ []; ending = 0; tries = 8 })
two_records = subst (MeantOnTree 8) runs.0 (ran_meant query_on_tree_lem.rest.pattern.numbered tree (free ∷ free ∷ []) 8 8)

no_room : MeantOnTree 0 (record { records = []; ending = 1; tries = 4 })
no_room = subst (MeantOnTree 0) runs.1 (ran_meant query_on_tree_lem.rest.pattern.numbered tree (free ∷ free ∷ []) 8 0)

-- so these are all solutions, and the first is reached by four tries
two_solutions : {ss : List (List ℕ)} → Solutions (Allowed (free ∷ free ∷ [])) (a_context ∷ a_sequence ∷ []) query tree ss → ss ≡ (0 ∷ 1 ∷ 2 ∷ 1 ∷ []) ∷ (0 ∷ 3 ∷ 4 ∷ 0 ∷ []) ∷ []
two_solutions S = one_solutions S two_records.solutions_are ∙ sym (whole two_records refl)

four_tries : {ts : List (List ℕ)} → Tries (Allowed (free ∷ free ∷ [])) (a_context ∷ a_sequence ∷ []) query tree ts → place ts (1 ∷ 1 ∷ []) ≡ 4
four_tries {ts} t =
    let Q : List Kind = a_context ∷ a_sequence ∷ [] in
    let us : List (List ℕ) = no_room.tries in
    let f : 4 ≡ get_or (places Q us no_room.solutions) 0 0 = (answer_full Q no_room.solutions us 8 (room_of 0 2) no_room.result refl).1 in
    let g : get_or (places Q us no_room.solutions) 0 0 ≡ place us (1 ∷ 1 ∷ []) = ap (λ (ss : List (List ℕ)). get_or (places Q us ss) 0 0) (two_solutions no_room.solutions_are) in
    sym (f ∙ g ∙ ap (λ (vs : List (List ℕ)). place vs (1 ∷ 1 ∷ [])) (one_tries no_room.tries_are t))

-- in order nothing stands twice
once : (earlier : List (List ℕ)) (s : List ℕ) (rest : List (List ℕ)) → Ascending (λ q u. seconds q ⊏ seconds u) (earlier ++ (s ∷ rest)) → Mem s rest → ⊥
once [] s rest a i = ⊏-irrefl (seconds s) (a.0 s i)
once (q ∷ earlier) s rest a i = once earlier s rest a.1 i

module _ (D : Demands) where
  -- a reader with room for a row reads <g/>, without names
  pub read_small : {l s b n l' s' b' n' : List ℕ} {code place number : ℕ} → 1 ≤ shortest l s b n → Read [] small l s b n l' s' b' n' code place number → code ≡ 0
  unfolding forest rows depth
  read_small {l} {s} {b} {n} {code = code} room x = go (D.refusals.reader.read x).lowest
    where
      go : ReaderCodes [] small (shortest l s b n) code → code ≡ 0
      go (inl a) = absurd (a.0 ([], no_bytes))
      go (inr (_, inl a)) = absurd (a.0 (omega arith))
      go (inr (_, inr (_, inl a))) = absurd (a.0 (held, ε, is_small, tt))
      go (inr (_, inr (_, inr (_, inl a)))) = absurd (a.0 (held, ε, is_small, omega arith))
      go (inr (_, inr (_, inr (_, inr (_, inl a))))) = absurd (a.0 (held, ε, is_small, omega arith))
      go (inr (_, inr (_, inr (_, inr (_, inr (_, inl a)))))) = absurd (a.0 (held, ε, is_small, room))
      go (inr (_, inr (_, inr (_, inr (_, inr (_, inr (_, z))))))) = z

  -- a reader that reads <g>g</g>, without names, gives the element the label 0 and the text 1
  pub read_two : {l s b n l' s' b' n' : List ℕ} {code place number : ℕ} → Read [] two_sorts l s b n l' s' b' n' code place number → code ≡ 0 → l' ≡ 0 ∷ 1 ∷ drop 2 l
  unfolding rows_from width white class_number
  read_two x e = (D.answers.reader.tree x e no_bytes is_two).label_is

  -- and the test says yes to a on a
  pub yes_to_ground : (r : Answer Bool Refusal) → TestSettled ground [] r → r ≡ Ok true
  unfolding apply firsts_t
  yes_to_ground r s = go r ((D.answers.test ground [] r letter_a (symbol 7 nil) [] [] [] s is_ground).1 is_record)
    where
      is_record : IsRecord (Allowed []) [] (symbol 7 nil) letter_a []
      is_record = record { matcher = []; solves = record { right = refl; equal = refl; allowed = λ x v e. absurd (omega (arith, look_old [] x v e)) }; its = refl }

      go : (r : Answer Bool Refusal) → yes_of r ≡ true → r ≡ Ok true
      go (Ok b) e = ap Ok e
      go (Err c) e = absurd (true≢false (sym e))

  -- a page does not give its own record
  pub not_its_own : {l : Lists} {s : List ℕ} {budget : ℕ} {before after : List ℕ} {r : Listed} {T : Term} {P : Pattern} {Q : List Kind} {es : List Expression} {cs : List Constraint}
      (c : PageSettled l s budget before r after) (w : Poses l T P Q es cs) (m : IsRecord (Allowed cs) Q P T s)
      → Mem s (D.pages.lists_after l s budget before after r T P Q es cs c w m).page.result.records → ⊥
  not_its_own {l} {s} {budget} {before} {after} {r} {T} {P} {Q} {es} {cs} c w m i =
      let x = D.pages.lists_after l s budget before after r T P Q es cs c w m in
      once x.earlier s (x.page.result.records ++ x.further) (rw x.follows at x.page.meant.solutions_are.ordered) (mem_left s x.page.result.records x.further i)

  -- a complete page after the first record of Q on T is the second record, with four tries
  pub page_on_tree : {budget : ℕ} {before after : List ℕ} {r : Listed} → PageSettled query_on_tree (0 ∷ 1 ∷ 2 ∷ 1 ∷ []) budget before r after → r.ending ≡ 0
      → (r ≡ record { code = 0; ending = 0; records = 1; tries = 4 }) × Filled (0 ∷ 3 ∷ 4 ∷ 0 ∷ []) before after
  page_on_tree {budget} {before} {after} {r} c z =
      let cs : List Constraint = free ∷ free ∷ [] in
      let Q : List Kind = a_context ∷ a_sequence ∷ [] in
      let m : IsRecord (Allowed cs) Q query tree (0 ∷ 1 ∷ 2 ∷ 1 ∷ []) = (two_records.solutions_are.all (0 ∷ 1 ∷ 2 ∷ 1 ∷ [])).0 (subst (Mem (0 ∷ 1 ∷ 2 ∷ 1 ∷ [])) (whole two_records refl) (inl refl)) in
      let x : PageIs Q query tree cs (0 ∷ 1 ∷ 2 ∷ 1 ∷ []) budget before r after = D.pages.lists_after query_on_tree _ budget before after r tree query Q [] cs c query_on_tree_lem m in
      let lent : List ℕ = 0 ∷ 0 ∷ 0 ∷ 0 ∷ 0 ∷ 0 ∷ 0 ∷ 0 ∷ [] in
      let eight : Listed = record { code = 0; ending = 0; records = 2; tries = 8 } in
      let y : ListIs Q query tree cs 8 lent eight (0 ∷ 1 ∷ 2 ∷ 1 ∷ 0 ∷ 3 ∷ 4 ∷ 0 ∷ []) =
      D.listings.lists_all query_on_tree 8 lent _ eight tree query Q [] cs (((D.examples _ (inl refl)).exactly 8 lent (omega arith, omega arith) eight _).1 (refl, refl)) query_on_tree_lem in
      let sum : place y.listing.meant.tries (1 ∷ 1 ∷ []) + r.tries ≡ 8 = D.pages.tries_add_up y refl x z in
      let four : r.tries ≡ 4 = omega (arith, four_tries y.listing.meant.tries_are) in
      let S = x.page.meant.solutions_are in
      let second : x.page.result.records ≡ (0 ∷ 3 ∷ 4 ∷ 0 ∷ []) ∷ [] =
      sym (behind S x [] ((0 ∷ 3 ∷ 4 ∷ 0 ∷ []) ∷ []) (two_solutions S) ∙ rw (x.every z) (append-nil x.page.result.records)) in
      let many : r.records ≡ 1 = x.page.counts ∙ ap length second in
      (λ i. record { code = x.accepted i; ending = z i; records = many i; tries = four i }, rw second at x.page.written)
