-- Demand 3 holds.
use Prim.Native.Nat.{ℕ, ◌+◌}
use mathlib.Core.Path.{◌≡◌, refl, ap, ◌∙◌, sym}
use mathlib.Core.List.{List, [], ◌∷◌}
use lib.ListN.{length}
use native.Mathlib.Omega.{arith}
use Rattle.meaning.specs.Forest.{Term}
use Rattle.meaning.specs.Pattern.{Pattern, Kind, Numbered}
use Rattle.meaning.specs.Record.{record_of}
use Rattle.meaning.specs.Read.{values}
use Rattle.meaning.specs.Calls.{accept}
use Rattle.meaning.proofs.OneCode.{one_accept}
use Rattle.meaning.proofs.Walk.{need, walk}
use Rattle.meaning.proofs.Asked.{reached_asked}
use Rattle.meaning.proofs.Means.{means_read, matcher_means, one_meaning}
use Rattle.meaning.proofs.Tame.{count}
use Rattle.constraint.specs.Obeys.{Constraint, Allowed}
use Rattle.constraint.proofs.Allowed.{allowed?}
use Rattle.constraint.proofs.Names.{named_counts}
use Rattle.constraint.proofs.Most.{no_more_named}
use Rattle.expression.specs.Expression.{Expression}
use Rattle.problem.specs.Problem.{Lists, Poses, Codes}
use Rattle.problem.proofs.Posed.{codes_high, one_codes}
use Rattle.catalogue.specs.Answer.{Result, room_of}
use Rattle.catalogue.specs.Listing.{Meant}
use Rattle.catalogue.proofs.Back.{fitting}
use Rattle.catalogue.proofs.Events.{events, mem_left}
use Rattle.catalogue.proofs.Run.{run}
use Rattle.catalogue.proofs.Whole.{walked, meant}
use Rattle.catalogue.proofs.Facts.{meant_unlimited, leading, whole, lengthens, empty_none, none_empty, tries_bound}
use Rattle.catalogue.proofs.Different.{different}
use Rattle.lister.proofs.Whole.{in_room}
use Rattle.promises.specs.Lists.{Listings}

module _ {Q : List Kind} {P : Pattern} (g : Numbered P Q) (T : Term) (cs : List Constraint) where
  -- the answer by going through the events, with the room of a lent list
  abbrev pub ran : ℕ → ℕ → Result
  ran budget lent = run (events (walked (Allowed cs) (allowed? cs) g T) (count Q) []) budget (fitting lent (length Q + length Q))

  pub ran_meant : (budget lent : ℕ) → Meant (Allowed cs) Q P T budget (room_of lent (length Q)) (ran budget lent)
  ran_meant budget lent =
      in_room (λ K r. Meant (Allowed cs) K P T budget r (ran budget lent)) lent Q g (λ n m. meant_unlimited (allowed? cs) n m)
      (meant (Allowed cs) (allowed? cs) g T budget (fitting lent (length Q + length Q)))

-- a problem that is well formed is not refused
accepted : {l : Lists} {T : Term} {P : Pattern} {Q : List Kind} {es : List Expression} {cs : List Constraint} {c : ℕ} → Poses l T P Q es cs → Codes l accept c → c ≡ 0
accepted {l} {T} {P} {Q} {es} {cs} {c} w o =
    one_codes l accept one_accept c 0 o (codes_high l accept 0 (record { T = T; P = P; Q = Q; es = es; cs = cs; poses = w }) refl)

pub no_records : (l : List (List ℕ)) → length l ≡ 0 → l ≡ []
no_records [] e = refl
no_records (a ∷ l) e = absurd (omega arith)

pub listings : Listings
listings = record {
  lists_all = λ l budget before after r T P Q es cs s w.
      let g = w.rest.pattern.numbered in
      let e = accepted w s.code in
      let h = s.listed e T P Q es cs w in
      let m = h.meant in
      record {
        accepted = e;
        listing = h;
        leading = leading m;
        within = rw h.tried (tries_bound (Allowed cs) (allowed? cs) g T m);
        every = λ z σ o. rw (whole m (sym h.ends ∙ z)) ((m.solutions_are.all (record_of P σ)).1 (record { matcher = σ; solves = o; its = refl }));
        only = λ x i.
            let b = leading m in
            (m.solutions_are.all x).0 (rw b.is (mem_left x h.result.records b.rest i));
        means = λ σ τ o. let m = matcher_means (Allowed cs) (allowed? cs) g o in (λ n. one_meaning n m, λ i. rw i m);
        once = λ i j σ h k x y. different (Allowed cs) (allowed? cs) g m i j h k ((means_read x).1 ∙ sym (means_read y).1);
      };
  one_place = λ l T P Q es cs σ τ a b c d w x y e.
      let g = w.rest.pattern.numbered in
      let m = reached_asked (Allowed cs) (allowed? cs) g x in
      let n = reached_asked (Allowed cs) (allowed? cs) g y in
      let same : need m.0 m.1.0 a b ≡ need n.0 n.1.0 c d = sym m.1.1 ∙ ap (λ (v : List ℕ). walk (Allowed cs) (allowed? cs) P T v) e ∙ n.1.1 in
      let z : m.0 ≡ n.0 = cc in
      (sym m.2 ∙ ap values z ∙ n.2, cc, cc);
  empty_is_none = λ l budget before after r T P Q es cs s z w.
      let h = s.listed (accepted w s.code) T P Q es cs w in
      (λ n. empty_none h.meant (sym h.ends ∙ z) (no_records h.result.records (sym h.counts ∙ n)), λ n. h.counts ∙ ap length (none_empty h.meant n));
  more_lengthens = λ l b c before after before' after' r s T P Q es cs h k w x y. lengthens (length before) (length before') h k x.listing.meant y.listing.meant;
  every_expression_counts = λ l T P Q es cs e row w s. named_counts w.rest.constraints w.named e row s;
  no_more_expressions = λ l T P Q es cs w. no_more_named w.rest.constraints w.named;
}
