-- The table of examples holds: the run of events, computed, is what the rows say.
use Prim.Native.Nat.{ℕ, zero, suc, ◌+◌, ◌/◌}
use mathlib.Core.Path.{◌≡◌, refl, ap, ◌∙◌, sym}
use mathlib.Core.Logic.{◌↔◌, inl, inr}
use mathlib.Core.List.{List, [], ◌∷◌, ◌++◌}
use lib.ListN.{length, drop}
use native.Mathlib.Decide.{ℕ_discrete, dec_le, dec_lt}
use Rattle.meaning.specs.Forest.{Term, rows, terms, hole_row}
use Rattle.meaning.specs.Pattern.{Pattern, Kind}
use Rattle.meaning.specs.Calls.{accept}
use Rattle.meaning.specs.Read.{take_t, cut, cut_f}
use Rattle.meaning.proofs.Laws.{drop_t}
use Rattle.meaning.proofs.Walk.{walk_t, walk_f}
use Rattle.meaning.proofs.Tame.{count}
use Rattle.expression.specs.Expression.{Expression}
use Rattle.constraint.specs.Obeys.{heads, path, Constraint, Allowed}
use Rattle.constraint.proofs.Constraints.{numbers_many}
use Rattle.constraint.proofs.Decide.{when?, by?, either?}
use Rattle.constraint.proofs.Language.{parts?, again?, repeated?, word?, in?}
use Rattle.constraint.proofs.Allowed.{flagged?, obeys?, allowed?}
use Rattle.problem.specs.Problem.{Lists, Poses}
use Rattle.problem.proofs.Posed.{codes_high, one_posed}
use Rattle.meaning.specs.Order.{Mem}
use Rattle.catalogue.specs.Answer.{Result}
use Rattle.catalogue.specs.Listing.{Listing, joined}
use Rattle.catalogue.proofs.Back.{fitting}
use Rattle.catalogue.proofs.Events.{events}
use Rattle.catalogue.proofs.Whole.{walked}
use Rattle.catalogue.proofs.Stays.{run_stays, fitting_more}
use Rattle.lister.specs.Listed.{Listed, Settled}
use Rattle.lister.proofs.Unique.{one_listed, are_one}
use Rattle.promises.specs.Table.{Row, Serves, RowHolds, table, TableHolds}
use Rattle.promises.proofs.Lists.{ran, ran_meant}
use Rattle.promises.proofs.Examples.{query_on_tree_lem, two_sequences_lem, in_choice_lem, same_sequence_lem, in_repetition_lem, same_context_lem, no_term_left_lem, function_over_individual_lem, is_ground}

module _ {l : Lists} {T : Term} {P : Pattern} {Q : List Kind} {es : List Expression} {cs : List Constraint} (p : Poses l T P Q es cs) where
  abbrev run_of : ℕ → ℕ → Result
  run_of = ran p.rest.pattern.numbered T cs

  listed : (budget : ℕ) (before : List ℕ) (x : Result) → run_of budget (length before) ≡ x
      → Listing (Allowed cs) Q P T budget before x.ending (length x.records) x.tries (joined x.records ++ drop (length (joined x.records)) before)
  listed budget before x e =
      record {
        result = x;
        meant = rw (sym e) (ran_meant p.rest.pattern.numbered T cs budget (length before));
        ends = refl;
        counts = refl;
        tried = refl;
        written = refl;
      }

  settled : (budget : ℕ) (before : List ℕ) (x : Result) → run_of budget (length before) ≡ x
      → Settled l budget before (record { code = 0; ending = x.ending; records = length x.records; tries = x.tries }) (joined x.records ++ drop (length (joined x.records)) before)
  settled budget before x e =
      record {
        code = codes_high l accept 0 (record { T = T; P = P; Q = Q; es = es; cs = cs; poses = p }) refl;
        listed = λ z U R K fs ds w.
            let o = one_posed p w in
            rw (← o.0, ← o.1, ← o.2, ← o.4) (listed budget before x e);
        refused = λ z. absurd (z refl);
      }

-- the same room
fitting_same : (m n width : ℕ) → m / width ≡ n / width → fitting m width ≡ fitting n width
fitting_same m n zero h = refl
fitting_same m n (suc w) h = h

abbrev answer_of : Row → Listed
answer_of row = record { code = 0; ending = row.ending; records = length row.records; tries = row.tries }

abbrev out_of : Row → List ℕ → List ℕ
out_of row before = joined row.records ++ drop (length (joined row.records)) before

-- what a row says of one budget and one lent list holds wherever the row serves
pub answers : {T : Term} {P : Pattern} {Q : List Kind} {es : List Expression} {cs : List Constraint} (row : Row) (p : Poses row.lists T P Q es cs)
    → run_of p row.budget row.lent ≡ record { records = row.records; ending = row.ending; tries = row.tries } → RowHolds row
answers {T} {P} {Q} {es} {cs} row p e = record { exactly = λ budget before h. exact budget before (serves row.ending refl budget (length before) h) }
  where
    serves : (ending : ℕ) → ending ≡ row.ending → (budget lent : ℕ) → Serves ending row budget lent → run_of p budget lent ≡ record { records = row.records; ending = row.ending; tries = row.tries }
    serves zero z budget lent h =
        run_stays (events (walked (Allowed cs) (allowed? cs) p.rest.pattern.numbered T) (count Q) []) row.budget budget (fitting row.lent (length Q + length Q)) (fitting lent (length Q + length Q)) h.0 (fitting_more row.lent lent (length Q + length Q) h.1) (ap (λ (x : Result). x.ending) e ∙ sym z) ∙ e
    serves (suc n) z budget lent h =
        let w = numbers_many p.rest.constraints in
        let f = fitting_same lent row.lent (length Q + length Q) (rw w at h.1) in
        rw (h.0, f) e

    exact : (budget : ℕ) (before : List ℕ) → run_of p budget (length before) ≡ record { records = row.records; ending = row.ending; tries = row.tries }
        → (r : Listed) (after : List ℕ) → Settled row.lists budget before r after ↔ ((r ≡ answer_of row) × (after ≡ out_of row before))
    exact budget before f r after = (to, from)
      where
        is : Settled row.lists budget before (answer_of row) (out_of row before)
        is = settled p budget before _ f

        to : Settled row.lists budget before r after → (r ≡ answer_of row) × (after ≡ out_of row before)
        to s = are_one (one_listed s is)

        from : (r ≡ answer_of row) × (after ≡ out_of row before) → Settled row.lists budget before r after
        from q = rw (q.0, q.1) is

-- what holds of each row holds of all
abbrev All : {A : Type 0} → (A → Type 0) → List A → Type 0
All C [] = Unit {0}
All C (a ∷ l) = C a × All C l

of_all : {A : Type 0} (C : A → Type 0) (l : List A) → All C l → (a : A) → Mem a l → C a
of_all C [] h a m = absurd m
of_all C (b ∷ l) h a (inl e) = rw e h.0
of_all C (b ∷ l) h a (inr m) = of_all C l h.1 a m

each_row : All RowHolds table
unfolding walk_t walk_f rows terms take_t drop_t cut cut_f hole_row dec_le ℕ_discrete dec_lt heads path when? by? either? parts? again? repeated? word? in? flagged? obeys? allowed?
each_row = (
  answers _ query_on_tree_lem refl,
  (
    answers _ query_on_tree_lem refl,
    (
      answers _ query_on_tree_lem refl,
      (
        answers _ query_on_tree_lem refl,
        (
          answers _ query_on_tree_lem refl,
          (
            answers _ two_sequences_lem refl,
            (
              answers _ in_choice_lem refl,
              (
                answers _ same_sequence_lem refl,
                (
                  answers _ in_repetition_lem refl,
                  (
                    answers _ same_context_lem refl,
                    (
                      answers _ no_term_left_lem refl,
                      (
                        answers _ function_over_individual_lem refl,
                        (
                          answers _ is_ground refl,
                          tt,
                        ),
                      ),
                    ),
                  ),
                ),
              ),
            ),
          ),
        ),
      ),
    ),
  ),
)

pub table_holds : TableHolds
table_holds = of_all RowHolds table each_row
