-- The lister, whole: what the search fills is what is meant.
use Prim.Native.Nat.{ℕ, suc, ◌+◌, ◌*◌, ◌≤◌}
use mathlib.Core.Path.{◌≡◌, refl, ap, ◌∙◌, sym, subst}
use mathlib.Core.List.{List, [], ◌∷◌}
use lib.ListN.{length}
use Rattle.std.specs.Prelude.{Ok, Err}
use native.Mathlib.Omega.{arith}
use Rattle.meaning.specs.Forest.{Term, size}
use Rattle.meaning.specs.Pattern.{Pattern, Kind, Numbered}
use Rattle.meaning.specs.Calls.{accept}
use Rattle.meaning.proofs.Tame.{count}
use Rattle.expression.specs.Expression.{Expression}
use Rattle.expression.specs.Rows.{GoodTable}
use Rattle.letters.specs.declared.Tables.{Tables}
use Rattle.letters.specs.State.{TablesOf}
use Rattle.constraint.specs.Obeys.{Constraint, Allowed}
use Rattle.constraint.proofs.Allowed.{allowed?}
use Rattle.problem.specs.Problem.{Lists, Poses}
use Rattle.problem.specs.Answer.{Answered}
use Rattle.problem.specs.Answer as checked
use Rattle.pattern.specs.declared.Variables.{Variables}
use Rattle.meaning.specs.declared.refusal.Refusal.{Refusal}
use Rattle.meaning.proofs.Refusals.{code_some}
use Rattle.problem.proofs.Posed.{Posed, codes_high, the, known}
use Rattle.walk.specs.Packed.{Packed, Bounds}
use Rattle.catalogue.specs.Answer.{Result, Room, at_most, unlimited, room_of}
use Rattle.catalogue.specs.Listing.{Meant, Shown}
use Rattle.catalogue.proofs.Back.{fitting, fitting_some}
use Rattle.catalogue.proofs.Events.{Event, events}
use Rattle.catalogue.proofs.Run.{Tame, run}
use Rattle.catalogue.proofs.Fill.{Widths, fill, tame_widths, shown, room_fits}
use Rattle.catalogue.proofs.Whole.{walked, meant}
use Rattle.catalogue.proofs.Facts.{meant_unlimited}
use Rattle.meaning.specs.Ending.{number}
use Rattle.search.specs.declared.Found.{Found}
use Rattle.levels.proofs.Going.{is_fixed}
use Rattle.entry.specs.Begun.{BeginAsked, BeginPre, BeginPost}
use Rattle.lister.specs.Inside.{Checked}
use Rattle.lister.specs.Listed.{told, Settled}

-- the room of the code is the room of the rules
pub in_room : (M : List Kind → Room → Type 0) {P : Pattern} (n : ℕ) (Q : List Kind) → Numbered P Q → (Numbered P [] → M [] (at_most 1) → M [] unlimited)
    → M Q (at_most (fitting n (length Q + length Q))) → M Q (room_of n (length Q))
in_room M n [] g one m = one g m
in_room M n (k ∷ Q) g one m = subst (λ (r : ℕ). M (k ∷ Q) (at_most r)) (sym (fitting_some n (suc (length Q) + suc (length Q)) (λ e. omega arith))) m

-- what is filled with the room of the code is what is meant with the room of the rules, for a list and for a page
pub shown_in_room : (M : Result → List Kind → Room → Type 0) {P : Pattern} (es : List Event) (Q : List Kind) (width budget room : ℕ) (before after : List ℕ) (f : Found)
    → Numbered P Q → ((x : Result) → Numbered P [] → M x [] (at_most 1) → M x [] unlimited) → width ≡ length Q + length Q → room ≡ fitting (length before) width
    → Widths width es → room * width ≤ length before → fill budget room width 0 0 before es ≡ record { ending = number f.ending; records = f.records; tries = f.tries; out = after }
    → M (run es budget room) Q (at_most room) → Shown (λ x. M x Q (room_of (length before) (length Q))) before (number f.ending) f.records f.tries after
shown_in_room M es Q width budget room before after f g one wide fits w h e m =
    let x = run es budget room in
    let y : room ≡ fitting (length before) (length Q + length Q) = fits ∙ ap (fitting (length before)) wide in
    shown (λ x. M x Q (room_of (length before) (length Q))) es width budget room before after (number f.ending) f.records f.tries w h e
    (in_room (M x) (length before) Q g (one x) (subst (λ (n : ℕ). M x Q (at_most n)) y m))

-- a refusal of the problem
pub list_refused : (l : Lists) (e : Refusal) (budget : ℕ) (before : List ℕ) → Answered l (checked.told (Err e)) → Settled l budget before (told (Err e)) before
list_refused l e budget before a = record { code = a.code; listed = λ z. absurd (code_some e z); refused = λ z. (refl, refl, refl, refl) }

module _ (l : Lists) (v : Variables) (a : Checked l v) (budget : ℕ) (before : List ℕ) where
  abbrev p : Posed l
  p = the a refl

  pub tables_asked : (es : List Expression) × GoodTable l.expression_kind l.expression_name l.expression_size es
  tables_asked = (p.es, p.poses.rest.table)

  pub few_variables : v.count ≤ 16
  few_variables = let k = known a refl p.poses.rest.pattern in omega (arith, k.many, k.few)

  module _ {M : List ℕ} {tables : Tables} {room width : ℕ}
      (read : (es : List Expression) → GoodTable l.expression_kind l.expression_name l.expression_size es → TablesOf es tables)
      (packed : Packed l.kind l.name l.pattern_size M × Bounds l.kind l.name l.constraint M) (wide : width ≡ v.count + v.count) (fits : room ≡ fitting (length before) width) where
    pub searched : {T : Term} {P : Pattern} {Q : List Kind} {es : List Expression} {cs : List Constraint} → Poses l T P Q es cs
        → BeginAsked l.label l.size M tables room width before T P Q es cs
    searched {es = es} w =
        let k = known a refl w.rest.pattern in
        record {
          search =
              record {
                K = l.kind;
                N = l.name;
                Z = l.pattern_size;
                allowing = record { tree = w.tree; few = k.few; known = k.are; table = (_, _, _, w.rest.table); read = read es w.rest.table; given = w.rest.constraints };
                pattern = w.rest.pattern;
                C = l.constraint;
                kinds = v.kinds;
                packed = packed.0;
                bounds = packed.1;
              };
          wide = omega (arith, k.many);
          fits = rw fits (room_fits (length before) width);
        }

    pub begin_asked : BeginPre l.label l.size M tables room width before
    begin_asked = record { some = (p.T, p.P, p.Q, p.es, p.cs, searched p.poses) }

    pub list_done : {f : Found} {after : List ℕ} → BeginPost l.label l.size M tables budget room width before f after
        → Settled l budget before (told (Ok f)) after
    list_done {f} {after} post =
        record {
          code = codes_high l accept 0 p refl;
          listed = λ e T P Q es cs w.
              let b = searched w in
              let g = b.search.pattern.numbered in
              let walk = walked (Allowed cs) (allowed? cs) g T in
              let tame : Tame walk (count Q) (size T) width = (is_fixed b.search {before = before} b.wide b.fits).is_tame in
              shown_in_room (λ x K r. Meant (Allowed cs) K P T budget r x) (events walk (count Q) []) Q width budget room before after f g (λ x n m. meant_unlimited (allowed? cs) n m) b.wide fits
              (tame_widths walk (count Q) (size T) width tame) b.fits (post.all T P Q es cs b) (meant (Allowed cs) (allowed? cs) g T budget room);
          refused = λ e. absurd (e refl);
        }
