-- The next page, whole: what the search fills from a record on is the page after it.
use Prim.Native.Nat.{ℕ, ◌+◌}
use mathlib.Core.Path.{◌≡◌, refl}
use mathlib.Core.Logic.{inl, inr}
use mathlib.Core.Bool.{Bool, false}
use mathlib.Core.List.{List, [], ◌∷◌}
use lib.ListN.{length}
use Rattle.std.specs.Prelude.{Ok, Err}
use native.Mathlib.Omega.{arith}
use Rattle.meaning.specs.Calls.{Says}
use Rattle.meaning.specs.Forest.{Term, size}
use Rattle.meaning.specs.Pattern.{Pattern, Kind}
use Rattle.meaning.specs.Order.{choices}
use Rattle.meaning.specs.Record.{IsRecord}
use Rattle.meaning.proofs.Means.{matcher_means}
use Rattle.meaning.proofs.Answers.{said_no}
use Rattle.meaning.proofs.Tame.{count}
use Rattle.record.specs.Good.{GoodRecordList}
use Rattle.record.specs.Pairs.{RecordPre, RecordPost}
use Rattle.record.proofs.Each.{wrong_length}
use Rattle.record.proofs.Whole.{fits_asked, fits_judged}
use Rattle.expression.specs.Expression.{Expression}
use Rattle.expression.specs.Rows.{GoodTable}
use Rattle.letters.specs.declared.Tables.{Tables}
use Rattle.letters.specs.State.{TablesOf}
use Rattle.constraint.specs.Obeys.{Constraint, Allowed}
use Rattle.constraint.proofs.Allowed.{allowed?}
use Rattle.problem.specs.Problem.{Lists, Poses}
use Rattle.problem.specs.Answer.{Answered}
use Rattle.problem.specs.Answer as checked
use Rattle.meaning.specs.Refusal.{code}
use Rattle.pattern.specs.declared.Variables.{Variables}
use Rattle.meaning.specs.declared.refusal.Refusal.{Refusal}
use Rattle.meaning.specs.declared.refusal.Refusal.TheVariants.{Record}
use Rattle.meaning.proofs.Refusals.{code_some}
use Rattle.problem.proofs.Posed.{Posed, codes_low, codes_high, the, known}
use Rattle.walk.specs.Packed.{Packed, Bounds}
use Rattle.catalogue.specs.Page.{PageMeant}
use Rattle.catalogue.proofs.Events as events
use Rattle.catalogue.proofs.Back.{fitting}
use Rattle.catalogue.proofs.Fill.{tame_widths}
use Rattle.catalogue.proofs.Later.{later_more, later_widths, page_meant}
use Rattle.catalogue.proofs.Pages.{page_unlimited}
use Rattle.catalogue.proofs.Run.{Tame}
use Rattle.catalogue.proofs.Whole.{walked}
use Rattle.search.specs.declared.Found.{Found}
use Rattle.levels.proofs.Going.{is_fixed}
use Rattle.lister.specs.Page.{RecordCodes, PageSettled}
use Rattle.lister.specs.Listed.{told}
use Rattle.entry.specs.Resumed.{ResumeAsked, ResumePre, ResumePost, not_there, from_there}
use Rattle.lister.specs.Inside.{Checked, NoPage, bad, of_none}
use Rattle.std.specs.Prelude.{Some, None}
use Rattle.lister.proofs.Whole.{searched, shown_in_room}

-- the record of a matcher is good, and so it is not refused
pub record_accepted : {l : Lists} {T : Term} {P : Pattern} {Q : List Kind} {es : List Expression} {cs : List Constraint} {list : List ℕ} → Poses l T P Q es cs → IsRecord (Allowed cs) Q P T list → RecordCodes l list 0
record_accepted {T = T} {P} {Q} {es} {cs} w i =
    let m = matcher_means (Allowed cs) (allowed? cs) w.rest.pattern.numbered i.solves in
    inr ((T, P, Q, i.matcher, w.tree, w.rest.pattern, rw i.its at m), inr ((T, P, Q, es, cs, w, i), refl))

-- a refusal of the problem
pub page_refused : (l : Lists) (e : Refusal) (list : List ℕ) (budget : ℕ) (before : List ℕ) → Answered l (checked.told (Err e)) → PageSettled l list budget before (told (Err e)) before
page_refused l e list budget before a =
    record { code = codes_low l (RecordCodes l list) (code e) (code_some e) a.code; listed = λ z. absurd (code_some e z); refused = λ z. (refl, refl, refl, refl) }

module _ (l : Lists) (v : Variables) (a : Checked l v) (list : List ℕ) (budget : ℕ) (before : List ℕ) where
  abbrev p : Posed l
  p = the a refl

  pub record_asked : RecordPre l.size v.kinds v.count
  record_asked = fits_asked p.poses.tree (known a refl p.poses.rest.pattern)

  -- what the check of the record says
  module _ {b : Bool} (post : RecordPost l.size v.kinds v.count list b) where
    says_good : Says b (GoodRecordList l.label l.size l.kind l.name l.pattern_size list)
    says_good = fits_judged p.poses.tree p.poses.rest.pattern (λ P Q g. known a refl g) post

    page_bad : {after : List ℕ} → after ≡ before → b ≡ false → PageSettled l list budget before (told (Err Record)) after
    page_bad same e =
        record { code = codes_high l (RecordCodes l list) 15 p (inl (said_no says_good e, refl)); listed = λ h. absurd (omega arith); refused = λ h. (refl, refl, refl, same) }

  pub page_wrong_length : (length list ≡ v.count + v.count → ⊥) → PageSettled l list budget before (told (Err Record)) before
  page_wrong_length n = page_bad (wrong_length n) refl refl

  -- a record that is as long as it should be
  module _ (long : length list ≡ v.count + v.count) {M : List ℕ} {tables : Tables} {room width : ℕ}
      (read : (es : List Expression) → GoodTable l.expression_kind l.expression_name l.expression_size es → TablesOf es tables)
      (packed : Packed l.kind l.name l.pattern_size M × Bounds l.kind l.name l.constraint M) (wide : width ≡ v.count + v.count) (fits : room ≡ fitting (length before) width) where
    asked : {T : Term} {P : Pattern} {Q : List Kind} {es : List Expression} {cs : List Constraint} → Poses l T P Q es cs
        → ResumeAsked l.label l.size M tables list room width before T P Q es cs
    asked w =
        let s = searched l v a budget before read packed wide fits w in
        record { asked = record { search = s.search; long = omega (arith, (known a refl w.rest.pattern).many) }; wide = s.wide; fits = s.fits }

    pub resume_asked : ResumePre l.label l.size M tables list room width before
    resume_asked = record { some = (p.T, p.P, p.Q, p.es, p.cs, asked p.poses) }

    module _ {after : List ℕ} where
      pub page_none : {e : Refusal} → ResumePost l.label l.size M tables list budget room width before after None → NoPage l.size v.kinds v.count list e → PageSettled l list budget before (told (Err e)) after
      page_none (not_there same n) (bad post) = page_bad post same refl
      page_none (not_there same n) (of_none post) =
          record {
            code = codes_high l (RecordCodes l list) 20 p (inr ((says_good post).0 refl, inl (λ m. n m.0 m.1 m.2 m.3 m.4 (asked m.5) m.6, refl)));
            listed = λ h. absurd (omega arith);
            refused = λ h. (refl, refl, refl, same);
          }

      pub page_done : {f : Found} → ResumePost l.label l.size M tables list budget room width before after (Some f) → PageSettled l list budget before (told (Ok f)) after
      page_done {f} (from_there each) =
          record {
            code = codes_high l (RecordCodes l list) 0 p (record_accepted p.poses (each p.T p.P p.Q p.es p.cs (asked p.poses)).is_record);
            listed = λ e T P Q es cs w.
                let b = asked w in
                let s = b.asked.search in
                let g = s.pattern.numbered in
                let v = each T P Q es cs b in
                let walk = walked (Allowed cs) (allowed? cs) g T in
                let tame : Tame walk (count Q) (size T) width = (is_fixed s {before = before} b.wide b.fits).is_tame in
                shown_in_room (λ x K r. PageMeant (Allowed cs) K P T list budget r x) v.events Q width budget room before after f g (λ x n m. page_unlimited (allowed? cs) n m) b.wide fits
                (later_widths (later_more (events.matched (choices Q list) list ∷ []) v.events refl v.later) (tame_widths walk (count Q) (size T) width tame)) b.fits v.fills
                (page_meant (Allowed cs) (allowed? cs) g T v.later budget room);
            refused = λ e. absurd (e refl);
          }
