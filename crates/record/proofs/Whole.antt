-- The record check over all lists: from what the checks of the tree and of the pattern say, and from the loop over the variables.
use Prim.Native.Nat.{ℕ}
use mathlib.Core.Path.{◌≡◌, sym, subst}
use mathlib.Core.Bool.{Bool, true, false}
use mathlib.Core.List.{List}
use lib.ListN.{length}
use Rattle.meaning.specs.Forest.{none, Term, ◌◂◌}
use Rattle.meaning.specs.Pattern.{Pattern, Kind}
use Rattle.meaning.specs.Calls.{Says}
use Rattle.meaning.specs.Read.{GoodRecord}
use Rattle.meaning.proofs.Answers.{says_no, said_no}
use Rattle.meaning.proofs.Means.{means_read, read_means}
use Rattle.tree.specs.Rows.{GoodTree, GoodRows}
use Rattle.tree.specs.Places.{TermsAt}
use Rattle.tree.proofs.Unique.{good_at, good_lengths}
use Rattle.pattern.specs.Answer.{PatternSettled}
use Rattle.pattern.specs.Known.{KindsAre}
use Rattle.pattern.specs.Rows.{GoodPattern}
use Rattle.pattern.specs.declared.Checked.{Checked}
use Rattle.pattern.proofs.Settle.{variables_known}
use Rattle.record.specs.Good.{GoodRecordList}
use Rattle.record.specs.Pairs.{RecordPre, RecordPost}

-- the rows of a good tree are its term's
pub tree_at : {L S : List ℕ} {T : Term} → GoodTree L S T → TermsAt L S 0 (length S) (T ◂ none)
tree_at {L} {S} {T} g =
    subst (λ (n : ℕ). TermsAt L S 0 n (T ◂ none)) (sym (good_lengths g).1) (good_at g)

pub no_tree : {L S K N Z list : List ℕ} {r : Bool} → Says r (GoodRows L S) → r ≡ false → Says false (GoodRecordList L S K N Z list)
no_tree s e = says_no (λ g. said_no s e (g.0, g.4))

pub no_pattern : {L S K N Z list : List ℕ} {r : Checked} → PatternSettled K N Z r → r.good ≡ false → Says false (GoodRecordList L S K N Z list)
no_pattern s e = says_no (λ g. said_no s.judged e (g.1, g.2, g.5))

-- where the kinds of a good pattern's variables are known, the loop may be asked, and says whether the record is good
module _ {L S kinds : List ℕ} {variables : ℕ} {T : Term} {Q : List Kind} (t : GoodTree L S T) (k : KindsAre Q variables kinds) where
  pub fits_asked : RecordPre S kinds variables
  fits_asked = record { rows = record { some = (L, _, tree_at t) }; kinded = (Q, k) }

  pub fits_says : {list : List ℕ} {b : Bool} → RecordPost S kinds variables list b → Says b (GoodRecord Q (T ◂ none) list)
  fits_says p = p.is L _ Q (tree_at t) k

pub fits_judged : {L S K N Z kinds list : List ℕ} {variables : ℕ} {T : Term} {P : Pattern} {Q : List Kind} {b : Bool} → GoodTree L S T → GoodPattern K N Z P Q
    → ((P : Pattern) (Q : List Kind) → GoodPattern K N Z P Q → KindsAre Q variables kinds) → RecordPost S kinds variables list b → Says b (GoodRecordList L S K N Z list)
fits_judged {list = list} {T = T} {P = P} {Q = Q} t g known p = (
  λ h. (T, P, Q, _, t, g, read_means T Q list ((fits_says t (known P Q g) p).0 h)),
  λ h. (fits_says h.4 (known h.1 h.2 h.5) p).1 (means_read h.6).0,
)

pub record_pre : {L S K N Z : List ℕ} {r : Checked} → GoodRows L S → PatternSettled K N Z r → r.good ≡ true → RecordPre S r.kinds r.variables
record_pre t s e = fits_asked t.1 (variables_known s (s.judged.0 e).2)

pub record_judged : {L S K N Z list : List ℕ} {r : Checked} {b : Bool} → GoodRows L S → PatternSettled K N Z r → r.good ≡ true → RecordPost S r.kinds r.variables list b → Says b (GoodRecordList L S K N Z list)
record_judged t s e p = fits_judged t.1 (s.judged.0 e).2 (λ P Q g. variables_known s g) p
