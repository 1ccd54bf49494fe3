-- Demand 1: "A refusal has the number and place that the rules give, is made exactly then, and changes no buffer." The contracts of the
-- public functions hold for any lists; here is what follows of every answer that keeps them.
use Rattle.std.specs.Prelude.{ℕ, ◌≤◌, ◌+◌, ◌*◌, ◌≡◌, List, length, Bool, Option, Result}
use Rattle.std.specs.Option.{is_some, unwrap_or}
use Rattle.meaning.specs.Calls.{refuse, accept, Says}
use Rattle.meaning.specs.declared.refusal.Refusal.{Refusal}
use Rattle.dictionary.specs.Names.{DictionaryChecked}
use Rattle.pattern.specs.Answer.{PatternSettled}
use Rattle.pattern.specs.declared.Checked.{Checked as PatternChecked}
use Rattle.pattern.specs.declared.Variables.{Variables}
use Rattle.judge.specs.Answer.{code_of as reader_code, place_of, rows_of}
use Rattle.judge.specs.Verdict.{Verdict}
use Rattle.judge.specs.declared.refusal.Refusal.{Refusal as ReaderRefusal}
use Rattle.dictionary.specs.Source.{number_of_source}
use Rattle.dictionary.specs.Spelling.{PartAnswered, SpellingAnswered}
use Rattle.dictionary.specs.declared.spelling.Part.{Part}
use Rattle.document.specs.Reading.{Unchanged, shortest, ReaderAnswer, Read, DocumentChecked}
use Rattle.problem.specs.Problem.{Lists, Codes}
use Rattle.problem.specs.Answer.{Told as ProblemTold, told as problem_told, Answered}
use Rattle.test.specs.Tested.{code_of, Fifteen, TestSettled}
use Rattle.search.specs.declared.Found.{Found}
use Rattle.lister.specs.Listed.{Listed, told as list_told, Settled}
use Rattle.lister.specs.Page.{PageCodes, PageSettled}
use Rattle.panel.specs.Panel.{Panel, told as panel_told, ListsAgree, LengthsAddUp, PanelSettled}
use Rattle.instance.specs.Instance.{code_given, rows_given, InstanceLists, InstanceCodes, InstanceSettled}

-- the reader and the C server's check give the lowest code whose rule is broken, and 0 where none is, with 01's place and rows
pub record ReaderRefuses : Type 0 where
  pub read : {d w l s b n l' s' b' n' : List ℕ} {code place rows : ℕ} → Read d w l s b n l' s' b' n' code place rows → ReaderAnswer d w (shortest l s b n) code place rows
  pub unchanged : {d w l s b n l' s' b' n' : List ℕ} {code place rows : ℕ} → Read d w l s b n l' s' b' n' code place rows → (code ≡ 0 → ⊥) → Unchanged l s b n l' s' b' n'
  pub check : {d w : List ℕ} {r : ℕ} → DocumentChecked d w r → (code : ℕ) × (place : ℕ) × (rows : ℕ) × ReaderAnswer d w 2048 code place rows × (r ≡ code * 4294967296 + (place + rows))
  -- with room enough the reader does not give 6, and then the check gives its code, place and rows
  pub check_is_read : (d w l s b n l' s' b' n' : List ℕ) (code place rows r : ℕ) → 2048 ≤ shortest l s b n → Read d w l s b n l' s' b' n' code place rows → DocumentChecked d w r
      → r ≡ code * 4294967296 + (place + rows)

-- the lister, its pages, the test and the instance maker give the first code whose rule is broken, and 0 where none is: 01's from the lowest
-- up, 19 directly after 14 (02, #104), and 20 last (#105). A panel gives 21, before all of them, or 0 (#106)
pub record MatcherRefuses : Type 0 where
  pub list : {l : Lists} {budget : ℕ} {before after : List ℕ} {r : Listed} → Settled l budget before r after → Codes l accept r.code
  pub list_after : {l : Lists} {list : List ℕ} {budget : ℕ} {before after : List ℕ} {r : Listed} → PageSettled l list budget before r after → PageCodes l list r.code
  pub test : {l : Lists} {list : List ℕ} {r : Result Bool Refusal} → TestSettled l list r → Codes l (Fifteen l list) (code_of r)
  pub instance : {l : InstanceLists} {L S L' S' : List ℕ} {r : Result ℕ Refusal} → InstanceSettled l L S r L' S' → InstanceCodes l (length L) (length S) (code_given r)
  pub panel : {p : Panel} {out answer out' answer' : List ℕ} {r : ℕ} → PanelSettled p out answer r out' answer' → refuse 21 (ListsAgree p (length answer) × LengthsAddUp p (length out)) accept r

-- every answer, refusals among them, is settled, with each lent list afterwards: what the function gives, and not only what is told of it
pub record OnlyOne : Type 1 where
  pub read : {d w l s b n l₁ s₁ b₁ n₁ l₂ s₂ b₂ n₂ : List ℕ} {r r' : Result ℕ ReaderRefusal} → Read d w l s b n l₁ s₁ b₁ n₁ (reader_code r) (place_of r) (rows_of r)
      → Read d w l s b n l₂ s₂ b₂ n₂ (reader_code r') (place_of r') (rows_of r') → (r ≡ r') × (l₁ ≡ l₂) × (s₁ ≡ s₂) × (b₁ ≡ b₂) × (n₁ ≡ n₂)
  pub check : {d w : List ℕ} {r s : ℕ} → DocumentChecked d w r → DocumentChecked d w s → r ≡ s
  pub judge : {w : List ℕ} {r s : Result ℕ ReaderRefusal} → Verdict w (reader_code r) (place_of r) (rows_of r) → Verdict w (reader_code s) (place_of s) (rows_of s) → r ≡ s
  pub dictionary : {d : List ℕ} {r s : Option ℕ} → DictionaryChecked d (is_some r) (unwrap_or r 0) → DictionaryChecked d (is_some s) (unwrap_or s 0) → r ≡ s
  pub part : {d w l b n : List ℕ} {row : ℕ} {p q : Part} → PartAnswered d w l b n row (number_of_source p.source) p.start p.length
      → PartAnswered d w l b n row (number_of_source q.source) q.start q.length → p ≡ q
  pub spelling : {d_at w_at at at' : ℕ × ℕ} {d w l b n : List ℕ} {row : ℕ} {v v' : List ℕ} → SpellingAnswered d_at w_at d w l b n row at v → SpellingAnswered d_at w_at d w l b n row at' v' → (at ≡ at') × (v ≡ v')
  pub pattern : {k n s : List ℕ} {r r' : PatternChecked} → PatternSettled k n s r → PatternSettled k n s r' → r ≡ r'
  pub problem : {l : Lists} {r r' : Result Variables Refusal} → Answered l (problem_told r) → Answered l (problem_told r') → r ≡ r'
  pub test : {l : Lists} {list : List ℕ} {r s : Result Bool Refusal} → TestSettled l list r → TestSettled l list s → r ≡ s
  pub list : {l : Lists} {budget : ℕ} {before after after' : List ℕ} {r s : Result Found Refusal} → Settled l budget before (list_told r) after → Settled l budget before (list_told s) after'
      → (r ≡ s) × (after ≡ after')
  pub list_after : {l : Lists} {list : List ℕ} {budget : ℕ} {before after after' : List ℕ} {r s : Result Found Refusal} → PageSettled l list budget before (list_told r) after
      → PageSettled l list budget before (list_told s) after' → (r ≡ s) × (after ≡ after')
  pub instance : {l : InstanceLists} {L S L₁ S₁ L₂ S₂ : List ℕ} {r s : Result ℕ Refusal} → InstanceSettled l L S r L₁ S₁ → InstanceSettled l L S s L₂ S₂ → (r ≡ s) × (L₁ ≡ L₂) × (S₁ ≡ S₂)
  pub panel : {p : Panel} {out answer out₁ answer₁ out₂ answer₂ : List ℕ} {r s : Result (Unit {0}) Refusal} → PanelSettled p out answer (panel_told r) out₁ answer₁
      → PanelSettled p out answer (panel_told s) out₂ answer₂ → (r ≡ s) × (out₁ ≡ out₂) × (answer₁ ≡ answer₂)
  -- the other checks answer yes or no
  pub yes_or_no : {a b : Bool} {P : Type 0} → Says a P → Says b P → a ≡ b

-- .. and so is what is told of it: the numbers that C gets, whatever they are the numbers of
pub record OnlyOneTold : Type 0 where
  pub read : {d w l s b n l₁ s₁ b₁ n₁ l₂ s₂ b₂ n₂ : List ℕ} {code place rows code' place' rows' : ℕ} → Read d w l s b n l₁ s₁ b₁ n₁ code place rows → Read d w l s b n l₂ s₂ b₂ n₂ code' place' rows'
      → (code ≡ code') × (place ≡ place') × (rows ≡ rows') × (l₁ ≡ l₂) × (s₁ ≡ s₂) × (b₁ ≡ b₂) × (n₁ ≡ n₂)
  pub judge : {w : List ℕ} {c p n c' p' n' : ℕ} → Verdict w c p n → Verdict w c' p' n' → (c ≡ c') × (p ≡ p') × (n ≡ n')
  pub dictionary : {d : List ℕ} {a b : Bool} {j k : ℕ} → DictionaryChecked d a j → DictionaryChecked d b k → (a ≡ b) × (j ≡ k)
  pub part : {d w l b n : List ℕ} {row s t u s' t' u' : ℕ} → PartAnswered d w l b n row s t u → PartAnswered d w l b n row s' t' u' → (s ≡ s') × (t ≡ t') × (u ≡ u')
  pub problem : {l : Lists} {r r' : ProblemTold} → Answered l r → Answered l r' → r ≡ r'
  pub list : {l : Lists} {budget : ℕ} {before after after' : List ℕ} {r s : Listed} → Settled l budget before r after → Settled l budget before s after'
      → (r ≡ s) × (after ≡ after')
  pub list_after : {l : Lists} {list : List ℕ} {budget : ℕ} {before after after' : List ℕ} {r s : Listed} → PageSettled l list budget before r after → PageSettled l list budget before s after'
      → (r ≡ s) × (after ≡ after')
  pub panel : {p : Panel} {out answer out₁ answer₁ out₂ answer₂ : List ℕ} {r s : ℕ} → PanelSettled p out answer r out₁ answer₁ → PanelSettled p out answer s out₂ answer₂
      → (r ≡ s) × (out₁ ≡ out₂) × (answer₁ ≡ answer₂)

-- a refusal by the lister, the instance maker or a panel changes no lent list, and its other numbers are 0
pub record NothingWritten : Type 0 where
  pub list : {l : Lists} {budget : ℕ} {before after : List ℕ} {r : Listed} → Settled l budget before r after → (r.code ≡ 0 → ⊥)
      → (after ≡ before) × (r.ending ≡ 0) × (r.records ≡ 0) × (r.tries ≡ 0)
  pub list_after : {l : Lists} {list : List ℕ} {budget : ℕ} {before after : List ℕ} {r : Listed} → PageSettled l list budget before r after → (r.code ≡ 0 → ⊥)
      → (after ≡ before) × (r.ending ≡ 0) × (r.records ≡ 0) × (r.tries ≡ 0)
  pub instance : {l : InstanceLists} {L S L' S' : List ℕ} {r : Result ℕ Refusal} → InstanceSettled l L S r L' S' → (code_given r ≡ 0 → ⊥) → (L' ≡ L) × (S' ≡ S) × (rows_given r ≡ 0)
  pub panel : {p : Panel} {out answer out' answer' : List ℕ} {r : ℕ} → PanelSettled p out answer r out' answer' → (r ≡ 0 → ⊥) → (out' ≡ out) × (answer' ≡ answer)

pub record Refusals : Type 1 where
  pub reader : ReaderRefuses
  pub matcher : MatcherRefuses
  pub one : OnlyOne
  pub one_told : OnlyOneTold
  pub nothing_written : NothingWritten
