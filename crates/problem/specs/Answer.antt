-- 01, "What the contracts have to decide": the result on all inputs, refused ones too.
use Rattle.std.specs.Prelude.{ℕ, ◌≡◌, List, [], length, Result, Ok, Err}
use Rattle.meaning.specs.Pattern.{Pattern, Kind}
use Rattle.meaning.specs.Calls.{accept}
use Rattle.meaning.specs.Refusal.{code}
use Rattle.meaning.specs.declared.refusal.Refusal.{Refusal}
use Rattle.pattern.specs.Rows.{GoodPattern}
use Rattle.pattern.specs.Answer.{listed}
use Rattle.pattern.specs.declared.Variables.{Variables}
use Rattle.problem.specs.Problem.{Lists, Codes}

-- an answer's numbers
pub record Told : Type 0 where
  pub code : ℕ
  pub variables : ℕ
  pub kinds : List ℕ

-- code 0 is no refusal
abbrev pub told : Result Variables Refusal → Told
told (Ok v) = record { code = 0; variables = v.count; kinds = v.kinds }
told (Err e) = record { code = code e; variables = 0; kinds = listed [] }

-- the code; the number of variables and their kinds where there is no refusal, nothing where there is one
pub record Answered (l : Lists) (r : Told) : Type 0 where
  pub code : Codes l accept r.code
  pub found : r.code ≡ 0 → (P : Pattern) (Q : List Kind) → GoodPattern l.kind l.name l.pattern_size P Q → (r.variables ≡ length Q) × (r.kinds ≡ listed Q)
  pub refused : (r.code ≡ 0 → ⊥) → (r.variables ≡ 0) × (r.kinds ≡ listed [])
