-- 01, "Numbers and order of checks": the codes 1 to 6, and what stands beside them. "The reader answers code, place (0 unless the code is 3)
-- and rows"; "All other numbers in a refusal are 0." An answer is the number of rows, or a refusal.
use Rattle.std.specs.Prelude.{ℕ, Result, Ok, Err}
use Rattle.judge.specs.declared.refusal.Refusal.{Refusal}
use Rattle.judge.specs.declared.refusal.Refusal.TheVariants.{BadDictionary, TooLong, Outside, TooDeep, TooMany, NoRoom}

abbrev pub number_of_refusal : Refusal → ℕ
number_of_refusal BadDictionary = 1
number_of_refusal TooLong = 2
number_of_refusal (Outside p) = 3
number_of_refusal TooDeep = 4
number_of_refusal TooMany = 5
number_of_refusal NoRoom = 6

abbrev pub code_of : Result ℕ Refusal → ℕ
code_of (Ok n) = 0
code_of (Err e) = number_of_refusal e

abbrev pub place_of : Result ℕ Refusal → ℕ
place_of (Ok n) = 0
place_of (Err BadDictionary) = 0
place_of (Err TooLong) = 0
place_of (Err (Outside p)) = p
place_of (Err TooDeep) = 0
place_of (Err TooMany) = 0
place_of (Err NoRoom) = 0

abbrev pub rows_of : Result ℕ Refusal → ℕ
rows_of (Ok n) = n
rows_of (Err e) = 0
