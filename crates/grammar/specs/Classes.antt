-- 01, "From document to tree": "White space is space, tab, line feed. A name starts with an ASCII letter, `_` or `:` and goes on with
-- these, digits, `-` and `.`; a class for each of the 128 ASCII codes stands in a fixed table." "Text is bytes 9, 10 and 32 to 127
-- without `<`, `&`". The classes: 0 in no document's name or text, 1 `>`, 2 other text, 3 white space, 4 in a name and not its first
-- byte, 5 any byte of a name. `>` has its own class because it may not follow `]]`.
use Rattle.std.specs.Prelude.{Bool, cond, ◌&&◌, ◌||◌, ℕ, eqb, leb, ltb}

abbrev pub within : ℕ → ℕ → ℕ → Bool
within a e b = leb a b && leb b e

unfoldable pub class_number : ℕ → ℕ
class_number b =
    cond (ltb 127 b) 0
    (cond (eqb b 9 || eqb b 10 || eqb b 32) 3
    (cond (within 65 90 b || within 97 122 b || eqb b 95 || eqb b 58) 5
    (cond (within 48 57 b || eqb b 45 || eqb b 46) 4
    (cond (eqb b 60 || eqb b 38 || ltb b 32) 0
    (cond (eqb b 62) 1 2)))))

unfoldable pub white : ℕ → Bool
white b = eqb (class_number b) 3

unfoldable pub name_start : ℕ → Bool
name_start b = eqb (class_number b) 5

unfoldable pub name_byte : ℕ → Bool
name_byte b = ltb 3 (class_number b)

unfoldable pub text : ℕ → Bool
text b = ltb 0 (class_number b)
