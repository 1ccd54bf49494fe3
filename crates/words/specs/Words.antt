-- Not needed to believe any promise: bytes taken several at a time.
use Rattle.std.specs.Prelude.{◌≡◌, cond, List, ℕ, zero, suc, ◌+◌, ◌-◌, ◌*◌, ◌/◌, ◌%◌, ◌<◌, eqb, ltb, get_or}

-- n bytes of w from the place i on as one number, the first the lowest
unfoldable pub word_of : List ℕ → ℕ → ℕ → ℕ
word_of w i zero = 0
word_of w i (suc n) = get_or w i 0 + 256 * word_of w (i + 1) n

-- the n bytes of v at a stand again in w at b
pub record Again (v : List ℕ) (a : ℕ) (w : List ℕ) (b n : ℕ) : Type 0 where
  pub each : (k : ℕ) → k < n → get_or w (b + k) 0 ≡ get_or v (a + k) 0

-- two numbers in one
unfoldable pub mixed_of : ℕ → ℕ → ℕ
mixed_of a b =
    (a % 4294967296) * 625343633 + (a / 4294967296) * 1013904243 + (b % 4294967296) * 461845907 + (b / 4294967296) * 668265263

-- one to three bytes: the first, the middle one and the last
unfoldable pub few_of : List ℕ → ℕ → ℕ → ℕ
few_of w i n = get_or w i 0 + 256 * (get_or w (i + n / 2) 0 + 256 * get_or w (i + (n - 1)) 0)

unfoldable pub long_hash_of : List ℕ → ℕ → ℕ → ℕ
long_hash_of w i n =
    cond (ltb n 17) (mixed_of (word_of w i 8) (word_of w (i + (n - 8)) 8))
    (mixed_of (mixed_of (word_of w i 8) (word_of w (i + (n - 8)) 8) / 4194304) (word_of w (i + (n / 2 - 4)) 8))

-- a number that hangs on the n bytes from i on
unfoldable pub hash_of : List ℕ → ℕ → ℕ → ℕ
hash_of w i n =
    cond (eqb n 0) 0
    (cond (ltb n 4) (mixed_of (few_of w i n) 0)
    (cond (ltb n 8) (mixed_of (word_of w i 4) (word_of w (i + (n - 4)) 4)) (long_hash_of w i n)))
