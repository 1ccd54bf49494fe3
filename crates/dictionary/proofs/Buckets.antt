-- The bucket of a spelling.
use mathlib.Core.Path.{◌≡◌, sym, ap, ◌∙◌}
use mathlib.Core.List.{List}
use Prim.Native.Nat.{ℕ, ◌+◌, ◌-◌, ◌/◌, ◌%◌, ◌≤◌, ◌<◌}
use native.Mathlib.Omega.{arith}
use native.Mathlib.Nat.{mod-lt}
use lib.ListN.{length}
use Rattle.words.specs.Words.{hash_of}
use Rattle.words.proofs.Bytes.{hash_same}
use Rattle.dictionary.specs.Scan.{range}
use Rattle.dictionary.specs.Index.{name_bucket}
use Rattle.dictionary.proofs.Ranges.{range_length, range_stands}

pub bucket_below : (w : List ℕ) → name_bucket w < 2048
unfolding name_bucket
bucket_below w = mod-lt (hash_of w 0 (length w) / 67108864 + length w) (omega arith)

pub bucket_is : (w : List ℕ) (start end hash : ℕ) → end ≤ length w → hash ≡ hash_of w start (end - start) →
    (hash / 67108864 + (end - start)) % 2048 ≡ name_bucket (range w start end)
unfolding name_bucket
bucket_is w start end hash h e =
    ap (λ (x : ℕ). (x / 67108864 + (end - start)) % 2048) (e ∙ hash_same (range_stands w start end))
    ∙ ap (λ (n : ℕ). (hash_of (range w start end) 0 n / 67108864 + n) % 2048) (sym (range_length w start end h))
