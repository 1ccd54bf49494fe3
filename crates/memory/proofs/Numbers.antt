-- What is kept of a choice in the memory.
use Prim.Native.Nat.{ℕ, ◌<◌}
use mathlib.Core.Path.{◌≡◌, ◌∙◌, sym, ap}
use mathlib.Core.Bool.{Bool}
use mathlib.Core.List.{List}
use lib.ListN.{length, get_or, replicate, length-set, length-replicate, get_or-replicate}
use lib.Seq.{get_or-set_same, get_or-set_other}
use native.Mathlib.Omega.{arith}
use native.Mathlib.Decide.{ℕ_discrete}
use Rattle.std.specs.Prelude.{Option, Some, None}
use Rattle.std.proofs.lemmas.Option.{none-some, same_Some}
use Rattle.constraint.specs.Reading.{ReadTo}
use Rattle.memory.specs.declared.Kept.{Kept}
use Rattle.memory.specs.declared.Memory.{Memory}
use Rattle.memory.specs.Memory.{Read, Remembers, kept}
use Rattle.letters.specs.declared.Tables.{Tables}

-- at first nothing is remembered
pub blank : (L S : List ℕ) (tables : Tables) (roots : ℕ → ℕ) {memory : Memory} → memory.kept ≡ replicate 256 None → Remembers L S tables roots memory
blank L S tables roots {memory} e =
    record {
      long = ap (λ (ks : List (Option Kept)). length ks) e ∙ length-replicate {A = Option Kept} 256 None;
      each = λ x h. record {
        is = λ k q. absurd (none-some k (sym (get_or-replicate {A = Option Kept} 256 x None None h) ∙ sym (ap (λ (ks : List (Option Kept)). get_or ks x None) e) ∙ q));
      };
    }

-- what is kept is remembered, and nothing else is forgotten
module _ {L S : List ℕ} {tables : Tables} {roots : ℕ → ℕ} {memory : Memory} (r : Remembers L S tables roots memory) {x row a count next : ℕ} {end : Bool}
    (few : x < 256) (read : ReadTo L S tables (roots x) a count row next end) where
  abbrev later : Memory
  later = kept memory x row a count next end

  abbrev put : Kept
  put = record { start = a; count = count; row = row; state = record { next = next; end = end } }

  own : Read L S tables (roots x) later x
  own =
      record {
        is = λ k q.
            let e : k ≡ put = same_Some k put (sym q ∙ get_or-set_same memory.kept x (Some put) None (omega (arith, r.long))) in
            rw e read;
      }

  others : (y : ℕ) → y < 256 → (y ≡ x → ⊥) → Read L S tables (roots y) later y
  others y h n = record { is = λ k q. (r.each y h).is k (sym (get_or-set_other memory.kept x y (Some put) None n) ∙ q) }

  pub remembers : Remembers L S tables roots later
  remembers = record { long = length-set memory.kept x (Some put) ∙ r.long; each = each }
    where
      each : (y : ℕ) → y < 256 → Read L S tables (roots y) later y
      each y h = elim (ℕ_discrete y x) [
        | yes e ↦ rw e own
        | no n ↦ others y h n
      ]
