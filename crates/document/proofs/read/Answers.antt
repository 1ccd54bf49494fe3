use native.Mathlib.Omega.{arith}
use Prim.Native.Nat.{ℕ}
use lib.ListN.{length-replicate, get_or-replicate}
use Rattle.document.proofs.read.Goals as goal

pub learn_names-requires : goal.learn_names-requires
learn_names-requires c = record { large = omega (arith, length-replicate {A = ℕ} 11264 0); clear = λ h p. get_or-replicate {A = ℕ} 11264 h 0 0 (omega arith) }
