-- What the problem's own call answers, said of the whole of out.
use Prim.Native.Nat.{ℕ, ◌-◌}
use mathlib.Core.Path.{◌≡◌, refl, ◌∙◌}
use mathlib.Core.List.{List, ◌++◌}
use lib.ListN.{length, take, drop}
use borrow.Rule.Slice.PartMut.{mid_len}
use Rattle.problem.specs.Problem.{Lists}
use Rattle.lister.specs.Listed.{Settled}
use Rattle.lister.specs.Listed.{Listed}
use Rattle.answer.specs.declared.Listing.{Listing}
use Rattle.portion.specs.Portion.{stretch, stretch_lists, EndsIn, PortionPost}
use Rattle.portion.specs.declared.Reach.{Reach}

pub portion_done : {l : Lists} {from to : Reach} {budget : ℕ} {out share : List ℕ} {x : Listed} {r : Listing} → EndsIn from.entries to.entries out
    → length share ≡ length (stretch from.entries to.entries out) → Settled (stretch_lists l from to) budget (stretch from.entries to.entries out) x share
    → x ≡ record { code = r.code; ending = r.ending; records = r.records; tries = r.tries }
    → PortionPost l from to budget out r (take from.entries out ++ (share ++ drop (to.entries - from.entries) (drop from.entries out)))
portion_done {from = from} {to} {out = out} {share} w long s z =
    record { share = share; long = long ∙ mid_len from.entries to.entries out w.end; is = refl; settled = rw z at s }
