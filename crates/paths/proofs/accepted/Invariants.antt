use Rattle.std.proofs.Common.{◌≡◌, ◌-◌, ◌<◌, length}
use Rattle.paths.specs.Paths.{Standing, place_in}
use Rattle.paths.proofs.accepted.Given as goal

abbrev pub invariant-loop-here : goal.invariant-loop-here
invariant-loop-here l = record {
  standing : Standing l.tree.label.now l.tree.size.now l.tables l.root l.choice l.a l.b l.path l.i;
  labelled : (place_in l.path l.i).row < length l.tree.label.now;
  few : l.i < 64;
  long : length l.path.places ≡ 64;
}

abbrev pub decreases-loop-here : goal.decreases-loop-here
decreases-loop-here l = l.b - (place_in l.path l.i).row
