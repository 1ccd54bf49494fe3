-- A turn of the pass: where it may begin, and what it leaves.
use mathlib.Core.Path.{◌≡◌, refl}
use mathlib.Core.List.{List}
use Prim.Native.Nat.{ℕ, ◌+◌, ◌-◌, ◌≤◌, ◌<◌}
use native.Mathlib.Omega.{arith}
use lib.ListN.{length, get_or, set}
use Rattle.grammar.specs.Grammar.{Content}
use Rattle.grammar.specs.Machine.{Open}
use Rattle.tokens.specs.Tokens.{bytes}
use Rattle.judge.proofs.Judging.{closed_within}
use Rattle.rows.specs.Notes.{RowsNoted, Notes}
use Rattle.rows.specs.Turns.{MayTag, TagDone, refused, deep_open, deep_empty, opens, empty, closes, RunDone, many, last_run, early_run, deep_text, to_tag, MayTurn, TurnDone, stopped, over, tagged}
use Rattle.std.specs.Prelude.{Ok, Err}
use Rattle.rows.specs.declared.note.Unread.{Unread}
use Rattle.rows.specs.declared.note.Ran.TheVariants.{Tag}
use Rattle.rows.specs.declared.note.Turn.TheVariants.{Ends, Opens, Empty, Closes}
use Rattle.rows.proofs.Noting as noting
use Rattle.rows.proofs.Noting.{Noting}

-- a place of the document behind i
pub record Behind (w : List ℕ) (i r : ℕ) : Type 0 where
  pub more : i < r
  pub within : r ≤ length w

module _ {w S L Z H : List ℕ} {i x depth n : ℕ} (k : Noting w S L Z H i x depth n) where
  abbrev O : List Open
  O = k.walked.o

  abbrev F : Content
  F = k.walked.f

  pub may_turn : length w ≤ 32768 → MayTurn w S L Z x depth n i O F
  may_turn short = record {
    short = short;
    here = k.walked.here.within;
    shallow = noting.few_open k;
    tag = λ done. tag done;
  }
    where
      tag : {a m : ℕ} {S' L' Z' : List ℕ} → RunDone w S L Z depth n i S' L' Z' (Ok (Tag m a)) → MayTag w S' L' x depth m a O F (bytes w i (a - i))
      tag (to_tag few run put less shallow) = record {
        short = short;
        low = noting.low_top k few run put;
        few = omega (arith, few, run.few);
        named = noting.name_span k few run put refl refl;
        tagging = noting.tagging k few run put refl refl less;
      }

  -- IT ENDS
  pub turn_ends : {S' L' Z' : List ℕ} {m : ℕ} → TurnDone w S L Z depth n i O F S' L' Z' (Ok (Ends m)) → RowsNoted w S' L' Z' m
  turn_ends (over (last_run few run put other l)) = noting.finish k few run put l.0 l.1 l.2
  turn_ends (tagged (to_tag few run put less shallow) done) = elim done [ ]

  pub turn_stops : {S' L' Z' : List ℕ} (e : Unread) → TurnDone w S L Z depth n i O F S' L' Z' (Err e) → Notes w S' L' Z' (Err e)
  turn_stops e (stopped (many h)) = noting.many_rows k h
  turn_stops e (stopped (early_run few run put other l)) = noting.early k few run put other l
  turn_stops e (stopped (deep_text few run put less h)) = noting.deep_text k few run put less h
  turn_stops e (tagged done (refused h)) = h
  turn_stops e (tagged (to_tag few run put less shallow) (deep_open h d)) = noting.deep_open k few run put h d
  turn_stops e (tagged (to_tag few run put less shallow) (deep_empty h d)) = noting.deep_empty k few run put h d

  -- AN ELEMENT AT y OPENS, and the pass goes on at r
  pub record Opened (S' L' Z' : List ℕ) (y r : ℕ) : Type 0 where
    pub shallow : depth < 64
    pub low : x < 2052
    pub few : y ≤ 2049
    pub behind : Behind w i r
    pub kept : Noting w S' L' Z' (set H depth x) r y (depth + 1) (y + 1)

  pub turn_opens : {S' L' Z' : List ℕ} {y r : ℕ} → TurnDone w S L Z depth n i O F S' L' Z' (Ok (Opens y r)) → Opened S' L' Z' y r
  turn_opens {r = r} (tagged {a = a} {S' = S₁} {L' = L₁} {Z' = Z₁} (to_tag {m = m} few run put less shallow) done) = go _ done
    where
      go : {S' L' Z' : List ℕ} (y : ℕ) → TagDone w S₁ L₁ Z₁ depth (n + m) a O F (bytes w i (a - i)) S' L' Z' (Ok (Opens y r)) → Opened S' L' Z' y r
      go y (opens l h d again) = record {
        shallow = omega (arith, d);
        low = noting.low_top k few run put;
        few = omega (arith, few, run.few);
        behind = record { more = omega (arith, l, run.span.passed.from); within = h.here.within };
        kept = noting.opens k few run put again h d;
      }

  -- IT IS EMPTY
  pub record Emptied (S' L' Z' : List ℕ) (y r : ℕ) : Type 0 where
    pub few : y ≤ 2049
    pub behind : Behind w i r
    pub kept : Noting w S' L' Z' H r x depth (y + 1)

  pub turn_empties : {S' L' Z' : List ℕ} {y r : ℕ} → TurnDone w S L Z depth n i O F S' L' Z' (Ok (Empty y r)) → Emptied S' L' Z' y r
  turn_empties {r = r} (tagged {a = a} {S' = S₁} {L' = L₁} {Z' = Z₁} (to_tag {m = m} few run put less shallow) done) = go _ done
    where
      go : {S' L' Z' : List ℕ} (y : ℕ) → TagDone w S₁ L₁ Z₁ depth (n + m) a O F (bytes w i (a - i)) S' L' Z' (Ok (Empty y r)) → Emptied S' L' Z' y r
      go y (empty l h d again) = record {
        few = omega (arith, few, run.few);
        behind = record { more = omega (arith, l, run.span.passed.from); within = h.here.within };
        kept = noting.empties k few run put again h d;
      }

  -- THE INNERMOST ENDS behind y rows
  pub record Shut (S' L' Z' : List ℕ) (y r : ℕ) : Type 0 where
    pub some : 0 < depth
    pub shallow : depth ≤ 64
    pub low : x < 2052
    pub before : x ≤ y
    pub few : y ≤ 2049
    pub behind : Behind w i r
    pub kept : {z : ℕ} → z ≡ get_or H (depth - 1) 0 → Noting w S' L' (set Z' x (y - x)) H r z (depth - 1) y

  pub turn_closes : {S' L' Z' : List ℕ} {y r : ℕ} → TurnDone w S L Z depth n i O F S' L' Z' (Ok (Closes y r)) → Shut S' L' Z' y r
  turn_closes {r = r} (tagged {a = a} {S' = S₁} {L' = L₁} {Z' = Z₁} (to_tag {m = m} few run put less shallow) done) = go _ done
    where
      go : {S' L' Z' : List ℕ} (y : ℕ) → TagDone w S₁ L₁ Z₁ depth (n + m) a O F (bytes w i (a - i)) S' L' Z' (Ok (Closes y r)) → Shut S' L' Z' y r
      go y (closes l h) = record {
        some = noting.some_open k few run put h;
        shallow = noting.few_open k;
        low = noting.low_top k few run put;
        before = noting.top_before k few run put h;
        few = omega (arith, few, run.few);
        behind = record { more = omega (arith, l, run.span.passed.from); within = closed_within _ _ _ _ _ h };
        kept = λ is_z. noting.closes k few run put h shallow is_z;
      }
