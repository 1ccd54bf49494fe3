-- The instance maker over all lists: each refusal, and the instance that is made.
use Prim.Native.Nat.{ℕ, ◌<◌, ◌≤◌}
use mathlib.Core.Path.{◌≡◌, refl, ap, ◌∙◌, sym}
use mathlib.Core.Logic.{◌⊎◌, inl, inr}
use mathlib.Core.Bool.{Bool, true, false}
use mathlib.Core.List.{List}
use lib.ListN.{length, get_or}
use native.Mathlib.Omega.{arith}
use Rattle.meaning.specs.Forest.{none, Term, ◌◂◌, rows, size}
use Rattle.meaning.specs.Matcher.{Value, apply}
use Rattle.meaning.specs.Read.{read_off}
use Rattle.meaning.specs.Calls.{refuse, accept, Says}
use Rattle.meaning.proofs.Answers.{said_no}
use Rattle.meaning.proofs.Means.{means_read}
use Rattle.tree.specs.Rows.{labels, sizes, GoodRows}
use Rattle.tree.proofs.Lists.{labels_rows, sizes_rows}
use Rattle.tree.proofs.Unique.{unique, good_lengths}
use Rattle.tree.specs.declared.Tree.{Tree}
use Rattle.pattern.specs.Rows.{GoodPatternRows}
use Rattle.pattern.specs.Answer.{PatternSettled}
use Rattle.pattern.specs.declared.Checked.{Checked}
use Rattle.pattern.specs.declared.Pattern.{Pattern as PatternRows}
use Rattle.pattern.specs.Lists.{kind_tree, name_tree}
use Rattle.pattern.proofs.Unique.{kind_sizes, one_pattern, one_list}
use Rattle.pattern.proofs.Placed.{good_placed}
use Rattle.record.specs.Good.{GoodRecordList}
use Rattle.record.specs.Pairs.{RecordPost}
use Rattle.record.proofs.Whole.{tree_at, record_judged}
use Rattle.std.specs.Prelude.{Ok, Err}
use Rattle.meaning.specs.Refusal.{code}
use Rattle.meaning.specs.declared.refusal.Refusal.{Refusal}
use Rattle.meaning.specs.declared.refusal.Refusal.TheVariants as refusals
use Rattle.meaning.proofs.Refusals.{code_some}
use Rattle.instance.specs.Instance.{InstanceLists, lists_of, Instance, InstanceCodes, InstanceSettled}
use Rattle.instance.specs.Places.{Ground, Written}
use Rattle.instance.specs.Counting.{RowsPre, RowsPost}
use Rattle.instance.specs.Cycle.{TermPre, TermPost}
use Rattle.instance.proofs.Writes.{sets_whole}

-- the values that the record means are those that are read off the tree
read_of : {l : InstanceLists} {U : Term} (i : Instance l U) → U ≡ apply (read_off i.kinds (i.tree ◂ none) l.numbers) i.pattern
read_of i = i.is ∙ ap (λ (σ : List Value). apply σ i.pattern) (sym (means_read i.meant).1)

-- the lists have one instance at the most
pub one_instance : {l : InstanceLists} {U X : Term} → Instance l U → Instance l X → U ≡ X
one_instance {l} x y =
    let t = unique x.good_tree y.good_tree in
    let p = one_pattern x.good_pattern y.good_pattern in
    let q = one_list x.good_pattern y.good_pattern in
    read_of x ∙ rw (t, p, q) (sym (read_of y))

-- a good record has an instance
pub its_instance : (l : InstanceLists) (g : GoodRecordList l.label l.size l.kind l.name l.pattern_size l.numbers) → Instance l (apply g.3 g.1)
its_instance l g = record { tree = g.0; pattern = g.1; kinds = g.2; values = g.3; good_tree = g.4; good_pattern = g.5; meant = g.6; is = refl }

-- where the three checks have passed, the lists have one
pub found : (tree : Tree) (pattern : PatternRows) (numbers : List ℕ) {checked : Checked} {fits : Bool} → GoodRows tree.label.now tree.size.now
    → PatternSettled pattern.kind.now pattern.name.now pattern.size.now checked → checked.good ≡ true
    → RecordPost tree.size.now checked.kinds checked.variables numbers fits → fits ≡ true → (U : Term) × Instance (lists_of tree pattern numbers) U
found tree pattern numbers rows settled e post f = (_, its_instance (lists_of tree pattern numbers) ((record_judged rows settled e post).0 f))

-- a refusal
refusal : (l : InstanceLists) (OL OS : List ℕ) (e : Refusal) → InstanceCodes l (length OL) (length OS) (code e) → InstanceSettled l OL OS (Err e) OL OS
refusal l OL OS e x = record { coded = x; accepted = λ z. absurd (code_some e z); refused = λ _. (refl, refl, refl) }

module _ (l : InstanceLists) (OL OS : List ℕ) where
  pub refused_tree : {r : Bool} → Says r (GoodRows l.label l.size) → r ≡ false → InstanceSettled l OL OS (Err refusals.Tree) OL OS
  refused_tree s e = refusal l OL OS refusals.Tree (inl (said_no s e, refl))

  pub refused_pattern : {r : Bool} → GoodRows l.label l.size → Says r (GoodPatternRows l.kind l.name l.pattern_size) → r ≡ false → InstanceSettled l OL OS (Err refusals.Pattern) OL OS
  refused_pattern t s e = refusal l OL OS refusals.Pattern (inr (t, inl (said_no s e, refl)))

  pub refused_record : {r : Bool} → GoodRows l.label l.size → GoodPatternRows l.kind l.name l.pattern_size
      → Says r (GoodRecordList l.label l.size l.kind l.name l.pattern_size l.numbers) → r ≡ false → InstanceSettled l OL OS (Err refusals.Record) OL OS
  refused_record t p s e = refusal l OL OS refusals.Record (inr (t, inr (p, inl (said_no s e, refl))))

  module _ {U : Term} (i : Instance l U) where
    -- the lists are good
    passed : (c : ℕ) → refuse 16 ((X : Term) × Instance l X × (size X ≤ 2048)) (refuse 17 ((X : Term) × Instance l X × (size X ≤ length OL) × (size X ≤ length OS)) accept) c
        → InstanceCodes l (length OL) (length OS) c
    passed c x =
        let t = i.tree in
        let p = i.pattern in
        inr ((t, i.good_tree), inr ((p, i.kinds, i.good_pattern), inr ((t, p, i.kinds, i.values, i.good_tree, i.good_pattern, i.meant), x)))

    -- every instance of the lists has as many rows
    as_large : {X : Term} → Instance l X → size X ≡ size U
    as_large j = ap size (one_instance j i)

    pub refused_rows : 2048 < size U → InstanceSettled l OL OS (Err refusals.TooLarge) OL OS
    refused_rows h = refusal l OL OS refusals.TooLarge (passed 16 (inl (λ x. omega (arith, x.2, as_large x.1), refl)))

    pub refused_room : size U ≤ 2048 → (length OL < size U) ⊎ (length OS < size U) → InstanceSettled l OL OS (Err refusals.NoRoom) OL OS
    refused_room h g = refusal l OL OS refusals.NoRoom (passed 17 (inr ((U, i, h), inl (too_narrow g, refl))))
      where
        too_narrow : (length OL < size U) ⊎ (length OS < size U) → (X : Term) × Instance l X × (size X ≤ length OL) × (size X ≤ length OS) → ⊥
        too_narrow (inl g) (X, j, a, b) = omega (arith, as_large j)
        too_narrow (inr g) (X, j, a, b) = omega (arith, as_large j)

    -- the instance is written
    pub made_whole : {n : ℕ} {NL NS : List ℕ} → size U ≤ 2048 → size U ≤ length OL → size U ≤ length OS → n ≡ size U → Written OL OS NL NS 0 (U ◂ none) → InstanceSettled l OL OS (Ok n) NL NS
    unfolding rows
    made_whole {n} {NL} {NS} h a b z w =
        record {
          coded = passed 0 (inr ((U, i, h), inr ((U, i, a, b), refl)));
          accepted = λ e.
              record {
                made = U;
                its = i;
                answered = z;
                labelled = w.labelled ∙ sets_whole OL (labels (U ◂ none)) (size U) (omega (arith, labels_rows (U ◂ none))) a;
                sized = w.sized ∙ sets_whole OS (sizes (U ◂ none)) (size U) (omega (arith, sizes_rows (U ◂ none))) b;
              };
          refused = λ n. absurd (n refl);
        }

-- what the functions below ask of the lists of an instance
module _ {l : InstanceLists} {U : Term} (i : Instance l U) where
  ground : Ground l.label l.size l.numbers i.kinds (i.tree ◂ none)
  ground = record { tree = tree_at i.good_tree; few = omega (arith, i.good_tree.few, (good_lengths i.good_tree).1); good = (means_read i.meant).0 }

  -- the pattern's lists are as long as its root's size
  long : (length l.name ≡ length l.kind) × (get_or l.pattern_size 0 0 ≡ length l.kind)
  unfolding sizes rows
  long =
      let P = i.pattern in
      let g = i.good_pattern in
      let k = ap length g.kinds ∙ labels_rows (kind_tree P) in
      let n = ap length g.names ∙ labels_rows (name_tree P) in
      let s = sym (sizes_rows (kind_tree P)) ∙ ap length (kind_sizes P) ∙ sizes_rows (name_tree P) in
      let z = ap (λ (xs : List ℕ). get_or xs 0 0) g.sized in
      (omega arith, omega arith)

  pub rows_pre : RowsPre l.size l.kind l.name l.numbers
  rows_pre =
      record {
        few = i.good_pattern.few;
        named = long.0;
        some = (l.label, i.kinds, i.tree ◂ none, l.pattern_size, i.pattern, ground, good_placed i.good_pattern, long.1);
      }

  pub rows_is : {r : ℕ} → RowsPost l.size l.kind l.name l.numbers r → r ≡ size U
  rows_is p =
      p.is l.label i.kinds (i.tree ◂ none) l.pattern_size i.pattern ground (good_placed i.good_pattern) long.1 ∙ sym (ap size (read_of i))

  pub term_whole : {OL OS : List ℕ} → size U ≤ 2048 → size U ≤ length OL → size U ≤ length OS
      → TermPre l.label l.size l.kind l.name l.pattern_size l.numbers OL OS 0 0
  term_whole h a b =
      let z = ap size (read_of i) in
      record {
        some = (
          i.kinds,
          i.tree ◂ none,
          i.pattern,
          ground,
          good_placed i.good_pattern,
          record { labelled = omega arith; sized = omega arith; few = omega arith },
        );
      }

  pub written_whole : {OL OS NL NS : List ℕ} {r : ℕ} → TermPost l.label l.size l.kind l.name l.pattern_size l.numbers OL OS 0 0 r NL NS → Written OL OS NL NS 0 (U ◂ none)
  written_whole {OL} {OS} {NL} {NS} p = rw (read_of i) (p.is i.kinds (i.tree ◂ none) i.pattern ground (good_placed i.good_pattern)).1
