-- Three lists are a good table exactly if every row meets the rule on itself and its parts.
use mathlib.Core.Path.{◌≡◌, refl, sym, ap, ◌∙◌, subst}
use mathlib.Core.List.{List, [], ◌∷◌}
use Prim.Native.Nat.{ℕ, zero, suc, ◌+◌, ◌≤◌, ◌<◌}
use native.Mathlib.Numerals.{add-one}
use native.Mathlib.Omega.{arith}
use lib.ListN.{length}
use Rattle.expression.specs.Expression.{Expression, symbol, empty, concatenation, choice, repetition}
use Rattle.expression.specs.Rows.{GoodTable}
use Rattle.expression.specs.Columns.{kind_of, name_of, rows, name_rows}
use Rattle.expression.specs.Rule.{left_of, right_of, size_from, NameFits, SizeFits, number_at}
use Rattle.expression.proofs.Columns.{kinds_column, names_column, sizes_column, kinds_are, names_are, sizes_are}
use Rattle.expression.proofs.Small.{SymbolsFit, AllFit, all_small, small_all}
use Rattle.expression.proofs.Ways.{two_ways, three_ways}
use Rattle.expression.proofs.Stands.{stands_self, stands_alone}
use Rattle.expression.proofs.Placed.{rows_positive, total, all_many, Placed, Laid, placed_kind, placed_name, placed_size, lay, laid_list}

-- ---- the rule, kind by kind

pub name_zero : (k x : ℕ) → (k ≡ 0 → ⊥) → NameFits k x → x ≡ 0
name_zero zero x n o = absurd (n refl)
name_zero (suc k) x n o = o

pub zero_name : (k x : ℕ) → (k ≡ 0 → ⊥) → x ≡ 0 → NameFits k x
zero_name zero x n o = absurd (n refl)
zero_name (suc k) x n o = o

-- kinds 0 and 1
leaf : (k s z l r : ℕ) → k < 2 → (left_of k s ≡ s) × (right_of k s z ≡ s) × (size_from k l r ≡ 1)
leaf zero s z l r h = (refl, refl, refl)
leaf (suc zero) s z l r h = (refl, refl, refl)
leaf (suc (suc k)) s z l r h = absurd (omega arith)

-- kinds 2 and 3
two_parts : (k s z l r : ℕ) → 2 ≤ k → k < 4 → (left_of k s ≡ s + 1) × (right_of k s z ≡ s + 1 + z) × (size_from k l r ≡ l + r + 1)
two_parts zero s z l r g h = absurd (omega arith)
two_parts (suc zero) s z l r g h = absurd (omega arith)
two_parts (suc (suc zero)) s z l r g h = (refl, refl, refl)
two_parts (suc (suc (suc zero))) s z l r g h = (refl, refl, refl)
two_parts (suc (suc (suc (suc k)))) s z l r g h = absurd (omega arith)

module _ (kind size : ℕ → ℕ) (n s : ℕ) (b : s < n) where
  pub leaf_fits : kind s < 2 → size s ≡ 1 → SizeFits kind size n s
  leaf_fits h z =
      let t = leaf (kind s) s (size (s + 1)) (size (left_of (kind s) s)) (size (right_of (kind s) s (size (s + 1)))) h in
      record { known = omega arith; left = rw t.0 b; right = rw t.1 b; whole = z ∙ sym t.2 }

  pub leaf_size : kind s < 2 → SizeFits kind size n s → size s ≡ 1
  leaf_size h o = o.whole ∙ (leaf (kind s) s 0 _ _ h).2

  pub repetition_fits : kind s ≡ 4 → s + 1 < n → size s ≡ size (s + 1) + 1 → SizeFits kind size n s
  repetition_fits q l z = record { known = omega (arith, q); left = rw q l; right = rw q l; whole = rw q z }

  pub two_fit : 2 ≤ kind s → kind s < 4 → s + 1 + size (s + 1) < n → size s ≡ size (s + 1) + size (s + 1 + size (s + 1)) + 1 → SizeFits kind size n s
  two_fit g h r z =
      let t = two_parts (kind s) s (size (s + 1)) (size (s + 1)) (size (s + 1 + size (s + 1))) g h in
      record { known = omega arith; left = rw t.0 (omega arith); right = rw t.1 r; whole = rw (t.0, t.1, t.2) z }

  pub two_sizes : 2 ≤ kind s → kind s < 4 → SizeFits kind size n s
      → (s + 1 + size (s + 1) < n) × (size s ≡ size (s + 1) + size (s + 1 + size (s + 1)) + 1)
  two_sizes g h o =
      let t = two_parts (kind s) s (size (s + 1)) (size (s + 1)) (size (s + 1 + size (s + 1))) g h in
      (rw t.1 at o.right, rw (t.0, t.1, t.2) at o.whole)

  pub inner_left : 2 ≤ kind s → SizeFits kind size n s → s + 1 < n
  inner_left g o = go (kind s) g o.left
    where
      go : (k : ℕ) → 2 ≤ k → left_of k s < n → s + 1 < n
      go zero g h = absurd (omega arith)
      go (suc zero) g h = absurd (omega arith)
      go (suc (suc k)) g h = h

-- ---- from the rule to expressions

module _ (kind name size : ℕ → ℕ) (n : ℕ) where
  pub record RowFits (s : ℕ) : Type 0 where
    pub sized : SizeFits kind size n s
    pub named : NameFits (kind s) (name s)

  -- an expression at the row s, within the table
  abbrev At : ℕ → Type 0
  At s = (e : Expression) × Placed kind name size e s × (s + rows e ≤ n) × SymbolsFit e

  abbrev Two : ℕ → Type 0
  Two s =
      (a : Expression) × (b : Expression) × Placed kind name size a (suc s) × Placed kind name size b (suc s + rows a)
      × (size (s + 1) + size (s + 1 + size (s + 1)) + 1 ≡ suc (rows a + rows b)) × (s + suc (rows a + rows b) ≤ n)
      × SymbolsFit a × SymbolsFit b

  both_at : (s : ℕ) → At (s + 1) → At (s + 1 + size (s + 1)) → Two s
  both_at s x y =
      let za = placed_size kind name size x.0 (s + 1) x.1 in
      let zb = placed_size kind name size y.0 (s + 1 + size (s + 1)) y.1 in
      let q : s + 1 + size (s + 1) ≡ suc s + rows x.0 = omega (arith, za) in (
        x.0,
        y.0,
        subst (λ (j : ℕ). Placed kind name size x.0 j) (add-one s) x.1,
        subst (λ (j : ℕ). Placed kind name size y.0 j) q y.1,
        omega (arith, za, zb),
        omega (arith, za, y.2),
        x.3,
        y.3,
      )

  build : ((s : ℕ) → s < n → RowFits s) → (m s : ℕ) → n ≤ s + m → s < n → At s
  build t zero s b h = absurd (omega arith)
  build t (suc m) s b h = go (kind s) refl (t s h).sized (t s h).named (build t m (s + 1)) (build t m (s + 1 + size (s + 1)))
    where
      go : (k : ℕ) → kind s ≡ k → SizeFits kind size n s → NameFits (kind s) (name s) → (n ≤ s + 1 + m → s + 1 < n → At (s + 1))
          → (n ≤ s + 1 + size (s + 1) + m → s + 1 + size (s + 1) < n → At (s + 1 + size (s + 1))) → At s
      go zero q o x l r = (symbol (name s), (q, refl, rw q at o.whole), omega arith, rw q at x)
      go (suc zero) q o x l r = (empty, (q, rw q at x, rw q at o.whole), omega arith, tt)
      go (suc (suc zero)) q o x l r =
          let w = both_at s (l (omega arith) (rw q at o.left)) (r (omega arith) (rw q at o.right)) in
          (concatenation w.0 w.1, (q, rw q at x, (rw q at o.whole) ∙ w.4, w.2, w.3), w.5, (w.6, w.7))
      go (suc (suc (suc zero))) q o x l r =
          let w = both_at s (l (omega arith) (rw q at o.left)) (r (omega arith) (rw q at o.right)) in
          (choice w.0 w.1, (q, rw q at x, (rw q at o.whole) ∙ w.4, w.2, w.3), w.5, (w.6, w.7))
      go (suc (suc (suc (suc zero)))) q o x l r =
          let y = l (omega arith) (rw q at o.left) in
          let z = placed_size kind name size y.0 (s + 1) y.1 in (
            repetition y.0,
            (q, rw q at x, (rw q at o.whole) ∙ (ap (λ (v : ℕ). v + 1) z ∙ add-one _), subst (λ (j : ℕ). Placed kind name size y.0 j) (add-one s) y.1),
            omega (arith, y.2),
            y.3,
          )
      go (suc (suc (suc (suc (suc k))))) q o x l r = absurd (omega (arith, o.known))

  -- the table from s on is whole expressions, one after another
  abbrev Rest : ℕ → Type 0
  Rest s = (es : List Expression) × Laid kind name size es s × (s + total es ≡ n) × AllFit es

  pub rest : ((s : ℕ) → s < n → RowFits s) → (m s : ℕ) → n ≤ s + m → s ≤ n → Rest s
  rest t zero s b h = ([], tt, omega arith, tt)
  rest t (suc m) s b h =
      two_ways s n
      (λ l.
      let x = build t n s (omega arith) l in
      let y = rest t m (s + rows x.0) (omega (arith, rows_positive x.0)) x.2 in
      (x.0 ∷ y.0, (x.1, y.1), omega (arith, y.2), (x.3, y.3)))
      (λ l. ([], tt, omega arith, tt))

  -- ---- from expressions to the rule

  inner : (a b : Expression) (s : ℕ) → 2 ≤ kind s → kind s < 4 → name s ≡ 0 → size s ≡ suc (rows a + rows b)
      → Placed kind name size a (suc s) → Placed kind name size b (suc s + rows a) → s + suc (rows a + rows b) ≤ n → RowFits s
  inner a b s g h m z pa pb l =
      let za = placed_size kind name size a (suc s) pa in
      let zb = placed_size kind name size b (suc s + rows a) pb in
      let q : s + 1 + size (s + 1) ≡ suc s + rows a = rw (add-one s, za) in
      record {
        sized = two_fit kind size n s (omega arith) g h (omega (arith, q, rows_positive b)) (rw (q, add-one s, za, zb) (omega (arith, z)));
        named = zero_name (kind s) (name s) (λ e. omega arith) m;
      }

  pub placed_fits : (e : Expression) (s : ℕ) → Placed kind name size e s → SymbolsFit e → s + rows e ≤ n → (i : ℕ) → s ≤ i → i < s + rows e → RowFits i
  placed_fits (symbol f) s p m l i g h =
      subst RowFits (omega arith)
      (record { sized = leaf_fits kind size n s (omega arith) (omega (arith, p.0)) p.2; named = rw p.0 (rw p.1 m) })
  placed_fits empty s p m l i g h =
      subst RowFits (omega arith)
      (record { sized = leaf_fits kind size n s (omega arith) (omega (arith, p.0)) p.2; named = rw p.0 p.1 })
  placed_fits (concatenation a b) s p m l i g h =
      three_ways s (rows a) i g
      (λ q. subst RowFits q (inner a b s (omega (arith, p.0)) (omega (arith, p.0)) p.1 p.2 p.3 p.4 l))
      (λ u v. placed_fits a (suc s) p.3 m.0 (omega arith) i u v)
      (λ u. placed_fits b (suc s + rows a) p.4 m.1 (omega arith) i u (omega arith))
  placed_fits (choice a b) s p m l i g h =
      three_ways s (rows a) i g
      (λ q. subst RowFits q (inner a b s (omega (arith, p.0)) (omega (arith, p.0)) p.1 p.2 p.3 p.4 l))
      (λ u v. placed_fits a (suc s) p.3 m.0 (omega arith) i u v)
      (λ u. placed_fits b (suc s + rows a) p.4 m.1 (omega arith) i u (omega arith))
  placed_fits (repetition a) s p m l i g h =
      three_ways s (rows a) i g
      (λ q.
      subst RowFits q
      (record {
        sized = repetition_fits kind size n s (omega arith) p.0 (omega (arith, rows_positive a))
            (rw (add-one s, placed_size kind name size a (suc s) p.3) (p.2 ∙ sym (add-one (rows a))));
        named = rw p.0 p.1;
      }))
      (λ u v. placed_fits a (suc s) p.3 m (omega arith) i u v)
      (λ u. absurd (omega arith))

  pub laid_fits : (es : List Expression) (s : ℕ) → Laid kind name size es s → AllFit es → s + total es ≤ n → (i : ℕ) → s ≤ i → i < s + total es → RowFits i
  laid_fits [] s d m l i g h = absurd (omega arith)
  laid_fits (e ∷ es) s d m l i g h =
      two_ways i (s + rows e) (placed_fits e s d.0 m.0 (omega arith) i g)
      (λ u. laid_fits es (s + rows e) d.1 m.1 (omega arith) i u (omega arith))

-- ---- the two are the same

module _ (kind name size : List ℕ) where
  abbrev pub RowOf : ℕ → Type 0
  RowOf s = RowFits (number_at kind) (number_at name) (number_at size) (length kind) s

  abbrev pub LaidIn : List Expression → ℕ → Type 0
  LaidIn es s = Laid (number_at kind) (number_at name) (number_at size) es s

  abbrev pub PlacedIn : Expression → ℕ → Type 0
  PlacedIn e s = Placed (number_at kind) (number_at name) (number_at size) e s

  pub good_table : length kind ≤ 64 → length name ≡ length kind → length size ≡ length kind → ((s : ℕ) → s < length kind → RowOf s)
      → (es : List Expression) × GoodTable kind name size es
  good_table l n z t =
      let ks : ℕ → ℕ = number_at kind in
      let ns : ℕ → ℕ = number_at name in
      let zs : ℕ → ℕ = number_at size in
      let r = rest ks ns zs (length kind) t (length kind) 0 (omega arith) (omega arith) in
      let named : name ≡ name_rows r.0 = stands_alone name _ (omega (arith, r.2, all_many name_of r.0)) (laid_list ks ns zs ns name_of (placed_name ks ns zs) r.0 0 r.1) in (
        r.0,
        record {
          kinds = stands_alone kind _ (omega (arith, r.2, all_many kind_of r.0)) (laid_list ks ns zs ks kind_of (placed_kind ks ns zs) r.0 0 r.1) ∙ sym (kinds_column r.0);
          names = named ∙ sym (names_column r.0);
          sizes = stands_alone size _ (omega (arith, r.2, all_many rows r.0)) (laid_list ks ns zs zs rows (placed_size ks ns zs) r.0 0 r.1) ∙ sym (sizes_column r.0);
          most = l;
          small = all_small r.0 named r.3;
        },
      )

module _ {kind name size : List ℕ} {es : List Expression} (g : GoodTable kind name size es) where
  -- the lists of a good table are as long as its expressions have rows
  pub kind_length : length kind ≡ total es
  kind_length = ap length (kinds_are es g) ∙ all_many kind_of es

  pub name_length : length name ≡ length kind
  name_length = ap length (names_are es g) ∙ all_many name_of es ∙ sym kind_length

  pub size_length : length size ≡ length kind
  size_length = ap length (sizes_are es g) ∙ all_many rows es ∙ sym kind_length

  pub good_laid : LaidIn kind name size es 0
  good_laid =
      lay (number_at kind) (number_at name) (number_at size) es 0
      (rw (sym (kinds_are es g)) (stands_self kind)) (rw (sym (names_are es g)) (stands_self name)) (rw (sym (sizes_are es g)) (stands_self size))

  pub good_rows : (s : ℕ) → s < length kind → RowOf kind name size s
  good_rows s h =
      laid_fits (number_at kind) (number_at name) (number_at size) (length kind) es 0 good_laid (small_all g)
      (omega (arith, kind_length)) s (omega arith) (omega (arith, kind_length))
