-- A pattern that stands in three lists stands in any that begin with them.
use Prim.Native.Nat.{ℕ, suc, ◌+◌, ◌<◌, ◌≤◌}
use mathlib.Core.Path.{◌≡◌, ap, ◌∙◌, sym, subst}
use mathlib.Core.List.{List}
use lib.ListN.{length, get_or}
use native.Mathlib.Omega.{arith}
use Rattle.meaning.specs.Pattern.{Pattern, Patterns, Kind}
use Rattle.pattern.specs.Places.{PatternRow, PatternAt, at_symbol, at_individual, at_function, at_context, PatternsAt, at_nil, at_cons, at_sequence}

-- Y starts with the numbers of X
pub record Starts (X Y : List ℕ) : Type 0 where
  pub long : length X ≤ length Y
  pub same : (i : ℕ) → i < length X → get_or Y i 0 ≡ get_or X i 0

-- the first row of a pattern has a size
first_in : {K N Z : List ℕ} {Q : List Kind} {p : ℕ} {q : Pattern} → PatternAt K N Z Q p q → p < length Z
first_in (at_symbol r a) = r.in_size
first_in (at_individual r v z) = r.in_size
first_in (at_function r v a) = r.in_size
first_in (at_context r v z a) = r.in_size

-- a pattern stands where its lists start longer ones
module _ {K N Z K' N' Z' : List ℕ} (kinds : Starts K K') (names : Starts N N') (sizes : Starts Z Z') where
  row_there : {p k x : ℕ} → PatternRow K N Z p k x → PatternRow K' N' Z' p k x
  row_there {p} r =
      record {
        in_kind = omega (arith, r.in_kind, kinds.long);
        in_name = omega (arith, r.in_name, names.long);
        in_size = omega (arith, r.in_size, sizes.long);
        kinded = kinds.same p r.in_kind ∙ r.kinded;
        named = names.same p r.in_name ∙ r.named;
        some = omega (arith, r.some, sizes.same p r.in_size);
      }

  mutual
    pub pattern_there : {Q : List Kind} {p : ℕ} {q : Pattern} → PatternAt K N Z Q p q → PatternAt K' N' Z' Q p q
    pattern_there {Q} {p} (at_symbol {ps = ps} r a) =
        at_symbol (row_there r) (subst (λ (n : ℕ). PatternsAt K' N' Z' Q (p + 1) (p + n) ps) (sym (sizes.same p r.in_size)) (patterns_there a))
    pattern_there {Q} {p} (at_individual r v z) = at_individual (row_there r) v (sizes.same p r.in_size ∙ z)
    pattern_there {Q} {p} (at_function {ps = ps} r v a) =
        at_function (row_there r) v (subst (λ (n : ℕ). PatternsAt K' N' Z' Q (p + 1) (p + n) ps) (sym (sizes.same p r.in_size)) (patterns_there a))
    pattern_there {Q} {p} (at_context r v z a) =
        at_context (row_there r) v (sizes.same p r.in_size ∙ z ∙ ap suc (sym (sizes.same (p + 1) (first_in a)))) (pattern_there a)

    patterns_there : {Q : List Kind} {p e : ℕ} {ps : Patterns} → PatternsAt K N Z Q p e ps → PatternsAt K' N' Z' Q p e ps
    patterns_there (at_nil h l) = at_nil h (omega (arith, kinds.long))
    patterns_there {Q} {p} {e} (at_cons {ps = ps} a l b) =
        let z = sizes.same p (first_in a) in
        at_cons {e = e} (pattern_there a) (omega (arith, z)) (subst (λ (n : ℕ). PatternsAt K' N' Z' Q (p + n) e ps) (sym z) (patterns_there b))
    patterns_there {Q} {p} (at_sequence r v z l b) = at_sequence (row_there r) v (sizes.same p r.in_size ∙ z) l (patterns_there b)
