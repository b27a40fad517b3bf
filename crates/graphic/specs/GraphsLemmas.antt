-- The graph that the code holds, by its labels.
use Rattle.std.specs.Prelude.{◌≡◌, ℕ, zero, suc, ◌+◌, ◌^◌, ◌<◌, ◌≤◌, Bool, true, false, cond, ◌⊎◌, List, [], ◌∷◌, ◌++◌, map, length, get_or, take, Some, None, Option, MatchOption, Ok, bit_xor, ◌-◌, slice_get, slice_index_or, slice_set, refl}
use Rattle.std.proofs.Common.{sym, ap, ◌∙◌, subst, inl, inr, add-one, arith, take-suc-set}
use Rattle.std.specs.Option.{option_map}
use Rattle.std.proofs.lemmas.Option.{slice_get_cases}
use Rattle.entries.specs.Table.{entry_at, values}
use Rattle.entries.proofs.Places.{values_few}
use Rattle.std.proofs.Math.ListN.{get_or-eq_default}
use Rattle.std.proofs.lemmas.List.{get_or-map, map-append, length-map}
use Rattle.std.proofs.lemmas.Bool.Decides.{nat_tests}
use Rattle.std.proofs.lemmas.Nat.{pow_below, xor_lt}
use Rattle.std.specs.Int.Bits.{xor_self}
use Rattle.labels.specs.Sets.{single, limit}
use Rattle.binary_laws.specs.Graphic.{incidence, Joined}
use Rattle.binary_laws.specs.Elimination.{places}
use Rattle.graphic.specs.declared.edge.Edge.{Edge}
use Rattle.graphic.specs.declared.graph.Graphic.{Graphic}
use Rattle.graphic.specs.Points.{in_range, most_points}
use Rattle.graphic.specs.Graphs.{ends, first_end, second_end, ends_at, admitted}
use Rattle.graphic.specs.Edges.{ends_of, graph}

-- of tests alone
in_range_tells : (n x : ℕ) → in_range n x ≡ true → (1 ≤ x) × (x ≤ n)
in_range_tells n x h = (grind (arith, nat_tests), grind (arith, nat_tests))

-- the answer of a test that comes first
chosen : {A : Type 0} (b c : Bool) (x y : A) → b ≡ c → cond b x y ≡ cond c x y
chosen b c x y e = ap (λ (t : Bool). cond t x y) e

-- a loop at the point 1
loop : Edge
loop = record {
  a = 1;
  b = 1;
  column = 0;
  alow = omega arith;
  ahigh = omega arith;
  blow = omega arith;
  bhigh = omega arith;
  joins = sym (xor_self (single 1));
}

-- of points alone
pub points_few : most_points ≤ places
points_few = omega arith

single_low : (a : ℕ) → a ≤ most_points → single a < 2 ^ most_points
unfolding single
single_low a h = pow_below (a - 1) most_points (omega (arith, h))

module _ (g : Graphic) where
  pub graph_length : length (graph g) ≡ length (values g.edges)
  graph_length = length-map (values g.edges) ends_of

  pub graph_few : length (graph g) ≤ limit
  graph_few = omega (arith, graph_length, values_few g.edges)

  -- by place: an edge that there is, and none
  read_place : (k : ℕ) (d : Edge) → k < length (values g.edges) → ends (graph g) (suc k) ≡ ends_of (get_or (values g.edges) k d)
  read_place k d l = get_or-map ends_of (values g.edges) k d (0, 0) l

  none_place : (k : ℕ) → length (values g.edges) ≤ k → ends (graph g) (suc k) ≡ (0, 0)
  none_place k l = get_or-eq_default (graph g) (0, 0) (omega (arith, graph_length))

  -- by label: an edge as it is read, where d stands where the list has ended; and none
  ends_read : (label : ℕ) (d : Edge) → 1 ≤ label → label ≤ length (values g.edges) → ends (graph g) label ≡ ends_of (slice_index_or (values g.edges) (label - 1) d)
  ends_read zero d l h = absurd (omega arith)
  ends_read (suc k) d l h =
      read_place k d (omega arith) ∙ ap (λ (j : ℕ). ends_of (get_or (values g.edges) j d)) (let z : k ≡ suc k - 1 = omega arith in z)

  ends_none : (label : ℕ) → (1 ≤ label → label ≤ length (values g.edges) → ⊥) → ends (graph g) label ≡ (0, 0)
  ends_none zero f = refl
  ends_none (suc k) f = none_place k (let n : (suc k ≤ length (values g.edges) → ⊥) = f (omega arith) in omega arith)

  pub joined : Joined (length (graph g)) (first_end (graph g)) (second_end (graph g))
  joined zero l h = absurd (omega arith)
  joined (suc k) l h =
      let d = get_or (values g.edges) k loop in
      subst (λ (p : ℕ × ℕ). (1 ≤ p.0) × (1 ≤ p.1)) (sym (read_place k loop (omega (arith, graph_length)))) (d.alow, d.blow)

  -- no end is above the points that there can be, so that no column has a digit above them
  ends_low : (label : ℕ) → (first_end (graph g) label ≤ most_points) × (second_end (graph g) label ≤ most_points)
  ends_low zero = (omega arith, omega arith)
  ends_low (suc k) = go (slice_get_cases (values g.edges) k).1
    where
      low : ℕ × ℕ → Type 0
      low p = (p.0 ≤ most_points) × (p.1 ≤ most_points)

      go : ((x : Edge) × (k < length (values g.edges)) × (slice_get (values g.edges) k ≡ Some x) × (get_or (values g.edges) k x ≡ x))
          ⊎ ((length (values g.edges) ≤ k) × (slice_get (values g.edges) k ≡ None)) → low (ends (graph g) (suc k))
      go (inl (x, l, q, r)) = subst low (sym (read_place k x l ∙ ap ends_of r)) (x.ahigh, x.bhigh)
      go (inr (l, q)) = subst low (sym (none_place k l)) (omega arith, omega arith)

  pub columns_low : (label : ℕ) → incidence (first_end (graph g)) (second_end (graph g)) label < 2 ^ most_points
  columns_low label = let p = ends_low label in xor_lt most_points _ _ (single_low _ p.0) (single_low _ p.1)

  -- ---- what the code reads

  at : (label : ℕ) (b : Bool) → in_range (length (graph g)) label ≡ b → ends_at (graph g) label ≡ cond b (Some (ends (graph g) label)) None
  at label b e = ap (λ (t : Bool). cond t (Some (ends (graph g) label)) None) e

  pub ends_are : (label : ℕ) → option_map ends_of (entry_at (values g.edges) label) ≡ ends_at (graph g) label
  ends_are zero = sym (at zero false refl)
  ends_are (suc k) = go (slice_get_cases (values g.edges) k).1
    where
      go : ((x : Edge) × (k < length (values g.edges)) × (slice_get (values g.edges) k ≡ Some x) × (get_or (values g.edges) k x ≡ x))
          ⊎ ((length (values g.edges) ≤ k) × (slice_get (values g.edges) k ≡ None)) → option_map ends_of (slice_get (values g.edges) k) ≡ ends_at (graph g) (suc k)
      go (inl (x, l, q, r)) =
          ap (option_map ends_of) q ∙ ap (λ (p : ℕ × ℕ). Some p) (ap ends_of (sym r) ∙ sym (read_place k x l))
          ∙ sym (at (suc k) true (let n = graph_length in grind (arith, nat_tests)))
      go (inr (l, q)) = ap (option_map ends_of) q ∙ sym (at (suc k) false (let n = graph_length in grind (arith, nat_tests)))

  pub column_is : (label : ℕ) (c : ℕ) → MatchOption (entry_at (values g.edges) label) (c ≡ 0) (λ e. c ≡ e.column)
      → c ≡ incidence (first_end (graph g)) (second_end (graph g)) label
  column_is zero c h = h ∙ sym (xor_self (single 0))
  column_is (suc k) c h = go (slice_get_cases (values g.edges) k).1
    where
      go : ((x : Edge) × (k < length (values g.edges)) × (slice_get (values g.edges) k ≡ Some x) × (get_or (values g.edges) k x ≡ x))
          ⊎ ((length (values g.edges) ≤ k) × (slice_get (values g.edges) k ≡ None)) → c ≡ incidence (first_end (graph g)) (second_end (graph g)) (suc k)
      go (inl (x, l, q, r)) =
          subst (λ (o : Option Edge). MatchOption o (c ≡ 0) (λ e. c ≡ e.column)) q h ∙ x.joins
          ∙ sym (ap (λ (p : ℕ × ℕ). bit_xor (single p.0) (single p.1)) (read_place k x l ∙ ap ends_of r))
      go (inr (l, q)) =
          subst (λ (o : Option Edge). MatchOption o (c ≡ 0) (λ e. c ≡ e.column)) q h
          ∙ sym (ap (λ (p : ℕ × ℕ). bit_xor (single p.0) (single p.1)) (none_place k l) ∙ xor_self (single 0))

  pub ends_found : (label : ℕ) (d : Edge) → in_range (length (values g.edges)) label ≡ true
      → Some (ends_of (slice_index_or (values g.edges) (label - 1) d)) ≡ ends_at (graph g) label
  ends_found label d h =
      let r = in_range_tells (length (values g.edges)) label h in
      ap (λ (p : ℕ × ℕ). Some p) (sym (ends_read label d r.0 r.1))
      ∙ sym (chosen (in_range (length (graph g)) label) true (Some (ends (graph g) label)) None (ap (λ (n : ℕ). in_range n label) graph_length ∙ h))

  pub ends_missing : (label : ℕ) → in_range (length (values g.edges)) label ≡ false → None ≡ ends_at (graph g) label
  ends_missing label h = sym (chosen (in_range (length (graph g)) label) false (Some (ends (graph g) label)) None (ap (λ (n : ℕ). in_range n label) graph_length ∙ h))

  pub column_read : (label : ℕ) (d : Edge) → 1 ≤ label → label ≤ length (values g.edges)
      → (get_or (values g.edges) (label - 1) d).column ≡ incidence (first_end (graph g)) (second_end (graph g)) label
  column_read label d l h =
      (get_or (values g.edges) (label - 1) d).joins ∙ sym (ap (λ (p : ℕ × ℕ). bit_xor (single p.0) (single p.1)) (ends_read label d l h))

  pub column_none : (label : ℕ) → (1 ≤ label → label ≤ length (values g.edges) → ⊥) → 0 ≡ incidence (first_end (graph g)) (second_end (graph g)) label
  column_none label f = sym (ap (λ (p : ℕ × ℕ). bit_xor (single p.0) (single p.1)) (ends_none label f) ∙ xor_self (single 0))

-- what an entry makes

pub room : (p n a b : ℕ) → Ok tt ≡ admitted p n a b → n < limit
room p n a b h = grind (arith, nat_tests)

pub one_more : (es : List Edge) (n : ℕ) (e : Edge) (a b : ℕ) → n < length es → e.a ≡ a → e.b ≡ b
    → map ends_of (take (n + 1) (slice_set es n e)) ≡ map ends_of (take n es) ++ ((a, b) ∷ [])
one_more es n e a b h u w =
    ap (λ (k : ℕ). map ends_of (take k (slice_set es n e))) (add-one n)
    ∙ ap (map ends_of) (take-suc-set es n e h)
    ∙ map-append ends_of (take n es) (e ∷ [])
    ∙ ap (λ (q : ℕ × ℕ). map ends_of (take n es) ++ (q ∷ [])) (λ i. (u i, w i))
