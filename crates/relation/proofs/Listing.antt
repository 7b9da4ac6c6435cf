-- The pairs of a table, row by row: how many they are, and their bytes in an area.
use Prim.Native.Nat.{ℕ, suc, ◌+◌, ◌-◌, ◌*◌, ◌≤◌, ◌<◌, zero-le}
use native.Mathlib.Omega.{arith}
use mathlib.Core.Path.{◌≡◌, refl, sym, ap, ap₂, ◌∙◌}
use mathlib.Core.List.{List, [], ◌∷◌, ◌++◌, map, flat_map, map-append}
use mathlib.Core.Bool.{false, ◌&&◌, not}
use lib.Dec.{ltb}
use lib.ListN.{length, get_or, set, drop, length-append, length-map, length-set}
use lib.Seq.{sets, sets-eq, length-sets}
use Rattle.poset.specs.Lists.{exists, keep, up_from, below}
use Rattle.poset.specs.Order.{Arc, pairs_of}
use Rattle.relation.specs.Table.{has, holds, members, Least, Inside}
use Rattle.poset.specs.Areas.{overlay, arc_bytes}
use Rattle.poset.proofs.Areas.{bytes_append, bytes_length}
use Rattle.relation.proofs.Lists.{range_start, range_step, range_end}
use Rattle.relation.proofs.Sets.{low_count, halves_count, Members-step, members_end, members_below, members_some, members_halves}

-- the pairs from u to the jobs of a row
abbrev pub row_pairs : ℕ → List ℕ → List Arc
row_pairs u row = map (λ v. (u, v)) (members row)

row_length : (u : ℕ) (s : List ℕ) → length (row_pairs u s) ≡ length (members s)
row_length u s = length-map {B = Arc} (members s) (λ v. (u, v))

-- bytes

sets_append : (l : List ℕ) (i : ℕ) (a b : List ℕ) → sets l i (a ++ b) ≡ sets (sets l i a) (i + length a) b
sets_append l i [] b = let e : i + 0 ≡ i = omega arith in rw e
sets_append l i (x ∷ a) b = let e : i + suc (length a) ≡ suc i + length a = omega arith in rw e (sets_append (set l i x) (suc i) a b)

sets_overlay : (written area : List ℕ) → length written ≤ length area → sets area 0 written ≡ overlay written area
unfolding overlay
sets_overlay written area h =
    let e : 0 + length written ≡ length written = omega arith in
    sets-eq written area 0 (omega arith) ∙ ap (λ k. written ++ drop k area) e

-- the pairs of the rows from u on
module _ (t : List (List ℕ)) (n : ℕ) where
  abbrev row : ℕ → List Arc
  row u = map (λ v. (u, v)) (keep (holds t u) (below n))

  abbrev pub rest : ℕ → List Arc
  rest u = flat_map row (up_from u (n - u))

  pub rest_start : pairs_of n (holds t) ≡ rest 0
  unfolding pairs_of
  rest_start = ap (flat_map row) (range_start n)

  pub rest_end : (u : ℕ) → n ≤ u → rest u ≡ []
  unfolding flat_map
  rest_end u l = ap (flat_map row) (range_end u n l)

  pub rest_step : (u : ℕ) → n ≤ 128 → Inside n t → u < n → rest u ≡ row_pairs u (get_or t u []) ++ rest (u + 1)
  unfolding flat_map holds
  rest_step u m inside l =
      ap (flat_map row) (range_step u n l)
      ∙ ap (λ vs. map (λ v. (u, v)) vs ++ rest (u + 1)) (members_below n (get_or t u []) m (λ v e. (inside u v e).1))

  -- the rows below u are counted
  pub record Counted (count u : ℕ) : Type 0 where
    pub within : u ≤ n
    pub small : count ≤ u * 128
    pub total : count + length (rest u) ≡ length (pairs_of n (holds t))

  pub counted_none : Counted 0 0
  counted_none = record { within = zero-le; small = zero-le; total = omega (arith, ap length rest_start) }

  module _ (count u : ℕ) (c : Counted count u) where
    pub counted_end : n ≤ u → count ≡ length (pairs_of n (holds t))
    counted_end l = omega (arith, c.total, ap length (rest_end u l))

    pub counted_next
        : n ≤ 128 → Inside n t → u < n → (size : ℕ) → size ≡ length (members (get_or t u [])) → size ≤ 128 → Counted (count + size) (u + 1)
    counted_next m inside l size e s =
        record {
          within = omega arith;
          small = omega (arith, c.small);
          total =
              omega (
                arith,
                c.total,
                ap length (rest_step u m inside l),
                length-append (row_pairs u (get_or t u [])) (rest (u + 1)),
                row_length u (get_or t u []),
              );
        }

  -- the rows below u are written, up to the place at
  pub record Laid (before area : List ℕ) (at u : ℕ) : Type 0 where
    pub within : u ≤ n
    pub left : sets area at (arc_bytes (rest u)) ≡ sets before 0 (arc_bytes (pairs_of n (holds t)))
    pub room : at + 2 * length (rest u) ≡ 2 * length (pairs_of n (holds t))
    pub size : length area ≡ length before

  module _ (before : List ℕ) where
    pub laid_none : Laid before before 0 0
    laid_none =
        record {
          within = zero-le;
          left = ap (λ a. sets before 0 (arc_bytes a)) (sym rest_start);
          room = omega (arith, ap length rest_start);
          size = refl;
        }

    module _ (area : List ℕ) (at u : ℕ) (c : Laid before area at u) where
      pub laid_end : 2 * length (pairs_of n (holds t)) ≤ length before → n ≤ u → area ≡ overlay (arc_bytes (pairs_of n (holds t))) before
      unfolding arc_bytes flat_map
      laid_end h l =
          ap (λ a. sets area at (arc_bytes a)) (sym (rest_end u l)) ∙ c.left
          ∙ sets_overlay (arc_bytes (pairs_of n (holds t))) before (omega (arith, bytes_length (pairs_of n (holds t))))

      module _ (m : n ≤ 128) (inside : Inside n t) (l : u < n) where
        row_room : at + 2 * length (members (get_or t u [])) + 2 * length (rest (u + 1)) ≡ 2 * length (pairs_of n (holds t))
        row_room =
            omega (arith, c.room, ap length (rest_step u m inside l), length-append (row_pairs u (get_or t u [])) (rest (u + 1)), row_length u (get_or t u []))

        pub laid_room : 2 * length (pairs_of n (holds t)) ≤ length before → at + 2 * length (members (get_or t u [])) ≤ length area
        laid_room h = omega (arith, row_room, c.size)

        pub Laid-next
            : (area' : List ℕ) (next : ℕ) → next ≡ at + 2 * length (members (get_or t u []))
            → area' ≡ sets area at (arc_bytes (row_pairs u (get_or t u []))) → Laid before area' next (u + 1)
        Laid-next area' next p q =
            record {
              within = omega arith;
              left =
                  ap₂ (λ a k. sets a k (arc_bytes (rest (u + 1)))) q place ∙ sym (sets_append area at (arc_bytes here) (arc_bytes (rest (u + 1))))
                  ∙ ap (sets area at) (sym (bytes_append here (rest (u + 1))) ∙ ap arc_bytes (sym (rest_step u m inside l))) ∙ c.left;
              room = omega (arith, row_room);
              size = ap length q ∙ length-sets area at (arc_bytes here) ∙ c.size;
            }
          where
            here : List Arc
            here = row_pairs u (get_or t u [])

            place : next ≡ at + length (arc_bytes here)
            place = omega (arith, bytes_length here, row_length u (get_or t u []))

-- a row whose jobs are written, up to those that are left
pub record Lined (u at : ℕ) (row before area : List ℕ) (k : ℕ) (rest : List ℕ) : Type 0 where
  pub left : sets area k (arc_bytes (row_pairs u rest)) ≡ sets before at (arc_bytes (row_pairs u row))
  pub room : k + 2 * length (members rest) ≡ at + 2 * length (members row)
  pub size : length area ≡ length before

module _ (u at : ℕ) (row before : List ℕ) where
  pub lined_none : Lined u at row before before at row
  lined_none = record { left = refl; room = refl; size = refl }

  module _ (area : List ℕ) (k : ℕ) (rest : List ℕ) (c : Lined u at row before area k rest) where
    pub lined_end
        : exists (has rest) (below 128) ≡ false
        → (k ≡ at + 2 * length (members row)) × (area ≡ sets before at (arc_bytes (row_pairs u row)))
    unfolding arc_bytes flat_map
    lined_end h =
        let e = members_end rest h in
        (omega (arith, c.room, ap length e), ap (λ vs. sets area k (arc_bytes (map (λ v. (u, v)) vs))) (sym e) ∙ c.left)

    pub lined_fits : (v : ℕ) → Least rest v → at + 2 * length (members row) ≤ length before → k + 1 < length area
    lined_fits v least h = omega (arith, c.room, c.size, members_some rest v least)

    module _ (v : ℕ) (least : Least rest v) (others : List ℕ) (without : (x : ℕ) → has others x ≡ (has rest x && exists (has rest) (below x))) where
      pub lined_next : Lined u at row before (set (set area k u) (k + 1) v) (k + 2) others
      unfolding arc_bytes flat_map
      lined_next =
          let a : k + 1 ≡ suc k = omega arith in
          let b : k + 2 ≡ suc (suc k) = omega arith in
          record {
            left =
                rw (a, b) (ap (λ vs. sets area k (arc_bytes (map (λ v. (u, v)) vs))) (sym (Members-step rest others v least without)) ∙ c.left);
            room = omega (arith, c.room, ap length (Members-step rest others v least without));
            size = length-set (set area k u) (k + 1) v ∙ length-set area k u ∙ c.size;
          }

-- a row that is written one half after the other
module _ (u : ℕ) (row low : List ℕ) (l : (v : ℕ) → has low v ≡ (has row v && ltb v 64)) (at : ℕ) (before : List ℕ) where
  pub halves_fit : at + 2 * length (members row) ≤ length before → at + 2 * length (members low) ≤ length before
  halves_fit m = omega (arith, low_count row low l)

  module _ (high : List ℕ) (h : (v : ℕ) → has high v ≡ (has row v && not (ltb v 64))) where
    module _ (area : List ℕ) (next : ℕ) (p : next ≡ at + 2 * length (members low)) (q : area ≡ sets before at (arc_bytes (row_pairs u low))) where
      pub halves_fit_later : at + 2 * length (members row) ≤ length before → next + 2 * length (members high) ≤ length area
      halves_fit_later m = omega (arith, halves_count row low l high h, ap length q ∙ length-sets before at (arc_bytes (row_pairs u low)))

      pub halves_end
          : (area' : List ℕ) (end : ℕ) → end ≡ next + 2 * length (members high) → area' ≡ sets area next (arc_bytes (row_pairs u high))
          → (end ≡ at + 2 * length (members row)) × (area' ≡ sets before at (arc_bytes (row_pairs u row)))
      halves_end area' end d e = (
        omega (arith, halves_count row low l high h),
        e ∙ ap₂ (λ a k. sets a k (arc_bytes (row_pairs u high))) q place
            ∙ sym (sets_append before at (arc_bytes (row_pairs u low)) (arc_bytes (row_pairs u high)))
            ∙ ap (sets before at) (sym (bytes_append (row_pairs u low) (row_pairs u high)) ∙ ap arc_bytes (sym pairs)),
      )
        where
          place : next ≡ at + length (arc_bytes (row_pairs u low))
          place = omega (arith, bytes_length (row_pairs u low), row_length u low)

          pairs : row_pairs u row ≡ row_pairs u low ++ row_pairs u high
          pairs =
              ap (map {B = Arc} (λ v. (u, v))) (members_halves row low l high h)
              ∙ map-append (λ v. (u, v)) (members low) (members high)
