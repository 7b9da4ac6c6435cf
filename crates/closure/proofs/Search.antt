-- The search from a job: what holds at each of its steps.
use Prim.Native.Nat.{ℕ, ◌+◌, ◌-◌, ◌*◌, ◌^◌, ◌≤◌, ◌<◌}
use native.Mathlib.Omega.{arith}
use mathlib.Core.Path.{◌≡◌, sym, ◌∙◌}
use mathlib.Core.List.{List}
use mathlib.Core.Bool.{true, false, ◌&&◌, ◌||◌, not}
use lib.Dec.{eqb}
use lib.ListN.{length, get_or, set}
use Rattle.poset.specs.Lists.{exists, below}
use Rattle.poset.specs.Order.{Rel}
use Rattle.poset.proofs.Laws.{clash, false_unless, and_left, and_right, and_intro, any_found, any_miss, below_mem}
use Rattle.relation.specs.Table.{has, members, Greatest}
use Rattle.closure.specs.Rows.{Rows, Cyclic}
use Rattle.closure.proofs.Onward.{joins_small}
use Rattle.closure.proofs.Waiting.{Way, members_small, members_but, way_none, way_here, way_room, way_cycle, way_known, way_push, way_pop}

-- the rows made so far: a job that is left is one of 128, and the joins of one row more do not overflow
module _ {r : Rel} {made : List (List ℕ)} {left : List ℕ} {joins : ℕ} (rows : (n : ℕ) × Rows n r made left joins) where
  pub rows_job : (u : ℕ) → has left u ≡ true → u < 128
  rows_job u h = let (n, p) = rows in omega (arith, p.jobs u h, p.small)

  pub rows_room : (own : List ℕ) → joins + length (members own) < 2 ^ 64
  rows_room own = let (n, p) = rows in omega (arith, p.counted, joins_small n r p.small left, members_small own)

-- the rows made so far, and the jobs that wait on the stack
pub record Searching (r : Rel) (made₀ : List (List ℕ)) (left₀ : List ℕ) (joins₀ : ℕ)
    (made : List (List ℕ)) (stack left met : List ℕ) (joins at depth : ℕ) : Type 0
  where
    pub size : length made ≡ 128
    pub fewer : length (members left) ≤ length (members left₀)
    pub way : Way r stack left met at depth
    pub rows : (n : ℕ) → Rows n r made₀ left₀ joins₀ → Rows n r made left joins

-- the steps that are left: one on to a job, or one back with a job less left
abbrev pub remaining : List ℕ → ℕ → ℕ
remaining left depth = 2 * length (members left) - depth

module _ (r : Rel) (made : List (List ℕ)) (left : List ℕ) (joins : ℕ) where
  pub search_none
      : (stack met : List ℕ) (u : ℕ) → length made ≡ 128 → length stack ≡ 128 → has left u ≡ true → ((x : ℕ) → has met x ≡ false)
      → Searching r made left joins made stack left met joins u 0
  search_none stack met u size room here none =
      record { size = size; fewer = omega arith; way = way_none r stack left met u room here none; rows = λ n p. p }

module _ {r : Rel} {made₀ : List (List ℕ)} {left₀ : List ℕ} {joins₀ : ℕ} {made : List (List ℕ)} {stack left met : List ℕ} {joins at depth : ℕ}
    (start : (n : ℕ) × Rows n r made₀ left₀ joins₀) (s : Searching r made₀ left₀ joins₀ made stack left met joins at depth)
  where
    pub search_here : has left at ≡ true
    search_here = way_here r stack left met at depth s.way

    pub search_rows : (n : ℕ) × Rows n r made left joins
    search_rows = let (n, p) = start in (n, s.rows n p)

    job : (u : ℕ) → has left u ≡ true → u < 128
    job = rows_job search_rows

    pub search_at : at < 128
    search_at = job at search_here

    deep : depth < length (members left)
    deep = way_room r stack left met at depth s.way job

    pub search_depth : depth < 128
    search_depth = omega (arith, deep, members_small left)

    -- a step on
    pub push_less : remaining left (depth + 1) < remaining left depth
    push_less = omega (arith, deep)

    module _ (own next : List ℕ) (mine : (x : ℕ) → has own x ≡ r at x) (both : (x : ℕ) → has next x ≡ (has own x && has left x)) where
      -- arcs lead on
      arc_on : (v : ℕ) → has next v ≡ true → (r at v ≡ true) × (has left v ≡ true)
      arc_on v h =
          let e = sym (both v) ∙ h in
          (sym (mine v) ∙ and_left (has own v) _ e, and_right (has own v) _ e)

      module _ (met' : List ℕ) (more : (x : ℕ) → has met' x ≡ (has met x || eqb at x))
          (back : List ℕ) (meet : (x : ℕ) → has back x ≡ (has next x && has met' x))
        where
          -- one of them back to a job on the way: a cycle
          pub search_cycle : exists (has back) (below 128) ≡ true → (n : ℕ) → Rows n r made₀ left₀ joins₀ → Cyclic n r
          search_cycle some n p =
              let f = any_found (has back) (below 128) some in
              let e = sym (meet f.0) ∙ f.2 in
              let (a, h) = arc_on f.0 (and_left (has next f.0) _ e) in
              let (i, l, c) = way_known r stack left met at depth s.way met' more f.0 (and_right (has next f.0) _ e) h in
              way_cycle r stack left met at depth s.way n p.inside f.0 a i l c

          -- none: the search goes on to one of their jobs
          module _ (none : exists (has back) (below 128) ≡ false) where
            pub search_push
                : (v : ℕ) → Greatest next v → Searching r made₀ left₀ joins₀ made (set stack depth at) left met' joins v (depth + 1)
            search_push v greatest =
                let (a, h) = arc_on v greatest.member in
                record {
                  size = s.size;
                  fewer = s.fewer;
                  way = way_push r stack left met at depth s.way met' more v h a fresh search_depth;
                  rows = s.rows;
                }
              where
                fresh : has met' v ≡ false
                fresh =
                    false_unless _ λ e.
                    clash (meet v ∙ and_intro _ _ greatest.member e) (any_miss (has back) (below 128) none (below_mem greatest.small))

      -- none does: all that they lead to is finished
      pub search_last : exists (has next) (below 128) ≡ false → (v : ℕ) → r at v ≡ true → has left v ≡ false
      search_last last v h =
          false_unless _ λ e. clash (both v ∙ and_intro _ _ (mine v ∙ h) e) (any_miss (has next) (below 128) last (below_mem (job v e)))

    -- the row is finished, and its job leaves
    module _ (left' : List ℕ) (but : (x : ℕ) → has left' x ≡ (has left x && not (eqb at x))) where
      fewer_left : length (members left') < length (members left)
      fewer_left = members_but left left' at search_at search_here but

      -- a step back
      pub leave_less : (d : ℕ) → depth ≡ d + 1 → remaining left' d < remaining left depth
      leave_less d e = omega (arith, fewer_left, deep)

      pub search_less : length (members left') < length (members left₀)
      search_less = omega (arith, s.fewer, fewer_left)

      module _ (made' : List (List ℕ)) (size : length made' ≡ 128) (joins' : ℕ)
          (finished : (n : ℕ) → Rows n r made left joins → Rows n r made' left' joins')
        where
          pub search_made : (n : ℕ) → Rows n r made₀ left₀ joins₀ → Rows n r made' left' joins'
          search_made n p = finished n (s.rows n p)

          pub search_pop : (d : ℕ) → depth ≡ d + 1 → Searching r made₀ left₀ joins₀ made' stack left' met joins' (get_or stack d 0) d
          search_pop d e =
              record {
                size = size;
                fewer = omega (arith, s.fewer, fewer_left);
                way = way_pop r stack left met at depth s.way left' but d e;
                rows = search_made;
              }
