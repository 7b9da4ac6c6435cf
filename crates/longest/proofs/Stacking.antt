-- One node more on the stack of runs.
use Prim.Native.Nat.{ℕ, suc, ◌+◌, ◌-◌, ◌%◌, ◌≤◌, ◌<◌}
use mathlib.Core.Path.{◌≡◌, refl, sym, ap, subst}
use mathlib.Core.List.Memᴰ
use mathlib.Core.List.{List, [], ◌∷◌, ◌++◌, map, flat_map, map-append}
use native.Mathlib.Omega.{arith}
use lib.ListN.{length, set, length-append, length-map}
use Rattle.poset.specs.Lists.{occurrences}
use Rattle.poset.specs.Tree.{Kind, series, parallel, Tree, leaf, node, Forest, last, more, leaves, trees}
use Rattle.poset.proofs.Laws.{count_append, mem_count, count_mem}
use Rattle.poset.proofs.Shape.{trees_leaves}
use Rattle.record.specs.Layout.{most_hours, kind_bit, more_children}
use Rattle.record.proofs.Sizes.{kind_below, trees_length}
use Rattle.reader.specs.Nodes.{Step, one_leaf, one_group, Fits}
use Rattle.reader.specs.Parts.{alone}
use Rattle.reader.proofs.Pending.{row_length, few_children}
use Rattle.record.specs.Tokens.{group_token}
use Rattle.longest.specs.Longest.{WorkRun, joined_runs, longest}
use Rattle.longest.specs.Stack.{Entry, Entries, run_of, Beside, Joined, Stacked}
use Rattle.longest.specs.declared.stack.Stack.{Stack}
use Rattle.longest.proofs.Measures.{runs_small, runs_of_leaves}
use Rattle.longest.proofs.Entries.{entries_kept, entries_append, entry_put}

-- the run of a group is that of its children's runs
group_run : (hours : ℕ → ℕ) (k : Kind) (t : Tree) (f : Forest) → run_of k (map (longest hours) (t ∷ trees f)) ≡ longest hours (node k t f)
unfolding longest trees
group_run hours k t (last s) = refl
group_run hours k t (more s f) = ap (joined_runs k (longest hours t)) (group_run hours k s f)

module _ (hours : ℕ → ℕ) (w : Stack) where
  -- a leaf's run on top
  pub leaf_stacked : (j : ℕ) (ts : List Tree) → Fits (leaf j ∷ ts) → Stacked hours ts w
      → (j < 128) × (0 < w.top) × Stacked hours (leaf j ∷ ts) (record {
        top = w.top - 1;
        runs = set w.runs (w.top - 1) (record { total = hours j; first = j; last = j });
        next = w.next;
      })
  unfolding leaves longest flat_map
  leaf_stacked j ts fits s =
      let room : 0 < w.top = omega (arith, s.height, row_length ts, fits.small.1) in
      let place : w.top ≡ suc (w.top - 1) = omega arith in
      let (sized, entry, below) =
      entry_put w (w.top - 1) (w.top - 1) (hours j, j ∷ []) (record { total = hours j; first = j; last = j }) w.next s.sized
      (omega (arith, s.height)) s.sized.next_size (record { total_is = refl; strand = alone j }) in (
        fits.small.0 j (Memᴰ.head refl),
        room,
        record {
          sized = sized;
          height = omega (arith, s.height);
          entries = (
            entry,
            entries_kept (suc (w.top - 1)) (map (longest hours) ts) below
                (λ u. omega (arith, runs_of_leaves u hours ts, fits.once u, count_append u (j ∷ []) (flat_map leaves ts)))
                (λ u m. refl) (subst (λ (i : ℕ). Entries w i (map (longest hours) ts)) place s.entries),
          );
        },
      )

  -- the runs of a group's children, and then the group's in their place
  module _ (most : (u : ℕ) → hours u ≤ most_hours) (k : Kind) (t : Tree) (f : Forest) (rest : List Tree) (fits : Fits (node k t f ∷ rest))
      (s : Stacked hours (t ∷ trees f ++ rest) w) where
    abbrev children : List Tree
    children = t ∷ trees f

    abbrev end : ℕ
    end = w.top + more_children f

    children_leaves : flat_map leaves children ≡ leaves (node k t f)
    unfolding leaves flat_map
    children_leaves = ap (λ (l : List ℕ). leaves t ++ l) (trees_leaves f)

    parted : (u : ℕ) → occurrences u (flat_map leaves (node k t f ∷ rest)) ≡ occurrences u (flat_map leaves children) + occurrences u (flat_map leaves rest)
    unfolding flat_map
    parted u = omega (arith, count_append u (leaves (node k t f)) (flat_map leaves rest), ap (occurrences u) children_leaves)

    few : length (flat_map leaves children) ≤ 128
    unfolding flat_map
    few = omega (arith, fits.small.1, length-append (leaves (node k t f)) (flat_map leaves rest), ap length children_leaves)

    entries_of : Entries w w.top (map (longest hours) children) × Entries w (suc end) (map (longest hours) rest)
    entries_of =
        let (es, fs) =
        entries_append w w.top (map (longest hours) children) (map (longest hours) rest)
        (subst (Entries w w.top) (map-append (longest hours) children rest) s.entries) in
        let place : w.top + length (map (longest hours) children) ≡ suc end = omega (arith, length-map children (longest hours), trees_length f) in
        (es, subst (λ (i : ℕ). Entries w i (map (longest hours) rest)) place fs)

    pub children_beside : Beside (map (longest hours) children) end w
    children_beside =
        record {
          sized = s.sized;
          some = omega arith;
          last = omega (arith, length-map children (longest hours), trees_length f);
          inside = omega (arith, s.height, length-append (trees f) rest, trees_length f);
          entries = entries_of.0;
          once = λ u. omega (arith, runs_of_leaves u hours children, parted u, fits.once u);
          small = λ u m. fits.small.0 u (count_mem u _ (omega (arith, mem_count m, runs_of_leaves u hours children, parted u)));
          low = omega (arith, runs_small most_hours hours most children, few);
        }

    pub group_stacked : (v : Stack) → Joined k (map (longest hours) children) end w v → Stacked hours (node k t f ∷ rest) v
    group_stacked v j =
        record {
          sized = j.sized;
          height = omega (arith, j.top_is, s.height, length-append (trees f) rest, trees_length f);
          entries = (
            subst (Entry v v.top) (group_run hours k t f) (subst (λ (i : ℕ). Entry v i (run_of k (map (longest hours) children))) (sym j.top_is) j.entry),
            subst (λ (i : ℕ). Entries v (suc i) (map (longest hours) rest)) (sym j.top_is)
                (entries_kept (suc end) (map (longest hours) rest) j.below
                (λ u. omega (arith, runs_of_leaves u hours rest, parted u, fits.once u))
                (λ u m. j.next_same u λ i.
                omega (arith, mem_count m, mem_count i, runs_of_leaves u hours rest, runs_of_leaves u hours children, parted u, fits.once u))
                entries_of.1),
          );
        }

-- any node

-- what is seen of a group's token
abbrev pub IsGroup : Kind → ℕ → Type 0
IsGroup series token = (256 ≤ token) × (token < 384)
IsGroup parallel token = 384 ≤ token

module _ (hours : ℕ → ℕ) (most : (u : ℕ) → hours u ≤ most_hours) (w : Stack) where
  pub taken_leaf : (token : ℕ) → token < 256 → (ts us : List Tree) → Step token ts us → Fits us → Stacked hours ts w
      → (token < 128) × (0 < w.top) × Stacked hours us (record {
        top = w.top - 1;
        runs = set w.runs (w.top - 1) (record { total = hours token; first = token; last = token });
        next = w.next;
      })
  taken_leaf token l ts us (one_leaf j) fits s = leaf_stacked hours w j ts fits s
  taken_leaf token l ts us (one_group k t f) fits s = absurd (omega arith)

  -- the runs of a group's children, up to `end`, and what follows where they are joined there
  pub record Opened (k : Kind) (end : ℕ) (us : List Tree) : Type 0 where
    pub children : List WorkRun
    pub beside : Beside children end w
    pub closed : (v : Stack) → Joined k children end w v → Stacked hours us v

  opened : (k : Kind) (t : Tree) (f : Forest) (rest : List Tree) → Fits (node k t f ∷ rest) → Stacked hours (t ∷ trees f ++ rest) w
      → Opened k (w.top + group_token k (more_children f) % 128) (node k t f ∷ rest)
  opened k t f rest fits s =
      let few = few_children k t f rest fits in
      let end : w.top + more_children f ≡ w.top + group_token k (more_children f) % 128 = omega (arith, kind_below k) in
      subst (λ (e : ℕ). Opened k e (node k t f ∷ rest)) end (record {
        children = map (longest hours) (t ∷ trees f);
        beside = children_beside hours w most k t f rest fits s;
        closed = group_stacked hours w most k t f rest fits s;
      })

  pub taken_group : (k : Kind) (token : ℕ) → IsGroup k token → (ts us : List Tree) → Step token ts us → Fits us → Stacked hours ts w
      → Opened k (w.top + token % 128) us
  unfolding leaves kind_bit flat_map
  taken_group series token g ts us (one_leaf j) fits s = absurd (omega (arith, g.0, fits.small.0 j (Memᴰ.head refl)))
  taken_group parallel token g ts us (one_leaf j) fits s = absurd (omega (arith, g, fits.small.0 j (Memᴰ.head refl)))
  taken_group series token g ts us (one_group {rest} series t f) fits s = opened series t f rest fits s
  taken_group series token g ts us (one_group {rest} parallel t f) fits s = absurd (omega (arith, g.1))
  taken_group parallel token g ts us (one_group {rest} series t f) fits s =
      absurd (omega (arith, g, few_children series t f rest fits))
  taken_group parallel token g ts us (one_group {rest} parallel t f) fits s = opened parallel t f rest fits s
