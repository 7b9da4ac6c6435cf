-- From place to place: a group is opened, a child is done, the next begins, the group around is gone on with.
use Prim.Native.Nat.{ℕ, suc, ◌+◌, ◌≤◌, ◌<◌, max}
use mathlib.Core.Path.{◌≡◌, refl, sym, ap, subst, ◌∙◌}
use mathlib.Core.List.{List, [], ◌∷◌, ◌++◌, flat_map, append_assoc, Memᴰ}
use native.Mathlib.Omega.{arith}
use lib.ListN.{length, get_or, set, length-set}
use lib.Seq.{get_or-set_same, get_or-set_other}
use Rattle.poset.specs.Lists.{occurrences, sum}
use Rattle.poset.specs.Tree.{Kind, series, parallel, Tree, leaf, node, Forest, last, more, trees, leaves, forest_leaves, groups, forest_groups}
use Rattle.poset.proofs.Laws.{count_append, mem_count}
use Rattle.record.specs.Layout.{more_children}
use Rattle.record.specs.Tokens.{tokens, Small}
use Rattle.record.proofs.Sizes.{small_left, small_right, trees_length}
use Rattle.record.proofs.Tokens.{children_few}
use Rattle.gangs.specs.Gangs.{joined_gangs, gangs_from, gang_count, forest_gang_count, gang, forest_gang}
use Rattle.gangs.specs.Places.{Groups, Open, kind_of, start_of, Numbers, Rest, Around, no_group, Holds, AllHeld, to_come, groups_to_come}
use Rattle.gangs.specs.Places.{InGroup, Done, Begun, At, begins, ended, NextChild, Outer}
use Rattle.gangs.specs.declared.numbering.Group.{Group}
use Rattle.gangs.proofs.Fewest.{gang_left, gang_right}

-- the groups of a forest, tree by tree
trees_groups : (f : Forest) → sum groups (trees f) ≡ forest_groups f
unfolding trees groups
trees_groups (last t) = omega arith
trees_groups (more t f) = omega (arith, trees_groups f)

-- where the gangs of the next child begin, and where those of a group end

start_same : (k : Kind) (at : ℕ) → start_of k at at ≡ at
start_same series at = refl
start_same parallel at = refl

start_next : (k : Kind) (at end c : ℕ)
    → start_of k at end + gangs_from k c ≡ start_of k (start_of k at end) (max end (start_of k at end + c))
unfolding gangs_from
start_next series at end c = omega arith
start_next parallel at end c = omega arith

end_next : (k : Kind) (at end c d : ℕ) → let b = start_of k at end in
    max end (b + joined_gangs k c d) ≡ max (max end (b + c)) (start_of k b (max end (b + c)) + d)
unfolding joined_gangs
end_next series at end c d = omega arith
end_next parallel at end c d = omega arith

-- the children to come have their gangs from there on
module _ (t : Tree) (k : Kind) (after : ℕ → Type 0) where
  forest_due : (f : Forest) (at end : ℕ) → ((u : ℕ) → occurrences u (forest_leaves f) ≤ 1) → Small (forest_leaves f)
      → ((u : ℕ) → Memᴰ u (forest_leaves f) → gang t u ≡ start_of k at end + forest_gang k f u)
      → after (max end (start_of k at end + forest_gang_count k f)) → Rest t k after at end (trees f)
  unfolding trees leaves gang_count gang
  forest_due (last s) at end once small each close = (record { once = once; small = small; each = each }, close)
  forest_due (more s f) at end once small each close =
      let b = start_of k at end in
      let c = gang_count s in (
        record {
          once = λ u. omega (arith, once u, count_append u (leaves s) (forest_leaves f));
          small = small_left (leaves s) (forest_leaves f) small;
          each = λ u m. each u (mathlib.Core.List.Memᴰ.append_left (forest_leaves f) m) ∙ ap (λ (x : ℕ). b + x) (gang_left k s f u m);
        },
        forest_due f b (max end (b + c)) (λ u. omega (arith, once u, count_append u (leaves s) (forest_leaves f)))
            (small_right (leaves s) (forest_leaves f) small)
            (λ u m.
            let apart : Memᴰ u (leaves s) → ⊥ = λ i. omega (arith, once u, count_append u (leaves s) (forest_leaves f), mem_count i, mem_count m) in
            omega (arith, each u (mathlib.Core.List.Memᴰ.append_right (leaves s) m), gang_right k s f u apart, start_next k at end c))
            (subst after (end_next k at end c (forest_gang_count k f)) close),
      )

-- the next child begins

pub next_held : (g r : Group) (o : Open) (s : Tree) (ss : List Tree) → Holds g o → o.rest ≡ s ∷ ss → NextChild g r
    → Holds r (record { kind = o.kind; at = start_of o.kind o.at o.end; end = o.end; rest = ss })
next_held g r o s ss h e n =
    let longer : length o.rest ≡ suc (length ss) = ap length e in
    record {
      kind_is = ap kind_of n.kind_is ∙ h.kind_is;
      coming_is = omega (arith, n.coming_is, h.coming_is);
      at_is = n.at_is ∙ rw (h.kind_is, h.at_is, h.end_is);
      end_is = n.end_is ∙ h.end_is;
    }

module _ (t : Tree) (w : Groups) where
  next_begins : (o : Open) (os : List Open) (r : Group) → Done t w o os → 0 < w.present.coming → NextChild w.present r
      → At t (record { present = r; depth = w.depth; around = w.around }) (to_come (o ∷ os))
  unfolding flat_map
  next_begins o os r d some n = go o.rest refl
    where
      go : (ss : List Tree) → o.rest ≡ ss → At t (record { present = r; depth = w.depth; around = w.around }) (to_come (o ∷ os))
      go [] e = absurd (omega (arith, d.group.present.coming_is, ap length e))
      go (s ∷ ss) e =
          let g = d.group in
          let k = o.kind in
          let start = start_of k o.at o.end in
          let due : Rest t k (Around t os) o.at o.end (s ∷ ss) = subst (Rest t k (Around t os) o.at o.end) e d.coming in
          let sums : sum groups o.rest ≡ groups s + sum groups ss = ap (sum groups) e in
          let shallow = g.shallow in
          begins s (record { kind = k; at = start; end = o.end; rest = ss }) os
          (record {
            group =
                record {
                  sized = g.sized;
                  held = g.held;
                  depth_is = g.depth_is;
                  present = next_held w.present r o s ss g.present e n;
                  shallow = omega arith;
                };
            numbers = due.0;
            coming = due.1;
            shallow = omega arith;
          })
          (ap (λ (l : List Tree). flat_map tokens l ++ to_come os) e ∙ append_assoc (tokens s) (flat_map tokens ss) (to_come os))

-- the groups that are done are left, one by one

pub record Gone (t : Tree) (w : Groups) (o : Open) (os : List Open) : Type 0 where
  pub group : Open
  pub around : List Open
  pub done : Done t w group around
  pub same : to_come (o ∷ os) ≡ to_come (group ∷ around)

pub gone_none : (t : Tree) (w : Groups) (o : Open) (os : List Open) → Done t w o os → Gone t w o os
gone_none t w o os d = record { group = o; around = os; done = d; same = refl }

-- the group around one that is done is gone on with; or there is none
module _ (t : Tree) (w : Groups) (o : Open) (os : List Open) (d : Done t w o os) (none : w.present.coming ≡ 0) where
  g : InGroup w o os
  g = d.group

  empty : o.rest ≡ []
  empty = go o.rest (sym g.present.coming_is ∙ none)
    where
      go : (ss : List Tree) → length ss ≡ 0 → ss ≡ []
      go [] e = refl
      go (s ∷ ss) e = absurd (omega arith)

  over : Around t os o.end
  over = subst (Rest t o.kind (Around t os) o.at o.end) empty d.coming

  gone : to_come (o ∷ os) ≡ to_come os
  unfolding flat_map
  gone = ap (λ (l : List Tree). flat_map tokens l ++ to_come os) empty

  all_left : w.depth ≡ 0 → At t w (to_come (o ∷ os))
  unfolding flat_map
  all_left z = go os refl
    where
      go : (qs : List Open) → os ≡ qs → At t w (to_come (o ∷ os))
      go [] e = ended (g.present.end_is ∙ subst (λ (l : List Open). Around t l o.end) e over) (gone ∙ ap to_come e)
      go (q ∷ qs) e = absurd (omega (arith, g.depth_is, ap length e))

  one_left : (v : Groups) → (w.depth ≡ 0 → ⊥) → Outer w v → Gone t v o os
  unfolding flat_map
  one_left v some n = go os refl
    where
      go : (qs : List Open) → os ≡ qs → Gone t v o os
      go [] e = absurd (some (g.depth_is ∙ ap length e))
      go (q ∷ qs) e =
          let held : AllHeld w.around (q ∷ qs) = subst (AllHeld w.around) e g.held in
          let come : groups_to_come os ≡ sum groups q.rest + groups_to_come qs = ap groups_to_come e in
          let longer = ap length e in
          let here : v.depth ≡ length qs = omega (arith, n.depth_is, g.depth_is) in
          let up : Holds (get_or w.around v.depth no_group) q = subst (λ (i : ℕ). Holds (get_or w.around i no_group) q) (sym here) held.0 in
          record {
            group = record { kind = q.kind; at = q.at; end = max q.end o.end; rest = q.rest };
            around = qs;
            done =
                record {
                  group =
                      record {
                        sized = ap length n.around_is ∙ g.sized;
                        held = subst (λ (l : List Group). AllHeld l qs) (sym n.around_is) held.1;
                        depth_is = here;
                        present =
                            record {
                              kind_is = ap kind_of n.kind_is ∙ up.kind_is;
                              coming_is = n.coming_is ∙ up.coming_is;
                              at_is = n.at_is ∙ up.at_is;
                              end_is = omega (arith, n.end_is, up.end_is, g.present.end_is);
                            };
                        shallow = omega (arith, g.shallow);
                      };
                  coming = subst (λ (l : List Open). Around t l o.end) e over;
                };
            same = gone ∙ ap to_come e;
          }

module _ (t : Tree) (w : Groups) (o : Open) (os : List Open) (g : Gone t w o os) where
  pub gone_ended : w.present.coming ≡ 0 → w.depth ≡ 0 → At t w (to_come (o ∷ os))
  gone_ended none z = subst (At t w) (sym g.same) (all_left t w g.group g.around g.done none z)

  pub gone_out : (v : Groups) → w.present.coming ≡ 0 → (w.depth ≡ 0 → ⊥) → Outer w v → Gone t v o os
  gone_out v none some n =
      let x = one_left t w g.group g.around g.done none v some n in
      record { group = x.group; around = x.around; done = x.done; same = g.same ∙ x.same }

  pub gone_next : (r : Group) → (w.present.coming ≡ 0 → ⊥) → NextChild w.present r
      → At t (record { present = r; depth = w.depth; around = w.around }) (to_come (o ∷ os))
  gone_next r some n =
      subst (At t (record { present = r; depth = w.depth; around = w.around })) (sym g.same)
      (next_begins t w g.group g.around r g.done (omega (arith, some)) n)

  pub gone_shallow : w.depth ≤ 128
  gone_shallow = omega (arith, g.done.group.depth_is, g.done.group.shallow)

-- a leaf is done
pub leaf_done : (t : Tree) (w : Groups) (j : ℕ) (o : Open) (os : List Open) → Begun t w (leaf j) o os → (r : Group)
    → r.kind ≡ w.present.kind → r.coming ≡ w.present.coming → r.at ≡ w.present.at → r.end ≡ max w.present.end (w.present.at + 1)
    → Done t (record { present = r; depth = w.depth; around = w.around }) (record { kind = o.kind; at = o.at; end = max o.end (o.at + 1); rest = o.rest }) os
unfolding gang_count
leaf_done t w j o os b r kind coming at end =
    let g = b.group in
    record {
      group =
          record {
            sized = g.sized;
            held = g.held;
            depth_is = g.depth_is;
            present =
                record {
                  kind_is = ap kind_of kind ∙ g.present.kind_is;
                  coming_is = coming ∙ g.present.coming_is;
                  at_is = at ∙ g.present.at_is;
                  end_is = omega (arith, g.present.at_is, g.present.end_is);
                };
            shallow = g.shallow;
          };
      coming = b.coming;
    }

-- a group is opened

held_kept : (gs : List Group) (i : ℕ) (a : Group) (os : List Open) → length os ≤ i → AllHeld gs os → AllHeld (set gs i a) os
held_kept gs i a [] l s = tt
held_kept gs i a (o ∷ os) l s = (
  subst (λ (x : Group). Holds x o) (sym (get_or-set_other gs i (length os) a no_group (λ q. omega arith))) s.0,
  held_kept gs i a os (omega arith) s.1,
)

module _ (t : Tree) (w : Groups) (k : Kind) (s : Tree) (f : Forest) (o : Open) (os : List Open) (b : Begun t w (node k s f) o os) where
  abbrev pub within : Open
  within = record { kind = k; at = o.at; end = o.at; rest = trees f }

  pub few_children : more_children f < 128
  unfolding leaves
  few_children = children_few s f b.numbers.small

  pub room : w.depth < 128
  unfolding groups
  room = omega (arith, b.group.depth_is, b.shallow)

  pub group_begins : (r : Group) → kind_of r.kind ≡ k → r.coming ≡ more_children f → r.at ≡ w.present.at → r.end ≡ w.present.at
      → Begun t (record { present = r; depth = w.depth + 1; around = set w.around w.depth w.present }) s within (o ∷ os)
  unfolding groups gang gang_count leaves trees
  group_begins r kind coming at end =
      let g = b.group in
      let around : List Group = set w.around w.depth w.present in
      let come = trees_groups f in
      let long = trees_length f in
      let same = start_same k o.at in
      let due : Rest t k (Around t (o ∷ os)) o.at o.at (s ∷ trees f) =
      forest_due t k (Around t (o ∷ os)) (more s f) o.at o.at b.numbers.once b.numbers.small
      (λ u i. b.numbers.each u i ∙ ap (λ (x : ℕ). x + gang (node k s f) u) (sym same))
      (subst (Around t (o ∷ os)) (omega (arith, same)) b.coming) in
      record {
        group =
            record {
              sized = length-set w.around w.depth w.present ∙ g.sized;
              held = (
                subst (λ (i : ℕ). Holds (get_or around i no_group) o) g.depth_is
                    (subst (λ (x : Group). Holds x o) (sym (get_or-set_same w.around w.depth w.present no_group (omega (arith, room, g.sized)))) g.present),
                held_kept w.around w.depth w.present os (omega (arith, g.depth_is)) g.held,
              );
              depth_is = omega (arith, g.depth_is);
              present = record { kind_is = kind; coming_is = coming ∙ sym long; at_is = at ∙ g.present.at_is; end_is = end ∙ g.present.at_is };
              shallow = omega (arith, b.shallow);
            };
        numbers = subst (λ (x : ℕ). Numbers t x s) same due.0;
        coming = subst (λ (x : ℕ). Rest t k (Around t (o ∷ os)) x (max o.at (x + gang_count s)) (trees f)) same due.1;
        shallow = omega (arith, b.shallow);
      }
