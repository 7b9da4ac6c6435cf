-- One node more in a row of trees: its height, where its last tree with one of the jobs stands, and what is met of them.
use Prim.Native.Nat.{ℕ, suc, ◌+◌, ◌-◌, ◌%◌, ◌≤◌, ◌<◌, min}
use mathlib.Core.Path.{◌≡◌, refl, sym, ap, subst, ◌∙◌}
use mathlib.Core.Bool.{Bool, true, false, ◌&&◌, ◌||◌, not, cond}
use mathlib.Core.List.{List, [], ◌∷◌, ◌++◌, flat_map, Memᴰ}
use mathlib.Core.Logic.{◌⊎◌, inl, inr, ⊎_elim}
use native.Mathlib.Omega.{arith}
use lib.Dec.{eqb, ltb}
use lib.ListN.{length, length-append}
use Rattle.poset.specs.Lists.{member, occurrences, ahead_in}
use Rattle.poset.specs.Tree.{Kind, Tree, leaf, node, Forest, leaves, trees}
use Rattle.poset.proofs.Laws.{decided, clash, false_unless, eqb-true, eqb_same, eqb_differ, or_cases, or_left, or_right}
use Rattle.poset.proofs.Laws.{any_append, member_mem, mem_member, mem_count, count_same, any_yes, any_not, flat_map_append}
use Rattle.poset.proofs.Ahead.{ahead_here, ahead_later, ahead_mem}
use Rattle.poset.proofs.Shape.{trees_leaves}
use Rattle.record.specs.Layout.{more_children}
use Rattle.record.specs.Tokens.{group_token}
use Rattle.record.proofs.Sizes.{kind_below, trees_length}
use Rattle.reader.specs.Nodes.{Step, one_leaf, one_group, Fits}
use Rattle.reader.proofs.Pending.{children_row, row_length, step_fits, few_children}
use Rattle.reason.specs.Rows.{met, mark_of, mark_number, marked, low_of, Rowed}
use Rattle.reason.specs.declared.seeking.Row.{Row}

-- the mark by its tests: the first is there, the second is, they are one, the first is ahead
abbrev mark : Bool → Bool → Bool → Bool → ℕ
mark a b same ahead = cond a (cond b (cond same 1 (cond ahead 2 3)) 5) (cond b 6 7)

mark_by
    : (a b same ahead : Bool) {a' b' same' ahead' : Bool} → a ≡ a' → b ≡ b' → same ≡ same' → ahead ≡ ahead'
    → mark a b same ahead ≡ mark a' b' same' ahead'
mark_by a b same ahead {a'} {b'} {same'} p q r s =
    ap (λ (x : Bool). mark x b same ahead) p
    ∙ ap (λ (x : Bool). mark a' x same ahead) q
    ∙ ap (λ (x : Bool). mark a' b' x ahead) r
    ∙ ap (mark a' b' same') s

none_by : (a b same ahead : Bool) → eqb (mark a b same ahead) 7 ≡ not (a || b)
none_by true true true ahead = refl
none_by true true false true = refl
none_by true true false false = refl
none_by true false same ahead = refl
none_by false true same ahead = refl
none_by false false same ahead = refl

both_by : (a b same ahead : Bool) → ltb (mark a b same ahead) 4 ≡ (a && b)
both_by true true true ahead = refl
both_by true true false true = refl
both_by true true false false = refl
both_by true false same ahead = refl
both_by false true same ahead = refl
both_by false false same ahead = refl

first_by : (b same ahead : Bool) → mark true b false b ≡ cond (eqb (mark false b same ahead) 6) 2 5
first_by true same ahead = refl
first_by false same ahead = refl

second_by : (a same ahead : Bool) → mark a true false false ≡ cond (eqb (mark a false same ahead) 5) 3 6
second_by true same ahead = refl
second_by false same ahead = refl

module _ (u v : ℕ) where
  pub mark_none : (js : List ℕ) → eqb (mark_of u v js) 7 ≡ not (met u v js)
  mark_none js = none_by (member u js) (member v js) (eqb u v) (ahead_in u v js)

  pub mark_both : (js : List ℕ) → ltb (mark_of u v js) 4 ≡ (member u js && member v js)
  mark_both js = both_by (member u js) (member v js) (eqb u v) (ahead_in u v js)

  -- one job more ahead, which is not there yet
  module _ (j : ℕ) (js : List ℕ) (once : occurrences j (j ∷ js) ≤ 1) where
    new : (w : ℕ) → w ≡ j → member w js ≡ false
    new w e =
        false_unless (member w js)
        (λ h. omega (arith, mem_count (subst (λ (x : ℕ). Memᴰ x js) e (member_mem w js h)), count_same j j js refl, once))

    there : (w : ℕ) → eqb w j ≡ true → member w (j ∷ js) ≡ true
    unfolding member
    there w e = any_yes (eqb w) j js e

    elsewhere : (w : ℕ) → eqb w j ≡ false → member w (j ∷ js) ≡ member w js
    unfolding member
    elsewhere w e = any_not (eqb w) j js e

    apart : (a b : ℕ) → eqb a j ≡ true → eqb b j ≡ false → (a ≡ b) → ⊥
    apart a b p q e = clash (subst (λ (x : ℕ). eqb x j ≡ true) e p) q

    one : eqb u j ≡ true → eqb v j ≡ true → eqb u v ≡ true
    one p q = subst (λ (x : ℕ). eqb u x ≡ true) (eqb-true u j p ∙ sym (eqb-true v j q)) (eqb_same u)

    behind : eqb v j ≡ true → ahead_in u v js ≡ false
    behind q = false_unless (ahead_in u v js) (λ h. clash (mem_member (ahead_mem u v js h)) (new v (eqb-true v j q)))

    abbrev now : {a b same ahead : Bool} → member u (j ∷ js) ≡ a → member v (j ∷ js) ≡ b → eqb u v ≡ same → ahead_in u v (j ∷ js) ≡ ahead
        → mark_of u v (j ∷ js) ≡ mark a b same ahead
    now = mark_by (member u (j ∷ js)) (member v (j ∷ js)) (eqb u v) (ahead_in u v (j ∷ js))

    abbrev was : {a b : Bool} → member u js ≡ a → member v js ≡ b → mark a b (eqb u v) (ahead_in u v js) ≡ mark_of u v js
    was p q = sym (mark_by (member u js) (member v js) (eqb u v) (ahead_in u v js) p q refl refl)

    pub mark_more : mark_of u v (j ∷ js) ≡ marked u v j (mark_of u v js)
    mark_more = by (decided (eqb u j)) (decided (eqb v j))
      where
        by : (eqb u j ≡ true) ⊎ (eqb u j ≡ false) → (eqb v j ≡ true) ⊎ (eqb v j ≡ false) → mark_of u v (j ∷ js) ≡ marked u v j (mark_of u v js)
        by (inl p) (inl q) = rw (p, q) (now (there u p) (there v q) (one p q) refl)
        by (inl p) (inr q) =
            rw (p, q)
            (now (there u p) (elsewhere v q) (eqb_differ u v (apart u v p q)) (ahead_here u v j js p)
            ∙ first_by (member v js) (eqb u v) (ahead_in u v js)
            ∙ ap (λ (m : ℕ). cond (eqb m 6) 2 5) (was (new u (eqb-true u j p)) refl))
        by (inr p) (inl q) =
            rw (p, q)
            (now (elsewhere u p) (there v q) (eqb_differ u v (λ e. apart v u q p (sym e))) (ahead_later u v j js p ∙ behind q)
            ∙ second_by (member u js) (eqb u v) (ahead_in u v js)
            ∙ ap (λ (m : ℕ). cond (eqb m 5) 3 6) (was refl (new v (eqb-true v j q))))
        by (inr p) (inr q) = rw (p, q) (now (elsewhere u p) (elsewhere v q) refl (ahead_later u v j js p))

  -- the last tree with one of the jobs

  met_later : (xs ys : List ℕ) → met u v ys ≡ true → met u v (xs ++ ys) ≡ true
  unfolding member
  met_later xs ys h =
      rw (any_append (eqb u) xs ys, any_append (eqb v) xs ys)
      (⊎_elim
      (λ (e : member u ys ≡ true). or_left (member u xs || member u ys) _ (or_right (member u xs) _ e))
      (λ (e : member v ys ≡ true). or_right (member u xs || member u ys) _ (or_right (member v xs) _ e))
      (or_cases (member u ys) (member v ys) h))

  pub low_most : (ts : List Tree) → low_of u v ts ≤ length ts
  low_most [] = omega arith
  low_most (s ∷ ss) =
      ⊎_elim
      (λ (e : met u v (flat_map leaves ss) ≡ true). rw e (omega (arith, low_most ss)))
      (λ (e : met u v (flat_map leaves ss) ≡ false). rw e (omega arith))
      (decided (met u v (flat_map leaves ss)))

  pub low_kept : (xs rest : List Tree) → met u v (flat_map leaves rest) ≡ true → low_of u v (xs ++ rest) ≡ low_of u v rest
  low_kept [] rest h = refl
  low_kept (x ∷ xs) rest h =
      rw (ap (met u v) (flat_map_append leaves xs rest) ∙ met_later (flat_map leaves xs) (flat_map leaves rest) h) (low_kept xs rest h)

  pub low_above : (x : Tree) (xs rest : List Tree) → met u v (flat_map leaves rest) ≡ false → length rest < low_of u v (x ∷ xs ++ rest)
  low_above x [] rest h = rw h (omega arith)
  low_above x (y ∷ xs) rest h =
      ⊎_elim
      (λ (e : met u v (flat_map leaves (y ∷ xs ++ rest)) ≡ true). rw e (low_above y xs rest h))
      (λ (e : met u v (flat_map leaves (y ∷ xs ++ rest)) ≡ false). rw e (omega (arith, length-append xs rest)))
      (decided (met u v (flat_map leaves (y ∷ xs ++ rest))))

  low_group : (k : Kind) (t : Tree) (f : Forest) (rest : List Tree)
      → low_of u v (node k t f ∷ rest) ≡ min (low_of u v (t ∷ trees f ++ rest)) (suc (length rest))
  low_group k t f rest =
      ⊎_elim
      (λ (e : met u v (flat_map leaves rest) ≡ true). rw (e, low_kept (t ∷ trees f) rest e) (omega (arith, low_most rest)))
      (λ (e : met u v (flat_map leaves rest) ≡ false). rw e (omega (arith, low_above t (trees f) rest e)))
      (decided (met u v (flat_map leaves rest)))

leaf_in : (j : ℕ) (ts : List Tree) → Memᴰ j (flat_map leaves (leaf j ∷ ts))
unfolding leaves flat_map
leaf_in j ts = Memᴰ.head refl

-- a leaf more, and a group more

module _ (u v : ℕ) (row : Row) where
  pub leaf_rowed : (j : ℕ) (ts : List Tree) → Fits (leaf j ∷ ts) → Rowed u v ts row → (r : Row) → r.height ≡ row.height + 1
      → r.low ≡ cond (eqb (mark_number row.mark) 7) (row.height + 1) row.low → mark_number r.mark ≡ marked u v j (mark_number row.mark)
      → Rowed u v (leaf j ∷ ts) r
  unfolding leaves flat_map
  leaf_rowed j ts fits was r height low mark =
      record {
        height_is = omega (arith, was.height_is);
        low_is = low ∙ low_more;
        mark_is = mark ∙ ap (marked u v j) was.mark_is ∙ sym (mark_more u v j (flat_map leaves ts) (fits.once j));
      }
    where
      none : eqb (mark_number row.mark) 7 ≡ not (met u v (flat_map leaves ts))
      none = ap (λ (m : ℕ). eqb m 7) was.mark_is ∙ mark_none u v (flat_map leaves ts)

      low_more : cond (eqb (mark_number row.mark) 7) (row.height + 1) row.low ≡ low_of u v (leaf j ∷ ts)
      low_more =
          ⊎_elim
          (λ (e : met u v (flat_map leaves ts) ≡ true). rw (none ∙ ap not e, e) was.low_is)
          (λ (e : met u v (flat_map leaves ts) ≡ false). rw (none ∙ ap not e, e) (omega (arith, was.height_is)))
          (decided (met u v (flat_map leaves ts)))

  pub group_rowed : (k : Kind) (t : Tree) (f : Forest) (rest : List Tree) → Rowed u v (t ∷ trees f ++ rest) row
      → (more_children f ≤ row.height)
      × Rowed u v (node k t f ∷ rest)
      (record {
        height = row.height - more_children f;
        low = min row.low (row.height - more_children f);
        mark = row.mark;
      })
  unfolding leaves flat_map
  group_rowed k t f rest r =
      let size : row.height ≡ suc (more_children f + length rest) = omega (arith, r.height_is, length-append (trees f) rest, trees_length f) in (
        omega arith,
        record {
          height_is = omega arith;
          low_is = omega (arith, r.low_is, low_group u v k t f rest);
          mark_is = r.mark_is ∙ sym (ap (mark_of u v) (children_row leaves t f rest (trees_leaves f)));
        },
      )

-- any node, by its token

module _ (u v : ℕ) (row : Row) where
  pub row_few : (token : ℕ) (ts us : List Tree) → Step token ts us → Fits us → Rowed u v ts row → row.height ≤ 128
  row_few token ts us step fits r = omega (arith, r.height_is, row_length ts, (step_fits step fits).small.1)

  pub leaf_taken : (token : ℕ) (ts us : List Tree) → Step token ts us → Fits us → Rowed u v ts row → token < 256 → (r : Row) → r.height ≡ row.height + 1
      → r.low ≡ cond (eqb (mark_number row.mark) 7) (row.height + 1) row.low → mark_number r.mark ≡ marked u v token (mark_number row.mark)
      → Rowed u v us r
  leaf_taken token ts us (one_leaf j) fits was low = leaf_rowed u v row j ts fits was
  leaf_taken token ts us (one_group k t f) fits was low = absurd (omega arith)

  pub group_taken : (token : ℕ) (ts us : List Tree) → Step token ts us → Fits us → Rowed u v ts row → 256 ≤ token
      → (token % 128 ≤ row.height)
      × Rowed u v us
      (record {
        height = row.height - token % 128;
        low = min row.low (row.height - token % 128);
        mark = row.mark;
      })
  group_taken token ts us (one_leaf j) fits r high = absurd (omega (arith, fits.small.0 j (leaf_in j ts)))
  group_taken token ts us (one_group {rest} k t f) fits r high =
      let children : group_token k (more_children f) % 128 ≡ more_children f = omega (arith, kind_below k, few_children k t f rest fits) in
      rw children (group_rowed u v row k t f rest r)
