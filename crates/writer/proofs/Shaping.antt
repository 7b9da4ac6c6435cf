-- The loop that writes a tree: what holds at each turn, and at its ends.
use Prim.Native.Nat.{ℕ, zero, suc, ◌+◌, ◌-◌, ◌≤◌, ◌<◌}
use mathlib.Core.Path.{◌≡◌, refl, sym, ap, subst, ◌∙◌}
use mathlib.Core.List.{List, [], ◌∷◌, ◌++◌, map}
use mathlib.Core.Bool.{Bool}
use Rattle.std.specs.Prelude.{None, Some}
use mathlib.Core.Logic.{⊎_elim}
use native.Mathlib.Numerals.{add-one}
use native.Mathlib.Omega.{arith}
use lib.ListN.{length, length-map, take, drop, replicate, length-append, length-set, length-replicate}
use lib.Seq.{drop-set-lt}
use Rattle.poset.specs.Lists.{below}
use Rattle.poset.specs.Order.{Rel, Strict, HasN}
use Rattle.poset.specs.Tree.{leaves, reversed}
use Rattle.poset.specs.Decompose.{tree_of}
use Rattle.poset.specs.Inner.{Each}
use Rattle.poset.proofs.Laws.{found_or_none}
use Rattle.poset.proofs.Sums.{length_below}
use Rattle.poset.proofs.Telling.{tells_means}
use Rattle.poset.proofs.Theorems.{tree_of_means, tree_of_sound, tree_has_no_n}
use Rattle.relation.specs.Table.{members}
use Rattle.record.specs.Tokens.{group_token, tokens}
use Rattle.writer.specs.declared.stack.Entry.{Entry}
use Rattle.writer.specs.declared.tree.Shape.{Shape}
use Rattle.writer.specs.Parts.{lead, Taken, close_of}
use Rattle.writer.specs.Compared.{transpose, Tables}
use Rattle.writer.specs.Shapes.{no_shape, shape}
use Rattle.writer.specs.Stack.{jobs_of, spread_out, group_field_of}
use Rattle.writer.specs.Turns.{State, Grouped, Leafed}
use Rattle.writer.proofs.Stores.{stored, blank_next, whole_list}
use Rattle.writer.proofs.Worklist.{Pending, Todo, spread, todo_leaf, todo_group, todo_none, todo_all, GroupOf}
use Rattle.writer.proofs.Groups.{kind_of, splits_group}
use Rattle.writer.proofs.Leads.{lead_member, single}
use Rattle.writer.proofs.Roots.{alike, cut_count, cut_jobs}
use Rattle.writer.proofs.Entries.{EntryOk, Every, every_append, jobs_append, jobs_spread, length_spread, entries_few, pend}
use Rattle.writer.proofs.Entries.{pend_append, pend_spread, field_token, splits_each, spread_every, PartOk, laid_each, sets_of}

-- so much is written, and the sets on the stack are what is missing
pub record Shaping (n : ℕ) (r tied free : Rel) (w : Shape) (placed : ℕ) (es : List Entry) : Type 0 where
  pub fields_size : length w.fields ≡ 256
  pub forward_size : length w.forward ≡ 128
  pub reverse_size : length w.reverse ≡ 128
  pub every : Every n tied free es
  pub whole : placed + jobs_of (sets_of es) ≡ n
  pub groups_few : w.groups + 1 ≤ placed + length es
  pub count_is : w.count ≡ placed + w.groups
  pub fields_blank : drop w.count w.fields ≡ replicate (256 - w.count) 0
  pub forward_blank : drop placed w.forward ≡ replicate (128 - placed) 0
  pub reverse_blank : drop n w.reverse ≡ replicate (128 - n) 0
  pub todo : Todo n r (take w.count w.fields) (take placed w.forward) w.reverse w.groups (pend es)

-- the same under other names
pub shaping_same : (n : ℕ) (r tied free : Rel) {w w' : Shape} {k k' : ℕ} {es es' : List Entry} → w' ≡ w → k' ≡ k → es' ≡ es
    → Shaping n r tied free w k es → Shaping n r tied free w' k' es'
shaping_same n r tied free a b c = subst (λ (A : Type 0). A) (λ i. Shaping n r tied free (sym a i) (sym b i) (sym c i))

-- what is to do of the same lists under other names
todo_same : (n : ℕ) (r : Rel) {out out' fwd fwd' rev rev' : List ℕ} {g g' : ℕ} {ps ps' : List Pending} → out' ≡ out → fwd' ≡ fwd → rev' ≡ rev → g' ≡ g
    → ps' ≡ ps → Todo n r out fwd rev g ps → Todo n r out' fwd' rev' g' ps'
todo_same n r a b c d e = subst (λ (A : Type 0). A) (λ i. Todo n r (sym a i) (sym b i) (sym c i) (sym d i) (sym e i))

module _ {n : ℕ} {under tied free : Rel} (t : Tables n under tied free) (e : Entry) (d : State)
    (x : Shaping n (transpose under) tied free d.shape d.placed (e ∷ d.stack)) where
  abbrev r : Rel
  r = transpose under

  pub top_ok : EntryOk n tied free e × Every n tied free d.stack
  top_ok = x.every

  pub room : (length d.stack + length (members e.set) ≤ n) × (d.shape.count < 255) × (d.placed < n) × (d.shape.groups < 255)
  room =
      let some = top_ok.0.some in
      let low = entries_few n tied free d.stack top_ok.1 in
      let few = t.few in
      (omega (arith, x.whole), omega (arith, x.whole, x.count_is, x.groups_few), omega (arith, x.whole), omega (arith, x.whole, x.groups_few))

  -- a single job
  pub leaf_turn : {d' : State} → Leafed e d d' → Shaping n r tied free d'.shape d'.placed d'.stack
  leaf_turn l =
      let j = lead e.set in
      let one = single e.set l.one in
      let m = room in
      shaping_same n r tied free l.field l.one_job l.these
      (record {
        fields_size = length-set d.shape.fields d.shape.count j ∙ x.fields_size;
        forward_size = length-set d.shape.forward d.placed j ∙ x.forward_size;
        reverse_size = length-set d.shape.reverse e.start j ∙ x.reverse_size;
        every = top_ok.1;
        whole = omega (arith, x.whole, ap length one);
        groups_few = omega (arith, x.groups_few);
        count_is = omega (arith, x.count_is);
        fields_blank = blank_next d.shape.fields d.shape.count j 256 (omega (arith, m.1)) x.fields_blank;
        forward_blank = blank_next d.shape.forward d.placed j 128 (omega (arith, m.2, t.few)) x.forward_blank;
        reverse_blank = drop-set-lt n d.shape.reverse e.start j (omega (arith, top_ok.0.fits, top_ok.0.some)) ∙ x.reverse_blank;
        todo =
            todo_same n r
            (stored d.shape.fields d.shape.count j (omega (arith, m.1, x.fields_size)))
            (stored d.shape.forward d.placed j (omega (arith, m.2, x.forward_size, t.few)))
            refl refl refl
            (todo_leaf n r (take d.shape.count d.shape.fields) (take d.placed d.shape.forward) d.shape.reverse d.shape.groups j e.start (pend d.stack)
            (t.strict.irreflexive j (top_ok.0.small j (lead_member e.set top_ok.0.some)))
            (todo_same n r refl refl refl refl (ap (λ b. record { block = b; start = e.start } ∷ pend d.stack) (sym one)) x.todo));
      })

  -- a group of two parts or more
  module _ {parts : List (List ℕ)} {count : ℕ} {numbers numbers' : List ℕ}
      (cut : Taken (close_of e.series tied free) under e.series e.set parts count numbers numbers') (two : 2 ≤ count) where
    abbrev series : Bool
    series = e.series

    abbrev near : Rel
    near = close_of series tied free

    abbrev chosen : List (List ℕ)
    chosen = take count parts

    abbrev size : ℕ
    size = length (members e.set)

    long : length chosen ≡ count
    long = cut_count cut (omega (arith, top_ok.0.fits, t.few))

    parts_ok : Each (PartOk n near) chosen
    parts_ok =
        subst (Each (PartOk n near)) (sym cut.these)
        (laid_each series (PartOk n near) cut.found (splits_each n near under series cut.found e.set top_ok.0.small t.few cut.splits))

    group_here : GroupOf (kind_of series) r (members e.set) (map members chosen)
    group_here =
        subst (λ ps. GroupOf (kind_of series) r (members e.set) (map members ps)) (sym cut.these)
        (splits_group n r near under t.strict t.few series (alike t series) (λ u v. refl) cut.found e.set top_ok.0.small cut.splits)

    -- the field of the group, and its parts pending
    todo_parts : (ps : List (List ℕ)) → length ps ≡ count → GroupOf (kind_of series) r (members e.set) (map members ps)
        → Todo n r (take d.shape.count d.shape.fields ++ (group_token (kind_of series) (count - 1) ∷ [])) (take d.placed d.shape.forward) d.shape.reverse (suc d.shape.groups)
        (spread (kind_of series) e.start (map members ps) ++ pend d.stack)
    todo_parts [] l g = absurd (omega arith)
    todo_parts (b ∷ []) l g = absurd (omega arith)
    todo_parts (b ∷ c ∷ ps) l g =
        let few : count - 1 ≡ suc (length (map members ps)) = omega (arith, length-map ps members) in
        todo_same n r (ap (λ k. take d.shape.count d.shape.fields ++ (group_token (kind_of series) k ∷ [])) few) refl refl refl refl
        (todo_group n r (kind_of series) (take d.shape.count d.shape.fields) (take d.placed d.shape.forward) d.shape.reverse d.shape.groups e.start (members e.set)
        (members b) (members c) (map members ps) (pend d.stack) g x.todo)

    pub group_turn : {d' : State} → Grouped count parts e d d' → Shaping n r tied free d'.shape d'.placed d'.stack
    group_turn g =
        let field = group_field_of series (count - 1) in
        let jobs_same = cut_jobs cut in
        let m = room in
        let new = spread_out series e.start size chosen in
        let many = length_spread series e.start size chosen in
        shaping_same n r tied free g.field g.no_job g.these
        (record {
          fields_size = length-set d.shape.fields d.shape.count field ∙ x.fields_size;
          forward_size = x.forward_size;
          reverse_size = x.reverse_size;
          every =
              every_append n tied free new d.stack
              (spread_every n tied free series e.start size top_ok.0.fits chosen parts_ok (omega (arith, jobs_same)))
              top_ok.1;
          whole = omega (arith, jobs_append new d.stack, jobs_spread series e.start size chosen, jobs_same, x.whole);
          groups_few = omega (arith, x.groups_few, length-append new d.stack, many, long, two);
          count_is = omega (arith, x.count_is);
          fields_blank = blank_next d.shape.fields d.shape.count field 256 (omega (arith, m.1)) x.fields_blank;
          forward_blank = x.forward_blank;
          reverse_blank = x.reverse_blank;
          todo =
              todo_same n r
              (stored d.shape.fields d.shape.count field (omega (arith, m.1, x.fields_size))
              ∙ ap (λ k. take d.shape.count d.shape.fields ++ (k ∷ [])) (field_token series (count - 1)))
              refl refl (add-one d.shape.groups)
              (pend_append new d.stack ∙ ap (λ l. l ++ pend d.stack) (pend_spread series e.start size chosen jobs_same))
              (todo_parts chosen long group_here);
        })

-- zeros after some zeros
pub drop_replicate : (i m : ℕ) → drop {A = ℕ} i (replicate m 0) ≡ replicate (m - i) 0
drop_replicate zero m = let e : m ≡ m - 0 = omega arith in ap (λ k. replicate {A = ℕ} k 0) e
drop_replicate (suc i) zero = let e : 0 ≡ 0 - suc i = omega arith in ap (λ k. replicate {A = ℕ} k 0) e
drop_replicate (suc i) (suc m) =
    let e : m - i ≡ suc m - suc i = omega arith in
    drop_replicate i m ∙ ap (λ k. replicate {A = ℕ} k 0) e

-- all jobs on the stack: nothing is written
pub shape_start : (n : ℕ) (all : List ℕ) (flag : Bool) → n ≤ 128 → members all ≡ below n → (r tied free : Rel)
    → EntryOk n tied free (record { set = all; start = 0; series = flag })
    → Shaping n r tied free no_shape 0 (record { set = all; start = 0; series = flag } ∷ [])
shape_start n all flag few is_all r tied free ok =
    record {
      fields_size = length-replicate {A = ℕ} 256 0;
      forward_size = length-replicate {A = ℕ} 128 0;
      reverse_size = length-replicate {A = ℕ} 128 0;
      every = (ok, tt);
      whole = omega (arith, ap length is_all, length_below n);
      groups_few = omega arith;
      count_is = refl;
      fields_blank = refl;
      forward_blank = refl;
      reverse_blank = drop_replicate n 128;
      todo =
          todo_same n r refl refl refl refl (ap (λ b. record { block = b; start = 0 } ∷ []) is_all)
          (todo_all n r (replicate 128 0) (omega (arith, length-replicate {A = ℕ} 128 0)));
    }

-- nothing is left on the stack: the tree is written
pub shape_done : {n : ℕ} {under tied free : Rel} → Tables n under tied free → {w : Shape} {placed : ℕ}
    → Shaping n (transpose under) tied free w placed [] → Some w ≡ shape (tree_of n (transpose under))
shape_done {n = n} {under = under} t {w = w} {placed = placed} x =
    let r = transpose under in
    let (made, tells, spelt, ahead, back, number) = todo_none n r (take w.count w.fields) (take placed w.forward) w.reverse w.groups x.todo in
    let means = tells_means n r made tells in
    let all : placed ≡ n = omega (arith, x.whole) in
    let (ec, ef) = whole_list w.fields (tokens made) w.count 256 (omega (arith, x.count_is, x.groups_few)) (sym spelt) x.fields_blank in
    let (l, eo) = whole_list w.forward (leaves made) placed 128 (omega (arith, x.forward_size)) (sym ahead) x.forward_blank in
    let (m, er) = whole_list w.reverse (reversed made) n 128 (omega (arith, x.reverse_size)) back x.reverse_blank in
    let eg = sym number in
    (λ i. Some (record { fields = ef i; count = ec i; groups = eg i; forward = eo i; reverse = er i }))
    ∙ ap shape (sym (tree_of_means n r made means.0 means.1))

-- an N: no tree
pub no_tree : (n : ℕ) (r : Rel) → Strict n r → HasN n r → tree_of n r ≡ None
no_tree n r strict h =
    ⊎_elim
    (λ (t, e). absurd (tree_has_no_n n r (t, (tree_of_sound n r t strict e).0) h))
    (λ e. e)
    (found_or_none (tree_of n r))
