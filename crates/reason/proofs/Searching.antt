-- The nodes taken from the last to the first: the first node that is over both jobs is the lowest one.
use Prim.Native.Nat.{ℕ, zero, suc, ◌-◌, ◌≤◌, ◌<◌}
use mathlib.Core.Path.{◌≡◌, refl, sym, ap, subst, ◌∙◌}
use mathlib.Core.Bool.{Bool, true, false, ◌&&◌, ◌||◌, cond}
use mathlib.Core.List.{List, [], ◌∷◌, ◌++◌, flat_map, append-nil, append_assoc, Memᴰ}
use mathlib.Core.Logic.{◌⊎◌, inl, inr, ⊎_elim}
use Rattle.std.specs.Prelude.{Some}
use Rattle.std.proofs.lemmas.Option.{same_Some}
use borrow.Author.Tests.{eq-eqb, ne_eqb}
use native.Mathlib.Decide.{dec_lt}
use native.Mathlib.Omega.{arith}
use lib.Dec.{eqb, ltb}
use lib.ListN.{length, get_or, drop, take-append-drop, length-drop, length-append}
use Rattle.std.specs.Prelude.{slice_get}
use lib.Seq.{drop-append-le}
use Rattle.poset.specs.Lists.{exists, member, ahead_in}
use Rattle.poset.specs.Order.{Rel}
use Rattle.poset.specs.Tree.{series, parallel, Tree, leaf, node, more, leaves, precedes}
use Rattle.poset.proofs.Laws.{clash, false_unless, and_left, and_right, and_intro, or_cases, or_left, or_right}
use Rattle.poset.proofs.Laws.{lt_true, ltb-true, any_append, member_mem, count_append, mem_count}
use Rattle.poset.proofs.Ahead.{ahead_left}
use Rattle.poset.proofs.Meaning.{spans_holds, means_fits}
use Rattle.poset.proofs.Shape.{Good, trees_row}
use Rattle.record.specs.Layout.{kind_bit}
use Rattle.record.specs.Tokens.{tokens, Small}
use Rattle.record.proofs.Sizes.{small_left}
use Rattle.record.proofs.Tokens.{children_few}
use Rattle.reader.specs.Nodes.{Step, one_leaf, one_group, Fits}
use Rattle.reader.proofs.Pending.{spells, pending, pending_end, pending_drop, trees_tokens, children_row, row_step, row_fits, nodes_few}
use Rattle.reason.specs.Claims.{LowestAt}
use Rattle.reason.specs.Lowest.{preorder, forest_preorder, over, child_of, rule}
use Rattle.reason.specs.Outcome.{rule_number}
use Rattle.reason.specs.Rows.{met, mark_of, mark_number, GoesOn, Rowed, rule_by, Sought, Ahead, Decided}
use Rattle.reason.specs.declared.Rule.{Rule}
use Rattle.reason.specs.declared.seeking.Mark.TheVariants as mark
use Rattle.reason.specs.declared.seeking.Row.{Row}
use Rattle.reason.proofs.Lowest.{token, in_over, over_in, NoneOver, stands_node, node_good}
use Rattle.reason.proofs.Rows.{mark_both, low_most, low_kept, low_above}
use Rattle.reason.proofs.Ruling.{two_or_three, series_rule, node_rule}

-- the first tree of a row is over both jobs exactly where the row has both and the trees after it have neither

module _ (u v : ℕ) (s : Tree) (rest : List Tree) (fits : Fits (s ∷ rest)) where
  abbrev others : List ℕ
  others = flat_map leaves rest

  apart : (w : ℕ) → Memᴰ w (leaves s) → Memᴰ w others → ⊥
  unfolding flat_map
  apart w p q = omega (arith, fits.once w, count_append w (leaves s) others, mem_count p, mem_count q)

  both_under : over u v s ≡ true → (member u (leaves s) ≡ true) × (member v (leaves s) ≡ true)
  unfolding over
  both_under h = (and_left (member u (leaves s)) (member v (leaves s)) h, and_right (member u (leaves s)) (member v (leaves s)) h)

  in_row : (w : ℕ) → member w (flat_map leaves (s ∷ rest)) ≡ (member w (leaves s) || member w others)
  unfolding member flat_map
  in_row w = any_append (eqb w) (leaves s) others

  none_after : over u v s ≡ true → met u v others ≡ false
  none_after h =
      let (p, q) = both_under h in
      false_unless (met u v others)
      (λ e. ⊎_elim
      (λ (a : member u others ≡ true). apart u (member_mem u (leaves s) p) (member_mem u others a))
      (λ (a : member v others ≡ true). apart v (member_mem v (leaves s) q) (member_mem v others a))
      (or_cases (member u others) (member v others) e))

  module _ (row : Row) (r : Rowed u v (s ∷ rest) row) where
    marks : ltb (mark_number row.mark) 4 ≡ (member u (flat_map leaves (s ∷ rest)) && member v (flat_map leaves (s ∷ rest)))
    marks = ap (λ (m : ℕ). ltb m 4) r.mark_is ∙ mark_both u v (flat_map leaves (s ∷ rest))

    pub is_over : (GoesOn row → ⊥) → over u v s ≡ true
    unfolding over
    is_over ends =
        let low : 3 < mark_number row.mark → ⊥ = λ h. ends (inl h) in
        let here = sym marks ∙ lt_true (mark_number row.mark) 4 (omega arith) in
        and_intro (member u (leaves s)) (member v (leaves s))
        (under u (and_left (member u (flat_map leaves (s ∷ rest))) _ here) (λ h. bare (or_left (member u others) _ h)))
        (under v (and_right (member u (flat_map leaves (s ∷ rest))) _ here) (λ h. bare (or_right (member u others) _ h)))
      where
        bare : met u v others ≡ true → ⊥
        bare h = ends (inr (omega (arith, r.low_is, r.height_is, low_kept u v (s ∷ []) rest h, low_most u v rest)))

        under : (w : ℕ) → member w (flat_map leaves (s ∷ rest)) ≡ true → (member w others ≡ true → ⊥) → member w (leaves s) ≡ true
        under w h lacks = ⊎_elim (λ e. e) (λ e. absurd (lacks e)) (or_cases (member w (leaves s)) (member w others) (sym (in_row w) ∙ h))

    pub is_not_over : GoesOn row → over u v s ≡ false
    is_not_over goes = false_unless (over u v s) (λ h. stops h goes)
      where
        stops : over u v s ≡ true → GoesOn row → ⊥
        stops h (inl l) =
            let (p, q) = both_under h in
            let here = and_intro _ _ (in_row u ∙ or_left (member u (leaves s)) _ p) (in_row v ∙ or_left (member v (leaves s)) _ q) in
            omega (arith, ltb-true (mark_number row.mark) 4 (marks ∙ here))
        stops h (inr l) = omega (arith, r.low_is, r.height_is, low_above u v s [] rest (none_after h))

  -- the rule by the token of a lowest node and the mark of its row

  marked_both : over u v s ≡ true → {same : Bool} → eqb u v ≡ same
      → mark_of u v (flat_map leaves (s ∷ rest)) ≡ cond same 1 (cond (ahead_in u v (leaves s)) 2 3)
  unfolding flat_map
  marked_both h {same} e =
      let (p, q) = both_under h in
      rw (in_row u ∙ or_left (member u (leaves s)) _ p, in_row v ∙ or_left (member v (leaves s)) _ q, e)
      (ap (λ (b : Bool). cond same 1 (cond b 2 3)) (ahead_left u v (leaves s) others apart (member_mem u (leaves s) p) (member_mem v (leaves s) q)))

-- the list of a row's nodes, node by node

first_node : (x : ℕ) (ts us : List Tree) → Step x ts us → (a : Tree) × (flat_map preorder us ≡ a ∷ flat_map preorder ts)
unfolding preorder flat_map
first_node x ts us (one_leaf j) = (leaf j, refl)
first_node x ts us (one_group {rest} k t f) = (
  node k t f,
  ap (λ (l : List Tree). node k t f ∷ l)
      (children_row preorder t f rest (trees_row preorder forest_preorder (λ t. refl) (λ t f. refl) f)),
)

first_token : (x : ℕ) (ts us : List Tree) → Step x ts us → (a : ℕ) × (flat_map tokens us ≡ a ∷ flat_map tokens ts)
unfolding flat_map
first_token x ts us (one_leaf j) = (j, refl)
first_token x ts us (one_group {rest} k t f) = (token (node k t f), ap (λ (l : List ℕ). token (node k t f) ∷ l) (children_row tokens t f rest (trees_tokens f)))

-- the first node of a row, and those below it

row_first : (s : Tree) (rest : List Tree) → flat_map preorder (s ∷ rest) ≡ s ∷ drop 1 (flat_map preorder (s ∷ rest))
unfolding preorder flat_map
row_first (leaf j) rest = refl
row_first (node k t f) rest = refl

row_below : {y : Tree} (s : Tree) (rest : List Tree) → Memᴰ y (drop 1 (preorder s)) → Memᴰ y (drop 1 (flat_map preorder (s ∷ rest)))
unfolding preorder flat_map
row_below (leaf j) rest m = absurd (mathlib.Core.List.Memᴰ.not-nil m)
row_below (node k t f) rest m = mathlib.Core.List.Memᴰ.append_left (flat_map preorder rest) m

-- its token
step_token : {x : ℕ} {ts us : List Tree} → Step x ts us → (s : Tree) (rest : List Tree) → us ≡ s ∷ rest → x ≡ token s
step_token (one_leaf j) s rest e = ap token (same_Some (leaf j) s (ap (λ (l : List Tree). slice_get l 0) e))
step_token (one_group k t f) s rest e = ap token (same_Some (node k t f) s (ap (λ (l : List Tree). slice_get l 0) e))

-- what stands at a position is the first of the list from there on

module _ {A : Type 0} where
  at_drop : (xs : List A) (i : ℕ) {a : A} {ys : List A} → drop i xs ≡ a ∷ ys → slice_get xs i ≡ Some a
  at_drop [] zero e = absurd (omega (arith, ap length e))
  at_drop [] (suc i) e = absurd (omega (arith, ap length e))
  at_drop (x ∷ xs) zero e = ap (λ (l : List A). slice_get l 0) e
  at_drop (x ∷ xs) (suc i) e = at_drop xs i e

-- the rule by the token of a lowest node and the mark of its row

pub rule_by_lem : (u v : ℕ) (s : Tree) (rest : List Tree) → Fits (s ∷ rest) → (r : Rel) → Good r s → {t : Tree} {p : ℕ} → LowestAt u v t p s
    → rule_by (token s) (mark_of u v (flat_map leaves (s ∷ rest))) ≡ rule u v s
unfolding rule leaves flat_map kind_bit
rule_by_lem u v (leaf j) rest fits r good at =
    let (p, q) = over_in u v (leaf j) at.both in
    rw (lt_true j 384 (omega (arith, fits.small.0 j (mathlib.Core.List.Memᴰ.head refl))))
    (marked_both u v (leaf j) rest fits at.both (eq-eqb u v (p ∙ sym q)))
rule_by_lem u v (node series t f) rest fits r good at =
    let is = series_rule r u v t f good at.both at.none_below in
    let stand = node_rule r u v (node series t f) good at.both at.none_below in
    let few = children_few t f (small_left (leaves (node series t f)) (flat_map leaves rest) fits.small) in
    rw (lt_true (token (node series t f)) 384 (omega (arith, few)))
    (marked_both u v (node series t f) rest fits at.both
    (ne_eqb u v (λ e. omega (arith, stand.same.1 e, two_or_three (ltb (child_of u (more t f)) (child_of v (more t f))))))
    ∙ sym is)
rule_by_lem u v (node parallel t f) rest fits r good at =
    rw (false_unless (ltb (token (node parallel t f)) 384) (λ h. omega (arith, ltb-true (token (node parallel t f)) 384 h)))

-- the search

-- the row of no trees
abbrev pub none_met : Row
none_met = record { height = 0; low = 0; mark = mark.Neither }

module _ (u v : ℕ) (t : Tree) (list : List ℕ) (count : ℕ) (x : Sought u v t list count) where
  abbrev row : ℕ → List Tree
  row i = pending i (spells t)

  nodes_from : (i : ℕ) → flat_map preorder (row i) ≡ drop i (preorder t)
  unfolding flat_map
  nodes_from i = pending_drop preorder first_node i (spells t) ∙ ap (drop i) (append-nil (preorder t))

  tokens_from : (i : ℕ) → flat_map tokens (row i) ≡ drop i (tokens t)
  unfolding flat_map
  tokens_from i = pending_drop tokens first_token i (spells t) ∙ ap (drop i) (append-nil (tokens t))

  -- from node i on: what is known of the row, and that no node after the first is over both
  pub record Searched (i : ℕ) (r : Row) : Type 0 where
    pub inside : i ≤ count
    pub rowed : Rowed u v (row i) r
    pub none_after : NoneOver u v (drop 1 (flat_map preorder (row i)))

  row_end : row count ≡ []
  row_end = ap row x.nodes.number ∙ pending_end (spells t)

  no_mark : mark_of u v (flat_map leaves []) ≡ 7
  unfolding member exists flat_map
  no_mark = refl

  pub searched_none : Searched count none_met
  unfolding flat_map
  searched_none =
      record {
        inside = omega arith;
        rowed = subst (λ (ts : List Tree). Rowed u v ts none_met) (sym row_end)
            (record { height_is = refl; low_is = refl; mark_is = sym no_mark });
        none_after = subst (λ (ts : List Tree). NoneOver u v (drop 1 (flat_map preorder ts))) (sym row_end) (λ y m. absurd (mathlib.Core.List.Memᴰ.not-nil m));
      }

  module _ (i : ℕ) (r : Row) (found : Searched i r) where
    -- the row has a first tree, or none
    abbrev Headed : List Tree → Type 0
    Headed ts = (s : Tree) × (rest : List Tree) × (ts ≡ s ∷ rest)

    cut : (ts : List Tree) → Headed ts ⊎ (ts ≡ [])
    cut [] = inr refl
    cut (s ∷ rest) = inl (s, rest, refl)

    fits : (s : Tree) (rest : List Tree) → row i ≡ s ∷ rest → Fits (s ∷ rest)
    fits s rest e = subst Fits e (row_fits t list count x.nodes i)

    rowed : (s : Tree) (rest : List Tree) → row i ≡ s ∷ rest → Rowed u v (s ∷ rest) r
    rowed s rest e = subst (λ (ts : List Tree). Rowed u v ts r) e found.rowed

    -- where the search goes on no node so far is over both, so there is one ahead

    none_yet : GoesOn r → NoneOver u v (flat_map preorder (row i))
    unfolding flat_map
    none_yet goes y m = by (cut (row i))
      where
        by : Headed (row i) ⊎ (row i ≡ []) → over u v y ≡ false
        by (inr e) = absurd (mathlib.Core.List.Memᴰ.not-nil (subst (λ (ts : List Tree). Memᴰ y (flat_map preorder ts)) e m))
        by (inl (s, rest, e)) =
            ⊎_elim
            (λ (h : y ≡ s). ap (over u v) h ∙ is_not_over u v s rest (fits s rest e) r (rowed s rest e) goes)
            (λ (h : Memᴰ y (drop 1 (flat_map preorder (s ∷ rest)))).
            found.none_after y (subst (λ (ts : List Tree). Memᴰ y (drop 1 (flat_map preorder ts))) (sym e) h))
            (mathlib.Core.List.Memᴰ.cases_cons (subst (Memᴰ y) (ap (flat_map preorder) e ∙ row_first s rest) m))

    whole_over : over u v t ≡ true
    whole_over =
        let (_, holds) = spans_holds x.jobs t x.spans in
        in_over u v t (holds.outside u x.first_below) (holds.outside v x.second_below)

    pub not_first : GoesOn r → 0 < i
    not_first goes =
        elim (dec_lt 0 i) [
          | yes l ↦ l
          | no l ↦
              let first : 0 ≡ i = omega arith in
              let root : Memᴰ t (flat_map preorder (row 0)) = subst (Memᴰ t) (sym (row_first t [])) (mathlib.Core.List.Memᴰ.head refl) in
              absurd (clash whole_over (none_yet goes t (subst (λ (k : ℕ). Memᴰ t (flat_map preorder (row k))) first root)))
        ]

    pub step : GoesOn r → Step (get_or list (i - 1) 0) (row i) (row (i - 1))
    step goes = row_step t list count x.nodes i (not_first goes) found.inside

    pub searched_more : GoesOn r → (r' : Row) → Rowed u v (row (i - 1)) r' → Searched (i - 1) r'
    searched_more goes r' next =
        record {
          inside = omega (arith, found.inside);
          rowed = next;
          none_after = subst (NoneOver u v) (sym (ap (drop 1) (first_node _ _ _ (step goes)).1)) (none_yet goes);
        }

    -- where it ends, the first tree is the lowest node over both

    module _ (ends : GoesOn r → ⊥) where
      headed : Headed (row i)
      headed = by (cut (row i))
        where
          by : Headed (row i) ⊎ (row i ≡ []) → Headed (row i)
          by (inl h) = h
          by (inr e) = absurd (ends (inl (omega (arith, (subst (λ (ts : List Tree). Rowed u v ts r) e found.rowed).mark_is, no_mark))))

      abbrev s : Tree
      s = headed.0

      abbrev rest : List Tree
      rest = headed.1

      pub inside : i < count
      inside =
          elim (dec_lt i count) [
            | yes l ↦ l
            | no l ↦
                let last : i ≡ count = omega (arith, found.inside) in
                absurd (omega (arith, ap length (sym headed.2 ∙ ap row last ∙ row_end)))
          ]

      here : over u v s ≡ true
      here = is_over u v s rest (fits s rest headed.2) r (rowed s rest headed.2) ends

      at : LowestAt u v t i s
      at =
          let none_after : NoneOver u v (drop 1 (flat_map preorder (s ∷ rest))) =
          subst (λ (ts : List Tree). NoneOver u v (drop 1 (flat_map preorder ts))) headed.2 found.none_after in
          record {
            stands = at_drop (preorder t) i (sym (nodes_from i) ∙ ap (flat_map preorder) headed.2 ∙ row_first s rest);
            both = here;
            none_below = λ y m. none_after y (row_below s rest m);
          }

      ahead : Ahead list i (s ∷ [])
      unfolding flat_map
      ahead =
          let padding : List ℕ = drop count list in
          let all : list ≡ tokens t ++ padding =
          sym (take-append-drop count list) ∙ ap (λ (l : List ℕ). l ++ padding) x.nodes.these in
          let from : drop i (tokens t) ≡ tokens s ++ flat_map tokens rest = sym (tokens_from i) ∙ ap (flat_map tokens) headed.2 in
          record {
            after = flat_map tokens rest ++ padding;
            these =
                ap (drop i) all
                ∙ drop-append-le i (tokens t) padding (omega (arith, found.inside, x.nodes.number))
                ∙ ap (λ (l : List ℕ). l ++ padding) from
                ∙ append_assoc (tokens s) (flat_map tokens rest) padding
                ∙ ap (λ (l : List ℕ). l ++ (flat_map tokens rest ++ padding)) (sym (append-nil (tokens s)));
            room =
                omega (
                  arith,
                  nodes_few t list count x.nodes,
                  x.nodes.number,
                  found.inside,
                  length-drop i (tokens t),
                  ap length from,
                  length-append (tokens s) (flat_map tokens rest),
                  length-append (tokens s) [],
                );
            small =
                subst Small (sym (append-nil (leaves s)))
                (small_left (leaves s) (flat_map leaves rest) (fits s rest headed.2).small);
          }

      token_is : get_or list i 0 ≡ token s
      token_is =
          let same : suc i - 1 ≡ i = omega arith in
          subst (λ (k : ℕ). get_or list k 0 ≡ token s) same
          (step_token (row_step t list count x.nodes (suc i) (omega arith) (omega (arith, inside))) s rest (ap row same ∙ headed.2))

      pub decided_at : (k : Rule) → rule_number k ≡ rule_by (get_or list i 0) (mark_number r.mark)
          → Decided u v t list (record { rule = k; position = i })
      decided_at k is =
          let good = (means_fits x.jobs (precedes t) t (record { spans = x.spans; agrees = λ u v p q. refl })).good in
          record {
            lowest = s;
            at = at;
            rule_is =
                is ∙ ap (λ (n : ℕ). rule_by n (mark_number r.mark)) token_is ∙ ap (rule_by (token s)) (rowed s rest headed.2).mark_is
                ∙ rule_by_lem u v s rest (fits s rest headed.2) (precedes t) (node_good (precedes t) series (stands_node t i at.stands) good) at;
            ahead = ahead;
          }
