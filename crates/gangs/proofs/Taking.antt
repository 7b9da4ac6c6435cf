-- One node more.
use Prim.Native.Nat.{ℕ, ◌+◌, ◌*◌, ◌%◌, ◌^◌, ◌≤◌, ◌<◌, max}
use mathlib.Core.Path.{◌≡◌, refl, sym, ap, subst, ◌∙◌}
use mathlib.Core.List.Memᴰ
use mathlib.Core.List.{List, [], ◌∷◌, ◌++◌, flat_map, append_assoc, Memᴰ}
use mathlib.Core.Bool.{true, false}
use mathlib.Core.Logic.{◌⊎◌, inl, inr, ⊎_elim}
use borrow.Author.Tests.{lt-ltb, le-ltb}
use native.Mathlib.Omega.{arith}
use lib.Dec.{eqb}
use lib.ListN.{length, get_or, set, length-append, length-set}
use lib.Seq.{get_or-set_same, get_or-set_other}
use Rattle.poset.specs.Lists.{keep, sum}
use Rattle.poset.specs.Tree.{Kind, series, parallel, Tree, leaf, node, Forest, leaves}
use Rattle.poset.proofs.Laws.{decided, clash, eqb-true, eqb_same, keep_yes, keep_not}
use Rattle.poset.proofs.Sums.{sum_append}
use Rattle.record.specs.Bits.{AllBelow}
use Rattle.record.specs.Layout.{hours_bits, kind_bit, most_hours, hours_of, more_children}
use Rattle.record.specs.Tokens.{group_token, tokens, forest_tokens, Small}
use Rattle.record.proofs.Entries.{hours_most}
use Rattle.record.proofs.Sizes.{kind_below}
use Rattle.reader.proofs.Pending.{trees_tokens}
use Rattle.gangs.specs.Gangs.{gang}
use Rattle.gangs.specs.Places.{Groups, Taken, Open, kind_of, to_come, Done, Begun, At, begins, ended, is_leaf, load_of, Written, Ready}
use Rattle.gangs.specs.declared.numbering.Group.{Group}
use Rattle.gangs.proofs.Fewest.{gang_below, count_short, loads_most}
use Rattle.gangs.proofs.Placing.{leaf_done, room, within, few_children, group_begins}

-- the tree that begins, by its first node

pub record LeafAt (t : Tree) (w : Groups) (token : ℕ) (xs : List ℕ) : Type 0 where
  pub group : Open
  pub around : List Open
  pub begun : Begun t w (leaf token) group around
  pub later : to_come (group ∷ around) ≡ xs

pub record GroupAt (t : Tree) (w : Groups) (token : ℕ) (xs : List ℕ) : Type 0 where
  pub kind : Kind
  pub first : Tree
  pub others : Forest
  pub group : Open
  pub around : List Open
  pub begun : Begun t w (node kind first others) group around
  pub token_is : token ≡ group_token kind (more_children others)
  pub later : (tokens first ++ forest_tokens others) ++ to_come (group ∷ around) ≡ xs

module _ (t : Tree) (w : Groups) (token : ℕ) (xs : List ℕ) where
  at_leaf : token < 256 → At t w (token ∷ xs) → LeafAt t w token xs
  at_leaf low (begins (leaf j) o os b e) =
      let same : j ≡ token = cc in
      record { group = o; around = os; begun = subst (λ (x : ℕ). Begun t w (leaf x) o os) same b; later = cc }
  at_leaf low (begins (node k s f) o os b e) =
      let same : token ≡ group_token k (more_children f) = cc in
      absurd (omega arith)
  at_leaf low (ended m e) = absurd (omega (arith, ap length e))

  at_group : 256 ≤ token → At t w (token ∷ xs) → GroupAt t w token xs
  unfolding leaves
  at_group high (begins (leaf j) o os b e) =
      let same : j ≡ token = cc in
      absurd (omega (arith, b.numbers.small.0 j (Memᴰ.head refl)))
  at_group high (begins (node k s f) o os b e) =
      record { kind = k; first = s; others = f; group = o; around = os; begun = b; token_is = cc; later = cc }
  at_group high (ended m e) = absurd (omega (arith, ap length e))

-- what is written

module _ (t : Tree) (jobs : List ℕ) (low : AllBelow (2 ^ hours_bits) jobs) (small : Small (leaves t)) (token : ℕ) (xs gangs hours : List ℕ)
    (w : Written t jobs (token ∷ xs) gangs hours) where
  -- no gang's hours are too many, with those of one job more
  pub hours_fit : token < 128 → (g : ℕ) → get_or hours g 0 + get_or jobs token 0 ≤ most_hours * 128
  hours_fit low_job g =
      let seen = w.seen in
      let later = keep is_leaf xs in
      omega (
        arith,
        w.loads g,
        loads_most most_hours (hours_of jobs) (hours_most jobs low) t g seen,
        hours_most jobs low token,
        ap length w.all,
        ap (λ (l : List ℕ). length (seen ++ l)) (keep_yes is_leaf token xs (lt-ltb token 256 (omega arith))),
        length-append seen (token ∷ later),
        small.1,
      )

  -- a leaf's job gets its gang, and the gang its hours
  leaf_written : token < 128 → (at : ℕ) → at ≡ gang t token → at < 128
      → Written t jobs xs (set gangs token at) (set hours at (get_or hours at 0 + get_or jobs token 0))
  leaf_written low_job at is low_gang =
      record {
        seen = seen ++ token ∷ [];
        all = append_assoc seen (token ∷ []) later ∙ ap (λ (l : List ℕ). seen ++ l) (sym (keep_yes is_leaf token xs (lt-ltb token 256 (omega arith)))) ∙ w.all;
        gangs_size = length-set gangs token at ∙ w.gangs_size;
        hours_size = length-set hours at (get_or hours at 0 + get_or jobs token 0) ∙ w.hours_size;
        these = λ u m. one_more u (Memᴰ.append_cases seen m);
        others = λ u no.
            get_or-set_other gangs token u at 0 (λ e. no (Memᴰ.append_right seen (Memᴰ.head e)))
            ∙ w.others u (λ m. no (Memᴰ.append_left (token ∷ []) m));
        loads = λ g. load g ∙ sym (sum_append (load_of t jobs g) seen (token ∷ []));
      }
    where
      seen : List ℕ
      seen = w.seen

      later : List ℕ
      later = keep is_leaf xs

      here : get_or (set gangs token at) token 0 ≡ gang t token
      here = get_or-set_same gangs token at 0 (omega (arith, w.gangs_size)) ∙ is

      one_more : (u : ℕ) → Memᴰ u seen ⊎ Memᴰ u (token ∷ []) → get_or (set gangs token at) u 0 ≡ gang t u
      one_more u (inr m) = let same = Memᴰ.eq_of_singleton m in ap (λ (x : ℕ). get_or (set gangs token at) x 0) same ∙ here ∙ ap (gang t) (sym same)
      one_more u (inl m) =
          ⊎_elim
          (λ (e : eqb token u ≡ true).
          let same = eqb-true token u e in
          ap (λ (x : ℕ). get_or (set gangs token at) x 0) (sym same) ∙ here ∙ ap (gang t) same)
          (λ (e : eqb token u ≡ false).
          get_or-set_other gangs token u at 0 (λ q. clash (ap (eqb token) q ∙ eqb_same token) e) ∙ w.these u m)
          (decided (eqb token u))

      load : (g : ℕ) → get_or (set hours at (get_or hours at 0 + get_or jobs token 0)) g 0 ≡ sum (load_of t jobs g) seen + (load_of t jobs g token + 0)
      load g =
          ⊎_elim
          (λ (e : eqb (gang t token) g ≡ true).
          let same : at ≡ g = is ∙ eqb-true (gang t token) g e in
          let put : get_or (set hours at (get_or hours at 0 + get_or jobs token 0)) g 0 ≡ get_or hours at 0 + get_or jobs token 0 =
          ap (λ (x : ℕ). get_or (set hours at (get_or hours at 0 + get_or jobs token 0)) x 0) (sym same)
          ∙ get_or-set_same hours at (get_or hours at 0 + get_or jobs token 0) 0 (omega (arith, w.hours_size)) in
          rw e (omega (arith, put, ap (λ (x : ℕ). get_or hours x 0) same, w.loads g)))
          (λ (e : eqb (gang t token) g ≡ false).
          let kept : get_or (set hours at (get_or hours at 0 + get_or jobs token 0)) g 0 ≡ get_or hours g 0 =
          get_or-set_other hours at g (get_or hours at 0 + get_or jobs token 0) 0 (λ q. clash (ap (eqb (gang t token)) (q ∙ is) ∙ eqb_same (gang t token)) e) in
          rw e (omega (arith, kept, w.loads g)))
          (decided (eqb (gang t token) g))

  -- a group is no job
  group_written : 256 ≤ token → Written t jobs xs gangs hours
  group_written high =
      record {
        seen = w.seen;
        all =
            ap (λ (l : List ℕ). w.seen ++ l) (sym (keep_not is_leaf token xs (le-ltb token 256 high)))
            ∙ w.all;
        gangs_size = w.gangs_size;
        hours_size = w.hours_size;
        these = w.these;
        others = w.others;
        loads = w.loads;
      }

-- a node is taken

-- the kind of a group, by its token
abbrev pub IsKind : ℕ → Kind → Type 0
IsKind token series = token < 384
IsKind token parallel = 384 ≤ token

kind_is : (token : ℕ) (k j : Kind) (m : ℕ) → m < 128 → token ≡ group_token k m → IsKind token j → j ≡ k
unfolding kind_bit
kind_is token series series m few e i = refl
kind_is token series parallel m few e i = absurd (omega arith)
kind_is token parallel series m few e i = absurd (omega arith)
kind_is token parallel parallel m few e i = refl

module _ (t : Tree) (jobs : List ℕ) (low : AllBelow (2 ^ hours_bits) jobs) (w : Taken) (token : ℕ) (xs : List ℕ)
    (ready : Ready t jobs w (token ∷ xs)) where
  abbrev at : ℕ
  at = w.groups.present.at

  module _ (l : token < 256) where
    leaf_at : LeafAt t w.groups token xs
    leaf_at = at_leaf t w.groups token xs l ready.at

    pub job_low : token < 128
    unfolding leaves
    job_low = leaf_at.begun.numbers.small.0 token (Memᴰ.head refl)

    gang_is : at ≡ gang t token
    unfolding gang leaves
    gang_is = omega (arith, leaf_at.begun.numbers.each token (Memᴰ.head refl), leaf_at.begun.group.present.at_is)

    pub gang_low : at < 128
    gang_low = omega (arith, gang_is, gang_below t token, count_short t, ready.small.1)

    pub hours_low : get_or w.hours at 0 + get_or jobs token 0 ≤ most_hours * 128
    hours_low = hours_fit t jobs low ready.small token xs w.gangs w.hours ready.written job_low at

    pub done : (r : Group) → r.kind ≡ w.groups.present.kind → r.coming ≡ w.groups.present.coming → r.at ≡ at → r.end ≡ max w.groups.present.end (at + 1)
        → (o : Open) × (os : List Open) × Done t (record { present = r; depth = w.groups.depth; around = w.groups.around }) o os × (to_come (o ∷ os) ≡ xs)
    unfolding flat_map
    done r kind coming first end =
        let b = leaf_at in
        let o = b.group in (
          record { kind = o.kind; at = o.at; end = max o.end (o.at + 1); rest = o.rest },
          b.around,
          leaf_done t w.groups token o b.around b.begun r kind coming first end,
          b.later,
        )

    pub leaf_taken : (v : Groups) → At t v xs
        → Ready t jobs (record { groups = v; gangs = set w.gangs token at; hours = set w.hours at (get_or w.hours at 0 + get_or jobs token 0) }) xs
    leaf_taken v here =
        record {
          small = ready.small;
          at = here;
          written = leaf_written t jobs low ready.small token xs w.gangs w.hours ready.written job_low at gang_is gang_low;
        }

  module _ (l : 256 ≤ token) where
    group_at : GroupAt t w.groups token xs
    group_at = at_group t w.groups token xs l ready.at

    pub group_room : w.groups.depth < 128
    group_room = let b = group_at in room t w.groups b.kind b.first b.others b.group b.around b.begun

    few : more_children group_at.others < 128
    few = let b = group_at in few_children t w.groups b.kind b.first b.others b.group b.around b.begun

    pub group_taken : (r : Group) → IsKind token (kind_of r.kind) → r.coming ≡ token % 128 → r.at ≡ at → r.end ≡ at
        → Ready t jobs (record {
          groups = record { present = r; depth = w.groups.depth + 1; around = set w.groups.around w.groups.depth w.groups.present };
          gangs = w.gangs;
          hours = w.hours;
        }) xs
    unfolding flat_map
    group_taken r kind coming first end =
        let b = group_at in
        let os = b.around in
        let same : kind_of r.kind ≡ b.kind = kind_is token b.kind (kind_of r.kind) (more_children b.others) few b.token_is kind in
        record {
          small = ready.small;
          at =
              begins b.first (within t w.groups b.kind b.first b.others b.group os b.begun) (b.group ∷ os)
              (group_begins t w.groups b.kind b.first b.others b.group os b.begun r same (omega (arith, b.token_is, kind_below b.kind, few)) first end)
              (sym b.later ∙ append_assoc (tokens b.first) (forest_tokens b.others) (to_come (b.group ∷ os))
              ∙ ap (λ (l : List ℕ). tokens b.first ++ (l ++ to_come (b.group ∷ os))) (sym (trees_tokens b.others)));
          written = group_written t jobs low ready.small token xs w.gangs w.hours ready.written l;
        }
