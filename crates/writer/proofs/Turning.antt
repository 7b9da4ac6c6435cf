-- What the loop that writes a tree holds (Shaping): at its beginning, and through each turn; where a turn fails there is no tree.
use Prim.Native.Nat.{ℕ, ◌+◌, ◌≤◌, ◌<◌}
use mathlib.Core.Path.{◌≡◌, sym, ap, subst, ◌∙◌}
use mathlib.Core.List.{List, ◌∷◌}
use mathlib.Core.Bool.{Bool}
use native.Mathlib.Decide.{dec_lt}
use native.Mathlib.Omega.{arith}
use lib.Dec.{ltb}
use lib.ListN.{length}
use Rattle.std.specs.Prelude.{Option, Some, None}
use Rattle.poset.specs.Order.{Rel}
use Rattle.poset.specs.Decompose.{tree_of}
use Rattle.poset.proofs.Laws.{lt_true}
use Rattle.poset.proofs.Sums.{length_below}
use Rattle.relation.specs.Table.{has, members}
use Rattle.writer.specs.declared.stack.Entry.{Entry}
use Rattle.writer.specs.declared.draft.Progress.{Progress}
use Rattle.writer.specs.declared.draft.Draft.{Draft}
use Rattle.writer.specs.declared.tree.Shape.{Shape}
use Rattle.writer.specs.Compared.{transpose, Tables}
use Rattle.writer.specs.Parts.{Taken, close_of}
use Rattle.writer.specs.Turns.{State, state, TopRoom, SpreadRoom, Blank, Rooted, Stepped, put, opens, stays}
use Rattle.writer.proofs.Roots.{members_all, root_cut, cut_jobs, cut_joined, stuck}
use Rattle.writer.proofs.Shaping.{Shaping, shaping_same, top_ok, room, leaf_turn, group_turn, shape_start, no_tree}

-- a set taken apart has room for its parts
pub spread_room : (e : Entry) (d : State) → TopRoom e d → {close under : Rel} {flag : Bool} {parts : List (List ℕ)} {count : ℕ} {numbers numbers' : List ℕ}
    → Taken close under flag e.set parts count numbers numbers' → 0 < count → SpreadRoom count parts e d
spread_room e d m cut some = record { room = m; some = some; few = cut.few; same_jobs = cut_jobs cut }

same : {p q : Progress} → Some p ≡ Some q → p ≡ q
same e = cc

abbrev root : List ℕ → Bool → Entry
root all flag = record { set = all; start = 0; series = flag }

-- all jobs below n
pub root_room : (d : State) → Blank d → (n : ℕ) (all : List ℕ) (flag : Bool) → 0 < n → n ≤ 128 → ((v : ℕ) → has all v ≡ ltb v n) → TopRoom (root all flag) d
root_room d b n all flag pos few is_all =
    let size : length (members all) ≡ n = ap length (members_all all n few is_all) ∙ length_below n in
    record {
      some = omega arith;
      level = omega (arith, ap length b.stack);
      fits = omega arith;
      few_fields = omega (arith, ap (λ (s : Shape). s.count) b.shape);
      few_groups = omega (arith, ap (λ (s : Shape). s.groups) b.shape);
      few_jobs = omega (arith, b.placed);
    }

module _ {n : ℕ} {under tied free : Rel} (t : Tables n under tied free) where
  pub root_shaping : (d d' : State) → Blank d → Rooted n free under d d' → Shaping n (transpose under) tied free d'.shape d'.placed d'.stack
  root_shaping d d' b x =
      let all = x.all in
      let flag = ltb 1 x.split.count in
      let r = transpose under in
      let first = shape_start n all flag t.few (members_all all n t.few x.is_all) r tied free (root_cut t t.some all x.is_all x.split.taken) in
      elim (dec_lt 1 x.split.count) [
        | yes l ↦
            group_turn t (root all flag) d
            (shaping_same n r tied free b.shape b.placed (ap (λ es. root all flag ∷ es) b.stack) first)
            (subst (λ f. Taken (close_of f tied free) under f all x.split.parts x.split.count x.split.numbers x.split.numbers') (sym (lt_true 1 x.split.count l)) x.split.taken)
            l (x.apart l)
        | no l ↦
            let same = x.whole (omega arith) in
            shaping_same n r tied free (same.1 ∙ b.shape) (same.2 ∙ b.placed) (same.0 ∙ ap (λ es. root all flag ∷ es) b.stack) first
      ]

  module _ (e : Entry) (d : State) (x : Shaping n (transpose under) tied free d.shape d.placed (e ∷ d.stack)) where
    pub turn_room : TopRoom e d
    turn_room =
        let ok = (top_ok t e d x).0 in
        let m = room t e d x in
        let few = t.few in
        record {
          some = ok.some;
          level = omega (arith, m.0);
          fits = omega (arith, ok.fits);
          few_fields = omega (arith, m.1);
          few_groups = omega (arith, m.3);
          few_jobs = omega (arith, m.2);
        }

    module _ (d' : Draft) (q : Progress) where
      pub turn_next : {o : Option Progress} → Stepped tied free under e d d' o → o ≡ Some q
          → Shaping n (transpose under) tied free (state d' q).shape q.placed (state d' q).stack
      turn_next (put p l) i =
          subst (λ q. Shaping n (transpose under) tied free (state d' q).shape q.placed (state d' q).stack) (same i) (leaf_turn t e d x l)
      turn_next (opens p a two g) i =
          subst (λ q. Shaping n (transpose under) tied free (state d' q).shape q.placed (state d' q).stack) (same i) (group_turn t e d x a.taken two g)
      turn_next (stays a one more) i = absurd (cc)

      -- one field more
      pub turn_more : {o : Option Progress} → Stepped tied free under e d d' o → o ≡ Some q → q.count ≡ d.shape.count + 1
      turn_more (put p l) i = sym (ap (λ (q : Progress). q.count) (same i)) ∙ ap (λ (s : Shape). s.count) l.field
      turn_more (opens p a two g) i = sym (ap (λ (q : Progress). q.count) (same i)) ∙ ap (λ (s : Shape). s.count) g.field
      turn_more (stays a one more) i = absurd (cc)

    -- there is no tree
    pub turn_none : (d' : Draft) {o : Option Progress} → Stepped tied free under e d d' o → o ≡ None → tree_of n (transpose under) ≡ None
    turn_none d' (put p l) i = absurd (cc)
    turn_none d' (opens p a two g) i = absurd (cc)
    turn_none d' (stays a one more) i =
        let top = (top_ok t e d x).0 in
        let few = t.few in
        no_tree n (transpose under) t.strict (stuck t e top more (cut_joined a.taken (omega (arith, top.fits)) one top.some))
