-- What is told of the gangs of a record's nodes.
use Prim.Native.Nat.{ℕ, ◌-◌, ◌≤◌, ◌<◌}
use mathlib.Core.Path.{◌≡◌, refl, sym, ap, subst, ◌∙◌}
use mathlib.Core.List.{List, [], map, append-nil, Memᴰ}
use mathlib.Core.Bool.{cond}
use Rattle.std.specs.Prelude.{None}
use native.Mathlib.Decide.{dec_lt}
use native.Mathlib.Omega.{arith}
use lib.Dec.{eqb}
use lib.ListN.{length, get_or, replicate, length-append, length-replicate, get_or-eq_default}
use lib.Seq.{ext_get_or}
use Rattle.poset.specs.Areas.{padded}
use Rattle.poset.specs.Lists.{keep, sum, below}
use Rattle.poset.specs.Tree.{Tree, leaves}
use Rattle.poset.proofs.Laws.{eqb_differ}
use Rattle.poset.proofs.Meaning.{spans_holds}
use Rattle.poset.proofs.Shape.{in_leaves, leaves_in}
use Rattle.poset.proofs.Sums.{sum_zero}
use Rattle.record.specs.Layout.{hours_of}
use Rattle.record.specs.Decode.{decode}
use Rattle.record.proofs.Entries.{made, length_below, entry_padded}
use Rattle.record.proofs.Sizes.{sum_leaves, length_leaves}
use Rattle.reader.specs.declared.NodeList.{NodeList}
use Rattle.reader.proofs.Decoded.{Decoded, same_hours}
use Rattle.analysis.specs.declared.Refusal.TheVariants as refused
use Rattle.gangs.specs.Gangs.{gang_count, gang, gang_hours}
use Rattle.gangs.specs.Outcome.{gang_outcome, ShowsPlan, ShowsRefusal}
use Rattle.gangs.specs.Places.{load_of, Written, AllNumbered}
use Rattle.gangs.proofs.Fewest.{gang_below, count_short, gang_hours_lem}

-- 128 entries, of which the first are f's and the others 0
padded_made : (f : ℕ → ℕ) (n : ℕ) (xs : List ℕ) → n ≤ 128 → length xs ≡ 128 → ((i : ℕ) → i < n → get_or xs i 0 ≡ f i)
    → ((i : ℕ) → n ≤ i → get_or xs i 0 ≡ 0) → xs ≡ padded (map f (below n))
padded_made f n xs few size first later =
    ext_get_or 0 xs (padded (map f (below n)))
    (omega (
      arith,
      length-append (map f (below n)) (replicate (128 - length (map f (below n))) 0),
      length-replicate {A = ℕ} (128 - length (map f (below n))) 0,
      length_below f n,
    ))
    (λ i _. entry i ∙ sym (entry_padded (map f (below n)) (128 - length (map f (below n))) i))
  where
    entry : (i : ℕ) → get_or xs i 0 ≡ get_or (map f (below n)) i 0
    entry i =
        elim (dec_lt i n) [
          | yes l ↦ first i l ∙ sym (made f n i l)
          | no l ↦ later i (omega arith) ∙ sym (get_or-eq_default (map f (below n)) 0 {n = i} (omega (arith, length_below f n)))
        ]

module _ {bytes : List ℕ} {x : NodeList} (d : Decoded bytes x) {count : ℕ} {gangs hours : List ℕ}
    (a : AllNumbered d.tree x.hours count gangs hours) where
  abbrev n : ℕ
  n = d.jobs

  abbrev t : Tree
  t = d.tree

  abbrev w : Written t x.hours [] gangs hours
  w = a.written

  all_seen : w.seen ≡ leaves t
  unfolding keep
  all_seen = sym (append-nil w.seen) ∙ w.all

  gangs_are : gangs ≡ padded (map (gang t) (below n))
  gangs_are =
      let (_, holds) = spans_holds n t d.spells.spans in
      padded_made (gang t) n gangs d.spells.most w.gangs_size
      (λ u l. w.these u (subst (Memᴰ u) (sym all_seen) (in_leaves t (holds.outside u l))))
      (λ u l. w.others u (λ m. omega (arith, holds.inside u (leaves_in t (subst (Memᴰ u) all_seen m)))))

  load : (g : ℕ) → get_or hours g 0 ≡ gang_hours n (hours_of d.hours) t g
  load g =
      w.loads g ∙ ap (sum (load_of t x.hours g)) all_seen ∙ sum_leaves n t d.spells.spans (load_of t x.hours g)
      ∙ sym (gang_hours_lem n (hours_of x.hours) t g) ∙ ap (λ (h : ℕ → ℕ). gang_hours n h t g) (same_hours d)

  -- a gang that there is not has no hours
  no_load : (g : ℕ) → gang_count t ≤ g → gang_hours n (hours_of d.hours) t g ≡ 0
  no_load g l =
      gang_hours_lem n (hours_of d.hours) t g
      ∙ sum_zero (λ u. cond (eqb (gang t u) g) (hours_of d.hours u) 0) (below n)
      (λ u _. ap (λ b. cond b (hours_of d.hours u) 0) (eqb_differ (gang t u) g (λ e. omega (arith, gang_below t u))))

  pub shows_gangs : ShowsPlan (gang_outcome bytes) (record { count = count; hours = hours; gangs = gangs })
  unfolding gang_outcome
  shows_gangs =
      rw (gang_outcome, d.decodes)
      (record {
        answers = refl;
        count_is = a.count_is;
        hours_are =
            padded_made (gang_hours n (hours_of d.hours) t) (gang_count t) hours
            (omega (arith, count_short t, length_leaves n t d.spells.spans, d.spells.most))
            w.hours_size (λ g _. load g) (λ g l. load g ∙ no_load g l);
        gangs_are = gangs_are;
      })

pub shows_11 : (bytes : List ℕ) → decode bytes ≡ None
    → ShowsRefusal (gang_outcome bytes) refused.NoRecord
unfolding gang_outcome
shows_11 bytes e = rw (gang_outcome, e) (record { answers = refl; count_is = refl; hours_are = refl; gangs_are = refl })
