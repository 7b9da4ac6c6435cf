-- The runs of a group's children made into one, from the last child to the first.
use Prim.Native.Nat.{ℕ, suc, ◌+◌, ◌-◌, ◌*◌, ◌≤◌, ◌<◌}
use mathlib.Core.Path.{◌≡◌, refl, sym, ap, subst, ◌∙◌}
use mathlib.Core.List.{List, [], ◌∷◌, Memᴰ}
use mathlib.Core.Bool.{Bool, true, false, cond}
use native.Mathlib.Omega.{arith}
use lib.Dec.{ltb}
use lib.ListN.{length, get_or, take, drop, set, take-append-drop, length-set, drop_of_length-le}
use lib.Seq.{take-suc, drop-cons, get_or-set_other}
use Rattle.poset.specs.Lists.{occurrences, sum}
use Rattle.poset.specs.Tree.{Kind, series, parallel}
use Rattle.poset.proofs.Laws.{false_unless, ltb-true, lt_true, mem_count, count_mem}
use Rattle.poset.proofs.Sums.{sum_append}
use Rattle.record.specs.Layout.{most_hours}
use Rattle.reader.proofs.Strands.{strand_last, strand_link}
use Rattle.longest.specs.Longest.{WorkRun, joined_runs}
use Rattle.longest.specs.Stack.{run_at, Found, Entry, Entries, jobs_of, run_of, Beside, Joined}
use Rattle.longest.specs.declared.stack.Run.{Run}
use Rattle.longest.specs.declared.stack.Stack.{Stack}
use Rattle.longest.proofs.Entries.{no_work, entries_kept, entry_put, entries_snoc, entry_at, jobs_parted, run_more, run_count, series_total}

module _ (rs : List WorkRun) (end : ℕ) (w : Stack) (b : Beside rs end w) where
  abbrev top : ℕ
  top = w.top

  pub end_inside : end ≤ length w.runs
  end_inside = omega (arith, b.inside, b.sized.runs_size)

  -- one child more is joined to those after it
  run_from : (k : Kind) (i : ℕ) → suc i < length rs → run_of k (drop i rs) ≡ joined_runs k (get_or rs i no_work) (run_of k (drop (suc i) rs))
  run_from k i l =
      ap (run_of k) (drop-cons rs i no_work (omega arith))
      ∙ run_more k (get_or rs i no_work) (drop (suc i) rs) (rest_some i l)
    where
      rest_some : (i : ℕ) → suc i < length rs → 0 < length (drop (suc i) rs)
      rest_some i l = subst (λ (x : List WorkRun). 0 < length x) (sym (drop-cons rs (suc i) no_work l)) (omega arith)

  -- the last child alone
  run_last : (k : Kind) (i : ℕ) → suc i ≡ length rs → run_of k (drop i rs) ≡ get_or rs i no_work
  run_last k i e =
      ap (run_of k) (drop-cons rs i no_work (omega arith) ∙ ap (λ (x : List WorkRun). get_or rs i no_work ∷ x) (drop_of_length-le rs {i = suc i} (omega arith)))

  -- a run after all children are joined, at the entry of the last one
  joined_at : (k : Kind) (r : Run) (next : List ℕ) → Found (run_of k rs) next r → length next ≡ 128
      → ((u : ℕ) → (Memᴰ u (jobs_of rs) → ⊥) → get_or next u 0 ≡ get_or w.next u 0)
      → Joined k rs end w (record { top = end; runs = set w.runs end r; next = next })
  joined_at k r next found size same =
      let (sized, entry, below) = entry_put w end end (run_of k rs) r next b.sized b.inside size found in
      record { sized = sized; top_is = refl; entry = entry; below = below; next_same = same }

  -- the children from k on, one after the other
  pub record Chained (v : Stack) (whole : Run) (k : ℕ) : Type 0 where
    pub from_top : top ≤ k
    pub to_end : k ≤ end
    pub room : length v.next ≡ 128
    pub runs_same : v.runs ≡ w.runs
    pub ahead : Entries v top (take (k - top) rs)
    pub found : Found (run_of series (drop (k - top) rs)) v.next whole
    pub others : (u : ℕ) → (Memᴰ u (jobs_of rs) → ⊥) → get_or v.next u 0 ≡ get_or w.next u 0

  -- the first of them with the greatest total
  pub record Chosen (best : Run) (k : ℕ) : Type 0 where
    pub from_top : top ≤ k
    pub to_end : k ≤ end
    pub found : Found (run_of parallel (drop (k - top) rs)) w.next best

  -- at the beginning the last child
  last_child : Entries w top (take (end - top) rs) × Entry w end (get_or rs (end - top) no_work)
  last_child =
      let (es, e) = entry_at w top rs (end - top) (omega (arith, b.last, b.some)) b.entries in
      let place : top + (end - top) ≡ end = omega (arith, b.last, b.some) in
      (es, subst (λ (i : ℕ). Entry w i (get_or rs (end - top) no_work)) place e)

  is_last : suc (end - top) ≡ length rs
  is_last = omega (arith, b.last, b.some)

  pub chained_first : Chained w (run_at w end) end
  chained_first =
      let (es, e) = last_child in
      record {
        from_top = omega (arith, b.last, b.some);
        to_end = omega arith;
        room = b.sized.next_size;
        runs_same = refl;
        ahead = es;
        found = subst (λ (a : WorkRun). Found a w.next (run_at w end)) (sym (run_last series (end - top) is_last)) e;
        others = λ u m. refl;
      }

  pub chosen_first : Chosen (run_at w end) end
  chosen_first =
      record {
        from_top = omega (arith, b.last, b.some);
        to_end = omega arith;
        found = subst (λ (a : WorkRun). Found a w.next (run_at w end)) (sym (run_last parallel (end - top) is_last)) last_child.1;
      }

  -- the child ahead of those that are joined
  module _ (k : ℕ) (past : top < k) (within : k ≤ end) where
    abbrev i : ℕ
    i = k - 1 - top

    abbrev child : WorkRun
    child = get_or rs i no_work

    steps : k - top ≡ suc i
    steps = omega arith

    place : top + i ≡ k - 1
    place = omega arith

    one_of : suc i < length rs
    one_of = omega (arith, b.last)

    -- joined to the run of those after it, by the kind
    run_next : (kind : Kind) → run_of kind (drop i rs) ≡ joined_runs kind child (run_of kind (drop (k - top) rs))
    run_next kind = run_from kind i one_of ∙ ap (λ (n : ℕ). joined_runs kind child (run_of kind (drop n rs))) (sym steps)

    -- its jobs are neither in the runs ahead of it nor in that of those after it
    apart : (u : ℕ) → Memᴰ u child.1
        → (occurrences u (jobs_of (take i rs)) ≡ 0) × (occurrences u child.1 ≤ 1) × (occurrences u (run_of series (drop (k - top) rs)).1 ≡ 0)
    apart u m =
        omega (
          arith,
          b.once u,
          jobs_parted rs i (omega (arith, one_of)) u,
          mem_count m,
          run_count series (drop (k - top) rs) u,
          ap (λ (n : ℕ). occurrences u (jobs_of (drop n rs))) steps,
        )

    module _ (v : Stack) (whole : Run) (c : Chained v whole k) where
      abbrev here : Run
      here = run_at v (k - 1)

      ahead_of : Entries v top (take i rs) × Entry v (k - 1) child
      ahead_of =
          let (es, e) = entries_snoc v top rs i (omega (arith, one_of)) (subst (λ (n : ℕ). Entries v top (take n rs)) steps c.ahead) in
          (es, subst (λ (j : ℕ). Entry v j child) place e)

      link_in : Memᴰ here.last child.1
      link_in = strand_last ahead_of.1.strand

      link_among : Memᴰ here.last (jobs_of rs)
      link_among = count_mem here.last (jobs_of rs) (omega (arith, jobs_parted rs i (omega (arith, one_of)) here.last, mem_count link_in))

      pub link_small : here.last < 128
      link_small = b.small here.last link_among

      pub total_low : whole.total + here.total ≤ most_hours * 128
      total_low =
          omega (
            arith,
            c.found.total_is,
            ahead_of.1.total_is,
            series_total (drop (k - top) rs),
            b.low,
            ap (sum (λ (a : WorkRun). a.0)) (sym (take-append-drop (suc i) rs)),
            sum_append (λ (a : WorkRun). a.0) (take (suc i) rs) (drop (suc i) rs),
            ap (sum (λ (a : WorkRun). a.0)) (take-suc rs i no_work (omega (arith, one_of))),
            sum_append (λ (a : WorkRun). a.0) (take i rs) (child ∷ []),
            ap (λ (n : ℕ). sum (λ (a : WorkRun). a.0) (drop n rs)) steps,
          )

      -- it is linked to the first of those after it
      abbrev linked : Stack
      linked = record { top = v.top; runs = v.runs; next = set v.next here.last whole.first }

      abbrev longer : Run
      longer = record { total = whole.total + here.total; first = here.first; last = whole.last }

      pub chained_next : Chained linked longer (k - 1)
      unfolding joined_runs
      chained_next =
          let (es, e) = ahead_of in
          let rest = run_of series (drop (k - top) rs) in
          let (no_ahead, once, no_later) = apart here.last link_in in
          let one = run_next series in
          record {
            from_top = omega arith;
            to_end = omega arith;
            room = length-set v.next here.last whole.first ∙ c.room;
            runs_same = c.runs_same;
            ahead =
                entries_kept {w = v} {v = linked} top (take i rs) (record { runs_same = λ j l. refl })
                (λ u. omega (arith, b.once u, jobs_parted rs i (omega (arith, one_of)) u))
                (λ u m.
                get_or-set_other v.next here.last u whole.first 0
                (λ q. omega (arith, mem_count m, no_ahead, ap (λ (x : ℕ). occurrences x (jobs_of (take i rs))) q)))
                es;
            found =
                subst (λ (a : WorkRun). Found a linked.next longer) (sym one)
                (record {
                  total_is = omega (arith, c.found.total_is, e.total_is);
                  strand =
                      strand_link once (omega (arith, end_once)) (λ m. omega (arith, mem_count m, no_later)) (omega (arith, link_small, c.room))
                      e.strand c.found.strand;
                });
            others = λ u out.
                get_or-set_other v.next here.last u whole.first 0 (λ q. out (subst (λ (x : ℕ). Memᴰ x (jobs_of rs)) (sym q) link_among))
                ∙ c.others u out;
          }
        where
          end_once : occurrences whole.last (run_of series (drop (k - top) rs)).1 ≤ 1
          end_once =
              let u = whole.last in
              omega (
                arith,
                run_count series (drop (k - top) rs) u,
                ap (λ (n : ℕ). occurrences u (jobs_of (drop n rs))) steps,
                jobs_parted rs i (omega (arith, one_of)) u,
                b.once u,
              )

    module _ (best : Run) (c : Chosen best k) where
      child_at : Entry w (k - 1) child
      child_at = subst (λ (j : ℕ). Entry w j child) place (entry_at w top rs i (omega (arith, one_of)) b.entries).1

      -- a child whose total is not less than that of those after it
      pub chosen_child : best.total ≤ (run_at w (k - 1)).total → Chosen (run_at w (k - 1)) (k - 1)
      unfolding joined_runs
      chosen_child l =
          let rest = run_of parallel (drop (k - top) rs) in
          let not_less : ltb child.0 rest.0 ≡ false =
          false_unless (ltb child.0 rest.0) (λ e. omega (arith, ltb-true child.0 rest.0 e, child_at.total_is, c.found.total_is)) in
          record {
            from_top = omega arith;
            to_end = omega arith;
            found =
                subst (λ (a : WorkRun). Found a w.next (run_at w (k - 1)))
                (sym (run_next parallel ∙ ap (λ (x : Bool). cond x rest child) not_less)) child_at;
          }

      -- or they have more
      pub chosen_later : (run_at w (k - 1)).total < best.total → Chosen best (k - 1)
      unfolding joined_runs
      chosen_later l =
          let rest = run_of parallel (drop (k - top) rs) in
          let less : ltb child.0 rest.0 ≡ true = lt_true child.0 rest.0 (omega (arith, child_at.total_is, c.found.total_is)) in
          record {
            from_top = omega arith;
            to_end = omega arith;
            found =
                subst (λ (a : WorkRun). Found a w.next best) (sym (run_next parallel ∙ ap (λ (x : Bool). cond x rest child) less)) c.found;
          }

  -- all children

  all_from : (kind : Kind) (k : ℕ) → top ≤ k → k ≤ top → run_of kind (drop (k - top) rs) ≡ run_of kind rs
  all_from kind k l g = let none : k - top ≡ 0 = omega arith in ap (λ (n : ℕ). run_of kind (drop n rs)) none

  pub chained_all : (v : Stack) (whole : Run) (k : ℕ) → Chained v whole k → k ≤ top
      → Joined series rs end w (record { top = end; runs = set v.runs end whole; next = v.next })
  chained_all v whole k c l =
      rw c.runs_same
      (joined_at series whole v.next (subst (λ (a : WorkRun). Found a v.next whole) (all_from series k c.from_top l) c.found) c.room c.others)

  pub chosen_all : (best : Run) (k : ℕ) → Chosen best k → k ≤ top
      → Joined parallel rs end w (record { top = end; runs = set w.runs end best; next = w.next })
  chosen_all best k c l =
      joined_at parallel best w.next (subst (λ (a : WorkRun). Found a w.next best) (all_from parallel k c.from_top l) c.found) b.sized.next_size
      (λ u m. refl)
