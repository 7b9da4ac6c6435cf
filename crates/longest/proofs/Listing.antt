-- The jobs of a run, from the first to the last.
use Prim.Native.Nat.{ℕ, suc, ◌+◌, ◌-◌, ◌≤◌, ◌<◌}
use mathlib.Core.Path.{◌≡◌, refl, sym, ap, subst, ◌∙◌}
use mathlib.Core.List.{List, [], ◌∷◌, ◌++◌}
use native.Mathlib.Omega.{arith}
use lib.ListN.{length, get_or, set, take, drop, replicate, take-append-drop, length-drop}
use lib.Seq.{drop-cons, drop-drop}
use Rattle.poset.specs.Lists.{occurrences}
use Rattle.poset.proofs.Laws.{count_append, count_same, mem_count}
use Rattle.reader.specs.Parts.{Strand, alone, followed}
use Rattle.reader.proofs.Strands.{strand_last}
use Rattle.reader.proofs.Walks.{below_at}
use Rattle.reader.proofs.Written.{written_all, written_more}
use Rattle.longest.specs.Stack.{Linked, Shown}

-- a run that goes on, and one at its last job

goes_on : {next xs : List ℕ} {a b : ℕ} → Strand next a xs b → (a ≡ b → ⊥) → (ys : List ℕ) × (xs ≡ a ∷ ys) × Strand next (get_or next a 0) ys b
goes_on (alone a) differ = absurd (differ refl)
goes_on (followed a {ys} p) differ = (ys, refl, p)

is_over : {next xs : List ℕ} {a b : ℕ} → Strand next a xs b → a ≡ b → occurrences b xs ≤ 1 → xs ≡ b ∷ []
is_over (alone a) e once = refl
is_over {b = b} (followed a {ys} p) e once = absurd (omega (arith, count_same b a ys (sym e), mem_count (strand_last p)))

some : {next xs : List ℕ} {a b : ℕ} → Strand next a xs b → 0 < length xs
some (alone a) = omega arith
some (followed a p) = omega arith

head_is : {next xs ys : List ℕ} {x a b : ℕ} → xs ≡ x ∷ ys → Strand next a xs b → x ≡ a
head_is e (alone a) = ap (λ (l : List ℕ). get_or l 0 0) (sym e)
head_is e (followed a p) = ap (λ (l : List ℕ). get_or l 0 0) (sym e)

module _ (next : List ℕ) (first last : ℕ) (xs : List ℕ) (l : Linked next first last xs) where
  -- after so many jobs: those written, and the run from the present one
  pub record Showed (jobs : List ℕ) (count job : ℕ) : Type 0 where
    pub inside : count < length xs
    pub written : jobs ≡ take count xs ++ replicate (128 - count) 0
    pub come : Strand next job (drop count xs) last

  pub showed_none : Showed (replicate 128 0) 0 first
  showed_none = record { inside = some l.strand; written = refl; come = l.strand }

  module _ (jobs : List ℕ) (count job : ℕ) (s : Showed jobs count job) where
    -- the present job
    here : get_or xs count 0 ≡ job
    here = head_is (drop-cons xs count 0 s.inside) s.come

    pub room : count < 128
    room = omega (arith, s.inside, l.small.1)

    pub job_small : job < 128
    job_small = subst (λ (x : ℕ). x < 128) here (below_at 128 xs count l.small.0 s.inside)

    pub showed_more : (job ≡ last → ⊥) → Showed (set jobs count job) (count + 1) (get_or next job 0)
    showed_more differ =
        let (ys, split, rest) = goes_on s.come differ in
        let one : count + 1 ≡ suc count = omega arith in
        let after : ys ≡ drop (count + 1) xs =
        ap (drop 1) (sym split) ∙ drop-drop 1 count xs in
        record {
          inside = omega (arith, some rest, ap length after, length-drop (count + 1) xs);
          written = written_more 128 xs count jobs s.written s.inside room job here;
          come = subst (λ (zs : List ℕ). Strand next (get_or next job 0) zs last) after rest;
        }

    pub showed_all : job ≡ last → Shown xs (record { count = count + 1; jobs = set jobs count last })
    showed_all e =
        let over : drop count xs ≡ last ∷ [] = is_over s.come e (omega (arith, l.once last, tail_count last)) in
        let end : count + 1 ≡ length xs = omega (arith, ap length over, length-drop count xs, s.inside) in
        record {
          count_is = end;
          jobs_are =
              written_all 128 xs (count + 1) (set jobs count last)
              (written_more 128 xs count jobs s.written s.inside room last (here ∙ e))
              end;
        }
      where
        tail_count : (u : ℕ) → occurrences u (drop count xs) ≤ occurrences u xs
        tail_count u = omega (arith, ap (occurrences u) (sym (take-append-drop count xs)), count_append u (take count xs) (drop count xs))
