-- Sequences linked through the list of next jobs.
use Prim.Native.Nat.{ℕ, ◌≤◌, ◌<◌}
use mathlib.Core.Path.{◌≡◌, refl, sym, ap, subst, ◌∙◌}
use mathlib.Core.List.{List, ◌∷◌, ◌++◌, Memᴰ}
use mathlib.Core.Bool.{true, false}
use mathlib.Core.Logic.{⊎_elim}
use lib.Dec.{eqb}
use native.Mathlib.Omega.{arith}
use lib.ListN.{length, get_or, set}
use lib.Seq.{get_or-set_same, get_or-set_other}
use Rattle.poset.specs.Lists.{occurrences}
use Rattle.poset.proofs.Laws.{decided, clash, eqb-true, eqb_same, count_same, count_other, mem_count}
use Rattle.reader.specs.Parts.{Strand, alone, followed}

strand_join : {next xs ys : List ℕ} {a b d : ℕ} → Strand next a xs b → Strand next (get_or next b 0) ys d → Strand next a (xs ++ ys) d
strand_join (alone a) q = followed a q
strand_join (followed a p) q = followed a (strand_join p q)

pub strand_last : {next xs : List ℕ} {a b : ℕ} → Strand next a xs b → Memᴰ b xs
strand_last (alone a) = Memᴰ.head refl
strand_last (followed a p) = Memᴰ.tail (strand_last p)

count_tail : (u x : ℕ) (xs : List ℕ) → occurrences u xs ≤ occurrences u (x ∷ xs)
count_tail u x xs =
    ⊎_elim
    (λ (e : eqb u x ≡ true). omega (arith, count_same u x xs (eqb-true u x e)))
    (λ (e : eqb u x ≡ false). omega (arith, count_other u x xs (λ q. clash (ap (eqb u) (sym q) ∙ eqb_same u) e)))
    (decided (eqb u x))

-- a sequence rests on what follows its jobs but the last
pub strand_kept : {next other xs : List ℕ} {a b : ℕ} → occurrences b xs ≤ 1
    → ((u : ℕ) → Memᴰ u xs → (u ≡ b → ⊥) → get_or other u 0 ≡ get_or next u 0) → Strand next a xs b → Strand other a xs b
strand_kept h e (alone a) = alone a
strand_kept {next} {other} {b = b} h e (followed a {ys} p) =
    let differ : a ≡ b → ⊥ = λ q. omega (arith, count_same b a ys (sym q), mem_count (strand_last p)) in
    let same : get_or other a 0 ≡ get_or next a 0 = e a (Memᴰ.head refl) differ in
    let rest : Strand other (get_or next a 0) ys b = strand_kept (omega (arith, count_tail b a ys)) (λ u m. e u (Memᴰ.tail m)) p in
    followed a (subst (λ (c : ℕ). Strand other c ys b) (sym same) rest)

-- the last job of one sequence followed by the first of another
pub strand_link : {next xs ys : List ℕ} {a b c d : ℕ} → occurrences b xs ≤ 1 → occurrences d ys ≤ 1 → (Memᴰ b ys → ⊥) → b < length next
    → Strand next a xs b → Strand next c ys d → Strand (set next b c) a (xs ++ ys) d
strand_link {next} {xs} {ys} {a} {b} {c} {d} once once' apart inside p q =
    strand_join
    (strand_kept once (λ u m differ. get_or-set_other next b u c 0 differ) p)
    (subst (λ (e : ℕ). Strand (set next b c) e ys d) (sym (get_or-set_same next b c 0 inside))
    (strand_kept once' (λ u m _. get_or-set_other next b u c 0 (λ e. apart (subst (λ (v : ℕ). Memᴰ v ys) e m))) q))
