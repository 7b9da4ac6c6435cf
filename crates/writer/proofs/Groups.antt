-- The parts of a set are the blocks of a group.
use Prim.Native.Nat.{ℕ, ◌≤◌, ◌<◌}
use mathlib.Core.Path.{◌≡◌, refl, sym, ap, subst, ◌∙◌}
use mathlib.Core.List.{List, [], ◌∷◌, map}
use mathlib.Core.Bool.{Bool, true, false, ◌&&◌, not}
use mathlib.Core.Logic.{◌⊎◌, inl, inr, ⊎_elim}
use native.Mathlib.Omega.{arith}
use Rattle.poset.specs.Lists.{below}
use Rattle.poset.specs.Order.{Rel, Strict}
use Rattle.poset.specs.Tree.{Kind, series, parallel}
use Rattle.poset.specs.Decompose.{placed, arranged, comes_first}
use Rattle.poset.proofs.Laws.{decided, clash, and_left, and_right, and_intro, not-true, not-false, keep_mem, mem_keep, below_mem}
use Rattle.poset.proofs.Standing.{near, near_sym}
use Rattle.poset.proofs.Linked.{Shared, Linked}
use Rattle.poset.proofs.Shape.{Same}
use Rattle.poset.proofs.Components.{Of, OfBlocks, Sorted}
use Rattle.poset.proofs.Laying.{keep_sorted, placed_yes, placed_not}
use Rattle.poset.proofs.Decomposition.{below_sorted}
use Rattle.relation.specs.Table.{has, members}
use Rattle.writer.specs.Parts.{Walk, start, next, PartOf, StartsAt, Splits, bigger, laid_out}
use Rattle.writer.proofs.Reached.{reached_linked}
use Rattle.writer.proofs.Peeling.{Piece, Pieces, piece_fewer, parallel_piece, series_piece, series_group, parallel_group}
use Rattle.writer.proofs.Worklist.{GroupOf}

-- the jobs of a set in a list

pub members_sorted : (s : List ℕ) → Sorted (members s)
unfolding members
members_sorted s = keep_sorted (has s) (below 128) (below_sorted 128)

pub of_members : (s : List ℕ) (v : ℕ) → Of (members s) v → has s v ≡ true
unfolding members
of_members s v m = (mem_keep (has s) (below 128) m).1

pub members_of : (s : List ℕ) (v : ℕ) → v < 128 → has s v ≡ true → Of (members s) v
unfolding members
members_of s v l h = keep_mem (has s) (below_mem l) h

-- whatever near jobs of S share, a path carries along
path_carries : (close join : Rel) (S : ℕ → Type 0) → ((u v : ℕ) → S u → S v → close u v ≡ true → join u v ≡ true)
    → (L : ℕ → Type 0) → Shared join S L → {x u : ℕ} → S x → L x → Walk close S x u → S u × L u
path_carries close join S same L share s h start = (s, h)
path_carries close join S same L share s h (next {y = y} {v = v} p t e) =
    let (sy, ly) = path_carries close join S same L share s h p in
    (t, share y v sy t (same y v sy t e) ly)

abbrev pub kind_of : Bool → Kind
kind_of true = series
kind_of false = parallel

module _ (n : ℕ) (r close under : Rel) (strict : Strict n r) (few : n ≤ 128) (flag : Bool)
    (same : (u v : ℕ) → u < n → v < n → close u v ≡ near (kind_of flag) r u v) (turned : (u v : ℕ) → under u v ≡ r v u) where
  abbrev Small : List ℕ → Type 0
  Small s = (v : ℕ) → has s v ≡ true → v < n

  -- a set joined to one of its jobs is linked
  pub joined_linked : (s : List ℕ) (x : ℕ) → Small s → has s x ≡ true → ((u : ℕ) → has s u ≡ true → Walk close (λ v. has s v ≡ true) x u)
      → Linked (near (kind_of flag) r) (Of (members s))
  joined_linked s x small own joined =
      reached_linked (near (kind_of flag) r) x (Of (members s)) (near_sym (kind_of flag) r)
      (λ L share h u m. (path_carries close (near (kind_of flag) r) (λ v. has s v ≡ true) joins L (shared L share) own h (joined u (of_members s u m))).1)
    where
      joins : (u v : ℕ) → has s u ≡ true → has s v ≡ true → close u v ≡ true → near (kind_of flag) r u v ≡ true
      joins u v pu pv e = sym (same u v (small u pu) (small v pv)) ∙ e

      into : (v : ℕ) → has s v ≡ true → Of (members s) v
      into v q = members_of s v (omega (arith, small v q)) q

      shared : (L : ℕ → Type 0) → Shared (near (kind_of flag) r) (Of (members s)) L → Shared (near (kind_of flag) r) (λ v. has s v ≡ true) L
      shared L share u v pu pv = share u v (into u pu) (into v pv)

  part_linked : (s : List ℕ) (x : ℕ) (part : List ℕ) → Small s → PartOf close s x part → Linked (near (kind_of flag) r) (Of (members part))
  part_linked s x part small p = joined_linked part x (λ v q. small v (p.within v q)) p.own p.joined

  -- what is left of s
  module _ (s : List ℕ) (x : ℕ) (part rest : List ℕ) (small : Small s) (p : PartOf close s x part)
      (f : (v : ℕ) → has rest v ≡ (has s v && not (has part v))) where
    rest_in : (v : ℕ) → has rest v ≡ true → has s v ≡ true
    rest_in v q = and_left (has s v) (not (has part v)) (sym (f v) ∙ q)

    rest_not : (v : ℕ) → has rest v ≡ true → has part v ≡ false
    rest_not v q = not-true (has part v) (and_right (has s v) (not (has part v)) (sym (f v) ∙ q))

    differ : (u v : ℕ) → Of (members part) u → has rest v ≡ true → u ≡ v → ⊥
    differ u v m q e = clash (ap (has part) (sym e) ∙ of_members part u m) (rest_not v q)

    far : (u v : ℕ) → Of (members part) u → has rest v ≡ true → near (kind_of flag) r u v ≡ false
    far u v m q =
        let pu = of_members part u m in
        sym (same u v (small u (p.within u pu)) (small v (rest_in v q))) ∙ p.far u v pu (rest_in v q) (rest_not v q)

    own : Of (members part) x
    own = members_of part x (omega (arith, small x (p.within x p.own))) p.own

abbrev pub Alike : ℕ → Rel → Rel → Bool → Type 0
Alike n r close flag = (u v : ℕ) → u < n → v < n → close u v ≡ near (kind_of flag) r u v

-- a part stands to what is left as in a group
piece_of : (n : ℕ) (r close under : Rel) (strict : Strict n r) (few : n ≤ 128) (flag : Bool) (same : Alike n r close flag)
    (turned : (u v : ℕ) → under u v ≡ r v u) (s : List ℕ) (x : ℕ) (part rest : List ℕ) → ((v : ℕ) → has s v ≡ true → v < n)
    → StartsAt under flag s x → PartOf close s x part → ((v : ℕ) → has rest v ≡ (has s v && not (has part v)))
    → Piece (kind_of flag) r (members part) (λ v. has rest v ≡ true)
piece_of n r close under strict few true same turned s x part rest small at p f =
    series_piece n r strict (members part) (λ v. has rest v ≡ true) x
    (part_linked n r close under strict few true same turned s x part small p)
    (members_sorted part)
    (own n r close under strict few true same turned s x part rest small p f)
    (λ v q. sym (turned x v) ∙ at.first v (rest_in n r close under strict few true same turned s x part rest small p f v q))
    (far n r close under strict few true same turned s x part rest small p f)
    (differ n r close under strict few true same turned s x part rest small p f)
    (λ u m. small u (p.within u (of_members part u m)))
    (λ v q. small v (rest_in n r close under strict few true same turned s x part rest small p f v q))
piece_of n r close under strict few false same turned s x part rest small at p f =
    parallel_piece r (members part) (λ v. has rest v ≡ true) x
    (part_linked n r close under strict few false same turned s x part small p)
    (members_sorted part)
    (own n r close under strict few false same turned s x part rest small p f)
    (far n r close under strict few false same turned s x part rest small p f)
    (differ n r close under strict few false same turned s x part rest small p f)

module _ (n : ℕ) (r close under : Rel) (strict : Strict n r) (few : n ≤ 128) (flag : Bool) (same : Alike n r close flag)
    (turned : (u v : ℕ) → under u v ≡ r v u) where
  -- the parts have the jobs of the set
  splits_same : (parts : List (List ℕ)) (s : List ℕ) → ((v : ℕ) → has s v ≡ true → v < n) → Splits close under flag s parts
      → (v : ℕ) → (OfBlocks (map members parts) v → has s v ≡ true) × (has s v ≡ true → OfBlocks (map members parts) v)
  splits_same [] s small h v = ((λ p. absurd p), λ p. clash p (h v))
  splits_same (part ∷ parts) s small (x, rest, at, p, f, h) v =
      let ih = splits_same parts rest (λ u q. small u (inside u q)) h v in (
        ⊎_elim (λ m. p.within v (of_members part v m)) (λ m. inside v (ih.0 m)),
        λ q.
            ⊎_elim
            (λ a. inl (members_of part v (omega (arith, small v q)) a))
            (λ a. inr (ih.1 (f v ∙ and_intro (has s v) (not (has part v)) q (not-false (has part v) a))))
            (decided (has part v)),
      )
    where
      inside : (u : ℕ) → has rest u ≡ true → has s u ≡ true
      inside u q = and_left (has s u) (not (has part u)) (sym (f u) ∙ q)

  splits_pieces : (parts : List (List ℕ)) (s : List ℕ) → ((v : ℕ) → has s v ≡ true → v < n) → Splits close under flag s parts
      → Pieces (kind_of flag) r (map members parts) (λ v. ⊥)
  splits_pieces [] s small h = tt
  splits_pieces (part ∷ parts) s small (x, rest, at, p, f, h) = (
    piece_fewer (kind_of flag) r (members part) (λ v. has rest v ≡ true) (λ v. OfBlocks (map members parts) v ⊎ ⊥)
        (λ v. ⊎_elim (λ m. (splits_same parts rest inside h v).0 m) (λ m. absurd m))
        (piece_of n r close under strict few flag same turned s x part rest small at p f),
    splits_pieces parts rest inside h,
  )
    where
      inside : (u : ℕ) → has rest u ≡ true → u < n
      inside u q = small u (and_left (has s u) (not (has part u)) (sym (f u) ∙ q))

  splits_jobs_same : (parts : List (List ℕ)) (s : List ℕ) → ((v : ℕ) → has s v ≡ true → v < n) → Splits close under flag s parts
      → Same (OfBlocks (map members parts)) (Of (members s))
  splits_jobs_same parts s small h v = (
    (λ m. let q = (splits_same parts s small h v).0 m in members_of s v (omega (arith, small v q)) q),
    λ m. (splits_same parts s small h v).1 (of_members s v m),
  )

-- sets arranged are their blocks arranged
map_placed : (r : Rel) (p : List ℕ) (ps : List (List ℕ)) → map members (placed bigger p ps) ≡ placed (comes_first parallel r) (members p) (map members ps)
unfolding placed comes_first
map_placed r p [] = refl
map_placed r p (q ∷ qs) =
    ⊎_elim
    (λ e. ap (map members) (placed_yes bigger p q qs e) ∙ sym (placed_yes (comes_first parallel r) (members p) (members q) (map members qs) e))
    (λ e.
    ap (map members) (placed_not bigger p q qs e)
    ∙ ap (λ l. members q ∷ l) (map_placed r p qs)
    ∙ sym (placed_not (comes_first parallel r) (members p) (members q) (map members qs) e))
    (decided (bigger p q))

map_arranged : (r : Rel) (ps : List (List ℕ)) → map members (arranged bigger ps) ≡ arranged (comes_first parallel r) (map members ps)
unfolding arranged
map_arranged r [] = refl
map_arranged r (p ∷ ps) = map_placed r p (arranged bigger ps) ∙ ap (placed (comes_first parallel r) (members p)) (map_arranged r ps)

pub splits_group : (n : ℕ) (r close under : Rel) (strict : Strict n r) (few : n ≤ 128) (flag : Bool) (same : Alike n r close flag)
    (turned : (u v : ℕ) → under u v ≡ r v u) (parts : List (List ℕ)) (s : List ℕ) → ((v : ℕ) → has s v ≡ true → v < n) → Splits close under flag s parts
    → GroupOf (kind_of flag) r (members s) (map members (laid_out flag parts))
splits_group n r close under strict few true same turned parts s small h =
    series_group r (λ v. ⊥) (members s) (map members parts) (splits_pieces n r close under strict few true same turned parts s small h)
    (splits_jobs_same n r close under strict few true same turned parts s small h)
splits_group n r close under strict few false same turned parts s small h =
    subst (GroupOf parallel r (members s)) (sym (map_arranged r parts))
    (parallel_group n r strict (λ v. ⊥) (members s) (map members parts) (splits_pieces n r close under strict few false same turned parts s small h)
    (λ u m. small u (of_members s u m))
    (splits_jobs_same n r close under strict few false same turned parts s small h))
