-- The set of all jobs, which the writing of a tree begins with; and sets that are not taken apart, where it fails.
use Prim.Native.Nat.{ℕ, ◌+◌, ◌-◌, ◌≤◌, ◌<◌}
use mathlib.Core.Path.{◌≡◌, refl, sym, ap, ap₂, subst, fun_ext, ◌∙◌}
use mathlib.Core.List.{List, [], ◌∷◌, ◌++◌, append-nil, Memᴰ}
use mathlib.Core.Bool.{Bool, true, false, ◌&&◌, ◌||◌, not}
use mathlib.Core.Logic.{⊎_elim}
use native.Mathlib.Decide.{dec_lt}
use native.Mathlib.Omega.{arith}
use lib.Dec.{eqb, ltb}
use lib.ListN.{length, take}
use lib.Seq.{length-take-le, get_or-take}
use Rattle.poset.specs.Lists.{below, keep, up_from}
use Rattle.poset.specs.Order.{Rel, Strict, HasN, comparable, incomparable}
use Rattle.poset.specs.Tree.{Kind, series, parallel}
use Rattle.poset.proofs.Laws.{decided, clash, and_left, and_right, and_intro, not-true, not-false, false_unless}
use Rattle.poset.proofs.Laws.{ltb-true, lt_true, keep_yes, mem_below, mem_up_from, below_add}
use Rattle.poset.proofs.Sums.{length_below}
use Rattle.relation.proofs.Lists.{keep_append, keep_none}
use Rattle.poset.proofs.Standing.{near, near_sym, near_either}
use Rattle.poset.specs.Decompose.{arranged}
use Rattle.poset.specs.Inner.{Each}
use Rattle.poset.proofs.Linked.{Linked}
use Rattle.poset.proofs.Components.{Of, Sorted}
use Rattle.poset.proofs.Connected.{connected_n}
use Rattle.relation.specs.Table.{has, members, Least}
use Rattle.writer.specs.Parts.{size_of, lead, Walk, start, next, Partial, PartOf, Splits, Cut, Leading, Numbered, Taken, bigger, close_of}
use Rattle.writer.specs.Stack.{jobs_of}
use Rattle.writer.specs.declared.stack.Entry.{Entry}
use Rattle.writer.specs.Compared.{transpose, Tables}
use Rattle.writer.proofs.Searching.{path_within}
use Rattle.writer.proofs.Groups.{kind_of, Alike, joined_linked, members_sorted, of_members}
use Rattle.writer.proofs.Leads.{lead_least}
use Rattle.writer.proofs.Entries.{JoinedBy, EntryOk, splits_jobs, laid_sum, laid_count}
use Rattle.writer.proofs.Counting.{few_members, none_jobs}

-- one part only: the set is joined
pub one_part : (close under : Rel) (flag : Bool) (s part : List ℕ) → Splits close under flag s (part ∷ []) → JoinedBy close s
one_part close under flag s part (x, rest, at, p, f, h) =
    (x, p.within x p.own, λ u q. path_within close (λ v. has part v ≡ true) (λ v. has s v ≡ true) p.within (p.joined u (all u q)))
  where
    all : (u : ℕ) → has s u ≡ true → has part u ≡ true
    all u q = ⊎_elim (λ a. a) (λ a. absurd (clash (f u ∙ and_intro (has s u) (not (has part u)) q (not-false (has part u) a)) (h u))) (decided (has part u))

pub few_parts : (close under : Rel) (flag : Bool) (s : List ℕ) (ps : List (List ℕ)) → length ps < 2 → 0 < length (members s) → Splits close under flag s ps
    → JoinedBy close s
few_parts close under flag s [] l some h = absurd (omega (arith, none_jobs s h))
few_parts close under flag s (p ∷ []) l some h = one_part close under flag s p h
few_parts close under flag s (p ∷ q ∷ ps) l some h = absurd (omega arith)

module _ {n : ℕ} {under tied free : Rel} (t : Tables n under tied free) where
  abbrev r : Rel
  r = transpose under

  abbrev Small : List ℕ → Type 0
  Small s = (v : ℕ) → has s v ≡ true → v < n

  pub alike : (flag : Bool) → Alike n r (close_of flag tied free) flag
  alike true = t.free_is
  alike false = t.tied_is

  linked : (flag : Bool) (s : List ℕ) → Small s → JoinedBy (close_of flag tied free) s → Linked (near (kind_of flag) r) (Of (members s))
  linked flag s small j = joined_linked n r (close_of flag tied free) under t.strict t.few flag (alike flag) (λ u v. refl) s j.0 small j.1 j.2

  both_linked : (flag : Bool) (s : List ℕ) → Small s → JoinedBy (close_of flag tied free) s → JoinedBy (close_of (not flag) tied free) s
      → (k : Kind) → Linked (near k r) (Of (members s))
  both_linked true s small i j series = linked true s small i
  both_linked true s small i j parallel = linked false s small j
  both_linked false s small i j series = linked true s small j
  both_linked false s small i j parallel = linked false s small i

  -- two jobs or more, joined in both ways, have an N
  pub stuck : (e : Entry) → EntryOk n tied free e → (length (members e.set) ≡ 1 → ⊥) → JoinedBy (close_of e.series tied free) e.set → HasN n r
  stuck e ok more i = go (members e.set) refl
    where
      go : (xs : List ℕ) → members e.set ≡ xs → HasN n r
      go [] q = absurd (omega (arith, ok.some, ap length q))
      go (x ∷ []) q = absurd (more (ap length q))
      go (x ∷ y ∷ zs) q =
          connected_n n r t.strict x y zs
          (subst Sorted q (members_sorted e.set))
          (λ u m. ok.small u (of_members e.set u (subst (λ l. Of l u) (sym q) m)))
          (λ k. subst (λ l. Linked (near k r) (Of l)) q (both_linked e.series e.set ok.small i ok.joined k))

-- the set of all jobs
keep_all : (p : ℕ → Bool) (xs : List ℕ) → ((v : ℕ) → Memᴰ v xs → p v ≡ true) → keep p xs ≡ xs
unfolding keep
keep_all p [] h = refl
keep_all p (x ∷ xs) h = keep_yes p x xs (h x (Memᴰ.head refl)) ∙ ap (λ l. x ∷ l) (keep_all p xs (λ v m. h v (Memᴰ.tail m)))

pub members_all : (all : List ℕ) (n : ℕ) → n ≤ 128 → ((v : ℕ) → has all v ≡ ltb v n) → members all ≡ below n
unfolding members
members_all all n few h =
    let d = 128 - n in
    let e : 128 ≡ n + d = omega arith in
    ap (λ k. keep (has all) (below k)) e
    ∙ ap (keep (has all)) (below_add n d)
    ∙ keep_append (has all) (below n) (up_from n d)
    ∙ ap₂ ◌++◌
    (keep_all (has all) (below n) (λ v m. h v ∙ lt_true v n (mem_below n m)))
    (keep_none (has all) (up_from n d) (λ v m. h v ∙ false_unless (ltb v n) (λ q. omega (arith, ltb-true v n q, (mem_up_from n d m).0))))
    ∙ append-nil (below n)

-- the numbers are those of the parts that were found
as_found : {s : List ℕ} (count : ℕ) (parts : List (List ℕ)) {numbers numbers' : List ℕ} → Numbered s parts count numbers numbers'
    → Numbered s (take count parts) count numbers numbers'
as_found count parts n = record {
  size = n.size;
  here = λ i v l h. n.here i v l (ap (λ (p : List ℕ). has p v) (sym (get_or-take count parts i [] l)) ∙ h);
  others = n.others;
}

-- a series is laid out as it is taken apart
pub cut_taken : {close under : Rel} {s : List ℕ} {parts : List (List ℕ)} {count : ℕ} {numbers numbers' : List ℕ}
    → Cut close under true s parts count → Numbered s parts count numbers numbers' → Taken close under true s parts count numbers numbers'
cut_taken {parts = parts} {count = count} cut numbered =
    record { size = cut.size; few = cut.few; found = take count parts; splits = cut.these; numbered = as_found count parts numbered; these = refl }

-- side by side the parts are found by their smallest jobs

part_lead : (close : Rel) (s : List ℕ) (x : ℕ) (part : List ℕ) → Least s x → PartOf close s x part → lead part ≡ x
part_lead close s x part at p =
    lead_least part x record {
      small = at.small;
      member = p.own;
      least = λ v l. false_unless (has part v) (λ h. clash (p.within v h) (at.least v l));
    }

splits_above : (close under : Rel) (ps : List (List ℕ)) (s : List ℕ) (x : ℕ) → ((v : ℕ) → has s v ≡ true → x < v) → Splits close under false s ps
    → Each (λ q. x < lead q) ps
splits_above close under [] s x above h = tt
splits_above close under (p ∷ ps) s x above (y, rest, at, part, f, h) = (
  subst (λ (z : ℕ). x < z) (sym (part_lead close s y p at part)) (above y at.member),
  splits_above close under ps rest x (λ v q. above v (and_left (has s v) (not (has p v)) (sym (f v) ∙ q))) h,
)

splits_leading : (close under : Rel) (ps : List (List ℕ)) (s : List ℕ) → Splits close under false s ps → Leading ps
splits_leading close under [] s h = tt
splits_leading close under (p ∷ ps) s (x, rest, at, part, f, h) = (
  subst (λ (z : ℕ). Each (λ q. z < lead q) ps) (sym (part_lead close s x p at part)) (splits_above close under ps rest x later h),
  splits_leading close under ps rest h,
)
  where
    later : (v : ℕ) → has rest v ≡ true → x < v
    later v q =
        let inside = and_left (has s v) (not (has p v)) (sym (f v) ∙ q) in
        let outside = not-true (has p v) (and_right (has s v) (not (has p v)) (sym (f v) ∙ q)) in
        elim (dec_lt x v) [
          | yes l ↦ l
          | no l ↦ elim (dec_lt v x) [
            | yes k ↦ absurd (clash inside (at.least v k))
            | no k ↦ let e : x ≡ v = omega arith in absurd (clash (ap (has p) (sym e) ∙ part.own) outside)
          ]
        ]

-- and then arranged
module _ {close under : Rel} {s : List ℕ} {parts : List (List ℕ)} {count : ℕ} (cut : Cut close under false s parts count) where
  pub cut_few : count ≤ 128
  cut_few = omega (arith, cut.few, few_members s)

  pub cut_leading : Leading (take count parts)
  cut_leading = splits_leading close under (take count parts) s cut.these

  pub cut_arranged : {numbers numbers' : List ℕ} → Numbered s parts count numbers numbers' → (parts' : List (List ℕ))
      → length parts' ≡ 128 → take count parts' ≡ arranged bigger (take count parts) → Taken close under false s parts' count numbers numbers'
  cut_arranged numbered parts' size e = record {
    size = size;
    few = cut.few;
    found = take count parts;
    splits = cut.these;
    numbered = as_found count parts numbered;
    these = e;
  }

-- a set taken apart
module _ {close under : Rel} {flag : Bool} {s : List ℕ} {parts : List (List ℕ)} {count : ℕ} {numbers numbers' : List ℕ}
    (cut : Taken close under flag s parts count numbers numbers') where
  pub cut_count : length (members s) ≤ 128 → length (take count parts) ≡ count
  cut_count few = length-take-le count parts (omega (arith, cut.few, cut.size))

  pub cut_jobs : jobs_of (take count parts) ≡ length (members s)
  cut_jobs = ap jobs_of cut.these ∙ laid_sum flag size_of cut.found ∙ splits_jobs close under flag cut.found s cut.splits

  pub cut_joined : length (members s) ≤ 128 → count < 2 → 0 < length (members s) → JoinedBy close s
  cut_joined few l some =
      few_parts close under flag s cut.found (omega (arith, cut_count few, ap length cut.these, laid_count flag cut.found)) some cut.splits

-- the first entry: all jobs, a series if they split so, else what a series keeps together
module _ {n : ℕ} {under tied free : Rel} (t : Tables n under tied free) (pos : 0 < n) (all : List ℕ) (is_all : (v : ℕ) → has all v ≡ ltb v n) where
  all_small : (v : ℕ) → has all v ≡ true → v < n
  all_small v q = ltb-true v n (sym (is_all v) ∙ q)

  all_size : length (members all) ≡ n
  all_size = ap length (members_all all n t.few is_all) ∙ length_below n

  -- a job of a part and one outside it are comparable
  far_tied : (x : ℕ) (part : List ℕ) → PartOf free all x part → (u v : ℕ) → has part u ≡ true → has all v ≡ true → has part v ≡ false
      → tied u v ≡ true
  far_tied x part p u v pu av pv =
      let lu = all_small u (p.within u pu) in
      let lv = all_small v av in
      t.tied_is u v lu lv
      ∙ near_either series (transpose under) u v (λ e. clash (ap (has part) (sym e) ∙ pu) pv) (sym (t.free_is u v lu lv) ∙ p.far u v pu av pv)

  tied_back : (u v : ℕ) → has all u ≡ true → has all v ≡ true → tied u v ≡ true → tied v u ≡ true
  tied_back u v au av h =
      let lu = all_small u au in
      let lv = all_small v av in
      t.tied_is v u lv lu ∙ near_sym parallel (transpose under) u v (sym (t.tied_is u v lu lv) ∙ h)

  -- two parts of a series: all jobs are joined by comparability
  series_joined : (p q : List ℕ) (ps : List (List ℕ)) → Splits free under true all (p ∷ q ∷ ps) → JoinedBy tied all
  series_joined p q ps (x, rest, at, part, f, (y, rest', at', part', f', h)) = (x, part.within x part.own, joins)
    where
      y_rest : has rest y ≡ true
      y_rest = part'.within y part'.own

      y_all : has all y ≡ true
      y_all = and_left (has all y) (not (has p y)) (sym (f y) ∙ y_rest)

      y_not : has p y ≡ false
      y_not = not-true (has p y) (and_right (has all y) (not (has p y)) (sym (f y) ∙ y_rest))

      joins : (u : ℕ) → has all u ≡ true → Walk tied (λ v. has all v ≡ true) x u
      joins u au =
          ⊎_elim
          (λ pu.
          next (next start y_all (far_tied x p part x y part.own y_all y_not)) au (tied_back u y au y_all (far_tied x p part u y pu y_all y_not)))
          (λ pu. next start au (far_tied x p part x u part.own au pu))
          (decided (has p u))

  root_ok : (ps : List (List ℕ)) (flag : Bool) → flag ≡ ltb 1 (length ps) → Splits free under true all ps
      → EntryOk n tied free (record { set = all; start = 0; series = flag })
  root_ok ps flag e h =
      record {
        some = omega (arith, all_size);
        small = all_small;
        joined = subst (λ b. JoinedBy (close_of (not b) tied free) all) (sym e) (go ps h);
        fits = omega (arith, all_size);
      }
    where
      go : (ps : List (List ℕ)) → Splits free under true all ps → JoinedBy (close_of (not (ltb 1 (length ps))) tied free) all
      go [] h = few_parts free under true all [] (omega arith) (omega (arith, all_size)) h
      go (p ∷ []) h = few_parts free under true all (p ∷ []) (omega arith) (omega (arith, all_size)) h
      go (p ∷ q ∷ ps) h =
          subst (λ b. JoinedBy (close_of (not b) tied free) all) (sym (lt_true 1 (length (p ∷ q ∷ ps)) (omega arith))) (series_joined p q ps h)

  pub root_cut : {parts : List (List ℕ)} {count : ℕ} {numbers numbers' : List ℕ}
      → Taken free under true all parts count numbers numbers' → EntryOk n tied free (record { set = all; start = 0; series = ltb 1 count })
  root_cut {count = count} cut =
      root_ok cut.found (ltb 1 count) (ap (ltb 1) (sym (cut_count cut (omega (arith, all_size))) ∙ ap length cut.these)) cut.splits

-- the tables that the loop reads

pub tied_alike : (n : ℕ) (r tied under : Rel) → ((u v : ℕ) → under u v ≡ r v u) → ((u v : ℕ) → u < n → tied u v ≡ (r u v || under u v))
    → Alike n r tied false
unfolding comparable
tied_alike n r tied under turned h u v lu lv = h u v lu ∙ ap (λ b. r u v || b) (turned u v)

pub free_alike : (n : ℕ) (r free under : Rel) → ((u v : ℕ) → under u v ≡ r v u)
    → ((u v : ℕ) → u < n → free u v ≡ (ltb v n && (not (eqb u v) && not (r u v || under u v)))) → Alike n r free true
unfolding comparable incomparable
free_alike n r free under turned h u v lu lv =
    h u v lu
    ∙ ap₂ (λ a b. a && (not (eqb u v) && not (r u v || b))) (lt_true v n lv) (turned u v)
    ∙ ap (λ a. not (eqb u v) && a) (neither (r u v) (r v u))
  where
    neither : (a b : Bool) → not (a || b) ≡ (not a && not b)
    neither true b = refl
    neither false b = refl

pub under_partial : (n : ℕ) (r under : Rel) → Strict n r → ((u v : ℕ) → r u v ≡ true → (u < n) × (v < n)) → ((u v : ℕ) → under u v ≡ r v u)
    → Partial under
under_partial n r under strict inside turned =
    record {
      irreflexive = λ u. turned u u ∙ false_unless (r u u) (λ h. clash h (strict.irreflexive u (inside u u h).0));
      transitive =
          λ u v w p q.
          let a = sym (turned u v) ∙ p in
          let b = sym (turned v w) ∙ q in
          turned u w ∙ strict.transitive w v u (inside w v b).0 (inside w v b).1 (inside v u a).1 b a;
    }

pub transpose_is : (r under : Rel) → ((u v : ℕ) → under u v ≡ r v u) → transpose under ≡ r
transpose_is r under turned = fun_ext λ u. fun_ext λ v. turned v u

pub tables : (n : ℕ) (r under tied free : Rel) → 0 < n → n ≤ 128 → Strict n r → ((u v : ℕ) → r u v ≡ true → (u < n) × (v < n))
    → ((u v : ℕ) → under u v ≡ r v u) → ((u v : ℕ) → u < n → tied u v ≡ (r u v || under u v))
    → ((u v : ℕ) → u < n → free u v ≡ (ltb v n && (not (eqb u v) && not (r u v || under u v)))) → Tables n under tied free
tables n r under tied free some few strict inside turned t f =
    let same = sym (transpose_is r under turned) in
    record {
      some = some;
      few = few;
      strict = subst (Strict n) same strict;
      partial = under_partial n r under strict inside turned;
      tied_is = subst (λ q. Alike n q tied false) same (tied_alike n r tied under turned t);
      free_is = subst (λ q. Alike n q free true) same (free_alike n r free under turned f);
    }
