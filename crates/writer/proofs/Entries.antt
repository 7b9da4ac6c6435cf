-- The entries of the stack: what is known of each, and how a group's parts become entries.
use Prim.Native.Nat.{ℕ, ◌+◌, ◌-◌, ◌≤◌, ◌<◌}
use mathlib.Core.Path.{◌≡◌, refl, sym, ap, ap₂, subst, ◌∙◌}
use mathlib.Core.List.{List, [], ◌∷◌, ◌++◌, map, Memᴰ}
use mathlib.Core.Bool.{Bool, true, false, not, not-not}
use mathlib.Core.Logic.{⊎_elim}
use native.Mathlib.Omega.{arith}
use lib.ListN.{length}
use Rattle.poset.specs.Lists.{sum}
use Rattle.poset.specs.Order.{Rel}
use Rattle.poset.specs.Tree.{series, parallel}
use Rattle.poset.specs.Decompose.{placed, arranged}
use Rattle.poset.specs.Inner.{Each}
use Rattle.poset.proofs.Laws.{decided, and_left}
use Rattle.poset.proofs.Laying.{placed_yes, placed_not, arranged_each}
use Rattle.poset.proofs.Sums.{sum_const}
use Rattle.relation.specs.Table.{has, members}
use Rattle.record.specs.Layout.{kind_bit}
use Rattle.record.specs.Tokens.{group_token}
use Rattle.writer.specs.Parts.{Walk, Splits, bigger, laid_out, close_of}
use Rattle.writer.specs.Stack.{jobs_of, start_at, spread_out, group_field_of}
use Rattle.writer.specs.declared.stack.Entry.{Entry}
use Rattle.writer.proofs.Worklist.{Pending, spread, total}
use Rattle.writer.proofs.Counting.{none_jobs, cut_size}
use Rattle.writer.proofs.Groups.{kind_of, members_of}

-- a set whose jobs are all joined to one of them
abbrev pub JoinedBy : Rel → List ℕ → Type 0
JoinedBy close s = (x : ℕ) × (has s x ≡ true) × ((u : ℕ) → has s u ≡ true → Walk close (λ v. has s v ≡ true) x u)

-- an entry is a set of jobs that its group's parent keeps together
pub record EntryOk (n : ℕ) (tied free : Rel) (e : Entry) : Type 0 where
  pub some : 0 < length (members e.set)
  pub small : (v : ℕ) → has e.set v ≡ true → v < n
  pub joined : JoinedBy (close_of (not e.series) tied free) e.set
  pub fits : e.start + length (members e.set) ≤ n

abbrev pub Every : ℕ → Rel → Rel → List Entry → Type 0
Every n tied free [] = Unit {0}
Every n tied free (e ∷ es) = EntryOk n tied free e × Every n tied free es

pub every_append : (n : ℕ) (tied free : Rel) (es fs : List Entry) → Every n tied free es → Every n tied free fs → Every n tied free (es ++ fs)
every_append n tied free [] fs x y = y
every_append n tied free (e ∷ es) fs x y = (x.0, every_append n tied free es fs x.1 y)

abbrev pub sets_of : List Entry → List (List ℕ)
sets_of es = map (λ (e : Entry). e.set) es

pub jobs_append : (es fs : List Entry) → jobs_of (sets_of (es ++ fs)) ≡ jobs_of (sets_of es) + jobs_of (sets_of fs)
jobs_append [] fs = omega arith
jobs_append (e ∷ es) fs = omega (arith, jobs_append es fs)

pub jobs_spread : (flag : Bool) (start whole : ℕ) (ps : List (List ℕ)) → jobs_of (sets_of (spread_out flag start whole ps)) ≡ jobs_of ps
jobs_spread flag start whole [] = refl
jobs_spread flag start whole (p ∷ ps) = ap (λ k. length (members p) + k) (jobs_spread flag start whole ps)

-- as many as the parts
pub length_spread : (flag : Bool) (start whole : ℕ) (ps : List (List ℕ)) → length (spread_out flag start whole ps) ≡ length ps
length_spread flag start whole [] = refl
length_spread flag start whole (p ∷ ps) = omega (arith, length_spread flag start whole ps)

-- at least one job each
pub entries_few : (n : ℕ) (tied free : Rel) (es : List Entry) → Every n tied free es → length es ≤ jobs_of (sets_of es)
entries_few n tied free [] x = omega arith
entries_few n tied free (e ∷ es) x = omega (arith, x.0.some, entries_few n tied free es x.1)

-- entries as pending blocks
abbrev pub to_pending : Entry → Pending
to_pending e = record { block = members e.set; start = e.start }

abbrev pub pend : List Entry → List Pending
pend es = map to_pending es

pub pend_append : (es fs : List Entry) → pend (es ++ fs) ≡ pend es ++ pend fs
pend_append [] fs = refl
pend_append (e ∷ es) fs = ap (λ l. to_pending e ∷ l) (pend_append es fs)

total_jobs : (ps : List (List ℕ)) → total (map members ps) ≡ jobs_of ps
total_jobs [] = refl
total_jobs (p ∷ ps) = ap (λ k. length (members p) + k) (total_jobs ps)

spread_parallel : (start whole : ℕ) (ps : List (List ℕ)) → pend (spread_out false start whole ps) ≡ spread parallel start (map members ps)
spread_parallel start whole [] = refl
spread_parallel start whole (p ∷ ps) =
    ap₂ ◌∷◌ (ap (λ k. record { block = members p; start = start + k }) (sym (total_jobs ps))) (spread_parallel start whole ps)

spread_series : (start whole at : ℕ) (ps : List (List ℕ)) → at + jobs_of ps ≡ start + whole
    → pend (spread_out true start whole ps) ≡ spread series at (map members ps)
spread_series start whole at [] e = refl
spread_series start whole at (p ∷ ps) e =
    let here : start + whole - jobs_of ps - length (members p) ≡ at = omega arith in
    ap₂ ◌∷◌ (ap (λ k. record { block = members p; start = k }) here) (spread_series start whole (at + length (members p)) ps (omega arith))

pub pend_spread : (flag : Bool) (start whole : ℕ) (ps : List (List ℕ)) → jobs_of ps ≡ whole
    → pend (spread_out flag start whole ps) ≡ spread (kind_of flag) start (map members ps)
pend_spread true start whole ps e = spread_series start whole start ps (omega arith)
pend_spread false start whole ps e = spread_parallel start whole ps

pub field_token : (flag : Bool) (m : ℕ) → group_field_of flag m ≡ group_token (kind_of flag) m
unfolding kind_bit
field_token true m = refl
field_token false m = refl

-- parts have the jobs of their set
pub splits_jobs : (close under : Rel) (flag : Bool) (ps : List (List ℕ)) (s : List ℕ) → Splits close under flag s ps → jobs_of ps ≡ length (members s)
splits_jobs close under flag [] s h = sym (none_jobs s h)
splits_jobs close under flag (p ∷ ps) s (x, rest, at, part, f, h) =
    omega (arith, splits_jobs close under flag ps rest h, cut_size s rest p part.within f)

mem_length : {y : ℕ} {xs : List ℕ} → Memᴰ y xs → 0 < length xs
mem_length (Memᴰ.head e) = omega arith
mem_length (Memᴰ.tail m) = omega arith

-- in whatever order they are laid out

placed_sum : (test : List ℕ → List ℕ → Bool) (w : List ℕ → ℕ) (p : List ℕ) (ps : List (List ℕ)) → sum w (placed test p ps) ≡ w p + sum w ps
unfolding placed
placed_sum test w p [] = refl
placed_sum test w p (q ∷ qs) =
    ⊎_elim
    (λ e. ap (sum w) (placed_yes test p q qs e))
    (λ e. omega (arith, ap (sum w) (placed_not test p q qs e), placed_sum test w p qs))
    (decided (test p q))

pub laid_sum : (flag : Bool) (w : List ℕ → ℕ) (ps : List (List ℕ)) → sum w (laid_out flag ps) ≡ sum w ps
unfolding arranged
laid_sum true w ps = refl
laid_sum false w [] = refl
laid_sum false w (p ∷ ps) = omega (arith, placed_sum bigger w p (arranged bigger ps), laid_sum false w ps)

pub laid_count : (flag : Bool) (ps : List (List ℕ)) → length (laid_out flag ps) ≡ length ps
laid_count flag ps = omega (arith, sum_const 1 (laid_out flag ps), sum_const 1 ps, laid_sum flag (λ p. 1) ps)

pub laid_each : (flag : Bool) (P : List ℕ → Type 0) (ps : List (List ℕ)) → Each P ps → Each P (laid_out flag ps)
laid_each true P ps h = h
laid_each false P ps h = arranged_each bigger P ps h

-- they are entries of the group

pub record PartOk (n : ℕ) (close : Rel) (p : List ℕ) : Type 0 where
  pub some : 0 < length (members p)
  pub small : (v : ℕ) → has p v ≡ true → v < n
  pub joined : JoinedBy close p

pub splits_each : (n : ℕ) (close under : Rel) (flag : Bool) (ps : List (List ℕ)) (s : List ℕ) → ((v : ℕ) → has s v ≡ true → v < n) → n ≤ 128
    → Splits close under flag s ps → Each (PartOk n close) ps
splits_each n close under flag [] s small few h = tt
splits_each n close under flag (p ∷ ps) s small few (x, rest, at, part, f, h) = (
  record {
    some = mem_length (members_of p x (omega (arith, small x (part.within x part.own))) part.own);
    small = λ v q. small v (part.within v q);
    joined = (x, part.own, part.joined);
  },
  splits_each n close under flag ps rest (λ v q. small v (and_left (has s v) (not (has p v)) (sym (f v) ∙ q))) few h,
)

pub spread_every : (n : ℕ) (tied free : Rel) (flag : Bool) (start whole : ℕ) → start + whole ≤ n → (ps : List (List ℕ))
    → Each (PartOk n (close_of flag tied free)) ps → jobs_of ps ≤ whole → Every n tied free (spread_out flag start whole ps)
spread_every n tied free flag start whole room [] ok fit = tt
spread_every n tied free flag start whole room (p ∷ ps) ok fit = (
  record {
    some = ok.0.some;
    small = ok.0.small;
    joined = subst (λ b. JoinedBy (close_of b tied free) p) (sym (not-not flag)) ok.0.joined;
    fits = start_fits flag start whole (jobs_of ps) (length (members p)) n room fit;
  },
  spread_every n tied free flag start whole room ps ok.1 (omega arith),
)
  where
    start_fits : (b : Bool) (start whole later size n : ℕ) → start + whole ≤ n → size + later ≤ whole → start_at b start whole later size + size ≤ n
    start_fits true start whole later size n r l = omega arith
    start_fits false start whole later size n r l = omega arith
