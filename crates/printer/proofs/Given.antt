-- What the analysis gives for an accepted sheet, taken out of its answer and areas again.
use Prim.Native.Nat.{ℕ, ◌+◌, ◌*◌, ◌/◌, ◌≤◌, ◌<◌}
use mathlib.Core.Path.{◌≡◌, sym, ap, ap₂, ◌∙◌}
use mathlib.Core.List.{List, ◌++◌}
use native.Mathlib.Omega.{arith}
use lib.ListN.{length, take, drop, get_or, length-take, get_or-append}
use lib.Seq.{take_at}
use Rattle.std.specs.Prelude.{Result, Ok}
use Rattle.poset.specs.Areas.{overlay, arc_bytes}
use Rattle.poset.specs.Order.{Arc, before}
use Rattle.poset.specs.Tree.{leaves, groups}
use Rattle.poset.proofs.Areas.{bytes_length}
use Rattle.poset.proofs.Theorems.{tree_is_strict, reduction_fits}
use Rattle.relation.specs.Arcs.{pairs}
use Rattle.record.specs.Layout.{leaf_bits, most_record_bytes}
use Rattle.record.proofs.Sizes.{length_leaves}
use Rattle.record.proofs.Theorems.{layout_length}
use Rattle.writer.proofs.Worklist.{reversed_length}
use Rattle.analysis.specs.Answer.{Answer, answer}
use Rattle.analysis.specs.Outcome.{roomy, Outcome, sheet_outcome}
use Rattle.analysis.specs.Result.{accepted_answer, answer_told, refusal_answer, rooms, Gives}
use Rattle.analysis.specs.declared.Accepted.{Accepted}
use Rattle.analysis.specs.declared.Analysis.{Analysis}
use Rattle.analysis.specs.declared.Refusal.{Refusal}
use Rattle.analysis.specs.declared.answer.Answer.{Answer as Told}
use Rattle.analysis.specs.Claims.{Yield}
use Rattle.analysis.proofs.Steps.{pairs_bytes}
use Rattle.analysis.proofs.Inputs.{sheet_fate}
use Rattle.analysis.proofs.Answers.{sheet_yield}
use Rattle.analysis.proofs.Telling.{refusal_number}
use Rattle.analysis.proofs.Crossing.{gives_same}
use Rattle.printer.specs.Text.{accepted, accepted_text, printed}
use Rattle.printer.specs.Buffer.{Limits}
use Rattle.printer.proofs.FirstByte.{first_byte}

-- the first k elements of a list, as many as xs has, are xs

pub record Front (k : ℕ) (l xs : List ℕ) : Type 0 where
  pub these : take k l ≡ xs
  pub many : k ≡ length xs

pub front_size : {k : ℕ} {l xs : List ℕ} → Front k l xs → k ≡ length (take k l)
front_size f = f.many ∙ sym (ap length f.these)

pub front_fits : {k : ℕ} {l xs : List ℕ} → Front k l xs → k ≤ length l
front_fits {k} {l} f = omega (arith, front_size f, length-take k l)

front : {k : ℕ} {l : List ℕ} (xs ys : List ℕ) → l ≡ xs ++ ys → k ≡ length xs → Front k l xs
front {k} xs ys e n = record { these = ap (take k) e ∙ take_at xs ys k (sym n); many = n }

-- outcomes that differ in their hours alone are printed alike
printed_same
    : (o p : Outcome) → o.verdict ≡ p.verdict → o.bytes ≡ p.bytes → o.arcs ≡ p.arcs → o.forward ≡ p.forward → o.reverse ≡ p.reverse
    → printed o ≡ printed p
unfolding printed accepted_text
printed_same o p v b a f r = rw (v, b, a, f, r)

-- an acceptance, taken out of what it counts, the areas and the sequences

pub record Parts (o : Outcome) (told : Accepted) (bytes area forward reverse : List ℕ) : Type 0 where
  pub bytes_are : Front (told.bytes) bytes o.bytes
  pub arcs_are : Front (2 * told.arcs) area (arc_bytes o.arcs)
  pub forward_are : Front (get_or bytes 0 0 / 2 + 1) forward o.forward
  pub reverse_are : Front (get_or bytes 0 0 / 2 + 1) reverse o.reverse
  pub few_bytes : told.bytes ≤ most_record_bytes
  pub few_arcs : told.arcs ≤ 4096
  pub few_jobs : get_or bytes 0 0 / 2 + 1 ≤ 128
  pub verdict_is : answer 0 (told.bytes) (told.arcs) (told.groups) 0 ≡ o.verdict

module _ {n : ℕ} {hours : List ℕ} {arcs : List Arc} {o : Outcome} (y : Yield n hours arcs o) {bytes area : List ℕ} {r : Analysis} {bytes' area' : List ℕ}
    (g : Gives o bytes area (Ok r) bytes' area') where
  abbrev told : Accepted
  told = r.accepted

  counts : accepted_answer told ≡ answer 0 (length o.bytes) (length o.arcs) (groups y.tree) 0
  counts = g.answers ∙ y.verdict_is

  long : (length o.bytes ≡ (7 + leaf_bits * n + 9 * groups y.tree + 7) / 8) × (length o.bytes ≤ most_record_bytes)
  long =
      let e = ap length y.bytes_are in
      let l = layout_length n hours y.tree y.spells.most y.means.spans in
      (e ∙ l.0, omega arith)

  jobs : get_or bytes' 0 0 / 2 + 1 ≡ n
  unfolding overlay
  jobs =
      let some_byte : 0 < length o.bytes = omega (arith, long.0) in
      ap (λ (l : List ℕ). get_or l 0 0 / 2 + 1) g.record_is
      ∙ ap (λ (b : ℕ). b / 2 + 1) (get_or-append o.bytes (drop (length o.bytes) bytes) 0 0 some_byte)
      ∙ ap (λ (l : List ℕ). get_or l 0 0 / 2 + 1) y.bytes_are
      ∙ first_byte n hours y.tree y.spells.least y.spells.most

  jobs_long : length (leaves y.tree) ≡ n
  jobs_long = length_leaves n y.tree y.means.spans

  parts : Parts o told bytes' area' r.forward r.reverse
  unfolding overlay
  parts =
      let few = reduction_fits n (before n arcs) y.spells.most (tree_is_strict n (before n arcs) y.tree y.means) in
      let counted : told.bytes ≡ length o.bytes = ap (λ (a : Answer). a.first) counts in
      let listed : told.arcs ≡ length o.arcs = ap (λ (a : Answer). a.second) counts in
      record {
        bytes_are = front o.bytes _ g.record_is counted;
        arcs_are = front (arc_bytes o.arcs) _ g.arcs_are (ap (λ (k : ℕ). 2 * k) listed ∙ sym (bytes_length o.arcs));
        forward_are = front o.forward _ g.forward_is (jobs ∙ sym (ap length y.forward_is ∙ jobs_long));
        reverse_are = front o.reverse _ g.reverse_is (jobs ∙ sym (ap length y.reverse_is ∙ reversed_length y.tree ∙ jobs_long));
        few_bytes = omega (arith, long.1);
        few_arcs = omega (arith, ap length y.arcs_are);
        few_jobs = omega (arith, jobs, y.spells.most);
        verdict_is = g.answers;
      }

-- of the analysis of a sheet, where the areas are those that the program lends
pub sheet_gives : (s : List ℕ) {bytes area bytes' area' : List ℕ} {r : Result Analysis Refusal} → Gives (sheet_outcome (rooms bytes area) s) bytes area r bytes' area'
    → length bytes ≡ most_record_bytes → length area ≡ 8192 → Gives (sheet_outcome roomy s) bytes area r bytes' area'
sheet_gives s g p q = gives_same (ap₂ (λ (a b : ℕ). sheet_outcome (record { record_room = a; arc_room = b }) s) p q) g

pub sheet_parts : (s : List ℕ) {bytes area bytes' area' : List ℕ} {r : Analysis} → Gives (sheet_outcome roomy s) bytes area (Ok r) bytes' area'
    → Parts (sheet_outcome roomy s) r.accepted bytes' area' r.forward r.reverse
sheet_parts s g =
    let zero : (sheet_outcome roomy s).verdict.number ≡ 0 = sym (ap (λ (a : Answer). a.number) g.answers) in
    parts (sheet_yield roomy s (sheet_fate roomy s) zero).4 g

-- what is printed

-- a refusal's number is never 0
pub refused_number : (told : Told) (r : Refusal) → answer_told told ≡ refusal_answer r → 0 < told.number
refused_number told r t = omega (arith, ap (λ (a : Answer). a.number) t, refusal_number r)

module _ {o : Outcome} {told : Accepted} {bytes area forward reverse : List ℕ} (p : Parts o told bytes area forward reverse) where
  pub parts_limits : (held : List ℕ) → 40000 ≤ length held
      → Limits (take (told.bytes) bytes) (take (2 * told.arcs) area) (take (get_or bytes 0 0 / 2 + 1) forward)
      (take (get_or bytes 0 0 / 2 + 1) reverse) held
  parts_limits held room = record {
    record_long = omega (arith, front_size p.bytes_are, p.few_bytes);
    arcs_long = omega (arith, front_size p.arcs_are, p.few_arcs);
    forward_long = omega (arith, front_size p.forward_are, p.few_jobs);
    reverse_long = omega (arith, front_size p.reverse_are, p.few_jobs);
    room = room;
  }

  pub parts_whole : printed (accepted (told.arcs) (told.groups) (take (told.bytes) bytes) (take (2 * told.arcs) area)
      (take (get_or bytes 0 0 / 2 + 1) forward) (take (get_or bytes 0 0 / 2 + 1) reverse)) ≡ printed o
  unfolding accepted
  parts_whole =
      let v : answer 0 (length (take (told.bytes) bytes)) (told.arcs) (told.groups) 0 ≡ o.verdict =
      ap (λ (k : ℕ). answer 0 k (told.arcs) (told.groups) 0) (sym (front_size p.bytes_are)) ∙ p.verdict_is in
      let a : pairs (take (2 * told.arcs) area) ≡ o.arcs = ap pairs p.arcs_are.these ∙ pairs_bytes o.arcs in
      printed_same _ o v p.bytes_are.these a p.forward_are.these p.reverse_are.these
