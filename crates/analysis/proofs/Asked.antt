-- A question to a record whose answer has a verdict: 11 where the bytes are no record, and another number else.
use Prim.Native.Nat.{ℕ}
use mathlib.Core.Path.{◌≡◌, sym, ap, subst, ◌∙◌}
use mathlib.Core.List.{List, [], ◌∷◌}
use mathlib.Core.Logic.{◌↔◌, ◌≢◌, ◌⊎◌, inl, inr, ⊎_elim}
use Rattle.std.specs.Prelude.{None, Some}
use native.Mathlib.Omega.{arith}
use Rattle.poset.specs.Order.{Arc}
use Rattle.poset.specs.Tree.{Tree}
use Rattle.poset.proofs.Laws.{found_or_none}
use Rattle.record.specs.Bits.{AllBelow}
use Rattle.record.specs.Decode.{decode}
use Rattle.record.specs.Layout.{IsRecord}
use Rattle.record.proofs.Asked.{asked, asked_either, asked_told, asked_refused}
use Rattle.record.proofs.Theorems.{layout_decode, decode_none}
use Rattle.analysis.specs.Answer.{Answer, answer}
use Rattle.analysis.specs.Outcome.{Outcome}
use Rattle.analysis.specs.Claims.{Yield}
use Rattle.analysis.specs.Sentences.{First}
use Rattle.analysis.proofs.Demands.{yield_sheet}
use Rattle.analysis.proofs.Sheets.{Unyielded, yielded}

-- what is told of bytes that are no record, and of a record's job count, tree and hours
pub record Question (A : Type 0) : Type 0 where
  pub refused : A
  pub told : ℕ → Tree → List ℕ → A
  pub verdict : A → Answer
  pub refuses : verdict refused ≡ answer 11 0 0 0 0
  pub not_11 : (n : ℕ) (t : Tree) (hours : List ℕ) → (verdict (told n t hours)).number ≢ 11

module _ {A : Type 0} (q : Question A) where
  abbrev pub ask : List ℕ → A
  ask = asked q.refused q.told

  abbrev number : A → ℕ
  number a = (q.verdict a).number

  pub ask_told : (bytes : List ℕ) (n : ℕ) (t : Tree) (hours : List ℕ) → IsRecord bytes n t hours → ask bytes ≡ q.told n t hours
  ask_told = asked_told q.refused q.told

  number_11 : (bytes : List ℕ) → AllBelow 256 bytes → ((n : ℕ) (t : Tree) (hours : List ℕ) → IsRecord bytes n t hours → ⊥)
      → number (ask bytes) ≡ 11
  number_11 bytes below h = ap number (asked_refused q.refused q.told bytes below h) ∙ ap (λ (a : Answer). a.number) q.refuses

  -- 11 exactly where the bytes are no record
  pub ask_refused : (bytes : List ℕ) → AllBelow 256 bytes
      → (number (ask bytes) ≡ 11) ↔ ((n : ℕ) (t : Tree) (hours : List ℕ) → IsRecord bytes n t hours → ⊥)
  ask_refused bytes below = (λ e n t hours r. q.not_11 n t hours (sym (ap number (ask_told bytes n t hours r)) ∙ e), number_11 bytes below)

  -- else the number that the record has
  pub ask_number : (Next : ℕ → Tree → List ℕ → ℕ → Type 0) → ((n : ℕ) (t : Tree) (hours : List ℕ) → Next n t hours (number (q.told n t hours)))
      → (bytes : List ℕ) → AllBelow 256 bytes
      → First ((11, (n : ℕ) (t : Tree) (hours : List ℕ) → IsRecord bytes n t hours → ⊥) ∷ [])
      (λ k. (n : ℕ) × (t : Tree) × (hours : List ℕ) × IsRecord bytes n t hours × Next n t hours k) (number (ask bytes))
  ask_number Next next bytes below =
      ⊎_elim
      (λ (h : (x : ℕ × Tree × List ℕ) × (decode bytes ≡ Some x)).
      let ((n, t, hours), e) = h in
      let r = layout_decode bytes n t hours below e in
      inr (
        λ no. no n t hours r,
        (n, t, hours, r, subst (Next n t hours) (sym (ap number (ask_told bytes n t hours r))) (next n t hours)),
      ))
      (λ (h : decode bytes ≡ None). let no = (decode_none bytes below).0 h in inl (no, number_11 bytes below no))
      (found_or_none (decode bytes))

  -- exactly where no accepted sheet yields the bytes
  pub ask_unyielded : (bytes : List ℕ) → AllBelow 256 bytes → (number (ask bytes) ≡ 11) ↔ Unyielded bytes
  ask_unyielded bytes below = (
    λ e rooms s zero same.
        let (n, hours, arcs, form, y) = yield_sheet rooms s zero in
        (ask_refused bytes below).0 e n y.tree hours (subst (λ (b : List ℕ). IsRecord b n y.tree hours) same y.spells),
    λ h. (ask_refused bytes below).1 (λ n t hours r. yielded bytes n t hours r h),
  )

-- a question that every record answers

pub record Answered (A : Type 0) : Type 0 where
  pub refused : A
  pub told : ℕ → Tree → List ℕ → A
  pub verdict : A → Answer
  pub refuses : verdict refused ≡ answer 11 0 0 0 0
  pub accepts : (n : ℕ) (t : Tree) (hours : List ℕ) → verdict (told n t hours) ≡ answer 0 0 0 0 0

pub accepted_not_11 : (a : Answer) → a ≡ answer 0 0 0 0 0 → a.number ≢ 11
accepted_not_11 a e k = omega (arith, k, ap (λ (x : Answer). x.number) e)

abbrev pub question : {A : Type 0} → Answered A → Question A
question q =
    record {
      refused = q.refused;
      told = q.told;
      verdict = q.verdict;
      refuses = q.refuses;
      not_11 = λ n t hours. accepted_not_11 (q.verdict (q.told n t hours)) (q.accepts n t hours);
    }

module _ {A : Type 0} (q : Answered A) where
  abbrev answered : List ℕ → A
  answered = ask (question q)

  -- 0 and no places, or 11 and none
  pub ask_verdict : (bytes : List ℕ) → (q.verdict (answered bytes) ≡ answer 0 0 0 0 0) ⊎ (q.verdict (answered bytes) ≡ answer 11 0 0 0 0)
  ask_verdict bytes =
      ⊎_elim
      (λ (h : (n : ℕ) × (t : Tree) × (hours : List ℕ) × (answered bytes ≡ q.told n t hours)).
      let (n, t, hours, e) = h in inl (ap q.verdict e ∙ q.accepts n t hours))
      (λ (h : answered bytes ≡ q.refused). inr (ap q.verdict h ∙ q.refuses))
      (asked_either q.refused q.told bytes)

  -- where it is not 0, nothing else is told
  pub ask_empty : (bytes : List ℕ) → (q.verdict (answered bytes)).number ≢ 0 → answered bytes ≡ q.refused
  ask_empty bytes bad =
      ⊎_elim
      (λ (h : (n : ℕ) × (t : Tree) × (hours : List ℕ) × (answered bytes ≡ q.told n t hours)).
      let (n, t, hours, e) = h in absurd (bad (ap (λ (a : A). (q.verdict a).number) e ∙ ap (λ (a : Answer). a.number) (q.accepts n t hours))))
      (λ (h : answered bytes ≡ q.refused). h)
      (asked_either q.refused q.told bytes)

  -- 0 of the record that an accepted sheet or pair list gets
  pub ask_yield : {n : ℕ} {hours : List ℕ} {arcs : List Arc} {o : Outcome} → Yield n hours arcs o → q.verdict (answered o.bytes) ≡ answer 0 0 0 0 0
  ask_yield {n} {hours} {o = o} y = ap q.verdict (ask_told (question q) o.bytes n y.tree hours y.spells) ∙ q.accepts n y.tree hours
