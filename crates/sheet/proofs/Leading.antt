-- Bytes that lead from a state to another: one run after another, as a scan, and in a copy.
use Rattle.std.proofs.Common.{◌≡◌, ℕ, suc, ◌+◌, ◌<◌, ◌≤◌, ◌⊎◌, List, length, get_or, drop, sym}
use Rattle.std.proofs.Common.{refl, ap, ◌∙◌, subst, ap₂, inl, inr, ⊎_elim, add-one, arith, drop_of_length-le, drop-cons}
use Rattle.std.specs.Prelude.{None, Some}
use native.Mathlib.Decide.{dec_lt}
use lib.ListN.{get_or-eq_default}
use Rattle.sheet.specs.Scan.{State, broken, hours_ahead, arcs_ahead, field_of, faulty, step, whole, scan_from}
use Rattle.sheet.specs.Reading.{Leads, stay, byte, Breaks}
use Rattle.sheet.proofs.Scanning.{scan_step, scan_fault, scan_short}

-- a byte other than 0 stands ahead of the end
pub is_there : (s : List ℕ) (at : ℕ) → 0 < get_or s at 0 → at < length s
is_there s at z = elim (dec_lt at (length s)) [ yes l ↦ l | no l ↦ absurd (omega (arith, get_or-eq_default s 0 {n = at} (omega arith))) ]

module _ {s : List ℕ} where
  -- one byte, by its value
  pub leads_byte : {t u : State} {at : ℕ} (b : ℕ) → get_or s at 0 ≡ b → 0 < b → step t b ≡ Some u → Leads s t at u (at + 1)
  leads_byte {t} {u} {at} b e z goes = byte {at = at} (omega arith) (ap (step t) e ∙ goes) stay

  pub leads_join : {t u v : State} {a b c : ℕ} → Leads s t a u b → Leads s u b v c → Leads s t a v c
  leads_join stay l = l
  leads_join (byte z e k) l = byte z e (leads_join k l)

  pub leads_on : {t u : State} {a b : ℕ} → Leads s t a u b → (a < b) ⊎ ((a ≡ b) × (t ≡ u))
  leads_on stay = inr (refl, refl)
  leads_on (byte z e k) = inl (⊎_elim (λ h. omega arith) (λ h. omega (arith, h.0)) (leads_on k))

  pub leads_within : {t u : State} {a b : ℕ} → Leads s t a u b → a ≤ length s → b ≤ length s
  leads_within stay h = h
  leads_within {a = a} (byte z e k) h = leads_within k (omega (arith, is_there s a z))

  pub leads_scan
      : (start : ℕ) {t u : State} {a b : ℕ} → Leads s t a u b → scan_from t (start + a) (drop a s) ≡ scan_from u (start + b) (drop b s)
  leads_scan start stay = refl
  leads_scan start {t} {u} {a} {b} (byte {u = w} z e k) =
      let place : start + a + 1 ≡ start + (a + 1) = omega arith in
      rw (drop-cons s a 0 (is_there s a z))
      (scan_step t (start + a) (get_or s a 0) (drop (suc a) s) e
      ∙ ap (λ (x : ℕ). scan_from w x (drop (suc a) s)) place
      ∙ ap (λ (x : ℕ). scan_from w (start + (a + 1)) (drop x s)) (sym (add-one a))
      ∙ leads_scan start k)

  unfoldable pub breaks_join
      : {t u : State} {a b place : ℕ} → Leads s t a u b → hours_ahead (field_of u) ≡ hours_ahead (field_of t)
      → arcs_ahead (field_of u) ≡ arcs_ahead (field_of t) → whole u ≡ None → Breaks s u b place → Breaks s t a place
  breaks_join l d e w k = record {
    reached = k.reached;
    leads = leads_join l k.leads;
    same_hours = k.same_hours ∙ d;
    same_arcs = k.same_arcs ∙ e;
    stuck = k.stuck;
    unfinished = λ _. ⊎_elim k.unfinished (λ h. subst (λ (x : State). whole x ≡ None) h.1 w) (leads_on k.leads);
  }

  pub breaks_scan
      : (start : ℕ) {t : State} {a place : ℕ} → Breaks s t a place → (whole t ≡ None) ⊎ (a < length s) → a ≤ length s
      → scan_from t (start + a) (drop a s) ≡ broken (start + place) (hours_ahead (field_of t)) (arcs_ahead (field_of t))
  breaks_scan start {t} {a} {place} k w h =
      leads_scan start k.leads ∙ fault ∙ ap₂ (broken (start + place)) k.same_hours k.same_arcs
    where
      fault : scan_from k.reached (start + place) (drop place s) ≡ faulty k.reached (start + place)
      fault =
          elim (dec_lt place (length s)) [
            | yes l ↦ rw (drop-cons s place 0 l) (scan_fault k.reached (start + place) (get_or s place 0) (drop (suc place) s) k.stuck)
            | no l ↦
                rw (drop_of_length-le s {i = place} (omega arith))
                (scan_short k.reached (start + place)
                (⊎_elim k.unfinished
                (λ h.
                subst (λ (x : State). whole x ≡ None) h.1 (⊎_elim (λ e. e) (λ (m : a < length s). absurd (omega (arith, h.0))) w))
                (leads_on k.leads)))
          ]

-- in bytes that are the same, zeros after them aside

module _ {p s : List ℕ} (same : (i : ℕ) → get_or p i 0 ≡ get_or s i 0) where
  pub leads_same : {t u : State} {a b : ℕ} → Leads p t a u b → Leads s t a u b
  leads_same stay = stay
  leads_same {t} {a = a} (byte z e k) = byte (subst (λ (x : ℕ). 0 < x) (same a) z) (ap (step t) (sym (same a)) ∙ e) (leads_same k)

  unfoldable pub breaks_same : {t : State} {a place : ℕ} → Breaks p t a place → Breaks s t a place
  breaks_same {place = place} k = record {
    reached = k.reached;
    leads = leads_same k.leads;
    same_hours = k.same_hours;
    same_arcs = k.same_arcs;
    stuck = ap (step k.reached) (sym (same place)) ∙ k.stuck;
    unfinished = k.unfinished;
  }
