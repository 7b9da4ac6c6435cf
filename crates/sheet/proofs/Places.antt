-- A place of a fault moved on by as many bytes as are ahead.
use Rattle.std.proofs.Common.{◌≡◌, ℕ, ◌+◌, Result, Ok, Err, MatchResult, refl, ap, subst, arith}
use Rattle.std.specs.Prelude.{IsErrAnd}
use Rattle.sheet.specs.Listing.{in_sheet}
use Rattle.sheet.specs.declared.Broken.{Broken}

abbrev pub moved : {T : Type 0} → ℕ → Result T Broken → Result T Broken
moved ahead (Ok x) = Ok x
moved ahead (Err b) = Err (record { at = ahead + b.at })

-- what `map_err` gives, by what its closure does
pub moved_is
    : {T : Type 0} (ahead : ℕ) (r m : Result T Broken) (Does : Broken → Broken → Type 0) → MatchResult r (λ x. m ≡ Ok x) (λ b. IsErrAnd m (Does b))
    → ((b e : Broken) → Does b e → e ≡ record { at = ahead + b.at }) → m ≡ moved ahead r
moved_is ahead (Ok x) m Does h does = h
moved_is ahead (Err b) (Ok y) Does h does = absurd h
moved_is ahead (Err b) (Err e) Does h does = ap (λ (f : Broken). Err f) (does b e h)

-- what was known of what it was given, where it gives a value, and where it gives a place

pub at_ok
    : {T : Type 0} (P : Result T Broken → Type 0) (ahead : ℕ) (r : Result T Broken) {x : T} → P r → moved ahead r ≡ Ok x → P (Ok x)
at_ok P ahead (Ok y) p e = subst P e p
at_ok P ahead (Err b) p e = let z : ◌≡◌ {A = ℕ} 0 1 = cc in absurd (omega arith)

pub at_err
    : {T : Type 0} (P : Result T Broken → Type 0) (ahead : ℕ) (r : Result T Broken) {f : Broken} → P r → moved ahead r ≡ Err f
    → (b : Broken) × P (Err b) × (f ≡ record { at = ahead + b.at })
at_err P ahead (Ok y) p e = let z : ◌≡◌ {A = ℕ} 0 1 = cc in absurd (omega arith)
at_err P ahead (Err b) p e = (b, p, cc)

-- of a read of order lines

pub in_sheet_ok : (ahead n : ℕ) (r : Result ℕ Broken) {m : ℕ} → moved ahead r ≡ Ok m → in_sheet ahead n r ≡ Ok (record { jobs = n; arcs = m })
in_sheet_ok ahead n (Ok k) e = cc
in_sheet_ok ahead n (Err b) e = cc

pub in_sheet_err : (ahead n : ℕ) (r : Result ℕ Broken) {f : Broken} → moved ahead r ≡ Err f → in_sheet ahead n r ≡ Err f
in_sheet_err ahead n (Ok k) e = cc
in_sheet_err ahead n (Err b) e = cc

pub in_sheet_moved : (start at n : ℕ) (r : Result ℕ Broken) → in_sheet start n (moved at r) ≡ in_sheet (start + at) n r
in_sheet_moved start at n (Ok m) = refl
in_sheet_moved start at n (Err b) =
    let e : start + (at + b.at) ≡ start + at + b.at = omega arith in ap (λ (p : ℕ). Err (record { at = p })) e
