-- What two reads in turn took of an input whose bytes are known.
use Rattle.std.proofs.Common.{◌≡◌, ℕ, ◌+◌, Option, List, ◌++◌, take, drop, sym, ap, ◌∙◌, subst}
use Rattle.std.specs.Io.KnownBytes.{Consumes}
use Rattle.std.proofs.KnownBytes.{Consumes-trans}
use Rattle.std.proofs.Math.Seq.{take-add}

-- the first took the bytes that a buffer begins with, and the second those that it put behind these
pub consumes_more : (a b c : Option (List ℕ)) (done last : ℕ) {len : ℕ} (buf buf' : List ℕ) → len ≡ done + last → take done buf' ≡ take done buf
    → Consumes a b (take done buf) → Consumes b c (take last (drop done buf')) → Consumes a c (take len buf')
consumes_more a b c done last buf buf' long stay first second =
    let joined = ap (λ n. take n buf') long ∙ take-add done last buf' ∙ ap (λ l. l ++ take last (drop done buf')) stay in
    subst (Consumes a c) (sym joined) (Consumes-trans a b c _ _ first second)
