-- How many bytes there are after a read that went well.
use Rattle.std.proofs.Common.{◌≡◌, ℕ, ◌+◌, ◌-◌, ◌≤◌, List, Result, Ok, Err, length, arith}
use Rattle.std.specs.declared.io.Error.{Error}
use Rattle.streams.specs.declared.Filled.{Filled}
use Rattle.streams.specs.Reading.{Moved, told, MoreRead}

told_count : (answer : Result ℕ Error) (done room : ℕ) (r : Filled) → Ok r ≡ told answer done → Moved room answer
    → (r.len ≡ done + r.last) × (r.last ≤ room)
told_count (Ok k) done room r e m = grind arith
told_count (Err x) done room r e m = grind arith

pub more_count : {done : ℕ} {r : Filled} {buf buf' : List ℕ} → MoreRead done buf buf' (Ok r) → (r.len ≡ done + r.last) × (r.last ≤ length buf - done)
more_count {done} {r} {buf} m = told_count m.answer done (length buf - done) r m.is_told m.moved
