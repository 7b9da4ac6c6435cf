-- What is told of a read, and of reading until the input ends or the buffer is full.
use Rattle.std.specs.Prelude.{ℕ, ◌+◌, ◌-◌, ◌≤◌, ◌<◌, ◌≡◌, Option, Result, Ok, Err, IfOk, MatchResult, List, length, take}
use Rattle.std.specs.Io.KnownBytes.{Consumes, IsAtEnd}
use Rattle.std.specs.declared.io.Error.{Error}
use Rattle.streams.specs.declared.Filled.{Filled}

-- what a read that is handed so many bytes may answer: an error, or how many bytes it read, no more than these
abbrev pub Moved : ℕ → Result ℕ Error → Type 0
Moved room answer = IfOk answer (λ k. k ≤ room)

-- what is told of a read after the first `done` bytes, by its answer: the error, or how many bytes there are then, and how many it gave
abbrev pub told : Result ℕ Error → ℕ → Result Filled Error
told (Ok k) done = Ok (record { len = done + k; last = k })
told (Err e) done = Err e

-- of what is told, how many bytes there are
abbrev pub length_of : Result Filled Error → Result ℕ Error
length_of (Ok r) = Ok r.len
length_of (Err e) = Err e

-- of what is told, how many bytes the last read gave
abbrev pub last_of : Result Filled Error → Result ℕ Error
last_of (Ok r) = Ok r.last
last_of (Err e) = Err e

-- r is told of one read more, into the buffer after its first `done` bytes, which stay
pub record MoreRead (done : ℕ) (buf buf' : List ℕ) (r : Result Filled Error) : Type 0 where
  pub answer : Result ℕ Error
  pub moved : Moved (length buf - done) answer
  pub is_told : r ≡ told answer done
  pub stay : take done buf' ≡ take done buf

-- one read after the other into a buffer that held buf, each after the bytes of those before it, and each gave something: what is told of the last
pub data Reads (buf : List ℕ) : List ℕ → Filled → Type 0 where
  none : Reads buf buf (record { len = 0; last = 0 })
  next : {buf' buf'' : List ℕ} {before r : Filled} → Reads buf buf' before → before.len < length buf → MoreRead before.len buf' buf'' (Ok r) → 0 < r.last
      → Reads buf buf'' r

-- the input is read, and r is told of the last read: the buffer is full, or that read gave nothing, at the input's end, or it failed
pub data InputRead (buf : List ℕ) : List ℕ → Result Filled Error → Type 0 where
  full : {buf' : List ℕ} {r : Filled} → Reads buf buf' r → length buf ≤ r.len → InputRead buf buf' (Ok r)
  ended : {buf' buf'' : List ℕ} {before r : Filled} → Reads buf buf' before → before.len < length buf → MoreRead before.len buf' buf'' (Ok r) → r.last ≡ 0
      → InputRead buf buf'' (Ok r)
  failed : {buf' buf'' : List ℕ} {before : Filled} {e : Error} → Reads buf buf' before → before.len < length buf → MoreRead before.len buf' buf'' (Err e)
      → InputRead buf buf'' (Err e)

-- an input whose bytes are known, those left before and those left now, is read into a buffer that then holds buf: so many of its bytes are those
-- that were taken, and it has room left only at the input's end; where a read failed, none that was taken is lost
abbrev pub KnownRead : Option (List ℕ) → Option (List ℕ) → List ℕ → Result ℕ Error → Type 0
KnownRead old new buf r =
    MatchResult r (λ n. Consumes old new (take n buf) × (n < length buf → IsAtEnd new)) (λ _. (n : ℕ) × (n ≤ length buf) × Consumes old new (take n buf))
