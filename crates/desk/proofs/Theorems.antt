-- All that this crate promises beside its calls' contracts: an answer can be taken from its number.
use Prim.Native.Nat.{ℕ}
use mathlib.Core.Path.{◌≡◌}
use mathlib.Core.List.{List}
use Rattle.record.specs.Bits.{AllBelow}
use Rattle.analysis.specs.Outcome.{Rooms, sheet_outcome, record_outcome}
use Rattle.longest.specs.Outcome.{run_outcome}
use Rattle.gangs.specs.Outcome.{gang_outcome}
use Rattle.reason.specs.Outcome.{reason_outcome}
use Rattle.preview.specs.Outcome.{previewed}
use Rattle.desk.specs.Packed.{packed, unpacked}
use Rattle.desk.proofs.Bounds.{sheet_narrow, record_narrow, run_narrow, gangs_narrow, reason_narrow, preview_narrow}
use Rattle.desk.proofs.Packing.{unpacked_packed}

pub unpacked_sheet : (rooms : Rooms) (s : List ℕ) → unpacked (packed (sheet_outcome rooms s).verdict) ≡ (sheet_outcome rooms s).verdict
unpacked_sheet rooms s = unpacked_packed (sheet_outcome rooms s).verdict (sheet_narrow rooms s)

pub unpacked_record
    : (room : ℕ) (bytes : List ℕ) → AllBelow 256 bytes → unpacked (packed (record_outcome room bytes).verdict) ≡ (record_outcome room bytes).verdict
unpacked_record room bytes below = unpacked_packed (record_outcome room bytes).verdict (record_narrow room bytes below)

pub unpacked_run : (bytes : List ℕ) → unpacked (packed (run_outcome bytes).verdict) ≡ (run_outcome bytes).verdict
unpacked_run bytes = unpacked_packed (run_outcome bytes).verdict (run_narrow bytes)

pub unpacked_gangs : (bytes : List ℕ) → unpacked (packed (gang_outcome bytes).verdict) ≡ (gang_outcome bytes).verdict
unpacked_gangs bytes = unpacked_packed (gang_outcome bytes).verdict (gangs_narrow bytes)

pub unpacked_reason : (bytes : List ℕ) (u v : ℕ) → unpacked (packed (reason_outcome bytes u v).verdict) ≡ (reason_outcome bytes u v).verdict
unpacked_reason bytes u v = unpacked_packed (reason_outcome bytes u v).verdict (reason_narrow bytes u v)

pub unpacked_preview
    : (n : ℕ) (hours list : List ℕ) (first second : ℕ) → unpacked (packed (previewed n hours list first second)) ≡ previewed n hours list first second
unpacked_preview n hours list first second = unpacked_packed (previewed n hours list first second) (preview_narrow n hours list first second)
