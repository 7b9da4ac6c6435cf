-- A refusal as it is, an acceptance by what the areas and the sequences hold.
use Prim.Native.Nat.{ℕ}
use mathlib.Core.Path.{sym, ap}
use mathlib.Core.List.{List}
use native.Mathlib.Omega.{arith}
use lib.ListN.{replicate, length-replicate}
use Rattle.std.specs.Prelude.{Result}
use Rattle.record.specs.Layout.{most_record_bytes}
use Rattle.analysis.specs.Outcome.{roomy, sheet_outcome}
use Rattle.analysis.specs.Result.{rooms, Gives}
use Rattle.analysis.specs.declared.Analysis.{Analysis}
use Rattle.analysis.specs.declared.Refusal.{Refusal}
use Rattle.printer.specs.Text.{printed}
use Rattle.printer.proofs.Buffers.{prints_of}
use Rattle.printer.proofs.Given.{Parts, sheet_gives, sheet_parts, parts_limits, parts_whole, front_fits, front_size}
use Rattle.printer.proofs.outcome.sheet_text.Goals as goal
use Rattle.printer.proofs.outcome.sheet_text.Goals.{In-Ok}

-- the areas that are lent, as they begin, and what the analysis gives

abbrev bytes : List ℕ
bytes = replicate most_record_bytes 0

abbrev area : List ℕ
area = replicate 8192 0

given : (s : List ℕ) {r : Result Analysis Refusal} {bytes' area' : List ℕ} → Gives (sheet_outcome (rooms bytes area) s) bytes area r bytes' area'
    → Gives (sheet_outcome roomy s) bytes area r bytes' area'
given s g = sheet_gives s g (length-replicate {A = ℕ} most_record_bytes 0) (length-replicate {A = ℕ} 8192 0)

-- and where it accepts
parts : (c : goal.In-Ok) → Parts (sheet_outcome roomy c.args.sheet.now) c.in-Ok.made.accepted c.analyse_sheet.new.bytes c.analyse_sheet.new.area
    c.in-Ok.made.forward c.in-Ok.made.reverse
parts c = sheet_parts c.args.sheet.now (given c.args.sheet.now c.in-Ok.ensures)

pub overflow_mul-ends : goal.overflow_mul-ends
overflow_mul-ends c = record { fits = omega (arith, (parts (goal.at.overflow_mul-ends c).In-Ok).few_arcs) }

pub slice_bounds-bytes-end : goal.slice_bounds-bytes-end
slice_bounds-bytes-end c = front_fits (parts (goal.at.slice_bounds-bytes-end c).In-Ok).bytes_are

pub slice_bounds-accepted_text-end : goal.slice_bounds-accepted_text-end
slice_bounds-accepted_text-end c = front_size (parts (goal.at.slice_bounds-accepted_text-end c).In-Ok).bytes_are

pub slice_bounds-area-end : goal.slice_bounds-area-end
slice_bounds-area-end c = front_fits (parts (goal.at.slice_bounds-area-end c).In-Ok).arcs_are

pub slice_bounds-accepted_text-end-in-Ok : goal.slice_bounds-accepted_text-end-in-Ok
slice_bounds-accepted_text-end-in-Ok c = front_size (parts (goal.at.slice_bounds-accepted_text-end-in-Ok c).In-Ok).arcs_are

pub accepted_text-requires : goal.accepted_text-requires
accepted_text-requires c = rw c.from.ensures (parts_limits (parts (goal.at.accepted_text-requires c).In-Ok) _ (omega arith))

pub returns-in-Ok : goal.returns-in-Ok
returns-in-Ok c = prints_of (parts_whole (parts (goal.at.returns-in-Ok c).In-Ok)) (rw c.from.ensures at c.accepted_text.ensures)

pub returns-in-Err : goal.returns-in-Err
returns-in-Err c = prints_of (ap printed (sym (given c.args.sheet.now c.in-Err.ensures).refusal_is)) c.refused_text.ensures
