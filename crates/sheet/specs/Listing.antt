-- What a reader of sheets gives, and leaves in the lent lists.
use Rattle.std.specs.Prelude.{◌≡◌, ℕ, ◌+◌, ◌*◌, ◌/◌, ◌<◌, ◌≤◌, List, [], ◌∷◌, ◌++◌, length, take, drop, Result, Ok, Err, IfErr}
use Rattle.poset.specs.Areas.{overlay, arc_bytes}
use Rattle.poset.specs.Order.{Arc}
use Rattle.sheet.specs.Scan.{Read, sheet, broken, State, in_number, after_hours, scan_from}
use Rattle.sheet.specs.Reading.{longest_line, Leads, Breaks, at_line}
use Rattle.sheet.specs.declared.Reached.{Reached}
use Rattle.sheet.specs.declared.Sheet.{Sheet}
use Rattle.sheet.specs.declared.Broken.{Broken}

-- the hours over what a list held: as many as have room
unfoldable pub hours_listing : List ℕ → List ℕ → List ℕ
hours_listing hours held = overlay (take (length held) hours) held

-- the arcs' numbers over what a list held: as many arcs as have room
unfoldable pub listing : List Arc → List ℕ → List ℕ
listing arcs held = overlay (arc_bytes (take (length held / 2) arcs)) held

-- the result of a read: the count and how many arcs, or the place of the fault
unfoldable pub result_of : Read → Result Sheet Broken
result_of (sheet n hours arcs) = Ok (record { jobs = n; arcs = length arcs })
result_of (broken at hours arcs) = Err (record { at = at })

-- the hours and the arcs that were read: all, or those ahead of the fault

unfoldable pub hours_in : Read → List ℕ
hours_in (sheet n hours arcs) = hours
hours_in (broken at hours arcs) = hours

unfoldable pub arcs_in : Read → List Arc
arcs_in (sheet n hours arcs) = arcs
arcs_in (broken at hours arcs) = arcs

-- a read of a sheet, as a result and two lists
pub record Answers (read : Read) (held_hours held : List ℕ) (r : Result Sheet Broken) (hours list : List ℕ) : Type 0 where
  pub result : r ≡ result_of read
  pub hours_listed : hours ≡ hours_listing (hours_in read) held_hours
  pub listed : list ≡ listing (arcs_in read) held

-- Inner contracts: who reads the promise of read_sheet need not believe what follows.

-- a list with the hours of job i beside those ahead of it
pub record AddsHours (i h : ℕ) (entry exit : List ℕ) : Type 0 where
  pub adds : (hours held : List ℕ) → length hours ≡ i → entry ≡ hours_listing hours held → exit ≡ hours_listing (hours ++ (h ∷ [])) held

-- a list with arc i beside those ahead of it
pub record AddsArc (i u v : ℕ) (entry exit : List ℕ) : Type 0 where
  pub adds : (arcs : List Arc) (held : List ℕ) → length arcs ≡ i → entry ≡ listing arcs held → exit ≡ listing (arcs ++ ((u, v) ∷ [])) held

-- a read of order lines in a part of a sheet that starts at a place, as that of a sheet with so many jobs
abbrev pub in_sheet : ℕ → ℕ → Result ℕ Broken → Result Sheet Broken
in_sheet start n (Ok m) = Ok (record { jobs = n; arcs = m })
in_sheet start n (Err b) = Err (record { at = start + b.at })

-- a read of order lines, where these hours were read ahead of them
pub record ArcsAnswer (start n : ℕ) (hours : List ℕ) (read : Read) (held : List ℕ) (r : Result ℕ Broken) (list : List ℕ) : Type 0 where
  pub result : in_sheet start n r ≡ result_of read
  pub after : hours_in read ≡ hours
  pub listed : list ≡ listing (arcs_in read) held

-- the state where so many lines of hours are still to come
abbrev pub at_hours : ℕ → List ℕ → ℕ → State
at_hours n hours left = in_number (after_hours n hours left) 0 0

-- what a scan comes to after the lines of hours

abbrev pub after_hours_read : List ℕ → ℕ → ℕ → List ℕ → Result ℕ Broken → Read
after_hours_read s start n hours (Ok at) = scan_from (at_line n hours []) (start + at) (drop at s)
after_hours_read s start n hours (Err b) = broken (start + b.at) hours []

abbrev pub HoursWithin : List ℕ → Result ℕ Broken → Type 0
HoursWithin s (Ok at) = at ≤ length s
HoursWithin s (Err b) = b.at ≤ length s

-- the lines of hours, from the start of s
pub record ReadsHours (s : List ℕ) (n : ℕ) (held : List ℕ) (r : Result ℕ Broken) (list : List ℕ) : Type 0 where
  pub hours : List ℕ
  pub scans : (start : ℕ) → scan_from (at_hours n [] n) start s ≡ after_hours_read s start n hours r
  pub listed : list ≡ hours_listing hours held
  pub within : HoursWithin s r

-- lines read one after the other, from the start of s up to a place, where these arcs are listed already: all arcs then, and the list with them
pub record Lists (s : List ℕ) (n : ℕ) (hours : List ℕ) (arcs : List Arc) (held list : List ℕ) (at : ℕ) : Type 0 where
  pub all : List Arc
  pub listed : list ≡ listing all held
  pub leads : Leads s (at_line n hours arcs) 0 (at_line n hours all) at

abbrev pub AfterLines : List ℕ → ℕ → ℕ → List ℕ → List Arc → List ℕ → List ℕ → Result Reached Broken → Type 0
AfterLines s stop n hours arcs held list (Ok x) =
    (l : Lists s n hours arcs held list x.at) × (length l.all ≡ x.arcs)
AfterLines s stop n hours arcs held list (Err b) =
    (at : ℕ) × (l : Lists s n hours arcs held list at) × (at < stop) × Breaks s (at_line n hours l.all) at b.at

abbrev pub LinesWithin : List ℕ → ℕ → ℕ → Result Reached Broken → Type 0
LinesWithin s stop ahead (Ok x) = (stop ≤ x.at) × (x.at ≤ length s) × (x.arcs ≤ ahead + x.at)
LinesWithin s stop ahead (Err b) = b.at ≤ length s

-- at least the lines that begin ahead of `stop`, or those ahead of a fault, where `ahead` arcs are listed already
pub record ReadsLines (s : List ℕ) (stop ahead : ℕ) (entry list : List ℕ) (r : Result Reached Broken) : Type 0 where
  pub reads
      : (n : ℕ) (hours : List ℕ) (arcs : List Arc) (held : List ℕ) → length arcs ≡ ahead → entry ≡ listing arcs held
      → AfterLines s stop n hours arcs held list r
  pub within : LinesWithin s stop ahead r

-- a read of the order lines in s, where `ahead` arcs are listed already
pub record AnswersAfter (ahead : ℕ) (s entry : List ℕ) (r : Result ℕ Broken) (list : List ℕ) : Type 0 where
  pub reads
      : (start n : ℕ) (hours : List ℕ) (arcs : List Arc) (held : List ℕ) → length arcs ≡ ahead → entry ≡ listing arcs held
      → ArcsAnswer start n hours (scan_from (at_line n hours arcs) start s) held r list
  pub within : IfErr r (λ b. b.at ≤ length s + 2 * longest_line)
