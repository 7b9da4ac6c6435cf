-- The lines ahead of the order lines: the count line, and the lines of hours one after the other.
use Rattle.std.proofs.Common.{◌≡◌, ℕ, suc, ◌+◌, ◌-◌, ◌<◌, ◌≤◌, List, [], ◌∷◌, ◌++◌, length, Result, Ok, Err}
use Rattle.std.proofs.Common.{take, drop, sym, refl, ap, ◌∙◌, subst, inl, arith, length-append, length-drop, take_all, drop-drop}
use Rattle.sheet.specs.Text.{most_digits, hours_digits, line_endings}
use Rattle.sheet.specs.Scan.{count_field, hours_field, Read, broken, most, hours_ahead, arcs_ahead, field_of}
use Rattle.sheet.specs.Scan.{endings, after_hours, ended, whole, scan_from, scan}
use Rattle.sheet.specs.Reading.{ReadsNumber, at_line}
use Rattle.sheet.specs.Listing.{hours_listing, AddsHours, result_of, hours_in, arcs_in, in_sheet, Answers, AnswersAfter, at_hours, ReadsHours}
use Rattle.sheet.specs.declared.Sheet.{Sheet}
use Rattle.sheet.specs.declared.Broken.{Broken}
use Rattle.sheet.specs.declared.line.Part.{Part}
use Rattle.sheet.proofs.Listing.{listing_none, hours_length, hours_none}
use Rattle.sheet.proofs.Leading.{leads_scan, leads_within, breaks_scan}
use Rattle.sheet.proofs.Places.{moved, at_ok, at_err, in_sheet_ok, in_sheet_err}

-- the part after a place, as code hands it on
pub rest_of : (s : List ℕ) (at : ℕ) → take (length s - at) (drop at s) ≡ drop at s
rest_of s at = take_all (length s - at) (drop at s) (omega (arith, length-drop at s))

pub length_rest : (s : List ℕ) (at : ℕ) → at ≤ length s → at + length (take (length s - at) (drop at s)) ≡ length s
length_rest s at h = rw (rest_of s at) (omega (arith, length-drop at s))

-- A line of hours.

module _ {rest : List ℕ} where
  pub hours_within : {x : Part} → ReadsNumber hours_digits line_endings rest 0 (Ok x) → x.last < length rest
  unfolding endings most
  hours_within r = omega (arith, leads_within (r.scans (hours_field 0 [] 0) refl refl) (omega arith))

  pub hours_fault : {b : Broken} → ReadsNumber hours_digits line_endings rest 0 (Err b) → b.at ≤ length rest
  unfolding endings most
  hours_fault r = leads_within (r.scans (hours_field 0 [] 0) refl refl).0.leads (omega arith)

-- the hours of the first jobs, in the lines ahead of a place, are read and listed, and so many lines are left
pub record Timing (s : List ℕ) (n : ℕ) (held list : List ℕ) (at job : ℕ) : Type 0 where
  pub left : ℕ
  pub hours : List ℕ
  pub many : length hours ≡ job
  pub all : job + left ≡ n
  pub scans : (start : ℕ) → scan_from (at_hours n [] n) start s ≡ scan_from (at_hours n hours left) (start + at) (drop at s)
  pub listed : list ≡ hours_listing hours held
  pub within : at ≤ length s

pub timing_start : (s : List ℕ) (n : ℕ) (held : List ℕ) → Timing s n held held 0 0
timing_start s n held = record {
  left = n;
  hours = [];
  many = refl;
  all = omega arith;
  scans = λ start. let e : start ≡ start + 0 = omega arith in ap (λ (x : ℕ). scan_from (at_hours n [] n) x s) e;
  listed = hours_none held;
  within = omega arith;
}

module _ {s : List ℕ} {n : ℕ} {held list : List ℕ} {at job : ℕ} (g : Timing s n held list at job) where
  pub timing_length : length list ≡ length held
  timing_length = ap length g.listed ∙ hours_length g.hours held

  -- one line more
  module _ (l : job < n) {rest : List ℕ} (is : rest ≡ drop at s) where
    abbrev later : ℕ
    later = g.left - 1

    one_more : g.left ≡ suc later
    one_more = omega (arith, g.all)

    wanted : (start : ℕ) → scan_from (at_hours n [] n) start s ≡ scan_from (at_hours n g.hours (suc later)) (start + at + 0) (drop 0 rest)
    wanted start =
        let e : start + at ≡ start + at + 0 = omega arith in
        g.scans start
        ∙ ap (λ (k : ℕ). scan_from (at_hours n g.hours k) (start + at) (drop at s)) one_more
        ∙ ap (λ (x : ℕ). scan_from (at_hours n g.hours (suc later)) x (drop at s)) e
        ∙ ap (scan_from (at_hours n g.hours (suc later)) (start + at + 0)) (sym is)

    length_of : length rest ≡ length s - at
    length_of = ap length is ∙ length-drop at s

    pub timing_on
        : {x : Part} {next : List ℕ} → ReadsNumber hours_digits line_endings rest 0 (Ok x) → AddsHours job x.value list next
        → Timing s n held next (at + (x.last + 1)) (job + 1)
    unfolding ended endings most after_hours
    timing_on {x} r p =
        let v : ℕ = x.value in
        let last : ℕ = x.last in
        let after : drop (last + 1) rest ≡ drop (at + (last + 1)) s = ap (drop (last + 1)) is ∙ drop-drop (last + 1) at s in
        record {
          left = later;
          hours = g.hours ++ (v ∷ []);
          many = omega (arith, g.many, length-append g.hours (v ∷ []));
          all = omega (arith, g.all, one_more);
          scans = λ start.
              let e : start + at + (last + 1) ≡ start + (at + (last + 1)) = omega arith in
              wanted start
              ∙ leads_scan (start + at) (r.scans (hours_field n g.hours later) refl refl)
              ∙ ap (λ (x : ℕ). scan_from (at_hours n (g.hours ++ (v ∷ [])) later) x (drop (last + 1) rest)) e
              ∙ ap (scan_from (at_hours n (g.hours ++ (v ∷ [])) later) (start + (at + (last + 1)))) after;
          listed = p.adds g.hours held g.many g.listed;
          within = omega (arith, g.within, hours_within r, length_of);
        }

    pub timing_broken
        : {b : Broken} → ReadsNumber hours_digits line_endings rest 0 (Err b) → ReadsHours s n held (Err (record { at = at + b.at })) list
    unfolding endings most hours_ahead arcs_ahead field_of whole after_hours
    timing_broken {b} r = record {
      hours = g.hours;
      scans = λ start.
          let e : start + at + b.at ≡ start + (at + b.at) = omega arith in
          wanted start
          ∙ breaks_scan (start + at) (r.scans (hours_field n g.hours later) refl refl).0 (inl refl) (omega arith)
          ∙ ap (λ (x : ℕ). broken x g.hours []) e;
      listed = g.listed;
      within = omega (arith, g.within, hours_fault r, length_of);
    }

  pub timing_done : n ≤ job → ReadsHours s n held (Ok at) list
  unfolding after_hours
  timing_done l =
      let none_left : g.left ≡ 0 = omega (arith, g.all) in
      record {
        hours = g.hours;
        scans = λ start. g.scans start ∙ ap (λ (k : ℕ). scan_from (at_hours n g.hours k) (start + at) (drop at s)) none_left;
        listed = g.listed;
        within = g.within;
      }

-- The sheet from its count line on.

module _ {s : List ℕ} {n : ℕ} {held_hours hours : List ℕ} (start : ℕ) (t : Result ℕ Broken) (reads : ReadsHours s n held_hours t hours) where
  pub timed_within : {at : ℕ} → moved start t ≡ Ok at → at ≤ length s
  timed_within e = (at_ok (λ (x : Result ℕ Broken). ReadsHours s n held_hours x hours) start t reads e).within

  timed_lines
      : {at : ℕ} → moved start t ≡ Ok at → {rest : List ℕ} → rest ≡ drop at s → {held : List ℕ} (r : Result ℕ Broken)
      → {list : List ℕ} → AnswersAfter 0 rest held r list
      → Answers (scan_from (at_hours n [] n) start s) held_hours held (in_sheet (start + at) n r) hours list
  timed_lines {at} e is {held} r {list} a =
      let h = at_ok (λ (x : Result ℕ Broken). ReadsHours s n held_hours x hours) start t reads e in
      let b = a.reads (start + at) n h.hours [] held refl (listing_none held) in
      subst (λ (x : Read). Answers x held_hours held (in_sheet (start + at) n r) hours list)
      (ap (scan_from (at_line n h.hours []) (start + at)) is ∙ sym (h.scans start))
      (record { result = b.result; hours_listed = h.listed ∙ ap (λ (hs : List ℕ). hours_listing hs held_hours) (sym b.after); listed = b.listed })

  module _
      {at : ℕ} (e : moved start t ≡ Ok at) {rest : List ℕ} (is : rest ≡ drop at s) {held : List ℕ} (r : Result ℕ Broken) {list : List ℕ}
      (a : AnswersAfter 0 rest held r list) where
    pub timed_all
        : {m : ℕ} → moved (start + at) r ≡ Ok m
        → Answers (scan_from (at_hours n [] n) start s) held_hours held (Ok (record { jobs = n; arcs = m })) hours list
    timed_all {m} k =
        subst (λ (x : Result Sheet Broken). Answers (scan_from (at_hours n [] n) start s) held_hours held x hours list)
        (in_sheet_ok (start + at) n r k) (timed_lines e is r a)

    pub timed_some
        : {f : Broken} → moved (start + at) r ≡ Err f → Answers (scan_from (at_hours n [] n) start s) held_hours held (Err f) hours list
    timed_some k =
        subst (λ (x : Result Sheet Broken). Answers (scan_from (at_hours n [] n) start s) held_hours held x hours list)
        (in_sheet_err (start + at) n r k) (timed_lines e is r a)

  pub timed_broken
      : {f : Broken} → moved start t ≡ Err f → (held : List ℕ) → Answers (scan_from (at_hours n [] n) start s) held_hours held (Err f) hours held
  unfolding result_of hours_in arcs_in
  timed_broken {f} e held =
      let (b, h, is) = at_err (λ (x : Result ℕ Broken). ReadsHours s n held_hours x hours) start t reads e in
      subst (λ (x : Read). Answers x held_hours held (Err f) hours held) (sym (h.scans start))
      (record { result = ap (λ (x : Broken). Err x) is; hours_listed = h.listed; listed = listing_none held })

module _ {s : List ℕ} where
  pub count_within : {x : Part} → ReadsNumber most_digits line_endings s 0 (Ok x) → x.last < length s
  unfolding endings most
  count_within r = omega (arith, leads_within (r.scans count_field refl refl) (omega arith))

  count_read
      : (n last : ℕ) → ReadsNumber most_digits line_endings s 0 (Ok (record { value = n; last = last }))
      → scan s ≡ scan_from (at_hours n [] n) (last + 1) (drop (last + 1) s)
  unfolding scan endings ended most
  count_read n last r =
      let e : 0 + (last + 1) ≡ last + 1 = omega arith in
      leads_scan 0 (r.scans count_field refl refl) ∙ ap (λ (x : ℕ). scan_from (at_hours n [] n) x (drop (last + 1) s)) e

module _ {s held_hours held : List ℕ} where
  pub answers_rest
      : {x : Part} → ReadsNumber most_digits line_endings s 0 (Ok x) → {rest : List ℕ} → rest ≡ drop (x.last + 1) s → {r : Result Sheet Broken}
      → {hours list : List ℕ} → Answers (scan_from (at_hours x.value [] x.value) (x.last + 1) rest) held_hours held r hours list
      → Answers (scan s) held_hours held r hours list
  answers_rest {x} c e {r} {hours} {list} =
      subst (λ (y : Read). Answers y held_hours held r hours list)
      (ap (scan_from (at_hours x.value [] x.value) (x.last + 1)) e ∙ sym (count_read x.value x.last c))

  pub answers_broken : {b : Broken} → ReadsNumber most_digits line_endings s 0 (Err b) → Answers (scan s) held_hours held (Err b) held_hours held
  unfolding scan endings most result_of hours_in arcs_in hours_ahead arcs_ahead field_of whole
  answers_broken {b} c =
      let e : 0 + b.at ≡ b.at = omega arith in
      subst (λ (x : Read). Answers x held_hours held (Err b) held_hours held)
      (sym (breaks_scan 0 (c.scans count_field refl refl).0 (inl refl) (omega arith) ∙ ap (λ (x : ℕ). broken x [] []) e))
      (record { result = refl; hours_listed = hours_none held_hours; listed = listing_none held })
