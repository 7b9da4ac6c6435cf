-- What was read, as the entry hands it out.
use Rattle.std.specs.Prelude.{◌≡◌, replicate, Option, None, Some}
use Rattle.reader.specs.declared.Reading.{Reading}
use Rattle.reader_bench.specs.declared.Read.{Read}

pub record Shows (a : Reading) (r : Read) : Type 0 where
  pub count_is : r.count ≡ a.count
  pub groups_are : r.groups ≡ a.groups
  pub forward_is : r.forward ≡ a.forward
  pub reverse_is : r.reverse ≡ a.reverse
  pub hours_are : r.hours ≡ a.hours

-- all 0 where the bytes are no record
abbrev pub Handed : Option Reading → Read → Type 0
Handed None r =
    Shows (record { count = 0; groups = 0; forward = replicate 128 0; reverse = replicate 128 0; hours = replicate 128 0 }) r
Handed (Some a) r = Shows a r
