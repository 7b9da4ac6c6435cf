-- `draft::Draft::put_leaf`: the smallest job is the only one.
use Prim.Native.Nat.{ℕ, ◌+◌, ◌%◌, ◌<◌}
use mathlib.Core.Path.{◌≡◌, refl, sym, ap, subst, ◌∙◌}
use mathlib.Core.List.{List}
use native.Mathlib.Nat.{mod-eq_of_lt}
use native.Mathlib.Omega.{arith}
use lib.ListN.{set}
use Rattle.writer.specs.Parts.{size_of, lead}
use Rattle.writer.proofs.Leads.{some_any, lead_least}
use Rattle.writer.proofs.draft.Draft.put_leaf.Goals as goal

pub smallest-job-requires : goal.smallest-job-requires
smallest-job-requires c = some_any c.set.inside.jobs (subst (λ (s : List ℕ). 0 < size_of s) (sym c.set.view_is) c.requires.room.some)

pub returns : goal.returns
returns c =
    let d = c.args.self.now in
    let p = c.args.p in
    let x = c.smallest-job.result in
    let small = c.smallest-job.ensures.small in
    let job : x ≡ lead c.args.e.set = sym (lead_least c.set.inside.jobs x c.smallest-job.ensures) ∙ ap lead c.set.view_is in
    let short : x % 256 ≡ lead c.args.e.set = mod-eq_of_lt (omega arith) ∙ job in
    let long : x % 65536 ≡ lead c.args.e.set = mod-eq_of_lt (omega arith) ∙ job in
    record {
      one = c.requires.one;
      these = refl;
      field = λ i.
          record {
            fields = set d.fields p.count (long i);
            count = p.count + 1;
            groups = p.groups;
            forward = set d.forward p.placed (short i);
            reverse = set d.reverse c.args.e.start (short i);
          };
      one_job = refl;
    }
