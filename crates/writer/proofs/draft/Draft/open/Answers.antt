-- `draft::Draft::open`: the field, and the parts.
use Prim.Native.Nat.{◌+◌}
use mathlib.Core.Path.{refl}
use native.Mathlib.Omega.{arith}
use lib.ListN.{length-take, set}
use Rattle.writer.proofs.Stacking.{height_is}
use Rattle.writer.proofs.draft.Draft.open.Goals as goal

pub spread-height-requires : goal.spread-height-requires
spread-height-requires c =
    let r = c.requires in
    let d = c.args.self.now in
    let p = c.args.p in
    record {
      room = omega (arith, length-take c.args.count d.parts.list, height_is d.entries p.height (omega (arith, p.low, c.args.self.now.rows)), r.room.level, r.few);
      fits = r.room.fits;
      same_jobs = r.same_jobs;
    }

pub returns : goal.returns
returns c =
    let d = c.args.self.now in
    let p = c.args.p in
    record {
      these = c.spread-height.ensures.these;
      field = λ i.
          record {
            fields = set d.fields p.count (c.group_field.ensures i);
            count = p.count + 1;
            groups = p.groups + 1;
            forward = d.forward;
            reverse = d.reverse;
          };
      no_job = refl;
    }

pub invariant_of-self : goal.invariant_of-self
invariant_of-self c = record { rows = c.spread-height.ensures.rows }
