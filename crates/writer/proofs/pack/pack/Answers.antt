-- `pack::pack`: the fields one after another.
use lib.ListN.{length}
use Rattle.writer.proofs.Packed.{start, next, ready, ready_for_field, done}
use mathlib.Core.Path.{sym, subst}
use Rattle.record.specs.Tokens.{field_bits}
use Rattle.writer.specs.Packing.{Ready, Puts}
use Rattle.writer.proofs.pack.pack.Goals as goal

pub loop-field-init : goal.loop-field-init
loop-field-init c = start c.args.n c.args.hours.now c.args.fields.now c.requires.n_nonzero.0 c.requires.n_nonzero.1

pub put_field-p-requires : goal.put_field-p-requires
put_field-p-requires c =
    let l = c.loop-field in
    let hours = c.args.hours.now in record {
      ready = subst (λ x. Ready l.p (length (field_bits hours x))) (sym c.from.ensures)
          (ready_for_field c.args.n hours c.args.fields.now l.bytes l.p l.field-index l.invariant c.requires.fields_bound
          c.loop-field-test.true);
      all_below = c.requires.all_below;
    }

pub loop-field-preserved : goal.loop-field-preserved
loop-field-preserved c =
    let l = c.loop-field in
    let hours = c.args.hours.now in
    next c.args.n hours c.args.fields.now l.bytes l.p l.field-index l.invariant c.put_field-p.new.bytes c.put_field-p.result
    c.loop-field-test.true
    (subst (λ x. Puts (field_bits hours x) l.bytes l.p c.put_field-p.new.bytes c.put_field-p.result) c.from.ensures
    c.put_field-p.ensures)

pub finish-count-requires : goal.finish-count-requires
finish-count-requires c =
    let l = c.loop-field in
    ready c.args.n c.args.hours.now c.args.fields.now l.bytes l.p l.field-index l.invariant c.requires.fields_bound

pub returns : goal.returns
returns c =
    let l = c.loop-field in
    done c.args.n c.args.hours.now c.args.fields.now l.bytes l.p l.field-index l.invariant c.finish-count.new.bytes c.finish-count.result
    c.loop-field-test.false c.finish-count.ensures
