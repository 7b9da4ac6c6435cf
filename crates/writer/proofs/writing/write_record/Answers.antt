-- `writing::write_record`: the record spells the tree, or there is neither.
use mathlib.Core.Path.{◌≡◌, sym, ap, ◌∙◌}
use Rattle.std.specs.Prelude.{Option, Some}
use Prim.Native.Nat.{◌≤◌}
use lib.ListN.{length}
use lib.Seq.{length-take-le}
use Rattle.poset.specs.Decompose.{tree_of}
use Rattle.poset.specs.Tree.{Tree}
use Rattle.relation.specs.Table.{holds}
use native.Mathlib.Omega.{arith}
use Rattle.writer.proofs.Spelling.{mapped_some, mapped_none, count_fits, fields_size, spells, wrote}
use Rattle.writer.specs.Shapes.{shape_of}
use Rattle.writer.specs.Written.{written}
use Rattle.writer.proofs.writing.write_record.Goals.{In_ok-shape}
use Rattle.writer.proofs.writing.write_record.Goals as goal

pub returns-in_err-shape : goal.returns-in_err-shape
returns-in_err-shape c =
    let a = c.args in
    let none = mapped_none shape_of (tree_of a.n (holds a.after)) (sym c.in_err-shape.was ∙ c.shape_of.ensures) in
    c.from_residual.ensures ∙ ap (written a.n a.hours.now) (sym none)

-- the shape of a tree
module _ (c : In_ok-shape) where
  abbrev tree : Option Tree
  tree = tree_of c.args.n (holds c.args.after)

  told : (t : Tree) × (tree ≡ Some t) × (c.in_ok-shape.shape ≡ shape_of t)
  told = mapped_some shape_of tree c.in_ok-shape.shape (sym c.in_ok-shape.was ∙ c.shape_of.ensures)

  fits : c.in_ok-shape.shape.count ≤ 256
  fits =
      let (t, e, is) = told in count_fits c.args.n c.requires.n_nonzero.1 (holds c.args.after) c.requires.strict t e c.in_ok-shape.shape is

  size : length c.in_ok-shape.shape.fields ≡ 256
  size =
      let (t, e, is) = told in fields_size c.args.n c.requires.n_nonzero.1 (holds c.args.after) c.requires.strict t e c.in_ok-shape.shape is

pub slice_bounds-fields-end : goal.slice_bounds-fields-end
slice_bounds-fields-end c = let s = (goal.at.slice_bounds-fields-end c).In_ok-shape in omega (arith, fits s, size s)

pub slice_bounds-pack-end : goal.slice_bounds-pack-end
slice_bounds-pack-end c =
    let s = (goal.at.slice_bounds-pack-end c).In_ok-shape in sym (length-take-le _ _ (omega (arith, fits s, size s)))

pub pack-packed-requires : goal.pack-packed-requires
pack-packed-requires c =
    let (t, e, is) = told (goal.at.pack-packed-requires c).In_ok-shape in
    let p = spells c.args.n c.requires.n_nonzero.1 (holds c.args.after) c.requires.strict t e _ is c.args.hours.now in record {
      n_nonzero = c.requires.n_nonzero;
      fields_bound = p.room;
      all_below = c.requires.all_below;
    }

pub returns : goal.returns
returns c =
    let (t, e, is) = told (goal.at.returns c).In_ok-shape in
    wrote c.args.n c.requires.n_nonzero.1 (holds c.args.after) c.requires.strict t e _ is _ _ _ c.pack-packed.ensures
