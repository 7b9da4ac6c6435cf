-- A record by the nodes that were read: they are those of the tree that the bytes decode to.
use Prim.Native.Nat.{ℕ, ◌-◌, ◌^◌, ◌≤◌}
use mathlib.Core.Path.{◌≡◌, refl, sym, ap, subst, ◌∙◌, fun_ext}
use mathlib.Core.List.{List}
use Rattle.std.specs.Prelude.{Option, None, Some, option_map}
use lib.ListN.{length, take, replicate}
use lib.Seq.{take_at}
use Rattle.poset.specs.Areas.{padded}
use Rattle.poset.specs.Lists.{occurrences}
use Rattle.poset.specs.Tree.{Tree, leaves}
use Rattle.poset.proofs.Meaning.{spans_holds, once_count}
use Rattle.record.specs.Bits.{AllBelow}
use Rattle.record.specs.Layout.{hours_bits, hours_of, IsRecord}
use Rattle.record.specs.Decode.{decode}
use Rattle.record.specs.Tokens.{tokens, listing, node_room, Small}
use Rattle.record.proofs.Entries.{entry_padded, padded_below}
use Rattle.record.proofs.Sizes.{spans_small}
use Rattle.record.proofs.Theorems.{layout_decode}
use Rattle.reader.specs.Answer.{nodes}
use Rattle.reader.specs.Nodes.{Listed}
use Rattle.reader.specs.declared.NodeList.{NodeList}

-- what was read is of the tree that the bytes decode to
pub record Decoded (bytes : List ℕ) (x : NodeList) : Type 0 where
  pub jobs : ℕ
  pub tree : Tree
  pub hours : List ℕ
  pub decodes : decode bytes ≡ Some (jobs, tree, hours)
  pub spells : IsRecord bytes jobs tree hours
  pub jobs_are : x.jobs ≡ jobs
  pub count_is : x.count ≡ length (tokens tree)
  pub tokens_are : x.tokens ≡ listing (tokens tree)
  pub hours_are : x.hours ≡ padded hours

pub decoded : {bytes : List ℕ} (x : NodeList) → Some x ≡ option_map nodes (decode bytes) → AllBelow 256 bytes → Decoded bytes x
decoded {bytes} x reads small = go (decode bytes) refl reads
  where
    go : (o : Option (ℕ × Tree × List ℕ)) → decode bytes ≡ o → Some x ≡ option_map nodes o → Decoded bytes x
    go None e h = absurd (cc)
    go (Some (n, t, hours)) e h =
        let same : x ≡ nodes (n, t, hours) = cc in
        record {
          jobs = n;
          tree = t;
          hours = hours;
          decodes = e;
          spells = layout_decode bytes n t hours small e;
          jobs_are = ap (λ (r : NodeList). r.jobs) same;
          count_is = ap (λ (r : NodeList). r.count) same;
          tokens_are = ap (λ (r : NodeList). r.tokens) same;
          hours_are = ap (λ (r : NodeList). r.hours) same;
        }

pub undecoded : (bytes : List ℕ) → None ≡ option_map nodes (decode bytes) → decode bytes ≡ None
undecoded bytes reads = go (decode bytes) refl reads
  where
    go : (o : Option (ℕ × Tree × List ℕ)) → decode bytes ≡ o → None ≡ option_map nodes o → decode bytes ≡ None
    go None e h = e
    go (Some y) e h = absurd (cc)

module _ {bytes : List ℕ} {x : NodeList} (d : Decoded bytes x) where
  -- the hours of each job, with zeros after them or without
  pub same_hours : hours_of x.hours ≡ hours_of d.hours
  same_hours = fun_ext λ j. ap (λ (l : List ℕ). hours_of l j) d.hours_are ∙ entry_padded d.hours (128 - length d.hours) j

  pub hours_low : AllBelow (2 ^ hours_bits) x.hours
  hours_low = subst (AllBelow (2 ^ hours_bits)) (sym d.hours_are) (padded_below d.hours d.spells.small)

  pub once : (u : ℕ) → occurrences u (leaves d.tree) ≤ 1
  once = once_count d.tree (spans_holds d.jobs d.tree d.spells.spans).0

  pub small : Small (leaves d.tree)
  small = spans_small d.jobs d.tree d.spells.most d.spells.spans

  pub listed : Listed d.tree x.tokens x.count
  listed =
      record {
        once = once;
        small = small;
        number = d.count_is;
        these =
            ap (take x.count) d.tokens_are
            ∙ take_at (tokens d.tree) (replicate (node_room - length (tokens d.tree)) 0) x.count (sym d.count_is);
      }
