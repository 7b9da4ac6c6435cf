-- What the readers of a record's parts owe: of a tree, and of the children of a group.
-- For inner contracts alone: who reads the promises of read_record, read_nodes and order_of need not believe it, but specs/Answer.antt.
use Rattle.std.specs.Prelude.{ℕ, zero, suc, ◌+◌, ◌*◌, ◌^◌, ◌≤◌, ◌<◌, min, ◌≡◌, Bool, true, false, Option, None, Some, length, get_or, set}
use mathlib.Core.List.{List, [], ◌∷◌, Memᴰ}
use Rattle.std.proofs.lemmas.List.Edits.{sets}
use Rattle.poset.specs.Tree.{Kind, series, parallel, Tree, Forest, alternates}
use Rattle.poset.specs.Tree.{leaves, forest_leaves, reversed, forest_reversed, least, forest_least, groups, forest_groups}
use Rattle.poset.specs.Inner.{Once, OnceForest, Canon, CanonForest}
use Rattle.record.specs.Bits.{AllBelow}
use Rattle.record.specs.Layout.{hours_bits, leaf_bits, most_record_bytes, more_children, hours_of, tree_bits, forest_bits}
use Rattle.reader.specs.Fields.{At}
use Rattle.reader.specs.declared.parts.Part.{Part}
pub use Rattle.reader.specs.declared.parts.Lists.{Lists}

-- a tree, or the children of a group, as a reader tells it; spelt by the hours of the jobs
pub record Piece : Type 0 where
  pub spelt : List ℕ → List ℕ
  pub forth : List ℕ
  pub back : List ℕ
  pub smallest : ℕ
  pub inner : ℕ

abbrev pub of_tree : Tree → Piece
of_tree t = record { spelt = λ hours. tree_bits hours t; forth = leaves t; back = reversed t; smallest = least t; inner = groups t }

abbrev pub of_forest : Kind → Forest → Piece
of_forest k f =
    record {
      spelt = λ hours. forest_bits hours f;
      forth = forest_leaves f;
      back = forest_reversed k f;
      smallest = forest_least f;
      inner = forest_groups f;
    }

abbrev pub marked : List ℕ → List ℕ → List ℕ
marked seen [] = seen
marked seen (j ∷ js) = marked (set seen j 1) js

-- a sequence from its first job a to its last b, each followed by its next
pub data Strand (next : List ℕ) : ℕ → List ℕ → ℕ → Type 0 where
  alone : (a : ℕ) → Strand next a (a ∷ []) a
  followed : (a : ℕ) {ys : List ℕ} {b : ℕ} → Strand next (get_or next a 0) ys b → Strand next a (a ∷ ys) b

-- k jobs from x on, each followed by its next
unfoldable pub walk : List ℕ → ℕ → ℕ → List ℕ
walk next zero x = []
walk next (suc k) x = x ∷ walk next k (get_or next x 0)

-- where a node begins: after the job count, the leaves and the groups ahead of it
abbrev pub place : ℕ → ℕ → ℕ
place done gone = 7 + leaf_bits * done + 9 * gone

-- what a reader is given: at most as many bytes and jobs as a record has, fewer groups than jobs, and lists for 128 jobs
pub record Ready (bytes : List ℕ) (n done gone : ℕ) (w : Lists) : Type 0 where
  pub short : length bytes ≤ most_record_bytes
  pub few : n ≤ 128
  pub named : done ≤ n
  pub opened : gone < n
  pub marks : length w.seen ≡ 128
  pub links : length w.next ≡ 128
  pub entries : length w.hours ≡ 128
  pub low : AllBelow (2 ^ hours_bits) w.hours

-- the jobs are below n, none is marked; with those named so far they are at most n, and the groups fewer than n
pub record Free (n done gone : ℕ) (seen : List ℕ) (x : Piece) : Type 0 where
  pub inside : (u : ℕ) → Memᴰ u x.forth → u < n
  pub unseen : (u : ℕ) → Memᴰ u x.forth → get_or seen u 0 ≡ 0
  pub room : done + length x.forth ≤ n
  pub fewer : gone + x.inner < n

-- the piece stands in the bits, and the part and the lists v, which were w, are those of it
pub record Placed (bs : List ℕ) (done gone : ℕ) (w v : Lists) (p : Part) (x : Piece) : Type 0 where
  pub stands : At bs (place done gone) (x.spelt v.hours)
  pub end : place p.done p.groups ≡ place done gone + length (x.spelt v.hours)
  pub number : p.done ≡ done + length x.forth
  pub groups : p.groups ≡ gone + x.inner
  pub least : p.least ≡ x.smallest
  pub seen : v.seen ≡ marked w.seen x.forth
  pub forward : v.forward ≡ sets w.forward done x.forth
  pub strand : Strand v.next p.first x.back p.last
  pub others : (u : ℕ) → (Memᴰ u x.forth → ⊥) → get_or v.next u 0 ≡ get_or w.next u 0
  pub room : length v.next ≡ length w.next
  pub low : AllBelow (2 ^ hours_bits) v.hours
  pub kept : (u : ℕ) → (Memᴰ u x.forth → ⊥) → hours_of v.hours u ≡ hours_of w.hours u
  pub entries : length v.hours ≡ length w.hours

-- a reader found the one x that may stand there and does, or there is none, whatever the hours
pub record Found {X : Type 0} (piece : X → Piece) (May : X → Type 0) (bs : List ℕ) (n done gone : ℕ) (w v : Lists) (o : Option Part) : Type 0 where
  pub some : (p : Part) → o ≡ Some p → (x : X) × May x × Free n done gone w.seen (piece x) × Placed bs done gone w v p (piece x)
  pub none : o ≡ None → (x : X) → May x → Free n done gone w.seen (piece x)
      → (hours : List ℕ) → AllBelow (2 ^ hours_bits) hours → At bs (place done gone) ((piece x).spelt hours) → ⊥

-- any tree in canonical form, and one that may stand in a group of kind k
abbrev pub Plain : Tree → Type 0
Plain t = Canon t × Once t

abbrev pub PlainUnder : Kind → Tree → Type 0
PlainUnder k t = (alternates k t ≡ true) × Plain t

-- c + 1 children of a group of kind k
abbrev pub PlainChildren : Kind → ℕ → Forest → Type 0
PlainChildren k c f = (more_children f ≡ suc c) × CanonForest k f × OnceForest f

-- one leaf, whose job has the hours x
pub record LeafRead (n job x done gone : ℕ) (w v : Lists) (o : Option Part) : Type 0 where
  pub some : (p : Part) → o ≡ Some p
      → (job < n) × (get_or w.seen job 0 ≡ 0) × (done < n)
      × (v ≡ record { seen = set w.seen job 1; forward = set w.forward done job; next = w.next; hours = set w.hours job x })
      × (p ≡ record { done = done + 1; groups = gone; least = job; first = job; last = job })
  pub none : o ≡ None → job < n → get_or w.seen job 0 ≡ 0 → done < n → ⊥

-- the kind that a reader of series groups reads, and one of the others
abbrev pub kind_by : Bool → Kind
kind_by true = series
kind_by false = parallel

-- the one of two parts that is ahead in the reverse sequence, and the one behind: the earlier child is ahead in a chain

abbrev pub front : Kind → Part → Part → Part
front series p q = p
front parallel p q = q

abbrev pub behind : Kind → Part → Part → Part
behind series p q = q
behind parallel p q = p

-- the children p of a group and the next child q

abbrev pub linked_part : Kind → Part → Part → Part
linked_part k p q =
    record {
      done = q.done;
      groups = q.groups;
      least = min p.least q.least;
      first = (front k p q).first;
      last = (behind k p q).last;
    }

abbrev pub linked_lists : Kind → Lists → Part → Part → Lists
linked_lists k v p q =
    record { seen = v.seen; forward = v.forward; next = set v.next (front k p q).last (behind k p q).first; hours = v.hours }

-- any tree, a child of a group of kind k, and c + 1 children of one

abbrev pub TreeRead : List ℕ → (n done gone : ℕ) → Lists → Lists → Option Part → Type 0
TreeRead bs n done gone w v o = Found of_tree Plain bs n done gone w v o

abbrev pub ChildRead : Kind → List ℕ → (n done gone : ℕ) → Lists → Lists → Option Part → Type 0
ChildRead k bs n done gone w v o = Found of_tree (PlainUnder k) bs n done gone w v o

abbrev pub ChildrenRead : Kind → ℕ → List ℕ → (n done gone : ℕ) → Lists → Lists → Option Part → Type 0
ChildrenRead k c bs n done gone w v o = Found (of_forest k) (PlainChildren k c) bs n done gone w v o
