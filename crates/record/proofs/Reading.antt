-- Trees read back from their bits.
use Prim.Native.Nat.{ℕ, zero, suc, ◌^◌, ◌<◌}
use mathlib.Core.Path.{◌≡◌, refl, sym, ap, ap₂, subst, ◌∙◌}
use mathlib.Core.List.{List, [], ◌∷◌, ◌++◌, map, append_assoc}
use Rattle.std.specs.Prelude.{Some}
use Rattle.std.proofs.lemmas.Option.{none-some}
use Rattle.std.proofs.lemmas.Option.{same_Some}
use native.Mathlib.Nat.{suc_inj}
use native.Mathlib.Omega.{arith}
use lib.ListN.{length, take, drop, length-append, length-map}
use lib.Seq.{take_at, drop_at}
use Rattle.poset.specs.Tree.{Kind, series, parallel, Tree, leaf, node, Forest, last, more, leaves, forest_leaves, groups, forest_groups}
use Rattle.record.specs.Bits.{AllBelow, bits}
use Rattle.record.specs.Layout.{hours_bits, kind_bit, more_children, hours_of, tree_bits, forest_bits}
use Rattle.record.specs.Decode.{Reader, read_bits, kind_of, read_forest, grouped, read_tree}
use Rattle.record.specs.Tokens.{Small}
use Rattle.record.proofs.Below.{below_nil, below_cons, below_head, below_tail, below_append, below_rest}
use Rattle.record.proofs.Fields.{bit_alone, read_back, after, Read, bits_read}
use Rattle.record.proofs.Entries.{entry_below, map-append}
use Rattle.record.proofs.Sizes.{groups_lt, forest_groups_lem, small_left, small_right}

-- a laid out tree is read

read_kind : (k : Kind) (rest : List ℕ) → read_bits 1 (kind_bit k ∷ rest) ≡ Some (kind_bit k, rest)
unfolding kind_bit read_bits
read_kind series rest = refl
read_kind parallel rest = refl

kind_back : (k : Kind) → kind_of (kind_bit k) ≡ k
unfolding kind_bit kind_of
kind_back series = refl
kind_back parallel = refl

-- a forest is c trees after a first one
module _ (hours : List ℕ) (read : Reader (Tree × List ℕ)) (t : Tree) (hs : List ℕ) (rest : List ℕ) where
  read_last
      : read (tree_bits hours t ++ rest) ≡ Some ((t, hs), rest) → read_forest read 0 (tree_bits hours t ++ rest) ≡ Some ((last t, hs), rest)
  unfolding read_forest
  read_last e = rw e

  read_more
      : (c : ℕ) (f : Forest) (gs : List ℕ) → ((left : List ℕ) → read (tree_bits hours t ++ left) ≡ Some ((t, hs), left))
      → read_forest read c (forest_bits hours f ++ rest) ≡ Some ((f, gs), rest)
      → read_forest read (suc c) (tree_bits hours t ++ forest_bits hours f ++ rest) ≡ Some ((more t f, hs ++ gs), rest)
  unfolding read_forest
  read_more c f gs p q = rw (append_assoc (tree_bits hours t) (forest_bits hours f) rest, p (forest_bits hours f ++ rest), q)

-- the children of a group minus 1 are never 0
others : (f : Forest) → (c : ℕ) × (more_children f ≡ suc c)
unfolding more_children
others (last t) = (0, refl)
others (more t f) = (more_children f, refl)

read_group
    : (d m : ℕ) (k : Kind) (t : Tree) (f : Forest) (hs bs rest : List ℕ) → m < 2 ^ 7
    → read_forest (read_tree d) m bs ≡ Some ((more t f, hs), rest)
    → read_tree (suc d) (1 ∷ kind_bit k ∷ bits 7 m ++ bs) ≡ Some ((node k t f, hs), rest)
unfolding read_tree grouped
read_group d m k t f hs bs rest h e = rw (read_kind k (bits 7 m ++ bs), read_back 7 m bs h, e, kind_back k)

-- the hours of a tree's leaves, from left to right
abbrev pub leaf_hours : List ℕ → List ℕ → List ℕ
leaf_hours hours js = map (hours_of hours) js

module _ (hours : List ℕ) (low : AllBelow (2 ^ hours_bits) hours) where
  read_leaf : (j d : ℕ) (rest : List ℕ) → j < 2 ^ 7 → read_tree (suc d) (tree_bits hours (leaf j) ++ rest) ≡ Some ((leaf j, hours_of hours j ∷ []), rest)
  unfolding read_tree tree_bits
  read_leaf j d rest h =
      rw (
        append_assoc (bits 7 j) (bits hours_bits (hours_of hours j)) rest,
        read_back 7 j (bits hours_bits (hours_of hours j) ++ rest) h,
        read_back hours_bits (hours_of hours j) rest (entry_below hours j (2 ^ hours_bits) (omega arith) low),
      )

  mutual
    unfolding tree_bits leaves groups more_children

    pub read_tree_lem
        : (t : Tree) (d : ℕ) → Small (leaves t) → groups t < d → (rest : List ℕ)
        → read_tree d (tree_bits hours t ++ rest) ≡ Some ((t, leaf_hours hours (leaves t)), rest)
    read_tree_lem (leaf j) zero h l rest = absurd (omega arith)
    read_tree_lem (leaf j) (suc d) h l rest = read_leaf j d rest (below_head h.0)
    read_tree_lem (node k t f) zero h l rest = absurd (omega arith)
    read_tree_lem (node k t f) (suc d) h l rest =
        let (c, e) = others f in
        let children =
        read_more hours (read_tree d) t (leaf_hours hours (leaves t)) rest c f (leaf_hours hours (forest_leaves f))
        (λ left. read_tree_lem t d (small_left (leaves t) (forest_leaves f) h) (omega arith) left)
        (read_forest_lem f d c e (small_right (leaves t) (forest_leaves f) h) (omega arith) rest) in
        let few : more_children f < 2 ^ 7 = omega (arith, h.1, length-append (leaves t) (forest_leaves f), groups_lt t, forest_groups_lem f) in
        rw (append_assoc (bits 7 (more_children f)) (tree_bits hours t ++ forest_bits hours f) rest, map-append (hours_of hours) (leaves t) (forest_leaves f))
        (read_group d (more_children f) k t f (leaf_hours hours (leaves t) ++ leaf_hours hours (forest_leaves f))
        (tree_bits hours t ++ forest_bits hours f ++ rest) rest few (rw e children))

    read_forest_lem
        : (f : Forest) (d c : ℕ) → more_children f ≡ suc c → Small (forest_leaves f) → forest_groups f < d → (rest : List ℕ)
        → read_forest (read_tree d) c (forest_bits hours f ++ rest) ≡ Some ((f, leaf_hours hours (forest_leaves f)), rest)
    read_forest_lem (last t) d zero e h l rest = read_last hours (read_tree d) t (leaf_hours hours (leaves t)) rest (read_tree_lem t d h l rest)
    read_forest_lem (last t) d (suc c) e h l rest = absurd (omega arith)
    read_forest_lem (more t f) d zero e h l rest = absurd (omega (arith, forest_groups_lem f))
    read_forest_lem (more t f) d (suc c) e h l rest =
        rw (map-append (hours_of hours) (leaves t) (forest_leaves f))
        (read_more hours (read_tree d) t (leaf_hours hours (leaves t)) rest c f (leaf_hours hours (forest_leaves f))
        (λ left. read_tree_lem t d (small_left (leaves t) (forest_leaves f) h) (omega arith) left)
        (read_forest_lem f d c (omega arith) (small_right (leaves t) (forest_leaves f) h) (omega arith) rest))

-- what is read is a tree laid out

-- the bits are those of a tree whose leaves have these hours, and the rest
pub record TreeRead (bs : List ℕ) (t : Tree) (hs rest : List ℕ) : Type 0 where
  pub size : length hs ≡ length (leaves t)
  pub low : AllBelow (2 ^ hours_bits) hs
  pub left : AllBelow 2 rest
  pub these : (hours : List ℕ) → leaf_hours hours (leaves t) ≡ hs → bs ≡ tree_bits hours t ++ rest

-- a reader of trees takes the bits of its tree and no others
abbrev pub Sound : Reader (Tree × List ℕ) → Type 0
Sound read = (bs : List ℕ) (t : Tree) (hs rest : List ℕ) → AllBelow 2 bs → read bs ≡ Some ((t, hs), rest) → TreeRead bs t hs rest

-- the bits of a forest of a tree and c more
pub record ForestRead (c : ℕ) (bs : List ℕ) (f : Forest) (hs rest : List ℕ) : Type 0 where
  pub size : length hs ≡ length (forest_leaves f)
  pub low : AllBelow (2 ^ hours_bits) hs
  pub left : AllBelow 2 rest
  pub these : (hours : List ℕ) → leaf_hours hours (forest_leaves f) ≡ hs → bs ≡ forest_bits hours f ++ rest
  pub number : more_children f ≡ suc c

-- hours of two parts
parted
    : (hours js ks hs gs : List ℕ) → length hs ≡ length js → leaf_hours hours (js ++ ks) ≡ hs ++ gs → (leaf_hours hours js ≡ hs) × (leaf_hours hours ks ≡ gs)
parted hours js ks hs gs e is =
    let whole : leaf_hours hours js ++ leaf_hours hours ks ≡ hs ++ gs = sym (map-append (hours_of hours) js ks) ∙ is in
    let long : length (leaf_hours hours js) ≡ length hs = length-map js (hours_of hours) ∙ sym e in (
      sym (take_at (leaf_hours hours js) (leaf_hours hours ks) (length hs) long) ∙ ap (take (length hs)) whole ∙ take_at hs gs (length hs) refl,
      sym (drop_at (leaf_hours hours js) (leaf_hours hours ks) (length hs) long) ∙ ap (drop (length hs)) whole ∙ drop_at hs gs (length hs) refl,
    )

forest_more
    : (c : ℕ) (bs : List ℕ) (t : Tree) (f : Forest) (hs gs middle rest : List ℕ) → TreeRead bs t hs middle → ForestRead c middle f gs rest
    → ForestRead (suc c) bs (more t f) (hs ++ gs) rest
unfolding forest_bits more_children leaves
forest_more c bs t f hs gs middle rest first others = record {
  size = omega (arith, first.size, others.size, length-append hs gs, length-append (leaves t) (forest_leaves f));
  low = below_append first.low others.low;
  left = others.left;
  these = λ hours is.
      let (p, q) = parted hours (leaves t) (forest_leaves f) hs gs first.size is in
      first.these hours p
      ∙ ap (λ (l : List ℕ). tree_bits hours t ++ l) (others.these hours q)
      ∙ sym (append_assoc (tree_bits hours t) (forest_bits hours f) rest);
  number = ap suc others.number;
}

pub forest_read
    : (read : Reader (Tree × List ℕ)) → Sound read → (c : ℕ) (bs : List ℕ) (f : Forest) (hs rest : List ℕ) → AllBelow 2 bs
    → read_forest read c bs ≡ Some ((f, hs), rest) → ForestRead c bs f hs rest
unfolding read_forest forest_bits more_children leaves
forest_read read s zero bs f hs rest h e =
    after _ _ e λ y got same.
    subst (λ (r : (Forest × List ℕ) × List ℕ). ForestRead 0 bs r.0.0 r.0.1 r.1) (same_Some _ _ same)
    (let first = s bs y.0.0 y.0.1 y.1 h got in
    record { size = first.size; low = first.low; left = first.left; these = first.these; number = refl })
forest_read read s (suc c) bs f hs rest h e =
    after _ _ e λ y got then.
    after _ _ then λ z got_more same.
    let first = s bs y.0.0 y.0.1 y.1 h got in
    let others = forest_read read s c y.1 z.0.0 z.0.1 z.1 first.left got_more in
    subst (λ (r : (Forest × List ℕ) × List ℕ). ForestRead (suc c) bs r.0.0 r.0.1 r.1) (same_Some _ _ same)
    (forest_more c bs y.0.0 z.0.0 y.0.1 z.0.1 y.1 z.1 first others)

kind_there : (b : ℕ) → b < 2 → kind_bit (kind_of b) ≡ b
unfolding kind_bit kind_of
kind_there zero h = refl
kind_there (suc b) h = omega arith

group_bits
    : (hours : List ℕ) (k : Kind) (f : Forest) (t : Tree) (c : ℕ) → grouped k f ≡ Some t → more_children f ≡ suc c
    → (1 ∷ kind_bit k ∷ bits 7 c ++ forest_bits hours f ≡ tree_bits hours t) × (forest_leaves f ≡ leaves t)
unfolding grouped tree_bits more_children leaves
group_bits hours k (last s) t c e h = absurd (none-some t e)
group_bits hours k (more s f) t c e h =
    let same = same_Some _ _ e in
    (rw (← suc_inj h) (ap (tree_bits hours) same), ap leaves same)

-- a group's fields, one after another
group_read
    : (b k c : ℕ) (f : Forest) (s : Tree) (hs bs after_kind after_number rest : List ℕ) → suc b < 2 → Read 1 bs k after_kind
    → Read 7 after_kind c after_number → ForestRead c after_number f hs rest → grouped (kind_of k) f ≡ Some s → TreeRead (suc b ∷ bs) s hs rest
group_read b k c f s hs bs after_kind after_number rest h kind number forest e =
    let one : suc b ≡ 1 = omega arith in
    let kind_bit_lem : bits 1 k ≡ kind_bit (kind_of k) ∷ [] =
    bit_alone k kind.small ∙ ap (λ (x : ℕ). x ∷ []) (sym (kind_there k kind.small)) in
    let same = (group_bits [] (kind_of k) f s c e forest.number).1 in
    record {
      size = forest.size ∙ ap length same;
      low = forest.low;
      left = forest.left;
      these = λ hours is.
          let others : after_kind ≡ bits 7 c ++ (forest_bits hours f ++ rest) =
          number.these ∙ ap (λ (l : List ℕ). bits 7 c ++ l) (forest.these hours (ap (leaf_hours hours) same ∙ is)) in
          ap₂ ◌∷◌ one (kind.these ∙ ap₂ ◌++◌ kind_bit_lem others)
          ∙ sym (append_assoc (1 ∷ kind_bit (kind_of k) ∷ bits 7 c) (forest_bits hours f) rest)
          ∙ ap (λ (l : List ℕ). l ++ rest) (group_bits hours (kind_of k) f s c e forest.number).0;
    }

leaf_read
    : (j x : ℕ) (bs after_job rest : List ℕ) → AllBelow 2 bs → Read 7 bs j after_job → Read hours_bits after_job x rest
    → TreeRead (0 ∷ bs) (leaf j) (x ∷ []) rest
unfolding tree_bits leaves
leaf_read j x bs after_job rest h job hour = record {
  size = refl;
  low = below_cons hour.small below_nil;
  left = below_rest (bits hours_bits x) (below_rest (bits 7 j) h job.these) hour.these;
  these = λ hours is.
      let same : hours_of hours j ≡ x = cc in
      ap (λ (l : List ℕ). 0 ∷ l)
      (job.these
      ∙ ap (λ (l : List ℕ). bits 7 j ++ l) (hour.these ∙ ap (λ (y : ℕ). bits hours_bits y ++ rest) (sym same))
      ∙ sym (append_assoc (bits 7 j) (bits hours_bits (hours_of hours j)) rest));
}

pub tree_read : (d : ℕ) → Sound (read_tree d)
unfolding read_tree
tree_read zero bs t hs rest h e = absurd (none-some _ e)
tree_read (suc d) [] t hs rest h e = absurd (none-some _ e)
tree_read (suc d) (zero ∷ bs) t hs rest h e =
    after _ _ e λ j got then.
    after _ _ then λ x got_hours same.
    let job = bits_read 7 bs (below_tail h) got in
    let hour = bits_read hours_bits j.1 (below_rest (bits 7 j.0) (below_tail h) job.these) got_hours in
    subst (λ (r : (Tree × List ℕ) × List ℕ). TreeRead (0 ∷ bs) r.0.0 r.0.1 r.1) (same_Some _ _ same)
    (leaf_read j.0 x.0 bs j.1 x.1 (below_tail h) job hour)
tree_read (suc d) (suc b ∷ bs) t hs rest h e =
    after _ _ e λ k got_kind then_number.
    after _ _ then_number λ c got_number then_forest.
    after _ _ then_forest λ f got_forest then_group.
    after _ _ then_group λ s got_group same.
    let kind = bits_read 1 bs (below_tail h) got_kind in
    let below_kind = below_rest (bits 1 k.0) (below_tail h) kind.these in
    let number = bits_read 7 k.1 below_kind got_number in
    let forest =
    forest_read (read_tree d) (tree_read d) c.0 c.1 f.0.0 f.0.1 f.1 (below_rest (bits 7 c.0) below_kind number.these) got_forest in
    subst (λ (r : (Tree × List ℕ) × List ℕ). TreeRead (suc b ∷ bs) r.0.0 r.0.1 r.1) (same_Some _ _ same)
    (group_read b k.0 c.0 f.0.0 s f.0.1 bs k.1 c.1 f.1 (below_head h) kind number forest got_group)
