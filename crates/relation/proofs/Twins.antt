-- Twins in the search for an N: where one of two is the first job of no N, neither is the other.
use Prim.Native.Nat.{ℕ, ◌≤◌, ◌<◌}
use native.Mathlib.Nat.{lt_of_lt_of_le}
use mathlib.Core.Path.{◌≡◌, sym, ap, ◌∙◌}
use mathlib.Core.Bool.{true, false}
use Rattle.std.specs.Prelude.{None}
use Rattle.poset.specs.Order.{Rel, is_n}
use Rattle.poset.proofs.Laws.{clash, false_unless, only_if_none}
use Rattle.poset.proofs.Forbidden.{n_crossing, crossing_n}
use Rattle.poset.proofs.Searches.{none_below, at_a, at_b, at_c, at_d}
use Rattle.relation.specs.Table.{Twins}

module _ (n : ℕ) (r : Rel) (u : ℕ) where
  -- no N begins with u
  abbrev Begins_none : Type 0
  Begins_none = (b c d : ℕ) → b < n → c < n → d < n → is_n r u b c d ≡ false

  pub none_at_lem : at_a n r u ≡ None → Begins_none
  none_at_lem e b c d lb lc ld =
      (only_if_none _ _).0
      ((none_below (at_d n r u b c) n).0 ((none_below (at_c n r u b) n).0 ((none_below (at_b n r u) n).0 e b lb) c lc) d ld)

  at_none : Begins_none → at_a n r u ≡ None
  at_none e =
      (none_below (at_b n r u) n).1 λ b lb.
      (none_below (at_c n r u b) n).1 λ c lc.
      (none_below (at_d n r u b c) n).1 λ d ld.
      (only_if_none _ _).1 (e b c d lb lc ld)

module _ (n : ℕ) (r : Rel) (u v : ℕ) (small : n ≤ 128) (t : Twins r u v) where
  row : (w : ℕ) → w < n → r u w ≡ r v w
  row w l = t.rows w (lt_of_lt_of_le l small)

  column : (w : ℕ) → w < n → r w u ≡ r w v
  column w l = t.columns w (lt_of_lt_of_le l small)

  module _ (b c d : ℕ) (lb : b < n) (lc : c < n) (ld : d < n) where
    -- u is not b, since it is not before d, and not d, since b is not before it
    twin_n : is_n r v b c d ≡ true → is_n r u b c d ≡ true
    twin_n h =
        let x = n_crossing r v b c d h in
        crossing_n r u b c d
        (record {
          ac = row c lc ∙ x.ac;
          bc = x.bc;
          bd = x.bd;
          ab = record {
            differ = λ e. clash (sym (row d ld) ∙ ap (λ w. r w d) e ∙ x.bd) x.ad.forth;
            forth = row b lb ∙ x.ab.forth;
            back = column b lb ∙ x.ab.back;
          };
          cd = x.cd;
          ad = record {
            differ = λ e. clash (sym (column b lb) ∙ ap (r b) e ∙ x.bd) x.ab.back;
            forth = row d ld ∙ x.ad.forth;
            back = column d ld ∙ x.ad.back;
          };
        })

  pub twin_none : Begins_none n r u → None ≡ at_a n r v
  twin_none e = sym (at_none n r v λ b c d lb lc ld. false_unless _ λ h. clash (twin_n b c d lb lc ld h) (e b c d lb lc ld))
