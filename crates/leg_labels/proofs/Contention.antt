-- Another LSP's mark is on a label that a leg uses exactly where a marked leg of another LSP uses it.
use Rattle.std.proofs.Common.{◌≡◌, ◌∙◌, ℕ, Bool, true, false, not, List, refl, sym, ap, subst}
use Rattle.std.specs.Prelude.{◌&&◌, Option, Some, None}
use Rattle.ason_base.specs.{declared.ids.Fibre.Fibre, declared.ids.Lsp.Lsp, declared.tables.Leg.Leg, Lsps.{is_lsp, same_lsp}}
use Rattle.ason_base.proofs.Bools.{and-left, and-right, same-truth}
use Rattle.link_owner.specs.{Marks.{is_lit, lit}, Owners.OwnerState}
use Rattle.mesh_rules.specs.Legs.{find_leg, is_busy, is_busy_at, is_contended, is_marked, reverse_of, uses}
use Rattle.mesh_nodes.specs.Order.{LegsRise}
use Rattle.mesh_nodes.proofs.{BusyLabels.free-of, LegList.{all-found, found-lsp, same_lsp-by, same_lsp-refl}, Links.any-found}
use Rattle.leg_table.specs.LegClaims.{MarksFit, is_marked_on}
use Rattle.leg_labels.proofs.ClaimedLabels.{of_each}
use Rattle.leg_labels.specs.LegMarks.{is_lit_at, is_lit_over, is_other}

-- what three tests tell that are all passed
all_three : (a b c : Bool) → a ≡ true → b ≡ true → c ≡ true → (a && (b && c)) ≡ true
all_three a b c d e f = rw (d, e) f

module _ (legs : List Leg) (o : OwnerState) (fit : MarksFit legs o) (f : Fibre) (x : ℕ) where
  -- a mark is that of a leg which keeps other LSPs busy
  mark-busy : (l m : Lsp) → is_lit o.marks f x m ≡ true → same_lsp m l ≡ false → is_busy legs l f x ≡ true
  mark-busy l m e apart = go (find_leg m legs) refl (sym (fit f x m) ∙ e)
    where
      go : (k : Option Leg) → find_leg m legs ≡ k → is_marked_on f x k ≡ true → is_busy legs l f x ≡ true
      go None found e = absurd (cc e)
      go (Some g) found e =
          any-found (λ h. uses f x h && (is_marked h && not (same_lsp h.lsp l))) (λ h. same_lsp h.lsp m) legs g found
          (all_three (uses f x g) (is_marked g) (not (same_lsp g.lsp l)) (and-right (is_marked g) (uses f x g) e)
          (and-left (is_marked g) (uses f x g) e)
          (subst (λ k. not (same_lsp k l) ≡ true) (sym (found-lsp m legs g found)) (rw apart refl)))

  -- where no leg does the mark is the LSP's own
  own-mark : (l m : Lsp) → is_busy legs l f x ≡ false → is_lit o.marks f x m ≡ true → same_lsp m l ≡ true
  own-mark l m free e = go (same_lsp m l) refl
    where
      go : (b : Bool) → same_lsp m l ≡ b → b ≡ true
      go true h = refl
      go false h = absurd (let busy = mark-busy l m e h in cc (free, busy))

  -- a mark that is another LSP's
  busy-lit : (l : Lsp) → is_other l (lit o.marks f x) ≡ true → is_busy legs l f x ≡ true
  busy-lit l e = go (lit o.marks f x) refl e
    where
      test : (k : Lsp) → not (same_lsp k l) ≡ true → same_lsp k l ≡ false
      test k h = go (same_lsp k l) h
        where
          go : (b : Bool) → not b ≡ true → b ≡ false
          go true h = absurd (cc h)
          go false h = refl

      go : (w : Option Lsp) → lit o.marks f x ≡ w → is_other l w ≡ true → is_busy legs l f x ≡ true
      go None is e = absurd (cc e)
      go (Some k) is e = mark-busy l k (ap (λ w. is_lsp w k) is ∙ same_lsp-refl k) (test k e)

  leg-lit : (l m : Lsp) (g : Leg) → find_leg m legs ≡ Some g →
      (uses f x g && (is_marked g && not (same_lsp g.lsp l))) ≡ true → is_other l (lit o.marks f x) ≡ true
  leg-lit l m g found busy = go (lit o.marks f x) (fit f x m ∙ ap (is_marked_on f x) found ∙ here)
    where
      rest : (is_marked g && not (same_lsp g.lsp l)) ≡ true
      rest = and-right (uses f x g) _ busy

      here : (is_marked g && uses f x g) ≡ true
      here = rw (and-left (is_marked g) _ rest, and-left (uses f x g) _ busy) refl

      other : not (same_lsp m l) ≡ true
      other = subst (λ k. not (same_lsp k l) ≡ true) (found-lsp m legs g found) (and-right (is_marked g) _ rest)

      go : (w : Option Lsp) → is_lsp w m ≡ true → is_other l w ≡ true
      go None e = absurd (cc e)
      go (Some k) e = ap not (same_lsp-by k m l e) ∙ other

  pub lit-busy : LegsRise legs → (l : Lsp) → is_other l (lit o.marks f x) ≡ is_busy legs l f x
  lit-busy rise l =
      same-truth _ _ (busy-lit l)
      (λ h. of_each (λ g. uses f x g && (is_marked g && not (same_lsp g.lsp l)))
      (is_other l (lit o.marks f x) ≡ true) legs
      (all-found (λ g. (uses f x g && (is_marked g && not (same_lsp g.lsp l))) ≡ true →
      is_other l (lit o.marks f x) ≡ true) legs rise (leg-lit l)) h)

module _ (legs : List Leg) (o : OwnerState) (fit : MarksFit legs o) where
  -- the marks tell whether a leg is contended
  pub lit-contended : LegsRise legs → (g : Leg) → is_lit_over o.marks g ≡ is_contended legs g
  lit-contended rise g = rw (
    here g.in_fibre g.in_label,
    here (reverse_of g.out_fibre) g.back_in,
    here g.out_fibre g.out_label,
    here (reverse_of g.in_fibre) g.back_out,
  ) refl
    where
      here : (i : Option Fibre) (y : Option ℕ) → is_lit_at o.marks g.lsp i y ≡ is_busy_at legs g.lsp i y
      here None y = refl
      here (Some f) None = refl
      here (Some f) (Some x) = lit-busy legs o fit f x rise g.lsp

-- a mark on a label that a leg uses which isn't contended is its own LSP's
pub alone-open : (legs : List Leg) (o : OwnerState) → MarksFit legs o → (g : Leg) → is_contended legs g ≡ false →
    (f : Fibre) (x : ℕ) (m : Lsp) → uses f x g ≡ true → is_lit o.marks f x m ≡ true → same_lsp m g.lsp ≡ true
alone-open legs o fit g alone f x m used e =
    own-mark legs o fit f x g.lsp m (free-of legs g f x alone used) e
