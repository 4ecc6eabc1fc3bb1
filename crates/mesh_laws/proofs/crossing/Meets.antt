-- Two backups that cross on a link with one label both use it at the node that the one comes from, and so aren't both
-- activated there.
use Rattle.std.proofs.{Common.{◌≡◌, ℕ, true, false, List, sym, ap, subst, ◌∙◌, inl, inr}, lemmas.Bool.{or_left, or_right}}
use Rattle.std.specs.Prelude.{Some}
use Rattle.ason_base.specs.{declared.ids.Fibre.Fibre, declared.ids.Lsp.Lsp, declared.tables.Leg.Leg}
use Rattle.mesh_rules.specs.Legs.{find_leg, is_at, is_closing, is_marked, reverse, reverse_of, sends_label, takes, uses}
use Rattle.mesh_nodes.proofs.LabelPlaces.{is-at}
use Rattle.lsp_laws.specs.LabelLaw.{HaveOneLabel}
use Rattle.lsp_laws.proofs.{hops.Purposes.{BackMeets, LabelsMeet}, nodes.Facts.NoTwoMarked, nodes.LegParts.taken-used}
use Rattle.mesh_rules.proofs.AnswerParts.{turned-twice}

-- the same label, told by the other leg
pub flip-label : (g h : Leg) → HaveOneLabel g h → HaveOneLabel h g
flip-label g h (x, inl both) = (x, inr (both.1, both.0))
flip-label g h (x, inr both) = (x, inl (both.1, both.0))

sent-used : (f : Fibre) (x : ℕ) (g : Leg) → sends_label f x g ≡ true → uses f x g ≡ true
sent-used f x g sent = or_right (takes f x g) (sends_label f x g) sent

-- a label that both legs use
record BothUse (v h : Leg) : Type 0 where
  fibre : Fibre
  label : ℕ
  one : uses fibre label v ≡ true
  other : uses fibre label h ≡ true

-- v, the leg of g's LSP at the node before g's, uses the label of g and h too
meet-upstream : (f : Fibre) (y : ℕ) (v g h : Leg) → v.out_fibre ≡ Some f → h.in_fibre ≡ Some (reverse f) →
    v.out_label ≡ Some y → LabelsMeet v.out_label g.in_label → BackMeets (Some v) (Some g) →
    is_closing g.phase ≡ false → HaveOneLabel g h → BothUse v h
meet-upstream f y v g h leaves enters out meets back stands (x, inl both) =
    let same : y ≡ x = subst (λ o. LabelsMeet o (Some x)) out (subst (λ o. LabelsMeet v.out_label o) both.0 meets) in
    let label : v.out_label ≡ Some x = out ∙ ap Some same in
    record {
      fibre = f;
      label = x;
      one = sent-used f x v (or_left (is_at v.out_fibre v.out_label f x) _
          (is-at v.out_fibre v.out_label f x leaves label));
      other = sent-used f x h (or_right (is_at h.out_fibre h.out_label f x) _
          (is-at (reverse_of h.in_fibre) h.back_out f x (ap reverse_of enters ∙ ap Some (turned-twice f)) both.1));
    }
meet-upstream f y v g h leaves enters out meets back stands (x, inr both) =
    let label : v.back_in ≡ Some x = sym (back stands) ∙ both.0 in
    record {
      fibre = reverse f;
      label = x;
      one = taken-used (reverse f) x v (or_right (is_at v.in_fibre v.in_label (reverse f) x) _
          (is-at (reverse_of v.out_fibre) v.back_in (reverse f) x (ap reverse_of leaves) label));
      other = taken-used (reverse f) x h (or_left (is_at h.in_fibre h.in_label (reverse f) x) _
          (is-at h.in_fibre h.in_label (reverse f) x enters both.1));
    }

-- so where v is marked h isn't
pub never-cross : (legs : List Leg) (l m : Lsp) (f : Fibre) (y : ℕ) (v g h : Leg) → NoTwoMarked legs →
    find_leg l legs ≡ Some v → find_leg m legs ≡ Some h → (l ≡ m → ⊥) → is_marked v ≡ true → is_marked h ≡ true →
    v.out_fibre ≡ Some f → h.in_fibre ≡ Some (reverse f) → v.out_label ≡ Some y →
    LabelsMeet v.out_label g.in_label → BackMeets (Some v) (Some g) → is_closing g.phase ≡ false →
    HaveOneLabel g h → ⊥
never-cross legs l m f y v g h one at_v at_h apart mark_v mark_h leaves enters out meets back stands label =
    let both : BothUse v h = meet-upstream f y v g h leaves enters out meets back stands label in
    apart (one both.fibre both.label l m v h at_v at_h both.one both.other mark_v mark_h)
