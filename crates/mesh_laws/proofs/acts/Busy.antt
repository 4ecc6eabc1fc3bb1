-- A leg that can't be activated: which leg of another LSP uses a label that it uses.
use Rattle.std.proofs.{Common.{◌≡◌, ℕ, Bool, true, false, not, List, refl, sym, ap, ◌∙◌, subst, inl, inr}, lemmas.Bool.{not-true, or_cases}}
use Rattle.std.specs.Prelude.{◌⊎◌, ◌&&◌, ◌||◌, Option, Some, None}
use Rattle.ason_base.specs.{declared.calls.Phase.Phase, declared.calls.Phase.TheVariants.{Asked, Held, Armed, Live, Closing, Falling}, declared.ids.Fibre.Fibre, declared.ids.Lsp.Lsp, declared.tables.CallRec.CallRec, declared.tables.Leg.Leg, Lsps.same_lsp}
use Rattle.ason_base.proofs.{Ordered.any-there, Bools.{not-self, and-left, and-right}}
use Rattle.mesh_rules.specs.Legs.{find_leg, is_busy, is_busy_at, is_contended, is_marked, is_marking, is_work, reverse, reverse_of, uses}
use Rattle.mesh_nodes.proofs.{BusyLabels.used-at, LabelPlaces.at-is, LegList.same_lsp-refl}
use Rattle.lsp_laws.proofs.nodes.Sharing.{back-of}
use Rattle.mesh_laws.specs.{ActsLaw.BackupIsBusy, CauseLaw.{IsBusy, Uses}, RestedLaw.{AreOpposite, GoesBack, GoesOn, Onward, Returning}}

-- the other direction of a leg's fibre
pub opposite-of : (o : Option Fibre) (f : Fibre) → reverse_of o ≡ Some f → (e : Fibre) × (o ≡ Some e) × AreOpposite e f
opposite-of None f is = absurd (cc is)
opposite-of (Some e) f is =
    let one : reverse e ≡ f = cc is in (
      e,
      refl,
      record {
        link = ap (λ (x : Fibre). x.link) one;
        forward = λ same. not-self e.forward (same ∙ ap (λ (x : Fibre). x.forward) (sym one));
      },
    )

uses-so : (f : Fibre) (x : ℕ) (g : Leg) → uses f x g ≡ true → Uses f x g
uses-so f x g used =
    used-at (Uses f x g) g f x used
    (λ on. let is = at-is g.in_fibre g.in_label f x on in inl (Onward is.0 is.1))
    (λ on. let is = at-is (reverse_of g.out_fibre) g.back_in f x on in let e = opposite-of g.out_fibre f is.0 in
    inl (Returning e.1 e.2 is.1))
    (λ on. let is = at-is g.out_fibre g.out_label f x on in inr (GoesOn is.0 is.1))
    (λ on. let is = at-is (reverse_of g.in_fibre) g.back_out f x on in let e = opposite-of g.in_fibre f is.0 in
    inr (GoesBack e.1 e.2 is.1))

marking : (q : Phase) → is_marking q ≡ true → (q ≡ Armed) ⊎ ((q ≡ Live) ⊎ (q ≡ Falling))
marking Armed e = inl refl
marking Live e = inr (inl refl)
marking Falling e = inr (inr refl)
marking Asked e = absurd (cc e)
marking Held e = absurd (cc e)
marking Closing e = absurd (cc e)

busy-place : (legs : List Leg) (l : Lsp) (o : Option Fibre) (label : Option ℕ) → is_busy_at legs l o label ≡ true →
    (f : Fibre) × (x : ℕ) × (o ≡ Some f) × (label ≡ Some x) × (is_busy legs l f x ≡ true)
busy-place legs l None label e = absurd (cc e)
busy-place legs l (Some f) None e = absurd (cc e)
busy-place legs l (Some f) (Some x) e = (f, x, refl, refl, e)

-- a leg that can't be activated is busy
pub leg-busy : (legs : List Leg) (g : Leg) → is_contended legs g ≡ true → IsBusy legs g
leg-busy legs g busy =
    elim (or_cases enters (back_enters || (leaves || back_leaves)) busy) [
      | inl at ↦ (let p = busy-place legs g.lsp g.in_fibre g.in_label at in
          found p.0 p.1 (inl (Onward p.2 p.3)) p.4)
      | inr more ↦ elim (or_cases back_enters (leaves || back_leaves) more) [
        | inl at ↦ (let p = busy-place legs g.lsp (reverse_of g.out_fibre) g.back_in at in
            let e = opposite-of g.out_fibre p.0 p.2 in found p.0 p.1 (inl (Returning e.1 e.2 p.3)) p.4)
        | inr more ↦ elim (or_cases leaves back_leaves more) [
          | inl at ↦ (let p = busy-place legs g.lsp g.out_fibre g.out_label at in
              found p.0 p.1 (inr (GoesOn p.2 p.3)) p.4)
          | inr at ↦ (let p = busy-place legs g.lsp (reverse_of g.in_fibre) g.back_out at in
              let e = opposite-of g.in_fibre p.0 p.2 in found p.0 p.1 (inr (GoesBack e.1 e.2 p.3)) p.4)
        ]
      ]
    ]
  where
    enters : Bool
    enters = is_busy_at legs g.lsp g.in_fibre g.in_label

    back_enters : Bool
    back_enters = is_busy_at legs g.lsp (reverse_of g.out_fibre) g.back_in

    leaves : Bool
    leaves = is_busy_at legs g.lsp g.out_fibre g.out_label

    back_leaves : Bool
    back_leaves = is_busy_at legs g.lsp (reverse_of g.in_fibre) g.back_out

    found : (f : Fibre) (x : ℕ) → Uses f x g → is_busy legs g.lsp f x ≡ true → IsBusy legs g
    found f x own e =
        let h = any-there (λ h. uses f x h && (is_marked h && not (same_lsp h.lsp g.lsp))) legs e in
        let used = and-left (uses f x h.0) _ h.2 in
        let rest = and-right (uses f x h.0) _ h.2 in
        let mark = and-left (is_marked h.0) _ rest in
        let other : same_lsp h.0.lsp g.lsp ≡ false = not-true _ (and-right (is_marked h.0) _ rest) in
        record {
          other = h.0;
          fibre = f;
          label = x;
          there = h.1;
          apart = λ is.
              (let test : same_lsp h.0.lsp g.lsp ≡ true =
              subst (λ k. same_lsp h.0.lsp k ≡ true) is (same_lsp-refl h.0.lsp) in
              cc (other, test));
          role = back-of h.0.role (and-left _ (is_marking h.0.phase) mark);
          phase = marking h.0.phase (and-right (not (is_work h.0.role)) _ mark);
          own_uses = own;
          other_uses = uses-so f x h.0 used;
        }

-- so a call is whose backup has that leg
pub backup-busy : (legs : List Leg) (c : CallRec) (l : Lsp) (g : Leg) → c.back ≡ Some l → find_leg l legs ≡ Some g →
    is_contended legs g ≡ true → BackupIsBusy legs c
backup-busy legs c l g named here busy =
    record { backup = l; own = g; named = named; own_there = here; busy = leg-busy legs g busy }
