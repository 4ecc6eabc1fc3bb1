-- The legs of a call stand where it does.
use Rattle.std.proofs.Common.{◌≡◌, ◌<◌, ℕ, Bool, true, false, nat_eq, refl, sym, ap, ◌∙◌, subst, arith}
use Rattle.std.specs.Prelude.{Option, Some, None, is_some}
use Rattle.ason_base.specs.{Lsps.same_lsp, declared.ids.CallNo.CallNo, declared.ids.Fibre.Fibre, declared.ids.Lsp.Lsp, declared.ids.NodeId.NodeId, declared.tables.CallRec.CallRec, declared.tables.Leg.Leg}
use Rattle.ason_base.specs.declared.calls.Role.TheVariants as role
use Rattle.mesh_rules.specs.{declared.neighbours.Neighbour.Neighbour, Activations.resv_to, Calls.{call_with, find_call}, Legs.{find_leg, is_held, leg_of, neighbour_over, previous}, LocalNodes.LocalNode, Paths.is_active, State.NodeState, Turns.activating}
use Rattle.mesh_nodes.proofs.{CallList.called-found, LegList.{found-lsp, same_lsp-eq}}
use Rattle.lsp_laws.specs.CallLaw.{FitsLegs}
use Rattle.lsp_laws.proofs.{nodes.Facts.NodeFacts, hops.NamedPhases.named_is}
use Rattle.mesh_laws.proofs.{reports.GentleWords.AllMild, reports.GentleAnswers.IfStands, reports.StoodLegs.back-activates}

-- A node in a state of a run

-- the LSP was begun before, if at this node
abbrev pub IsOldLsp : LocalNode → NodeState → Lsp → Type 0
IsOldLsp p s l = l.ingress.0 ≡ p.id.0 → l.lsp < s.lsp

module _ (p : LocalNode) (s : NodeState) (facts : NodeFacts p.id.0 s) (l : Lsp) where
  -- the call that has an LSP
  pub called-there : (k : Lsp) (c : CallRec) → call_with k s.calls ≡ Some c → find_call c.call s.calls ≡ Some c
  called-there k c called = called-found k s.calls c facts.calls_rise called

  -- the two LSPs of a call aren't one, since a leg has one role
  pub not-both : (k : CallNo) (c : CallRec) → find_call k s.calls ≡ Some c → c.work ≡ Some l → c.back ≡ Some l → ⊥
  not-both k c found is is' =
      let fit : FitsLegs p.id.0 s.lsp s.legs c = facts.call k c found in
      let work = (named_is p.id.0 s.lsp s.legs role.Work c.egress c.work l fit.work is).leg in
      let back = (named_is p.id.0 s.lsp s.legs role.Back c.egress c.back l fit.back is').leg in
      let same : work.0 ≡ back.0 = (let a = work.1 in let b = back.1 in cc (a, b)) in
      let roles : role.Work ≡ role.Back = sym work.2 ∙ ap (λ (g : Leg). g.role) same ∙ back.2 in
      cc roles

  -- the leg of an LSP that is named
  pub leg-there : (o : Option Lsp) (b : Leg) → leg_of o s.legs ≡ Some b → find_leg b.lsp s.legs ≡ Some b
  leg-there None b is = absurd (cc is)
  leg-there (Some k) b is =
      subst (λ j. find_leg j s.legs ≡ Some b) (sym (found-lsp k s.legs b is)) is

  leg-activates : (b : Leg) → find_leg b.lsp s.legs ≡ Some b → is_held b.phase ≡ true →
      is_active (activating b.path_role) ≡ true
  leg-activates b found held =
      let fit = facts.leg b.lsp b found in
      back-activates b.path_role (sym fit.role ∙ fit.held (rw held refl))

  pub leg-stands : (o : Option Lsp) → IfStands s (leg_of o s.legs)
  leg-stands o b is =
      let found = leg-there o b is in
      record { found = found; activates = leg-activates b found }

  -- a new LSP of this node
  pub new-apart : IsOldLsp p s l → (k : Lsp) → k.ingress.0 ≡ p.id.0 → k.lsp ≡ s.lsp → same_lsp k l ≡ false
  new-apart old k here number = go (same_lsp k l) refl
    where
      go : (b : Bool) → same_lsp k l ≡ b → b ≡ false
      go false e = refl
      go true e =
          let one : k ≡ l = same_lsp-eq k l e in
          let at : l.ingress.0 ≡ p.id.0 = subst (λ (x : Lsp). x.ingress.0 ≡ p.id.0) one here in
          let is : l.lsp ≡ s.lsp = subst (λ (x : Lsp). x.lsp ≡ s.lsp) one number in
          let less : l.lsp < s.lsp = old at in
          absurd (omega arith)

  pub begins-here : (g : Leg) → find_leg g.lsp s.legs ≡ Some g → previous g ≡ None → g.lsp.ingress.0 ≡ p.id.0
  begins-here g found first = go (nat_eq g.lsp.ingress.0 p.id.0) refl
    where
      both : (a : Option NodeId) (f : Option Fibre) → is_some f ≡ is_some a → neighbour_over a f ≡ None →
          is_some a ≡ false
      both None f e h = refl
      both (Some n) None e h = sym e
      both (Some n) (Some f) e h = absurd (cc h)

      none : is_some g.prev ≡ false
      none = both g.prev g.in_fibre (facts.leg g.lsp g found).in_fibre first

      go : (b : Bool) → nat_eq g.lsp.ingress.0 p.id.0 ≡ b → g.lsp.ingress.0 ≡ p.id.0
      go true e = grind arith
      go false e = absurd (let h = (facts.leg g.lsp g found).prev in cc (h, none, e))

  -- Messages

  pub mild-resv : (g : Leg) (h : Option Neighbour) (x : Option ℕ) → AllMild l (resv_to g h x)
  mild-resv g None x = tt
  mild-resv g (Some h) None = tt
  mild-resv g (Some h) (Some x) = ((λ own. (refl, refl)), tt)
