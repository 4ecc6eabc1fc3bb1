-- The release of a call, with all its LSPs, keeps the facts of a node.
use Rattle.std.proofs.{Common.{◌≡◌, ℕ, Bool, true, false, cond, nat_eq, List, [], ◌∷◌, refl, sym, ap, subst, ◌∙◌, arith, inl, inr}, lemmas.Bool.false_from_ne_true}
use Rattle.std.specs.Prelude.{◌⊎◌, ◌||◌, Option, Some, None, IfSome}
use Rattle.ason_base.specs.{declared.ids.CallNo.CallNo, declared.ids.Lsp.Lsp, declared.ids.NodeId.NodeId, declared.calls.Role.Role, declared.calls.Role.TheVariants.{Work, Back}, declared.tables.CallRec.CallRec, declared.tables.Leg.Leg, Lsps.{is_lsp, same_lsp}}
use Rattle.ason_base.proofs.Bools.{neither-left}
use Rattle.mesh_rules.specs.declared.changes.CallChange.TheVariants as call
use Rattle.mesh_rules.specs.{Calls.{find_call, names, without_call}, Changes.{Answer, changed, changes_calls, followed_by}, Legs.{closed, find_leg, has_lsp, is_closing, leg_of, with_leg}, LocalNodes.LocalNode, Releases.{release_with, releases, tears}, State.NodeState}
use Rattle.mesh_nodes.proofs.{Cases.{if_cases, neither_right}, CallList.{find-without_call, found-number, rise-without_call}, LegList.{find-with_leg, found-lsp}}
use Rattle.lsp_laws.specs.CallLaw.{FitsLegs, IsNamed}
use Rattle.lsp_laws.proofs.{nodes.Facts.NodeFacts, nodes.CallParts.{CallPart, lsp-is, together-part}, nodes.BackLabels.closed-closing, nodes.ClosedLegs.closed-stands, nodes.LegParts.{LegPart, part-with_leg}, nodes.NewLegs.ingress-goes_on, nodes.Parts.{call_part, leg_part, node_facts}, nodes.PathKeeps.KeepsFacts, hops.NamedPhases.named_is}

-- Legs close

-- the legs after this one closed, where there is one
abbrev closes : Option Leg → List Leg → List Leg
closes None legs = legs
closes (Some g) legs = with_leg (closed g) legs

-- a leg of these that begins here
abbrev IsOwn : ℕ → List Leg → Leg → Type 0
IsOwn n legs g = (find_leg g.lsp legs ≡ Some g) × (g.lsp.ingress.0 ≡ n)

part-closes : (n next : ℕ) (o : Option Leg) (legs : List Leg) → IfSome o (IsOwn n legs) → LegPart n next legs →
    LegPart n next (closes o legs)
part-closes n next None legs mine part = part
part-closes n next (Some g) legs mine part =
    part-with_leg n next next (closed g) legs (omega arith) part
    (closed-stands n next legs g part mine.0 (ingress-goes_on n next g (part.leg g.lsp g mine.0) mine.1))

closes-other : (o : Option Leg) (m : Lsp) (legs : List Leg) → has_lsp o m ≡ false →
    find_leg m (closes o legs) ≡ find_leg m legs
closes-other None m legs other = refl
closes-other (Some g) m legs other = rw (find-with_leg (closed g) legs m, other) refl

-- a leg that is torn already, or that closes now
closes-torn : (o : Option Leg) (m : Lsp) (legs : List Leg) (h : Leg) →
    ((x : Leg) → find_leg m legs ≡ Some x → is_closing x.phase ≡ true) ⊎ (has_lsp o m ≡ true) →
    find_leg m (closes o legs) ≡ Some h → is_closing h.phase ≡ true
closes-torn None m legs h (inl torn) found = torn h found
closes-torn None m legs h (inr now) found = absurd (cc now)
closes-torn (Some g) m legs h which found = go (same_lsp g.lsp m) (sym (find-with_leg (closed g) legs m) ∙ found) which
  where
    go : (b : Bool) → cond b (Some (closed g)) (find_leg m legs) ≡ Some h →
        ((x : Leg) → find_leg m legs ≡ Some x → is_closing x.phase ≡ true) ⊎ (b ≡ true) → is_closing h.phase ≡ true
    go true e which =
        let is : closed g ≡ h = cc e in subst (λ x. is_closing x.phase ≡ true) is (closed-closing g.phase g.role)
    go false e (inl torn) = torn h e
    go false e (inr now) = absurd (cc now)

-- The call goes

abbrev goes : CallNo → Option Leg → Option Leg → Answer
goes k w b = followed_by (tears w) (followed_by (tears b) (changes_calls (call.Goes k ∷ [])))

goes-facts : (n : ℕ) (s : NodeState) (k : CallNo) (w b : Option Leg) →
    LegPart n s.lsp (closes b (closes w s.legs)) →
    CallPart n s.lsp (closes b (closes w s.legs)) (without_call k s.calls) → NodeFacts n (changed s (goes k w b))
goes-facts n s k None None legs calls = node_facts n (changed s (goes k None None)) legs calls
goes-facts n s k None (Some b) legs calls = node_facts n (changed s (goes k None (Some b))) legs calls
goes-facts n s k (Some w) None legs calls = node_facts n (changed s (goes k (Some w) None)) legs calls
goes-facts n s k (Some w) (Some b) legs calls = node_facts n (changed s (goes k (Some w) (Some b))) legs calls

module _ (n : ℕ) (s : NodeState) (c : CallRec) (found : find_call c.call s.calls ≡ Some c) (facts : NodeFacts n s) where
  fit : FitsLegs n s.lsp s.legs c
  fit = facts.call c.call c found

  -- the leg of an LSP that the call names
  mine : (r : Role) (o : Option Lsp) → IfSome o (IsNamed n s.lsp s.legs r c.egress) →
      IfSome (leg_of o s.legs) (IsOwn n s.legs)
  mine r None named = tt
  mine r (Some l) named =
      let leg = named.leg in
      let is = found-lsp l s.legs leg.0 leg.1 in
      subst (λ o. IfSome o (IsOwn n s.legs)) (sym leg.1)
      (subst (λ k. find_leg k s.legs ≡ Some leg.0) (sym is) leg.1, ap (λ k. k.ingress.0) is ∙ named.ingress)

  is-named : (r : Role) (o : Option Lsp) → IfSome o (IsNamed n s.lsp s.legs r c.egress) → (m : Lsp) →
      has_lsp (leg_of o s.legs) m ≡ is_lsp o m
  is-named r None named m = refl
  is-named r (Some l) named m =
      let leg = named.leg in
      ap (λ o. has_lsp o m) leg.1 ∙ ap (λ k. same_lsp k m) (found-lsp l s.legs leg.0 leg.1)

  abbrev w : Option Leg
  w = leg_of c.work s.legs

  abbrev b : Option Leg
  b = leg_of c.back s.legs

  -- the working LSP is another one than the backup
  work-other : (l : Lsp) → c.back ≡ Some l → is_lsp c.work l ≡ false
  work-other l back = false_from_ne_true (is_lsp c.work l) (λ e.
      let one = (named_is n s.lsp s.legs Work c.egress c.work l fit.work (lsp-is c.work l e)).leg in
      let other = (named_is n s.lsp s.legs Back c.egress c.back l fit.back back).leg in
      let same : one.0 ≡ other.0 = (let p = one.1 in let q = other.1 in cc (p, q)) in
      let role : one.0.role ≡ Back = subst (λ (g : Leg). g.role ≡ Back) (sym same) other.2 in
      let work : one.0.role ≡ Work = one.2 in
      cc (role, work))

  -- so the backup's leg stands after the working LSP's closed
  still-mine : (o : Option Lsp) → c.back ≡ o → IfSome (leg_of o s.legs) (IsOwn n s.legs) →
      IfSome (leg_of o s.legs) (IsOwn n (closes w s.legs))
  still-mine None is own = tt
  still-mine (Some l) is own = go (find_leg l s.legs) refl own
    where
      go : (g : Option Leg) → find_leg l s.legs ≡ g → IfSome g (IsOwn n s.legs) → IfSome g (IsOwn n (closes w s.legs))
      go None there own = tt
      go (Some g) there own =
          let same : g.lsp ≡ l = found-lsp l s.legs g there in
          let apart : has_lsp w g.lsp ≡ false =
          is-named Work c.work fit.work g.lsp ∙ ap (is_lsp c.work) same ∙ work-other l is in
          (closes-other w g.lsp s.legs apart ∙ own.0, own.1)

  abbrev legs' : List Leg
  legs' = closes (leg_of c.back s.legs) (closes (leg_of c.work s.legs) s.legs)

  other-stays : (m : Lsp) → names m c ≡ false → find_leg m legs' ≡ find_leg m s.legs
  other-stays m other =
      closes-other b m (closes w s.legs)
      (is-named Back c.back fit.back m ∙ neither_right (is_lsp c.work m) (is_lsp c.back m) other)
      ∙ closes-other w m s.legs
      (is-named Work c.work fit.work m ∙ neither-left (is_lsp c.work m) (is_lsp c.back m) other)

  torn-now : (m : Lsp) (g : Leg) → names m c ≡ true → find_leg m legs' ≡ Some g → is_closing g.phase ≡ true
  torn-now m g named there =
      closes-torn b m (closes w s.legs) g (which (is_lsp c.work m) refl named) there
    where
      which : (t : Bool) → is_lsp c.work m ≡ t → (t || is_lsp c.back m) ≡ true →
          ((x : Leg) → find_leg m (closes w s.legs) ≡ Some x → is_closing x.phase ≡ true) ⊎ (has_lsp b m ≡ true)
      which true work named =
          inl (λ x at_m. closes-torn w m s.legs x (inr (is-named Work c.work fit.work m ∙ work)) at_m)
      which false work named = inr (is-named Back c.back fit.back m ∙ named)

  -- its LSPs are no other call's
  apart : (m : CallNo) (d : CallRec) (x : Lsp) → nat_eq c.call.0 m.0 ≡ false → find_call m s.calls ≡ Some d →
      names x d ≡ true → (t : Bool) → names x c ≡ t → t ≡ false
  apart m d x other there has false t = refl
  apart m d x other there has true t =
      let one : c.call ≡ m = facts.one_call x c.call m c d found there t has in
      let same : nat_eq c.call.0 m.0 ≡ true = (let q : c.call.0 ≡ m.0 = ap (λ y. y.0) one in grind arith) in
      absurd (cc (same, other))

  keeps-goes : NodeFacts n (changed s (releases s c))
  keeps-goes =
      goes-facts n s c.call w b
      (part-closes n s.lsp b (closes w s.legs) (still-mine c.back refl (mine Back c.back fit.back))
      (part-closes n s.lsp w s.legs (mine Work c.work fit.work) (leg_part n s facts)))
      (together-part n s.lsp s.lsp (λ x. names x c) c.call None s.legs legs' s.calls (without_call c.call s.calls)
      (omega arith) (rise-without_call c.call s.calls facts.calls_rise) (find-without_call c.call s.calls)
      (record {
        stay = other-stays;
        apart = λ m d x other there has. apart m d x other there has (names x c) refl;
        only = λ d x is has. absurd (cc is);
        kept = λ d x there has never.
            (let one : d ≡ c = cc (there, found) in
            let named : names x c ≡ true = subst (λ y. names x y ≡ true) one has in
            absurd (cc (named, never)));
        facts = λ d is. absurd (cc is);
        number = λ d is. absurd (cc is);
        wanted = λ x h named there here standing.
            (let torn = torn-now x h named there in absurd (cc (torn, standing)));
      })
      (call_part n s facts))

pub keeps-release : (p : LocalNode) (s : NodeState) (n : CallNo) (from : NodeId) (o : Option CallRec) →
    find_call n s.calls ≡ o → NodeFacts p.id.0 s → KeepsFacts p s (release_with p s from o)
keeps-release p s n from None is facts = facts
keeps-release p s n from (Some c) is facts =
    let number = found-number n s.calls c is in
    if_cases (KeepsFacts p s) (nat_eq from.0 p.id.0) _ _
    (λ e. keeps-goes p.id.0 s c (subst (λ k. find_call k s.calls ≡ Some c) (sym number) is) facts) (λ e. facts)
