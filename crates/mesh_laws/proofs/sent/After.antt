-- What an answer leaves of labels that are sent, of what the LSPs of legs are for, of backups that are activated, and
-- of legs that are two-way.
use Rattle.std.proofs.Common.{◌≡◌, ℕ, Bool, true, false, cond, List, [], ◌∷◌, refl, sym, ap, subst, ◌∙◌, inl}
use Rattle.std.specs.Prelude.{◌⊎◌, Option, Some, None}
use Rattle.ason_base.specs.{declared.ids.Fibre.Fibre, declared.ids.Lsp.Lsp, declared.tables.Leg.Leg, Lsps.same_lsp}
use Rattle.mesh_rules.specs.{declared.changes.LegChange.LegChange, declared.changes.LegChange.TheVariants.{Goes, Put}, Legs.{find_leg, legs_changed, with_leg, without_leg}, LocalNodes.LocalNode, Pairs.is_two_way, State.NodeState}
use Rattle.mesh_nodes.proofs.LegList.{find-with_leg, find-without_leg, same_lsp-eq}
use Rattle.mesh_laws.specs.HeardLaw.{sends_of}
use Rattle.mesh_laws.proofs.sent.May.{AllMay, Arms, Given, May, SaidBefore, SaysRole, StaysWay, found-may}

module _ (p : LocalNode) (s : NodeState) (Q : Given) where
  -- what a leg that is found afterwards may be
  pub record AfterFits (l : Lsp) (g : Leg) : Type 0 where
    pub sent : (f : Fibre) (x : ℕ) → sends_of f x (Some g) ≡ true →
        (sends_of f x (find_leg l s.legs) ≡ true) ⊎ Q.labels l f x
    pub says : SaysRole p s Q l g.path_role
    pub arms : Arms p s Q g
    pub way : StaysWay s l g

  abbrev AllFit : List Leg → Type 0
  AllFit legs = (l : Lsp) (g : Leg) → find_leg l legs ≡ Some g → AfterFits l g

  fit_now : AllFit s.legs
  fit_now l g found = record {
    sent = λ f x h. inl (subst (λ o. sends_of f x o ≡ true) (sym found) h);
    says = SaidBefore g found refl;
    arms = (found-may p s Q l g found).arms;
    way = λ h there given. (let one : g ≡ h = cc (found, there) in ap is_two_way one);
  }

  went : (k : Lsp) (legs : List Leg) → AllFit legs → AllFit (without_leg k legs)
  went k legs was l g found = go (same_lsp k l) (sym (find-without_leg k legs l) ∙ found)
    where
      go : (b : Bool) → cond b None (find_leg l legs) ≡ Some g → AfterFits l g
      go true e = absurd (cc e)
      go false e = was l g e

  put : (h : Leg) (legs : List Leg) → May p s Q h → AllFit legs → AllFit (with_leg h legs)
  put h legs may was l g found = go (same_lsp h.lsp l) refl (sym (find-with_leg h legs l) ∙ found)
    where
      go : (b : Bool) → same_lsp h.lsp l ≡ b → cond b (Some h) (find_leg l legs) ≡ Some g → AfterFits l g
      go true e is =
          let here : AfterFits h.lsp h = record {
            sent = may.sent;
            says = may.says;
            arms = may.arms;
            way = may.way;
          } in
          let same : h ≡ g = cc is in
          subst (λ k. AfterFits k g) (same_lsp-eq h.lsp l e) (subst (AfterFits h.lsp) same here)
      go false e is = was l g is

  changed : (cs : List LegChange) (legs : List Leg) → AllMay p s Q cs → AllFit legs → AllFit (legs_changed cs legs)
  changed [] legs all was = was
  changed (Goes k ∷ cs) legs all was = changed cs (without_leg k legs) all (went k legs was)
  changed (Put g ∷ cs) legs all was = changed cs (with_leg g legs) all.1 (put g legs all.0 was)

  -- each leg that is found after an answer
  pub after-fit : (cs : List LegChange) → AllMay p s Q cs → (l : Lsp) (g : Leg) →
      find_leg l (legs_changed cs s.legs) ≡ Some g → AfterFits l g
  after-fit cs all l g found = changed cs s.legs all fit_now l g found

  -- it sends what its LSP's leg did, or what is given
  pub after-may : (cs : List LegChange) → AllMay p s Q cs → (l : Lsp) (f : Fibre) (x : ℕ) →
      sends_of f x (find_leg l (legs_changed cs s.legs)) ≡ true →
      (sends_of f x (find_leg l s.legs) ≡ true) ⊎ Q.labels l f x
  after-may cs all l f x h = go (find_leg l (legs_changed cs s.legs)) refl h
    where
      go : (o : Option Leg) → find_leg l (legs_changed cs s.legs) ≡ o → sends_of f x o ≡ true →
          (sends_of f x (find_leg l s.legs) ≡ true) ⊎ Q.labels l f x
      go None e h = absurd (cc h)
      go (Some g) e h = (after-fit cs all l g e).sent f x h
