-- Where each LSP follows its route, what may be sent is taken at the other end, and those that take one label share it.
use Rattle.std.proofs.Common.{◌≡◌, ◌≢◌, ◌≤◌, ℕ, zero, suc, Bool, true, false, cond, not, List, [], ◌∷◌, refl, sym, ap, subst, ◌∙◌, arith, inl, inr}
use Rattle.std.specs.Prelude.{◌⊎◌, ◌&&◌, Option, Some, None}
use Rattle.ason_base.specs.{Lsps.same_lsp, Network.{Network, receiver_of, sender_of}, Risks.{AreDisjoint, route_risks}, declared.ids.Fibre.Fibre, declared.ids.Lsp.Lsp, declared.ids.NodeId.NodeId, declared.messages.Msg.Msg, declared.messages.PathRole.PathRole, declared.messages.PathRole.TheVariants.{Work, Back}, declared.steps.Step.Step, declared.tables.Leg.Leg}
use Rattle.ason_base.specs.declared.calls.Role.TheVariants as role
use Rattle.mesh_rules.specs.{Commands.is_searchable, Legs.{is_closing, sends_label}, Machine.Mesh}
use Rattle.lsp_laws.specs.{HopLaw.{is_notice, leg_at, lsp_of, mail_between, messages_of}, LabelLaw.MayShare, RiskLaw.rows_of}
use Rattle.lsp_laws.proofs.{hops.Chain.{LegFitsPlan, RisksFit}, hops.Planned.{EachFollows, Follows, Routes}, hops.Plans.{distinct, fibre_at, hops, node_at, plan}, hops.Purposes.{Carries, Guards, Purpose, Tells, purpose_role}, nodes.BackLabels.torn-back_out, nodes.Facts.MeshFacts}
use Rattle.mesh_laws.specs.HeardLaw.{heard, primary_in, sends_of}
use Rattle.mesh_laws.proofs.{sent.Answers.AllOf, sent.Ends.{receiver-at, sender-at}, sent.Heard.heard-own, sent.Steps.{TakesWhatIsSent, takes_if_there}, sent.SendsOver.sends-over, sent.Takes.heard-takes, sent.Told.{HasPurpose, Told, purpose-of}}

-- two LSPs that are told to be backups, of primaries without a common risk where risks can be searched
pub record Share (t : Network) (w : Routes) (l m : Lsp) : Type 0 where
  pub one : List Step
  pub other : List Step
  pub one_told : w l ≡ Some one
  pub other_told : w m ≡ Some other
  pub apart : is_searchable t ≡ true → AreDisjoint (route_risks (rows_of t) one) (route_risks (rows_of t) other)

-- it lasts where nothing that was told changes
pub share-lasts : (t : Network) (w w' : Routes) → ((l : Lsp) (r : List Step) → w l ≡ Some r → w' l ≡ Some r) →
    (l m : Lsp) → Share t w l m → Share t w' l m
share-lasts t w w' lasts l m share = record {
  one = share.one;
  other = share.other;
  one_told = lasts l share.one share.one_told;
  other_told = lasts m share.other share.other_told;
  apart = share.apart;
}

-- what holds of each state: each LSP follows its route, the nodes have their facts, and legs tell what was told
pub record Standing (t : Network) (o w : Routes) (s : Mesh) : Type 0 where
  pub follows : EachFollows t s o
  pub facts : MeshFacts t s
  pub told : Told o w s

-- Messages of one LSP

-- an LSP's messages of a list are its own
pub all-own : (l : Lsp) (ms : List Msg) → AllOf l (messages_of l ms)
all-own l [] = tt
all-own l (m ∷ ms) = go (is_notice m) (same_lsp (lsp_of m) l) refl (all-own l ms)
  where
    go : (n c : Bool) → same_lsp (lsp_of m) l ≡ c → AllOf l (messages_of l ms) →
        AllOf l (cond (not n && c) (m ∷ messages_of l ms) (messages_of l ms))
    go true c e more = more
    go false true e more = (e, more)
    go false false e more = more

-- the fibre leads from n to another node
pub record Ends (t : Network) (f : Fibre) (n : NodeId) : Type 0 where
  pub to : NodeId
  pub apart : n.0 ≢ to.0
  pub sender : sender_of t f ≡ Some n
  pub receiver : receiver_of t f ≡ Some to

-- the fibre leads from another node to n
pub record Comes (t : Network) (f : Fibre) (n : NodeId) : Type 0 where
  pub from : NodeId
  pub apart : from.0 ≢ n.0
  pub sender : sender_of t f ≡ Some from
  pub receiver : receiver_of t f ≡ Some n

-- A leg of a backup

-- the primary that a backup's leg tells, and the risks that it records
pub record Guarding (t : Network) (w : Routes) (l : Lsp) (g : Leg) : Type 0 where
  pub primary : List Step
  pub told : w l ≡ Some primary
  pub risks : is_searchable t ≡ true → g.risks ≡ route_risks (rows_of t) primary

module _ (t : Network) (o w : Routes) (s : Mesh) (now : Standing t o w s) where
  -- each leg of a backup
  pub guarding : (l : Lsp) (n : NodeId) (g : Leg) → leg_at s l n ≡ Some g → g.role ≡ role.Back → Guarding t w l g
  guarding l n g here back =
      let has = purpose-of t s o l n g (o l) (now.follows l) here in
      go has.purpose g.path_role has.fits.role has.fits.tells has.fits.risks (now.told.legs l n g here)
    where
      go : (q : Purpose) (r : PathRole) → g.role ≡ purpose_role q → Tells q r → RisksFit t q g.risks →
          w l ≡ primary_in r →
          Guarding t w l g
      go Carries r work tells risks told = absurd (cc (work, back))
      go (Guards v route) (Work guard) role tells risks told = absurd tells
      go (Guards v route) (Back active work primary) role tells risks told = record {
        primary = primary;
        told = told;
        risks = λ searchable. risks searchable ∙ ap (route_risks (rows_of t)) (sym tells.1);
      }

  -- it is a backup's where its LSP's primary was told
  pub backs : (l : Lsp) (n : NodeId) (g : Leg) (primary : List Step) → leg_at s l n ≡ Some g → w l ≡ Some primary →
      g.role ≡ role.Back
  backs l n g primary here is =
      let has = purpose-of t s o l n g (o l) (now.follows l) here in
      go has.purpose g.path_role has.fits.role has.fits.tells (sym is ∙ now.told.legs l n g here)
    where
      go : (q : Purpose) (r : PathRole) → g.role ≡ purpose_role q → Tells q r → Some primary ≡ primary_in r →
          g.role ≡ role.Back
      go Carries (Work guard) role tells told = absurd (cc told)
      go Carries (Back active work route) role tells told = absurd tells
      go (Guards v route) r role tells told = role

  -- a torn leg sends nothing back
  torn : (l : Lsp) (n : NodeId) (g : Leg) → leg_at s l n ≡ Some g → is_closing g.phase ≡ true → g.back_out ≡ None
  torn l n g here closed = torn-back_out g ((now.facts.node n.0).leg l g here).back closed

  -- a leg that sends on a fibre is at the fibre's sender
  pub ends-of : (f : Fibre) (x : ℕ) (l : Lsp) (n : NodeId) (g : Leg) → leg_at s l n ≡ Some g →
      sends_label f x g ≡ true →
      Ends t f n
  ends-of f x l n g here sent = go (o l) (now.follows l)
    where
      go : (c : Option (List Step)) → Follows t s o l c → Ends t f n
      go None f' = absurd (let none = f'.legs n in cc (none, here))
      go (Some route) (e, q, pl) =
          let over = sends-over t q l (plan route e) l.ingress pl.route (leg_at s l) (mail_between s l) pl.chain f x n g
          here sent in
          record { to = over.to; apart = over.apart; sender = over.sender; receiver = over.receiver }

  -- a leg stands at the end of its fibre in
  pub comes-by : (f : Fibre) (l : Lsp) (n : NodeId) (g : Leg) → leg_at s l n ≡ Some g → g.in_fibre ≡ Some f →
      Comes t f n
  comes-by f l n g here enters = go at.place at.small at.here at.fits
    where
      at : HasPurpose t s o l n g
      at = purpose-of t s o l n g (o l) (now.follows l) here

      go : (i : ℕ) → i ≤ hops at.plan → n ≡ node_at at.plan i → LegFitsPlan t at.purpose l at.plan i g → Comes t f n
      go zero small is fits = absurd (let none = fits.in_fibre in cc (none, enters))
      go (suc i) small is fits =
          let route = at.planned.route in
          let fibre : fibre_at t at.plan i ≡ f =
          (let same : Some (fibre_at t at.plan i) ≡ Some f = sym fits.in_fibre ∙ enters in cc same) in
          let near = distinct t l.ingress at.plan route i (suc i) (omega arith) (omega arith) (omega arith) in
          record {
            from = node_at at.plan i;
            apart = λ same. near (same ∙ ap (λ m. m.0) is);
            sender = subst (λ h. sender_of t h ≡ Some (node_at at.plan i)) fibre
                (sender-at t at.plan i near (route.links i (omega arith)));
            receiver = subst (λ h. receiver_of t h ≡ Some n) fibre
                (receiver-at t at.plan i near (route.links i (omega arith)) ∙ ap Some (sym is));
          }

  -- what an LSP may send on a fibre, its leg at the other end takes
  takes_there : (f : Fibre) (x : ℕ) (u d : NodeId) → u.0 ≢ d.0 → sender_of t f ≡ Some u → receiver_of t f ≡ Some d →
      (l : Lsp) → heard f x l (s.mail d.0 u.0) (sends_of f x (leg_at s l u)) ≡ true →
      takes_if_there f x (leg_at s l d) ≡ true
  takes_there f x u d apart from to l h = go (o l) (now.follows l)
    where
      own : heard f x l (mail_between s l d u) (sends_of f x (leg_at s l u)) ≡ true
      own = sym (heard-own f x l (s.mail d.0 u.0) (sends_of f x (leg_at s l u))) ∙ h

      go : (c : Option (List Step)) → Follows t s o l c → takes_if_there f x (leg_at s l d) ≡ true
      go None f' = absurd (let never : false ≡ true = rw (f'.mail d u, f'.legs u) at own in cc never)
      go (Some route) (e, q, pl) =
          heard-takes t q l (plan route e) l.ingress pl.route (leg_at s l) (mail_between s l) pl.chain
          (λ a b. all-own l (s.mail a.0 b.0)) (torn l) f x u d apart from to own

  -- of two legs of different LSPs that take one label both are backups, told to be apart
  shared_there : (f : Fibre) (x : ℕ) (d : NodeId) (l m : Lsp) → takes_if_there f x (leg_at s l d) ≡ true →
      takes_if_there f x (leg_at s m d) ≡ true → (l ≡ m) ⊎ Share t w l m
  shared_there f x d l m this that = go (leg_at s l d) (leg_at s m d) refl refl this that
    where
      apart : (g h : Leg) → leg_at s l d ≡ Some g → leg_at s m d ≡ Some h → MayShare g h → Share t w l m
      apart g h at_l at_m may =
          let a = guarding l d g at_l may.backups.0 in
          let b = guarding m d h at_m may.backups.1 in
          record {
            one = a.primary;
            other = b.primary;
            one_told = a.told;
            other_told = b.told;
            apart = λ searchable.
                subst (λ k. AreDisjoint k (route_risks (rows_of t) b.primary)) (a.risks searchable)
                (subst (λ k. AreDisjoint g.risks k) (b.risks searchable) may.apart);
          }

      go : (v x' : Option Leg) → leg_at s l d ≡ v → leg_at s m d ≡ x' → takes_if_there f x v ≡ true →
          takes_if_there f x x' ≡ true → (l ≡ m) ⊎ Share t w l m
      go None x' at_l at_m i j = absurd (cc i)
      go (Some g) None at_l at_m i j = absurd (cc j)
      go (Some g) (Some h) at_l at_m i j =
          elim ((now.facts.node d.0).labels f x l m g h at_l at_m i j) [
            | inl is ↦ inl is
            | inr may ↦ inr (apart g h at_l at_m may)
          ]

  -- so what may be sent is taken and shared
  pub taken-of : TakesWhatIsSent t (Share t w) s
  taken-of = record { takes = takes_there; shared = shared_there }
