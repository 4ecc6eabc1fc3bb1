-- Legs that use one label at a node share it, and so does a leg with a label that a Resv is about to give it: no fibre
-- comes in for one leg and goes out for another.
use Rattle.std.proofs.{Common.{◌≡◌, ◌≢◌, ℕ, suc, true, false, nat_eq, List, [], ◌∷◌, refl, sym, ap, subst, ◌∙◌, arith, inl, inr, eqb-true}, lemmas.Option.same_Some, lemmas.Bool.{or_cases, or_right}}
use Rattle.std.specs.Prelude.{◌⊎◌, Some, None}
use Rattle.ason_base.specs.{Lsps.same_lsp, Network.{IsTopology, Network, receiver_of, sender_of}, declared.ids.Fibre.Fibre, declared.ids.LinkId.LinkId, declared.ids.Lsp.Lsp, declared.ids.NodeId.NodeId, declared.messages.Msg.Msg, declared.messages.Msg.TheVariants.Resv, declared.tables.Leg.Leg}
use Rattle.ason_base.proofs.{Bools.{and-left, and-right}, JoinedEnds.same-node}
use Rattle.mesh_rules.specs.{Legs.{connected, following, is_at, is_over, reverse_of, sends_label, takes, uses}, Machine.Mesh}
use Rattle.mesh_nodes.proofs.{BusyLabels.used-at, LabelPlaces.{at-is, back_in-taken, none-at}, LegList.same_lsp-refl}
use Rattle.lsp_laws.specs.{HopLaw.leg_at, LabelLaw.{MayShare, MayShareLabel}}
use Rattle.lsp_laws.proofs.{hops.LegChanges.following_is, hops.Planned.Routes, hops.Plans.{distinct, fibre_at, node_at}, nodes.Facts.SharesAll, nodes.LegParts.taken-used, nodes.Marks.other}
use Rattle.mesh_laws.specs.HeardLaw.{heard, sends_of}
use Rattle.mesh_laws.proofs.{sent.Ends.{receiver-at, receiver-back, sender-at}, sent.Law.{may-send, sent-shared}, sent.SendsOver.{back-place, out-place}, sent.Sound.{Sound, standing}, sent.Told.purpose-of, sent.Standing.{Standing, comes-by, ends-of}}

number-same : (a b : ℕ) → a ≡ b → nat_eq a b ≡ true
number-same a b e = grind arith

-- the fibre leads from n to u, over this link
record Onward (t : Network) (f : Fibre) (n u : NodeId) (k : LinkId) : Type 0 where
  apart : n.0 ≢ u.0
  sender : sender_of t f ≡ Some n
  receiver : receiver_of t f ≡ Some u
  link : f.link.0 ≡ k.0

module _ (t : Network) (o w : Routes) (s : Mesh) (now : Standing t o w s) where
  -- a leg that takes a label, as its label in or its back label in, is at the end of the fibre
  pub takes-to : (f : Fibre) (x : ℕ) (l : Lsp) (n : NodeId) (g : Leg) → leg_at s l n ≡ Some g → takes f x g ≡ true →
      receiver_of t f ≡ Some n
  takes-to f x l n g here this = elim (or_cases (is_at g.in_fibre g.in_label f x) _ this) [
    | inl on ↦ (comes-by t o w s now f l n g here (at-is g.in_fibre g.in_label f x on).0).receiver
    | inr on ↦ from_next (at-is (reverse_of g.out_fibre) g.back_in f x on).0
  ]
    where
      from_next : reverse_of g.out_fibre ≡ Some f → receiver_of t f ≡ Some n
      from_next leaves =
          let at = purpose-of t s o l n g (o l) (now.follows l) here in
          let route = at.planned.route in
          let i = at.place in
          let back = back-place t at.plan i f (subst (λ o. reverse_of o ≡ Some f) at.fits.out_fibre leaves) in
          let small = back.0 in
          let near = distinct t l.ingress at.plan route i (suc i) (omega arith) (omega arith) (omega arith) in
          subst (λ h. receiver_of t h ≡ Some n) back.1
          (receiver-back t at.plan i near (route.links i small) ∙ ap Some (sym at.here))

  -- a leg with a fibre out is at its beginning, and a message from over it is from its end
  onward : (f : Fibre) (l : Lsp) (n u : NodeId) (k : LinkId) (g : Leg) → leg_at s l n ≡ Some g →
      g.out_fibre ≡ Some f → is_over (following g) u k ≡ true → Onward t f n u k
  onward f l n u k g here leaves over =
      let at = purpose-of t s o l n g (o l) (now.follows l) here in
      let p = at.plan in
      let i = at.place in
      let route = at.planned.route in
      let out = out-place t p i f (sym at.fits.out_fibre ∙ leaves) in
      let small = out.0 in
      let near = distinct t l.ingress p route i (suc i) (omega arith) (omega arith) (omega arith) in
      let next : following g ≡ Some (record { node = node_at p (suc i); fibre = fibre_at t p i }) =
      following_is t at.purpose l p i g at.fits out.0 in
      let test : is_over (Some (record { node = node_at p (suc i); fibre = fibre_at t p i })) u k ≡ true =
      subst (λ h. is_over h u k ≡ true) next over in
      let node : nat_eq (node_at p (suc i)).0 u.0 ≡ true = and-left _ (nat_eq (fibre_at t p i).link.0 k.0) test in
      let number : nat_eq (fibre_at t p i).link.0 k.0 ≡ true = and-right (nat_eq (node_at p (suc i)).0 u.0) _ test in
      let to : (node_at p (suc i)).0 ≡ u.0 = eqb-true (node_at p (suc i)).0 u.0 node in
      let link : (fibre_at t p i).link.0 ≡ k.0 = eqb-true (fibre_at t p i).link.0 k.0 number in
      record {
        apart = λ same. near (sym (ap (λ m. m.0) at.here) ∙ same ∙ sym to);
        sender = subst (λ h. sender_of t h ≡ Some n) out.1
            (sender-at t p i near (route.links i out.0) ∙ ap Some (sym at.here));
        receiver = subst (λ h. receiver_of t h ≡ Some u) out.1
            (receiver-at t p i near (route.links i out.0) ∙ ap Some (same-node (node_at p (suc i)) u to));
        link = subst (λ (h : Fibre). h.link.0 ≡ k.0) out.1 link;
      }

  -- no fibre comes in for one leg and goes out for another
  one-side : (f : Fibre) (x : ℕ) (n : NodeId) (l m : Lsp) (g h : Leg) → leg_at s l n ≡ Some g →
      leg_at s m n ≡ Some h → takes f x g ≡ true → sends_label f x h ≡ true → ⊥
  one-side f x n l m g h at_l at_m this that =
      let ends = ends-of t o w s now f x m n h at_m that in
      ends.apart (ap (λ k. k.0) (same_Some n ends.to (sym (takes-to f x l n g at_l this) ∙ ends.receiver)))

  -- so of two legs that use a label both take it, or both send it
  pub uses-alike : (f : Fibre) (x : ℕ) (n : NodeId) (l m : Lsp) (g h : Leg) → leg_at s l n ≡ Some g →
      leg_at s m n ≡ Some h → uses f x g ≡ true → uses f x h ≡ true →
      ((takes f x g ≡ true) × (takes f x h ≡ true)) ⊎ ((sends_label f x g ≡ true) × (sends_label f x h ≡ true))
  uses-alike f x n l m g h at_l at_m this that =
      go (or_cases (takes f x g) (sends_label f x g) this) (or_cases (takes f x h) (sends_label f x h) that)
    where
      go : (takes f x g ≡ true) ⊎ (sends_label f x g ≡ true) → (takes f x h ≡ true) ⊎ (sends_label f x h ≡ true) →
          ((takes f x g ≡ true) × (takes f x h ≡ true)) ⊎ ((sends_label f x g ≡ true) × (sends_label f x h ≡ true))
      go (inl a) (inl b) = inl (a, b)
      go (inr a) (inr b) = inr (a, b)
      go (inl a) (inr b) = absurd (one-side f x n l m g h at_l at_m a b)
      go (inr a) (inl b) = absurd (one-side f x n m l h g at_m at_l b a)

-- Sharing

module _ (t : Network) (o w : Routes) (s : Mesh) (now : Sound t o w s) (valid : IsTopology t) (n : NodeId) where
  abbrev stands : Standing t o w s
  stands = standing t o w s now

  shared-by : (g h : Leg) → MayShareLabel t g h → MayShare g h
  shared-by g h may = record { backups = may.backups; apart = may.apart valid }

  -- a leg that stands shares each label that it uses
  pub leg-shares : (l : Lsp) (g : Leg) → leg_at s l n ≡ Some g → g.lsp ≡ l → SharesAll (s.nodes n.0).legs g
  leg-shares l g at_l own f x m h apart at_m this that =
      elim (uses-alike t o w s stands f x n l m g h at_l at_m this that) [
        | inl (a, b) ↦ elim ((now.facts.node n.0).labels f x l m g h at_l at_m a b) [
          | inl same ↦ other g.lsp m (MayShare g h) apart (own ∙ same)
          | inr shares ↦ shares
        ]
        | inr (a, b) ↦ shared-by g h (sent-shared t o w s now n l m g h at_l at_m
            (λ same. other g.lsp m ⊥ apart (own ∙ same)) f x a b)
      ]

  -- and so does one with the label of the Resv that is the next message from over its link
  module _ (l : Lsp) (e u : NodeId) (k : LinkId) (y : ℕ) (rest : List Msg)
      (was : s.mail u.0 n.0 ≡ Resv l e k y ∷ rest) (g : Leg) (at_l : leg_at s l n ≡ Some g) (own : g.lsp ≡ l)
      (over : is_over (following g) u k ≡ true) where
    gift-shared : (f : Fibre) (m : Lsp) (h : Leg) → same_lsp g.lsp m ≡ false → leg_at s m n ≡ Some h →
        g.out_fibre ≡ Some f → uses f y h ≡ true → MayShare (connected g None y) h
    gift-shared f m h apart at_m leaves that = elim (or_cases (takes f y h) (sends_label f y h) that) [
      | inl taking ↦ (let here = takes-to t o w s stands f y m n h at_m taking in
          let to : n ≡ u = same_Some n u (sym here ∙ on.receiver) in
          absurd (on.apart (ap (λ v. v.0) to)))
      | inr sending ↦ elim (now.lawful f y n u on.apart on.sender on.receiver (Resv l e k y ∷ []) rest (sym was) l m
          given (still sending)) [
            | inl same ↦ other g.lsp m (MayShare (connected g None y) h) apart (own ∙ same)
            | inr share ↦ (let may = shared-by g h (may-send t o w s now n l m g h at_l at_m share) in
                record { backups = may.backups; apart = may.apart })
          ]
    ]
      where
        on : Onward t f n u k
        on = onward t o w s stands f l n u k g at_l leaves over

        given : heard f y l (Resv l e k y ∷ []) (sends_of f y (leg_at s l n)) ≡ true
        given =
            let number = number-same k.0 f.link.0 (sym on.link) in
            let label = number-same y y refl in rw (same_lsp-refl l, number, label) refl

        still : sends_label f y h ≡ true → heard f y m (Resv l e k y ∷ []) (sends_of f y (leg_at s m n)) ≡ true
        still sending =
            let apart' : same_lsp l m ≡ false = subst (λ v. same_lsp v m ≡ false) own apart in
            rw (apart', at_m, sending) refl

    pub gift-shares : SharesAll (s.nodes n.0).legs (connected g None y)
    gift-shares f x m h apart at_m this that =
        used-at (MayShare (connected g None y) h) (connected g None y) f x this
        (λ on. absurd (let none = none-at g.in_fibre f x in cc (none, on)))
        (λ on. still (taken-used f x g (back_in-taken g f x on)))
        (λ on. let is = at-is g.out_fibre (Some y) f x on in
        let label : y ≡ x = same_Some y x is.1 in
        gift-shared f m h apart at_m is.0 (subst (λ z. uses f z h ≡ true) (sym label) that))
        (λ on. still (or_right (takes f x g) _ (or_right (is_at g.out_fibre g.out_label f x) _ on)))
      where
        -- what it uses already
        still : uses f x g ≡ true → MayShare (connected g None y) h
        still used =
            let may = leg-shares l g at_l own f x m h apart at_m used that in
            record { backups = may.backups; apart = may.apart }
