-- What the route of an LSP says once a Notify is taken: which of its lines is dropped, and which stay.
use Rattle.std.proofs.{Common.{◌≡◌, ◌≢◌, ◌≤◌, ◌<◌, ℕ, suc, Bool, true, false, nat_eq, List, [], ◌∷◌, ◌++◌, refl, sym, ap, ◌∙◌, subst, arith, inl, inr}, lemmas.Bool.cases_lt}
use Rattle.std.specs.Prelude.{◌&&◌, ◌⊎◌}
use Rattle.ason_base.specs.{Lsps.has_fibre, Network.Network, declared.codes.ErrCode.ErrCode, declared.ids.LinkId.LinkId, declared.ids.Lsp.Lsp, declared.ids.NodeId.NodeId, declared.messages.Msg.Msg, declared.messages.Msg.TheVariants.Notify, declared.tables.CallRec.CallRec}
use Rattle.ason_base.proofs.{Numbers.self-number, JoinedEnds.same-node}
use Rattle.mesh_rules.specs.Machine.{Mesh, without_first}
use Rattle.mesh_nodes.proofs.LegList.{same_lsp-refl}
use Rattle.lsp_laws.specs.{HopLaw.{notices_between, notices_of}, ReportLaw.{on_the_way, reports_of, told, told_by, told_by_all}}
use Rattle.lsp_laws.proofs.{hops.Chain.is_or_not, hops.Notices.ComesUp, hops.Planned.{Planned, Routes}, hops.Plans.{Plan, distinct, fibre_at, hops, link_at, node_at, other}, hops.Purposes.Purpose}
use Rattle.mesh_laws.proofs.{reports.GentleWords.{PlaceTold, RouteTold, StandsUpTo, Untold, line_at}, reports.Gentle.taken-still, reports.OnTheWay.same_lines}

none-left : (xs ys : List Bool) → xs ++ ys ≡ [] → (xs ≡ []) × (ys ≡ [])
none-left [] ys e = (refl, e)
none-left (x ∷ xs) ys e = absurd (cc e)

-- A Notify is the first message from u to d, and what is told of its LSP's route is true.
pub record NoticeCame (t : Network) (s : Mesh) (o : Routes) : Type 0 where
  pub d : NodeId
  pub u : NodeId
  pub l : Lsp
  pub e : NodeId
  pub at : NodeId
  pub k : LinkId
  pub code : ErrCode
  pub rest : List Msg
  pub was : s.mail u.0 d.0 ≡ Notify l e at k code ∷ rest
  pub q : Purpose
  pub p : Plan
  pub pl : Planned t s o l q p
  pub r : RouteTold t s l p

-- The Notify, the mesh without it, from which place it comes up the route, of which place it tells, and what it tells of
-- each.
pub record NoticeRead (c : NodeId × NodeId) (p : Plan) : Type 0 where
  pub m : Msg
  pub taken : Mesh
  pub comes : ComesUp p c.0 c.1 m
  pub j : ℕ
  pub z : ℕ
  pub says : ℕ → List Bool

module _ (t : Network) (s : Mesh) (o : Routes) (came : NoticeCame t s o) where
  open came use {d, u, l, e, at, k, code, rest, was, p, pl, r}

  abbrev m : Msg
  m = Notify l e at k code

  abbrev taken : Mesh
  taken = without_first s u.0 d.0

  head : notices_between s l u d ≡ m ∷ notices_of l rest
  head = rw (was, same_lsp-refl l) refl

  pub up : ComesUp p u d m
  up = (rw head at (pl.notices u d)).0

  abbrev j : ℕ
  j = up.place

  abbrev z : ℕ
  z = up.names.place

  u-is : u ≡ node_at p (suc up.place)
  u-is = same-node u (node_at p (suc up.place)) up.from

  d-is : d ≡ node_at p up.place
  d-is = same-node d (node_at p up.place) up.to

  -- What it tells

  -- the fibre of this place
  abbrev says : ℕ → List Bool
  says i = told_by (node_at p (suc i)) (link_at p i) m

  abbrev pub read : NoticeRead (u, d) p
  read = record { m = m; taken = taken; comes = up; j = j; z = z; says = says }

  pub says-own : says z ≡ up.names.down ∷ []
  says-own =
      let here : nat_eq at.0 (node_at p (suc z)).0 ≡ true = rw (← ap (λ (n : NodeId). n.0) up.names.node) (self-number at.0) in
      let over : nat_eq k.0 (link_at p z).0 ≡ true = rw (← ap (λ (n : LinkId). n.0) up.names.link) (self-number k.0) in
      rw (here, over, up.names.tells) refl

  pub says-none : (i : ℕ) → i < hops p → i ≢ z → says i ≡ []
  says-none i small apart =
      let far : (node_at p (suc z)).0 ≢ (node_at p (suc i)).0 =
      distinct t l.ingress p pl.route (suc z) (suc i) (within z up.names.within) (within i small) (omega arith) in
      let test : nat_eq at.0 (node_at p (suc i)).0 ≡ false =
      other at.0 (node_at p (suc i)).0 (λ h. far (sym (ap (λ (n : NodeId). n.0) up.names.node) ∙ h)) in
      rw test refl
    where
      within : (x : ℕ) → x < hops p → suc x ≤ hops p
      within x h = omega arith

  -- What is left

  taken-here : notices_between taken l u d ≡ notices_of l rest
  taken-here = rw (self-number u.0, self-number d.0, was) refl

  taken-else : (a b : NodeId) → (a.0 ≢ u.0) ⊎ (b.0 ≢ d.0) → notices_between taken l a b ≡ notices_between s l a b
  taken-else a b (inl h) = rw (other a.0 u.0 h) refl
  taken-else a b (inr h) = rw (other b.0 d.0 h, never (nat_eq a.0 u.0)) refl
    where
      never : (x : Bool) → (x && false) ≡ false
      never true = refl
      never false = refl

  pub line-taken : (i : ℕ) → line_at (notices_between s l) p i up.place
      ≡ says i ++ line_at (notices_between taken l) p i up.place
  line-taken i =
      subst (λ (x : NodeId). told_by_all (node_at p (suc i)) (link_at p i) (notices_between s l x (node_at p up.place))
      ≡ says i ++ told_by_all (node_at p (suc i)) (link_at p i) (notices_between taken l x (node_at p up.place))) u-is
      (subst (λ (y : NodeId). told_by_all (node_at p (suc i)) (link_at p i) (notices_between s l u y)
      ≡ says i ++ told_by_all (node_at p (suc i)) (link_at p i) (notices_between taken l u y)) d-is
      (ap (told_by_all (node_at p (suc i)) (link_at p i)) head
      ∙ ap (λ ms. says i ++ told_by_all (node_at p (suc i)) (link_at p i) ms) (sym taken-here)))

  pub line-else : (i x : ℕ) → x < hops p → x ≢ up.place →
      line_at (notices_between taken l) p i x ≡ line_at (notices_between s l) p i x
  line-else i x small apart =
      ap (told_by_all (node_at p (suc i)) (link_at p i))
      (taken-else (node_at p (suc x)) (node_at p x) (inr (λ h.
      distinct t l.ingress p pl.route x up.place (less x small) (less up.place up.below) apart (h ∙ up.to))))
    where
      less : (y : ℕ) → y < hops p → y ≤ hops p
      less y h = omega arith

  -- nothing was told of a place: neither by this one, nor by those that are left
  pub none-before : (i : ℕ) → Untold t s l p i → (says i ≡ []) ×
      ((a b : NodeId) → told_by_all (node_at p (suc i)) (link_at p i) (notices_between taken l a b) ≡ [])
  none-before i untold = (here.0, left)
    where
      here : (says i ≡ []) × (told_by_all (node_at p (suc i)) (link_at p i) (notices_of l rest) ≡ [])
      here = none-left (says i) _
          (sym (ap (told_by_all (node_at p (suc i)) (link_at p i)) head) ∙ untold.notices u d)

      left : (a b : NodeId) → told_by_all (node_at p (suc i)) (link_at p i) (notices_between taken l a b) ≡ []
      left a b = elim (is_or_not a.0 u.0) [
        | inr apart ↦ ap (told_by_all (node_at p (suc i)) (link_at p i)) (taken-else a b (inl apart))
            ∙ untold.notices a b
        | inl at_u ↦ elim (is_or_not b.0 d.0) [
          | inr apart ↦
              ap (told_by_all (node_at p (suc i)) (link_at p i)) (taken-else a b (inr apart)) ∙ untold.notices a b
          | inl at_d ↦ subst (λ (x : NodeId). told_by_all (node_at p (suc i)) (link_at p i)
              (notices_between taken l x b) ≡ []) (sym (same-node a u at_u))
              (subst (λ (y : NodeId). told_by_all (node_at p (suc i)) (link_at p i)
              (notices_between taken l u y) ≡ []) (sym (same-node b d at_d))
              (ap (told_by_all (node_at p (suc i)) (link_at p i)) taken-here ∙ here.1))
        ]
      ]

  -- It is dropped, where the LSP doesn't stand up to the node

  same-known : (i : ℕ) (c : CallRec) → PlaceTold t s l p i c →
      on_the_way (line_at (notices_between taken l) p i) (suc i)
      ≡ on_the_way (line_at (notices_between s l) p i) (suc i) →
      PlaceTold t taken l p i c
  same-known i c before self-number =
      ap (told (has_fibre (reports_of l c) (fibre_at t p i))) self-number ∙ before

  pub dropped-told : ((i : ℕ) → StandsUpTo s l p (suc i) → up.place ≤ suc i → ⊥) → RouteTold t taken l p
  dropped-told torn = record {
    tells = λ i small stands c of. elim (cases_lt (suc i) up.place) [
      | inr reached ↦ absurd (torn i stands reached)
      | inl before ↦ same-known i c (r.tells i small stands c (record { found = of.found; named = of.named }))
          (same_lines (line_at (notices_between s l) p i) (line_at (notices_between taken l) p i) (suc i)
          (λ x less. line-else i x (omega arith) (omega arith)))
    ];
    first = λ i small stands sent. (
        let was' = r.first i small stands
        ((taken-still s u d l m rest was).first (node_at p i) (node_at p (suc i)) sent) in
        record {
          gone = was'.gone;
          untold = λ x after below. record {
            notices = (none-before x (was'.untold x after below)).1;
            report = λ c of. (was'.untold x after below).report c (record { found = of.found; named = of.named });
          };
        });
  }
