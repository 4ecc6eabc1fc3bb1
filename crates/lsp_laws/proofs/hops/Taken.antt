-- A message of an LSP is taken at a place of its route: what is left of the whole route.
use Rattle.std.proofs.Common.{◌≡◌, ◌≢◌, ◌<◌, ◌≤◌, ℕ, suc, true, false, List, [], ◌∷◌, ◌++◌, refl, sym, ◌∙◌, arith, inl, inr}
use Rattle.std.specs.Prelude.{◌⊎◌, Option, None, Some}
use Rattle.ason_base.specs.{Network.Network, declared.ids.Lsp.Lsp, declared.ids.NodeId.NodeId, declared.messages.Msg.Msg, declared.messages.Msg.TheVariants.{Path, Resv, PathTear, PathErr, Notify}, declared.tables.Leg.Leg}
use Rattle.mesh_rules.specs.{Changes.Answer, LocalNodes.{LocalNode, local_node}, Machine.{Mesh, commit, without_first}, State.NodeState}
use Rattle.lsp_laws.specs.HopLaw.{is_message_of, messages_of, leg_at, mail_between}
use Rattle.lsp_laws.proofs.{hops.Plans.{Plan, hops, node_at, IsPlanRoute, distinct}, hops.Tables.leg_after, hops.Purposes.{Purpose, has_path}, hops.Chain.{PlaceFits, ChainHop, OnRoute, IsFirstPathAt, IsVacant, Chain, is_or_not}, hops.Changed.{Changed, SendsAlong, place_changed}, hops.Sending.{sent_of_lsp, changed-taken, left-taken, elsewhere-taken}}

-- a Path among these messages is among the first ones
pub path_before : (ms on : List Msg) → has_path on ≡ false → has_path (ms ++ on) ≡ true → has_path ms ≡ true
path_before [] on none h = absurd cc
path_before (Path l e k route set up r ∷ ms) on none h = refl
path_before (Resv l e k x ∷ ms) on none h = path_before ms on none h
path_before (PathTear l e k ∷ ms) on none h = path_before ms on none h
path_before (PathErr l e at gone code ∷ ms) on none h = path_before ms on none h
path_before (Notify l e at k code ∷ ms) on none h = path_before ms on none h

pub mine : (s : Mesh) (l : Lsp) (u d : NodeId) (m : Msg) (rest : List Msg) → s.mail u.0 d.0 ≡ m ∷ rest →
    is_message_of l m ≡ true → mail_between s l u d ≡ m ∷ messages_of l rest
mine s l u d m rest was own = rw (was, own) refl

-- the mesh after the first message from u to d is taken and answered
abbrev pub taken_mesh : Mesh → NodeId → NodeId → Answer → Mesh
taken_mesh s u d a = commit (without_first s u.0 d.0) d.0 a

-- The node at a place of a route, the next two, and the place and the state of the next one in a mesh.
pub record Ahead : Type 0 where
  pub u : NodeId
  pub d : NodeId
  pub next : NodeId
  pub place : LocalNode
  pub state : NodeState

abbrev pub ahead : Network → Mesh → Plan → ℕ → Ahead
ahead t s p i = record {
  u = node_at p i;
  d = node_at p (suc i);
  next = node_at p (suc (suc i));
  place = local_node t (node_at p (suc i));
  state = s.nodes (node_at p (suc i)).0;
}

-- The hop before a place of a route, where this leg stands at the place.
pub before-place : (t : Network) (q : Purpose) (s : Mesh) (l : Lsp) (p : Plan) (i : ℕ) →
    Chain t q l p (leg_at s l) (mail_between s l) → i < hops p → (g : Leg) → leg_at s l (node_at p i) ≡ Some g →
    (k : ℕ) → suc k ≡ i →
    ChainHop q p k (leg_at s l (node_at p k)) (Some g) (mail_between s l (node_at p k) (node_at p i))
    (mail_between s l (node_at p i) (node_at p k))
before-place t q s l p i chain below g here k eq =
    let before : ChainHop q p k (leg_at s l (node_at p k)) (leg_at s l (node_at p i))
    (mail_between s l (node_at p k) (node_at p i)) (mail_between s l (node_at p i) (node_at p k)) =
    rw (← eq) (chain.each k (omega arith)) in
    rw here at before

-- What becomes of the LSP at d, which takes a message from u, and what is left between the two.
record Took (s : Mesh) (u d : NodeId) (l : Lsp) (a : Answer) (c : Option Leg) (rest : List Msg) : Type 0 where
  changed : Changed d c (sent_of_lsp l a.sent) (leg_at s l) (leg_at (taken_mesh s u d a) l) (mail_between s l)
      (mail_between (taken_mesh s u d a) l)
  left : mail_between (taken_mesh s u d a) l u d ≡ messages_of l rest

took : (s : Mesh) (u d : NodeId) (l : Lsp) (a : Answer) (c : Option Leg) (m : Msg) (rest : List Msg) → u.0 ≢ d.0 →
    leg_after l a.legs (leg_at s l d) ≡ c → s.mail u.0 d.0 ≡ m ∷ rest → Took s u d l a c rest
took s u d l a c m rest apart is was = record {
  changed = changed-taken s u d l a c apart is;
  left = left-taken s u d l a m rest apart was;
}

-- a message that came down from place i
module _ (t : Network) (q : Purpose) (s : Mesh) (l : Lsp) (p : Plan) (i : ℕ) (route : IsPlanRoute t l.ingress p)
    (chain : Chain t q l p (leg_at s l) (mail_between s l)) (below : i < hops p)
    (m : Msg) (rest : List Msg) (was : s.mail (node_at p i).0 (node_at p (suc i)).0 ≡ m ∷ rest)
    (own : is_message_of l m ≡ true) where
  open ahead t s p i use {u, d, next}

  abbrev pub KeepsDown : Answer → Type 0
  KeepsDown a = Chain t q l p (leg_at (taken_mesh s u d a) l) (mail_between (taken_mesh s u d a) l)

  pub down_mine : mail_between s l (node_at p i) (node_at p (suc i)) ≡ m ∷ messages_of l rest
  down_mine = mine s l u d m rest was own

  pub down_hop : ChainHop q p i (leg_at s l (node_at p i)) (leg_at s l (node_at p (suc i)))
      (m ∷ messages_of l rest) (mail_between s l (node_at p (suc i)) (node_at p i))
  down_hop = rw down_mine at (chain.each i below)

  down_far : (node_at p i).0 ≢ (node_at p (suc i)).0
  down_far = distinct t l.ingress p route i (suc i) (omega arith) (omega arith) (omega arith)

  pub down_taken : (a : Answer) (c : Option Leg) (back on : List Msg) →
      leg_after l a.legs (leg_at s l (node_at p (suc i))) ≡ c → SendsAlong p (suc i) (sent_of_lsp l a.sent) back on →
      PlaceFits t q l p (suc i) c →
      ChainHop q p i (leg_at s l (node_at p i)) c (messages_of l rest)
      (mail_between s l (node_at p (suc i)) (node_at p i) ++ back) →
      (suc i < hops p → ChainHop q p (suc i) c (leg_at s l (node_at p (suc (suc i))))
      (mail_between s l (node_at p (suc i)) (node_at p (suc (suc i))) ++ on)
      (mail_between s l (node_at p (suc (suc i))) (node_at p (suc i)))) →
      (c ≡ None → has_path (messages_of l rest) ≡ true → ⊥) →
      (suc i < hops p → leg_at s l (node_at p (suc (suc i))) ≡ None →
      has_path (mail_between s l (node_at p (suc i)) (node_at p (suc (suc i))) ++ on) ≡ true →
      (n : ℕ) → suc i < n → n ≤ hops p → IsVacant p (leg_at s l) (mail_between s l) n) →
      KeepsDown a
  down_taken a c back on leg_is sends fits before after last vacant =
      place_changed t q l l.ingress p (leg_at s l) _ (mail_between s l) _ (suc i) c (sent_of_lsp l a.sent) back on route
      chain below
      changed sends fits
      (λ x ne. arrives x ne (is_or_not x.0 u.0))
      (λ k e. let at_i : k ≡ i = omega arith in rw (at_i, left) before)
      (λ small. rw (elsewhere small) (after small))
      (λ k less. quiet k less (is_or_not k i))
      vacant
    where
      open took s u d l a c m rest down_far leg_is was use {changed, left}

      elsewhere : suc i < hops p → mail_between (taken_mesh s u d a) l next d ≡ mail_between s l next d
      elsewhere small = elsewhere-taken s u d next d l a
          (distinct t l.ingress p route (suc (suc i)) (suc i) (omega arith) (omega arith) (omega arith))
          (inl (distinct t l.ingress p route (suc (suc i)) i (omega arith) (omega arith) (omega arith)))

      arrives : (x : NodeId) → x.0 ≢ d.0 → (x.0 ≡ u.0) ⊎ (x.0 ≢ u.0) →
          (mail_between (taken_mesh s u d a) l x d ≡ []) ⊎ OnRoute p x d
      arrives x ne (inl e) = inr (i, below, inl (e, refl))
      arrives x ne (inr nf) = rw (elsewhere-taken s u d x d l a ne (inl nf)) (chain.ways x d)

      quiet : (k : ℕ) → k < suc i → (k ≡ i) ⊎ (k ≢ i) →
          IsFirstPathAt p (leg_at (taken_mesh s u d a) l) (mail_between (taken_mesh s u d a) l) k → ⊥
      quiet k less (inl e) first =
          let gone : leg_at (taken_mesh s u d a) l d ≡ None = rw e at first.gone in
          last (sym changed.here ∙ gone) (rw (e, left) at first.path)
      quiet k less (inr ne) first =
          let same_mail = elsewhere-taken s u d (node_at p k) (node_at p (suc k)) l a
          (distinct t l.ingress p route k (suc i) (omega arith) (omega arith) (omega arith))
          (inl (distinct t l.ingress p route k i (omega arith) (omega arith) ne)) in
          let same_leg =
          changed.there (node_at p (suc k))
          (distinct t l.ingress p route (suc k) (suc i) (omega arith) (omega arith) (omega arith)) in
          let first' : IsFirstPathAt p (leg_at s l) (mail_between s l) k =
          record { gone = sym same_leg ∙ first.gone; path = rw same_mail at first.path } in
          let empty : mail_between s l u d ≡ [] =
          (chain.fresh k (omega arith) first' i (omega arith) (omega arith)).no_down below in
          cc (empty, down_mine)

-- a message that came up from the place after i
module _ (t : Network) (q : Purpose) (s : Mesh) (l : Lsp) (p : Plan) (i : ℕ) (route : IsPlanRoute t l.ingress p)
    (chain : Chain t q l p (leg_at s l) (mail_between s l)) (below : i < hops p)
    (m : Msg) (rest : List Msg) (was : s.mail (node_at p (suc i)).0 (node_at p i).0 ≡ m ∷ rest)
    (own : is_message_of l m ≡ true) where
  abbrev here : NodeId
  here = node_at p i

  abbrev from : NodeId
  from = node_at p (suc i)

  abbrev pub KeepsUp : Answer → Type 0
  KeepsUp a = Chain t q l p (leg_at (taken_mesh s from here a) l) (mail_between (taken_mesh s from here a) l)

  up_mine : mail_between s l (node_at p (suc i)) (node_at p i) ≡ m ∷ messages_of l rest
  up_mine = mine s l from here m rest was own

  pub up_hop : ChainHop q p i (leg_at s l (node_at p i)) (leg_at s l (node_at p (suc i)))
      (mail_between s l (node_at p i) (node_at p (suc i))) (m ∷ messages_of l rest)
  up_hop = rw up_mine at (chain.each i below)

  up_far : (node_at p (suc i)).0 ≢ (node_at p i).0
  up_far = distinct t l.ingress p route (suc i) i (omega arith) (omega arith) (omega arith)

  pub up_taken : (a : Answer) (c : Option Leg) (back on : List Msg) →
      leg_after l a.legs (leg_at s l (node_at p i)) ≡ c → SendsAlong p i (sent_of_lsp l a.sent) back on →
      PlaceFits t q l p i c →
      ((k : ℕ) → suc k ≡ i → ChainHop q p k (leg_at s l (node_at p k)) c
      (mail_between s l (node_at p k) (node_at p i)) (mail_between s l (node_at p i) (node_at p k) ++ back)) →
      ChainHop q p i c (leg_at s l (node_at p (suc i))) (mail_between s l (node_at p i) (node_at p (suc i)) ++ on)
      (messages_of l rest) →
      ((k : ℕ) → suc k ≡ i → c ≡ None → has_path (mail_between s l (node_at p k) (node_at p i)) ≡ true → ⊥) →
      has_path on ≡ false →
      KeepsUp a
  up_taken a c back on leg_is sends fits before after last no_path =
      place_changed t q l l.ingress p (leg_at s l) _ (mail_between s l) _ i c (sent_of_lsp l a.sent) back on route chain
      (omega arith)
      changed sends fits
      (λ x ne. arrives x ne (is_or_not x.0 from.0))
      (λ k e. rw (elsewhere k e) (before k e))
      (λ small. rw left after)
      (λ k less. quiet k less (is_or_not (suc k) i))
      (λ small gone path. chain.fresh i below (record {
        gone =
            gone;
        path = path_before (mail_between s l here from) on no_path path;
      }))
    where
      open took s from here l a c m rest up_far leg_is was use {changed, left}

      elsewhere : (k : ℕ) → suc k ≡ i →
          mail_between (taken_mesh s from here a) l (node_at p k) here ≡ mail_between s l (node_at p k) here
      elsewhere k e = elsewhere-taken s from here (node_at p k) here l a
          (distinct t l.ingress p route k i (omega arith) (omega arith) (omega arith))
          (inl (distinct t l.ingress p route k (suc i) (omega arith) (omega arith) (omega arith)))

      arrives : (x : NodeId) → x.0 ≢ here.0 → (x.0 ≡ from.0) ⊎ (x.0 ≢ from.0) →
          (mail_between (taken_mesh s from here a) l x here ≡ []) ⊎ OnRoute p x here
      arrives x ne (inl e) = inr (i, below, inr (e, refl))
      arrives x ne (inr nf) = rw (elsewhere-taken s from here x here l a ne (inl nf)) (chain.ways x here)

      same_before : (k : ℕ) → k < i →
          mail_between (taken_mesh s from here a) l (node_at p k) (node_at p (suc k)) ≡ mail_between s l (node_at p k)
          (node_at p (suc k))
      same_before k less = elsewhere-taken s from here (node_at p k) (node_at p (suc k)) l a
          (distinct t l.ingress p route k i (omega arith) (omega arith) (omega arith))
          (inl (distinct t l.ingress p route k (suc i) (omega arith) (omega arith) (omega arith)))

      quiet : (k : ℕ) → k < i → (suc k ≡ i) ⊎ (suc k ≢ i) →
          IsFirstPathAt p (leg_at (taken_mesh s from here a) l) (mail_between (taken_mesh s from here a) l) k → ⊥
      quiet k less (inl e) first =
          let gone : leg_at (taken_mesh s from here a) l here ≡ None = rw e at first.gone in
          let path : has_path (mail_between s l (node_at p k) here) ≡ true = rw (same_before k less, e) at first.path in
          last k e (sym changed.here ∙ gone) path
      quiet k less (inr ne) first =
          let same_leg =
          changed.there (node_at p (suc k)) (distinct t l.ingress p route (suc k) i (omega arith) (omega arith) ne) in
          let first' : IsFirstPathAt p (leg_at s l) (mail_between s l) k =
          record { gone = sym same_leg ∙ first.gone; path = rw (same_before k less) at first.path } in
          let empty : mail_between s l from here ≡ [] =
          (chain.fresh k (omega arith) first' i less (omega arith)).no_up below in
          cc (empty, up_mine)
