-- A table has a row of each leg and of each call that is guarded; and by the rows a call may turn where it may.
use Rattle.std.proofs.{Common.{◌≡◌, ℕ, Bool, true, false, cond, nat_eq, nat_lt, List, [], ◌∷◌, refl, sym, ap, subst, arith, inl, inr, Contains}, lemmas.List.Elements.{Contains-append_left, Contains-append_right}, lemmas.Bool.{or_cases, or_left, or_right}}
use Rattle.std.specs.Prelude.{Option, Some, None, find, flat_map}
use Rattle.ason_base.specs.{Network.{IsTopology, Network, is_node_id}, declared.calls.CallRow.CallRow, declared.calls.LegRow.LegRow, declared.commands.Group.Group, declared.ids.Fibre.Fibre, declared.ids.LinkId.LinkId, declared.ids.Lsp.Lsp, declared.ids.NodeId.NodeId, declared.network.NodeSpec.NodeSpec, declared.tables.CallRec.CallRec, declared.tables.Leg.Leg}
use Rattle.ason_base.specs.declared.calls.Role.TheVariants as role
use Rattle.ason_base.proofs.{Ordered.{any-there, in_order-has, there-any}, RisingNumbers.nat_order, Members.{contains-head, contains-tail, there-flat, there-map}, Numbers.self-number}
use Rattle.mesh_rules.specs.{Calls.find_call, Legs.{find_leg, is_at, reverse, reverse_of, takes}, Machine.Mesh, Rows.{call_row, call_rows, leg_row, leg_rows, link_of, standing}}
use Rattle.mesh_nodes.proofs.{LabelPlaces.at-is, LegList.{found-lsp, same_lsp-refl}}
use Rattle.lsp_laws.specs.HopLaw.{LspFits, leg_at}
use Rattle.lsp_laws.proofs.{nodes.Facts.MeshFacts, hops.NamedPhases.named_is}
use Rattle.mesh_laws.specs.{ContendLaw.{MayTurnTo, TakesLabel}, SurveyLaw.ShowsAll, Survey.{hits, is_guarded_row, is_link_label, labels_at, link_label, may_turn_to, row_labels, row_takes, takes_at}}
use Rattle.mesh_laws.proofs.{alone.Facts.LspRoutes, restoration.Calls.backup-there, surveyed.Stands.placed}

pub find-contains : {X : Type 0} (p : X → Bool) (xs : List X) (x : X) → find p xs ≡ Some x → Contains xs x
find-contains p [] x e = absurd (cc e)
find-contains p (y ∷ xs) x e = go (p y) e (find-contains p xs x)
  where
    go : (b : Bool) → cond b (Some y) (find p xs) ≡ Some x → (find p xs ≡ Some x → Contains xs x) →
        Contains (y ∷ xs) x
    go true e later = (let is : y ≡ x = cc e in subst (Contains (y ∷ xs)) is (contains-head y xs))
    go false e later = contains-tail y x xs (later e)

-- the reverse of a fibre is of the same link
out-link : (o : Option Fibre) (f : Fibre) → reverse_of o ≡ Some f → link_of o ≡ Some f.link
out-link None f e = absurd (cc e)
out-link (Some h) f e = let is : reverse h ≡ f = cc e in ap (λ (k : Fibre). Some k.link) is

-- the row of a leg shows each label that the leg takes
record Shows (n : NodeId) (f : Fibre) (x : ℕ) (g : Leg) : Type 0 where
  shown : row_takes f.link x (leg_row n g) ≡ true
  labels : Contains (row_labels f.link (leg_row n g)) x

row-shows : (n : NodeId) (f : Fibre) (x : ℕ) (g : Leg) → takes f x g ≡ true → Shows n f x g
row-shows n f x g this = elim (or_cases (is_at g.in_fibre g.in_label f x) _ this) [
  | inl on ↦ (let is = at-is g.in_fibre g.in_label f x on in record {
    shown = or_left (is_link_label entry g.in_label k x) (is_link_label exit g.back_in k x)
        (rw (is.0, is.1, self-number k.0) (self-number x));
    labels = Contains-append_left (link_label k entry g.in_label) (link_label k exit g.back_in) x
        (rw (is.0, is.1, self-number k.0) (contains-head x []));
  })
  | inr on ↦ (let is = at-is (reverse_of g.out_fibre) g.back_in f x on in
      let out = out-link g.out_fibre f is.0 in record {
        shown = or_right (is_link_label entry g.in_label k x) (is_link_label exit g.back_in k x)
            (rw (out, is.1, self-number k.0) (self-number x));
        labels = Contains-append_right (link_label k entry g.in_label) (link_label k exit g.back_in) x
            (rw (out, is.1, self-number k.0) (contains-head x []));
      })
]
  where
    k : LinkId
    k = f.link

    entry : Option LinkId
    entry = link_of g.in_fibre

    exit : Option LinkId
    exit = link_of g.out_fibre

module _ (t : Network) (valid : IsTopology t) (s : Mesh) (o : LspRoutes) (hops : (l : Lsp) → LspFits t s l (o l))
    (facts : MeshFacts t s) (calls : List CallRow) (legs : List LegRow) (shows : ShowsAll t s calls legs) where
  node-spec : (n : NodeId) → is_node_id t.nodes n ≡ true → (m : NodeSpec) × Contains t.nodes m × (m.id ≡ n)
  node-spec n e =
      let one = any-there (λ (m : NodeSpec). nat_eq m.id.0 n.0) t.nodes e in
      let number : one.0.id.0 ≡ n.0 = (let test = one.2 in grind arith) in
      (one.0, one.1, λ i. record { 0 = number i })

  -- the table has a row of each leg
  pub leg-row-there : (l : Lsp) (n : NodeId) (b : Leg) → leg_at s l n ≡ Some b →
      Contains legs (leg_row n b)
  leg-row-there l n b here =
      let m = node-spec n (placed t valid s o hops l n b here) in
      shows.legs_there (leg_row n b)
      (there-flat (λ (k : NodeSpec). leg_rows k.id (s.nodes k.id.0)) t.nodes m.0 (leg_row n b) m.1
      (subst (λ k. Contains (leg_rows k (s.nodes k.0)) (leg_row n b)) (sym m.2)
      (there-map (leg_row n) (s.nodes n.0).legs b (find-contains _ (s.nodes n.0).legs b here))))

  -- and of each call whose ingress has a leg
  pub call-row-there : (at : NodeId) (c : CallRec) (l : Lsp) (b : Leg) →
      find_call c.call (s.nodes at.0).calls ≡ Some c → leg_at s l at ≡ Some b →
      Contains calls (call_row at (s.nodes at.0).legs c)
  call-row-there at c l b there here =
      let m = node-spec at (placed t valid s o hops l at b here) in
      shows.calls_there (call_row at (s.nodes at.0).legs c)
      (there-flat (λ (k : NodeSpec). call_rows k.id (s.nodes k.id.0)) t.nodes m.0 (call_row at (s.nodes at.0).legs c)
      m.1
      (subst (λ k. Contains (call_rows k (s.nodes k.0)) (call_row at (s.nodes at.0).legs c)) (sym m.2)
      (there-map (call_row at (s.nodes at.0).legs) (s.nodes at.0).calls c
      (find-contains _ (s.nodes at.0).calls c there))))

  -- an LSP whose leg stands is shown
  stands : (l : Option Lsp) (legs : List Leg) (k : Lsp) (b : Leg) → l ≡ Some k → find_leg k legs ≡ Some b →
      standing l legs ≡ Some k
  stands l legs k b is here = rw (is, here) refl

  -- the row of a call that may turn
  pub record ShownTurn (g : Group) (n : NodeId) (k : LinkId) (x : ℕ) (at : NodeId) (c : CallRec) : Type 0 where
    pub row_there : Contains calls (call_row at (s.nodes at.0).legs c)
    pub may : may_turn_to t legs g n k x (call_row at (s.nodes at.0).legs c) ≡ true

  work-stands : (at : NodeId) (c : CallRec) (w : Lsp) → find_call c.call (s.nodes at.0).calls ≡ Some c →
      c.work ≡ Some w → (b : Leg) × (find_leg w (s.nodes at.0).legs ≡ Some b)
  work-stands at c w there is =
      let fit = (facts.node at.0).call c.call c there in
      let named = named_is at.0 (s.nodes at.0).lsp (s.nodes at.0).legs role.Work c.egress c.work w fit.work is in
      (named.leg.0, named.leg.1)

  -- a call that may turn does so by the rows
  pub shown-turn : (g : Group) (n : NodeId) (f : Fibre) (x : ℕ) (at : NodeId) (c : CallRec) →
      MayTurnTo t s g n f x at c → ShownTurn g n f.link x at c
  shown-turn g n f x at c turn =
      let own : List Leg = (s.nodes at.0).legs in
      let back : Lsp = turn.label.back in
      let hit = turn.hit in
      let held = backup-there c.back own turn.guarded in
      let one : held.lsp ≡ back = (let x = held.named in let y = turn.label.named in cc (x, y)) in
      let here : find_leg back own ≡ Some held.leg =
      subst (λ l. find_leg l own ≡ Some held.leg) one held.here in
      let worked = work-stands at c hit.work turn.there hit.named in
      let row : CallRow = call_row at own c in
      let is_back : standing c.back own ≡ Some back = stands c.back own back held.leg turn.label.named here in
      let is_work : standing c.work own ≡ Some hit.work = stands c.work own hit.work worked.0 hit.named worked.1 in
      let took = row-shows n f x turn.label.leg turn.label.label in
      let at_back : held.leg.lsp ≡ back = found-lsp back own held.leg here in
      let hit_lsp : hit.leg.lsp ≡ hit.work = found-lsp hit.work (s.nodes hit.node.0).legs hit.leg hit.there in
      let take_lsp : turn.label.leg.lsp ≡ back =
      found-lsp back (s.nodes n.0).legs turn.label.leg turn.label.there in
      let guards : is_guarded_row legs row ≡ true =
      there-any _ legs (leg_row at held.leg) (leg-row-there back at held.leg here)
      (rw (is_back, at_back, same_lsp-refl back, self-number at.0, held.reserved) refl) in
      let hitting : hits t legs g row ≡ true =
      there-any _ legs (leg_row hit.node hit.leg) (leg-row-there hit.work hit.node hit.leg hit.there)
      (rw (is_work, hit_lsp, same_lsp-refl hit.work, hit.role, hit.live, hit.leads, hit.on_link) refl) in
      let taking : takes_at legs n f.link x row ≡ true =
      there-any _ legs (leg_row n turn.label.leg) (leg-row-there back n turn.label.leg turn.label.there)
      (rw (
        is_back,
        take_lsp,
        same_lsp-refl back,
        self-number n.0,
        took.shown,
      ) refl) in
      record {
        row_there = call-row-there at c back held.leg turn.there here;
        may = rw (guards, hitting, taking) refl;
      }

  -- the label is one of those that are taken
  pub label-there : (n : NodeId) (f : Fibre) (x : ℕ) (c : CallRec) → TakesLabel s c n f x →
      Contains (labels_at legs n f.link) x
  label-there n f x c takes =
      (in_order-has nat_lt nat_order (flat_map (λ r. cond (nat_eq r.node.0 n.0) (row_labels f.link r) []) legs) x).1
      (there-flat (λ (r : LegRow). cond (nat_eq r.node.0 n.0) (row_labels f.link r) [])
      legs (leg_row n takes.leg) x (leg-row-there takes.back n takes.leg takes.there)
      (rw (self-number n.0) (row-shows n f x takes.leg takes.label).labels))
