-- The goal that the leg of an LSP at the ingress is Asked no more, and how far it is.
use Rattle.std.proofs.Common.{◌≡◌, ◌≢◌, ◌≤◌, ◌<◌, ◌⊎◌, ℕ, suc, ◌+◌, ◌-◌, true, [], ◌∷◌, refl, arith, inl, inr}
use Rattle.ason_base.specs.{Network.Network, declared.ids.Lsp.Lsp, declared.ids.NodeId.NodeId, declared.messages.Msg.Msg}
use Rattle.mesh_rules.specs.{declared.events.MeshEvent.MeshEvent, declared.events.MeshEvent.TheVariants.Take, Events.step, Machine.Mesh}
use Rattle.lsp_laws.specs.{HopLaw.{is_message_of, leg_at, mail_between}, HopShapes.{AskedLeg, Label, MsgKind, PlainPath, Removal}}
use Rattle.lsp_laws.proofs.{hops.Chain.Chain, hops.Plans.{Plan, hops, node_at}, hops.Purposes.{Purpose, purpose_role}}
use Rattle.mesh_laws.specs.Sweeps.{takes_one}
use Rattle.mesh_laws.proofs.{decided.AskedRow.{AskedRow, ComesBack, Farther, FoundMsg, Granted, OnItsWay, find-one}, decided.Asked.{At, down_on, find-at, kind_at, up_on}, soon.Soon.{ByMail, Goal, Soon}, soon.Swept.{Goes, Keeps, MovesUp, Turn, mail-turn}, soon.Words.taken-at}

-- it goes down from this place: j sweeps are left once it is taken
pub record OnDown (p : Plan) (l : Lsp) (j u d : ℕ) (m : Msg) : Type 0 where
  pub place : ℕ
  pub below : place < hops p
  pub own : is_message_of l m ≡ true
  pub from : u ≡ (node_at p place).0
  pub to : d ≡ (node_at p (suc place)).0
  pub left : j + suc place ≡ hops p + hops p

-- it comes up to place j
pub record OnUp (p : Plan) (l : Lsp) (j u d : ℕ) (m : Msg) : Type 0 where
  pub below : j < hops p
  pub own : is_message_of l m ≡ true
  pub from : u ≡ (node_at p (suc j)).0
  pub to : d ≡ (node_at p j).0

-- before and after the event the leg at the ingress is Asked
pub record StillAsked (t : Network) (l : Lsp) (p : Plan) (s : Mesh) (e : MeshEvent) : Type 0 where
  pub purpose : Purpose
  pub chain : Chain t purpose l p (leg_at s l) (mail_between s l)
  pub asked : kind_at l p s 0 ≡ AskedLeg
  pub next : Purpose
  pub still : kind_at l p (step t s e) 0 ≡ AskedLeg
  pub later : Chain t next l p (leg_at (step t s e) l) (mail_between (step t s e) l)

-- that it isn't Asked any more
abbrev pub asked_goal : Network → Lsp → Plan → Goal
asked_goal t l p = record {
  Good = StillAsked t l p;
  Done = λ s. ⊥;
  Says = λ j u d m. OnDown p l j u d m ⊎ OnUp p l j u d m;
  Tells = λ j n i. ⊥;
}

module _ (t : Network) (l : Lsp) (p : Plan) where
  abbrev goal : Goal
  goal = asked_goal t l p

  -- an answer on its way up from the next place
  pub up-witness : (s : Mesh) (i : ℕ) → i < hops p → (x : MsgKind) → up_on l p s i ≡ x ∷ [] → (k : ℕ) → suc i ≤ k →
      Soon goal k s
  up-witness s i below x is k most =
      let f : FoundMsg l x (s.mail (node_at p (suc i)).0 (node_at p i).0) =
      find-one l x (s.mail (node_at p (suc i)).0 (node_at p i).0) is in
      ByMail i (node_at p (suc i)).0 (node_at p i).0 f.msg f.before (omega (arith, most))
      (inr (record { below = below; own = f.own; from = refl; to = refl })) f.stands

  -- a Path on its way down from this place
  pub down-witness : (s : Mesh) (i : ℕ) → i < hops p → down_on l p s i ≡ PlainPath ∷ [] → (j k : ℕ) →
      j + suc i ≡ hops p + hops p → suc j ≤ k → Soon goal k s
  down-witness s i below is j k left most =
      let f : FoundMsg l PlainPath (s.mail (node_at p i).0 (node_at p (suc i)).0) =
      find-one l PlainPath (s.mail (node_at p i).0 (node_at p (suc i)).0) is in
      ByMail j (node_at p i).0 (node_at p (suc i)).0 f.msg f.before (omega (arith, most))
      (inl (record { place = i; below = below; own = f.own; from = refl; to = refl; left = left })) f.stands

  -- While the leg at the ingress is Asked, the answer comes within as many sweeps as there are hops, there and back.
  pub asked-soon : (s : Mesh) (q : Purpose) → Chain t q l p (leg_at s l) (mail_between s l) →
      kind_at l p s 0 ≡ AskedLeg → Soon goal (hops p + hops p) s
  asked-soon s q chain asked = go (find-at t q l p s chain asked)
    where
      go : At q l p s → Soon goal (hops p + hops p) s
      go at = by-row at.row
        where
          by-row : AskedRow (purpose_role q) (kind_at l p s (suc at.place)) (down_on l p s at.place)
              (up_on l p s at.place) → Soon goal (hops p + hops p) s
          by-row (OnItsWay none down up) =
              down-witness s at.place at.below down ((hops p + hops p) - suc at.place) (hops p + hops p)
              (let b = at.below in omega (arith, b)) (let b = at.below in omega (arith, b))
          by-row (Farther next down up) = absurd (at.ends next)
          by-row (ComesBack gone down up) =
              up-witness s at.place at.below Removal up (hops p + hops p) (let b = at.below in omega (arith, b))
          by-row (Granted given down up) =
              up-witness s at.place at.below Label up (hops p + hops p) (let b = at.below in omega (arith, b))

  -- what is on its way up elsewhere stays
  pub up-stays : (s : Mesh) (j : ℕ) → j < hops p → (x : MsgKind) → up_on l p s j ≡ x ∷ [] → (b a : NodeId) →
      b.0 ≢ (node_at p j).0 → (k : ℕ) → suc j ≤ k → Soon goal k (step t s (Take b a))
  up-stays s j below x is b a apart k most =
      go (find-one l x (s.mail (node_at p (suc j)).0 (node_at p j).0) is)
    where
      go : FoundMsg l x (s.mail (node_at p (suc j)).0 (node_at p j).0) → Soon goal k (step t s (Take b a))
      go f = turn (mail-turn t s (Take b a) (node_at p (suc j)).0 (node_at p j).0 f.msg f.before f.stands)
        where
          says : OnDown p l j (node_at p (suc j)).0 (node_at p j).0 f.msg ⊎ OnUp p l j (node_at p (suc j)).0
              (node_at p j).0 f.msg
          says = inr (record { below = below; own = f.own; from = refl; to = refl })

          turn : Turn (takes_one (node_at p (suc j)).0 (node_at p j).0 (Take b a))
              ((step t s (Take b a)).mail (node_at p (suc j)).0 (node_at p j).0) f.msg f.before →
              Soon goal k (step t s (Take b a))
          turn (Goes one none) = absurd (apart (taken-at (node_at p (suc j)).0 (node_at p j).0 b a one))
          turn (MovesUp c cs is one up) = ByMail j (node_at p (suc j)).0 (node_at p j).0 f.msg cs (omega (arith, most)) says up
          turn (Keeps none up) = ByMail j (node_at p (suc j)).0 (node_at p j).0 f.msg f.before (omega (arith, most)) says up
