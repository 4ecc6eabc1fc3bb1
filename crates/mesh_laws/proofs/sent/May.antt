-- What an answer may do with labels that are sent: a leg sends no more of them afterwards than before, or than the
-- message that was taken gives it; and no answer has both a message that lets go and one that brings a label. And with
-- backups: away from its ingress one is activated by a Path alone. And a leg stays two-way, or one-way.
use Rattle.std.proofs.Common.{◌≡◌, ◌≤◌, ◌<◌, ℕ, Bool, true, false, List, [], ◌∷◌, ◌++◌, refl, sym, ap, subst, inl}
use Rattle.std.specs.Prelude.{◌⊎◌, Option, Some, None, IfSome}
use Rattle.ason_base.specs.{declared.calls.Phase.Phase, declared.calls.Phase.TheVariants.{Held, Armed, Live}, declared.calls.Role.Role, declared.calls.Role.TheVariants.{Work, Back}, declared.ids.Fibre.Fibre, declared.ids.Lsp.Lsp, declared.messages.Msg.Msg, declared.messages.Msg.TheVariants.{Path, Resv}, declared.messages.PathRole.PathRole, declared.tables.Leg.Leg, declared.tables.Out.Out}
use Rattle.mesh_rules.specs.{declared.changes.LegChange.LegChange, declared.changes.LegChange.TheVariants.{Goes, Put}, Changes.{Answer, followed_by, nothing}, Legs.{closed, closing_phase, find_leg, is_armed, is_held, is_in_use, leg_of, reserved, sends_label, with_phase}, LocalNodes.LocalNode, Pairs.is_two_way, Paths.is_active, State.NodeState}
use Rattle.mesh_nodes.proofs.{LegList.found-lsp, Phases.of-closing, ClosedLegs.closed-sends}
use Rattle.lsp_laws.specs.HopLaw.{lsp_of}
use Rattle.mesh_laws.specs.HeardLaw.{brings, lets_go, sends_of}

-- Messages

-- a Path or a Resv
abbrev pub is_labelled : Msg → Bool
is_labelled (Path l e k route set up r) = true
is_labelled (Resv l e k y) = true
is_labelled _ = false

-- none of these messages lets go
abbrev pub NoneRemoves : List Out → Type 0
NoneRemoves [] = Unit {0}
NoneRemoves (o ∷ outs) = (lets_go o.msg ≡ false) × NoneRemoves outs

-- none of them brings a label
abbrev pub NoneLabels : List Out → Type 0
NoneLabels [] = Unit {0}
NoneLabels (o ∷ outs) = (is_labelled o.msg ≡ false) × NoneLabels outs

-- one list after the other
pub append-removes : (a b : List Out) → NoneRemoves a → NoneRemoves b → NoneRemoves (a ++ b)
append-removes [] b x y = y
append-removes (o ∷ a) b x y = (x.0, append-removes a b x.1 y)

-- Legs

-- what the message that is taken gives its LSP: labels to send, and what the LSP is for
pub record Given : Type 1 where
  pub labels : Lsp → Fibre → ℕ → Type 0
  pub roles : Lsp → PathRole → Type 0

-- what a Path says that its LSP is for
abbrev pub role_told : Msg → Option PathRole
role_told (Path l e k route set up r) = Some r
role_told _ = None

-- of a message
abbrev pub gift : Msg → Given
gift m = record {
  labels = λ l f x. (lsp_of m ≡ l) × (brings f x m ≡ true);
  roles = λ l r. (lsp_of m ≡ l) × (role_told m ≡ Some r);
}

-- nothing, where no message is taken
abbrev pub no_gift : Given
no_gift = record { labels = λ l f x. ⊥; roles = λ l r. ⊥ }

-- from where the role of an LSP's leg is known: a leg of it has it already, the message that was taken tells it, or the
-- LSP begins here
pub data SaysRole (p : LocalNode) (s : NodeState) (Q : Given) (l : Lsp) (r : PathRole) : Type 0 where
  SaidBefore : (h : Leg) → find_leg l s.legs ≡ Some h → h.path_role ≡ r → SaysRole p s Q l r
  SaidNow : Q.roles l r → SaysRole p s Q l r
  SaidFirst : l.ingress ≡ p.id → s.lsp ≤ l.lsp → SaysRole p s Q l r

-- a leg of the same role, with the same label in and the same back label out on the fibre by which its Path comes
pub record SameIn (v g : Leg) : Type 0 where
  pub role : v.role ≡ g.role
  pub fibre : v.in_fibre ≡ g.in_fibre
  pub label : v.in_label ≡ g.in_label
  pub back : v.back_out ≡ g.back_out

-- from where a backup's leg is Armed or Live: the leg was so already, or it was Held and the message activates it
pub data InUse (s : NodeState) (Q : Given) (g : Leg) : Type 0 where
  WasInUse : (v : Leg) → find_leg g.lsp s.legs ≡ Some v → is_in_use v.phase ≡ true → SameIn v g → InUse s Q g
  Activated : (v : Leg) (r : PathRole) → find_leg g.lsp s.legs ≡ Some v → is_held v.phase ≡ true → SameIn v g →
      Q.roles g.lsp r → is_active r ≡ true → InUse s Q g

pub same-in : (g : Leg) → SameIn g g
same-in g = record { role = refl; fibre = refl; label = refl; back = refl }

-- away from its ingress
abbrev pub Arms : LocalNode → NodeState → Given → Leg → Type 0
Arms p s Q g = g.role ≡ Back → is_in_use g.phase ≡ true → (g.lsp.ingress ≡ p.id → ⊥) → InUse s Q g

-- the leg of an LSP whose number was given out is two-way where the leg that stands is
abbrev pub StaysWay : NodeState → Lsp → Leg → Type 0
StaysWay s l g = (h : Leg) → find_leg l s.legs ≡ Some h → l.lsp < s.lsp → is_two_way g ≡ is_two_way h

-- A leg of p, which keeps s, that may be put: it sends what its LSP's leg did, or what is given.
pub record May (p : LocalNode) (s : NodeState) (Q : Given) (g : Leg) : Type 0 where
  pub sent : (f : Fibre) (x : ℕ) → sends_label f x g ≡ true →
      (sends_of f x (find_leg g.lsp s.legs) ≡ true) ⊎ Q.labels g.lsp f x
  pub says : SaysRole p s Q g.lsp g.path_role
  pub arms : Arms p s Q g
  pub way : StaysWay s g.lsp g

-- the leg of an LSP that begins at p
abbrev pub MayHere : LocalNode → NodeState → Given → Leg → Type 0
MayHere p s Q g = May p s Q g × (g.lsp.ingress ≡ p.id)

-- each leg that is put
abbrev pub AllMay : LocalNode → NodeState → Given → List LegChange → Type 0
AllMay p s Q [] = Unit {0}
AllMay p s Q (Goes l ∷ cs) = AllMay p s Q cs
AllMay p s Q (Put g ∷ cs) = May p s Q g × AllMay p s Q cs

append-may : (p : LocalNode) (s : NodeState) (Q : Given) (a b : List LegChange) → AllMay p s Q a → AllMay p s Q b →
    AllMay p s Q (a ++ b)
append-may p s Q [] b x y = y
append-may p s Q (Goes l ∷ a) b x y = append-may p s Q a b x y
append-may p s Q (Put g ∷ a) b x y = (x.0, append-may p s Q a b x.1 y)

-- Answers

-- to an item of a desk, or a tick
pub record CalmAnswer (p : LocalNode) (s : NodeState) (Q : Given) (a : Answer) : Type 0 where
  pub legs : AllMay p s Q a.legs
  pub sent : NoneRemoves a.sent

-- and to a message
pub record FineAnswer (p : LocalNode) (s : NodeState) (Q : Given) (a : Answer) : Type 0 where
  pub legs : AllMay p s Q a.legs
  pub sent : NoneRemoves a.sent ⊎ NoneLabels a.sent

-- Phases

closed-idle : (f : Phase) (r : Role) → is_in_use (closing_phase f r) ≡ true → ⊥
closed-idle f r = of-closing (λ q. is_in_use q ≡ true → ⊥) (λ e. cc e) (λ e. cc e) f r

-- a backup that gets its label isn't activated
pub reserved-idle : (r : Role) → r ≡ Back → is_in_use (reserved r) ≡ true → ⊥
reserved-idle Work is e = cc is
reserved-idle Back is e = cc e

module _ (p : LocalNode) (s : NodeState) (Q : Given) where
  -- an answer that lets nothing go
  pub fine : (a : Answer) → CalmAnswer p s Q a → FineAnswer p s Q a
  fine a c = record { legs = c.legs; sent = inl c.sent }

  -- no answer
  pub idle : CalmAnswer p s Q nothing
  idle = record { legs = tt; sent = tt }

  -- two answers, one after the other
  pub both : (a b : Answer) → CalmAnswer p s Q a → CalmAnswer p s Q b → CalmAnswer p s Q (followed_by a b)
  both a b x y = record {
    legs = append-may p s Q a.legs b.legs x.legs y.legs;
    sent = append-removes a.sent b.sent x.sent y.sent;
  }

  -- Legs that may be put

  -- a leg in another phase
  pub phased-may : (q : Phase) (g : Leg) → Arms p s Q (with_phase q g) → May p s Q g → May p s Q (with_phase q g)
  phased-may q g arms may = record { sent = may.sent; says = may.says; arms = arms; way = may.way }

  -- one that is Held, one at its ingress, and one whose activation is confirmed
  pub held-may : (g : Leg) → May p s Q g → May p s Q (with_phase Held g)
  held-may g may = phased-may Held g (λ back used away. absurd (cc used)) may

  pub here-may : (q : Phase) (g : Leg) → MayHere p s Q g → MayHere p s Q (with_phase q g)
  here-may q g may = (phased-may q g (λ back used away. absurd (away may.1)) may.0, may.1)

  pub confirmed-may : (g : Leg) → is_armed g.phase ≡ true → May p s Q g → May p s Q (with_phase Live g)
  confirmed-may g armed may =
      phased-may Live g (λ back used away. as_armed (may.arms back (armed-used g.phase armed) away)) may
    where
      armed-used : (f : Phase) → is_armed f ≡ true → is_in_use f ≡ true
      armed-used Armed e = refl
      armed-used Live e = refl
      armed-used _ e = absurd (cc e)

      as_armed : InUse s Q g → InUse s Q (with_phase Live g)
      as_armed (WasInUse v found used same) =
          WasInUse v found used
          (record { role = same.role; fibre = same.fibre; label = same.label; back = same.back })
      as_armed (Activated v r found held same given active) =
          Activated v r found held
          (record { role = same.role; fibre = same.fibre; label = same.label; back = same.back }) given active

  -- a torn one
  pub closed-may : (g : Leg) → May p s Q g → May p s Q (closed g)
  closed-may g may = record {
    sent = λ f x h. may.sent f x (closed-sends g f x h);
    says = may.says;
    arms = λ back used away. absurd (closed-idle g.phase g.role used);
    way = may.way;
  }

  -- a leg that stands
  pub found-may : (l : Lsp) (g : Leg) → find_leg l s.legs ≡ Some g → May p s Q g
  found-may l g found =
      let is : g.lsp ≡ l = found-lsp l s.legs g found in
      let here : find_leg g.lsp s.legs ≡ Some g = subst (λ k. find_leg k s.legs ≡ Some g) (sym is) found in
      record {
        sent = λ f x h. inl (subst (λ o. sends_of f x o ≡ true) (sym here) h);
        says = SaidBefore g here refl;
        arms = λ back used away. WasInUse g here used (same-in g);
        way = λ h there given. (let one : g ≡ h = cc (here, there) in ap is_two_way one);
      }

  pub leg_of-may : (o : Option Lsp) → IfSome (leg_of o s.legs) (May p s Q)
  leg_of-may None = tt
  leg_of-may (Some l) = go (find_leg l s.legs) refl
    where
      go : (o : Option Leg) → find_leg l s.legs ≡ o → IfSome o (May p s Q)
      go None e = tt
      go (Some g) e = found-may l g e
