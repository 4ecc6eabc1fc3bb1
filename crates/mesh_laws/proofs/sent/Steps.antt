-- Who sends which label, and who is about to: each step keeps it lawful.
use Rattle.std.proofs.Common.{◌≡◌, ◌≢◌, ℕ, Bool, true, false, List, ◌∷◌, ◌++◌, sym, subst, ◌∙◌, inl, inr}
use Rattle.std.specs.Prelude.{◌⊎◌, Option, Some, None}
use Rattle.ason_base.specs.{Network.{Network, receiver_of, sender_of}, declared.ids.Fibre.Fibre, declared.ids.Lsp.Lsp, declared.ids.NodeId.NodeId, declared.messages.Msg.Msg, declared.tables.Leg.Leg}
use Rattle.ason_base.proofs.JoinedEnds.{same-node}
use Rattle.mesh_rules.specs.{Legs.takes, Machine.Mesh}
use Rattle.lsp_laws.specs.HopLaw.{leg_at}
use Rattle.lsp_laws.proofs.hops.Chain.{is_or_not}
use Rattle.mesh_laws.specs.HeardLaw.{IsMailLawful, heard, heard_one, sends_of}
use Rattle.mesh_laws.proofs.sent.Heard.{NoneBrings, NoneLetsGo, lawful-heard, lawful-less, lawful-sent}

-- Over each fibre from u to d: at each cut of the list from d to u, the LSPs that may send a label there share it.
abbrev pub LawfulMesh : Network → (Lsp → Lsp → Type 0) → Mesh → Type 0
LawfulMesh t Share s =
    (f : Fibre) (x : ℕ) (u d : NodeId) → u.0 ≢ d.0 → sender_of t f ≡ Some u → receiver_of t f ≡ Some d →
    IsMailLawful Share f x (λ l. sends_of f x (leg_at s l u)) (s.mail d.0 u.0)

-- what the node n hears of d in a step: the first message, or none; and its legs send no more than that gives
pub data NodeHears (t : Network) (s s' : Mesh) (n d : NodeId) : Type 0 where
  HearsOne : (m : Msg) → s.mail d.0 n.0 ≡ m ∷ s'.mail d.0 n.0 →
      ((f : Fibre) (x : ℕ) (l : Lsp) → sender_of t f ≡ Some n → receiver_of t f ≡ Some d →
      sends_of f x (leg_at s' l n) ≡ true → heard_one f x l m (sends_of f x (leg_at s l n)) ≡ true) →
      NodeHears t s s' n d
  HearsNone : s.mail d.0 n.0 ≡ s'.mail d.0 n.0 →
      ((f : Fibre) (x : ℕ) (l : Lsp) → sender_of t f ≡ Some n → receiver_of t f ≡ Some d →
      sends_of f x (leg_at s' l n) ≡ true → sends_of f x (leg_at s l n) ≡ true) → NodeHears t s s' n d

-- A step at the node n
pub record StepAt (t : Network) (s s' : Mesh) (n : NodeId) : Type 0 where
  pub legs : (l : Lsp) (b : NodeId) → b.0 ≢ n.0 → leg_at s' l b ≡ leg_at s l b
  pub else_where : (a b : NodeId) → a.0 ≢ n.0 → b.0 ≢ n.0 → s'.mail a.0 b.0 ≡ s.mail a.0 b.0
  pub new : NodeId → List Msg
  pub sends : (b : NodeId) → b.0 ≢ n.0 → s'.mail n.0 b.0 ≡ s.mail n.0 b.0 ++ new b
  -- to one node no step sends both a message that lets go and one that brings a label
  pub kind : (b : NodeId) (f : Fibre) (x : ℕ) → NoneLetsGo (new b) ⊎ NoneBrings f x (new b)
  pub hears : (d : NodeId) → d.0 ≢ n.0 → NodeHears t s s' n d

-- the leg, if it stands, takes the label
abbrev pub takes_if_there : Fibre → ℕ → Option Leg → Bool
takes_if_there f x None = false
takes_if_there f x (Some g) = takes f x g

-- What holds of the state after: what may be sent is taken at the other end, and those that take one label share it.
pub record TakesWhatIsSent (t : Network) (Share : Lsp → Lsp → Type 0) (s : Mesh) : Type 0 where
  pub takes : (f : Fibre) (x : ℕ) (u d : NodeId) → u.0 ≢ d.0 → sender_of t f ≡ Some u → receiver_of t f ≡ Some d →
      (l : Lsp) → heard f x l (s.mail d.0 u.0) (sends_of f x (leg_at s l u)) ≡ true →
      takes_if_there f x (leg_at s l d) ≡ true
  pub shared : (f : Fibre) (x : ℕ) (d : NodeId) (l m : Lsp) → takes_if_there f x (leg_at s l d) ≡ true →
      takes_if_there f x (leg_at s m d) ≡ true → (l ≡ m) ⊎ Share l m

-- each step at a node keeps the mesh lawful
pub lawful-step : (t : Network) (Share : Lsp → Lsp → Type 0) (s s' : Mesh) (n : NodeId) → StepAt t s s' n →
    TakesWhatIsSent t Share s' → LawfulMesh t Share s → LawfulMesh t Share s'
lawful-step t Share s s' n step now lawful f x u d apart from_u to_d =
    go (is_or_not u.0 n.0) (is_or_not d.0 n.0)
  where
    b : Lsp → Bool
    b l = sends_of f x (leg_at s l u)

    b' : Lsp → Bool
    b' l = sends_of f x (leg_at s' l u)

    -- lawful with what the LSPs send afterwards
    IsNow : List Msg → Type 0
    IsNow ms = IsMailLawful Share f x b' ms

    was : IsMailLawful Share f x b (s.mail d.0 u.0)
    was = lawful f x u d apart from_u to_d

    -- where none sends more than it did
    less : ((l : Lsp) → b' l ≡ true → b l ≡ true) → IsNow (s.mail d.0 u.0)
    less fewer = lawful-less Share f x b b' (s.mail d.0 u.0) was fewer

    -- legs elsewhere stay
    stays : u.0 ≢ n.0 → (l : Lsp) → b' l ≡ true → b l ≡ true
    stays ne l h = subst (λ o. sends_of f x o ≡ true) (step.legs l u ne) h

    heard_at_n : u ≡ n → NodeHears t s s' n d → IsNow (s'.mail d.0 u.0)
    heard_at_n is (HearsOne m list fewer) =
        lawful-heard Share f x b b' m (s'.mail d.0 u.0)
        (subst (IsMailLawful Share f x b) (subst (λ k. s.mail d.0 k.0 ≡ m ∷ s'.mail d.0 k.0) (sym is) list) was)
        (λ l h. subst (λ k. heard_one f x l m (sends_of f x (leg_at s l k)) ≡ true) (sym is)
        (fewer f x l (subst (λ k. sender_of t f ≡ Some k) is from_u) to_d
        (subst (λ k. sends_of f x (leg_at s' l k) ≡ true) is h)))
    heard_at_n is (HearsNone list fewer) =
        subst IsNow (subst (λ k. s.mail d.0 k.0 ≡ s'.mail d.0 k.0) (sym is) list)
        (less (λ l h. subst (λ k. sends_of f x (leg_at s l k) ≡ true) (sym is)
        (fewer f x l (subst (λ k. sender_of t f ≡ Some k) is from_u) to_d
        (subst (λ k. sends_of f x (leg_at s' l k) ≡ true) is h))))

    all : (l m : Lsp) → heard f x l (s'.mail d.0 u.0) (b' l) ≡ true → heard f x m (s'.mail d.0 u.0) (b' m) ≡ true →
        (l ≡ m) ⊎ Share l m
    all l m at_l at_m =
        now.shared f x d l m (now.takes f x u d apart from_u to_d l at_l) (now.takes f x u d apart from_u to_d m at_m)

    sent_from_n : d ≡ n → u.0 ≢ n.0 → IsNow (s'.mail d.0 u.0)
    sent_from_n is ne =
        let list : s'.mail d.0 u.0 ≡ s.mail d.0 u.0 ++ step.new u =
        subst (λ k. s'.mail k.0 u.0 ≡ s.mail k.0 u.0 ++ step.new u) (sym is) (step.sends u ne) in
        subst IsNow (sym list)
        (lawful-sent Share f x b' (s.mail d.0 u.0) (step.new u) (less (stays ne)) (step.kind u f x)
        (λ l m at_l at_m. all l m (subst (λ ms. heard f x l ms (b' l) ≡ true) (sym list) at_l)
        (subst (λ ms. heard f x m ms (b' m) ≡ true) (sym list) at_m)))

    go : (u.0 ≡ n.0) ⊎ (u.0 ≢ n.0) → (d.0 ≡ n.0) ⊎ (d.0 ≢ n.0) → IsNow (s'.mail d.0 u.0)
    go (inl at_u) (inl at_d) = absurd (apart (at_u ∙ sym at_d))
    go (inl at_u) (inr far) = heard_at_n (same-node u n at_u) (step.hears d far)
    go (inr far) (inl at_d) = sent_from_n (same-node d n at_d) far
    go (inr far) (inr apart_d) = subst IsNow (sym (step.else_where d u apart_d far)) (less (stays far))
