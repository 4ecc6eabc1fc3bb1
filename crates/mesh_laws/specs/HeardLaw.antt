-- In every state of every run the labels that a node sends on a fibre, and those that it is about to be given for it,
-- are shared lawfully (RFC 4872, section 8): at each cut of the list of messages that are on their way from the fibre's
-- other end, two LSPs that may send one label once the messages before the cut have been taken are backups whose
-- primaries have no risk in common. A message counts also where the leg that it comes to will ignore it.
use Rattle.std.specs.Prelude.{◌≡◌, ◌≢◌, ◌==◌, ◌&&◌, ◌||◌, ◌⊎◌, ℕ, Bool, false, List, [], ◌∷◌, ◌++◌, Option, Some, None, IsTrue, if◌then◌else◌}
use Rattle.ason_base.specs.{declared.ids.Fibre.Fibre, declared.ids.Lsp.Lsp, declared.ids.NodeId.NodeId, declared.messages.Msg.Msg, declared.messages.Msg.TheVariants.{Path, Resv, PathTear, PathErr, Notify}, declared.messages.PathRole.PathRole, declared.messages.PathRole.TheVariants.{Work, Back}, declared.steps.Step.Step, declared.tables.Leg.Leg, Lsps.same_lsp, Network.{IsTopology, Network, receiver_of, sender_of}, Risks.{AreDisjoint, route_risks}}
use Rattle.mesh_rules.specs.{declared.events.MeshEvent.MeshEvent, Events.{IsRun, after, or_route, step}, Legs.{is_label, sends_label}, Machine.{Mesh, start}}
use Rattle.lsp_laws.specs.{HopLaw.{leg_at, lsp_of}, RiskLaw.rows_of}

-- What is heard

-- a message that gives its receiver this label of the fibre on which the receiver sends: a Resv over the fibre's link,
-- or a Path over it with this upstream label
abbrev pub brings : Fibre → ℕ → Msg → Bool
brings f x (Path l e k route set up r) = k.0 == f.link.0 && is_label up x
brings f x (Resv l e k y) = k.0 == f.link.0 && y == x
brings f x (PathTear l e k) = false
brings f x (PathErr l e at gone code) = false
brings f x (Notify l e at k code) = false

-- a message after which its sender has let go of the LSP
abbrev pub lets_go : Msg → Bool
lets_go (Path l e k route set up r) = false
lets_go (Resv l e k y) = false
lets_go (PathTear l e k) = false
lets_go (PathErr l e at gone code) = gone
lets_go (Notify l e at k code) = false

-- whether the LSP may send the label once this message has been heard, as it might before or not
abbrev pub heard_one : Fibre → ℕ → Lsp → Msg → Bool → Bool
heard_one f x l m b = if same_lsp (lsp_of m) l then (if lets_go m then false else (brings f x m || b)) else b

-- and once these have, the oldest first
abbrev pub heard : Fibre → ℕ → Lsp → List Msg → Bool → Bool
heard f x l [] b = b
heard f x l (m ∷ ms) b = heard f x l ms (heard_one f x l m b)

-- the leg, if it stands, sends the label
abbrev pub sends_of : Fibre → ℕ → Option Leg → Bool
sends_of f x None = false
sends_of f x (Some g) = sends_label f x g

-- at each cut of the list two LSPs that may send the label there share it; b: whether an LSP sends it now
abbrev pub IsMailLawful : (Lsp → Lsp → Type 0) → Fibre → ℕ → (Lsp → Bool) → List Msg → Type 0
IsMailLawful Share f x b ms =
    (before since : List Msg) → before ++ since ≡ ms → (l m : Lsp) →
    IsTrue (heard f x l before (b l)) → IsTrue (heard f x m before (b m)) → (l ≡ m) ⊎ Share l m

-- What a backup guards

-- the route of the working LSP beside which a Path asks for a backup
abbrev pub primary_in : PathRole → Option (List Step)
primary_in (Work guard) = None
primary_in (Back active work primary) = Some primary

-- as a leg tells it, if it stands
abbrev pub primary_told : Option Leg → Option (List Step)
primary_told None = None
primary_told (Some g) = primary_in g.path_role

-- as the LSP's leg at its ingress tells it
abbrev pub primary_at : Mesh → Lsp → Option (List Step)
primary_at s l = primary_told (leg_at s l l.ingress)

-- the first that this leg tells in a run
abbrev pub primary_of : Network → Mesh → List MeshEvent → Lsp → Option (List Step)
primary_of t s [] l = None
primary_of t s (e ∷ es) l = or_route (primary_at (step t s e) l) (primary_of t (step t s e) es l)

-- two backups, and over a topology the routes of their primaries have no risk in common
pub record AreBackupsApart (t : Network) (events : List MeshEvent) (l m : Lsp) : Type 0 where
  pub one : List Step
  pub other : List Step
  pub one_told : primary_of t start events l ≡ Some one
  pub other_told : primary_of t start events m ≡ Some other
  pub apart : IsTopology t → AreDisjoint (route_risks (rows_of t) one) (route_risks (rows_of t) other)

-- the list from d to u, for each fibre from u to d and each label of it
abbrev pub ListsAreLawful : Network → List MeshEvent → Type 0
ListsAreLawful t events =
    (f : Fibre) (x : ℕ) (u d : NodeId) → u.0 ≢ d.0 → sender_of t f ≡ Some u → receiver_of t f ≡ Some d →
    IsMailLawful (AreBackupsApart t events) f x (λ l. sends_of f x (leg_at (after t start events) l u))
    ((after t start events).mail d.0 u.0)

-- over every network and every run
abbrev pub EveryListIsLawful : Type 0
EveryListIsLawful = (t : Network) (events : List MeshEvent) → IsRun t start events → ListsAreLawful t events
