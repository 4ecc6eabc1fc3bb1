-- What happened at all nodes, and when it could have.
use Rattle.std.specs.Prelude.{◌≡◌, ◌<◌, ℕ, List, [], ◌∷◌, Some}
use Rattle.ason_base.specs.{declared.ids.NodeId.NodeId, Network.Network}
use Rattle.world_rules.specs.Worlds.{numbered_at, world_start}
use Rattle.world_merge.specs.Deeds.{AreDoable, Deed, Heard, Handled, Posted, Ticked, Took, sent_by, upto}

-- what happened at each number; at one that is no node's, the posts alone
abbrev pub Histories : Type 0
Histories = ℕ → List Deed

-- the node with this number
abbrev pub at : ℕ → NodeId
at n = record { 0 = n }

-- a frame that the node n took was sent to it, by what the sender had done up to a lower stamp
abbrev pub IsGenuine : Network → Histories → ℕ → Deed → Type 0
IsGenuine t hists n (Took s u k x) =
    (sent : ℕ) × (sent < s) × (numbered_at (sent_by t u (upto sent (hists u.0)) n) k ≡ Some x)
IsGenuine t hists n (Ticked s) = Unit {0}
IsGenuine t hists n (Handled s) = Unit {0}
IsGenuine t hists n (Heard s u bytes) = Unit {0}
IsGenuine t hists n (Posted s c) = Unit {0}

abbrev pub AreGenuine : Network → Histories → ℕ → List Deed → Type 0
AreGenuine t hists n [] = Unit {0}
AreGenuine t hists n (d ∷ ds) = IsGenuine t hists n d × AreGenuine t hists n ds

-- all that happened at a node was possible with the node alone, and the frames that it took had been sent
pub record AreHistories (t : Network) (hists : Histories) : Type 0 where
  pub doable : (n : ℕ) → AreDoable t (at n) (world_start t) (hists n)
  pub genuine : (n : ℕ) → AreGenuine t hists n (hists n)
