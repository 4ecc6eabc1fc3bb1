-- Two runs of networks of floods, worked out.
use Rattle.std.proofs.Common.{◌≡◌, ℕ, List, [], ◌∷◌, refl}
use Rattle.ason_base.specs.{declared.ids.NodeId.NodeId, declared.network.TeRow.TeRow}
use Rattle.flood.specs.{declared.messages.FloodMsg.TheVariants.{Row, Ack}, State.pending_count, Networks.{FloodEvent, FloodNetwork, Take, Tick, floods_after, begun}}

node : ℕ → NodeId
node n = record { 0 = n }

-- the row of a link, which joins these two nodes
link : ℕ → ℕ → ℕ → TeRow
link number low high = record { link = record { 0 = number }; low = node low; high = node high; metric = 1; srlgs = [] }

-- Three nodes in a line. Of the rows that the middle one floods, one is lost on its way to the first node, the other
-- comes
-- twice; the lost one goes again in the next tick.

line : List TeRow
line = link 1 1 2 ∷ link 2 2 3 ∷ []

events : List FloodEvent
events =
    Tick (node 1)
    ∷ Tick (node 2)
    ∷ Take (node 1) (node 2) 1  -- link 2 comes, link 1 doesn't
    ∷ Take (node 1) (node 2) 1  -- and once more
    ∷ Take (node 3) (node 2) 1
    ∷ Take (node 3) (node 2) 0  -- link 1 comes after link 2
    ∷ Take (node 2) (node 1) 0  -- link 1 from its other end
    ∷ Take (node 1) (node 2) 2  -- its acknowledgement
    ∷ Take (node 2) (node 1) 1  -- the acknowledgement of link 2
    ∷ Take (node 2) (node 3) 0
    ∷ Take (node 2) (node 3) 1
    ∷ Tick (node 3)
    ∷ Take (node 2) (node 3) 2  -- link 2 from its other end
    ∷ Take (node 3) (node 2) 2  -- its acknowledgement
    ∷ Tick (node 2)
    ∷ Take (node 1) (node 2) 3  -- link 1 at last
    ∷ Take (node 2) (node 1) 3  -- its acknowledgement
    ∷ []

settled : FloodNetwork
settled = floods_after (begun line) events

sent : settled.channels 2 1 ≡ Row 1 (node 2) (link 1 1 2) ∷ Row 2 (node 2) (link 2 2 3) ∷ Ack 1 ∷ Row 1 (node 2)
    (link 1 1 2) ∷ []
unfolding settled events line link node
sent = refl

answered : settled.channels 1 2 ≡ Row 1 (node 1) (link 1 1 2) ∷ Ack 2 ∷ Ack 2 ∷ Ack 1 ∷ []
unfolding settled events line link node
answered = refl

first_knows : (settled.nodes 1).rows ≡ link 1 1 2 ∷ link 2 2 3 ∷ []
unfolding settled events line link node
first_knows = refl

last_knows : (settled.nodes 3).rows ≡ link 2 2 3 ∷ link 1 1 2 ∷ []
unfolding settled events line link node
last_knows = refl

nothing_is_due : (pending_count (settled.nodes 1) ≡ 0) × (pending_count (settled.nodes 2) ≡ 0) ×
    (pending_count (settled.nodes 3) ≡ 0)
unfolding settled events line link node
nothing_is_due = (refl, refl, refl)

-- A star: the node in the middle passes on what it learns, to all but the giver, as the origin gave it, under its next
-- number.

star : List TeRow
star = link 1 1 4 ∷ link 2 2 4 ∷ link 3 3 4 ∷ link 4 3 5 ∷ []

passed_on : FloodNetwork
passed_on = floods_after (begun star) (Tick (node 3) ∷ Take (node 4) (node 3) 1 ∷ Take (node 1) (node 4) 0 ∷ [])

acknowledged : passed_on.channels 4 3 ≡ Ack 2 ∷ []
unfolding passed_on star link node
acknowledged = refl

to_the_others : (passed_on.channels 4 1 ≡ Row 4 (node 3) (link 4 3 5) ∷ []) ×
    (passed_on.channels 4 2 ≡ Row 4 (node 3) (link 4 3 5) ∷ [])
unfolding passed_on star link node
to_the_others = (refl, refl)

learnt_afar : (passed_on.nodes 1).rows ≡ link 1 1 4 ∷ link 4 3 5 ∷ []
unfolding passed_on star link node
learnt_afar = refl
