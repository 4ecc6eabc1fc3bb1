-- Rounds with one worker: a function of the record.
use Rattle.std.specs.{Prelude.{◌+◌, ◌-◌, ◌==◌, ◌&&◌, ℕ, true, List, [], ◌∷◌, ◌++◌, drop, fold, length, map, Option, Some, is_some, None, if◌then◌else◌}, List.{flat_map, range_with_len}}
use Rattle.ason_base.specs.{declared.limits.TheConstants.MOST_FRAMES, declared.ids.NodeId.NodeId, declared.commands.Disturb.Disturb, Network.Network}
use Rattle.flood.specs.declared.frames.Content.{Content}
use Rattle.world_rules.specs.{WorldRuns.{is_world_channel, neighbours_of}, Worlds.numbered_at}
use Rattle.world_merge.specs.{Deeds.sent_by, Stamps.sent_stamp}
use Rattle.round_rules.specs.{Doings.Doing, Functions.{Popped, tick_if}, Limits.{Progress, turn_to}, Held.{HeldFrame, due_in}, Records.{Record, deeds_at}, Rings.{count_of, standing}}

-- Frames that stand in a ring

-- the frame of this number, as it is popped
abbrev pub popped_as : NodeId → ℕ → ℕ → Option Content → List Popped
popped_as u k s None = []
popped_as u k s (Some x) = record { from = u; number = k; stamp = s; content = x } ∷ []

abbrev pub popped_of : Network → Record → NodeId → NodeId → ℕ → List Popped
popped_of t r n u k =
    popped_as u k (sent_stamp t u (deeds_at r u.0) n.0 k) (numbered_at (sent_by t u (deeds_at r u.0) n.0) k)

-- all frames that stand in the ring from a neighbour
abbrev pub popped_from : Network → Record → NodeId → NodeId → List Popped
popped_from t r n u = flat_map (popped_of t r n u) (standing t r u n)

-- and in all rings of the node, neighbour by neighbour
abbrev pub all_popped : Network → Record → NodeId → List Popped
all_popped t r n = flat_map (popped_from t r n) (neighbours_of t n)

abbrev pub due_popped : Network → Record → NodeId → List HeldFrame → List Popped
due_popped t r n hs = flat_map (λ (h : HeldFrame). popped_of t r n h.from h.number) hs

-- One node's turns

-- what the node does in its turns, up to its limit: in the first all that stands there is taken, and then nothing is
-- left
abbrev pub turns_to : Network → List Disturb → Record → NodeId → Progress
turns_to t lines r n =
    let before = r.doings n.0 in
    turn_to t lines n true before (due_popped t r n (due_in (tick_if true before))) (all_popped t r n)

abbrev pub with_doings : Record → ℕ → List Doing → Record
with_doings r n ds = record r { doings = λ m. if m == n then ds else r.doings m }

-- of the frames that n sent to d in its turns those are dropped for which 256 stood there
abbrev pub dropped_in : Network → Record → Record → NodeId → NodeId → List ℕ
dropped_in t before after n d =
    drop (MOST_FRAMES - length (standing t before n d))
    (range_with_len (count_of t before n d + 1) (count_of t after n d - count_of t before n d))

abbrev pub with_drops : Network → Record → Record → NodeId → Record
with_drops t before after n = record after {
  dropped = λ u d.
      if u == n.0 && is_world_channel t n (record { 0 = d })
      then after.dropped u d ++ dropped_in t before after n (record { 0 = d })
      else after.dropped u d;
}

-- the node did this
abbrev pub after_turns : Network → Record → NodeId → List Doing → Record
after_turns t r n ds = with_drops t r (with_doings r n.0 ds) n

-- The round

abbrev pub ids_of : Network → List NodeId
ids_of t = map (λ n. n.id) t.nodes

-- what a round came to, and the node at whose limit it ended, if it ended at one
pub record RoundEnd : Type 0 where
  pub made : Record
  pub stopped : Option NodeId

abbrev pub node_end : Network → Record → NodeId → Progress → RoundEnd
node_end t r n p = record { made = after_turns t r n p.doings; stopped = if p.halted then Some n else None }

-- the node makes its turns, unless an earlier node came to its limit
abbrev pub node_round : Network → List Disturb → RoundEnd → NodeId → RoundEnd
node_round t lines e n = if is_some e.stopped then e else node_end t e.made n (turns_to t lines e.made n)

-- these nodes, one after the other
abbrev pub nodes_round : Network → List Disturb → List NodeId → Record → RoundEnd
nodes_round t lines ns r = fold (node_round t lines) (record { made = r; stopped = None }) ns

-- the nodes go in order of number
abbrev pub one_round : Network → List Disturb → Record → RoundEnd
one_round t lines r = nodes_round t lines (ids_of t) r
