-- The rings between stations: which frames stand in them, by what a record has.
use Rattle.std.specs.{Prelude.{◌≡◌, ◌==◌, ℕ, not, Bool, List, [], ◌∷◌, ◌++◌, filter, length, if◌then◌else◌}, List.{list_any, range_with_len}}
use Rattle.ason_base.specs.{declared.ids.NodeId.NodeId, Network.Network}
use Rattle.world_merge.specs.Deeds.{sent_by}
use Rattle.round_rules.specs.{Doings.{Did, Doing, Freed, Got, Left, Lost}, Records.{Record, deeds_at}}

-- how many frames were ever sent on a channel, dropped ones among them
abbrev pub count_of : Network → Record → NodeId → NodeId → ℕ
count_of t r u d = length (sent_by t u (deeds_at r u.0) d.0)

-- the numbers of the neighbour's frames that a node took, in the order of their taking
abbrev pub got_from : NodeId → List Doing → List ℕ
got_from u [] = []
got_from u (Got v k says ∷ ds) = if v.0 == u.0 then k ∷ got_from u ds else got_from u ds
got_from u (Did d ∷ ds) = got_from u ds
got_from u (Freed ∷ ds) = got_from u ds
got_from u (Lost v k ∷ ds) = got_from u ds
got_from u (Left i ∷ ds) = got_from u ds

abbrev pub is_number_in : List ℕ → ℕ → Bool
is_number_in ks k = list_any (λ j. j == k) ks

-- those that aren't among these
abbrev pub without_numbers : List ℕ → List ℕ → List ℕ
without_numbers ks ns = filter (λ n. not (is_number_in ks n)) ns

-- the numbers of the frames that were handed to the ring: those that were sent and not dropped
abbrev pub handed : Network → Record → NodeId → NodeId → List ℕ
handed t r u d = without_numbers (r.dropped u.0 d.0) (range_with_len 1 (count_of t r u d))

-- a frame stands in the ring from its sending until it is taken
abbrev pub standing : Network → Record → NodeId → NodeId → List ℕ
standing t r u d = without_numbers (got_from u (r.doings d.0)) (handed t r u d)

-- where the frames that were taken are the first that were handed over, the others stand there, in their order
abbrev pub StandingIsLeft : Type 0
StandingIsLeft =
    (t : Network) (r : Record) (u d : NodeId) (left : List ℕ) →
    handed t r u d ≡ got_from u (r.doings d.0) ++ left → standing t r u d ≡ left
