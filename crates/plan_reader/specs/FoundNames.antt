-- Networks and names of plans that bytes spell.
use Rattle.std.specs.Prelude.{◌≡◌, ℕ, Bool, true, List, Some, Ok, length, slice_get}
use Rattle.ason_base.specs.Network.{IsTopology}
use Rattle.plan_reader.specs.{declared.plan.Plan.Plan, Names.{is_name, place_of}, Plans.IsSpelled}

-- what stands at this place is a name, and is found there
pub record IsFoundAt (names : List (List ℕ)) (k : ℕ) (text : List ℕ) : Type 0 where
  pub name : is_name text ≡ true
  pub place : place_of names text ≡ Some k

-- so each is, and none stands twice
abbrev pub AreFoundByName : List (List ℕ) → Type 0
AreFoundByName names = (k : ℕ) (text : List ℕ) → slice_get names k ≡ Some text → IsFoundAt names k text

-- Each node has a name, and no name is given twice, to nodes or to calls.
pub record FindsByName (p : Plan) : Type 0 where
  pub even : length p.node_names ≡ length p.topology.nodes
  pub nodes : AreFoundByName p.node_names
  pub calls : AreFoundByName p.call_names

-- What holds of each plan, where setups may be two-way and where they may not

abbrev pub EveryNetworkIsATopology : Type 0
EveryNetworkIsATopology =
    (two_way : Bool) (bs : List ℕ) (p : Plan) → IsSpelled two_way bs (Ok p) → IsTopology p.topology

abbrev pub EveryNameIsFound : Type 0
EveryNameIsFound = (two_way : Bool) (bs : List ℕ) (p : Plan) → IsSpelled two_way bs (Ok p) → FindsByName p
