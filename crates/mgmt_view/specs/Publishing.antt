-- What a publisher has published.
use Rattle.std.specs.Prelude.{◌≡◌, ◌⊎◌, ◌≤◌, List, [], ◌∷◌, ◌++◌}
use Rattle.mgmt_view.specs.{Tables.EndsWith, declared.node_table.NodeTable.NodeTable}

-- the tables that were published, and those that wait to be published before the next one
pub record PublisherState : Type 0 where
  pub published : List NodeTable
  pub waiting : List NodeTable

-- the first table alone was published
abbrev pub published_first : NodeTable → PublisherState
published_first t = record { published = t ∷ []; waiting = [] }

-- what waited and then this table are published
abbrev pub with_published : PublisherState → NodeTable → PublisherState
with_published s t = record { published = s.published ++ (s.waiting ++ t ∷ []); waiting = [] }

-- the table may be among those that wait now
abbrev pub MayTableStay : List NodeTable → NodeTable → List NodeTable → Type 0
MayTableStay old t new = (new ≡ old) ⊎ (new ≡ old ++ t ∷ [])

-- nothing is published, and the table may wait
pub record MayWait (old : PublisherState) (t : NodeTable) (new : PublisherState) : Type 0 where
  pub published : new.published ≡ old.published
  pub waiting : MayTableStay old.waiting t new.waiting

-- no table that was published or waits is of a longer log
abbrev pub RisesTo : PublisherState → NodeTable → Type 0
RisesTo s t = (last : NodeTable) → EndsWith (s.published ++ s.waiting) last → last.entries ≤ t.entries
