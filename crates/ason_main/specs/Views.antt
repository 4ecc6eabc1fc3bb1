-- What is told of a node that is watched.
use Rattle.std.specs.{Prelude.{◌≡◌, ℕ, Bool, false, List, [], ◌∷◌, ◌++◌, Some, IsTrue, length}, List.{AllByRecursion, AllZip}}
use Rattle.ason_base.specs.{declared.commands.Entry.Entry, declared.ids.NodeId.NodeId}
use Rattle.fleet.specs.{Commands.station_of, Standing.FleetState, Views.publisher_of}
use Rattle.mgmt_view.specs.{Publishing.PublisherState, Tables.EndsWith, Viewing.{HasLearntLast, HasReadTable, ViewerState}, declared.node_table.NodeTable.NodeTable}
use Rattle.plan_reader.specs.declared.plan.Plan.{Plan}
use Rattle.station.specs.{Noise.is_noise_line, Watched.{table_of, tables_by}}
use Rattle.round_rules.specs.States.{StationState}
use Rattle.table_text.specs.ViewText.{view_text}

-- Tables

-- whether noise comes last in these lines, behind ones in which it does or doesn't
abbrev pub noise_after : Bool → List Entry → Bool
noise_after last [] = last
noise_after last (e ∷ es) = noise_after (is_noise_line e) es

-- whether the last line is of noise
abbrev pub ends_in_noise : List Entry → Bool
ends_in_noise es = noise_after false es

-- the legs of the station's node as they are, and how many lines its log has without the noise that came last
pub record IsTableOf (t : NodeTable) (s : StationState) : Type 0 where
  pub legs : t.legs ≡ (table_of s).legs
  pub before : List Entry
  pub since : List Entry
  pub noise : AllByRecursion (λ e. IsTrue (is_noise_line e)) since
  pub ended : ends_in_noise before ≡ false
  pub log : s.log ≡ before ++ since
  pub entries : t.entries ≡ length before

-- the station is watched, and what it published last is a table of it
pub record IsInView (s : StationState) : Type 0 where
  pub publisher : PublisherState
  pub watched : s.publisher ≡ Some publisher
  pub table : NodeTable
  pub last : EndsWith publisher.published table
  pub is_table : IsTableOf table s

-- the station of the node is in view
abbrev pub IsViewed : NodeId → FleetState → Type 0
IsViewed n f = (s : StationState) × (station_of f n ≡ Some s) × IsInView s

-- each station that is in view stays so
abbrev pub StayInView : List StationState → List StationState → Type 0
StayInView old new = AllZip (λ s z. IsInView s → IsInView z) old new

-- the viewer learnt the last token of the node, and then read this table
pub record HasReadLast (n : NodeId) (f : FleetState) (old new : ViewerState) (t : NodeTable) : Type 0 where
  pub published : List NodeTable
  pub all : tables_by (publisher_of n f) ≡ Some published
  pub learnt : ViewerState
  pub token : HasLearntLast old published learnt
  pub read : HasReadTable learnt new t

-- the viewer has read behind the last token of the node
abbrev pub HasReadAtEnd : NodeId → FleetState → ViewerState → Type 0
HasReadAtEnd n f v = (old : ViewerState) × (t : NodeTable) × HasReadLast n f old v t

-- Texts

-- the view of the node, by a table of its station
pub record IsViewOf (p : Plan) (n : NodeId) (f : FleetState) (text : List ℕ) : Type 0 where
  pub station : StationState
  pub there : station_of f n ≡ Some station
  pub table : NodeTable
  pub is_table : IsTableOf table station
  pub told : text ≡ view_text p n table.entries table.legs

-- the view of the node, by the table that its viewer read behind the last token
pub record IsReadView (p : Plan) (n : NodeId) (f : FleetState) (old new : ViewerState) (text : List ℕ) : Type 0 where
  pub table : NodeTable
  pub read : HasReadLast n f old new table
  pub told : text ≡ view_text p n table.entries table.legs
