-- A survey of a state's rows lists all calls that would contend: where it lists none of two groups, these two may fail
-- in any order and no activation is refused.
use Rattle.std.specs.{Prelude.{◌≡◌, ◌≢◌, ◌⊎◌, ◌||◌, Bool, List, [], Contains, IsTrue}, List.AllByRecursion}
use Rattle.ason_base.specs.{Network.{IsTopology, Network}, declared.calls.CallRow.CallRow, declared.calls.LegRow.LegRow, declared.commands.Group.Group}
use Rattle.mesh_rules.specs.{declared.events.MeshEvent.MeshEvent, Events.{IsRun, after}, Legs.{is_asked, is_held, is_work}, Machine.{Mesh, start}, Quiet.IsQuiet, Rows.{all_call_rows, all_leg_rows}}
use Rattle.mesh_laws.specs.{AloneLaw.{Calm, NoneRefused}, ContendLaw.{NoneContend, TwoAlone}, Survey.contends_of, declared.survey.Contend.Contend}

-- the entry is of these two groups, the one or the other first
abbrev pub IsOf : Group → Group → Contend → Type 0
IsOf g h c = ((c.first ≡ g) × (c.second ≡ h)) ⊎ ((c.first ≡ h) × (c.second ≡ g))

-- a survey of these rows lists no calls that would contend where these two fail
abbrev pub NoneListed : Network → List CallRow → List LegRow → Group → Group → Type 0
NoneListed t calls legs g h = (c : Contend) → Contains (contends_of t calls legs) c → IsOf g h c → ⊥

-- the rows show each call and each leg of the state, in whatever order
pub record ShowsAll (t : Network) (s : Mesh) (calls : List CallRow) (legs : List LegRow) : Type 0 where
  pub calls_there : (c : CallRow) → Contains (all_call_rows t s) c → Contains calls c
  pub legs_there : (r : LegRow) → Contains (all_leg_rows t s) r → Contains legs r

-- then none would
abbrev pub ContendsAreListed : Network → List MeshEvent → Type 0
ContendsAreListed t events =
    (calls : List CallRow) (legs : List LegRow) → ShowsAll t (after t start events) calls legs → (g h : Group) →
    g ≢ h → NoneListed t calls legs g h → NoneContend t (after t start events) g h

-- so from a quiet and calm state on whose survey lists none of these two, no activation is refused
abbrev pub NoSurveyedContend : Type 0
NoSurveyedContend =
    (t : Network) (events : List MeshEvent) → IsTopology t → IsRun t start events → (g h : Group) → g ≢ h →
    (two : TwoAlone t events g h) (calls : List CallRow) (legs : List LegRow) →
    ShowsAll t (after t start two.before) calls legs → NoneListed t calls legs g h →
    NoneRefused t (after t start two.before) two.since

-- What shows that a state is calm

-- of a backup's leg: it is Asked or Held
abbrev pub is_reserved_row : LegRow → Bool
is_reserved_row r = is_work r.role || (is_asked r.phase || is_held r.phase)

-- nothing is under way, no group has failed, and by these rows each backup's leg is Asked or Held
pub record IsShownCalm (s : Mesh) (legs : List LegRow) : Type 0 where
  pub quiet : IsQuiet s
  pub failed : s.failed ≡ []
  pub backups : AllByRecursion (λ r. IsTrue (is_reserved_row r)) legs

-- then nothing of an earlier failure is left
abbrev pub CalmIsShown : Network → List MeshEvent → Type 0
CalmIsShown t events =
    (calls : List CallRow) (legs : List LegRow) → ShowsAll t (after t start events) calls legs →
    IsShownCalm (after t start events) legs → Calm (after t start events)
