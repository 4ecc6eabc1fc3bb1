-- What a node floods fits what it knows after each input.
use Rattle.std.proofs.{Common.{◌≡◌, ◌+◌, ℕ, Bool, true, false, cond, not, nat_eq, List, [], ◌∷◌, ◌++◌, map, filter, refl, sym, ap, ◌∙◌, subst}, ByRecursion.All-append}
use Rattle.std.specs.{Prelude.{Some, None}, List.AllByRecursion}
use Rattle.ason_base.specs.{declared.ids.NodeId.NodeId, declared.network.TeRow.TeRow, Network.row_of}
use Rattle.flood.specs.{declared.due.Due.Due, declared.messages.FloodMsg.FloodMsg, declared.messages.FloodMsg.TheVariants.{Row, Ack}, Messages.SpellsFlood, State.{FloodState, NeighbourState, acked, acked_by, is_from, is_new, learnt_of, older_due, older_neighbour, queued, queued_unless}}
use Rattle.flood.specs.State as flood
use Rattle.flood.proofs.ReadAgain.{read_is_writable}
use Rattle.mesh_nodes.proofs.{LearnsNothing.tick-learns_nothing, routes.Learnt.after-known}
use Rattle.mesh_rules.specs.{Changes.{changed, learns, learnt_after}, KnownRows.known_rows, LocalNodes.LocalNode, State.NodeState}
use Rattle.mesh_nodes.specs.Nodes.{NodeView, stepped}
use Rattle.mesh_nodes.specs.declared.inputs.Input.TheVariants as input
use Rattle.te_tlv.specs.Written.{IsRowWritable}
use Rattle.control_channels.specs.{Controllers.with_learnt, ReadyControllers.{CanGo, FloodFits}}
use Rattle.control_channels.proofs.{RowsLearnt.learnt-rows, DueRows.{ids-mapped, due-mapped}}

older-go : (ds : List Due) → AllByRecursion CanGo ds → AllByRecursion CanGo (map older_due ds)
older-go [] h = tt
older-go (d ∷ ds) h = (h.0, older-go ds h.1)

acked-go : (number : ℕ) (ds : List Due) → AllByRecursion CanGo ds →
    AllByRecursion CanGo (filter (λ d. not (nat_eq d.number number)) ds)
acked-go number [] h = tt
acked-go number (d ∷ ds) h = go (not (nat_eq d.number number)) (acked-go number ds h.1)
  where
    rest : List Due
    rest = filter (λ e. not (nat_eq e.number number)) ds

    go : (b : Bool) → AllByRecursion CanGo rest → AllByRecursion CanGo (cond b (d ∷ rest) rest)
    go true later = (h.0, later)
    go false later = later

-- a tick
pub fits-ticked : (n m : NodeView) (f g : FloodState) → FloodFits n.place n.state f → m ≡ stepped n input.Tick →
    g ≡ flood.ticked_flood f → FloodFits m.place m.state g
fits-ticked n m f g fits node ticks =
    subst (λ (h : FloodState). FloodFits m.place m.state h) (sym ticks)
    (subst (λ (k : NodeView). FloodFits k.place k.state (flood.ticked_flood f)) (sym node) (record {
      me = fits.me;
      rows = fits.rows ∙ sym (ap (λ rows. known_rows n.place (record n.state
          { learnt = learnt_after rows n.state.learnt }))
          (tick-learns_nothing n.place n.state));
      neighbours = ids-mapped older_neighbour (λ n. refl) f.neighbours ∙ fits.neighbours;
      due = due-mapped older_neighbour (λ n h. older-go n.due h) f.neighbours fits.due;
    }))

-- an acknowledgement
fits-acked : (p : LocalNode) (s : NodeState) (f : FloodState) (u : NodeId) (number : ℕ) → FloodFits p s f →
    FloodFits p s (flood.flood_received f u (Ack number))
fits-acked p s f u number fits = record {
  me = fits.me;
  rows = fits.rows;
  neighbours = ids-mapped (acked_by u number) same f.neighbours ∙ fits.neighbours;
  due = due-mapped (acked_by u number) keeps f.neighbours fits.due;
}
  where
    same : (n : NeighbourState) → (acked_by u number n).id ≡ n.id
    same n = go (nat_eq n.id.0 u.0)
      where
        go : (b : Bool) → (cond b (acked number n) n).id ≡ n.id
        go true = refl
        go false = refl

    keeps : (n : NeighbourState) → AllByRecursion CanGo n.due → AllByRecursion CanGo (acked_by u number n).due
    keeps n h = go (nat_eq n.id.0 u.0)
      where
        go : (b : Bool) → AllByRecursion CanGo (cond b (acked number n) n).due
        go true = acked-go number n.due h
        go false = h

-- a row that is new
fits-new : (p : LocalNode) (s : NodeState) (f : FloodState) (u origin : NodeId) (row : TeRow) → FloodFits p s f →
    IsRowWritable origin row → FloodFits p (changed s (learns row)) (flood.with_row f (Some u) origin (Some 0) row)
fits-new p s f u origin row fits written = record {
  me = fits.me;
  rows = ap (λ rows. rows ++ row ∷ []) fits.rows ∙ sym (after-known p s row);
  neighbours = ids-mapped queues same f.neighbours ∙ fits.neighbours;
  due = due-mapped queues keeps f.neighbours fits.due;
}
  where
    queues : NeighbourState → NeighbourState
    queues = queued_unless (Some u) origin (Some 0) row

    same : (n : NeighbourState) → (queues n).id ≡ n.id
    same n = go (is_from (Some u) n)
      where
        go : (b : Bool) → (cond b n (queued origin (Some 0) row n)).id ≡ n.id
        go true = refl
        go false = refl

    keeps : (n : NeighbourState) → AllByRecursion CanGo n.due → AllByRecursion CanGo (queues n).due
    keeps n h = go (is_from (Some u) n)
      where
        go : (b : Bool) → AllByRecursion CanGo (cond b n (queued origin (Some 0) row n)).due
        go true = h
        go false = All-append CanGo n.due
            (record { number = n.sent + 1; age = Some 0; origin = origin; row = row } ∷ []) h (written, tt)

-- a flood message that bytes spell
pub fits-received : (p : LocalNode) (s : NodeState) (f : FloodState) (u : NodeId) (bytes : List ℕ) (m : FloodMsg) →
    FloodFits p s f → SpellsFlood bytes m →
    FloodFits p (with_learnt p s (learnt_of f m)) (flood.flood_received f u m)
fits-received p s f u bytes (Ack number) fits spelled = fits-acked p s f u number fits
fits-received p s f u bytes (Row number origin row) fits spelled = go (is_new f row) refl
  where
    go : (b : Bool) → is_new f row ≡ b →
        FloodFits p (with_learnt p s (cond b (Some row) None))
        (cond b (flood.with_row f (Some u) origin (Some 0) row) f)
    go true new =
        subst (λ t. FloodFits p t (flood.with_row f (Some u) origin (Some 0) row))
        (sym (learnt-rows p s f row fits.rows new))
        (fits-new p s f u origin row fits (read_is_writable bytes (Row number origin row) spelled))
    go false old = fits

-- a node that learns nothing
pub fits-other : (p : LocalNode) (s t : NodeState) (f : FloodState) → t.learnt ≡ s.learnt → FloodFits p s f →
    FloodFits p t f
fits-other p s t f same fits = record {
  me = fits.me;
  rows = fits.rows ∙ ap (λ rows. map row_of p.own ++ rows) (sym same);
  neighbours = fits.neighbours;
  due = fits.due;
}

pub fits-kept : (n m : NodeView) (f : FloodState) → m.place ≡ n.place → m.state.learnt ≡ n.state.learnt →
    FloodFits n.place n.state f → FloodFits m.place m.state f
fits-kept n m f place learnt fits =
    subst (λ p. FloodFits p m.state f) (sym place) (fits-other n.place n.state m.state f learnt fits)

pub fits-after : (n m : NodeView) (f g : FloodState) (u : NodeId) (bytes : List ℕ) (x : FloodMsg) →
    FloodFits n.place n.state f → SpellsFlood bytes x → m.place ≡ n.place →
    m.state ≡ with_learnt n.place n.state (learnt_of f x) → g ≡ flood.flood_received f u x → FloodFits m.place m.state g
fits-after n m f g u bytes x fits spelled place state takes =
    subst (λ (h : FloodState). FloodFits m.place m.state h) (sym takes)
    (subst (λ (s : NodeState). FloodFits m.place s (flood.flood_received f u x)) (sym state)
    (subst (λ p. FloodFits p (with_learnt n.place n.state (learnt_of f x)) (flood.flood_received f u x)) (sym place)
    (fits-received n.place n.state f u bytes x fits spelled)))
