-- As the group fails the alarm is on its desk; and once it is handled its node knows of it.
use Rattle.std.proofs.{Common.{◌≡◌, Bool, true, false, cond, not, nat_eq, List, [], ◌∷◌, ◌++◌, refl, sym, ◌∙◌, ap, subst, Contains}, Math.Bool.and-false}
use Rattle.std.specs.Prelude.{◌&&◌, ◌||◌, Some}
use Rattle.ason_base.specs.{Lsps.{has_fibre, same_fibre}, Network.{Network, touches}, declared.commands.DeskItem.DeskItem, declared.commands.DeskItem.TheVariants.{Order, Alarm, Clear}, declared.ids.Fibre.Fibre, declared.ids.NodeId.NodeId, declared.network.LinkSpec.LinkSpec, Codes.fibre_down_code}
use Rattle.mesh_rules.specs.{declared.events.MeshEvent.TheVariants.Desk, Alarms.{enters, knows_down, on_alarm}, Changes.{changed, nothing}, Events.{on_first_item, step}, Failures.is_cut, LocalNodes.{LocalNode, fibre_in, local_node, own_link}, Machine.{Mesh, commit, without_item}, State.NodeState}
use Rattle.ason_base.proofs.{Numbers.self-number, LspOrder.{same_fibre-refl, same_bool-refl, same_fibre-eq}}
use Rattle.lsp_laws.specs.ReportLaw.{DesksTell, after_items}
use Rattle.mesh_laws.proofs.{reports.KnownFibres.has-more, soon.Swept.StandsIn}

-- The alarm is there

behind-one : (f : Fibre) (i : DeskItem) (items : List DeskItem) →
    (before : List DeskItem) × StandsIn items (Alarm f) before →
    (before : List DeskItem) × StandsIn (i ∷ items) (Alarm f) before
behind-one f i items later = (i ∷ later.0, record { later = later.1.later; all = ap (λ xs. i ∷ xs) later.1.all })

at-alarm : (f g : Fibre) (items : List DeskItem) (b : Bool) → same_fibre f g ≡ b →
    after_items f (same_fibre f g || false) items ≡ true →
    (after_items f false items ≡ true → (before : List DeskItem) × StandsIn items (Alarm f) before) →
    (before : List DeskItem) × StandsIn (Alarm g ∷ items) (Alarm f) before
at-alarm f g items true is e again =
    let one : f ≡ g = same_fibre-eq f g is in
    ([], record { later = items; all = ap (λ x. Alarm x ∷ items) (sym one) })
at-alarm f g items false is e again =
    behind-one f (Alarm g) items (again (subst (λ b. after_items f (b || false) items ≡ true) is e))

-- where the items of a desk tell that a fibre is down which wasn't known to be, its alarm is among them
alarm-among : (f : Fibre) (items : List DeskItem) → after_items f false items ≡ true →
    (before : List DeskItem) × StandsIn items (Alarm f) before
alarm-among f [] e = absurd (cc e)
alarm-among f (Order c ∷ items) e = behind-one f (Order c) items (alarm-among f items e)
alarm-among f (Clear g ∷ items) e =
    behind-one f (Clear g) items
    (alarm-among f items (subst (λ b. after_items f b items ≡ true) (and-false (not (same_fibre f g))) e))
alarm-among f (Alarm g ∷ items) e = at-alarm f g items (same_fibre f g) refl e (λ later. alarm-among f items later)

-- At the end of a link that is cut: where nothing is known to be down, its alarm is on the desk.
pub alarm-there : (t : Network) (s : Mesh) → DesksTell t s → (n : NodeId) (l : LinkSpec) → Contains t.links l →
    touches n l ≡ true → (s.nodes n.0).down ≡ [] → is_cut s.failed l ≡ true →
    (before : List DeskItem) × StandsIn (s.desks n.0) (Alarm (fibre_in l n)) before
alarm-there t s tell n l there at_end none cut =
    alarm-among (fibre_in l n) (s.desks n.0)
    (subst (λ down. after_items (fibre_in l n) (has_fibre down (fibre_in l n)) (s.desks n.0) ≡ true) none
    (tell n l there at_end ∙ cut))

-- The alarm is handled

-- a node whose fibre it is knows of it then
alarmed : (p : LocalNode) (s : NodeState) (f : Fibre) → enters p f (own_link p f.link) ≡ true →
    has_fibre (changed s (on_alarm p s f)).down f ≡ true
alarmed p s f comes_in = go (has_fibre s.down f) refl
  where
    yes : (b : Bool) → (b || true) ≡ true
    yes true = refl
    yes false = refl

    go : (b : Bool) → has_fibre s.down f ≡ b →
        has_fibre (changed s (cond (enters p f (own_link p f.link) && not (has_fibre s.down f))
        (knows_down p s f fibre_down_code (s.down ++ f ∷ [])) nothing)).down f ≡ true
    go true known = rw (comes_in, known) known
    go false known = rw (comes_in, known) (has-more s.down f f ∙ rw (same_fibre-refl f) (yes (has_fibre s.down f)))

-- in the event that handles it
pub alarm-known : (t : Network) (s : Mesh) (n : NodeId) (l : LinkSpec) (rest : List DeskItem) →
    own_link (local_node t n) l.id ≡ Some l → s.desks n.0 ≡ Alarm (fibre_in l n) ∷ rest →
    has_fibre ((step t s (Desk n)).nodes n.0).down (fibre_in l n) ≡ true
alarm-known t s n l rest own was =
    let comes_in : enters (local_node t n) (fibre_in l n) (own_link (local_node t n) l.id) ≡ true =
    rw own (same_bool-refl (nat_eq l.high.0 n.0)) in
    subst (λ items. has_fibre ((commit (without_item s n.0) n.0
    (on_first_item (local_node t n) (s.nodes n.0) items)).nodes n.0).down (fibre_in l n) ≡ true) (sym was)
    (rw (self-number n.0) (alarmed (local_node t n) (s.nodes n.0) (fibre_in l n) comes_in))
