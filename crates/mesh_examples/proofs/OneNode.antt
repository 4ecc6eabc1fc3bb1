-- Backups at one node, worked by hand: which label each takes, in which phase its leg is, why it is refused, and how
-- its activation is taken back.
use Rattle.std.proofs.Common.{◌≡◌, ℕ, Bool, true, false, List, [], ◌∷◌, refl}
use Rattle.std.specs.Prelude.{map, Option, Some, None}
use Rattle.ason_base.specs.{Codes.{label_code, primary_code, set_code}, declared.calls.Phase.Phase, declared.calls.Phase.TheVariants.{Asked, Held, Armed, Live, Closing}, declared.ids.LinkId.LinkId, declared.ids.Lsp.Lsp, declared.ids.NodeId.NodeId, declared.messages.Msg.Msg, declared.messages.Msg.TheVariants.{Path, Resv, PathErr, PathTear}, declared.messages.PathRole.PathRole, declared.messages.PathRole.TheVariants.{Work, Back}, declared.network.LinkSpec.LinkSpec, declared.tables.Out.Out}
use Rattle.ason_base.specs.Labels as labels
use Rattle.mesh_rules.specs.{Changes.{nothing, to_node}, LocalNodes.LocalNode, Messages.on_message, State.{NodeState, new_node}}
use Rattle.lsp_laws.specs.NodeLaw.{NodeInput, Message, after_inputs}

abbrev node : ℕ → NodeId
node n = record { 0 = n }

abbrev link : ℕ → LinkId
link k = record { 0 = k }

-- two labels; the SRLGs are given
abbrev joins : ℕ → ℕ → ℕ → List ℕ → LinkSpec
joins k a b srlgs = record { id = link k; low = node a; high = node b; labels = 2; metric = 1; srlgs = srlgs }

-- node 2, which converts: link 1 leads to node 1, links 2 to 5 lead to node 3, and 4 and 5 have an SRLG in common
abbrev middle : LocalNode
middle = record {
  id = node 2;
  convert = true;
  wait = 0;
  own = joins 1 1 2 [] ∷ joins 2 2 3 [] ∷ joins 3 2 3 [] ∷ joins 4 2 3 (7 ∷ []) ∷ joins 5 2 3 (7 ∷ []) ∷ [];
}

abbrev lsp : ℕ → Lsp
lsp n = record { ingress = node 1; tunnel = n; lsp = n }

-- the primary goes over this link
abbrev backup : Bool → ℕ → PathRole
backup active k = Back active 9 (record { node = node 2; link = link k } ∷ [])

-- a Path that ends here, and one that goes on to node 3
abbrev ends : ℕ → PathRole → Msg
ends n r = Path (lsp n) (node 2) (link 1) [] (1 ∷ 2 ∷ []) None r

abbrev goes_on : ℕ → PathRole → Msg
goes_on n r = Path (lsp n) (node 3) (link 1) (record { node = node 2; link = link 2 } ∷ []) (1 ∷ 2 ∷ []) None r

-- the label that came from node 3
abbrev answers : ℕ → ℕ → Msg
answers n x = Resv (lsp n) (node 3) (link 2) x

abbrev from_1 : Msg → NodeInput
from_1 m = Message (node 1) m

abbrev from_3 : Msg → NodeInput
from_3 m = Message (node 3) m

abbrev after : List NodeInput → NodeState
after inputs = after_inputs middle new_node inputs

-- the phase and the label in of each leg
abbrev seen : NodeState → List (Phase × Option ℕ)
seen s = map (λ g. (g.phase, g.in_label)) s.legs

-- At the egress

held : seen (after (from_1 (ends 1 (backup false 2)) ∷ [])) ≡ (Held, Some 1) ∷ []
unfolding labels.numbers_from
held = refl

-- what two Paths leave here, one after the other
abbrev after_two : PathRole → PathRole → List (Phase × Option ℕ)
after_two first second = seen (after (from_1 (ends 1 first) ∷ from_1 (ends 2 second) ∷ []))

-- primaries over different links: the label is shared
shared : after_two (backup false 2) (backup false 3) ≡ (Held, Some 1) ∷ (Held, Some 1) ∷ []
unfolding labels.numbers_from
shared = refl

-- over one link, or over links with one SRLG: another label
one_link : after_two (backup false 2) (backup false 2) ≡ (Held, Some 1) ∷ (Held, Some 2) ∷ []
unfolding labels.numbers_from
one_link = refl

one_srlg : after_two (backup false 4) (backup false 5) ≡ (Held, Some 1) ∷ (Held, Some 2) ∷ []
unfolding labels.numbers_from
one_srlg = refl

-- a working LSP shares no label, whichever comes first
work_after : after_two (backup false 2) (Work false) ≡ (Held, Some 1) ∷ (Live, Some 2) ∷ []
unfolding labels.numbers_from
work_after = refl

work_before : after_two (Work false) (backup false 2) ≡ (Live, Some 1) ∷ (Held, Some 2) ∷ []
unfolding labels.numbers_from
work_before = refl

-- Refusals

abbrev told : NodeState → Msg → List Out
told s m = (on_message middle s (node 1) m).sent

-- two backups over one link have both labels, so a third one has none
refused_set : told (after (from_1 (ends 1 (backup false 2))
    ∷ from_1 (ends 2 (backup false 2)) ∷ [])) (ends 3 (backup false 2)) ≡
    to_node (node 1) (PathErr (lsp 3) (node 2) (node 2) true set_code) ∷ []
unfolding labels.numbers_from
refused_set = refl

-- a link of the primary isn't known
refused_primary : told new_node (ends 1 (backup false 6)) ≡
    to_node (node 1) (PathErr (lsp 1) (node 2) (node 2) true primary_code) ∷ []
unfolding labels.numbers_from
refused_primary = refl

-- an activation of a backup that has no leg here is swallowed
no_activation : told new_node (ends 1 (backup true 2)) ≡ []
unfolding labels.numbers_from
no_activation = refl

-- Between the ends

asked : seen (after (from_1 (goes_on 1 (backup false 2)) ∷ [])) ≡ (Asked, None) ∷ []
unfolding labels.numbers_from
asked = refl

-- the Resv reserves the least label that is usable now, which another backup has
reserved_shared : seen (after (from_1 (goes_on 1 (backup false 2))
    ∷ from_1 (ends 2 (backup false 3)) ∷ from_3 (answers 1 2) ∷ [])) ≡
    (Held, Some 1) ∷ (Held, Some 1) ∷ []
unfolding labels.numbers_from
reserved_shared = refl

reserved_apart : seen (after (from_1 (goes_on 1 (backup false 2))
    ∷ from_1 (ends 2 (backup false 2)) ∷ from_3 (answers 1 2) ∷ [])) ≡
    (Held, Some 2) ∷ (Held, Some 1) ∷ []
unfolding labels.numbers_from
reserved_apart = refl

-- working LSPs took all labels meanwhile: it is torn both ways
abbrev full : NodeState
full =
    after (from_1 (goes_on 1 (backup false 2)) ∷ from_1 (ends 2 (Work false)) ∷ from_1 (ends 3 (Work false)) ∷ [])

no_label_left : (on_message middle full (node 3) (answers 1 2)).sent ≡
    to_node (node 3) (PathTear (lsp 1) (node 3) (link 2))
    ∷ to_node (node 1) (PathErr (lsp 1) (node 3) (node 2) true label_code) ∷ []
unfolding labels.numbers_from
no_label_left = refl

closed : seen (after_inputs middle full (from_3 (answers 1 2) ∷ [])) ≡
    (Closing, None) ∷ (Live, Some 1) ∷ (Live, Some 2) ∷ []
unfolding labels.numbers_from
closed = refl

-- a torn backup gives its label up, and the other one that shares it keeps it
torn : seen (after (from_1 (ends 1 (backup false 2))
    ∷ from_1 (ends 2 (backup false 3)) ∷ from_1 (PathTear (lsp 1) (node 2) (link 1)) ∷ [])) ≡
    (Held, Some 1) ∷ []
unfolding labels.numbers_from
torn = refl

-- Taking back

-- a leg between the ends, with its labels
abbrev stands : PathRole → NodeState
stands r = after (from_1 (goes_on 1 r) ∷ from_3 (answers 1 2) ∷ [])

abbrev armed : NodeState
armed = after_inputs middle (stands (backup false 2)) (from_1 (goes_on 1 (backup true 2)) ∷ [])

is_armed : seen armed ≡ (Armed, Some 1) ∷ []
unfolding labels.numbers_from
is_armed = refl

-- the Armed leg of a backup is Held again
held_again : seen (after_inputs middle armed (from_1 (goes_on 1 (backup false 2)) ∷ [])) ≡ (Held, Some 1) ∷ []
unfolding labels.numbers_from
held_again = refl

-- and the Path goes on to node 3
taken_on : told armed (goes_on 1 (backup false 2)) ≡
    to_node (node 3) (Path (lsp 1) (node 3) (link 2) [] (1 ∷ 2 ∷ []) None (backup false 2)) ∷ []
unfolding labels.numbers_from
taken_on = refl

-- from another neighbour than the previous one it changes nothing
not_from_3 : on_message middle armed (node 3) (goes_on 1 (backup false 2)) ≡ nothing
unfolding labels.numbers_from
not_from_3 = refl

-- a working leg is Live, and stays so: it changes nothing there
work_live : seen (stands (Work false)) ≡ (Live, Some 1) ∷ []
unfolding labels.numbers_from
work_live = refl

not_work : on_message middle (stands (Work false)) (node 1) (goes_on 1 (backup false 2)) ≡ nothing
unfolding labels.numbers_from
not_work = refl
