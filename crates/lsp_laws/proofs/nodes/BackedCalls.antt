-- A backup can be asked for beside each call of a node, whatever rule is carried out there.
use Rattle.std.proofs.Common.{ℕ, sym, ◌∙◌, ◌≡◌, Bool, true, false, List, refl}
use Rattle.std.specs.Prelude.{Option, Some, None, IsTrue}
use Rattle.ason_base.specs.{declared.commands.Command.TheVariants.{Setup, Release, Protect, Retry, Revert, Fail, Repair}, declared.commands.DeskItem.DeskItem, declared.commands.DeskItem.TheVariants.{Order, Alarm, Clear}, declared.ids.NodeId.NodeId, declared.messages.Msg.Msg, declared.steps.Step.Step, declared.tables.CallRec.CallRec, Network.Network}
use Rattle.ason_base.proofs.Bools.{and-right}
use Rattle.mesh_rules.specs.{declared.changes.CallChange.CallChange, Calls.{calls_changed, find_call}, Commands.{has_backup_way, is_searchable}, LocalNodes.LocalNode, Messages.on_message, Orders.on_item, State.NodeState, Waits.on_tick}
use Rattle.mesh_nodes.specs.Order.{CallsRise}
use Rattle.lsp_laws.specs.NodeLaw.{FitsDesk}
use Rattle.lsp_laws.proofs.{nodes.Facts.CanBeBacked, nodes.CallMoves.IsSameCall, nodes.CallChanges.{ArePut, EachCall, MayGo, OfAny, each-after}, nodes.CallsHold.{alarm-holds, clear-holds, message-holds, protect-holds, release-holds, retry-holds, revert-holds, tick-holds}, nodes.SetupsHold.setup-holds}

abbrev pub AreBacked : Network → List CallChange → Type 0
AreBacked t cs = ArePut (CanBeBacked t) cs

abbrev pub CallsBacked : Network → List CallRec → Type 0
CallsBacked t calls = EachCall (CanBeBacked t) calls

pub backed-after : (t : Network) (cs : List CallChange) (calls : List CallRec) → AreBacked t cs →
    CallsBacked t calls → CallsBacked t (calls_changed cs calls)
backed-after t cs calls here backed = each-after (CanBeBacked t) cs calls here backed

still-backed : (t : Network) (c d : CallRec) → IsSameCall OfAny c d → CanBeBacked t c → CanBeBacked t d
still-backed t c d is can = λ on none. can (sym is.protected ∙ on) (sym is.backup ∙ none)

pub backs-message : (t : Network) (p : LocalNode) (s : NodeState) → CallsRise s.calls → CallsBacked t s.calls →
    (u : NodeId) (m : Msg) → AreBacked t (on_message p s u m).calls
backs-message t p s rise backed u m =
    message-holds OfAny MayGo (CanBeBacked t) (CanBeBacked t) (still-backed t) p s (λ g m j f found first into. tt)
    rise backed u m

-- of a valid setup
none-searched : (t : Network) (from to : NodeId) (protected : Bool) (via backup : Option (List Step)) →
    has_backup_way t from to protected via backup ≡ true → IsTrue protected → backup ≡ None → IsTrue (is_searchable t)
none-searched t from to true via None way on none = way
none-searched t from to false via None way on none = absurd (cc on)
none-searched t from to protected via (Some route) way on none = absurd (cc none)

pub backs-item : (t : Network) (n : ℕ) (p : LocalNode) (s : NodeState) → CallsRise s.calls → CallsBacked t s.calls →
    (i : DeskItem) → FitsDesk t n i → AreBacked t (on_item p s i).calls
backs-item t n p s rise backed (Order (Setup k from to protected both via backup)) fits =
    let can : IsTrue protected → backup ≡ None → IsTrue (is_searchable t) = none-searched t from to protected via backup
    (and-right _ (has_backup_way t from to protected via backup) fits.0) in
    setup-holds MayGo p s
    (record { call = k; from = from; egress = to; protected = protected; both = both; via = via; backup = backup })
    (λ a. CanBeBacked t) (λ a cause known. can) (λ route out over first ordered has. can) (find_call k s.calls)
backs-item t n p s rise backed (Order (Release k from)) fits =
    release-holds OfAny MayGo (CanBeBacked t) (CanBeBacked t) (still-backed t) p s (λ g m j f found first into. tt)
    rise backed from (find_call k s.calls)
    (λ c is. tt)
backs-item t n p s rise backed (Order (Protect k from)) fits =
    protect-holds OfAny MayGo (CanBeBacked t) (CanBeBacked t) (still-backed t) p s (λ g m j f found first into. tt)
    rise backed k from (find_call k s.calls) refl
backs-item t n p s rise backed (Order (Retry k from)) fits =
    retry-holds OfAny MayGo (CanBeBacked t) (CanBeBacked t) (still-backed t) p s (λ g m j f found first into. tt)
    rise backed k from (find_call k s.calls) refl
backs-item t n p s rise backed (Order (Revert k from)) fits =
    revert-holds OfAny MayGo (CanBeBacked t) (CanBeBacked t) (still-backed t) p s (λ g m j f found first into. tt)
    rise backed k from (find_call k s.calls) refl
backs-item t n p s rise backed (Order (Fail g)) fits = tt
backs-item t n p s rise backed (Order (Repair g)) fits = tt
backs-item t n p s rise backed (Alarm f) fits =
    alarm-holds OfAny MayGo (CanBeBacked t) (CanBeBacked t) (still-backed t) p s (λ g m j f found first into. tt)
    rise backed f
backs-item t n p s rise backed (Clear f) fits =
    clear-holds OfAny MayGo (CanBeBacked t) (CanBeBacked t) (still-backed t) p s (λ g m j f found first into. tt)
    rise backed f

pub backs-tick : (t : Network) (p : LocalNode) (s : NodeState) → CallsRise s.calls → CallsBacked t s.calls →
    AreBacked t (on_tick p s).calls
backs-tick t p s rise backed = tick-holds OfAny MayGo (CanBeBacked t) (CanBeBacked t) (still-backed t) p s
    (λ g m j f found first into. tt) rise backed
