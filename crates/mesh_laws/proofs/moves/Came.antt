-- What came to a node over an event, in words of messages and orders.
use Rattle.std.proofs.Common.{◌≡◌, ℕ, true, List, [], ◌∷◌, refl, sym, ap, ◌∙◌}
use Rattle.ason_base.specs.{declared.codes.ErrCode.ErrCode, declared.commands.Command.TheVariants.{Setup, Release, Protect, Retry, Revert, Fail, Repair}, declared.commands.DeskItem.DeskItem, declared.commands.DeskItem.TheVariants.{Order, Alarm, Clear}, declared.ids.CallNo.CallNo, declared.ids.NodeId.NodeId, declared.messages.Msg.Msg, declared.messages.Msg.TheVariants.{Path, Resv, PathTear, PathErr, Notify}}
use Rattle.mesh_rules.specs.{declared.events.MeshEvent.MeshEvent, declared.events.MeshEvent.TheVariants.{Take, Desk, Tick, Learn, Post}, Machine.Mesh}
use Rattle.lsp_laws.proofs.{nodes.CallWays.{Removed, Reported, Reverted, Ticked}, nodes.CallOver.{CameOver, IsAt, IsFirstWay, IsFirstOrder}}
use Rattle.mesh_laws.specs.SourceLaw.{HandlesRevert, HasTicked, IsRefusedAt, IsReverted, IsToldAt, ItTicks, TakesNotify, TakesRemoval}

no_order-reports : (items : List DeskItem) → IsFirstOrder items Reported → ⊥
no_order-reports [] came = came
no_order-reports (Order (Setup k from to protected both via backup) ∷ items) came = came
no_order-reports (Order (Release k from) ∷ items) came = came
no_order-reports (Order (Protect k from) ∷ items) came = came
no_order-reports (Order (Retry k from) ∷ items) came = came
no_order-reports (Order (Revert k from) ∷ items) came = came
no_order-reports (Order (Fail g) ∷ items) came = came
no_order-reports (Order (Repair g) ∷ items) came = came
no_order-reports (Alarm f ∷ items) came = came
no_order-reports (Clear f ∷ items) came = came

no_order-removes : (code : ErrCode) (items : List DeskItem) → IsFirstOrder items (Removed code) → ⊥
no_order-removes code [] came = came
no_order-removes code (Order (Setup k from to protected both via backup) ∷ items) came = came
no_order-removes code (Order (Release k from) ∷ items) came = came
no_order-removes code (Order (Protect k from) ∷ items) came = came
no_order-removes code (Order (Retry k from) ∷ items) came = came
no_order-removes code (Order (Revert k from) ∷ items) came = came
no_order-removes code (Order (Fail g) ∷ items) came = came
no_order-removes code (Order (Repair g) ∷ items) came = came
no_order-removes code (Alarm f ∷ items) came = came
no_order-removes code (Clear f ∷ items) came = came

no_order-ticks : (items : List DeskItem) → IsFirstOrder items Ticked → ⊥
no_order-ticks [] came = came
no_order-ticks (Order (Setup k from to protected both via backup) ∷ items) came = came
no_order-ticks (Order (Release k from) ∷ items) came = came
no_order-ticks (Order (Protect k from) ∷ items) came = came
no_order-ticks (Order (Retry k from) ∷ items) came = came
no_order-ticks (Order (Revert k from) ∷ items) came = came
no_order-ticks (Order (Fail g) ∷ items) came = came
no_order-ticks (Order (Repair g) ∷ items) came = came
no_order-ticks (Alarm f ∷ items) came = came
no_order-ticks (Clear f ∷ items) came = came

no_message-reverts : (k : CallNo) (ms : List Msg) → IsFirstWay ms (Reverted k) → ⊥
no_message-reverts k [] came = came
no_message-reverts k (Path l e j route set up r ∷ ms) came = came
no_message-reverts k (Resv l e j x ∷ ms) came = came
no_message-reverts k (PathTear l e j ∷ ms) came = came
no_message-reverts k (PathErr l e a gone c ∷ ms) came = came
no_message-reverts k (Notify l e a j c ∷ ms) came = came

no_message-ticks : (ms : List Msg) → IsFirstWay ms Ticked → ⊥
no_message-ticks [] came = came
no_message-ticks (Path l e j route set up r ∷ ms) came = came
no_message-ticks (Resv l e j x ∷ ms) came = came
no_message-ticks (PathTear l e j ∷ ms) came = came
no_message-ticks (PathErr l e a gone c ∷ ms) came = came
no_message-ticks (Notify l e a j c ∷ ms) came = came

-- the event is at the node n
here : (n : ℕ) (m d : NodeId) → n ≡ m.0 → d ≡ m → n ≡ d.0
here n m d is at = is ∙ ap (λ (x : NodeId). x.0) (sym at)

-- a Notify
pub told : (s : Mesh) (e : MeshEvent) (n : ℕ) (m : NodeId) → n ≡ m.0 → IsAt e m → CameOver s e Reported → IsToldAt s n e
told s (Take d u) n m is at came = go (s.mail u.0 d.0) refl came
  where
    go : (ms : List Msg) → s.mail u.0 d.0 ≡ ms → IsFirstWay ms Reported → IsToldAt s n (Take d u)
    go [] first came = absurd came
    go (Path l e k route set up r ∷ ms) first came = absurd came
    go (Resv l e k x ∷ ms) first came = absurd came
    go (PathTear l e k ∷ ms) first came = absurd came
    go (PathErr l e a gone code ∷ ms) first came = absurd came
    go (Notify l e a k code ∷ ms) first came = TakesNotify d u e a l k code ms (here n m d is at) first
told s (Desk d) n m is at came = absurd (no_order-reports (s.desks d.0) came)
told s (Tick d) n m is at came = absurd came
told s (Learn d k) n m is at came = absurd came
told s (Post c) n m is at came = absurd came

-- a PathErr that gives up an LSP
pub refused : (s : Mesh) (e : MeshEvent) (n : ℕ) (m : NodeId) (code : ErrCode) → n ≡ m.0 → IsAt e m →
    CameOver s e (Removed code) → IsRefusedAt s n code e
refused s (Take d u) n m code is at came = go (s.mail u.0 d.0) refl came
  where
    go : (ms : List Msg) → s.mail u.0 d.0 ≡ ms → IsFirstWay ms (Removed code) → IsRefusedAt s n code (Take d u)
    go [] first came = absurd came
    go (Path l e k route set up r ∷ ms) first came = absurd came
    go (Resv l e k x ∷ ms) first came = absurd came
    go (PathTear l e k ∷ ms) first came = absurd came
    go (PathErr l e a gone c ∷ ms) first came =
        TakesRemoval d u e a l ms (here n m d is at)
        (first ∙ ap (λ b. PathErr l e a b c ∷ ms) came.0 ∙ ap (λ x. PathErr l e a true x ∷ ms) came.1)
    go (Notify l e a k c ∷ ms) first came = absurd came
refused s (Desk d) n m code is at came = absurd (no_order-removes code (s.desks d.0) came)
refused s (Tick d) n m code is at came = absurd came
refused s (Learn d k) n m code is at came = absurd came
refused s (Post c) n m code is at came = absurd came

-- an order to go back
pub reverted : (s : Mesh) (e : MeshEvent) (n : ℕ) (m : NodeId) (k : CallNo) → n ≡ m.0 → IsAt e m →
    CameOver s e (Reverted k) → IsReverted s n k e
reverted s (Take d u) n m k is at came = absurd (no_message-reverts k (s.mail u.0 d.0) came)
reverted s (Desk d) n m k is at came = go (s.desks d.0) refl came
  where
    go : (items : List DeskItem) → s.desks d.0 ≡ items → IsFirstOrder items (Reverted k) → IsReverted s n k (Desk d)
    go [] first came = absurd came
    go (Order (Setup j from to protected both via backup) ∷ items) first came = absurd came
    go (Order (Release j from) ∷ items) first came = absurd came
    go (Order (Protect j from) ∷ items) first came = absurd came
    go (Order (Retry j from) ∷ items) first came = absurd came
    go (Order (Revert j from) ∷ items) first came =
        HandlesRevert d from items (here n m d is at) (first ∙ ap (λ x. Order (Revert x from) ∷ items) came)
    go (Order (Fail g) ∷ items) first came = absurd came
    go (Order (Repair g) ∷ items) first came = absurd came
    go (Alarm f ∷ items) first came = absurd came
    go (Clear f ∷ items) first came = absurd came
reverted s (Tick d) n m k is at came = absurd came
reverted s (Learn d j) n m k is at came = absurd came
reverted s (Post c) n m k is at came = absurd came

-- a tick
pub ticks : (s : Mesh) (e : MeshEvent) (n : ℕ) (m : NodeId) → n ≡ m.0 → IsAt e m → CameOver s e Ticked → HasTicked n e
ticks s (Take d u) n m is at came = absurd (no_message-ticks (s.mail u.0 d.0) came)
ticks s (Desk d) n m is at came = absurd (no_order-ticks (s.desks d.0) came)
ticks s (Tick d) n m is at came = ItTicks d (here n m d is at)
ticks s (Learn d j) n m is at came = absurd came
ticks s (Post c) n m is at came = absurd came
