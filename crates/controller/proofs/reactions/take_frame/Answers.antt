use Rattle.std.proofs.{Common.{◌≡◌, ◌+◌, ◌∷◌, ◌∙◌, ap, refl, sym, subst, Err, Vec, Global}, lemmas.Result.IfOk-weaker}
use Rattle.rsvp_messages.specs.Packets.{packet_read}
use Rattle.flood.specs.{declared.frames.Content.Content, Bodies.IsBody, Frames.IsFrame, declared.frames.Content.TheVariants.{Message, Flood}}
use Rattle.flood.proofs.FrameBodies.{flood_once, message_once, no_message}
use Rattle.ason_base.proofs.Results.{on_ok, on_ok_always}
use Rattle.control_channels.specs.{declared.frames.Frame.Frame, ReadyControllers.IsKeptAfter, Controllers.{AreMade, flood_after, frame_step, parts}}
use Rattle.controller.proofs.{FloodKept.fits-kept, Reacting.flood-made}
use Rattle.control_channels.proofs.{Keeping.kept-still, Writing.passed-on}
use Rattle.controller.proofs.reactions.take_frame.Goals as goal

-- A message

pub taken-requires-clause-body : goal.taken-requires-clause-body
taken-requires-clause-body c =
    let behind : c.args.bytes.now ≡ 46 ∷ c.in-Some-Message.body.now =
    subst (IsBody c.args.bytes.now) c.in-Some-Message.field-0-is c.in-Some-Message.ensures.some in
    passed-on c.args.bytes.now (packet_read c.in-Ok.packet) (c.in-Some-Message.body.now, behind, c.in-Ok.ensures.found)

pub returns-in-Ok-clause-content : goal.returns-in-Ok-clause-content
returns-in-Ok-clause-content c =
    let behind : c.args.bytes.now ≡ 46 ∷ c.in-Some-Message.body.now =
    subst (IsBody c.args.bytes.now) c.in-Some-Message.field-0-is c.in-Some-Message.ensures.some in
    λ x f. let same : Message (packet_read c.in-Ok.packet) ≡ x =
    message_once c.in-Some-Message.body.now (packet_read c.in-Ok.packet) c.in-Ok.ensures.only x
    (subst (λ bs. IsFrame bs x) behind f) in
    IfOk-weaker c.taken.result _ _ (λ fs made. subst (λ (y : Content). AreMade
    (parts c.args.node.now c.args.adjacencies.now c.args.flood.now)
    (parts c.taken.new.node c.taken.new.adjacencies c.args.flood.now)
    (frame_step c.args.node.now c.args.adjacencies.now c.args.flood.now c.args.from y)
    (flood_after c.args.flood.now c.args.from y) fs.items) same (record { made = made; flood = refl }))
    c.taken.ensures.made

pub returns-in-Ok-clause-noise : goal.returns-in-Ok-clause-noise
returns-in-Ok-clause-noise c =
    let behind : c.args.bytes.now ≡ 46 ∷ c.in-Some-Message.body.now =
    subst (IsBody c.args.bytes.now) c.in-Some-Message.field-0-is c.in-Some-Message.ensures.some in
    λ none. absurd (none (Message (packet_read c.in-Ok.packet))
    (c.in-Some-Message.body.now, behind, c.in-Ok.ensures.found))

pub returns-in-Ok-clause-one : goal.returns-in-Ok-clause-one
returns-in-Ok-clause-one c =
    let behind : c.args.bytes.now ≡ 46 ∷ c.in-Some-Message.body.now =
    subst (IsBody c.args.bytes.now) c.in-Some-Message.field-0-is c.in-Some-Message.ensures.some in
    let once = message_once c.in-Some-Message.body.now (packet_read c.in-Ok.packet) c.in-Ok.ensures.only in
    on_ok_always c.taken.result _ (λ x y f g.
    sym (once x (subst (λ bs. IsFrame bs x) behind f))
    ∙ once y (subst (λ bs. IsFrame bs y) behind g))

pub returns-in-Ok-clause-fits : goal.returns-in-Ok-clause-fits
returns-in-Ok-clause-fits c =
    on_ok c.taken.result _ _
    (λ learnt. fits-kept c.args.node.now c.taken.new.node c.args.flood.now c.taken.ensures.place learnt c.requires.fits)
    c.taken.ensures.learnt

pub returns-in-Err-NotMessage-clause-content : goal.returns-in-Err-NotMessage-clause-content
returns-in-Err-NotMessage-clause-content c =
    let behind : c.args.bytes.now ≡ 46 ∷ c.in-Some-Message.body.now =
    subst (IsBody c.args.bytes.now) c.in-Some-Message.field-0-is c.in-Some-Message.ensures.some in
    λ x f. absurd (no_message c.in-Some-Message.body.now
    (c.in-Err-NotMessage.ensures.not_message (ap Err c.in-Err-NotMessage.field-0-is)) x
    (subst (λ bs. IsFrame bs x) behind f))

pub returns-in-Err-NotMessage-clause-one : goal.returns-in-Err-NotMessage-clause-one
returns-in-Err-NotMessage-clause-one c =
    let behind : c.args.bytes.now ≡ 46 ∷ c.in-Some-Message.body.now =
    subst (IsBody c.args.bytes.now) c.in-Some-Message.field-0-is c.in-Some-Message.ensures.some in
    λ x y f g. absurd (no_message c.in-Some-Message.body.now
    (c.in-Err-NotMessage.ensures.not_message (ap Err c.in-Err-NotMessage.field-0-is)) x
    (subst (λ bs. IsFrame bs x) behind f))

pub returns-in-Err-NotMessage-clause-kept : goal.returns-in-Err-NotMessage-clause-kept
returns-in-Err-NotMessage-clause-kept c = λ k kept. kept-still c.args.node.now.place c.args.adjacencies.now k kept

-- A flood message

pub take_flood-requires-clause-spelled : goal.take_flood-requires-clause-spelled
take_flood-requires-clause-spelled c = (c.in-Some-Flood.body.now, c.in-Ok-decode_flood.ensures.found)

pub returns-in-Ok-decode_flood-clause-content : goal.returns-in-Ok-decode_flood-clause-content
returns-in-Ok-decode_flood-clause-content c =
    let behind : c.args.bytes.now ≡ 89 ∷ c.in-Some-Flood.body.now =
    subst (IsBody c.args.bytes.now) c.in-Some-Flood.field-0-is c.in-Some-Flood.ensures.some in
    λ x f. let same : Flood c.in-Ok-decode_flood.m ≡ x =
    flood_once c.in-Some-Flood.body.now c.in-Ok-decode_flood.m c.in-Ok-decode_flood.ensures.only x
    (subst (λ bs. IsFrame bs x) behind f) in
    flood-made c.take_flood.result (λ (v : Vec Frame Global). v.items) c.args.node.now c.take_flood.new.node
    c.args.adjacencies.now c.args.flood.now c.take_flood.new.flood c.args.from c.in-Ok-decode_flood.m x same
    c.requires.ready.rest c.take_flood.ensures.place c.take_flood.ensures.node c.take_flood.ensures.flood
    c.take_flood.ensures.frames c.take_flood.ensures.spelled

pub returns-in-Ok-decode_flood-clause-noise : goal.returns-in-Ok-decode_flood-clause-noise
returns-in-Ok-decode_flood-clause-noise c =
    let behind : c.args.bytes.now ≡ 89 ∷ c.in-Some-Flood.body.now =
    subst (IsBody c.args.bytes.now) c.in-Some-Flood.field-0-is c.in-Some-Flood.ensures.some in
    λ none. absurd (none (Flood c.in-Ok-decode_flood.m)
    (c.in-Some-Flood.body.now, behind, c.in-Ok-decode_flood.ensures.found))

pub returns-in-Ok-decode_flood-clause-one : goal.returns-in-Ok-decode_flood-clause-one
returns-in-Ok-decode_flood-clause-one c =
    let behind : c.args.bytes.now ≡ 89 ∷ c.in-Some-Flood.body.now =
    subst (IsBody c.args.bytes.now) c.in-Some-Flood.field-0-is c.in-Some-Flood.ensures.some in
    let once = flood_once c.in-Some-Flood.body.now c.in-Ok-decode_flood.m c.in-Ok-decode_flood.ensures.only in
    on_ok_always c.take_flood.result _ (λ x y f g.
    sym (once x (subst (λ bs. IsFrame bs x) behind f))
    ∙ once y (subst (λ bs. IsFrame bs y) behind g))

pub returns-in-Ok-decode_flood-clause-kept : goal.returns-in-Ok-decode_flood-clause-kept
returns-in-Ok-decode_flood-clause-kept c = λ k kept.
    on_ok_always c.take_flood.result _
    (subst (λ p. IsKeptAfter p c.args.adjacencies.now (k + 1)) (sym c.take_flood.ensures.place)
    (kept-still c.args.node.now.place c.args.adjacencies.now k kept))
