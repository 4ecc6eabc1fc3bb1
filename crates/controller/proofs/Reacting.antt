-- What a frame does, for whatever it spells and for bytes that spell nothing.
use Rattle.std.proofs.Common.{◌≡◌, ℕ, List, map, refl, sym, subst}
use Rattle.std.specs.Prelude.{Result, Ok, Err, IfOk, OnOk}
use Rattle.ason_base.specs.declared.ids.NodeId.{NodeId}
use Rattle.wire_buf.specs.Codecs.{HasOneMeaning}
use Rattle.flood.specs.{declared.frames.Content.Content, declared.frames.Content.TheVariants.Flood, declared.messages.FloodMsg.FloodMsg, Frames.{IsFrame, SpellsNothing}, State.{FloodState, learnt_of, flood_received, sends_after}}
use Rattle.mesh_nodes.specs.Nodes.{NodeView}
use Rattle.control_channels.specs.{declared.adjacencies.Adjacency.Adjacency, declared.frames.Frame.Frame, declared.inputs.CoreInput.CoreInput, Adjacencies.rested, Controllers.{AreMade, IsReaction, IsUnambiguous, Parts, flood_after, floods_to, frame_step, idle_step, parts, with_learnt}, Frames.{AllSpelled, frames_to}}
use Rattle.control_channels.specs.declared.inputs.CoreInput.TheVariants as input

pub frame-reaction : {T E : Type 0} (r : Result T E) (out : T → List Frame) (c d : Parts) (i : CoreInput) (u : NodeId)
    (bytes given : List ℕ) → i ≡ input.Frame u bytes → given ≡ bytes →
    ((x : Content) → IsFrame given x → IfOk r (λ y.
    AreMade c d (frame_step c.node c.adjacencies c.flood u x) (flood_after c.flood u x) (out y))) →
    (SpellsNothing given → IfOk r (λ y. AreMade c d (idle_step c.node c.adjacencies) c.flood (out y))) →
    IfOk r (λ y. IsReaction c d i (out y))
frame-reaction (Ok y) out c d i u bytes given e same content noise =
    subst (λ j. IsReaction c d j (out y)) (sym e) (
      (λ x f. content x (subst (λ bs. IsFrame bs x) (sym same) f)),
      (λ none. noise (subst SpellsNothing (sym same) none)),
    )
frame-reaction (Err y) out c d i u bytes given e same content noise = tt

-- a flood message that was taken: the hops stay as they were
pub flood-made : {T E : Type 0} (r : Result T E) (out : T → List Frame) (n m : NodeView) (adjacencies : List Adjacency)
    (f g : FloodState) (u : NodeId) (x : FloodMsg) (c : Content) → Flood x ≡ c →
    map rested adjacencies ≡ adjacencies → m.place ≡ n.place →
    OnOk r (m.state ≡ with_learnt n.place n.state (learnt_of f x)) → OnOk r (g ≡ flood_received f u x) →
    IfOk r (λ y. out y ≡ frames_to n.place.id (floods_to (sends_after f u x))) →
    IfOk r (λ y. AllSpelled n.place.id (floods_to (sends_after f u x))) →
    IfOk r (λ y. AreMade (parts n adjacencies f) (parts m adjacencies g) (frame_step n adjacencies f u c)
    (flood_after f u c) (out y))
flood-made (Ok y) out n m adjacencies f g u x c same rest place state flood frames spelled =
    subst (λ (d : Content). AreMade (parts n adjacencies f) (parts m adjacencies g) (frame_step n adjacencies f u d)
    (flood_after f u d) (out y)) same (record {
      made = record {
        becomes = record { place = place; state = state; hops = λ d. refl; peers = refl; rest = rest };
        frames = frames;
        spelled = spelled;
      };
      flood = flood;
    })
flood-made (Err e) out n m adjacencies f g u x c same rest place state flood frames spelled = tt

-- the bytes of a frame that was taken tell what it bears
pub frame-unambiguous : {T E : Type 0} (r : Result T E) (i : CoreInput) (u : NodeId) (bytes given : List ℕ) →
    i ≡ input.Frame u bytes → given ≡ bytes → OnOk r (HasOneMeaning (IsFrame given)) → OnOk r (IsUnambiguous i)
frame-unambiguous r i u bytes given e same one =
    subst (λ (j : CoreInput). OnOk r (IsUnambiguous j)) (sym e)
    (subst (λ bs. OnOk r (HasOneMeaning (IsFrame bs))) same one)
