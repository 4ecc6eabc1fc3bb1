-- One message more is prepared.
use Rattle.std.proofs.Common.{◌≡◌, ℕ, Bool, cond, nat_eq, List, [], ◌∷◌, ◌++◌, ◌+◌, sym, ap, ◌∙◌, subst, append_assoc}
use Rattle.ason_base.specs.{declared.ids.NodeId.NodeId, declared.tables.Out.Out}
use Rattle.flood.specs.declared.frames.Content.TheVariants.{Message}
use Rattle.hop_reliable.specs.Hop.{HopState, numbered, sent_message}
use Rattle.control_channels.specs.{Frames.{frames_to, sent_frame}, declared.frames.Frame.Frame, Adjacencies.{AllCanGo, packets_on, sent_on, sent_one}}

-- the hops after it, as one function
pub after_one : (hops after : ℕ → HopState) (o : Out) →
    ((d : ℕ) → after d ≡ cond (nat_eq d o.to.0) (sent_message (hops d) o.msg) (hops d)) → after ≡ sent_one hops o
after_one hops after o e = λ i d. e d i

pub can_go_on : (near near' : ℕ → Bool) (hops after : ℕ → HopState) (o : Out) (rest : List Out) →
    ((d : ℕ) → near' d ≡ near d) → after ≡ sent_one hops o → AllCanGo near hops (o ∷ rest) → AllCanGo near' after rest
can_go_on near near' hops after o rest peers e can =
    let same : near' ≡ near = λ i d. peers d i in
    subst (λ n. AllCanGo n after rest) (sym same) (subst (λ h. AllCanGo near h rest) (sym e) can.3)

pub hops_go_on : (hops after start : ℕ → HopState) (o : Out) (rest all : List Out) → after ≡ sent_one hops o →
    sent_on hops (o ∷ rest) ≡ sent_on start all → sent_on after rest ≡ sent_on start all
hops_go_on hops after start o rest all e h = ap (λ f. sent_on f rest) e ∙ h

pub frames_go_on : (me : NodeId) (hops after start : ℕ → HopState) (o : Out) (rest all : List Out)
    (fs new first : List Frame) (f : Frame) → after ≡ sent_one hops o →
    f ≡ sent_frame me o.to (Message (numbered ((hops o.to.0).sent + 1) o.msg)) → new ≡ fs ++ f ∷ [] →
    fs ++ frames_to me (packets_on hops (o ∷ rest)) ≡ first ++ frames_to me (packets_on start all) → new ++
    frames_to me (packets_on after rest) ≡ first ++ frames_to me (packets_on start all)
frames_go_on me hops after start o rest all fs new first f e is pushed h =
    ap (λ n. n ++ frames_to me (packets_on after rest)) pushed
    ∙ append_assoc fs (f ∷ []) (frames_to me (packets_on after rest))
    ∙ ap (λ g. fs ++ g ∷ frames_to me (packets_on after rest)) is
    ∙ ap (λ hs. fs ++ sent_frame me o.to (Message (numbered ((hops o.to.0).sent + 1) o.msg)) ∷ frames_to me
    (packets_on hs rest)) e
    ∙ h
