-- What has a written form.
use Rattle.std.proofs.Common.{◌≡◌, ◌+◌, ℕ, List, sym, subst, arith}
use Rattle.std.specs.Prelude.{Option, Some, None}
use Rattle.ason_base.specs.{declared.messages.Msg.Msg, declared.messages.Msg.TheVariants.{Path, Resv, PathTear, PathErr, Notify}, declared.messages.Packet.Packet, Writable.IsWritableMsg}
use Rattle.flood.specs.{declared.frames.Content.TheVariants.Message, Frames.{ContentCanBeWritten, IsFrame}}
use Rattle.hop_reliable.specs.Hop.{numbered}
use Rattle.mesh_nodes.specs.Sent.{CanBePassedOn}
use Rattle.rsvp_messages.specs.{Messages.SpellsMsg, Objects.Object, Packets.SpellsBody, Writable.IsWritable}
use Rattle.control_channels.specs.Answers.{BodyCanBePassedOn}
use Rattle.rsvp_messages.proofs.Rewritable.{route_short, role_writable}

-- Numbered messages

numbered-writable : (n : ℕ) (m : Msg) → IsWritableMsg m → IsWritable (numbered n m)
numbered-writable n m w = record { id = omega arith; acks = λ k d h. absurd (omega arith); few = omega arith; body = w }

pub next-writable : (n : ℕ) (m : Msg) (p : Packet) → IsWritableMsg m → p ≡ numbered (n + 1) m →
    ContentCanBeWritten (Message p)
next-writable n m p w e = subst IsWritable (sym e) (numbered-writable (n + 1) m w)

-- What is read can be passed on

passed-msg : (os : List Object) (m : Msg) → SpellsMsg os m → CanBePassedOn m
passed-msg os (Path l e k route set u role) s = (route_short os route s.has_route, role_writable os role s.has_role)
passed-msg os (Resv l e k x) s = tt
passed-msg os (PathTear l e k) s = tt
passed-msg os (PathErr l e at gone code) s = tt
passed-msg os (Notify l e at k code) s = tt

pub passed-on : (bytes : List ℕ) (p : Packet) → IsFrame bytes (Message p) → BodyCanBePassedOn p.body
passed-on bytes p (body, is, spelled) = go p.body spelled.1.packet.body
  where
    go : (b : Option Msg) → SpellsBody spelled.0 p.id p.acks b → BodyCanBePassedOn b
    go None s = tt
    go (Some m) s = passed-msg spelled.0 m s.1
