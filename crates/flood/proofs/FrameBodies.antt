-- What the bytes of a frame spell is what its body spells.
use Rattle.std.proofs.Common.{◌≡◌, ℕ, List, ◌∷◌, refl, sym, ap, subst, arith}
use Rattle.ason_base.specs.declared.messages.Packet.{Packet}
use Rattle.rsvp_messages.specs.Packets.{Spells}
use Rattle.flood.specs.{declared.frames.Content.Content, declared.frames.Content.TheVariants.{Message, Flood}, declared.messages.FloodMsg.FloodMsg, Frames.IsFrame, Messages.SpellsFlood}

apart : ◌≡◌ {A = ℕ} 46 89 → ⊥
apart e = absurd (omega arith)

head : (a b : ℕ) (xs ys : List ℕ) → a ∷ xs ≡ b ∷ ys → a ≡ b
head a b xs ys e = cc

tail : (a b : ℕ) (xs ys : List ℕ) → a ∷ xs ≡ b ∷ ys → xs ≡ ys
tail a b xs ys e = cc

-- Behind 46 stands a message

pub message_is : (body : List ℕ) (p : Packet) → Spells body p → IsFrame (46 ∷ body) (Message p)
message_is body p spelled = (body, refl, spelled)

pub message_once : (body : List ℕ) (p : Packet) → ((q : Packet) → Spells body q → p ≡ q) → (c : Content) →
    IsFrame (46 ∷ body) c → Message p ≡ c
message_once body p only (Message q) f =
    ap Message (only q (subst (λ bs. Spells bs q) (sym (tail 46 46 body f.0 f.1)) f.2))
message_once body p only (Flood m) f = absurd (apart (head 46 89 body f.0 f.1))

pub no_message : (body : List ℕ) → ((q : Packet) → Spells body q → ⊥) → (c : Content) → IsFrame (46 ∷ body) c → ⊥
no_message body none (Message q) f = none q (subst (λ bs. Spells bs q) (sym (tail 46 46 body f.0 f.1)) f.2)
no_message body none (Flood m) f = apart (head 46 89 body f.0 f.1)

-- Behind 89 stands a flood message

pub flood_is : (body : List ℕ) (m : FloodMsg) → SpellsFlood body m → IsFrame (89 ∷ body) (Flood m)
flood_is body m spelled = (body, refl, spelled)

pub flood_once : (body : List ℕ) (m : FloodMsg) → ((n : FloodMsg) → SpellsFlood body n → m ≡ n) → (c : Content) →
    IsFrame (89 ∷ body) c → Flood m ≡ c
flood_once body m only (Message q) f = absurd (apart (sym (head 89 46 body f.0 f.1)))
flood_once body m only (Flood n) f =
    ap Flood (only n (subst (λ bs. SpellsFlood bs n) (sym (tail 89 89 body f.0 f.1)) f.2))

pub no_flood : (body : List ℕ) → ((n : FloodMsg) → SpellsFlood body n → ⊥) → (c : Content) → IsFrame (89 ∷ body) c → ⊥
no_flood body none (Message q) f = apart (sym (head 89 46 body f.0 f.1))
no_flood body none (Flood n) f = none n (subst (λ bs. SpellsFlood bs n) (sym (tail 89 89 body f.0 f.1)) f.2)

-- Other bytes are no frame
