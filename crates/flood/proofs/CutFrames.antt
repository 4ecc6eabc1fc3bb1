-- A frame tells its length, so what is left of one that is cut short is none.
use Rattle.std.proofs.{Common.{◌≡◌, ◌≢◌, ℕ, ◌+◌, ◌<◌, ◌≤◌, List, [], ◌∷◌, ◌++◌, length, length-drop, drop, refl, sym, ap, ◌∙◌, subst, arith}, lemmas.List.drop-append-le}
use Rattle.byteorder.specs.Endian.{big_number}
use Rattle.wire_buf.specs.Objects.{number_at}
use Rattle.rsvp_messages.specs.{Headers.HasHeader, Packets.type_of}
use Rattle.te_tlv.specs.SubTlvs.{IsLinkTlv}
use Rattle.flood.specs.{declared.frames.Content.Content, declared.frames.Content.TheVariants.{Message, Flood}, declared.messages.FloodMsg.FloodMsg, declared.messages.FloodMsg.TheVariants.{Row, Ack}, Frames.IsFrame, Messages.SpellsFlood, Cuts.PrefixesSpellNothing}

longer : (front back : List ℕ) → back ≢ [] → length front < length (front ++ back)
longer [] [] some = absurd (some refl)
longer [] (b ∷ back) some = omega arith
longer (a ∷ front) back some = (let more = longer front back some in omega arith)

-- Messages

same-length : (front back : List ℕ) → 8 ≤ length front → number_at 6 2 front ≡ number_at 6 2 (front ++ back)
same-length (a ∷ b ∷ c ∷ d ∷ e ∷ f ∷ g ∷ h ∷ front) back long = refl
same-length [] back long = absurd (omega arith)
same-length (a ∷ []) back long = absurd (omega arith)
same-length (a ∷ b ∷ []) back long = absurd (omega arith)
same-length (a ∷ b ∷ c ∷ []) back long = absurd (omega arith)
same-length (a ∷ b ∷ c ∷ d ∷ []) back long = absurd (omega arith)
same-length (a ∷ b ∷ c ∷ d ∷ e ∷ []) back long = absurd (omega arith)
same-length (a ∷ b ∷ c ∷ d ∷ e ∷ f ∷ []) back long = absurd (omega arith)
same-length (a ∷ b ∷ c ∷ d ∷ e ∷ f ∷ g ∷ []) back long = absurd (omega arith)

pub cut-message : (front back : List ℕ) (kind other : ℕ) → back ≢ [] → HasHeader (front ++ back) kind →
    HasHeader front other → ⊥
cut-message front back kind other some whole cut =
    omega (arith, whole.size, cut.size, same-length front back cut.long, longer front back some)

-- Floods

same-kind : (front back : List ℕ) → 8 ≤ length front → big_number 1 front ≡ big_number 1 (front ++ back)
same-kind [] back long = absurd (omega arith)
same-kind (a ∷ front) back long = refl

-- a number that stands in what is left
two : (xs back : List ℕ) → 2 ≤ length xs → big_number 2 xs ≡ big_number 2 (xs ++ back)
two [] back long = absurd (omega arith)
two (a ∷ []) back long = absurd (omega arith)
two (a ∷ b ∷ xs) back long = refl

same-two : (xs back : List ℕ) → 4 ≤ length xs → number_at 2 2 xs ≡ number_at 2 2 (xs ++ back)
same-two xs back long =
    two (drop 2 xs) back (omega (arith, length-drop 2 xs))
    ∙ ap (big_number 2) (sym (drop-append-le 2 xs back (omega arith)))

longer-link : (xs back : List ℕ) → back ≢ [] → 4 + number_at 2 2 (xs ++ back) ≡ length (xs ++ back) →
    4 + number_at 2 2 xs ≡ length xs → ⊥
longer-link xs back some whole cut = omega (arith, whole, cut, same-two xs back (omega (arith, cut)), longer xs back some)

pub cut-flood : (front back : List ℕ) (m n : FloodMsg) → back ≢ [] → SpellsFlood (front ++ back) m →
    SpellsFlood front n → ⊥
cut-flood front back (Ack x) (Ack y) some whole cut =
    omega (arith, whole.0, cut.0, longer front back some)
cut-flood front back (Ack x) (Row y origin row) some whole cut =
    omega (arith, whole.0, cut.0, longer front back some)
cut-flood front back (Row x origin row) (Ack y) some whole cut =
    omega (arith, whole.1, cut.1, same-kind front back (omega (arith, cut.0)))
cut-flood front back (Row x origin row) (Row y origin' row') some whole cut =
    let tlv : IsLinkTlv (drop 12 front ++ back) whole.4.subs =
    subst (λ bytes. IsLinkTlv bytes whole.4.subs) (drop-append-le 12 front back cut.0) whole.4.tlv in
    longer-link (drop 12 front) back some tlv.len cut.4.tlv.len

-- the first byte tells which
pub cut-frame : (front back : List ℕ) (c d : Content) → back ≢ [] → IsFrame (front ++ back) c → IsFrame front d → ⊥
cut-frame [] back c (Message q) some whole (other, is', cut) = cc is'
cut-frame [] back c (Flood n) some whole (other, is', cut) = cc is'
cut-frame (a ∷ front) back (Message (p)) (Message q) some (body, is, (os, whole)) (other, is', (os', cut)) =
    let same : front ++ back ≡ body = ap (drop 1) is in
    let same' : front ≡ other = ap (drop 1) is' in
    cut-message front back (type_of p.body) (type_of q.body) some
    (subst (λ bytes. HasHeader bytes (type_of p.body)) (sym same) whole.header)
    (subst (λ bytes. HasHeader bytes (type_of q.body)) (sym same') cut.header)
cut-frame (a ∷ front) back (Message p) (Flood n) some (body, is, whole) (other, is', cut) =
    let one : a ≡ 46 = cc is in let two : a ≡ 89 = cc is' in omega arith
cut-frame (a ∷ front) back (Flood m) (Message q) some (body, is, whole) (other, is', cut) =
    let one : a ≡ 89 = cc is in let two : a ≡ 46 = cc is' in omega arith
cut-frame (a ∷ front) back (Flood m) (Flood n) some (body, is, whole) (other, is', cut) =
    let same : front ++ back ≡ body = ap (drop 1) is in
    let same' : front ≡ other = ap (drop 1) is' in
    cut-flood front back m n some (subst (λ bytes. SpellsFlood bytes m) (sym same) whole)
    (subst (λ bytes. SpellsFlood bytes n) (sym same') cut)

pub prefixes_spell_nothing : PrefixesSpellNothing
prefixes_spell_nothing front back c some whole d cut = cut-frame front back c d some whole cut
