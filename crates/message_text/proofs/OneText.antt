-- Bytes have one text: no other one is told of them.
use Rattle.std.proofs.{Common.{◌≡◌, ℕ, ◌==◌, Result, Ok, Err, OnOk, Option, None, Some, List, [], ◌∷◌, ◌++◌, codes, length, map, inl, inr, refl, ap, sym, subst, ◌∙◌, append_assoc, false}, lemmas.List.append-nil}
use Rattle.std.specs.{Global.Global, Prelude.{String, string_bytes}, Borrow.Bor}
use Rattle.ason_base.specs.{declared.messages.Packet.Packet, Texts.Appends}
use Rattle.rsvp_messages.specs.{declared.lines.ObjectLine.ObjectLine, Lines.line_of, Objects.Object, Packets.{SpelledBy, Spells}}
use Rattle.message_text.specs.{DecodeText.{AreTexts, IsBytesText, IsMessageText, message_text, packet_text}, Hex.hex_bytes, LinesLeft.text_lines_left, OneText.{AppendsOne, IsOne}}

-- Messages

-- the text of a packet that the bytes spell, where they spell no other
pub one_packet : (bytes : List ℕ) (p : Packet) (os : List Object) → SpelledBy bytes os p →
    ((q : Packet) → Spells bytes q → p ≡ q) →
    ((others : List Object) (q : Packet) → SpelledBy bytes others q →
    map (line_of p.body) os ≡ map (line_of q.body) others) →
    IsOne (IsMessageText bytes) (message_text os p)
one_packet bytes p os spelled one same = record { is = inl (os, p, spelled, refl); only = only }
  where
    only : (other : List ℕ) → IsMessageText bytes other → other ≡ message_text os p
    only other (inl told) =
        let packet = one told.1 (told.0, told.2) in
        let lines = same told.0 told.1 told.2 in
        told.3 ∙ sym (λ i. packet_text (packet i) (lines i))
    only other (inr none) = absurd (none.0 os p spelled)

-- the text of bytes that spell none
pub one_fault : (bytes : List ℕ) → ((os : List Object) (p : Packet) → ¬ SpelledBy bytes os p) →
    IsOne (IsMessageText bytes) (codes "not a message\n")
one_fault bytes none = record { is = inr (none, refl); only = only }
  where
    only : (other : List ℕ) → IsMessageText bytes other → other ≡ codes "not a message\n"
    only other (inl told) = absurd (none told.0 told.1 told.2)
    only other (inr is) = is.1

pub packet_told : {T E : Type 0} (r : Result T E) (bytes : List ℕ) (old new : String Global) (p : Packet)
    (lines shown : List ObjectLine) →
    Spells bytes p → ((q : Packet) → Spells bytes q → p ≡ q) →
    ((os : List Object) (q : Packet) → SpelledBy bytes os q → lines ≡ map (line_of q.body) os) → shown ≡ lines →
    OnOk r (Appends old new (packet_text p shown)) →
    OnOk r (AppendsOne (IsMessageText bytes) old new)
packet_told (Err e) bytes old new p lines shown found one listed same printed = tt
packet_told (Ok x) bytes old new p lines shown found one listed same printed =
    (message_text found.0 p, one_packet bytes p found.0 found.1 one same_lines, printed ∙ text)
  where
    here : lines ≡ map (line_of p.body) found.0
    here = listed found.0 p found.1

    same_lines : (others : List Object) (q : Packet) → SpelledBy bytes others q →
        map (line_of p.body) found.0 ≡ map (line_of q.body) others
    same_lines others q is = sym (listed found.0 p found.1) ∙ listed others q is

    text : string_bytes old ++ packet_text p shown ≡ string_bytes old ++ message_text found.0 p
    text = ap (λ (l : List ObjectLine). string_bytes old ++ packet_text p l) (same ∙ here)

-- Lines

one_bytes : (o : Option (List ℕ)) (bytes text : List ℕ) → Some bytes ≡ o → (length bytes == 0) ≡ false →
    IsOne (IsMessageText bytes) text → IsOne (IsBytesText o) text
one_bytes o [] text is some one = absurd (cc some)
one_bytes o (b ∷ bytes) text is some one =
    subst (λ (q : Option (List ℕ)). IsOne (IsBytesText q) text) is (record { is = one.is; only = one.only })

-- a line with bytes
pub line_told : {T E : Type 0} (r : Result T E) (o : Option (List ℕ)) (bytes : List ℕ) (old new : String Global) →
    Some bytes ≡ o → (length bytes == 0) ≡ false →
    OnOk r (AppendsOne (IsMessageText bytes) old new) → OnOk r (AppendsOne (IsBytesText o) old new)
line_told (Err e) o bytes old new is some told = tt
line_told (Ok x) o bytes old new is some told = (told.0, one_bytes o bytes told.0 is some told.1, told.2)

-- All lines

-- a text of all lines is what was printed of the lines so far, and a text of those left
abbrev pub TextGoesOn : List ℕ → List (List ℕ) → List ℕ → Type 0
TextGoesOn t lines printed = (others : List ℕ) × AreTexts lines others × (t ≡ printed ++ others)

pub goes_on : (t old new line : List ℕ) (rest : Option (Bor (List ℕ))) (all : List (List ℕ)) (text : List ℕ) →
    all ≡ line ∷ text_lines_left rest →
    IsOne (IsBytesText (hex_bytes line)) text → new ≡ old ++ text → TextGoesOn t all old →
    TextGoesOn t (text_lines_left rest) new
goes_on t old new line rest all text is one printed on =
    (parts.1, parts.3, on.2 ∙ (split ∙ ap (λ (l : List ℕ). l ++ parts.1) same))
  where
    parts : AreTexts (line ∷ text_lines_left rest) on.0
    parts = subst (λ (ls : List (List ℕ)). AreTexts ls on.0) is on.1

    split : old ++ on.0 ≡ (old ++ parts.0) ++ parts.1
    split = ap (λ (l : List ℕ). old ++ l) parts.4 ∙ sym (append_assoc old parts.0 parts.1)

    same : old ++ parts.0 ≡ new
    same = ap (λ (l : List ℕ). old ++ l) (one.only parts.0 parts.2) ∙ sym printed

pub no_more : (t text out : List ℕ) (rest : Option (Bor (List ℕ))) → rest ≡ None →
    TextGoesOn t (text_lines_left rest) text →
    out ≡ text → t ≡ out
no_more t text out None none on is = on.2 ∙ (ap (λ (l : List ℕ). text ++ l) on.1 ∙ (append-nil text ∙ sym is))
no_more t text out (Some b) none on is = absurd cc
