-- Downstream of an Asked leg: the Path or its answer is on the hop, or the next leg is Asked too. From the hop table alone.
use Rattle.std.proofs.Common.{◌≡◌, ◌⊎◌, Bool, true, false, cond, List, [], ◌∷◌, refl, ap, inl, inr}
use Rattle.std.specs.Prelude.{map}
use Rattle.ason_base.specs.{declared.calls.Role.Role, declared.messages.Msg.Msg, declared.ids.Lsp.Lsp}
use Rattle.lsp_laws.specs.{HopLaw.{is_message_of, messages_of}, HopShapes.{Answered, Asking, AskedLeg, BackFalls, Closes, Falls, HasLetGo, HeldLeg, IsTorn, Label, LegKind, LetGo, LiveLeg, MsgKind, NoLeg, Passed, PlainPath, Refused, Removal, Reserved, Shape, TornConnected, TornStandby, WasConnected, WorkCloses, msg_kind}}
use Rattle.mesh_laws.proofs.soon.Swept.{StandsIn}

-- the next node has given its label
abbrev pub HasGiven : LegKind → Type 0
HasGiven d = (d ≡ LiveLeg) ⊎ (d ≡ HeldLeg)

-- the four rows
pub data AskedRow (r : Role) (d : LegKind) (down up : List MsgKind) : Type 0 where
  OnItsWay : d ≡ NoLeg → down ≡ PlainPath ∷ [] → up ≡ [] → AskedRow r d down up
  Farther : d ≡ AskedLeg → down ≡ [] → up ≡ [] → AskedRow r d down up
  ComesBack : HasLetGo r d → down ≡ [] → up ≡ Removal ∷ [] → AskedRow r d down up
  Granted : HasGiven d → down ≡ [] → up ≡ Label ∷ [] → AskedRow r d down up

was-asked : (r : Role) (u : LegKind) → WasConnected r u → u ≡ AskedLeg → ⊥
was-asked _ _ WorkCloses e = cc e
was-asked _ _ BackFalls e = cc e

torn-asked : (r : Role) (u : LegKind) → IsTorn r u → u ≡ AskedLeg → ⊥
torn-asked r _ Closes e = cc e
torn-asked _ _ Falls e = cc e

-- nor is one that gave its label
pub given-not-asked : (d : LegKind) → HasGiven d → d ≡ AskedLeg → ⊥
given-not-asked d (inl a) e = cc (a, e)
given-not-asked d (inr a) e = cc (a, e)

-- and that one is there
pub given-not-none : (d : LegKind) → HasGiven d → d ≡ NoLeg → ⊥
given-not-none d (inl a) e = cc (a, e)
given-not-none d (inr a) e = cc (a, e)

-- Beside an Asked leg there is just one of these.
pub asked-row : (r : Role) (d : LegKind) (down up : List MsgKind) → Shape r AskedLeg d down up → AskedRow r d down up
asked-row r _ _ _ Asking = OnItsWay refl refl refl
asked-row r _ _ _ Passed = Farther refl refl refl
asked-row r d _ _ (Refused gone) = ComesBack gone refl refl
asked-row _ _ _ _ Answered = Granted (inl refl) refl refl
asked-row _ _ _ _ Reserved = Granted (inr refl) refl refl
asked-row r _ _ up (TornConnected was may) = absurd (was-asked r AskedLeg was refl)
asked-row _ _ _ up (TornStandby torn may) = absurd (elim torn [ ])
asked-row r d _ up (LetGo torn gone confirms) = absurd (torn-asked r AskedLeg torn refl)

-- A list of one kind

-- a message of the LSP, of this kind, in a list
pub record FoundMsg (l : Lsp) (x : MsgKind) (ms : List Msg) : Type 0 where
  pub msg : Msg
  pub own : is_message_of l msg ≡ true
  pub kind : msg_kind msg ≡ x
  pub before : List Msg
  pub stands : StandsIn ms msg before

-- the one message of the LSP is found
pub find-one : (l : Lsp) (x : MsgKind) (ms : List Msg) → map msg_kind (messages_of l ms) ≡ x ∷ [] → FoundMsg l x ms
find-one l x [] has = absurd (cc has)
find-one l x (m ∷ ms) has = go (is_message_of l m) refl has (λ later. find-one l x ms later)
  where
    behind : FoundMsg l x ms → FoundMsg l x (m ∷ ms)
    behind f = record {
      msg = f.msg;
      own = f.own;
      kind = f.kind;
      before = m ∷ f.before;
      stands = record { later = f.stands.later; all = ap (λ xs. m ∷ xs) f.stands.all };
    }

    go : (b : Bool) → is_message_of l m ≡ b →
        map msg_kind (cond b (m ∷ messages_of l ms) (messages_of l ms)) ≡ x ∷ [] →
        (map msg_kind (messages_of l ms) ≡ x ∷ [] → FoundMsg l x ms) → FoundMsg l x (m ∷ ms)
    go true own is again = record {
      msg = m;
      own = own;
      kind = cc is;
      before = [];
      stands = record { later = ms; all = refl };
    }
    go false own later again = behind (again later)

-- the first of a list is the LSP's, so the kinds begin with its kind, and the rest is what follows
pub first-kind : (l : Lsp) (m : Msg) (ms rest : List Msg) (x : MsgKind) → ms ≡ m ∷ rest → is_message_of l m ≡ true →
    map msg_kind (messages_of l ms) ≡ x ∷ [] → (msg_kind m ≡ x) × (map msg_kind (messages_of l rest) ≡ [])
first-kind l m ms rest x was own has =
    let all : msg_kind m ∷ map msg_kind (messages_of l rest) ≡ x ∷ [] = rw (was, own) at has in
    (cc all, cc all)

-- where a message of the LSP is first, the hop isn't empty
pub not-empty : (l : Lsp) (m : Msg) (ms rest : List Msg) → ms ≡ m ∷ rest → is_message_of l m ≡ true →
    map msg_kind (messages_of l ms) ≡ [] → ⊥
not-empty l m ms rest was own none =
    let all : msg_kind m ∷ map msg_kind (messages_of l rest) ≡ [] = rw (was, own) at none in cc all
