-- A mesh in which one backup alone has moved since: its legs have other phases, its messages are under way, and all other
-- legs are as they were.
use Rattle.std.proofs.{Common.{◌≡◌, ℕ, Bool, true, false, cond, nat_eq, List, [], ◌∷◌, ◌++◌, refl, sym, ap, ◌∙◌, subst, arith, inl, inr}, lemmas.Bool.false_from_ne_true, ByRecursion.All-append}
use Rattle.std.specs.{Prelude.{◌&&◌, Option, Some, None}, List.AllByRecursion}
use Rattle.ason_base.specs.{Lsps.same_lsp, Network.Network, declared.calls.Phase.Phase, declared.ids.Fibre.Fibre, declared.ids.Lsp.Lsp, declared.ids.NodeId.NodeId, declared.messages.Msg.Msg, declared.messages.Msg.TheVariants.{Path, Resv, PathTear, PathErr, Notify}, declared.messages.PathRole.TheVariants.{Work, Back}, declared.tables.Leg.Leg}
use Rattle.ason_base.proofs.LspOrder.{same_lsp-eq}
use Rattle.mesh_rules.specs.{declared.changes.LegChange.LegChange, declared.changes.LegChange.TheVariants.Put, Changes.{Answer, changed}, Legs.{find_leg, is_beyond_asked, legs_changed, with_phase}, Machine.{Mesh, commit, sent_to, without_first}}
use Rattle.mesh_nodes.proofs.{Cases.if_cases, LegList.{find-with_leg, found-lsp, same_lsp-refl}}
use Rattle.lsp_laws.specs.HopLaw.{leg_at}
use Rattle.lsp_laws.proofs.{hops.HopLaws.found_of, nodes.Facts.MeshFacts}
use Rattle.mesh_laws.specs.{CauseLaw.{IsBusy, Uses}, RestedLaw.{GoesBack, GoesOn, Onward, Returning}, RetryLaw.IsBusySomewhere}
use Rattle.mesh_laws.proofs.{alone.Fine.{all-drop, all-sent}, surveyed.Rows.find-contains}

-- Messages

-- a message of this backup's activation; a refusal only where P
abbrev pub IsOfTurn : Type 0 → Lsp → Msg → Type 0
IsOfTurn P b (Path l e k route set up (Work guard)) = ⊥
IsOfTurn P b (Path l e k route set up (Back true work primary)) = l ≡ b
IsOfTurn P b (Path l e k route set up (Back false work primary)) = ⊥
IsOfTurn P b (Resv l e k x) = l ≡ b
IsOfTurn P b (PathTear l e k) = ⊥
IsOfTurn P b (PathErr l e at true code) = ⊥
IsOfTurn P b (PathErr l e at false code) = (l ≡ b) × P
IsOfTurn P b (Notify l e at k code) = ⊥

-- Legs

-- a leg in another phase, at least Held, or none as before
pub data Moved : Option Leg → Option Leg → Type 0 where
  NoneThere : Moved None None
  Moves : (g : Leg) (q : Phase) → is_beyond_asked q ≡ true → Moved (Some g) (Some (with_phase q g))

pub moved-again : (o o' : Option Leg) → Moved o o' → (g : Leg) (q : Phase) → o' ≡ Some g → is_beyond_asked q ≡ true →
    Moved o (Some (with_phase q g))
moved-again _ _ NoneThere g q e up = absurd (cc e)
moved-again _ _ (Moves h r was) g q e up =
    let is : with_phase r h ≡ g = cc e in
    subst (λ (x : Leg). Moved (Some h) (Some (with_phase q x))) is (Moves h q up)

uses-before : (f : Fibre) (x : ℕ) (q : Phase) (g : Leg) → Uses f x (with_phase q g) → Uses f x g
uses-before f x q g (inl (Onward fibre label)) = inl (Onward fibre label)
uses-before f x q g (inl (Returning fibre opposite label)) = inl (Returning fibre opposite label)
uses-before f x q g (inr (GoesOn fibre label)) = inr (GoesOn fibre label)
uses-before f x q g (inr (GoesBack fibre opposite label)) = inr (GoesBack fibre opposite label)

pub uses-after : (f : Fibre) (x : ℕ) (q : Phase) (g : Leg) → Uses f x g → Uses f x (with_phase q g)
uses-after f x q g (inl (Onward fibre label)) = inl (Onward fibre label)
uses-after f x q g (inl (Returning fibre opposite label)) = inl (Returning fibre opposite label)
uses-after f x q g (inr (GoesOn fibre label)) = inr (GoesOn fibre label)
uses-after f x q g (inr (GoesBack fibre opposite label)) = inr (GoesBack fibre opposite label)

-- The mesh

-- since s the backup b alone has moved
pub record OnlyMoved (s : Mesh) (b : Lsp) (now : Mesh) : Type 0 where
  pub others : (l : Lsp) (m : NodeId) → same_lsp b l ≡ false → leg_at now l m ≡ leg_at s l m
  pub own : (m : NodeId) → Moved (leg_at s b m) (leg_at now b m)
  pub mail : (u d : ℕ) → AllByRecursion (IsOfTurn (IsBusySomewhere s b) b) (now.mail u d)

-- What is busy now was busy then.
pub busy-before : (t : Network) (s : Mesh) (b : Lsp) (now : Mesh) → MeshFacts t now → OnlyMoved s b now → (m : NodeId)
    (g : Leg) → leg_at now b m ≡ Some g → IsBusy (now.nodes m.0).legs g → IsBusySomewhere s b
busy-before t s b now facts only m g here busy = go _ _ (only.own m) refl here
  where
    h : Leg
    h = busy.other

    own : g.lsp ≡ b
    own = found-lsp b (now.nodes m.0).legs g here

    apart : same_lsp b h.lsp ≡ false
    apart = false_from_ne_true (same_lsp b h.lsp) (λ e. busy.apart (sym (same_lsp-eq b h.lsp e) ∙ sym own))

    was : leg_at s h.lsp m ≡ Some h
    was = sym (only.others h.lsp m apart) ∙ found_of (now.nodes m.0).legs (facts.node m.0).legs_rise h busy.there

    go : (o o' : Option Leg) → Moved o o' → leg_at s b m ≡ o → o' ≡ Some g → IsBusySomewhere s b
    go _ _ NoneThere then is = absurd (cc is)
    go _ _ (Moves k q up) then is =
        let same : with_phase q k ≡ g = cc is in
        record {
          node = m;
          leg = k;
          there = then;
          busy = record {
            other = h;
            fibre = busy.fibre;
            label = busy.label;
            there = find-contains (λ j. same_lsp j.lsp h.lsp) (s.nodes m.0).legs h was;
            apart = λ e. busy.apart (e ∙ ap (λ (x : Leg). x.lsp) same);
            role = busy.role;
            phase = busy.phase;
            own_uses = uses-before busy.fibre busy.label q k
                (subst (Uses busy.fibre busy.label) (sym same) busy.own_uses);
            other_uses = busy.other_uses;
          };
        }

-- An answer

-- no leg changes, or the backup's leg alone, which moves
pub data LegMoves (b : Lsp) (legs : List Leg) : List LegChange → Type 0 where
  Stays : LegMoves b legs []
  Puts : (g : Leg) (q : Phase) → find_leg b legs ≡ Some g → is_beyond_asked q ≡ true →
      LegMoves b legs (Put (with_phase q g) ∷ [])

pub record Turns (P : Type 0) (b : Lsp) (legs : List Leg) (a : Answer) : Type 0 where
  pub leg : LegMoves b legs a.legs
  pub sent : AllByRecursion (λ o. IsOfTurn P b o.msg) a.sent

others-stay : (b l : Lsp) (legs : List Leg) (cs : List LegChange) → LegMoves b legs cs → same_lsp b l ≡ false →
    find_leg l (legs_changed cs legs) ≡ find_leg l legs
others-stay b l legs _ Stays apart = refl
others-stay b l legs _ (Puts g q here up) apart =
    let own : g.lsp ≡ b = found-lsp b legs g here in
    let test : same_lsp g.lsp l ≡ false = subst (λ k. same_lsp k l ≡ false) (sym own) apart in
    find-with_leg (with_phase q g) legs l ∙ ap (λ c. cond c (Some (with_phase q g)) (find_leg l legs)) test

own-moves : (b : Lsp) (legs : List Leg) (cs : List LegChange) (o : Option Leg) → LegMoves b legs cs →
    Moved o (find_leg b legs) → Moved o (find_leg b (legs_changed cs legs))
own-moves b legs _ o Stays moved = moved
own-moves b legs _ o (Puts g q here up) moved =
    let own : g.lsp ≡ b = found-lsp b legs g here in
    let test : same_lsp g.lsp b ≡ true = subst (λ k. same_lsp k b ≡ true) (sym own) (same_lsp-refl b) in
    let found : find_leg b (legs_changed (Put (with_phase q g) ∷ []) legs) ≡ Some (with_phase q g) =
    find-with_leg (with_phase q g) legs b ∙ ap (λ c. cond c (Some (with_phase q g)) (find_leg b legs)) test in
    subst (Moved o) (sym found) (moved-again o (find_leg b legs) moved g q here up)

-- A mesh in which the backup alone has moved stays so by such an answer.
pub moves-on : (s : Mesh) (b : Lsp) (now : Mesh) (d : NodeId) (a : Answer) → OnlyMoved s b now →
    Turns (IsBusySomewhere s b) b (now.nodes d.0).legs a → OnlyMoved s b (commit now d.0 a)
moves-on s b now d a only turns = record {
  others = λ l m apart. other l m apart (nat_eq m.0 d.0) refl;
  own = λ m. mine m (nat_eq m.0 d.0) refl;
  mail = λ u v. if_cases (AllByRecursion P) (nat_eq u d.0) (now.mail u v ++ sent_to v a.sent) (now.mail u v)
      (λ e. All-append P (now.mail u v) (sent_to v a.sent) (only.mail u v) (all-sent P v a.sent turns.sent))
      (λ e. only.mail u v);
}
  where
    P : Msg → Type 0
    P = IsOfTurn (IsBusySomewhere s b) b

    legs : ℕ → List Leg
    legs m = (now.nodes m).legs

    other : (l : Lsp) (m : NodeId) → same_lsp b l ≡ false → (c : Bool) → nat_eq m.0 d.0 ≡ c →
        find_leg l (cond c (changed (now.nodes m.0) a) (now.nodes m.0)).legs ≡ leg_at s l m
    other l m apart true e =
        let is : m.0 ≡ d.0 = grind arith in
        others-stay b l (legs m.0) a.legs (subst (λ n. LegMoves b (legs n) a.legs) (sym is) turns.leg) apart
        ∙ only.others l m apart
    other l m apart false e = only.others l m apart

    mine : (m : NodeId) (c : Bool) → nat_eq m.0 d.0 ≡ c →
        Moved (leg_at s b m) (find_leg b (cond c (changed (now.nodes m.0) a) (now.nodes m.0)).legs)
    mine m true e =
        let is : m.0 ≡ d.0 = grind arith in
        own-moves b (legs m.0) a.legs (leg_at s b m)
        (subst (λ n. LegMoves b (legs n) a.legs) (sym is) turns.leg) (only.own m)
    mine m false e = only.own m

-- and where a message is taken
pub without-first : (s : Mesh) (b : Lsp) (now : Mesh) (u d : ℕ) → OnlyMoved s b now →
    OnlyMoved s b (without_first now u d)
without-first s b now u d only = record {
  others = only.others;
  own = only.own;
  mail = λ x y. if_cases (AllByRecursion (IsOfTurn (IsBusySomewhere s b) b)) (nat_eq x u && nat_eq y d) _ _
      (λ e. all-drop (IsOfTurn (IsBusySomewhere s b) b) (now.mail x y) (only.mail x y)) (λ e. only.mail x y);
}
