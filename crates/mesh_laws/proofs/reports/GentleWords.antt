-- What a step must leave as it was, so that what is told of a route stays.
use Rattle.std.proofs.Common.{◌≡◌, ◌≤◌, ◌<◌, ℕ, suc, Bool, true, false, cond, nat_eq, List, [], ◌∷◌, sym, ap, ◌∙◌}
use Rattle.std.specs.{Prelude.{◌&&◌, Option, Some, None}, List.list_any}
use Rattle.ason_base.specs.{Lsps.{has_fibre, same_lsp}, Network.Network, declared.ids.CallNo.CallNo, declared.ids.Lsp.Lsp, declared.ids.NodeId.NodeId, declared.messages.Msg.Msg, declared.messages.Msg.TheVariants.{Path, Resv, PathTear, PathErr, Notify}, declared.tables.CallRec.CallRec, declared.tables.Leg.Leg, declared.tables.Out.Out}
use Rattle.mesh_rules.specs.{declared.changes.CallChange.CallChange, declared.changes.LegChange.LegChange, Calls.{calls_changed, find_call, names}, Changes.{Answer, changed}, Legs.{find_leg, is_asked}, Machine.{Mesh, commit}, Paths.is_active, State.NodeState}
use Rattle.lsp_laws.specs.{HopLaw.{is_notice, leg_at, lsp_of, mail_between, notices_between}, ReportLaw.{is_standing, on_the_way, reports_of, told, told_by_all}}
use Rattle.lsp_laws.proofs.{hops.Plans.{Plan, fibre_at, hops, link_at, node_at}, hops.Tables.leg_after}

-- What is carried

-- the call of an LSP
pub record CallOf (s : Mesh) (l : Lsp) (c : CallRec) : Type 0 where
  pub found : find_call c.call (s.nodes l.ingress.0).calls ≡ Some c
  pub named : names l c ≡ true

-- a call after an answer that leaves it where it begins
pub call-before : (s : Mesh) (n : ℕ) (a : Answer) (l : Lsp) (c : CallRec) →
    (find_call c.call (calls_changed a.calls (s.nodes l.ingress.0).calls) ≡ Some c →
    find_call c.call (s.nodes l.ingress.0).calls ≡ Some c) → CallOf (commit s n a) l c → CallOf s l c
call-before s n a l c leaves of = record { found = go (nat_eq l.ingress.0 n) of.found; named = of.named }
  where
    go : (b : Bool) →
        find_call c.call (cond b (changed (s.nodes l.ingress.0) a) (s.nodes l.ingress.0)).calls ≡ Some c →
        find_call c.call (s.nodes l.ingress.0).calls ≡ Some c
    go true found = leaves found
    go false found = found

-- what Notifies tell of the fibre from a place on, over the hop of each place
abbrev pub line_at : (NodeId → NodeId → List Msg) → Plan → ℕ → ℕ → List Bool
line_at notices p i j =
    told_by_all (node_at p (suc i)) (link_at p i) (notices (node_at p (suc j)) (node_at p j))

abbrev pub StandsUpTo : Mesh → Lsp → Plan → ℕ → Type 0
StandsUpTo s l p i = (j : ℕ) → j ≤ i → is_standing (leg_at s l (node_at p j)) ≡ true

abbrev pub PlaceTold : Network → Mesh → Lsp → Plan → ℕ → CallRec → Type 0
PlaceTold t s l p i c =
    told (has_fibre (reports_of l c) (fibre_at t p i)) (on_the_way (line_at (notices_between s l) p i) (suc i))
    ≡ has_fibre (s.nodes (node_at p (suc i)).0).down (fibre_at t p i)

-- a leg that waits for its labels
abbrev pub is_waiting : Option Leg → Bool
is_waiting None = false
is_waiting (Some g) = is_asked g.phase

-- nothing was told of the fibre from this place on
pub record Untold (t : Network) (s : Mesh) (l : Lsp) (p : Plan) (j : ℕ) : Type 0 where
  pub notices : (a b : NodeId) → told_by_all (node_at p (suc j)) (link_at p j) (notices_between s l a b) ≡ []
  pub report : (c : CallRec) → CallOf s l c → has_fibre (reports_of l c) (fibre_at t p j) ≡ false

-- a Path that doesn't activate
abbrev pub is_plain : Msg → Bool
is_plain (Path l e k route set up r) = cond (is_active r) false true
is_plain (Resv l e k x) = false
is_plain (PathTear l e k) = false
is_plain (PathErr l e at gone code) = false
is_plain (Notify l e at k code) = false

abbrev pub has_plain : List Msg → Bool
has_plain ms = list_any is_plain ms

-- the first Path of the LSP is under way: one that doesn't activate, while the leg that sent it is Asked
abbrev pub is_first_under_way : Mesh → Lsp → NodeId → NodeId → Bool
is_first_under_way s l a b = is_waiting (leg_at s l a) && has_plain (mail_between s l a b)

-- no leg stands after this hop, and nothing was told from there on
pub record IsUnreached (t : Network) (s : Mesh) (l : Lsp) (p : Plan) (i : ℕ) : Type 0 where
  pub gone : (j : ℕ) → i ≤ j → j < hops p → leg_at s l (node_at p (suc j)) ≡ None
  pub untold : (j : ℕ) → i ≤ j → j < hops p → Untold t s l p j

pub record RouteTold (t : Network) (s : Mesh) (l : Lsp) (p : Plan) : Type 0 where
  -- where the LSP stands up to a place, what its Notifies tell is what is known there
  pub tells : (i : ℕ) → i < hops p → StandsUpTo s l p (suc i) → (c : CallRec) → CallOf s l c → PlaceTold t s l p i c
  -- where the LSP stands up to its first Path, nothing is reached beyond that
  pub first : (i : ℕ) → i < hops p → StandsUpTo s l p i →
      is_first_under_way s l (node_at p i) (node_at p (suc i)) ≡ true → IsUnreached t s l p i

-- Gentle steps

-- the legs that stand stood before, none comes anew, and no first Path is sent
pub record Still (s s' : Mesh) (l : Lsp) : Type 0 where
  pub stands : (n : NodeId) → is_standing (leg_at s' l n) ≡ true → is_standing (leg_at s l n) ≡ true
  pub gone : (n : NodeId) → leg_at s l n ≡ None → leg_at s' l n ≡ None
  pub first : (a b : NodeId) → is_first_under_way s' l a b ≡ true → is_first_under_way s l a b ≡ true
  pub down : (n : ℕ) → (s'.nodes n).down ≡ (s.nodes n).down

pub still-then : (s s' s'' : Mesh) (l : Lsp) → Still s s' l → Still s' s'' l → Still s s'' l
still-then s s' s'' l a b = record {
  stands = λ n h. a.stands n (b.stands n h);
  gone = λ n h. b.gone n (a.gone n h);
  first = λ x y h. a.first x y (b.first x y h);
  down = λ n. b.down n ∙ a.down n;
}

-- what wasn't reached isn't where the legs are still, if nothing is told of what was untold
pub unreached-still : (t : Network) (s s' : Mesh) (l : Lsp) (p : Plan) → RouteTold t s l p → Still s s' l →
    ((j : ℕ) → j < hops p → Untold t s l p j → Untold t s' l p j) → (i : ℕ) → i < hops p → StandsUpTo s' l p i →
    is_first_under_way s' l (node_at p i) (node_at p (suc i)) ≡ true → IsUnreached t s' l p i
unreached-still t s s' l p r still silent i small stands sent =
    let was = r.first i small (λ j most. still.stands (node_at p j) (stands j most))
    (still.first (node_at p i) (node_at p (suc i)) sent) in
    record {
      gone = λ j after below. still.gone (node_at p (suc j)) (was.gone j after below);
      untold = λ j after below. silent j below (was.untold j after below);
    }

pub record Gentle (s s' : Mesh) (l : Lsp) : Type 0 where
  pub still : Still s s' l
  pub notices : (a b : NodeId) → notices_between s' l a b ≡ notices_between s l a b
  pub calls : (c : CallRec) → CallOf s' l c → (d : CallRec) × CallOf s l d × (reports_of l c ≡ reports_of l d)

pub gentle-then : (s s' s'' : Mesh) (l : Lsp) → Gentle s s' l → Gentle s' s'' l → Gentle s s'' l
gentle-then s s' s'' l a b = record {
  still = still-then s s' s'' l a.still b.still;
  notices = λ x y. b.notices x y ∙ a.notices x y;
  calls = λ c of. (
      let second = b.calls c of in
      let first = a.calls second.0 second.1 in
      (first.0, first.1, second.2 ∙ first.2));
}

module _ (t : Network) (s s' : Mesh) (l : Lsp) (p : Plan) (g : Gentle s s' l) where
  pub untold-stays : (j : ℕ) → Untold t s l p j → Untold t s' l p j
  untold-stays j u = record {
    notices = λ a b. ap (told_by_all (node_at p (suc j)) (link_at p j)) (g.notices a b) ∙ u.notices a b;
    report = λ c of. (
        let was = g.calls c of in
        ap (λ fibres. has_fibre fibres (fibre_at t p j)) was.2 ∙ u.report was.0 was.1);
  }

  pub gentle-told : RouteTold t s l p → RouteTold t s' l p
  gentle-told r = record {
    tells = λ i small stands c of. (
        let was = g.calls c of in
        let same : notices_between s l ≡ notices_between s' l = (λ k a b. sym (g.notices a b) k) in
        ap (λ fibres. told (has_fibre fibres (fibre_at t p i))
        (on_the_way (line_at (notices_between s' l) p i) (suc i))) was.2
        ∙ ap (λ (ns : NodeId → NodeId → List Msg). told (has_fibre (reports_of l was.0) (fibre_at t p i))
        (on_the_way (line_at ns p i) (suc i))) (sym same)
        ∙ r.tells i small (λ j most. g.still.stands (node_at p j) (stands j most)) was.0 was.1
        ∙ ap (λ fibres. has_fibre fibres (fibre_at t p i)) (sym (g.still.down (node_at p (suc i)).0)));
    first = unreached-still t s s' l p r g.still (λ j below untold. untold-stays j untold);
  }

-- Answers

-- a message of the LSP that is neither a Notify nor a Path that doesn't activate
abbrev pub IsMild : Lsp → Msg → Type 0
IsMild l m = same_lsp (lsp_of m) l ≡ true → (is_notice m ≡ false) × (is_plain m ≡ false)

abbrev pub AllMild : Lsp → List Out → Type 0
AllMild l [] = Unit {0}
AllMild l (o ∷ outs) = IsMild l o.msg × AllMild l outs

-- of the LSP no message that the test picks
abbrev pub NoneOf : (Msg → Bool) → Lsp → List Out → Type 0
NoneOf test l [] = Unit {0}
NoneOf test l (o ∷ outs) = (same_lsp (lsp_of o.msg) l ≡ true → test o.msg ≡ false) × NoneOf test l outs

pub mild-quiet : (l : Lsp) (outs : List Out) → AllMild l outs → NoneOf is_notice l outs
mild-quiet l [] mild = tt
mild-quiet l (o ∷ outs) mild = ((λ own. (mild.0 own).0), mild-quiet l outs mild.1)

pub mild-active : (l : Lsp) (outs : List Out) → AllMild l outs → NoneOf is_plain l outs
mild-active l [] mild = tt
mild-active l (o ∷ outs) mild = ((λ own. (mild.0 own).1), mild-active l outs mild.1)

pub record LegKeeps (l : Lsp) (o : Option Leg) (cs : List LegChange) : Type 0 where
  pub stands : is_standing (leg_after l cs o) ≡ true → is_standing o ≡ true
  pub gone : o ≡ None → leg_after l cs o ≡ None
  pub waits : is_waiting (leg_after l cs o) ≡ true → is_waiting o ≡ true

-- the calls that have the LSP afterwards had it before, with the same reports
abbrev pub CallsKeep : Lsp → List CallRec → List CallChange → Type 0
CallsKeep l calls cs =
    (k : CallNo) (c : CallRec) → find_call k (calls_changed cs calls) ≡ Some c → names l c ≡ true →
    (d : CallRec) × (find_call k calls ≡ Some d) × (names l d ≡ true) × (reports_of l c ≡ reports_of l d)

pub record IsGentle (s : NodeState) (l : Lsp) (a : Answer) : Type 0 where
  pub legs : LegKeeps l (find_leg l s.legs) a.legs
  pub sent : NoneOf is_notice l a.sent
  -- a Path that doesn't activate is sent only where the leg isn't Asked afterwards
  pub active : is_waiting (leg_after l a.legs (find_leg l s.legs)) ≡ true → NoneOf is_plain l a.sent
  pub down : a.down ≡ None
  pub calls : CallsKeep l s.calls a.calls
