-- While nothing is set up, released or protected, legs change their phases alone, and each is Held, Armed or Live.
use Rattle.std.proofs.{Common.{◌≡◌, ℕ, Bool, true, false, cond, nat_eq, List, [], ◌∷◌, ◌++◌, drop, refl, sym, ap, ◌∙◌, subst, arith}, ByRecursion.All-append}
use Rattle.std.specs.{Prelude.{◌&&◌, Option, Some, None}, List.AllByRecursion}
use Rattle.ason_base.specs.{Lsps.same_lsp, declared.ids.Lsp.Lsp, declared.calls.Phase.TheVariants.Held, Network.Network, declared.ids.Fibre.Fibre, declared.commands.Group.Group, declared.commands.Command.Command, declared.commands.Command.TheVariants.{Setup, Release, Protect, Retry, Revert, Fail, Repair}, declared.commands.DeskItem.DeskItem, declared.commands.DeskItem.TheVariants.{Order, Alarm, Clear}, declared.messages.Msg.Msg, declared.messages.Msg.TheVariants.{Path, Resv, PathTear, PathErr, Notify}, declared.tables.Leg.Leg, declared.tables.Out.Out}
use Rattle.mesh_rules.specs.{declared.changes.LegChange.LegChange, Changes.{Answer, changed, followed_by, nothing, puts, sends}, Failures.{all_news, news, with_failed}, Legs.{find_leg, is_beyond_asked, leg_of, legs_changed, with_leg, with_phase}, Machine.{Mesh, commit, sent_to, with_item, without_first, without_item}}
use Rattle.mesh_rules.specs.declared.changes.LegChange.TheVariants as leg
use Rattle.mesh_nodes.proofs.{Cases.if_cases, LegList.{all-with_leg, find-with_leg, found-lsp, same_lsp-eq}, News.all-told}
use Rattle.mesh_laws.proofs.alone.Fine.{all-drop, all-sent}

-- Legs

-- what stays of a leg: all but its phase
abbrev pub but_phase : Option Leg → Option Leg
but_phase None = None
but_phase (Some b) = Some (with_phase Held b)

-- the legs are the same but for their phases
abbrev pub SameLegs : List Leg → List Leg → Type 0
SameLegs was now = (l : Lsp) → but_phase (find_leg l now) ≡ but_phase (find_leg l was)

-- Held, Armed or Live
abbrev pub IsUp : Leg → Type 0
IsUp b = is_beyond_asked b.phase ≡ true

-- each of the legs is
abbrev pub LegsUp : List Leg → Type 0
LegsUp legs = AllByRecursion IsUp legs

-- but for its phase the leg is one of these
abbrev pub IsHere : List Leg → Leg → Type 0
IsHere legs b = but_phase (find_leg b.lsp legs) ≡ Some (with_phase Held b)

-- where there is one
abbrev pub IsHereToo : List Leg → Option Leg → Type 0
IsHereToo legs None = Unit {0}
IsHereToo legs (Some b) = IsHere legs b

-- a leg that is found is one of them
pub found-here : (l : Lsp) (legs : List Leg) (b : Leg) → find_leg l legs ≡ Some b → IsHere legs b
found-here l legs b found =
    ap but_phase (subst (λ k. find_leg k legs ≡ Some b) (sym (found-lsp l legs b found)) found)

-- and so is the leg of an LSP that is named
pub leg_of-here : (o : Option Lsp) (legs : List Leg) → IsHereToo legs (leg_of o legs)
leg_of-here None legs = tt
leg_of-here (Some l) legs = go (find_leg l legs) refl
  where
    go : (x : Option Leg) → find_leg l legs ≡ x → IsHereToo legs x
    go None is = tt
    go (Some b) is = found-here l legs b is

-- Answers

-- a leg that is put in place is one of these but for its phase, and up
abbrev pub LegKept : List Leg → LegChange → Type 0
LegKept legs (leg.Goes l) = ⊥
LegKept legs (leg.Put b) = IsUp b × IsHere legs b

-- the message tears nothing and removes no leg
abbrev pub MsgKept : Msg → Type 0
MsgKept (Path l e k route set up r) = Unit {0}
MsgKept (Resv l e k x) = Unit {0}
MsgKept (PathTear l e k) = ⊥
MsgKept (PathErr l e at true code) = ⊥
MsgKept (PathErr l e at false code) = Unit {0}
MsgKept (Notify l e at k code) = Unit {0}

-- nor does one that is sent
abbrev pub OutKept : Out → Type 0
OutKept o = MsgKept o.msg

-- the item sets up, releases and protects nothing
abbrev pub ItemKept : DeskItem → Type 0
ItemKept (Order (Setup n from to protected both via backup)) = ⊥
ItemKept (Order (Release n from)) = ⊥
ItemKept (Order (Protect n from)) = ⊥
ItemKept (Order (Retry n from)) = Unit {0}
ItemKept (Order (Revert n from)) = Unit {0}
ItemKept (Order (Fail g)) = Unit {0}
ItemKept (Order (Repair g)) = Unit {0}
ItemKept (Alarm f) = Unit {0}
ItemKept (Clear f) = Unit {0}

-- each leg that it puts in place is one of these but for its phase, and up
pub record Kept (stood : List Leg) (a : Answer) : Type 0 where
  pub legs : AllByRecursion (LegKept stood) a.legs
  pub sent : AllByRecursion OutKept a.sent

module _ (legs : List Leg) where
  -- an answer that changes nothing
  pub kept-nothing : Kept legs nothing
  kept-nothing = record { legs = tt; sent = tt }

  -- one that sends alone
  pub kept-sends : (outs : List Out) → AllByRecursion OutKept outs → Kept legs (sends outs)
  kept-sends outs sent = record { legs = tt; sent = sent }

  -- one that puts a leg in place
  pub kept-puts : (b : Leg) (outs : List Out) → IsUp b → IsHere legs b → AllByRecursion OutKept outs →
      Kept legs (puts b outs)
  kept-puts b outs up here sent = record { legs = ((up, here), tt); sent = sent }

  -- two answers, one after the other
  pub kept-then : (a b : Answer) → Kept legs a → Kept legs b → Kept legs (followed_by a b)
  kept-then a b first second = record {
    legs = All-append (LegKept legs) a.legs b.legs first.legs second.legs;
    sent = All-append OutKept a.sent b.sent first.sent second.sent;
  }

  -- What it leaves

  put-same : (b : Leg) (now : List Leg) → IsHere legs b → SameLegs legs now → SameLegs legs (with_leg b now)
  put-same b now here same l = ap but_phase (find-with_leg b now l) ∙ go (same_lsp b.lsp l) refl
    where
      go : (e : Bool) → same_lsp b.lsp l ≡ e →
          but_phase (cond e (Some b) (find_leg l now)) ≡ but_phase (find_leg l legs)
      go true e = sym (subst (λ k. but_phase (find_leg k legs) ≡ Some (with_phase Held b)) (same_lsp-eq b.lsp l e) here)
      go false e = same l

  -- the legs that it leaves are the same but for their phases
  pub legs-same : (cs : List LegChange) (now : List Leg) → AllByRecursion (LegKept legs) cs → SameLegs legs now →
      SameLegs legs (legs_changed cs now)
  legs-same [] now kept same = same
  legs-same (leg.Goes l ∷ cs) now kept same = absurd kept.0
  legs-same (leg.Put b ∷ cs) now kept same = legs-same cs (with_leg b now) kept.1 (put-same b now kept.0.1 same)

  -- and each is up
  pub legs-up : (cs : List LegChange) (now : List Leg) → AllByRecursion (LegKept legs) cs → LegsUp now →
      LegsUp (legs_changed cs now)
  legs-up [] now kept up = up
  legs-up (leg.Goes l ∷ cs) now kept up = absurd kept.0
  legs-up (leg.Put b ∷ cs) now kept up = legs-up cs (with_leg b now) kept.1 (all-with_leg IsUp b now kept.0.0 up)

-- The mesh

-- since the state was legs changed their phases alone, and nothing that is under way or waits does more
pub record MeshKept (was s : Mesh) : Type 0 where
  pub legs : (n : ℕ) → SameLegs (was.nodes n).legs (s.nodes n).legs
  pub up : (n : ℕ) → LegsUp (s.nodes n).legs
  pub mail : (u d : ℕ) → AllByRecursion MsgKept (s.mail u d)
  pub desks : (n : ℕ) → AllByRecursion ItemKept (s.desks n)

module _ (was : Mesh) where
  -- a node's answer
  pub commit-kept : (s : Mesh) (n : ℕ) (a : Answer) → Kept (s.nodes n).legs a → MeshKept was s →
      MeshKept was (commit s n a)
  commit-kept s n a kept old = record {
    legs = λ m. elim (nat_eq m n) as (λ b. nat_eq m n ≡ b →
        SameLegs (was.nodes m).legs (cond b (changed (s.nodes m) a) (s.nodes m)).legs) [
          | true ↦ λ e. (let at : m ≡ n = grind arith in
              let mine : AllByRecursion (LegKept (s.nodes m).legs) a.legs =
              subst (λ k. AllByRecursion (LegKept (s.nodes k).legs) a.legs) (sym at) kept.legs in
              λ l. legs-same (s.nodes m).legs a.legs (s.nodes m).legs mine (λ k. refl) l ∙ old.legs m l)
          | false ↦ λ e. old.legs m
        ] refl;
    up = λ m. elim (nat_eq m n) as (λ b. nat_eq m n ≡ b →
        LegsUp (cond b (changed (s.nodes m) a) (s.nodes m)).legs) [
          | true ↦ λ e. (let at : m ≡ n = grind arith in
              let mine : AllByRecursion (LegKept (s.nodes m).legs) a.legs =
              subst (λ k. AllByRecursion (LegKept (s.nodes k).legs) a.legs) (sym at) kept.legs in
              legs-up (s.nodes m).legs a.legs (s.nodes m).legs mine (old.up m))
          | false ↦ λ e. old.up m
        ] refl;
    mail = λ u d. if_cases (AllByRecursion MsgKept) (nat_eq u n) (s.mail u d ++ sent_to d a.sent) (s.mail u d)
        (λ e. All-append MsgKept (s.mail u d) _ (old.mail u d) (all-sent MsgKept d a.sent kept.sent))
        (λ e. old.mail u d);
    desks = old.desks;
  }

  -- a message that is taken
  pub taken-kept : (s : Mesh) (u d : ℕ) → MeshKept was s → MeshKept was (without_first s u d)
  taken-kept s u d old = record {
    legs = old.legs;
    up = old.up;
    mail = λ a b. if_cases (AllByRecursion MsgKept) (nat_eq a u && nat_eq b d) (drop 1 (s.mail a b))
        (s.mail a b) (λ e. all-drop MsgKept (s.mail a b) (old.mail a b)) (λ e. old.mail a b);
    desks = old.desks;
  }

  -- an item that is handled
  pub handled-kept : (s : Mesh) (n : ℕ) → MeshKept was s → MeshKept was (without_item s n)
  handled-kept s n old = record {
    legs = old.legs;
    up = old.up;
    mail = old.mail;
    desks = λ m. if_cases (AllByRecursion ItemKept) (nat_eq m n) (drop 1 (s.desks m)) (s.desks m)
        (λ e. all-drop ItemKept (s.desks m) (old.desks m)) (λ e. old.desks m);
  }

  news-kept : (cut : Bool) (f : Fibre) → ItemKept (news cut f)
  news-kept true f = tt
  news-kept false f = tt

  -- groups that fail or are repaired
  pub failed-kept : (t : Network) (s : Mesh) (later : List Group) → MeshKept was s →
      MeshKept was (with_failed t s later)
  failed-kept t s later old = record {
    legs = old.legs;
    up = old.up;
    mail = old.mail;
    desks = λ n. All-append ItemKept (s.desks n) (all_news t s.failed later n) (old.desks n)
        (all-told ItemKept news-kept s.failed later n t.links);
  }

  -- an order on a desk
  pub ordered-kept : (s : Mesh) (n : ℕ) (c : Command) → ItemKept (Order c) → MeshKept was s →
      MeshKept was (with_item s n (Order c))
  ordered-kept s n c kept old = record {
    legs = old.legs;
    up = old.up;
    mail = old.mail;
    desks = λ m. if_cases (AllByRecursion ItemKept) (nat_eq m n) (s.desks m ++ Order c ∷ []) (s.desks m)
        (λ e. All-append ItemKept (s.desks m) (Order c ∷ []) (old.desks m) (kept, tt)) (λ e. old.desks m);
  }
